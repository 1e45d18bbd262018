-- What the parts of `changes_between` add. These definitions name shapes of the code; Differences defines what a difference is.
use Rattle.std.specs.Prelude.{◌≡◌, ◌≢◌, ℕ, zero, suc, ◌+◌, ◌-◌, ◌<◌, ◌≤◌, ◌⊎◌, List, [], ◌∷◌, ◌++◌, length, take, drop, replicate, slice_index_or, Option, Some, None}
use Rattle.vcs_inputs.specs.Input.{no_input}
use Rattle.vcs_inputs.specs.declared.input.Input.{Input}
use Rattle.tas_movie.specs.Content.{MovieContent, most_inputs}
use Rattle.tas_movie.specs.declared.run.FrameRun.{FrameRun}
use Rattle.tas_language.specs.declared.change.Change.{Change}
use Rattle.tas_language.specs.declared.change.Change.TheVariants.{Insert, Replace, Delete}
use Rattle.tas_engines.specs.declared.anchors.Anchor.{Anchor}
use Rattle.tas_engines.specs.declared.comparing.Gap.{Gap}
use Rattle.tas_engines.specs.declared.alike.Lengths.{Lengths}
use Rattle.tas_engines.specs.declared.stages.Stage.{Stage}
use Rattle.tas_engines.specs.declared.stages.Step.{Step}
use Rattle.tas_engines.specs.Changes.{changed_by, AreAllowed, HaveNumbers}
use Rattle.tas_engines.specs.Differences.{taken_out, put_in, AreWithin, AreInOrder, DeletionsDiffer, ChangeTheirEnds, most_bridged, frames, alike_runs, GoOnAlike, AreApart}

-- the movie that has the first b of the new inputs, and after them the old ones from a on
abbrev pub halfway : List ℕ → List Input → List Input → ℕ → ℕ → MovieContent
halfway cart old new a b = record { cart = cart; inputs = take b new ++ drop a old }

-- the changes lead from one movie halfway to another one; they end before the place `to`
pub record Leads (old new : List Input) (a b a' b' to : ℕ) (changes : List Change) : Type 0 where
  pub old_forward : a ≤ a'
  pub new_forward : b ≤ b'
  pub allowed : (cart : List ℕ) → AreAllowed (halfway cart old new a b) changes
  pub made : (cart : List ℕ) → changed_by (halfway cart old new a b) changes ≡ halfway cart old new a' b'
  pub out : a + taken_out changes ≤ a'
  pub into : b + put_in changes ≤ b'
  pub within : AreWithin b to changes
  pub order : AreInOrder changes
  pub deletions : DeletionsDiffer changes
  pub ends : (cart : List ℕ) → ChangeTheirEnds (halfway cart old new a b) changes
  pub numbers : HaveNumbers changes

-- the gap is within these lists, which are no longer than a movie may be; nor is the movie that has the new inputs up to the gap's end
pub record IsGapOf (old new : List Input) (gap : Gap) : Type 0 where
  pub old_forward : gap.old ≤ gap.old_end
  pub old_within : gap.old_end ≤ length old
  pub new_forward : gap.new ≤ gap.new_end
  pub new_within : gap.new_end ≤ length new
  pub short : length old ≤ most_inputs
  pub short_new : length new ≤ most_inputs
  pub room : gap.new_end + (length old - gap.old_end) ≤ most_inputs

-- after changes come others, which lead over the gap
abbrev pub AddsHunk : (old new : List Input) (gap : Gap) (before after : List Change) → Type 0
AddsHunk old new gap before after = (changes : List Change) × (after ≡ before ++ changes) × Leads old new gap.old gap.new gap.old_end gap.new_end (gap.new_end + 1) changes

-- after changes come others, which lead to a later beginning of the gap, and end before it
pub record GoesOn (old new : List Input) (gap next : Gap) (before after : List Change) : Type 0 where
  pub changes : List Change
  pub is : after ≡ before ++ changes
  pub leads : Leads old new gap.old gap.new next.old next.new next.new changes
  pub old_end : next.old_end ≡ gap.old_end
  pub new_end : next.new_end ≡ gap.new_end
  pub old_forward : next.old ≤ gap.old_end
  pub new_forward : next.new ≤ gap.new_end

-- n inputs from an anchor on are the same, within the gap; the movie that has the new inputs up to the anchor isn't too long
pub record IsCommonFrom (old new : List Input) (gap : Gap) (anchor : Anchor) (n : ℕ) : Type 0 where
  pub old_begins : gap.old ≤ anchor.old
  pub old_ends : anchor.old + n ≤ gap.old_end
  pub new_begins : gap.new ≤ anchor.new
  pub new_ends : anchor.new + n ≤ gap.new_end
  pub same : take n (drop anchor.old old) ≡ take n (drop anchor.new new)
  pub room : anchor.new + (length old - anchor.old) ≤ most_inputs

-- of n old inputs from a place on, each 16 in a row have one that isn't this input
abbrev pub IsBridged : List Input → ℕ → ℕ → Input → Type 0
IsBridged old from n input = (i : ℕ) → i + most_bridged < n → (j : ℕ) × (i ≤ j) × (j ≤ i + most_bridged) × (slice_index_or old (from + j) no_input ≢ input)

-- n of the new inputs are this one; the last of the old ones there is another one, and so is one of each 16 of them; the next one isn't changed by it
pub record IsReplacedRun (old new : List Input) (input : Input) (n : ℕ) : Type 0 where
  pub within : n ≤ length new
  pub same : take n new ≡ replicate n input
  pub last : 0 < n → slice_index_or old (n - 1) no_input ≢ input
  pub bridged : (i : ℕ) → i + most_bridged < n → (j : ℕ) × (i ≤ j) × (j ≤ i + most_bridged) × (slice_index_or old j no_input ≢ input)
  pub longest : n < length new → slice_index_or new n no_input ≡ input → slice_index_or old n no_input ≡ input

-- the first n inputs are done: one that stays, or those of a replacement, which is added
abbrev pub AddsReplacement : (old new : List Input) (at n : ℕ) (before after : List Change) → Type 0
AddsReplacement old new at n before after =
    ((n ≡ 1) × (after ≡ before) × (slice_index_or old 0 no_input ≡ slice_index_or new 0 no_input))
    ⊎ ((after ≡ before ++ Replace at n (slice_index_or new 0 no_input) ∷ []) × (slice_index_or old 0 no_input ≢ slice_index_or new 0 no_input)
    × IsReplacedRun old new (slice_index_or new 0 no_input) n)

-- the deletion of this many inputs, if there are any
abbrev pub deletion : ℕ → ℕ → List Change
deletion at zero = []
deletion at (suc n) = Delete at (suc n) ∷ []

-- the insertions of runs, one right after the other
abbrev pub insertions : ℕ → List FrameRun → List Change
insertions at [] = []
insertions at (run ∷ runs) = Insert at run.count run.input ∷ insertions (at + run.count) runs

-- n is the length of the longest list with which both begin
pub record IsLongestFront (old new : List FrameRun) (n : ℕ) : Type 0 where
  pub within_old : n ≤ length old
  pub within_new : n ≤ length new
  pub same : take n old ≡ take n new
  pub longest : (m : ℕ) → m ≤ length old → m ≤ length new → take m old ≡ take m new → m ≤ n

-- the frames of the old runs are left, and the movie isn't too long with them, nor with the new ones
pub record HasRoom (old new : List FrameRun) (lengths : Lengths) : Type 0 where
  pub old_left : frames old ≤ lengths.left
  pub left_bound : lengths.left ≤ most_inputs
  pub made_bound : lengths.made + frames new ≤ most_inputs

-- a place at this distance at which they go on alike
abbrev pub IsAt : List FrameRun → List FrameRun → Lengths → ℕ → Option Anchor → Type 0
IsAt old new lengths distance (Some at) = GoOnAlike old new lengths.made lengths.left at.old at.new × (at.old + at.new ≡ distance)
IsAt old new lengths distance None = (i j : ℕ) → i + j ≡ distance → GoOnAlike old new lengths.made lengths.left i j → ⊥

-- the nearest one
abbrev pub IsNearest : List FrameRun → List FrameRun → Lengths → Option Anchor → Type 0
IsNearest old new lengths (Some at) = GoOnAlike old new lengths.made lengths.left at.old at.new × ((i j : ℕ) → i + j < at.old + at.new → GoOnAlike old new lengths.made lengths.left i j → ⊥)
IsNearest old new lengths None = AreApart old new lengths.made lengths.left

-- one before which they are apart
abbrev pub IsNext : List FrameRun → List FrameRun → Lengths → Option Anchor → Type 0
IsNext old new lengths (Some at) = GoOnAlike old new lengths.made lengths.left at.old at.new × AreApart (take at.old old) (take at.new new) lengths.made lengths.left
IsNext old new lengths None = AreApart old new lengths.made lengths.left

-- where a hunk ends before `out` and `into`, runs that are left, and after it `stays` stay
pub record IsStep (old new : List FrameRun) (len : ℕ) (stage : Stage) (step : Step) : Type 0 where
  pub out : List FrameRun
  pub into : List FrameRun
  pub stays : List FrameRun
  pub old_rest : List FrameRun
  pub new_rest : List FrameRun
  pub old_is : old ≡ out ++ stays ++ old_rest
  pub new_is : new ≡ into ++ stays ++ new_rest
  pub many : alike_runs ≤ length stays
  pub apart : AreApart out into stage.gap.new (len - stage.gap.old)
  pub room : stage.gap.new + frames into + (len - stage.gap.old - frames out) ≤ most_inputs
  pub hunk : step.hunk ≡ record { old = stage.gap.old; old_end = stage.gap.old + frames out; new = stage.gap.new; new_end = stage.gap.new + frames into }
  pub after_old : step.after.runs.old ≡ stage.runs.old + length out + length stays
  pub after_new : step.after.runs.new ≡ stage.runs.new + length into + length stays
  pub after_gap : step.after.gap ≡ record { old = stage.gap.old + frames out + frames stays; old_end = stage.gap.old_end; new = stage.gap.new + frames into + frames stays; new_end = stage.gap.new_end }

abbrev pub lengths_at : ℕ → Stage → Lengths
lengths_at len stage = record { made = stage.gap.new; left = len - stage.gap.old }

abbrev pub IsNextStep : List FrameRun → List FrameRun → ℕ → Stage → Option Step → Type 0
IsNextStep old new len stage (Some step) = IsStep old new len stage step
IsNextStep old new len stage None = AreApart old new stage.gap.new (len - stage.gap.old)
