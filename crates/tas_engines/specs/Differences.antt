-- What makes one list of inputs of another.
use Rattle.std.specs.Prelude.{◌≡◌, ◌≢◌, ℕ, ◌+◌, ◌-◌, ◌<◌, ◌≤◌, ◌==◌, if◌then◌else◌, List, [], ◌∷◌, ◌++◌, length, take, drop, slice_get, Some}
use Rattle.std.specs.List.{flat_map}
use Rattle.vcs_inputs.specs.declared.input.Input.{Input}
use Rattle.tas_movie.specs.Front.{IsCommonFront}
use Rattle.tas_movie.specs.Content.{MovieContent, most_inputs}
use Rattle.tas_movie.specs.Edit.{edited}
use Rattle.tas_movie.specs.Runs.{run_inputs, runs_of}
use Rattle.tas_movie.specs.declared.run.FrameRun.{FrameRun}
use Rattle.tas_language.specs.declared.change.Change.{Change}
use Rattle.tas_language.specs.declared.change.Change.TheVariants.{Insert, Replace, Delete}
use Rattle.tas_engines.specs.Changes.{edit_of, changed_by, AreAllowed, HaveNumbers}

-- n is the length of the longest list with which both end
pub record IsCommonEnd (a b : List Input) (n : ℕ) : Type 0 where
  pub within_a : n ≤ length a
  pub within_b : n ≤ length b
  pub same : drop (length a - n) a ≡ drop (length b - n) b
  pub longest : n < length a → n < length b → slice_get a (length a - 1 - n) ≢ slice_get b (length b - 1 - n)

-- how many inputs some changes take out, and how many they put in
unfoldable pub taken_out : List Change → ℕ
taken_out [] = 0
taken_out (Insert at count input ∷ changes) = taken_out changes
taken_out (Replace at count input ∷ changes) = count + taken_out changes
taken_out (Delete at count ∷ changes) = count + taken_out changes

unfoldable pub put_in : List Change → ℕ
put_in [] = 0
put_in (Insert at count input ∷ changes) = count + put_in changes
put_in (Replace at count input ∷ changes) = count + put_in changes
put_in (Delete at count ∷ changes) = put_in changes

-- the place at which a change begins, and the place after what it puts in
abbrev pub place_of : Change → ℕ
place_of (Insert at count input) = at
place_of (Replace at count input) = at
place_of (Delete at count) = at

abbrev pub end_of : Change → ℕ
end_of (Insert at count input) = at + count
end_of (Replace at count input) = at + count
end_of (Delete at count) = at

-- how many inputs a change is of
abbrev pub count_of : Change → ℕ
count_of (Insert at count input) = count
count_of (Replace at count input) = count
count_of (Delete at count) = count

-- a change may begin where another one ends: replacements follow replacements, insertions follow a deletion or insertions, and the
-- inputs are other ones, so that the two couldn't be one
abbrev pub MayTouch : Change → Change → Type 0
MayTouch (Replace at count input) (Replace next more other) = input ≢ other
MayTouch (Insert at count input) (Insert next more other) = input ≢ other
MayTouch (Delete at count) (Insert next more other) = Unit {0}
MayTouch _ _ = ⊥

-- a change follows another one, further on or right after it
pub record Follows (before after : Change) : Type 0 where
  pub later : end_of before ≤ place_of after
  pub touching : end_of before ≡ place_of after → MayTouch before after

-- changes go on from the beginning to the end, each of one input at least
unfoldable pub AreInOrder : List Change → Type 0
AreInOrder [] = Unit {0}
AreInOrder (change ∷ []) = 1 ≤ count_of change
AreInOrder (change ∷ next ∷ changes) = (1 ≤ count_of change) × Follows change next × AreInOrder (next ∷ changes)

-- how many inputs the insertions at the head of some changes put in from a place on, one right after the other
unfoldable pub put_in_from : ℕ → List Change → ℕ
put_in_from place [] = 0
put_in_from place (Insert at count input ∷ changes) = if place == at then count + put_in_from (at + count) changes else 0
put_in_from place (Replace at count input ∷ changes) = 0
put_in_from place (Delete at count ∷ changes) = 0

-- in the place of inputs that are taken out come more or fewer: where as many come, they are replaced
unfoldable pub DeletionsDiffer : List Change → Type 0
DeletionsDiffer [] = Unit {0}
DeletionsDiffer (Insert at count input ∷ changes) = DeletionsDiffer changes
DeletionsDiffer (Replace at count input ∷ changes) = DeletionsDiffer changes
DeletionsDiffer (Delete at count ∷ changes) = (put_in_from at changes ≢ count) × DeletionsDiffer changes

-- each of some changes begins at a place from `from` on, and ends before `to`
unfoldable pub AreWithin : ℕ → ℕ → List Change → Type 0
AreWithin from to [] = Unit {0}
AreWithin from to (change ∷ changes) = (from ≤ place_of change) × (end_of change < to) × AreWithin from to changes

-- how many inputs in a row may stay the same within a replacement
abbrev pub most_bridged : ℕ
most_bridged = 15

-- of the inputs from one place to before another one, each 16 in a row have one that isn't this input
abbrev pub BridgesFew : List Input → ℕ → ℕ → Input → Type 0
BridgesFew inputs from to input = (i : ℕ) → from ≤ i → i + most_bridged < to → (j : ℕ) × (i ≤ j) × (j ≤ i + most_bridged) × (slice_get inputs j ≢ Some input)

-- a replacement changes the first and the last of the inputs that it is written over, and between them no more than 15 in a row stay the same
abbrev pub ChangesItsEnds : MovieContent → Change → Type 0
ChangesItsEnds movie (Insert at count input) = Unit {0}
ChangesItsEnds movie (Replace at count input) = (slice_get movie.inputs at ≢ Some input) × (slice_get movie.inputs (at + count - 1) ≢ Some input) × BridgesFew movie.inputs at (at + count) input
ChangesItsEnds movie (Delete at count) = Unit {0}

-- each of some changes does, on what those before it made
unfoldable pub ChangeTheirEnds : MovieContent → List Change → Type 0
ChangeTheirEnds movie [] = Unit {0}
ChangeTheirEnds movie (change ∷ changes) = ChangesItsEnds movie change × ChangeTheirEnds (edited movie (edit_of change)) changes

-- how many frames some runs have
abbrev pub frames : List FrameRun → ℕ
frames runs = length (flat_map run_inputs runs)

-- how many runs in a row both lists have where a hunk ends
abbrev pub alike_runs : ℕ
alike_runs = 4

-- they are looked for where fewer runs of the two than this come before
abbrev pub reach : ℕ
reach = 512

-- from run i of the old ones and run j of the new ones on, four runs are the same. There is room to go on from there: a movie that has `made` frames before
-- these runs, and `left` old frames from them on, isn't too long when it has the new runs before that place and the old ones from it on
pub record GoOnAlike (old new : List FrameRun) (made left i j : ℕ) : Type 0 where
  pub old_within : i + alike_runs ≤ length old
  pub new_within : j + alike_runs ≤ length new
  pub same : take alike_runs (drop i old) ≡ take alike_runs (drop j new)
  pub room : made + frames (take j new) + (left - frames (take i old)) ≤ most_inputs

-- they don't, where fewer runs of the two than `reach` come before
abbrev pub AreApart : List FrameRun → List FrameRun → ℕ → ℕ → Type 0
AreApart old new made left = (i j : ℕ) → i + j < reach → GoOnAlike old new made left i j → ⊥

-- old runs go and new ones come, by some changes, and then some runs stay
pub record Hunk : Type 0 where
  pub out : List FrameRun
  pub into : List FrameRun
  pub changes : List Change
  pub stays : List FrameRun

-- the changes of a hunk before which the movie has `made` frames, and from which on `left` old ones: they are within it, and its old and new runs
-- have no four in a row in common
pub record IsHunk (made left : ℕ) (hunk : Hunk) : Type 0 where
  pub places : AreWithin made (made + frames hunk.into + 1) hunk.changes
  pub out : taken_out hunk.changes ≤ frames hunk.out
  pub into : put_in hunk.changes ≤ frames hunk.into
  pub apart : AreApart hunk.out hunk.into made left

-- hunks, one after the other: four runs or more stay between each and the next one
unfoldable pub AreHunks : ℕ → ℕ → List Hunk → Type 0
AreHunks made left [] = Unit {0}
AreHunks made left (hunk ∷ []) = IsHunk made left hunk
AreHunks made left (hunk ∷ next ∷ hunks) =
    IsHunk made left hunk × (alike_runs ≤ length hunk.stays) × AreHunks (made + frames (hunk.into ++ hunk.stays)) (left - frames (hunk.out ++ hunk.stays)) (next ∷ hunks)

-- the old runs, the new ones and the changes are those of hunks
pub record FallIntoHunks (made left : ℕ) (old new : List FrameRun) (changes : List Change) : Type 0 where
  pub hunks : List Hunk
  pub are : AreHunks made left hunks
  pub old_runs : old ≡ flat_map (λ hunk. hunk.out ++ hunk.stays) hunks
  pub new_runs : new ≡ flat_map (λ hunk. hunk.into ++ hunk.stays) hunks
  pub all : changes ≡ flat_map (λ hunk. hunk.changes) hunks

-- the inputs between the first ones and the last ones
abbrev pub middle : List Input → ℕ → ℕ → List Input
middle inputs front end = take (length inputs - end - front) (drop front inputs)

-- no more is taken out and put in than the inputs between the common beginning and the common end, and that in hunks
pub record IsBetween (old new : List Input) (changes : List Change) : Type 0 where
  pub front : ℕ
  pub end : ℕ
  pub common_front : IsCommonFront old new front
  pub common_end : IsCommonEnd (drop front old) (drop front new) end
  pub out : front + taken_out changes + end ≤ length old
  pub into : front + put_in changes + end ≤ length new
  pub places : AreWithin front (length new - end + 1) changes
  pub hunks : FallIntoHunks front (length old - front) (runs_of (middle old front end)) (runs_of (middle new front end)) changes

-- the changes make `new` of `old`, whatever the cartridge: each is allowed; they are in order, in hunks between the common beginning and the
-- common end, and none of them could be joined with the next one
pub record IsDifference (old new : List Input) (changes : List Change) : Type 0 where
  pub allowed : (cart : List ℕ) → AreAllowed (record { cart = cart; inputs = old }) changes
  pub made : (cart : List ℕ) → changed_by (record { cart = cart; inputs = old }) changes ≡ record { cart = cart; inputs = new }
  pub between : IsBetween old new changes
  pub order : AreInOrder changes
  pub deletions : DeletionsDiffer changes
  pub ends : (cart : List ℕ) → ChangeTheirEnds (record { cart = cart; inputs = old }) changes
  pub numbers : HaveNumbers changes
  pub none : old ≡ new → changes ≡ []
