-- The hunks of a difference, one after the other.
use Rattle.std.proofs.Common.{◌≡◌, ℕ, ◌+◌, ◌-◌, ◌≤◌, List, [], ◌∷◌, ◌++◌, length, take, drop, Option, refl, sym, ap, subst, ◌∙◌, arith, append_assoc}
use Rattle.std.specs.List.{flat_map}
use Rattle.std.proofs.lemmas.List.{length-append, length-drop, length-take-le, append-nil, flat_map_more, take_rest}
use Rattle.vcs_inputs.specs.declared.input.Input.{Input}
use Rattle.tas_movie.specs.Content.{most_inputs}
use Rattle.tas_movie.specs.Runs.{run_inputs, runs_of, AreLongest}
use Rattle.tas_movie.specs.declared.run.FrameRun.{FrameRun}
use Rattle.tas_movie.specs.Front.{IsCommonFront}
use Rattle.tas_movie.proofs.RunLemmas.{runs_made, runs_longest, length-runs}
use Rattle.tas_language.specs.declared.change.Change.{Change}
use Rattle.tas_engines.specs.Differences.{IsCommonEnd, frames, AreApart, Hunk, IsHunk, AreHunks, middle, IsDifference}
use Rattle.tas_engines.specs.declared.comparing.Gap.{Gap}
use Rattle.tas_engines.specs.declared.stages.Stage.{Stage}
use Rattle.tas_engines.specs.declared.stages.Step.{Step}
use Rattle.tas_engines.specs.Hunks.{IsGapOf, AddsHunk, GoesOn, HasRoom, IsStep, lengths_at, IsNextStep}
use Rattle.tas_engines.proofs.HunkLemmas.{led_same, led_within}
use Rattle.tas_engines.proofs.DifferenceLemmas.{Reached, reached_next, reached_last}
use Rattle.tas_engines.proofs.RunLemmas.{frames_join, dropped, inputs_at}

-- ---- hunks

abbrev pub outs : Hunk → List FrameRun
outs hunk = hunk.out ++ hunk.stays

abbrev pub intos : Hunk → List FrameRun
intos hunk = hunk.into ++ hunk.stays

abbrev pub changes_of : Hunk → List Change
changes_of hunk = hunk.changes

moved : (made made' left left' : ℕ) (hunk : Hunk) → made ≡ made' → left ≡ left' → IsHunk made left hunk → IsHunk made' left' hunk
moved made made' left left' hunk e e' h = subst (λ (k : ℕ). IsHunk made' k hunk) e' (subst (λ (k : ℕ). IsHunk k left hunk) e h)

-- hunks, after each of which four runs or more stay
unfoldable pub Done : ℕ → ℕ → List Hunk → Type 0
Done made left [] = Unit {0}
Done made left (hunk ∷ hunks) = IsHunk made left hunk × (4 ≤ length hunk.stays) × Done (made + frames (intos hunk)) (left - frames (outs hunk)) hunks

shifted : (made left : ℕ) (g h : Hunk) (hunks : List Hunk) → IsHunk (made + frames (flat_map intos (g ∷ hunks))) (left - frames (flat_map outs (g ∷ hunks))) h
    → IsHunk (made + frames (intos g) + frames (flat_map intos hunks)) (left - frames (outs g) - frames (flat_map outs hunks)) h
shifted made left g h hunks is =
    moved (made + frames (flat_map intos (g ∷ hunks))) (made + frames (intos g) + frames (flat_map intos hunks)) (left - frames (flat_map outs (g ∷ hunks))) (left - frames (outs g) - frames (flat_map outs hunks)) h
    (omega (arith, frames_join (intos g) (flat_map intos hunks))) (omega (arith, frames_join (outs g) (flat_map outs hunks))) is

at_first : (made left : ℕ) (h : Hunk) → IsHunk (made + frames (flat_map intos [])) (left - frames (flat_map outs [])) h → IsHunk made left h
at_first made left h is = moved (made + frames (flat_map intos [])) made (left - frames (flat_map outs [])) left h (omega arith) (omega arith) is

done_more : (made left : ℕ) (hunks : List Hunk) (h : Hunk) → Done made left hunks → IsHunk (made + frames (flat_map intos hunks)) (left - frames (flat_map outs hunks)) h → 4 ≤ length h.stays
    → Done made left (hunks ++ h ∷ [])
unfolding Done
done_more made left [] h d is many = (at_first made left h is, many, tt)
done_more made left (g ∷ hunks) h d is many = (d.0, d.1, done_more (made + frames (intos g)) (left - frames (outs g)) hunks h d.2 (shifted made left g h hunks is) many)

done_last : (made left : ℕ) (hunks : List Hunk) (h : Hunk) → Done made left hunks → IsHunk (made + frames (flat_map intos hunks)) (left - frames (flat_map outs hunks)) h → AreHunks made left (hunks ++ h ∷ [])
unfolding Done AreHunks
done_last made left [] h d is = at_first made left h is
done_last made left (g ∷ []) h d is = (d.0, d.1, done_last (made + frames (intos g)) (left - frames (outs g)) [] h d.2 (shifted made left g h [] is))
done_last made left (g ∷ f ∷ hunks) h d is = (d.0, d.1, done_last (made + frames (intos g)) (left - frames (outs g)) (f ∷ hunks) h d.2 (shifted made left g h (f ∷ hunks) is))

-- ---- where a difference has come

-- the runs of both middles
pub record AreRuns (old new : List Input) (front end : ℕ) (old_runs new_runs : List FrameRun) : Type 0 where
  pub old_are : old_runs ≡ runs_of (middle old front end)
  pub new_are : new_runs ≡ runs_of (middle new front end)

-- hunks are done, up to the runs and the inputs of a stage
pub record Walked (old new : List Input) (front end : ℕ) (old_runs new_runs : List FrameRun) (stage : Stage) (changes : List Change) : Type 0 where
  pub hunks : List Hunk
  pub done : Done front (length old - front) hunks
  pub old_is : old_runs ≡ flat_map outs hunks ++ drop stage.runs.old old_runs
  pub new_is : new_runs ≡ flat_map intos hunks ++ drop stage.runs.new new_runs
  pub old_count : length (flat_map outs hunks) ≡ stage.runs.old
  pub new_count : length (flat_map intos hunks) ≡ stage.runs.new
  pub all : changes ≡ flat_map changes_of hunks
  pub old_at : stage.gap.old ≡ front + frames (flat_map outs hunks)
  pub new_at : stage.gap.new ≡ front + frames (flat_map intos hunks)
  pub reached : Reached old new front end stage.gap changes

pub walked_first : (old new : List Input) (front end : ℕ) (old_runs new_runs : List FrameRun) (gap : Gap) → gap.old ≡ front → gap.new ≡ front → Reached old new front end gap []
    → Walked old new front end old_runs new_runs (record { runs = record { old = 0; new = 0 }; gap = gap }) []
unfolding Done
walked_first old new front end old_runs new_runs gap at at' r = record {
  hunks = [];
  done = tt;
  old_is = refl;
  new_is = refl;
  old_count = refl;
  new_count = refl;
  all = refl;
  old_at = omega (arith, at);
  new_at = omega (arith, at');
  reached = r;
}

-- ---- the frames that are left

length-middle : (inputs : List Input) (front end size : ℕ) → size ≡ length inputs - end → front ≤ size → length (middle inputs front end) ≡ size - front
length-middle inputs front end size is le =
    let cut : length inputs - end - front ≡ size - front = omega (arith, is) in
    length-take-le (length inputs - end - front) (drop front inputs) (omega (arith, length-drop front inputs)) ∙ cut

frames-middle : (inputs : List Input) (front end size : ℕ) (runs : List FrameRun) → runs ≡ runs_of (middle inputs front end) → size ≡ length inputs - end → front ≤ size → frames runs ≡ size - front
frames-middle inputs front end size runs are is le =
    ap frames are ∙ ap length (runs_made (middle inputs front end)) ∙ length-middle inputs front end size is le

pub record Left (stage : Stage) (old_runs new_runs : List FrameRun) : Type 0 where
  pub old_left : stage.gap.old + frames (drop stage.runs.old old_runs) ≡ stage.gap.old_end
  pub new_left : stage.gap.new + frames (drop stage.runs.new new_runs) ≡ stage.gap.new_end

pub left_of : (old new : List Input) (front end : ℕ) (old_runs new_runs : List FrameRun) (stage : Stage) (changes : List Change) → AreRuns old new front end old_runs new_runs
    → Walked old new front end old_runs new_runs stage changes → Left stage old_runs new_runs
left_of old new front end old_runs new_runs stage changes runs w =
    let is_gap = w.reached.gap_of in
    let old_all = frames-middle old front end stage.gap.old_end old_runs runs.old_are w.reached.old_end (omega (arith, w.old_at, is_gap.old_forward)) in
    let new_all = frames-middle new front end stage.gap.new_end new_runs runs.new_are w.reached.new_end (omega (arith, w.new_at, is_gap.new_forward)) in
    let old_sum = ap frames w.old_is ∙ frames_join (flat_map outs w.hunks) (drop stage.runs.old old_runs) in
    let new_sum = ap frames w.new_is ∙ frames_join (flat_map intos w.hunks) (drop stage.runs.new new_runs) in
    record {
      old_left = omega (arith, w.old_at, is_gap.old_forward, old_all, old_sum);
      new_left = omega (arith, w.new_at, is_gap.new_forward, new_all, new_sum);
    }

-- ---- a step

abbrev pub hunk_gap : Stage → List FrameRun → List FrameRun → Gap
hunk_gap stage out into = record { old = stage.gap.old; old_end = stage.gap.old + frames out; new = stage.gap.new; new_end = stage.gap.new + frames into }

three_frames : (xs ys zs : List FrameRun) → frames (xs ++ ys ++ zs) ≡ frames xs + frames ys + frames zs
three_frames xs ys zs = omega (arith, frames_join (xs ++ ys) zs, frames_join xs ys)

-- the hunk of a step is a gap
pub step_gap : (old new : List Input) (front end : ℕ) (old_runs new_runs : List FrameRun) (stage : Stage) (step : Step) (changes : List Change) → AreRuns old new front end old_runs new_runs
    → Walked old new front end old_runs new_runs stage changes → IsStep (drop stage.runs.old old_runs) (drop stage.runs.new new_runs) (length old) stage step → IsGapOf old new step.hunk
step_gap old new front end old_runs new_runs stage step changes runs w s =
    let g = w.reached.gap_of in
    let left = left_of old new front end old_runs new_runs stage changes runs w in
    let old_parts = ap frames s.old_is ∙ three_frames s.out s.stays s.old_rest in
    let new_parts = ap frames s.new_is ∙ three_frames s.into s.stays s.new_rest in
    subst (IsGapOf old new) (sym s.hunk) (record {
      old_forward = omega arith;
      old_within = omega (arith, left.old_left, old_parts, g.old_within);
      new_forward = omega arith;
      new_within = omega (arith, left.new_left, new_parts, g.new_within);
      short = g.short;
      short_new = g.short_new;
      room = omega (arith, s.room);
    })

-- the runs that are done with those of one hunk more, and the rest
rest_more : (runs done out stays rest : List FrameRun) (n k : ℕ) → runs ≡ done ++ drop n runs → drop n runs ≡ out ++ stays ++ rest → length done ≡ n → k ≡ n + length out + length stays
    → runs ≡ (done ++ (out ++ stays)) ++ drop k runs
rest_more runs done out stays rest n k is parts len to =
    let whole : runs ≡ (done ++ (out ++ stays)) ++ rest =
    is ∙ ap (λ (l : List FrameRun). done ++ l) parts ∙ sym (append_assoc done (out ++ stays) rest) in
    let many : length (done ++ (out ++ stays)) ≡ k = omega (arith, length-append done (out ++ stays), length-append out stays, len, to) in
    whole ∙ ap (λ (l : List FrameRun). (done ++ (out ++ stays)) ++ l) (sym (dropped k runs (done ++ (out ++ stays)) rest whole many))

-- the frames of the runs that stay after a hunk
stay_at : (inputs : List Input) (front end at : ℕ) (runs done out stays rest : List FrameRun) (n : ℕ) → runs ≡ runs_of (middle inputs front end) → runs ≡ done ++ drop n runs → drop n runs ≡ out ++ stays ++ rest
    → at ≡ front + frames done → take (frames stays) (drop (at + frames out) inputs) ≡ flat_map run_inputs stays
stay_at inputs front end at runs done out stays rest n are is parts place =
    let whole : done ++ out ++ stays ++ rest ≡ runs =
    ap (λ (l : List FrameRun). l ++ rest) (append_assoc done out stays) ∙ append_assoc done (out ++ stays) rest ∙ sym (is ∙ ap (λ (l : List FrameRun). done ++ l) parts) in
    let there : front + frames (done ++ out) ≡ at + frames out = omega (arith, place, frames_join done out) in
    subst (λ (k : ℕ). take (frames stays) (drop k inputs) ≡ flat_map run_inputs stays) there
    (inputs_at inputs front (length inputs - end - front) (done ++ out) stays rest (ap (flat_map run_inputs) (whole ∙ are) ∙ runs_made (middle inputs front end)))

rest_longest : (xs ys : List FrameRun) → AreLongest (xs ++ ys) → AreLongest ys
unfolding AreLongest
rest_longest [] ys h = h
rest_longest (x ∷ xs) ys h = rest_longest xs ys h.2

some_frames : (ys zs : List FrameRun) → AreLongest (ys ++ zs) → 4 ≤ length ys → 1 ≤ frames ys
unfolding AreLongest
some_frames [] zs h many = absurd (omega (arith, many))
some_frames (y ∷ ys) zs h many = let some = h.0 in omega (arith, some, length-runs y ys)

some_stay : (inputs : List Input) (front end : ℕ) (runs done out stays rest : List FrameRun) (n : ℕ) → runs ≡ runs_of (middle inputs front end) → runs ≡ done ++ drop n runs → drop n runs ≡ out ++ stays ++ rest
    → 4 ≤ length stays → 1 ≤ frames stays
some_stay inputs front end runs done out stays rest n are is parts many =
    let whole : runs ≡ (done ++ out) ++ (stays ++ rest) =
    is ∙ ap (λ (l : List FrameRun). done ++ l) (parts ∙ append_assoc out stays rest) ∙ sym (append_assoc done out (stays ++ rest)) in
    let longest : AreLongest runs = subst AreLongest (sym are) (runs_longest (middle inputs front end)) in
    some_frames stays rest (rest_longest (done ++ out) (stays ++ rest) (subst AreLongest whole longest)) many

-- a hunk of a step and the runs that stay after it lead to its end
step_goes : (old new : List Input) (front end : ℕ) (old_runs new_runs : List FrameRun) (stage : Stage) (step : Step) (before after : List Change) → AreRuns old new front end old_runs new_runs
    → (w : Walked old new front end old_runs new_runs stage before) → (s : IsStep (drop stage.runs.old old_runs) (drop stage.runs.new new_runs) (length old) stage step)
    → AddsHunk old new (hunk_gap stage s.out s.into) before after → GoesOn old new stage.gap step.after.gap before after
step_goes old new front end old_runs new_runs stage step before after runs w s h =
    let left = left_of old new front end old_runs new_runs stage before runs w in
    let old_parts = ap frames s.old_is ∙ three_frames s.out s.stays s.old_rest in
    let new_parts = ap frames s.new_is ∙ three_frames s.into s.stays s.new_rest in
    let some = some_stay old front end old_runs (flat_map outs w.hunks) s.out s.stays s.old_rest stage.runs.old runs.old_are w.old_is s.old_is s.many in
    let same = stay_at old front end stage.gap.old old_runs (flat_map outs w.hunks) s.out s.stays s.old_rest stage.runs.old runs.old_are w.old_is s.old_is w.old_at
    ∙ sym (stay_at new front end stage.gap.new new_runs (flat_map intos w.hunks) s.into s.stays s.new_rest stage.runs.new runs.new_are w.new_is s.new_is w.new_at) in
    let a = stage.gap.old + frames s.out in
    let b = stage.gap.new + frames s.into in
    subst (λ (next : Gap). GoesOn old new stage.gap next before after) (sym s.after_gap) (record {
      changes = h.0;
      is = h.1;
      leads = led_within old new stage.gap.old stage.gap.new (a + frames s.stays) (b + frames s.stays) (b + 1) (b + frames s.stays) h.0
          (led_same old new stage.gap.old stage.gap.new a b (frames s.stays) (b + 1) h.0 h.2 same) (omega (arith, some));
      old_end = refl;
      new_end = refl;
      old_forward = omega (arith, left.old_left, old_parts);
      new_forward = omega (arith, left.new_left, new_parts);
    })

-- the changes of a gap are a hunk
is_hunk : (old new : List Input) (stage : Stage) (out into stays : List FrameRun) (before after : List Change) (h : AddsHunk old new (hunk_gap stage out into) before after)
    → AreApart out into stage.gap.new (length old - stage.gap.old) → IsHunk stage.gap.new (length old - stage.gap.old) (record { out = out; into = into; changes = h.0; stays = stays })
is_hunk old new stage out into stays before after h apart =
    record { places = h.2.within; out = omega (arith, h.2.out); into = omega (arith, h.2.into); apart = apart }

-- a hunk at the stage at which a difference has come
hunk_at : (old new : List Input) (front end : ℕ) (old_runs new_runs : List FrameRun) (stage : Stage) (before : List Change) (w : Walked old new front end old_runs new_runs stage before) (hunk : Hunk)
    → IsHunk stage.gap.new (length old - stage.gap.old) hunk → IsHunk (front + frames (flat_map intos w.hunks)) (length old - front - frames (flat_map outs w.hunks)) hunk
hunk_at old new front end old_runs new_runs stage before w hunk is =
    moved stage.gap.new (front + frames (flat_map intos w.hunks)) (length old - stage.gap.old) (length old - front - frames (flat_map outs w.hunks)) hunk w.new_at (omega (arith, w.old_at)) is

pub walked_on : (old new : List Input) (front end : ℕ) (old_runs new_runs : List FrameRun) (stage : Stage) (step : Step) (before after : List Change) → AreRuns old new front end old_runs new_runs
    → Walked old new front end old_runs new_runs stage before → IsStep (drop stage.runs.old old_runs) (drop stage.runs.new new_runs) (length old) stage step
    → AddsHunk old new step.hunk before after → Walked old new front end old_runs new_runs step.after after
walked_on old new front end old_runs new_runs stage step before after runs w s added =
    let h : AddsHunk old new (hunk_gap stage s.out s.into) before after = subst (λ (gap : Gap). AddsHunk old new gap before after) s.hunk added in
    let hunk : Hunk = record { out = s.out; into = s.into; changes = h.0; stays = s.stays } in
    let old_more : flat_map outs w.hunks ++ outs hunk ≡ flat_map outs (w.hunks ++ hunk ∷ []) = flat_map_more outs [] w.hunks hunk in
    let new_more : flat_map intos w.hunks ++ intos hunk ≡ flat_map intos (w.hunks ++ hunk ∷ []) = flat_map_more intos [] w.hunks hunk in
    let all_more : flat_map changes_of w.hunks ++ changes_of hunk ≡ flat_map changes_of (w.hunks ++ hunk ∷ []) = flat_map_more changes_of [] w.hunks hunk in
    let old_frames = sym (ap frames old_more) ∙ frames_join (flat_map outs w.hunks) (outs hunk) in
    let new_frames = sym (ap frames new_more) ∙ frames_join (flat_map intos w.hunks) (intos hunk) in
    record {
      hunks = w.hunks ++ hunk ∷ [];
      done = done_more front (length old - front) w.hunks hunk w.done (hunk_at old new front end old_runs new_runs stage before w hunk (is_hunk old new stage s.out s.into s.stays before after h s.apart)) s.many;
      old_is = subst (λ (l : List FrameRun). old_runs ≡ l ++ drop step.after.runs.old old_runs) old_more
          (rest_more old_runs (flat_map outs w.hunks) s.out s.stays s.old_rest stage.runs.old step.after.runs.old w.old_is s.old_is w.old_count s.after_old);
      new_is = subst (λ (l : List FrameRun). new_runs ≡ l ++ drop step.after.runs.new new_runs) new_more
          (rest_more new_runs (flat_map intos w.hunks) s.into s.stays s.new_rest stage.runs.new step.after.runs.new w.new_is s.new_is w.new_count s.after_new);
      old_count = sym (ap length old_more) ∙ length-append (flat_map outs w.hunks) (outs hunk) ∙ omega (arith, w.old_count, s.after_old, length-append s.out s.stays);
      new_count = sym (ap length new_more) ∙ length-append (flat_map intos w.hunks) (intos hunk) ∙ omega (arith, w.new_count, s.after_new, length-append s.into s.stays);
      all = h.1 ∙ ap (λ (l : List Change). l ++ h.0) w.all ∙ all_more;
      old_at = ap (λ (gap : Gap). gap.old) s.after_gap ∙ omega (arith, w.old_at, old_frames, frames_join s.out s.stays);
      new_at = ap (λ (gap : Gap). gap.new) s.after_gap ∙ omega (arith, w.new_at, new_frames, frames_join s.into s.stays);
      reached = reached_next old new front end stage.gap step.after.gap before after w.reached (step_goes old new front end old_runs new_runs stage step before after runs w s h);
    }

-- ---- what the next step asks for

many_frames : (runs : List FrameRun) → AreLongest runs → length runs ≤ frames runs
unfolding AreLongest
many_frames [] h = omega arith
many_frames (r ∷ runs) h = let some = h.0 in omega (arith, some, many_frames runs h.2, length-runs r runs)

few_runs : (inputs : List Input) (front end size : ℕ) (runs : List FrameRun) → runs ≡ runs_of (middle inputs front end) → size ≡ length inputs - end → front ≤ size → length runs ≤ size - front
few_runs inputs front end size runs are is le =
    let longest : AreLongest runs = subst AreLongest (sym are) (runs_longest (middle inputs front end)) in
    omega (arith, many_frames runs longest, frames-middle inputs front end size runs are is le)

begun : (runs done : List FrameRun) (n : ℕ) → runs ≡ done ++ drop n runs → length done ≡ n → n ≤ length runs
begun runs done n is len = omega (arith, len, ap length is, length-append done (drop n runs))

-- what a call of `next_step` asks for
pub record MayStep (old new : List Input) (old_runs new_runs : List FrameRun) (stage : Stage) : Type 0 where
  pub old_begun : stage.runs.old ≤ length old_runs
  pub new_begun : stage.runs.new ≤ length new_runs
  pub old_few : length old_runs ≤ most_inputs
  pub new_few : length new_runs ≤ most_inputs
  pub gap_old : stage.gap.old ≤ length old
  pub room : HasRoom (take (length old_runs - stage.runs.old) (drop stage.runs.old old_runs)) (take (length new_runs - stage.runs.new) (drop stage.runs.new new_runs)) (lengths_at (length old) stage)

pub may_step : (old new : List Input) (front end : ℕ) (old_runs new_runs : List FrameRun) (stage : Stage) (changes : List Change) → AreRuns old new front end old_runs new_runs
    → Walked old new front end old_runs new_runs stage changes → MayStep old new old_runs new_runs stage
may_step old new front end old_runs new_runs stage changes runs w =
    let g = w.reached.gap_of in
    let left = left_of old new front end old_runs new_runs stage changes runs w in
    let old_few = few_runs old front end stage.gap.old_end old_runs runs.old_are w.reached.old_end (omega (arith, w.old_at, g.old_forward)) in
    let new_few = few_runs new front end stage.gap.new_end new_runs runs.new_are w.reached.new_end (omega (arith, w.new_at, g.new_forward)) in
    record {
      old_begun = begun old_runs (flat_map outs w.hunks) stage.runs.old w.old_is w.old_count;
      new_begun = begun new_runs (flat_map intos w.hunks) stage.runs.new w.new_is w.new_count;
      old_few = omega (arith, old_few, g.old_within, g.short);
      new_few = omega (arith, new_few, g.new_within, g.short_new);
      gap_old = omega (arith, g.old_forward, g.old_within);
      room = subst (λ (l : List FrameRun). HasRoom l (take (length new_runs - stage.runs.new) (drop stage.runs.new new_runs)) (lengths_at (length old) stage)) (sym (take_rest old_runs stage.runs.old))
          (subst (λ (l : List FrameRun). HasRoom (drop stage.runs.old old_runs) l (lengths_at (length old) stage)) (sym (take_rest new_runs stage.runs.new)) (record {
            old_left = omega (arith, left.old_left, g.old_within);
            left_bound = omega (arith, g.short);
            made_bound = omega (arith, left.new_left, g.new_within, g.short_new);
          }));
    }

-- the runs that are left, as slices
pub plain_step : (old_runs new_runs : List FrameRun) (len : ℕ) (stage : Stage) (found : Option Step)
    → IsNextStep (take (length old_runs - stage.runs.old) (drop stage.runs.old old_runs)) (take (length new_runs - stage.runs.new) (drop stage.runs.new new_runs)) len stage found
    → IsNextStep (drop stage.runs.old old_runs) (drop stage.runs.new new_runs) len stage found
plain_step old_runs new_runs len stage found h =
    subst (λ (l : List FrameRun). IsNextStep l (drop stage.runs.new new_runs) len stage found) (take_rest old_runs stage.runs.old)
    (subst (λ (l : List FrameRun). IsNextStep (take (length old_runs - stage.runs.old) (drop stage.runs.old old_runs)) l len stage found) (take_rest new_runs stage.runs.new) h)

-- ---- the last hunk

pub walked_last : (old new : List Input) (front end : ℕ) (old_runs new_runs : List FrameRun) (stage : Stage) (before after : List Change) → AreRuns old new front end old_runs new_runs
    → IsCommonFront old new front → IsCommonEnd (drop front old) (drop front new) end → Walked old new front end old_runs new_runs stage before
    → AreApart (drop stage.runs.old old_runs) (drop stage.runs.new new_runs) stage.gap.new (length old - stage.gap.old)
    → AddsHunk old new stage.gap before after → IsDifference old new after
walked_last old new front end old_runs new_runs stage before after runs common ends w apart added =
    let out : List FrameRun = drop stage.runs.old old_runs in
    let into : List FrameRun = drop stage.runs.new new_runs in
    let left = left_of old new front end old_runs new_runs stage before runs w in
    let to_end : stage.gap ≡ hunk_gap stage out into =
    ap (λ (k : ℕ). let gap : Gap = record { old = stage.gap.old; old_end = k; new = stage.gap.new; new_end = stage.gap.new_end } in gap) (sym left.old_left)
    ∙ ap (λ (k : ℕ). let gap : Gap = record { old = stage.gap.old; old_end = stage.gap.old + frames (drop stage.runs.old old_runs); new = stage.gap.new; new_end = k } in gap) (sym left.new_left) in
    let h : AddsHunk old new (hunk_gap stage (drop stage.runs.old old_runs) (drop stage.runs.new new_runs)) before after = subst (λ (gap : Gap). AddsHunk old new gap before after) to_end added in
    let hunk : Hunk = record { out = out; into = into; changes = h.0; stays = [] } in
    reached_last old new front end stage.gap before after common ends w.reached added (record {
      hunks = w.hunks ++ hunk ∷ [];
      are = done_last front (length old - front) w.hunks hunk w.done (hunk_at old new front end old_runs new_runs stage before w hunk (is_hunk old new stage out into [] before after h apart));
      old_runs = sym runs.old_are ∙ w.old_is ∙ ap (λ (l : List FrameRun). flat_map outs w.hunks ++ l) (sym (append-nil out)) ∙ flat_map_more outs [] w.hunks hunk;
      new_runs = sym runs.new_are ∙ w.new_is ∙ ap (λ (l : List FrameRun). flat_map intos w.hunks ++ l) (sym (append-nil into)) ∙ flat_map_more intos [] w.hunks hunk;
      all = h.1 ∙ ap (λ (l : List Change). l ++ h.0) w.all ∙ flat_map_more changes_of [] w.hunks hunk;
    })
