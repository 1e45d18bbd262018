-- Runs of frames, one after the other.
use Rattle.std.proofs.Common.{◌≡◌, ℕ, zero, suc, ◌+◌, ◌-◌, ◌*◌, ◌/◌, ◌<◌, ◌≤◌, Bool, cond, List, [], ◌∷◌, ◌++◌, length, get_or, take, map, sum, Option, Some, None, refl, sym, ap, subst, ◌∙◌, inl, inr, arith, zero-add}
use Rattle.std.specs.List.{All, range_with_len, concat}
use Rattle.std.proofs.lemmas.Bool.{cases_lt, lt-ltb, le-ltb}
use Rattle.std.proofs.lemmas.List.Elements.{All-append}
use Rattle.std.proofs.lemmas.List.{append-nil, map-append, map_more}
use Rattle.std.proofs.lemmas.List.Folds.{concat-append}
use Rattle.std.proofs.lemmas.List.Sums.{sum_by-cons, sum_by-append}
use Rattle.std.proofs.Math.Nat.{mul-div_cancel_left}
use Rattle.tas_movie.specs.Content.{MovieContent}
use Rattle.tas_green.specs.declared.savestate.Savestate.{Savestate}
use Rattle.tas_green.specs.Zone.{nearest, first_of}
use Rattle.tas_green.proofs.GridLemmas.{div_mono}
use Rattle.tas_film.specs.declared.pixmaps.Stop.{Stop}
use Rattle.tas_film.specs.declared.pixmaps.Stop.TheVariants.{Halted, Memory}
use Rattle.tas_film.specs.declared.runs.Run.{Run}
use Rattle.tas_film.specs.declared.runs.RunEnd.{RunEnd}
use Rattle.tas_film.specs.declared.runs.ExportPlan.{ExportPlan}
use Rattle.tas_film.specs.Frames.{AllDrawn, Shows, pixmaps_of}
use Rattle.tas_film.specs.Runs.{first_of_run, cost, costs, IsPlan, IsRunEnd, pixmaps_in, AreRunsEnd}
use Rattle.tas_film.proofs.DrawingLemmas.{range_joined, pixmaps_none, pixmaps_joined}

-- what a run that isn't empty costs
pub cost_some : (zone : List Savestate) (first next : ℕ) → first < next → cost zone first next ≡ next - nearest first zone
cost_some zone first next lt = ap (λ (b : Bool). cond b (next - nearest first zone) 0) (lt-ltb first next lt)

-- ---- where runs begin

pub begins : (plan : ExportPlan) → first_of_run plan 0 ≡ plan.from
begins plan = ap (λ (n : ℕ). plan.from + n) (none (plan.to - plan.from) plan.workers) ∙ (let e : plan.from + 0 ≡ plan.from = omega arith in e)
  where
    none : (n w : ℕ) → 0 * n / w ≡ 0
    none n w = omega arith

pub ends : (plan : ExportPlan) → 0 < plan.workers → plan.from ≤ plan.to → first_of_run plan plan.workers ≡ plan.to
ends plan pos le = ap (λ (n : ℕ). plan.from + n) (mul-div_cancel_left (plan.to - plan.from) pos) ∙ omega arith

pub next_behind : (plan : ExportPlan) (i : ℕ) → 0 < plan.workers → first_of_run plan i ≤ first_of_run plan (i + 1)
next_behind plan i pos =
    let more : i * (plan.to - plan.from) ≤ (i + 1) * (plan.to - plan.from) = omega arith in
    let up = div_mono (i * (plan.to - plan.from)) ((i + 1) * (plan.to - plan.from)) plan.workers pos more in
    omega arith

pub next_within : (plan : ExportPlan) (i : ℕ) → 0 < plan.workers → plan.from ≤ plan.to → i ≤ plan.workers → first_of_run plan i ≤ plan.to
next_within plan i pos le lt =
    let more : i * (plan.to - plan.from) ≤ plan.workers * (plan.to - plan.from) = scaled i plan.workers (plan.to - plan.from) lt in
    let up = div_mono (i * (plan.to - plan.from)) (plan.workers * (plan.to - plan.from)) plan.workers pos more in
    let all = mul-div_cancel_left (plan.to - plan.from) pos in
    omega arith
  where
    scaled : (a b n : ℕ) → a ≤ b → a * n ≤ b * n
    scaled a b n le = grind arith

-- ---- parts of the frames, joined

-- a part without frames
shows_none : (movie : MovieContent) (from to : ℕ) → from ≡ to → Shows movie from to [] None
shows_none movie from to same = record {
  all = λ f le lt. absurd (omega arith);
  are = pixmaps_none movie from ∙ ap (λ (n : ℕ). pixmaps_of movie from (n - from)) same;
}

drawn_joined : (movie : MovieContent) (from mid to : ℕ) → AllDrawn movie from mid → AllDrawn movie mid to → AllDrawn movie from to
drawn_joined movie from mid to left right f le lt =
    elim (cases_lt f mid) [
      | inl front ↦ left f le front
      | inr back ↦ right f back lt
    ]

pub shows_joined : (movie : MovieContent) (from mid to : ℕ) (a b : List ℕ) → from ≤ mid → mid ≤ to → (h k : Option Stop) → Shows movie from mid a h → Shows movie mid to b k → Shows movie from to (a ++ b) (first_of h k)
shows_joined movie from mid to a b low high (Some (Halted x)) k left right = record {
  above = left.above;
  below = omega (arith, left.below);
  halt = left.halt;
  before = left.before;
}
shows_joined movie from mid to a b low high (Some Memory) k left right = record {
  frame = left.frame;
  above = left.above;
  below = omega (arith, left.below);
  drawn = left.drawn;
}
shows_joined movie from mid to a b low high None None left right = record {
  all = drawn_joined movie from mid to left.all right.all;
  are =
      ap (λ (bs : List ℕ). bs ++ b) left.are ∙ ap (λ (bs : List ℕ). pixmaps_of movie from (mid - from) ++ bs) right.are
      ∙ sym (pixmaps_joined movie from mid to low high);
}
shows_joined movie from mid to a b low high None (Some (Halted x)) left right = record {
  above = omega (arith, right.above);
  below = right.below;
  halt = right.halt;
  before = λ f le lt. elim (cases_lt f mid) [
    | inl front ↦ left.all f le front
    | inr back ↦ right.before f back lt
  ];
}
shows_joined movie from mid to a b low high None (Some Memory) left right = record {
  frame = right.frame;
  above = omega (arith, right.above);
  below = right.below;
  drawn = drawn_joined movie from mid (right.frame + 1) left.all right.drawn;
}

-- ---- runs, joined

-- a run without frames
pub run_none : (movie : MovieContent) (zone : List Savestate) (first next : ℕ) (pixmaps : List ℕ) (end : RunEnd) → pixmaps ≡ [] → first ≡ next → end ≡ record { played = 0; stop = None }
    → IsRunEnd movie zone first next pixmaps end
run_none movie zone first next pixmaps end empty same ended =
    rw (ended, empty) (record {
      shows = shows_none movie first next same;
      played = λ none. sym (ap (λ (b : Bool). cond b (next - nearest first zone) 0) (le-ltb first next (omega arith)));
      most = omega arith;
    })

none_parts : (h k : Option Stop) → first_of h k ≡ None → (h ≡ None) × (k ≡ None)
none_parts (Some h) k e = absurd cc
none_parts None k e = (refl, e)

one_sum : (x : ℕ) → sum (x ∷ []) ≡ x
one_sum x = sum_by-cons (λ (y : ℕ). y) x [] ∙ (let e : x + 0 ≡ x = omega arith in e)

-- what one run more costs
costs_more : (zone : List Savestate) (plan : ExportPlan) (i : ℕ) → costs zone plan 0 (i + 1) ≡ costs zone plan 0 i + cost zone (first_of_run plan i) (first_of_run plan (i + 1))
costs_more zone plan i =
    let here = range_joined 0 i 1 ∙ ap (λ (k : ℕ). range_with_len 0 i ++ k ∷ []) (zero-add i) in
    ap (λ (js : List ℕ). sum (map (λ j. cost zone (first_of_run plan j) (first_of_run plan (j + 1))) js)) here
    ∙ ap (λ (ns : List ℕ). sum ns) (map-append (λ j. cost zone (first_of_run plan j) (first_of_run plan (j + 1))) (range_with_len 0 i) (i ∷ []))
    ∙ sum_by-append (λ (x : ℕ). x) (map (λ j. cost zone (first_of_run plan j) (first_of_run plan (j + 1))) (range_with_len 0 i)) (cost zone (first_of_run plan i) (first_of_run plan (i + 1)) ∷ [])
    ∙ ap (λ (n : ℕ). costs zone plan 0 i + n) (one_sum (cost zone (first_of_run plan i) (first_of_run plan (i + 1))))

-- one run more
runs_joined : (movie : MovieContent) (zone : List Savestate) (plan : ExportPlan) (i : ℕ) (before : List (List ℕ)) (mine : List ℕ) (front back end : RunEnd)
    → IsPlan movie plan → i < plan.workers
    → AreRunsEnd movie zone plan i before front → IsRunEnd movie zone (first_of_run plan i) (first_of_run plan (i + 1)) mine back
    → end.played ≡ front.played + back.played → end.stop ≡ first_of front.stop back.stop
    → AreRunsEnd movie zone plan (i + 1) (before ++ mine ∷ []) end
runs_joined movie zone plan i before mine front back end is lt so_far one played stop =
    let low : plan.from ≤ first_of_run plan i = omega arith in
    let high = next_behind plan i is.some in
    let bytes = ap (λ (bs : List ℕ). concat before ++ bs) (sym (append-nil mine)) ∙ sym (concat-append before (mine ∷ [])) in
    let shown : Shows movie plan.from (first_of_run plan (i + 1)) (concat before ++ mine) end.stop =
    rw stop (shows_joined movie plan.from (first_of_run plan i) (first_of_run plan (i + 1)) (concat before) mine low high front.stop back.stop so_far.shows one.shows) in
    record {
      shows = subst (λ (bs : List ℕ). Shows movie plan.from (first_of_run plan (i + 1)) bs end.stop) bytes shown;
      played = λ none.
          let both = none_parts front.stop back.stop (sym stop ∙ none) in
          played
          ∙ ap (λ (n : ℕ). n + back.played) (so_far.played both.0)
          ∙ ap (λ (n : ℕ). costs zone plan 0 i + n) (one.played both.1)
          ∙ sym (costs_more zone plan i);
      most = omega (arith, so_far.most, one.most, played);
    }

-- the next run of a list
pub runs_more : {A : Type 0} (movie : MovieContent) (zone : List Savestate) (plan : ExportPlan) (i : ℕ) (runs : List (Run A)) (run : Run A) (front back end : RunEnd)
    → IsPlan movie plan → i < plan.workers → i < length runs
    → AreRunsEnd movie zone plan i (pixmaps_in (take i runs)) front → IsRunEnd movie zone (first_of_run plan i) (first_of_run plan (i + 1)) (get_or runs i run).pixmaps back
    → end.played ≡ front.played + back.played → end.stop ≡ first_of front.stop back.stop
    → AreRunsEnd movie zone plan (i + 1) (pixmaps_in (take (i + 1) runs)) end
runs_more {A = A} movie zone plan i runs run front back end is lt here so_far one played stop =
    subst (λ (all_pixmaps : List (List ℕ)). AreRunsEnd movie zone plan (i + 1) all_pixmaps end) (sym (map_more (λ (r : Run A). r.pixmaps) runs i run here))
    (runs_joined movie zone plan i (pixmaps_in (take i runs)) (get_or runs i run).pixmaps front back end is lt so_far one played stop)

-- all runs show all frames
pub runs_shown : (movie : MovieContent) (zone : List Savestate) (plan : ExportPlan) (all_pixmaps : List (List ℕ)) (end : RunEnd) → IsPlan movie plan → AreRunsEnd movie zone plan plan.workers all_pixmaps end
    → Shows movie plan.from plan.to (concat all_pixmaps) end.stop
runs_shown movie zone plan all_pixmaps end is runs = subst (λ (n : ℕ). Shows movie plan.from n (concat all_pixmaps) end.stop) (ends plan is.some is.order) runs.shows

-- one run more has no pixmap yet
pub empty_more : {A : Type 0} (runs more : List (Run A)) (run : Run A) → All (λ (r : Run A). r.pixmaps ≡ []) runs → run.pixmaps ≡ [] → more ≡ runs ++ run ∷ [] → All (λ (r : Run A). r.pixmaps ≡ []) more
empty_more {A = A} runs more run so_far none is =
    subst (All (λ (r : Run A). r.pixmaps ≡ [])) (sym is) (All-append (λ (r : Run A). r.pixmaps ≡ []) runs (run ∷ []) so_far (one run none))
  where
    one : (x : Run A) → x.pixmaps ≡ [] → All (λ (r : Run A). r.pixmaps ≡ []) (x ∷ [])
    one x e zero d lt = e
    one x e (suc k) d lt = absurd (omega arith)
