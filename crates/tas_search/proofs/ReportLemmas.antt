-- What a search has reported, layer by layer.
use Rattle.std.proofs.Common.{◌≡◌, ℕ, zero, suc, ◌+◌, ◌<◌, ◌≤◌, List, [], ◌∷◌, ◌++◌, length, refl, sym, ap, subst, ◌∙◌, inl, inr, arith, append_assoc}
use Rattle.std.specs.Prelude.{slice_index_or, Bool, true, false}
use Rattle.std.proofs.lemmas.Bool.{cases_eq}
use Rattle.std.proofs.lemmas.List.{append-nil, length_push}
use Rattle.tas_search.specs.declared.arrival.Step.{Step}
use Rattle.tas_search.specs.Space.{SpaceContent}
use Rattle.tas_search.specs.Best.{FitsBelow, ReachMoreThan}
use Rattle.tas_search.specs.Outcome.{Outcome, best, nothing, stopped}
use Rattle.tas_search.specs.LayerLines.{state_count, layer_line, lines_after, layer_lines}
use Rattle.tas_search.specs.Logs.{LogBytes, Logged, LeavesLine}
use Rattle.tas_search.specs.declared.logs.Unfinished.{Unfinished}
use Rattle.tas_search.specs.declared.logs.Unfinished.TheVariants.{Memory, Report}
use Rattle.tas_search.specs.Reported.{IsLastLayer, IsReported, CanReach, HasLine, LeavesLayer, StopsReporting}
use Rattle.tas_search.specs.Inside.Arrivals.{no_step, path}
use Rattle.tas_search.proofs.LimitLemmas.{fits_here, none_below}
use Rattle.tas_search.proofs.LogLemmas.{nothing_logged, logged_more}

pub path_length : (parents : List Step) (d : ℕ) (step : Step) → length (path parents d step) ≡ d
path_length parents zero step = refl
path_length parents (suc d) step =
    length_push (path parents d (slice_index_or parents step.parent no_step)) step.choice ∙ ap (λ (n : ℕ). n + 1) (path_length parents d (slice_index_or parents step.parent no_step)) ∙ next d
  where
    next : (d : ℕ) → d + 1 ≡ suc d
    next d = omega arith

-- layers that have machines
abbrev pub AreFull : SpaceContent → ℕ → Type 0
AreFull s d = (k : ℕ) → k ≤ d → 0 < state_count s k

pub full_first : (s : SpaceContent) → 0 < state_count s 0 → AreFull s 0
full_first s h = λ k le. subst (λ (n : ℕ). 0 < state_count s n) (zero_is k le) h
  where
    zero_is : (k : ℕ) → k ≤ 0 → 0 ≡ k
    zero_is k le = omega arith

pub full_more : (s : SpaceContent) (d : ℕ) → AreFull s d → 0 < state_count s (d + 1) → AreFull s (d + 1)
full_more s d full more = λ k le.
    elim (cases_eq k (d + 1)) [
      | inl e ↦ subst (λ (n : ℕ). 0 < state_count s n) (sym e) more
      | inr ne ↦ full k (omega arith)
    ]

-- both have the lines of the first d layers, of some times
pub record AreLogged (s : SpaceContent) (d : ℕ) (old new : LogBytes) : Type 0 where
  pub times : List ℕ
  pub count : length times ≡ d
  pub logged : Logged old new (layer_lines s times)

pub none_logged : (s : SpaceContent) (old : LogBytes) → AreLogged s 0 old old
none_logged s old = record { times = []; count = refl; logged = nothing_logged old }

-- the line of one layer more
lines_push : (s : SpaceContent) (times : List ℕ) (n nanos : ℕ) → lines_after s n (times ++ nanos ∷ []) ≡ lines_after s n times ++ layer_line s (suc (n + length times)) nanos
lines_push s [] n nanos = append-nil (layer_line s (suc n) nanos) ∙ ap (λ (i : ℕ). layer_line s (suc i) nanos) here
  where
    here : n ≡ n + 0
    here = omega arith
lines_push s (time ∷ times) n nanos =
    ap (λ (xs : List ℕ). layer_line s (suc n) time ++ xs) (lines_push s times (suc n) nanos ∙ ap (λ (i : ℕ). lines_after s (suc n) times ++ layer_line s (suc i) nanos) here)
    ∙ sym (append_assoc (layer_line s (suc n) time) (lines_after s (suc n) times) (layer_line s (suc (n + suc (length times))) nanos))
  where
    here : suc n + length times ≡ n + suc (length times)
    here = omega arith

pub lines_more : (s : SpaceContent) (d e : ℕ) (old mid new : LogBytes) → e ≡ d → AreLogged s d old mid → HasLine s (e + 1) mid new → AreLogged s (d + 1) old new
lines_more s d e old mid new same front more = record {
  times = front.times ++ more.0 ∷ [];
  count = length_push front.times more.0 ∙ ap (λ (n : ℕ). n + 1) front.count;
  logged = subst (Logged old new) (sym (lines_push s front.times 0 more.0))
      (logged_more old mid new (layer_lines s front.times) (layer_line s (suc (0 + length front.times)) more.0) front.logged
      (subst (λ (n : ℕ). Logged mid new (layer_line s n more.0)) next more.1));
}
  where
    next : e + 1 ≡ suc (0 + length front.times)
    next = omega (arith, same, front.count)

-- ---- a search that isn't finished

pub can_reach : (s : SpaceContent) (count states d n : ℕ) → n ≡ d → d ≤ count → ((k : ℕ) → k < d → 0 < state_count s k) → FitsBelow s states (d + 1) → CanReach s count states n
can_reach s count states d n e le full fits =
    subst (CanReach s count states) (sym e) (record { within = le; full = full; fits = fits })

pub lines_whole : (s : SpaceContent) (count states d : ℕ) (old new : LogBytes) → d ≤ count → ((k : ℕ) → k < d → 0 < state_count s k) → FitsBelow s states (d + 1) → AreLogged s d old new
    → StopsReporting s count states Memory old new
lines_whole s count states d old new le full fits h = record {
  times = h.times;
  mid = new;
  can = can_reach s count states d (length h.times + 0) (omega (arith, h.count)) le full fits;
  whole = h.logged;
  next = (0, refl);
}

pub lines_none : (s : SpaceContent) (count states : ℕ) (old : LogBytes) → StopsReporting s count states Memory old old
lines_none s count states old =
    lines_whole s count states 0 old old (omega arith) (λ k lt. absurd (omega arith)) (none_below s states) (none_logged s old)

pub lines_cut : (s : SpaceContent) (count states : ℕ) (why : Unfinished) (d e : ℕ) (old mid new : LogBytes) → e ≡ d → d < count → AreFull s d → FitsBelow s states (d + 1)
    → (why ≡ Report → ReachMoreThan s (e + 1) states → ⊥) → AreLogged s d old mid → LeavesLayer s (e + 1) why mid new → StopsReporting s count states why old new
lines_cut s count states Memory d e old mid new same lt full fits kept front more = record {
  times = front.times;
  mid = mid;
  can = can_reach s count states d (length front.times + 0) (omega (arith, front.count)) (omega arith) (λ k less. full k (omega arith)) fits;
  whole = front.logged;
  next = (more.0, more.1);
}
lines_cut s count states Report d e old mid new same lt full fits kept front more = record {
  times = front.times;
  mid = mid;
  can = can_reach s count states (e + 1) (length front.times + 1) (omega (arith, front.count, same)) (omega (arith, same)) (λ k less. full k (omega (arith, same)))
      (fits_here s states d (e + 1) (ap (λ (n : ℕ). n + 1) same) fits (kept refl));
  whole = front.logged;
  next = (more.0, subst (λ (n : ℕ). LeavesLine Report mid new (layer_line s n more.0)) next more.1);
}
  where
    next : e + 1 ≡ suc (length front.times)
    next = omega (arith, same, front.count)

-- ---- ends

reported_at : (s : SpaceContent) (count d : ℕ) (outcome : Outcome) (old new : LogBytes) → IsLastLayer s count outcome d → ((k : ℕ) → k < d → 0 < state_count s k) → AreLogged s d old new
    → IsReported s count outcome old new
reported_at s count d outcome old new last full h = record {
  times = h.times;
  is_last = subst (IsLastLayer s count outcome) (sym h.count) last;
  full = λ k lt. full k (omega (arith, lt, h.count));
  logged = h.logged;
}

pub reported_start : (s : SpaceContent) (count : ℕ) (ks : List ℕ) (old : LogBytes) → ks ≡ [] → IsReported s count (best ks) old old
reported_start s count ks old e = reported_at s count 0 (best ks) old old (sym (ap length e)) (λ k lt. absurd (omega arith)) (none_logged s old)

pub reported_stop : (s : SpaceContent) (count d : ℕ) (old mid new : LogBytes) → AreFull s d → AreLogged s d old mid → new ≡ mid → IsReported s count (stopped (d + 1)) old new
reported_stop s count d old mid new full h same =
    reported_at s count d (stopped (d + 1)) old new refl (λ k lt. full k (omega arith)) (subst (λ (logs : LogBytes). AreLogged s d old logs) (sym same) h)

pub reported_best : (s : SpaceContent) (count d : ℕ) (ks : List ℕ) (parents : List Step) (step : Step) (old new : LogBytes) → AreFull s d → ks ≡ path parents (d + 1) step → AreLogged s (d + 1) old new
    → IsReported s count (best ks) old new
reported_best s count d ks parents step old new full is h =
    reported_at s count (d + 1) (best ks) old new (sym (ap length is ∙ path_length parents (d + 1) step)) (λ k lt. full k (omega arith)) h

pub reported_empty : (s : SpaceContent) (count d : ℕ) (old new : LogBytes) → d < count → AreFull s d → state_count s (d + 1) ≡ 0 → AreLogged s (d + 1) old new → IsReported s count nothing old new
reported_empty s count d old new lt full none h =
    reported_at s count (d + 1) nothing old new (omega arith, inr none) (λ k l. full k (omega arith)) h

pub reported_end : (s : SpaceContent) (count d : ℕ) (old new : LogBytes) → d ≡ count → AreFull s d → AreLogged s d old new → IsReported s count nothing old new
reported_end s count d old new all full h = reported_at s count d nothing old new (omega arith, inl all) (λ k l. full k (omega arith)) h

pub reported_last : (s : SpaceContent) (count d : ℕ) (ks : List ℕ) (parents : List Step) (step : Step) (old new : LogBytes) → AreFull s d → ks ≡ path parents d step → AreLogged s d old new
    → IsReported s count (best ks) old new
reported_last s count d ks parents step old new full is h =
    reported_at s count d (best ks) old new (sym (ap length is ∙ path_length parents d step)) (λ k lt. full k (omega arith)) h

pub start_full : (s : SpaceContent) → AreFull s 0
start_full s = full_first s one
  where
    one : 0 < 1
    one = omega arith

pub some_left : (n : ℕ) (b : Bool) → (n ≡ 0 → b ≡ true) → b ≡ false → 0 < n
some_left zero b h e = absurd (omega (arith, not_both b (h refl) e))
  where
    not_both : (b : Bool) → b ≡ true → b ≡ false → 0 < 0
    not_both true t f = absurd cc
    not_both false t f = absurd cc
some_left (suc n) b h e = omega arith
