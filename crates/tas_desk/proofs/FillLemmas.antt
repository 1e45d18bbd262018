-- How many states a zone gains of what a job made, by the places that it lacked.
use Rattle.std.proofs.Common.{◌≡◌, ℕ, zero, suc, ◌+◌, ◌%◌, ◌<◌, ◌≤◌, ◌&&◌, min, Bool, true, false, cond, eqb, List, [], ◌∷◌, length, take, Option, Some, None, refl, sym, ap, subst, ◌∙◌, inl, inr, arith}
use Rattle.std.specs.Prelude.{is_some, is_none, nat_le, count_by}
use Rattle.std.specs.List.{range_with_len}
use Rattle.std.proofs.lemmas.Bool.{cases_lt, cases_eq, le-leb, leb-true, eqb-true, eq-eqb, and_parts, and_from, false≢true}
use Rattle.std.proofs.lemmas.List.{length-take-le}
use Rattle.std.proofs.Math.Nat.{min-le_right}
use Rattle.vcs_inputs.specs.declared.input.Input.{Input}
use Rattle.vcs_machine.specs.declared.state.State.{State}
use Rattle.vcs_machine.specs.Machine.{after}
use Rattle.tas_movie.specs.Content.{MovieContent}
use Rattle.tas_movie.specs.Front.{IsCommonFront}
use Rattle.tas_green.specs.declared.savestate.Savestate.{Savestate}
use Rattle.tas_green.specs.Batch.{JobContent, BatchContent}
use Rattle.tas_green.specs.Grid.{stride}
use Rattle.tas_green.specs.Green.{IsLawful}
use Rattle.tas_green.specs.Zone.{state_at, IsRising, first_of, where_true, is_on_grid, is_passed}
use Rattle.tas_green.proofs.ZoneLemmas.{at_same, at_other, at_later, above_none, rising_weaker}
use Rattle.tas_session.specs.declared.replies.Offered.{Offered}
use Rattle.tas_desk.specs.Work.{IsJobOf, IsRunOf, IsTaken, is_lacking, lacking, IsGain}
use Rattle.tas_desk.proofs.CutLemmas.{get_take}
use Rattle.tas_desk.proofs.SeatLemmas.{count_by-cons}

-- ---- counting

abbrev one_if : Bool → ℕ
one_if b = cond b 1 0

one_less : (a b : Bool) → (a ≡ true → b ≡ true) → one_if a ≤ one_if b
one_less true b less = let full : one_if b ≡ 1 = ap one_if (less refl) in omega (arith, full)
one_less false b less = omega arith

-- all that passes one test passes another
count_less : (p q : ℕ → Bool) (xs : List ℕ) → ((f : ℕ) → p f ≡ true → q f ≡ true) → count_by p xs ≤ count_by q xs
count_less p q [] less = omega arith
count_less p q (x ∷ xs) less =
    let one = count_by-cons p x xs in
    let other = count_by-cons q x xs in
    let rest = count_less p q xs less in
    let here : one_if (p x) ≤ one_if (q x) = one_less (p x) (q x) (less x) in
    omega (arith, one, other, rest, here)

-- what passes one test passes one of two others
count_sum : (p q r : ℕ → Bool) (xs : List ℕ) → ((f : ℕ) → one_if (p f) ≡ one_if (q f) + one_if (r f)) → count_by p xs ≡ count_by q xs + count_by r xs
count_sum p q r [] each = refl
count_sum p q r (x ∷ xs) each =
    let one = count_by-cons p x xs in
    let two = count_by-cons q x xs in
    let three = count_by-cons r x xs in
    let rest = count_sum p q r xs each in
    let here : one_if (p x) ≡ one_if (q x) + one_if (r x) = each x in
    omega (arith, one, two, three, rest, here)

-- two tests agree from a place on
count_same : (p q : ℕ → Bool) (a n : ℕ) → ((f : ℕ) → a ≤ f → p f ≡ q f) → count_by p (range_with_len a n) ≡ count_by q (range_with_len a n)
count_same p q a zero same = refl
count_same p q a (suc n) same =
    let one = count_by-cons p a (range_with_len (a + 1) n) in
    let other = count_by-cons q a (range_with_len (a + 1) n) in
    let rest = count_same p q (a + 1) n (λ f le. same f (omega (arith, le))) in
    let here : one_if (p a) ≡ one_if (q a) = ap one_if (same a (omega arith)) in
    omega (arith, one, other, rest, here)

-- ---- the states of a list, by their places

abbrev has : List Savestate → ℕ → Bool
has zone f = is_some (state_at f zone)

-- a rising list has as many states as places with one
place_count : (low n : ℕ) (zone : List Savestate) → IsRising low zone → ((f : ℕ) (st : State) → state_at f zone ≡ Some st → f ≤ low + n) → count_by (has zone) (range_with_len (low + 1) n) ≡ length zone
place_count low zero [] rising within = refl
place_count low zero (x ∷ xs) rising within = let le = within x.frame x.state (at_same x.frame x xs refl) in absurd (omega (arith, rising.0, le))
place_count low (suc n) [] rising within =
    let one = count_by-cons (has []) (low + 1) (range_with_len (low + 1 + 1) n) in
    let none : one_if (has [] (low + 1)) ≡ 0 = refl in
    let rest = place_count (low + 1) n [] tt (λ f st e. absurd (cc e)) in
    omega (arith, one, none, rest)
place_count low (suc n) (x ∷ xs) rising within =
    let one = count_by-cons (has (x ∷ xs)) (low + 1) (range_with_len (low + 1 + 1) n) in
    elim (cases_eq x.frame (low + 1)) [
      | inl here ↦
          let there : one_if (has (x ∷ xs) (low + 1)) ≡ 1 = ap one_if (ap is_some (at_same (low + 1) x xs here)) in
          let behind = count_same (has (x ∷ xs)) (has xs) (low + 1 + 1) n (λ f le. ap is_some (at_other f x xs (λ same. omega (arith, le, same, here)))) in
          let rest = place_count (low + 1) n xs (rising_weaker x.frame (low + 1) xs (omega (arith, here)) rising.1) (λ f st e. let le = within f st (at_later f x xs st rising.1 e) in omega (arith, le)) in
          omega (arith, one, there, behind, rest)
      | inr apart ↦
          let up : low + 1 < x.frame = omega (arith, rising.0, apart) in
          let none : one_if (has (x ∷ xs) (low + 1)) ≡ 0 = ap one_if (ap is_some (above_none (low + 1) (low + 1) (x ∷ xs) (up, rising.1) (omega arith))) in
          let rest = place_count (low + 1) n (x ∷ xs) (up, rising.1) (λ f st e. let le = within f st e in omega (arith, le)) in
          omega (arith, one, none, rest)
    ]

zone_count : (movie : MovieContent) (zone : List Savestate) → IsLawful movie zone → count_by (has zone) (range_with_len 1 (length movie.inputs)) ≡ length zone
zone_count movie zone lawful = place_count 0 (length movie.inputs) zone lawful.rising (λ f st e. let le = (lawful.each f st e).within in omega (arith, le))

-- ---- what is gained of a batch

joined : {A : Type 0} (a b : Option A) → one_if (is_some (first_of a b)) ≡ one_if (is_some a) + one_if (is_some b && is_none a)
joined (Some x) (Some y) = refl
joined (Some x) None = refl
joined None (Some y) = refl
joined None None = refl

-- a place at which a zone gains a state of a batch, up to the common front
abbrev is_gained : MovieContent → BatchContent → ℕ → List Savestate → ℕ → Bool
is_gained movie batch front zone f = is_some (where_true (is_on_grid (stride (length movie.inputs)) front f) (state_at f batch.states)) && is_none (state_at f zone)

gained_is : (movie : MovieContent) (batch : BatchContent) (offered : Offered) (taken : IsTaken movie batch offered)
    → offered.kept ≡ count_by (is_gained movie batch offered.front taken.before) (range_with_len 1 (length movie.inputs))
gained_is movie batch offered taken =
    let sum = count_sum (has taken.now) (has taken.before) (is_gained movie batch offered.front taken.before) (range_with_len 1 (length movie.inputs)) (λ f.
    ap (λ (o : Option State). one_if (is_some o)) (taken.takes.states f)
    ∙ joined (state_at f taken.before) (where_true (is_on_grid (stride (length movie.inputs)) offered.front f) (state_at f batch.states))) in
    let now = zone_count movie taken.now taken.lawful_now in
    let before = zone_count movie taken.before taken.lawful in
    omega (arith, sum, now, before, taken.takes.gained)

-- ---- tests of places

grid_parts : (s last f : ℕ) → is_on_grid s last f ≡ true → (f ≤ last) × (f % s ≡ 0)
grid_parts s last f is = let both = and_parts (nat_le f last) (eqb (f % s) 0) is in (leb-true f last both.0, eqb-true (f % s) 0 both.1)

grid_from : (s last f : ℕ) → f ≤ last → f % s ≡ 0 → is_on_grid s last f ≡ true
grid_from s last f up on = and_from (nat_le f last) (eqb (f % s) 0) (le-leb f last up) (eq-eqb (f % s) 0 on)

-- a state that passes two tests
shown_parts : {A : Type 0} (a b : Bool) (x : A) (o : Option A) → o ≡ where_true b (Some x) → is_some (where_true a o) ≡ true → (a ≡ true) × (b ≡ true)
shown_parts true true x o is there = (refl, refl)
shown_parts true false x o is there = absurd (false≢true (sym (ap is_some is) ∙ there))
shown_parts false b x o is there = absurd (false≢true there)

shown_from : {A : Type 0} (a b : Bool) (x : A) (o : Option A) → o ≡ where_true b (Some x) → a ≡ true → b ≡ true → is_some (where_true a o) ≡ true
shown_from a b x o is one also = ap (λ (c : Bool). is_some (where_true c o)) one ∙ ap is_some is ∙ ap (λ (c : Bool). is_some (where_true c (Some x))) also

-- ---- a job's places

-- what is gained was lacking after the job's start
gained_lacking : (movie : MovieContent) (job : JobContent) (batch : BatchContent) (front : ℕ) (zone : List Savestate) → IsRunOf job batch → front ≤ length batch.inputs
    → (f : ℕ) → is_gained movie batch front zone f ≡ true → is_lacking movie job.start (length job.inputs) zone f ≡ true
gained_lacking movie job batch front zone run short f is =
    let s = stride (length movie.inputs) in
    let long : length batch.inputs ≡ length job.inputs = ap (λ (l : List Input). length l) run.inputs in
    let parts = and_parts (is_some (where_true (is_on_grid s front f) (state_at f batch.states))) (is_none (state_at f zone)) is in
    let tests = shown_parts (is_on_grid s front f) (is_passed job.stride job.start (length job.inputs) f) (after job.cart (take f job.inputs)) (state_at f batch.states) (run.states f) parts.0 in
    let grid = grid_parts s front f tests.0 in
    let passed = and_parts (nat_le (job.start + 1) f) (is_on_grid job.stride (length job.inputs) f) tests.1 in
    let up : f ≤ length job.inputs = omega (arith, grid.0, short, long) in
    and_from (is_passed s job.start (length job.inputs) f) (is_none (state_at f zone))
    (and_from (nat_le (job.start + 1) f) (is_on_grid s (length job.inputs) f) passed.0 (grid_from s (length job.inputs) f up grid.1)) parts.1

-- where the movie's grid is the job's, and all of its inputs are the movie's, all of that is gained
lacking_gained : (movie : MovieContent) (job : JobContent) (batch : BatchContent) (front : ℕ) (zone : List Savestate) → IsRunOf job batch → job.stride ≡ stride (length movie.inputs) → front ≡ length job.inputs
    → (f : ℕ) → is_lacking movie job.start (length job.inputs) zone f ≡ true → is_gained movie batch front zone f ≡ true
lacking_gained movie job batch front zone run step whole f is =
    let s = stride (length movie.inputs) in
    let parts = and_parts (is_passed s job.start (length job.inputs) f) (is_none (state_at f zone)) is in
    let passed = and_parts (nat_le (job.start + 1) f) (is_on_grid s (length job.inputs) f) parts.0 in
    let grid = grid_parts s (length job.inputs) f passed.1 in
    let up : f ≤ front = omega (arith, grid.0, whole) in
    let same : is_on_grid job.stride (length job.inputs) f ≡ true = ap (λ (n : ℕ). is_on_grid n (length job.inputs) f) step ∙ passed.1 in
    and_from (is_some (where_true (is_on_grid s front f) (state_at f batch.states))) (is_none (state_at f zone))
    (shown_from (is_on_grid s front f) (is_passed job.stride job.start (length job.inputs) f) (after job.cart (take f job.inputs)) (state_at f batch.states) (run.states f)
    (grid_from s front f up grid.1) (and_from (nat_le (job.start + 1) f) (is_on_grid job.stride (length job.inputs) f) passed.0 same)) parts.1

-- the first inputs of a list begin it as a whole
pub whole_front : (xs : List Input) (end front : ℕ) → end ≤ length xs → IsCommonFront (take end xs) xs front → front ≡ end
whole_front xs end front le common = elim (cases_lt front end) [
  | inl less ↦ let long = length-take-le end xs le in absurd (common.longest (omega (arith, long, less)) (omega (arith, le, less)) (get_take xs end front less))
  | inr most ↦ let within = common.within_a in let long = length-take-le end xs le in omega (arith, within, long, most)
]

-- all inputs of a job are the movie's, where that is still the one that it was taken from
job_front : (was movie : MovieContent) (near : ℕ) (job : JobContent) (batch : BatchContent) (front : ℕ) → IsJobOf was near job → IsRunOf job batch → IsCommonFront batch.inputs movie.inputs front → movie ≡ was → front ≡ length job.inputs
job_front was movie near job batch front of run common same =
    let end = min near (length movie.inputs) in
    let le : end ≤ length movie.inputs = min-le_right near (length movie.inputs) in
    let inputs : job.inputs ≡ take end movie.inputs = of.is.inputs ∙ ap (λ (m : MovieContent). take (min near (length m.inputs)) m.inputs) (sym same) in
    let long : length job.inputs ≡ end = ap (λ (l : List Input). length l) inputs ∙ length-take-le end movie.inputs le in
    whole_front movie.inputs end front le (subst (λ (l : List Input). IsCommonFront l movie.inputs front) (run.inputs ∙ inputs) common) ∙ sym long

-- what a job made was taken
pub gain_of : (was movie : MovieContent) (near : ℕ) (job : JobContent) (batch : BatchContent) (offered : Offered) → IsJobOf was near job → IsRunOf job batch → IsTaken movie batch offered → IsGain was movie job batch offered.kept
gain_of was movie near job batch offered of run taken =
    let places : List ℕ = range_with_len 1 (length movie.inputs) in
    let gained : ℕ → Bool = is_gained movie batch offered.front taken.before in
    let lacked : ℕ → Bool = is_lacking movie job.start (length job.inputs) taken.before in
    let is = gained_is movie batch offered taken in
    let less = count_less gained lacked places (gained_lacking movie job batch offered.front taken.before run taken.takes.front.within_a) in
    record {
      offered = offered;
      taken = taken;
      counted = refl;
      most = omega (arith, is, less);
      exact = λ same.
          let step : job.stride ≡ stride (length movie.inputs) = of.is.step ∙ ap (λ (m : MovieContent). stride (length m.inputs)) (sym same) in
          let front = job_front was movie near job batch offered.front of run taken.takes.front same in
          let more = count_less lacked gained places (lacking_gained movie job batch offered.front taken.before run step front) in
          omega (arith, is, less, more);
    }
