-- Where no pair can be new, clocks move the beam alone.
use Rattle.std.proofs.Common.{◌≡◌, ℕ, zero, suc, ◌+◌, ◌-◌, ◌/◌, ◌%◌, ◌<◌, ◌≤◌, ◌&&◌, ◌==◌, nat_lt, Bool, true, false, ltb, ◌∙◌, ap, sym, refl, arith, ⊎_elim}
use Rattle.std.proofs.lemmas.Bool.{cases_Bool, cases_eq, cond-true, cond-false, and_right, lt-ltb, le-ltb, eq-eqb, ne_eqb}
use Rattle.vcs_tia.specs.declared.beam.Beam.{Beam}
use Rattle.vcs_tia.specs.declared.beam.Latches.{Latches}
use Rattle.vcs_tia.specs.declared.chip.Tia.{Tia}
use Rattle.vcs_tia.specs.Beam.{beam_after_clock}
use Rattle.vcs_tia.specs.Latches.{pairs_added}
use Rattle.vcs_tia.specs.Inside.Spans.{beam_after_clocks}
use Rattle.vcs_tia.specs.Tia.{after_clock, in_hmove_blank, latches_at, lit_at}
use Rattle.vcs_tia.specs.Trace.{after_clocks}
use Rattle.vcs_tia.proofs.Later.{after_clocks-changes, with_clocked}
use Rattle.vcs_tia.proofs.Parts.{blank_latches}

-- ---- the beam

beam_by_fields : (l c : ℕ) (m : Bool) (l' c' : ℕ) (m' : Bool) → l ≡ l' → c ≡ c' → m ≡ m' →
    ◌≡◌ {A = Beam} (record { line = l; clock = c; hmove_blank = m }) (record { line = l'; clock = c'; hmove_blank = m' })
beam_by_fields l c m l' c' m' a b d = cc

beam_none : (b : Beam) → b.clock < 228 → b ≡ beam_after_clocks 0 b
beam_none b low =
    let line : b.line ≡ b.line + (b.clock + 0) / 228 = omega arith in
    let clock : b.clock ≡ (b.clock + 0) % 228 = omega arith in
    let within : b.clock + 0 < 228 = omega arith in
    let mark : b.hmove_blank ≡ (b.hmove_blank && nat_lt (b.clock + 0) 228) = sym (ap (λ v. b.hmove_blank && v) (lt-ltb (b.clock + 0) 228 within) ∙ and_true b.hmove_blank) in
    beam_by_fields _ _ _ _ _ _ line clock mark
  where
    and_true : (v : Bool) → (v && true) ≡ v
    and_true true = refl
    and_true false = refl

beam_last : (n : ℕ) (b : Beam) → b.clock ≡ 227 → beam_after_clocks n (record { line = b.line + 1; clock = 0; hmove_blank = false }) ≡ beam_after_clocks (suc n) b
beam_last n b is =
    let line : b.line + 1 + (0 + n) / 228 ≡ b.line + (b.clock + suc n) / 228 = omega arith in
    let clock : (0 + n) % 228 ≡ (b.clock + suc n) % 228 = omega arith in
    let over : 228 ≤ b.clock + suc n = omega arith in
    beam_by_fields _ _ _ _ _ _ line clock (sym (and_right b.hmove_blank (ltb (b.clock + suc n) 228) (le-ltb (b.clock + suc n) 228 over)))

beam_within : (n : ℕ) (b : Beam) → beam_after_clocks n (record b { clock = b.clock + 1 }) ≡ beam_after_clocks (suc n) b
beam_within n b =
    let count : b.clock + 1 + n ≡ b.clock + suc n = omega arith in
    ap (λ k. let r : Beam = record { line = b.line + k / 228; clock = k % 228; hmove_blank = b.hmove_blank && nat_lt k 228 } in r) count

-- one clock, and then the others
beam_step : (n : ℕ) (b : Beam) → beam_after_clocks n (beam_after_clock b) ≡ beam_after_clocks (suc n) b
beam_step n b =
    ⊎_elim
    (λ is. ap (beam_after_clocks n) (cond-true (b.clock == 227) _ _ (eq-eqb b.clock 227 is)) ∙ beam_last n b is)
    (λ other. ap (beam_after_clocks n) (cond-false (b.clock == 227) _ _ (ne_eqb b.clock 227 other)) ∙ beam_within n b)
    (cases_eq b.clock 227)

beam_low : (b : Beam) → b.clock < 228 → (beam_after_clock b).clock < 228
beam_low b low =
    ⊎_elim
    (λ is. let first = ap (λ (x : Beam). x.clock) (cond-true (b.clock == 227) (record { line = b.line + 1; clock = 0; hmove_blank = false }) (record b { clock = b.clock + 1 }) (eq-eqb b.clock 227 is)) in omega (arith, first))
    (λ other. let next = ap (λ (x : Beam). x.clock) (cond-false (b.clock == 227) (record { line = b.line + 1; clock = 0; hmove_blank = false }) (record b { clock = b.clock + 1 }) (ne_eqb b.clock 227 other)) in omega (arith, next))
    (cases_eq b.clock 227)

-- ---- clocks that add no pair

-- no pixel of a line adds a pair to the latches
abbrev pub NoneNew : Tia → Type 0
NoneNew t = (x : ℕ) → x < 160 → pairs_added t.latches (lit_at t x) ≡ t.latches

abbrev pub with_beam : Tia → Beam → Tia
with_beam t b = record t { beam = b }

none_at : (t : Tia) (x : ℕ) → x < 160 → NoneNew t → latches_at t x ≡ t.latches
none_at t x inside none =
    ⊎_elim
    (λ mark. cond-true (in_hmove_blank t x) t.latches (pairs_added t.latches (lit_at t x)) mark)
    (λ clear. cond-false (in_hmove_blank t x) t.latches (pairs_added t.latches (lit_at t x)) clear ∙ none x inside)
    (cases_Bool (in_hmove_blank t x))

none_new_clock : (t : Tia) → t.beam.clock < 228 → NoneNew t → after_clock t ≡ with_beam t (beam_after_clock t.beam)
unfolding after_clock
none_new_clock t below none =
    ap (λ (l : Latches). let r : Tia = record t { latches = l; beam = beam_after_clock t.beam } in r)
    (⊎_elim
    (λ low. cond-true (ltb t.beam.clock 68) t.latches (latches_at t (t.beam.clock - 68)) low)
    (λ high. cond-false (ltb t.beam.clock 68) t.latches (latches_at t (t.beam.clock - 68)) high ∙ none_at t (t.beam.clock - 68) (omega arith) none)
    (cases_Bool (ltb t.beam.clock 68)))

none_new : (n : ℕ) (t : Tia) → t.beam.clock < 228 → NoneNew t → after_clocks n t ≡ with_beam t (beam_after_clocks n t.beam)
unfolding after_clocks
none_new zero t low none = ap (with_beam t) (beam_none t.beam low)
none_new (suc n) t low none =
    ap (after_clocks n) (none_new_clock t low none)
    ∙ none_new n (with_beam t (beam_after_clock t.beam)) (beam_low t.beam low) none
    ∙ ap (with_beam t) (beam_step n t.beam)

-- none of these clocks adds a pair
pub none_new_latches : (n : ℕ) (t : Tia) → t.beam.clock < 228 → NoneNew t → (after_clocks n t).latches ≡ t.latches
none_new_latches n t low none = ap (λ (u : Tia). u.latches) (none_new n t low none)

pub blank_clocks : (n : ℕ) (t : Tia) → t.beam.clock + n ≤ 68 → (after_clocks n t).latches ≡ t.latches
unfolding after_clocks
blank_clocks zero t low = refl
blank_clocks (suc n) t low = blank_latches n t low

pub beam_later : (n : ℕ) (t : Tia) → t.beam.clock < 228 → (after_clocks n t).beam ≡ beam_after_clocks n t.beam
unfolding after_clocks after_clock
beam_later zero t low = beam_none t.beam low
beam_later (suc n) t low = beam_later n (after_clock t) (beam_low t.beam low) ∙ beam_step n t.beam

-- clocks that add no pair move the beam alone
pub beam_alone : (n : ℕ) (t : Tia) → t.beam.clock < 228 → (after_clocks n t).latches ≡ t.latches → with_beam t (beam_after_clocks n t.beam) ≡ after_clocks n t
beam_alone n t low same =
    sym (after_clocks-changes n t ∙ ap (λ (v : Latches). with_clocked t v (after_clocks n t).beam) same ∙ ap (with_beam t) (beam_later n t low))
