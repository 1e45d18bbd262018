-- What some clocks draw: none off the picture, and of a row one pixel each.
use Rattle.std.proofs.Common.{◌≡◌, ◌+◌, ◌*◌, ◌<◌, ◌≤◌, ◌∙◌, sym, ap, refl, ℕ, zero, suc, Bool, List, true, false, ◌||◌, arith}
use Rattle.std.proofs.lemmas.Bool.{lt-leb, and_left, and_right, and_parts, false_from_ne_true, ltb-true, cond-true, cond-false}
use Rattle.vcs_tia.specs.declared.beam.Beam.{Beam}
use Rattle.vcs_tia.specs.declared.chip.Tia.{Tia}
use Rattle.vcs_tia.specs.Beam.{beam_clocks}
use Rattle.vcs_tia.specs.Inside.Spans.{filled, beam_after_clocks}
use Rattle.vcs_tia.specs.Later.{drawing_of}
use Rattle.vcs_tia.specs.Tia.{colour_at, colour_of_lit, lit_at, in_hmove_blank}
use Rattle.vcs_tia.specs.Trace.{after_clocks, trace, drawn, is_shown}
use Rattle.vcs_tia.proofs.Fills.{filled_same, filled_more}
use Rattle.vcs_tia.proofs.Later.{after_clocks-changes, drawn-alike}
use Rattle.vcs_tia.proofs.Meeting.{with_beam, beam_later}
use Rattle.vcs_tia.proofs.Parts.{drawn_more, drawn_row, painted_hidden}
use Rattle.vcs_tia.proofs.Traces.{beam_clocks-after_clocks, drawn_trace-add}

-- clocks of which none is shown draw nothing
drawn_unseen : (n : ℕ) (t : Tia) (picture : List ℕ) → ((k : ℕ) → k < n → is_shown (after_clocks k t) ≡ false) → drawn (trace n t) picture ≡ picture
unfolding drawn trace
drawn_unseen zero t picture unseen = refl
drawn_unseen (suc n) t picture unseen =
    drawn_more n t picture
    ∙ painted_hidden (after_clocks n t) (drawn (trace n t) picture) (unseen n (omega arith))
    ∙ drawn_unseen n t picture (λ k h. unseen k (omega arith))

-- above the picture, and below it
pub drawn_above : (n : ℕ) (t : Tia) (picture : List ℕ) → beam_clocks t.beam + n ≤ 34 * 228 → drawn (trace n t) picture ≡ picture
drawn_above n t picture above =
    drawn_unseen n t picture (λ k h.
    let passed = beam_clocks-after_clocks k t in
    let line : (after_clocks k t).beam.line < 34 = omega arith in
    and_right _ _ (and_left _ _ (lt-leb 34 (after_clocks k t).beam.line line)))

pub drawn_below : (n : ℕ) (t : Tia) (picture : List ℕ) → 244 ≤ t.beam.line → drawn (trace n t) picture ≡ picture
drawn_below n t picture below =
    drawn_unseen n t picture (λ k h.
    let passed = beam_clocks-after_clocks k t in
    false_from_ne_true (is_shown (after_clocks k t)) (λ yes.
    let parts = and_parts _ _ yes in
    let clock : (after_clocks k t).beam.clock < 228 = ltb-true _ 228 (and_parts _ _ parts.0).1 in
    let line : (after_clocks k t).beam.line < 244 = ltb-true _ 244 (and_parts _ _ parts.1).1 in
    absurd (omega arith)))

-- some clocks, and then others from where the beam is
drawing_later : (n : ℕ) (t : Tia) (b : Beam) → b.clock < 228 → drawing_of (with_beam t (beam_after_clocks n b)) ≡ drawing_of (after_clocks n (with_beam t b))
drawing_later n t b low =
    sym (ap drawing_of (after_clocks-changes n (with_beam t b))
    ∙ ap (λ (c : Beam). drawing_of (with_beam t c)) (beam_later n (with_beam t b) low))

pub passed_clocks : (n : ℕ) (t : Tia) (b : Beam) → b.clock < 228 → beam_clocks (beam_after_clocks n b) ≡ beam_clocks b + n
passed_clocks n t b low = sym (ap beam_clocks (beam_later n (with_beam t b) low)) ∙ beam_clocks-after_clocks n (with_beam t b)

pub drawn_next : (n rest : ℕ) (t : Tia) (b : Beam) (picture : List ℕ) → b.clock < 228 →
    drawn (trace rest (with_beam t (beam_after_clocks n b))) (drawn (trace n (with_beam t b)) picture) ≡ drawn (trace (n + rest) (with_beam t b)) picture
drawn_next n rest t b picture low =
    let before = drawn (trace n (with_beam t b)) picture in
    drawn-alike rest (with_beam t (beam_after_clocks n b)) (after_clocks n (with_beam t b)) before (drawing_later n t b low)
    ∙ sym (drawn_trace-add n rest (with_beam t b) picture)

-- the colours of a span, of which the first pixels are black
abbrev pub lit_colour : Tia → ℕ → ℕ → ℕ
lit_colour t x k = colour_of_lit t (lit_at t (x + k)) (x + k)

abbrev pub is_black : Tia → ℕ → Bool
is_black t x = t.blank || in_hmove_blank t x

pub black_span : (n : ℕ) (t : Tia) (x row : ℕ) (picture : List ℕ) → t.beam.clock ≡ 68 + x → x + n ≤ 160 → t.beam.line ≡ 34 + row → row < 210 →
    ((k : ℕ) → k < n → is_black t (x + k) ≡ true) → filled picture (row * 160 + x) n (λ _. 0) ≡ drawn (trace n t) picture
black_span n t x row picture at inside line bottom black =
    sym (drawn_row n t x row picture (λ _. 0) at inside line bottom
    (λ k h. cond-true (is_black t (x + k)) 0 (lit_colour t x k) (black k h)))

pub drawn_span : (m n : ℕ) (t : Tia) (x row : ℕ) (picture : List ℕ) → t.beam.clock ≡ 68 + x → x + (m + n) ≤ 160 → t.beam.line ≡ 34 + row → row < 210 →
    ((k : ℕ) → k < m → is_black t (x + k) ≡ true) → ((k : ℕ) → m ≤ k → k < m + n → is_black t (x + k) ≡ false) →
    filled (filled picture (row * 160 + x) m (λ _. 0)) (row * 160 + (x + m)) n (lit_colour t (x + m)) ≡ drawn (trace (m + n) t) picture
drawn_span m n t x row picture at inside line bottom black seen =
    let start = row * 160 + x in
    let colour = λ (k : ℕ). colour_at t (x + k) in
    let first : row * 160 + (x + m) ≡ row * 160 + x + m = omega arith in
    ap (λ p. filled p (row * 160 + (x + m)) n (lit_colour t (x + m)))
    (filled_same picture start m (λ _. 0) colour (λ k h. sym (cond-true (is_black t (x + k)) 0 (lit_colour t x k) (black k h))))
    ∙ ap (λ s. filled (filled picture start m colour) s n (lit_colour t (x + m))) first
    ∙ filled_same (filled picture start m colour) (start + m) n (lit_colour t (x + m)) (λ k. colour (m + k))
    (λ k h.
    let place : x + m + k ≡ x + (m + k) = omega arith in
    ap (λ y. colour_of_lit t (lit_at t y) y) place
    ∙ sym (cond-false (is_black t (x + (m + k))) 0 (lit_colour t x (m + k)) (seen (m + k) (omega arith) (omega arith))))
    ∙ filled_more picture start m n colour
    ∙ sym (drawn_row (m + n) t x row picture colour at inside line bottom (λ k h. refl))
