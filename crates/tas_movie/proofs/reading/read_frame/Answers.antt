use Rattle.std.proofs.Common.{◌≡◌, List, length, ℕ, Bool, false, Some, ⊎_elim, ap, sym, ◌∙◌}
use Rattle.std.proofs.lemmas.Bool.{cases_Bool, false≢true}
use Rattle.std.specs.Str.{bytes_eq}
use Rattle.tas_movie.specs.Text.{frame_text}
use Rattle.tas_movie.specs.Fault.{shown_input, is_frame}
use Rattle.tas_movie.proofs.TextLemmas.{bytes_same, frame_shown, shown_input-frame, is_frame-frame}
use Rattle.byte_text.proofs.DecimalLemmas.{same_text}
use Rattle.tas_movie.proofs.reading.read_frame.Goals as goal

other_length : (line : List ℕ) → (length line ≡ 17 → ⊥) → is_frame line ≡ false
other_length line other = ⊎_elim (λ t. absurd (other (ap length (sym (frame_shown line t))))) (λ f. f) (cases_Bool (is_frame line))

pub returns-then-line-ne-FRAME_TEXT_SIZE-clause-is_none : goal.returns-then-line-ne-FRAME_TEXT_SIZE-clause-is_none
returns-then-line-ne-FRAME_TEXT_SIZE-clause-is_none c = other_length c.args.line.now c.if-line-ne-FRAME_TEXT_SIZE.true

pub returns-then-eq-clause-all : goal.returns-then-eq-clause-all
returns-then-eq-clause-all c = λ input e. ap Some (c.shown_input-input.ensures ∙ shown_input-frame c.args.line.now input e)

pub returns-then-eq-clause-is_frame : goal.returns-then-eq-clause-is_frame
returns-then-eq-clause-is_frame c =
    is_frame-frame c.args.line.now c.shown_input-input.result (same_text c.args.line.now _ _ c.eq.ensures c.if-eq.true ∙ c.as_slice.ensures ∙ c.print_frame.ensures)

no_frame : (line printed : List ℕ) (same : Bool) → printed ≡ frame_text (shown_input line) → same ≡ bytes_eq line printed → same ≡ false → is_frame line ≡ false
no_frame line printed same printed-is same-is apart =
    ⊎_elim (λ t. absurd (false≢true (sym apart ∙ same-is ∙ bytes_same line printed (sym (printed-is ∙ frame_shown line t))))) (λ f. f) (cases_Bool (is_frame line))

pub returns-else-eq-clause-is_none : goal.returns-else-eq-clause-is_none
returns-else-eq-clause-is_none c =
    no_frame c.args.line.now _ _ (c.as_slice.ensures ∙ c.print_frame.ensures ∙ ap frame_text c.shown_input-input.ensures) c.eq.ensures c.if-eq.false

pub returns-else-eq-clause-all : goal.returns-else-eq-clause-all
returns-else-eq-clause-all c = λ input e.
    absurd (false≢true (sym (no_frame c.args.line.now _ _ (c.as_slice.ensures ∙ c.print_frame.ensures ∙ ap frame_text c.shown_input-input.ensures) c.eq.ensures c.if-eq.false) ∙ is_frame-frame c.args.line.now input e))
