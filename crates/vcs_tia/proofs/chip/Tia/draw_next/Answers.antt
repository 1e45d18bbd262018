use Rattle.std.proofs.Common.{⊎_elim, sym, arith}
use Rattle.vcs_tia.proofs.Drawing.{drawn_above, drawn_below}
use Rattle.vcs_tia.proofs.Meeting.{with_beam}
use Rattle.vcs_tia.proofs.Parts.{drawn_blank}
use Rattle.vcs_tia.proofs.chip.Tia.draw_next.Goals as goal

pub returns-in_default-clause-picture : goal.returns-in_default-clause-picture
returns-in_default-clause-picture g c =
    let u = with_beam c.args.self.now c.args.beam.now in
    let n = c.clocks_off_picture.result in
    ⊎_elim (λ above. sym (drawn_above n u c.args.picture.now (c.clocks_off_picture.ensures.above above)))
    (λ below. sym (drawn_below n u c.args.picture.now below)) c.in_default.ensures.off

pub returns-then-clock-lt-BLANK_CLOCKS-clause-picture : goal.returns-then-clock-lt-BLANK_CLOCKS-clause-picture
returns-then-clock-lt-BLANK_CLOCKS-clause-picture g c =
    sym (drawn_blank c.min.result (with_beam c.args.self.now c.args.beam.now) c.args.picture.now (omega arith))
