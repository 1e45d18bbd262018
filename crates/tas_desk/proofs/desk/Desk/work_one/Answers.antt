use Rattle.std.proofs.Common.{◌≡◌, length, ap, ◌∙◌, inl, inr, Err, arith}
use Rattle.std.proofs.lemmas.Grind.{common_steps}
use Rattle.tas_session.specs.declared.replies.OfferError.TheVariants.{Cartridge}
use Rattle.tas_desk.proofs.SeatLemmas.{looked_twice}
use Rattle.tas_desk.proofs.WorkLemmas.{never_stale, job_done, job_stale}
use Rattle.tas_desk.proofs.desk.Desk.work_one.Goals as goal

pub returns-in-Ok-clause-seat : goal.returns-in-Ok-clause-seat
returns-in-Ok-clause-seat g c = looked_twice _ _ _ c.job.ensures.seat c.offer.ensures.seat

pub returns-in-Err-Cartridge-clause-seat : goal.returns-in-Err-Cartridge-clause-seat
returns-in-Err-Cartridge-clause-seat g c = looked_twice _ _ _ c.job.ensures.seat c.offer.ensures.seat

pub returns-clause-seat : goal.returns-clause-seat
returns-clause-seat g c = looked_twice _ _ _ c.job.ensures.seat c.offer.ensures.seat

pub returns-in-Err-Cartridge-clause-current : goal.returns-in-Err-Cartridge-clause-current
returns-in-Err-Cartridge-clause-current g c = λ keeps _.
    let front = c.offer.new.seat.front in
    let same : c.in-Err-Cartridge.field-0 ≡ Cartridge (length front) = elim c.in-Err-Cartridge.ensures.error [ inl same ↦ same | inr memory ↦ cc (memory, c.in-Err-Cartridge.field-0-is) ] in
    never_stale c.args.seat.now.front c.job.new.seat.front front c.run.result.cart c.job.ensures.seat.seen.begins c.offer.ensures.seat.seen.begins
    (c.run.ensures.cart ∙ c.in_ok-job.ensures.job.is.cart) (c.offer.ensures.cartridge.0 (c.in-Err-Cartridge.is ∙ ap Err same)) keeps

pub returns-in-Ok-clause-current : goal.returns-in-Ok-clause-current
returns-in-Ok-clause-current g c = grind (arith, common_steps)

pub returns-in-Ok-clause-done : goal.returns-in-Ok-clause-done
returns-in-Ok-clause-done g c =
    job_done _ c.job.new.seat.front c.offer.new.seat.front c.args.near c.in_ok-job.job c.run.result c.in-Ok.offered c.job.ensures.seat.seen.begins c.offer.ensures.seat.seen.begins c.in_ok-job.ensures.job
    (record { cart = c.run.ensures.cart; inputs = c.run.ensures.inputs; states = c.run.ensures.states }) c.in-Ok.ensures.taken (λ other. let refused = c.offer.ensures.cartridge.1 other in absurd (cc (refused, c.in-Ok.is)))

pub returns-in-Err-Cartridge-clause-done : goal.returns-in-Err-Cartridge-clause-done
returns-in-Err-Cartridge-clause-done g c =
    let front = c.offer.new.seat.front in
    let same : c.in-Err-Cartridge.field-0 ≡ Cartridge (length front) = elim c.in-Err-Cartridge.ensures.error [ inl same ↦ same | inr memory ↦ cc (memory, c.in-Err-Cartridge.field-0-is) ] in
    job_stale _ c.job.new.seat.front front c.args.near c.in_ok-job.job c.run.result c.job.ensures.seat.seen.begins c.offer.ensures.seat.seen.begins c.in_ok-job.ensures.job
    (record { cart = c.run.ensures.cart; inputs = c.run.ensures.inputs; states = c.run.ensures.states }) (c.offer.ensures.cartridge.0 (c.in-Err-Cartridge.is ∙ ap Err same))
