use Rattle.std.proofs.Common.{ℕ, ◌≤◌, subst, sym}
use Rattle.tas_journaling.proofs.CallLemmas.{held_noted, shut_noted}
use Rattle.tas_journaling.proofs.callers.NotedHostVisitorNotedCaller.visit.Goals as goal

pub returns-in_default : goal.returns-in_default
returns-in_default g c = shut_noted g.D.Door.facts g.K.JournalName.first c.args.caller.now.door c.open.new.self c.args.caller.now.seat _ c.in_default.ensures.refused

pub returns : goal.returns
returns g c =
    rw c.into_receipt.ensures
    (held_noted g.D.Door.facts g.K.JournalName.first c.args.caller.now.door c.close.new.self c.args.caller.now.seat c.converse_noted-end.new.seat _ _ _ _ c.new-notes.result c.converse_noted-end.new.journal c.converse_noted-end.result _ c.in-Ok.ensures.input c.in-Ok.ensures.output
    (subst (λ (n : ℕ). g.K.JournalName.first ≤ n) (sym c.new-notes.ensures) c.receipt.ensures.first) c.converse_noted-end.ensures.talk c.call_end-caller.ensures c.close.ensures)
