use Rattle.std.proofs.lemmas.Grind.{common_steps}
use Rattle.std.proofs.Common.{◌∙◌, ap, sym, subst, arith}
use Rattle.tas_journaling.specs.Receipts.{own_at}
use Rattle.tas_journaling.specs.Shared.{HasSynced}
use Rattle.tas_journaling.proofs.SharedLemmas.{kept_all, kept_less, less_named, begins_all, own_as, seen_on, synced_noted, synced_on, upto_in}
use Rattle.tas_journaling.proofs.shared_journal.KeptJournal.note.Goals as goal

pub invariant_of-self : goal.invariant_of-self
invariant_of-self g c =
    let i = c.self.invariant in
    let seen = seen_on c.self.inside.seat c.meet.new.one c.note.new.seat c.meet.ensures.one c.note.ensures.seat in
    let less = kept_less g.K.JournalName.head g.K.JournalName.first c.self.inside.seat c.meet.new.one c.note.new.seat c.self.inside.journal c.note.new.self c.in-Err.fault i.0 (sym c.in_default.ensures) c.meet.ensures.one c.note.ensures.seat c.note.ensures.first c.in-Err.ensures.fault in (
      less.begins,
      i.1,
      i.2 ∙ ap own_at (sym less.same),
      own_as g.K.JournalName.own c.self.inside.seat c.note.new.seat seen i.3,
      subst (λ k. HasSynced g.J.JournalFile.kept g.K.JournalName.head g.K.JournalName.first c.note.new.seat.front k) (sym less.same)
          (synced_on g.J.JournalFile.kept g.K.JournalName.head g.K.JournalName.first c.self.inside.journal.upto c.self.inside.seat.front c.note.new.seat.front (upto_in _ _ _ _ i.0.lines) seen.seen.begins i.4),
    )

pub invariant_of-self-2 : goal.invariant_of-self-2
invariant_of-self-2 g c =
    let i = c.self.invariant in
    let seen = seen_on c.self.inside.seat c.meet.new.one c.note.new.seat c.meet.ensures.one c.note.ensures.seat in
    let all = kept_all g.K.JournalName.head g.K.JournalName.first c.self.inside.seat c.meet.new.one c.note.new.seat c.self.inside.journal c.note.new.self i.0 (sym c.in_default.ensures) c.meet.ensures.one c.in_default-note.ensures.done in (
      begins_all _ _ c.note.new.seat.front c.self.inside.journal c.note.new.self i.0.first_is c.note.ensures.first all,
      c.give_receipt.ensures.own,
      c.give_receipt.ensures.keeps ∙ ap own_at c.upto-upto.ensures,
      own_as g.K.JournalName.own c.self.inside.seat c.note.new.seat seen i.3,
      synced_noted g.J.JournalFile.kept g.K.JournalName.head g.K.JournalName.first c.note.new.seat.front c.note.new.self (c.note.ensures.first ∙ i.0.first_is) all.noted c.in_default-note.ensures.kept,
    )

pub returns-clause-all : goal.returns-clause-all
returns-clause-all g c =
    kept_all g.K.JournalName.head g.K.JournalName.first c.self.inside.seat c.meet.new.one c.note.new.seat c.self.inside.journal c.note.new.self c.self.invariant.0 (sym c.in_default.ensures) c.meet.ensures.one c.in_default-note.ensures.done

pub returns-in-Err-clause-named : goal.returns-in-Err-clause-named
returns-in-Err-clause-named g c =
    less_named g.K.JournalName.head g.K.JournalName.first c.self.inside.seat c.meet.new.one c.note.new.seat c.self.inside.journal c.note.new.self c.in-Err.fault c.self.invariant.0 (sym c.in_default.ensures) c.meet.ensures.one c.in-Err.ensures.fault

pub returns-in-Some-clause-seat : goal.returns-in-Some-clause-seat
returns-in-Some-clause-seat g c = grind (arith, common_steps)

pub give_receipt-requires-clause-more : goal.give_receipt-requires-clause-more
give_receipt-requires-clause-more g c = grind (arith, common_steps)

pub returns-in-Some-clause-grows : goal.returns-in-Some-clause-grows
returns-in-Some-clause-grows g c = grind (arith, common_steps)

pub returns-in-Err-clause-grows : goal.returns-in-Err-clause-grows
returns-in-Err-clause-grows g c = grind (arith, common_steps)

pub returns-clause-failed : goal.returns-clause-failed
returns-clause-failed g c = grind (arith, common_steps)

pub returns-clause-begins : goal.returns-clause-begins
returns-clause-begins g c = grind (arith, common_steps)

pub returns-clause-grows : goal.returns-clause-grows
returns-clause-grows g c = grind (arith, common_steps)

pub returns-in-Some-clause-failed : goal.returns-in-Some-clause-failed
returns-in-Some-clause-failed g c = grind (arith, common_steps)

pub returns-in-Err-clause-failed : goal.returns-in-Err-clause-failed
returns-in-Err-clause-failed g c = grind (arith, common_steps)
