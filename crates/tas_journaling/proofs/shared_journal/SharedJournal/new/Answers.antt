use Rattle.std.proofs.lemmas.Grind.{common_steps}
use Rattle.std.proofs.Common.{◌∙◌, ap, arith}
use Rattle.tas_journaling.specs.Receipts.{own_at}
use Rattle.tas_journaling.proofs.SharedLemmas.{begins_blank, own_as, synced_blank}
use Rattle.tas_journaling.proofs.shared_journal.SharedJournal.new.Goals as goal

pub invariant_of-new : goal.invariant_of-new
invariant_of-new g c =
    let blank = c.is_blank.ensures.blank.0 c.if-not-is_blank.false in
    let begins = begins_blank g.K.JournalName.head g.K.JournalName.first _ c.meet-at.new.one.front c.args.journal c.requires.head c.requires.first blank c.meet-at.ensures.at in (
      begins,
      c.give_receipt.ensures.own,
      c.give_receipt.ensures.keeps ∙ ap own_at c.upto.ensures,
      own_as g.K.JournalName.own c.args.seat c.meet-at.new.one c.meet-at.ensures.one c.requires.own,
      synced_blank g.J.JournalFile.kept g.K.JournalName.head g.K.JournalName.first c.meet-at.new.one.front c.args.journal begins blank.whole (c.is_blank.ensures.kept c.if-not-is_blank.false),
    )

pub returns-then-not-is_blank-clause-refused : goal.returns-then-not-is_blank-clause-refused
returns-then-not-is_blank-clause-refused g c = grind (arith, common_steps)

pub give_receipt-requires-clause-more : goal.give_receipt-requires-clause-more
give_receipt-requires-clause-more g c = grind (arith, common_steps)
