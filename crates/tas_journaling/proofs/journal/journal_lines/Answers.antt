use Rattle.std.proofs.lemmas.Grind.{common_steps}
use Rattle.std.proofs.Common.{arith}
use Rattle.tas_journaling.proofs.LineLemmas.{lines_next}
use Rattle.tas_journaling.proofs.journal.journal_lines.Goals as goal

pub loop-entry-init : goal.loop-entry-init
loop-entry-init g c = record { number = omega arith; text = c.new-text.ensures.items }

pub loop-entry-preserved : goal.loop-entry-preserved
loop-entry-preserved g c = record {
  number = let so_far = c.loop-entry.invariant.number in omega (arith, so_far);
  text = lines_next c.args.first c.loop-entry.number c.loop-entry.entry-index c.args.entries.now c.entry-item.result c.loop-entry.text.items c.push_entry.new.text.items c.loop-entry-test.true c.entry-item.is
      c.loop-entry.invariant.number c.loop-entry.invariant.text c.in_ok-push_entry.ensures.text;
}

pub returns : goal.returns
returns g c = grind (arith, common_steps)
