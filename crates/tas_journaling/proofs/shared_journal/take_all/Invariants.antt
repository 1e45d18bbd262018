use Rattle.std.proofs.Common.{◌≡◌, ◌≤◌, ◌++◌, length, All}
use Rattle.std.specs.Vec.Iter.{into_iter_items, into_iter_len}
use Rattle.crossbeam_utils.specs.Seq.{cell_view}
use Rattle.tas_journaling.proofs.shared_journal.take_all.Given as goal

abbrev pub invariant-loop-receipt : goal.invariant-loop-receipt
invariant-loop-receipt g l = record {
  rest : l.yielded ++ into_iter_items l.receipt-iterator ≡ l.fn.receipts.items;
  len : into_iter_len l.receipt-iterator ≡ length (into_iter_items l.receipt-iterator);
  own : l.pass.table_id ≡ g.K.JournalName.table;
  same : cell_view l.pass ≡ cell_view l.fn.pass;
  covered : All (λ told. told ≤ (cell_view l.fn.pass).upto) l.yielded;
}
