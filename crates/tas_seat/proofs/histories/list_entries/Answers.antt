use Rattle.std.proofs.Common.{length}
use Rattle.tas_seat.proofs.HistoryTextLemmas.{numbers_fit}
use Rattle.tas_seat.proofs.histories.list_entries.Goals as goal

pub entry_lines-requires : goal.entry_lines-requires
entry_lines-requires g c = numbers_fit c.args.from c.args.at (length c.args.entries.now) c.ranges.from.fits c.ranges.at.fits c.requires
