use Rattle.std.proofs.lemmas.Grind.{common_steps}
use Rattle.std.proofs.Common.{◌-◌, ◌∙◌, ℕ, ap, arith}
use Rattle.tas_journal.specs.Text.{entry_lines}
use Rattle.tas_journaling.specs.Journals.{JournalContent, journaled}
use Rattle.tas_journaling.proofs.NoteLemmas.{part_as}
use Rattle.tas_journaling.proofs.journal.Journal.note_entries.Goals as goal

pub returns-in-Err-clause-cut : goal.returns-in-Err-clause-cut
returns-in-Err-clause-cut g c =
    part_as c.args.self.now _ (g.J.Write.contents c.append.new.file) c.as_slice.result.now (entry_lines (c.args.self.now.upto - c.args.self.now.first) (journaled c.args.entries.now)) c.in-Err.fault c.self.view_is
    (c.as_slice.ensures.value ∙ c.in-Ok.ensures ∙ ap (λ (n : ℕ). entry_lines n (journaled c.args.entries.now)) (c.saturating_sub-number.ensures ∙ ap (λ (j : JournalContent). j.upto - j.first) c.self.view_is)) c.in-Err.ensures.cut

pub journal_lines-requires : goal.journal_lines-requires
journal_lines-requires g c = grind (arith, common_steps)

pub returns-clause-first : goal.returns-clause-first
returns-clause-first g c = grind (arith, common_steps)

pub returns-in-Err-clause-kept : goal.returns-in-Err-clause-kept
returns-in-Err-clause-kept g c = grind (arith, common_steps)

pub returns-in-Err-clause-first : goal.returns-in-Err-clause-first
returns-in-Err-clause-first g c = grind (arith, common_steps)
