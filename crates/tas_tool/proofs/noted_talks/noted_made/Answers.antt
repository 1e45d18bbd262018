use Rattle.std.proofs.Common.{◌∙◌}
use Rattle.tas_tool.proofs.NotedLemmas.{kept_made, noted_made, noted_number, noted_unbegun}
use Rattle.tas_tool.proofs.noted_talks.noted_made.Goals as goal

pub returns-in-Ok-clause-number : goal.returns-in-Ok-clause-number
returns-in-Ok-clause-number g c = noted_number c.start_noted.new.seat c.converse_noted-end.new.seat _ _ c.converse_noted-end.result c.converse_noted-end.ensures.talk ∙ c.start_noted.ensures.number

pub returns-in-Ok-clause-talk : goal.returns-in-Ok-clause-talk
returns-in-Ok-clause-talk g c = λ own.
    rw c.into_file.ensures.bytes
    (noted_made c.args.seat.now c.start_noted.new.seat c.converse_noted-end.new.seat c.args.movie (g.J.Write.contents c.args.file) _ _ c.converse_noted-end.result c.in-Ok.ensures.started c.start_noted.ensures.zone c.requires.zone.0 c.requires.zone.1 c.in-Ok.ensures.head
    c.converse_noted-end.ensures.talk c.converse_noted-end.ensures.first own)

pub returns-in-Ok-clause-kept : goal.returns-in-Ok-clause-kept
returns-in-Ok-clause-kept g c = λ own.
    rw c.into_file.ensures.bytes
    (kept_made c.args.seat.now c.start_noted.new.seat c.converse_noted-end.new.seat c.args.movie (g.J.Write.contents c.args.file) _ _ c.converse_noted-end.result (g.J.JournalFile.kept c.converse_noted-end.new.journal.bytes) c.in-Ok.ensures.started c.start_noted.ensures.zone
    c.requires.zone.0 c.requires.zone.1 c.in-Ok.ensures.head c.converse_noted-end.ensures.talk c.converse_noted-end.ensures.first own c.into_file.ensures.kept)

pub returns-in-Err-clause-talk : goal.returns-in-Err-clause-talk
returns-in-Err-clause-talk g c = λ own. noted_unbegun _ _ _ _ _ c.in-Err.fault (c.in-Err.ensures.fault own)
