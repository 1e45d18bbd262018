use Rattle.std.proofs.Common.{refl, ap, inl, inr, Err}
use Rattle.tas_program.specs.Files.{ends_of, files_by}
use Rattle.tas_program.specs.declared.status.TaskFault.TheVariants.{Tool}
use Rattle.tas_program.proofs.PairLemmas.{noted_from, seat_left}
use Rattle.tas_program.proofs.desks.note_pairs.Goals as goal

pub note_doors-requires-clause-few : goal.note_doors-requires-clause-few
note_doors-requires-clause-few g c κs within = seat_left c.args.words c.args.name.now c.requires

pub returns-in-Ok-pipes_of : goal.returns-in-Ok-pipes_of
returns-in-Ok-pipes_of g c input =
    inr (inr (noted_from g.F.Folder.steps c.args.name.now (ends_of (files_by (g.F.Folder.bytes_of c.args.folder.now) (g.F.Folder.held_by c.args.folder.now) (g.F.Folder.shown c.args.folder.now)) c.args.words.pairs) _ _ _ _ (record { input = input; output = g.W.Write.contents c.args.output.now }) (record { input = input; output = g.W.Write.contents c.note_doors.new.output }) c.note_doors.result c.in-Ok.ensures.cart c.in-Ok.ensures.movie (c.note_doors.ensures input)))

pub returns-in-Err-pipes_of : goal.returns-in-Err-pipes_of
returns-in-Err-pipes_of g c input = inr (inl (refl, refl))

pub returns-in-Err : goal.returns-in-Err
returns-in-Err g c input = inl (ap (λ fault. Err (Tool fault)) c.in-Err.ensures.fault, refl)
