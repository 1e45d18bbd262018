use Rattle.std.proofs.Common.{Err, ap, inl, refl}
use Rattle.tas_engines.specs.declared.fault.ToolFault.{ToolFault}
use Rattle.tas_program.specs.declared.status.TaskFault.TheVariants.{Tool}
use Rattle.tas_program.specs.Files.{files_by}
use Rattle.tas_program.proofs.SearchLemmas.{recovered}
use Rattle.tas_program.proofs.recovering.recovered_of.Goals as goal

pub returns-in-Ok : goal.returns-in-Ok
returns-in-Ok g c =
    recovered (files_by (g.F.Folder.bytes_of c.args.folder.now) (g.F.Folder.held_by c.args.folder.now) (g.F.Folder.shown c.args.folder.now)) c.args.words _ _ (record { input = g.R.Read.remaining c.args.input.now; output = g.W.Write.contents c.args.output.now })
    (record { input = g.R.Read.remaining c.recover_over.new.input; output = g.W.Write.contents c.recover_over.new.output }) _ c.in-Ok.ensures.file c.recover_over.ensures

pub returns-in-Err : goal.returns-in-Err
returns-in-Err g c = inl (ap (λ (f : ToolFault). Err (Tool f)) c.in-Err.ensures.fault, refl)
