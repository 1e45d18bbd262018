use Rattle.std.proofs.Common.{◌<◌, ℕ, sym, subst, ap, map, ◌∙◌}
use Rattle.std.proofs.lemmas.List.{length-map}
use Rattle.std.proofs.lemmas.Result.{err_from_is_err_and}
use Rattle.tas_engines.specs.Commands.{IsRun}
use Rattle.tas_program.proofs.ProgramLemmas.{over_all, not_over}
use Rattle.tas_program.proofs.running.run_over.Goals as goal

pub returns-in_err-files : goal.returns-in_err-files
returns-in_err-files g c =
    let p = err_from_is_err_and c.from_residual.result c.from_residual.ensures.1 in
    let some = subst (λ (n : ℕ). 0 < n) (sym (length-map c.args.names.now (λ name. g.F.Folder.bytes_of c.args.folder.now name.now))) c.in_err-files.ensures.some in
    rw (p.1, p.2)
    (not_over (g.C.Command.answers c.args.command.now) (map (λ name. g.F.Folder.bytes_of c.args.folder.now name.now) c.args.names.now) (record { input = g.R.Read.remaining c.args.input.now; output = g.W.Write.contents c.args.output.now }) c.in_err-files.field-0.0 some c.in_err-files.ensures.fault)

pub returns : goal.returns
returns g c =
    over_all (IsRun (g.C.Command.answers c.args.command.now)) (map (λ name. g.F.Folder.bytes_of c.args.folder.now name.now) c.args.names.now) _ (map g.F.File.Read.remaining c.run.new.files) (record { input = g.R.Read.remaining c.args.input.now; output = g.W.Write.contents c.args.output.now })
    (record { input = g.R.Read.remaining c.run.new.input; output = g.W.Write.contents c.run.new.output }) c.run.result (ap (map g.F.File.Read.remaining) c.as_mut_slice.ensures.value ∙ c.in_ok-files.ensures.files) c.run.ensures
