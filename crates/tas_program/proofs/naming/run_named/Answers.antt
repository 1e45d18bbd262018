use Rattle.std.proofs.Common.{Err, ap, length, map, sym, ◌∙◌}
use Rattle.std.proofs.lemmas.List.{length-map}
use Rattle.std.proofs.lemmas.Result.{err_from_is_err_and}
use Rattle.tas_program.proofs.NamingLemmas.{named_over, not_opened}
use Rattle.tas_program.proofs.naming.run_named.Goals as goal

pub returns-in_err-files : goal.returns-in_err-files
returns-in_err-files g c =
    let told = err_from_is_err_and c.from_residual.result c.from_residual.ensures.1 in
    not_opened c.args.roles (g.C.Command.answers c.args.command.now) (map (λ name. g.F.Folder.bytes_of c.args.folder.now name.now) c.args.names.now) (record { input = g.R.Read.remaining c.args.input.now; output = g.W.Write.contents c.args.output.now })
    (length c.args.names.now) c.in_err-files.field-0.0 _ (told.1 ∙ ap Err told.2) (sym (length-map c.args.names.now (λ name. g.F.Folder.bytes_of c.args.folder.now name.now))) c.in_err-files.ensures.fault

pub returns : goal.returns
returns g c =
    named_over c.args.roles (g.C.Command.answers c.args.command.now) (map (λ name. g.F.Folder.bytes_of c.args.folder.now name.now) c.args.names.now) _ (map g.F.File.Read.remaining c.named_run.new.files) (record { input = g.R.Read.remaining c.args.input.now; output = g.W.Write.contents c.args.output.now })
    (record { input = g.R.Read.remaining c.named_run.new.input; output = g.W.Write.contents c.named_run.new.output }) c.named_run.result (ap (map g.F.File.Read.remaining) c.as_mut_slice.ensures.value ∙ c.in_ok-files.ensures.files) c.named_run.ensures
