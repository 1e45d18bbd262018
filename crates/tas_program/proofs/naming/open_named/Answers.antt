use Rattle.std.proofs.Common.{Err, IfErr, ap, arith, inl, length, map, subst, sym, ◌∙◌}
use Rattle.std.proofs.lemmas.Result.{err_from_is_err_and}
use lib.Seq.{take_all}
use Rattle.tas_program.specs.Naming.{IsUnopened}
use Rattle.tas_program.proofs.ProgramLemmas.{opened_more}
use Rattle.tas_program.proofs.naming.open_named.Goals as goal

pub loop-k-preserved : goal.loop-k-preserved
loop-k-preserved g c =
    opened_more g.F.File.Read.remaining (λ name. g.F.Folder.bytes_of c.args.folder.now name.now) c.loop-k.files.items c.push.new.self.items c.in_ok-file.file c.args.names.now c.loop-k.k _
    c.loop-k-test.true c.loop-k.invariant c.in_ok-file.ensures.file c.in-Ok.ensures.items

pub returns-in_err-file-clause-fault : goal.returns-in_err-file-clause-fault
returns-in_err-file-clause-fault g c =
    let told = err_from_is_err_and c.from_residual.result c.from_residual.ensures.1 in
    subst (λ r. IfErr r (IsUnopened c.args.roles (length c.args.names.now))) (sym (told.1 ∙ ap Err told.2)) (inl (c.loop-k.k, c.loop-k-test.true, c.in_err-file.ensures.fault))

pub returns-clause-files : goal.returns-clause-files
returns-clause-files g c =
    c.loop-k.invariant ∙ ap (map (λ name. g.F.Folder.bytes_of c.args.folder.now name.now)) (take_all c.loop-k.k c.args.names.now (omega (arith, c.loop-k-test.false)))
