use Rattle.std.proofs.Common.{Err, ap, inl, inr, length, map, subst, sym, ◌∙◌}
use Rattle.std.proofs.KnownBytes.{Keeps-refl}
use Rattle.std.proofs.lemmas.List.{length-map}
use Rattle.std.proofs.lemmas.Result.{err_from_is_err_and}
use Rattle.tas_engines.specs.Output.{Ends}
use Rattle.tas_engines.proofs.ReadLemmas.{whole_last}
use Rattle.tas_program.specs.Naming.{IsNamedEnd}
use Rattle.tas_program.proofs.NamingLemmas.{stops_in_files, stops_at_last}
use Rattle.tas_program.proofs.naming.named_run.Goals as goal

pub returns-in_err-inputs : goal.returns-in_err-inputs
returns-in_err-inputs g c =
    let told = err_from_is_err_and c.from_residual.result c.from_residual.ensures.1 in
    inl (c.in_err-inputs.field-0.0, told.1 ∙ ap Err told.2, stops_in_files c.args.roles _ _ _ _ c.in_err-inputs.ensures.fault, Keeps-refl _)

pub returns-in_err-read_at : goal.returns-in_err-read_at
returns-in_err-read_at g c =
    let told = err_from_is_err_and c.from_residual-in_err-read_at.result c.from_residual-in_err-read_at.ensures.1 in
    inl (c.in_err-read_at.field-0.0, told.1 ∙ ap Err told.2, stops_at_last c.args.roles _ _ _ _ _ (length c.args.files.now) c.in_err-read_at.field-0.0 (sym (length-map c.args.files.now g.F.Read.remaining)) c.in_ok-inputs.ensures.whole c.in_err-read_at.ensures.fault, Keeps-refl _)

pub returns : goal.returns
returns g c =
    let ends = subst (λ inputs. Ends (g.C.Command.answers c.args.command.now (map (λ bytes. bytes.items) inputs)) (g.W.Write.contents c.args.output.now) (g.W.Write.contents c.answer-done.new.output) c.answer-done.result) c.as_slice-bytes.ensures.value c.answer-done.ensures in
    let named = subst (λ inputs. IsNamedEnd c.args.roles (map (λ bytes. bytes.items) inputs) c.answer-done.result c.name_end.result) c.as_slice-bytes.ensures.value c.name_end.ensures in
    inr (_, whole_last _ _ _ _ _ _ c.in_ok-inputs.ensures.whole c.in_ok-read_at.ensures.whole, (c.answer-done.result, ends, named))
