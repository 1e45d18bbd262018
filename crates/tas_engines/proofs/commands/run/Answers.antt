use Rattle.std.proofs.Common.{ap, refl, inl, inr, Ok, Err, ◌∙◌, map, subst}
use Rattle.std.proofs.KnownBytes.{Keeps-refl}
use Rattle.std.proofs.lemmas.Result.{err_from_is_err_and}
use Rattle.tas_engines.specs.Output.{Ends}
use Rattle.tas_engines.proofs.ReadLemmas.{stops_before, stops_last, whole_last}
use Rattle.tas_engines.proofs.commands.run.Goals as goal

pub returns-in_err-inputs : goal.returns-in_err-inputs
returns-in_err-inputs g c =
    let told = err_from_is_err_and c.from_residual.result c.from_residual.ensures.1 in
    inl (c.in_err-inputs.field-0.0, told.1 ∙ ap Err told.2, stops_before _ _ _ _ c.in_err-inputs.ensures.fault, Keeps-refl _)

pub returns-in_err-read_onto : goal.returns-in_err-read_onto
returns-in_err-read_onto g c =
    let told = err_from_is_err_and c.from_residual-in_err-read_onto.result c.from_residual-in_err-read_onto.ensures.1 in
    inl (c.in_err-read_onto.field-0.0, told.1 ∙ ap Err told.2, stops_last _ _ _ _ _ _ c.in_ok-inputs.ensures.whole c.in_err-read_onto.ensures.fault, Keeps-refl _)

pub returns-in_err-answer : goal.returns-in_err-answer
returns-in_err-answer g c =
    let told = err_from_is_err_and c.from_residual-in_err-answer.result c.from_residual-in_err-answer.ensures.1 in
    let end = Err c.in_err-answer.field-0.0 in
    let ends = subst (λ inputs. Ends (g.C.Command.answers c.args.command.now (map (λ bytes. bytes.items) inputs)) (g.W.Write.contents c.args.output.now) (g.W.Write.contents c.answer.new.output) end) c.as_slice.ensures.value c.in_err-answer.ensures in
    inr (end, told.1 ∙ ap Err told.2, (_, whole_last _ _ _ _ _ _ c.in_ok-inputs.ensures.whole c.in_ok-read_onto.ensures.whole, ends))

pub returns : goal.returns
returns g c =
    let ends = subst (λ inputs. Ends (g.C.Command.answers c.args.command.now (map (λ bytes. bytes.items) inputs)) (g.W.Write.contents c.args.output.now) (g.W.Write.contents c.answer.new.output) (Ok tt)) c.as_slice.ensures.value c.in_ok-answer.ensures in
    inr (Ok tt, refl, (_, whole_last _ _ _ _ _ _ c.in_ok-inputs.ensures.whole c.in_ok-read_onto.ensures.whole, ends))
