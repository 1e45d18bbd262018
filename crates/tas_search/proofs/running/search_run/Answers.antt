use Rattle.std.proofs.Common.{ap, inl, inr, refl, Err, ◌∙◌, map, subst}
use Rattle.std.proofs.KnownBytes.{Keeps-refl}
use Rattle.std.proofs.lemmas.Result.{err_from_is_err_and}
use Rattle.tas_engines.proofs.ReadLemmas.{stops_before, stops_last, whole_last}
use Rattle.tas_search.specs.Logs.{log_bytes}
use Rattle.tas_search.specs.SearchRun.{Ends, read_inputs}
use Rattle.tas_search.proofs.running.search_run.Goals as goal

pub returns-in_err-inputs : goal.returns-in_err-inputs
returns-in_err-inputs g c =
    let told = err_from_is_err_and c.from_residual.result c.from_residual.ensures.1 in
    inl (c.in_err-inputs.field-0.0, told.1 ∙ ap Err told.2, stops_before _ _ _ _ c.in_err-inputs.ensures.fault, Keeps-refl _, refl)

pub returns-in_err-read_onto : goal.returns-in_err-read_onto
returns-in_err-read_onto g c =
    let told = err_from_is_err_and c.from_residual-in_err-read_onto.result c.from_residual-in_err-read_onto.ensures.1 in
    inl (c.in_err-read_onto.field-0.0, told.1 ∙ ap Err told.2, stops_last _ _ _ _ _ _ c.in_ok-inputs.ensures.whole c.in_err-read_onto.ensures.fault, Keeps-refl _, refl)

pub returns : goal.returns
returns g c =
    let ends = subst (λ inputs. Ends (λ verdict. verdict.items) (read_inputs c.args.search.now (map (λ bytes. bytes.items) inputs)) (g.W.Write.contents c.args.output.now) (g.W.Write.contents c.answer.new.output) (log_bytes (g.E.Write.contents c.args.errors.now) (g.P.Write.contents c.args.report.now)) (log_bytes (g.E.Write.contents c.answer.new.errors) (g.P.Write.contents c.answer.new.report)) c.answer.result) c.as_slice.ensures.value c.answer.ensures in
    inr (_, whole_last _ _ _ _ _ _ c.in_ok-inputs.ensures.whole c.in_ok-read_onto.ensures.whole, ends)
