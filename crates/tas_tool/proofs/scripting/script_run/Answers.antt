use Rattle.std.proofs.Common.{ap, ◌∙◌, refl, Ok, Err}
use Rattle.std.proofs.lemmas.Result.{err_from_is_err_and}
use Rattle.tas_tool.proofs.ScriptLemmas.{script_ran}
use Rattle.tas_tool.proofs.scripting.script_run.Goals as goal

pub returns-in_err-run_script : goal.returns-in_err-run_script
returns-in_err-run_script g c =
    let told = err_from_is_err_and c.from_residual-in_err-run_script.result c.from_residual-in_err-run_script.ensures.1 in
    script_ran _ _ _ _ _ c.as_slice.result.now (Err c.in_err-run_script.field-0.0) _ c.in_ok-bytes.ensures.whole c.as_slice.ensures.value c.in_err-run_script.ensures (told.1 ∙ ap Err told.2)

pub returns : goal.returns
returns g c = script_ran _ _ _ _ _ c.as_slice.result.now (Ok tt) _ c.in_ok-bytes.ensures.whole c.as_slice.ensures.value c.in_ok-run_script.ensures refl
