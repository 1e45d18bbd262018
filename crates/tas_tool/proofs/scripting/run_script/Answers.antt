use Rattle.std.proofs.lemmas.Result.{err_from_is_err_and}
use Rattle.tas_tool.specs.Scripts.{standing_at_start, AnswersFrom}
use Rattle.tas_tool.proofs.ScriptLemmas.{nothing_answered, written, broken_off}
use Rattle.tas_tool.proofs.scripting.run_script.Goals as goal

pub returns-in_default : goal.returns-in_default
returns-in_default g c = nothing_answered c.args.bytes.now _

pub returns-in_err-write_all : goal.returns-in_err-write_all
returns-in_err-write_all g c =
    let p = err_from_is_err_and c.from_residual.result c.from_residual.ensures.1 in
    rw (p.1, p.2)
    (broken_off (AnswersFrom standing_at_start c.args.bytes.now) c.answer_script-end.new.text.items c.as_slice.result.now _ _ c.answer_script-end.result c.in_err-write_all.field-0.0 c.answer_script-end.ensures c.as_slice.ensures.value
    c.in_err-write_all.ensures.fault)

pub returns : goal.returns
returns g c =
    written (AnswersFrom standing_at_start c.args.bytes.now) c.answer_script-end.new.text.items c.as_slice.result.now _ _ c.answer_script-end.result c.answer_script-end.ensures c.as_slice.ensures.value c.in_ok-write_all.ensures.ok
