use Rattle.std.proofs.lemmas.Result.{err_from_is_err_and}
use Rattle.tas_seat.proofs.TalkLemmas.{last_none, last_said, last_cut}
use Rattle.tas_seat.proofs.talking.answer_last.Goals as goal

pub returns-then-is_empty : goal.returns-then-is_empty
returns-then-is_empty g c = λ said holds. last_none said _ (c.is_empty.ensures.none c.if-is_empty.true said holds)

pub returns : goal.returns
returns g c = λ said holds. last_said said _ _ (c.is_empty.ensures.some c.if-is_empty.false said holds) c.in_ok-answer_unknown.ensures.out

pub returns-in_err-answer_unknown : goal.returns-in_err-answer_unknown
returns-in_err-answer_unknown g c = λ said holds.
    let p = err_from_is_err_and c.from_residual.result c.from_residual.ensures.1 in
    rw (p.1, p.2) (last_cut said _ _ _ _ (c.is_empty.ensures.some c.if-is_empty.false said holds) c.in_err-answer_unknown.ensures.fault)
