use Rattle.std.proofs.Common.{[], ◌∷◌, ◌++◌, false, refl, ap, ◌∙◌, arith}
use Rattle.std.proofs.lemmas.Result.{err_from_is_err_and}
use Rattle.tas_seat.specs.Talk.{lines_of}
use Rattle.tas_seat.specs.Conversations.{talking}
use Rattle.tas_seat.proofs.TalkLemmas.{nothing_answered, no_newline, text_more, answered_more, line_breaks, line_quits, part_memory, split_length}
use Rattle.tas_seat.proofs.talking.answer_part.Goals as goal

pub loop-front-init : goal.loop-front-init
loop-front-init g c = λ said holds none. ([], said, record { text = refl; none = none; holds = holds; answered = nothing_answered (talking c.args.seat.now c.args.draft.now) c.args.before _ })

pub returns-in_err-add : goal.returns-in_err-add
returns-in_err-add g c = λ said holds none.
    let (xs, part, i) = c.loop-front.invariant said holds none in
    let p = err_from_is_err_and c.from_residual.result c.from_residual.ensures.1 in
    rw (p.1, p.2) (part_memory (talking c.args.seat.now c.args.draft.now) (talking c.loop-front.seat c.loop-front.draft) xs _ c.loop-front.written _ (part ++ c.loop-front.rest.now) [] false _ _ i.answered i.text)

pub loop-front-preserved : goal.loop-front-preserved
loop-front-preserved g c = λ said holds none.
    let (xs, part, i) = c.loop-front.invariant said holds none in
    let whole = no_newline part c.in-Some.front.now i.none c.in-Some.ensures.some.1 in
    let (x, same, answered) = (rw c.in-Some-2.is at c.in_ok-next.ensures) (part ++ c.in-Some.front.now) (c.in_ok-add.ensures.added part i.holds) whole in (
      xs ++ x ∷ [],
      [],
      record {
        text = text_more _ part c.in-Some.front.now c.in-Some.after.now xs x (i.text ∙ ap (λ l. lines_of xs ++ (part ++ l)) c.in-Some.ensures.some.0) same;
        none = tt;
        holds = c.clear.ensures;
        answered = answered_more _ (talking c.loop-front.seat c.loop-front.draft) (talking c.answer_line.new.seat c.answer_line.new.draft) xs (x ∷ []) _ c.loop-front.written c.in-Some-2.next _ _ _ i.answered answered;
      },
    )

pub returns-in_default-2 : goal.returns-in_default-2
returns-in_default-2 g c = λ said holds none.
    let (xs, part, i) = c.loop-front.invariant said holds none in
    let whole = no_newline part c.in-Some.front.now i.none c.in-Some.ensures.some.1 in
    line_quits (talking c.args.seat.now c.args.draft.now) (talking c.loop-front.seat c.loop-front.draft) (talking c.answer_line.new.seat c.answer_line.new.draft) xs _ c.loop-front.written _ part c.in-Some.front.now c.in-Some.after.now [] false _ _ _ i.answered (i.text ∙ ap (λ l. lines_of xs ++ (part ++ l)) c.in-Some.ensures.some.0) whole
    ((rw c.in_default-2.is at c.in_ok-next.ensures) (part ++ c.in-Some.front.now) (c.in_ok-add.ensures.added part i.holds) whole)

pub returns-in_err-next : goal.returns-in_err-next
returns-in_err-next g c = λ said holds none.
    let (xs, part, i) = c.loop-front.invariant said holds none in
    let whole = no_newline part c.in-Some.front.now i.none c.in-Some.ensures.some.1 in
    let p = err_from_is_err_and c.from_residual-in_err-next.result c.from_residual-in_err-next.ensures.1 in
    rw (p.1, p.2)
    (line_breaks (talking c.args.seat.now c.args.draft.now) (talking c.loop-front.seat c.loop-front.draft) (talking c.answer_line.new.seat c.answer_line.new.draft) xs _ c.loop-front.written _ part c.in-Some.front.now c.in-Some.after.now [] false _ _ _ c.in_err-next.field-0.0 i.answered
    (i.text ∙ ap (λ l. lines_of xs ++ (part ++ l)) c.in-Some.ensures.some.0) (c.in_err-next.ensures (part ++ c.in-Some.front.now) (c.in_ok-add.ensures.added part i.holds) whole))

pub returns : goal.returns
returns g c = λ said holds none.
    let (xs, part, i) = c.loop-front.invariant said holds none in
    (xs, part ++ c.loop-front.rest.now, i.text, no_newline part c.loop-front.rest.now i.none c.in_default.ensures.none, c.in_ok-add-2.ensures.added part i.holds, i.answered)

pub returns-in_err-add-2 : goal.returns-in_err-add-2
returns-in_err-add-2 g c = λ said holds none.
    let (xs, part, i) = c.loop-front.invariant said holds none in
    let p = err_from_is_err_and c.from_residual-in_err-add-2.result c.from_residual-in_err-add-2.ensures.1 in
    rw (p.1, p.2) (part_memory (talking c.args.seat.now c.args.draft.now) (talking c.loop-front.seat c.loop-front.draft) xs _ c.loop-front.written _ (part ++ c.loop-front.rest.now) [] false _ _ i.answered i.text)

pub loop-front-smaller : goal.loop-front-smaller
loop-front-smaller g c = omega (arith, split_length c.loop-front.rest.now c.in-Some.front.now c.in-Some.after.now c.in-Some.ensures.some.0)
