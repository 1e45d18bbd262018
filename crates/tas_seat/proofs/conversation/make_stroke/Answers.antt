use Rattle.std.proofs.lemmas.Result.{err_from_is_err_and}
use Rattle.tas_seat.proofs.ConversationLemmas.{still_at, moved_first, full_first, refused_first, made_at, moved_at, refusal_said, refusal_fault}
use Rattle.tas_seat.proofs.StrokeLemmas.{puts_in_apart}
use Rattle.tas_seat.proofs.conversation.make_stroke.Goals as goal

pub returns-in-Some : goal.returns-in-Some
returns-in-Some g c =
    moved_first g.row.A.Denot c.args.seat.now c.moved_from.new.seat c.args.opened.now c.stroke_len-count.result c.at-at.result c.in-Some.at c.in_ok-at.field-0 c.in_ok-at.ensures c.in-Some.is c.stroke_len-count.ensures.stroke c.at-at.ensures.at

pub returns-then-at-count-gt-MAX_EDITS : goal.returns-then-at-count-gt-MAX_EDITS
returns-then-at-count-gt-MAX_EDITS g c =
    full_first g.row.A.Denot c.args.seat.now c.moved_from.new.seat c.args.opened.now c.stroke_len-count.result c.at-at.result c.in_ok-at.field-0 c.in_ok-at.ensures c.in_default.is c.stroke_len-count.ensures.stroke c.at-at.ensures.at
    c.if-at-count-gt-MAX_EDITS.true

pub returns-in_default-stroke : goal.returns-in_default-stroke
returns-in_default-stroke g c =
    refused_first g.row.A.Denot c.args.seat.now c.moved_from.new.seat c.args.opened.now c.stroke_len-count.result c.at-at.result c.in_ok-at.field-0 c.in_ok-at.ensures c.in_default.is c.stroke_len-count.ensures.stroke
    (puts_in_apart c.args.opened.now.base c.args.opened.now.movie c.in_default-stroke.ensures.memory)
    c.at-at.ensures.at c.if-at-count-gt-MAX_EDITS.false

pub returns-in-Ok-commit : goal.returns-in-Ok-commit
returns-in-Ok-commit g c =
    let there = still_at g.row.A.Denot c.args.seat.now c.moved_from.new.seat c.at-at.result c.in_ok-at.field-0 c.in_ok-at.ensures c.in_default.is in
    made_at g.row.A.Denot c.args.seat.now c.moved_from.new.seat c.commit.new.seat c.args.opened.now c.at-at.result _ c.in-Ok-commit.receipt there.0 c.at-at.ensures.at c.in-Ok-commit.ensures c.in-Ok.ensures.stroke c.in-Ok.ensures.leads

pub returns-in_err-refused_as-in-Err-Refused : goal.returns-in_err-refused_as-in-Err-Refused
returns-in_err-refused_as-in-Err-Refused g c =
    let there = still_at g.row.A.Denot c.args.seat.now c.moved_from.new.seat c.at-at.result c.in_ok-at.field-0 c.in_ok-at.ensures c.in_default.is in
    let p = err_from_is_err_and c.from_residual-in_err-refused_as-in-Err-Refused.result c.from_residual-in_err-refused_as-in-Err-Refused.ensures.1 in
    rw (p.1, p.2)
    (refusal_fault g.row.A.Denot c.args.seat.now c.moved_from.new.seat c.commit.new.seat c.args.opened.now c.at-at.result _ c.in-Err-Refused.error c.refused_as.result _ there.0 c.refused_as.ensures c.in_err-refused_as-in-Err-Refused.was c.at-at.ensures.at
    (rw c.in-Err-Refused.field-0-is at c.in-Err-Refused.ensures) c.in-Ok.ensures.stroke c.in-Ok.ensures.leads)

pub returns-in-Err-Moved : goal.returns-in-Err-Moved
returns-in-Err-Moved g c =
    let there = still_at g.row.A.Denot c.args.seat.now c.moved_from.new.seat c.at-at.result c.in_ok-at.field-0 c.in_ok-at.ensures c.in_default.is in
    moved_at g.row.A.Denot c.args.seat.now c.moved_from.new.seat c.commit.new.seat c.args.opened.now c.at-at.result _ c.in-Err-Moved.at there.0 c.at-at.ensures.at (rw c.in-Err-Moved.field-0-is at c.in-Err-Moved.ensures) c.in-Ok.ensures.stroke
    c.in-Ok.ensures.leads

pub returns-in_ok-refused_as-in-Err-Refused : goal.returns-in_ok-refused_as-in-Err-Refused
returns-in_ok-refused_as-in-Err-Refused g c =
    let there = still_at g.row.A.Denot c.args.seat.now c.moved_from.new.seat c.at-at.result c.in_ok-at.field-0 c.in_ok-at.ensures c.in_default.is in
    refusal_said g.row.A.Denot c.args.seat.now c.moved_from.new.seat c.commit.new.seat c.args.opened.now c.at-at.result _ c.in-Err-Refused.error c.refused_as.result _ there.0 c.refused_as.ensures c.in_ok-refused_as-in-Err-Refused.was c.at-at.ensures.at
    (rw c.in-Err-Refused.field-0-is at c.in-Err-Refused.ensures) c.in-Ok.ensures.stroke c.in-Ok.ensures.leads
