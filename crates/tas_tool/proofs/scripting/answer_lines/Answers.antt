use Rattle.std.proofs.lemmas.Grind.{common_steps}
use Rattle.std.proofs.Common.{◌≡◌, ◌<◌, ◌++◌, ◌∷◌, [], length, refl, sym, ◌∙◌, arith, rules}
use Rattle.std.proofs.lemmas.Bool.{eqb-true, eqb-false}
use Rattle.std.proofs.lemmas.Result.{err_from_is_err_and}
use Rattle.tas_seat.specs.Turns.{Standing, standing_of}
use Rattle.tas_seat.proofs.HistoryLemmas.{leaves_same, leaves_more}
use Rattle.tas_tool.specs.Scripts.{Turn}
use Rattle.tas_tool.proofs.AloneLemmas.{sees_before, seen_after}
use Rattle.tas_tool.proofs.ScriptLemmas.{reads_none, begun, reads_more, standing_answered, replies_answered, count_more, clear_line, unclear_unsplit, unclear_line, split_length, reads_all, command_leaves, command_turn, unanswered_leaves, desk_stop}
use Rattle.tas_tool.proofs.scripting.answer_lines.Goals as goal

pub loop-rest-init : goal.loop-rest-init
loop-rest-init g c = record {
  left = ([], leaves_same c.args.seat.now c.args.seat.now refl);
  room = omega arith;
  answered = λ own.
      let b = begun (standing_of c.args.seat.now.front) in
      ([], record { reads = reads_none c.args.bytes.now; stands = b.0; number = refl; replies = c.requires.empty ∙ sym b.1 });
}

pub returns-in_default-clause-number : goal.returns-in_default-clause-number
returns-in_default-clause-number g c = c.loop-rest.invariant.left.1.number

pub returns-in_default-clause-answers : goal.returns-in_default-clause-answers
returns-in_default-clause-answers g c = λ own.
    let i = c.loop-rest.invariant in
    let some : 0 < length c.loop-rest.rest.now = omega (arith, eqb-false _ _ (sym c.is_empty.ensures ∙ c.loop-rest-test.true)) in
    let (turns, a) = i.answered own in
    (sees_before c.args.seat.now c.loop-rest.seat i.left.0 i.left.1 own, (turns, c.loop-rest.rest.now, a.reads, a.replies, (a.number, some, unclear_unsplit _ c.in_default.ensures.none)))

pub returns-in_default-parse_line-clause-number : goal.returns-in_default-parse_line-clause-number
returns-in_default-parse_line-clause-number g c = c.loop-rest.invariant.left.1.number

pub returns-in_default-parse_line-clause-answers : goal.returns-in_default-parse_line-clause-answers
returns-in_default-parse_line-clause-answers g c = λ own.
    let i = c.loop-rest.invariant in
    let some : 0 < length c.loop-rest.rest.now = omega (arith, eqb-false _ _ (sym c.is_empty.ensures ∙ c.loop-rest-test.true)) in
    let (turns, a) = i.answered own in (
      sees_before c.args.seat.now c.loop-rest.seat i.left.0 i.left.1 own,
      (turns, c.loop-rest.rest.now, a.reads, a.replies, (a.number, some, unclear_line _ c.in-Some.line.now c.in-Some.after.now c.in-Some.ensures.some.0 c.in-Some.ensures.some.1 c.in_default-parse_line.ensures.none)),
    )

pub returns-in_err-reply-clause-number : goal.returns-in_err-reply-clause-number
returns-in_err-reply-clause-number g c = (unanswered_leaves c.loop-rest.seat c.reply_to_command.new.seat c.in_err-reply.field-0.0 c.in_err-reply.ensures.answer).number ∙ c.loop-rest.invariant.left.1.number

pub returns-in_err-reply-clause-answers : goal.returns-in_err-reply-clause-answers
returns-in_err-reply-clause-answers g c = λ own.
    let i = c.loop-rest.invariant in
    let clear = clear_line c.loop-rest.rest.now c.in-Some.line.now c.in-Some.after.now c.in-Some-parse_line.command c.in-Some.ensures.some.0 c.in-Some.ensures.some.1 c.in-Some-parse_line.ensures.some in
    let mid = sees_before c.loop-rest.seat c.reply_to_command.new.seat [] (unanswered_leaves c.loop-rest.seat c.reply_to_command.new.seat c.in_err-reply.field-0.0 c.in_err-reply.ensures.answer) own in
    let seen = seen_after c.args.seat.now c.loop-rest.seat i.left.0 i.left.1 c.requires.seen in
    let (turns, a) = i.answered mid in
    let p = err_from_is_err_and c.from_residual.result c.from_residual.ensures.1 in
    rw (p.1, p.2) (
      sees_before c.args.seat.now c.loop-rest.seat i.left.0 i.left.1 mid,
      (turns, c.loop-rest.rest.now, a.reads, a.replies, desk_stop c.loop-rest.seat c.reply_to_command.new.seat c.in_err-reply.field-0.0 turns c.loop-rest.rest.now clear c.in_err-reply.ensures.answer seen own),
    )

pub returns-in_err-words-clause-number : goal.returns-in_err-words-clause-number
returns-in_err-words-clause-number g c = (command_leaves _ c.loop-rest.seat c.reply_to_command.new.seat c.in-Some-parse_line.command c.in_ok-reply.reply c.in_ok-reply.ensures.answer).1.number ∙ c.loop-rest.invariant.left.1.number

pub returns-in_err-words-clause-answers : goal.returns-in_err-words-clause-answers
returns-in_err-words-clause-answers g c = λ own.
    let i = c.loop-rest.invariant in
    let clear = clear_line c.loop-rest.rest.now c.in-Some.line.now c.in-Some.after.now c.in-Some-parse_line.command c.in-Some.ensures.some.0 c.in-Some.ensures.some.1 c.in-Some-parse_line.ensures.some in
    let after = command_leaves _ c.loop-rest.seat c.reply_to_command.new.seat c.in-Some-parse_line.command c.in_ok-reply.reply c.in_ok-reply.ensures.answer in
    let mid = sees_before c.loop-rest.seat c.reply_to_command.new.seat after.0 after.1 own in
    let (turns, a) = i.answered mid in
    let p = err_from_is_err_and c.from_residual-in_err-words.result c.from_residual-in_err-words.ensures.1 in
    rw (p.1, p.2) (sees_before c.args.seat.now c.loop-rest.seat i.left.0 i.left.1 mid, (turns, c.loop-rest.rest.now, a.reads, a.replies, clear))

pub returns-in_err-extend_from_slice-clause-number : goal.returns-in_err-extend_from_slice-clause-number
returns-in_err-extend_from_slice-clause-number g c = (command_leaves _ c.loop-rest.seat c.reply_to_command.new.seat c.in-Some-parse_line.command c.in_ok-reply.reply c.in_ok-reply.ensures.answer).1.number ∙ c.loop-rest.invariant.left.1.number

pub returns-in_err-extend_from_slice-clause-answers : goal.returns-in_err-extend_from_slice-clause-answers
returns-in_err-extend_from_slice-clause-answers g c = λ own.
    let i = c.loop-rest.invariant in
    let clear = clear_line c.loop-rest.rest.now c.in-Some.line.now c.in-Some.after.now c.in-Some-parse_line.command c.in-Some.ensures.some.0 c.in-Some.ensures.some.1 c.in-Some-parse_line.ensures.some in
    let after = command_leaves _ c.loop-rest.seat c.reply_to_command.new.seat c.in-Some-parse_line.command c.in_ok-reply.reply c.in_ok-reply.ensures.answer in
    let mid = sees_before c.loop-rest.seat c.reply_to_command.new.seat after.0 after.1 own in
    let (turns, a) = i.answered mid in
    let same : c.extend_from_slice.new.self.items ≡ c.loop-rest.text.items = search rules in
    let p = err_from_is_err_and c.from_residual-in_err-extend_from_slice.result c.from_residual-in_err-extend_from_slice.ensures.1 in
    rw (p.1, p.2) (sees_before c.args.seat.now c.loop-rest.seat i.left.0 i.left.1 mid, (turns, c.loop-rest.rest.now, a.reads, same ∙ a.replies, clear))

pub loop-rest-smaller : goal.loop-rest-smaller
loop-rest-smaller g c = omega (arith, split_length c.loop-rest.rest.now c.in-Some.line.now c.in-Some.after.now c.in-Some.ensures.some.0)

pub loop-rest-preserved : goal.loop-rest-preserved
loop-rest-preserved g c =
    let i = c.loop-rest.invariant in
    let after = command_leaves _ c.loop-rest.seat c.reply_to_command.new.seat c.in-Some-parse_line.command c.in_ok-reply.reply c.in_ok-reply.ensures.answer in
    let shorter = split_length c.loop-rest.rest.now c.in-Some.line.now c.in-Some.after.now c.in-Some.ensures.some.0 in
    let put : c.extend_from_slice.new.self.items ≡ c.loop-rest.text.items ++ c.in_ok-words.words.items = search rules in
    record {
      left = (i.left.0 ++ after.0, leaves_more c.args.seat.now c.loop-rest.seat c.reply_to_command.new.seat i.left.0 after.0 i.left.1 after.1);
      room = omega (arith, i.room, shorter);
      answered = λ own.
          let start : Standing = standing_of c.args.seat.now.front in
          let seen = seen_after c.args.seat.now c.loop-rest.seat i.left.0 i.left.1 c.requires.seen in
          let (turns, a) = i.answered (sees_before c.loop-rest.seat c.reply_to_command.new.seat after.0 after.1 own) in
          let t = command_turn _ c.loop-rest.seat c.reply_to_command.new.seat c.in-Some-parse_line.command c.in_ok-reply.reply c.in_ok-reply.ensures.answer seen own in
          let turn : Turn = record { said = c.in-Some.line.now; command = c.in-Some-parse_line.command; unforeseen = t.0 } in (
            turns ++ turn ∷ [],
            record {
              reads = reads_more _ c.loop-rest.rest.now c.in-Some.line.now c.in-Some.after.now turns turn a.reads refl c.in-Some.ensures.some.0 c.in-Some.ensures.some.1 c.in-Some-parse_line.ensures.some;
              stands = standing_answered start _ _ turns turn c.in_ok-reply.reply a.stands t.2;
              number = omega (arith, a.number, count_more turns turn);
              replies = replies_answered start _ turns turn c.in_ok-reply.reply _ c.in_ok-words.words.items _ a.stands t.1 a.replies c.in_ok-words.ensures put;
            },
          );
    }

pub returns-clause-number : goal.returns-clause-number
returns-clause-number g c = c.loop-rest.invariant.left.1.number

pub returns-clause-answers : goal.returns-clause-answers
returns-clause-answers g c = λ own.
    let i = c.loop-rest.invariant in
    let (turns, a) = i.answered own in
    (sees_before c.args.seat.now c.loop-rest.seat i.left.0 i.left.1 own, (turns, reads_all _ _ turns (omega (arith, eqb-true _ _ (sym c.is_empty.ensures ∙ c.loop-rest-test.false))) a.reads, a.replies))

pub overflow_add-number : goal.overflow_add-number
overflow_add-number g c = grind (arith, common_steps)
