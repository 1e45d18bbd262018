use Rattle.std.proofs.Common.{◌≡◌, ℕ, ◌-◌, ◌≤◌, List, length, take, drop, ◌⊎◌, inl, inr, refl, sym, ap, ◌∙◌, arith}
use Rattle.std.proofs.lemmas.Result.{IfOk-weaker, MatchResult-weaker}
use Rattle.vcs_inputs.specs.declared.input.Input.{Input}
use Rattle.tas_engines.specs.declared.fault.RunFault.{RunFault}
use Rattle.tas_engines.specs.declared.fault.RunFault.TheVariants.{Memory}
use Rattle.tas_language.specs.declared.reply.Reply.TheVariants.{NoFrame, OutOfMemory}
use Rattle.tas_language.specs.Replies.{reply_text}
use Rattle.tas_language.specs.Answers.{inputs_text}
use Rattle.tas_seat.specs.Turns.{standing_at}
use Rattle.tas_seat.specs.Requests.{inputs_found}
use Rattle.tas_seat.proofs.ReachLemmas.{inputs_there, inputs_none}
use Rattle.tas_seat.proofs.TextLemmas.{made_or_memory}
use Rattle.tas_seat.proofs.requests.list_inputs.Goals.{then-from-to-via-then-from-to, then-from-to-via-else-from-to+then-to-len}
use Rattle.tas_seat.proofs.requests.list_inputs.Goals as goal

pub returns-then-from-to : goal.returns-then-from-to
returns-then-from-to g c =
    let stands = standing_at c.args.movie.now c.args.at in
    let never : c.args.from ≤ c.args.to → c.args.to ≤ length c.args.movie.now.inputs → ⊥ = λ order within. elim c.then-from-to.branch [
      | then-from-to-via-then-from-to w ↦ omega (arith, w.if-from-to.true, order)
      | then-from-to-via-else-from-to+then-to-len w ↦ omega (arith, w.if-to-len.true, within, c.len-len.ensures.len)
    ] in
    let none = inputs_none stands c.args.from c.args.to never in
    MatchResult-weaker c.answer_of_reply.result c.answer_of_reply.ensures (λ bytes is. inl (is ∙ ap (λ (n : ℕ). reply_text (NoFrame c.args.at n)) c.len-len.ensures.len ∙ sym none)) (λ fault e. e)

pub returns : goal.returns
returns g c =
    let movie = c.args.movie.now in
    let from = c.args.from in
    let to = c.args.to in
    let stands = standing_at movie c.args.at in
    let within : to ≤ length movie.inputs = omega (arith, c.if-to-len.false, c.len-len.ensures.len) in
    let there = inputs_there stands from to (omega (arith, c.if-from-to.false)) within in
    made_or_memory (λ (text : List ℕ). (text ≡ inputs_found stands from to) ⊎ (text ≡ reply_text OutOfMemory)) (λ (fault : RunFault). fault ≡ Memory) c.inputs_answer-bytes.result c.answer_or_refusal.result (λ bytes. bytes.items)
    c.answer_or_refusal.ensures
    (IfOk-weaker c.inputs_answer-bytes.result _ _ (λ bytes is. inl (is ∙ ap (λ (l : List Input). inputs_text c.args.at from to (take (to - from) (drop from l))) c.inputs.ensures.inputs ∙ sym there)) c.inputs_answer-bytes.ensures)
    (inr refl) (λ lost. refl)
