use Rattle.std.proofs.Common.{ℕ, List, length, ap, sym, subst, arith, length-drop}
use Rattle.std.proofs.lemmas.Bool.{eqb-false, eqb-true}
use Rattle.std.proofs.lemmas.List.{take_rest}
use Rattle.byte_text.specs.CutOff.{IsCutOff}
use Rattle.byte_text.specs.Sending.{Buffered, IsSending}
use Rattle.byte_text.specs.declared.counted.WriteFault.{WriteFault}
use Rattle.byte_text.proofs.Sendings.{all_sent, cut_off_by, pushed_sum}
use Rattle.vcs_inputs.specs.declared.input.Input.{Input}
use Rattle.tas_movie.specs.Text.{text2}
use Rattle.tas_movie.proofs.PrintLemmas.{text_begun, head_length, run_sent, none_sent}
use Rattle.tas_movie.proofs.RunTextLemmas.{first_is, run_some}
use Rattle.tas_movie.proofs.printing.write_text.Goals as goal

pub push_head-requires : goal.push_head-requires
push_head-requires g c =
    let empty = ap (λ (o : Buffered). length o.waiting) c.new-out.ensures in
    omega (arith, empty)

pub loop-rest-init : goal.loop-rest-init
loop-rest-init g c =
    let long = ap (λ (l : List Input). length l) c.inputs-rest.ensures.inputs in
    let head = head_length c.cart.result.now c.new-out.result c.push_head.new.out c.new-out.ensures c.push_head.ensures in
    record {
      sending = text_begun (g.W.Write.contents c.args.to.now) c.args.movie.now c.cart.result.now c.inputs-rest.result.now c.new-out.result c.push_head.new.out c.new-out.ensures c.cart.ensures c.inputs-rest.ensures.inputs c.push_head.ensures;
      fits = omega (arith, head, long, c.inputs-rest.ensures.bound);
      bound = omega (arith, long, c.inputs-rest.ensures.bound);
    }

pub make_room-requires-clause-few : goal.make_room-requires-clause-few
make_room-requires-clause-few g c = omega (arith, c.loop-rest.invariant.fits)

pub returns-in-Err-clause-cut : goal.returns-in-Err-clause-cut
returns-in-Err-clause-cut g c = subst (IsCutOff _ _ _) (sym c.written.ensures) (c.in-Err.ensures.fault _ _ _ c.loop-rest.invariant.sending)

pub push_run-requires-clause-few : goal.push_run-requires-clause-few
push_run-requires-clause-few g c = omega (arith, c.run_length-count.ensures.bound, c.loop-rest.invariant.bound)

pub loop-rest-preserved : goal.loop-rest-preserved
loop-rest-preserved g c =
    let rest = c.loop-rest.rest.now in
    let count = c.run_length-count.result in
    let some = eqb-false _ _ (sym c.loop-rest-test.ensures) in
    let le = run_some rest _ count (first_is rest _ some) some c.run_length-count.ensures.longest in
    let cut = ap length (take_rest rest count) in
    let few = c.loop-rest.invariant.bound in
    let start = g.W.Write.contents c.args.to.now in
    let text = text2 c.args.movie.now in
    let sending = c.in_default.ensures.keeps start text _ c.loop-rest.invariant.sending in
    let sum = pushed_sum c.make_room.new.self c.push_run.new.out _ c.push_run.ensures.waits in
    record {
      sending = run_sent start (g.W.Write.contents c.make_room.new.to) text rest _ _ count c.make_room.new.self c.push_run.new.out le c.run_length-count.ensures.same c.run_length-count.ensures.longest (take_rest rest count) sending c.push_run.ensures.waits;
      fits = omega (arith, c.loop-rest.invariant.fits, c.in_default.ensures.count, sum, c.push_run.ensures.short, some, le, c.run_length-count.ensures.bound, cut, length-drop count rest);
      bound = omega (arith, cut, few, length-drop count rest);
    }

pub loop-rest-smaller : goal.loop-rest-smaller
loop-rest-smaller g c =
    let rest = c.loop-rest.rest.now in
    let count = c.run_length-count.result in
    let some = eqb-false _ _ (sym c.loop-rest-test.ensures) in
    let le = run_some rest _ count (first_is rest _ some) some c.run_length-count.ensures.longest in
    let cut = ap length (take_rest rest count) in
    omega (arith, le, some, cut, length-drop count rest)

pub finish-requires : goal.finish-requires
finish-requires g c = omega (arith, c.loop-rest.invariant.fits)

pub returns-clause-all : goal.returns-clause-all
returns-clause-all g c =
    let start = g.W.Write.contents c.args.to.now in
    let now = g.W.Write.contents c.loop-rest.to in
    let text = text2 c.args.movie.now in
    let none = none_sent c.loop-rest.rest.now (eqb-true _ _ (sym c.loop-rest-test.ensures)) in
    let whole = subst (λ (xs : List ℕ). IsSending start now text c.loop-rest.out xs) none c.loop-rest.invariant.sending in
    all_sent start now (g.W.Write.contents c.finish.new.to) text c.loop-rest.out whole c.finish.result c.finish.ensures.all

pub returns-clause-cut : goal.returns-clause-cut
returns-clause-cut g c =
    let start = g.W.Write.contents c.args.to.now in
    let now = g.W.Write.contents c.loop-rest.to in
    let text = text2 c.args.movie.now in
    let none = none_sent c.loop-rest.rest.now (eqb-true _ _ (sym c.loop-rest-test.ensures)) in
    let whole = subst (λ (xs : List ℕ). IsSending start now text c.loop-rest.out xs) none c.loop-rest.invariant.sending in
    cut_off_by (λ (f : WriteFault). f.written) start now (g.W.Write.contents c.finish.new.to) text c.loop-rest.out whole c.finish.result c.finish.ensures.cut
