use Rattle.std.proofs.Common.{◌≡◌, ◌∙◌, ℕ, ◌+◌, ◌/◌, ◌<◌, ◌≤◌, length, take, subst, vec_len, arith}
use Rattle.vcs_machine.specs.Machine.{after}
use Rattle.tas_green.proofs.RunLemmas.{HasKept, grid_test, near_test, after_more, kept_none, kept_more, most_more, room_now}
use Rattle.tas_green.proofs.WindowLemmas.{few_near, near_kept}
use Rattle.tas_green.proofs.viewing.pass_both.Goals as goal

pub loop-frame-init : goal.loop-frame-init
loop-frame-init g c = record {
  state = c.unpack-state.ensures ∙ c.requires.start;
  rising = c.requires.rising;
  passed = kept_none (grid_test c.args.span.stride) c.args.green.now.items c.args.cart.now c.args.inputs.now c.args.span.start.frame;
  most = omega arith;
  capacity = omega arith;
  window_rising = c.requires.window_rising;
  filled = kept_none (near_test c.args.place) c.args.window.now.items c.args.cart.now c.args.inputs.now c.args.span.start.frame;
  window_capacity = omega arith;
  meter = omega arith;
}

pub keep_on_grid-requires-clause-room : goal.keep_on_grid-requires-clause-room
keep_on_grid-requires-clause-room g c = room_now c.args.span.stride c.loop-frame.frame c.args.span.end _ _ c.requires.stride (omega (arith, c.loop-frame-test.true)) (omega (arith, c.requires.room, c.loop-frame.invariant.most, c.loop-frame.invariant.capacity))

pub keep_near-requires-clause-room : goal.keep_near-requires-clause-room
keep_near-requires-clause-room g c =
    let near = near_kept c.args.place c.args.span.start.frame c.loop-frame.frame c.args.cart.now c.args.inputs.now c.args.window.now.items c.loop-frame.window.items c.requires.window_near c.loop-frame.invariant.filled (omega (arith, c.loop-frame-test.true, c.requires.place)) in
    let few = few_near c.args.place c.loop-frame.window.items c.loop-frame.invariant.window_rising near in
    omega (arith, few, c.requires.window_room, c.loop-frame.invariant.window_capacity)

pub loop-frame-preserved : goal.loop-frame-preserved
loop-frame-preserved g c =
    let cart = c.args.cart.now in
    let inputs = c.args.inputs.now in
    let frame = c.loop-frame.frame in
    let lt : frame < length inputs = omega (arith, c.loop-frame-test.true, c.requires.within) in
    let below : frame < c.args.span.end = omega (arith, c.loop-frame-test.true) in
    let next : c.play_unseen.new.state ≡ after cart (take (frame + 1) inputs) = after_more cart inputs frame c.loop-frame.state c.play_unseen.new.state _ c.play_unseen.ensures.state c.loop-frame.invariant.state lt in
    record {
      state = next;
      rising = c.keep_on_grid.ensures.rising;
      passed = kept_more (grid_test c.args.span.stride) c.args.green.now.items c.loop-frame.green.items c.keep_on_grid.new.states.items cart inputs c.args.span.start.frame frame c.args.span.end c.play_unseen.new.state c.loop-frame.auto.frame below next c.loop-frame.invariant.passed c.keep_on_grid.ensures.states;
      most = most_more c.args.span.stride frame c.args.span.end _ _ _ _ c.requires.stride below c.loop-frame.invariant.most c.keep_on_grid.ensures.most;
      capacity = omega (arith, c.loop-frame.invariant.capacity, c.keep_on_grid.ensures.capacity);
      window_rising = c.keep_near.ensures.rising;
      filled = kept_more (near_test c.args.place) c.args.window.now.items c.loop-frame.window.items c.keep_near.new.states.items cart inputs c.args.span.start.frame frame c.args.place c.play_unseen.new.state c.loop-frame.auto.frame (omega (arith, below, c.requires.place)) next c.loop-frame.invariant.filled c.keep_near.ensures.states;
      window_capacity = omega (arith, c.loop-frame.invariant.window_capacity, c.keep_near.ensures.capacity);
      meter = omega (arith, c.play_unseen.ensures.meter, c.loop-frame.invariant.meter, c.loop-frame.auto.frame);
    }

pub returns-clause-passed : goal.returns-clause-passed
returns-clause-passed g c =
    let ended : c.loop-frame.frame ≡ c.args.span.end = omega (arith, c.loop-frame-test.false, c.loop-frame.auto.frame-end, c.requires.order) in
    subst (λ (to : ℕ). HasKept (grid_test c.args.span.stride) c.args.green.now.items c.args.cart.now c.args.inputs.now c.args.span.start.frame to c.loop-frame.green.items) ended c.loop-frame.invariant.passed

pub returns-clause-filled : goal.returns-clause-filled
returns-clause-filled g c =
    let ended : c.loop-frame.frame ≡ c.args.span.end = omega (arith, c.loop-frame-test.false, c.loop-frame.auto.frame-end, c.requires.order) in
    subst (λ (to : ℕ). HasKept (near_test c.args.place) c.args.window.now.items c.args.cart.now c.args.inputs.now c.args.span.start.frame to c.loop-frame.window.items) ended c.loop-frame.invariant.filled

pub returns-clause-most : goal.returns-clause-most
returns-clause-most g c =
    let ended : c.loop-frame.frame ≡ c.args.span.end = omega (arith, c.loop-frame-test.false, c.loop-frame.auto.frame-end, c.requires.order) in
    subst (λ (to : ℕ). vec_len c.loop-frame.green + c.args.span.start.frame / c.args.span.stride ≤ vec_len c.args.green.now + to / c.args.span.stride) ended c.loop-frame.invariant.most

pub returns-clause-state : goal.returns-clause-state
returns-clause-state g c =
    let ended : c.loop-frame.frame ≡ c.args.span.end = omega (arith, c.loop-frame-test.false, c.loop-frame.auto.frame-end, c.requires.order) in
    subst (λ (to : ℕ). c.loop-frame.state ≡ after c.args.cart.now (take to c.args.inputs.now)) ended c.loop-frame.invariant.state
