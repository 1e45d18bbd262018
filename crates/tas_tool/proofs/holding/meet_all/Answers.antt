use Rattle.std.proofs.lemmas.Grind.{common_steps}
use Rattle.std.proofs.Common.{◌<◌, length, get_or, subst, arith}
use mathlib.Core.List.{IsPrefix}
use Rattle.tas_published.proofs.PrefixLemmas.{prefix_trans}
use Rattle.tas_desk.specs.Seats.{SeatContent, KeepsZone}
use Rattle.tas_tool.proofs.HoldingLemmas.{seen_twice, set_each, set_past, item_before}
use Rattle.tas_tool.proofs.holding.meet_all.Goals as goal

pub loop-other-preserved : goal.loop-other-preserved
loop-other-preserved g c =
    let i = c.loop-other.other-index in
    let at = c.loop-other.invariant in
    let was = c.args.others.now in
    let low : i < length c.loop-other.others = omega (arith, c.loop-other-test.true) in
    let other = c.meet.new.other in record {
      first = seen_twice c.args.first.now c.loop-other.first c.meet.new.one at.first c.meet.ensures.one;
      done = set_each (λ k d x. KeepsZone (get_or was k d) x) c.loop-other.others i other low at.done
          (λ d. subst (λ (x : SeatContent _). KeepsZone x other) (item_before c.loop-other.others was i c.other-item.result d low at.rest) c.meet.ensures.other);
      met = set_each (λ k d x. IsPrefix c.args.first.now.front x.front) c.loop-other.others i other low at.met
          (λ d. subst (λ l. IsPrefix c.args.first.now.front l) c.meet.ensures.same
          (prefix_trans c.args.first.now.front c.loop-other.first.front c.meet.new.one.front at.first.seen.begins c.meet.ensures.one.seen.begins));
      rest = set_past c.loop-other.others was i other at.rest;
    }

pub offset_bounds-others-other-index : goal.offset_bounds-others-other-index
offset_bounds-others-other-index g c = grind (arith, common_steps)

pub loop-other-init : goal.loop-other-init
loop-other-init g c = grind (arith, common_steps)

pub returns-clause-met : goal.returns-clause-met
returns-clause-met g c = grind (arith, common_steps)
