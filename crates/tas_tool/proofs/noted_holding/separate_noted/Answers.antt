use Rattle.std.proofs.lemmas.Grind.{common_steps}
use Rattle.std.proofs.Common.{arith}
use Rattle.std.proofs.lemmas.List.{nil_from_length}
use Rattle.tas_tool.proofs.HoldingLemmas.{all_moved, room_for_one}
use Rattle.tas_tool.proofs.noted_holding.separate_noted.Goals as goal

pub loop-caller-init : goal.loop-caller-init
loop-caller-init g c =
    let given = c.into_iter-caller-iterator.ensures.into_iter_gives in
    let doors = c.args.doors.now in
    let seats = c.args.back.now.seats in
    let ends = c.args.back.now.ends in
    let receipts = c.args.back.now.receipts in
    let r = c.requires in record {
      rest = given.0;
      len = c.into_iter-caller-iterator.result.rest.ok.0;
      doors = nil_from_length doors.items (omega (arith, doors.ok.0, r.doors.0));
      seats = nil_from_length seats.items (omega (arith, seats.ok.0, r.seats.0));
      ends = nil_from_length ends.items (omega (arith, ends.ok.0, r.ends.0));
      receipts = nil_from_length receipts.items (omega (arith, receipts.ok.0, r.receipts.0));
      doors_len = r.doors.0;
      seats_len = r.seats.0;
      ends_len = r.ends.0;
      receipts_len = r.receipts.0;
      doors_room = r.doors.1;
      seats_room = r.seats.1;
      ends_room = r.ends.1;
      receipts_room = r.receipts.1;
    }

pub push_reserved-requires : goal.push_reserved-requires
push_reserved-requires g c =
    let l = c.loop-caller.invariant in
    room_for_one c.loop-caller.yielded _ c.args.callers.items _ c.in-Some.caller _ _ l.rest c.in-Some.ensures.steps.0 l.doors_len l.doors_room

pub push_reserved-requires-in-loop-caller : goal.push_reserved-requires-in-loop-caller
push_reserved-requires-in-loop-caller g c =
    let l = c.loop-caller.invariant in
    room_for_one c.loop-caller.yielded _ c.args.callers.items _ c.in-Some.caller _ _ l.rest c.in-Some.ensures.steps.0 l.seats_len (omega (arith, l.seats_room))

pub returns-clause-doors : goal.returns-clause-doors
returns-clause-doors g c =
    let l = c.loop-caller.invariant in
    let rest = c.loop-caller.caller-iterator.rest in
    all_moved _ c.loop-caller.yielded rest.items c.args.callers.items _ l.doors (omega (arith, rest.ok.0, c.in-None.ensures.steps.0)) l.rest

pub returns-clause-seats : goal.returns-clause-seats
returns-clause-seats g c =
    let l = c.loop-caller.invariant in
    let rest = c.loop-caller.caller-iterator.rest in
    all_moved _ c.loop-caller.yielded rest.items c.args.callers.items _ l.seats (omega (arith, rest.ok.0, c.in-None.ensures.steps.0)) l.rest

pub returns-clause-ends : goal.returns-clause-ends
returns-clause-ends g c =
    let l = c.loop-caller.invariant in
    let rest = c.loop-caller.caller-iterator.rest in
    all_moved _ c.loop-caller.yielded rest.items c.args.callers.items _ l.ends (omega (arith, rest.ok.0, c.in-None.ensures.steps.0)) l.rest

pub returns-clause-receipts : goal.returns-clause-receipts
returns-clause-receipts g c =
    let l = c.loop-caller.invariant in
    let rest = c.loop-caller.caller-iterator.rest in
    all_moved _ c.loop-caller.yielded rest.items c.args.callers.items _ l.receipts (omega (arith, rest.ok.0, c.in-None.ensures.steps.0)) l.rest

pub loop-caller-preserved : goal.loop-caller-preserved
loop-caller-preserved g c = grind (arith, common_steps) steps 8000000

pub loop-caller-init-derived : goal.loop-caller-init-derived
loop-caller-init-derived g c = grind (arith, common_steps)

pub push_reserved-requires-in-loop-caller-3 : goal.push_reserved-requires-in-loop-caller-3
push_reserved-requires-in-loop-caller-3 g c =
    let l = c.loop-caller.invariant in
    room_for_one c.loop-caller.yielded _ c.args.callers.items _ c.in-Some.caller _ _ l.rest c.in-Some.ensures.steps.0 l.receipts_len l.receipts_room

pub push_reserved-requires-in-loop-caller-2 : goal.push_reserved-requires-in-loop-caller-2
push_reserved-requires-in-loop-caller-2 g c =
    let l = c.loop-caller.invariant in
    room_for_one c.loop-caller.yielded _ c.args.callers.items _ c.in-Some.caller _ _ l.rest c.in-Some.ensures.steps.0 l.ends_len l.ends_room

pub returns-clause-room : goal.returns-clause-room
returns-clause-room g c = grind (arith, common_steps)
