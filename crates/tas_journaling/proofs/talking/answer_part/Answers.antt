use Rattle.std.proofs.lemmas.Grind.{common_steps}
use Rattle.std.proofs.Common.{[], ◌++◌, ◌∙◌, arith}
use Rattle.tas_seat.specs.Conversations.{talking}
use Rattle.tas_journaling.proofs.TalkLemmas.{at_line, breaks_off, goes_on, memory_ends, no_newline, quits}
use Rattle.tas_journaling.proofs.talking.answer_part.Goals as goal

pub returns-in_default-add-clause-turn : goal.returns-in_default-add-clause-turn
returns-in_default-add-clause-turn g c = λ start first input said holds none way.
    let (held, i) = c.loop-front.invariant.way start first input said holds none way in
    memory_ends g.met.H.Noting.laws start first (talking c.loop-front.seat c.loop-front.draft) c.loop-front.written _ (held ++ c.loop-front.rest.now) i.way

pub returns-in-Ok-None-clause-turn : goal.returns-in-Ok-None-clause-turn
returns-in-Ok-None-clause-turn g c = λ start first input said holds none way.
    let (held, i) = c.loop-front.invariant.way start first input said holds none way in
    let whole = no_newline held c.in-Some.front.now i.none c.in-Some.ensures.some.1 in
    let here = at_line g.met.H.Noting.laws start first (talking c.loop-front.seat c.loop-front.draft) c.loop-front.written _ held c.loop-front.rest.now c.in-Some.front.now c.in-Some.after.now i.way c.in-Some.ensures.some.0 in
    quits g.met.H.Noting.laws start first (talking c.loop-front.seat c.loop-front.draft) (talking c.answer_line.new.seat c.answer_line.new.draft) c.loop-front.written input _ _ c.loop-front.journal c.answer_line.new.journal (held ++ c.in-Some.front.now) c.in-Some.after.now here whole
    ((rw c.in-Ok-None.field-0-is at c.in-Ok-None.ensures.turn) (held ++ c.in-Some.front.now) (c.in-Ok.ensures.added held i.holds) whole)

pub returns-in-Err-clause-turn : goal.returns-in-Err-clause-turn
returns-in-Err-clause-turn g c = λ start first input said holds none way.
    let (held, i) = c.loop-front.invariant.way start first input said holds none way in
    let whole = no_newline held c.in-Some.front.now i.none c.in-Some.ensures.some.1 in
    let here = at_line g.met.H.Noting.laws start first (talking c.loop-front.seat c.loop-front.draft) c.loop-front.written _ held c.loop-front.rest.now c.in-Some.front.now c.in-Some.after.now i.way c.in-Some.ensures.some.0 in
    breaks_off g.met.H.Noting.laws start first (talking c.loop-front.seat c.loop-front.draft) c.answer_line.new.seat c.loop-front.written input _ _ c.loop-front.journal c.answer_line.new.journal _ c.in-Err.fault here
    (c.in-Err.ensures.turn (held ++ c.in-Some.front.now) (c.in-Ok.ensures.added held i.holds) whole c.in-Some.after.now)

pub loop-front-preserved : goal.loop-front-preserved
loop-front-preserved g c = record {
  begun = c.answer_line.ensures.first ∙ c.loop-front.invariant.begun;
  way = λ start first input said holds none way.
      let (held, i) = c.loop-front.invariant.way start first input said holds none way in
      let whole = no_newline held c.in-Some.front.now i.none c.in-Some.ensures.some.1 in
      let here = at_line g.met.H.Noting.laws start first (talking c.loop-front.seat c.loop-front.draft) c.loop-front.written _ held c.loop-front.rest.now c.in-Some.front.now c.in-Some.after.now i.way c.in-Some.ensures.some.0 in (
        [],
        record {
          none = tt;
          holds = c.clear.ensures;
          way = goes_on g.met.H.Noting.laws start first (talking c.loop-front.seat c.loop-front.draft) (talking c.answer_line.new.seat c.answer_line.new.draft) c.loop-front.written c.in-Ok-Some.size input _ _ c.loop-front.journal c.answer_line.new.journal (held ++ c.in-Some.front.now) c.in-Some.after.now here
              ((rw c.in-Ok-Some.field-0-is at c.in-Ok-Some.ensures.turn) (held ++ c.in-Some.front.now) (c.in-Ok.ensures.added held i.holds) whole);
        },
      );
}

pub returns-in_default-add-2-clause-turn : goal.returns-in_default-add-2-clause-turn
returns-in_default-add-2-clause-turn g c = λ start first input said holds none way.
    let (held, i) = c.loop-front.invariant.way start first input said holds none way in
    memory_ends g.met.H.Noting.laws start first (talking c.loop-front.seat c.loop-front.draft) c.loop-front.written _ (held ++ c.loop-front.rest.now) i.way

pub returns-clause-turn : goal.returns-clause-turn
returns-clause-turn g c = λ start first input said holds none way.
    let (held, i) = c.loop-front.invariant.way start first input said holds none way in
    (held ++ c.loop-front.rest.now, no_newline held c.loop-front.rest.now i.none c.in_default.ensures.none, c.in-Ok-add.ensures.added held i.holds, i.way)

pub loop-front-smaller : goal.loop-front-smaller
loop-front-smaller g c = grind (arith, common_steps)

pub loop-front-init : goal.loop-front-init
loop-front-init g c = grind (arith, common_steps)

pub returns-in-Ok-None-clause-first : goal.returns-in-Ok-None-clause-first
returns-in-Ok-None-clause-first g c = grind (arith, common_steps)
