use Rattle.std.proofs.lemmas.Grind.{common_steps}
use Rattle.std.proofs.Common.{ℕ, [], take, None, ap, refl, ◌∙◌, arith, rules}
use Rattle.tas_seat.specs.Conversations.{talking}
use Rattle.tas_journaling.proofs.TalkLemmas.{begins, last_ends, memory_ends, reads_on, reads_out, unread}
use Rattle.tas_journaling.proofs.talking.converse_noted.Goals as goal

pub returns-in_default-clause-talk : goal.returns-in_default-clause-talk
returns-in_default-clause-talk g c = memory_ends g.met.H.Noting.laws c.args.seat.now _ (talking c.args.seat.now None) 0 _ [] (begins g.met.H.Noting.laws c.args.seat.now _)

pub loop-init : goal.loop-init
loop-init g c = record {
  first = refl;
  way = ([], record { none = tt; holds = c.in-Ok.ensures; way = begins g.met.H.Noting.laws c.args.seat.now _ });
  next = search rules;
}

pub returns-in_default-read-clause-talk : goal.returns-in_default-read-clause-talk
returns-in_default-read-clause-talk g c =
    let (said, i) = c.loop.invariant.way in
    unread g.met.H.Noting.laws c.args.seat.now _ (talking c.loop.seat c.loop.draft) c.loop.written _ _ _ c.loop.journal said i.way i.none c.in_default-read.ensures.bytes

pub returns-then-count-eq0-clause-talk : goal.returns-then-count-eq0-clause-talk
returns-then-count-eq0-clause-talk g c =
    let (said, i) = c.loop.invariant.way in
    last_ends g.met.H.Noting.laws c.args.seat.now _ (talking c.loop.seat c.loop.draft) c.loop.written _ _ _ c.loop.journal said c.answer_last.result
    (reads_out g.met.H.Noting.laws c.args.seat.now _ (talking c.loop.seat c.loop.draft) c.loop.written _ _ _ c.loop.journal said (take c.in-Ok-read.count c.read.new.buf) i.way c.in-Ok-read.ensures.bytes.0 (ap (λ (n : ℕ). take n c.read.new.buf) c.if-count-eq0.true)) i.none
    (c.in-Ok-read.ensures.bytes.1 c.if-count-eq0.true (omega arith)) (c.answer_last.ensures.out said i.holds) (c.answer_last.ensures.fault said i.holds)

pub loop-preserved : goal.loop-preserved
loop-preserved g c = record {
  first = c.in-Ok-Some.ensures.first ∙ c.loop.invariant.first;
  way =
      let (said, i) = c.loop.invariant.way in
      let here = reads_on g.met.H.Noting.laws c.args.seat.now _ (talking c.loop.seat c.loop.draft) c.loop.written _ _ _ c.loop.journal said (take c.in-Ok-read.count c.read.new.buf) i.way c.in-Ok-read.ensures.bytes.0 in
      let (held, none, holds, way) = (rw c.in-Ok-Some.field-0-is at c.in-Ok-Some.ensures.turn) c.args.seat.now _ _ said i.holds i.none here in
      (held, record { none = none; holds = holds; way = way });
  next = search rules;
}

pub returns-in-Ok-None-clause-talk : goal.returns-in-Ok-None-clause-talk
returns-in-Ok-None-clause-talk g c =
    let (said, i) = c.loop.invariant.way in
    (rw c.in-Ok-None.field-0-is at c.in-Ok-None.ensures.turn) c.args.seat.now _ _ said i.holds i.none
    (reads_on g.met.H.Noting.laws c.args.seat.now _ (talking c.loop.seat c.loop.draft) c.loop.written _ _ _ c.loop.journal said (take c.in-Ok-read.count c.read.new.buf) i.way c.in-Ok-read.ensures.bytes.0)

pub returns-in-Err-clause-talk : goal.returns-in-Err-clause-talk
returns-in-Err-clause-talk g c =
    let (said, i) = c.loop.invariant.way in
    c.in-Err.ensures.turn c.args.seat.now _ _ said i.holds i.none
    (reads_on g.met.H.Noting.laws c.args.seat.now _ (talking c.loop.seat c.loop.draft) c.loop.written _ _ _ c.loop.journal said (take c.in-Ok-read.count c.read.new.buf) i.way c.in-Ok-read.ensures.bytes.0)

pub loop-init-derived : goal.loop-init-derived
loop-init-derived g c = grind (arith, common_steps)

pub returns-then-count-eq0-clause-first : goal.returns-then-count-eq0-clause-first
returns-then-count-eq0-clause-first g c = grind (arith, common_steps)

pub returns-in-Ok-None-clause-first : goal.returns-in-Ok-None-clause-first
returns-in-Ok-None-clause-first g c = grind (arith, common_steps)

pub returns-in-Err-clause-first : goal.returns-in-Err-clause-first
returns-in-Err-clause-first g c = grind (arith, common_steps)

pub unreachable-requires : goal.unreachable-requires
unreachable-requires g c = grind (arith, common_steps)

pub returns-in_default-read-clause-first : goal.returns-in_default-read-clause-first
returns-in_default-read-clause-first g c = grind (arith, common_steps)
