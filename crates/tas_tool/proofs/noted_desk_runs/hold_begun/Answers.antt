use Rattle.std.proofs.lemmas.Grind.{common_steps}
use Rattle.std.proofs.Common.{sym, subst, arith}
use Rattle.std.specs.Io.KnownBytes.{Appends}
use Rattle.tas_journal.specs.Text.{head_text}
use Rattle.tas_tool.proofs.NotedDeskLemmas.{begun_blank, begun_start, desk_noted, first_seen, head_only}
use Rattle.tas_tool.proofs.noted_desk_runs.hold_begun.Goals as goal

pub unreachable-requires : goal.unreachable-requires
unreachable-requires g c = absurd (omega (arith, c.args.seats.ok.0, c.requires.count.0, c.requires.count.1, c.in_default.ensures.cases.0))

pub hold_noted-requires-clause-blank : goal.hold_noted-requires-clause-blank
hold_noted-requires-clause-blank g c κs within = begun_blank _ c.in-Ok-begin.ensures.first.0 c.in-Ok-begin.ensures.first.1 c.in-Ok-begin.ensures.whole

pub hold_noted-requires-clause-own : goal.hold_noted-requires-clause-own
hold_noted-requires-clause-own g c κs within = (begun_start c.args.movie c.args.seats.items c.pop.new.self.items c.in-Some.own _ _ c.in-Some.ensures.items c.requires.count.1 c.requires.count.0 c.requires.some.0 c.requires.start).1

pub hold_noted-requires-clause-all : goal.hold_noted-requires-clause-all
hold_noted-requires-clause-all g c κs within =
    let is = begun_start c.args.movie c.args.seats.items c.pop.new.self.items c.in-Some.own _ _ c.in-Some.ensures.items c.requires.count.1 c.requires.count.0 c.requires.some.0 c.requires.start in
    (omega (arith, is.2, c.requires.count.0), sym is.2)

pub hold_noted-requires-clause-some : goal.hold_noted-requires-clause-some
hold_noted-requires-clause-some g c κs within =
    let is = begun_start c.args.movie c.args.seats.items c.pop.new.self.items c.in-Some.own _ _ c.in-Some.ensures.items c.requires.count.1 c.requires.count.0 c.requires.some.0 c.requires.start in
    (omega (arith, is.2, c.requires.some.0), omega (arith, is.2, c.requires.some.1))

pub hold_noted-requires-clause-seen : goal.hold_noted-requires-clause-seen
hold_noted-requires-clause-seen g c κs within d =
    let is = begun_start c.args.movie c.args.seats.items c.pop.new.self.items c.in-Some.own _ _ c.in-Some.ensures.items c.requires.count.1 c.requires.count.0 c.requires.some.0 c.requires.start in
    first_seen c.args.movie c.pop.new.self.items d is.0.has

pub hold_noted-requires-clause-numbers : goal.hold_noted-requires-clause-numbers
hold_noted-requires-clause-numbers g c κs within =
    (begun_start c.args.movie c.args.seats.items c.pop.new.self.items c.in-Some.own _ _ c.in-Some.ensures.items c.requires.count.1 c.requires.count.0 c.requires.some.0 c.requires.start).0.numbers

pub hold_noted-requires-clause-others : goal.hold_noted-requires-clause-others
hold_noted-requires-clause-others g c κs within =
    (begun_start c.args.movie c.args.seats.items c.pop.new.self.items c.in-Some.own _ _ c.in-Some.ensures.items c.requires.count.1 c.requires.count.0 c.requires.some.0 c.requires.start).0.others

pub hold_noted-requires-clause-zones : goal.hold_noted-requires-clause-zones
hold_noted-requires-clause-zones g c κs within =
    (begun_start c.args.movie c.args.seats.items c.pop.new.self.items c.in-Some.own _ _ c.in-Some.ensures.items c.requires.count.1 c.requires.count.0 c.requires.some.0 c.requires.start).0.zones

pub returns-in-Err-hold_noted-clause-fault : goal.returns-in-Err-hold_noted-clause-fault
returns-in-Err-hold_noted-clause-fault g c =
    head_only c.args.movie (g.J.Write.contents c.args.file) _ _ (subst (λ b. Appends (g.J.Write.contents c.args.file) b (head_text c.args.movie)) (sym c.in-Err-hold_noted.ensures.refused) c.in-Ok-begin.ensures.head) c.run_fault-in-Err-hold_noted.ensures

pub returns-in-Ok-hold_noted-clause-history : goal.returns-in-Ok-hold_noted-clause-history
returns-in-Ok-hold_noted-clause-history g c =
    let is = begun_start c.args.movie c.args.seats.items c.pop.new.self.items c.in-Some.own _ _ c.in-Some.ensures.items c.requires.count.1 c.requires.count.0 c.requires.some.0 c.requires.start in
    desk_noted g.D.Door.facts g.J.JournalFile.kept c.in-Ok-begin.journal.bytes c.args.movie _ _ _ (g.J.Write.contents c.args.file) _ _ c.in-Ok-begin.ensures.head (c.in-Ok-hold_noted.ensures.history c.args.movie is.0.has)

pub returns-in-Err-clause-unopened : goal.returns-in-Err-clause-unopened
returns-in-Err-clause-unopened g c = grind (arith, common_steps)

pub returns-in_default-new-clause-fault : goal.returns-in_default-new-clause-fault
returns-in_default-new-clause-fault g c = grind (arith, common_steps)
