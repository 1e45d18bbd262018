use Rattle.left_right.specs.Sides.{view}
use mathlib.Core.List.{IsPrefix}
use Rattle.tas_published.specs.Published.{KnowsRegistry}
use Rattle.tas_published.proofs.publisher.Publisher.read_latest.Given as goal

abbrev pub invariant-loop : goal.invariant-loop
invariant-loop g l = record {
  knows : KnowsRegistry (view l.reader.place) l.self.registry;
  begins : IsPrefix (view l.initial.reader.place).seen (view l.reader.place).seen;
  next : (goal.iterator-loop g).can_next l.iterator' × (goal.iterator-loop g).is_finite l.iterator';
}
