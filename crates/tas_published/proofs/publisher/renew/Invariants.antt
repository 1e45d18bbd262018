use Rattle.std.proofs.Common.{◌≡◌}
use Rattle.tas_published.proofs.publisher.renew.Given as goal

abbrev pub invariant-loop : goal.invariant-loop
invariant-loop g l =
    (l.latest.registry ≡ l.initial.latest.registry) × (goal.iterator-loop g).can_next l.iterator' × (goal.iterator-loop g).is_finite l.iterator'
