use Rattle.std.proofs.Common.{rules}
use Rattle.std.proofs.lemmas.Bool.Decides.{Decides-at}
use Rattle.vcs_machine.specs.Equality.{are_same_machines, machines_decide}
use Rattle.vcs_machine.proofs.packed.PackedStatePartialEq.eq.Goals as goal

pub returns-then-eq-3-clause-same : goal.returns-then-eq-3-clause-same
returns-then-eq-3-clause-same c =
    let a = c.args.self.now in
    let b = c.args.other.now in
    Decides-at c.eq-then-eq-3.result (are_same_machines a b) (search rules) (machines_decide a b)

pub returns-else-eq-3-clause-same : goal.returns-else-eq-3-clause-same
returns-else-eq-3-clause-same c =
    let a = c.args.self.now in
    let b = c.args.other.now in
    Decides-at c.if-eq-2.value (are_same_machines a b) (search rules) (machines_decide a b)
