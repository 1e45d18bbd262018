use Rattle.std.proofs.Common.{◌/◌, ◌%◌, arith}
use Rattle.tas_language.proofs.PartLemmas.{pair_read, pair_made}
use Rattle.tas_language.proofs.loading.byte_of.Goals as goal

pub returns-in_err-high-clause-none : goal.returns-in_err-high-clause-none
returns-in_err-high-clause-none c =
    rw c.from_residual.ensures
    (λ byte lt is. c.in_err-high.ensures.none (byte / 16) (omega arith) (pair_read byte c.args.first c.args.second is).0)

pub returns-in_err-low-clause-none : goal.returns-in_err-low-clause-none
returns-in_err-low-clause-none c =
    rw c.from_residual-in_err-low.ensures
    (λ byte lt is. c.in_err-low.ensures.none (byte % 16) (omega arith) (pair_read byte c.args.first c.args.second is).1)

pub returns-clause-some : goal.returns-clause-some
returns-clause-some c = pair_made c.in_ok-high.high c.in_ok-low.low c.args.first c.args.second c.in_ok-high.ensures.some.0 c.in_ok-low.ensures.some.0 c.in_ok-high.ensures.some.1 c.in_ok-low.ensures.some.1
