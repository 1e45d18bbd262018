use Rattle.std.proofs.Common.{◌≡◌, drop}
use Rattle.tas_verify.specs.Carts.{name_of}
use Rattle.tas_verify.proofs.carts.name_of.Given as goal

-- those before this one have other digits
abbrev pub invariant-loop-k : goal.invariant-loop-k
invariant-loop-k l = name_of (drop l.k l.carts) l.digits ≡ name_of l.carts l.digits
