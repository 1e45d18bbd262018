use Rattle.std.proofs.Common.{List, ℕ, All, string_bytes}
use Rattle.tas_program.specs.Verifying.{AreIn, IsIn}
use Rattle.tas_program.proofs.verifying.carts_among.Given as goal

abbrev pub invariant-loop-path : goal.invariant-loop-path
invariant-loop-path g l = (dir : List ℕ) → All (λ path. IsIn dir (string_bytes path)) l.paths → AreIn dir l.carts.items
