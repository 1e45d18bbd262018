-- What contracts see of the program's streams.
use Rattle.std.specs.Prelude.{ℕ, List, Option}

-- the bytes that are left of the input, and those that the output holds, where they are known
pub record StreamBytes : Type 0 where
  pub input : Option (List ℕ)
  pub output : Option (List ℕ)
