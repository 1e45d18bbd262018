-- Cartridges' files by their SHA-256.
use Rattle.std.specs.Prelude.{ℕ, List, [], ◌∷◌, Option, Some, None, if◌then◌else◌}
use Rattle.std.specs.Str.{bytes_eq}
use Rattle.tas_verify.specs.declared.carts.Cart.{Cart}

-- the name of the first file with this SHA-256
abbrev pub name_of : List Cart → List ℕ → Option (List ℕ)
name_of [] digits = None
name_of (cart ∷ carts) digits = if bytes_eq cart.digits digits then Some cart.name.now else name_of carts digits
