-- Cartridges.
use Rattle.std.specs.Prelude.{◌≡◌, ℕ, ◌%◌, ◌==◌, ◌||◌, Bool, true, false, List, length, slice_index}
use Rattle.vcs_inputs.specs.declared.cart.CartError.{CartError}
use Rattle.vcs_inputs.specs.declared.cart.CartError.TheVariants.{Size, Memory}

-- how many bytes a small cartridge has
abbrev pub small_cart_size : ℕ
small_cart_size = 2048

-- how many bytes a cartridge has that isn't small
abbrev pub cart_size : ℕ
cart_size = 4096

-- how many bytes a cartridge has
abbrev pub is_cart_size : ℕ → Bool
is_cart_size n = n == small_cart_size || n == cart_size

-- the byte that a cartridge shows at an address: it is seen over and over again
abbrev pub rom_byte : List ℕ → ℕ → ℕ
rom_byte rom addr = slice_index rom (addr % length rom)

-- `Size` has the number of bytes and comes where that is wrong; `Memory` comes only where it is right
abbrev pub IsRightCartError : List ℕ → CartError → Type 0
IsRightCartError bytes (Size n) = (n ≡ length bytes) × (is_cart_size (length bytes) ≡ false)
IsRightCartError bytes Memory = is_cart_size (length bytes) ≡ true
