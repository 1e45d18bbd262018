-- The mirrors of a cartridge. Only what is private cites this file.
use Rattle.std.specs.Prelude.{◌≡◌, ℕ, ◌+◌, ◌%◌, ◌≤◌}
use Rattle.vcs_machine.specs.Address.{bus_addresses}

-- a cartridge of so many bytes shows all of them in order from this address on, with A12 high at each
pub record IsMirror (start size : ℕ) : Type 0 where
  pub whole : start % size ≡ 0
  pub first : 4096 ≤ start
  pub last : start + size ≤ bus_addresses
