-- What an address selects, by its lines.
use Rattle.std.proofs.Common.{◌≡◌, ℕ, Bool, true, false, if◌then◌else◌, refl}
use Rattle.vcs_riot.specs.Address.{is_high}
use Rattle.vcs_machine.specs.declared.address.Region.{Region}
use Rattle.vcs_machine.specs.declared.address.Region.TheVariants.{Cartridge, Ram, PortsAndTimer, Tia}
use Rattle.vcs_machine.specs.Address.{selected, is_ram}

abbrev pub by_lines : Bool → Bool → Bool → Region
by_lines top chip upper = if top then Cartridge else (if chip then (if upper then PortsAndTimer else Ram) else Tia)

-- the lines A12, A7 and A9 of the RIOT's addresses, of which the last one tells RAM from ports and timer
pub record AreRiot (a b c is : Bool) : Type 0 where
  pub top : a ≡ false
  pub chip : b ≡ true
  pub upper : c ≡ is

ram_lines : (a b c : Bool) → by_lines a b c ≡ Ram → AreRiot a b c false
ram_lines false true false e = record { top = refl; chip = refl; upper = refl }
ram_lines false true true e = absurd (cc e)
ram_lines false false c e = absurd (cc e)
ram_lines true b c e = absurd (cc e)

port_lines : (a b c : Bool) → by_lines a b c ≡ PortsAndTimer → AreRiot a b c true
port_lines false true true e = record { top = refl; chip = refl; upper = refl }
port_lines false true false e = absurd (cc e)
port_lines false false c e = absurd (cc e)
port_lines true b c e = absurd (cc e)

pub lines_of_ram : (addr : ℕ) → selected addr ≡ Ram → AreRiot (is_high 12 addr) (is_high 7 addr) (is_high 9 addr) false
lines_of_ram addr = ram_lines (is_high 12 addr) (is_high 7 addr) (is_high 9 addr)

pub lines_of_ports : (addr : ℕ) → selected addr ≡ PortsAndTimer → AreRiot (is_high 12 addr) (is_high 7 addr) (is_high 9 addr) true
lines_of_ports addr = port_lines (is_high 12 addr) (is_high 7 addr) (is_high 9 addr)

pub ram_selected : (s : Region) → is_ram s ≡ true → s ≡ Ram
ram_selected Ram e = refl
ram_selected Cartridge e = absurd (cc e)
ram_selected PortsAndTimer e = absurd (cc e)
ram_selected Tia e = absurd (cc e)
