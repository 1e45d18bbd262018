-- The address map (Stella Programmer's Guide, "The 2600 Programming Environment", "The PIA (6532)").
use Rattle.std.specs.Prelude.{ℕ, Bool, true, false, ◌&&◌, if◌then◌else◌}
use Rattle.vcs_riot.specs.Address.{is_high}
use Rattle.vcs_machine.specs.declared.address.Region.{Region}
use Rattle.vcs_machine.specs.declared.address.Region.TheVariants.{Cartridge, Ram, PortsAndTimer, Tia}

-- how many addresses the bus tells apart
abbrev pub bus_addresses : ℕ
bus_addresses = 8192

-- what an address selects: with A12 high the cartridge, else with A7 low the TIA, else with A9 low RAM and with A9 high ports and timer
abbrev pub selected : ℕ → Region
selected addr = if is_high 12 addr then Cartridge else (if is_high 7 addr then (if is_high 9 addr then PortsAndTimer else Ram) else Tia)

-- RAM is selected
abbrev pub is_ram : Region → Bool
is_ram Ram = true
is_ram _ = false

-- ports and timer are selected
abbrev pub are_ports_and_timer : Region → Bool
are_ports_and_timer PortsAndTimer = true
are_ports_and_timer _ = false

-- whether an address is one of the timer's, which have A2 high: INTIM's with A0 low, INSTAT's with A0 high
abbrev pub is_timer : ℕ → Bool
is_timer addr = are_ports_and_timer (selected addr) && is_high 2 addr
