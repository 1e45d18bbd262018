-- The cartridge's bytes as the bus shows them.
use Rattle.std.proofs.Common.{◌≡◌, ℕ, ◌+◌, ◌/◌, ◌%◌, ◌==◌, ◌<◌, ◌≤◌, ◌∙◌, arith, true, length, slice_index, ap, sym, refl}
use Rattle.vcs_riot.specs.Address.{is_high}
use Rattle.vcs_riot.specs.Chip.{byte_at}
use Rattle.vcs_machine.specs.declared.address.Region.{Region}
use Rattle.vcs_machine.specs.declared.address.Region.TheVariants as region
use Rattle.vcs_machine.specs.Address.{selected}
use Rattle.vcs_machine.specs.Bus.{Board, byte_of, board_byte_at}
use Rattle.vcs_machine.proofs.Selecting.{by_lines, lines_of_ram}

-- with A12 high a board shows the byte at the address's place in the cartridge
pub shown-rom : (b : Board) (addr place : ℕ) → is_high 12 addr ≡ true → addr % length b.rom ≡ place → slice_index b.rom place ≡ board_byte_at b addr
shown-rom b addr place high is =
    let selects : selected addr ≡ region.Cartridge = rw high refl in
    sym (ap (λ s. byte_of s b addr) selects ∙ ap (λ k. slice_index b.rom k) is)

-- a byte of RAM is what is shown where RAM is selected
pub shown-ram : (b : Board) (addr place : ℕ) → selected addr ≡ region.Ram → addr % 128 ≡ place → slice_index b.riot.ram place ≡ board_byte_at b addr
shown-ram b addr place ram is =
    let shown : slice_index b.riot.ram (addr % 128) ≡ byte_at addr b.pins b.riot = rw (lines_of_ram addr ram).upper refl in
    ap (λ k. slice_index b.riot.ram k) (sym is) ∙ shown ∙ sym (ap (λ s. byte_of s b addr) ram)

-- the lines that tell what is selected, by the numbers that they make
abbrev by_numbers : ℕ → ℕ → ℕ → Region
by_numbers top chip upper = by_lines (top == 1) (chip == 1) (upper == 1)

-- the two addresses after one of RAM's first 125 are RAM's, too
pub ram_beside : (addr k : ℕ) → selected addr ≡ region.Ram → addr % 128 < 125 → k ≤ 2 → addr < 65536 → selected ((addr + k) % 65536) ≡ region.Ram
ram_beside addr k ram few near fits =
    let next = (addr + k) % 65536 in
    let top : next / 4096 % 2 ≡ addr / 4096 % 2 = omega (arith, few, near, fits) in
    let chip : next / 128 % 2 ≡ addr / 128 % 2 = omega (arith, few, near, fits) in
    let upper : next / 512 % 2 ≡ addr / 512 % 2 = omega (arith, few, near, fits) in
    ap (λ n. by_numbers n (next / 128 % 2) (next / 512 % 2)) top
    ∙ ap (λ n. by_numbers (addr / 4096 % 2) n (next / 512 % 2)) chip
    ∙ ap (λ n. by_numbers (addr / 4096 % 2) (addr / 128 % 2) n) upper ∙ ram
