use Rattle.std.proofs.Common.{◌≡◌, ℕ, ◌+◌, ◌%◌, ◌<◌, ◌∙◌, length, slice_index, ap, sym, refl, arith}
use Rattle.vcs_machine.specs.Inside.Console.{content_of}
use Rattle.vcs_machine.specs.Address.{selected}
use Rattle.vcs_machine.proofs.Selecting.{ram_selected}
use Rattle.vcs_machine.proofs.Fetching.{shown-rom, shown-ram, ram_beside}
use Rattle.vcs_machine.proofs.Sizes.{code_shows, code_high, most_bytes}
use Rattle.vcs_machine.proofs.bus.ConsoleBusBus.fetch.Goals as goal

pub returns-then-place-self : goal.returns-then-place-self
returns-then-place-self g c =
    let b = c.args.self.now in
    let pc = c.args.pc in
    let board = (content_of b).board in
    let size = length b.rom.now in
    let place = c.code_place-place.result in
    let start = b.start_is in
    let sides = b.sides_is in
    let side = c.if-place-self.true in
    let most = most_bytes size b.rom_size in
    let last = start.last in
    let from : place + b.start ≡ pc % 8192 = c.code_place-place.ensures (omega (arith, last)) (omega (arith, side, sides, most)) in
    let next : (place + 1) + b.start ≡ (pc + 1) % 65536 % 8192 = omega (arith, from, last, side, sides) in
    let third : (place + 2) + b.start ≡ (pc + 2) % 65536 % 8192 = omega (arith, from, last, side, sides) in
    let shown = λ (k addr : ℕ) (within : k < size) (same : k + b.start ≡ addr % 8192). shown-rom board addr k (code_high size b.start k addr start within same) (code_shows size b.start k addr b.rom_size start within same) in
    record {
      opcode = c.code_at.ensures.first ∙ shown place pc (omega (arith, side, sides)) from;
      low = c.code_at.ensures.second ∙ shown (place + 1) ((pc + 1) % 65536) (omega (arith, side, sides)) next;
      high = c.code_at.ensures.third ∙ shown (place + 2) ((pc + 2) % 65536) (omega (arith, side, sides)) third;
    }

pub returns-then-cell-lt125 : goal.returns-then-cell-lt125
returns-then-cell-lt125 g c =
    let pc = c.args.pc in
    let cell = pc % 128 in
    let board = (content_of c.args.self.now).board in
    let fits : pc < 65536 = omega (arith, c.ranges.pc.fits) in
    let few = c.if-cell-lt125.true in
    let here = ram_selected (selected pc) (sym c.is_ram.ensures ∙ c.if-is_ram.true) in
    let same = λ (k : ℕ). ap (λ bytes. slice_index bytes k) c.ram.ensures in
    record {
      opcode = c.code_at-then-cell-lt125.ensures.first ∙ same cell ∙ shown-ram board pc cell here refl;
      low = c.code_at-then-cell-lt125.ensures.second ∙ same (cell + 1) ∙ shown-ram board ((pc + 1) % 65536) (cell + 1) (ram_beside pc 1 here few (omega arith) fits) (omega (arith, few));
      high = c.code_at-then-cell-lt125.ensures.third ∙ same (cell + 2) ∙ shown-ram board ((pc + 2) % 65536) (cell + 2) (ram_beside pc 2 here few (omega arith) fits) (omega (arith, few));
    }
