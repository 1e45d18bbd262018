use Rattle.std.proofs.Common.{◌≡◌, ℕ, zero, suc, ◌+◌, ◌-◌, ◌%◌, ◌<◌, ◌∙◌, slice_index, ap, sym, refl, arith, rules}
use Rattle.vcs_tia.specs.declared.chip.Tia.{Tia}
use Rattle.vcs_tia.specs.Tia.{read_bytes}
use Rattle.vcs_tia.proofs.chip.Tia.read.Goals as goal

fixed : (k : ℕ) (t : Tia) → k < 4 → slice_index (read_bytes t) (k + 8) ≡ 128
fixed zero t few = refl
fixed (suc zero) t few = refl
fixed (suc (suc zero)) t few = refl
fixed (suc (suc (suc zero))) t few = refl
fixed (suc (suc (suc (suc k)))) t few = absurd (omega arith)

pub returns-in-8 : goal.returns-in-8
returns-in-8 c =
    let place : c.args.addr % 16 ≡ (c.args.addr % 16 - 8) + 8 = omega arith in
    sym (ap (slice_index (read_bytes c.args.self.now)) place ∙ fixed (c.args.addr % 16 - 8) c.args.self.now (omega arith))

pub returns-in-12 : goal.returns-in-12
returns-in-12 c = search rules
