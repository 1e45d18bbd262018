use Rattle.std.proofs.Common.{ℕ, ◌∷◌, [], ◌∙◌, ap, arith}
use Rattle.std.specs.List.{list_any}
use Rattle.vcs_cpu.proofs.Addresses.{jump_pointer_bits}
use Rattle.vcs_cpu.proofs.reads.is_jump_pointer_watched.Goals as goal

pub returns : goal.returns
returns g c =
    c.is_either_watched.ensures
    ∙ ap (λ (second : ℕ). list_any (g.B.Watch.is_watched c.args.bus.now) (c.args.address ∷ second ∷ [])) (jump_pointer_bits c.args.address (omega arith))
