-- A `&Refusing` in memory: its row, its type arguments, and where the gate and the inner allocator lie.
use Rattle.std.proofs.Common.{ℕ, ◌+◌, [], ◌∷◌}
use Rattle.std.proofs.alloc.Calls.{Al, α}
use mir.Syntax.{Args, a_type, dnil, dcons}
use prog.Memory.{align, up}
use denote.Builtin.{RefOf}
use denote.Param.{bounded, param}
use denote.Signature.{Slot, plain}
use Rattle.refusals.specs.contracts.Refusing as refusing

module _ (inner : Al) where
  abbrev pub arguments : Args
  arguments = bounded (a_type ∷ []) (inner.row, tt) (dcons inner.d (dcons inner.drops dnil))

  abbrev pub self : Slot 2
  self = RefOf (0 ∷ []) tt (plain (λ _. refusing.the_row (param 0 inner.row))) (λ _. tt)

  abbrev pub gate_at : ℕ × ℕ → ℕ × ℕ
  gate_at at = (at.0, at.1 + up 8 0)

  abbrev pub inner_at : ℕ × ℕ → ℕ × ℕ
  inner_at at = (at.0, at.1 + up (align (α inner)) (up 8 0 + 16))
