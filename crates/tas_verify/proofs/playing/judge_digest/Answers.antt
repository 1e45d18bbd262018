use Rattle.std.proofs.Common.{List, ℕ, inl, inr, subst}
use Rattle.tas_verify.specs.Rows.{IsPlayed}
use Rattle.tas_verify.proofs.playing.judge_digest.Goals as goal

pub returns-in-Ok : goal.returns-in-Ok
returns-in-Ok g c image text are =
    inr (c.in-Ok.stored.items, c.in-Ok.ensures.read, subst (λ (s : List ℕ). IsPlayed text image s c.play.result.outcome) c.as_slice.ensures.value (c.play.ensures image text are))

pub returns-in-Err : goal.returns-in-Err
returns-in-Err g c image text are = inl c.in-Err.ensures.fault
