-- What a shot and a view leave of a seat's zone.
use Rattle.std.proofs.Common.{◌≡◌, ℕ, List, sym, subst, Result, Ok, Err}
use Rattle.std.specs.Prelude.{IfErr, OnOk}
use Rattle.vcs_cpu.specs.declared.halt.Halt.{Halt}
use Rattle.tas_session.specs.declared.replies.Shot.{Shot}
use Rattle.tas_published.specs.declared.errors.ShotError.{ShotError}
use Rattle.tas_published.specs.declared.errors.ShotError.TheVariants.{Halted}
use Rattle.tas_desk.specs.Seats.{SeatContent, IsZoneDrawn}

-- the frames were played, whether the picture or a halt is the answer
pub zone_drawn : {A B : Type 0} (left : ℕ → Type 0) (before now : SeatContent A) (k at ran : ℕ) (picture : List ℕ) (end : Result (Unit {0}) Halt) (r : Result (Shot B) ShotError)
    → OnOk end (r ≡ Ok (record { at = at; frame = k; ran = ran; picture = picture })) → IfErr end (λ halt. r ≡ Err (Halted at halt)) → left ran → IsZoneDrawn left before now r
zone_drawn {A} {B} left before now k at ran picture (Ok u) r shot halted p = subst (λ (a : Result (Shot B) ShotError). IsZoneDrawn left before now a) (sym shot) p
zone_drawn {A} {B} left before now k at ran picture (Err halt) r shot halted p = subst (λ (a : Result (Shot B) ShotError). IsZoneDrawn left before now a) (sym halted) (ran, p)
