-- The frames at which a lawful zone keeps a state.
use Rattle.std.proofs.Common.{◌≡◌, ℕ, zero, suc, ◌+◌, ◌-◌, ◌*◌, ◌/◌, ◌%◌, ◌<◌, List, [], ◌∷◌, ◌++◌, length, Bool, false, Option, Some, None, refl, sym, ap, subst, ◌∙◌, arith}
use Rattle.std.specs.Prelude.{if◌then◌else◌, filter, is_some}
use Rattle.std.specs.List.{range_with_len}
use Rattle.std.proofs.Math.Nat.{add-mul, add-zero, mod-lt}
use Rattle.std.proofs.lemmas.List.{append-nil}
use Rattle.std.proofs.lemmas.List.Elements.{filter-append}
use Rattle.std.proofs.lemmas.Nat.{div-add-mod', mod-mul-add}
use Rattle.vcs_machine.specs.declared.state.State.{State}
use Rattle.tas_movie.specs.Content.{MovieContent}
use Rattle.tas_green.specs.declared.savestate.Savestate.{Savestate}
use Rattle.tas_green.specs.Grid.{stride}
use Rattle.tas_green.specs.Green.{IsLawful}
use Rattle.tas_green.specs.Zone.{state_at}
use Rattle.tas_film.proofs.DrawingLemmas.{range_joined}
use Rattle.tas_seat.specs.Requests.{kept_frames}

-- a lawful zone has no state off the grid
off_grid : (movie : MovieContent) (zone : List Savestate) (frame step : ℕ) → IsLawful movie zone → step ≡ stride (length movie.inputs) → (frame % step ≡ 0 → ⊥) → false ≡ is_some (state_at frame zone)
off_grid movie zone frame step lawful is off = go (state_at frame zone) refl
  where
    go : (o : Option State) → state_at frame zone ≡ o → false ≡ is_some o
    go None e = refl
    go (Some s) e = absurd (off (ap (λ (n : ℕ). frame % n) is ∙ (lawful.each frame s e).on_grid))

frames_more : (zone : List Savestate) (n : ℕ) (now next : List ℕ) → now ≡ kept_frames n zone → next ≡ now ++ (if is_some (state_at (n + 1) zone) then (n + 1) ∷ [] else []) → next ≡ kept_frames (n + 1) zone
frames_more zone n now next so_far is =
    let test : ℕ → Bool = λ (f : ℕ). is_some (state_at f zone) in
    let same : 1 + n ≡ n + 1 = omega arith in
    is
    ∙ ap (λ (l : List ℕ). l ++ filter test ((n + 1) ∷ [])) so_far
    ∙ ap (λ (k : ℕ). kept_frames n zone ++ filter test (k ∷ [])) (sym same)
    ∙ sym (filter-append test (range_with_len 1 n) ((1 + n) ∷ []))
    ∙ ap (filter test) (sym (range_joined 1 n 1))

-- nor are more frames told then
off_grid_frame : (movie : MovieContent) (zone : List Savestate) (n step : ℕ) → IsLawful movie zone → step ≡ stride (length movie.inputs) → ((n + 1) % step ≡ 0 → ⊥) → kept_frames (n + 1) zone ≡ kept_frames n zone
off_grid_frame movie zone n step lawful is off =
    let none = off_grid movie zone (n + 1) step lawful is off in
    sym (frames_more zone n (kept_frames n zone) (kept_frames n zone) refl (sym (append-nil (kept_frames n zone)) ∙ ap (λ (b : Bool). kept_frames n zone ++ (if b then (n + 1) ∷ [] else [])) none))

-- up to before the next place of the grid
off_grid_frames : (movie : MovieContent) (zone : List Savestate) (place step more : ℕ) → IsLawful movie zone → step ≡ stride (length movie.inputs) → more < step → kept_frames (place * step + more) zone ≡ kept_frames (place * step) zone
off_grid_frames movie zone place step zero lawful is below = ap (λ (n : ℕ). kept_frames n zone) (add-zero (place * step))
off_grid_frames movie zone place step (suc more) lawful is below =
    let next : place * step + suc more ≡ place * step + more + 1 = omega arith in
    let rest : (place * step + more + 1) % step ≡ suc more = ap (λ (n : ℕ). n % step) (sym next) ∙ mod-mul-add place step (suc more) below in
    ap (λ (n : ℕ). kept_frames n zone) next
    ∙ off_grid_frame movie zone (place * step + more) step lawful is (λ (e : (place * step + more + 1) % step ≡ 0). omega (arith, rest, e))
    ∙ off_grid_frames movie zone place step more lawful is (omega arith)

-- the next place of the grid was looked at
pub frames_to_place : (movie : MovieContent) (zone : List Savestate) (place step : ℕ) (now next : List ℕ) → IsLawful movie zone → step ≡ stride (length movie.inputs) → 0 < step → now ≡ kept_frames (place * step) zone
    → next ≡ now ++ (if is_some (state_at ((place + 1) * step) zone) then ((place + 1) * step) ∷ [] else []) → next ≡ kept_frames ((place + 1) * step) zone
frames_to_place movie zone place step now next lawful is positive so_far found =
    let last : (place + 1) * step ≡ place * step + (step - 1) + 1 = omega (arith, add-mul place 1 step) in
    subst (λ (n : ℕ). next ≡ kept_frames n zone) (sym last)
    (frames_more zone (place * step + (step - 1)) now next (so_far ∙ sym (off_grid_frames movie zone place step (step - 1) lawful is (omega arith))) (found ∙ ap (λ (n : ℕ). now ++ (if is_some (state_at n zone) then n ∷ [] else [])) last))

-- after the last one no frame is reported
pub frames_to_end : (movie : MovieContent) (zone : List Savestate) (len step : ℕ) (now : List ℕ) → IsLawful movie zone → step ≡ stride (length movie.inputs) → 0 < step → now ≡ kept_frames (len / step * step) zone → now ≡ kept_frames len zone
frames_to_end movie zone len step now lawful is positive so_far =
    so_far ∙ sym (off_grid_frames movie zone (len / step) step (len % step) lawful is (mod-lt len positive)) ∙ ap (λ (n : ℕ). kept_frames n zone) (div-add-mod' len step)
