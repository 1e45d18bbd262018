-- How engines end.
use Rattle.std.proofs.Common.{◌≡◌, sym, subst, ℕ, List, Option, Result, Ok, Err, refl, inr, OnOk, IfErr, MatchResult}
use Rattle.std.specs.Io.KnownBytes.{Appends}
use Rattle.tas_engines.specs.declared.fault.RunFault.{RunFault}
use Rattle.tas_engines.specs.declared.fault.ToolFault.{ToolFault}
use Rattle.tas_engines.specs.Faults.{reported}
use Rattle.tas_engines.specs.Input.{IsReadWhole}
use Rattle.tas_engines.specs.Movies.{IsMovieRun}
use Rattle.tas_engines.specs.Output.{Ends, StopsWriting}

-- a write of a whole answer ends an engine
pub ends-written : (answers : Result (List ℕ) RunFault → Type 0) (old new : Option (List ℕ)) (bytes : List ℕ) (r : Result (Unit {0}) RunFault) → answers (Ok bytes) →
    OnOk r (Appends old new bytes) → IfErr r (StopsWriting old new bytes) → Ends answers old new r
ends-written answers old new bytes (Ok u) answer all stops = (bytes, answer, all)
ends-written answers old new bytes (Err e) answer all stops = inr (record { bytes = bytes; answer = answer; stops = stops })

-- what a result was before `map_err`, by what its contract says of it
pub err-of_mapped : {T E F : Type 0} (r : Result T E) (f : E → F) (error : F) → MatchResult r (λ x. Err error ≡ Ok x) (λ e. error ≡ f e) → (e : E) × (r ≡ Err e) × (error ≡ f e)
err-of_mapped (Ok x) f error tells = cc
err-of_mapped (Err e) f error tells = (e, refl, tells)

pub ok-of_mapped : {T E : Type 0} (r : Result T E) (P : T → Type 0) → MatchResult r P (λ e. ⊥) → (x : T) × (r ≡ Ok x)
ok-of_mapped (Ok x) P tells = (x, refl)
ok-of_mapped (Err e) P tells = absurd tells

-- ---- engines

-- an engine ran on the cartridge and the text that it had read
pub movie_ran : (answers : List ℕ → List ℕ → Result (List ℕ) RunFault → Type 0) (cart cart' input input' output output' : Option (List ℕ)) (read image read' bytes : List ℕ) (end : Result (Unit {0}) RunFault)
    (result : Result (Unit {0}) ToolFault) → IsReadWhole cart cart' read → image ≡ read → IsReadWhole input input' read' → bytes ≡ read' → Ends (answers image bytes) output output' end → result ≡ reported end
    → IsMovieRun answers cart cart' input input' output output' result
movie_ran answers cart cart' input input' output output' read image read' bytes end result whole same whole' same' ends is =
    inr (end, is, (image, subst (IsReadWhole cart cart') (sym same) whole, (bytes, subst (IsReadWhole input input') (sym same') whole', ends)))
