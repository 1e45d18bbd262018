-- Bytes in pieces, one after the other, and pixmaps.
use Rattle.std.proofs.Common.{◌≡◌, ℕ, zero, suc, ◌+◌, ◌*◌, ◌-◌, ◌<◌, ◌≤◌, List, [], ◌∷◌, ◌++◌, length, get_or, take, drop, Option, Some, None, refl, sym, ap, subst, ◌∙◌, arith, zero-add, suc-add}
use Rattle.std.specs.Prelude.{Result, Ok, Err, IfErr}
use Rattle.std.specs.List.{concat}
use Rattle.std.proofs.lemmas.List.{length-append, length-map, get_or-map, take-append-drop, take-append-le, take_more, append-nil}
use Rattle.std.proofs.lemmas.List.Folds.{concat-append}
use Rattle.vcs_tia.specs.Image.{ppm_bytes}
use Rattle.vcs_tia.proofs.Images.{length-ppm_bytes}
use Rattle.vcs_machine.specs.Machine.{after}
use Rattle.vcs_machine.proofs.Playing.{length-frame_picture}
use Rattle.tas_movie.specs.Content.{MovieContent}
use Rattle.tas_green.specs.Run.{picture_of}
use Rattle.tas_green.specs.declared.savestate.Savestate.{Savestate}
use Rattle.tas_film.specs.declared.pixmaps.HaltedFrame.{HaltedFrame}
use Rattle.tas_film.specs.declared.pixmaps.Stop.{Stop}
use Rattle.tas_film.specs.declared.pixmaps.Stop.TheVariants.{Halted, Memory}
use Rattle.tas_film.specs.declared.runs.ExportPlan.{ExportPlan}
use Rattle.tas_film.specs.declared.runs.Run.{Run}
use Rattle.tas_film.specs.declared.runs.RunEnd.{RunEnd}
use Rattle.tas_film.specs.declared.exporting.ExportFault.{ExportFault}
use Rattle.tas_film.specs.declared.exporting.ExportFault.TheVariants.{Memory as MemoryFault, Halted as HaltedFault, Write as WriteFault}
use Rattle.tas_film.specs.Frames.{AreDrawn, IsLeastHalted, IsRefused, Shows, pixmaps_of}
use Rattle.tas_film.specs.Faults.{IsExportFault, IsRunsFault}
use Rattle.tas_film.specs.Runs.{IsPlan, pixmaps_in, AreRunsEnd}
use Rattle.tas_film.proofs.RunLemmas.{runs_shown}

-- a piece more
pub pieces_more : (xs : List (List ℕ)) (i : ℕ) (x : List ℕ) → i < length xs → x ≡ get_or xs i x → concat (take i xs) ++ x ≡ concat (take (i + 1) xs)
pieces_more xs i x lt is =
    let one : x ++ [] ≡ x = append-nil x in
    ap (λ (bs : List ℕ). concat (take i xs) ++ bs) (sym one)
    ∙ sym (concat-append (take i xs) (x ∷ []))
    ∙ ap (λ (y : List ℕ). concat (take i xs ++ y ∷ [])) is
    ∙ ap concat (sym (take_more xs i x lt))

-- all pieces are those up to the next one, and the rest
pieces_split : (xs : List (List ℕ)) (i : ℕ) (x : List ℕ) → i < length xs → x ≡ get_or xs i x → concat xs ≡ (concat (take i xs) ++ x) ++ concat (drop (i + 1) xs)
pieces_split xs i x lt is =
    ap concat (sym (take-append-drop (i + 1) xs))
    ∙ concat-append (take (i + 1) xs) (drop (i + 1) xs)
    ∙ ap (λ (bs : List ℕ). bs ++ concat (drop (i + 1) xs)) (sym (pieces_more xs i x lt is))

front_of : (a b c : List ℕ) (n : ℕ) → n ≤ length b → a ++ take n b ≡ take (length a + n) ((a ++ b) ++ c)
front_of [] b c n le = sym (take-append-le n b c le) ∙ ap (λ (k : ℕ). take k (b ++ c)) (sym (zero-add n))
front_of (x ∷ a) b c n le = ap (λ (xs : List ℕ). x ∷ xs) (front_of a b c n le) ∙ ap (λ (k : ℕ). take k (x ∷ ((a ++ b) ++ c))) (sym (suc-add (length a) n))

-- the first bytes of a piece stand after the pieces before it
pub pieces_front : (xs : List (List ℕ)) (i : ℕ) (x : List ℕ) (before all : ℕ) → i < length xs → x ≡ get_or xs i x → before ≡ length (concat (take i xs)) → before ≤ all → all ≤ before + length x
    → concat (take i xs) ++ take (all - before) x ≡ take all (concat xs)
pieces_front xs i x before all lt is count low high =
    let sum : length (concat (take i xs)) + (all - before) ≡ all = omega arith in
    front_of (concat (take i xs)) x (concat (drop (i + 1) xs)) (all - before) (omega arith)
    ∙ ap (λ (k : ℕ). take k ((concat (take i xs) ++ x) ++ concat (drop (i + 1) xs))) sum
    ∙ ap (take all) (sym (pieces_split xs i x lt is))

-- the pieces up to a piece aren't longer than all
pub pieces_long : (xs : List (List ℕ)) (i : ℕ) (x : List ℕ) (before : ℕ) → i < length xs → x ≡ get_or xs i x → before ≡ length (concat (take i xs)) → before + length x ≤ length (concat xs)
pieces_long xs i x before lt is count =
    let all = ap (λ (bs : List ℕ). length bs) (pieces_split xs i x lt is) in
    let parts = length-append (concat (take i xs) ++ x) (concat (drop (i + 1) xs)) in
    let front = length-append (concat (take i xs)) x in
    omega arith

pub length-pixmap : (movie : MovieContent) (f : ℕ) → length (ppm_bytes (picture_of movie f)) ≡ 100815
length-pixmap movie f =
    let whole = length-frame_picture movie.cart (after movie.cart (take f movie.inputs)) _ in
    length-ppm_bytes (picture_of movie f) ∙ ap (λ (n : ℕ). 15 + 3 * n) whole

-- how many bytes pixmaps have
pub length-pixmaps_of : (movie : MovieContent) (first n : ℕ) → length (pixmaps_of movie first n) ≡ n * 100815
length-pixmaps_of movie first zero = refl
length-pixmaps_of movie first (suc n) =
    let one = length-pixmap movie first in
    let rest = length-pixmaps_of movie (first + 1) n in
    let both = length-append (ppm_bytes (picture_of movie first)) (pixmaps_of movie (first + 1) n) in
    omega arith

-- what is shown where nothing stopped
shown_drawn : (movie : MovieContent) (from to : ℕ) (bytes : List ℕ) (stop : Option Stop) → stop ≡ None → Shows movie from to bytes stop → AreDrawn movie from to bytes
shown_drawn movie from to bytes None none shown = shown
shown_drawn movie from to bytes (Some x) none shown = absurd cc

-- what is shown where a frame is halted
pub shown_halted : (movie : MovieContent) (from to : ℕ) (bytes : List ℕ) (stop : Option Stop) (halted : HaltedFrame) → stop ≡ Some (Halted halted) → Shows movie from to bytes stop → IsLeastHalted movie from to halted
shown_halted movie from to bytes stop halted is shown = subst (λ (s : Option Stop). Shows movie from to bytes s) is shown

-- what is shown where memory was refused
pub shown_refused : (movie : MovieContent) (from to : ℕ) (bytes : List ℕ) (stop : Option Stop) → stop ≡ Some Memory → Shows movie from to bytes stop → IsRefused movie from to
shown_refused movie from to bytes stop is shown = subst (λ (s : Option Stop). Shows movie from to bytes s) is shown

-- the pixmaps of runs of which none stopped
pub runs_drawn : {A : Type 0} (movie : MovieContent) (plan : ExportPlan) (zone : List Savestate) (runs : List (Run A)) (end : RunEnd) → IsPlan movie plan
    → AreRunsEnd movie zone plan plan.workers (pixmaps_in runs) end → end.stop ≡ None → AreDrawn movie plan.from plan.to (concat (pixmaps_in runs))
runs_drawn {A = A} movie plan zone runs end plans ended none =
    shown_drawn movie plan.from plan.to (concat (pixmaps_in runs)) end.stop none (runs_shown movie zone plan (pixmaps_in runs) end plans ended)

-- a fault of runs is one of an export
pub fault_of_runs : {X : Type 0} (movie : MovieContent) (plan : ExportPlan) (old new : Option (List ℕ)) (r : Result X ExportFault) → IfErr r (IsRunsFault movie plan old new) → IfErr r (IsExportFault movie plan old new)
fault_of_runs movie plan old new (Ok x) is = tt
fault_of_runs movie plan old new (Err MemoryFault) is = is.1
fault_of_runs movie plan old new (Err (HaltedFault halted)) is = is
fault_of_runs movie plan old new (Err (WriteFault written error)) is = is

-- a run's pixmaps stand at its place
pub pixmaps_at : {A : Type 0} (runs : List (Run A)) (i : ℕ) (run : Run A) → i < length runs → run ≡ get_or runs i run → run.pixmaps ≡ get_or (pixmaps_in runs) i run.pixmaps
pixmaps_at {A = A} runs i run lt is = ap (λ (r : Run A). r.pixmaps) is ∙ sym (get_or-map (λ (r : Run A). r.pixmaps) runs i run run.pixmaps lt)

pub pixmaps_below : {A : Type 0} (runs : List (Run A)) (i : ℕ) → i < length runs → i < length (pixmaps_in runs)
pixmaps_below {A = A} runs i lt = let same = length-map runs (λ (r : Run A). r.pixmaps) in omega arith
