-- A desk's end.
use Rattle.std.proofs.Common.{◌≡◌, ℕ, ◌+◌, ◌<◌, ◌≤◌, List, ◌∷◌, length, drop, get_or, Option, Result, Ok, Err, ◌⊎◌, inl, inr, refl, sym, ap, subst, ◌∙◌}
use Rattle.std.proofs.lemmas.List.{at_drop_more, at_drop_all}
use Rattle.std.specs.Io.KnownBytes.{Keeps}
use Rattle.std.proofs.KnownBytes.{Keeps-refl}
use Rattle.tas_movie.specs.Content.{MovieContent}
use Rattle.tas_published.specs.declared.entry.Entry.{Entry}
use Rattle.tas_published.specs.History.{movie_of}
use Rattle.tas_engines.specs.declared.fault.RunFault.{RunFault}
use Rattle.tas_engines.specs.declared.fault.RunFault.TheVariants.{NoPlace, Memory}
use Rattle.tas_engines.specs.declared.fault.SeatFault.{SeatFault}
use Rattle.tas_engines.specs.declared.fault.ToolFault.{ToolFault}
use Rattle.tas_engines.specs.declared.fault.ToolFault.TheVariants.{Run, Seat}
use Rattle.tas_seat.specs.Lines.{DoorFacts}
use Rattle.tas_tool.specs.Desks.{first_fault, IsDeskHistory, IsDeskOn, IsDeskRun, DeskEnds}
use Rattle.tas_tool.specs.Inside.Holding.{ReadsMovie}

-- ---- the first fault

-- a seat's conversation ended well
pub well_more : (number : ℕ) (ends : List (Result (Unit {0}) SeatFault)) (k : ℕ) (d : Result (Unit {0}) SeatFault) (u : Unit {0}) → k < length ends → get_or ends k d ≡ Ok u
    → first_fault number (drop k ends) ≡ first_fault (number + 1) (drop (k + 1) ends)
well_more number ends k d u low is =
    at_drop_more (λ (l : List (Result (Unit {0}) SeatFault)). first_fault number l) ends k d low ∙ ap (λ (e : Result (Unit {0}) SeatFault). first_fault number (e ∷ drop (k + 1) ends)) is

-- a seat's conversation ended with a fault
pub fault_here : (number : ℕ) (ends : List (Result (Unit {0}) SeatFault)) (k : ℕ) (d : Result (Unit {0}) SeatFault) (fault : SeatFault) → k < length ends → get_or ends k d ≡ Err fault → first_fault number (drop k ends) ≡ Err (Seat number fault)
fault_here number ends k d fault low is =
    at_drop_more (λ (l : List (Result (Unit {0}) SeatFault)). first_fault number l) ends k d low ∙ ap (λ (e : Result (Unit {0}) SeatFault). first_fault number (e ∷ drop (k + 1) ends)) is

-- all ended well
pub well_all : (number : ℕ) (ends : List (Result (Unit {0}) SeatFault)) (k : ℕ) → length ends ≤ k → first_fault number (drop k ends) ≡ Ok tt
well_all number ends k le = at_drop_all (λ (l : List (Result (Unit {0}) SeatFault)). first_fault number l) ends k le

-- ---- the desk

-- no conversation began
pub not_begun : {A D : Type 0} (facts : DoorFacts D) (doors doors' : List D) (movie : MovieContent) (output output' : Option (List ℕ)) (fault : RunFault) (result : Result (Unit {0}) ToolFault) → result ≡ Err (Run fault)
    → (fault ≡ Memory) ⊎ (fault ≡ NoPlace) → doors' ≡ doors → output' ≡ output → IsDeskOn A facts doors doors' movie output output' result
not_begun {A} facts doors doors' movie output output' fault result is why same unwritten =
    inl (which why, (same, subst (λ (o : Option (List ℕ)). Keeps output o) (sym unwritten) (Keeps-refl output)))
  where
    which : (fault ≡ Memory) ⊎ (fault ≡ NoPlace) → (result ≡ Err (Run Memory)) ⊎ (result ≡ Err (Run NoPlace))
    which (inl e) = inl (is ∙ ap (λ (f : RunFault). Err (Run f)) e)
    which (inr e) = inr (is ∙ ap (λ (f : RunFault). Err (Run f)) e)

-- the movie that is reported is that of the history
pub answer_as : {A D : Type 0} (facts : DoorFacts D) (doors doors' : List D) (movie told : MovieContent) (history : List (Entry A)) (ends : List (Result (Unit {0}) SeatFault)) (output output' : Option (List ℕ)) (result : Result (Unit {0}) ToolFault)
    → IsDeskHistory facts movie doors doors' ends history → told ≡ movie_of history → DeskEnds told ends output output' result → IsDeskOn A facts doors doors' movie output output' result
answer_as facts doors doors' movie told history ends output output' result held same end = inr (history, ends, held, subst (λ (m : MovieContent). DeskEnds m ends output output' result) same end)

-- ---- reading

pub desk_unread : {A D : Type 0} (facts : DoorFacts D) (doors : List D) (cart cart' movie movie' output : Option (List ℕ)) (fault : ToolFault) → ReadsMovie cart cart' movie movie' (Err fault)
    → IsDeskRun A facts doors doors cart cart' movie movie' output output (Err fault)
desk_unread facts doors cart cart' movie movie' output fault (inl (why, is, stops)) = inl (why, ap Err is, stops, (refl, Keeps-refl output))
desk_unread facts doors cart cart' movie movie' output fault (inr (image, said, whole, whole', (why, is, wrong))) = inr (image, said, whole, whole', inl (why, ap Err is, wrong, (refl, Keeps-refl output)))

pub desk_read : {A D : Type 0} (facts : DoorFacts D) (doors doors' : List D) (content : MovieContent) (cart cart' movie movie' output output' : Option (List ℕ)) (result : Result (Unit {0}) ToolFault) → ReadsMovie cart cart' movie movie' (Ok content)
    → IsDeskOn A facts doors doors' content output output' result → IsDeskRun A facts doors doors' cart cart' movie movie' output output' result
desk_read facts doors doors' content cart cart' movie movie' output output' result (image, said, whole, whole', is) desk = inr (image, said, whole, whole', inr (content, is, desk))
