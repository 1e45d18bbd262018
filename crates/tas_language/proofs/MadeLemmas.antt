-- What one change makes of a list that is cut at its place.
use Rattle.std.proofs.Common.{◌≡◌, ℕ, ◌+◌, ◌≤◌, Bool, cond, inl, inr, List, [], ◌++◌, length, drop, None, refl, sym, ap, ◌∙◌, arith}
use Rattle.std.specs.Prelude.{replicate, nat_lt, if◌then◌else◌, Option, Some}
use Rattle.std.proofs.lemmas.Bool.{cases_lt, le-ltb, lt-ltb}
use Rattle.std.proofs.lemmas.List.{length-replicate}
use lib.Seq.{take-append_seam, drop-append-add}
use Rattle.vcs_inputs.specs.declared.input.Input.{Input}
use Rattle.tas_movie.specs.Content.{MovieContent, most_inputs}
use Rattle.tas_movie.specs.Edit.{edited, IsAllowed, length_refusal, first_refusal, spliced}
use Rattle.tas_movie.specs.declared.edit.EditRefusal.{EditRefusal}
use Rattle.tas_movie.specs.declared.edit.EditRefusal.TheVariants.{Place, Long}
use Rattle.tas_language.specs.declared.change.Change.TheVariants.{Insert, Replace, Delete}
use Rattle.tas_language.specs.Edits.{edit_of}

abbrev pub movie_of : List ℕ → List Input → MovieContent
movie_of cart inputs = record { cart = cart; inputs = inputs }

pub cut : (k : ℕ) (p new q : List Input) → spliced (length p) k new (p ++ q) ≡ p ++ new ++ drop k q
cut k p new q = rw (take-append_seam p q, drop-append-add p q k) refl

pub allowed_length : (most all : ℕ) (refused : Option EditRefusal) → all ≤ most → (if nat_lt most all then refused else None) ≡ None
allowed_length most all refused le = rw (le-ltb most all le) refl

refused : (r : EditRefusal) → ◌≡◌ {A = Option EditRefusal} (Some r) None → ⊥
refused r e = cc

pub length_within : (len longer : ℕ) → length_refusal len longer ≡ None → longer ≤ most_inputs
length_within len longer none =
    elim (cases_lt most_inputs longer) [
      | inl past ↦ absurd (refused (Long len) (sym (ap (λ (b : Bool). cond b (Some (Long len)) None) (lt-ltb most_inputs longer past)) ∙ none))
      | inr within ↦ within
    ]

pub insert_allowed : (cart : List ℕ) (inputs : List Input) (at count : ℕ) (input : Input) → at ≤ length inputs → length inputs + count ≤ most_inputs → IsAllowed (movie_of cart inputs) (edit_of (Insert at count input))
insert_allowed cart inputs at count input place long =
    ap (λ (r : Option EditRefusal). first_refusal r (length_refusal (length inputs) (length inputs + length (replicate count input)))) (allowed_length (length inputs) at (Some (Place at (length inputs))) place)
    ∙ allowed_length most_inputs (length inputs + length (replicate count input)) _ (omega (arith, length-replicate count input))

pub replace_allowed : (cart : List ℕ) (inputs : List Input) (at count : ℕ) (input : Input) → at + count ≤ length inputs → IsAllowed (movie_of cart inputs) (edit_of (Replace at count input))
replace_allowed cart inputs at count input place = allowed_length (length inputs) (at + length (replicate count input)) _ (omega (arith, length-replicate count input))

pub delete_allowed : (cart : List ℕ) (inputs : List Input) (at count : ℕ) → at + count ≤ length inputs → IsAllowed (movie_of cart inputs) (edit_of (Delete at count))
delete_allowed cart inputs at count place = allowed_length (length inputs) (at + count) _ place

pub made_insert : (cart : List ℕ) (inputs : List Input) (at count : ℕ) (input : Input) → IsAllowed (movie_of cart inputs) (edit_of (Insert at count input))
    → edited (movie_of cart inputs) (edit_of (Insert at count input)) ≡ movie_of cart (spliced at 0 (replicate count input) inputs)
made_insert cart inputs at count input is = rw is refl

pub made_replace : (cart : List ℕ) (inputs : List Input) (at count : ℕ) (input : Input) → IsAllowed (movie_of cart inputs) (edit_of (Replace at count input))
    → edited (movie_of cart inputs) (edit_of (Replace at count input)) ≡ movie_of cart (spliced at (length (replicate count input)) (replicate count input) inputs)
made_replace cart inputs at count input is = rw is refl

pub made_delete : (cart : List ℕ) (inputs : List Input) (at count : ℕ) → IsAllowed (movie_of cart inputs) (edit_of (Delete at count))
    → edited (movie_of cart inputs) (edit_of (Delete at count)) ≡ movie_of cart (spliced at count [] inputs)
made_delete cart inputs at count is = rw is refl
