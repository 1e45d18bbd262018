-- Edits that are allowed.
use Rattle.std.proofs.Common.{◌≡◌, ℕ, ◌+◌, ◌≤◌, Bool, cond, List, ◌++◌, length, take, Option, Some, None, inl, inr, refl, sym, ap, ◌∙◌}
use Rattle.std.specs.Prelude.{nat_lt}
use Rattle.std.proofs.lemmas.Bool.{cases_lt, lt-ltb}
use Rattle.std.proofs.lemmas.List.{take_at, length-take-le}
use Rattle.vcs_inputs.specs.declared.input.Input.{Input}
use Rattle.tas_movie.specs.declared.edit.EditRefusal.{EditRefusal}
use Rattle.tas_movie.specs.declared.edit.EditRefusal.TheVariants.{Place, Long}
use Rattle.tas_movie.specs.Content.{most_inputs}
use Rattle.tas_movie.specs.Edit.{place_refusal, length_refusal, first_refusal, insert_refusal}

refused : (r : EditRefusal) → ◌≡◌ {A = Option EditRefusal} (Some r) None → ⊥
refused r e = cc

-- an edit that isn't refused ends within the movie
pub place_within : (len at end : ℕ) → place_refusal len at end ≡ None → end ≤ len
place_within len at end none =
    elim (cases_lt len end) [
      | inl past ↦ absurd (refused (Place at len) (sym (ap (λ (b : Bool). cond b (Some (Place at len)) None) (lt-ltb len end past)) ∙ none))
      | inr within ↦ within
    ]

-- where the first of two refusals isn't due
pub unrefused : (first later : Option EditRefusal) → first_refusal first later ≡ None → (first ≡ None) × (later ≡ None)
unrefused None later none = (refl, none)
unrefused (Some r) later none = absurd (refused r none)

pub insert_within : (len at count : ℕ) → insert_refusal len at count ≡ None → at ≤ len
insert_within len at count none = place_within len at at (unrefused (place_refusal len at at) (length_refusal len (len + count)) none).0

-- what stands before a place stays, where it is put back before the rest
pub front_stays : (at : ℕ) (xs was ys now : List Input) → xs ≡ was → at ≤ length was → now ≡ take at xs ++ ys → take at now ≡ take at was
front_stays at xs was ys now same le is =
    ap (take at) is ∙ take_at (take at xs) ys at (length-take-le at xs (rw same le)) ∙ ap (take at) same
