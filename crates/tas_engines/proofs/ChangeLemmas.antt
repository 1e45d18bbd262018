-- One change more.
use Rattle.std.proofs.Common.{◌≡◌, ℕ, ◌+◌, List, [], ◌∷◌, ◌++◌, length, None, refl, sym, ap, ◌∙◌}
use Rattle.std.specs.Prelude.{Option, Some}
use Rattle.std.proofs.lemmas.List.{length-replicate}
use Rattle.vcs_inputs.specs.declared.input.Input.{Input}
use Rattle.tas_movie.specs.Content.{MovieContent}
use Rattle.tas_movie.specs.Edit.{edited, edited_unless, refusal, insert_refusal, place_refusal, IsAllowed}
use Rattle.tas_movie.specs.declared.edit.EditRefusal.{EditRefusal}
use Rattle.tas_language.specs.Commands.{HasNumbers}
use Rattle.tas_language.specs.declared.change.Change.{Change}
use Rattle.tas_language.specs.declared.change.Change.TheVariants.{Insert, Replace, Delete}
use Rattle.tas_engines.specs.Changes.{HaveNumbers, edit_on, edit_of, changed_by, AreAllowed}

-- ---- what a change asks for, on any allocator

pub same_refusal : (A : Type 0) (movie : MovieContent) (change : Change) → refusal movie (edit_on A change) ≡ refusal movie (edit_of change)
same_refusal A movie (Insert at count input) = refl
same_refusal A movie (Replace at count input) = refl
same_refusal A movie (Delete at count) = refl

same_unless : (A : Type 0) (refused : Option EditRefusal) (movie : MovieContent) (change : Change) → edited_unless refused movie (edit_on A change) ≡ edited_unless refused movie (edit_of change)
same_unless A (Some refused) movie change = refl
same_unless A None movie (Insert at count input) = refl
same_unless A None movie (Replace at count input) = refl
same_unless A None movie (Delete at count) = refl

pub same_edited : (A : Type 0) (movie : MovieContent) (change : Change) → edited movie (edit_on A change) ≡ edited movie (edit_of change)
same_edited A movie change = ap (λ (r : Option EditRefusal). edited_unless r movie (edit_on A change)) (same_refusal A movie change) ∙ same_unless A (refusal movie (edit_of change)) movie change

-- ---- what a length refuses

pub insert_refused : (movie : MovieContent) (at count len : ℕ) (input : Input) → length movie.inputs ≡ len → insert_refusal len at count ≡ refusal movie (edit_of (Insert at count input))
insert_refused movie at count len input is =
    ap (λ (n : ℕ). insert_refusal n at count) (sym is)
    ∙ ap (λ (n : ℕ). insert_refusal (length movie.inputs) at n) (sym (length-replicate count input))

pub replace_refused : (movie : MovieContent) (at count len : ℕ) (input : Input) → length movie.inputs ≡ len → place_refusal len at (at + count) ≡ refusal movie (edit_of (Replace at count input))
replace_refused movie at count len input is =
    ap (λ (n : ℕ). place_refusal n at (at + count)) (sym is)
    ∙ ap (λ (n : ℕ). place_refusal (length movie.inputs) at (at + n)) (sym (length-replicate count input))

pub delete_refused : (movie : MovieContent) (at count len : ℕ) → length movie.inputs ≡ len → place_refusal len at (at + count) ≡ refusal movie (edit_of (Delete at count))
delete_refused movie at count len is = ap (λ (n : ℕ). place_refusal n at (at + count)) (sym is)

-- ---- lists of changes

pub changed_more : (movie : MovieContent) (changes : List Change) (change : Change) → changed_by movie (changes ++ change ∷ []) ≡ edited (changed_by movie changes) (edit_of change)
unfolding changed_by
changed_more movie [] change = refl
changed_more movie (c ∷ changes) change = changed_more (edited movie (edit_of c)) changes change

pub allowed_more : (movie : MovieContent) (changes : List Change) (change : Change) → AreAllowed movie changes → IsAllowed (changed_by movie changes) (edit_of change) → AreAllowed movie (changes ++ change ∷ [])
unfolding changed_by AreAllowed
allowed_more movie [] change all is = (is, tt)
allowed_more movie (c ∷ changes) change all is = (all.0, allowed_more (edited movie (edit_of c)) changes change all.1 is)

pub none_made : (movie : MovieContent) → changed_by movie [] ≡ movie
unfolding changed_by
none_made movie = refl

pub none_asked : (movie : MovieContent) → AreAllowed movie []
unfolding AreAllowed
none_asked movie = tt

pub numbers_more : (changes : List Change) (change : Change) → HaveNumbers changes → HasNumbers change → HaveNumbers (changes ++ change ∷ [])
unfolding HaveNumbers
numbers_more [] change all is = (is, tt)
numbers_more (c ∷ changes) change all is = (all.0, numbers_more changes change all.1 is)
