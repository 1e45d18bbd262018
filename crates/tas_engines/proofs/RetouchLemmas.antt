-- Retouches, and copies from a second movie, that are allowed.
use Rattle.std.proofs.Common.{◌≡◌, ℕ, ◌+◌, ◌*◌, ◌≤◌, List, map, length, drop, Option, Some, None, Result, Ok, Err, IfOk, MatchResult, refl, sym, subst, ap, ◌∙◌, arith}
use Rattle.std.specs.Prelude.{replicate}
use Rattle.std.proofs.lemmas.List.{length-map, length-take-le, length-drop}
use Rattle.std.proofs.lemmas.List.Concat.{length-flat_map}
use Rattle.std.proofs.lemmas.List.Folds.{sum_by-replicate}
use Rattle.vcs_inputs.specs.declared.input.Input.{Input}
use Rattle.tas_movie.specs.Content.{MovieContent, most_inputs}
use Rattle.tas_movie.specs.declared.edit.Edit.{Edit}
use Rattle.tas_movie.specs.declared.edit.EditRefusal.{EditRefusal}
use Rattle.tas_movie.specs.declared.edit.EditRefusal.TheVariants.{Place, Long}
use Rattle.tas_movie.specs.Edit.{place_refusal, length_refusal, first_refusal, insert_refusal, refusal, check_answer, changed, edited, edited_unless}
use Rattle.tas_movie.proofs.EditLemmas.{place_within, unrefused}
use Rattle.tas_language.specs.declared.change.Change.TheVariants.{Insert, Replace, Delete}
use Rattle.tas_language.specs.declared.retouch.Retouch.{Retouch}
use Rattle.tas_language.specs.declared.retouch.Retouch.TheVariants.{Press, Release, Repeat, Copy}
use Rattle.tas_language.specs.declared.edit_line.EditLine.{EditLine}
use Rattle.tas_language.specs.declared.edit_line.EditLine.TheVariants as asks
use Rattle.tas_engines.specs.Retouching.{pressed_too, released, taken_from, taken_count, frames_from, times_over, retouch_on, retouch_refusal, copy_refusal}
use Rattle.tas_engines.specs.Scripts.{inputs_of, line_on, line_of, line_refusal}
use Rattle.tas_language.proofs.MadeLemmas.{allowed_length, length_within}
use Rattle.tas_engines.proofs.ChangeLemmas.{same_refusal}

-- ---- lengths

pub frames_length : (inputs : List Input) (from count : ℕ) → from + count ≤ length inputs → length (frames_from inputs from count) ≡ count
frames_length inputs from count le = length-take-le count (drop from inputs) (omega (arith, le, length-drop from inputs))

times_length : (times : ℕ) (frames : List Input) → length (times_over times frames) ≡ times * length frames
times_length times frames = length-flat_map (λ (one : List Input). one) (replicate times frames) ∙ sum_by-replicate (λ (one : List Input). length one) times frames

-- ---- what is allowed

-- frames that a retouch takes are the movie's
pub taken_within : (movie : MovieContent) (retouch : Retouch) → retouch_refusal movie retouch ≡ None → taken_from retouch + taken_count retouch ≤ length movie.inputs
taken_within movie (Press at count input) none = place_within (length movie.inputs) at (at + count) none
taken_within movie (Release at count input) none = place_within (length movie.inputs) at (at + count) none
taken_within movie (Repeat at count times) none =
    place_within (length movie.inputs) at (at + count) (unrefused (place_refusal (length movie.inputs) at (at + count)) (length_refusal (length movie.inputs) (length movie.inputs + count * times)) none).0
taken_within movie (Copy from count at) none =
    place_within (length movie.inputs) from (from + count) (unrefused (place_refusal (length movie.inputs) from (from + count)) (insert_refusal (length movie.inputs) at count) none).0

replace_within : (len at count : ℕ) (frames : List Input) → length frames ≡ count → at + count ≤ len → place_refusal len at (at + length frames) ≡ None
replace_within len at count frames is le = allowed_length len (at + length frames) (Some (Place at len)) (omega (arith, is, le))

pub copy_within : (have : List Input) (from count len at : ℕ) → copy_refusal (length have) from count len at ≡ None → from + count ≤ length have
copy_within have from count len at none = place_within (length have) from (from + count) (unrefused (place_refusal (length have) from (from + count)) (insert_refusal len at count) none).0

copy_allowed : (have : List Input) (from count len at : ℕ) → copy_refusal (length have) from count len at ≡ None → insert_refusal len at (length (frames_from have from count)) ≡ None
copy_allowed have from count len at none =
    ap (λ (n : ℕ). insert_refusal len at n) (frames_length have from count (copy_within have from count len at none))
    ∙ (unrefused (place_refusal (length have) from (from + count)) (insert_refusal len at count) none).1

-- a retouch that isn't refused is an edit that is allowed
pub retouch_allowed : (A : Type 0) (movie : MovieContent) (retouch : Retouch) → retouch_refusal movie retouch ≡ None → refusal movie (retouch_on A movie.inputs retouch) ≡ None
retouch_allowed A movie (Press at count input) none =
    let le = taken_within movie (Press at count input) none in
    replace_within (length movie.inputs) at count (map (λ (frame : Input). pressed_too frame input) (frames_from movie.inputs at count))
    (length-map (frames_from movie.inputs at count) (λ (frame : Input). pressed_too frame input) ∙ frames_length movie.inputs at count le) le
retouch_allowed A movie (Release at count input) none =
    let le = taken_within movie (Release at count input) none in
    replace_within (length movie.inputs) at count (map (λ (frame : Input). released frame input) (frames_from movie.inputs at count))
    (length-map (frames_from movie.inputs at count) (λ (frame : Input). released frame input) ∙ frames_length movie.inputs at count le) le
retouch_allowed A movie (Repeat at count times) none =
    let len : ℕ = length movie.inputs in
    let frames : List Input = frames_from movie.inputs at count in
    let le = taken_within movie (Repeat at count times) none in
    let long = length_within len (len + count * times) (unrefused (place_refusal len at (at + count)) (length_refusal len (len + count * times)) none).1 in
    let all : length (times_over times frames) ≡ times * count = times_length times frames ∙ ap (λ (n : ℕ). times * n) (frames_length movie.inputs at count le) in
    ap (λ (r : Option EditRefusal). first_refusal r (length_refusal len (len + length (times_over times frames)))) (allowed_length len (at + count) (Some (Place (at + count) len)) le)
    ∙ allowed_length most_inputs (len + length (times_over times frames)) (Some (Long len)) (omega (arith, all, long))
retouch_allowed A movie (Copy from count at) none = copy_allowed movie.inputs from count (length movie.inputs) at none

pub line_allowed : (A : Type 0) (other : Option MovieContent) (movie : MovieContent) (asked : EditLine) → line_refusal other movie asked ≡ None → refusal movie (line_on A other movie asked) ≡ None
line_allowed A other movie (asks.Change change) none = same_refusal A movie change ∙ none
line_allowed A other movie (asks.Retouch retouch) none = retouch_allowed A movie retouch none
line_allowed A other movie (asks.CopyOther from count at) none = copy_allowed (inputs_of other) from count (length movie.inputs) at none

-- ---- what a line makes, on any allocator

same_changed : (A : Type 0) (other : Option MovieContent) (movie : MovieContent) (asked : EditLine) → changed movie (line_on A other movie asked) ≡ changed movie (line_of other movie asked)
same_changed A other movie (asks.Change (Insert at count input)) = refl
same_changed A other movie (asks.Change (Replace at count input)) = refl
same_changed A other movie (asks.Change (Delete at count)) = refl
same_changed A other movie (asks.Retouch (Press at count input)) = refl
same_changed A other movie (asks.Retouch (Release at count input)) = refl
same_changed A other movie (asks.Retouch (Repeat at count times)) = refl
same_changed A other movie (asks.Retouch (Copy from count at)) = refl
same_changed A other movie (asks.CopyOther from count at) = refl

pub same_line : (A : Type 0) (other : Option MovieContent) (movie : MovieContent) (asked : EditLine) → line_refusal other movie asked ≡ None
    → edited movie (line_on A other movie asked) ≡ edited movie (line_of other movie asked)
same_line A other movie asked none =
    let a : Edit A = line_on A other movie asked in
    let u : Edit (Unit {0}) = line_of other movie asked in
    ap (λ (r : Option EditRefusal). edited_unless r movie a) (line_allowed A other movie asked none)
    ∙ same_changed A other movie asked
    ∙ sym (ap (λ (r : Option EditRefusal). edited_unless r movie u) (line_allowed (Unit {0}) other movie asked none))

-- ---- what was checked

pub check_allows : (due : Option EditRefusal) (checked : Result (Unit {0}) EditRefusal) (P : Unit {0} → Type 0) → checked ≡ check_answer due → MatchResult checked P (λ e. ⊥) → due ≡ None
check_allows None checked P is ok = refl
check_allows (Some refused) checked P is ok = absurd (subst (λ (r : Result (Unit {0}) EditRefusal). MatchResult r P (λ e. ⊥)) is ok)

-- what holds of a result's value holds of the value that `map_err` left
pub mapped_ok : {T E : Type 0} (F : Type 0) (r : Result T E) (value : T) (P : T → Type 0) → MatchResult r (λ x. ◌≡◌ {A = Result T F} (Ok value) (Ok x)) (λ e. ⊥) → IfOk r P → P value
mapped_ok F (Ok x) value P is holds = let same : x ≡ value = cc in subst P same holds
mapped_ok F (Err e) value P is holds = absurd is
