-- What an edit makes of a movie, by cutting and joining lists.
use Rattle.std.specs.Prelude.{◌≡◌, ℕ, ◌+◌, List, [], ◌++◌, length, take, drop, Option, Some, None, nat_lt, if◌then◌else◌, Result, Ok, Err}
use Rattle.vcs_inputs.specs.declared.input.Input.{Input}
use Rattle.tas_movie.specs.declared.edit.Edit.{Edit}
use Rattle.tas_movie.specs.declared.edit.Edit.TheVariants.{Load, Insert, Replace, Delete}
use Rattle.tas_movie.specs.declared.edit.EditRefusal.{EditRefusal}
use Rattle.tas_movie.specs.declared.edit.EditRefusal.TheVariants.{Place, Long}
use Rattle.tas_movie.specs.Content.{MovieContent, most_inputs}

-- the inputs with `new` in the place of `count` of them from the place `at` on
abbrev pub spliced : ℕ → ℕ → List Input → List Input → List Input
spliced at count new inputs = take at inputs ++ new ++ drop (at + count) inputs

-- an edit of the inputs from `at` to `end` is refused where `end` is past the last of them
abbrev pub place_refusal : ℕ → ℕ → ℕ → Option EditRefusal
place_refusal len at end = if nat_lt len end then Some (Place at len) else None

-- an edit that makes the movie longer than a movie may be is refused
abbrev pub length_refusal : ℕ → ℕ → Option EditRefusal
length_refusal len longer = if nat_lt most_inputs longer then Some (Long len) else None

-- of two refusals the first that is due
abbrev pub first_refusal : Option EditRefusal → Option EditRefusal → Option EditRefusal
first_refusal (Some refused) later = Some refused
first_refusal None later = later

-- an insertion overwrites nothing, so only `at` must be within the movie; the place is checked before the length
abbrev pub insert_refusal : ℕ → ℕ → ℕ → Option EditRefusal
insert_refusal len at count = first_refusal (place_refusal len at at) (length_refusal len (len + count))

-- why an edit is refused, where it is
abbrev pub refusal : {A : Type 0} → MovieContent → Edit A → Option EditRefusal
refusal movie (Load cart) = None
refusal movie (Insert at inputs) = insert_refusal (length movie.inputs) at (length inputs)
refusal movie (Replace at inputs) = place_refusal (length movie.inputs) at (at + length inputs)
refusal movie (Delete at count) = place_refusal (length movie.inputs) at (at + count)

-- an edit is allowed where nothing refuses it
abbrev pub IsAllowed : {A : Type 0} → MovieContent → Edit A → Type 0
IsAllowed movie edit = refusal movie edit ≡ None

-- what a check of the edit returns
abbrev pub check_answer : Option EditRefusal → Result (Unit {0}) EditRefusal
check_answer None = Ok tt
check_answer (Some refused) = Err refused

-- the movie after an edit that is allowed; another cartridge changes the cartridge alone
abbrev pub changed : {A : Type 0} → MovieContent → Edit A → MovieContent
changed movie (Load cart) = record { cart = cart; inputs = movie.inputs }
changed movie (Insert at inputs) = record { cart = movie.cart; inputs = spliced at 0 inputs movie.inputs }
changed movie (Replace at inputs) = record { cart = movie.cart; inputs = spliced at (length inputs) inputs movie.inputs }
changed movie (Delete at count) = record { cart = movie.cart; inputs = spliced at count [] movie.inputs }

-- the movie where the edit is refused, else the changed one
abbrev pub edited_unless : {A : Type 0} → Option EditRefusal → MovieContent → Edit A → MovieContent
edited_unless None movie edit = changed movie edit
edited_unless (Some refused) movie edit = movie

-- the movie after an edit; one that isn't allowed leaves it unchanged
abbrev pub edited : {A : Type 0} → MovieContent → Edit A → MovieContent
edited movie edit = edited_unless (refusal movie edit) movie edit

-- the edited place: the inputs before it stay; for another cartridge it is 0, since no state of the machine stays
abbrev pub edited_place : {A : Type 0} → Edit A → ℕ
edited_place (Load cart) = 0
edited_place (Insert at inputs) = at
edited_place (Replace at inputs) = at
edited_place (Delete at count) = at
