-- Changes that depend on a movie's frames: the edits that they are, and why one is refused.
use Rattle.std.specs.Prelude.{◌≡◌, ℕ, ◌+◌, ◌*◌, Bool, not, ◌&&◌, ◌||◌, List, map, length, take, drop, replicate, Option, None}
use Rattle.std.specs.List.{flat_map}
use Rattle.vcs_inputs.specs.declared.input.Input.{Input}
use Rattle.vcs_inputs.specs.declared.input.Stick.{Stick}
use Rattle.tas_movie.specs.Content.{MovieContent}
use Rattle.tas_movie.specs.declared.edit.Edit.{Edit}
use Rattle.tas_movie.specs.declared.edit.Edit.TheVariants as edit
use Rattle.tas_movie.specs.declared.edit.EditRefusal.{EditRefusal}
use Rattle.tas_movie.specs.Edit.{place_refusal, length_refusal, first_refusal, insert_refusal}
use Rattle.tas_language.specs.declared.retouch.Retouch.{Retouch}
use Rattle.tas_language.specs.declared.retouch.Retouch.TheVariants.{Press, Release, Repeat, Copy}
use Rattle.tas_engines.specs.Changes.{EditContent}

-- a stick whose every switch is made of those of two sticks
abbrev pub each_way : (Bool → Bool → Bool) → Stick → Stick → Stick
each_way f a b = record {
  right = f a.right b.right;
  left = f a.left b.left;
  down = f a.down b.down;
  up = f a.up b.up;
  fire = f a.fire b.fire;
}

-- an input whose every switch is made of those of two inputs
abbrev pub each_switch : (Bool → Bool → Bool) → Input → Input → Input
each_switch f a b = record {
  left = each_way f a.left b.left;
  right = each_way f a.right b.right;
  reset = f a.reset b.reset;
  select = f a.select b.select;
  mono = f a.mono b.mono;
  left_a = f a.left_a b.left_a;
  right_a = f a.right_a b.right_a;
}

abbrev pub is_either : Bool → Bool → Bool
is_either a b = a || b

abbrev pub is_first_alone : Bool → Bool → Bool
is_first_alone a b = a && not b

-- what the second has pressed is pressed, too
abbrev pub pressed_too : Input → Input → Input
pressed_too input more = each_switch is_either input more

-- what the second has pressed is released
abbrev pub released : Input → Input → Input
released input less = each_switch is_first_alone input less

-- the frames that a retouch takes from the movie: from this one on, and how many
abbrev pub taken_from : Retouch → ℕ
taken_from (Press at count input) = at
taken_from (Release at count input) = at
taken_from (Repeat at count times) = at
taken_from (Copy from count at) = from

abbrev pub taken_count : Retouch → ℕ
taken_count (Press at count input) = count
taken_count (Release at count input) = count
taken_count (Repeat at count times) = count
taken_count (Copy from count at) = count

-- this many frames from one on
abbrev pub frames_from : List Input → ℕ → ℕ → List Input
frames_from inputs from count = take count (drop from inputs)

abbrev pub taken_by : List Input → Retouch → List Input
taken_by inputs retouch = frames_from inputs (taken_from retouch) (taken_count retouch)

-- the frames this many times, one after the other
abbrev pub times_over : ℕ → List Input → List Input
times_over times frames = flat_map (λ one. one) (replicate times frames)

-- the edit that a retouch is, by the frames that it takes
abbrev pub retouch_with : (A : Type 0) → List Input → Retouch → Edit A
retouch_with A taken (Press at count input) = edit.Replace at (map (λ frame. pressed_too frame input) taken)
retouch_with A taken (Release at count input) = edit.Replace at (map (λ frame. released frame input) taken)
retouch_with A taken (Repeat at count times) = edit.Insert (at + count) (times_over times taken)
retouch_with A taken (Copy from count at) = edit.Insert at taken

-- the edit that it is on a movie with these inputs, on an allocator
abbrev pub retouch_on : (A : Type 0) → List Input → Retouch → Edit A
retouch_on A inputs retouch = retouch_with A (taken_by inputs retouch) retouch

-- its content
abbrev pub retouch_of : List Input → Retouch → EditContent
retouch_of inputs retouch = retouch_on (Unit {0}) inputs retouch

-- why a copy of this many frames isn't put in: `have` frames don't reach from `from` on so far; or as any insertion
abbrev pub copy_refusal : (have from count len at : ℕ) → Option EditRefusal
copy_refusal have from count len at = first_refusal (place_refusal have from (from + count)) (insert_refusal len at count)

-- why a retouch is refused, where it is: the frames that it takes are past the end; or the movie would be too long
abbrev pub retouch_refusal : MovieContent → Retouch → Option EditRefusal
retouch_refusal movie (Press at count input) = place_refusal (length movie.inputs) at (at + count)
retouch_refusal movie (Release at count input) = place_refusal (length movie.inputs) at (at + count)
retouch_refusal movie (Repeat at count times) =
    first_refusal (place_refusal (length movie.inputs) at (at + count)) (length_refusal (length movie.inputs) (length movie.inputs + count * times))
retouch_refusal movie (Copy from count at) = copy_refusal (length movie.inputs) from count (length movie.inputs) at

-- a movie with these inputs allows the retouch
abbrev pub IsAllowedOn : List Input → Retouch → Type 0
IsAllowedOn inputs retouch = (movie : MovieContent) × (movie.inputs ≡ inputs) × (retouch_refusal movie retouch ≡ None)
