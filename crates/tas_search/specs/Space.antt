-- What a search goes through: sequences of choices, each of which is held for some frames.
use Rattle.std.specs.Prelude.{ℕ, zero, suc, ◌+◌, ◌-◌, ◌*◌, ◌<◌, ◌≤◌, Bool, true, ◌&&◌, List, [], ◌∷◌, length, replicate, slice_index_or, Option, Some, None}
use Rattle.vcs_inputs.specs.declared.input.Input.{Input}
use Rattle.vcs_inputs.specs.Input.{no_input}
use Rattle.vcs_machine.specs.Machine.{Machine, after_from, frame, unless_halted}
use Rattle.vcs_machine.specs.Lag.{is_lag_frame}

-- a cartridge, the machine that is started from, the choices in their order, and for how many frames each is held; the first choice of a sequence is one
-- from number `low` on, up to number `high` without it
pub record SpaceContent : Type 0 where
  pub cart : List ℕ
  pub start : Machine
  pub choices : List Input
  pub hold : ℕ
  pub low : ℕ
  pub high : ℕ

-- the machine after choice number k was held
abbrev pub after_choice : SpaceContent → Machine → ℕ → Machine
after_choice s m k = after_from s.cart m (replicate s.hold (slice_index_or s.choices k no_input))

-- n frames of one input are lag frames, all of them
abbrev pub are_lag_frames : List ℕ → Machine → Input → ℕ → Bool
are_lag_frames cart m input zero = true
are_lag_frames cart m input (suc n) = is_lag_frame cart m input && are_lag_frames cart (frame cart m input) input n

-- each of some numbers is that of a choice
abbrev pub AreNumbers : SpaceContent → List ℕ → Type 0
AreNumbers s [] = Unit {0}
AreNumbers s (k ∷ ks) = (k < length s.choices) × AreNumbers s ks

-- a sequence: the first of its numbers is from `low` on and below `high`, and each further one is that of any choice
abbrev pub AreChoices : SpaceContent → List ℕ → Type 0
AreChoices s [] = Unit {0}
AreChoices s (k ∷ ks) = (s.low ≤ k) × (k < s.high) × AreNumbers s ks

-- the least number that can stand at a place of a sequence, counted from 0, and how many can
abbrev pub low_at : SpaceContent → ℕ → ℕ
low_at s zero = s.low
low_at s (suc n) = 0

abbrev pub count_at : SpaceContent → ℕ → ℕ
count_at s zero = s.high - s.low
count_at s (suc n) = length s.choices

-- the machine after a sequence, where there is one: nothing goes on after a halt
abbrev pub reached_from : SpaceContent → Machine → List ℕ → Option Machine
reached_from s m [] = Some m
reached_from s m (k ∷ ks) = unless_halted m.halt (reached_from s (after_choice s m k) ks) None

abbrev pub reached : SpaceContent → List ℕ → Option Machine
reached s ks = reached_from s s.start ks

-- the place of a sequence among those of its length, in the order of the choices: its numbers are the digits, the first one is the highest
abbrev pub rank_from : ℕ → ℕ → List ℕ → ℕ
rank_from base r [] = r
rank_from base r (k ∷ ks) = rank_from base (r * base + k) ks

abbrev pub rank : SpaceContent → List ℕ → ℕ
rank s ks = rank_from (length s.choices) 0 ks
