-- Layers: the machines that the sequences of one length reach, each with the first sequence that does.
use Rattle.std.specs.Prelude.{ℕ, zero, suc, ◌-◌, List, [], ◌∷◌, ◌++◌, length, if◌then◌else◌}
use Rattle.std.specs.List.{list_any}
use Rattle.vcs_machine.specs.Equality.{are_same_machines}
use Rattle.vcs_machine.specs.Machine.{Machine, unless_halted}
use Rattle.tas_search.specs.Space.{SpaceContent, after_choice}

-- a machine, and a sequence that reaches it
pub record Reached : Type 0 where
  pub machine : Machine
  pub sequence : List ℕ

-- a layer with one more, unless its machine is there
abbrev pub with_reached : List Reached → Reached → List Reached
with_reached layer r = if list_any (λ o. are_same_machines r.machine o.machine) layer then layer else layer ++ r ∷ []

abbrev pub with_all : List Reached → List Reached → List Reached
with_all layer [] = layer
with_all layer (r ∷ rs) = with_all (with_reached layer r) rs

-- what one more choice reaches
abbrev pub next_reached : SpaceContent → Reached → ℕ → Reached
next_reached s r k = record { machine = after_choice s r.machine k; sequence = r.sequence ++ k ∷ [] }

-- the same of n choices from number k on
abbrev pub next_from : SpaceContent → Reached → ℕ → ℕ → List Reached
next_from s r k zero = []
next_from s r k (suc n) = next_reached s r k ∷ next_from s r (suc k) n

-- the same of all choices, after a choice or more; nothing goes on after a halt
abbrev pub next_of : SpaceContent → Reached → List Reached
next_of s r = unless_halted r.machine.halt (next_from s r 0 (length s.choices)) []

-- a part of the next layer, with what a layer's further members reach
abbrev pub grown_from : SpaceContent → List Reached → List Reached → List Reached
grown_from s next [] = next
grown_from s next (r ∷ rs) = grown_from s (with_all next (next_of s r)) rs

-- the layer after a layer
abbrev pub grown : SpaceContent → List Reached → List Reached
grown s layer = grown_from s [] layer

-- the layer some layers after a layer
unfoldable pub layers_from : SpaceContent → List Reached → ℕ → List Reached
layers_from s layer zero = layer
layers_from s layer (suc d) = layers_from s (grown s layer) d

-- the start, which the empty sequence reaches
abbrev pub root : SpaceContent → Reached
root s = record { machine = s.start; sequence = [] }

-- what the first choices reach
abbrev pub first_of : SpaceContent → List Reached
first_of s = unless_halted s.start.halt (next_from s (root s) s.low (s.high - s.low)) []

abbrev pub first_layer : SpaceContent → List Reached
first_layer s = with_all [] (first_of s)

-- the layer of the sequences of d choices
abbrev pub layer_of : SpaceContent → ℕ → List Reached
layer_of s zero = root s ∷ []
layer_of s (suc d) = layers_from s (first_layer s) d
