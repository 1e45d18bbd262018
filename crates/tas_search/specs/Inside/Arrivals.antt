-- Arrivals: what the code keeps of a layer, and the parent links that lead back from each of them.
use Rattle.std.specs.Prelude.{◌≡◌, ℕ, zero, suc, ◌+◌, ◌<◌, List, [], ◌∷◌, ◌++◌, length, map, take, drop, slice_index_or, Bool, true, false, sum_by, fold, ◌≤◌, ◌*◌}
use Rattle.vcs_machine.specs.Equality.{are_same_machines}
use Rattle.vcs_machine.specs.Machine.{Machine, unless_halted}
use Rattle.indexmap.specs.IndexSet.{insert_all}
use Rattle.tas_search.specs.declared.arrival.Arrival.{Arrival}
use Rattle.tas_search.specs.declared.arrival.Step.{Step}
use Rattle.tas_search.specs.declared.reaching.Part.{Part}
use Rattle.tas_search.specs.Space.{SpaceContent, after_choice, low_at, count_at}
use Rattle.tas_search.specs.LayerLines.{link_count, tried}
use Rattle.tas_search.specs.Inside.Layers.{Reached, layer_of}

-- whether two arrivals are at one machine
abbrev pub are_same_arrivals : Arrival → Arrival → Bool
are_same_arrivals a b = are_same_machines a.state b.state

-- the arrival at a machine by a choice, from the step at this place of the parent links
abbrev pub arrival_at : Machine → ℕ → ℕ → Arrival
arrival_at m place k = record { state = m; step = record { parent = place; choice = k } }

-- what n choices from number k on reach from a machine, whose step is at this place of the parent links
abbrev pub arrivals_from : SpaceContent → Machine → ℕ → ℕ → ℕ → List Arrival
arrivals_from s m place k zero = []
arrivals_from s m place k (suc n) = arrival_at (after_choice s m k) place k ∷ arrivals_from s m place (suc k) n

-- the same of all choices that can come next: place 0 is that of the start, which the empty sequence reaches; nothing goes on after a halt
abbrev pub arrivals_of : SpaceContent → Machine → ℕ → List Arrival
arrivals_of s m place = unless_halted m.halt (arrivals_from s m place (low_at s place) (count_at s place)) []

-- a part of the next layer, with what further arrivals reach, of which the first one's step is at this place
abbrev pub grown_arrivals : SpaceContent → List Arrival → ℕ → List Arrival → List Arrival
grown_arrivals s next place [] = next
grown_arrivals s next place (a ∷ bs) = grown_arrivals s (insert_all are_same_arrivals next (arrivals_of s a.state place)) (suc place) bs

-- no step at all
abbrev pub no_step : Step
no_step = record { parent = 0; choice = 0 }

-- the choices on the path whose last step this is, after d choices
abbrev pub path : List Step → ℕ → Step → List ℕ
path parents zero step = []
path parents (suc d) step = path parents d (slice_index_or parents step.parent no_step) ++ step.choice ∷ []

-- an arrival with its whole path
abbrev pub with_path : List Step → ℕ → Arrival → Reached
with_path parents d a = record { machine = a.state; sequence = path parents d a.step }

-- each step's parent is among the parent links
abbrev pub AreWithin : ℕ → List Step → Type 0
AreWithin n [] = Unit {0}
AreWithin n (step ∷ steps) = (step.parent < n) × AreWithin n steps

abbrev pub steps_of : List Arrival → List Step
steps_of bs = map (λ a. a.step) bs

-- place 0 of the parent links is that of the start, after no choice, and no other step's
abbrev pub IsPlaceAfter : (depth place : ℕ) → Type 0
IsPlaceAfter zero zero = Unit {0}
IsPlaceAfter zero (suc place) = ⊥
IsPlaceAfter (suc depth) zero = ⊥
IsPlaceAfter (suc depth) (suc place) = Unit {0}

-- what is known between two layers: arrivals, whose steps are among the parent links from `place` on, are the layer after this many choices
pub record IsFrontier (s : SpaceContent) (depth place : ℕ) (parents : List Step) (arrivals : List Arrival) : Type 0 where
  pub layer : map (with_path parents depth) arrivals ≡ layer_of s depth
  pub within : AreWithin (length parents) parents
  pub steps : drop place parents ≡ steps_of arrivals
  pub count : place + length arrivals ≡ length parents
  pub links : length parents ≡ link_count s depth
  pub after : IsPlaceAfter depth place

-- what shows that the layer after some arrivals has more than so many members: a part of it has
abbrev pub IsOver : SpaceContent → List Arrival → ℕ → ℕ → Type 0
IsOver s bs place most = (j : ℕ) × (most < length (grown_arrivals s [] place (take j bs)))

-- how many choices are played from some arrivals, of which the first one's step is at this place
abbrev pub tried_of : SpaceContent → ℕ → List Arrival → ℕ
tried_of s place [] = 0
tried_of s place (a ∷ bs) = tried s place a.state + tried_of s (suc place) bs

-- a list of what some arrivals reach, of which the first one's step is at this place: after it a layer has what it would have after all that they reach
pub record Lists (s : SpaceContent) (place : ℕ) (bs list : List Arrival) : Type 0 where
  pub adds : (next : List Arrival) → insert_all are_same_arrivals next list ≡ grown_arrivals s next place bs
  pub count : length list ≡ tried_of s place bs

-- the same of what a worker found, each machine once, and of how many choices it played
pub record Finds (s : SpaceContent) (place : ℕ) (bs found : List Arrival) (played : ℕ) : Type 0 where
  pub adds : (next : List Arrival) → insert_all are_same_arrivals next found ≡ grown_arrivals s next place bs
  pub count : played ≡ tried_of s place bs

-- a list that goes on with what a machine's choices reach
pub record ListsOneMore (s : SpaceContent) (m : Machine) (place : ℕ) (old new : List Arrival) : Type 0 where
  pub adds : (next : List Arrival) → insert_all are_same_arrivals next new ≡ insert_all are_same_arrivals (insert_all are_same_arrivals next old) (arrivals_of s m place)
  pub count : length new ≡ length old + tried s place m

-- stretch number k of some arrivals
abbrev pub stretch_at : List Arrival → ℕ → ℕ → List Arrival
stretch_at bs size k = take size (drop (k * size) bs)

-- the parts that workers made of the stretches of some arrivals, as far as memory was there
pub record AreParts {Z : Type 0} (s : SpaceContent) (place size : ℕ) (bs : List Arrival) (parts : List (Part Z)) : Type 0 where
  pub all : length bs ≤ length parts * size
  pub within : (k : ℕ) → k < length parts → k * size ≤ length bs
  pub each : (k : ℕ) (d : Part Z) → k < length parts → (slice_index_or parts k d).whole ≡ true → Finds s (place + k * size) (stretch_at bs size k) (slice_index_or parts k d).found.keys (slice_index_or parts k d).tried

-- a layer after the arrivals of some parts
abbrev pub with_parts : {Z : Type 0} → List Arrival → List (Part Z) → List Arrival
with_parts next parts = fold (λ ks p. insert_all are_same_arrivals ks p.found.keys) next parts

-- how many choices were played for them
abbrev pub listed_of : {Z : Type 0} → List (Part Z) → ℕ
listed_of parts = sum_by (λ p. p.tried) parts

-- the first k parts were put into a layer: none of them lacks anything
pub record TakesFirst {Z : Type 0} (parts : List (Part Z)) (old new : List Arrival) (k : ℕ) : Type 0 where
  pub within : k ≤ length parts
  pub whole : (i : ℕ) (d : Part Z) → i < k → (slice_index_or parts i d).whole ≡ true
  pub keys : new ≡ with_parts old (take k parts)

-- all parts were put into a layer, and counted; or some, and it has more than so many members
abbrev pub TakesParts : {Z : Type 0} → List (Part Z) → (old : List Arrival) → (count : ℕ) → (new : List Arrival) → (count' most : ℕ) → Bool → Type 0
TakesParts parts old count new count' most true = TakesFirst parts old new (length parts) × (count' ≡ count + listed_of parts) × (length new ≤ most)
TakesParts parts old count new count' most false = (k : ℕ) × TakesFirst parts old new k × (most < length new)

-- what some arrivals reach was put into a layer, and what was played for it counted; or with what some of them reach it has more than so many members
abbrev pub GrowsBy : SpaceContent → ℕ → List Arrival → (old : List Arrival) → (count : ℕ) → (new : List Arrival) → (count' most : ℕ) → Bool → Type 0
GrowsBy s place bs old count new count' most true = (new ≡ grown_arrivals s old place bs) × (count' ≡ count + tried_of s place bs) × (length new ≤ most)
GrowsBy s place bs old count new count' most false = (j : ℕ) × (most < length (grown_arrivals s old place (take j bs)))
