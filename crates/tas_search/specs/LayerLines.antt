-- What a search reports of its layers: a line for each number of choices.
use Rattle.std.specs.Prelude.{ℕ, zero, suc, ◌+◌, ◌-◌, ◌*◌, ◌/◌, ◌==◌, List, [], ◌∷◌, ◌++◌, length, map, flat_map, filter_map, sum_by, codes, decimal, slice_index_or, if◌then◌else◌}
use Rattle.std.specs.List.{list_any, range_with_len}
use Rattle.vcs_inputs.specs.Input.{no_input}
use Rattle.vcs_machine.specs.Equality.{are_same_machines}
use Rattle.vcs_machine.specs.Machine.{Machine, unless_halted}
use Rattle.tas_search.specs.Space.{SpaceContent, are_lag_frames, reached, low_at, count_at}

-- the choices that can come after n others, in order
abbrev pub next_choices : SpaceContent → ℕ → List ℕ
next_choices s n = range_with_len (low_at s n) (count_at s n)

-- all sequences of n choices, in their order
abbrev pub sequences : SpaceContent → ℕ → List (List ℕ)
sequences s zero = [] ∷ []
sequences s (suc n) = flat_map (λ ks. map (λ k. ks ++ k ∷ []) (next_choices s n)) (sequences s n)

-- the machines that sequences of n choices reach, in the order of the sequences, each as often as it is reached
abbrev pub all_reached : SpaceContent → ℕ → List Machine
all_reached s n = filter_map (reached s) (sequences s n)

-- some machines and a further one, unless it is there
abbrev pub with_machine : List Machine → Machine → List Machine
with_machine ms m = if list_any (are_same_machines m) ms then ms else ms ++ m ∷ []

-- some machines and further ones, each once
abbrev pub with_machines : List Machine → List Machine → List Machine
with_machines ms [] = ms
with_machines ms (x ∷ xs) = with_machines (with_machine ms x) xs

-- a layer: the machines that sequences of n choices reach, each once
abbrev pub layer : SpaceContent → ℕ → List Machine
layer s n = with_machines [] (all_reached s n)

-- how many sequences go on from a machine after n choices: none where it is halted, else one for each choice that can come next
abbrev pub going_on : SpaceContent → ℕ → Machine → ℕ
going_on s n m = unless_halted m.halt (count_at s n) 0

-- of some choices, those that are played from a machine: the first, and the others unless all its frames are lag frames, since then they lead to the
-- same machine
abbrev pub played_of : SpaceContent → Machine → List ℕ → List ℕ
played_of s m [] = []
played_of s m (k ∷ ks) = k ∷ (if are_lag_frames s.cart m (slice_index_or s.choices k no_input) s.hold then [] else ks)

-- how many choices are played from a machine after n choices
abbrev pub tried : SpaceContent → ℕ → Machine → ℕ
tried s n m = unless_halted m.halt (length (played_of s m (next_choices s n))) 0

-- how many different machines there are after n choices
abbrev pub state_count : SpaceContent → ℕ → ℕ
state_count s n = length (layer s n)

-- how many sequences that go on from the different machines before lead to a machine that an earlier one of them leads to
abbrev pub merged_count : SpaceContent → ℕ → ℕ
merged_count s n = sum_by (going_on s (n - 1)) (layer s (n - 1)) - state_count s n

-- how many frames are played for it
abbrev pub played_count : SpaceContent → ℕ → ℕ
played_count s n = sum_by (tried s (n - 1)) (layer s (n - 1)) * s.hold

-- how many states the layers after up to n choices have together
abbrev pub link_count : SpaceContent → ℕ → ℕ
link_count s zero = state_count s 0
link_count s (suc n) = link_count s n + state_count s (suc n)

-- what a link takes, in bytes: the place of the link before it, and the number of a choice
abbrev pub link_bytes : ℕ
link_bytes = 8 + 8

-- what a state of a layer takes: itself, the last link to it, and its hash and its place in the set
abbrev pub state_bytes : ℕ
state_bytes = 200 + link_bytes + 24

-- what the states of a layer, those of the one before it, and the links to all states so far take
abbrev pub held_bytes : (before states links : ℕ) → ℕ
held_bytes before states links = state_bytes * (before + states) + link_bytes * links

-- how much memory the search holds for its states then
abbrev pub byte_count : SpaceContent → ℕ → ℕ
byte_count s n = held_bytes (state_count s (n - 1)) (state_count s n) (link_count s n)

-- how many of some frames are played in a second, where they take so many nanoseconds
abbrev pub rate_of : (frames nanos : ℕ) → ℕ
rate_of frames nanos = if nanos == 0 then 0 else frames * 1000000000 / nanos

-- a line with the number of a layer, that of its frames, and its counts
abbrev pub line_front : (n frames states : ℕ) → List ℕ
line_front n frames states = codes "layer " ++ decimal n ++ codes ": " ++ decimal frames ++ codes " frames, " ++ decimal states ++ codes " states, "

abbrev pub line_back : (merged played bytes rate : ℕ) → List ℕ
line_back merged played bytes rate = decimal merged ++ codes " merged, " ++ decimal played ++ codes " played, " ++ decimal bytes ++ codes " bytes, " ++ decimal rate ++ codes " frames a second\n"

-- the line of the layer after n choices, whose frames were played in so many nanoseconds
abbrev pub layer_line : SpaceContent → (n nanos : ℕ) → List ℕ
layer_line s n nanos = line_front n (n * s.hold) (state_count s n) ++ line_back (merged_count s n) (played_count s n) (byte_count s n) (rate_of (played_count s n) nanos)

-- those of the layers after one choice more than n, two more, and so on, one for each of these times
abbrev pub lines_after : SpaceContent → ℕ → List ℕ → List ℕ
lines_after s n [] = []
lines_after s n (nanos ∷ times) = layer_line s (suc n) nanos ++ lines_after s (suc n) times

-- those of the layers after 1, 2, .. choices, one for each of these times
abbrev pub layer_lines : SpaceContent → List ℕ → List ℕ
layer_lines s times = lines_after s 0 times
