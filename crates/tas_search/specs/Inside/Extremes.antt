-- The first of some arrivals that has the best value.
use Rattle.std.specs.Prelude.{◌≡◌, ℕ, ◌<◌, ℤ, int_lt, List, length, Bool, true, false, slice_index_or}
use Rattle.vcs_machine.specs.Machine.{Machine}
use Rattle.tas_search.specs.declared.arrival.Arrival.{Arrival}
use Rattle.tas_search.specs.declared.extremes.Aim.{Aim}
use Rattle.tas_search.specs.declared.extremes.Aim.TheVariants.{Most, Least}

-- whether a value is better than another one
abbrev pub beats : Aim → ℤ → ℤ → Bool
beats Most a b = int_lt b a
beats Least a b = int_lt a b

-- none of the arrivals beats number i, and number i beats each one before it
pub record IsExtremeAt (aim : Aim) (value : Machine → ℤ) (bs : List Arrival) (i : ℕ) : Type 0 where
  pub within : i < length bs
  pub best : (k : ℕ) (d : Arrival) → k < length bs → beats aim (value (slice_index_or bs k d).state) (value (slice_index_or bs i d).state) ≡ false
  pub first : (k : ℕ) (d : Arrival) → k < i → beats aim (value (slice_index_or bs i d).state) (value (slice_index_or bs k d).state) ≡ true
