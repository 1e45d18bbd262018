-- How many entries each seat has.
use Rattle.std.specs.Prelude.{ℕ, unwrap_or}
use Rattle.std.specs.Ordering.{nat_cmp}
use Rattle.std.specs.BTreeMap.{get}
use Rattle.tas_session.specs.declared.counts.EntryCounts.{EntryCounts}

-- the number that is kept for a seat, 0 where there is none
abbrev pub count_in : {A : Type 0} → EntryCounts A → ℕ → ℕ
count_in counts seat = unwrap_or (get nat_cmp counts.map seat) 0
