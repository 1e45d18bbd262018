-- The numbers of a layer, as the code has them.
use Rattle.std.specs.Prelude.{◌≡◌, ℕ, ◌-◌, Option, Some, None}
use Rattle.std.specs.Time.{instant_nanos}
use Rattle.std.specs.declared.time.Instant.{Instant}
use Rattle.tas_search.specs.declared.counting.LayerCounts.{LayerCounts}
use Rattle.tas_search.specs.Space.{SpaceContent}
use Rattle.tas_search.specs.LayerLines.{state_count, merged_count, played_count, byte_count}

-- they are those of the layer after n choices
pub record AreCounts (s : SpaceContent) (n : ℕ) (counts : LayerCounts) : Type 0 where
  pub states : counts.states ≡ state_count s n
  pub merged : counts.merged ≡ merged_count s n
  pub played : counts.played ≡ played_count s n
  pub bytes : counts.bytes ≡ byte_count s n

-- how many nanoseconds are between two readings of the clock; 0 where one failed, and where the clock went back
abbrev pub nanos_between : (start end : Option Instant) → ℕ
nanos_between (Some start) (Some end) = instant_nanos end - instant_nanos start
nanos_between (Some start) None = 0
nanos_between None end = 0
