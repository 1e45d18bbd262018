-- How a write is cut off.
use Rattle.std.specs.Prelude.{ℕ, ◌<◌, List, length, take, Option}
use Rattle.std.specs.Io.KnownBytes.{Appends}

-- only the first `written` of these bytes went out
pub record IsCutOff (old new : Option (List ℕ)) (bytes : List ℕ) (written : ℕ) : Type 0 where
  pub missing : written < length bytes
  pub front : Appends old new (take written bytes)
