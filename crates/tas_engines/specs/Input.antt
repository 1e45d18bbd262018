-- What an engine reads of its inputs.
use Rattle.std.specs.Prelude.{◌≡◌, ℕ, ◌+◌, List, [], ◌∷◌, ◌++◌, length, ◌≤◌, Option, Some, ◌⊎◌}
use Rattle.std.specs.Io.KnownBytes.{Consumes, IsAtEnd}
use Rattle.tas_engines.specs.declared.fault.ReadFault.{ReadFault}
use Rattle.tas_engines.specs.declared.fault.ReadFault.TheVariants.{TooLong, Failed, Memory}

-- a fact of the bytes, where it is known what a reader has
abbrev pub IfKnown : Option (List ℕ) → (List ℕ → Type 0) → Type 0
IfKnown known P = (bytes : List ℕ) → known ≡ Some bytes → P bytes

-- how many bytes an input has at most: 16 MiB
abbrev pub most_input_bytes : ℕ
most_input_bytes = 16777216

-- an input was read to its end: these bytes left the reader and none is left, so they are all that it had; they are not too many
pub record IsReadWhole (old new : Option (List ℕ)) (bytes : List ℕ) : Type 0 where
  pub left_reader : Consumes old new bytes
  pub none_is_left : IsAtEnd new
  pub are_all : IfKnown old (λ input. bytes ≡ input)
  pub within : length bytes ≤ most_input_bytes

-- this many bytes left the reader
abbrev pub LeftReader : Option (List ℕ) → Option (List ℕ) → (ℕ → Type 0) → Type 0
LeftReader old new count = (bytes : List ℕ) × Consumes old new bytes × count (length bytes)

-- reading stopped: with the byte past the limit, or where a read or a growth failed, with at most the limit
abbrev pub StopsReading : Option (List ℕ) → Option (List ℕ) → ReadFault → Type 0
StopsReading old new TooLong = LeftReader old new (λ n. n ≡ most_input_bytes + 1)
StopsReading old new Failed = LeftReader old new (λ n. n ≤ most_input_bytes)
StopsReading old new Memory = LeftReader old new (λ n. n ≤ most_input_bytes)

-- reading one input after another stopped: at the first, and the second is untouched; or the first was read whole
abbrev pub StopsReadingTwo : (old new old' new' : Option (List ℕ)) → ReadFault → Type 0
StopsReadingTwo old new old' new' fault = (StopsReading old new fault × (new' ≡ old')) ⊎ ((bytes : List ℕ) × IsReadWhole old new bytes × StopsReading old' new' fault)

-- each of some inputs was read to its end, and these are their bytes
unfoldable pub AreReadWhole : (olds news : List (Option (List ℕ))) → List (List ℕ) → Type 0
AreReadWhole [] [] [] = Unit {0}
AreReadWhole (old ∷ olds) (new ∷ news) (bytes ∷ inputs) = IsReadWhole old new bytes × AreReadWhole olds news inputs
AreReadWhole _ _ _ = ⊥

-- reading some inputs, one after the other, stopped at one: those before it were read whole, and those after it are untouched
unfoldable pub StopsReadingAll : (olds news : List (Option (List ℕ))) → ReadFault → Type 0
StopsReadingAll (old ∷ olds) (new ∷ news) fault = (StopsReading old new fault × (news ≡ olds)) ⊎ ((bytes : List ℕ) × IsReadWhole old new bytes × StopsReadingAll olds news fault)
StopsReadingAll _ _ fault = ⊥

-- one more input was read whole after others, and its bytes come after theirs. Private functions cite it
abbrev pub IsReadOnto : (old new : Option (List ℕ)) → (before after : List (List ℕ)) → Type 0
IsReadOnto old new before after = (bytes : List ℕ) × IsReadWhole old new bytes × (after ≡ before ++ bytes ∷ [])
