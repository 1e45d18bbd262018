-- What came of a movie: a relation to the bytes of its three files, by what `tas digest` answers to the first two.
use Rattle.std.specs.Prelude.{◌≡◌, ◌≢◌, ℕ, ◌+◌, ◌-◌, ◌*◌, ◌≤◌, ◌==◌, Bool, true, ◌&&◌, ◌||◌, nat_le, nat_lt, count_by, if◌then◌else◌, MatchBool, List, [], ◌∷◌, ◌++◌, length, codes, decimal, ◌⊎◌, Option, None, Ok, Err}
use Rattle.std.specs.List.{list_all}
use Rattle.tas_movie.specs.Content.{most_inputs}
use Rattle.tas_engines.specs.declared.fault.ReadFault.{ReadFault}
use Rattle.tas_engines.specs.declared.fault.RunFault.{RunFault}
use Rattle.tas_engines.specs.declared.fault.RunFault.TheVariants as run
use Rattle.tas_engines.specs.Input.{IsReadWhole, StopsReading}
use Rattle.tas_engines.specs.Digests.{digest_of, IsDigestAnswer}
use Rattle.tas_verify.specs.declared.outcome.Role.{Role}
use Rattle.tas_verify.specs.declared.outcome.Role.TheVariants.{Movie, Cartridge, Digest}
use Rattle.tas_verify.specs.declared.outcome.Outcome.{Outcome}
use Rattle.tas_verify.specs.declared.outcome.Outcome.TheVariants.{Same, DiffersAt, DiffersInLine, NotFound, Unread, Size, Text, Halted, Memory}
use Rattle.tas_verify.specs.Manifest.{RowWords}

-- ---- files

-- what is known of a shelf: the bytes of the file with a name, and that it can't be opened; and the same of a cartridge by its SHA-256, and that there is one
pub record ShelfFacts : Type 1 where
  pub held : List ℕ → Option (List ℕ)
  pub lacks : List ℕ → Type 0
  pub found : List ℕ → Option (List ℕ)
  pub finds : List ℕ → Type 0
  pub misses : List ℕ → Type 0

-- nothing is known
abbrev pub unknown_shelf : ShelfFacts
unknown_shelf = record { held = λ name. None; lacks = λ name. Unit {0}; found = λ digits. None; finds = λ digits. Unit {0}; misses = λ digits. Unit {0} }

-- what a reader has is read whole, and is these bytes
abbrev pub IsRead : Option (List ℕ) → List ℕ → Type 0
IsRead known bytes = (after : Option (List ℕ)) × IsReadWhole known after bytes

-- reading it stops
abbrev pub IsUnread : Option (List ℕ) → ReadFault → Type 0
IsUnread known fault = (after : Option (List ℕ)) × StopsReading known after fault

-- a file couldn't be opened, or not be read
abbrev pub IsMissed : (lacks : Type 0) → (known : Option (List ℕ)) → Role → Outcome → Type 0
IsMissed lacks known role outcome = (lacks × (outcome ≡ NotFound role)) ⊎ ((fault : ReadFault) × IsUnread known fault × (outcome ≡ Unread role fault))

-- that came of it, or its bytes are read, and the rest decides
abbrev pub Opens : (lacks : Type 0) → (known : Option (List ℕ)) → Role → (rest : List ℕ → Outcome → Type 0) → Outcome → Type 0
Opens lacks known role rest outcome = IsMissed lacks known role outcome ⊎ ((bytes : List ℕ) × IsRead known bytes × rest bytes outcome)

-- ---- cartridges

-- a lower case hexadecimal digit
abbrev pub is_lower_digit : ℕ → Bool
is_lower_digit b = (nat_le 48 b && nat_le b 57) || (nat_le 97 b && nat_le b 102)

-- a SHA-256 in 64 such digits
abbrev pub is_sha256 : List ℕ → Bool
is_sha256 word = length word == 64 && list_all is_lower_digit word

-- a cartridge is found by its SHA-256, or by its file's name
abbrev pub cart_lacks : ShelfFacts → List ℕ → Type 0
cart_lacks facts word = MatchBool (is_sha256 word) (facts.misses word) (facts.lacks word)

abbrev pub cart_held : ShelfFacts → List ℕ → Option (List ℕ)
cart_held facts word = if is_sha256 word then facts.found word else facts.held word

-- there is a cartridge with the SHA-256; of a file's name nothing is said
abbrev pub cart_finds : ShelfFacts → List ℕ → Type 0
cart_finds facts word = MatchBool (is_sha256 word) (facts.finds word) (Unit {0})

-- there is one, or that it isn't found is what came of the movie
abbrev pub IsThereOr : (finds : Type 0) → Outcome → Type 0
IsThereOr finds outcome = finds ⊎ (outcome ≡ NotFound Cartridge)

-- what was found by a SHA-256 has another one
abbrev pub IsAnother : List ℕ → List ℕ → Type 0
IsAnother word image = (is_sha256 word ≡ true) × (digest_of image ≢ word)

-- ---- digests

-- the bytes after the first newline; none where there is none
abbrev pub after_line : List ℕ → List ℕ
after_line [] = []
after_line (b ∷ bytes) = if b == 10 then bytes else after_line bytes

-- the bytes from the fifth line on, which is that of the first stretch
abbrev pub first_stretch : List ℕ → List ℕ
first_stretch digest = after_line (after_line (after_line (after_line digest)))

-- the line says that the first stretch has this many frames, at least one and not more than a movie has at most
pub record SaysFrames (bytes : List ℕ) (every : ℕ) : Type 0 where
  pub rest : List ℕ
  pub is : bytes ≡ codes "frames 0 to " ++ decimal every ++ 32 ∷ rest
  pub some : 1 ≤ every
  pub most : every ≤ most_inputs

-- how many frames the stretches of a digest have: as many as its first one, and else 600, as where `tas digest` isn't told
abbrev pub HasStretches : List ℕ → ℕ → Type 0
HasStretches digest every = SaysFrames (first_stretch digest) every ⊎ (((n : ℕ) → SaysFrames (first_stretch digest) n → ⊥) × (every ≡ 600))

-- how many newlines there are
abbrev pub newlines : List ℕ → ℕ
newlines bytes = count_by (λ b. b == 10) bytes

-- two texts differ at their first bytes: they have different ones, or one has ended
abbrev pub DifferAtOnce : List ℕ → List ℕ → Type 0
DifferAtOnce [] [] = ⊥
DifferAtOnce [] (c ∷ after) = Unit {0}
DifferAtOnce (b ∷ rest) [] = Unit {0}
DifferAtOnce (b ∷ rest) (c ∷ after) = b ≢ c

-- the first line in which two texts differ, counted from 1
pub record DifferInLine (now stored : List ℕ) (line : ℕ) : Type 0 where
  pub front : List ℕ
  pub rest : List ℕ
  pub after : List ℕ
  pub now_is : now ≡ front ++ rest
  pub stored_is : stored ≡ front ++ after
  pub differ : DifferAtOnce rest after
  pub place : line ≡ newlines front + 1

-- the outcome of a first line that differs: one of the four of the head, or that of a stretch, by its first frame
abbrev pub differing : ℕ → ℕ → Outcome
differing every line = if nat_lt line 5 then DiffersInLine line else DiffersAt ((line - 5) * every)

-- the digest of now and the one that was stored: they are the same, or differ first in a line
abbrev pub IsCompared : (every : ℕ) → (now stored : List ℕ) → Outcome → Type 0
IsCompared every now stored outcome =
    ((now ≡ stored) × (outcome ≡ Same)) ⊎ ((line : ℕ) × DifferInLine now stored line × (outcome ≡ differing every line))

-- ---- movies

-- why a movie has no digest, as it is reported
abbrev pub outcome_of : RunFault → Outcome
outcome_of (run.Size n) = Size n
outcome_of (run.Text error) = Text error
outcome_of (run.Halted at opcode) = Halted at opcode
outcome_of _ = Memory

-- what `tas digest` answers to cartridge and movie, in stretches of as many frames as the stored digest has: its digest is compared with the
-- stored one, or its fault is reported
abbrev pub IsPlayed : (text image stored : List ℕ) → Outcome → Type 0
IsPlayed text image stored outcome =
    (every : ℕ) × HasStretches stored every
    × (((now : List ℕ) × IsDigestAnswer every image text (Ok now) × IsCompared every now stored outcome) ⊎ ((fault : RunFault) × IsDigestAnswer every image text (Err fault) × (outcome ≡ outcome_of fault)))

-- what came of a movie whose text and cartridge are read: its digest is opened and read, and then it is played; or memory is refused
abbrev pub JudgesDigest : ShelfFacts → RowWords → (text image : List ℕ) → Outcome → Type 0
JudgesDigest facts row text image outcome = (outcome ≡ Memory) ⊎ Opens (facts.lacks row.digest) (facts.held row.digest) Digest (IsPlayed text image) outcome

-- what came of a movie whose text is read: its cartridge is opened and read first
abbrev pub JudgesCart : ShelfFacts → RowWords → (text : List ℕ) → Outcome → Type 0
JudgesCart facts row text outcome =
    IsThereOr (cart_finds facts row.cart) outcome
    × Opens (cart_lacks facts row.cart) (cart_held facts row.cart) Cartridge (λ image outcome.
    (IsAnother row.cart image × (outcome ≡ NotFound Cartridge)) ⊎ ((IsAnother row.cart image → ⊥) × JudgesDigest facts row text image outcome)) outcome

-- what came of a movie whose line has these words: its text is opened and read first
abbrev pub IsOutcome : ShelfFacts → RowWords → Outcome → Type 0
IsOutcome facts row = Opens (facts.lacks row.movie) (facts.held row.movie) Movie (JudgesCart facts row)
