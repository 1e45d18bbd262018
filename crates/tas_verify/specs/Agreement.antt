-- What two verifications of one manifest have in common.
use Rattle.std.specs.Prelude.{◌≡◌, ℕ, List, [], ◌∷◌, ◌⊎◌, Option, Some, IsSome, Result, Err}
use Rattle.std.specs.List.{All}
use Rattle.std.specs.Io.KnownBytes.{Keeps}
use Rattle.tas_engines.specs.declared.fault.ReadFault.TheVariants.{TooLong}
use Rattle.tas_verify.specs.declared.fault.VerifyFault.{VerifyFault}
use Rattle.tas_verify.specs.declared.fault.VerifyFault.TheVariants as fault
use Rattle.tas_verify.specs.declared.lines.Tally.{Tally}
use Rattle.tas_verify.specs.declared.outcome.Role.{Role}
use Rattle.tas_verify.specs.declared.outcome.Role.TheVariants.{Movie, Cartridge, Digest}
use Rattle.tas_verify.specs.declared.outcome.Outcome.{Outcome}
use Rattle.tas_verify.specs.declared.outcome.Outcome.TheVariants.{NotFound, Unread, Memory}
use Rattle.tas_verify.specs.Manifest.{RowWords}
use Rattle.tas_verify.specs.Rows.{ShelfFacts, cart_finds, cart_held, cart_lacks}
use Rattle.tas_verify.specs.Lines.{RowEnd}
use Rattle.tas_verify.specs.Verifying.{EndsWith, IsVerifyRun}

-- ---- a movie

-- the bytes of a movie's files are known: its text's, and the cartridge's and the digest's, or that no cartridge with the SHA-256 is found
abbrev pub AreKnown : ShelfFacts → RowWords → Type 0
AreKnown facts row = IsSome (facts.held row.movie) × ((cart_finds facts row.cart → ⊥) ⊎ (IsSome (cart_held facts row.cart) × IsSome (facts.held row.digest)))

-- this file may stay unopened by what is known of the shelf, which may lack it. Of a cartridge by its SHA-256 this is no accident where none is found
abbrev pub MayStayClosed : ShelfFacts → RowWords → Role → Type 0
MayStayClosed facts row Movie = facts.lacks row.movie
MayStayClosed facts row Cartridge = cart_finds facts row.cart × cart_lacks facts row.cart
MayStayClosed facts row Digest = facts.lacks row.digest

-- what may come of a movie whatever its files' bytes are: memory is refused, a read fails, or a file isn't opened
abbrev pub IsAccident : ShelfFacts → RowWords → Outcome → Type 0
IsAccident facts row Memory = Unit {0}
IsAccident facts row (Unread role TooLong) = ⊥
IsAccident facts row (Unread role _) = Unit {0}
IsAccident facts row (NotFound role) = MayStayClosed facts row role
IsAccident facts row _ = ⊥

-- two outcomes of a movie are the same, or one of them is an accident
abbrev pub Agree : ShelfFacts → RowWords → (a b : Outcome) → Type 0
Agree facts row a b = (a ≡ b) ⊎ (IsAccident facts row a ⊎ IsAccident facts row b)

-- ---- movies

-- as far as both lists go, they have the same movies, in order, and the outcomes of each agree whose files are known
abbrev pub AllAgree : ShelfFacts → List RowEnd → List RowEnd → Type 0
AllAgree facts [] others = Unit {0}
AllAgree facts (end ∷ ends) [] = Unit {0}
AllAgree facts (end ∷ ends) (other ∷ others) = (end.row ≡ other.row) × (AreKnown facts end.row → Agree facts end.row end.outcome other.outcome) × AllAgree facts ends others

-- none of the outcomes is an accident
abbrev pub NoAccident : ShelfFacts → List RowEnd → Type 0
NoAccident facts ends = All (λ end. IsAccident facts end.row end.outcome → ⊥) ends

-- ---- runs

-- a run: what its manifest's reader has left, what its writer held before and holds afterwards, and how it ended
pub record VerifyRun : Type 0 where
  pub left : Option (List ℕ)
  pub old : Option (List ℕ)
  pub new : Option (List ℕ)
  pub result : Result Tally VerifyFault

-- it is one over a manifest of these bytes
abbrev pub IsRunOver : ShelfFacts → List ℕ → VerifyRun → Type 0
IsRunOver facts manifest run = IsVerifyRun facts (Some manifest) run.left run.old run.new run.result

-- what is written, and of which movies, by how a run ended: nothing where reading the manifest stopped
abbrev pub WritesBy : ShelfFacts → List RowWords → (old new : Option (List ℕ)) → Result Tally VerifyFault → List RowEnd → Type 0
WritesBy facts rows old new (Err (fault.Read why)) ends = (ends ≡ []) × Keeps old new
WritesBy facts rows old new result ends = EndsWith facts rows old new result ends

-- of which movies two runs wrote lines, and what came of them: as far as both go, they agree
pub record RunsAgree (facts : ShelfFacts) (rows : List RowWords) (a b : VerifyRun) : Type 0 where
  pub ends : List RowEnd
  pub others : List RowEnd
  pub first : WritesBy facts rows a.old a.new a.result ends
  pub second : WritesBy facts rows b.old b.new b.result others
  pub agree : AllAgree facts ends others

-- ---- faults

-- a fault of the manifest's bytes: it is too long, or a line is at fault
abbrev pub IsOfManifest : VerifyFault → Type 0
IsOfManifest (fault.Read TooLong) = Unit {0}
IsOfManifest (fault.Manifest number) = Unit {0}
IsOfManifest _ = ⊥

-- a run ended before it knew the manifest: a read failed, or memory was refused
abbrev pub IsUnfinished : Result Tally VerifyFault → Type 0
IsUnfinished (Err (fault.Read TooLong)) = ⊥
IsUnfinished (Err (fault.Read _)) = Unit {0}
IsUnfinished (Err fault.Memory) = Unit {0}
IsUnfinished _ = ⊥
