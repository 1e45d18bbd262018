-- A conversation on its way. Private functions cite this file.
use Rattle.std.specs.Prelude.{◌≡◌, ℕ, ◌+◌, min, List, [], ◌∷◌, ◌++◌, length, Bool, Option, Some, None, Result, Ok, Err, ◌⊎◌}
use Rattle.std.specs.Io.KnownBytes.{Appends}
use Rattle.byte_text.specs.CutOff.{IsCutOff}
use Rattle.tas_movie.specs.Text.{line}
use Rattle.tas_movie.specs.declared.edit.Edit.{Edit}
use Rattle.tas_desk.specs.Seats.{SeatContent}
use Rattle.tas_engines.specs.declared.fault.RunFault.{RunFault}
use Rattle.tas_engines.specs.declared.fault.RunFault.TheVariants.{Write, NoEntry, Foreign, Memory}
use Rattle.byte_text.specs.Splitting.{NoByte}
use Rattle.tas_language.specs.declared.request.Request.TheVariants.{Quit}
use Rattle.tas_language.specs.Requests.{IsHeard}
use Rattle.tas_language.specs.Held.{HoldsLine}
use Rattle.tas_seat.specs.Conversations.{TalkingSeat}
use Rattle.tas_seat.specs.Outcomes.{IsMiscounted}
use Rattle.tas_seat.specs.Talk.{Exchange, AreExchanges, IsQuit, HasLooked, AsksToLook, IsCarriedOut, lines_of, answers_of, most_counted}

-- a write of an answer failed, after this many bytes: its first bytes went out
abbrev pub CutsOff : ℕ → List ℕ → Option (List ℕ) → Option (List ℕ) → RunFault → Type 0
CutsOff before answer old new fault = (sent : ℕ) × IsCutOff old new answer sent × (fault ≡ Write (min (before + sent) most_counted))

-- lines were answered, the answers went out and are counted after this many bytes
pub record HasAnswered {A : Type 0} (before now : TalkingSeat A) (exchanges : List (Exchange A)) (told written : ℕ) (old new : Option (List ℕ)) : Type 0 where
  pub all : AreExchanges before exchanges now
  pub out : Appends old new (answers_of exchanges)
  pub count : min written most_counted ≡ min (told + length (answers_of exchanges)) most_counted

-- why the rest isn't answered, and what was made of it
abbrev pub Breaks : {A : Type 0} → TalkingSeat A → (now : SeatContent A) → List ℕ → List (Edit A) → ℕ → Option (List ℕ) → Option (List ℕ) → RunFault → Type 0
Breaks seat now rest edits told old new (Write written) = (answer : List ℕ) × IsCarriedOut seat now rest edits answer × CutsOff told answer old new (Write written)
Breaks seat now rest edits told old new NoEntry = HasLooked seat now rest edits × AsksToLook seat.draft rest × Appends old new []
Breaks seat now rest edits told old new Memory = (HasLooked seat now rest edits ⊎ ((answer : List ℕ) × IsCarriedOut seat now rest edits answer)) × Appends old new []
Breaks seat now rest edits told old new Foreign = IsMiscounted seat.seat now
Breaks seat now rest edits told old new _ = ⊥

-- what was read was answered up to a rest that isn't
pub record StopsAfter {A : Type 0} (start : TalkingSeat A) (now : SeatContent A) (read : List ℕ) (told : ℕ) (old new : Option (List ℕ)) (fault : RunFault) : Type 0 where
  pub exchanges : List (Exchange A)
  pub seat : TalkingSeat A
  pub rest : List ℕ
  pub edits : List (Edit A)
  pub middle : Option (List ℕ)
  pub counted : ℕ
  pub all : AreExchanges start exchanges seat
  pub text : read ≡ lines_of exchanges ++ rest
  pub out : Appends old middle (answers_of exchanges)
  pub count : min counted most_counted ≡ min (told + length (answers_of exchanges)) most_counted
  pub breaks : Breaks seat now rest edits counted middle new fault

-- a line is answered, asks for the end, or isn't answered
abbrev pub IsLineTurn : {A : Type 0} → TalkingSeat A → TalkingSeat A → List ℕ → ℕ → Option (List ℕ) → Option (List ℕ) → Result (Option ℕ) RunFault → Type 0
IsLineTurn {A} before now said told old new (Ok (Some written)) = (exchange : Exchange A) × (exchange.said ≡ said) × HasAnswered before now (exchange ∷ []) told written old new
IsLineTurn before now said told old new (Ok None) = IsHeard said (Some Quit) × (now ≡ before) × Appends old new []
IsLineTurn {A} before now said told old new (Err fault) = (more : List ℕ) → (edits : List (Edit A)) × Breaks before now.seat (line said ++ more) edits told old new fault

-- a part of the input is answered up to a part of a line, which is held; or up to a line that asks for the end; or not
abbrev pub IsPartTurn : {A : Type 0} → TalkingSeat A → TalkingSeat A → List ℕ → ℕ → List ℕ → Bool → Option (List ℕ) → Option (List ℕ) → Result (Option ℕ) RunFault → Type 0
IsPartTurn {A} before now read told held long old new (Ok (Some written)) =
    (exchanges : List (Exchange A)) × (part : List ℕ) × (read ≡ lines_of exchanges ++ part) × NoByte 10 part × HoldsLine part held long × HasAnswered before now exchanges told written old new
IsPartTurn {A} before now read told held long old new (Ok None) =
    (exchanges : List (Exchange A)) × (rest : List ℕ) × AreExchanges before exchanges now × (read ≡ lines_of exchanges ++ rest) × IsQuit rest × Appends old new (answers_of exchanges)
IsPartTurn before now read told held long old new (Err fault) = StopsAfter before now.seat read told old new fault
