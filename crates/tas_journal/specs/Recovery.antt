-- What is recovered from the bytes of a journal.
use Rattle.std.specs.Prelude.{◌≡◌, ◌≢◌, ℕ, ◌+◌, ◌-◌, ◌<◌, ◌≤◌, ◌^◌, min, ◌⊎◌, Bool, true, false, List, [], ◌∷◌, ◌++◌, length, take, decimal, Option, Some, None, Result, Ok, Err, MatchResult}
use Rattle.tas_movie.specs.Content.{MovieContent, most_inputs}
use Rattle.tas_movie.specs.Edit.{IsAllowed, edited, refusal}
use Rattle.tas_movie.specs.declared.edit.Edit.{Edit}
use Rattle.tas_movie.specs.Fault.{fault, split_lines}
use Rattle.tas_movie.specs.Text.{line, head_text2, text2}
use Rattle.tas_movie.specs.declared.error.TextError.{TextError}
use Rattle.tas_movie.specs.declared.error.TextErrorKind.TheVariants as text_kind
use Rattle.tas_journal.specs.declared.error.JournalError.{JournalError}
use Rattle.tas_journal.specs.declared.error.JournalErrorKind.{JournalErrorKind}
use Rattle.tas_journal.specs.declared.error.JournalErrorKind.TheVariants.{Head, Profile, Movie, Text, Number, Edit as NoEdit, Refused}
use Rattle.tas_journal.specs.declared.error.RecoverError.{RecoverError}
use Rattle.tas_journal.specs.declared.error.RecoverError.TheVariants as recover
use Rattle.tas_journal.specs.declared.entries.LineError.{LineError}
use Rattle.tas_journal.specs.declared.entries.LineError.TheVariants.{Memory, Wrong}
use Rattle.tas_journal.specs.Text.{format_line, profile_line, movie_line, entry_text, entry_lines, Entry, Fits, IsSeat}

-- ---- a line

-- a line, without its newline, is the entry of an edit with this number, by some seat
pub record IsEntry {A : Type 0} (number : ℕ) (said : List ℕ) (edit : Edit A) : Type 0 where
  pub seat : ℕ
  pub is_seat : IsSeat seat
  pub text : said ≡ entry_text number seat edit
  pub fits : Fits edit

-- the line begins with this number and a space
abbrev pub IsNumbered : ℕ → List ℕ → Type 0
IsNumbered number said = (rest : List ℕ) × (said ≡ decimal number ++ 32 ∷ rest)

-- what is wrong with a line that isn't an entry of this number: its number, or what follows
abbrev pub IsNoEntry : (A : Type 0) → ℕ → List ℕ → JournalErrorKind → Type 0
IsNoEntry A number said Number = IsNumbered number said → ⊥
IsNoEntry A number said NoEdit = IsNumbered number said × ((edit : Edit A) → IsEntry number said edit → ⊥)
IsNoEntry A number said Head = ⊥
IsNoEntry A number said Profile = ⊥
IsNoEntry A number said Movie = ⊥
IsNoEntry A number said (Text kind) = ⊥
IsNoEntry A number said (Refused refused) = ⊥

-- an error of a line is `Memory`, or a kind of which this is said. Private functions cite it
abbrev pub IsLineError : (JournalErrorKind → Type 0) → LineError → Type 0
IsLineError Is Memory = Unit {0}
IsLineError Is (Wrong kind) = Is kind

-- ---- the lines

-- what the entry of this number makes of a movie: the edited movie, or what is wrong with the line
abbrev pub LineMakes : (A : Type 0) → ℕ → MovieContent → List ℕ → Result MovieContent JournalErrorKind → Type 0
LineMakes A number movie said (Ok made) = (edit : Edit A) × (IsEntry number said edit × IsAllowed movie edit × (made ≡ edited movie edit))
LineMakes A number movie said (Err (Refused refused)) = (edit : Edit A) × (IsEntry number said edit × (refusal movie edit ≡ Some refused))
LineMakes A number movie said (Err Number) = IsNoEntry A number said Number
LineMakes A number movie said (Err NoEdit) = IsNoEntry A number said NoEdit
LineMakes A number movie said (Err Head) = ⊥
LineMakes A number movie said (Err Profile) = ⊥
LineMakes A number movie said (Err Movie) = ⊥
LineMakes A number movie said (Err (Text kind)) = ⊥

-- what some lines make of a movie, one after the other: the last movie, or the first line at fault. The first of them has these two
-- numbers, that of the line and that of its entry
unfoldable pub LinesMake : (A : Type 0) → ℕ → ℕ → MovieContent → List (List ℕ) → Result MovieContent JournalError → Type 0
LinesMake A at number movie [] result = result ≡ Ok movie
LinesMake A at number movie (said ∷ lines) result =
    (one : Result MovieContent JournalErrorKind)
    × (LineMakes A number movie said one
    × MatchResult one (λ made. LinesMake A (at + 1) (number + 1) made lines result) (λ kind. result ≡ Err (record { line = at; kind = kind })))

-- there are fewer whole lines than this, and bytes after them: those of a line that no newline ends
abbrev pub IsCut : ℕ → List ℕ → Type 0
IsCut most text = (length (split_lines text).lines < most) × (0 < length (split_lines text).rest)

-- an error is `Memory`, or an error of which this is said
abbrev pub IsRecoverError : (JournalError → Type 0) → RecoverError → Type 0
IsRecoverError Is recover.Memory = Unit {0}
IsRecoverError Is (recover.Journal error) = Is error

-- the error of a line. Private functions cite it
abbrev pub error_at : ℕ → LineError → RecoverError
error_at at Memory = recover.Memory
error_at at (Wrong kind) = recover.Journal (record { line = at; kind = kind })

-- ---- the head

-- the head that has this text for its movie's, and what follows it
abbrev pub head_of : List ℕ → List ℕ → List ℕ
head_of text rest = format_line ++ (profile_line ++ (movie_line text ++ (text ++ rest)))

-- bytes begin with the first line of a head; with the first two
abbrev pub IsFormat : List ℕ → Type 0
IsFormat bytes = (rest : List ℕ) × (bytes ≡ format_line ++ rest)

abbrev pub IsProfiled : List ℕ → Type 0
IsProfiled bytes = (rest : List ℕ) × (bytes ≡ format_line ++ (profile_line ++ rest))

-- which of the first three lines is at fault, and how: the third one where no head with a text of less than 2^64 bytes is there
abbrev pub IsHeadFault : List ℕ → ℕ → JournalErrorKind → Type 0
IsHeadFault bytes at Head = (at ≡ 1) × (IsFormat bytes → ⊥)
IsHeadFault bytes at Profile = (at ≡ 2) × (IsFormat bytes × (IsProfiled bytes → ⊥))
IsHeadFault bytes at Movie = (at ≡ 3) × (IsProfiled bytes × ((text rest : List ℕ) → length text < 2 ^ 64 → bytes ≡ head_of text rest → ⊥))
IsHeadFault bytes at (Text error) = ⊥
IsHeadFault bytes at Number = ⊥
IsHeadFault bytes at NoEdit = ⊥
IsHeadFault bytes at (Refused refused) = ⊥

abbrev pub IsHeadError : List ℕ → JournalError → Type 0
IsHeadError bytes error = IsHeadFault bytes error.line error.kind

-- the first line at fault of a head's movie text, of which only the text of runs is one
abbrev pub IsTextFault : List ℕ → List ℕ → TextError → Type 0
IsTextFault text cart error =
    (((more : List ℕ) × (text ≡ line head_text2 ++ more)) × (fault text cart ≡ Some error))
    ⊎ (((more : List ℕ) → text ≢ line head_text2 ++ more) × (error ≡ record { line = 1; kind = text_kind.Head }))

-- a line of the movie's text, which begins after the third line, is its first at fault
abbrev pub IsTextError : List ℕ → List ℕ → JournalError → Type 0
IsTextError text cart error = (found : TextError) × (IsTextFault text cart found × (error ≡ record { line = 3 + found.line; kind = Text found.kind }))

-- Private functions cite it
abbrev pub wrong_at : ℕ → JournalErrorKind → RecoverError
wrong_at at kind = recover.Journal (record { line = at; kind = kind })

-- ---- the whole

-- the number of the line after a head
abbrev pub first_number : MovieContent → ℕ
first_number movie = 4 + length (split_lines (text2 movie)).lines

-- a movie and the lines after its head, of which those before the line `until` count
pub record IsJournal (bytes cart : List ℕ) (movie : MovieContent) (rest : List ℕ) : Type 0 where
  pub head : bytes ≡ head_of (text2 movie) rest
  pub cartridge : movie.cart ≡ cart
  pub few : length movie.inputs ≤ most_inputs

-- how many lines after the head come before the line `until`
abbrev pub most_before : ℕ → MovieContent → ℕ
most_before until movie = until - first_number movie

-- what is recovered from bytes: the movie that the lines of a journal before the line `until` make, how many edits they are, and whether
-- the bytes after the last newline are reached, and are some
pub record IsRecovered (A : Type 0) (bytes cart : List ℕ) (until : ℕ) (made : MovieContent) (edits : ℕ) (cut : Bool) : Type 0 where
  pub began : MovieContent
  pub rest : List ℕ
  pub journal : IsJournal bytes cart began rest
  pub lines : LinesMake A (first_number began) 0 began (take (most_before until began) (split_lines rest).lines) (Ok made)
  pub count : edits ≡ min (most_before until began) (length (split_lines rest).lines)
  pub is_cut : cut ≡ true → IsCut (most_before until began) rest
  pub is_whole : cut ≡ false → IsCut (most_before until began) rest → ⊥

-- the first line at fault of bytes that aren't a journal, or of whose lines before the line `until` one is at fault
abbrev pub IsUnrecovered : (A : Type 0) → List ℕ → List ℕ → ℕ → JournalError → Type 0
IsUnrecovered A bytes cart until error =
    IsHeadError bytes error
    ⊎ ((text : List ℕ) × ((rest : List ℕ) × ((bytes ≡ head_of text rest) × ((length text < 2 ^ 64) × IsTextError text cart error))))
    ⊎ ((began : MovieContent) × ((rest : List ℕ) × (IsJournal bytes cart began rest × LinesMake A (first_number began) 0 began (take (most_before until began) (split_lines rest).lines) (Err error))))

-- ---- what entries make

-- the movie that some edits make of a movie, one after the other
unfoldable pub entries_made : {A : Type 0} → MovieContent → List (Entry A) → MovieContent
entries_made movie [] = movie
entries_made movie (entry ∷ entries) = entries_made (edited movie entry.edit) entries

-- each of some edits is allowed on the movie that those before it make
unfoldable pub AreAllowed : {A : Type 0} → MovieContent → List (Entry A) → Type 0
AreAllowed movie [] = Unit {0}
AreAllowed movie (entry ∷ entries) = IsAllowed movie entry.edit × AreAllowed (edited movie entry.edit) entries

-- what was made of bytes after a head is what some first entries make: as many as these, and each whose line is whole in the bytes
abbrev pub IsBeginning : {A : Type 0} → MovieContent → List (Entry A) → List ℕ → MovieContent → ℕ → Type 0
IsBeginning began entries cutting made edits =
    (made ≡ entries_made began (take edits entries)) × (edits ≤ length entries)
    × ((n : ℕ) (rest : List ℕ) → n ≤ length entries → cutting ≡ entry_lines 0 (take n entries) ++ rest → n ≤ edits)
