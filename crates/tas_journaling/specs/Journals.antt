-- A journal as it is written: what its file holds.
use Rattle.std.specs.Prelude.{◌≡◌, ℕ, ◌≤◌, List, [], ◌∷◌, length, take, drop, Option, None}
use Rattle.std.specs.Io.KnownBytes.{Appends}
use Rattle.byte_text.specs.CutOff.{IsCutOff}
use Rattle.tas_published.specs.declared.entry.Entry.{Entry}
use Rattle.tas_journal.specs.Text.{Entry as JournalEntry, entry_lines}
use Rattle.tas_journaling.specs.declared.journal.JournalFault.{JournalFault}
use Rattle.tas_journaling.specs.declared.journal.JournalFault.TheVariants.{Write, Sync, Memory}

-- an entry of a history as a journal has it: without its serial
abbrev pub journal_entry : {A : Type 0} → Entry A → JournalEntry A
journal_entry entry = record { seat = entry.seat; edit = entry.edit }

abbrev pub journaled : {A : Type 0} → List (Entry A) → List (JournalEntry A)
journaled [] = []
journaled (entry ∷ entries) = journal_entry entry ∷ journaled entries

-- the lines of a history's entries from the place `first` on
abbrev pub lines_from : {A : Type 0} → ℕ → List (Entry A) → List ℕ
lines_from first history = entry_lines 0 (journaled (drop first history))

-- a journal: with which entry of the history its first line is, how many entries of the history come before the next line, why it takes no more
-- lines, and what its file holds
pub record JournalContent : Type 0 where
  pub first : ℕ
  pub upto : ℕ
  pub fault : Option JournalFault
  pub bytes : Option (List ℕ)

-- a journal without a fault has, after its head, the lines of a history's entries up to the next line, and nothing else
pub record IsNoted {A : Type 0} (head : Option (List ℕ)) (history : List (Entry A)) (journal : JournalContent) : Type 0 where
  pub whole : journal.fault ≡ None
  pub from : journal.first ≤ journal.upto
  pub few : journal.upto ≤ length history
  pub bytes : Appends head journal.bytes (lines_from journal.first (take journal.upto history))

-- it has those of the whole history
pub record HasAll {A : Type 0} (head : Option (List ℕ)) (history : List (Entry A)) (journal : JournalContent) : Type 0 where
  pub noted : IsNoted head history journal
  pub all : journal.upto ≡ length history

-- a journal that failed at a write has the lines up to the next one and, after them, some first bytes of the history's further lines, fewer than
-- all, and nothing else
pub record IsCutShort {A : Type 0} (head : Option (List ℕ)) (history : List (Entry A)) (journal : JournalContent) : Type 0 where
  pub from : journal.first ≤ journal.upto
  pub few : journal.upto ≤ length history
  pub sent : ℕ
  pub reached : length (lines_from journal.first (take journal.upto history)) ≤ sent
  pub cut : IsCutOff head journal.bytes (lines_from journal.first history) sent

-- one that couldn't be brought to the disk has all lines of the history, and nothing else; those from the next one on may not be on the disk
pub record IsUnsynced {A : Type 0} (head : Option (List ℕ)) (history : List (Entry A)) (journal : JournalContent) : Type 0 where
  pub from : journal.first ≤ journal.upto
  pub few : journal.upto ≤ length history
  pub bytes : Appends head journal.bytes (lines_from journal.first history)

-- what a journal has where it hasn't all lines of a history, by the fault: with memory refused, those up to the next one, and it takes more
abbrev pub HasLess : {A : Type 0} → (head : Option (List ℕ)) → (history : List (Entry A)) → JournalContent → JournalFault → Type 0
HasLess head history journal Write = IsCutShort head history journal
HasLess head history journal Sync = IsUnsynced head history journal
HasLess head history journal Memory = IsNoted head history journal

-- how many of these bytes a file was given where it failed: the first ones, fewer than all; all, which may not be on the disk; or none
abbrev pub IsGivenPart : (old new : Option (List ℕ)) → List ℕ → JournalFault → Type 0
IsGivenPart old new bytes Write = (sent : ℕ) × IsCutOff old new bytes sent
IsGivenPart old new bytes Sync = Appends old new bytes
IsGivenPart old new bytes Memory = new ≡ old
