-- A journal that several conversations share.
use Rattle.std.specs.Prelude.{◌≡◌, ℕ, ◌≤◌, List, take, Option, Some, None}
use Rattle.std.specs.Io.KnownBytes.{Appends}
use mathlib.Core.List.{IsPrefix}
use Rattle.tas_published.specs.declared.entry.Entry.{Entry}
use Rattle.tas_desk.specs.Seats.{SeatContent}
use Rattle.tas_journaling.specs.declared.journal.JournalFault.{JournalFault}
use Rattle.tas_journaling.specs.Journals.{JournalContent, lines_from, IsNoted, HasLess}

-- a journal that several conversations can share, of a history with this many entries: it has no fault and no line, and its first line is that of
-- one of these entries, or the next
pub record IsBlankOn (entries : ℕ) (journal : JournalContent) : Type 0 where
  pub whole : journal.fault ≡ None
  pub blank : journal.upto ≡ journal.first
  pub reached : journal.first ≤ entries

-- the head, and of a history's lines those up to the next one; after a fault perhaps more of them, and nothing else
abbrev pub HasLinesAt : {A : Type 0} → (head : Option (List ℕ)) → (history : List (Entry A)) → JournalContent → Option JournalFault → Type 0
HasLinesAt head history journal None = IsNoted head history journal
HasLinesAt head history journal (Some fault) = HasLess head history journal fault

-- a journal has the head and the lines of a beginning of a history, from the entry `first` on, and nothing else
pub record HasBeginning {A : Type 0} (head : Option (List ℕ)) (first : ℕ) (history : List (Entry A)) (journal : JournalContent) : Type 0 where
  pub first_is : journal.first ≡ first
  pub lines : HasLinesAt head history journal journal.fault

-- the head and the lines of a history's first entries, from the entry `first` on, were brought to the disk
pub record HasSynced {A : Type 0} (kept : Option (List ℕ) → Type 0) (head : Option (List ℕ)) (first : ℕ) (history : List (Entry A)) (upto : ℕ) : Type 0 where
  pub bytes : Option (List ℕ)
  pub lines : Appends head bytes (lines_from first (take upto history))
  pub disk : kept bytes

-- what lies under the lock: the journal, and a seat that has seen all that it has
pub record KeptContent (A : Type 0) : Type 0 where
  pub journal : JournalContent
  pub seat : SeatContent A

-- a journal has the head and the lines of a beginning of one history, and nothing else: those of the entries up to the next line, after a fault perhaps
-- some more
pub record IsJournalOf {A : Type 0} (head : Option (List ℕ)) (first : ℕ) (history : List (Entry A)) (journal : JournalContent) : Type 0 where
  pub front : List (Entry A)
  pub begins : IsPrefix front history
  pub has : HasBeginning head first front journal

-- it has all of these entries, too: they are before its next line
abbrev pub HasEntries : {A : Type 0} → (seen history : List (Entry A)) → JournalContent → Type 0
HasEntries seen history journal = IsPrefix seen (take journal.upto history)
