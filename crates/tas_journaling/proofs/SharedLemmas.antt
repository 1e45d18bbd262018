-- What a journal that several conversations share has.
use Rattle.std.proofs.Common.{◌≡◌, ℕ, ◌≤◌, List, [], ◌∷◌, length, take, drop, Bool, true, false, Option, Some, None, Result, Ok, Err, refl, sym, ap, subst, ◌∙◌, arith}
use Rattle.std.specs.Prelude.{OnOk, OnErr, IfErr}
use Rattle.std.specs.Io.KnownBytes.{Appends}
use Rattle.std.proofs.KnownBytes.{Appends-nil}
use Rattle.std.proofs.lemmas.List.{length-append, length-drop, length-take-le, take-append-drop, take-append-le, take_all}
use mathlib.Core.List.{IsPrefix}
use Rattle.tas_published.specs.declared.entry.Entry.{Entry}
use Rattle.tas_published.specs.History.{entries_of}
use Rattle.tas_desk.specs.Seats.{SeatContent, KeepsZone}
use Rattle.tas_published.proofs.PrefixLemmas.{prefix_trans, prefix_shorter}
use Rattle.tas_journal.specs.Text.{entry_lines}
use Rattle.tas_journaling.specs.declared.journal.JournalFault.{JournalFault}
use Rattle.tas_journaling.specs.declared.journal.JournalFault.TheVariants.{Write, Sync, Memory}
use Rattle.tas_journaling.specs.Journals.{JournalContent, IsNoted, HasAll, HasLess, journaled, lines_from}
use Rattle.tas_journaling.specs.Noting.{KeepsUp, KeepsUpBy, FallsShort, shared_notes}
use Rattle.tas_journaling.specs.NoteLaws.{noted_on, own_seen_on}
use Rattle.tas_journaling.specs.Shared.{IsBlankOn, HasLinesAt, HasBeginning, HasSynced, IsJournalOf, HasEntries}

-- ---- seats

pub seen_on : {A : Type 0} (before mid now : SeatContent A) → KeepsZone before mid → KeepsZone mid now → KeepsZone before now
seen_on before mid now first rest = record {
  seen = record { number = rest.seen.number ∙ first.seen.number; made = rest.seen.made ∙ first.seen.made; begins = prefix_trans before.front mid.front now.front first.seen.begins rest.seen.begins };
  zone = rest.zone ∙ first.zone;
}

-- what is known of a seat's number and its edits stays
pub own_as : {A : Type 0} (own : ℕ → ℕ → Type 0) (before now : SeatContent A) → KeepsZone before now → own before.number before.made → own now.number now.made
own_as own before now kept is = subst (λ (n : ℕ). own n now.made) (sym kept.seen.number) (subst (λ (m : ℕ). own before.number m) (sym kept.seen.made) is)

-- ---- the journal

-- one without a fault
noted_in : {A : Type 0} (head : Option (List ℕ)) (first : ℕ) (history : List (Entry A)) (journal : JournalContent) → HasBeginning head first history journal → journal.fault ≡ None → IsNoted head history journal
noted_in head first history journal is none = subst (λ (f : Option JournalFault). HasLinesAt head history journal f) none is.lines

-- what was seen of the history has grown
noted_by : {A : Type 0} (head : Option (List ℕ)) (first : ℕ) (before mid : SeatContent A) (journal : JournalContent) → HasBeginning head first before.front journal → journal.fault ≡ None → KeepsZone before mid → IsNoted head mid.front journal
noted_by head first before mid journal is none seen = noted_on head before.front mid.front journal (noted_in head first before.front journal is none) seen.seen.begins

-- all was written
pub kept_all : {A : Type 0} (head : Option (List ℕ)) (first : ℕ) (before mid now : SeatContent A) (old new : JournalContent) → HasBeginning head first before.front old → old.fault ≡ None → KeepsZone before mid → KeepsUp mid now old new → HasAll head now.front new
kept_all head first before mid now old new is none seen up = up head (noted_by head first before mid old is none seen)

pub begins_all : {A : Type 0} (head : Option (List ℕ)) (first : ℕ) (history : List (Entry A)) (old new : JournalContent) → old.first ≡ first → new.first ≡ old.first → HasAll head history new → HasBeginning head first history new
begins_all head first history old new was same all = record {
  first_is = same ∙ was;
  lines = subst (λ (f : Option JournalFault). HasLinesAt head history new f) (sym all.noted.whole) all.noted;
}

-- and it has no fewer entries than before
pub more_all : {A : Type 0} (head : Option (List ℕ)) (first : ℕ) (before mid now : SeatContent A) (old new : JournalContent) → HasBeginning head first before.front old → old.fault ≡ None → KeepsZone before mid → KeepsZone mid now → HasAll head now.front new → old.upto ≤ new.upto
more_all {A} head first before mid now old new is none seen on all =
    let noted = noted_by head first before now old is none (seen_on before mid now seen on) in omega (arith, noted.few, all.all)

-- not all was
pub record Less {A : Type 0} (head : Option (List ℕ)) (first : ℕ) (history : List (Entry A)) (old new : JournalContent) : Type 0 where
  pub begins : HasBeginning head first history new
  pub same : new.upto ≡ old.upto

failed_less : {A : Type 0} (head : Option (List ℕ)) (first : ℕ) (history : List (Entry A)) (old new : JournalContent) (fault : JournalFault) → old.first ≡ first → new.first ≡ old.first → HasLess head history new fault × (new.upto ≡ old.upto) × (new.fault ≡ Some fault) → Less head first history old new
failed_less head first history old new fault was same (less, upto, named) = record {
  begins = record { first_is = same ∙ was; lines = subst (λ (f : Option JournalFault). HasLinesAt head history new f) (sym named) less };
  same = upto;
}

pub kept_less : {A : Type 0} (head : Option (List ℕ)) (first : ℕ) (before mid now : SeatContent A) (old new : JournalContent) (fault : JournalFault) → HasBeginning head first before.front old → old.fault ≡ None → KeepsZone before mid → KeepsZone mid now → new.first ≡ old.first
    → FallsShort mid now old new fault → Less head first now.front old new
kept_less {A} head first before mid now old new Memory is none seen on same short =
    let noted = noted_by head first before now old is none (seen_on before mid now seen on) in record {
      begins = record {
        first_is = same ∙ is.first_is;
        lines = subst (λ (j : JournalContent). HasLinesAt head now.front j j.fault) (sym short) (subst (λ (f : Option JournalFault). HasLinesAt head now.front old f) (sym none) noted);
      };
      same = ap (λ (j : JournalContent). j.upto) short;
    }
kept_less head first before mid now old new Write is none seen on same short = failed_less head first now.front old new Write is.first_is same (short head (noted_by head first before mid old is none seen))
kept_less head first before mid now old new Sync is none seen on same short = failed_less head first now.front old new Sync is.first_is same (short head (noted_by head first before mid old is none seen))

-- any other fault stays
pub less_named : {A : Type 0} (head : Option (List ℕ)) (first : ℕ) (before mid now : SeatContent A) (old new : JournalContent) (fault : JournalFault) → HasBeginning head first before.front old → old.fault ≡ None → KeepsZone before mid → FallsShort mid now old new fault
    → (fault ≡ Memory → ⊥) → new.fault ≡ Some fault
less_named head first before mid now old new Memory is none seen short other = absurd (other refl)
less_named head first before mid now old new Write is none seen short other = (short head (noted_by head first before mid old is none seen)).2
less_named head first before mid now old new Sync is none seen short other = (short head (noted_by head first before mid old is none seen)).2

-- ---- how it begins

pub none_of : {X : Type 0} (xs : List X) → length xs ≡ 0 → xs ≡ []
none_of [] is = refl
none_of (x ∷ xs) is = absurd (omega (arith, is))

-- one without a line, whose first is that of an entry of the history or the next
pub begins_blank : {A : Type 0} (head : Option (List ℕ)) (first at : ℕ) (history : List (Entry A)) (journal : JournalContent) → journal.bytes ≡ head → journal.first ≡ first → IsBlankOn at journal → at ≡ length history
    → HasBeginning head first history journal
begins_blank {A} head first at history journal bytes first_is is long =
    let none = is.blank in
    let few = is.reached in
    let size : length (take journal.upto history) ≡ journal.upto = length-take-le journal.upto history (omega (arith, none, few, long)) in
    let empty : drop journal.first (take journal.upto history) ≡ [] = none_of (drop journal.first (take journal.upto history)) (omega (arith, length-drop journal.first (take journal.upto history), size, none)) in
    let lines : lines_from journal.first (take journal.upto history) ≡ [] = ap (λ (l : List (Entry A)). entry_lines 0 (journaled l)) empty in
    let noted : IsNoted head history journal = record {
      whole = is.whole;
      from = omega (arith, none);
      few = omega (arith, none, few, long);
      bytes = subst (λ (l : List ℕ). Appends head journal.bytes l) (sym lines) (subst (λ (b : Option (List ℕ)). Appends head b []) (sym bytes) (Appends-nil head));
    } in
    record { first_is = first_is; lines = subst (λ (f : Option JournalFault). HasLinesAt head history journal f) (sym is.whole) noted }

-- ---- one history

prefix_long : {X : Type 0} (xs ys : List X) → IsPrefix xs ys → length xs ≤ length ys
prefix_long {X} xs ys p = omega (arith, ap (λ (l : List X). length l) (sym p.1), length-append xs p.0)

pub upto_in : {A : Type 0} (head : Option (List ℕ)) (front : List (Entry A)) (journal : JournalContent) (fault : Option JournalFault) → HasLinesAt head front journal fault → journal.upto ≤ length front
upto_in head front journal None is = is.few
upto_in head front journal (Some Write) is = is.few
upto_in head front journal (Some Sync) is = is.few
upto_in head front journal (Some Memory) is = is.few

pub kept_receipt : {A : Type 0} (head : Option (List ℕ)) (first : ℕ) (history : List (Entry A)) (journal : JournalContent) (front seen : List (Entry A)) (told : ℕ) → HasBeginning head first front journal → IsPrefix front history → IsPrefix seen history → length seen ≤ told → told ≤ journal.upto
    → IsJournalOf head first history journal × HasEntries seen history journal
kept_receipt {A} head first history journal front seen told is begins there few most =
    let long : journal.upto ≤ length front = upto_in head front journal journal.fault is.lines in
    let size : length (take journal.upto history) ≡ journal.upto = length-take-le journal.upto history (omega (arith, long, prefix_long front history begins)) in
    let whole : IsPrefix (take journal.upto history) history = (drop journal.upto history, take-append-drop journal.upto history) in (
      record { front = front; begins = begins; has = is },
      prefix_shorter seen (take journal.upto history) history there whole (omega (arith, few, most, size)),
    )

-- ---- notes

-- a seat that was noted has its edits among the entries of which its caller is told
pub told_all : {A : Type 0} (before now : SeatContent A) (old told : ℕ) → KeepsZone before now → length now.front ≤ told → KeepsUpBy shared_notes true before now old told
told_all {A} before now old told kept few = λ head own.
    subst (λ (l : List (Entry A)). now.made ≤ entries_of now.number l) (sym (take_all told now.front few)) (own_seen_on before now kept.seen.number kept.seen.made kept.seen.begins own)

-- nothing was done
pub told_same : {A : Type 0} (seat : SeatContent A) (told : ℕ) → KeepsUpBy shared_notes false seat seat told told
told_same seat told = λ head own. own

pub told_done : {A : Type 0} (edits : Bool) (result : Result (Unit {0}) JournalFault) (before now : SeatContent A) (old told : ℕ) → edits ≡ true → KeepsZone before now → OnOk result (length now.front ≤ told) → OnOk result (KeepsUpBy shared_notes edits before now old told)
told_done {A} edits (Ok u) before now old told is kept few = subst (λ (e : Bool). KeepsUpBy shared_notes e before now old told) (sym is) (told_all before now old told kept few)
told_done edits (Err fault) before now old told is kept few = few

pub told_short : {A : Type 0} (result : Result (Unit {0}) JournalFault) (before now : SeatContent A) (seen old told : ℕ) → seen ≡ old → OnErr result (told ≡ seen) → IfErr result (λ fault. shared_notes.short before now old told fault)
told_short (Ok u) before now seen old told same is = is
told_short (Err fault) before now seen old told same is = is ∙ same

-- ---- the disk

-- a journal without a fault is all on the disk
pub synced_noted : {A : Type 0} (kept : Option (List ℕ) → Type 0) (head : Option (List ℕ)) (first : ℕ) (history : List (Entry A)) (journal : JournalContent) → journal.first ≡ first → IsNoted head history journal → kept journal.bytes → HasSynced kept head first history journal.upto
synced_noted {A} kept head first history journal named noted disk = record {
  bytes = journal.bytes;
  lines = subst (λ (k : ℕ). Appends head journal.bytes (lines_from k (take journal.upto history))) named noted.bytes;
  disk = disk;
}

-- and so is one that has a beginning
pub synced_blank : {A : Type 0} (kept : Option (List ℕ) → Type 0) (head : Option (List ℕ)) (first : ℕ) (history : List (Entry A)) (journal : JournalContent) → HasBeginning head first history journal → journal.fault ≡ None → kept journal.bytes → HasSynced kept head first history journal.upto
synced_blank {A} kept head first history journal is none disk = synced_noted kept head first history journal is.first_is (noted_in head first history journal is none) disk

-- what was brought to the disk is there where more was seen of the history
pub synced_on : {A : Type 0} (kept : Option (List ℕ) → Type 0) (head : Option (List ℕ)) (first upto : ℕ) (old new : List (Entry A)) → upto ≤ length old → IsPrefix old new → HasSynced kept head first old upto → HasSynced kept head first new upto
synced_on {A} kept head first upto old new few more is = record {
  bytes = is.bytes;
  lines = subst (λ (l : List (Entry A)). Appends head is.bytes (lines_from first l)) (sym (ap (λ (l : List (Entry A)). take upto l) (sym more.1) ∙ take-append-le upto old more.0 few)) is.lines;
  disk = is.disk;
}

-- the first line is that of an entry before the next one
pub from_in : {A : Type 0} (head : Option (List ℕ)) (first : ℕ) (history : List (Entry A)) (journal : JournalContent) → HasBeginning head first history journal → first ≤ journal.upto
from_in {A} head first history journal is = subst (λ (k : ℕ). k ≤ journal.upto) is.first_is (go journal.fault is.lines)
  where
    go : (fault : Option JournalFault) → HasLinesAt head history journal fault → journal.first ≤ journal.upto
    go None lines = lines.from
    go (Some Write) lines = lines.from
    go (Some Sync) lines = lines.from
    go (Some Memory) lines = lines.from
