-- What a journal has before a line and after it.
use Rattle.std.proofs.Common.{◌≡◌, ℕ, ◌+◌, ◌-◌, ◌<◌, ◌≤◌, List, ◌++◌, length, take, drop, Option, Some, refl, sym, ap, subst, ◌∙◌, arith}
use Rattle.std.specs.Prelude.{min, is_some, Bool}
use Rattle.std.specs.Io.KnownBytes.{Appends}
use Rattle.std.proofs.KnownBytes.{Appends-trans}
use Rattle.std.proofs.lemmas.List.{length-append, length-drop, length-take, take_all}
use Rattle.std.proofs.Math.Seq.{take-append-add}
use Rattle.byte_text.specs.CutOff.{IsCutOff}
use Rattle.tas_published.specs.declared.entry.Entry.{Entry}
use Rattle.tas_published.proofs.PrefixLemmas.{prefix_self}
use Rattle.tas_desk.specs.Seats.{SeatContent, KeepsZone}
use Rattle.tas_journal.specs.Text.{entry_lines}
use Rattle.tas_language.specs.declared.request.Request.{Request}
use Rattle.tas_seat.specs.Conversations.{TalkingSeat}
use Rattle.tas_seat.specs.Outcomes.{HasTalkAnswer}
use Rattle.tas_journaling.specs.declared.journal.JournalFault.{JournalFault}
use Rattle.tas_journaling.specs.declared.journal.JournalFault.TheVariants.{Write, Sync, Memory}
use Rattle.tas_journaling.specs.Journals.{journaled, lines_from, JournalContent, IsNoted, IsCutShort, IsUnsynced, IsGivenPart}
use Rattle.tas_journaling.specs.Noting.{NoteFacts, KeepsUp, KeepsUpBy, FallsShort, may_edit}
use Rattle.tas_journaling.specs.NoteLaws.{AreNoteLaws, noted_on}
use Rattle.tas_journaling.proofs.LineLemmas.{lines_split}

-- ---- seats

pub keeps_same : {A : Type 0} (seat : SeatContent A) → KeepsZone seat seat
keeps_same seat = record { seen = record { number = refl; made = refl; begins = prefix_self seat.front }; zone = refl }

-- ---- histories

-- how many entries were asked for
pub entries_length : {A : Type 0} (most upto at : ℕ) (history entries : List (Entry A)) → entries ≡ take most (drop upto history) → at ≡ length history → length entries ≡ min most (at - upto)
entries_length {A} most upto at history entries are long =
    ap (λ (l : List (Entry A)). length l) are ∙ length-take most (drop upto history) ∙ ap (λ (n : ℕ). min most n) (length-drop upto history ∙ ap (λ (n : ℕ). n - upto) (sym long))

-- and that they are all that follow
all_entries : {A : Type 0} (most upto at : ℕ) (history entries : List (Entry A)) → entries ≡ take most (drop upto history) → at ≡ length history → length entries ≡ at - upto → entries ≡ drop upto history
all_entries {A} most upto at history entries are long whole =
    are ∙ take_all most (drop upto history) (omega (arith, entries_length most upto at history entries are long, whole, long, length-drop upto history))

-- ---- bytes of a file

-- all was written
pub whole_part : (old middle new : Option (List ℕ)) (bytes : List ℕ) → Appends old middle bytes → new ≡ middle → IsGivenPart old new bytes Sync
whole_part old middle new bytes out same = subst (λ (o : Option (List ℕ)). Appends old o bytes) (sym same) out

-- some of these bytes were, or all, or none; `seen` is the journal that `old` names
pub part_as : (old seen : JournalContent) (new : Option (List ℕ)) (bytes lines : List ℕ) (fault : JournalFault) → seen ≡ old → bytes ≡ lines → IsGivenPart seen.bytes new bytes fault → IsGivenPart old.bytes new lines fault
part_as old seen new bytes lines fault is same part = subst (λ (j : JournalContent). IsGivenPart j.bytes new lines fault) is (subst (λ (l : List ℕ). IsGivenPart seen.bytes new l fault) same part)

-- the entries that were asked for, from the place that the journal names
pub asked : {A : Type 0} (old seen : JournalContent) (most : ℕ) (history items entries : List (Entry A)) → seen ≡ old → entries ≡ items → items ≡ take most (drop seen.upto history) → entries ≡ take most (drop old.upto history)
asked {A} old seen most history items entries is same are = same ∙ are ∙ ap (λ (j : JournalContent). take most (drop j.upto history)) is

-- ---- notes

-- there is nothing to note
pub lacks_none : {A : Type 0} (before now : SeatContent A) (journal : JournalContent) (most at : ℕ) (entries : List (Entry A)) → KeepsZone before now → entries ≡ take most (drop journal.upto now.front) → at ≡ length now.front → 0 < most → length entries ≡ 0
    → KeepsUp before now journal journal
lacks_none {A} before now journal most at entries kept are long some none = λ head is.
    let noted = noted_on head before.front now.front journal is kept.seen.begins in
    record { noted = noted; all = omega (arith, entries_length most journal.upto at now.front entries are long, none, some, long, noted.few) }

-- the lines of the old entries and of those that follow are those of the history
both_lines : {A : Type 0} (history : List (Entry A)) (old : JournalContent) (entries : List (Entry A)) → old.first ≤ old.upto → old.upto ≤ length history → entries ≡ drop old.upto history
    → lines_from old.first (take old.upto history) ++ entry_lines (old.upto - old.first) (journaled entries) ≡ lines_from old.first history
both_lines {A} history old entries from few are =
    ap (λ (l : List (Entry A)). lines_from old.first (take old.upto history) ++ entry_lines (old.upto - old.first) (journaled l)) are ∙ sym (lines_split old.first old.upto history from few)

-- the lines that it lacked were written
pub notes_all : {A : Type 0} (before now : SeatContent A) (old new : JournalContent) (most at : ℕ) (entries : List (Entry A)) → KeepsZone before now → entries ≡ take most (drop old.upto now.front) → at ≡ length now.front → length entries ≡ at - old.upto
    → new.first ≡ old.first → new.upto ≡ at → new.fault ≡ old.fault → Appends old.bytes new.bytes (entry_lines (old.upto - old.first) (journaled entries)) → KeepsUp before now old new
notes_all {A} before now old new most at entries kept are long whole same to fault out = λ head is.
    let history : List (Entry A) = now.front in
    let noted = noted_on head before.front history old is kept.seen.begins in
    let front : List ℕ = lines_from old.first (take old.upto history) in
    let lines : List ℕ = entry_lines (old.upto - old.first) (journaled entries) in
    let both : front ++ lines ≡ lines_from old.first history = both_lines history old entries noted.from noted.few (all_entries most old.upto at history entries are long whole) in
    let all : take new.upto history ≡ history = take_all new.upto history (omega (arith, to, long)) in
    let named : lines_from old.first history ≡ lines_from new.first (take new.upto history) =
    ap (λ (k : ℕ). lines_from k history) (sym same) ∙ ap (λ (l : List (Entry A)). lines_from new.first l) (sym all) in
    record {
      noted = record {
        whole = fault ∙ noted.whole;
        from = omega (arith, same, to, long, noted.from, noted.few);
        few = omega (arith, to, long);
        bytes = subst (λ (l : List ℕ). Appends head new.bytes l) (both ∙ named) (Appends-trans head old.bytes new.bytes front lines noted.bytes out);
      };
      all = to ∙ long;
    }

-- the lines up to the next one stay those that they were
same_lines : {A : Type 0} (history : List (Entry A)) (old new : JournalContent) → new.first ≡ old.first → new.upto ≡ old.upto → lines_from new.first (take new.upto history) ≡ lines_from old.first (take old.upto history)
same_lines {A} history old new same to = ap (λ (k : ℕ). lines_from k (take new.upto history)) same ∙ ap (λ (k : ℕ). lines_from old.first (take k history)) to

-- the first bytes of these lines were written
notes_part : {A : Type 0} (before now : SeatContent A) (old new : JournalContent) (most at sent : ℕ) (entries : List (Entry A)) → KeepsZone before now → entries ≡ take most (drop old.upto now.front) → at ≡ length now.front → length entries ≡ at - old.upto
    → new.first ≡ old.first → new.upto ≡ old.upto → IsCutOff old.bytes new.bytes (entry_lines (old.upto - old.first) (journaled entries)) sent → (head : Option (List ℕ)) → IsNoted head before.front old → IsCutShort head now.front new
notes_part {A} before now old new most at sent entries kept are long whole same to out head is =
    let history : List (Entry A) = now.front in
    let noted = noted_on head before.front history old is kept.seen.begins in
    let front : List ℕ = lines_from old.first (take old.upto history) in
    let lines : List ℕ = entry_lines (old.upto - old.first) (journaled entries) in
    let both : front ++ lines ≡ lines_from new.first history =
    both_lines history old entries noted.from noted.few (all_entries most old.upto at history entries are long whole) ∙ ap (λ (k : ℕ). lines_from k history) (sym same) in
    let part : front ++ take sent lines ≡ take (length front + sent) (lines_from new.first history) =
    sym (take-append-add front lines sent) ∙ ap (λ (l : List ℕ). take (length front + sent) l) both in
    let size : length (lines_from new.first (take new.upto history)) ≡ length front = ap (λ (l : List ℕ). length l) (same_lines history old new same to) in
    let most_sent : length (lines_from new.first history) ≡ length front + length lines = ap (λ (l : List ℕ). length l) (sym both) ∙ length-append front lines in
    record {
      from = omega (arith, same, to, noted.from);
      few = omega (arith, to, noted.few);
      sent = length front + sent;
      reached = omega (arith, size);
      cut = record {
        missing = omega (arith, out.missing, most_sent);
        front = subst (λ (l : List ℕ). Appends head new.bytes l) part (Appends-trans head old.bytes new.bytes front (take sent lines) noted.bytes out.front);
      };
    }

-- all of them were
notes_unsynced : {A : Type 0} (before now : SeatContent A) (old new : JournalContent) (most at : ℕ) (entries : List (Entry A)) → KeepsZone before now → entries ≡ take most (drop old.upto now.front) → at ≡ length now.front → length entries ≡ at - old.upto
    → new.first ≡ old.first → new.upto ≡ old.upto → Appends old.bytes new.bytes (entry_lines (old.upto - old.first) (journaled entries)) → (head : Option (List ℕ)) → IsNoted head before.front old → IsUnsynced head now.front new
notes_unsynced {A} before now old new most at entries kept are long whole same to out head is =
    let history : List (Entry A) = now.front in
    let noted = noted_on head before.front history old is kept.seen.begins in
    let front : List ℕ = lines_from old.first (take old.upto history) in
    let lines : List ℕ = entry_lines (old.upto - old.first) (journaled entries) in
    let both : front ++ lines ≡ lines_from new.first history =
    both_lines history old entries noted.from noted.few (all_entries most old.upto at history entries are long whole) ∙ ap (λ (k : ℕ). lines_from k history) (sym same) in
    record {
      from = omega (arith, same, to, noted.from);
      few = omega (arith, to, noted.few);
      bytes = subst (λ (l : List ℕ). Appends head new.bytes l) both (Appends-trans head old.bytes new.bytes front lines noted.bytes out);
    }

-- they weren't all written
pub notes_less : {A : Type 0} (before now : SeatContent A) (old new : JournalContent) (most at : ℕ) (entries : List (Entry A)) (fault : JournalFault) → KeepsZone before now → entries ≡ take most (drop old.upto now.front) → at ≡ length now.front
    → length entries ≡ at - old.upto → new.first ≡ old.first → new.upto ≡ old.upto → (fault ≡ Memory → new ≡ old) → ((fault ≡ Memory → ⊥) → new.fault ≡ Some fault)
    → IsGivenPart old.bytes new.bytes (entry_lines (old.upto - old.first) (journaled entries)) fault → FallsShort before now old new fault
notes_less before now old new most at entries Memory kept are long whole same to as_it_was named part = as_it_was refl
notes_less before now old new most at entries Write kept are long whole same to as_it_was named (sent, out) = λ head is.
    (notes_part before now old new most at sent entries kept are long whole same to out head is, to, named (λ e. absurd (cc e)))
notes_less before now old new most at entries Sync kept are long whole same to as_it_was named out = λ head is.
    (notes_unsynced before now old new most at entries kept are long whole same to out head is, to, named (λ e. absurd (cc e)))

-- a journal that has failed before
pub failed_before : {A : Type 0} (before now : SeatContent A) (journal : JournalContent) (fault : JournalFault) → journal.fault ≡ Some fault → FallsShort before now journal journal fault
failed_before before now journal Memory is = refl
failed_before before now journal Write is = λ head noted. absurd (cc (is, noted.whole))
failed_before before now journal Sync is = λ head noted. absurd (cc (is, noted.whole))

-- ---- answers

-- notes that are brought up to a seat once it is answered are brought up to it from where it was before
pub keeps_up_from : {A J : Type 0} {notes : NoteFacts A J} (laws : AreNoteLaws notes) (before now : TalkingSeat A) (last : SeatContent A) (request : Request) (answer : List ℕ) (edits : Bool) (old new : J) → HasTalkAnswer A before now request answer
    → edits ≡ may_edit (is_some before.draft) request → KeepsUpBy notes edits now.seat last old new → KeepsUpBy notes (may_edit (is_some before.draft) request) before.seat last old new
keeps_up_from {A} {J} {notes} laws before now last request answer edits old new answered is keeps = λ head ready.
    subst (λ (e : Bool). KeepsUpBy notes e now.seat last old new) is keeps head (laws.ready_on head before now request answer old answered ready)
