-- Conversations with a journal on a desk of one seat.
use Rattle.std.proofs.Common.{◌≡◌, ℕ, zero, suc, ◌+◌, ◌≤◌, List, [], ◌∷◌, ◌++◌, length, take, drop, Option, Some, None, Result, Ok, Err, inl, inr, refl, sym, ap, subst, ◌∙◌, arith, length-append}
use Rattle.std.specs.Prelude.{IfErr}
use Rattle.byte_text.specs.CutOff.{IsCutOff}
use Rattle.std.specs.Io.KnownBytes.{Appends, Consumes}
use Rattle.std.proofs.KnownBytes.{Appends-nil, Appends-trans}
use Rattle.std.proofs.lemmas.List.{length-map, length-drop, length-take-le, take_all, take-append-le}
use Rattle.std.proofs.Math.Seq.{take-append-add}
use mathlib.Core.List.{IsPrefix}
use Rattle.tas_movie.specs.Content.{MovieContent, blank_movie}
use Rattle.tas_movie.specs.Text.{line}
use Rattle.tas_movie.specs.declared.edit.Edit.{Edit}
use Rattle.tas_movie.specs.declared.edit.Edit.TheVariants.{Load, Insert, Replace, Delete}
use Rattle.tas_published.specs.declared.entry.Entry.{Entry}
use Rattle.tas_published.specs.History.{movie_of, entries_of}
use Rattle.tas_published.proofs.PrefixLemmas.{prefix_trans}
use Rattle.tas_desk.specs.Seats.{SeatContent, KeepsZone}
use Rattle.tas_desk.specs.Zones.{ZoneContent}
use Rattle.tas_engines.specs.Changes.{EditContent}
use Rattle.tas_engines.specs.declared.fault.ReadFault.TheVariants.{TooLong, Failed, Memory as NoRoom}
use Rattle.tas_engines.specs.declared.fault.RunFault.{RunFault}
use Rattle.tas_engines.specs.declared.fault.RunFault.TheVariants.{Write, Size, Text, NoFrame as OffMovie, Range as OffRange, Halted as Stopped, HaltedFrame as StoppedFrame, Script, Place, Long, Names as NoNames, NoPlace, NoEntry, Foreign, Memory}
use Rattle.tas_engines.specs.declared.fault.ToolFault.TheVariants.{Read, Run, Seat}
use Rattle.tas_journal.specs.Text.{edit_text, entry_front, entry_text, entry_lines, head_text}
use Rattle.tas_journaling.specs.Journals.{JournalContent, IsNoted, HasAll, IsCutShort, IsUnsynced, HasLess, IsGivenPart, journaled, lines_from}
use Rattle.tas_journaling.specs.declared.journal.JournalFault.{JournalFault}
use Rattle.tas_journaling.specs.declared.journal.JournalFault.TheVariants as journal
use Rattle.tas_journaling.specs.declared.talking.TalkFault.{TalkFault}
use Rattle.tas_journaling.specs.declared.talking.TalkFault.TheVariants.{Tool, Journal}
use Rattle.tas_journaling.specs.Talks.{Ways, AreShown, NotedEnds, JournalEnds, IsNotedTalk}
use Rattle.tas_journaling.proofs.CallLemmas.{as_run, ends_as, shown_leave}
use Rattle.tas_seat.specs.Conversations.{TalkingSeat, talking}
use Rattle.tas_seat.specs.Drafts.{DraftContent}
use Rattle.tas_seat.specs.Seats.{talk_state_at, entries_from}
use Rattle.tas_seat.specs.Talk.{Exchange as SeatExchange, TalkEnds as SeatEnds, IsCarriedOut as IsSeatCarriedOut, answers_of as seat_texts, edits_of}
use Rattle.tas_seat.proofs.HistoryLemmas.{Leaves, prefix_length, exchange_leaves, leaves_seen, rested, Rested}
use Rattle.tas_tool.specs.Scripts.{IsUnmade}
use Rattle.tas_tool.specs.Talk.{DraftedState, drafted, AreExchanges, TalkEnds, IsUnbegun, answers_of, own_entries, talk_state_from}
use Rattle.tas_tool.specs.NotedTalks.{journal_since, NotedTalkEnds, CarriesTo, MakesInAll, IsGivenTo, IsTalkNoted, IsKeptAt, IsKeptBy, IsNoBeginning, IsNotedTalkLeaving}
use Rattle.tas_tool.specs.Inside.Alone.{SeesOwn, IsStarted, IsBegun, HasHead, IsHeadCut, IsKeptOnceMade, EndsNoted, noted_end, noted_left}
use Rattle.tas_tool.specs.Inside.TwoEdits.{IsMakingFault}
use Rattle.tas_tool.proofs.AloneLemmas.{all_answers, all_lines, alone_before, edit_content, edits_seen, first_alone, none_left, own_all, own_ends, own_exchange, own_is, own_place, place_of, same_front, seen_after, sees_before}
use Rattle.tas_tool.proofs.MovieScriptLemmas.{holds_seen, unmade_by}
use Rattle.tas_tool.proofs.TalkRunLemmas.{first_state, made_state, untouched}

-- ---- a seat that was shown nothing but its own edits

shown_same : {A : Type 0} (seat shown : SeatContent A) (draft : Option DraftContent) → KeepsZone seat shown → seat.made ≤ length seat.front → SeesOwn shown → own_place (talking shown draft) ≡ own_place (talking seat draft)
shown_same {A} seat shown draft keeps seen own =
    let front : shown.front ≡ seat.front = same_front seat shown [] (leaves_seen seat shown keeps.seen) refl seen own in
    ap (λ (l : List (Entry A)). drafted (talk_state_at l shown.zone) (edits_seen l) draft) front
    ∙ ap (λ (z : ZoneContent A). drafted (talk_state_at seat.front z) (edits_seen seat.front) draft) keeps.zone

-- its lines are answered at what the lines before them made
own_shown : {A : Type 0} (start last : TalkingSeat A) (xs : List (SeatExchange A)) → AreShown start xs last → start.seat.made ≤ length start.seat.front → SeesOwn last.seat → AreExchanges (own_place start) (own_all xs) (own_place last)
unfolding AreShown AreExchanges own_all
own_shown {A} start last [] is seen own = ap (λ (s : TalkingSeat A). own_place s) is
own_shown {A} start last (x ∷ xs) (is, shown, keeps, rest) seen own =
    let shown_own : SeesOwn shown = sees_before shown last.seat (edits_of xs) (shown_leave (talking shown x.next.draft) last xs rest) own in
    let left : Leaves x.next.seat shown [] = leaves_seen x.next.seat shown keeps.seen in
    let next : SeesOwn x.next.seat = sees_before x.next.seat shown [] left shown_own in
    let next_seen : x.next.seat.made ≤ length x.next.seat.front = seen_after start.seat x.next.seat x.edits (exchange_leaves start x is) seen in
    let later : AreExchanges (own_place (talking shown x.next.draft)) (own_all xs) (own_place last) = own_shown (talking shown x.next.draft) last xs rest (seen_after x.next.seat shown [] left next_seen) own in (
      own_is start x is seen next,
      subst (λ (s : DraftedState). AreExchanges s (own_all xs) (own_place last)) (shown_same x.next.seat shown x.next.draft keeps next_seen shown_own) later,
    )

-- ---- the end

ends_from : (state : DraftedState) (rest told : List ℕ) (input output output' : Option (List ℕ)) (result : Result (Unit {0}) TalkFault) → TalkEnds state rest told input output output' (as_run result) → NotedTalkEnds state rest told input output output' result
ends_from state rest told input output output' (Ok u) is = is
ends_from state rest told input output output' (Err (Tool fault)) is = is
ends_from state rest told input output output' (Err (Journal fault)) is = is

-- ---- what is made in all

-- what is made, of which the seat that was left has seen all
record Made {A : Type 0} (seat : TalkingSeat A) (last : SeatContent A) (rest : List ℕ) (result : Result (Unit {0}) TalkFault) : Type 0 where
  made : DraftedState
  makes : MakesInAll (own_place seat) rest made result
  movie : movie_of last.front ≡ made.state.stands.movie
  edits : edits_seen last.front ≡ made.edits

carried_to : {A : Type 0} (seat : TalkingSeat A) (last : SeatContent A) (rest answer : List ℕ) (edits : List (Edit A)) (is : IsSeatCarriedOut seat last rest edits answer) → seat.seat.made ≤ length seat.seat.front → SeesOwn last
    → CarriesTo (own_place seat) rest (own_place is.exchange.next)
carried_to {A} seat last rest answer edits is seen own =
    let next : SeesOwn is.exchange.next.seat = subst (λ (s : SeatContent A). SeesOwn s) is.last_is own in
    (own_exchange is.exchange, is.more, own_is seat is.exchange is.is seen next, is.text, refl)

carried_movie : {A : Type 0} (seat : TalkingSeat A) (last : SeatContent A) (rest answer : List ℕ) (edits : List (Edit A)) (is : IsSeatCarriedOut seat last rest edits answer) → movie_of last.front ≡ (own_place is.exchange.next).state.stands.movie
carried_movie {A} seat last rest answer edits is = ap (λ (s : SeatContent A). movie_of s.front) is.last_is

carried_edits : {A : Type 0} (seat : TalkingSeat A) (last : SeatContent A) (rest answer : List ℕ) (edits : List (Edit A)) (is : IsSeatCarriedOut seat last rest edits answer) → edits_seen last.front ≡ (own_place is.exchange.next).edits
carried_edits {A} seat last rest answer edits is = ap (λ (s : SeatContent A). edits_seen s.front) is.last_is

stays : {A : Type 0} (seat : TalkingSeat A) (last : SeatContent A) (rest : List ℕ) (result : Result (Unit {0}) TalkFault) → last.front ≡ seat.seat.front → MakesInAll (own_place seat) rest (own_place seat) result → Made seat last rest result
stays {A} seat last rest result same makes = record {
  made = own_place seat;
  makes = makes;
  movie = ap (λ (l : List (Entry A)). movie_of l) same;
  edits = ap (λ (l : List (Entry A)). edits_seen l) same;
}

own_made : {A : Type 0} (seat : TalkingSeat A) (last : SeatContent A) (rest told : List ℕ) (edits : List (Edit A)) (input output output' : Option (List ℕ)) (result : Result (Unit {0}) TalkFault) → NotedEnds seat last rest told edits input output output' result
    → Leaves seat.seat last edits → (as_run result ≡ Err (Run Foreign) → ⊥) → seat.seat.made ≤ length seat.seat.front → SeesOwn last → Made seat last rest result
own_made {A} seat last rest told edits input output output' (Ok u) is left other seen own = stays seat last rest (Ok u) (ap (λ (s : SeatContent A). s.front) is.0.same) refl
own_made {A} seat last rest told edits input output output' (Err (Tool (Read Failed))) is left other seen own = stays seat last rest (Err (Tool (Read Failed))) (ap (λ (s : SeatContent A). s.front) is.0.same) refl
own_made {A} seat last rest told edits input output output' (Err (Tool (Run (Write written)))) (answer, inl is, cut) left other seen own = record {
  made = own_place is.exchange.next;
  makes = inl (carried_to seat last rest answer edits is seen own);
  movie = carried_movie seat last rest answer edits is;
  edits = carried_edits seat last rest answer edits is;
}
own_made {A} seat last rest told edits input output output' (Err (Tool (Run (Write written)))) (answer, inr is, cut) left other seen own =
    stays seat last rest (Err (Tool (Run (Write written)))) (ap (λ (s : SeatContent A). s.front) is.0.same) (inr (is.1, refl))
own_made seat last rest told edits input output output' (Err (Tool (Run Memory))) (inl is, out) left other seen own =
    stays seat last rest (Err (Tool (Run Memory))) (same_front seat.seat last edits left is.none seen own) (inr refl)
own_made seat last rest told edits input output output' (Err (Tool (Run Memory))) (inr (answer, is), out) left other seen own = record {
  made = own_place is.exchange.next;
  makes = inl (carried_to seat last rest answer edits is seen own);
  movie = carried_movie seat last rest answer edits is;
  edits = carried_edits seat last rest answer edits is;
}
own_made seat last rest told edits input output output' (Err (Journal fault)) (answer, is, out) left other seen own = record {
  made = own_place is.exchange.next;
  makes = carried_to seat last rest answer edits is seen own;
  movie = carried_movie seat last rest answer edits is;
  edits = carried_edits seat last rest answer edits is;
}
own_made seat last rest told edits input output output' (Err (Tool (Run NoEntry))) is left other seen own = stays seat last rest (Err (Tool (Run NoEntry))) (same_front seat.seat last edits left is.0.none seen own) refl
own_made seat last rest told edits input output output' (Err (Tool (Run Foreign))) is left other seen own = absurd (other refl)
own_made seat last rest told edits input output output' (Err (Tool (Read TooLong))) is left other seen own = absurd is
own_made seat last rest told edits input output output' (Err (Tool (Read NoRoom))) is left other seen own = absurd is
own_made seat last rest told edits input output output' (Err (Tool (Run (Size n)))) is left other seen own = absurd is
own_made seat last rest told edits input output output' (Err (Tool (Run (Text error)))) is left other seen own = absurd is
own_made seat last rest told edits input output output' (Err (Tool (Run (OffMovie frame len)))) is left other seen own = absurd is
own_made seat last rest told edits input output output' (Err (Tool (Run (OffRange from to len)))) is left other seen own = absurd is
own_made seat last rest told edits input output output' (Err (Tool (Run (NoNames row kind)))) is left other seen own = absurd is
own_made seat last rest told edits input output output' (Err (Tool (Run (Stopped at opcode)))) is left other seen own = absurd is
own_made seat last rest told edits input output output' (Err (Tool (Run (StoppedFrame frame at opcode)))) is left other seen own = absurd is
own_made seat last rest told edits input output output' (Err (Tool (Run (Script number)))) is left other seen own = absurd is
own_made seat last rest told edits input output output' (Err (Tool (Run (Place number)))) is left other seen own = absurd is
own_made seat last rest told edits input output output' (Err (Tool (Run (Long number)))) is left other seen own = absurd is
own_made seat last rest told edits input output output' (Err (Tool (Run NoPlace))) is left other seen own = absurd is
own_made seat last rest told edits input output output' (Err (Tool (Seat number fault))) is left other seen own = absurd is

-- ---- the journal's text

same_words : {A : Type 0} (edit : Edit A) → edit_text (edit_content edit) ≡ edit_text edit
same_words (Load cart) = refl
same_words (Insert at inputs) = refl
same_words (Replace at inputs) = refl
same_words (Delete at count) = refl

-- the lines of a history that is a seat's alone are those of its edits
own_text : {A : Type 0} (number serial : ℕ) (front : List (Entry A)) → entries_of 0 front ≡ length front → entry_lines number (journaled front) ≡ entry_lines number (journaled (entries_from 0 serial (edits_seen front)))
own_text number serial [] alone = refl
own_text {A} number serial (entry ∷ front) alone =
    let first = first_alone 0 entry front alone in
    let rest : List ℕ = entry_lines (number + 1) (journaled (entries_from 0 (serial + 1) (edits_seen front))) in
    ap (λ (l : List ℕ). line (entry_text number entry.seat entry.edit) ++ l) (own_text (number + 1) (serial + 1) front first.1)
    ∙ ap (λ (n : ℕ). line (entry_text number n entry.edit) ++ rest) first.0
    ∙ ap (λ (t : List ℕ). line (entry_front number 0 ++ t) ++ rest) (sym (same_words entry.edit))

text_from : {A : Type 0} (k serial : ℕ) (front : List (Entry A)) → entries_of 0 front ≡ length front → lines_from k front ≡ entry_lines 0 (journaled (drop k (entries_from 0 serial (edits_seen front))))
text_from zero serial front alone = own_text 0 serial front alone
text_from (suc k) serial [] alone = refl
text_from {A} (suc k) serial (entry ∷ front) alone = text_from k (serial + 1) front (first_alone 0 entry front alone).1

-- a journal's text by what the seat has seen
since_is : {A : Type 0} (start : SeatContent A) (front : List (Entry A)) (k : ℕ) (edits : List EditContent) → entries_of 0 front ≡ length front → k ≡ length start.front → edits_seen front ≡ edits
    → head_text (movie_of start.front) ++ lines_from k front ≡ journal_since (place_of start) edits
since_is {A} start front k edits alone at same =
    let counted : k ≡ length (edits_seen start.front) = at ∙ sym (length-map start.front (λ (e : Entry A). edit_content e.edit)) in
    ap (λ (l : List ℕ). head_text (movie_of start.front) ++ l)
    (text_from k 0 front alone
    ∙ ap (λ (n : ℕ). entry_lines 0 (journaled (drop n (own_entries (edits_seen front))))) counted
    ∙ ap (λ (l : List EditContent). entry_lines 0 (journaled (drop (length (edits_seen start.front)) (own_entries l)))) same)

-- ---- what the journal's file was given

-- a journal without a line is one of all that was seen
begun_all : {A : Type 0} (history : List (Entry A)) (journal : JournalContent) → journal.first ≡ length history → journal.upto ≡ length history → journal.fault ≡ None → HasAll journal.bytes history journal
begun_all {A} history journal first upto whole =
    let size : length (take journal.upto history) ≡ journal.upto = length-take-le journal.upto history (omega (arith, upto)) in
    let none : drop journal.first (take journal.upto history) ≡ [] = none_left (drop journal.first (take journal.upto history)) (omega (arith, length-drop journal.first (take journal.upto history), size, first, upto)) in
    let empty : lines_from journal.first (take journal.upto history) ≡ [] = ap (λ (l : List (Entry A)). entry_lines 0 (journaled l)) none in
    record {
      noted = record { whole = whole; from = omega (arith, first, upto); few = omega (arith, upto); bytes = subst (λ (l : List ℕ). Appends journal.bytes journal.bytes l) (sym empty) (Appends-nil journal.bytes) };
      all = upto;
    }

-- the texts of a journal whose head is there, where the seat had seen this when it was last answered, and this in the end
record Texts {A : Type 0} (start : SeatContent A) (file : Option (List ℕ)) (old new : JournalContent) (seat last : SeatContent A) (answered made : List EditContent) : Type 0 where
  head : Appends file old.bytes (head_text (movie_of start.front))
  first : new.first ≡ length start.front
  begins : IsPrefix seat.front last.front
  seen : edits_seen seat.front ≡ answered
  all : edits_seen last.front ≡ made
  alone : entries_of 0 last.front ≡ length last.front

-- after the head
after_head : {A : Type 0} (start : SeatContent A) (file : Option (List ℕ)) (old new : JournalContent) (seat last : SeatContent A) (answered made : List EditContent) (text : List ℕ) → Texts start file old new seat last answered made → Appends old.bytes new.bytes text
    → Appends file new.bytes (head_text (movie_of start.front) ++ text)
after_head start file old new seat last answered made text texts out = Appends-trans file old.bytes new.bytes (head_text (movie_of start.front)) text texts.head out

-- all that was seen in the end
given_all : {A : Type 0} (start : SeatContent A) (file : Option (List ℕ)) (old new : JournalContent) (seat last : SeatContent A) (answered made : List EditContent) → Texts start file old new seat last answered made → HasAll old.bytes last.front new
    → Appends file new.bytes (journal_since (place_of start) made)
given_all {A} start file old new seat last answered made texts all =
    let whole : take new.upto last.front ≡ last.front = take_all new.upto last.front (omega (arith, all.all)) in
    let lines : Appends old.bytes new.bytes (lines_from new.first last.front) = subst (λ (l : List (Entry A)). Appends old.bytes new.bytes (lines_from new.first l)) whole all.noted.bytes in
    subst (λ (l : List ℕ). Appends file new.bytes l) (since_is start last.front new.first made texts.alone texts.first texts.all)
    (after_head start file old new seat last answered made (lines_from new.first last.front) texts lines)

-- up to what was seen when it was last answered
front_taken : {A : Type 0} (upto : ℕ) (xs ys : List (Entry A)) → IsPrefix xs ys → upto ≡ length xs → take upto ys ≡ xs
front_taken {A} upto xs ys begins is =
    ap (λ (l : List (Entry A)). take upto l) (sym begins.1) ∙ take-append-le upto xs begins.0 (omega (arith, is)) ∙ take_all upto xs (omega (arith, is))

answered_text : {A : Type 0} (start : SeatContent A) (file : Option (List ℕ)) (old new : JournalContent) (seat last : SeatContent A) (answered made : List EditContent) → Texts start file old new seat last answered made → new.upto ≡ length seat.front
    → head_text (movie_of start.front) ++ lines_from new.first (take new.upto last.front) ≡ journal_since (place_of start) answered
answered_text {A} start file old new seat last answered made texts upto =
    ap (λ (l : List (Entry A)). head_text (movie_of start.front) ++ lines_from new.first l) (front_taken new.upto seat.front last.front texts.begins upto)
    ∙ since_is start seat.front new.first answered (alone_before 0 seat.front last.front texts.begins texts.alone) texts.first texts.seen

given_answered : {A : Type 0} (start : SeatContent A) (file : Option (List ℕ)) (old new : JournalContent) (seat last : SeatContent A) (answered made : List EditContent) → Texts start file old new seat last answered made
    → IsNoted old.bytes last.front new × (new.upto ≡ length seat.front) → Appends file new.bytes (journal_since (place_of start) answered)
given_answered start file old new seat last answered made texts (noted, upto) =
    subst (λ (l : List ℕ). Appends file new.bytes l) (answered_text start file old new seat last answered made texts upto)
    (after_head start file old new seat last answered made (lines_from new.first (take new.upto last.front)) texts noted.bytes)

-- all was written, but perhaps it isn't on the disk
given_unsynced : {A : Type 0} (start : SeatContent A) (file : Option (List ℕ)) (old new : JournalContent) (seat last : SeatContent A) (answered made : List EditContent) → Texts start file old new seat last answered made → IsUnsynced old.bytes last.front new
    → Appends file new.bytes (journal_since (place_of start) made)
given_unsynced start file old new seat last answered made texts all =
    subst (λ (l : List ℕ). Appends file new.bytes l) (since_is start last.front new.first made texts.alone texts.first texts.all)
    (after_head start file old new seat last answered made (lines_from new.first last.front) texts all.bytes)

-- some first bytes were
given_cut : {A : Type 0} (start : SeatContent A) (file : Option (List ℕ)) (old new : JournalContent) (seat last : SeatContent A) (answered made : List EditContent) → Texts start file old new seat last answered made → IsCutShort old.bytes last.front new → new.upto ≡ length seat.front
    → (sent : ℕ) × (length (journal_since (place_of start) answered) ≤ sent) × IsCutOff file new.bytes (journal_since (place_of start) made) sent
given_cut {A} start file old new seat last answered made texts cut upto =
    let head : List ℕ = head_text (movie_of start.front) in
    let lines : List ℕ = lines_from new.first last.front in
    let since : head ++ lines ≡ journal_since (place_of start) made = since_is start last.front new.first made texts.alone texts.first texts.all in
    let part : head ++ take cut.sent lines ≡ take (length head + cut.sent) (journal_since (place_of start) made) =
    sym (take-append-add head lines cut.sent) ∙ ap (λ (l : List ℕ). take (length head + cut.sent) l) since in
    let long : length (journal_since (place_of start) made) ≡ length head + length lines = ap (λ (l : List ℕ). length l) (sym since) ∙ length-append head lines in
    let size : length head + length (lines_from new.first (take new.upto last.front)) ≡ length (journal_since (place_of start) answered) =
    sym (length-append head (lines_from new.first (take new.upto last.front))) ∙ ap (λ (l : List ℕ). length l) (answered_text start file old new seat last answered made texts upto) in (
      length head + cut.sent,
      omega (arith, size, cut.reached),
      record {
        missing = omega (arith, long, cut.cut.missing);
        front = subst (λ (l : List ℕ). Appends file new.bytes l) part (after_head start file old new seat last answered made (take cut.sent lines) texts cut.cut.front);
      },
    )

given_part : {A : Type 0} (start : SeatContent A) (file : Option (List ℕ)) (old new : JournalContent) (seat last : SeatContent A) (answered made : List EditContent) (fault : JournalFault) → Texts start file old new seat last answered made
    → HasLess old.bytes last.front new fault × (new.upto ≡ length seat.front)
    → IsGivenTo (journal_since (place_of start) answered) (journal_since (place_of start) made) file new.bytes (Err (Journal fault))
given_part start file old new seat last answered made journal.Memory texts noted = given_answered start file old new seat last answered made texts noted
given_part start file old new seat last answered made journal.Write texts (cut, upto) = given_cut start file old new seat last answered made texts cut upto
given_part start file old new seat last answered made journal.Sync texts (all, upto) = given_unsynced start file old new seat last answered made texts all

own_given : {A : Type 0} (start : SeatContent A) (file : Option (List ℕ)) (old new : JournalContent) (seat last : SeatContent A) (answered made : DraftedState) (rest : List ℕ) (result : Result (Unit {0}) TalkFault) → Texts start file old new seat last answered.edits made.edits
    → MakesInAll answered rest made result → JournalEnds old.bytes seat.front last.front new result → IsGivenTo (journal_since (place_of start) answered.edits) (journal_since (place_of start) made.edits) file new.bytes result
own_given start file old new seat last answered made rest (Ok u) texts makes ends =
    subst (λ (s : DraftedState). Appends file new.bytes (journal_since (place_of start) s.edits)) makes (given_all start file old new seat last answered.edits made.edits texts ends)
own_given start file old new seat last answered made rest (Err (Tool (Run (Write written)))) texts makes ends = given_all start file old new seat last answered.edits made.edits texts ends
own_given start file old new seat last answered made rest (Err (Journal fault)) texts makes ends = given_part start file old new seat last answered.edits made.edits fault texts ends
own_given start file old new seat last answered made rest (Err (Tool (Read fault))) texts makes ends = given_answered start file old new seat last answered.edits made.edits texts ends
own_given start file old new seat last answered made rest (Err (Tool (Seat number fault))) texts makes ends = given_answered start file old new seat last answered.edits made.edits texts ends
own_given start file old new seat last answered made rest (Err (Tool (Run (Size n)))) texts makes ends = given_answered start file old new seat last answered.edits made.edits texts ends
own_given start file old new seat last answered made rest (Err (Tool (Run (Text error)))) texts makes ends = given_answered start file old new seat last answered.edits made.edits texts ends
own_given start file old new seat last answered made rest (Err (Tool (Run (OffMovie frame len)))) texts makes ends = given_answered start file old new seat last answered.edits made.edits texts ends
own_given start file old new seat last answered made rest (Err (Tool (Run (OffRange from to len)))) texts makes ends = given_answered start file old new seat last answered.edits made.edits texts ends
own_given start file old new seat last answered made rest (Err (Tool (Run (NoNames row kind)))) texts makes ends = given_answered start file old new seat last answered.edits made.edits texts ends
own_given start file old new seat last answered made rest (Err (Tool (Run (Stopped at opcode)))) texts makes ends = given_answered start file old new seat last answered.edits made.edits texts ends
own_given start file old new seat last answered made rest (Err (Tool (Run (StoppedFrame frame at opcode)))) texts makes ends = given_answered start file old new seat last answered.edits made.edits texts ends
own_given start file old new seat last answered made rest (Err (Tool (Run (Script number)))) texts makes ends = given_answered start file old new seat last answered.edits made.edits texts ends
own_given start file old new seat last answered made rest (Err (Tool (Run (Place number)))) texts makes ends = given_answered start file old new seat last answered.edits made.edits texts ends
own_given start file old new seat last answered made rest (Err (Tool (Run (Long number)))) texts makes ends = given_answered start file old new seat last answered.edits made.edits texts ends
own_given start file old new seat last answered made rest (Err (Tool (Run NoPlace))) texts makes ends = given_answered start file old new seat last answered.edits made.edits texts ends
own_given start file old new seat last answered made rest (Err (Tool (Run NoEntry))) texts makes ends = given_answered start file old new seat last answered.edits made.edits texts ends
own_given start file old new seat last answered made rest (Err (Tool (Run Foreign))) texts makes ends = given_answered start file old new seat last answered.edits made.edits texts ends
own_given start file old new seat last answered made rest (Err (Tool (Run Memory))) texts makes ends = given_answered start file old new seat last answered.edits made.edits texts ends

-- ---- the conversation

-- a seat's conversation with a journal, on a desk where nobody else makes edits, is one of a single seat
own_noted : {A : Type 0} (start last : SeatContent A) (file : Option (List ℕ)) (old new : Ways) (result : Result (Unit {0}) TalkFault) → IsNotedTalk start last old new result → new.journal.first ≡ old.journal.first → start.made ≤ length start.front → SeesOwn last
    → (SeesOwn start → HasHead (place_of start) file old.journal)
    → IsTalkNoted (Some (movie_of last.front)) file new.journal.bytes (place_of start) old.input new.input old.output new.output result × SeesOwn start × (last.made ≤ length last.front)
own_noted {A} start last file old new result talk same seen own head = go (rested talk.seat talk.left_at talk.rest told talk.more new.input old.output new.output (as_run result) ends)
  where
    told : List ℕ
    told = seat_texts talk.exchanges

    ends : SeatEnds talk.seat talk.left_at talk.rest told talk.more new.input old.output new.output (as_run result)
    ends = ends_as talk.seat talk.left_at talk.rest told talk.more new.input old.output new.output result talk.ends

    shown : Leaves talk.left_at last []
    shown = leaves_seen talk.left_at last talk.shown.seen

    left_own : SeesOwn talk.left_at
    left_own = sees_before talk.left_at last [] shown own

    first : Leaves start talk.seat.seat (edits_of talk.exchanges)
    first = shown_leave (talking start None) talk.seat talk.exchanges talk.answered

    seen_all : talk.seat.seat.made ≤ length talk.seat.seat.front
    seen_all = seen_after start talk.seat.seat (edits_of talk.exchanges) first seen

    done : (left : Leaves talk.seat.seat talk.left_at talk.more) → (as_run result ≡ Err (Run Foreign) → ⊥) → SeesOwn talk.seat.seat → SeesOwn start → Made talk.seat talk.left_at talk.rest result
        → IsTalkNoted (Some (movie_of last.front)) file new.journal.bytes (place_of start) old.input new.input old.output new.output result
    done left other middle start_own made =
        let left_seen : talk.left_at.made ≤ length talk.left_at.front = seen_after talk.seat.seat talk.left_at talk.more left seen_all in
        let front : last.front ≡ talk.left_at.front = same_front talk.left_at last [] shown refl left_seen own in
        let begun : HasHead (place_of start) file old.journal = head start_own in
        let sized : length (edits_seen start.front) ≡ length start.front = length-map start.front (λ (e : Entry A). edit_content e.edit) in
        let old_ends : TalkEnds (own_place talk.seat) talk.rest told new.input old.output new.output (as_run result) =
        own_ends talk.seat talk.left_at talk.rest told talk.more new.input old.output new.output (as_run result) ends other seen_all left_own in
        let texts : Texts start file old.journal new.journal talk.seat.seat last (own_place talk.seat).edits made.made.edits = record {
          head = begun.head;
          first = same ∙ begun.first ∙ sized;
          begins = prefix_trans talk.seat.seat.front talk.left_at.front last.front left.seen shown.seen;
          seen = refl;
          all = ap (λ (l : List (Entry A)). edits_seen l) front ∙ made.edits;
          alone = own.alone;
        } in
        let all : HasAll old.journal.bytes start.front old.journal = begun_all start.front old.journal (begun.first ∙ sized) (begun.upto ∙ sized) begun.whole in
        record {
          exchanges = own_all talk.exchanges;
          state = own_place talk.seat;
          made = made.made;
          rest = talk.rest;
          answered = own_shown (talking start None) talk.seat talk.exchanges talk.answered seen middle;
          lines = subst (λ (l : List ℕ). Consumes old.input new.input (l ++ talk.rest)) (sym (all_lines talk.exchanges)) talk.left;
          ends = ends_from (own_place talk.seat) talk.rest (answers_of (own_all talk.exchanges)) new.input old.output new.output result
              (subst (λ (l : List ℕ). TalkEnds (own_place talk.seat) talk.rest l new.input old.output new.output (as_run result)) (sym (all_answers talk.exchanges)) old_ends);
          makes = made.makes;
          left_is = ap (λ (m : MovieContent). Some m) (ap (λ (l : List (Entry A)). movie_of l) front ∙ made.movie);
          given = own_given start file old.journal new.journal talk.seat.seat last (own_place talk.seat) made.made talk.rest result texts made.makes (talk.noted old.journal.bytes all);
        }

    go : Rested talk.seat talk.left_at talk.more (as_run result)
        → IsTalkNoted (Some (movie_of last.front)) file new.journal.bytes (place_of start) old.input new.input old.output new.output result × SeesOwn start × (last.made ≤ length last.front)
    go (inl strange) =
        let more = prefix_length talk.seat.seat.front talk.left_at.front strange.seen.begins in
        let counted : entries_of talk.left_at.number talk.left_at.front ≡ length talk.left_at.front = ap (λ (n : ℕ). entries_of n talk.left_at.front) left_own.number ∙ left_own.alone in
        absurd (strange.other (omega (arith, more, counted, left_own.few, seen_all, strange.seen.made)))
    go (inr (left, other)) =
        let middle : SeesOwn talk.seat.seat = sees_before talk.seat.seat talk.left_at talk.more left left_own in
        let start_own : SeesOwn start = sees_before start talk.seat.seat (edits_of talk.exchanges) first middle in
        let made : Made talk.seat talk.left_at talk.rest result = own_made talk.seat talk.left_at talk.rest told talk.more new.input old.output new.output result talk.ends left other seen_all left_own in
        (done left other middle start_own made, start_own, seen_after talk.left_at last [] shown (seen_after talk.seat.seat talk.left_at talk.more left seen_all))

-- ---- from what a conversation starts

started_seen : {A : Type 0} (seat : SeatContent A) (movie : Option MovieContent) → IsStarted seat movie → seat.made ≤ length seat.front
started_seen seat None is = omega (arith, is.0)
started_seen seat (Some movie) is = holds_seen seat movie is

started_state : {A : Type 0} (before now : SeatContent A) (movie : Option MovieContent) → IsStarted now movie → SeesOwn now → now.zone ≡ before.zone → before.zone.movie ≡ blank_movie → before.zone.states ≡ [] → place_of now ≡ talk_state_from movie
started_state {A} before now None is own zone blank none = first_state now is.1 (ap (λ (z : ZoneContent A). z.movie) zone ∙ blank) (ap (λ (z : ZoneContent A). z.states) zone ∙ none)
started_state before now (Some movie) is own zone blank none = made_state before now movie is own zone blank none

pub noted_made : {A : Type 0} (before start last : SeatContent A) (movie : Option MovieContent) (file : Option (List ℕ)) (old new : Ways) (result : Result (Unit {0}) TalkFault) → IsStarted start movie → start.zone ≡ before.zone
    → before.zone.movie ≡ blank_movie → before.zone.states ≡ [] → HasHead (talk_state_from movie) file old.journal → IsNotedTalk start last old new result → new.journal.first ≡ old.journal.first → SeesOwn last
    → EndsNoted last (talk_state_from movie) file new.journal.bytes old.input new.input old.output new.output (Ok result)
noted_made {A} before start last movie file old new result started zone blank none head talk same own =
    let at : SeesOwn start → place_of start ≡ talk_state_from movie = λ start_own. started_state before start movie started start_own zone blank none in
    let noted = own_noted start last file old new result talk same (started_seen start movie started) own (λ start_own. subst (λ (s : DraftedState). HasHead s file old.journal) (sym (at start_own)) head) in
    (noted.2, inr (subst (λ (s : DraftedState). IsTalkNoted (Some (movie_of last.front)) file new.journal.bytes s old.input new.input old.output new.output result) (at noted.1) noted.0))

-- a conversation leaves its seat the number that it had
pub noted_number : {A : Type 0} (start last : SeatContent A) (old new : Ways) (result : Result (Unit {0}) TalkFault) → IsNotedTalk start last old new result → last.number ≡ start.number
noted_number {A} start last old new result talk =
    talk.shown.seen.number ∙ go (rested talk.seat talk.left_at talk.rest (seat_texts talk.exchanges) talk.more new.input old.output new.output (as_run result) (ends_as talk.seat talk.left_at talk.rest (seat_texts talk.exchanges) talk.more new.input old.output new.output result talk.ends))
  where
    first : Leaves start talk.seat.seat (edits_of talk.exchanges)
    first = shown_leave (talking start None) talk.seat talk.exchanges talk.answered

    go : Rested talk.seat talk.left_at talk.more (as_run result) → talk.left_at.number ≡ start.number
    go (inl strange) = strange.seen.number ∙ first.number
    go (inr (left, other)) = left.number ∙ first.number

-- ---- it didn't begin

unbegun : (input output : Option (List ℕ)) → IsUnbegun None input input output output
unbegun input output = (untouched input output, refl)

pub noted_unbegun : (start : DraftedState) (file file' input output : Option (List ℕ)) (fault : TalkFault) → IsNoBeginning start file file' (Err fault) → IsNotedTalkLeaving None file file' start input input output output (Err fault)
noted_unbegun start file file' input output fault is = inl (unbegun input output, is)

pub noted_refused : (start : DraftedState) (file input output : Option (List ℕ)) (fault : RunFault) → IsUnmade fault → IsNotedTalkLeaving None file file start input input output output (Err (Tool (Run fault)))
noted_refused start file input output fault is = noted_unbegun start file file input output (Tool (Run fault)) (is, refl)

-- the movie wasn't made
pub noted_unmade : {A : Type 0} (start : DraftedState) (seat : SeatContent A) (fault : RunFault) (file : Option (List ℕ)) → IsMakingFault seat fault → SeesOwn seat → IsNoBeginning start file file (Err (Tool (Run fault)))
noted_unmade start seat fault file is own = (unmade_by seat fault is own.few, refl)

-- the head isn't written whole
pub head_cut : (start : DraftedState) (movie : MovieContent) (file file' : Option (List ℕ)) (fault : TalkFault) → movie ≡ start.state.stands.movie → IsHeadCut movie file file' fault → IsNoBeginning start file file' (Err fault)
head_cut start movie file file' (Tool fault) is cut = absurd cut
head_cut start movie file file' (Journal fault) is given = subst (λ (m : MovieContent). IsGivenPart file file' (head_text m) fault) is given

-- the same of how it ended
pub head_faults : {V J : Type 0} (start : DraftedState) (movie : MovieContent) (file : Option (List ℕ)) (contents : J → Option (List ℕ)) (result : Result V (J × TalkFault)) → movie ≡ start.state.stands.movie
    → IfErr result (λ back. IsHeadCut movie file (contents back.0) back.1) → (P : Type 0) → IfErr result (λ back. P → IsNoBeginning start file (contents back.0) (Err back.1))
head_faults start movie file contents (Ok journal) is cut P = cut
head_faults start movie file contents (Err (back, fault)) is cut P = λ _. head_cut start movie file (contents back) fault is cut

-- it is
pub head_whole : (start : DraftedState) (movie : MovieContent) (from : ℕ) (file : Option (List ℕ)) (journal : JournalContent) → movie ≡ start.state.stands.movie → from ≡ length start.edits → IsBegun movie from file journal → HasHead start file journal
head_whole start movie from file journal is counted begun = record {
  first = begun.first ∙ counted;
  upto = begun.upto ∙ counted;
  whole = begun.whole;
  head = subst (λ (m : MovieContent). Appends file journal.bytes (head_text m)) is begun.head;
}

-- ---- the closed desk

pub noted_closed : {A : Type 0} (seat : SeatContent A) (start : DraftedState) (file file' input input' output output' : Option (List ℕ)) (made : Result (Result (Unit {0}) TalkFault) TalkFault) (movie : MovieContent) → EndsNoted seat start file file' input input' output output' made
    → (seat.made ≤ length seat.front → movie ≡ movie_of seat.front) → IsNotedTalkLeaving (noted_left made movie) file file' start input input' output output' (noted_end made)
noted_closed seat start file file' input input' output output' (Ok end) movie (seen, talk) is = subst (λ (m : MovieContent). IsNotedTalkLeaving (Some m) file file' start input input' output output' end) (sym (is seen)) talk
noted_closed seat start file file' input input' output output' (Err fault) movie talk is = talk

-- what is left, the file and the end, named otherwise
pub noted_as : (left other : Option MovieContent) (file file' held : Option (List ℕ)) (start : DraftedState) (input input' output output' : Option (List ℕ)) (result end : Result (Unit {0}) TalkFault) → other ≡ left → held ≡ file' → end ≡ result
    → IsNotedTalkLeaving left file file' start input input' output output' result → IsNotedTalkLeaving other file held start input input' output output' end
noted_as left other file file' held start input input' output output' result end is same ends talk =
    subst (λ (e : Result (Unit {0}) TalkFault). IsNotedTalkLeaving other file held start input input' output output' e) (sym ends)
    (subst (λ (f : Option (List ℕ)). IsNotedTalkLeaving other file f start input input' output output' result) (sym same)
    (subst (λ (m : Option MovieContent). IsNotedTalkLeaving m file file' start input input' output output' result) (sym is) talk))

-- ---- the disk

-- a conversation that began ends without a fault of the journal, or with one that leaves it as it was, only where the journal has no fault
ends_whole : {A : Type 0} (head : Option (List ℕ)) (answered last : List (Entry A)) (noted : JournalContent) (result : Result (Unit {0}) TalkFault) → JournalEnds head answered last noted result → IsKeptBy (noted.fault ≡ None) result
ends_whole head answered last noted (Ok u) ends = ends.noted.whole
ends_whole head answered last noted (Err (Journal journal.Memory)) ends = ends.0.whole
ends_whole head answered last noted (Err (Journal journal.Write)) ends = tt
ends_whole head answered last noted (Err (Journal journal.Sync)) ends = tt
ends_whole head answered last noted (Err (Tool (Run (Write written)))) ends = ends.noted.whole
ends_whole head answered last noted (Err (Tool (Read fault))) ends = ends.0.whole
ends_whole head answered last noted (Err (Tool (Seat number fault))) ends = ends.0.whole
ends_whole head answered last noted (Err (Tool (Run (Size n)))) ends = ends.0.whole
ends_whole head answered last noted (Err (Tool (Run (Text error)))) ends = ends.0.whole
ends_whole head answered last noted (Err (Tool (Run (OffMovie frame len)))) ends = ends.0.whole
ends_whole head answered last noted (Err (Tool (Run (OffRange from to len)))) ends = ends.0.whole
ends_whole head answered last noted (Err (Tool (Run (NoNames row kind)))) ends = ends.0.whole
ends_whole head answered last noted (Err (Tool (Run (Stopped at opcode)))) ends = ends.0.whole
ends_whole head answered last noted (Err (Tool (Run (StoppedFrame frame at opcode)))) ends = ends.0.whole
ends_whole head answered last noted (Err (Tool (Run (Script number)))) ends = ends.0.whole
ends_whole head answered last noted (Err (Tool (Run (Place number)))) ends = ends.0.whole
ends_whole head answered last noted (Err (Tool (Run (Long number)))) ends = ends.0.whole
ends_whole head answered last noted (Err (Tool (Run NoPlace))) ends = ends.0.whole
ends_whole head answered last noted (Err (Tool (Run NoEntry))) ends = ends.0.whole
ends_whole head answered last noted (Err (Tool (Run Foreign))) ends = ends.0.whole
ends_whole head answered last noted (Err (Tool (Run Memory))) ends = ends.0.whole

-- what follows from that
kept_so : (whole kept : Type 0) (result : Result (Unit {0}) TalkFault) → (whole → kept) → IsKeptBy whole result → IsKeptBy kept result
kept_so whole kept (Ok u) so is = so is
kept_so whole kept (Err (Tool fault)) so is = so is
kept_so whole kept (Err (Journal journal.Memory)) so is = so is
kept_so whole kept (Err (Journal journal.Write)) so is = tt
kept_so whole kept (Err (Journal journal.Sync)) so is = tt

-- it began with its head, and the seat had seen its own edits alone
pub kept_made : {A : Type 0} (before start last : SeatContent A) (movie : Option MovieContent) (file : Option (List ℕ)) (old new : Ways) (result : Result (Unit {0}) TalkFault) (kept : Type 0) → IsStarted start movie → start.zone ≡ before.zone
    → before.zone.movie ≡ blank_movie → before.zone.states ≡ [] → HasHead (talk_state_from movie) file old.journal → IsNotedTalk start last old new result → new.journal.first ≡ old.journal.first → SeesOwn last
    → (new.journal.fault ≡ None → kept) → IsKeptBy kept result
kept_made {A} before start last movie file old new result kept started zone blank none head talk same own so =
    let at : SeesOwn start → place_of start ≡ talk_state_from movie = λ start_own. started_state before start movie started start_own zone blank none in
    let noted = own_noted start last file old new result talk same (started_seen start movie started) own (λ start_own. subst (λ (s : DraftedState). HasHead s file old.journal) (sym (at start_own)) head) in
    let begun : HasHead (place_of start) file old.journal = subst (λ (s : DraftedState). HasHead s file old.journal) (sym (at noted.1)) head in
    let sized : length (edits_seen start.front) ≡ length start.front = length-map start.front (λ (e : Entry A). edit_content e.edit) in
    let all : HasAll old.journal.bytes start.front old.journal = begun_all start.front old.journal (begun.first ∙ sized) (begun.upto ∙ sized) begun.whole in
    kept_so (new.journal.fault ≡ None) kept result so (ends_whole old.journal.bytes talk.seat.seat.front last.front new.journal result (talk.noted old.journal.bytes all))

-- the desk was closed
pub kept_closed : (kept : Type 0) (made : Result (Result (Unit {0}) TalkFault) TalkFault) (movie : MovieContent) → IsKeptOnceMade kept made → IsKeptAt kept (noted_left made movie) (noted_end made)
kept_closed kept (Ok end) movie is = is
kept_closed kept (Err fault) movie is = tt

-- what is left, the file and the end, named otherwise
pub kept_as : (of : Option (List ℕ) → Type 0) (left other : Option MovieContent) (file held : Option (List ℕ)) (result end : Result (Unit {0}) TalkFault) → other ≡ left → held ≡ file → end ≡ result → IsKeptAt (of file) left result → IsKeptAt (of held) other end
kept_as of left other file held result end is same ends kept =
    subst (λ (e : Result (Unit {0}) TalkFault). IsKeptAt (of held) other e) (sym ends)
    (subst (λ (f : Option (List ℕ)). IsKeptAt (of f) other result) (sym same)
    (subst (λ (m : Option MovieContent). IsKeptAt (of file) m result) (sym is) kept))
