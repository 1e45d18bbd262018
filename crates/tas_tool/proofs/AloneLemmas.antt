-- A conversation on a desk of one seat: each line is answered at what the lines before it made.
use Rattle.std.proofs.Common.{◌≡◌, ℕ, ◌+◌, ◌≤◌, List, [], ◌∷◌, ◌++◌, length, take, drop, Bool, true, false, ◌&&◌, Option, Some, None, Result, Ok, Err, inl, inr, refl, sym, ap, subst, ◌∙◌, arith, append-nil}
use Rattle.std.specs.Prelude.{map, if◌then◌else◌, ◌==◌, nat_lt}
use Rattle.std.proofs.lemmas.Bool.{eqb-true}
use Rattle.std.proofs.lemmas.List.{length-map, map-append, take-map, drop-map}
use Rattle.std.specs.Io.KnownBytes.{Consumes}
use mathlib.Core.List.{IsPrefix}
use Rattle.tas_movie.specs.Text.{line}
use Rattle.vcs_inputs.specs.declared.input.Input.{Input}
use Rattle.tas_movie.specs.Content.{MovieContent, blank_movie}
use Rattle.tas_movie.specs.declared.edit.Edit.{Edit}
use Rattle.tas_movie.specs.declared.edit.Edit.TheVariants.{Load, Insert, Replace, Delete}
use Rattle.tas_movie.specs.declared.edit.EditRefusal.{EditRefusal}
use Rattle.tas_movie.specs.Edit.{refusal, first_refusal, changed, edited, edited_unless}
use Rattle.tas_language.specs.declared.change.Change.{Change}
use Rattle.tas_language.specs.declared.change.Change.TheVariants as change
use Rattle.tas_language.specs.declared.command.Command.{Command}
use Rattle.tas_language.specs.declared.command.Command.TheVariants as command
use Rattle.tas_language.specs.declared.retouch.Retouch.{Retouch as Retouching}
use Rattle.tas_language.specs.declared.retouch.Retouch.TheVariants as retouch
use Rattle.tas_published.specs.declared.entry.Entry.{Entry}
use Rattle.tas_published.specs.History.{most_edits, movie_of, entries_of}
use Rattle.tas_desk.specs.Parts.{most_entries, inputs_of, inserts_at, is_exchange, last_end, one_part}
use Rattle.tas_desk.specs.Seats.{SeatContent}
use Rattle.tas_desk.specs.Zones.{ZoneContent}
use Rattle.tas_desk.proofs.SeatLemmas.{count_by-cons}
use Rattle.tas_engines.specs.Changes.{EditContent, edit_on}
use Rattle.tas_engines.specs.Retouching.{retouch_on}
use Rattle.tas_engines.specs.declared.fault.ToolFault.{ToolFault}
use Rattle.tas_engines.specs.declared.fault.ToolFault.TheVariants.{Read, Run, Seat}
use Rattle.tas_engines.specs.declared.fault.ReadFault.TheVariants.{TooLong, Failed, Memory as NoRoom}
use Rattle.tas_engines.specs.declared.fault.RunFault.TheVariants.{Write, Size, Text, NoFrame as OffMovie, Range as OffRange, Halted as Stopped, HaltedFrame as StoppedFrame, Script, Place, Long, Names as NoNames, NoPlace, NoEntry, Foreign, Memory}
use Rattle.tas_language.specs.declared.reply.Reply.TheVariants.{Full, OutOfMemory}
use Rattle.tas_language.specs.declared.draft_reply.DraftReply.TheVariants.{Committed, Moved}
use Rattle.tas_language.specs.Drafts.{draft_reply_text}
use Rattle.tas_language.specs.Replies.{reply_text}
use Rattle.tas_language.specs.History.{entry_text}
use Rattle.tas_language.specs.Answers.{history_text}
use Rattle.tas_language.specs.declared.request.Request.{Request}
use Rattle.tas_language.specs.declared.request.Request.TheVariants.{Do, Retouch, Picture, Pictures, Ram, Digest, Lag, Inputs, Movie, States, Share, History, Version, Begin, Commit, Drop, Quit}
use Rattle.tas_seat.specs.HistoryText.{entry_lines, history_reply_text}
use Rattle.tas_seat.specs.Edits.{edits_by_command, requested_edits, made_between}
use Rattle.tas_seat.specs.Requests.{TalkState, IsPictureAnswer, StripAnswer, AreShown, strip_answers, IsAnswerTo as IsAnswerAt}
use Rattle.tas_seat.specs.Seats.{talk_state_at, IsSeatAfter, IsPictureAt, IsAnsweredAt, entries_from, IsHistoryAnswered, IsRequestAnswered}
use Rattle.tas_seat.specs.declared.conversation.Subject.{Subject}
use Rattle.tas_seat.specs.declared.conversation.Subject.TheVariants as about
use Rattle.tas_seat.specs.Subjects.{subject_of}
use Rattle.tas_seat.specs.Drafts.{DraftContent, inner_inputs, stroke_of, IsStroke, LeadsTo, HasStroke}
use Rattle.tas_seat.specs.Conversations.{TalkingSeat, talking, text_of, uncommitted_answer, commit_answer, committed_edits, draft_after_commit, IsBeginAnswer, IsCommitAnswer, IsCommitted, IsAnsweredOutsideOf, IsAnsweredInsideOf, IsTalkAnswered, IsLineAnswered}
use Rattle.tas_published.specs.Strokes.{edited_by, refusal_in}
use Rattle.tas_seat.specs.Turns.{Standing, standing_of, refusal_reply}
use Rattle.tas_seat.proofs.CommitLemmas.{made_after, made_by_entries}
use Rattle.tas_seat.specs.Talk.{Exchange as SeatExchange, IsExchange as IsSeatExchange, AreExchanges as AreSeatExchanges, TalkEnds as SeatEnds, HasLooked, IsCarriedOut as IsSeatCarriedOut, IsTalk as IsSeatTalk, lines_of as seat_lines, answers_of as seat_texts, edits_of}
use Rattle.tas_seat.proofs.HistoryLemmas.{Leaves, prefix_length, by_length, by_rest, front_length, leaves_after, strip_leaves, exchange_leaves, exchanges_leave, rested, Rested}
use Rattle.tas_tool.specs.Talk.{own_entries, IsOwnHistory, IsAnswerTo, edits_between, DraftedState, drafted, IsOwnCommit, IsOutsideAnswerOf, IsInsideAnswerOf, IsDraftedAnswer, IsLineAnswer, Exchange, IsExchange, AreExchanges, TalkEnds, IsCarriedOut, LeavesMovie, IsTalkLeaving, lines_of, answers_of}
use Rattle.tas_tool.specs.Inside.Alone.{SeesOwn}
use Rattle.tas_tool.proofs.PartLemmas.{AsksAlike, ends_alike}

-- what the seat has seen comes to, and its greenzone
abbrev pub state_of : {A : Type 0} → SeatContent A → TalkState
state_of seat = talk_state_at seat.front seat.zone

-- ---- nobody else's edits stand between a seat's own

one_few : (b : Bool) → (if b then 1 else 0) ≤ 1
one_few true = omega arith
one_few false = omega arith

entries_few : {A : Type 0} (n : ℕ) (zs : List (Entry A)) → entries_of n zs ≤ length zs
entries_few n [] = omega arith
entries_few {A} n (z ∷ zs) = omega (arith, count_by-cons (λ (e : Entry A). e.seat == n) z zs, one_few (z.seat == n), entries_few n zs)

-- a beginning of a history that has a seat's entries alone has these alone
pub alone_before : {A : Type 0} (n : ℕ) (xs ys : List (Entry A)) → IsPrefix xs ys → entries_of n ys ≡ length ys → entries_of n xs ≡ length xs
alone_before {A} n xs ys p alone =
    let few = entries_few n xs in
    let rest = entries_few n p.0 in
    omega (arith, few, rest, alone, prefix_length xs ys p, by_rest n xs ys p, by_length n xs, by_length n ys, by_length n p.0)

-- where all entries are a seat's, the first one is, and so are those after it
pub first_alone : {A : Type 0} (n : ℕ) (entry : Entry A) (entries : List (Entry A)) → entries_of n (entry ∷ entries) ≡ length (entry ∷ entries) → (entry.seat ≡ n) × (entries_of n entries ≡ length entries)
first_alone {A} n entry entries alone = go (entry.seat == n) refl
  where
    one : entries_of n (entry ∷ entries) ≡ (if entry.seat == n then 1 else 0) + entries_of n entries
    one = count_by-cons (λ (e : Entry A). e.seat == n) entry entries

    go : (b : Bool) → entry.seat == n ≡ b → (entry.seat ≡ n) × (entries_of n entries ≡ length entries)
    go true e =
        let counted : ◌≡◌ {A = ℕ} (if entry.seat == n then 1 else 0) 1 = rw e refl in
        (eqb-true entry.seat n e, omega (arith, one, counted, alone))
    go false e =
        let counted : ◌≡◌ {A = ℕ} (if entry.seat == n then 1 else 0) 0 = rw e refl in
        absurd (omega (arith, one, counted, alone, entries_few n entries))

-- a seat that leaves one which sees its own edits alone sees them alone, too
pub sees_before : {A : Type 0} (seat last : SeatContent A) (edits : List (Edit A)) → Leaves seat last edits → SeesOwn last → SeesOwn seat
sees_before {A} seat last edits left own = record {
  number = sym left.number ∙ own.number;
  few = omega (arith, left.made, left.longer, own.few);
  alone = alone_before 0 seat.front last.front left.seen own.alone;
}

-- and one that has seen all that it made has so afterwards
pub seen_after : {A : Type 0} (seat last : SeatContent A) (edits : List (Edit A)) → Leaves seat last edits → seat.made ≤ length seat.front → last.made ≤ length last.front
seen_after seat last edits left seen = omega (arith, left.made, left.longer, seen)

pub none_left : {X : Type 0} (xs : List X) → length xs ≡ 0 → xs ≡ []
none_left [] is = refl
none_left (x ∷ xs) is = absurd (omega (arith, is))

-- the history at which it is answered is what it had seen
pub at_front : {A : Type 0} (seat next : SeatContent A) (at : List (Entry A)) (edits : List (Edit A)) → IsSeatAfter seat at edits next → seat.made ≤ length seat.front → SeesOwn next → at ≡ seat.front
at_front {A} seat next at edits is seen own =
    let none : is.begins.0 ≡ [] = none_left is.begins.0 (omega (arith, seen, own.few, is.made, front_length seat next at edits is, prefix_length seat.front at is.begins)) in
    sym is.begins.1 ∙ ap (λ (l : List (Entry A)). seat.front ++ l) none ∙ append-nil seat.front

-- ---- edits, whatever allocator they are on

abbrev pub edit_content : {A : Type 0} → Edit A → EditContent
edit_content (Load cart) = Load cart
edit_content (Insert at inputs) = Insert at inputs
edit_content (Replace at inputs) = Replace at inputs
edit_content (Delete at count) = Delete at count

same_content : {A : Type 0} (edit : Edit A) → edit_content (edit_content edit) ≡ edit_content edit
same_content (Load cart) = refl
same_content (Insert at inputs) = refl
same_content (Replace at inputs) = refl
same_content (Delete at count) = refl

abbrev pub contents : {A : Type 0} → List (Edit A) → List EditContent
contents {A} edits = map (λ (e : Edit A). edit_content e) edits

-- the edits of a history
abbrev pub edits_seen : {A : Type 0} → List (Entry A) → List EditContent
edits_seen {A} entries = map (λ (e : Entry A). edit_content e.edit) entries

same_refusal : {A : Type 0} (movie : MovieContent) (edit : Edit A) → refusal movie (edit_content edit) ≡ refusal movie edit
same_refusal movie (Load cart) = refl
same_refusal movie (Insert at inputs) = refl
same_refusal movie (Replace at inputs) = refl
same_refusal movie (Delete at count) = refl

same_changed : {A : Type 0} (movie : MovieContent) (edit : Edit A) → changed movie (edit_content edit) ≡ changed movie edit
same_changed movie (Load cart) = refl
same_changed movie (Insert at inputs) = refl
same_changed movie (Replace at inputs) = refl
same_changed movie (Delete at count) = refl

same_unless : {A : Type 0} (refused : Option EditRefusal) (movie : MovieContent) (edit : Edit A) → edited_unless refused movie (edit_content edit) ≡ edited_unless refused movie edit
same_unless None movie edit = same_changed movie edit
same_unless (Some refused) movie edit = refl

same_edited : {A : Type 0} (movie : MovieContent) (edit : Edit A) → edited movie (edit_content edit) ≡ edited movie edit
same_edited movie edit = ap (λ (r : Option EditRefusal). edited_unless r movie (edit_content edit)) (same_refusal movie edit) ∙ same_unless (refusal movie edit) movie edit

same_text : {A : Type 0} (number seat : ℕ) (edit : Edit A) → entry_text number seat (edit_content edit) ≡ entry_text number seat edit
same_text number seat (Load cart) = refl
same_text number seat (Insert at inputs) = refl
same_text number seat (Replace at inputs) = refl
same_text number seat (Delete at count) = refl

-- what the lines of a history report of an entry
pub record Reported : Type 0 where
  pub seat : ℕ
  pub edit : EditContent

abbrev reported : {A : Type 0} → Entry A → Reported
reported entry = record { seat = entry.seat; edit = edit_content entry.edit }

abbrev all_reported : {A : Type 0} → List (Entry A) → List Reported
all_reported {A} entries = map (λ (e : Entry A). reported e) entries

reported_lines : ℕ → List Reported → List ℕ
reported_lines number [] = []
reported_lines number (entry ∷ entries) = entry_text number entry.seat entry.edit ++ reported_lines (number + 1) entries

same_lines : {A : Type 0} (number : ℕ) (entries : List (Entry A)) → entry_lines number entries ≡ reported_lines number (all_reported entries)
unfolding entry_lines reported_lines
same_lines number [] = refl
same_lines {A} number (entry ∷ entries) =
    ap (λ (l : List ℕ). l ++ entry_lines (number + 1) entries) (sym (same_text number entry.seat entry.edit))
    ∙ ap (λ (l : List ℕ). entry_text number entry.seat (edit_content entry.edit) ++ l) (same_lines (number + 1) entries)

same_reply : {A : Type 0} (made from : ℕ) (entries : List (Entry A)) → history_reply_text made from entries ≡ history_text made from (length (all_reported entries)) (reported_lines from (all_reported entries))
same_reply {A} made from entries =
    ap (λ (n : ℕ). history_text made from n (entry_lines from entries)) (sym (length-map entries (λ (e : Entry A). reported e)))
    ∙ ap (λ (l : List ℕ). history_text made from (length (all_reported entries)) l) (same_lines from entries)

part_reported : {A : Type 0} (from most : ℕ) (entries : List (Entry A)) → all_reported (take most (drop from entries)) ≡ take most (drop from (all_reported entries))
part_reported {A} from most entries =
    let each : Entry A → Reported = λ (e : Entry A). reported e in
    sym (ap (λ (l : List Reported). take most l) (drop-map each from entries) ∙ take-map each most (drop from entries))

-- an entry of which this is reported
abbrev retold : Reported → Entry (Unit {0})
retold told = record { seat = told.seat; serial = 0; edit = told.edit }

same_inputs : {A : Type 0} (edit : Edit A) → inputs_of (edit_content edit) ≡ inputs_of edit
same_inputs (Load cart) = refl
same_inputs (Insert at inputs) = refl
same_inputs (Replace at inputs) = refl
same_inputs (Delete at count) = refl

same_insertion : {A : Type 0} (edit : Edit A) (place : ℕ) → inserts_at (edit_content edit) place ≡ inserts_at edit place
same_insertion (Load cart) place = refl
same_insertion (Insert at inputs) place = refl
same_insertion (Replace at inputs) place = refl
same_insertion (Delete at count) place = refl

same_exchange : {A : Type 0} (edit next : Edit A) → is_exchange (edit_content edit) (edit_content next) ≡ is_exchange edit next
same_exchange (Load cart) next = refl
same_exchange (Insert at inputs) next = refl
same_exchange (Replace at inputs) next = refl
same_exchange (Delete at count) next = same_insertion next at

same_asked : (A : Type 0) → AsksAlike (λ (e : Entry A). retold (reported e))
same_asked A = record {
  inputs = λ entry. same_inputs entry.edit;
  pairs = λ entry next. ap (λ (b : Bool). (entry.seat == next.seat) && b) (same_exchange entry.edit next.edit);
}

all_retold : {A : Type 0} (entries : List (Entry A)) → map retold (all_reported entries) ≡ map (λ (e : Entry A). retold (reported e)) entries
all_retold [] = refl
all_retold {A} (entry ∷ entries) = ap (λ (l : List (Entry (Unit {0}))). retold (reported entry) ∷ l) (all_retold entries)

end_retold : {A : Type 0} (entries : List (Entry A)) (n : ℕ) → last_end entries n ≡ last_end (map retold (all_reported entries)) n
end_retold {A} entries n =
    sym (ends_alike (λ (e : Entry A). retold (reported e)) (same_asked A) entries n)
    ∙ ap (λ (l : List (Entry (Unit {0}))). last_end l n) (sym (all_retold entries))

dropped_reported : {A : Type 0} (from : ℕ) (entries : List (Entry A)) → all_reported (drop from entries) ≡ drop from (all_reported entries)
dropped_reported {A} from entries = sym (drop-map (λ (e : Entry A). reported e) from entries)

same_end : {A B : Type 0} (from n : ℕ) (xs : List (Entry A)) (ys : List (Entry B)) → all_reported xs ≡ all_reported ys → last_end (drop from xs) n ≡ last_end (drop from ys) n
same_end {A} {B} from n xs ys same =
    let rest : all_reported (drop from xs) ≡ all_reported (drop from ys) = dropped_reported from xs ∙ ap (λ (l : List Reported). drop from l) same ∙ sym (dropped_reported from ys) in
    end_retold (drop from xs) n ∙ ap (λ (l : List Reported). last_end (map retold l) n) rest ∙ sym (end_retold (drop from ys) n)

same_entries : {A B : Type 0} (made from most : ℕ) (xs : List (Entry A)) (ys : List (Entry B)) → all_reported xs ≡ all_reported ys
    → history_reply_text made from (take most (drop from xs)) ≡ history_reply_text made from (take most (drop from ys))
same_entries {A} {B} made from most xs ys same =
    let parts : all_reported (take most (drop from xs)) ≡ all_reported (take most (drop from ys)) =
    part_reported from most xs ∙ ap (λ (l : List Reported). take most (drop from l)) same ∙ sym (part_reported from most ys) in
    same_reply made from (take most (drop from xs))
    ∙ ap (λ (l : List Reported). history_text made from (length l) (reported_lines from l)) parts
    ∙ sym (same_reply made from (take most (drop from ys)))

-- histories of which the same is reported are answered alike
same_history : {A B : Type 0} (made from : ℕ) (xs : List (Entry A)) (ys : List (Entry B)) → all_reported xs ≡ all_reported ys
    → history_reply_text made from (one_part (drop from xs)) ≡ history_reply_text made from (one_part (drop from ys))
same_history {A} {B} made from xs ys same =
    same_entries made from (last_end (drop from xs) most_entries) xs ys same
    ∙ ap (λ (n : ℕ). history_reply_text made from (take n (drop from ys))) (same_end from most_entries xs ys same)

-- of a history that is a seat's alone the same is reported as of its edits
own_reported : {A : Type 0} (serial : ℕ) (front : List (Entry A)) → entries_of 0 front ≡ length front → all_reported front ≡ all_reported (entries_from 0 serial (edits_seen front))
own_reported serial [] alone = refl
own_reported {A} serial (entry ∷ front) alone =
    let first = first_alone 0 entry front alone in
    let rest : List Reported = all_reported (entries_from 0 (serial + 1) (edits_seen front)) in
    ap (λ (l : List Reported). reported entry ∷ l) (own_reported (serial + 1) front first.1)
    ∙ ap (λ (n : ℕ). let x : Reported = record { seat = n; edit = edit_content entry.edit } in x ∷ rest) first.0
    ∙ ap (λ (e : EditContent). let x : Reported = record { seat = 0; edit = e } in x ∷ rest) (sym (same_content entry.edit))

-- ---- the edits that a line makes

same_changes : (A : Type 0) (change : Change) → edit_content (edit_on A change) ≡ edit_on (Unit {0}) change
same_changes A (change.Insert at count input) = refl
same_changes A (change.Replace at count input) = refl
same_changes A (change.Delete at count) = refl

same_retouch : (A : Type 0) (inputs : List Input) (retouch : Retouching) → edit_content (retouch_on A inputs retouch) ≡ retouch_on (Unit {0}) inputs retouch
same_retouch A inputs (retouch.Press at count input) = refl
same_retouch A inputs (retouch.Release at count input) = refl
same_retouch A inputs (retouch.Repeat at count times) = refl
same_retouch A inputs (retouch.Copy from count at) = refl

same_command : (A : Type 0) (command : Command) → contents (edits_by_command A command) ≡ edits_by_command (Unit {0}) command
same_command A (command.Load image) = refl
same_command A (command.Edit change) = ap (λ (e : EditContent). e ∷ []) (same_changes A change)
same_command A command.Length = refl
same_command A (command.InputAt k) = refl
same_command A (command.Shot k) = refl
same_command A (command.Work k) = refl

-- those that a request asks for; one about the desk asks for none
same_requested : (A : Type 0) (movie : MovieContent) (request : Request)
    → (contents (requested_edits A movie request) ≡ requested_edits (Unit {0}) movie request) × (subject_of request ≡ about.Desk → requested_edits (Unit {0}) movie request ≡ [])
same_requested A movie (Do command) = (same_command A command, λ is. absurd (cc is))
same_requested A movie (Retouch retouch) = (ap (λ (e : EditContent). e ∷ []) (same_retouch A movie.inputs retouch), λ is. absurd (cc is))
same_requested A movie (Picture k) = (refl, λ is. refl)
same_requested A movie (Pictures from to) = (refl, λ is. refl)
same_requested A movie (Ram k) = (refl, λ is. refl)
same_requested A movie (Digest k) = (refl, λ is. refl)
same_requested A movie (Lag a b) = (refl, λ is. refl)
same_requested A movie (Inputs a b) = (refl, λ is. refl)
same_requested A movie Movie = (refl, λ is. refl)
same_requested A movie States = (refl, λ is. refl)
same_requested A movie Share = (refl, λ is. refl)
same_requested A movie (History from) = (refl, λ is. refl)
same_requested A movie Version = (refl, λ is. refl)
same_requested A movie Begin = (refl, λ is. refl)
same_requested A movie Commit = (refl, λ is. refl)
same_requested A movie Drop = (refl, λ is. refl)
same_requested A movie Quit = (refl, λ is. refl)

same_between : {A : Type 0} (old new : Standing) (edits : List (Edit A)) → contents (made_between old new edits) ≡ made_between old new (contents edits)
same_between {A} old new edits = go (new.made == old.made)
  where
    go : (b : Bool) → contents {A = A} (if b then [] else edits) ≡ (if b then [] else contents edits)
    go true = refl
    go false = refl

none_between : (old new : Standing) → made_between {A = Unit {0}} old new [] ≡ []
none_between old new = go (new.made == old.made)
  where
    go : (b : Bool) → ◌≡◌ {A = List EditContent} (if b then [] else []) []
    go true = refl
    go false = refl

edits_from : {A : Type 0} (number serial : ℕ) (edits : List (Edit A)) → edits_seen (entries_from number serial edits) ≡ contents edits
edits_from number serial [] = refl
edits_from {A} number serial (edit ∷ edits) = ap (λ (l : List EditContent). edit_content edit ∷ l) (edits_from number (serial + 1) edits)

-- what a seat has seen after it made these edits, where it has seen its own alone
grown : {A : Type 0} (before now : SeatContent A) (at : List (Entry A)) (edits : List (Edit A)) → IsSeatAfter before at edits now → before.made ≤ length before.front → SeesOwn now → edits_seen now.front ≡ edits_seen before.front ++ contents edits
grown {A} before now at edits is seen own =
    let content : Entry A → EditContent = λ (e : Entry A). edit_content e.edit in
    ap (λ (l : List (Entry A)). map content l) is.front
    ∙ map-append content at (entries_from before.number before.made edits)
    ∙ ap (λ (l : List EditContent). map content at ++ l) (edits_from before.number before.made edits)
    ∙ ap (λ (l : List (Entry A)). map content l ++ contents edits) (at_front before now at edits is seen own)

-- ---- one line

own_answer : (A : Type 0) (before now : SeatContent A) (request : Request) (answer : List ℕ) (edits : List (Edit A)) → IsAnsweredAt A before now request answer edits → before.made ≤ length before.front → SeesOwn now
    → IsAnswerAt (state_of before) request answer (state_of now)
own_answer A before now request answer edits is seen own =
    subst (λ (h : List (Entry A)). IsAnswerAt (talk_state_at h before.zone) request answer (state_of now)) (at_front before now is.at edits is.seat seen own) is.answered

own_shown : {A : Type 0} → List (StripAnswer (SeatContent A)) → List (StripAnswer TalkState)
own_shown [] = []
own_shown (shown ∷ strip) = record { answer = shown.answer; next = state_of shown.next } ∷ own_shown strip

shown_length : {A : Type 0} (strip : List (StripAnswer (SeatContent A))) → length (own_shown strip) ≡ length strip
unfolding own_shown
shown_length [] = refl
shown_length (shown ∷ strip) = omega (arith, shown_length strip)

shown_answers : {A : Type 0} (strip : List (StripAnswer (SeatContent A))) → strip_answers (own_shown strip) ≡ strip_answers strip
unfolding own_shown
shown_answers [] = refl
shown_answers (shown ∷ strip) = ap (λ (l : List ℕ). shown.answer ++ l) (shown_answers strip)

own_strip : (A : Type 0) (seat last : SeatContent A) (from : ℕ) (strip : List (StripAnswer (SeatContent A))) → AreShown (IsPictureAt {A = A}) seat from strip last → seat.made ≤ length seat.front → SeesOwn last → AreShown IsPictureAnswer (state_of seat) from (own_shown strip) (state_of last)
unfolding AreShown own_shown
own_strip A seat last from [] is seen own = ap (λ (s : SeatContent A). state_of s) is
own_strip A seat last from (shown ∷ strip) is seen own =
    let next : SeesOwn shown.next = sees_before shown.next last [] (strip_leaves shown.next last (from + 1) strip is.1) own in (
      own_answer A seat shown.next (Picture from) shown.answer [] is.0 seen next,
      own_strip A shown.next last (from + 1) strip is.1 (seen_after seat shown.next [] (leaves_after seat shown.next is.0.at [] is.0.seat) seen) own,
    )

strip_front : {A : Type 0} (seat last : SeatContent A) (from : ℕ) (strip : List (StripAnswer (SeatContent A))) → AreShown (IsPictureAt {A = A}) seat from strip last → seat.made ≤ length seat.front → SeesOwn last → last.front ≡ seat.front
strip_front {A} seat last from strip are seen own =
    let left : Leaves seat last [] = strip_leaves seat last from strip are in
    let none : left.seen.0 ≡ [] = none_left left.seen.0 (omega (arith, left.made, seen, own.few, prefix_length seat.front last.front left.seen)) in
    sym left.seen.1 ∙ ap (λ (l : List (Entry A)). seat.front ++ l) none ∙ append-nil seat.front

state_stays : {A : Type 0} (before now : SeatContent A) → now.front ≡ before.front → now.zone ≡ before.zone → state_of now ≡ state_of before
state_stays {A} before now front zone =
    ap (λ (h : List (Entry A)). talk_state_at h now.zone) front ∙ ap (λ (z : ZoneContent A). talk_state_at before.front z) zone

own_history : (A : Type 0) (before now : SeatContent A) (from : ℕ) (answer : List ℕ) → IsHistoryAnswered A before now from answer → before.made ≤ length before.front → SeesOwn now
    → IsOwnHistory (state_of before) (edits_seen before.front) from answer (state_of now)
own_history A before now from answer is seen own =
    let same : now.front ≡ before.front = at_front before now now.front [] is.seat seen own in
    let long : length now.front ≡ length (edits_seen before.front) = ap (λ (l : List (Entry A)). length l) same ∙ sym (length-map before.front (λ (e : Entry A). edit_content e.edit)) in
    let all : all_reported now.front ≡ all_reported (own_entries (edits_seen before.front)) =
    own_reported 0 now.front own.alone ∙ ap (λ (l : List (Entry A)). all_reported (own_entries (edits_seen l))) same in
    let text : history_reply_text (length now.front) from (one_part (drop from now.front))
    ≡ history_reply_text (length (edits_seen before.front)) from (one_part (drop from (own_entries (edits_seen before.front)))) =
    same_history (length now.front) from now.front (own_entries (edits_seen before.front)) all
    ∙ ap (λ (n : ℕ). history_reply_text n from (one_part (drop from (own_entries (edits_seen before.front))))) long in
    record {
      no_memory = is.no_memory;
      answer_is = is.answer_is ∙ ap (λ (l : List ℕ). if is.no_memory then reply_text OutOfMemory else l) text;
      rests = state_stays before now same is.zone;
    }

-- the edits that the seat has seen then
grown_at : (A : Type 0) (before now : SeatContent A) (request : Request) (answer : List ℕ) (edits : List (Edit A)) → IsAnsweredAt A before now request answer edits → before.made ≤ length before.front → SeesOwn now
    → edits_seen now.front ≡ edits_seen before.front ++ edits_between (state_of before) (state_of now) request
grown_at A before now request answer edits is seen own =
    let new : Standing = standing_of now.front in
    grown before now is.at edits is.seat seen own
    ∙ ap (λ (l : List EditContent). edits_seen before.front ++ l)
    (ap (λ (l : List (Edit A)). contents l) is.made
    ∙ same_between (standing_of is.at) new (requested_edits A (movie_of is.at) request)
    ∙ ap (λ (l : List EditContent). made_between (standing_of is.at) new l) (same_requested A (movie_of is.at) request).0
    ∙ ap (λ (h : List (Entry A)). made_between (standing_of h) new (requested_edits (Unit {0}) (movie_of h) request)) (at_front before now is.at edits is.seat seen own))

-- a line that makes none leaves them
none_grown : {A : Type 0} (before now : SeatContent A) → now.front ≡ before.front → edits_seen now.front ≡ edits_seen before.front ++ made_between {A = Unit {0}} (standing_of before.front) (standing_of now.front) []
none_grown {A} before now same =
    ap (λ (h : List (Entry A)). edits_seen h) same
    ∙ sym (append-nil (edits_seen before.front))
    ∙ ap (λ (l : List EditContent). edits_seen before.front ++ l) (sym (none_between (standing_of before.front) (standing_of now.front)))

-- a request is answered as nobody else's edits stood between the seat's own, which are those that it has seen
own_request : (A : Type 0) (before now : SeatContent A) (request : Request) (answer : List ℕ) (edits : List (Edit A)) → IsRequestAnswered A before now request answer edits → before.made ≤ length before.front → SeesOwn now
    → IsAnswerTo (state_of before) (edits_seen before.front) request answer (state_of now) × (edits_seen now.front ≡ edits_seen before.front ++ edits_between (state_of before) (state_of now) request)
own_request A before now (Pictures from to) answer edits (none, (strip, long, are, told)) seen own =
    ((own_shown strip, shown_length strip ∙ long, own_strip A before now from strip are seen own, told ∙ sym (shown_answers strip)), none_grown before now (strip_front before now from strip are seen own))
own_request A before now (History from) answer edits (none, is) seen own = (own_history A before now from answer is seen own, none_grown before now (at_front before now now.front [] is.seat seen own))
own_request A before now (Do command) answer edits is seen own = (own_answer A before now (Do command) answer edits is seen own, grown_at A before now (Do command) answer edits is seen own)
own_request A before now (Retouch retouch) answer edits is seen own = (own_answer A before now (Retouch retouch) answer edits is seen own, grown_at A before now (Retouch retouch) answer edits is seen own)
own_request A before now (Picture k) answer edits is seen own = (own_answer A before now (Picture k) answer edits is seen own, grown_at A before now (Picture k) answer edits is seen own)
own_request A before now (Ram k) answer edits is seen own = (own_answer A before now (Ram k) answer edits is seen own, grown_at A before now (Ram k) answer edits is seen own)
own_request A before now (Digest k) answer edits is seen own = (own_answer A before now (Digest k) answer edits is seen own, grown_at A before now (Digest k) answer edits is seen own)
own_request A before now (Lag a b) answer edits is seen own = (own_answer A before now (Lag a b) answer edits is seen own, grown_at A before now (Lag a b) answer edits is seen own)
own_request A before now (Inputs a b) answer edits is seen own = (own_answer A before now (Inputs a b) answer edits is seen own, grown_at A before now (Inputs a b) answer edits is seen own)
own_request A before now Movie answer edits is seen own = (own_answer A before now Movie answer edits is seen own, grown_at A before now Movie answer edits is seen own)
own_request A before now States answer edits is seen own = (own_answer A before now States answer edits is seen own, grown_at A before now States answer edits is seen own)
own_request A before now Share answer edits is seen own = (own_answer A before now Share answer edits is seen own, grown_at A before now Share answer edits is seen own)
own_request A before now Version answer edits is seen own = (own_answer A before now Version answer edits is seen own, grown_at A before now Version answer edits is seen own)
own_request A before now Begin answer edits is seen own = (own_answer A before now Begin answer edits is seen own, grown_at A before now Begin answer edits is seen own)
own_request A before now Commit answer edits is seen own = (own_answer A before now Commit answer edits is seen own, grown_at A before now Commit answer edits is seen own)
own_request A before now Drop answer edits is seen own = (own_answer A before now Drop answer edits is seen own, grown_at A before now Drop answer edits is seen own)
own_request A before now Quit answer edits is seen own = (own_answer A before now Quit answer edits is seen own, grown_at A before now Quit answer edits is seen own)

-- a line that asks for no edit leaves them
own_kept : (A : Type 0) (before now : SeatContent A) (request : Request) (answer : List ℕ) (edits : List (Edit A)) → IsRequestAnswered A before now request answer edits → requested_edits (Unit {0}) (movie_of before.front) request ≡ []
    → before.made ≤ length before.front → SeesOwn now → edits_seen now.front ≡ edits_seen before.front
own_kept A before now request answer edits is none seen own =
    let old : Standing = standing_of before.front in
    let new : Standing = standing_of now.front in
    (own_request A before now request answer edits is seen own).1
    ∙ ap (λ (l : List EditContent). edits_seen before.front ++ made_between old new l) none
    ∙ ap (λ (l : List EditContent). edits_seen before.front ++ l) (none_between old new)
    ∙ append-nil (edits_seen before.front)

-- ---- drafts

abbrev pub own_place : {A : Type 0} → TalkingSeat A → DraftedState
own_place now = drafted (state_of now.seat) (edits_seen now.seat.front) now.draft

place_is : {A : Type 0} (before : SeatContent A) (now : TalkingSeat A) (draft : Option DraftContent) → now.seat ≡ before → now.draft ≡ draft → own_place now ≡ drafted (state_of before) (edits_seen before.front) draft
place_is {A} before now draft same opened =
    ap (λ (s : SeatContent A). drafted (state_of s) (edits_seen s.front) now.draft) same ∙ ap (λ (d : Option DraftContent). drafted (state_of before) (edits_seen before.front) d) opened

same_refusals : {A : Type 0} (movie : MovieContent) (edits : List (Edit A)) → refusal_in movie (contents edits) ≡ refusal_in movie edits
same_refusals movie [] = refl
same_refusals {A} movie (edit ∷ edits) =
    ap (λ (r : Option EditRefusal). first_refusal r (refusal_in (edited movie (edit_content edit)) (contents edits))) (same_refusal movie edit)
    ∙ ap (λ (m : MovieContent). first_refusal (refusal movie edit) (refusal_in m (contents edits))) (same_edited movie edit)
    ∙ ap (λ (r : Option EditRefusal). first_refusal (refusal movie edit) r) (same_refusals (edited movie edit) edits)

same_edits : {A : Type 0} (movie : MovieContent) (edits : List (Edit A)) → edited_by movie (contents edits) ≡ edited_by movie edits
same_edits movie [] = refl
same_edits {A} movie (edit ∷ edits) = ap (λ (m : MovieContent). edited_by m (contents edits)) (same_edited movie edit) ∙ same_edits (edited movie edit) edits

same_length : {A : Type 0} (edits : List (Edit A)) → length (contents edits) ≡ length edits
same_length {A} edits = length-map edits (λ (e : Edit A). edit_content e)

same_uncommitted : {A : Type 0} (stands : Standing) (at : ℕ) (edits : List (Edit A)) → uncommitted_answer stands at (contents edits) ≡ uncommitted_answer stands at edits
same_uncommitted stands at edits =
    let text : ℕ → Option EditRefusal → Option (List ℕ) = λ n r.
    if stands.made == at then text_of (if nat_lt most_edits (stands.made + n) then Some (Full stands.made) else refusal_reply stands.made r) else Some (draft_reply_text (Moved stands.made)) in
    ap (λ (n : ℕ). text n (refusal_in stands.movie (contents edits))) (same_length edits) ∙ ap (λ (r : Option EditRefusal). text (length edits) r) (same_refusals stands.movie edits)

same_committed : {A : Type 0} (outcome : Option (List ℕ)) (stands : Standing) (edits : List (Edit A)) → commit_answer outcome stands (contents edits) ≡ commit_answer outcome stands edits
same_committed None stands edits =
    ap (λ (n : ℕ). draft_reply_text (Committed (stands.made + n) (length (edited_by stands.movie (contents edits)).inputs))) (same_length edits)
    ∙ ap (λ (m : MovieContent). draft_reply_text (Committed (stands.made + length edits) (length m.inputs))) (same_edits stands.movie edits)
same_committed (Some text) stands edits = refl

contents_made : {A : Type 0} (outcome : Option (List ℕ)) (edits : List (Edit A)) → contents (committed_edits outcome edits) ≡ committed_edits outcome (contents edits)
contents_made None edits = refl
contents_made (Some text) edits = refl

same_stroke : (A : Type 0) (at : ℕ) (olds news : List Input) → contents (stroke_of A at olds news) ≡ stroke_of (Unit {0}) at olds news
same_stroke A at [] [] = refl
same_stroke A at [] (new ∷ news) = refl
same_stroke A at (old ∷ olds) [] = refl
same_stroke A at (old ∷ olds) (new ∷ news) = go (length olds == length news)
  where
    go : (b : Bool) → contents {A = A} (if b then Replace at (new ∷ news) ∷ [] else Delete at (length (old ∷ olds)) ∷ Insert at (new ∷ news) ∷ [])
        ≡ (if b then Replace at (new ∷ news) ∷ [] else Delete at (length (old ∷ olds)) ∷ Insert at (new ∷ news) ∷ [])
    go true = refl
    go false = refl

stroke_contents : {A : Type 0} (base new : MovieContent) (stroke : List (Edit A)) → IsStroke base new stroke → IsStroke base new (contents stroke)
stroke_contents {A} base new stroke is = record {
  front = is.front;
  back = is.back;
  begins = is.begins;
  ends = is.ends;
  edits_are = ap (λ (l : List (Edit A)). contents l) is.edits_are ∙ same_stroke A is.front (inner_inputs is.front is.back base.inputs) (inner_inputs is.front is.back new.inputs);
}

leads_contents : {A : Type 0} (movie last : MovieContent) (edits : List (Edit A)) → LeadsTo movie edits last → LeadsTo movie (contents edits) last
leads_contents movie last [] is = is
leads_contents {A} movie last (edit ∷ edits) is =
    (same_refusal movie edit ∙ is.0, subst (λ (m : MovieContent). LeadsTo m (contents edits) last) (sym (same_edited movie edit)) (leads_contents (edited movie edit) last edits is.1))

commit_contents : {A : Type 0} (stands : Standing) (draft : DraftContent) (answer : List ℕ) (edits : List (Edit A)) (next : Option DraftContent) → IsCommitAnswer stands draft answer edits next → IsCommitAnswer stands draft answer (contents edits) next
commit_contents {A} stands draft answer edits next (inl none) =
    let comes_to : HasStroke (Unit {0}) draft.base draft.movie none.count = record {
      edits = contents none.comes_to.edits;
      stroke_is = stroke_contents draft.base draft.movie none.comes_to.edits none.comes_to.stroke_is;
      leads = leads_contents draft.base draft.movie none.comes_to.edits none.comes_to.leads;
      long = same_length none.comes_to.edits ∙ none.comes_to.long;
    } in
    inl (record { count = none.count; comes_to = comes_to; some = none.some; there = none.there; room = none.room; answer_is = none.answer_is; edits_are = ap (λ (l : List (Edit A)). contents l) none.edits_are; draft_is = none.draft_is })
commit_contents {A} stands draft answer edits next (inr told) =
    let same : uncommitted_answer stands draft.at told.stroke ≡ uncommitted_answer stands draft.at (contents told.stroke) = sym (same_uncommitted stands draft.at told.stroke) in
    inr (record {
      stroke = contents told.stroke;
      stroke_is = stroke_contents draft.base draft.movie told.stroke told.stroke_is;
      leads = leads_contents draft.base draft.movie told.stroke told.leads;
      answer_is = told.answer_is ∙ sym (same_committed (uncommitted_answer stands draft.at told.stroke) stands told.stroke) ∙ ap (λ (o : Option (List ℕ)). commit_answer o stands (contents told.stroke)) same;
      edits_are = ap (λ (l : List (Edit A)). contents l) told.edits_are ∙ contents_made (uncommitted_answer stands draft.at told.stroke) told.stroke ∙ ap (λ (o : Option (List ℕ)). committed_edits o (contents told.stroke)) same;
      draft_is = told.draft_is ∙ ap (λ (o : Option (List ℕ)). draft_after_commit o draft) same;
    })

own_commit : (A : Type 0) (before : SeatContent A) (draft : DraftContent) (now : TalkingSeat A) (answer : List ℕ) (edits : List (Edit A)) → IsCommitted before draft now answer edits → before.made ≤ length before.front → SeesOwn now.seat
    → IsOwnCommit (state_of before) (edits_seen before.front) draft answer (own_place now)
own_commit A before draft now answer edits is seen own =
    let same : is.at ≡ before.front = at_front before now.seat is.at edits is.seat seen own in
    let movie : movie_of now.seat.front ≡ edited_by (movie_of before.front) (contents edits) =
    ap (λ (h : List (Entry A)). movie_of h) is.seat.front
    ∙ made_after blank_movie is.at (entries_from before.number before.made edits)
    ∙ made_by_entries (movie_of is.at) before.number before.made edits
    ∙ ap (λ (h : List (Entry A)). edited_by (movie_of h) edits) same
    ∙ sym (same_edits (movie_of before.front) edits) in
    let made : length now.seat.front ≡ length before.front + length (contents edits) = omega (arith, front_length before now.seat is.at edits is.seat, ap (λ (h : List (Entry A)). length h) same, same_length edits) in
    record {
      stroke = contents edits;
      answered = commit_contents (standing_of before.front) draft answer edits now.draft (subst (λ (h : List (Entry A)). IsCommitAnswer (standing_of h) draft answer edits now.draft) same is.answered);
      stands = ap (λ (m : MovieContent). let x : Standing = record { movie = m; made = length now.seat.front } in x) movie
          ∙ ap (λ (n : ℕ). let x : Standing = record { movie = edited_by (movie_of before.front) (contents edits); made = n } in x) made;
      edits_are = grown before now.seat is.at edits is.seat seen own;
      rests = record { kept_for = ap (λ (z : ZoneContent A). z.movie) is.zone; states = ap (λ (z : ZoneContent A). z.states) is.zone };
    }

own_outside : (subject : Subject) (A : Type 0) (before : SeatContent A) (now : TalkingSeat A) (request : Request) (answer : List ℕ) (edits : List (Edit A)) → subject_of request ≡ subject → IsAnsweredOutsideOf subject A before now request answer edits
    → before.made ≤ length before.front → SeesOwn now.seat → IsOutsideAnswerOf subject (state_of before) (edits_seen before.front) request answer (own_place now)
own_outside about.Begin A before now request answer edits subject (is, none) seen own =
    let same : now.seat.front ≡ before.front = at_front before now.seat now.seat.front [] is.seat seen own in
    (subst (λ (h : List (Entry A)). IsBeginAnswer (talk_state_at h before.zone) answer (state_of now.seat) now.draft) same is.answered, ap (λ (h : List (Entry A)). edits_seen h) same)
own_outside about.Commit A before now request answer edits subject (told, opened, left) seen own = (told, place_is before now None left.same opened)
own_outside about.Drop A before now request answer edits subject (told, opened, left) seen own = (told, place_is before now None left.same opened)
own_outside about.Desk A before now request answer edits subject is seen own = let own_is = own_request A before now.seat request answer edits is.0 seen own in (own_is.0, own_is.1, is.1)
own_outside about.Movie A before now request answer edits subject is seen own = let own_is = own_request A before now.seat request answer edits is.0 seen own in (own_is.0, own_is.1, is.1)
own_outside about.End A before now request answer edits subject is seen own = absurd is

own_inside : (subject : Subject) (A : Type 0) (before : SeatContent A) (draft : DraftContent) (now : TalkingSeat A) (request : Request) (answer : List ℕ) (edits : List (Edit A)) → subject_of request ≡ subject → IsAnsweredInsideOf subject A before draft now request answer edits
    → before.made ≤ length before.front → SeesOwn now.seat → IsInsideAnswerOf subject (state_of before) (edits_seen before.front) draft request answer (own_place now)
own_inside about.Begin A before draft now request answer edits subject (told, opened, left) seen own = (told, place_is before now (Some draft) left.same opened)
own_inside about.Commit A before draft now request answer edits subject is seen own = own_commit A before draft now answer edits is seen own
own_inside about.Drop A before draft now request answer edits subject (told, opened, left) seen own = (told, place_is before now None left.same opened)
own_inside about.Desk A before draft now request answer edits subject is seen own =
    ((own_request A before now.seat request answer edits is.0 seen own).0, own_kept A before now.seat request answer edits is.0 ((same_requested A (movie_of before.front) request).1 subject) seen own, is.1)
own_inside about.Movie A before draft now request answer edits subject (next, told, sound, opened, left) seen own = (next, told, sound, place_is before now (Some next) left.same opened)
own_inside about.End A before draft now request answer edits subject is seen own = absurd is

own_talk_line : (A : Type 0) (before : SeatContent A) (draft : Option DraftContent) (now : TalkingSeat A) (request : Request) (answer : List ℕ) (edits : List (Edit A)) → IsTalkAnswered A before draft now request answer edits → before.made ≤ length before.front
    → SeesOwn now.seat → IsDraftedAnswer (state_of before) (edits_seen before.front) draft request answer (own_place now)
own_talk_line A before None now request answer edits is seen own = own_outside (subject_of request) A before now request answer edits refl is seen own
own_talk_line A before (Some draft) now request answer edits is seen own = own_inside (subject_of request) A before draft now request answer edits refl is seen own

own_line : (A : Type 0) (before now : TalkingSeat A) (said : List ℕ) (heard : Option Request) (answer : List ℕ) (edits : List (Edit A)) → IsLineAnswered A before now said heard answer edits → before.seat.made ≤ length before.seat.front → SeesOwn now.seat
    → IsLineAnswer (own_place before) said heard answer (own_place now)
own_line A before now said (Some request) answer edits is seen own = own_talk_line A before.seat before.draft now request answer edits is seen own
own_line A before now said None answer edits (told, none, same) seen own = (told, ap (λ (s : TalkingSeat A). own_place s) same)

-- ---- all lines

abbrev pub own_exchange : {A : Type 0} → SeatExchange A → Exchange
own_exchange x = record { said = x.said; heard = x.heard; answer = x.answer; next = own_place x.next }

pub own_is : {A : Type 0} (seat : TalkingSeat A) (x : SeatExchange A) → IsSeatExchange seat x → seat.seat.made ≤ length seat.seat.front → SeesOwn x.next.seat → IsExchange (own_place seat) (own_exchange x)
own_is {A} seat x is seen own = record { whole = is.whole; heard = is.heard; answered = own_line A seat x.next x.said x.heard x.answer x.edits is.answered seen own }

unfoldable pub own_all : {A : Type 0} → List (SeatExchange A) → List Exchange
own_all [] = []
own_all (x ∷ xs) = own_exchange x ∷ own_all xs

pub all_lines : {A : Type 0} (xs : List (SeatExchange A)) → lines_of (own_all xs) ≡ seat_lines xs
unfolding own_all
all_lines [] = refl
all_lines (x ∷ xs) = ap (λ (l : List ℕ). line x.said ++ l) (all_lines xs)

pub all_answers : {A : Type 0} (xs : List (SeatExchange A)) → answers_of (own_all xs) ≡ seat_texts xs
unfolding own_all
all_answers [] = refl
all_answers (x ∷ xs) = ap (λ (l : List ℕ). x.answer ++ l) (all_answers xs)

own_exchanges : {A : Type 0} (start last : TalkingSeat A) (xs : List (SeatExchange A)) → AreSeatExchanges start xs last → start.seat.made ≤ length start.seat.front → SeesOwn last.seat → AreExchanges (own_place start) (own_all xs) (own_place last)
unfolding AreSeatExchanges AreExchanges own_all
own_exchanges {A} start last [] is seen own = ap (λ (s : TalkingSeat A). own_place s) is
own_exchanges {A} start last (x ∷ xs) is seen own =
    let next : SeesOwn x.next.seat = sees_before x.next.seat last.seat (edits_of xs) (exchanges_leave x.next last xs is.1) own in
    (own_is start x is.0 seen next, own_exchanges x.next last xs is.1 (seen_after start.seat x.next.seat x.edits (exchange_leaves start x is.0) seen) own)

-- ---- the end

pub own_ends : {A : Type 0} (seat : TalkingSeat A) (last : SeatContent A) (rest told : List ℕ) (edits : List (Edit A)) (input output output' : Option (List ℕ)) (result : Result (Unit {0}) ToolFault) → SeatEnds seat last rest told edits input output output' result
    → (result ≡ Err (Run Foreign) → ⊥) → seat.seat.made ≤ length seat.seat.front → SeesOwn last → TalkEnds (own_place seat) rest told input output output' result
own_ends seat last rest told edits input output output' (Ok u) is other seen own = is.1
own_ends seat last rest told edits input output output' (Err (Read Failed)) is other seen own = (is.1, is.2)
own_ends {A} seat last rest told edits input output output' (Err (Run (Write written))) (answer, inl is, cut) other seen own =
    let next : SeesOwn is.exchange.next.seat = subst (λ (s : SeatContent A). SeesOwn s) is.last_is own in
    (answer, inl (own_exchange is.exchange, is.more, own_is seat is.exchange is.is seen next, is.text, is.answer_is), cut)
own_ends seat last rest told edits input output output' (Err (Run (Write written))) (answer, inr is, cut) other seen own = (answer, inr (is.1, is.2, is.3), cut)
own_ends seat last rest told edits input output output' (Err (Run Memory)) is other seen own = is.1
own_ends seat last rest told edits input output output' (Err (Run NoEntry)) is other seen own = (is.1, is.2)
own_ends seat last rest told edits input output output' (Err (Run Foreign)) is other seen own = absurd (other refl)
own_ends seat last rest told edits input output output' (Err (Read TooLong)) is other seen own = absurd is
own_ends seat last rest told edits input output output' (Err (Read NoRoom)) is other seen own = absurd is
own_ends seat last rest told edits input output output' (Err (Run (Size n))) is other seen own = absurd is
own_ends seat last rest told edits input output output' (Err (Run (Text error))) is other seen own = absurd is
own_ends seat last rest told edits input output output' (Err (Run (OffMovie frame len))) is other seen own = absurd is
own_ends seat last rest told edits input output output' (Err (Run (OffRange from to len))) is other seen own = absurd is
own_ends seat last rest told edits input output output' (Err (Run (NoNames row kind))) is other seen own = absurd is
own_ends seat last rest told edits input output output' (Err (Run (Stopped at opcode))) is other seen own = absurd is
own_ends seat last rest told edits input output output' (Err (Run (StoppedFrame frame at opcode))) is other seen own = absurd is
own_ends seat last rest told edits input output output' (Err (Run (Script number))) is other seen own = absurd is
own_ends seat last rest told edits input output output' (Err (Run (Place number))) is other seen own = absurd is
own_ends seat last rest told edits input output output' (Err (Run (Long number))) is other seen own = absurd is
own_ends seat last rest told edits input output output' (Err (Run NoPlace)) is other seen own = absurd is
own_ends seat last rest told edits input output output' (Err (Seat number fault)) is other seen own = absurd is

-- ---- the movie that is left

-- a seat that made nothing more has seen nothing more
pub same_front : {A : Type 0} (seat last : SeatContent A) (edits : List (Edit A)) → Leaves seat last edits → edits ≡ [] → seat.made ≤ length seat.front → SeesOwn last → last.front ≡ seat.front
same_front {A} seat last edits left none seen own =
    let count : length edits ≡ 0 = ap (λ (l : List (Edit A)). length l) none in
    let more : left.seen.0 ≡ [] = none_left left.seen.0 (omega (arith, left.made, count, own.few, seen, prefix_length seat.front last.front left.seen)) in
    sym left.seen.1 ∙ ap (λ (l : List (Entry A)). seat.front ++ l) more ∙ append-nil seat.front

own_looked : {A : Type 0} (seat : TalkingSeat A) (last : SeatContent A) (rest : List ℕ) (edits : List (Edit A)) → HasLooked seat last rest edits → Leaves seat.seat last edits → seat.seat.made ≤ length seat.seat.front → SeesOwn last
    → movie_of last.front ≡ (own_place seat).state.stands.movie
own_looked {A} seat last rest edits is left seen own = ap (λ (l : List (Entry A)). movie_of l) (same_front seat.seat last edits left is.none seen own)

own_carried : {A : Type 0} (seat : TalkingSeat A) (last : SeatContent A) (rest answer : List ℕ) (edits : List (Edit A)) → IsSeatCarriedOut seat last rest edits answer → seat.seat.made ≤ length seat.seat.front → SeesOwn last
    → IsCarriedOut (own_place seat) rest (movie_of last.front)
own_carried {A} seat last rest answer edits is seen own =
    let next : SeesOwn is.exchange.next.seat = subst (λ (s : SeatContent A). SeesOwn s) is.last_is own in
    (own_exchange is.exchange, is.more, own_is seat is.exchange is.is seen next, is.text, ap (λ (s : SeatContent A). movie_of s.front) is.last_is)

own_left : {A : Type 0} (seat : TalkingSeat A) (last : SeatContent A) (rest told : List ℕ) (edits : List (Edit A)) (input output output' : Option (List ℕ)) (result : Result (Unit {0}) ToolFault) → SeatEnds seat last rest told edits input output output' result
    → Leaves seat.seat last edits → (result ≡ Err (Run Foreign) → ⊥) → seat.seat.made ≤ length seat.seat.front → SeesOwn last → LeavesMovie (own_place seat) rest (movie_of last.front) result
own_left {A} seat last rest told edits input output output' (Ok u) is left other seen own = ap (λ (s : SeatContent A). movie_of s.front) is.0.same
own_left {A} seat last rest told edits input output output' (Err (Read Failed)) is left other seen own = ap (λ (s : SeatContent A). movie_of s.front) is.0.same
own_left {A} seat last rest told edits input output output' (Err (Run (Write written))) (answer, inl is, cut) left other seen own = inl (own_carried seat last rest answer edits is seen own)
own_left {A} seat last rest told edits input output output' (Err (Run (Write written))) (answer, inr is, cut) left other seen own = inr (is.1, ap (λ (s : SeatContent A). movie_of s.front) is.0.same)
own_left seat last rest told edits input output output' (Err (Run Memory)) (inl is, out) left other seen own = inr (own_looked seat last rest edits is left seen own)
own_left seat last rest told edits input output output' (Err (Run Memory)) (inr (answer, is), out) left other seen own = inl (own_carried seat last rest answer edits is seen own)
own_left seat last rest told edits input output output' (Err (Run NoEntry)) is left other seen own = own_looked seat last rest edits is.0 left seen own
own_left seat last rest told edits input output output' (Err (Run Foreign)) is left other seen own = absurd (other refl)
own_left seat last rest told edits input output output' (Err (Read TooLong)) is left other seen own = absurd is
own_left seat last rest told edits input output output' (Err (Read NoRoom)) is left other seen own = absurd is
own_left seat last rest told edits input output output' (Err (Run (Size n))) is left other seen own = absurd is
own_left seat last rest told edits input output output' (Err (Run (Text error))) is left other seen own = absurd is
own_left seat last rest told edits input output output' (Err (Run (OffMovie frame len))) is left other seen own = absurd is
own_left seat last rest told edits input output output' (Err (Run (OffRange from to len))) is left other seen own = absurd is
own_left seat last rest told edits input output output' (Err (Run (NoNames row kind))) is left other seen own = absurd is
own_left seat last rest told edits input output output' (Err (Run (Stopped at opcode))) is left other seen own = absurd is
own_left seat last rest told edits input output output' (Err (Run (StoppedFrame frame at opcode))) is left other seen own = absurd is
own_left seat last rest told edits input output output' (Err (Run (Script number))) is left other seen own = absurd is
own_left seat last rest told edits input output output' (Err (Run (Place number))) is left other seen own = absurd is
own_left seat last rest told edits input output output' (Err (Run (Long number))) is left other seen own = absurd is
own_left seat last rest told edits input output output' (Err (Run NoPlace)) is left other seen own = absurd is
own_left seat last rest told edits input output output' (Err (Seat number fault)) is left other seen own = absurd is

-- where a seat's conversation begins: with no draft
abbrev pub place_of : {A : Type 0} → SeatContent A → DraftedState
place_of seat = own_place (talking seat None)

-- a seat's conversation on a desk where nobody else makes edits is one of a single seat
pub own_talk : {A : Type 0} (start last : SeatContent A) (input input' output output' : Option (List ℕ)) (result : Result (Unit {0}) ToolFault) → IsSeatTalk start last input input' output output' result → start.made ≤ length start.front
    → SeesOwn last → IsTalkLeaving (Some (movie_of last.front)) (place_of start) input input' output output' result × SeesOwn start × (last.made ≤ length last.front)
own_talk {A} start last input input' output output' result talk seen own = go (rested talk.seat last talk.rest _ talk.more input' output output' result talk.ends)
  where
    first : Leaves start talk.seat.seat (edits_of talk.exchanges)
    first = exchanges_leave (talking start None) talk.seat talk.exchanges talk.answered

    seen_all : talk.seat.seat.made ≤ length talk.seat.seat.front
    seen_all = seen_after start talk.seat.seat (edits_of talk.exchanges) first seen

    go : Rested talk.seat last talk.more result → IsTalkLeaving (Some (movie_of last.front)) (place_of start) input input' output output' result × SeesOwn start × (last.made ≤ length last.front)
    go (inl strange) =
        let more = prefix_length talk.seat.seat.front last.front strange.seen.begins in
        let counted : entries_of last.number last.front ≡ length last.front = ap (λ (n : ℕ). entries_of n last.front) own.number ∙ own.alone in
        absurd (strange.other (omega (arith, more, counted, own.few, seen_all, strange.seen.made)))
    go (inr (left, other)) =
        let middle : SeesOwn talk.seat.seat = sees_before talk.seat.seat last talk.more left own in
        let ends : TalkEnds (own_place talk.seat) talk.rest (seat_texts talk.exchanges) input' output output' result =
        own_ends talk.seat last talk.rest (seat_texts talk.exchanges) talk.more input' output output' result talk.ends other seen_all own in (
          record {
            talk = record {
              exchanges = own_all talk.exchanges;
              state = own_place talk.seat;
              rest = talk.rest;
              answered = own_exchanges (talking start None) talk.seat talk.exchanges talk.answered seen middle;
              left = subst (λ (l : List ℕ). Consumes input input' (l ++ talk.rest)) (sym (all_lines talk.exchanges)) talk.left;
              ends = subst (λ (l : List ℕ). TalkEnds (own_place talk.seat) talk.rest l input' output output' result) (sym (all_answers talk.exchanges)) ends;
            };
            left_is = own_left talk.seat last talk.rest (seat_texts talk.exchanges) talk.more input' output output' result talk.ends left other seen_all own;
          },
          sees_before start talk.seat.seat (edits_of talk.exchanges) first middle,
          seen_after talk.seat.seat last talk.more left seen_all,
        )
