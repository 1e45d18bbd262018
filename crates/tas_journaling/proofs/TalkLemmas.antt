-- Conversations with a journal, line by line.
use Rattle.std.proofs.Common.{◌≡◌, ℕ, ◌+◌, List, [], ◌∷◌, ◌++◌, length, take, Option, Some, None, Result, Ok, Err, inl, inr, refl, sym, ap, subst, ◌∙◌, arith, append_assoc, length-append, append-nil}
use Rattle.std.specs.Prelude.{min, is_some, Bool, OnOk, IfOk, IfErr}
use Rattle.std.specs.Io.KnownBytes.{Appends, Consumes, Keeps, IsAtEnd}
use Rattle.std.proofs.KnownBytes.{Appends-nil, Appends-trans, Consumes-nil, Consumes-trans, Consumes-kept}
use Rattle.std.proofs.lemmas.Grind.{flat_map-append}
use Rattle.std.proofs.Math.Seq.{take-append-add}
use mathlib.Core.List.{IsPrefix}
use Rattle.byte_text.specs.CutOff.{IsCutOff}
use Rattle.byte_text.specs.Splitting.{NoByte}
use Rattle.tas_movie.specs.Text.{line}
use Rattle.tas_movie.specs.declared.edit.Edit.{Edit}
use Rattle.tas_published.proofs.PrefixLemmas.{prefix_self, prefix_trans}
use Rattle.tas_desk.specs.Seats.{SeatContent, KeepsZone}
use Rattle.tas_engines.specs.declared.fault.RunFault.{RunFault}
use Rattle.tas_engines.specs.declared.fault.RunFault.TheVariants.{Write, Size, Text, NoFrame as OffMovie, Range as OffRange, Halted as Stopped, HaltedFrame as StoppedFrame, Script, Place, Long, Names as NoNames, NoPlace, NoEntry, Foreign, Memory}
use Rattle.tas_engines.specs.declared.fault.ToolFault.{ToolFault}
use Rattle.tas_engines.specs.declared.fault.ToolFault.TheVariants.{Read, Run, Seat}
use Rattle.tas_engines.specs.declared.fault.ReadFault.TheVariants.{Failed}
use Rattle.tas_language.specs.declared.request.Request.{Request}
use Rattle.tas_language.specs.Requests.{IsHeard}
use Rattle.tas_language.specs.Unheard.{why_unheard, unknown_text}
use Rattle.tas_seat.specs.Conversations.{TalkingSeat, talking, IsTalkAnswered}
use Rattle.tas_seat.specs.Drafts.{DraftContent}
use Rattle.tas_seat.specs.Outcomes.{HasNoTalkAnswer, IsLook}
use Rattle.tas_seat.specs.Talk.{Exchange, IsExchange, AreExchanges, IsQuit, IsCarriedOut, IsAnswerCutOff, TalkEnds, lines_of, answers_of, last_answer, most_counted}
use Rattle.tas_seat.specs.Inside.Talking.{Breaks}
use Rattle.tas_seat.proofs.TalkLemmas.{known_line, known_cut, line_fault, unknown_line, unknown_cut, left_as, not_looked}
use Rattle.tas_seat.proofs.HistoryLemmas.{line_leaves, rested, Rested}
use Rattle.tas_journaling.specs.declared.answering.AnswerFault.{AnswerFault}
use Rattle.tas_journaling.specs.declared.answering.AnswerFault.TheVariants as answer
use Rattle.tas_journaling.specs.declared.talking.TalkFault.{TalkFault}
use Rattle.tas_journaling.specs.declared.talking.TalkFault.TheVariants.{Tool, Journal}
use Rattle.tas_journaling.specs.Noting.{NoteFacts, KeepsUpBy, NotesEnd, may_edit}
use Rattle.tas_journaling.specs.NoteLaws.{AreNoteLaws}
use Rattle.tas_journaling.specs.Answers.{IsNotedAnswer}
use Rattle.tas_journaling.specs.Talks.{WaysWith, AreShown, NotedEnds, IsTalkNotedBy}
use Rattle.tas_journaling.specs.Inside.{counted_fault, KeepsAll, BreaksNotes, IsBroken, IsNotedTurn, IsUnderway}
use Rattle.tas_journaling.proofs.NoteLemmas.{keeps_same}

-- ---- notes

same_all : {A J : Type 0} (notes : NoteFacts A J) (seat : SeatContent A) (old new : J) → new ≡ old → KeepsAll notes seat seat old new
same_all {A} {J} notes seat old new is = λ head all. subst (λ (j : J). notes.covers head seat j) (sym is) all

up_all : {A J : Type 0} (notes : NoteFacts A J) (laws : AreNoteLaws notes) (edits : Bool) (before now : SeatContent A) (old new : J) → KeepsUpBy notes edits before now old new → KeepsAll notes before now old new
up_all notes laws edits before now old new keeps = λ head all. keeps head (laws.covers_ready edits head before old all)

-- ---- one line

pub quit_turn : {A J : Type 0} {notes : NoteFacts A J} (laws : AreNoteLaws notes) (before now : TalkingSeat A) (old new : J) (said : List ℕ) (told : ℕ) (output output' : Option (List ℕ)) (request : Request) → IsHeard said (Some request) → IsNotedAnswer notes before now request old new output output' (Ok None)
    → IsNotedTurn notes before now old new said told output output' (Ok None)
quit_turn {A} {J} {notes} laws before now old new said told output output' request heard is =
    ((subst (λ (r : Request). IsHeard said (Some r)) is.0 heard, is.1, subst (λ (o : Option (List ℕ)). Appends output o []) (sym is.3) (Appends-nil output)), is.2)

pub known_turn : {A J : Type 0} {notes : NoteFacts A J} (laws : AreNoteLaws notes) (before now : TalkingSeat A) (old new : J) (said : List ℕ) (told size next : ℕ) (output output' : Option (List ℕ)) (request : Request) → NoByte 10 said → IsHeard said (Some request)
    → IsNotedAnswer notes before now request old new output output' (Ok (Some size)) → next ≡ min (told + size) most_counted → IsNotedTurn notes before now old new said told output output' (Ok (Some next))
known_turn {A} {J} {notes} laws before now old new said told size next output output' request none heard (text, answered, out, keeps, long) count = (
  answered.seat,
  known_line before (talking answered.seat now.draft) said text text request told next output output' none heard answered.answered refl out
      (count ∙ ap (λ (n : ℕ). min (told + n) most_counted) long),
  answered.shown,
  up_all notes laws (may_edit (is_some before.draft) request) before.seat now.seat old new keeps,
)

pub unknown_turn : {A J : Type 0} {notes : NoteFacts A J} (laws : AreNoteLaws notes) (seat : TalkingSeat A) (journal : J) (said text : List ℕ) (told written : ℕ) (output output' : Option (List ℕ)) → NoByte 10 said → IsHeard said None → text ≡ unknown_text (why_unheard said)
    → Appends output output' text → written ≡ min (told + length text) most_counted → IsNotedTurn notes seat seat journal journal said told output output' (Ok (Some written))
unknown_turn {A} {J} {notes} laws seat journal said text told written output output' none heard is out count =
    (seat.seat, unknown_line seat said text told written output output' none heard is out count, keeps_same seat.seat, same_all notes seat.seat journal journal refl)

pub unknown_broken : {A J : Type 0} {notes : NoteFacts A J} (laws : AreNoteLaws notes) (seat : TalkingSeat A) (journal : J) (said text : List ℕ) (told sent : ℕ) (output output' : Option (List ℕ)) → NoByte 10 said → IsHeard said None → text ≡ unknown_text (why_unheard said)
    → IsCutOff output output' text sent → IsNotedTurn notes seat seat journal journal said told output output' (Err (counted_fault (answer.Write sent) told))
unknown_broken {A} {J} {notes} laws seat journal said text told sent output output' none heard is cut = λ more.
    let broken = unknown_cut seat said text told output output' (Write (min (told + sent) most_counted)) none heard is (sent, cut, refl) more in
    record { left_at = seat.seat; edits = broken.0; breaks = broken.1; shown = keeps_same seat.seat; noted = same_all notes seat.seat journal journal refl }

pub unknown_answered : {A J : Type 0} {notes : NoteFacts A J} (laws : AreNoteLaws notes) (seat : TalkingSeat A) (journal : J) (said text : List ℕ) (told : ℕ) (output output' : Option (List ℕ)) (result : Result (Option ℕ) TalkFault) → NoByte 10 said → IsHeard said None
    → text ≡ unknown_text (why_unheard said) → OnOk result (Appends output output' text) → IfOk result (λ written. written ≡ Some (min (told + length text) most_counted))
    → IfErr result (λ fault. (sent : ℕ) × IsCutOff output output' text sent × (fault ≡ counted_fault (answer.Write sent) told)) → IsNotedTurn notes seat seat journal journal said told output output' result
unknown_answered {A} {J} {notes} laws seat journal said text told output output' (Ok written) none heard is out count fault =
    subst (λ (w : Option ℕ). IsNotedTurn notes seat seat journal journal said told output output' (Ok w)) (sym count)
    (unknown_turn laws seat journal said text told (min (told + length text) most_counted) output output' none heard is out refl)
unknown_answered {A} {J} {notes} laws seat journal said text told output output' (Err fault) none heard why out count (sent, cut, is) =
    subst (λ (f : TalkFault). IsNotedTurn notes seat seat journal journal said told output output' (Err f)) (sym is) (unknown_broken laws seat journal said text told sent output output' none heard why cut)

-- the journal failed: the line was carried out
carried : {A : Type 0} (before now : TalkingSeat A) (said more text : List ℕ) (request : Request) (edits : List (Edit A)) → NoByte 10 said → IsHeard said (Some request) → IsTalkAnswered A before.seat before.draft now request text edits
    → IsCarriedOut before now.seat (line said ++ more) edits text
carried before now said more text request edits none heard is = record {
  exchange = record { said = said; heard = Some request; answer = text; edits = edits; next = now };
  more = more;
  is = record { whole = none; heard = heard; answered = is };
  text = refl;
  answer_is = refl;
  edits_are = refl;
  last_is = refl;
}

talk_broken : {A J : Type 0} {notes : NoteFacts A J} (laws : AreNoteLaws notes) (before now : TalkingSeat A) (old new : J) (said : List ℕ) (told : ℕ) (output output' : Option (List ℕ)) (request : Request) (fault : RunFault) → NoByte 10 said → IsHeard said (Some request)
    → HasNoTalkAnswer before now request fault × (new ≡ old) × (output' ≡ output) → (fault ≡ NoEntry → IsLook request × (before.draft ≡ None)) → IsNotedTurn notes before now old new said told output output' (Err (Tool (Run fault)))
talk_broken {A} {J} {notes} laws before now old new said told output output' request fault none heard (is, same, out) entry = λ more.
    let broken = line_fault before now said request told output fault none heard is entry more in
    let breaks = subst (λ (o : Option (List ℕ)). Breaks before now.seat (line said ++ more) broken.0 told output o fault) (sym out) broken.1 in
    record { left_at = now.seat; edits = broken.0; breaks = breaks; shown = keeps_same now.seat; noted = kept fault is }
  where
    kept : (f : RunFault) → HasNoTalkAnswer before now request f → BreaksNotes notes before.seat now.seat old new (Tool (Run f))
    kept (Write written) never = absurd never
    kept (Size n) never = same
    kept (Text error) was = same
    kept (OffMovie frame len) was = same
    kept (OffRange from to len) was = same
    kept (NoNames row kind) was = same
    kept (Stopped at opcode) was = same
    kept (StoppedFrame frame at opcode) was = same
    kept (Script number) was = same
    kept (Place number) was = same
    kept (Long number) was = same
    kept NoPlace was = same
    kept NoEntry was = same
    kept Foreign was = same
    kept Memory was = same

pub known_broken : {A J : Type 0} {notes : NoteFacts A J} (laws : AreNoteLaws notes) (before now : TalkingSeat A) (old new : J) (said : List ℕ) (told : ℕ) (output output' : Option (List ℕ)) (request : Request) (fault : AnswerFault) → NoByte 10 said → IsHeard said (Some request)
    → IsNotedAnswer notes before now request old new output output' (Err fault) → (fault ≡ answer.Talk NoEntry → IsLook request × (before.draft ≡ None))
    → IsNotedTurn notes before now old new said told output output' (Err (counted_fault fault told))
known_broken {A} {J} {notes} laws before now old new said told output output' request (answer.Talk fault) none heard is entry =
    talk_broken laws before now old new said told output output' request fault none heard is (λ e. entry (ap (λ (f : RunFault). answer.Talk f) e))
known_broken {A} {J} {notes} laws before now old new said told output output' request (answer.Write sent) none heard (text, answered, cut, keeps) entry = λ more.
    let broken = known_cut before (talking answered.seat now.draft) said text text request told output output' (Write (min (told + sent) most_counted)) none heard answered.answered refl (sent, cut, refl) more in
    record { left_at = answered.seat; edits = broken.0; breaks = broken.1; shown = answered.shown; noted = up_all notes laws (may_edit (is_some before.draft) request) before.seat now.seat old new keeps }
known_broken {A} {J} {notes} laws before now old new said told output output' request (answer.Journal fault) none heard (text, answered, out, short) entry = λ more.
    let (edits, is) = answered.answered in
    record {
      left_at = answered.seat;
      edits = edits;
      breaks = (text, carried before (talking answered.seat now.draft) said more text request edits none heard is, subst (λ (o : Option (List ℕ)). Appends output o []) (sym out) (Appends-nil output));
      shown = answered.shown;
      noted = short;
    }

-- ---- lines, one after the other

pub no_lines : {A : Type 0} (seat : TalkingSeat A) → AreShown seat [] seat
unfolding AreShown
no_lines seat = refl

one_more : {A : Type 0} (a b : TalkingSeat A) (xs : List (Exchange A)) (x : Exchange A) (shown : SeatContent A) → AreShown a xs b → IsExchange b x → KeepsZone x.next.seat shown → AreShown a (xs ++ x ∷ []) (talking shown x.next.draft)
unfolding AreShown
one_more {A} a b [] x shown p is keeps = (subst (λ (s : TalkingSeat A). IsExchange s x) p is, shown, keeps, refl)
one_more a b (y ∷ ys) x shown p is keeps = (p.0, p.1, p.2, one_more (talking p.1 y.next.draft) b ys x shown p.3 is keeps)

-- an exchange that is alone
alone : {A : Type 0} (a b : TalkingSeat A) (x : Exchange A) → AreExchanges a (x ∷ []) b → IsExchange a x × (b ≡ x.next)
unfolding AreExchanges
alone a b x p = (p.0, p.1)

lines_more : {A : Type 0} (xs ys : List (Exchange A)) → lines_of (xs ++ ys) ≡ lines_of xs ++ lines_of ys
lines_more {A} xs ys = flat_map-append (λ (x : Exchange A). line x.said) xs ys

answers_more : {A : Type 0} (xs ys : List (Exchange A)) → answers_of (xs ++ ys) ≡ answers_of xs ++ answers_of ys
answers_more {A} xs ys = flat_map-append (λ (x : Exchange A). x.answer) xs ys

line_on : {A : Type 0} (xs : List (Exchange A)) (x : Exchange A) (said more : List ℕ) → x.said ≡ said → lines_of xs ++ (line said ++ more) ≡ lines_of (xs ++ x ∷ []) ++ more
line_on xs x said more is =
    ap (λ (l : List ℕ). lines_of xs ++ (line l ++ more)) (sym is)
    ∙ ap (λ (l : List ℕ). lines_of xs ++ (l ++ more)) (sym (append-nil (line x.said)))
    ∙ sym (append_assoc (lines_of xs) (lines_of (x ∷ [])) more)
    ∙ ap (λ (l : List ℕ). l ++ more) (sym (lines_more xs (x ∷ [])))

-- ---- on the way

pub goes_on : {A J : Type 0} {notes : NoteFacts A J} (laws : AreNoteLaws notes) (start : SeatContent A) (first : WaysWith J) (now later : TalkingSeat A) (written next : ℕ) (input output output' : Option (List ℕ)) (old new : J) (said more : List ℕ)
    → IsUnderway notes start first now written (record { input = input; output = output; journal = old }) (line said ++ more) → IsNotedTurn notes now later old new said written output output' (Ok (Some next))
    → IsUnderway notes start first later next (record { input = input; output = output'; journal = new }) more
goes_on {A} {J} {notes} laws start first now later written next input output output' old new said more way (left_at, (x, same, answered), shown, keeps) =
    let (is, at) = alone now (talking left_at later.draft) x answered.all in
    let keeps_next : KeepsZone x.next.seat later.seat = subst (λ (s : TalkingSeat A). KeepsZone s.seat later.seat) at shown in
    let draft : later.draft ≡ x.next.draft = ap (λ (s : TalkingSeat A). s.draft) at in
    let count : length (answers_of (way.exchanges ++ x ∷ [])) ≡ length (answers_of way.exchanges) + length (answers_of (x ∷ [])) =
    ap (λ (l : List ℕ). length l) (answers_more way.exchanges (x ∷ [])) ∙ length-append (answers_of way.exchanges) (answers_of (x ∷ [])) in
    record {
      exchanges = way.exchanges ++ x ∷ [];
      all = subst (λ (d : Option DraftContent). AreShown (talking start None) (way.exchanges ++ x ∷ []) (talking later.seat d)) (sym draft) (one_more (talking start None) now way.exchanges x later.seat way.all is keeps_next);
      left = subst (λ (l : List ℕ). Consumes first.input input l) (line_on way.exchanges x said more same) way.left;
      out = subst (λ (l : List ℕ). Appends first.output output' l) (sym (answers_more way.exchanges (x ∷ []))) (Appends-trans first.output output output' (answers_of way.exchanges) (answers_of (x ∷ [])) way.out answered.out);
      count = omega (arith, way.count, answered.count, count);
      noted = λ head all. keeps head (way.noted head all);
    }

pub begins : {A J : Type 0} {notes : NoteFacts A J} (laws : AreNoteLaws notes) (seat : SeatContent A) (first : WaysWith J) → IsUnderway notes seat first (talking seat None) 0 first []
begins {A} {J} {notes} laws seat first = record {
  exchanges = [];
  all = no_lines (talking seat None);
  left = Consumes-nil first.input;
  out = Appends-nil first.output;
  count = omega arith;
  noted = same_all notes seat first.journal first.journal refl;
}

pub reads_on : {A J : Type 0} {notes : NoteFacts A J} (laws : AreNoteLaws notes) (start : SeatContent A) (first : WaysWith J) (now : TalkingSeat A) (written : ℕ) (input input' output : Option (List ℕ)) (journal : J) (rest more : List ℕ)
    → IsUnderway notes start first now written (record { input = input; output = output; journal = journal }) rest → Consumes input input' more
    → IsUnderway notes start first now written (record { input = input'; output = output; journal = journal }) (rest ++ more)
reads_on {A} {J} {notes} laws start first now written input input' output journal rest more way read = record {
  exchanges = way.exchanges;
  all = way.all;
  left = subst (λ (l : List ℕ). Consumes first.input input' l) (append_assoc (lines_of way.exchanges) rest more) (Consumes-trans first.input input input' (lines_of way.exchanges ++ rest) more way.left read);
  out = way.out;
  count = way.count;
  noted = way.noted;
}

-- ---- the end

-- nothing more was done
ends_here : {A J : Type 0} {notes : NoteFacts A J} (laws : AreNoteLaws notes) (start : SeatContent A) (first : WaysWith J) (now : TalkingSeat A) (written : ℕ) (here : WaysWith J) (rest : List ℕ) (output : Option (List ℕ)) (result : Result (Unit {0}) TalkFault) → (way : IsUnderway notes start first now written here rest)
    → NotedEnds now now.seat rest (answers_of way.exchanges) [] here.input first.output output result
    → ((head : Option (List ℕ)) → notes.covers head now.seat here.journal → NotesEnd notes head now.seat now.seat here.journal result)
    → IsTalkNotedBy notes start now.seat first (record { input = here.input; output = output; journal = here.journal }) result
ends_here {A} {J} {notes} laws start first now written here rest output result way ends noted = record {
  exchanges = way.exchanges;
  seat = now;
  left_at = now.seat;
  rest = rest;
  more = [];
  answered = way.all;
  left = way.left;
  ends = ends;
  shown = keeps_same now.seat;
  noted = λ head all. noted head (way.noted head all);
}

pub quits : {A J : Type 0} {notes : NoteFacts A J} (laws : AreNoteLaws notes) (start : SeatContent A) (first : WaysWith J) (now later : TalkingSeat A) (written : ℕ) (input output output' : Option (List ℕ)) (old new : J) (said more : List ℕ)
    → IsUnderway notes start first now written (record { input = input; output = output; journal = old }) (line said ++ more) → NoByte 10 said → IsNotedTurn notes now later old new said written output output' (Ok None)
    → IsTalkNotedBy notes start later.seat first (record { input = input; output = output'; journal = new }) (Ok tt)
quits {A} {J} {notes} laws start first now later written input output output' old new said more way none ((heard, same, out), kept) =
    let told : Appends first.output output' (answers_of way.exchanges) =
    subst (λ (l : List ℕ). Appends first.output output' l) (append-nil (answers_of way.exchanges)) (Appends-trans first.output output output' (answers_of way.exchanges) [] way.out out) in
    let quit : IsQuit (line said ++ more) = record { said = said; more = more; is = refl; whole = none; heard = heard } in
    let ended : IsTalkNotedBy notes start now.seat first (record { input = input; output = output'; journal = old }) (Ok tt) =
    ends_here laws start first now written (record { input = input; output = output; journal = old }) (line said ++ more) output' (Ok tt) way (left_as now, inl (quit, told)) (λ head all. all) in
    subst (λ (j : J). IsTalkNotedBy notes start later.seat first (record { input = input; output = output'; journal = j }) (Ok tt)) (sym kept)
    (subst (λ (s : TalkingSeat A). IsTalkNotedBy notes start s.seat first (record { input = input; output = output'; journal = old }) (Ok tt)) (sym same) ended)

pub memory_ends : {A J : Type 0} {notes : NoteFacts A J} (laws : AreNoteLaws notes) (start : SeatContent A) (first : WaysWith J) (now : TalkingSeat A) (written : ℕ) (here : WaysWith J) (rest : List ℕ) → IsUnderway notes start first now written here rest → IsTalkNotedBy notes start now.seat first here (Err (Tool (Run Memory)))
memory_ends {A} {J} {notes} laws start first now written here rest way =
    ends_here laws start first now written here rest here.output (Err (Tool (Run Memory))) way (inl (not_looked now rest), way.out) (λ head all. laws.rests_on head now.seat now.seat here.journal here.journal all (prefix_self now.seat.front) refl)

pub unread : {A J : Type 0} {notes : NoteFacts A J} (laws : AreNoteLaws notes) (start : SeatContent A) (first : WaysWith J) (now : TalkingSeat A) (written : ℕ) (input input' output : Option (List ℕ)) (journal : J) (rest : List ℕ)
    → IsUnderway notes start first now written (record { input = input; output = output; journal = journal }) rest → NoByte 10 rest → Keeps input input'
    → IsTalkNotedBy notes start now.seat first (record { input = input'; output = output; journal = journal }) (Err (Tool (Read Failed)))
unread {A} {J} {notes} laws start first now written input input' output journal rest way none kept = record {
  exchanges = way.exchanges;
  seat = now;
  left_at = now.seat;
  rest = rest;
  more = [];
  answered = way.all;
  left = Consumes-kept first.input input input' (lines_of way.exchanges ++ rest) way.left kept;
  ends = (left_as now, none, way.out);
  shown = keeps_same now.seat;
  noted = λ head all. laws.rests_on head now.seat now.seat journal journal (way.noted head all) (prefix_self now.seat.front) refl;
}

pub ends_well : {A J : Type 0} {notes : NoteFacts A J} (laws : AreNoteLaws notes) (start : SeatContent A) (first : WaysWith J) (now : TalkingSeat A) (written : ℕ) (input output output' : Option (List ℕ)) (journal : J) (rest : List ℕ)
    → IsUnderway notes start first now written (record { input = input; output = output; journal = journal }) rest → NoByte 10 rest → IsAtEnd input → Appends output output' (last_answer rest)
    → IsTalkNotedBy notes start now.seat first (record { input = input; output = output'; journal = journal }) (Ok tt)
ends_well {A} {J} {notes} laws start first now written input output output' journal rest way none end out =
    ends_here laws start first now written (record { input = input; output = output; journal = journal }) rest output' (Ok tt) way
    (left_as now, inr (none, end, Appends-trans first.output output output' (answers_of way.exchanges) (last_answer rest) way.out out)) (λ head all. all)

-- a write after some answers that was cut off
cut_off : (told text : List ℕ) (counted sent : ℕ) (output output' output'' : Option (List ℕ)) (written : ℕ) → min counted most_counted ≡ min (length told) most_counted → Appends output output' told → IsCutOff output' output'' text sent
    → written ≡ min (counted + sent) most_counted → IsAnswerCutOff told text output output'' written
cut_off told text counted sent output output' output'' written count out cut is = record {
  sent = length told + sent;
  cut = record {
    missing = omega (arith, cut.missing, length-append told text);
    front = subst (Appends output output'') (sym (take-append-add told text sent)) (Appends-trans output output' output'' told (take sent text) out cut.front);
  };
  before = omega arith;
  count = omega (arith, is, count);
}

pub ends_cut : {A J : Type 0} {notes : NoteFacts A J} (laws : AreNoteLaws notes) (start : SeatContent A) (first : WaysWith J) (now : TalkingSeat A) (written sent : ℕ) (input output output' : Option (List ℕ)) (journal : J) (rest : List ℕ)
    → IsUnderway notes start first now written (record { input = input; output = output; journal = journal }) rest → NoByte 10 rest → IsAtEnd input → IsCutOff output output' (last_answer rest) sent
    → IsTalkNotedBy notes start now.seat first (record { input = input; output = output'; journal = journal }) (Err (counted_fault (answer.Write sent) written))
ends_cut {A} {J} {notes} laws start first now written sent input output output' journal rest way none end cut =
    ends_here laws start first now written (record { input = input; output = output; journal = journal }) rest output' (Err (Tool (Run (Write (min (written + sent) most_counted))))) way
    (last_answer rest, inr (left_as now, none, end, refl), cut_off (answers_of way.exchanges) (last_answer rest) written sent first.output output output' (min (written + sent) most_counted) way.count way.out cut refl)
    (λ head all. all)

-- a rest that isn't answered
broken_ends : {A : Type 0} (now : TalkingSeat A) (left_at : SeatContent A) (rest told : List ℕ) (edits : List (Edit A)) (written : ℕ) (input output output' output'' : Option (List ℕ)) (fault : RunFault) → Appends output output' told
    → min written most_counted ≡ min (length told) most_counted → Breaks now left_at rest edits written output' output'' fault → TalkEnds now left_at rest told edits input output output'' (Err (Run fault))
broken_ends {A} now left_at rest told edits written input output output' output'' fault out count breaks = go fault breaks
  where
    all_out : Appends output' output'' [] → Appends output output'' told
    all_out none = subst (Appends output output'') (append-nil told) (Appends-trans output output' output'' told [] out none)

    go : (f : RunFault) → Breaks now left_at rest edits written output' output'' f → TalkEnds now left_at rest told edits input output output'' (Err (Run f))
    go (Write size) b = (b.0, inl b.1, cut_off told b.0 written b.2.0 output output' output'' size count out b.2.1 (cc b.2.2))
    go NoEntry b = (b.0, b.1, all_out b.2)
    go Memory b = (b.0, all_out b.1)
    go Foreign b = b
    go (Size n) b = absurd b
    go (Text error) b = absurd b
    go (OffMovie frame len) b = absurd b
    go (OffRange from to len) b = absurd b
    go (NoNames row kind) b = absurd b
    go (Stopped at opcode) b = absurd b
    go (StoppedFrame frame at opcode) b = absurd b
    go (Script number) b = absurd b
    go (Place number) b = absurd b
    go (Long number) b = absurd b
    go NoPlace b = absurd b

-- what the seat had seen when it was last answered begins what it has seen in the end
seen_begins : {A : Type 0} (now : TalkingSeat A) (left_at last : SeatContent A) (edits : List (Edit A)) (result : Result (Unit {0}) ToolFault) → Rested now left_at edits result → KeepsZone left_at last → IsPrefix now.seat.front last.front
seen_begins now left_at last edits result (inl strange) shown = prefix_trans now.seat.front left_at.front last.front strange.seen.begins shown.seen.begins
seen_begins now left_at last edits result (inr left) shown = prefix_trans now.seat.front left_at.front last.front left.0.seen shown.seen.begins

breaks_end : {A J : Type 0} (notes : NoteFacts A J) (laws : AreNoteLaws notes) (head : Option (List ℕ)) (before now : SeatContent A) (old new : J) (fault : RunFault) → notes.covers head before old → IsPrefix before.front now.front
    → BreaksNotes notes before now old new (Tool (Run fault)) → NotesEnd notes head before now new (Err (Tool (Run fault)))
breaks_end notes laws head before now old new (Write written) all more noted = noted head all
breaks_end notes laws head before now old new (Size n) all more noted = laws.rests_on head before now old new all more noted
breaks_end notes laws head before now old new (Text error) all more noted = laws.rests_on head before now old new all more noted
breaks_end notes laws head before now old new (OffMovie frame len) all more noted = laws.rests_on head before now old new all more noted
breaks_end notes laws head before now old new (OffRange from to len) all more noted = laws.rests_on head before now old new all more noted
breaks_end notes laws head before now old new (NoNames row kind) all more noted = laws.rests_on head before now old new all more noted
breaks_end notes laws head before now old new (Stopped at opcode) all more noted = laws.rests_on head before now old new all more noted
breaks_end notes laws head before now old new (StoppedFrame frame at opcode) all more noted = laws.rests_on head before now old new all more noted
breaks_end notes laws head before now old new (Script number) all more noted = laws.rests_on head before now old new all more noted
breaks_end notes laws head before now old new (Place number) all more noted = laws.rests_on head before now old new all more noted
breaks_end notes laws head before now old new (Long number) all more noted = laws.rests_on head before now old new all more noted
breaks_end notes laws head before now old new NoPlace all more noted = laws.rests_on head before now old new all more noted
breaks_end notes laws head before now old new NoEntry all more noted = laws.rests_on head before now old new all more noted
breaks_end notes laws head before now old new Foreign all more noted = laws.rests_on head before now old new all more noted
breaks_end notes laws head before now old new Memory all more noted = laws.rests_on head before now old new all more noted

-- where a rest was carried out
carried_begins : {A : Type 0} (now : TalkingSeat A) (left_at last : SeatContent A) (rest text : List ℕ) (edits : List (Edit A)) → IsCarriedOut now left_at rest edits text → KeepsZone left_at last → IsPrefix now.seat.front last.front
carried_begins {A} now left_at last rest text edits is shown =
    let left = line_leaves A now is.exchange.next is.exchange.said is.exchange.heard is.exchange.answer is.exchange.edits is.is.answered in
    let begins : IsPrefix now.seat.front left_at.front = subst (λ (s : SeatContent A). IsPrefix now.seat.front s.front) (sym is.last_is) left.seen in
    prefix_trans now.seat.front left_at.front last.front begins shown.seen.begins

pub breaks_off : {A J : Type 0} {notes : NoteFacts A J} (laws : AreNoteLaws notes) (start : SeatContent A) (first : WaysWith J) (now : TalkingSeat A) (last : SeatContent A) (written : ℕ) (input output output' : Option (List ℕ)) (old new : J) (rest : List ℕ) (fault : TalkFault)
    → IsUnderway notes start first now written (record { input = input; output = output; journal = old }) rest → IsBroken notes now last old new rest written output output' fault
    → IsTalkNotedBy notes start last first (record { input = input; output = output'; journal = new }) (Err fault)
breaks_off {A} {J} {notes} laws start first now last written input output output' old new rest (Tool (Run fault)) way b =
    let ends : TalkEnds now b.left_at rest (answers_of way.exchanges) b.edits input first.output output' (Err (Run fault)) =
    broken_ends now b.left_at rest (answers_of way.exchanges) b.edits written input first.output output output' fault way.out way.count b.breaks in
    let more : IsPrefix now.seat.front last.front = seen_begins now b.left_at last b.edits (Err (Run fault)) (rested now b.left_at rest (answers_of way.exchanges) b.edits input first.output output' (Err (Run fault)) ends) b.shown in
    record {
      exchanges = way.exchanges;
      seat = now;
      left_at = b.left_at;
      rest = rest;
      more = b.edits;
      answered = way.all;
      left = way.left;
      ends = ends;
      shown = b.shown;
      noted = λ head all. breaks_end notes laws head now.seat last old new fault (way.noted head all) more b.noted;
    }
breaks_off {A} {J} {notes} laws start first now last written input output output' old new rest (Journal fault) way b =
    let (text, is, none) = b.breaks in
    record {
      exchanges = way.exchanges;
      seat = now;
      left_at = b.left_at;
      rest = rest;
      more = b.edits;
      answered = way.all;
      left = way.left;
      ends = (text, is, subst (Appends first.output output') (append-nil (answers_of way.exchanges)) (Appends-trans first.output output output' (answers_of way.exchanges) [] way.out none));
      shown = b.shown;
      noted = λ head all. laws.lacks_on head now.seat last old new fault (way.noted head all) (carried_begins now b.left_at last rest text b.edits is b.shown) b.noted;
    }
breaks_off {A} {J} {notes} laws start first now last written input output output' old new rest (Tool (Read fault)) way b = absurd b.breaks
breaks_off {A} {J} {notes} laws start first now last written input output output' old new rest (Tool (Seat number fault)) way b = absurd b.breaks

-- ---- parts of a line

pub no_newline : (xs ys : List ℕ) → NoByte 10 xs → NoByte 10 ys → NoByte 10 (xs ++ ys)
no_newline [] ys h k = k
no_newline (x ∷ xs) ys h k = (h.0, no_newline xs ys h.1 k)

-- a newline in what is left
pub split_line : (said rest front after : List ℕ) → rest ≡ front ++ 10 ∷ after → said ++ rest ≡ line (said ++ front) ++ after
split_line said rest front after is =
    ap (λ (l : List ℕ). said ++ l) is ∙ sym (append_assoc said front (10 ∷ after)) ∙ sym (append_assoc (said ++ front) (10 ∷ []) after)

pub at_line : {A J : Type 0} {notes : NoteFacts A J} (laws : AreNoteLaws notes) (start : SeatContent A) (first : WaysWith J) (now : TalkingSeat A) (written : ℕ) (here : WaysWith J) (said rest front after : List ℕ) → IsUnderway notes start first now written here (said ++ rest) → rest ≡ front ++ 10 ∷ after
    → IsUnderway notes start first now written here (line (said ++ front) ++ after)
at_line {A} {J} {notes} laws start first now written here said rest front after way is = subst (IsUnderway notes start first now written here) (split_line said rest front after is) way

-- no more bytes came
pub reads_out : {A J : Type 0} {notes : NoteFacts A J} (laws : AreNoteLaws notes) (start : SeatContent A) (first : WaysWith J) (now : TalkingSeat A) (written : ℕ) (input input' output : Option (List ℕ)) (journal : J) (rest more : List ℕ)
    → IsUnderway notes start first now written (record { input = input; output = output; journal = journal }) rest → Consumes input input' more → more ≡ []
    → IsUnderway notes start first now written (record { input = input'; output = output; journal = journal }) rest
reads_out {A} {J} {notes} laws start first now written input input' output journal rest more way read none =
    subst (IsUnderway notes start first now written (record { input = input'; output = output; journal = journal })) (ap (λ (l : List ℕ). rest ++ l) none ∙ append-nil rest)
    (reads_on laws start first now written input input' output journal rest more way read)

pub last_ends : {A J : Type 0} {notes : NoteFacts A J} (laws : AreNoteLaws notes) (start : SeatContent A) (first : WaysWith J) (now : TalkingSeat A) (written : ℕ) (input output output' : Option (List ℕ)) (journal : J) (rest : List ℕ) (result : Result (Unit {0}) TalkFault)
    → IsUnderway notes start first now written (record { input = input; output = output; journal = journal }) rest → NoByte 10 rest → IsAtEnd input → OnOk result (Appends output output' (last_answer rest))
    → IfErr result (λ fault. (sent : ℕ) × IsCutOff output output' (last_answer rest) sent × (fault ≡ counted_fault (answer.Write sent) written))
    → IsTalkNotedBy notes start now.seat first (record { input = input; output = output'; journal = journal }) result
last_ends {A} {J} {notes} laws start first now written input output output' journal rest (Ok done) way none end out cut = ends_well laws start first now written input output output' journal rest way none end out
last_ends {A} {J} {notes} laws start first now written input output output' journal rest (Err fault) way none end out (sent, cut, is) =
    subst (λ (f : TalkFault). IsTalkNotedBy notes start now.seat first (record { input = input; output = output'; journal = journal }) (Err f)) (sym is)
    (ends_cut laws start first now written sent input output output' journal rest way none end cut)
