-- Conversations, line by line.
use Rattle.std.proofs.Common.{◌≡◌, ℕ, ◌+◌, ◌-◌, ◌<◌, ◌≤◌, List, [], ◌∷◌, ◌++◌, length, take, Bool, Option, Some, None, Result, Ok, Err, ◌⊎◌, inl, inr, refl, sym, ap, subst, ◌∙◌, arith, append_assoc, length-append, append-nil}
use Rattle.std.specs.Prelude.{min}
use Rattle.std.specs.Io.KnownBytes.{Appends, Consumes, Keeps, IsAtEnd}
use Rattle.std.proofs.KnownBytes.{Appends-nil, Appends-trans, Consumes-nil, Consumes-trans, Consumes-kept}
use Rattle.std.proofs.lemmas.Grind.{flat_map-append}
use lib.Seq.{take-append-add}
use Rattle.byte_text.specs.CutOff.{IsCutOff}
use Rattle.byte_text.specs.Splitting.{NoByte}
use Rattle.tas_movie.specs.Text.{line}
use Rattle.tas_movie.specs.declared.edit.Edit.{Edit}
use Rattle.tas_desk.specs.Seats.{SeatContent}
use Rattle.tas_engines.specs.declared.fault.RunFault.{RunFault}
use Rattle.tas_engines.specs.declared.fault.RunFault.TheVariants.{Write, Size, Text, NoFrame as OffMovie, Range as OffRange, Halted as Stopped, HaltedFrame as StoppedFrame, Script, Place, Long, Names as NoNames, NoPlace, NoEntry, Foreign, Memory}
use Rattle.tas_engines.specs.declared.fault.ToolFault.{ToolFault}
use Rattle.tas_engines.specs.declared.fault.ToolFault.TheVariants.{Read, Run}
use Rattle.tas_engines.specs.declared.fault.ReadFault.TheVariants.{Failed}
use Rattle.tas_language.specs.declared.request.Request.{Request}
use Rattle.tas_language.specs.Requests.{IsHeard}
use Rattle.tas_language.specs.Held.{HoldsLine}
use Rattle.tas_language.specs.declared.unheard.Unheard.TheVariants.{End}
use Rattle.tas_language.specs.Unheard.{why_unheard, unknown_text}
use Rattle.tas_seat.specs.Conversations.{TalkingSeat, talking, IsTalkAnswered}
use Rattle.tas_seat.specs.Seats.{IsPictureAt}
use Rattle.tas_seat.specs.Outcomes.{KeepsSeat, KeepsTalk, HasNoTalkAnswer, IsLook}
use Rattle.tas_seat.specs.Talk.{Exchange, IsExchange, AreExchanges, IsLeft, HasDrawn, HasLooked, IsCarriedOut, IsAnswerCutOff, TalkEnds, IsTalk, lines_of, answers_of, last_answer, most_counted}
use Rattle.tas_seat.specs.Inside.Talking.{CutsOff, HasAnswered, Breaks, StopsAfter, IsLineTurn, IsPartTurn}
use Rattle.tas_seat.proofs.StripLemmas.{same_or_strip}

-- ---- lists of exchanges

pub exchanges_more : {A : Type 0} (a b c : TalkingSeat A) (xs ys : List (Exchange A)) → AreExchanges a xs b → AreExchanges b ys c → AreExchanges a (xs ++ ys) c
unfolding AreExchanges
exchanges_more {A} a b c [] ys p q = subst (λ (s : TalkingSeat A). AreExchanges s ys c) p q
exchanges_more {A} a b c (x ∷ xs) ys p q = (p.0, exchanges_more x.next b c xs ys p.1 q)

pub no_exchanges : {A : Type 0} (seat : TalkingSeat A) → AreExchanges seat [] seat
unfolding AreExchanges
no_exchanges seat = refl

one_exchange : {A : Type 0} (seat next : TalkingSeat A) (x : Exchange A) → IsExchange seat x → next ≡ x.next → AreExchanges seat (x ∷ []) next
unfolding AreExchanges
one_exchange seat next x is same = (is, same)

lines_more : {A : Type 0} (xs ys : List (Exchange A)) → lines_of (xs ++ ys) ≡ lines_of xs ++ lines_of ys
lines_more {A} xs ys = flat_map-append (λ (x : Exchange A). line x.said) xs ys

answers_more : {A : Type 0} (xs ys : List (Exchange A)) → answers_of (xs ++ ys) ≡ answers_of xs ++ answers_of ys
answers_more {A} xs ys = flat_map-append (λ (x : Exchange A). x.answer) xs ys

count_answers : {A : Type 0} (xs ys : List (Exchange A)) → length (answers_of (xs ++ ys)) ≡ length (answers_of xs) + length (answers_of ys)
count_answers xs ys = ap (λ (l : List ℕ). length l) (answers_more xs ys) ∙ length-append (answers_of xs) (answers_of ys)

-- ---- no newline

pub no_newline : (xs ys : List ℕ) → NoByte 10 xs → NoByte 10 ys → NoByte 10 (xs ++ ys)
no_newline [] ys h k = k
no_newline (x ∷ xs) ys h k = (h.0, no_newline xs ys h.1 k)

-- ---- one line

-- a fault that counts from nothing
pub counted_from_nothing : (old new : Option (List ℕ)) (bytes : List ℕ) (n : ℕ) → IsCutOff old new bytes (n - 0) → IsCutOff old new bytes n
counted_from_nothing old new bytes n cut =
    let same : n - 0 ≡ n = omega arith in
    subst (λ (k : ℕ). IsCutOff old new bytes k) same cut

one_answered : {A : Type 0} (before now : TalkingSeat A) (x : Exchange A) (told written : ℕ) (old new : Option (List ℕ)) → IsExchange before x → now ≡ x.next → Appends old new x.answer → written ≡ min (told + length x.answer) most_counted
    → HasAnswered before now (x ∷ []) told written old new
one_answered {A} before now x told written old new is same out count =
    let alone : answers_of (x ∷ []) ≡ x.answer = append-nil x.answer in
    record {
      all = one_exchange before now x is same;
      out = subst (Appends old new) (sym alone) out;
      count = omega (arith, count, ap (λ (l : List ℕ). length l) alone);
    }

-- a line that isn't understood
unknown_exchange : {A : Type 0} (seat : TalkingSeat A) (said answer : List ℕ) → Exchange A
unknown_exchange seat said answer = record { said = said; heard = None; answer = answer; edits = []; next = seat }

is_unknown : {A : Type 0} (seat : TalkingSeat A) (said answer : List ℕ) → NoByte 10 said → IsHeard said None → answer ≡ unknown_text (why_unheard said) → IsExchange seat (unknown_exchange seat said answer)
unfolding unknown_exchange
is_unknown seat said answer none heard is = record { whole = none; heard = heard; answered = (is, refl, refl) }

pub unknown_line : {A : Type 0} (seat : TalkingSeat A) (said answer : List ℕ) (told written : ℕ) (old new : Option (List ℕ)) → NoByte 10 said → IsHeard said None → answer ≡ unknown_text (why_unheard said) → Appends old new answer
    → written ≡ min (told + length answer) most_counted → IsLineTurn seat seat said told old new (Ok (Some written))
unfolding unknown_exchange
unknown_line seat said answer told written old new none heard is out count =
    (unknown_exchange seat said answer, refl, one_answered seat seat (unknown_exchange seat said answer) told written old new (is_unknown seat said answer none heard is) refl out count)

-- a line that was answered
known_exchange : {A : Type 0} (now : TalkingSeat A) (said answer : List ℕ) (request : Request) (edits : List (Edit A)) → Exchange A
known_exchange now said answer request edits = record { said = said; heard = Some request; answer = answer; edits = edits; next = now }

is_known : {A : Type 0} (before now : TalkingSeat A) (said answer : List ℕ) (request : Request) (edits : List (Edit A)) → IsTalkAnswered A before.seat before.draft now request answer edits → NoByte 10 said → IsHeard said (Some request)
    → IsExchange before (known_exchange now said answer request edits)
unfolding known_exchange
is_known before now said answer request edits is none heard = record { whole = none; heard = heard; answered = is }

pub known_line : {A : Type 0} (before now : TalkingSeat A) (said answer sent : List ℕ) (request : Request) (told written : ℕ) (old new : Option (List ℕ)) → NoByte 10 said → IsHeard said (Some request)
    → (edits : List (Edit A)) × IsTalkAnswered A before.seat before.draft now request answer edits → sent ≡ answer → Appends old new sent → written ≡ min (told + length sent) most_counted → IsLineTurn before now said told old new (Ok (Some written))
unfolding known_exchange
known_line before now said answer sent request told written old new none heard is whole out count = (
  known_exchange now said answer request is.0,
  refl,
  one_answered before now (known_exchange now said answer request is.0) told written old new (is_known before now said answer request is.0 is.1 none heard) refl (subst (λ (l : List ℕ). Appends old new l) whole out)
      (count ∙ ap (λ (l : List ℕ). min (told + length l) most_counted) whole),
)

-- a line that was carried out
carried_out : {A : Type 0} (seat now : TalkingSeat A) (x : Exchange A) (more : List ℕ) → IsExchange seat x → now ≡ x.next → IsCarriedOut seat now.seat (line x.said ++ more) x.edits x.answer
carried_out {A} seat now x more is same = record { exchange = x; more = more; is = is; text = refl; answer_is = refl; edits_are = refl; last_is = ap (λ (s : TalkingSeat A). s.seat) same }

-- a write of its answer failed
cut_line : {A : Type 0} (seat now : TalkingSeat A) (x : Exchange A) (told : ℕ) (old new : Option (List ℕ)) (fault : RunFault) → IsExchange seat x → now ≡ x.next → CutsOff told x.answer old new fault
    → (more : List ℕ) → (edits : List (Edit A)) × Breaks seat now.seat (line x.said ++ more) edits told old new fault
cut_line {A} seat now x told old new fault is same cut more =
    let answer : Breaks seat now.seat (line x.said ++ more) x.edits told old new (Write (min (told + cut.0) most_counted)) =
    (x.answer, carried_out seat now x more is same, (cut.0, cut.1, refl)) in
    (x.edits, subst (Breaks seat now.seat (line x.said ++ more) x.edits told old new) (sym cut.2) answer)

pub unknown_cut : {A : Type 0} (seat : TalkingSeat A) (said answer : List ℕ) (told : ℕ) (old new : Option (List ℕ)) (fault : RunFault) → NoByte 10 said → IsHeard said None → answer ≡ unknown_text (why_unheard said) → CutsOff told answer old new fault
    → IsLineTurn seat seat said told old new (Err fault)
unfolding unknown_exchange
unknown_cut seat said answer told old new fault none heard is cut =
    cut_line seat seat (unknown_exchange seat said answer) told old new fault (is_unknown seat said answer none heard is) refl cut

pub known_cut : {A : Type 0} (before now : TalkingSeat A) (said answer sent : List ℕ) (request : Request) (told : ℕ) (old new : Option (List ℕ)) (fault : RunFault) → NoByte 10 said → IsHeard said (Some request)
    → (edits : List (Edit A)) × IsTalkAnswered A before.seat before.draft now request answer edits → sent ≡ answer → CutsOff told sent old new fault → IsLineTurn before now said told old new (Err fault)
unfolding known_exchange
known_cut before now said answer sent request told old new fault none heard is whole cut =
    cut_line before now (known_exchange now said answer request is.0) told old new fault (is_known before now said answer request is.0 is.1 none heard) refl
    (subst (λ (l : List ℕ). CutsOff told l old new fault) whole cut)

-- nothing more was done
pub left_as : {A : Type 0} (seat : TalkingSeat A) → IsLeft seat seat.seat []
left_as seat = record { same = refl; none = refl }

-- nothing more was made
pub not_looked : {A : Type 0} (seat : TalkingSeat A) (rest : List ℕ) → HasLooked seat seat.seat rest []
not_looked seat rest = record { kept = inl refl; none = refl }

-- a request that isn't answered leaves the seat, but for the first pictures of a strip
kept_at_desk : {A : Type 0} (seat : TalkingSeat A) (last : SeatContent A) (said more : List ℕ) (request : Request) → NoByte 10 said → IsHeard said (Some request) → seat.draft ≡ None → KeepsSeat request seat.seat last
    → (last ≡ seat.seat) ⊎ HasDrawn seat last (line said ++ more)
kept_at_desk {A} seat last said more request none heard closed kept = elim (same_or_strip (IsPictureAt {A = A}) seat.seat last request kept) [
  | inl same ↦ inl same.0
  | inr strip ↦ inr (record {
    said = said;
    more = more;
    from = strip.0;
    to = strip.1;
    is = refl;
    whole = none;
    heard = subst (λ (q : Request). IsHeard said (Some q)) strip.2 heard;
    no_draft = closed;
    kept = strip.3;
  })
]

kept_talk : {A : Type 0} (before now : TalkingSeat A) (said more : List ℕ) (request : Request) → NoByte 10 said → IsHeard said (Some request) → KeepsTalk request before now → HasLooked before now.seat (line said ++ more) []
kept_talk before now said more request none heard (inl outside) = record { kept = kept_at_desk before now.seat said more request none heard outside.draft_was outside.seat; none = refl }
kept_talk before now said more request none heard (inr inside) = record { kept = inl inside.seat; none = refl }

-- a line whose answer memory was refused for
unanswered_line : {A : Type 0} (before now : TalkingSeat A) (said : List ℕ) (request : Request) (told : ℕ) (old : Option (List ℕ)) (more : List ℕ) → NoByte 10 said → IsHeard said (Some request) → HasNoTalkAnswer before now request Memory
    → (edits : List (Edit A)) × Breaks before now.seat (line said ++ more) edits told old old Memory
unfolding known_exchange
unanswered_line before now said request told old more none heard (inl kept) = ([], (inl (kept_talk before now said more request none heard kept), Appends-nil old))
unanswered_line before now said request told old more none heard (inr (answer, (edits, is))) =
    let x = known_exchange now said answer request edits in
    (edits, (inr (answer, carried_out before now x more (is_known before now said answer request edits is none heard) refl), Appends-nil old))

-- a request wasn't answered
pub line_fault : {A : Type 0} (before now : TalkingSeat A) (said : List ℕ) (request : Request) (told : ℕ) (old : Option (List ℕ)) (fault : RunFault) → NoByte 10 said → IsHeard said (Some request) → HasNoTalkAnswer before now request fault
    → (fault ≡ NoEntry → IsLook request × (before.draft ≡ None)) → IsLineTurn before now said told old old (Err fault)
line_fault before now said request told old NoEntry none heard is entry = λ more. ([], (kept_talk before now said more request none heard is, record { said = said; more = more; request = request; is = refl; whole = none; heard = heard; look = (entry refl).0; no_draft = (entry refl).1 }, Appends-nil old))
line_fault before now said request told old Memory none heard is entry = λ more. unanswered_line before now said request told old more none heard is
line_fault before now said request told old Foreign none heard is entry = λ more. ([], is.0)
line_fault before now said request told old (Write written) none heard is entry = absurd is
line_fault before now said request told old (Size n) none heard is entry = absurd is
line_fault before now said request told old (Text error) none heard is entry = absurd is
line_fault before now said request told old (OffMovie frame len) none heard is entry = absurd is
line_fault before now said request told old (OffRange from to len) none heard is entry = absurd is
line_fault before now said request told old (NoNames row kind) none heard is entry = absurd is
line_fault before now said request told old (Stopped at opcode) none heard is entry = absurd is
line_fault before now said request told old (StoppedFrame frame at opcode) none heard is entry = absurd is
line_fault before now said request told old (Script number) none heard is entry = absurd is
line_fault before now said request told old (Place number) none heard is entry = absurd is
line_fault before now said request told old (Long number) none heard is entry = absurd is
line_fault before now said request told old NoPlace none heard is entry = absurd is

-- ---- lines of a part of the input

pub nothing_answered : {A : Type 0} (seat : TalkingSeat A) (written : ℕ) (old : Option (List ℕ)) → HasAnswered seat seat [] written written old old
nothing_answered {A} seat written old = record { all = no_exchanges seat; out = Appends-nil old; count = omega arith }

pub answered_more : {A : Type 0} (a b c : TalkingSeat A) (xs ys : List (Exchange A)) (told mid next : ℕ) (old middle new : Option (List ℕ)) → HasAnswered a b xs told mid old middle → HasAnswered b c ys mid next middle new
    → HasAnswered a c (xs ++ ys) told next old new
answered_more {A} a b c xs ys told mid next old middle new p q = record {
  all = exchanges_more a b c xs ys p.all q.all;
  out = subst (Appends old new) (sym (answers_more xs ys)) (Appends-trans old middle new (answers_of xs) (answers_of ys) p.out q.out);
  count = omega (arith, p.count, q.count, count_answers xs ys);
}

-- the text that was read, one line later
pub text_more : {A : Type 0} (read part first after : List ℕ) (xs : List (Exchange A)) (x : Exchange A) → read ≡ lines_of xs ++ (part ++ (first ++ 10 ∷ after)) → x.said ≡ part ++ first → read ≡ lines_of (xs ++ x ∷ []) ++ after
text_more read part first after xs x is said =
    let whole : part ++ (first ++ 10 ∷ after) ≡ line x.said ++ after =
    sym (append_assoc part first (10 ∷ after)) ∙ ap (λ (l : List ℕ). l ++ 10 ∷ after) (sym said) ∙ sym (append_assoc x.said (10 ∷ []) after) in
    is
    ∙ ap (λ (l : List ℕ). lines_of xs ++ l) (whole ∙ ap (λ (l : List ℕ). l ++ after) (sym (append-nil (line x.said))))
    ∙ sym (append_assoc (lines_of xs) (lines_of (x ∷ [])) after)
    ∙ ap (λ (l : List ℕ). l ++ after) (sym (lines_more xs (x ∷ [])))

-- the text in front of a line
pub text_here : {A : Type 0} (read part first after : List ℕ) (xs : List (Exchange A)) → read ≡ lines_of xs ++ (part ++ (first ++ 10 ∷ after)) → read ≡ lines_of xs ++ (line (part ++ first) ++ after)
text_here read part first after xs is =
    is ∙ ap (λ (l : List ℕ). lines_of xs ++ l) (sym (append_assoc part first (10 ∷ after)) ∙ sym (append_assoc (part ++ first) (10 ∷ []) after))

joined_text : {A : Type 0} (xs ys : List (Exchange A)) (rest left : List ℕ) → rest ≡ lines_of ys ++ left → lines_of xs ++ rest ≡ lines_of (xs ++ ys) ++ left
joined_text xs ys rest left is =
    ap (λ (l : List ℕ). lines_of xs ++ l) is ∙ sym (append_assoc (lines_of xs) (lines_of ys) left) ∙ ap (λ (l : List ℕ). l ++ left) (sym (lines_more xs ys))

pub stops_here : {A : Type 0} (a b : TalkingSeat A) (now : SeatContent A) (xs : List (Exchange A)) (edits : List (Edit A)) (told mid : ℕ) (read rest : List ℕ) (old middle new : Option (List ℕ)) (fault : RunFault) → HasAnswered a b xs told mid old middle
    → read ≡ lines_of xs ++ rest → Breaks b now rest edits mid middle new fault → StopsAfter a now read told old new fault
stops_here a b now xs edits told mid read rest old middle new fault p is breaks = record {
  exchanges = xs;
  seat = b;
  rest = rest;
  edits = edits;
  middle = middle;
  counted = mid;
  all = p.all;
  text = is;
  out = p.out;
  count = p.count;
  breaks = breaks;
}

pub stops_later : {A : Type 0} (a b : TalkingSeat A) (now : SeatContent A) (xs : List (Exchange A)) (told mid : ℕ) (read rest : List ℕ) (old middle new : Option (List ℕ)) (fault : RunFault) → HasAnswered a b xs told mid old middle
    → read ≡ lines_of xs ++ rest → StopsAfter b now rest mid middle new fault → StopsAfter a now read told old new fault
stops_later {A} a b now xs told mid read rest old middle new fault p is s = record {
  exchanges = xs ++ s.exchanges;
  seat = s.seat;
  rest = s.rest;
  edits = s.edits;
  middle = s.middle;
  counted = s.counted;
  all = exchanges_more a b s.seat xs s.exchanges p.all s.all;
  text = is ∙ joined_text xs s.exchanges rest s.rest s.text;
  out = subst (Appends old s.middle) (sym (answers_more xs s.exchanges)) (Appends-trans old middle s.middle (answers_of xs) (answers_of s.exchanges) p.out s.out);
  count = omega (arith, p.count, s.count, count_answers xs s.exchanges);
  breaks = s.breaks;
}

-- memory was refused for a part of a line
pub part_memory : {A : Type 0} (before now : TalkingSeat A) (xs : List (Exchange A)) (told mid : ℕ) (read rest : List ℕ) (held : List ℕ) (long : Bool) (old new : Option (List ℕ)) → HasAnswered before now xs told mid old new
    → read ≡ lines_of xs ++ rest → IsPartTurn before now read told held long old new (Err Memory)
part_memory before now xs told mid read rest held long old new p is = stops_here before now now.seat xs [] told mid read rest old new new Memory p is (inl (not_looked now rest), Appends-nil new)

-- a line asks for the end
pub line_quits : {A : Type 0} (before now later : TalkingSeat A) (xs : List (Exchange A)) (told mid : ℕ) (read part first after : List ℕ) (held : List ℕ) (long : Bool) (old middle new : Option (List ℕ))
    → HasAnswered before now xs told mid old middle → read ≡ lines_of xs ++ (part ++ (first ++ 10 ∷ after)) → NoByte 10 (part ++ first) → IsLineTurn now later (part ++ first) mid middle new (Ok None)
    → IsPartTurn before later read told held long old new (Ok None)
line_quits {A} before now later xs told mid read part first after held long old middle new p is none turn = (
  xs,
  line (part ++ first) ++ after,
  subst (λ (s : TalkingSeat A). AreExchanges before xs s) (sym turn.1) p.all,
  text_here read part first after xs is,
  record { said = part ++ first; more = after; is = refl; whole = none; heard = turn.0 },
  subst (Appends old new) (append-nil (answers_of xs)) (Appends-trans old middle new (answers_of xs) [] p.out turn.2),
)

-- a line isn't answered
pub line_breaks : {A : Type 0} (before now later : TalkingSeat A) (xs : List (Exchange A)) (told mid : ℕ) (read part first after : List ℕ) (held : List ℕ) (long : Bool) (old middle new : Option (List ℕ)) (fault : RunFault)
    → HasAnswered before now xs told mid old middle → read ≡ lines_of xs ++ (part ++ (first ++ 10 ∷ after)) → IsLineTurn now later (part ++ first) mid middle new (Err fault)
    → IsPartTurn before later read told held long old new (Err fault)
line_breaks before now later xs told mid read part first after held long old middle new fault p is turn =
    stops_here before now later.seat xs (turn after).0 told mid read (line (part ++ first) ++ after) old middle new fault p (text_here read part first after xs is) (turn after).1

-- ---- what comes after the last newline

pub last_none : (said : List ℕ) (old : Option (List ℕ)) → said ≡ [] → Appends old old (last_answer said)
last_none said old is = subst (λ (l : List ℕ). Appends old old (last_answer l)) (sym is) (Appends-nil old)

pub last_said : (said : List ℕ) (old new : Option (List ℕ)) → 0 < length said → Appends old new (unknown_text End) → Appends old new (last_answer said)
last_said [] old new some out = absurd (omega (arith, some))
last_said (b ∷ said) old new some out = out

pub last_cut : (said : List ℕ) (told : ℕ) (old new : Option (List ℕ)) (fault : RunFault) → 0 < length said → CutsOff told (unknown_text End) old new fault → CutsOff told (last_answer said) old new fault
last_cut [] told old new fault some cut = absurd (omega (arith, some))
last_cut (b ∷ said) told old new fault some cut = cut

-- ---- the whole conversation

-- a conversation on its way, from the first seat on: what left the reader is the answered lines and a part of a line, which is held
pub record IsUnderway {A : Type 0} (first now : TalkingSeat A) (written : ℕ) (held : List ℕ) (long : Bool) (input input' output output' : Option (List ℕ)) (exchanges : List (Exchange A)) (part : List ℕ) : Type 0 where
  pub left : Consumes input input' (lines_of exchanges ++ part)
  pub none : NoByte 10 part
  pub holds : HoldsLine part held long
  pub answered : HasAnswered first now exchanges 0 written output output'

pub begins : {A : Type 0} (seat : TalkingSeat A) (held : List ℕ) (long : Bool) (input output : Option (List ℕ)) → HoldsLine [] held long → IsUnderway seat seat 0 held long input input output output [] []
begins {A} seat held long input output holds = record { left = Consumes-nil input; none = tt; holds = holds; answered = nothing_answered seat 0 output }

read_on : {A : Type 0} (input input' input'' : Option (List ℕ)) (xs : List (Exchange A)) (part more : List ℕ) → Consumes input input' (lines_of xs ++ part) → Consumes input' input'' more → Consumes input input'' (lines_of xs ++ (part ++ more))
read_on input input' input'' xs part more p q = subst (Consumes input input'') (append_assoc (lines_of xs) part more) (Consumes-trans input input' input'' (lines_of xs ++ part) more p q)

-- what is left once a part is answered, too
left_more : {A : Type 0} (input input' input'' : Option (List ℕ)) (xs ys : List (Exchange A)) (part more rest : List ℕ) → Consumes input input' (lines_of xs ++ part) → Consumes input' input'' more → part ++ more ≡ lines_of ys ++ rest
    → Consumes input input'' (lines_of (xs ++ ys) ++ rest)
left_more input input' input'' xs ys part more rest p q is = subst (Consumes input input'') (joined_text xs ys (part ++ more) rest is) (read_on input input' input'' xs part more p q)

pub goes_on : {A : Type 0} (first now later : TalkingSeat A) (written next : ℕ) (held held' : List ℕ) (long long' : Bool) (input input' input'' output output' output'' : Option (List ℕ)) (xs : List (Exchange A)) (part more : List ℕ)
    → IsUnderway first now written held long input input' output output' xs part → Consumes input' input'' more → IsPartTurn now later (part ++ more) written held' long' output' output'' (Ok (Some next))
    → (ys : List (Exchange A)) × (rest : List ℕ) × IsUnderway first later next held' long' input input'' output output'' ys rest
goes_on first now later written next held held' long long' input input' input'' output output' output'' xs part more way read turn =
    let (ys, rest, is, none, holds, answered) = turn in (
      xs ++ ys,
      rest,
      record {
        left = left_more input input' input'' xs ys part more rest way.left read is;
        none = none;
        holds = holds;
        answered = answered_more first now later xs ys 0 written next output output' output'' way.answered answered;
      },
    )

answers_out : {A : Type 0} (first now : TalkingSeat A) (written : ℕ) (xs ys : List (Exchange A)) (output output' output'' : Option (List ℕ)) → HasAnswered first now xs 0 written output output' → Appends output' output'' (answers_of ys)
    → Appends output output'' (answers_of (xs ++ ys))
answers_out first now written xs ys output output' output'' p out =
    subst (Appends output output'') (sym (answers_more xs ys)) (Appends-trans output output' output'' (answers_of xs) (answers_of ys) p.out out)

pub quits : {A : Type 0} (first : SeatContent A) (now later : TalkingSeat A) (written : ℕ) (held held' : List ℕ) (long long' : Bool) (input input' input'' output output' output'' : Option (List ℕ)) (xs : List (Exchange A)) (part more : List ℕ)
    → IsUnderway (talking first None) now written held long input input' output output' xs part → Consumes input' input'' more → IsPartTurn now later (part ++ more) written held' long' output' output'' (Ok None)
    → IsTalk first later.seat input input'' output output'' (Ok tt)
quits {A} first now later written held held' long long' input input' input'' output output' output'' xs part more way read turn =
    let (ys, rest, all, is, quit, out) = turn in
    record {
      exchanges = xs ++ ys;
      seat = later;
      rest = rest;
      more = [];
      answered = exchanges_more (talking first None) now later xs ys way.answered.all all;
      left = left_more input input' input'' xs ys part more rest way.left read is;
      ends = (left_as later, inl (quit, answers_out (talking first None) now written xs ys output output' output'' way.answered out));
    }

pub unread : {A : Type 0} (first : SeatContent A) (now : TalkingSeat A) (written : ℕ) (held : List ℕ) (long : Bool) (input input' input'' output output' : Option (List ℕ)) (xs : List (Exchange A)) (part : List ℕ)
    → IsUnderway (talking first None) now written held long input input' output output' xs part → Keeps input' input'' → IsTalk first now.seat input input'' output output' (Err (Read Failed))
unread {A} first now written held long input input' input'' output output' xs part way kept = record {
  exchanges = xs;
  seat = now;
  rest = part;
  more = [];
  answered = way.answered.all;
  left = Consumes-kept input input' input'' (lines_of xs ++ part) way.left kept;
  ends = (left_as now, way.none, way.answered.out);
}

-- the input's end: no more bytes came
read_out : {A : Type 0} (input input' input'' : Option (List ℕ)) (xs : List (Exchange A)) (part more : List ℕ) → Consumes input input' (lines_of xs ++ part) → Consumes input' input'' more → more ≡ [] → Consumes input input'' (lines_of xs ++ part)
read_out input input' input'' xs part more p q none =
    subst (Consumes input input'') (ap (λ (l : List ℕ). lines_of xs ++ (part ++ l)) none ∙ ap (λ (l : List ℕ). lines_of xs ++ l) (append-nil part)) (read_on input input' input'' xs part more p q)

-- a conversation that ends with its input
at_end : {A : Type 0} (first : SeatContent A) (now : TalkingSeat A) (input input' input'' output output'' : Option (List ℕ)) (xs : List (Exchange A)) (part more : List ℕ) (r : Result (Unit {0}) ToolFault) → AreExchanges (talking first None) xs now
    → Consumes input input' (lines_of xs ++ part) → Consumes input' input'' more → more ≡ [] → TalkEnds now now.seat part (answers_of xs) [] input'' output output'' r → IsTalk first now.seat input input'' output output'' r
at_end first now input input' input'' output output'' xs part more r all left read none ends =
    record { exchanges = xs; seat = now; rest = part; more = []; answered = all; left = read_out input input' input'' xs part more left read none; ends = ends }

pub ends_well : {A : Type 0} (first : SeatContent A) (now : TalkingSeat A) (written : ℕ) (held : List ℕ) (long : Bool) (input input' input'' output output' output'' : Option (List ℕ)) (xs : List (Exchange A)) (part more : List ℕ)
    → IsUnderway (talking first None) now written held long input input' output output' xs part → Consumes input' input'' more → more ≡ [] → IsAtEnd input'' → Appends output' output'' (last_answer part)
    → IsTalk first now.seat input input'' output output'' (Ok tt)
ends_well first now written held long input input' input'' output output' output'' xs part more way read none end out =
    at_end first now input input' input'' output output'' xs part more (Ok tt) way.answered.all way.left read none
    (left_as now, inr (way.none, end, Appends-trans output output' output'' (answers_of xs) (last_answer part) way.answered.out out))

-- a write after some answers that was cut off
cut_off : (told answer : List ℕ) (counted : ℕ) (output output' output'' : Option (List ℕ)) (written : ℕ) → min counted most_counted ≡ min (0 + length told) most_counted → Appends output output' told
    → CutsOff counted answer output' output'' (Write written) → IsAnswerCutOff told answer output output'' written
cut_off told answer counted output output' output'' written count out cut =
    let same : written ≡ min (counted + cut.0) most_counted = cc cut.2 in
    record {
      sent = length told + cut.0;
      cut = record {
        missing = omega (arith, cut.1.missing, length-append told answer);
        front = subst (Appends output output'') (sym (take-append-add told answer cut.0)) (Appends-trans output output' output'' told (take cut.0 answer) out cut.1.front);
      };
      before = omega arith;
      count = omega (arith, same, count);
    }

pub ends_cut : {A : Type 0} (first : SeatContent A) (now : TalkingSeat A) (written : ℕ) (held : List ℕ) (long : Bool) (input input' input'' output output' output'' : Option (List ℕ)) (xs : List (Exchange A)) (part more : List ℕ) (fault : RunFault)
    → IsUnderway (talking first None) now written held long input input' output output' xs part → Consumes input' input'' more → more ≡ [] → IsAtEnd input'' → CutsOff written (last_answer part) output' output'' fault
    → IsTalk first now.seat input input'' output output'' (Err (Run fault))
ends_cut {A} first now written held long input input' input'' output output' output'' xs part more fault way read none end cut =
    let same : fault ≡ Write (min (written + cut.0) most_counted) = cut.2 in
    let cut' : CutsOff written (last_answer part) output' output'' (Write (min (written + cut.0) most_counted)) = (cut.0, cut.1, refl) in
    let told : IsTalk first now.seat input input'' output output'' (Err (Run (Write (min (written + cut.0) most_counted)))) =
    at_end first now input input' input'' output output'' xs part more (Err (Run (Write (min (written + cut.0) most_counted)))) way.answered.all way.left read none (
      last_answer part,
      inr (left_as now, way.none, end, refl),
      cut_off (answers_of xs) (last_answer part) written output output' output'' (min (written + cut.0) most_counted) way.answered.count way.answered.out cut',
    ) in
    subst (λ (f : RunFault). IsTalk first now.seat input input'' output output'' (Err (Run f))) (sym same) told

-- a part of the input that isn't answered to its end
stopped : {A : Type 0} (start now : SeatContent A) (read : List ℕ) (input input' output output' : Option (List ℕ)) (fault : RunFault) → Consumes input input' read → StopsAfter (talking start None) now read 0 output output' fault
    → IsTalk start now input input' output output' (Err (Run fault))
stopped {A} start now read input input' output output' fault left s = go fault s.breaks
  where
    out_all : Appends s.middle output' [] → Appends output output' (answers_of s.exchanges)
    out_all none = subst (Appends output output') (append-nil (answers_of s.exchanges)) (Appends-trans output s.middle output' (answers_of s.exchanges) [] s.out none)

    left_all : Consumes input input' (lines_of s.exchanges ++ s.rest)
    left_all = subst (Consumes input input') s.text left

    go : (f : RunFault) → Breaks s.seat now s.rest s.edits s.counted s.middle output' f → IsTalk start now input input' output output' (Err (Run f))
    go (Write written) b = record {
      exchanges = s.exchanges;
      seat = s.seat;
      rest = s.rest;
      more = s.edits;
      answered = s.all;
      left = left_all;
      ends = (b.0, inl b.1, cut_off (answers_of s.exchanges) b.0 s.counted output s.middle output' written s.count s.out b.2);
    }
    go NoEntry b = record { exchanges = s.exchanges; seat = s.seat; rest = s.rest; more = s.edits; answered = s.all; left = left_all; ends = (b.0, b.1, out_all b.2) }
    go Memory b = record { exchanges = s.exchanges; seat = s.seat; rest = s.rest; more = s.edits; answered = s.all; left = left_all; ends = (b.0, out_all b.1) }
    go Foreign b = record { exchanges = s.exchanges; seat = s.seat; rest = s.rest; more = s.edits; answered = s.all; left = left_all; ends = b }
    go (Size n) b = absurd b
    go (Text error) b = absurd b
    go (OffMovie frame len) b = absurd b
    go (OffRange from to len) b = absurd b
    go (NoNames row kind) b = absurd b
    go (Stopped at opcode) b = absurd b
    go (StoppedFrame frame at opcode) b = absurd b
    go (Script number) b = absurd b
    go (Place number) b = absurd b
    go (Long number) b = absurd b
    go NoPlace b = absurd b

pub breaks_off : {A : Type 0} (first : SeatContent A) (now later : TalkingSeat A) (written : ℕ) (held held' : List ℕ) (long long' : Bool) (input input' input'' output output' output'' : Option (List ℕ)) (xs : List (Exchange A)) (part more : List ℕ) (fault : RunFault)
    → IsUnderway (talking first None) now written held long input input' output output' xs part → Consumes input' input'' more → IsPartTurn now later (part ++ more) written held' long' output' output'' (Err fault)
    → IsTalk first later.seat input input'' output output'' (Err (Run fault))
breaks_off {A} first now later written held held' long long' input input' input'' output output' output'' xs part more fault way read turn =
    stopped first later.seat (lines_of xs ++ (part ++ more)) input input'' output output'' fault (read_on input input' input'' xs part more way.left read)
    (stops_later (talking first None) now later.seat xs 0 written (lines_of xs ++ (part ++ more)) (part ++ more) output output' output'' fault way.answered refl turn)

-- ---- before the first line

pub no_memory_yet : {A : Type 0} (seat : SeatContent A) (input output : Option (List ℕ)) → IsTalk seat seat input input output output (Err (Run Memory))
no_memory_yet {A} seat input output =
    record { exchanges = []; seat = talking seat None; rest = []; more = []; answered = no_exchanges (talking seat None); left = Consumes-nil input; ends = (inl (not_looked (talking seat None) []), Appends-nil output) }

pub split_length : (rest a b : List ℕ) → rest ≡ a ++ 10 ∷ b → length b + 1 ≤ length rest
split_length rest a b is = rw is (omega (arith, length-append a (10 ∷ b)))
