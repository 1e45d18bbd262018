-- Conversations over a cartridge or a movie.
use Rattle.std.proofs.Common.{◌≡◌, ◌≤◌, ℕ, List, [], ◌∷◌, ◌++◌, length, take, true, Option, Some, None, Result, Ok, Err, inl, inr, refl, sym, ap, subst, ◌∙◌, arith}
use Rattle.std.proofs.KnownBytes.{Appends-nil, Consumes-nil, Keeps-refl}
use Rattle.std.proofs.lemmas.List.{take_all}
use Rattle.vcs_inputs.specs.Cart.{is_cart_size}
use Rattle.tas_movie.specs.Content.{MovieContent, blank_movie}
use Rattle.tas_movie.specs.declared.edit.Edit.{Edit}
use Rattle.tas_green.specs.declared.savestate.Savestate.{Savestate}
use Rattle.tas_published.specs.declared.entry.Entry.{Entry}
use Rattle.tas_published.specs.Strokes.{edits_in}
use Rattle.tas_published.specs.History.{movie_of}
use Rattle.tas_published.proofs.HistoryLemmas.{movie_of-none}
use Rattle.tas_desk.specs.Seats.{SeatContent}
use Rattle.tas_desk.specs.Zones.{ZoneContent}
use Rattle.tas_engines.specs.Changes.{EditContent}
use Rattle.tas_engines.specs.declared.fault.ReadFault.{ReadFault}
use Rattle.tas_engines.specs.declared.fault.RunFault.{RunFault}
use Rattle.tas_engines.specs.declared.fault.RunFault.TheVariants.{Write, Size, Text, NoFrame as OffMovie, Range as OffRange, Halted as Stopped, HaltedFrame as StoppedFrame, Script, Place, Long, Names as NoNames, NoPlace, NoEntry, Foreign, Memory}
use Rattle.tas_engines.specs.declared.fault.ToolFault.{ToolFault}
use Rattle.tas_engines.specs.declared.fault.ToolFault.TheVariants.{Read, Run}
use Rattle.tas_engines.specs.Input.{IsReadWhole, StopsReading}
use Rattle.tas_engines.specs.Tracing.{IsImageFault}
use Rattle.tas_tool.specs.Talk.{LinesRunTo, OverCart, OverMovie, IsUntouched, IsCartTalk, IsMovieTalk, IsTalkLeaving, IsCartTalkLeaving, IsMovieTalkLeaving, DraftedState, drafted, AreExchanges, fresh_talk_state, talk_state_from}
use Rattle.tas_tool.specs.Inside.Alone.{SeesOwn, end_of, left_of, EndsMade}
use Rattle.tas_tool.specs.Inside.Holding.{ReadsCart, ReadsMovie}
use Rattle.tas_seat.specs.Turns.{Standing, standing_of}
use Rattle.tas_seat.specs.Requests.{TalkState}
use Rattle.tas_tool.specs.Scripts.{standing_at_start}
use Rattle.tas_tool.specs.MovieScripts.{edits_of_movie, standing_of_movie}
use Rattle.tas_tool.specs.Inside.TwoEdits.{HoldsMovie, IsMakingFault}
use Rattle.tas_tool.proofs.AloneLemmas.{contents, edits_seen, place_of}
use Rattle.tas_tool.proofs.MovieScriptLemmas.{holds_standing}

-- ---- before the first line

no_exchanges : (state : DraftedState) → AreExchanges state [] state
unfolding AreExchanges
no_exchanges state = refl

pub untouched : (input output : Option (List ℕ)) → IsUntouched input input output output
untouched input output = record { unread = refl; unwritten = Keeps-refl output }

pub no_memory_yet : (start : DraftedState) (input output : Option (List ℕ)) → IsTalkLeaving None start input input output output (Err (Run Memory))
no_memory_yet start input output = record {
  talk = record { exchanges = []; state = start; rest = []; answered = no_exchanges start; left = Consumes-nil input; ends = Appends-nil output };
  left_is = (untouched input output, (Memory, refl, tt));
}

pub no_place_yet : (start : DraftedState) (input output : Option (List ℕ)) → IsTalkLeaving None start input input output output (Err (Run NoPlace))
no_place_yet start input output = record {
  talk = record { exchanges = []; state = start; rest = []; answered = no_exchanges start; left = Consumes-nil input; ends = (refl, refl, Appends-nil output) };
  left_is = (untouched input output, (NoPlace, refl, tt));
}

-- the movie wasn't made
pub unmade_talk : {A : Type 0} (start : DraftedState) (seat : SeatContent A) (fault : RunFault) (input output : Option (List ℕ)) → IsMakingFault seat fault → SeesOwn seat → IsTalkLeaving None start input input output output (Err (Run fault))
unmade_talk {A} start seat Memory input output is own = no_memory_yet start input output
unmade_talk start seat Foreign input output is own = absurd (omega (arith, is, own.few))
unmade_talk start seat NoEntry input output is own = absurd is
unmade_talk start seat NoPlace input output is own = absurd is
unmade_talk start seat (Write written) input output is own = absurd is
unmade_talk start seat (Size n) input output is own = absurd is
unmade_talk start seat (Text error) input output is own = absurd is
unmade_talk start seat (OffMovie frame len) input output is own = absurd is
unmade_talk start seat (OffRange from to len) input output is own = absurd is
unmade_talk start seat (NoNames row kind) input output is own = absurd is
unmade_talk start seat (Stopped at opcode) input output is own = absurd is
unmade_talk start seat (StoppedFrame frame at opcode) input output is own = absurd is
unmade_talk start seat (Script number) input output is own = absurd is
unmade_talk start seat (Place number) input output is own = absurd is
unmade_talk start seat (Long number) input output is own = absurd is

-- ---- from what a conversation starts

-- nothing is kept
abbrev blank_state : Standing → TalkState
blank_state stands = record { stands = stands; kept_for = blank_movie; states = [] }

fresh_at : {A : Type 0} (seat : SeatContent A) (stands : Standing) (edits : List EditContent) → standing_of seat.front ≡ stands → edits_seen seat.front ≡ edits → seat.zone.movie ≡ blank_movie → seat.zone.states ≡ []
    → place_of seat ≡ fresh_talk_state stands edits
fresh_at seat stands edits at made movie none =
    ap (λ (f : Standing). drafted (let x : TalkState = record { stands = f; kept_for = seat.zone.movie; states = seat.zone.states } in x) (edits_seen seat.front) None) at
    ∙ ap (λ (m : MovieContent). drafted (let x : TalkState = record { stands = stands; kept_for = m; states = seat.zone.states } in x) (edits_seen seat.front) None) movie
    ∙ ap (λ (l : List Savestate). drafted (let x : TalkState = record { stands = stands; kept_for = blank_movie; states = l } in x) (edits_seen seat.front) None) none
    ∙ ap (λ (l : List EditContent). drafted (blank_state stands) l None) made

pub first_state : {A : Type 0} (seat : SeatContent A) → seat.front ≡ [] → seat.zone.movie ≡ blank_movie → seat.zone.states ≡ [] → place_of seat ≡ fresh_talk_state standing_at_start []
first_state {A} seat front movie none =
    let stands : standing_of seat.front ≡ standing_at_start =
    ap (λ (l : List (Entry A)). standing_of l) front ∙ ap (λ (m : MovieContent). let x : Standing = record { movie = m; made = 0 } in x) (movie_of-none A) in
    fresh_at seat standing_at_start [] stands (ap (λ (l : List (Entry A)). edits_seen l) front) movie none

seen_edits : {A : Type 0} (entries : List (Entry A)) → edits_seen entries ≡ contents (edits_in entries)
seen_edits [] = refl
seen_edits {A} (entry ∷ entries) = ap (λ (l : List EditContent). edits_seen (entry ∷ []) ++ l) (seen_edits entries)

-- where the seat that made a movie has seen its own edits alone, these are the two
made_edits : {A : Type 0} (seat : SeatContent A) (movie : MovieContent) → HoldsMovie seat movie → SeesOwn seat → edits_seen seat.front ≡ edits_of_movie (Unit {0}) movie
made_edits {A} seat movie holds own =
    let whole : take 2 seat.front ≡ seat.front = take_all 2 seat.front (omega (arith, holds.made, own.few)) in
    ap (λ (l : List (Entry A)). edits_seen l) (sym whole) ∙ seen_edits (take 2 seat.front) ∙ ap (λ (l : List (Edit A)). contents l) holds.edits

pub made_state : {A : Type 0} (before now : SeatContent A) (movie : MovieContent) → HoldsMovie now movie → SeesOwn now → now.zone ≡ before.zone → before.zone.movie ≡ blank_movie → before.zone.states ≡ []
    → place_of now ≡ fresh_talk_state (standing_of_movie movie) (edits_of_movie (Unit {0}) movie)
made_state {A} before now movie holds own zone blank none =
    fresh_at now (standing_of_movie movie) (edits_of_movie (Unit {0}) movie) (holds_standing now movie holds own) (made_edits now movie holds own)
    (ap (λ (z : ZoneContent A). z.movie) zone ∙ blank) (ap (λ (z : ZoneContent A). z.states) zone ∙ none)

-- the same conversation, its start named otherwise
pub talk_as : (left : Option MovieContent) (start other : DraftedState) (input input' output output' : Option (List ℕ)) (result : Result (Unit {0}) ToolFault) → start ≡ other → IsTalkLeaving left start input input' output output' result
    → IsTalkLeaving left other input input' output output' result
talk_as left start other input input' output output' result same talk = subst (λ (f : DraftedState). IsTalkLeaving left f input input' output output' result) same talk

-- the same where its desk leaves this movie
pub talk_closed : {A : Type 0} (seat : SeatContent A) (start : DraftedState) (input input' output output' : Option (List ℕ)) (made : Result (Result (Unit {0}) ToolFault) RunFault) (movie : MovieContent) → EndsMade seat start input input' output output' made
    → (seat.made ≤ length seat.front → movie ≡ movie_of seat.front) → IsTalkLeaving (left_of made movie) start input input' output output' (end_of made)
talk_closed seat start input input' output output' (Ok end) movie (seen, talk) is = subst (λ (m : MovieContent). IsTalkLeaving (Some m) start input input' output output' end) (sym (is seen)) talk
talk_closed seat start input input' output output' (Err fault) movie talk is = talk

-- what is left and the end, named otherwise
pub talk_ended : (left other : Option MovieContent) (start : DraftedState) (input input' output output' : Option (List ℕ)) (result end : Result (Unit {0}) ToolFault) → other ≡ left → end ≡ result → IsTalkLeaving left start input input' output output' result
    → IsTalkLeaving other start input input' output output' end
talk_ended left other start input input' output output' result end is ends talk =
    subst (λ (e : Result (Unit {0}) ToolFault). IsTalkLeaving other start input input' output output' e) (sym ends) (subst (λ (m : Option MovieContent). IsTalkLeaving m start input input' output output' result) (sym is) talk)

-- ---- over a cartridge

pub cart_unread : (cart cart' : Option (List ℕ)) (fault : ReadFault) (e : ToolFault) → StopsReading cart cart' fault → e ≡ Read fault → ReadsCart cart cart' (Err e)
cart_unread cart cart' fault e stops is = inl (fault, is, stops)

pub cart_unmade : (cart cart' : Option (List ℕ)) (read image : List ℕ) (fault : RunFault) (e : ToolFault) → IsReadWhole cart cart' read → image ≡ read → IsImageFault image fault → e ≡ Run fault → ReadsCart cart cart' (Err e)
cart_unmade cart cart' read image fault e whole same why is = inr (image, subst (IsReadWhole cart cart') (sym same) whole, (fault, is, why))

pub cart_started : (cart cart' : Option (List ℕ)) (read image : List ℕ) (movie : MovieContent) → IsReadWhole cart cart' read → image ≡ read → is_cart_size (length image) ≡ true → movie ≡ record { cart = image; inputs = [] } → ReadsCart cart cart' (Ok movie)
cart_started cart cart' read image movie whole same long is = (image, subst (IsReadWhole cart cart') (sym same) whole, long, is)

pub over_no_cart : {E : Type 0} (tool : ToolFault → E) (IsUnread : (input input' output output' : Option (List ℕ)) → Type 0) (IsSuch : DraftedState → LinesRunTo E) (cart cart' input output : Option (List ℕ)) (end : ToolFault) → ReadsCart cart cart' (Err end)
    → IsUnread input input output output → OverCart tool IsUnread IsSuch cart cart' input input output output (Err (tool end))
over_no_cart {E} tool IsUnread IsSuch cart cart' input output end (inl (fault, is, stops)) none = inl (fault, ap (λ (f : ToolFault). let r : Result (Unit {0}) E = Err (tool f) in r) is, stops, none)
over_no_cart {E} tool IsUnread IsSuch cart cart' input output end (inr (image, whole, (fault, is, why))) none = inr (image, whole, inl (fault, ap (λ (f : ToolFault). let r : Result (Unit {0}) E = Err (tool f) in r) is, why, none))

pub over_cart : {E : Type 0} (tool : ToolFault → E) (IsUnread : (input input' output output' : Option (List ℕ)) → Type 0) (IsSuch : DraftedState → LinesRunTo E) (cart cart' input input' output output' : Option (List ℕ)) (content : MovieContent) (end : Result (Unit {0}) E)
    → ReadsCart cart cart' (Ok content) → IsSuch (talk_state_from (Some content)) input input' output output' end → OverCart tool IsUnread IsSuch cart cart' input input' output output' end
over_cart tool IsUnread IsSuch cart cart' input input' output output' content end (image, whole, long, is) talk =
    inr (image, whole, inr (long, subst (λ (m : MovieContent). IsSuch (talk_state_from (Some m)) input input' output output' end) is talk))

-- ---- over a movie

pub over_no_movie : {E : Type 0} (tool : ToolFault → E) (IsUnread : (input input' output output' : Option (List ℕ)) → Type 0) (IsSuch : DraftedState → LinesRunTo E) (cart cart' movie movie' input output : Option (List ℕ)) (end : ToolFault) → ReadsMovie cart cart' movie movie' (Err end)
    → IsUnread input input output output → OverMovie tool IsUnread IsSuch cart cart' movie movie' input input output output (Err (tool end))
over_no_movie {E} tool IsUnread IsSuch cart cart' movie movie' input output end (inl (fault, is, stops)) none = inl (fault, ap (λ (f : ToolFault). let r : Result (Unit {0}) E = Err (tool f) in r) is, stops, none)
over_no_movie {E} tool IsUnread IsSuch cart cart' movie movie' input output end (inr (image, said, whole, whole', (fault, is, why))) none =
    inr (image, said, whole, whole', inl (fault, ap (λ (f : ToolFault). let r : Result (Unit {0}) E = Err (tool f) in r) is, why, none))

pub over_movie : {E : Type 0} (tool : ToolFault → E) (IsUnread : (input input' output output' : Option (List ℕ)) → Type 0) (IsSuch : DraftedState → LinesRunTo E) (cart cart' movie movie' input input' output output' : Option (List ℕ)) (content : MovieContent)
    (end : Result (Unit {0}) E) → ReadsMovie cart cart' movie movie' (Ok content) → IsSuch (talk_state_from (Some content)) input input' output output' end → OverMovie tool IsUnread IsSuch cart cart' movie movie' input input' output output' end
over_movie tool IsUnread IsSuch cart cart' movie movie' input input' output output' content end (image, said, whole, whole', is) talk = inr (image, said, whole, whole', inr (content, is, talk))

-- ---- without what is left

pub cart_talk : (left : Option MovieContent) (cart cart' input input' output output' : Option (List ℕ)) (end : Result (Unit {0}) ToolFault) → IsCartTalkLeaving left cart cart' input input' output output' end
    → IsCartTalk cart cart' input input' output output' end
cart_talk left cart cart' input input' output output' end (inl (fault, is, stops, none)) = inl (fault, is, stops, none.0)
cart_talk left cart cart' input input' output output' end (inr (image, whole, inl (fault, is, why, none))) = inr (image, whole, inl (fault, is, why, none.0))
cart_talk left cart cart' input input' output output' end (inr (image, whole, inr (long, talk))) = inr (image, whole, inr (long, talk.talk))

pub movie_talk : (left : Option MovieContent) (cart cart' movie movie' input input' output output' : Option (List ℕ)) (end : Result (Unit {0}) ToolFault) → IsMovieTalkLeaving left cart cart' movie movie' input input' output output' end
    → IsMovieTalk cart cart' movie movie' input input' output output' end
movie_talk left cart cart' movie movie' input input' output output' end (inl (fault, is, stops, none)) = inl (fault, is, stops, none.0)
movie_talk left cart cart' movie movie' input input' output output' end (inr (image, said, whole, whole', inl (fault, is, why, none))) = inr (image, said, whole, whole', inl (fault, is, why, none.0))
movie_talk left cart cart' movie movie' input input' output output' end (inr (image, said, whole, whole', inr (content, is, talk))) = inr (image, said, whole, whole', inr (content, is, talk.talk))
