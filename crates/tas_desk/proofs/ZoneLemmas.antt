-- What a call leaves of a seat's zone.
use Rattle.std.specs.Prelude.{IfOk}
use Rattle.std.proofs.Common.{◌≡◌, ℕ, ◌+◌, List, [], length, refl, ap, sym, ◌∙◌, subst, subst₂, arith, Option, Result, Ok}
use Rattle.logbook.specs.Pages.{Book}
use Rattle.tas_movie.specs.Content.{MovieContent, blank_movie}
use Rattle.tas_green.specs.declared.savestate.Savestate.{Savestate}
use Rattle.tas_green.specs.Zone.{state_at, first_of}
use Rattle.tas_green.specs.Green.{IsLawful, IsMoved, IsPlayedFrom}
use Rattle.tas_green.specs.View.{ViewContent, AreOfMovie, IsBrought, both_of, view_of}
use Rattle.tas_green.specs.Window.{AreMovieStates, IsWindowMoved, IsPlayedNear, both}
use Rattle.tas_green.proofs.BringLemmas.{played_followed, view_followed}
use Rattle.tas_published.specs.declared.movie_copy.MovieCopy.{MovieCopy}
use Rattle.tas_published.specs.declared.entry.Entry.{Entry}
use Rattle.tas_published.specs.declared.reader_view.ReaderView.{ReaderView}
use Rattle.tas_published.specs.Version.{VersionContent, version_of}
use Rattle.tas_published.specs.History.{movie_of}
use Rattle.tas_published.specs.Published.{HasSeenMore}
use Rattle.tas_published.proofs.HistoryLemmas.{movie_of-none}
use Rattle.tas_desk.specs.Seats.{SeatContent, seat_of, IsSeated, HasSeen}
use Rattle.tas_desk.specs.Zones.{ZoneContent, zone_of, Shares, IsMadeFor}
use Rattle.tas_published.specs.Readings.{version_after}
use Rattle.tas_desk.proofs.SeatLemmas.{entries_of-prefix}

pub seated_on : {A : Type 0} (v w : ReaderView A) (b : Book) (cut sum number made : ℕ) (z y : ZoneContent A) → IsSeated v b cut sum number made z → HasSeenMore v w → y.made_for.registry ≡ z.made_for.registry → IsSeated w b cut sum number made y
seated_on {A} v w b cut sum number made z y s on same = record {
  knows = on.knows b s.knows;
  same = same ∙ s.same;
  parts = s.parts;
  amount = s.amount;
  fewer = (let more = entries_of-prefix number v.seen w.seen on.begins in let few = s.fewer in omega (arith, more, few));
}

marked : {A : Type 0} (known old new : VersionContent A) (copied : Option (MovieCopy A)) (list : List (Entry A)) → known ≡ old → version_after known copied ≡ version_of known.registry list → new ≡ version_after old copied → new ≡ version_of old.registry list
marked {A} known old new copied list same found is =
    is ∙ ap (λ (m : VersionContent A). version_after m copied) (sym same) ∙ found ∙ ap (λ (m : VersionContent A). version_of m.registry list) same

-- a call brought a zone to the version that the seat's reader found: the zone is made for the history there
pub brought_to : {A : Type 0} (known : VersionContent A) (z y : ZoneContent A) (copied : Option (MovieCopy A)) (list : List (Entry A)) → known ≡ z.made_for → version_after known copied ≡ version_of known.registry list
    → y.made_for ≡ version_after z.made_for copied → IsMadeFor y y.made_for.history → IsMadeFor y list
brought_to {A} known z y copied list same found is made =
    subst (λ (h : List (Entry A)). IsMadeFor y h) (ap (λ (m : VersionContent A). m.history) (marked known z.made_for y.made_for copied list same found is)) made

-- and the seat stands with it as before
pub seated_at : {A : Type 0} (v w : ReaderView A) (b : Book) (cut sum number made : ℕ) (known : VersionContent A) (z y : ZoneContent A) (copied : Option (MovieCopy A)) (list : List (Entry A)) → IsSeated v b cut sum number made z → HasSeenMore v w
    → known ≡ z.made_for → version_after known copied ≡ version_of known.registry list → y.made_for ≡ version_after z.made_for copied → IsSeated w b cut sum number made y
seated_at {A} v w b cut sum number made known z y copied list seated more same found is =
    seated_on v w b cut sum number made z y seated more (ap (λ (m : VersionContent A). m.registry) (marked known z.made_for y.made_for copied list same found is))

-- a seat whose reader has seen more, and which made no edit
pub seen_more : {A : Type 0} (v w : ReaderView A) (number made : ℕ) (before : SeatContent A) (z y : ZoneContent A) → seat_of number made v.seen z ≡ before → HasSeenMore v w → HasSeen before (seat_of number made w.seen y)
seen_more {A} v w number made before z y view more =
    subst (λ (s : SeatContent A). HasSeen s (seat_of number made w.seen y)) view (record { number = refl; made = refl; begins = more.begins })

-- what is said of an answer is so where this is the answer
pub if_ok : {X E : Type 0} (P : X → Type 0) (r : Result X E) (x : X) → r ≡ Ok x → IfOk r P → P x
if_ok {X} {E} P r x is said = subst (λ (a : Result X E). IfOk a P) is said

-- ---- a zone's view, brought to another movie, and what a call of it then does to the zone

-- its window is cut
pub cut_in : {A : Type 0} (version : VersionContent A) (before brought now : ViewContent) (zone : ZoneContent A) → zone_of version before ≡ zone → IsBrought before brought → now.movie ≡ brought.movie → now.near ≡ brought.near
    → IsWindowMoved zone.movie now.movie zone.window now.near
cut_in {A} version before brought now zone is cut movie near =
    subst (λ (z : ZoneContent A). IsWindowMoved z.movie now.movie z.window now.near) is
    (subst₂ (λ (m : MovieContent) (n : List Savestate). IsWindowMoved before.movie m before.near n) (sym movie) (sym near) cut.near)

-- its frames are played
pub played_in : {A : Type 0} (version : VersionContent A) (before brought now : ViewContent) (zone : ZoneContent A) (near end ran : ℕ) → zone_of version before ≡ zone → IsBrought before brought → AreOfMovie brought → now.movie ≡ brought.movie
    → IsPlayedFrom brought.movie brought.movie near end brought.states now.states 0 ran → IsPlayedFrom zone.movie now.movie near end zone.states now.states 0 ran
played_in {A} version before brought now zone near end ran is cut lawful movie played =
    subst (λ (z : ZoneContent A). IsPlayedFrom z.movie now.movie near end z.states now.states 0 ran) is
    (played_followed before.movie brought.movie now.movie near end ran before.states brought.states now.states movie cut.states lawful.states played)

-- a frame is viewed, or a state is reached
pub viewed_in : {A : Type 0} (version : VersionContent A) (before brought now : ViewContent) (zone : ZoneContent A) (k end ran : ℕ) → zone_of version before ≡ zone → IsBrought before brought → AreOfMovie brought → now.movie ≡ brought.movie
    → IsPlayedNear brought.movie now.movie k end (both_of brought) (both_of now) ran → IsPlayedNear zone.movie now.movie k end (both zone.states zone.window) (both_of now) ran
viewed_in {A} version before brought now zone k end ran is cut lawful movie viewed =
    subst (λ (z : ZoneContent A). IsPlayedNear z.movie now.movie k end (both z.states z.window) (both_of now) ran) is
    (view_followed before.movie brought.movie now.movie k end ran before.states brought.states before.near brought.near (both_of now) movie cut.states cut.near lawful.states lawful.near viewed)

-- states are gained
pub shared_in : {A : Type 0} (version : VersionContent A) (before brought now : ViewContent) (zone : ZoneContent A) (other : List Savestate) (gained : ℕ) → zone_of version before ≡ zone → IsBrought before brought → now.movie ≡ brought.movie
    → ((f : ℕ) → state_at f now.states ≡ first_of (state_at f brought.states) (state_at f other)) → length now.states ≡ length brought.states + gained → Shares zone.movie now.movie zone.states other now.states gained
shared_in {A} version before brought now zone other gained is cut movie states count =
    subst (λ (z : ZoneContent A). Shares z.movie now.movie z.states other now.states gained) is
    (brought.states, subst (λ (m : MovieContent). IsMoved before.movie m before.states brought.states) (sym movie) cut.states, states, count)

-- a view of the blank movie, of which no state is kept, is made for no edits
pub made_blank : {A : Type 0} (version : VersionContent A) (view : ViewContent) (movie : MovieContent) → view ≡ view_of movie [] [] → movie ≡ blank_movie → version.history ≡ [] → IsMadeFor (zone_of version view) version.history
made_blank {A} version view movie is blank none = record {
  list = refl;
  movie = ap (λ (v : ViewContent). v.movie) is ∙ blank ∙ sym (movie_of-none A) ∙ ap (λ (h : List (Entry A)). movie_of h) (sym none);
  lawful = subst (λ (v : ViewContent). IsLawful v.movie v.states) (sym is) (record { rising = tt; each = λ f s e. absurd (cc e) });
  near = subst (λ (v : ViewContent). AreMovieStates v.movie v.near) (sym is) (record { rising = tt; within = λ f s e. absurd (cc e); each = λ f s e. absurd (cc e) });
}
