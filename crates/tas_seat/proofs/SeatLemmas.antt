-- Seats, and the histories at which they are answered.
use Rattle.std.proofs.Common.{◌≡◌, ℕ, ◌+◌, List, [], Bool, true, false, refl, sym, ap, subst, ◌∙◌, arith, append-nil}
use Rattle.std.specs.Prelude.{◌==◌, if◌then◌else◌}
use Rattle.std.proofs.lemmas.Bool.{eq-eqb, eqb-true}
use mathlib.Core.List.{IsPrefix}
use Rattle.tas_movie.specs.declared.edit.Edit.{Edit}
use Rattle.tas_published.specs.declared.entry.Entry.{Entry}
use Rattle.tas_published.proofs.PrefixLemmas.{prefix_trans, prefix_self}
use Rattle.tas_desk.specs.Seats.{SeatContent, seat_of, HasSeen}
use Rattle.tas_desk.specs.Zones.{ZoneContent, IsMadeFor, IsPlayed, IsShared}
use Rattle.tas_language.specs.declared.request.Request.{Request}
use Rattle.tas_seat.specs.Edits.{made_between}
use Rattle.tas_seat.specs.Turns.{Standing, standing_of}
use Rattle.tas_seat.specs.Requests.{Rests, IsGreen, Plays, Gains, IsAnswerTo}
use Rattle.tas_seat.specs.Seats.{talk_state_at, IsSeatAfter, LeavesZone, AnswerCountsWork, IsAnsweredAt}
use Rattle.tas_seat.specs.Outcomes.{IsMiscounted}

-- ---- what a seat has seen

pub seen_self : {A : Type 0} (seat : SeatContent A) → HasSeen seat seat
seen_self seat = record { number = refl; made = refl; begins = prefix_self seat.front }

pub seen_more : {A : Type 0} (a b c : SeatContent A) → HasSeen a b → HasSeen b c → HasSeen a c
seen_more a b c p q = record { number = q.number ∙ p.number; made = q.made ∙ p.made; begins = prefix_trans a.front b.front c.front p.begins q.begins }

-- a seat that is as it was
pub seen_same : {A : Type 0} (before now : SeatContent A) → now ≡ before → HasSeen before now
seen_same {A} before now is = subst (λ (s : SeatContent A). HasSeen before s) (sym is) (seen_self before)

-- a seat that has only seen more was answered at what it has seen
pub looked_at : {A : Type 0} (before now : SeatContent A) → HasSeen before now → IsSeatAfter before now.front [] now
looked_at before now seen = record { begins = seen.begins; front = sym (append-nil now.front); number = seen.number; made = omega (arith, seen.made) }

-- one that made nothing has only seen more
pub seen_after : {A : Type 0} (before now : SeatContent A) (at : List (Entry A)) → IsSeatAfter before at [] now → HasSeen before now
seen_after {A} before now at after =
    let front : now.front ≡ at = after.front ∙ append-nil at in
    record { number = after.number; made = omega (arith, after.made); begins = subst (λ (l : List (Entry A)). IsPrefix before.front l) (sym front) after.begins }

-- one that made nothing at a history
pub stood : {A : Type 0} (before now : SeatContent A) (at : List (Entry A)) → IsPrefix before.front at → now ≡ seat_of before.number before.made at before.zone → IsSeatAfter before at [] now
stood {A} before now at begins is = record {
  begins = begins;
  front = ap (λ (s : SeatContent A). s.front) is ∙ sym (append-nil at);
  number = ap (λ (s : SeatContent A). s.number) is;
  made = omega (arith, ap (λ (s : SeatContent A). s.made) is);
}

pub strange_later : {A : Type 0} (before mid now : SeatContent A) → HasSeen before mid → IsMiscounted mid now → IsMiscounted before now
strange_later before mid now seen strange = record { seen = seen_more before mid now seen strange.seen; other = strange.other }

-- ---- what was made

pub made_none : {A : Type 0} (old new : Standing) (edits : List (Edit A)) → new.made ≡ old.made → [] ≡ made_between old new edits
made_none {A} old new edits same = sym (ap (λ (b : Bool). if b then [] else edits) (eq-eqb new.made old.made same))

pub made_all : {A : Type 0} (old new : Standing) (edits : List (Edit A)) → new.made ≡ old.made + 1 → edits ≡ made_between old new edits
made_all {A} old new edits more = go (new.made == old.made) refl
  where
    go : (b : Bool) → new.made == old.made ≡ b → edits ≡ (if b then [] else edits)
    go true e = absurd (omega (arith, more, eqb-true new.made old.made e))
    go false e = refl

-- nothing was asked for, so nothing was made
either_none : {A : Type 0} (b : Bool) → ◌≡◌ {A = List (Edit A)} (if b then [] else []) []
either_none true = refl
either_none false = refl

pub made_nothing : {A : Type 0} (old new : Standing) → ◌≡◌ {A = List (Edit A)} (made_between old new []) []
made_nothing old new = either_none (new.made == old.made)

-- the same of a seat that has only seen more
pub looked_nothing : {A : Type 0} (before now : SeatContent A) → HasSeen before now → IsSeatAfter before now.front (made_between (standing_of now.front) (standing_of now.front) []) now
looked_nothing {A} before now seen =
    subst (λ (l : List (Edit A)). IsSeatAfter before now.front l now) (sym (made_nothing (standing_of now.front) (standing_of now.front))) (looked_at before now seen)

-- ---- greenzones

pub rests : {A : Type 0} (before now : SeatContent A) (one other : List (Entry A)) → now.zone ≡ before.zone → Rests (talk_state_at one before.zone) (talk_state_at other now.zone)
rests {A} before now one other same = record { kept_for = ap (λ (z : ZoneContent A). z.movie) same; states = ap (λ (z : ZoneContent A). z.states) same }

pub green_at : {A : Type 0} (zone : ZoneContent A) (front : List (Entry A)) → IsMadeFor zone front → IsGreen (talk_state_at front zone)
green_at zone front made = record { kept_for = made.movie; lawful = made.lawful }

pub plays_at : {A : Type 0} (before now : SeatContent A) (one : List (Entry A)) (k ran : ℕ) → IsPlayed before.zone now.zone now.front k ran → Plays (talk_state_at one before.zone) (talk_state_at now.front now.zone) k (k + 1) ran
plays_at before now one k ran is = record { green = green_at now.zone now.front is.made; played = is.shot }

pub gains_at : {A : Type 0} (before now : SeatContent A) (one : List (Entry A)) (gained : ℕ) → IsShared before.zone now.zone now.front gained → Gains (talk_state_at one before.zone) (talk_state_at now.front now.zone)
gains_at before now one gained is = record { green = green_at now.zone now.front is.made; other = is.other; others = is.others; gained = gained; gain = is.gain }

-- ---- looks

-- a request that makes no edit is answered at what the seat has seen then
pub answered_here : (A : Type 0) (before now : SeatContent A) (request : Request) (answer : List ℕ) → HasSeen before now → IsAnswerTo (talk_state_at now.front before.zone) request answer (talk_state_at now.front now.zone)
    → LeavesZone before now request answer → AnswerCountsWork before.front now.front request answer → IsAnsweredAt A before now request answer []
answered_here A before now request answer seen is zone counts = record {
  at = now.front;
  answered = is;
  made = made_none (standing_of now.front) (standing_of now.front) _ refl;
  seat = looked_at before now seen;
  zone = zone;
  counts = counts;
}
