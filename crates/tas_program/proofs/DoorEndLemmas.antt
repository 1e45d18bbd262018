-- A desk's doors by what is known of their ends, of which nothing is known once they are closed.
use Rattle.std.proofs.Common.{◌≡◌, ℕ, ◌<◌, Bool, List, length, map, get_or, Option, Some, None, Result, inl, inr, refl, sym, ap, subst, ◌∙◌}
use Rattle.std.specs.Prelude.{slice_get, option_map}
use Rattle.std.proofs.lemmas.List.{length-map}
use Rattle.std.proofs.lemmas.Option.{slice_get-get_or, slice_get-map, slice_get_within}
use Rattle.tas_movie.specs.Content.{MovieContent}
use Rattle.tas_movie.specs.declared.edit.Edit.{Edit}
use Rattle.tas_published.specs.declared.entry.Entry.{Entry}
use Rattle.tas_desk.specs.Seats.{SeatContent}
use Rattle.tas_engines.specs.declared.fault.SeatFault.{SeatFault}
use Rattle.tas_engines.specs.declared.fault.ToolFault.{ToolFault}
use Rattle.tas_seat.specs.Lines.{DoorFacts, DoorEnds, end_facts, IsHeld}
use Rattle.tas_journaling.specs.Callers.{IsNotedHeld}
use Rattle.tas_journaling.specs.declared.callers.CallFault.{CallFault}
use Rattle.tas_tool.specs.Desks.{IsSeatOf, IsHistoryOf, IsDeskHistory, IsDeskOn, IsDeskRun}
use Rattle.tas_tool.specs.NotedDesks.{IsNotedSeatOf, IsNotedDeskHistory, IsNotedDeskOn, IsNotedDeskRun}
use Rattle.tas_tool.specs.declared.noted_desk_runs.DeskFault.{DeskFault}

-- what is known of a door's ends
abbrev pub door_ends : {D : Type 0} → DoorFacts D → D → DoorEnds
door_ends facts door = record { given = facts.given door; held = facts.held door }

-- a conversation was held over these ends
held_ends : {A D : Type 0} (facts : DoorFacts D) (door door' : D) (known' : DoorEnds) (start last : SeatContent A) (edits : List (Edit A)) (end : Result (Unit {0}) SeatFault)
    → IsHeld facts door door' start last edits end → IsHeld end_facts (door_ends facts door) known' start last edits end
held_ends facts door door' known' start last edits end (inl (shut, refused, same, none)) = inl (shut, tt, same, none)
held_ends facts door door' known' start last edits end (inr (input', output', ended, talk, made, ends, left)) = inr (input', output', ended, talk, made, ends, tt)

-- the same as the history shows it
seat_ends : {A D : Type 0} (facts : DoorFacts D) (history : List (Entry A)) (number : ℕ) (door door' : D) (known known' : DoorEnds) (end : Result (Unit {0}) SeatFault) → door_ends facts door ≡ known
    → IsSeatOf facts history number door door' end → IsSeatOf end_facts history number known known' end
seat_ends facts history number door door' known known' end is seat = record {
  start = seat.start;
  last = seat.last;
  edits = seat.edits;
  number_is = seat.number_is;
  made = seat.made;
  begins = seat.begins;
  zone = seat.zone;
  held = subst (λ (l : DoorEnds). IsHeld end_facts l known' seat.start seat.last seat.edits end) is (held_ends facts door door' known' seat.start seat.last seat.edits end seat.held);
  shows = seat.shows;
  not_foreign = seat.not_foreign;
}

-- the door of these ends
door_at : {D : Type 0} (facts : DoorFacts D) (doors : List D) (k : ℕ) (known : DoorEnds) → slice_get (map (door_ends facts) doors) k ≡ Some known → (door : D) × (slice_get doors k ≡ Some door) × (door_ends facts door ≡ known)
door_at {D = D} facts doors k known there = go (slice_get doors k) refl
  where
    go : (found : Option D) → slice_get doors k ≡ found → (door : D) × (slice_get doors k ≡ Some door) × (door_ends facts door ≡ known)
    go None e = absurd (let bad : None ≡ Some known = sym (slice_get-map (door_ends facts) doors k ∙ ap (option_map (door_ends facts)) e) ∙ there in cc bad)
    go (Some door) e = (door, e, let same : Some (door_ends facts door) ≡ Some known = sym (slice_get-map (door_ends facts) doors k ∙ ap (option_map (door_ends facts)) e) ∙ there in cc same)

-- one history, whatever is said of its seats' doors that holds of the ends, too
history_ends : {A D E : Type 0} (facts : DoorFacts D) (is_seat : ℕ → D → D → E → Type 0) (is_seat' : ℕ → DoorEnds → DoorEnds → E → Type 0)
    → ((number : ℕ) (door door' : D) (known known' : DoorEnds) (end : E) → door_ends facts door ≡ known → is_seat number door door' end → is_seat' number known known' end)
    → (movie : MovieContent) (doors doors' : List D) (ends : List E) (history : List (Entry A)) → IsHistoryOf is_seat movie doors doors' ends history
    → IsHistoryOf is_seat' movie (map (door_ends facts) doors) (map (door_ends facts) doors) ends history
history_ends facts is_seat is_seat' same movie doors doors' ends history has = record {
  legal = has.legal;
  long = has.long;
  first = has.first;
  edits = has.edits;
  movie_is = has.movie_is;
  back = refl;
  many = has.many ∙ sym (length-map doors (door_ends facts));
  seats = λ k known known' end at at' ended.
      let (door, here, is) = door_at facts doors k known at in
      let below : k < length doors' = rw has.back (slice_get_within doors k door here) in
      same k door (get_or doors' k door) known known' end is (has.seats k door (get_or doors' k door) end here (slice_get-get_or doors' k door below) ended);
  no_others = rw (length-map doors (door_ends facts)) has.no_others;
}

desk_history_ends : {A D : Type 0} (facts : DoorFacts D) (movie : MovieContent) (doors doors' : List D) (ends : List (Result (Unit {0}) SeatFault)) (history : List (Entry A)) → IsDeskHistory facts movie doors doors' ends history
    → IsDeskHistory end_facts movie (map (door_ends facts) doors) (map (door_ends facts) doors) ends history
desk_history_ends facts movie doors doors' ends history has =
    history_ends facts (λ number door door' end. IsSeatOf facts history number door door' end) (λ number door door' end. IsSeatOf end_facts history number door door' end)
    (λ number door door' known known' end is seat. seat_ends facts history number door door' known known' end is seat) movie doors doors' ends history has

desk_on_ends : {A D : Type 0} (facts : DoorFacts D) (doors doors' : List D) (movie : MovieContent) (old new : Option (List ℕ)) (end : Result (Unit {0}) ToolFault) → IsDeskOn A facts doors doors' movie old new end
    → IsDeskOn A end_facts (map (door_ends facts) doors) (map (door_ends facts) doors) movie old new end
desk_on_ends facts doors doors' movie old new end (inl (refused, (same, kept))) = inl (refused, (refl, kept))
desk_on_ends facts doors doors' movie old new end (inr (history, ends, has, written)) = inr (history, ends, desk_history_ends facts movie doors doors' ends history has, written)

-- a desk was run over the ends of its doors
pub desk_run_ends : {A D : Type 0} (facts : DoorFacts D) (doors doors' : List D) (cart cart' movie movie' old new : Option (List ℕ)) (end : Result (Unit {0}) ToolFault) → IsDeskRun A facts doors doors' cart cart' movie movie' old new end
    → IsDeskRun A end_facts (map (door_ends facts) doors) (map (door_ends facts) doors) cart cart' movie movie' old new end
desk_run_ends facts doors doors' cart cart' movie movie' old new end (inl (fault, is, stops, (same, kept))) = inl (fault, is, stops, (refl, kept))
desk_run_ends facts doors doors' cart cart' movie movie' old new end (inr (image, said, whole, whole', inl (fault, is, why, (same, kept)))) = inr (image, said, whole, whole', inl (fault, is, why, (refl, kept)))
desk_run_ends facts doors doors' cart cart' movie movie' old new end (inr (image, said, whole, whole', inr (content, is, on))) = inr (image, said, whole, whole', inr (content, is, desk_on_ends facts doors doors' content old new end on))

-- ---- the same with a journal

noted_held_ends : {A D : Type 0} (facts : DoorFacts D) (door door' : D) (known' : DoorEnds) (start last : SeatContent A) (edits answered : List (Edit A)) (end : Result (Unit {0}) CallFault)
    → IsNotedHeld facts door door' start last edits answered end → IsNotedHeld end_facts (door_ends facts door) known' start last edits answered end
noted_held_ends facts door door' known' start last edits answered end (inl (shut, refused, same, none, silent)) = inl (shut, tt, same, none, silent)
noted_held_ends facts door door' known' start last edits answered end (inr (input', output', ended, talk, ends, left)) = inr (input', output', ended, talk, ends, tt)

noted_seat_ends : {A D : Type 0} (facts : DoorFacts D) (history : List (Entry A)) (upto number : ℕ) (door door' : D) (known known' : DoorEnds) (end : Result (Unit {0}) CallFault) → door_ends facts door ≡ known
    → IsNotedSeatOf facts history upto number door door' end → IsNotedSeatOf end_facts history upto number known known' end
noted_seat_ends facts history upto number door door' known known' end is seat = record {
  start = seat.start;
  last = seat.last;
  edits = seat.edits;
  answered = seat.answered;
  number_is = seat.number_is;
  made = seat.made;
  begins = seat.begins;
  zone = seat.zone;
  held = subst (λ (l : DoorEnds). IsNotedHeld end_facts l known' seat.start seat.last seat.edits seat.answered end) is (noted_held_ends facts door door' known' seat.start seat.last seat.edits seat.answered end seat.held);
  shows = seat.shows;
  noted = seat.noted;
  not_foreign = seat.not_foreign;
}

noted_history_ends : {A D : Type 0} (facts : DoorFacts D) (kept : Option (List ℕ) → Type 0) (movie : MovieContent) (doors doors' : List D) (ends : List (Result (Unit {0}) CallFault)) (file file' : Option (List ℕ)) (history : List (Entry A))
    → IsNotedDeskHistory facts kept movie doors doors' ends file file' history → IsNotedDeskHistory end_facts kept movie (map (door_ends facts) doors) (map (door_ends facts) doors) ends file file' history
noted_history_ends facts kept movie doors doors' ends file file' history noted = record {
  journal = noted.journal;
  has = noted.has;
  desk = history_ends facts (λ number door door' end. IsNotedSeatOf facts history noted.journal.upto number door door' end) (λ number door door' end. IsNotedSeatOf end_facts history noted.journal.upto number door door' end)
      (λ number door door' known known' end is seat. noted_seat_ends facts history noted.journal.upto number door door' known known' end is seat) movie doors doors' ends history noted.desk;
}

noted_on_ends : {A D : Type 0} (facts : DoorFacts D) (kept : Option (List ℕ) → Type 0) (doors doors' : List D) (movie : MovieContent) (file file' old new : Option (List ℕ)) (begun : Bool) (end : Result (Unit {0}) DeskFault)
    → IsNotedDeskOn A facts kept doors doors' movie file file' old new begun end → IsNotedDeskOn A end_facts kept (map (door_ends facts) doors) (map (door_ends facts) doors) movie file file' old new begun end
noted_on_ends facts kept doors doors' movie file file' old new begun end (inl (not, why, (same, keeps))) = inl (not, why, (refl, keeps))
noted_on_ends facts kept doors doors' movie file file' old new begun end (inr (has, history, ends, noted, written)) =
    inr (has, history, ends, noted_history_ends facts kept movie doors doors' ends file file' history noted, written)

-- a desk with a journal was run over the ends of its doors
pub noted_run_ends : {A D : Type 0} (facts : DoorFacts D) (kept : Option (List ℕ) → Type 0) (doors doors' : List D) (file file' cart cart' movie movie' old new : Option (List ℕ)) (begun : Bool) (end : Result (Unit {0}) DeskFault)
    → IsNotedDeskRun A facts kept doors doors' file file' cart cart' movie movie' old new begun end → IsNotedDeskRun A end_facts kept (map (door_ends facts) doors) (map (door_ends facts) doors) file file' cart cart' movie movie' old new begun end
noted_run_ends facts kept doors doors' file file' cart cart' movie movie' old new begun end (inl (fault, is, stops, (not, held, (same, keeps)))) = inl (fault, is, stops, (not, held, (refl, keeps)))
noted_run_ends facts kept doors doors' file file' cart cart' movie movie' old new begun end (inr (image, said, whole, whole', inl (fault, is, why, (not, held, (same, keeps))))) = inr (image, said, whole, whole', inl (fault, is, why, (not, held, (refl, keeps))))
noted_run_ends facts kept doors doors' file file' cart cart' movie movie' old new begun end (inr (image, said, whole, whole', inr (content, is, on))) =
    inr (image, said, whole, whole', inr (content, is, noted_on_ends facts kept doors doors' content file file' old new begun end on))
