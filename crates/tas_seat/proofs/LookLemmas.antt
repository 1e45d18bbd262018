-- Commands that make no edit.
use Rattle.std.proofs.Common.{◌≡◌, ℕ, ◌+◌, ◌≤◌, [], ◌∷◌, length, true, false, Some, None, Result, Ok, Err, inl, inr, refl, sym, ap, subst, ◌∙◌}
use Rattle.std.specs.Prelude.{MatchResult}
use Rattle.std.proofs.lemmas.Option.{slice_get_past}
use Rattle.vcs_tia.specs.Picture.{lit_count}
use Rattle.vcs_inputs.specs.declared.input.Input.{Input}
use Rattle.tas_published.specs.History.{movie_of}
use Rattle.tas_published.specs.declared.errors.ShotError.{ShotError}
use Rattle.tas_published.specs.declared.errors.ShotError.TheVariants.{NoEntry as NoShotEntry, NoFrame as NoShotFrame, Memory as NoShotMemory, Halted as ShotHalted}
use Rattle.tas_session.specs.Shots.{IsShotAt, MatchPlayed}
use Rattle.tas_session.specs.declared.replies.Shot.{Shot as ShotOf}
use Rattle.tas_published.proofs.PrefixLemmas.{prefix_trans}
use Rattle.tas_published.specs.Looks.{answer_input}
use Rattle.tas_published.specs.declared.errors.InputError.{InputError}
use Rattle.tas_desk.specs.Seats.{SeatContent, HasSeen, KeepsZone, IsInput, IsZoneShot}
use Rattle.tas_desk.specs.Work.{none_worked, AreJobs, IsTally, KeepsCart}
use Rattle.tas_desk.specs.Zones.{ZoneContent, CutsWindow, IsPlayed, IsShared}
use Rattle.tas_desk.specs.declared.work.Worked.{Worked as Counted}
use Rattle.tas_desk.proofs.WorkLemmas.{one_job}
use Rattle.tas_engines.specs.declared.fault.RunFault.{RunFault}
use Rattle.tas_language.specs.declared.command.Command.{Command}
use Rattle.tas_language.specs.declared.command.Command.TheVariants.{Length, InputAt, Shot, Work}
use Rattle.tas_language.specs.declared.reply.Reply.{Reply}
use Rattle.tas_language.specs.declared.reply.Reply.TheVariants.{Measured, Pressed, NoFrame, Drawn, Worked, OutOfMemory}
use Rattle.tas_seat.specs.Turns.{standing_of, input_reply}
use Rattle.tas_seat.specs.Requests.{Rests, Plays}
use Rattle.tas_seat.specs.Seats.{talk_state_at, IsAnswered}
use Rattle.tas_seat.specs.Outcomes.{unshown_as, IsUnanswered}
use Rattle.tas_seat.specs.Inside.Looking.{IsShotFound}
use Rattle.tas_seat.proofs.SeatLemmas.{seen_more, looked_nothing, rests, plays_at, gains_at}
use Rattle.tas_seat.proofs.EditLemmas.{unforeseen}
use Rattle.tas_seat.proofs.ReachLemmas.{shot_told}

pub length_answered : (A : Type 0) (before now : SeatContent A) (at len : ℕ) → KeepsZone before now → at ≡ length now.front → len ≡ length (movie_of now.front).inputs → IsAnswered A before now Length (Measured at len)
length_answered A before now at len keeps here long = record {
  at = now.front;
  turn = (unforeseen false, ap (λ (n : ℕ). Measured n len) here ∙ ap (Measured (length now.front)) long, refl);
  leaves = rests before now now.front now.front keeps.zone;
  seat = looked_nothing before now keeps.seen;
  zone = keeps.zone;
  counts = tt;
}

-- ---- inputs

pub input_answered : (A : Type 0) (before now : SeatContent A) (k at : ℕ) (input : Input) → KeepsZone before now → (at ≡ length now.front) × (answer_input (movie_of now.front) k ≡ Some input) → IsAnswered A before now (InputAt k) (Pressed at input)
input_answered A before now k at input keeps is = record {
  at = now.front;
  turn = (unforeseen false, ap (λ (n : ℕ). Pressed n input) is.0 ∙ ap (input_reply (standing_of now.front)) (sym is.1), refl);
  leaves = rests before now now.front now.front keeps.zone;
  seat = looked_nothing before now keeps.seen;
  zone = keeps.zone;
  counts = tt;
}

-- a name of an error
pub input_error_is : {A : Type 0} (before now : SeatContent A) (k : ℕ) (error said : InputError) → error ≡ said → IsInput before now k (Err error) → IsInput before now k (Err said)
input_error_is before now k error said is found = subst (λ (x : InputError). IsInput before now k (Err x)) is found

pub no_input_answered : (A : Type 0) (before now : SeatContent A) (k at len : ℕ) → KeepsZone before now → (at ≡ length now.front) × (len ≡ length (movie_of now.front).inputs) × (len ≤ k) → IsAnswered A before now (InputAt k) (NoFrame at len)
no_input_answered A before now k at len keeps is =
    let none : answer_input (movie_of now.front) k ≡ None = slice_get_past (movie_of now.front).inputs k (subst (λ (n : ℕ). n ≤ k) is.1 is.2) in
    record {
      at = now.front;
      turn = (unforeseen false, ap (λ (n : ℕ). NoFrame n len) is.0 ∙ ap (NoFrame (length now.front)) is.1 ∙ ap (input_reply (standing_of now.front)) (sym none), refl);
      leaves = rests before now now.front now.front keeps.zone;
      seat = looked_nothing before now keeps.seen;
      zone = keeps.zone;
      counts = tt;
    }

-- ---- shots

drawn_here : {A B : Type 0} (before now : SeatContent A) (k : ℕ) (drawn : Result (ShotOf B) ShotError) → IsShotAt now.front k drawn → IsZoneShot before now k drawn → MatchPlayed drawn (CutsWindow before.zone now.zone) (now.zone ≡ before.zone)
    → IsShotFound (standing_of now.front) (now ≡ before) (now.zone ≡ before.zone) (λ ran. IsPlayed before.zone now.zone now.front k ran × CutsWindow before.zone now.zone) k drawn
drawn_here before now k (Ok shot) is zone cut = (is.0, is.1, is.2, (zone, cut))
drawn_here before now k (Err NoShotEntry) is zone cut = zone
drawn_here before now k (Err (NoShotFrame at len)) is zone cut = (is.0, is.1, is.2, zone)
drawn_here before now k (Err NoShotMemory) is zone cut = (is, zone)
drawn_here before now k (Err (ShotHalted at halt)) is zone cut = (is.0, is.1, (zone.0, (zone.1, cut)))

pub shot_answered : {A B : Type 0} (before now : SeatContent A) (k : ℕ) (drawn : Result (ShotOf B) ShotError) (r : Result Reply RunFault) → HasSeen before now → IsShotAt now.front k drawn → IsZoneShot before now k drawn
    → MatchPlayed drawn (CutsWindow before.zone now.zone) (now.zone ≡ before.zone) → MatchResult drawn (λ shot. r ≡ Ok (Drawn shot.at shot.frame shot.ran (lit_count shot.picture))) (λ error. r ≡ unshown_as error)
    → MatchResult r (IsAnswered A before now (Shot k)) (IsUnanswered before now)
shot_answered {A} before now k drawn r seen is zone cut has =
    shot_told (IsAnswered A before now (Shot k)) (IsUnanswered before now) (movie_of now.front) (length now.front) k (now ≡ before) (now.zone ≡ before.zone) (Rests (talk_state_at now.front before.zone) (talk_state_at now.front now.zone))
    (λ ran. IsPlayed before.zone now.zone now.front k ran × CutsWindow before.zone now.zone) (Plays (talk_state_at now.front before.zone) (talk_state_at now.front now.zone) k (k + 1)) drawn r (drawn_here before now k drawn is zone cut) has (rests before now now.front now.front)
    (λ ran played. plays_at before now now.front k ran played.0)
    (λ reply turn leaves kept. record {
      at = now.front;
      turn = turn;
      leaves = leaves;
      seat = looked_nothing before now seen;
      zone = elim kept [
        | inl same ↦ inl same
        | inr played ↦ inr played.1.1
      ];
      counts = tt;
    }) (λ same. same)

-- ---- work

pub work_refused : (A : Type 0) (before now : SeatContent A) (k : ℕ) → HasSeen before now → now.zone ≡ before.zone → IsAnswered A before now (Work k) OutOfMemory
work_refused A before now k seen zone = record { at = now.front; turn = (unforeseen true, refl, refl); leaves = rests before now now.front now.front zone; seat = looked_nothing before now seen; zone = inl zone; counts = tt }

pub work_answered : (A : Type 0) (before mid now : SeatContent A) (k : ℕ) (done : Counted) (gained : ℕ) → KeepsZone before mid → HasSeen mid now → done.jobs ≡ 1 → IsTally done → AreJobs before.front none_worked (k ∷ []) done mid.front
    → (KeepsCart before.front mid.front → done.stale ≡ 0) → IsShared mid.zone now.zone now.front gained → IsAnswered A before now (Work k) (Worked done.jobs done.kept done.stale)
work_answered A before mid now k done gained keeps seen one tally jobs current shared =
    let whole : IsShared before.zone now.zone now.front gained = subst (λ (z : ZoneContent A). IsShared z now.zone now.front gained) keeps.zone shared in
    record {
      at = now.front;
      turn = (record { refused = false; ran = 0; kept = done.kept; stale = done.stale }, ap (λ (n : ℕ). Worked n done.kept done.stale) one, refl);
      leaves = gains_at before now now.front gained whole;
      seat = looked_nothing before now (seen_more before mid now keeps.seen seen);
      zone = inr whole.cut;
      counts = record {
        job = one_job before.front mid.front now.front k done jobs seen.begins;
        tally = tally;
        current = λ still. current (λ front begins ends. still front begins (prefix_trans front mid.front now.front ends seen.begins));
      };
    }

-- a name of a command
pub answered_as : (A : Type 0) (before now : SeatContent A) (command said : Command) (r : Result Reply RunFault) → command ≡ said → MatchResult r (IsAnswered A before now said) (IsUnanswered before now)
    → MatchResult r (IsAnswered A before now command) (IsUnanswered before now)
answered_as A before now command said r is told = subst (λ (x : Command). MatchResult r (IsAnswered A before now x) (IsUnanswered before now)) (sym is) told
