-- What a shot answers.
use Rattle.std.proofs.Common.{◌≡◌, ℕ, ◌+◌, ◌<◌, true, List, length, refl, ap, sym, ◌∙◌, subst, arith, Option, Some, None, Result, Ok, Err}
use Rattle.std.proofs.lemmas.Bool.Decides.{nat_tests}
use Rattle.std.specs.Prelude.{nat_lt, if◌then◌else◌, IfOk, IfErr, OnOk, MatchResult}
use Rattle.vcs_cpu.specs.declared.halt.Halt.{Halt}
use Rattle.tas_movie.specs.Content.{MovieContent}
use Rattle.tas_green.specs.Run.{state_after, picture_of, answer_of}
use Rattle.tas_green.specs.Zone.{nearest}
use Rattle.tas_published.specs.declared.entry.Entry.{Entry}
use Rattle.tas_session.specs.declared.replies.Shot.{Shot}
use Rattle.tas_published.specs.declared.errors.ShotError.{ShotError}
use Rattle.tas_published.specs.declared.errors.ShotError.TheVariants.{Halted}
use Rattle.tas_session.specs.Answers.{answer_shot, shown_of}
use Rattle.tas_published.specs.History.{movie_of}
use Rattle.tas_session.specs.Session.{SessionContent}
use Rattle.tas_session.specs.Shots.{IsShot, IsShotError, IsShotAt, MatchPlayed}

there : (k n : ℕ) (x : Result (List ℕ) Halt) → k < n → (if nat_lt k n then Some x else None) ≡ Some x
there k n x lt =
    let yes : nat_lt k n ≡ true = grind (arith, nat_tests) in
    ap (λ b. if b then Some x else None) yes

-- a frame that isn't halted is shown by its picture
picture_shown : (movie : MovieContent) (k : ℕ) (halt : Option Halt) (picture : List ℕ) (u : Unit {0}) → k < length movie.inputs → (state_after movie (k + 1)).halt ≡ halt → Ok u ≡ answer_of halt → picture ≡ picture_of movie k → answer_shot movie k ≡ Some (Ok picture)
picture_shown movie k None picture u lt none end same =
    there k (length movie.inputs) _ lt ∙ ap (λ h. Some (shown_of h (picture_of movie k))) none ∙ ap (λ (p : List ℕ). Some (Ok p)) (sym same)
picture_shown movie k (Some halt) picture u lt is end same = absurd (cc end)

-- a halted one by its halt
halt_shown : (movie : MovieContent) (k : ℕ) (halt : Option Halt) (error : Halt) → k < length movie.inputs → (state_after movie (k + 1)).halt ≡ halt → Err error ≡ answer_of halt → answer_shot movie k ≡ Some (Err error)
halt_shown movie k None error lt none end = absurd (cc end)
halt_shown movie k (Some halt) error lt is end =
    let same : halt ≡ error = cc end in
    there k (length movie.inputs) _ lt ∙ ap (λ h. Some (shown_of h (picture_of movie k))) is ∙ ap (λ (h : Halt). Some (Err h)) same

-- a session's shot
pub session_shot : {A B : Type 0} (session : SessionContent A) (movie : MovieContent) (k at ran : ℕ) (picture : List ℕ) (end : Result (Unit {0}) Halt) (r : Result (Shot B) ShotError)
    → movie ≡ session.movie → at ≡ length session.journal → ran + nearest k session.zone ≡ k + 1 → k < length session.movie.inputs
    → end ≡ answer_of (state_after movie (k + 1)).halt → OnOk end (picture ≡ picture_of movie k)
    → OnOk end (r ≡ Ok (record { at = at; frame = k; ran = ran; picture = picture })) → IfErr end (λ halt. r ≡ Err (Halted at halt))
    → MatchResult r (IsShot session k) (IsShotError session k)
session_shot {A} {B} session movie k at ran picture (Ok u) r is count frames below answer drawn shot halted =
    let lt = subst (λ (m : MovieContent). k < length m.inputs) (sym is) below in
    let shows = subst (λ (m : MovieContent). answer_shot m k ≡ Some (Ok picture)) is (picture_shown movie k _ picture u lt refl answer drawn) in
    subst (λ (a : Result (Shot B) ShotError). MatchResult a (IsShot session k) (IsShotError session k)) (sym shot) (record { shows = shows; at = count; frame = refl; ran = frames })
session_shot {A} {B} session movie k at ran picture (Err halt) r is count frames below answer drawn shot halted =
    let lt = subst (λ (m : MovieContent). k < length m.inputs) (sym is) below in
    let shows = subst (λ (m : MovieContent). answer_shot m k ≡ Some (Err halt)) is (halt_shown movie k _ halt lt refl answer) in
    subst (λ (a : Result (Shot B) ShotError). MatchResult a (IsShot session k) (IsShotError session k)) (sym halted) (shows, count)

-- a shot at a history
pub shot_at : {A B : Type 0} (history : List (Entry A)) (movie : MovieContent) (k at ran : ℕ) (picture : List ℕ) (end : Result (Unit {0}) Halt) (r : Result (Shot B) ShotError)
    → movie ≡ movie_of history → at ≡ length history → k < length (movie_of history).inputs
    → end ≡ answer_of (state_after movie (k + 1)).halt → OnOk end (picture ≡ picture_of movie k)
    → OnOk end (r ≡ Ok (record { at = at; frame = k; ran = ran; picture = picture })) → IfErr end (λ halt. r ≡ Err (Halted at halt))
    → IsShotAt history k r
shot_at {A} {B} history movie k at ran picture (Ok u) r is count below answer drawn shot halted =
    let lt = subst (λ (m : MovieContent). k < length m.inputs) (sym is) below in
    let shows = subst (λ (m : MovieContent). answer_shot m k ≡ Some (Ok picture)) is (picture_shown movie k _ picture u lt refl answer drawn) in
    subst (λ (a : Result (Shot B) ShotError). IsShotAt history k a) (sym shot) (shows, count, refl)
shot_at {A} {B} history movie k at ran picture (Err halt) r is count below answer drawn shot halted =
    let lt = subst (λ (m : MovieContent). k < length m.inputs) (sym is) below in
    let shows = subst (λ (m : MovieContent). answer_shot m k ≡ Some (Err halt)) is (halt_shown movie k _ halt lt refl answer) in
    subst (λ (a : Result (Shot B) ShotError). IsShotAt history k a) (sym halted) (shows, count)

-- frames were played for it
pub was_played : {B : Type 0} (k at ran : ℕ) (picture : List ℕ) (end : Result (Unit {0}) Halt) (r : Result (Shot B) ShotError) (P Q : Type 0)
    → OnOk end (r ≡ Ok (record { at = at; frame = k; ran = ran; picture = picture })) → IfErr end (λ halt. r ≡ Err (Halted at halt)) → P → MatchPlayed r P Q
was_played {B} k at ran picture (Ok u) r P Q shot halted p = subst (λ (a : Result (Shot B) ShotError). MatchPlayed a P Q) (sym shot) p
was_played {B} k at ran picture (Err halt) r P Q shot halted p = subst (λ (a : Result (Shot B) ShotError). MatchPlayed a P Q) (sym halted) p

-- and this many
pub so_many : {B : Type 0} (k at ran : ℕ) (picture : List ℕ) (end : Result (Unit {0}) Halt) (r : Result (Shot B) ShotError) (P : ℕ → Type 0)
    → OnOk end (r ≡ Ok (record { at = at; frame = k; ran = ran; picture = picture })) → IfErr end (λ halt. r ≡ Err (Halted at halt)) → P ran → IfOk r (λ shot. P shot.ran)
so_many {B} k at ran picture (Ok u) r P shot halted p = subst (λ (a : Result (Shot B) ShotError). IfOk a (λ s. P s.ran)) (sym shot) p
so_many {B} k at ran picture (Err halt) r P shot halted p = subst (λ (a : Result (Shot B) ShotError). IfOk a (λ s. P s.ran)) (sym halted) tt

-- a fact is one of an answer that is no error
pub where_shown : {B : Type 0} (k at ran : ℕ) (picture : List ℕ) (end : Result (Unit {0}) Halt) (r : Result (Shot B) ShotError) (P : Type 0)
    → OnOk end (r ≡ Ok (record { at = at; frame = k; ran = ran; picture = picture })) → IfErr end (λ halt. r ≡ Err (Halted at halt)) → P → OnOk r P
where_shown {B} k at ran picture (Ok u) r P shot halted p = subst (λ (a : Result (Shot B) ShotError). OnOk a P) (sym shot) p
where_shown {B} k at ran picture (Err halt) r P shot halted p = subst (λ (a : Result (Shot B) ShotError). OnOk a P) (sym halted) tt
