-- What a session's answers say of the history under the lock, and why a job isn't stale.
use Rattle.std.proofs.Common.{◌≡◌, ◌≢◌, ℕ, ◌+◌, ◌<◌, ◌≤◌, List, [], ◌∷◌, ◌++◌, length, get_or, take, min, refl, ap, sym, ◌∙◌, subst, Option, Some, None, Result, Ok, Err}
use Rattle.std.proofs.lemmas.List.{take_all, take_more}
use mathlib.Core.List.{IsPrefix}
use Rattle.std.specs.Prelude.{IfOk, OnOk, OnErr, MatchResult}
use Rattle.tas_movie.specs.Content.{MovieContent}
use Rattle.tas_green.specs.declared.savestate.Savestate.{Savestate}
use Rattle.tas_green.specs.Batch.{JobContent, BatchContent}
use Rattle.tas_movie.specs.Front.{IsCommonFront}
use Rattle.tas_green.specs.Green.{IsLawful}
use Rattle.tas_green.specs.Grid.{stride}
use Rattle.tas_green.specs.Zone.{state_at, nearest, first_of, where_true, is_on_grid}
use Rattle.tas_published.specs.declared.entry.Entry.{Entry}
use Rattle.tas_session.specs.declared.replies.Offered.{Offered}
use Rattle.tas_desk.specs.declared.shared.Shared.{Shared}
use Rattle.tas_desk.specs.declared.work.Worked.{Worked}
use Rattle.tas_published.specs.History.{movie_of}
use Rattle.tas_session.specs.Session.{SessionContent}
use Rattle.tas_desk.specs.Locked.{LockedContent, locked_of}
use Rattle.tas_desk.specs.Work.{IsJobFrom, IsJobOf, IsRunOf, Takes, IsTaken, with_job, none_worked, IsJobDone, AreJobs, IsOneJob, KeepsCart}
use Rattle.tas_desk.specs.Zones.{ZoneContent, CutsWindow, IsMadeFor, IsShared, Shares}
use Rattle.tas_desk.proofs.FillLemmas.{gain_of}
use Rattle.tas_desk.proofs.GainLemmas.{taken_within}
use Rattle.tas_published.proofs.PrefixLemmas.{prefix_self, prefix_trans}

-- a session's job is one from the states under the lock
pub job_from : {A E : Type 0} (session : SessionContent A) (locked : LockedContent A) (near : ℕ) (r : Result JobContent E) → session.movie ≡ movie_of session.journal → locked_of session.journal session.zone ≡ locked
    → IfOk r (λ job. job.cart ≡ session.movie.cart) → IfOk r (λ job. job.inputs ≡ take (min near (length session.movie.inputs)) session.movie.inputs)
    → IfOk r (λ job. job.stride ≡ stride (length session.movie.inputs)) → IfOk r (λ job. job.start ≡ nearest (min near (length session.movie.inputs)) session.zone)
    → IfOk r (IsJobFrom locked.zone (movie_of locked.journal) near)
job_from {A} session locked near (Ok job) movie view cart inputs step start =
    subst (λ (l : LockedContent A). IsJobFrom l.zone (movie_of l.journal) near job) view
    (subst (λ (m : MovieContent). IsJobFrom session.zone m near job) movie (record { cart = cart; inputs = inputs; step = step; start = start }))
job_from session locked near (Err e) movie view cart inputs step start = tt

-- what a session takes is what the states under the lock take
pub takes_as : {A E : Type 0} (old new : SessionContent A) (locked : LockedContent A) (batch : BatchContent) (r : Result Offered E) → old.movie ≡ movie_of old.journal → locked_of old.journal old.zone ≡ locked
    → IfOk r (λ offered. IsCommonFront batch.inputs old.movie.inputs offered.front)
    → IfOk r (λ offered. (f : ℕ) → state_at f new.zone ≡ first_of (state_at f old.zone) (where_true (is_on_grid (stride (length old.movie.inputs)) offered.front f) (state_at f batch.states)))
    → IfOk r (λ offered. length new.zone ≡ length old.zone + offered.kept)
    → IfOk r (Takes locked.zone new.zone (movie_of locked.journal) batch)
takes_as {A} old new locked batch (Ok offered) movie view front states gained =
    subst (λ (l : LockedContent A). Takes l.zone new.zone (movie_of l.journal) batch offered) view
    (subst (λ (m : MovieContent). Takes old.zone new.zone m batch offered) movie (record { front = front; states = states; gained = gained }))
takes_as old new locked batch (Err e) movie view front states gained = tt

-- the states of a session are lawful for the movie of the history under the lock
pub lawful_as : {A : Type 0} (session : SessionContent A) (locked : LockedContent A) → session.movie ≡ movie_of session.journal → locked_of session.journal session.zone ≡ locked → IsLawful session.movie session.zone
    → IsLawful (movie_of locked.journal) locked.zone
lawful_as {A} session locked movie view lawful =
    subst (λ (l : LockedContent A). IsLawful (movie_of l.journal) l.zone) view (subst (λ (m : MovieContent). IsLawful m session.zone) movie lawful)

-- so are those of the same session once it has taken others
pub lawful_still : {A : Type 0} (old new : SessionContent A) (locked : LockedContent A) → old.movie ≡ movie_of old.journal → locked_of old.journal old.zone ≡ locked → new.movie ≡ old.movie → IsLawful new.movie new.zone
    → IsLawful (movie_of locked.journal) new.zone
lawful_still {A} old new locked movie view same lawful =
    subst (λ (l : LockedContent A). IsLawful (movie_of l.journal) new.zone) view (subst (λ (m : MovieContent). IsLawful m new.zone) (same ∙ movie) lawful)

-- a job from the states under the lock is one from a lawful zone
pub job_of : {A E : Type 0} (locked : LockedContent A) (front : List (Entry A)) (near : ℕ) (r : Result JobContent E) → front ≡ locked.journal → IsLawful (movie_of locked.journal) locked.zone
    → IfOk r (IsJobFrom locked.zone (movie_of locked.journal) near) → IfOk r (IsJobOf (movie_of front) near)
job_of {A} locked front near (Ok job) same lawful is = subst (λ (h : List (Entry A)). IsJobOf (movie_of h) near job) (sym same) (record { kept = locked.zone; lawful = lawful; is = is })
job_of locked front near (Err e) same lawful is = tt

-- what the states under the lock take is taken by a lawful zone
pub taken_of : {A E : Type 0} (locked : LockedContent A) (now : List Savestate) (front : List (Entry A)) (batch : BatchContent) (r : Result Offered E) → front ≡ locked.journal → IsLawful (movie_of locked.journal) locked.zone → IsLawful (movie_of locked.journal) now
    → IfOk r (Takes locked.zone now (movie_of locked.journal) batch) → IfOk r (IsTaken (movie_of front) batch)
taken_of {A} locked now front batch (Ok offered) same lawful lawful_now takes =
    subst (λ (h : List (Entry A)). IsTaken (movie_of h) batch offered) (sym same) (record { before = locked.zone; lawful = lawful; now = now; lawful_now = lawful_now; takes = takes })
taken_of locked now front batch (Err e) same lawful lawful_now takes = tt

-- a share of the states under the lock is one of a lawful zone
pub shared_of : {A E : Type 0} (locked : LockedContent A) (before now : ZoneContent A) (front : List (Entry A)) (r : Result Shared E) → front ≡ locked.journal → IsLawful (movie_of locked.journal) locked.zone → OnOk r (IsMadeFor now locked.journal)
    → IfOk r (λ shared. Shares before.movie now.movie before.states locked.zone now.states shared.gained) → OnOk r (CutsWindow before now) → OnErr r (now ≡ before)
    → MatchResult r (λ shared. IsShared before now front shared.gained) (λ _. now ≡ before)
shared_of {A} locked before now front (Ok shared) same lawful made gain cut memory =
    subst (λ (h : List (Entry A)). IsShared before now h shared.gained) (sym same)
    (record { made = made; other = locked.zone; others = subst (λ (m : MovieContent). IsLawful m locked.zone) (sym made.movie) lawful; gain = gain; cut = cut })
shared_of locked before now front (Err e) same lawful made gain cut memory = memory

-- the histories up to one in between have the first one's cartridge, too
pub keeps_before : {A : Type 0} (one other last : List (Entry A)) → IsPrefix other last → KeepsCart one last → KeepsCart one other
keeps_before one other last more keeps = λ front begins ends. keeps front begins (prefix_trans front other last ends more)

-- and so have those from one in between on
pub keeps_behind : {A : Type 0} (one other last : List (Entry A)) → IsPrefix one other → IsPrefix other last → KeepsCart one last → KeepsCart other last
keeps_behind one other last first more keeps = λ front begins ends. keeps front (prefix_trans one other front first begins) ends ∙ sym (keeps other first more)

-- a batch of a movie's cartridge is offered to a later movie with another one only where the cartridge changed
pub never_stale : {A : Type 0} (one other last : List (Entry A)) (cart : List ℕ) → IsPrefix one other → IsPrefix other last → cart ≡ (movie_of other).cart → cart ≢ (movie_of last).cart → KeepsCart one last → ⊥
never_stale one other last cart first more is differs keeps =
    differs (is ∙ keeps other first more ∙ sym (keeps last (prefix_trans one other last first more) (prefix_self last)))

-- none is stale with one job more, where none was, and the cartridge stays
pub still_current : {A E : Type 0} (one other last : List (Entry A)) (worked now : Worked) (gained : Option ℕ) → IsPrefix one other → IsPrefix other last → (KeepsCart one other → worked.stale ≡ 0)
    → (KeepsCart other last → ◌≡◌ {A = Result (Option ℕ) E} (Ok gained) (Ok None) → ⊥) → now ≡ with_job worked gained → KeepsCart one last → now.stale ≡ 0
still_current one other last worked now (Some kept) first more none current is keeps = ap (λ (w : Worked). w.stale) is ∙ none (keeps_before one other last more keeps)
still_current one other last worked now None first more none current is keeps = absurd (current (keeps_behind one other last first more keeps) refl)

-- ---- jobs, one after the other

-- a batch whose states a zone took is of a job that isn't stale
pub job_done : {A : Type 0} (before at now : List (Entry A)) (near : ℕ) (job : JobContent) (batch : BatchContent) (offered : Offered) → IsPrefix before at → IsPrefix at now → IsJobOf (movie_of at) near job
    → IsRunOf job batch → IsTaken (movie_of now) batch offered → (batch.cart ≢ (movie_of now).cart → ⊥) → IsJobDone before now near (Some offered.kept)
job_done before at now near job batch offered begins goes_on of run taken same = record {
  at = at;
  begins = begins;
  goes_on = goes_on;
  job = job;
  taken_at = of;
  batch = batch;
  run = run;
  stale = (λ none. absurd cc, λ differs. absurd (same (λ is. differs (sym is ∙ run.cart ∙ of.is.cart))));
  taken = gain_of (movie_of at) (movie_of now) near job batch offered of run taken;
  most = taken_within (movie_of now) batch offered near (movie_of at).inputs taken (run.inputs ∙ of.is.inputs);
}

-- one of another cartridge is of a job that is
pub job_stale : {A : Type 0} (before at now : List (Entry A)) (near : ℕ) (job : JobContent) (batch : BatchContent) → IsPrefix before at → IsPrefix at now → IsJobOf (movie_of at) near job
    → IsRunOf job batch → batch.cart ≢ (movie_of now).cart → IsJobDone before now near None
job_stale before at now near job batch begins goes_on of run other = record {
  at = at;
  begins = begins;
  goes_on = goes_on;
  job = job;
  taken_at = of;
  batch = batch;
  run = run;
  stale = (λ none is. other (run.cart ∙ of.is.cart ∙ sym is), λ differs. refl);
  taken = tt;
  most = tt;
}

-- a job that was done since a history was done since each one before
job_since : {A : Type 0} (one before now : List (Entry A)) (near : ℕ) (gained : Option ℕ) → IsPrefix one before → IsJobDone before now near gained → IsJobDone one now near gained
job_since one before now near gained first done = record {
  at = done.at;
  begins = prefix_trans one before done.at first done.begins;
  goes_on = done.goes_on;
  job = done.job;
  taken_at = done.taken_at;
  batch = done.batch;
  run = done.run;
  stale = done.stale;
  taken = done.taken;
  most = done.most;
}

-- one job more
jobs_more : {A : Type 0} (before now then : List (Entry A)) (worked last : Worked) (targets : List ℕ) (near : ℕ) (gained : Option ℕ) → AreJobs before worked targets last now → IsJobDone now then near gained
    → AreJobs before worked (targets ++ near ∷ []) (with_job last gained) then
unfolding AreJobs
jobs_more before now then worked last [] near gained jobs done =
    (gained, then, job_since before now then near gained jobs.1 done, (ap (λ (w : Worked). with_job w gained) jobs.0, prefix_self then))
jobs_more before now then worked last (target ∷ targets) near gained jobs done =
    (jobs.0, jobs.1, jobs.2, jobs_more jobs.1 now then (with_job worked jobs.0) last targets near gained jobs.3 done)

-- the history may go on after the last one
pub jobs_then : {A : Type 0} (before now then : List (Entry A)) (worked last : Worked) (targets : List ℕ) → AreJobs before worked targets last now → IsPrefix now then → AreJobs before worked targets last then
unfolding AreJobs
jobs_then before now then worked last [] jobs more = (jobs.0, prefix_trans before now then jobs.1 more)
jobs_then before now then worked last (target ∷ targets) jobs more = (jobs.0, jobs.1, jobs.2, jobs_then jobs.1 now then (with_job worked jobs.0) last targets jobs.3 more)

-- at first there is none
pub jobs_none : {A : Type 0} (front : List (Entry A)) → AreJobs front none_worked [] none_worked front
unfolding AreJobs
jobs_none front = (refl, prefix_self front)

-- the next target's
pub jobs_next : {A : Type 0} (before now then : List (Entry A)) (last next : Worked) (targets : List ℕ) (i near : ℕ) (gained : Option ℕ) → i < length targets → near ≡ get_or targets i 0
    → AreJobs before none_worked (take i targets) last now → IsJobDone now then near gained → next ≡ with_job last gained → AreJobs before none_worked (take (i + 1) targets) next then
jobs_next {A} before now then last next targets i near gained lt here jobs done is =
    let more : take (i + 1) targets ≡ take i targets ++ near ∷ [] = take_more targets i 0 lt ∙ ap (λ (n : ℕ). take i targets ++ n ∷ []) (sym here) in
    subst (λ (list : List ℕ). AreJobs before none_worked list next then) (sym more)
    (subst (λ (w : Worked). AreJobs before none_worked (take i targets ++ near ∷ []) w then) (sym is) (jobs_more before now then none_worked last (take i targets) near gained jobs done))

-- all of them
pub jobs_all : {A : Type 0} (before now : List (Entry A)) (last : Worked) (targets : List ℕ) (i : ℕ) → length targets ≤ i → AreJobs before none_worked (take i targets) last now → AreJobs before none_worked targets last now
jobs_all before now last targets i le jobs = subst (λ (list : List ℕ). AreJobs before none_worked list last now) (take_all i targets le) jobs

-- those before the one that was refused
pub jobs_before : {A : Type 0} (before now then : List (Entry A)) (last : Worked) (targets : List ℕ) (i : ℕ) → last.jobs ≡ i → AreJobs before none_worked (take i targets) last now → IsPrefix now then
    → AreJobs before none_worked (take last.jobs targets) last then
jobs_before before now then last targets i is jobs more =
    subst (λ (n : ℕ). AreJobs before none_worked (take n targets) last then) (sym is) (jobs_then before now then none_worked last (take i targets) jobs more)

-- one target's
pub one_job : {A : Type 0} (before now later : List (Entry A)) (near : ℕ) (worked : Worked) → AreJobs before none_worked (near ∷ []) worked now → IsPrefix now later → IsOneJob before later near worked
unfolding AreJobs
one_job before now later near worked jobs more = record {
  gained = jobs.0;
  last = jobs.1;
  job = jobs.2;
  counted = jobs.3.0;
  goes_on = prefix_trans jobs.1 now later jobs.3.1 more;
}
