-- What is published after entries that can come next.
use Rattle.std.proofs.Common.{◌≡◌, ℕ, ◌≤◌, List, [], ◌++◌, length, ap, sym, ◌∙◌, subst, arith, length-append}
use Rattle.logbook.specs.Pages.{Book}
use Rattle.tas_movie.specs.Content.{MovieContent}
use Rattle.tas_movie.specs.declared.edit.Edit.{Edit}
use Rattle.std.proofs.lemmas.List.{length-map}
use Rattle.std.proofs.Math.Seq.{take-append_seam}
use Rattle.std.specs.Prelude.{take}
use Rattle.tas_published.specs.declared.entry.Entry.{Entry}
use Rattle.tas_published.specs.Version.{VersionContent, version_of}
use Rattle.tas_published.specs.History.{most_edits, movie_of, IsLegal}
use Rattle.tas_published.specs.declared.reader_view.ReaderView.{ReaderView}
use Rattle.tas_published.specs.Published.{PublishedContent, PublisherContent, StepContent, step_of, view_of, after, pushed_by, IsSoundPublished, IsCurrent, Follows}
use Rattle.tas_published.specs.declared.journal.Step.{Step}
use Rattle.tas_published.specs.Strokes.{entries_in, edits_in, edited_by, AreNext}
use Rattle.tas_published.proofs.HistoryLemmas.{movie_of-on, legal-on, room-on}

sound_pushed : {A : Type 0} (x : PublishedContent A) (log es : List (Entry A)) (b : Book) → x.version.history ≡ log → IsSoundPublished x → AreNext log es → IsSoundPublished (after x (step_of (edits_in es) (version_of b (log ++ es))))
sound_pushed {A} x log es b same s may =
    let long = length-append log es in
    let many : length (edits_in es) ≡ length es = length-map es (λ (e : Entry A). e.edit) in
    let here : x.at ≡ length log = s.at ∙ ap length same in
    let most : length log ≤ most_edits = subst (λ (l : List (Entry A)). length l ≤ most_edits) same s.most in
    let room = room-on log es most may in record {
      movie = ap (λ (t : MovieContent). edited_by t (edits_in es)) (s.movie ∙ ap (λ (h : List (Entry A)). movie_of h) same) ∙ sym (movie_of-on log es);
      at = omega (arith, long, many, here, room);
      most = omega (arith, long, room);
      legal = legal-on log es (subst (λ (h : List (Entry A)). IsLegal h) same s.legal) may;
    }

pub follows : {A : Type 0} (x : PublishedContent A) (pending : List (StepContent A)) (b : Book) (log seen : List (Entry A)) (step : Step A) (c : StepContent A) → IsCurrent x pending b log seen → AreNext log (entries_in step)
    → c ≡ step_of (edits_in (entries_in step)) (version_of b (log ++ entries_in step)) → Follows x c
follows {A} x pending b log seen step c s may is =
    subst (λ (d : StepContent A). Follows x d) (sym is)
    (record { registry = s.registry; step = step; more = ap (λ (l : List (Entry A)). l ++ entries_in step) (sym s.same); sound = sound_pushed x log (entries_in step) b s.same s.sound may })

accepted : {A : Type 0} (x y : PublishedContent A) (pending now : List (StepContent A)) (b : Book) (log seen es : List (Entry A)) (c : StepContent A) (v : ReaderView A) → IsCurrent x pending b log seen → AreNext log es → c ≡ step_of (edits_in es) (version_of b (log ++ es))
    → now ≡ [] → y ≡ after x c → v ≡ view_of y.version → IsCurrent y now b (log ++ es) v.seen
accepted {A} x y pending now b log seen es c v s may is none made view =
    let all : y ≡ after x (step_of (edits_in es) (version_of b (log ++ es))) = made ∙ ap (after x) is in record {
      none = none;
      registry = ap (λ (p : PublishedContent A). p.version.registry) all;
      same = ap (λ (p : PublishedContent A). p.version.history) all;
      view = ap (λ (w : ReaderView A). w.seen) view ∙ ap (λ (p : PublishedContent A). p.version.history) all;
      sound = subst IsSoundPublished (sym all) (sound_pushed x log es b s.same s.sound may);
    }

-- what is published is the journal, after the change
pub accepted_as : {A : Type 0} (x y : PublishedContent A) (pending now : List (StepContent A)) (b b' : Book) (log log' seen es : List (Entry A)) (c : StepContent A) (v : ReaderView A) → IsCurrent x pending b log seen → AreNext log es → c ≡ step_of (edits_in es) (version_of b (log ++ es))
    → now ≡ [] → y ≡ after x c → v ≡ view_of y.version → b' ≡ b → log' ≡ log ++ es → IsCurrent y now b' log' v.seen
accepted_as {A} x y pending now b b' log log' seen es c v s may is none made view book list =
    subst (λ (d : Book). IsCurrent y now d log' v.seen) (sym book) (subst (λ (l : List (Entry A)). IsCurrent y now b l v.seen) (sym list) (accepted x y pending now b log seen es c v s may is none made view))

-- the published movie is the edited one
pub edited_as : {A : Type 0} (x y : PublishedContent A) (edits : List (Edit A)) (m : VersionContent A) (c : StepContent A) → c ≡ step_of edits m → y ≡ after x c → y.movie ≡ edited_by x.movie edits
edited_as {A} x y edits m c is made = ap (λ (p : PublishedContent A). p.movie) (made ∙ ap (after x) is)

-- the publisher after a step
pub pushed_as : {A : Type 0} (old : PublisherContent A) (b b' : Book) (log log' : List (Entry A)) (m m' : MovieContent) (es : List (Entry A)) → record { registry = b; journal = log; movie = m } ≡ old → b' ≡ b → log' ≡ log ++ es → m' ≡ edited_by m (edits_in es)
    → ◌≡◌ {A = PublisherContent A} (record { registry = b'; journal = log'; movie = m' }) (pushed_by old es)
pushed_as {A} old b b' log log' m m' es view book more new =
    let now : ◌≡◌ {A = PublisherContent A} (record { registry = b'; journal = log'; movie = m' }) (record { registry = b; journal = log ++ es; movie = edited_by m (edits_in es) }) = λ i. record { registry = book i; journal = more i; movie = new i } in
    now ∙ ap (λ (p : PublisherContent A). pushed_by p es) view

-- the publisher where nothing has changed
pub left_as : {A : Type 0} (old : PublisherContent A) (b b' : Book) (log log' : List (Entry A)) (m m' : MovieContent) → record { registry = b; journal = log; movie = m } ≡ old → b' ≡ b → log' ≡ log → m' ≡ m
    → record { registry = b'; journal = log'; movie = m' } ≡ old
left_as {A} old b b' log log' m m' view book same new =
    let now : ◌≡◌ {A = PublisherContent A} (record { registry = b'; journal = log'; movie = m' }) (record { registry = b; journal = log; movie = m }) = λ i. record { registry = book i; journal = same i; movie = new i } in
    now ∙ view

-- the change that stands for a step
pub change_is : {A : Type 0} (b : Book) (log items es : List (Entry A)) (edits : List (Edit A)) (op : StepContent A) (last again newest : VersionContent A) → edits ≡ edits_in es → items ≡ log ++ es → again ≡ last → last ≡ newest → newest ≡ version_of b items → op ≡ step_of edits again
    → op ≡ step_of (edits_in es) (version_of b (log ++ es))
change_is b log items es edits op last again newest p q r s t u = u ∙ (λ i. step_of (p i) ((r ∙ s ∙ t ∙ ap (version_of b) q) i))

-- what is published is the journal still
pub same_current : {A : Type 0} (x y : PublishedContent A) (pending now : List (StepContent A)) (b b' : Book) (log log' : List (Entry A)) (v w : ReaderView A) → IsCurrent x pending b log v.seen → y ≡ x → now ≡ [] → w ≡ v → b' ≡ b → log' ≡ log → IsCurrent y now b' log' w.seen
same_current {A} x y pending now b b' log log' v w s same none view book list = record {
  none = none;
  registry = ap (λ (p : PublishedContent A). p.version.registry) same ∙ s.registry ∙ sym book;
  same = ap (λ (p : PublishedContent A). p.version.history) same ∙ s.same ∙ sym list;
  view = ap (λ (u : ReaderView A). u.seen) view ∙ s.view ∙ sym list;
  sound = subst IsSoundPublished (sym same) s.sound;
}

-- entries are taken back
pub restored : {A : Type 0} (log pushed popped added : List (Entry A)) (n : ℕ) → pushed ≡ log ++ added → popped ≡ take n pushed → length log ≡ n → popped ≡ log
restored {A} log pushed popped added n more rest at = rest ∙ (λ i. take (sym at i) (more i)) ∙ take-append_seam log added
