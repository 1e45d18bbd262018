-- The steps that keep the rule.
use Rattle.std.proofs.Common.{◌≡◌, ℕ, ◌≢◌, Bool, true, false, true≢false, List, [], ◌∷◌, set, refl, ap, subst, sym, ◌∙◌, ⊎_elim, zero, suc, length, arith}
use Rattle.std.specs.Prelude.{nat_lt, if◌then◌else◌}
use Rattle.std.proofs.lemmas.Bool.Decides.{nat_tests}
use mathlib.Core.Option.{some, some-ne-none, some-injective}
use mathlib.Core.List.{IsPrefix}
use lib.ListN.{get_elem?}
use Rattle.crossbeam_utils.specs.Register.{Admits, TurnsAt, Forks, Merges}
use Rattle.atomic_table.proofs.Lists.{at_set, at_snoc}
use Rattle.tas_movie.specs.Content.{MovieContent, blank_movie}
use Rattle.tas_published.specs.declared.entry.Entry.{Entry}
use Rattle.tas_published.specs.declared.reader_view.ReaderView.{ReaderView}
use Rattle.tas_published.specs.Version.{VersionContent}
use Rattle.tas_published.specs.History.{movie_of, IsLegal}
use Rattle.tas_published.specs.Strokes.{entries_in}
use Rattle.tas_published.specs.Published.{PublishedContent, published_of, IsSoundPublished, HasSeenPrefix, HasSeenAll, HasSeenMore, HasStepMore, Holds, Sees, PublishesStep, PublishesNothing, learned, view_of, blank_view, StepContent, after, Follows, IsCurrent}
use Rattle.tas_published.proofs.PrefixLemmas.{prefix_trans, prefix_self, prefix_shorter}
use Rattle.tas_published.proofs.HistoryLemmas.{legal_none, movie_of-none}

off : false ≡ true → ⊥
off e = true≢false (sym e)

pub fits_none : {A : Type 0} (x : PublishedContent A) → HasSeenPrefix x blank_view
fits_none x = record { begins = (x.version.history, refl); registry = λ e. absurd (off e) }

pub fits_seen : {A : Type 0} (x : PublishedContent A) → HasSeenPrefix x (view_of x.version)
fits_seen x = record { begins = prefix_self x.version.history; registry = λ _. refl }

pub fits_more : {A : Type 0} (x y : PublishedContent A) (v : ReaderView A) → x.version.registry ≡ y.version.registry → IsPrefix x.version.history y.version.history → HasSeenPrefix x v → HasSeenPrefix y v
fits_more x y v same up f = record { begins = prefix_trans v.seen x.version.history y.version.history f.begins up; registry = λ e. f.registry e ∙ same }

pub sound_none : {A : Type 0} (movie : MovieContent) (m : VersionContent A) → movie ≡ blank_movie → m.history ≡ [] → IsSoundPublished (published_of movie 0 m)
sound_none {A} movie m blank none = record {
  movie = blank ∙ sym (movie_of-none A) ∙ ap (λ (h : List (Entry A)). movie_of h) (sym none);
  at = ap (λ (h : List (Entry A)). length h) (sym none);
  most = rw none (omega arith);
  legal = subst (λ (h : List (Entry A)). IsLegal h) (sym none) legal_none;
}

pub starts : {A : Type 0} (x : PublishedContent A) → IsSoundPublished x → Holds x (blank_view ∷ [])
starts {A} x sound = record { sound = sound; fits = one }
  where
    one : (seat : ℕ) (v : ReaderView A) → get_elem? (blank_view ∷ []) seat ≡ some v → HasSeenPrefix x v
    one zero v e = subst (HasSeenPrefix x) (some-injective _ _ e) (fits_none x)
    one (suc seat) v e = absurd (some-ne-none v (sym e))

pub admits : {A : Type 0} → Admits (Holds {A = A}) blank_view
admits {A} x views h = record {
  sound = h.sound;
  fits = λ seat v at. ⊎_elim (h.fits seat v) (λ (e : blank_view ≡ v). subst (HasSeenPrefix x) e (fits_none x)) (at_snoc views blank_view v seat at);
}

fits_set : {A : Type 0} (x : PublishedContent A) (views : List (ReaderView A)) (seat : ℕ) (w : ReaderView A) → ((j : ℕ) (u : ReaderView A) → get_elem? views j ≡ some u → HasSeenPrefix x u) → HasSeenPrefix x w → (j : ℕ) (u : ReaderView A) → get_elem? (set views seat w) j ≡ some u → HasSeenPrefix x u
fits_set x views seat w others mine j u e =
    ⊎_elim (λ (t : (j ≡ seat) × (w ≡ u)). subst (HasSeenPrefix x) t.1 mine) (λ (t : (j ≢ seat) × (get_elem? views j ≡ some u)). others j u t.1) (at_set views seat j w u e)

moves : {A : Type 0} (seat : ℕ) (x y : PublishedContent A) (views : List (ReaderView A)) → x.version.registry ≡ y.version.registry → IsPrefix x.version.history y.version.history → (IsSoundPublished x → IsSoundPublished y) → Holds x views → Holds y (set views seat (view_of y.version))
moves seat x y views same up sound h = record {
  sound = sound h.sound;
  fits = fits_set y views seat (view_of y.version) (λ j u e. fits_more x y u same up (h.fits j u e)) (fits_seen y);
}

-- a look at what is published
pub looks : {A : Type 0} (seat : ℕ) (v : ReaderView A) (x : PublishedContent A) → TurnsAt Holds seat v x x Sees
looks seat v x views h at = (
  view_of x.version,
  moves seat x x views refl (prefix_self x.version.history) (λ s. s) h,
  record { same = refl; fits = h.fits seat v at; seen = refl; sound = h.sound },
)

-- the entries of one step are published
step_turns : {A : Type 0} (seat : ℕ) (v : ReaderView A) (x y : PublishedContent A) → HasSeenAll x v → HasStepMore x y → TurnsAt Holds seat v x y PublishesStep
step_turns seat v x y known more views h at = (
  view_of y.version,
  moves seat x y views more.registry (entries_in more.step, sym more.more) more.sound h,
  record { known = known; more = more; seen = refl; sound = more.sound h.sound },
)

pub publishes_step : {A : Type 0} (seat : ℕ) (v : ReaderView A) (x y next : PublishedContent A) → next ≡ y → HasSeenAll x v → HasStepMore x y → TurnsAt Holds seat v x next PublishesStep
publishes_step {A} seat v x y next is known more = subst (λ (p : PublishedContent A). TurnsAt Holds seat v x p PublishesStep) (sym is) (step_turns seat v x y known more)

-- nothing is published
same_turns : {A : Type 0} (seat : ℕ) (v : ReaderView A) (x : PublishedContent A) → HasSeenAll x v → TurnsAt Holds seat v x x PublishesNothing
same_turns seat v x known views h at = (
  view_of x.version,
  moves seat x x views refl (prefix_self x.version.history) (λ s. s) h,
  record { same = refl; known = known; seen = refl; sound = h.sound },
)

pub publishes_nothing : {A : Type 0} (seat : ℕ) (v : ReaderView A) (x next : PublishedContent A) → next ≡ x → HasSeenAll x v → TurnsAt Holds seat v x next PublishesNothing
publishes_nothing {A} seat v x next is known = subst (λ (p : PublishedContent A). TurnsAt Holds seat v x p PublishesNothing) (sym is) (same_turns seat v x known)

pub forks : {A : Type 0} (seat : ℕ) (v : ReaderView A) → Forks Holds seat v v v
forks seat v x views h at = record {
  sound = h.sound;
  fits = λ j u e. ⊎_elim (fits_set x views seat v h.fits (h.fits seat v at) j u) (λ (same : v ≡ u). subst (HasSeenPrefix x) same (h.fits seat v at)) (at_snoc (set views seat v) v u j e);
}

-- what is learned begins what is published, as both parts do
fits_learned : {A : Type 0} (x : PublishedContent A) (v w : ReaderView A) (told shorter : Bool) → HasSeenPrefix x v → HasSeenPrefix x w → HasSeenPrefix x (if told then (if shorter then v else w) else v)
fits_learned x v w true true f g = f
fits_learned x v w true false f g = g
fits_learned x v w false shorter f g = f

pub merges : {A : Type 0} (seat : ℕ) (v : ReaderView A) (other : ℕ) (w : ReaderView A) → Merges Holds seat v other w (learned v w) blank_view
merges seat v other w x views h at apart there =
    let theirs : HasSeenPrefix x w = ⊎_elim (λ (t : (other ≡ seat) × (learned v w ≡ w)). absurd (apart t.0)) (λ (t : (other ≢ seat) × (get_elem? views other ≡ some w)). h.fits other w t.1) (at_set views seat other (learned v w) w there) in
    let both = fits_learned x v w w.known (nat_lt (length w.seen) (length v.seen)) (h.fits seat v at) theirs in record {
      sound = h.sound;
      fits = fits_set x (set views seat (learned v w)) other blank_view (fits_set x views seat (learned v w) h.fits both) (fits_none x);
    }

-- of two beginnings of what is published the longer is learned, so no view shrinks
no_less : {A : Type 0} (x : PublishedContent A) (v w : ReaderView A) (told shorter : Bool) → w.known ≡ told → nat_lt (length w.seen) (length v.seen) ≡ shorter → HasSeenPrefix x v → HasSeenPrefix x w → HasSeenMore v (if told then (if shorter then v else w) else v)
no_less x v w true true is lt f g = record { begins = prefix_self v.seen; knows = λ b k. k }
no_less x v w true false is lt f g = record {
  begins = prefix_shorter v.seen w.seen x.version.history f.begins g.begins (grind (arith, nat_tests));
  knows = λ b k. record { known = is; registry = g.registry is ∙ sym (f.registry k.known) ∙ k.registry };
}
no_less x v w false shorter is lt f g = record { begins = prefix_self v.seen; knows = λ b k. k }

pub learned_more : {A : Type 0} (x : PublishedContent A) (v w : ReaderView A) → HasSeenPrefix x v → HasSeenPrefix x w → HasSeenMore v (learned v w)
learned_more x v w = no_less x v w w.known (nat_lt (length w.seen) (length v.seen)) refl refl

-- who had seen no more learns all
grown : {A : Type 0} (v w : ReaderView A) (told shorter : Bool) → IsPrefix v.seen w.seen → IsPrefix v.seen (if told then (if shorter then v else w) else v).seen
grown v w true true p = prefix_self v.seen
grown v w true false p = p
grown v w false shorter p = prefix_self v.seen

pub learned_grows : {A : Type 0} (v w : ReaderView A) → IsPrefix v.seen w.seen → IsPrefix v.seen (learned v w).seen
learned_grows v w = grown v w w.known (nat_lt (length w.seen) (length v.seen))

all_of : {A : Type 0} (w : ReaderView A) (shorter : Bool) → nat_lt (length w.seen) 0 ≡ shorter → (if shorter then blank_view else w) ≡ w
all_of w true lt = absurd (grind (arith, nat_tests))
all_of w false lt = refl

-- who has seen nothing learns all that is known
pub learned_all : {A : Type 0} (m : VersionContent A) → learned blank_view (view_of m) ≡ view_of m
learned_all m = all_of (view_of m) (nat_lt (length m.history) 0) refl

-- what follows is one step more
pub follows_on : {A : Type 0} (x was y : PublishedContent A) (c : StepContent A) → x ≡ was → y ≡ after was c → Follows was c → HasStepMore x y
follows_on {A} x was y c same is f =
    subst (λ (p : PublishedContent A). HasStepMore p y) (sym same) (subst (λ (p : PublishedContent A). HasStepMore was p) (sym is) (record { registry = f.registry; step = f.step; more = f.more; sound = λ _. f.sound }))

-- a session that opens: nothing waits to be published, and what is published is the empty history
pub opened_as : {A : Type 0} (x : PublishedContent A) (pending : List (StepContent A)) (newest : VersionContent A) (journal : List (Entry A)) (v : ReaderView A) → pending ≡ [] → x ≡ published_of blank_movie 0 newest → newest.history ≡ [] → journal ≡ [] → v ≡ blank_view → IsCurrent x pending newest.registry journal v.seen
opened_as {A} x pending newest journal v none is empty fresh nothing = record {
  none = none;
  registry = ap (λ (p : PublishedContent A). p.version.registry) is;
  same = ap (λ (p : PublishedContent A). p.version.history) is ∙ empty ∙ sym fresh;
  view = ap (λ (w : ReaderView A). w.seen) nothing ∙ sym fresh;
  sound = subst IsSoundPublished (sym is) (sound_none blank_movie newest refl empty);
}

-- the first thing that is published
pub first_sound : {A : Type 0} (x : PublishedContent A) (movie : MovieContent) (version newest : VersionContent A) → x ≡ published_of movie 0 version → movie ≡ blank_movie → version ≡ newest → newest.history ≡ [] → IsSoundPublished x
first_sound {A} x movie version newest is blank same empty = subst IsSoundPublished (sym is) (sound_none movie version blank (ap (λ (m : VersionContent A). m.history) same ∙ empty))
