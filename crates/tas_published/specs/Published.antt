-- What is published, and the rule between what is published and what readers have seen.
use Rattle.std.specs.Prelude.{◌≡◌, ℕ, ◌+◌, ◌≤◌, nat_lt, min, if◌then◌else◌, List, [], ◌++◌, length, true, false}
use mathlib.Core.Option.{some}
use mathlib.Core.List.{IsPrefix}
use lib.ListN.{get_elem?}
use Rattle.logbook.specs.Pages.{Book}
use Rattle.tas_movie.specs.Content.{MovieContent}
use Rattle.tas_movie.specs.declared.edit.Edit.{Edit}
use Rattle.tas_published.specs.declared.entry.Entry.{Entry}
use Rattle.tas_published.specs.declared.reader_view.ReaderView.{ReaderView}
use Rattle.tas_published.specs.Version.{VersionContent}
use Rattle.tas_published.specs.History.{most_edits, most_counted, movie_of, IsLegal}
use Rattle.tas_published.specs.declared.journal.Step.{Step}
use Rattle.tas_published.specs.Strokes.{entries_in, edits_in, edited_by}

-- a movie, the number of edits that made it, and these edits with their registry
pub record PublishedContent (A : Type 0) : Type 0 where
  pub movie : MovieContent
  pub at : ℕ
  pub version : VersionContent A

-- the registry of the histories that were published, the history, and the movie that it makes
pub record PublisherContent (A : Type 0) : Type 0 where
  pub registry : Book
  pub journal : List (Entry A)
  pub movie : MovieContent

-- edits that are made at once, and all edits up to them
pub record StepContent (A : Type 0) : Type 0 where
  pub edits : List (Edit A)
  pub version : VersionContent A

-- the publisher after entries, one after the other
abbrev pub pushed_by : {A : Type 0} → PublisherContent A → List (Entry A) → PublisherContent A
pushed_by publisher entries = record {
  registry = publisher.registry;
  journal = publisher.journal ++ entries;
  movie = edited_by publisher.movie (edits_in entries);
}

abbrev pub published_of : {A : Type 0} → MovieContent → ℕ → VersionContent A → PublishedContent A
published_of m n v = record { movie = m; at = n; version = v }

abbrev pub step_of : {A : Type 0} → List (Edit A) → VersionContent A → StepContent A
step_of edits v = record { edits = edits; version = v }

abbrev pub after : {A : Type 0} → PublishedContent A → StepContent A → PublishedContent A
after x c = published_of (edited_by x.movie c.edits) (min (x.at + length c.edits) most_counted) c.version

-- what the one who knows this history of this registry has seen
abbrev pub view_of : {A : Type 0} → VersionContent A → ReaderView A
view_of m = record { known = true; number = m.registry.number; log_name = m.registry.log_name; cells_name = m.registry.cells_name; seen = m.history }

-- the view of one who has seen nothing
abbrev pub blank_view : {A : Type 0} → ReaderView A
blank_view = record { known = false; number = 0; log_name = 0; cells_name = 0; seen = [] }

abbrev pub registry_of : {A : Type 0} → ReaderView A → Book
registry_of v = record { number = v.number; log_name = v.log_name; cells_name = v.cells_name }

-- the history is legal, and the movie is what it makes
pub record IsSoundPublished {A : Type 0} (x : PublishedContent A) : Type 0 where
  pub movie : x.movie ≡ movie_of x.version.history
  pub at : x.at ≡ length x.version.history
  pub most : length x.version.history ≤ most_edits
  pub legal : IsLegal x.version.history

-- what was seen begins the history; who has seen something knows the registry
pub record HasSeenPrefix {A : Type 0} (x : PublishedContent A) (v : ReaderView A) : Type 0 where
  pub begins : IsPrefix v.seen x.version.history
  pub registry : v.known ≡ true → registry_of v ≡ x.version.registry

pub record Holds {A : Type 0} (x : PublishedContent A) (views : List (ReaderView A)) : Type 0 where
  pub sound : IsSoundPublished x
  pub fits : (seat : ℕ) (v : ReaderView A) → get_elem? views seat ≡ some v → HasSeenPrefix x v

-- a reader's entry: what it had seen begins what is published, which stays as it is and is what it has seen from then on
pub record Sees {A : Type 0} (v : ReaderView A) (x y : PublishedContent A) (w : ReaderView A) : Type 0 where
  pub same : y ≡ x
  pub fits : HasSeenPrefix x v
  pub seen : w ≡ view_of y.version
  pub sound : IsSoundPublished y

-- all of the published history was seen
abbrev pub HasSeenAll : {A : Type 0} → PublishedContent A → ReaderView A → Type 0
HasSeenAll x v = v.seen ≡ x.version.history

-- just the entries of one step more, one or two, in the same registry, which leave what is published sound
pub record HasStepMore {A : Type 0} (x y : PublishedContent A) : Type 0 where
  pub registry : x.version.registry ≡ y.version.registry
  pub step : Step A
  pub more : y.version.history ≡ x.version.history ++ entries_in step
  pub sound : IsSoundPublished x → IsSoundPublished y

-- a publish of one step by the writer, which had seen all that was published and has then seen the step's entries, too
pub record PublishesStep {A : Type 0} (v : ReaderView A) (x y : PublishedContent A) (w : ReaderView A) : Type 0 where
  pub known : HasSeenAll x v
  pub more : HasStepMore x y
  pub seen : w ≡ view_of y.version
  pub sound : IsSoundPublished y

-- a publish of nothing by the writer: what is published stays as it is, and the writer, which had seen all of it, knows its
-- registry from then on
pub record PublishesNothing {A : Type 0} (v : ReaderView A) (x y : PublishedContent A) (w : ReaderView A) : Type 0 where
  pub same : y ≡ x
  pub known : HasSeenAll x v
  pub seen : w ≡ view_of y.version
  pub sound : IsSoundPublished y

-- what one has seen who learns what another has seen of the same published movie: the longer of the two histories, so no view
-- ever shrinks
abbrev pub learned : {A : Type 0} → ReaderView A → ReaderView A → ReaderView A
learned v w = if w.known then (if nat_lt (length w.seen) (length v.seen) then v else w) else v

-- nothing waits to be published, what is published is the journal, in the registry that numbers it, and it is what the writer has seen
pub record IsCurrent {A : Type 0} (x : PublishedContent A) (pending : List (StepContent A)) (numbering : Book) (journal writers : List (Entry A)) : Type 0 where
  pub none : pending ≡ []
  pub registry : x.version.registry ≡ numbering
  pub same : x.version.history ≡ journal
  pub view : writers ≡ journal
  pub sound : IsSoundPublished x

-- a change of what is published that adds just the entries of one step and leaves it sound
pub record Follows {A : Type 0} (x : PublishedContent A) (c : StepContent A) : Type 0 where
  pub registry : x.version.registry ≡ c.version.registry
  pub step : Step A
  pub more : c.version.history ≡ x.version.history ++ entries_in step
  pub sound : IsSoundPublished (after x c)

-- who has this view knows the registry
pub record KnowsRegistry {A : Type 0} (v : ReaderView A) (b : Book) : Type 0 where
  pub known : v.known ≡ true
  pub registry : registry_of v ≡ b

-- the second view goes on from the first, in the same registry
pub record HasSeenMore {A : Type 0} (v w : ReaderView A) : Type 0 where
  pub begins : IsPrefix v.seen w.seen
  pub knows : (b : Book) → KnowsRegistry v b → KnowsRegistry w b
