-- Drafts: changes of a movie that a conversation gathers before it makes them as one step, and the answers to lines meanwhile.
use Rattle.std.specs.Prelude.{codes, ◌≡◌, ℕ, ◌+◌, ◌-◌, ◌<◌, ◌≤◌, ◌==◌, nat_le, List, [], ◌∷◌, length, take, drop, reverse, min, filter, MatchOption, false, if◌then◌else◌, ◌⊎◌}
use Rattle.vcs_inputs.specs.declared.input.Input.{Input}
use Rattle.tas_movie.specs.Content.{MovieContent}
use Rattle.tas_movie.specs.declared.edit.Edit.{Edit}
use Rattle.tas_movie.specs.declared.edit.Edit.TheVariants.{Insert, Replace, Delete}
use Rattle.tas_movie.specs.Edit.{IsAllowed, edited, edited_place}
use Rattle.tas_movie.specs.Front.{IsCommonFront}
use Rattle.tas_green.specs.declared.savestate.Savestate.{Savestate}
use Rattle.tas_green.specs.Green.{IsLawful, IsReachedFrom}
use Rattle.tas_green.specs.View.{ViewContent}
use Rattle.tas_green.specs.Window.{AreMovieStates, IsPlayedNear, both}
use Rattle.tas_published.specs.History.{most_edits}
use Rattle.tas_session.specs.Session.{left_by}
use Rattle.tas_language.specs.declared.change.Change.{Change}
use Rattle.tas_language.specs.declared.command.Command.TheVariants.{Load, Edit as EditLine, Work}
use Rattle.tas_language.specs.declared.reply.Reply.TheVariants.{Worked, OutOfMemory}
use Rattle.tas_language.specs.Replies.{reply_text}
use Rattle.tas_language.specs.declared.request.Request.{Request}
use Rattle.tas_language.specs.declared.request.Request.TheVariants.{Do, Picture, Pictures, Inputs, Movie, States, Share}
use Rattle.tas_engines.specs.Changes.{edit_of, BringsCopies}
use Rattle.tas_seat.specs.Turns.{Standing, reply_to_edit, standing_after_edit}
use Rattle.tas_seat.specs.Edits.{requested_edits, made_between}
use Rattle.tas_seat.specs.Requests.{TalkState, IsLooked, look_text, look_places, IsStrip, KeepsAll, IsAnswerTo}

-- ---- a draft

-- the answer to a line that has no place in a draft, which is open
abbrev pub in_draft_text : List ℕ
in_draft_text = codes "in draft\n"

-- a draft: how many edits the history had when it began, the movie then, the movie as it would be, how many changes were made in the
-- draft, and its greenzone and window, the states that are kept of the movie as it would be
pub record DraftContent : Type 0 where
  pub at : ℕ
  pub base : MovieContent
  pub movie : MovieContent
  pub made : ℕ
  pub states : List Savestate
  pub near : List Savestate

-- with a view of the movie as it would be
abbrev pub draft_of : ℕ → MovieContent → ℕ → ViewContent → DraftContent
draft_of at base made view = record { at = at; base = base; movie = view.movie; made = made; states = view.states; near = view.near }

-- a draft that begins at this many edits of a history, with a view of its movie
abbrev pub fresh_draft : ℕ → ViewContent → DraftContent
fresh_draft at view = draft_of at view.movie 0 view

-- what it comes to: the movie, and the history's edits with one more for each change
abbrev pub draft_standing : DraftContent → Standing
draft_standing draft = record { movie = draft.movie; made = draft.at + draft.made }

abbrev pub draft_state : DraftContent → TalkState
draft_state draft = record { stands = draft_standing draft; kept_for = draft.movie; states = draft.states }

-- what each draft keeps: there are at most as many edits as a history may have, the cartridge is the one that it began with, and the kept
-- states and the window's are its movie's
pub record IsDraft (draft : DraftContent) : Type 0 where
  pub most : draft.at + draft.made ≤ most_edits
  pub cart : draft.movie.cart ≡ draft.base.cart
  pub lawful : IsLawful draft.movie draft.states
  pub window : AreMovieStates draft.movie draft.near

-- ---- answers

-- the states that edits leave, made one after the other from this movie on
abbrev pub left_by_edits : {A : Type 0} → MovieContent → List (Edit A) → List Savestate → List Savestate
left_by_edits movie [] states = states
left_by_edits movie (edit ∷ edits) states = left_by_edits (edited movie edit) edits (left_by movie edit states)

-- the window's states that they leave: those up to the edited place
abbrev pub near_left_by_edits : {A : Type 0} → MovieContent → List (Edit A) → List Savestate → List Savestate
near_left_by_edits movie [] near = near
near_left_by_edits movie (edit ∷ edits) near =
    near_left_by_edits (edited movie edit) edits (filter (λ kept. nat_le kept.frame (min (edited_place edit) (length (edited movie edit).inputs))) near)

-- a draft after a line that comes to this: it began where it did, and what the line changed is cut off its greenzone at once
pub record IsDraftAfter (draft : DraftContent) (request : Request) (next : TalkState) (draft' : DraftContent) : Type 0 where
  pub at : draft'.at ≡ draft.at
  pub base : draft'.base ≡ draft.base
  pub stands : draft_standing draft' ≡ next.stands
  pub states : draft'.states ≡ left_by_edits draft.movie (made_between (draft_standing draft) next.stands (requested_edits (Unit {0}) draft.movie request)) next.states

-- what a line leaves of the states and the window: a look plays from both and fills them, or the draft is as it was; and what another line changed is cut
-- off the window at once
abbrev pub LeavesNear : DraftContent → Request → List ℕ → DraftContent → Type 0
LeavesNear draft request answer draft' =
    MatchOption (look_places request)
    (draft'.near ≡ near_left_by_edits draft.movie (made_between (draft_standing draft) (draft_standing draft') (requested_edits (Unit {0}) draft.movie request)) draft.near)
    (λ at. IsLooked (draft_standing draft) (look_text (draft_standing draft) request) (draft' ≡ draft)
    (IsPlayedNear draft.movie draft.movie at.0 at.1 (both draft.states draft.near) (both draft'.states draft'.near)) answer)

-- a request is answered at a draft as at a history with its movie, its number of edits and its greenzone
pub record IsAnsweredInDraft (draft : DraftContent) (request : Request) (answer : List ℕ) (draft' : DraftContent) : Type 0 where
  pub next : TalkState
  pub answered : IsAnswerTo (draft_state draft) request answer next
  pub after : IsDraftAfter draft request next draft'
  pub window : LeavesNear draft request answer draft'

-- so is a picture of a strip
abbrev pub IsPictureIn : DraftContent → ℕ → List ℕ → DraftContent → Type 0
IsPictureIn draft k answer draft' = IsAnsweredInDraft draft (Picture k) answer draft'

-- nobody else keeps states for a draft. So `work k` is one job with no stale state: the states are kept that playing up to frame k leaves, or up to
-- the movie's end, and the answer has how many more these are; where memory is refused for it the same are kept as before
abbrev pub IsDraftWork : DraftContent → ℕ → List ℕ → DraftContent → Type 0
IsDraftWork draft k answer draft' =
    ((answer ≡ reply_text OutOfMemory) × (draft'.states ≡ draft.states))
    ⊎ ((kept ran : ℕ) × (answer ≡ reply_text (Worked 1 kept 0)) × (length draft'.states ≡ length draft.states + kept)
    × IsReachedFrom draft.movie draft.movie (min k (length draft.movie.inputs)) draft.states draft'.states 0 ran)

-- memory may be refused only where a change brings copies of an input: a deletion is answered and made as where none is refused
abbrev pub IsDraftEdit : DraftContent → Change → List ℕ → DraftContent → Type 0
IsDraftEdit draft change answer draft' =
    BringsCopies change
    ⊎ ((answer ≡ reply_text (reply_to_edit false (draft_standing draft) (edit_of change))) × (draft_standing draft' ≡ standing_after_edit false (draft_standing draft) (edit_of change)))

-- a request is answered at a draft. A draft has the cartridge of the movie that it began with, so a line that loads one has no place in
-- it. `inputs`, `movie` and `states` leave its greenzone. `history` and `share` are about the desk, and `begin`, `commit`, `drop` and `quit` about the conversation
abbrev pub IsDraftAnswered : DraftContent → Request → List ℕ → DraftContent → Type 0
IsDraftAnswered draft (Do (Load image)) answer draft' = (answer ≡ in_draft_text) × (draft' ≡ draft)
IsDraftAnswered draft (Pictures from to) answer draft' = IsStrip IsPictureIn draft from to answer draft'
IsDraftAnswered draft (Do (EditLine change)) answer draft' = IsAnsweredInDraft draft (Do (EditLine change)) answer draft' × IsDraftEdit draft change answer draft'
IsDraftAnswered draft (Do (Work k)) answer draft' = IsAnsweredInDraft draft (Do (Work k)) answer draft' × IsDraftWork draft k answer draft'
IsDraftAnswered draft (Inputs a b) answer draft' = IsAnsweredInDraft draft (Inputs a b) answer draft' × (draft'.states ≡ draft.states)
IsDraftAnswered draft Movie answer draft' = IsAnsweredInDraft draft Movie answer draft' × (draft'.states ≡ draft.states)
IsDraftAnswered draft States answer draft' = IsAnsweredInDraft draft States answer draft' × (draft'.states ≡ draft.states)
IsDraftAnswered draft Share answer draft' = ⊥
IsDraftAnswered draft request answer draft' = IsAnsweredInDraft draft request answer draft'

-- what a request that isn't answered leaves
abbrev pub KeepsDraft : Request → DraftContent → DraftContent → Type 0
KeepsDraft request draft draft' = KeepsAll IsPictureIn request draft draft'

-- memory was refused for an answer: nothing was changed; or the request was carried out
abbrev pub IsDraftUnanswered : DraftContent → Request → DraftContent → Type 0
IsDraftUnanswered draft request draft' = KeepsDraft request draft draft' ⊎ ((answer : List ℕ) × IsDraftAnswered draft request answer draft')

-- ---- what a draft comes to

-- the inputs without the first `front` and the last `back`
abbrev pub inner_inputs : ℕ → ℕ → List Input → List Input
inner_inputs front back inputs = take (length inputs - front - back) (drop front inputs)

-- the edits that put these inputs in the place of others at `at`: none, one, or two
abbrev pub stroke_of : (A : Type 0) → ℕ → List Input → List Input → List (Edit A)
stroke_of A at [] [] = []
stroke_of A at [] (new ∷ news) = Insert at (new ∷ news) ∷ []
stroke_of A at (old ∷ olds) [] = Delete at (length (old ∷ olds)) ∷ []
stroke_of A at (old ∷ olds) (new ∷ news) =
    if length olds == length news then Replace at (new ∷ news) ∷ [] else Delete at (length (old ∷ olds)) ∷ Insert at (new ∷ news) ∷ []

-- edits make one movie of another: the inputs with which both begin, and of the rest those with which both end, are left alone; what stands
-- between is put in the place of what stood there
pub record IsStroke {A : Type 0} (base new : MovieContent) (edits : List (Edit A)) : Type 0 where
  pub front : ℕ
  pub back : ℕ
  pub begins : IsCommonFront base.inputs new.inputs front
  pub ends : IsCommonFront (reverse (drop front base.inputs)) (reverse (drop front new.inputs)) back
  pub edits_are : edits ≡ stroke_of A front (inner_inputs front back base.inputs) (inner_inputs front back new.inputs)

-- making one movie of another puts inputs in: between the inputs with which both begin and those with which the rests end, the new one has some
pub record PutsIn (base new : MovieContent) : Type 0 where
  pub front : ℕ
  pub back : ℕ
  pub begins : IsCommonFront base.inputs new.inputs front
  pub ends : IsCommonFront (reverse (drop front base.inputs)) (reverse (drop front new.inputs)) back
  pub some : 0 < length (inner_inputs front back new.inputs)

-- one movie allows the edits, one after the other, and they make the other movie of it
abbrev pub LeadsTo : {A : Type 0} → MovieContent → List (Edit A) → MovieContent → Type 0
LeadsTo movie [] last = last ≡ movie
LeadsTo movie (edit ∷ edits) last = IsAllowed movie edit × LeadsTo (edited movie edit) edits last

-- this many edits make one movie of another
pub record HasStroke (A : Type 0) (base new : MovieContent) (count : ℕ) : Type 0 where
  pub edits : List (Edit A)
  pub stroke_is : IsStroke base new edits
  pub leads : LeadsTo base edits new
  pub long : length edits ≡ count
