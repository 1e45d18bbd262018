-- Parts of an answer at a draft. Private functions cite this file.
use Rattle.std.specs.Prelude.{◌≡◌, ℕ, ◌+◌, List, [], ◌∷◌, drop, reverse, Result}
use Rattle.vcs_inputs.specs.declared.input.Input.{Input}
use Rattle.tas_movie.specs.declared.edit.Edit.{Edit}
use Rattle.tas_movie.specs.Content.{MovieContent}
use Rattle.tas_movie.specs.Front.{IsCommonFront}
use Rattle.tas_movie.specs.Edit.{edited}
use Rattle.tas_green.specs.declared.savestate.Savestate.{Savestate}
use Rattle.tas_green.specs.Green.{IsLawful, IsShotFrom}
use Rattle.tas_green.specs.Window.{IsPlayedNear, both}
use Rattle.tas_session.specs.declared.replies.Shot.{Shot}
use Rattle.tas_session.specs.declared.replies.Reached.{Reached}
use Rattle.tas_published.specs.declared.errors.StateError.{StateError}
use Rattle.tas_published.specs.declared.errors.ShotError.{ShotError}
use Rattle.tas_session.specs.Session.{left_by}
use Rattle.tas_engines.specs.declared.fault.RunFault.{RunFault}
use Rattle.tas_engines.specs.declared.fault.RunFault.TheVariants.{Memory}
use Rattle.tas_language.specs.declared.reply.Reply.{Reply}
use Rattle.tas_language.specs.declared.reply.Reply.TheVariants.{OutOfMemory}
use Rattle.tas_language.specs.Replies.{reply_text}
use Rattle.tas_language.specs.declared.request.Request.{Request}
use Rattle.tas_seat.specs.declared.edit_requests.EditRequest.{EditRequest}
use Rattle.tas_seat.specs.declared.edit_requests.EditRequest.TheVariants.{Load, Change, Retouch}
use Rattle.tas_seat.specs.Edits.{made_between}
use Rattle.tas_seat.specs.Drafts.{DraftContent, draft_standing, left_by_edits, near_left_by_edits, inner_inputs, IsDraftAnswered, IsDraftUnanswered}
use Rattle.tas_seat.specs.Inside.EditRequests.{requested_refusal, requested_edit, TakesMemory}
use Rattle.tas_seat.specs.Inside.Looking.{IsShotFound, IsStateFound}
use Rattle.tas_seat.specs.Outcomes.{IsTurnOf}

-- the draft with other states and another window
abbrev pub with_states : DraftContent → List Savestate → List Savestate → DraftContent
with_states draft states near = record { at = draft.at; base = draft.base; movie = draft.movie; made = draft.made; states = states; near = near }

-- the draft after an edit
abbrev pub draft_after : {A : Type 0} → DraftContent → Edit A → DraftContent
draft_after draft edit = record {
  at = draft.at;
  base = draft.base;
  movie = edited draft.movie edit;
  made = draft.made + 1;
  states = left_by draft.movie edit draft.states;
  near = near_left_by_edits draft.movie (edit ∷ []) draft.near;
}

-- an edit that a draft can make: it keeps the cartridge
abbrev pub KeepsCart : EditRequest → Type 0
KeepsCart (Load image) = ⊥
KeepsCart (Change change) = Unit {0}
KeepsCart (Retouch retouch) = Unit {0}

-- an edit that a line asks for is answered at a draft, `out of memory` only where it takes memory
pub record IsDraftChanged (before now : DraftContent) (asked : EditRequest) (reply : Reply) : Type 0 where
  pub turn : IsTurnOf (draft_standing before) (requested_refusal asked before.movie) (requested_edit (Unit {0}) asked before.movie) reply (draft_standing now)
  pub memory : reply ≡ OutOfMemory → TakesMemory asked
  pub at : now.at ≡ before.at
  pub base : now.base ≡ before.base
  pub states : now.states ≡ left_by_edits before.movie (made_between (draft_standing before) (draft_standing now) (requested_edit (Unit {0}) asked before.movie ∷ [])) before.states
  pub near : now.near ≡ near_left_by_edits before.movie (made_between (draft_standing before) (draft_standing now) (requested_edit (Unit {0}) asked before.movie ∷ [])) before.near

-- frame k of a draft's movie was played: this many frames, from the nearest kept state. The window is left
pub record IsDraftPlayed (before now : DraftContent) (k ran : ℕ) : Type 0 where
  pub rest : now ≡ with_states before now.states before.near
  pub lawful : IsLawful before.movie now.states
  pub shot : IsShotFrom before.movie before.movie k before.states now.states 0 ran

-- a draft's movie was played up to the place `end`, for k: this many frames, from the nearest state of its greenzone and its window
pub record IsDraftViewed (before now : DraftContent) (k end ran : ℕ) : Type 0 where
  pub rest : now ≡ with_states before now.states now.near
  pub lawful : IsLawful before.movie now.states
  pub view : IsPlayedNear before.movie before.movie k end (both before.states before.near) (both now.states now.near) ran

-- a drawing at a draft, where `left` says what it leaves after this many played frames: a draft needs no entry
abbrev pub IsDraftDrawn : {B : Type 0} → (ℕ → Type 0) → (before now : DraftContent) → ℕ → Result (Shot B) ShotError → Type 0
IsDraftDrawn left before now k result = IsShotFound (draft_standing before) ⊥ (now ≡ before) left k result

-- a shot at a draft, and a picture
abbrev pub IsDraftShot : {B : Type 0} → (before now : DraftContent) → ℕ → Result (Shot B) ShotError → Type 0
IsDraftShot before now k result = IsDraftDrawn (IsDraftPlayed before now k) before now k result

abbrev pub IsDraftPicture : {B : Type 0} → (before now : DraftContent) → ℕ → Result (Shot B) ShotError → Type 0
IsDraftPicture before now k result = IsDraftDrawn (IsDraftViewed before now k (k + 1)) before now k result

-- the state after `from` frames of a draft's movie, where it has those from there up to the place `to`
abbrev pub IsDraftStateFor : (before now : DraftContent) → (from to : ℕ) → Result Reached StateError → Type 0
IsDraftStateFor before now from to result = IsStateFound (draft_standing before) ⊥ (now ≡ before) (IsDraftViewed before now from from) from to result

-- a command is replied to at a draft
abbrev pub IsDraftReply : (before now : DraftContent) → Request → Reply → Type 0
IsDraftReply before now request reply = IsDraftAnswered before request (reply_text reply) now

-- why a request isn't answered at a draft: memory was refused
abbrev pub HasNoDraftAnswer : (before now : DraftContent) → Request → RunFault → Type 0
HasNoDraftAnswer before now request fault = (fault ≡ Memory) × IsDraftUnanswered before request now

-- where two movies differ: after this many inputs that they begin with, and before those with which the rests end, the one has these, the
-- other those
pub record Differ (base new : MovieContent) (front : ℕ) (olds news : List Input) : Type 0 where
  pub back : ℕ
  pub begins : IsCommonFront base.inputs new.inputs front
  pub ends : IsCommonFront (reverse (drop front base.inputs)) (reverse (drop front new.inputs)) back
  pub olds_are : olds ≡ inner_inputs front back base.inputs
  pub news_are : news ≡ inner_inputs front back new.inputs
