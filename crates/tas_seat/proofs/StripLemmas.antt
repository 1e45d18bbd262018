-- The answers to the frames of a strip, one after the other: of anything that is looked at, at a seat, and at a draft.
use Rattle.std.proofs.Common.{◌≡◌, ℕ, suc, ◌+◌, ◌-◌, ◌<◌, ◌≤◌, List, [], ◌∷◌, ◌++◌, length, ◌⊎◌, inl, inr, refl, sym, ap, subst, ◌∙◌, arith, append_assoc}
use Rattle.std.proofs.lemmas.Bool.{cases_lt}
use Rattle.std.proofs.lemmas.List.{append-nil, length-append}
use Rattle.tas_movie.specs.declared.edit.Edit.{Edit}
use Rattle.tas_desk.specs.Seats.{SeatContent, HasSeen}
use Rattle.tas_engines.specs.declared.fault.RunFault.{RunFault}
use Rattle.tas_engines.specs.declared.fault.RunFault.TheVariants.{NoEntry, Memory, Foreign, Write, Size, Text, NoFrame as OffMovie, Range as OffRange, Halted as Stopped, HaltedFrame as StoppedFrame, Script, Place, Long, Names as NoNames, NoPlace}
use Rattle.tas_language.specs.declared.request.Request.{Request}
use Rattle.tas_language.specs.declared.request.Request.TheVariants.{Do, Retouch, Picture, Pictures, Ram, Digest, Lag, Inputs, Movie, States, Share, History, Version, Begin, Commit, Drop, Quit}
use Rattle.tas_seat.specs.Turns.{standing_of}
use Rattle.tas_seat.specs.Requests.{StripAnswer, AreShown, strip_answers, IsStrip, KeepsAll}
use Rattle.tas_seat.specs.Seats.{IsAnsweredAt, IsPictureAt}
use Rattle.tas_seat.specs.Drafts.{DraftContent, IsPictureIn, KeepsDraft}
use Rattle.tas_seat.specs.Outcomes.{KeepsSeat, HasAnswer, HasNoAnswer}
use Rattle.tas_seat.specs.Inside.Drafting.{HasNoDraftAnswer}
use Rattle.tas_seat.proofs.SeatLemmas.{seen_same, seen_more, seen_after, strange_later, made_nothing}

-- ---- frames from one to the one before another were answered, and these are the answers

pub record HasShown {S : Type 0} (step : S → ℕ → List ℕ → S → Type 0) (before now : S) (from frame : ℕ) (bytes : List ℕ) : Type 0 where
  pub strip : List (StripAnswer S)
  pub many : length strip ≡ frame - from
  pub are : AreShown step before from strip now
  pub told : bytes ≡ strip_answers strip

no_strip : {S : Type 0} (step : S → ℕ → List ℕ → S → Type 0) (first : S) (from : ℕ) → AreShown step first from [] first
unfolding AreShown
no_strip step first from = refl

-- one frame more
strip_more : {S : Type 0} (step : S → ℕ → List ℕ → S → Type 0) (before mid : S) (from : ℕ) (strip : List (StripAnswer S)) (shown : StripAnswer S) → AreShown step before from strip mid → step mid (from + length strip) shown.answer shown.next
    → AreShown step before from (strip ++ shown ∷ []) shown.next
unfolding AreShown
strip_more {S} step before mid from [] shown are here =
    let at : from + 0 ≡ from = omega arith in
    (subst (λ (n : ℕ). step before n shown.answer shown.next) at (subst (λ (s : S). step s (from + 0) shown.answer shown.next) are here), refl)
strip_more step before mid from (first ∷ strip) shown are here =
    let at : from + suc (length strip) ≡ from + 1 + length strip = omega arith in
    (are.0, strip_more step first.next mid (from + 1) strip shown are.1 (subst (λ (n : ℕ). step mid n shown.answer shown.next) at here))

answers_more : {S : Type 0} (strip : List (StripAnswer S)) (shown : StripAnswer S) → strip_answers (strip ++ shown ∷ []) ≡ strip_answers strip ++ shown.answer
answers_more [] shown = append-nil shown.answer
answers_more (first ∷ strip) shown = ap (λ (bytes : List ℕ). first.answer ++ bytes) (answers_more strip shown) ∙ sym (append_assoc first.answer (strip_answers strip) shown.answer)

pub nothing_shown : {S : Type 0} (step : S → ℕ → List ℕ → S → Type 0) (first : S) (from : ℕ) (bytes : List ℕ) → bytes ≡ [] → HasShown step first first from from bytes
nothing_shown step first from bytes none = record { strip = []; many = omega arith; are = no_strip step first from; told = none }

pub shown_more : {S : Type 0} (step : S → ℕ → List ℕ → S → Type 0) (before mid now : S) (from frame : ℕ) (bytes more next : List ℕ) → from ≤ frame → HasShown step before mid from frame bytes → step mid frame more now → next ≡ bytes ++ more
    → HasShown step before now from (frame + 1) next
shown_more {S} step before mid now from frame bytes more next le shown told is =
    let one : StripAnswer S = record { answer = more; next = now } in
    let many = shown.many in
    let at : from + length shown.strip ≡ frame = omega (arith, many, le) in
    record {
      strip = shown.strip ++ one ∷ [];
      many = length-append shown.strip (one ∷ []) ∙ (let up : length shown.strip + 1 ≡ frame + 1 - from = omega (arith, many, le) in up);
      are = strip_more step before mid from shown.strip one shown.are (subst (λ (n : ℕ). step mid n more now) (sym at) told);
      told = is ∙ ap (λ (l : List ℕ). l ++ more) shown.told ∙ sym (answers_more shown.strip one);
    }

-- all of a strip was answered
pub strip_answered : {S : Type 0} (step : S → ℕ → List ℕ → S → Type 0) (before now : S) (from to frame : ℕ) (bytes : List ℕ) → HasShown step before now from frame bytes → frame - from ≡ to - from → IsStrip step before from to bytes now
strip_answered step before now from to frame bytes shown end = (shown.strip, shown.many ∙ end, shown.are, shown.told)

-- pictures up to one before the last are the first of a strip
first_shown : {S : Type 0} (step : S → ℕ → List ℕ → S → Type 0) (before now : S) (from to frame : ℕ) (bytes : List ℕ) → from ≤ frame → frame < to → HasShown step before now from frame bytes → KeepsAll step (Pictures from to) before now
first_shown step before now from to frame bytes le few shown =
    let many = shown.many in
    let fewer : length shown.strip < to - from = omega (arith, many, le, few) in
    (shown.strip, fewer, shown.are)

-- pictures are the first of a strip, or all
first_or_all : {S : Type 0} (step : S → ℕ → List ℕ → S → Type 0) (before now : S) (from to frame : ℕ) (bytes : List ℕ) → from ≤ frame → frame ≤ to → HasShown step before now from frame bytes
    → KeepsAll step (Pictures from to) before now ⊎ IsStrip step before from to bytes now
first_or_all step before now from to frame bytes le most shown = elim (cases_lt frame to) [
  | inl few ↦ inl (first_shown step before now from to frame bytes le few shown)
  | inr all ↦ let end : frame - from ≡ to - from = omega (arith, most, all) in inr (strip_answered step before now from to frame bytes shown end)
]

-- a request that isn't answered leaves all as it was, and so a draft; or it is a strip
pub same_or_strip : {S : Type 0} (step : S → ℕ → List ℕ → S → Type 0) (before now : S) (request : Request) → KeepsAll step request before now
    → ((now ≡ before) × ((draft : DraftContent) → KeepsDraft request draft draft)) ⊎ ((from to : ℕ) × (request ≡ Pictures from to) × KeepsAll step (Pictures from to) before now)
same_or_strip step before now (Pictures from to) kept = inr (from, to, refl, kept)
same_or_strip step before now (Do command) same = inl (same, λ draft. refl)
same_or_strip step before now (Retouch retouch) same = inl (same, λ draft. refl)
same_or_strip step before now (Picture k) same = inl (same, λ draft. refl)
same_or_strip step before now (Ram k) same = inl (same, λ draft. refl)
same_or_strip step before now (Digest k) same = inl (same, λ draft. refl)
same_or_strip step before now (Lag a b) same = inl (same, λ draft. refl)
same_or_strip step before now (Inputs a b) same = inl (same, λ draft. refl)
same_or_strip step before now Movie same = inl (same, λ draft. refl)
same_or_strip step before now States same = inl (same, λ draft. refl)
same_or_strip step before now Share same = inl (same, λ draft. refl)
same_or_strip step before now (History from) same = inl (same, λ draft. refl)
same_or_strip step before now Version same = inl (same, λ draft. refl)
same_or_strip step before now Begin same = inl (same, λ draft. refl)
same_or_strip step before now Commit same = inl (same, λ draft. refl)
same_or_strip step before now Drop same = inl (same, λ draft. refl)
same_or_strip step before now Quit same = inl (same, λ draft. refl)

-- ---- at a seat

-- a picture makes no edit
pub picture_alone : (A : Type 0) (before now : SeatContent A) (k : ℕ) (answer : List ℕ) → HasAnswer A before now (Picture k) answer → IsPictureAt before k answer now
picture_alone A before now k answer told =
    let is = told.1 in
    subst (λ (l : List (Edit A)). IsAnsweredAt A before now (Picture k) answer l) (is.made ∙ made_nothing (standing_of is.at) (standing_of now.front)) is

-- pictures make no edit, so the seat has only seen more
strip_seen : {A : Type 0} (before now : SeatContent A) (from : ℕ) (strip : List (StripAnswer (SeatContent A))) → AreShown (IsPictureAt {A = A}) before from strip now → HasSeen before now
unfolding AreShown
strip_seen before now from [] are = seen_same before now are
strip_seen before now from (shown ∷ strip) are =
    let is = are.0 in seen_more before shown.next now (seen_after before shown.next is.at is.seat) (strip_seen shown.next now (from + 1) strip are.1)

-- memory was refused after pictures
pub strip_without_memory : (A : Type 0) (before now : SeatContent A) (from to frame : ℕ) (bytes : List ℕ) (fault : RunFault) → fault ≡ Memory → from ≤ frame → frame ≤ to → HasShown (IsPictureAt {A = A}) before now from frame bytes
    → HasNoAnswer before now (Pictures from to) fault
strip_without_memory A before now from to frame bytes fault is le most shown =
    subst (HasNoAnswer before now (Pictures from to)) (sym is)
    (elim (first_or_all (IsPictureAt {A = A}) before now from to frame bytes le most shown) [
      | inl kept ↦ inl kept
      | inr all ↦ inr (bytes, ([], (refl, all)))
    ])

-- a picture of it isn't answered
pub strip_unanswered : (A : Type 0) (before mid now : SeatContent A) (from to frame : ℕ) (bytes : List ℕ) (fault : RunFault) → from ≤ frame → frame < to → HasShown (IsPictureAt {A = A}) before mid from frame bytes → HasNoAnswer mid now (Picture frame) fault
    → HasNoAnswer before now (Pictures from to) fault
strip_unanswered A before mid now from to frame bytes NoEntry le few shown is = subst (KeepsSeat (Pictures from to) before) (sym is) (first_shown (IsPictureAt {A = A}) before mid from to frame bytes le few shown)
strip_unanswered A before mid now from to frame bytes Foreign le few shown is = strange_later before mid now (strip_seen before mid from shown.strip shown.are) is
strip_unanswered A before mid now from to frame bytes Memory le few shown (inl same) = inl (subst (KeepsSeat (Pictures from to) before) (sym same) (first_shown (IsPictureAt {A = A}) before mid from to frame bytes le few shown))
strip_unanswered A before mid now from to frame bytes Memory le few shown (inr (answer, told)) =
    strip_without_memory A before now from to (frame + 1) (bytes ++ answer) Memory refl (omega (arith, le)) (omega (arith, few))
    (shown_more (IsPictureAt {A = A}) before mid now from frame bytes answer (bytes ++ answer) le shown (picture_alone A mid now frame answer told) refl)
strip_unanswered A before mid now from to frame bytes (Write written) le few shown is = absurd is
strip_unanswered A before mid now from to frame bytes (Size n) le few shown is = absurd is
strip_unanswered A before mid now from to frame bytes (Text error) le few shown is = absurd is
strip_unanswered A before mid now from to frame bytes (OffMovie k len) le few shown is = absurd is
strip_unanswered A before mid now from to frame bytes (OffRange a b len) le few shown is = absurd is
strip_unanswered A before mid now from to frame bytes (NoNames row kind) le few shown is = absurd is
strip_unanswered A before mid now from to frame bytes (Stopped at opcode) le few shown is = absurd is
strip_unanswered A before mid now from to frame bytes (StoppedFrame k at opcode) le few shown is = absurd is
strip_unanswered A before mid now from to frame bytes (Script line) le few shown is = absurd is
strip_unanswered A before mid now from to frame bytes (Place line) le few shown is = absurd is
strip_unanswered A before mid now from to frame bytes (Long line) le few shown is = absurd is
strip_unanswered A before mid now from to frame bytes NoPlace le few shown is = absurd is

-- ---- at a draft

-- memory was refused after pictures
pub draft_strip_without_memory : (before now : DraftContent) (from to frame : ℕ) (bytes : List ℕ) (fault : RunFault) → fault ≡ Memory → from ≤ frame → frame ≤ to → HasShown IsPictureIn before now from frame bytes
    → HasNoDraftAnswer before now (Pictures from to) fault
draft_strip_without_memory before now from to frame bytes fault is le most shown = (
  is,
  elim (first_or_all IsPictureIn before now from to frame bytes le most shown) [
    | inl kept ↦ inl kept
    | inr all ↦ inr (bytes, all)
  ],
)

-- a picture of it isn't answered
pub draft_strip_unanswered : (before mid now : DraftContent) (from to frame : ℕ) (bytes : List ℕ) (fault : RunFault) → from ≤ frame → frame < to → HasShown IsPictureIn before mid from frame bytes → HasNoDraftAnswer mid now (Picture frame) fault
    → HasNoDraftAnswer before now (Pictures from to) fault
draft_strip_unanswered before mid now from to frame bytes fault le few shown (is, inl same) =
    (is, inl (subst (KeepsAll IsPictureIn (Pictures from to) before) (sym same) (first_shown IsPictureIn before mid from to frame bytes le few shown)))
draft_strip_unanswered before mid now from to frame bytes fault le few shown (is, inr (answer, told)) =
    draft_strip_without_memory before now from to (frame + 1) (bytes ++ answer) fault is (omega (arith, le)) (omega (arith, few)) (shown_more IsPictureIn before mid now from frame bytes answer (bytes ++ answer) le shown told refl)
