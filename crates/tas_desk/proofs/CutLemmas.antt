-- A cut for another movie leaves one list of states.
use Rattle.std.proofs.Common.{◌≡◌, ◌≢◌, ℕ, zero, suc, ◌+◌, ◌<◌, ◌≤◌, List, [], ◌∷◌, length, take, refl, ap, sym, ◌∙◌, subst, inl, inr, arith}
use Rattle.std.proofs.lemmas.Bool.{cases_eq, cases_lt}
use Rattle.std.specs.Prelude.{slice_get, filter}
use Rattle.vcs_inputs.specs.declared.input.Input.{Input}
use Rattle.tas_movie.specs.Content.{MovieContent}
use Rattle.tas_green.specs.declared.savestate.Savestate.{Savestate}
use Rattle.tas_green.specs.Front.{IsSharedFront}
use Rattle.tas_movie.specs.Front.{IsCommonFront}
use Rattle.tas_green.specs.Green.{IsMoved, IsShotFrom, HoldsGrid, is_left}
use Rattle.tas_green.specs.Grid.{stride}
use Rattle.tas_green.specs.Window.{IsViewFrom, both}
use Rattle.tas_green.proofs.GridLemmas.{stride_rare}
use Rattle.tas_green.proofs.BoundLemmas.{nearest_close}
use Rattle.tas_green.proofs.ViewLemmas.{view_less}
use Rattle.tas_desk.specs.Zones.{ZoneContent, IsShort}

pub get_take : (xs : List Input) (m n : ℕ) → n < m → slice_get (take m xs) n ≡ slice_get xs n
get_take xs zero n lt = absurd (omega (arith, lt))
get_take [] (suc m) n lt = refl
get_take (x ∷ xs) (suc m) zero lt = refl
get_take (x ∷ xs) (suc m) (suc n) lt = get_take xs m n (omega (arith, lt))

-- a common front isn't shorter than another one
no_shorter : (a b : List Input) (n m : ℕ) → IsCommonFront a b n → IsCommonFront a b m → n < m → ⊥
no_shorter a b n m f g lt =
    f.longest (let w = g.within_a in omega (arith, lt, w)) (let w = g.within_b in omega (arith, lt, w))
    (sym (get_take a m n lt) ∙ ap (λ (xs : List Input). slice_get xs n) g.same ∙ get_take b m n lt)

common_once : (a b : List Input) (n m : ℕ) → IsCommonFront a b n → IsCommonFront a b m → n ≡ m
common_once a b n m f g = elim (cases_lt n m) [
  | inl less ↦ absurd (no_shorter a b n m f g less)
  | inr most ↦ elim (cases_lt m n) [ inl less ↦ absurd (no_shorter a b m n g f less) | inr least ↦ omega (arith, most, least) ]
]

shared_once : (old new : MovieContent) (n m : ℕ) → IsSharedFront old new n → IsSharedFront old new m → n ≡ m
shared_once old new n m f g = elim (cases_eq n m) [
  | inl same ↦ same
  | inr apart ↦ let differ : new.cart ≢ old.cart = λ same. apart (common_once old.inputs new.inputs n m (f.inputs same) (g.inputs same)) in absurd (apart (f.cart differ ∙ sym (g.cart differ)))
]

pub moved_once : (old new : MovieContent) (zone left other : List Savestate) → IsMoved old new zone left → IsMoved old new zone other → left ≡ other
moved_once old new zone left other one two =
    one.2 ∙ ap (λ (at : ℕ). filter (is_left at (length new.inputs)) zone) (shared_once old new one.0 two.0 one.1 two.1) ∙ sym two.2

-- where all of the grid is left, a shot plays at most a stride's frames
pub short_shot : {A : Type 0} (before now : ZoneContent A) (k ran : ℕ) → IsShotFrom before.movie now.movie k before.states now.states 0 ran → IsShort before now k ran
short_shot before now k ran shot = record { most = few }
  where
    few : (left : List Savestate) → IsMoved before.movie now.movie before.states left → HoldsGrid (stride (length now.movie.inputs)) k left → ran ≤ stride (length now.movie.inputs)
    few left moved all =
        let there : HoldsGrid (stride (length now.movie.inputs)) k shot.left = subst (HoldsGrid (stride (length now.movie.inputs)) k) (moved_once before.movie now.movie before.states left shot.left moved shot.moved) all in
        let rise = shot.rise in
        let close = nearest_close shot.left k (stride (length now.movie.inputs)) (stride_rare (length now.movie.inputs)).0 there in
        omega (arith, rise, close)

-- a view plays no more than a shot would
pub short_view : {A : Type 0} (before now : ZoneContent A) (k ran : ℕ) → IsViewFrom before.movie now.movie k (both before.states before.window) (both now.states now.window) ran → IsShort before now k ran
short_view before now k ran view =
    let less = view_less before.movie now.movie k (k + 1) (both before.states before.window) (both now.states now.window) ran view in
    let short = short_shot before now k view.rose view.played in
    record { most = λ left moved all. let few = short.most left moved all in omega (arith, less, few) }
