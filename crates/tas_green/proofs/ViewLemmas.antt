-- A view: where it starts, what it leaves, and how many frames the next one plays.
use Rattle.std.proofs.Common.{◌≡◌, ◌⊎◌, ℕ, ◌+◌, ◌-◌, ◌*◌, ◌/◌, ◌%◌, ◌<◌, ◌≤◌, max, Bool, true, false, List, [], ◌∷◌, length, Option, Some, None, refl, sym, ap, ◌∙◌, inl, inr, arith, mul-div_cancel}
use Rattle.std.specs.Prelude.{is_some}
use Rattle.std.proofs.Math.Nat.{div-mul-le_self}
use Rattle.std.proofs.Math.Arith.{digits_mod}
use Rattle.std.proofs.lemmas.Bool.{eq-eqb, ne_eqb, cases_lt, cases_eq}
use Rattle.std.proofs.lemmas.Bool.Decides.{eqb_tells, leb_tells}
use Rattle.vcs_machine.specs.declared.state.State.{State}
use Rattle.tas_movie.specs.Content.{MovieContent}
use Rattle.tas_green.specs.declared.savestate.Savestate.{Savestate}
use Rattle.tas_green.specs.Run.{state_after}
use Rattle.tas_green.specs.Zone.{state_at, nearest, first_of, where_true, is_passed}
use Rattle.tas_green.specs.Grid.{stride}
use Rattle.tas_green.specs.Green.{HoldsGrid, IsMoved}
use Rattle.tas_green.specs.Window.{is_near, is_gained, BothContent, both, start_between, view_start, IsWindowMoved, IsFilled, IsPlayedNear, IsOneAway}
use Rattle.tas_green.proofs.ZoneLemmas.{at_same, at_other}
use Rattle.tas_green.proofs.GridLemmas.{stride_rare, div_mono}
use Rattle.tas_green.proofs.BoundLemmas.{nearest_close, nearest_ge, next_row}
use Rattle.tas_green.proofs.RunLemmas.{tested_no, tested_in, tested_far, grid_test, near_test}
use Rattle.tas_green.proofs.WindowLemmas.{near_parts}

-- ---- the nearest state

pub nearest_le : (k : ℕ) (xs : List Savestate) → nearest k xs ≤ k
nearest_le k [] = omega arith
nearest_le k (x ∷ xs) =
    let rest = nearest_le k xs in
    elim (leb_tells x.frame k) [
      | inl within ↦ rw within.0 (omega (arith, rest, within.1))
      | inr past ↦ rw past.0 rest
    ]

there_in_front : (f : ℕ) (x : Savestate) (xs : List Savestate) → is_some (state_at f xs) ≡ true → is_some (state_at f (x ∷ xs)) ≡ true
there_in_front f x xs there =
    elim (eqb_tells x.frame f) [
      | inl here ↦ ap is_some (at_same f x xs here.1)
      | inr apart ↦ ap is_some (at_other f x xs apart.1) ∙ there
    ]

-- the nearest state is there, but for power-on
nearest_is_there : (k : ℕ) (xs : List Savestate) (n : ℕ) → nearest k xs ≡ n → 0 < n → is_some (state_at n xs) ≡ true
nearest_is_there k [] n e lt = absurd (omega (arith, e, lt))
nearest_is_there k (x ∷ xs) n e lt =
    elim (leb_tells x.frame k) [
      | inl within ↦
          let is : max x.frame (nearest k xs) ≡ n = rw within.0 at e in
          elim (cases_eq x.frame n) [
            | inl here ↦ ap is_some (at_same n x xs here)
            | inr apart ↦ ap is_some (at_other n x xs apart) ∙ nearest_is_there k xs n (omega (arith, is, apart)) lt
          ]
      | inr past ↦ there_in_front n x xs (nearest_is_there k xs n (rw past.0 at e) lt)
    ]

nearest_there : (k : ℕ) (xs : List Savestate) → 0 < nearest k xs → is_some (state_at (nearest k xs) xs) ≡ true
nearest_there k xs lt = nearest_is_there k xs (nearest k xs) refl lt

-- what is kept at a place is nearest to it
nearest_here : (k : ℕ) (xs : List Savestate) → is_some (state_at k xs) ≡ true → nearest k xs ≡ k
nearest_here k xs there = let low = nearest_ge xs k k there (omega arith) in omega (arith, low, nearest_le k xs)

-- ---- where a view starts

pub start_le : (s kept near k : ℕ) → kept ≤ k → near ≤ k → start_between s kept near ≤ k
start_le s kept near k le too =
    elim (eqb_tells (near / s) (kept / s)) [
      | inl here ↦ rw here.0 (omega (arith, le, too))
      | inr apart ↦ rw apart.0 le
    ]

pub start_ge : (s kept near : ℕ) → kept ≤ start_between s kept near
start_ge s kept near =
    elim (eqb_tells (near / s) (kept / s)) [
      | inl here ↦ rw here.0 (omega arith)
      | inr apart ↦ rw apart.0 (omega arith)
    ]

-- no place of the grid lies between the greenzone's nearest state and where a view starts
start_row : (s kept near : ℕ) → start_between s kept near / s ≡ kept / s
start_row s kept near =
    elim (eqb_tells (near / s) (kept / s)) [
      | inl here ↦ rw here.0 (elim (cases_lt kept near) [
        | inl past ↦ ap (λ (n : ℕ). n / s) (let is : max kept near ≡ near = omega arith in is) ∙ here.1
        | inr le ↦ ap (λ (n : ℕ). n / s) (let is : max kept near ≡ kept = omega arith in is)
      ])
      | inr apart ↦ rw apart.0 refl
    ]

-- what a start shows
start_parts : (s kept near j : ℕ) → start_between s kept near ≡ j → (kept ≡ j) ⊎ ((near ≡ j) × (near / s ≡ kept / s))
start_parts s kept near j e =
    elim (eqb_tells (near / s) (kept / s)) [
      | inl here ↦
          let is : max kept near ≡ j = rw here.0 at e in
          elim (cases_lt kept near) [
            | inl past ↦ inr (omega (arith, is), here.1)
            | inr le ↦ inl (omega (arith, is))
          ]
      | inr apart ↦ inl (rw apart.0 at e)
    ]

at_grid : (s kept near j : ℕ) → kept ≡ j → near ≤ j → start_between s kept near ≡ j
at_grid s kept near j is le =
    elim (eqb_tells (near / s) (kept / s)) [
      | inl here ↦ rw here.0 (omega (arith, is, le))
      | inr apart ↦ rw apart.0 is
    ]

at_window : (s kept near j : ℕ) → kept ≤ j → near ≡ j → kept / s ≡ j / s → start_between s kept near ≡ j
at_window s kept near j le is row =
    let same : near / s ≡ kept / s = ap (λ (n : ℕ). n / s) is ∙ sym row in
    rw (eq-eqb (near / s) (kept / s) same) (omega (arith, is, le))

-- ---- a view leaves the greenzone as a shot does

-- the places of the grid that are passed from a start are those that are passed from the nearest state
passed_same : (s kept start to f : ℕ) → 0 < s → kept ≤ start → start / s ≡ kept / s → is_passed s start to f ≡ is_passed s kept to f
passed_same s kept start to f pos le row =
    elim (cases_lt start f) [
      | inl past ↦ elim (cases_lt to f) [
        | inl far ↦ not_far start past far ∙ sym (not_far kept (omega (arith, le, past)) far)
        | inr within ↦ tested_in (grid_test s) start to f past within ∙ sym (tested_in (grid_test s) kept to f (omega (arith, le, past)) within)
      ]
      | inr before ↦ tested_no (grid_test s) start to f before ∙ sym (elim (cases_lt kept f) [
        | inl between ↦ elim (cases_lt to f) [
          | inl far ↦ not_far kept between far
          | inr within ↦ tested_in (grid_test s) kept to f between within ∙ ne_eqb (f % s) 0 (λ on. absurd (omega (arith, next_row kept f s pos between on, div_mono f start s pos before, row)))
        ]
        | inr none ↦ tested_no (grid_test s) kept to f none
      ])
    ]
  where
    not_far : (from : ℕ) → from < f → to < f → is_passed s from to f ≡ false
    not_far from lt far = tested_far (grid_test s) from to f far

-- what a view has done, from the lists of states that the cuts left
pub view_is : (old new : MovieContent) (k end ran start : ℕ) (green left green' window near window' : List Savestate)
    → IsMoved old new green left → IsWindowMoved old new window near → start ≡ view_start new k (both left near) → ran + start ≡ end
    → ((f : ℕ) → state_at f green' ≡ first_of (state_at f left) (where_true (is_passed (stride (length new.inputs)) start end f) (Some (state_after new f))))
    → IsFilled new start end near window'
    → IsPlayedNear old new k end (both green window) (both green' window') ran
view_is old new k end ran start green left green' window near window' moved cut is count passed filled =
    let s = stride (length new.inputs) in
    let pos : 0 < s = (stride_rare (length new.inputs)).0 in
    let low : nearest k left ≤ start = rw is (start_ge s (nearest k left) (nearest k near)) in
    let row : start / s ≡ nearest k left / s = ap (λ (n : ℕ). n / s) is ∙ start_row s (nearest k left) (nearest k near) in
    record {
      rose = ran + (start - nearest k left);
      played = record {
        left = left;
        moved = moved;
        rise = omega (arith, count, low);
        kept = λ f. passed f ∙ ap (λ (b : Bool). first_of (state_at f left) (where_true b (Some (state_after new f)))) (passed_same s (nearest k left) start end f pos low row);
      };
      left = near;
      moved = cut;
      start = rw is at count;
      filled = rw is at filled;
    }

-- no more frames are played than from the greenzone alone
pub view_less : (old new : MovieContent) (k end : ℕ) (before now : BothContent) (ran : ℕ) (v : IsPlayedNear old new k end before now ran) → ran ≤ v.rose
view_less old new k end before now ran v =
    let rise = v.played.rise in
    let start = v.start in
    omega (arith, rise, start, start_ge (stride (length new.inputs)) (nearest k v.played.left) (nearest k v.left))

-- ---- how many frames the next view plays

-- what is there stays where more is gained
stays : (f : ℕ) (old now : List Savestate) (more : Option State) → state_at f now ≡ first_of (state_at f old) more → is_some (state_at f old) ≡ true → is_some (state_at f now) ≡ true
stays f old now more is there = ap is_some is ∙ some_first (state_at f old) more there
  where
    some_first : (o p : Option State) → is_some o ≡ true → is_some (first_of o p) ≡ true
    some_first (Some x) p e = refl
    some_first None p e = absurd cc

some_second : (o : Option State) (x : State) → is_some (first_of o (Some x)) ≡ true
some_second (Some y) x = refl
some_second None x = refl

-- a greenzone's nearest state isn't lost
nearest_stays : (j : ℕ) (old now : List Savestate) (more : ℕ → Option State) → ((f : ℕ) → state_at f now ≡ first_of (state_at f old) (more f)) → (n : ℕ) → n ≤ j → (0 < n → is_some (state_at n old) ≡ true) → n ≤ nearest j now
nearest_stays j old now more is n le there =
    elim (cases_eq n 0) [
      | inl none ↦ omega (arith, none)
      | inr some ↦ nearest_ge now j n (stays n old now (more n) (is n) (there (omega (arith, some)))) le
    ]

-- the last place of the grid up to j
row_on : (j s : ℕ) → 0 < s → (j / s * s) % s ≡ 0
row_on j s pos = ap (λ (n : ℕ). n % s) (plus_zero (j / s * s)) ∙ digits_mod (j / s) pos
  where
    plus_zero : (n : ℕ) → n ≡ n + 0
    plus_zero n = omega arith

same_row : (n j s : ℕ) → 0 < s → n ≤ j → j / s * s ≤ n → n / s ≡ j / s
same_row n j s pos le ge =
    let up : n / s ≤ j / s = div_mono n j s pos le in
    let down : j / s * s / s ≤ n / s = div_mono (j / s * s) n s pos ge in
    omega (arith, up, rw (mul-div_cancel (j / s) pos) at down)

-- each near place whose state was played is one away
pub played_away : (movie : MovieContent) (k end start j : ℕ) (left green near window : List Savestate)
    → start ≡ view_start movie k (both left near) → start ≤ k
    → ((f : ℕ) → state_at f green ≡ first_of (state_at f left) (where_true (is_passed (stride (length movie.inputs)) start end f) (Some (state_after movie f))))
    → IsFilled movie start end near window → is_near end j ≡ true → start < j → IsOneAway movie j (both green window)
played_away movie k end start j left green near window is le passed filled here lt =
    let s = stride (length movie.inputs) in
    let pos : 0 < s = (stride_rare (length movie.inputs)).0 in
    let n = nearest k left in
    let within = near_parts end j here in
    let low : n ≤ start = rw is (start_ge s n (nearest k near)) in
    let row : start / s ≡ n / s = ap (λ (m : ℕ). m / s) is ∙ start_row s n (nearest k near) in
    let gained : is_gained end start end j ≡ true = tested_in (near_test end) start end j lt within.0 ∙ within.1 in
    let there : is_some (state_at j window) ≡ true = ap is_some (filled j) ∙ (rw gained (some_second (where_true (is_near end j) (state_at j near)) (state_after movie j))) in
    let at : nearest j window ≡ j = nearest_here j window there in
    let grid : j / s * s ≤ nearest j green =
    elim (cases_lt start (j / s * s)) [
      | inl past ↦
          let below : j / s * s ≤ j = div-mul-le_self j s in
          let hit : is_passed s start end (j / s * s) ≡ true = tested_in (grid_test s) start end (j / s * s) past (omega (arith, below, within.0)) ∙ eq-eqb (j / s * s % s) 0 (row_on j s pos) in
          nearest_ge green j (j / s * s) (ap is_some (passed (j / s * s)) ∙ (rw hit (some_second (state_at (j / s * s) left) (state_after movie (j / s * s))))) below
      | inr before ↦
          let up : j / s ≤ start / s = rw (mul-div_cancel (j / s) pos) at (div_mono (j / s * s) start s pos before) in
          let down : start / s ≤ j / s = div_mono start j s pos (omega (arith, lt)) in
          let same : n / s ≡ j / s = omega (arith, up, down, row) in
          let most : n / s * s ≤ n = div-mul-le_self n s in
          let stay : n ≤ nearest j green = nearest_stays j left green (λ f. where_true (is_passed s start end f) (Some (state_after movie f))) passed n (omega (arith, low, lt)) (nearest_there k left) in
          omega (arith, stay, rw same at most)
    ]
    in
    at_window s (nearest j green) (nearest j window) j (nearest_le j green) at (same_row (nearest j green) j s pos (nearest_le j green) grid)

-- each near place that was one away still is
pub still_away : (movie : MovieContent) (k end start j : ℕ) (left green near window : List Savestate)
    → ((f : ℕ) → state_at f green ≡ first_of (state_at f left) (where_true (is_passed (stride (length movie.inputs)) start end f) (Some (state_after movie f))))
    → IsFilled movie start end near window → is_near end j ≡ true → IsOneAway movie j (both left near) → IsOneAway movie j (both green window)
still_away movie k end start j left green near window passed filled here away =
    let s = stride (length movie.inputs) in
    let pos : 0 < s = (stride_rare (length movie.inputs)).0 in
    let n = nearest j left in
    let stay : n ≤ nearest j green = nearest_stays j left green (λ f. where_true (is_passed s start end f) (Some (state_after movie f))) passed n (nearest_le j left) (nearest_there j left) in
    elim (start_parts s n (nearest j near) j away) [
      | inl grid ↦ at_grid s (nearest j green) (nearest j window) j (omega (arith, stay, grid, nearest_le j green)) (nearest_le j window)
      | inr at ↦ elim (cases_eq j 0) [
        | inl none ↦ at_grid s (nearest j green) (nearest j window) j (omega (arith, none, nearest_le j green)) (nearest_le j window)
        | inr some ↦
            let was : is_some (state_at j near) ≡ true = rw at.0 at (nearest_there j near (omega (arith, at.0, some))) in
            let there : is_some (state_at j window) ≡ true = stays_near was in
            let up : nearest j green / s ≤ j / s = div_mono (nearest j green) j s pos (nearest_le j green) in
            let down : n / s ≤ nearest j green / s = div_mono n (nearest j green) s pos stay in
            let same : j / s ≡ n / s = ap (λ (m : ℕ). m / s) (sym at.0) ∙ at.1 in
            at_window s (nearest j green) (nearest j window) j (nearest_le j green) (nearest_here j window there) (omega (arith, up, down, same))
      ]
    ]
  where
    some_first : (o p : Option State) → is_some o ≡ true → is_some (first_of (where_true true o) p) ≡ true
    some_first (Some x) p e = refl
    some_first None p e = absurd cc

    stays_near : is_some (state_at j near) ≡ true → is_some (state_at j window) ≡ true
    stays_near was = ap is_some (filled j) ∙ (rw here (some_first (state_at j near) _ was))

-- ---- how many frames a view plays where all of the grid is kept

-- a frame whose state is in the window is played alone
pub step_one : (movie : MovieContent) (k ran start : ℕ) (left near : List Savestate) → start ≡ view_start movie k (both left near) → ran + start ≡ k + 1
    → HoldsGrid (stride (length movie.inputs)) k left → is_some (state_at k near) ≡ true → ran ≡ 1
step_one movie k ran start left near is count holds there =
    let s = stride (length movie.inputs) in
    let pos : 0 < s = (stride_rare (length movie.inputs)).0 in
    let below : k / s * s ≤ k = div-mul-le_self k s in
    let grid : k / s * s ≤ nearest k left =
    elim (cases_eq (k / s * s) 0) [
      | inl none ↦ omega (arith, none)
      | inr some ↦ nearest_ge left k (k / s * s) (holds (k / s * s) (omega (arith, some)) below (row_on k s pos)) below
    ]
    in
    let at = at_window s (nearest k left) (nearest k near) k (nearest_le k left) (nearest_here k near there) (same_row (nearest k left) k s pos (nearest_le k left) grid) in
    omega (arith, count, is, at)

-- and no more than a stride's frames are played
pub step_short : (movie : MovieContent) (k ran start : ℕ) (left near : List Savestate) → start ≡ view_start movie k (both left near) → ran + start ≡ k + 1
    → HoldsGrid (stride (length movie.inputs)) k left → ran ≤ stride (length movie.inputs)
step_short movie k ran start left near is count holds =
    let s = stride (length movie.inputs) in
    let close = nearest_close left k s (stride_rare (length movie.inputs)).0 holds in
    omega (arith, count, is, close, start_ge s (nearest k left) (nearest k near))
