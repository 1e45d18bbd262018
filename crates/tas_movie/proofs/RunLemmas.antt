-- Runs of equal frames.
use Rattle.std.proofs.Common.{◌≡◌, ℕ, zero, suc, ◌+◌, ◌-◌, ◌<◌, ◌≤◌, ◌⊎◌, inl, inr, ⊎_elim, Bool, true, false, cond, List, [], ◌∷◌, ◌++◌, length, take, drop, Option, Some, None, refl, sym, ap, subst, ◌∙◌, arith, add-one}
use Rattle.std.specs.Prelude.{replicate, slice_get}
use Rattle.std.specs.List.{flat_map}
use Rattle.std.specs.Cmp.{booleans_Decides}
use mathlib.Core.Bool.{beq}
use Rattle.std.proofs.lemmas.Bool.{cases_Bool, false≢true}
use Rattle.std.proofs.lemmas.List.{append-nil, take-append-drop, length-append, length-replicate}
use Rattle.std.proofs.lemmas.Slice.Eq.{slice_eq-Decides}
use Rattle.vcs_inputs.specs.declared.input.Input.{Input}
use Rattle.vcs_inputs.specs.Input.{switches_of, are_same_inputs}
use Rattle.vcs_inputs.proofs.InputLemmas.{input_by_switches}
use Rattle.tas_movie.specs.declared.run.FrameRun.{FrameRun}
use Rattle.tas_movie.specs.Runs.{run_inputs, run_of_one, in_front, runs_of, BeginOtherwise, AreLongest}

-- ---- equal inputs

pub same_equal : (a b : Input) → are_same_inputs a b ≡ true → a ≡ b
same_equal a b t = input_by_switches a b ((slice_eq-Decides {E = beq} booleans_Decides (switches_of a) (switches_of b) (are_same_inputs a b) refl).0 t)

pub equal_same : (a b : Input) → a ≡ b → are_same_inputs a b ≡ true
equal_same a b e = (slice_eq-Decides {E = beq} booleans_Decides (switches_of a) (switches_of b) (are_same_inputs a b) refl).1 (ap switches_of e)

cases_same : (a b : Input) → (a ≡ b) ⊎ (a ≡ b → ⊥)
cases_same a b = ⊎_elim (λ t. inl (same_equal a b t)) (λ f. inr (λ e. false≢true (sym f ∙ equal_same a b e))) (cases_Bool (are_same_inputs a b))

pub apart_same : (a b : Input) → (a ≡ b → ⊥) → are_same_inputs a b ≡ false
apart_same a b ne = ⊎_elim (λ t. absurd (ne (same_equal a b t))) (λ f. f) (cases_Bool (are_same_inputs a b))

-- ---- a frame more before the others

front_same : (i : Input) (r : FrameRun) (rs : List FrameRun) → i ≡ r.input → in_front i (r ∷ rs) ≡ record r { count = r.count + 1 } ∷ rs
front_same i r rs e = ap (λ (b : Bool). cond b (record r { count = r.count + 1 } ∷ rs) (run_of_one i ∷ r ∷ rs)) (equal_same i r.input e)

front_other : (i : Input) (r : FrameRun) (rs : List FrameRun) → (i ≡ r.input → ⊥) → in_front i (r ∷ rs) ≡ run_of_one i ∷ r ∷ rs
front_other i r rs ne = ap (λ (b : Bool). cond b (record r { count = r.count + 1 } ∷ rs) (run_of_one i ∷ r ∷ rs)) (apart_same i r.input ne)

front_alone : (i : Input) (rs : List FrameRun) → BeginOtherwise i rs → in_front i rs ≡ run_of_one i ∷ rs
unfolding BeginOtherwise
front_alone i [] h = refl
front_alone i (r ∷ rs) h = front_other i r rs h

front_begins : (i y : Input) (rs : List FrameRun) → (i ≡ y → ⊥) → BeginOtherwise i (in_front y rs)
unfolding BeginOtherwise
front_begins i y [] ne = ne
front_begins i y (r ∷ rs) ne =
    ⊎_elim (λ (same : y ≡ r.input). subst (BeginOtherwise i) (sym (front_same y r rs same)) (λ (e : i ≡ r.input). ne (e ∙ sym same)))
    (λ (other : y ≡ r.input → ⊥). subst (BeginOtherwise i) (sym (front_other y r rs other)) ne)
    (cases_same y r.input)

front_longest : (i : Input) (rs : List FrameRun) → AreLongest rs → AreLongest (in_front i rs)
unfolding AreLongest BeginOtherwise
front_longest i [] h = (omega arith, tt, tt)
front_longest i (r ∷ rs) h =
    ⊎_elim (λ (same : i ≡ r.input). subst AreLongest (sym (front_same i r rs same)) (omega arith, h.1, h.2))
    (λ (other : i ≡ r.input → ⊥). subst AreLongest (sym (front_other i r rs other)) (omega arith, other, h))
    (cases_same i r.input)

front_inputs : (i : Input) (rs : List FrameRun) → flat_map run_inputs (in_front i rs) ≡ i ∷ flat_map run_inputs rs
front_inputs i [] = refl
front_inputs i (r ∷ rs) =
    ⊎_elim
    (λ (same : i ≡ r.input). ap (flat_map run_inputs) (front_same i r rs same)
    ∙ ap (λ (k : ℕ). replicate k r.input ++ flat_map run_inputs rs) (add-one r.count)
    ∙ ap (λ (x : Input). x ∷ (replicate r.count r.input ++ flat_map run_inputs rs)) (sym same))
    (λ (other : i ≡ r.input → ⊥). ap (flat_map run_inputs) (front_other i r rs other))
    (cases_same i r.input)

-- the first of some runs is the only one that the frame may belong to
cons_behind : (x : Input) (r : FrameRun) (q rs : List FrameRun) → in_front x ((r ∷ q) ++ rs) ≡ in_front x (r ∷ q) ++ rs
cons_behind x r q rs =
    ⊎_elim (λ (same : x ≡ r.input). front_same x r (q ++ rs) same ∙ sym (ap (λ (l : List FrameRun). l ++ rs) (front_same x r q same)))
    (λ (other : x ≡ r.input → ⊥). front_other x r (q ++ rs) other ∙ sym (ap (λ (l : List FrameRun). l ++ rs) (front_other x r q other)))
    (cases_same x r.input)

front_behind : (x y : Input) (q rs : List FrameRun) → in_front x (in_front y q ++ rs) ≡ in_front x (in_front y q) ++ rs
front_behind x y [] rs = cons_behind x (run_of_one y) [] rs
front_behind x y (r ∷ q) rs =
    ⊎_elim
    (λ (same : y ≡ r.input). subst (λ (l : List FrameRun). in_front x (l ++ rs) ≡ in_front x l ++ rs) (sym (front_same y r q same)) (cons_behind x (record r { count = r.count + 1 }) q rs))
    (λ (other : y ≡ r.input → ⊥). subst (λ (l : List FrameRun). in_front x (l ++ rs) ≡ in_front x l ++ rs) (sym (front_other y r q other)) (cons_behind x (run_of_one y) (r ∷ q) rs))
    (cases_same y r.input)

-- ---- the runs of some frames

pub runs_longest : (xs : List Input) → AreLongest (runs_of xs)
unfolding runs_of AreLongest
runs_longest [] = tt
runs_longest (x ∷ xs) = front_longest x (runs_of xs) (runs_longest xs)

pub runs_made : (xs : List Input) → flat_map run_inputs (runs_of xs) ≡ xs
unfolding runs_of
runs_made [] = refl
runs_made (x ∷ xs) = front_inputs x (runs_of xs) ∙ ap (λ (l : List Input). x ∷ l) (runs_made xs)

first_run : (i : Input) (m : ℕ) (ys : List Input) → BeginOtherwise i (runs_of ys) → runs_of (replicate (suc m) i ++ ys) ≡ record { input = i; count = suc m } ∷ runs_of ys
unfolding runs_of
first_run i zero ys h = front_alone i (runs_of ys) h
first_run i (suc m) ys h =
    let run : FrameRun = record { input = i; count = suc m } in
    ap (in_front i) (first_run i m ys h) ∙ front_same i run (runs_of ys) refl
    ∙ ap (λ (k : ℕ). let r : FrameRun = record { input = i; count = k } in r ∷ runs_of ys) (add-one (suc m))

pub first_of : (i : Input) (n : ℕ) (ys : List Input) → 1 ≤ n → BeginOtherwise i (runs_of ys) → runs_of (replicate n i ++ ys) ≡ record { input = i; count = n } ∷ runs_of ys
first_of i zero ys le h = absurd (omega arith)
first_of i (suc m) ys le h = first_run i m ys h

pub runs_only : (rs : List FrameRun) → AreLongest rs → runs_of (flat_map run_inputs rs) ≡ rs
unfolding runs_of AreLongest
runs_only [] h = refl
runs_only (r ∷ rs) h =
    let rest : runs_of (flat_map run_inputs rs) ≡ rs = runs_only rs h.2 in
    first_of r.input r.count (flat_map run_inputs rs) h.0 (subst (BeginOtherwise r.input) (sym rest) h.1)
    ∙ ap (λ (l : List FrameRun). r ∷ l) rest

begin_other : (i : Input) (ys : List Input) → (slice_get ys 0 ≡ Some i → ⊥) → BeginOtherwise i (runs_of ys)
unfolding runs_of BeginOtherwise
begin_other i [] h = tt
begin_other i (y ∷ ys) h = front_begins i y (runs_of ys) (λ (e : i ≡ y). h (ap Some (sym e)))

get_drop : (xs : List Input) (n : ℕ) → slice_get (drop n xs) 0 ≡ slice_get xs n
get_drop [] zero = refl
get_drop [] (suc n) = refl
get_drop (x ∷ xs) zero = refl
get_drop (x ∷ xs) (suc n) = get_drop xs n

pub none_some : (i : Input) → ◌≡◌ {A = Option Input} None (Some i) → ⊥
none_some i e = cc

some_below : (xs : List Input) (n : ℕ) (i : Input) → slice_get xs n ≡ Some i → n < length xs
some_below [] n i e = absurd (none_some i e)
some_below (x ∷ xs) zero i e = omega arith
some_below (x ∷ xs) (suc n) i e = let below = some_below xs n i e in omega (arith, below)

-- n equal frames, after which another one stands or none, are the first run
pub runs_split : (xs : List Input) (i : Input) (n : ℕ) → 1 ≤ n → take n xs ≡ replicate n i → (n < length xs → slice_get xs n ≡ Some i → ⊥)
    → runs_of xs ≡ record { input = i; count = n } ∷ runs_of (drop n xs)
runs_split xs i n le same longest =
    ap runs_of (sym (take-append-drop n xs) ∙ ap (λ (l : List Input). l ++ drop n xs) same)
    ∙ first_of i n (drop n xs) le (begin_other i (drop n xs) (λ e. let here : slice_get xs n ≡ Some i = sym (get_drop xs n) ∙ e in longest (some_below xs n i here) here))

-- ---- a run more after some frames

last_more : (x y : Input) (xs : List Input) → slice_get (x ∷ y ∷ xs) (length (x ∷ y ∷ xs) - 1) ≡ slice_get (y ∷ xs) (length (y ∷ xs) - 1)
last_more x y xs = let e : suc (suc (length xs)) - 1 ≡ suc (suc (length xs) - 1) = omega arith in ap (slice_get (x ∷ y ∷ xs)) e

run_behind : (xs : List Input) (i : Input) (m : ℕ) → (slice_get xs (length xs - 1) ≡ Some i → ⊥)
    → runs_of (xs ++ replicate (suc m) i) ≡ runs_of xs ++ record { input = i; count = suc m } ∷ []
unfolding runs_of BeginOtherwise
run_behind [] i m h = ap runs_of (sym (append-nil (replicate (suc m) i))) ∙ first_run i m [] tt
run_behind (x ∷ []) i m h =
    let run : FrameRun = record { input = i; count = suc m } in
    ap (λ (l : List Input). in_front x (runs_of l)) (sym (append-nil (replicate (suc m) i))) ∙ ap (in_front x) (first_run i m [] tt)
    ∙ front_other x run [] (λ (e : x ≡ i). h (ap Some e))
run_behind (x ∷ y ∷ xs) i m h =
    let run : FrameRun = record { input = i; count = suc m } in
    ap (in_front x) (run_behind (y ∷ xs) i m (λ e. h (last_more x y xs ∙ e))) ∙ front_behind x y (runs_of xs) (run ∷ [])

pub runs_more : (xs : List Input) (r : FrameRun) → 1 ≤ r.count → (slice_get xs (length xs - 1) ≡ Some r.input → ⊥) → runs_of (xs ++ run_inputs r) ≡ runs_of xs ++ r ∷ []
runs_more xs r le h = go r.count le
  where
    go : (n : ℕ) → 1 ≤ n → runs_of (xs ++ replicate n r.input) ≡ runs_of xs ++ record { input = r.input; count = n } ∷ []
    go zero some = absurd (omega arith)
    go (suc m) some = run_behind xs r.input m h

-- ---- the last of some frames

get_behind : (xs ys : List Input) (k : ℕ) → slice_get (xs ++ ys) (length xs + k) ≡ slice_get ys k
get_behind [] ys k = let e : 0 + k ≡ k = omega arith in ap (slice_get ys) e
get_behind (x ∷ xs) ys k = let e : suc (length xs) + k ≡ suc (length xs + k) = omega arith in ap (slice_get (x ∷ (xs ++ ys))) e ∙ get_behind xs ys k

get_copy : (n k : ℕ) (i : Input) → k < n → slice_get (replicate n i) k ≡ Some i
get_copy zero k i lt = absurd (omega arith)
get_copy (suc n) zero i lt = refl
get_copy (suc n) (suc k) i lt = get_copy n k i (omega arith)

pub run_is_last : (xs : List Input) (r : FrameRun) → 1 ≤ r.count → slice_get (xs ++ run_inputs r) (length (xs ++ run_inputs r) - 1) ≡ Some r.input
run_is_last xs r le =
    let place : length (xs ++ run_inputs r) - 1 ≡ length xs + (r.count - 1) = omega (arith, length-append xs (run_inputs r), length-replicate r.count r.input) in
    ap (slice_get (xs ++ run_inputs r)) place ∙ get_behind xs (run_inputs r) (r.count - 1) ∙ get_copy r.count (r.count - 1) r.input (omega arith)

pub length-runs : (r : FrameRun) (rs : List FrameRun) → length (flat_map run_inputs (r ∷ rs)) ≡ r.count + length (flat_map run_inputs rs)
length-runs r rs = omega (arith, length-append (run_inputs r) (flat_map run_inputs rs), length-replicate r.count r.input)
