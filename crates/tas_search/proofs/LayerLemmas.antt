-- What layers have: of each machine that sequences of their length reach one, with the first of these.
use Rattle.std.proofs.Common.{◌≡◌, ℕ, zero, suc, ◌+◌, ◌-◌, ◌*◌, ◌<◌, ◌≤◌, Bool, true, false, List, [], ◌∷◌, ◌++◌, length, Option, Some, None, refl, sym, ap, subst, ◌∙◌, inl, inr, arith}
use Rattle.std.specs.Prelude.{◌⊎◌, ◌||◌, if◌then◌else◌}
use Rattle.std.specs.List.{list_any}
use Rattle.std.proofs.lemmas.Bool.{cases_eq}
use Rattle.std.proofs.Math.Nat.{mul-le-mul_right}
use Rattle.vcs_cpu.specs.declared.halt.Halt.{Halt}
use Rattle.vcs_machine.specs.Equality.{are_same_machines, machines_decide}
use Rattle.vcs_machine.specs.Machine.{Machine, unless_halted}
use Rattle.tas_search.specs.Space.{SpaceContent, after_choice, reached_from, reached, AreNumbers, AreChoices, rank_from, rank}
use Rattle.tas_search.specs.Inside.Layers.{Reached, with_reached, with_all, next_reached, next_from, next_of, grown_from, grown, layers_from, root, first_of, first_layer, layer_of}

-- ---- ranks

pub rank_push : (b r k : ℕ) (ks : List ℕ) → rank_from b r (ks ++ k ∷ []) ≡ rank_from b r ks * b + k
rank_push b r k [] = refl
rank_push b r k (x ∷ ks) = rank_push b (r * b + x) k ks

pub halt_cases : (h : Option Halt) → (h ≡ None) ⊎ ((x : Halt) × (h ≡ Some x))
halt_cases None = inl refl
halt_cases (Some x) = inr (x, refl)

some_is : (x y : Machine) → ◌≡◌ {A = Option Machine} (Some x) (Some y) → x ≡ y
some_is x y e = cc

none_some : (y : Machine) → ◌≡◌ {A = Option Machine} None (Some y) → ⊥
none_some y e = cc

module _ (s : SpaceContent) where
  -- a layer has this machine, by a sequence of this rank at most
  abbrev pub Covers : List Reached → Machine → ℕ → Type 0
  Covers [] m q = ⊥
  Covers (r ∷ rs) m q = ((r.machine ≡ m) × (rank s r.sequence ≤ q)) ⊎ Covers rs m q

  -- all ranks are below a number
  abbrev pub Under : ℕ → List Reached → Type 0
  Under b [] = Unit {0}
  Under b (r ∷ rs) = (rank s r.sequence < b) × Under b rs

  -- the ranks rise, from a number on
  abbrev pub Ascends : ℕ → List Reached → Type 0
  Ascends b [] = Unit {0}
  Ascends b (r ∷ rs) = (b ≤ rank s r.sequence) × Ascends (rank s r.sequence + 1) rs

  pub covers_weaken : (rs : List Reached) (m : Machine) (q p : ℕ) → q ≤ p → Covers rs m q → Covers rs m p
  covers_weaken [] m q p le h = h
  covers_weaken (r ∷ rs) m q p le (inl h) = inl (h.0, omega arith)
  covers_weaken (r ∷ rs) m q p le (inr h) = inr (covers_weaken rs m q p le h)

  pub covers_push : (rs : List Reached) (r : Reached) (m : Machine) (q : ℕ) → Covers rs m q → Covers (rs ++ r ∷ []) m q
  covers_push [] r m q h = absurd h
  covers_push (o ∷ rs) r m q (inl h) = inl h
  covers_push (o ∷ rs) r m q (inr h) = inr (covers_push rs r m q h)

  pub covers_last : (rs : List Reached) (r : Reached) → Covers (rs ++ r ∷ []) r.machine (rank s r.sequence)
  covers_last [] r = inl (refl, omega arith)
  covers_last (o ∷ rs) r = inr (covers_last rs r)

  -- what the test for a known machine finds
  pub covers_known : (rs : List Reached) (r : Reached) → Under (rank s r.sequence + 1) rs → list_any (λ o. are_same_machines r.machine o.machine) rs ≡ true
      → Covers rs r.machine (rank s r.sequence)
  covers_known [] r u e = absurd cc
  covers_known (o ∷ rs) r u e = split (are_same_machines r.machine o.machine) refl (covers_known rs r u.1)
    where
      split : (b : Bool) → are_same_machines r.machine o.machine ≡ b → (list_any (λ p. are_same_machines r.machine p.machine) rs ≡ true → Covers rs r.machine (rank s r.sequence))
          → Covers (o ∷ rs) r.machine (rank s r.sequence)
      split true is rest = inl (sym ((machines_decide r.machine o.machine).0 is), omega arith)
      split false is rest = inr (rest (sym (ap (λ (b : Bool). b || list_any (λ p. are_same_machines r.machine p.machine) rs) is) ∙ e))

  pub covers_kept : (rs : List Reached) (r : Reached) (m : Machine) (q : ℕ) → Covers rs m q → Covers (with_reached rs r) m q
  covers_kept rs r m q h = split (list_any (λ o. are_same_machines r.machine o.machine) rs)
    where
      split : (b : Bool) → Covers (if b then rs else rs ++ r ∷ []) m q
      split true = h
      split false = covers_push rs r m q h

  pub covers_kept_all : (rs cs : List Reached) (m : Machine) (q : ℕ) → Covers rs m q → Covers (with_all rs cs) m q
  covers_kept_all rs [] m q h = h
  covers_kept_all rs (c ∷ cs) m q h = covers_kept_all (with_reached rs c) cs m q (covers_kept rs c m q h)

  pub covers_grown : (next layer : List Reached) (m : Machine) (q : ℕ) → Covers next m q → Covers (grown_from s next layer) m q
  covers_grown next [] m q h = h
  covers_grown next (r ∷ rs) m q h = covers_grown (with_all next (next_of s r)) rs m q (covers_kept_all next (next_of s r) m q h)

  pub covers_added : (rs : List Reached) (r : Reached) → Under (rank s r.sequence + 1) rs → Covers (with_reached rs r) r.machine (rank s r.sequence)
  covers_added rs r u = split (list_any (λ o. are_same_machines r.machine o.machine) rs) refl
    where
      split : (b : Bool) → list_any (λ o. are_same_machines r.machine o.machine) rs ≡ b → Covers (if b then rs else rs ++ r ∷ []) r.machine (rank s r.sequence)
      split true is = covers_known rs r u is
      split false is = covers_last rs r

  -- ---- in order

  pub under_weaken : (rs : List Reached) (a b : ℕ) → a ≤ b → Under a rs → Under b rs
  under_weaken [] a b le u = tt
  under_weaken (r ∷ rs) a b le u = (omega arith, under_weaken rs a b le u.1)

  pub under_push : (rs : List Reached) (r : Reached) (b : ℕ) → Under b rs → rank s r.sequence < b → Under b (rs ++ r ∷ [])
  under_push [] r b u lt = (lt, tt)
  under_push (o ∷ rs) r b u lt = (u.0, under_push rs r b u.1 lt)

  pub under_with : (rs : List Reached) (r : Reached) (b : ℕ) → Under b rs → rank s r.sequence < b → Under b (with_reached rs r)
  under_with rs r b u lt = split (list_any (λ o. are_same_machines r.machine o.machine) rs)
    where
      split : (t : Bool) → Under b (if t then rs else rs ++ r ∷ [])
      split true = u
      split false = under_push rs r b u lt

  pub ascends_weaken : (rs : List Reached) (a b : ℕ) → b ≤ a → Ascends a rs → Ascends b rs
  ascends_weaken [] a b le h = tt
  ascends_weaken (r ∷ rs) a b le h = (omega arith, h.1)

  pub ascends_push : (rs : List Reached) (r : Reached) (a : ℕ) → Ascends a rs → Under (rank s r.sequence) rs → a ≤ rank s r.sequence → Ascends a (rs ++ r ∷ [])
  ascends_push [] r a h u le = (le, tt)
  ascends_push (o ∷ rs) r a h u le = (h.0, ascends_push rs r (rank s o.sequence + 1) h.1 u.1 (omega arith))

  pub ascends_with : (rs : List Reached) (r : Reached) → Ascends 0 rs → Under (rank s r.sequence) rs → Ascends 0 (with_reached rs r)
  ascends_with rs r h u = split (list_any (λ o. are_same_machines r.machine o.machine) rs)
    where
      split : (t : Bool) → Ascends 0 (if t then rs else rs ++ r ∷ [])
      split true = h
      split false = ascends_push rs r 0 h u (omega arith)

  -- a layer in order covers nothing below its beginning
  pub covers_from : (rs : List Reached) (m : Machine) (q a : ℕ) → Ascends a rs → Covers rs m q → a ≤ q
  covers_from [] m q a h c = absurd c
  covers_from (r ∷ rs) m q a h (inl c) = omega arith
  covers_from (r ∷ rs) m q a h (inr c) = let rest : rank s r.sequence + 1 ≤ q = covers_from rs m q (rank s r.sequence + 1) h.1 c in omega arith

  -- ---- what a member's choices add

  -- the rank after choice number k
  abbrev pub spot : Reached → ℕ → ℕ
  spot r k = rank s r.sequence * length s.choices + k

  next_rank : (r : Reached) (k : ℕ) → rank s (next_reached s r k).sequence ≡ spot r k
  next_rank r k = rank_push (length s.choices) 0 k r.sequence

  -- one choice's machine leaves room for the next one's
  next_under : (next : List Reached) (r : Reached) (k : ℕ) → Under (spot r k) next → Under (spot r (suc k)) (with_reached next (next_reached s r k))
  next_under next r k u =
      under_with next (next_reached s r k) (spot r (suc k)) (under_weaken next (spot r k) (spot r (suc k)) (omega arith) u) (omega (arith, next_rank r k))

  next_order : (next : List Reached) (r : Reached) (k : ℕ) → Ascends 0 next → Under (spot r k) next → Ascends 0 (with_reached next (next_reached s r k))
  next_order next r k h u =
      ascends_with next (next_reached s r k) h (under_weaken next (spot r k) (rank s (next_reached s r k).sequence) (omega (arith, next_rank r k)) u)

  next_added : (next : List Reached) (r : Reached) (k : ℕ) → Under (spot r k) next → Covers (with_reached next (next_reached s r k)) (after_choice s r.machine k) (spot r k)
  next_added next r k u =
      covers_weaken (with_reached next (next_reached s r k)) (after_choice s r.machine k) (rank s (next_reached s r k).sequence) (spot r k) (omega (arith, next_rank r k))
      (covers_added next (next_reached s r k) (under_weaken next (spot r k) (rank s (next_reached s r k).sequence + 1) (omega (arith, next_rank r k)) u))

  pub next_ascends : (n k : ℕ) (next : List Reached) (r : Reached) → Ascends 0 next → Under (spot r k) next → Ascends 0 (with_all next (next_from s r k n))
  next_ascends zero k next r h u = h
  next_ascends (suc n) k next r h u = next_ascends n (suc k) (with_reached next (next_reached s r k)) r (next_order next r k h u) (next_under next r k u)

  pub next_below : (n k : ℕ) (next : List Reached) (r : Reached) → Under (spot r k) next → Under (spot r (k + n)) (with_all next (next_from s r k n))
  next_below zero k next r u = under_weaken next (spot r k) (spot r (k + 0)) (omega arith) u
  next_below (suc n) k next r u =
      subst (λ (i : ℕ). Under (spot r i) (with_all (with_reached next (next_reached s r k)) (next_from s r (suc k) n))) (swap k n)
      (next_below n (suc k) (with_reached next (next_reached s r k)) r (next_under next r k u))
    where
      swap : (k n : ℕ) → suc k + n ≡ k + suc n
      swap k n = omega arith

  pub next_covers : (n k j : ℕ) (next : List Reached) (r : Reached) → Under (spot r k) next → k ≤ j → j < k + n
      → Covers (with_all next (next_from s r k n)) (after_choice s r.machine j) (spot r j)
  next_covers zero k j next r u from to = absurd (omega arith)
  next_covers (suc n) k j next r u from to =
      elim (cases_eq k j) [
        | inl e ↦
            subst (λ (i : ℕ). Covers (with_all (with_reached next (next_reached s r k)) (next_from s r (suc k) n)) (after_choice s r.machine i) (spot r i)) e
            (covers_kept_all (with_reached next (next_reached s r k)) (next_from s r (suc k) n) (after_choice s r.machine k) (spot r k) (next_added next r k u))
        | inr ne ↦ next_covers n (suc k) j (with_reached next (next_reached s r k)) r (next_under next r k u) (omega arith) (omega arith)
      ]

  -- ---- the next layer

  -- the choices of a member that has not halted
  goes_on : (r : Reached) → r.machine.halt ≡ None → next_of s r ≡ next_from s r 0 (length s.choices)
  goes_on r e = ap (λ (h : Option Halt). unless_halted h (next_from s r 0 (length s.choices)) []) e

  stops : (r : Reached) (x : Halt) → r.machine.halt ≡ Some x → next_of s r ≡ []
  stops r x e = ap (λ (h : Option Halt). unless_halted h (next_from s r 0 (length s.choices)) []) e

  more_times : (a c b : ℕ) → a ≤ c → a * b ≤ c * b
  more_times a c b le = mul-le-mul_right b le

  -- room for the choices of a member, where there is room for those of earlier ones
  room : (next : List Reached) (r : Reached) (a : ℕ) → a ≤ rank s r.sequence → Under (a * length s.choices) next → Under (spot r 0) next
  room next r a le u = under_weaken next (a * length s.choices) (spot r 0) (omega (arith, more_times a (rank s r.sequence) (length s.choices) le)) u

  pub member_ascends : (next : List Reached) (r : Reached) → Ascends 0 next → Under (spot r 0) next → Ascends 0 (with_all next (next_of s r))
  member_ascends next r h u =
      elim (halt_cases r.machine.halt) [
        | inl e ↦ subst (λ (cs : List Reached). Ascends 0 (with_all next cs)) (sym (goes_on r e)) (next_ascends (length s.choices) 0 next r h u)
        | inr x ↦ subst (λ (cs : List Reached). Ascends 0 (with_all next cs)) (sym (stops r x.0 x.1)) h
      ]

  pub member_below : (next : List Reached) (r : Reached) → Under (spot r 0) next → Under ((rank s r.sequence + 1) * length s.choices) (with_all next (next_of s r))
  member_below next r u =
      elim (halt_cases r.machine.halt) [
        | inl e ↦
            subst (λ (cs : List Reached). Under ((rank s r.sequence + 1) * length s.choices) (with_all next cs)) (sym (goes_on r e))
            (under_weaken (with_all next (next_from s r 0 (length s.choices))) (spot r (0 + length s.choices)) ((rank s r.sequence + 1) * length s.choices) (omega arith)
            (next_below (length s.choices) 0 next r u))
        | inr x ↦
            subst (λ (cs : List Reached). Under ((rank s r.sequence + 1) * length s.choices) (with_all next cs)) (sym (stops r x.0 x.1))
            (under_weaken next (spot r 0) ((rank s r.sequence + 1) * length s.choices) (omega arith) u)
      ]

  member_covers : (next : List Reached) (r : Reached) (j : ℕ) → Under (spot r 0) next → r.machine.halt ≡ None → j < length s.choices
      → Covers (with_all next (next_of s r)) (after_choice s r.machine j) (spot r j)
  member_covers next r j u go lt =
      subst (λ (cs : List Reached). Covers (with_all next cs) (after_choice s r.machine j) (spot r j)) (sym (goes_on r go))
      (next_covers (length s.choices) 0 j next r u (omega arith) (omega arith))

  pub grown_ascends : (layer next : List Reached) (a : ℕ) → Ascends a layer → Ascends 0 next → Under (a * length s.choices) next → Ascends 0 (grown_from s next layer)
  grown_ascends [] next a l h u = h
  grown_ascends (r ∷ rs) next a l h u =
      grown_ascends rs (with_all next (next_of s r)) (rank s r.sequence + 1) l.1 (member_ascends next r h (room next r a l.0 u)) (member_below next r (room next r a l.0 u))

  pub grown_covers : (layer next : List Reached) (a : ℕ) (m : Machine) (q j : ℕ) → Ascends a layer → Under (a * length s.choices) next → Covers layer m q
      → m.halt ≡ None → j < length s.choices → Covers (grown_from s next layer) (after_choice s m j) (q * length s.choices + j)
  grown_covers [] next a m q j l u c go lt = absurd c
  grown_covers (r ∷ rs) next a m q j l u (inl c) go lt =
      let go-r : r.machine.halt ≡ None = ap (λ (x : Machine). x.halt) c.0 ∙ go in
      let less : rank s r.sequence * length s.choices ≤ q * length s.choices = more_times (rank s r.sequence) q (length s.choices) c.1 in
      subst (λ (x : Machine). Covers (grown_from s (with_all next (next_of s r)) rs) (after_choice s x j) (q * length s.choices + j)) c.0
      (covers_weaken (grown_from s (with_all next (next_of s r)) rs) (after_choice s r.machine j) (spot r j) (q * length s.choices + j) (omega arith)
      (covers_grown (with_all next (next_of s r)) rs (after_choice s r.machine j) (spot r j) (member_covers next r j (room next r a l.0 u) go-r lt)))
  grown_covers (r ∷ rs) next a m q j l u (inr c) go lt =
      grown_covers rs (with_all next (next_of s r)) (rank s r.sequence + 1) m q j l.1 (member_below next r (room next r a l.0 u)) c go lt

  pub next_layer_ascends : (layer : List Reached) → Ascends 0 layer → Ascends 0 (grown s layer)
  next_layer_ascends layer h = grown_ascends layer [] 0 h tt tt

  pub layers_ascend : (d : ℕ) (layer : List Reached) → Ascends 0 layer → Ascends 0 (layers_from s layer d)
  unfolding layers_from
  layers_ascend zero layer h = h
  layers_ascend (suc d) layer h = layers_ascend d (grown s layer) (next_layer_ascends layer h)

  -- what goes on from a machine that a layer covers is in the layers after it
  pub layers_cover : (ks : List ℕ) (layer : List Reached) (m n : Machine) (q : ℕ) → Ascends 0 layer → Covers layer m q → AreNumbers s ks
      → reached_from s m ks ≡ Some n → Covers (layers_from s layer (length ks)) n (rank_from (length s.choices) q ks)
  unfolding layers_from
  layers_cover [] layer m n q h c are e = subst (λ (x : Machine). Covers layer x q) (some_is m n e) c
  layers_cover (k ∷ ks) layer m n q h c are e =
      elim (halt_cases m.halt) [
        | inl go ↦
            let on : reached_from s (after_choice s m k) ks ≡ Some n =
            sym (ap (λ (x : Option Halt). unless_halted x (reached_from s (after_choice s m k) ks) None) go) ∙ e in
            layers_cover ks (grown s layer) (after_choice s m k) n (q * length s.choices + k) (next_layer_ascends layer h)
            (grown_covers layer [] 0 m q k h tt c go are.0) are.1 on
        | inr x ↦ absurd (none_some n (sym (ap (λ (y : Option Halt). unless_halted y (reached_from s (after_choice s m k) ks) None) x.1) ∙ e))
      ]

  -- ---- the first choices

  first_goes : s.start.halt ≡ None → first_of s ≡ next_from s (root s) s.low (s.high - s.low)
  first_goes e = ap (λ (h : Option Halt). unless_halted h (next_from s (root s) s.low (s.high - s.low)) []) e

  first_stops : (x : Halt) → s.start.halt ≡ Some x → first_of s ≡ []
  first_stops x e = ap (λ (h : Option Halt). unless_halted h (next_from s (root s) s.low (s.high - s.low)) []) e

  first_ascends : Ascends 0 (first_layer s)
  first_ascends =
      elim (halt_cases s.start.halt) [
        | inl e ↦ subst (λ (cs : List Reached). Ascends 0 (with_all [] cs)) (sym (first_goes e)) (next_ascends (s.high - s.low) s.low [] (root s) tt tt)
        | inr x ↦ subst (λ (cs : List Reached). Ascends 0 (with_all [] cs)) (sym (first_stops x.0 x.1)) tt
      ]

  first_covers : (j : ℕ) → s.start.halt ≡ None → s.low ≤ j → j < s.high → Covers (first_layer s) (after_choice s s.start j) (spot (root s) j)
  first_covers j go from to =
      subst (λ (cs : List Reached). Covers (with_all [] cs) (after_choice s s.start j) (spot (root s) j)) (sym (first_goes go))
      (next_covers (s.high - s.low) s.low j [] (root s) tt from (omega (arith, from, to)))

  -- every sequence's machine is in the layer of its length, by a sequence that is no later
  pub layer_covers : (ks : List ℕ) (n : Machine) → AreChoices s ks → reached s ks ≡ Some n → Covers (layer_of s (length ks)) n (rank s ks)
  layer_covers [] n are e = inl (some_is s.start n e, omega arith)
  layer_covers (k ∷ ks) n are e =
      elim (halt_cases s.start.halt) [
        | inl go ↦
            let on : reached_from s (after_choice s s.start k) ks ≡ Some n =
            sym (ap (λ (x : Option Halt). unless_halted x (reached_from s (after_choice s s.start k) ks) None) go) ∙ e in
            layers_cover ks (first_layer s) (after_choice s s.start k) n (spot (root s) k) first_ascends (first_covers k go are.0 are.1) are.2 on
        | inr x ↦ absurd (none_some n (sym (ap (λ (y : Option Halt). unless_halted y (reached_from s (after_choice s s.start k) ks) None) x.1) ∙ e))
      ]

  pub layer_ascends : (d : ℕ) → Ascends 0 (layer_of s d)
  layer_ascends zero = (omega arith, tt)
  layer_ascends (suc d) = layers_ascend d (first_layer s) first_ascends

  -- one layer more
  layers_suc : (d : ℕ) (layer : List Reached) → layers_from s layer (suc d) ≡ grown s (layers_from s layer d)
  unfolding layers_from
  layers_suc zero layer = refl
  layers_suc (suc d) layer = layers_suc d (grown s layer)

  pub layer_more : (d : ℕ) → layer_of s (suc (suc d)) ≡ grown s (layer_of s (suc d))
  layer_more d = layers_suc d (first_layer s)
