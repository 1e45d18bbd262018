-- What is in a layer is reached by the sequence that stands beside it, and no machine is in it twice.
use Rattle.std.proofs.Common.{◌≡◌, ℕ, zero, suc, ◌+◌, ◌-◌, ◌<◌, ◌≤◌, Bool, true, false, List, [], ◌∷◌, ◌++◌, length, Option, Some, None, refl, sym, ap, subst, ◌∙◌, inl, inr, arith}
use Rattle.std.specs.Prelude.{◌||◌, if◌then◌else◌}
use Rattle.std.specs.List.{list_any}
use Rattle.std.proofs.lemmas.List.{length_push}
use Rattle.vcs_cpu.specs.declared.halt.Halt.{Halt}
use Rattle.vcs_machine.specs.Equality.{are_same_machines, machines_decide}
use Rattle.vcs_machine.specs.Machine.{Machine, unless_halted}
use Rattle.tas_search.specs.Space.{SpaceContent, after_choice, reached_from, reached, AreNumbers, AreChoices}
use Rattle.tas_search.specs.Inside.Layers.{Reached, with_reached, with_all, next_reached, next_from, next_of, grown_from, grown, layers_from, root, first_of, first_layer, layer_of}
use Rattle.tas_search.proofs.LayerLemmas.{halt_cases}

some_is : (x y : Machine) → ◌≡◌ {A = Option Machine} (Some x) (Some y) → x ≡ y
some_is x y e = cc

none_some : (y : Machine) → ◌≡◌ {A = Option Machine} None (Some y) → ⊥
none_some y e = cc

true_false : true ≡ false → ⊥
true_false e = cc

false_true : false ≡ true → ⊥
false_true e = cc

module _ (s : SpaceContent) where
  -- a machine is reached by the sequence beside it, of this length
  pub record IsRight (d : ℕ) (r : Reached) : Type 0 where
    pub machine : reached s r.sequence ≡ Some r.machine
    pub choices : AreChoices s r.sequence
    pub count : length r.sequence ≡ d

  abbrev pub AreRight : ℕ → List Reached → Type 0
  AreRight d [] = Unit {0}
  AreRight d (r ∷ rs) = IsRight d r × AreRight d rs

  numbers_push : (ks : List ℕ) (k : ℕ) → AreNumbers s ks → k < length s.choices → AreNumbers s (ks ++ k ∷ [])
  numbers_push [] k h lt = (lt, tt)
  numbers_push (x ∷ ks) k h lt = (h.0, numbers_push ks k h.1 lt)

  pub choices_push : (ks : List ℕ) (k : ℕ) → 0 < length ks → AreChoices s ks → k < length s.choices → AreChoices s (ks ++ k ∷ [])
  choices_push [] k some h lt = absurd (omega arith)
  choices_push (x ∷ ks) k some h lt = (h.0, h.1, numbers_push ks k h.2 lt)

  pub reached_push : (ks : List ℕ) (k : ℕ) (start m : Machine) → reached_from s start ks ≡ Some m → m.halt ≡ None
      → reached_from s start (ks ++ k ∷ []) ≡ Some (after_choice s m k)
  reached_push [] k start m e go =
      ap (λ (x : Option Halt). unless_halted x (Some (after_choice s start k)) None) (ap (λ (x : Machine). x.halt) (some_is start m e) ∙ go)
      ∙ ap (λ (x : Machine). Some (after_choice s x k)) (some_is start m e)
  reached_push (x ∷ ks) k start m e go =
      elim (halt_cases start.halt) [
        | inl on ↦
            let rest : reached_from s (after_choice s start x) ks ≡ Some m =
            sym (ap (λ (h : Option Halt). unless_halted h (reached_from s (after_choice s start x) ks) None) on) ∙ e in
            ap (λ (h : Option Halt). unless_halted h (reached_from s (after_choice s start x) (ks ++ k ∷ [])) None) on
            ∙ reached_push ks k (after_choice s start x) m rest go
        | inr h ↦ absurd (none_some m (sym (ap (λ (y : Option Halt). unless_halted y (reached_from s (after_choice s start x) ks) None) h.1) ∙ e))
      ]

  pub next_right : (d : ℕ) (r : Reached) (k : ℕ) → 0 < d → IsRight d r → r.machine.halt ≡ None → k < length s.choices → IsRight (d + 1) (next_reached s r k)
  next_right d r k some h go lt = record {
    machine = reached_push r.sequence k s.start r.machine h.machine go;
    choices = choices_push r.sequence k (omega (arith, some, h.count)) h.choices lt;
    count = length_push r.sequence k ∙ ap (λ (n : ℕ). n + 1) h.count;
  }

  pub right_push : (d : ℕ) (rs : List Reached) (r : Reached) → AreRight d rs → IsRight d r → AreRight d (rs ++ r ∷ [])
  right_push d [] r hs h = (h, tt)
  right_push d (o ∷ rs) r hs h = (hs.0, right_push d rs r hs.1 h)

  pub right_with : (d : ℕ) (rs : List Reached) (r : Reached) → AreRight d rs → IsRight d r → AreRight d (with_reached rs r)
  right_with d rs r hs h = split (list_any (λ o. are_same_machines r.machine o.machine) rs)
    where
      split : (t : Bool) → AreRight d (if t then rs else rs ++ r ∷ [])
      split true = hs
      split false = right_push d rs r hs h

  pub right_from : (n k d : ℕ) (next : List Reached) (r : Reached) → 0 < d → AreRight (d + 1) next → IsRight d r → r.machine.halt ≡ None → k + n ≤ length s.choices
      → AreRight (d + 1) (with_all next (next_from s r k n))
  right_from zero k d next r some hs h go le = hs
  right_from (suc n) k d next r some hs h go le =
      right_from n (suc k) d (with_reached next (next_reached s r k)) r some (right_with (d + 1) next (next_reached s r k) hs (next_right d r k some h go (omega arith))) h go (omega arith)

  pub right_of : (d : ℕ) (next : List Reached) (r : Reached) → 0 < d → AreRight (d + 1) next → IsRight d r → AreRight (d + 1) (with_all next (next_of s r))
  right_of d next r some hs h =
      elim (halt_cases r.machine.halt) [
        | inl e ↦
            subst (λ (cs : List Reached). AreRight (d + 1) (with_all next cs)) (sym (ap (λ (x : Option Halt). unless_halted x (next_from s r 0 (length s.choices)) []) e))
            (right_from (length s.choices) 0 d next r some hs h e (omega arith))
        | inr x ↦
            subst (λ (cs : List Reached). AreRight (d + 1) (with_all next cs)) (sym (ap (λ (y : Option Halt). unless_halted y (next_from s r 0 (length s.choices)) []) x.1)) hs
      ]

  pub right_grown : (layer next : List Reached) (d : ℕ) → 0 < d → AreRight (d + 1) next → AreRight d layer → AreRight (d + 1) (grown_from s next layer)
  right_grown [] next d some hs ls = hs
  right_grown (r ∷ rs) next d some hs ls = right_grown rs (with_all next (next_of s r)) d some (right_of d next r some hs ls.0) ls.1

  pub right_layers : (n d : ℕ) (layer : List Reached) → 0 < d → AreRight d layer → AreRight (d + n) (layers_from s layer n)
  unfolding layers_from
  right_layers zero d layer some h = subst (λ (k : ℕ). AreRight k layer) (omega arith) h
  right_layers (suc n) d layer some h =
      subst (λ (k : ℕ). AreRight k (layers_from s (grown s layer) n)) (omega arith)
      (right_layers n (d + 1) (grown s layer) (omega arith) (right_grown layer [] d some tt h))

  -- what the first choices reach, from number k on
  first_right_from : (n k : ℕ) (next : List Reached) → AreRight 1 next → s.start.halt ≡ None → s.low ≤ k → n ≡ s.high - k → AreRight 1 (with_all next (next_from s (root s) k n))
  first_right_from zero k next hs go le left = hs
  first_right_from (suc n) k next hs go le left =
      first_right_from n (suc k) (with_reached next (next_reached s (root s) k))
      (right_with 1 next (next_reached s (root s) k) hs (record { machine = reached_push [] k s.start s.start refl go; choices = (le, omega (arith, left), tt); count = refl }))
      go (omega (arith, le)) (omega (arith, left))

  first_right : AreRight 1 (first_layer s)
  first_right =
      elim (halt_cases s.start.halt) [
        | inl e ↦
            subst (λ (cs : List Reached). AreRight 1 (with_all [] cs)) (sym (ap (λ (x : Option Halt). unless_halted x (next_from s (root s) s.low (s.high - s.low)) []) e))
            (first_right_from (s.high - s.low) s.low [] tt e (omega arith) refl)
        | inr x ↦
            subst (λ (cs : List Reached). AreRight 1 (with_all [] cs)) (sym (ap (λ (y : Option Halt). unless_halted y (next_from s (root s) s.low (s.high - s.low)) []) x.1)) tt
      ]

  pub right_layer : (d : ℕ) → AreRight d (layer_of s d)
  right_layer zero = (record { machine = refl; choices = tt; count = refl }, tt)
  right_layer (suc d) = subst (λ (k : ℕ). AreRight k (layer_of s (suc d))) (omega arith) (right_layers d 1 (first_layer s) (omega arith) first_right)

  -- ---- no machine twice

  abbrev pub IsNew : Machine → List Reached → Type 0
  IsNew m [] = Unit {0}
  IsNew m (r ∷ rs) = (m ≡ r.machine → ⊥) × IsNew m rs

  abbrev pub AreDifferent : List Reached → Type 0
  AreDifferent [] = Unit {0}
  AreDifferent (r ∷ rs) = IsNew r.machine rs × AreDifferent rs

  pub new_push : (rs : List Reached) (r : Reached) (m : Machine) → IsNew m rs → (m ≡ r.machine → ⊥) → IsNew m (rs ++ r ∷ [])
  new_push [] r m h ne = (ne, tt)
  new_push (o ∷ rs) r m h ne = (h.0, new_push rs r m h.1 ne)

  pub different_push : (rs : List Reached) (r : Reached) → AreDifferent rs → IsNew r.machine rs → AreDifferent (rs ++ r ∷ [])
  different_push [] r h new = (tt, tt)
  different_push (o ∷ rs) r h new = (new_push rs r o.machine h.0 (λ e. new.0 (sym e)), different_push rs r h.1 new.1)

  pub new_known : (rs : List Reached) (m : Machine) → list_any (λ o. are_same_machines m o.machine) rs ≡ false → IsNew m rs
  new_known [] m e = tt
  new_known (o ∷ rs) m e = split (are_same_machines m o.machine) refl (new_known rs m)
    where
      split : (b : Bool) → are_same_machines m o.machine ≡ b → (list_any (λ p. are_same_machines m p.machine) rs ≡ false → IsNew m rs) → IsNew m (o ∷ rs)
      split true is rest = absurd (true_false (sym (ap (λ (b : Bool). b || list_any (λ p. are_same_machines m p.machine) rs) is) ∙ e))
      split false is rest = (
        (λ same. false_true (sym is ∙ (machines_decide m o.machine).1 same)),
        rest (sym (ap (λ (b : Bool). b || list_any (λ p. are_same_machines m p.machine) rs) is) ∙ e),
      )

  pub different_with : (rs : List Reached) (r : Reached) → AreDifferent rs → AreDifferent (with_reached rs r)
  different_with rs r h = split (list_any (λ o. are_same_machines r.machine o.machine) rs) refl
    where
      split : (t : Bool) → list_any (λ o. are_same_machines r.machine o.machine) rs ≡ t → AreDifferent (if t then rs else rs ++ r ∷ [])
      split true is = h
      split false is = different_push rs r h (new_known rs r.machine is)

  pub different_all : (cs rs : List Reached) → AreDifferent rs → AreDifferent (with_all rs cs)
  different_all [] rs h = h
  different_all (c ∷ cs) rs h = different_all cs (with_reached rs c) (different_with rs c h)

  pub different_grown : (layer next : List Reached) → AreDifferent next → AreDifferent (grown_from s next layer)
  different_grown [] next h = h
  different_grown (r ∷ rs) next h = different_grown rs (with_all next (next_of s r)) (different_all (next_of s r) next h)

  pub first_different : AreDifferent (first_layer s)
  first_different = different_all (first_of s) [] tt
