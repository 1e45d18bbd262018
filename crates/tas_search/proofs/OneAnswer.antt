-- Two answers to one search are equal.
use Rattle.std.proofs.Common.{◌≡◌, ℕ, ◌+◌, ◌*◌, ◌<◌, ◌≤◌, Bool, List, [], ◌∷◌, length, Option, Some, None, refl, sym, ap, subst, ◌∙◌, inl, inr, arith}
use Rattle.std.specs.Prelude.{ℤ}
use Rattle.std.proofs.lemmas.Bool.{cases_lt}
use Rattle.std.proofs.lemmas.Int.{ints}
use Rattle.vcs_machine.specs.Machine.{Machine}
use Rattle.tas_search.specs.declared.extremes.Aim.{Aim}
use Rattle.tas_search.specs.declared.extremes.Aim.TheVariants as aim
use Rattle.tas_search.specs.declared.goal.GoalKind.{GoalKind}
use Rattle.tas_search.specs.declared.goal.GoalKind.TheVariants.{Reach, Most, Least}
use Rattle.tas_search.specs.Best.{FitsBelow, ReachMoreThan, IsShortest, IsReachAnswer}
use Rattle.tas_search.specs.Expression.{value_of}
use Rattle.tas_search.specs.Extreme.{IsAsGood, IsExtreme, IsExtremeAnswer}
use Rattle.tas_search.specs.Goal.{holds_of, value_in}
use Rattle.tas_search.specs.GoalAnswer.{IsGoalAnswer}
use Rattle.tas_search.specs.Grammar.{Tree}
use Rattle.tas_search.specs.Outcome.{Outcome, best, nothing, stopped}
use Rattle.tas_search.specs.Space.{SpaceContent, AreNumbers, AreChoices, reached, rank_from, rank}
use Rattle.tas_search.proofs.OrderLemmas.{lower_stays}

-- ---- one sequence of a length has a place

-- sequences of one length with one place are equal, and so is what went before them
one_from : (s : SpaceContent) (p q : ℕ) (a b : List ℕ) → AreNumbers s a → AreNumbers s b → length a ≡ length b → rank_from (length s.choices) p a ≡ rank_from (length s.choices) q b → (p ≡ q) × (a ≡ b)
one_from s p q [] [] h g same e = (e, refl)
one_from s p q [] (y ∷ b) h g same e = absurd (omega (arith, same))
one_from s p q (x ∷ a) [] h g same e = absurd (omega (arith, same))
one_from s p q (x ∷ a) (y ∷ b) h g same e =
    let rest = one_from s (p * length s.choices + x) (q * length s.choices + y) a b h.1 g.1 (omega (arith, same)) e in
    let front = equal in
    let scaled : p * length s.choices ≡ q * length s.choices = ap (λ (n : ℕ). n * length s.choices) front in
    (front, both x y a b (omega (arith, rest.0, scaled)) rest.1)
  where
    both : (x y : ℕ) (a b : List ℕ) → x ≡ y → a ≡ b → x ∷ a ≡ y ∷ b
    both x y a b h g = cc

    equal : p ≡ q
    equal =
        elim (cases_lt p q) [
          | inl less ↦ let lt : rank_from (length s.choices) p (x ∷ a) < rank_from (length s.choices) q (y ∷ b) = lower_stays s p q (x ∷ a) (y ∷ b) less h same in absurd (omega (arith, lt, e))
          | inr le ↦
              elim (cases_lt q p) [
                | inl more ↦ let lt : rank_from (length s.choices) q (y ∷ b) < rank_from (length s.choices) p (x ∷ a) = lower_stays s q p (y ∷ b) (x ∷ a) more g (sym same) in absurd (omega (arith, lt, e))
                | inr ge ↦ omega (arith, le, ge)
              ]
        ]

one_sequence : (s : SpaceContent) (a b : List ℕ) → AreChoices s a → AreChoices s b → length a ≡ length b → rank s a ≡ rank s b → a ≡ b
one_sequence s [] [] h g same e = refl
one_sequence s [] (y ∷ b) h g same e = absurd (omega (arith, same))
one_sequence s (x ∷ a) [] h g same e = absurd (omega (arith, same))
one_sequence s (x ∷ a) (y ∷ b) h g same e =
    let both = one_from s (0 * length s.choices + x) (0 * length s.choices + y) a b h.2 g.2 (omega (arith, same)) e in
    joined x y a b (omega (arith, both.0)) both.1
  where
    joined : (x y : ℕ) (a b : List ℕ) → x ≡ y → a ≡ b → x ∷ a ≡ y ∷ b
    joined x y a b h g = cc

-- the first of some and the first of some, each among the other's, are equal
firsts : (s : SpaceContent) (a b : List ℕ) → AreChoices s a → AreChoices s b → length a ≡ length b → rank s a ≤ rank s b → rank s b ≤ rank s a → a ≡ b
firsts s a b h g same le ge = one_sequence s a b h g same (omega (arith, le, ge))

-- ---- the shortest

one_shortest : (s : SpaceContent) (goal : Machine → Bool) (a b : List ℕ) → IsShortest s goal a → IsShortest s goal b → a ≡ b
one_shortest s goal a b h g =
    let le : length a ≤ length b = h.shortest b g.choices g.meets in
    let ge : length b ≤ length a = g.shortest a h.choices h.meets in
    let same : length a ≡ length b = omega (arith, le, ge) in
    firsts s a b h.choices g.choices same (h.first b g.choices g.meets (sym same)) (g.first a h.choices h.meets same)

found_stopped : (s : SpaceContent) (goal : Machine → Bool) (most states : ℕ) (ks : List ℕ) (k : ℕ) → IsReachAnswer s goal most states (best ks) → IsReachAnswer s goal most states (stopped k) → ⊥
found_stopped s goal most states ks k h g =
    let le : k ≤ length ks = g.0 ks h.0.choices h.0.meets in h.2 k g.2 (omega (arith, le)) g.4

found_none : (s : SpaceContent) (goal : Machine → Bool) (most states : ℕ) (ks : List ℕ) → IsReachAnswer s goal most states (best ks) → IsReachAnswer s goal most states nothing → ⊥
found_none s goal most states ks h g =
    let more : most + 1 ≤ length ks = g.0 ks h.0.choices h.0.meets in omega (arith, more, h.1)

one_stop : (s : SpaceContent) (states j k : ℕ) → FitsBelow s states j → FitsBelow s states k → 1 ≤ j → 1 ≤ k → ReachMoreThan s j states → ReachMoreThan s k states → j ≡ k
one_stop s states j k below fits some pos more over =
    elim (cases_lt j k) [
      | inl less ↦ absurd (fits j some less more)
      | inr le ↦
          elim (cases_lt k j) [
            | inl greater ↦ absurd (below k pos greater over)
            | inr ge ↦ omega (arith, le, ge)
          ]
    ]

pub one_reach : (s : SpaceContent) (goal : Machine → Bool) (most states : ℕ) (x y : Outcome) → IsReachAnswer s goal most states x → IsReachAnswer s goal most states y → x ≡ y
one_reach s goal most states (best a) (best b) h g = ap best (one_shortest s goal a b h.0 g.0)
one_reach s goal most states (best a) nothing h g = absurd (found_none s goal most states a h g)
one_reach s goal most states (best a) (stopped k) h g = absurd (found_stopped s goal most states a k h g)
one_reach s goal most states nothing (best b) h g = absurd (found_none s goal most states b g h)
one_reach s goal most states nothing nothing h g = refl
one_reach s goal most states nothing (stopped k) h g = absurd (h.1 k g.2 (omega (arith, g.3)) g.4)
one_reach s goal most states (stopped j) (best b) h g = absurd (found_stopped s goal most states b j g h)
one_reach s goal most states (stopped j) nothing h g = absurd (g.1 j h.2 (omega (arith, h.3)) h.4)
one_reach s goal most states (stopped j) (stopped k) h g = ap stopped (one_stop s states j k h.1 g.1 h.2 g.2 h.4 g.4)

-- ---- the best value

as_good : (aim : Aim) (a b : ℤ) → IsAsGood aim a b → IsAsGood aim b a → a ≡ b
as_good aim.Most a b h g = grind (arith, ints)
as_good aim.Least a b h g = grind (arith, ints)

one_extreme : (s : SpaceContent) (aim : Aim) (value : Machine → ℤ) (n : ℕ) (a b : List ℕ) → IsExtreme s aim value n a → IsExtreme s aim value n b → a ≡ b
one_extreme s aim value n a b h g =
    let same : value h.machine ≡ value g.machine =
    as_good aim (value h.machine) (value g.machine) (h.best b g.machine g.choices g.count g.reaches) (g.best a h.machine h.choices h.count h.reaches) in
    firsts s a b h.choices g.choices (h.count ∙ sym g.count) (h.first b g.machine g.choices g.count g.reaches (sym same)) (g.first a h.machine h.choices h.count h.reaches same)

no_machine : (o : Option Machine) (m : Machine) → o ≡ None → o ≡ Some m → ⊥
no_machine None m e f = absurd cc
no_machine (Some x) m e f = absurd cc

pub one_value : (s : SpaceContent) (aim : Aim) (value : Machine → ℤ) (n states : ℕ) (x y : Outcome) → IsExtremeAnswer s aim value n states x → IsExtremeAnswer s aim value n states y → x ≡ y
one_value s aim value n states (best a) (best b) h g = ap best (one_extreme s aim value n a b h.0 g.0)
one_value s aim value n states (best a) nothing h g = absurd (no_machine (reached s a) h.0.machine (g.0 a h.0.choices h.0.count) h.0.reaches)
one_value s aim value n states (best a) (stopped k) h g = absurd (h.1 k g.1 (omega (arith, g.2)) g.3)
one_value s aim value n states nothing (best b) h g = absurd (no_machine (reached s b) g.0.machine (h.0 b g.0.choices g.0.count) g.0.reaches)
one_value s aim value n states nothing nothing h g = refl
one_value s aim value n states nothing (stopped k) h g = absurd (h.1 k g.1 (omega (arith, g.2)) g.3)
one_value s aim value n states (stopped j) (best b) h g = absurd (g.1 j h.1 (omega (arith, h.2)) h.3)
one_value s aim value n states (stopped j) nothing h g = absurd (g.1 j h.1 (omega (arith, h.2)) h.3)
one_value s aim value n states (stopped j) (stopped k) h g = ap stopped (one_stop s states j k h.0 g.0 h.1 g.1 h.3 g.3)

-- ---- by the goal

by_kind : (s : SpaceContent) (kind : GoalKind) (e : Tree) (count states : ℕ) (x y : Outcome) → IsGoalAnswer s kind e count states x → IsGoalAnswer s kind e count states y → x ≡ y
by_kind s Reach e count states x y h g = one_reach s (holds_of (value_of e)) count states x y h g
by_kind s Most e count states x y h g = one_value s aim.Most (value_in (value_of e)) count states x y h g
by_kind s Least e count states x y h g = one_value s aim.Least (value_in (value_of e)) count states x y h g

pub one_answer : (s : SpaceContent) (kind : GoalKind) (d e : Tree) (count states : ℕ) (x y : Outcome) → d ≡ e → IsGoalAnswer s kind d count states x → IsGoalAnswer s kind e count states y → x ≡ y
one_answer s kind d e count states x y same h g = by_kind s kind e count states x y (subst (λ (t : Tree). IsGoalAnswer s kind t count states x) same h) g
