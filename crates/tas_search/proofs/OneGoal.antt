-- A text is that of one goal at most.
use Rattle.std.proofs.Common.{◌≡◌, ℕ, List, [], ◌∷◌, ◌++◌, get_or, refl, arith, sym, ap, subst, ◌∙◌, inl, inr}
use Rattle.std.specs.Prelude.{codes}
use Rattle.byte_text.proofs.SplitLemmas.{same_front}
use Rattle.tas_engines.specs.Names.{Names}
use Rattle.tas_search.specs.declared.expression.Operator.{Operator}
use Rattle.tas_search.specs.declared.goal.GoalKind.{GoalKind}
use Rattle.tas_search.specs.declared.goal.GoalKind.TheVariants.{Reach, Most, Least}
use Rattle.tas_search.specs.declared.word.Word.{Word}
use Rattle.tas_search.specs.declared.word.Word.TheVariants as word
use Rattle.tas_search.specs.Grammar.{Tree, number, byte, digits, pair, negated, joined, words_of, IsBare, Spells}
use Rattle.tas_search.specs.GoalText.{kind_word, IsGoalText}
use Rattle.tas_search.specs.Words.{words_in}
use Rattle.tas_search.proofs.GrammarLemmas.{nothing, one_tree, no_words, second}
use Rattle.tas_search.proofs.TextLemmas.{kind_free}

-- ---- one tree

same_operator : (op op' : Operator) (x y : List Word) → word.Operator op ∷ x ≡ word.Operator op' ∷ y → op ≡ op'
same_operator op op' x y h = cc

not_bare : (words : List Word) (a b : Tree) → words ≡ words_of a → IsBare words b → ⊥
not_bare words a (joined op c d) is bare =
    no_words (word.Operator op) (words_of d) (one_tree a c [] (word.Operator op ∷ words_of d) (nothing (words_of a) ∙ sym is ∙ bare.0)).1
not_bare words a (number n) is bare = bare
not_bare words a (byte n) is bare = bare
not_bare words a (digits n) is bare = bare
not_bare words a (pair n) is bare = bare
not_bare words a (negated t) is bare = bare

two_bare : (words : List Word) (a b : Tree) → IsBare words a → IsBare words b → a ≡ b
two_bare words (joined op a c) (joined op' b d) h g =
    let both = one_tree a b (word.Operator op ∷ words_of c) (word.Operator op' ∷ words_of d) (sym h.0 ∙ g.0) in
    let tail : words_of c ++ [] ≡ words_of d ++ [] = nothing (words_of c) ∙ second op op' (words_of c) (words_of d) both.1 ∙ sym (nothing (words_of d)) in
    let last = one_tree c d [] [] tail in
    same_joined op op' a b c d (same_operator op op' (words_of c) (words_of d) both.1) both.0 last.0
  where
    same_joined : (op op' : Operator) (a b c d : Tree) → op ≡ op' → a ≡ b → c ≡ d → joined op a c ≡ joined op' b d
    same_joined op op' a b c d h i j = cc
two_bare words (joined op a c) (number n) h g = absurd g
two_bare words (joined op a c) (byte n) h g = absurd g
two_bare words (joined op a c) (digits n) h g = absurd g
two_bare words (joined op a c) (pair n) h g = absurd g
two_bare words (joined op a c) (negated t) h g = absurd g
two_bare words (number n) b h g = absurd h
two_bare words (byte n) b h g = absurd h
two_bare words (digits n) b h g = absurd h
two_bare words (pair n) b h g = absurd h
two_bare words (negated t) b h g = absurd h

one_spelled : (words : List Word) (a b : Tree) → Spells words a → Spells words b → a ≡ b
one_spelled words a b (inl h) (inl g) = (one_tree a b [] [] (nothing (words_of a) ∙ sym h.0 ∙ g.0 ∙ sym (nothing (words_of b)))).0
one_spelled words a b (inl h) (inr g) = absurd (not_bare words a b h.0 g)
one_spelled words a b (inr h) (inl g) = absurd (not_bare words b a g.0 h)
one_spelled words a b (inr h) (inr g) = two_bare words a b h g

-- ---- one goal

first_byte : (xs ys : List ℕ) → xs ≡ ys → get_or xs 0 0 ≡ get_or ys 0 0
first_byte xs ys e = ap (λ (zs : List ℕ). get_or zs 0 0) e

one_kind : (j k : GoalKind) → kind_word j ≡ kind_word k → j ≡ k
one_kind Reach Reach e = refl
one_kind Reach Most e = let f : 114 ≡ 109 = first_byte (codes "reach") (codes "most") e in absurd (omega (arith, f))
one_kind Reach Least e = let f : 114 ≡ 108 = first_byte (codes "reach") (codes "least") e in absurd (omega (arith, f))
one_kind Most Reach e = let f : 109 ≡ 114 = first_byte (codes "most") (codes "reach") e in absurd (omega (arith, f))
one_kind Most Most e = refl
one_kind Most Least e = let f : 109 ≡ 108 = first_byte (codes "most") (codes "least") e in absurd (omega (arith, f))
one_kind Least Reach e = let f : 108 ≡ 114 = first_byte (codes "least") (codes "reach") e in absurd (omega (arith, f))
one_kind Least Most e = let f : 108 ≡ 109 = first_byte (codes "least") (codes "most") e in absurd (omega (arith, f))
one_kind Least Least e = refl

pub one_goal : (names : Names) (text : List ℕ) (j k : GoalKind) (a b : Tree) → IsGoalText names text j a → IsGoalText names text k b → (j ≡ k) × (a ≡ b)
one_goal names text j k a b h g =
    let both = same_front 32 (kind_word j) (kind_word k) h.0 g.0 (kind_free j) (kind_free k) (sym h.1 ∙ g.1) in
    (one_kind j k both.0, one_spelled (words_in names h.0) a b h.2 (subst (λ (said : List ℕ). Spells (words_in names said) b) (sym both.1) g.2))
