-- Words are those of one tree at most, and where they are no expression.
use Rattle.std.proofs.Common.{◌≡◌, ℕ, suc, ◌<◌, ◌≤◌, List, [], ◌∷◌, ◌++◌, length, refl, sym, ap, subst, ◌∙◌, inl, inr, arith}
use Rattle.std.specs.Prelude.{◌⊎◌, max}
use Rattle.std.proofs.lemmas.List.{append_assoc}
use Rattle.std.proofs.Math.Nat.{le-max_left, le-max_right}
use Rattle.tas_search.specs.declared.expression.Operator.{Operator}
use Rattle.tas_search.specs.declared.expression.Operator.TheVariants.{Plus}
use Rattle.tas_search.specs.declared.word.Word.{Word}
use Rattle.tas_search.specs.declared.word.Word.TheVariants as word
use Rattle.tas_search.specs.declared.word.Wanted.{Wanted}
use Rattle.tas_search.specs.declared.word.Wanted.TheVariants as wanted
use Rattle.tas_search.specs.Grammar.{Tree, number, byte, digits, pair, negated, joined, words_of, depth, most_depth, Spells, Begins, example, Fits, IsDeeper, Breaks, IsFault}
use Rattle.tas_search.specs.Inside.Operands.{GoesOn, IsOpen, NoOperand, NoOperator, NoClose}

-- ---- lists

-- what follows the closing parenthesis stands after it
pub regroup : (a b x : List Word) (m c : Word) → a ++ (m ∷ (b ++ (c ∷ []))) ++ x ≡ a ++ (m ∷ (b ++ (c ∷ x)))
regroup a b x m c = append_assoc a (m ∷ (b ++ (c ∷ []))) x ∙ ap (λ (r : List Word). a ++ (m ∷ r)) (append_assoc b (c ∷ []) x)

pub nothing : (a : List Word) → a ++ [] ≡ a
nothing [] = refl
nothing (w ∷ a) = ap (λ (r : List Word). w ∷ r) (nothing a)

-- ---- one tree

-- no tree's words begin those of another one
pub one_tree : (a b : Tree) (x y : List Word) → words_of a ++ x ≡ words_of b ++ y → (a ≡ b) × (x ≡ y)
one_tree (number n) (number m) x y e = let h : n ≡ m = cc in let t : x ≡ y = cc in (ap number h, t)
one_tree (number n) b x y e = absurd cc
one_tree (byte n) (byte m) x y e = let h : n ≡ m = cc in let t : x ≡ y = cc in (ap byte h, t)
one_tree (byte n) b x y e = absurd cc
one_tree (digits n) (digits m) x y e = let h : n ≡ m = cc in let t : x ≡ y = cc in (ap digits h, t)
one_tree (digits n) b x y e = absurd cc
one_tree (pair n) (pair m) x y e = let h : n ≡ m = cc in let t : x ≡ y = cc in (ap pair h, t)
one_tree (pair n) b x y e = absurd cc
one_tree (negated a) (negated b) x y e =
    let t : words_of a ++ x ≡ words_of b ++ y = cc in
    let r = one_tree a b x y t in
    (ap negated r.0, r.1)
one_tree (negated a) b x y e = absurd cc
one_tree (joined op a c) (joined op' b d) x y e =
    let t : words_of a ++ (word.Operator op ∷ (words_of c ++ (word.Close ∷ []))) ++ x ≡ words_of b ++ (word.Operator op' ∷ (words_of d ++ (word.Close ∷ []))) ++ y = cc in
    let u : words_of a ++ (word.Operator op ∷ (words_of c ++ (word.Close ∷ x))) ≡ words_of b ++ (word.Operator op' ∷ (words_of d ++ (word.Close ∷ y))) =
    sym (regroup (words_of a) (words_of c) x (word.Operator op) word.Close) ∙ t ∙ regroup (words_of b) (words_of d) y (word.Operator op') word.Close in
    let first = one_tree a b (word.Operator op ∷ (words_of c ++ (word.Close ∷ x))) (word.Operator op' ∷ (words_of d ++ (word.Close ∷ y))) u in
    let rest : words_of c ++ (word.Close ∷ x) ≡ words_of d ++ (word.Close ∷ y) = after (first.1) in
    let last = one_tree c d (word.Close ∷ x) (word.Close ∷ y) rest in
    let same : op ≡ op' = operators (first.1) in
    let end : x ≡ y = ends (last.1) in
    (joined_same op op' a b c d same first.0 last.0, end)
  where
    after : word.Operator op ∷ (words_of c ++ (word.Close ∷ x)) ≡ word.Operator op' ∷ (words_of d ++ (word.Close ∷ y)) → words_of c ++ (word.Close ∷ x) ≡ words_of d ++ (word.Close ∷ y)
    after h = cc

    operators : word.Operator op ∷ (words_of c ++ (word.Close ∷ x)) ≡ word.Operator op' ∷ (words_of d ++ (word.Close ∷ y)) → op ≡ op'
    operators h = cc

    ends : word.Close ∷ x ≡ word.Close ∷ y → x ≡ y
    ends h = cc

    joined_same : (op op' : Operator) (a b c d : Tree) → op ≡ op' → a ≡ b → c ≡ d → joined op a c ≡ joined op' b d
    joined_same op op' a b c d h i j = cc
one_tree (joined op a c) b x y e = absurd cc

-- ---- how operands begin

-- an operand can begin with the word
abbrev IsFirst : Word → Type 0
IsFirst word.Close = ⊥
IsFirst (word.Operator op) = ⊥
IsFirst word.Other = ⊥
IsFirst w = Unit {0}

-- and it is neither a parenthesis nor `not`
abbrev IsFlat : Word → Type 0
IsFlat word.Open = ⊥
IsFlat word.Not = ⊥
IsFlat w = Unit {0}

-- the first word of an operand
record Begun (t : Tree) (after : List Word) : Type 0 where
  first : Word
  others : List Word
  is : words_of t ++ after ≡ first ∷ others
  can : IsFirst first
  flat : depth t ≤ 0 → IsFlat first

begun : (t : Tree) (after : List Word) → Begun t after
begun (number n) after = record { first = word.Number n; others = after; is = refl; can = tt; flat = λ le. tt }
begun (byte n) after = record { first = word.Byte n; others = after; is = refl; can = tt; flat = λ le. tt }
begun (digits n) after = record { first = word.Bcd n; others = after; is = refl; can = tt; flat = λ le. tt }
begun (pair n) after = record { first = word.Pair n; others = after; is = refl; can = tt; flat = λ le. tt }
begun (negated t) after = record { first = word.Not; others = words_of t ++ after; is = refl; can = tt; flat = λ le. absurd (omega arith) }
begun (joined op a b) after = record {
  first = word.Open;
  others = words_of a ++ (word.Operator op ∷ (words_of b ++ (word.Close ∷ []))) ++ after;
  is = refl;
  can = tt;
  flat = λ le. absurd (omega arith);
}

-- no operand begins with the first of the words
abbrev pub NotFirst : List Word → Type 0
NotFirst [] = Unit {0}
NotFirst (w ∷ rest) = IsFirst w → ⊥

not_first : (words : List Word) → NotFirst words → (t : Tree) (after more : List Word) → GoesOn words more → words_of t ++ after ≡ more → ⊥
not_first [] h t after more f e = let b = begun t after in let bad : [] ≡ b.first ∷ b.others = sym f ∙ sym e ∙ b.is in absurd cc
not_first (w ∷ rest) h t after more f e =
    let b = begun t after in
    let same : w ∷ f.0 ≡ b.first ∷ b.others = sym f.1 ∙ sym e ∙ b.is in
    let head : b.first ≡ w = cc in
    h (subst IsFirst head b.can)

not_deeper : (words : List Word) → NotFirst words → IsDeeper words → ⊥
not_deeper [] h d = d
not_deeper (word.Open ∷ rest) h d = h tt
not_deeper (word.Not ∷ rest) h d = h tt
not_deeper (w ∷ rest) h d = d

-- words that begin with no operand
pub no_first : (d : ℕ) (words : List Word) → NotFirst words → NoOperand d words (length words) wanted.Operand
no_first d words h = record {
  front = [];
  rest = words;
  split = refl;
  count = refl;
  tree = number 0;
  more = [];
  within = omega arith;
  fits = refl;
  none = λ t after more le f e. not_first words h t after more f e;
  shows = not_deeper words h;
  is_open = tt;
}

deeper_flat : (words : List Word) → IsDeeper words → (t : Tree) (after more : List Word) → depth t ≤ 0 → GoesOn words more → words_of t ++ after ≡ more → ⊥
deeper_flat [] h t after more le f e = h
deeper_flat (w ∷ rest) h t after more le f e =
    let b = begun t after in
    let same : w ∷ f.0 ≡ b.first ∷ b.others = sym f.1 ∙ sym e ∙ b.is in
    let head : b.first ≡ w = cc in
    not_both w rest h (subst IsFlat head (b.flat le))
  where
    not_both : (w : Word) (rest : List Word) → IsDeeper (w ∷ rest) → IsFlat w → ⊥
    not_both word.Open rest h g = g
    not_both word.Not rest h g = g
    not_both w rest h g = h

-- words that begin with an operand that is too deep
pub too_deep : (words : List Word) → IsDeeper words → NoOperand 0 words (length words) wanted.Depth
too_deep words h = record {
  front = [];
  rest = words;
  split = refl;
  count = refl;
  tree = number 0;
  more = [];
  within = omega arith;
  fits = refl;
  none = λ t after more le f e. deeper_flat words h t after more le f e;
  shows = h;
  is_open = tt;
}

-- ---- after `not`

pub after_not : (d : ℕ) (words : List Word) (left : ℕ) (w : Wanted) → NoOperand d words left w → NoOperand (suc d) (word.Not ∷ words) left w
after_not d words left w s = record {
  front = word.Not ∷ s.front;
  rest = s.rest;
  split = ap (λ (r : List Word). word.Not ∷ r) s.split;
  count = s.count;
  tree = negated s.tree;
  more = s.more;
  within = omega (arith, s.within);
  fits = ap (λ (r : List Word). word.Not ∷ r) s.fits;
  none = none;
  shows = s.shows;
  is_open = s.is_open;
}
  where
    none : (t : Tree) (after more : List Word) → depth t ≤ suc d → GoesOn s.rest more → words_of t ++ after ≡ (word.Not ∷ s.front) ++ more → ⊥
    none (negated t) after more le f e =
        let rest : words_of t ++ after ≡ s.front ++ more = cc in
        s.none t after more (omega arith) f rest
    none t after more le f e = absurd cc

-- ---- in parentheses

-- an operand in parentheses begins with an operand
inner : (d : ℕ) (t : Tree) (after more : List Word) → depth t ≤ suc d → words_of t ++ after ≡ word.Open ∷ more
    → (op : Operator) × (a : Tree) × (b : Tree) × (depth a ≤ d) × (depth b ≤ d) × (words_of a ++ (word.Operator op ∷ (words_of b ++ (word.Close ∷ after))) ≡ more)
inner d (joined op a b) after more le e =
    let rest : words_of a ++ (word.Operator op ∷ (words_of b ++ (word.Close ∷ []))) ++ after ≡ more = cc in
    (op, a, b, omega (arith, le-max_left (depth a) (depth b)), omega (arith, le-max_right (depth a) (depth b)), sym (regroup (words_of a) (words_of b) after (word.Operator op) word.Close) ∙ rest)
inner d (number n) after more le e = absurd cc
inner d (byte n) after more le e = absurd cc
inner d (digits n) after more le e = absurd cc
inner d (pair n) after more le e = absurd cc
inner d (negated t) after more le e = absurd cc

zero_max : (n d : ℕ) → n ≤ d → max n 0 ≤ d
zero_max n d le = omega arith

-- the first operand is at fault
pub in_first : (d : ℕ) (words : List Word) (left : ℕ) (w : Wanted) → NoOperand d words left w → NoOperand (suc d) (word.Open ∷ words) left w
in_first d words left w s = record {
  front = word.Open ∷ s.front;
  rest = s.rest;
  split = ap (λ (r : List Word). word.Open ∷ r) s.split;
  count = s.count;
  tree = joined Plus s.tree (number 0);
  more = s.more ++ (word.Operator Plus ∷ word.Number 0 ∷ word.Close ∷ []);
  within = omega (arith, s.within);
  fits = ap (λ (r : List Word). word.Open ∷ r) (longer s.front (example w) s.more (words_of s.tree) (word.Operator Plus ∷ word.Number 0 ∷ word.Close ∷ []) s.fits);
  none = λ t after more le f e.
      let i = inner d t after (s.front ++ more) le e in
      s.none i.1 (word.Operator i.0 ∷ (words_of i.2 ++ (word.Close ∷ after))) more i.3 f i.5;
  shows = s.shows;
  is_open = s.is_open;
}
  where
    longer : (a b c x y : List Word) → x ≡ a ++ (b ++ c) → x ++ y ≡ a ++ (b ++ (c ++ y))
    longer a b c x y e = ap (λ (r : List Word). r ++ y) e ∙ append_assoc a (b ++ c) y ∙ ap (λ (r : List Word). a ++ r) (append_assoc b c y)

-- words begin with no operator, whatever follows the first
not_operator : (words : List Word) → NoOperator words → (op : Operator) (more after : List Word) → GoesOn words more → word.Operator op ∷ after ≡ more → ⊥
not_operator [] h op more after f e = let bad : word.Operator op ∷ after ≡ [] = e ∙ f in absurd cc
not_operator (w ∷ rest) h op more after f e =
    let bad : word.Operator op ∷ after ≡ w ∷ f.0 = e ∙ f.1 in
    let head : w ≡ word.Operator op = cc in
    subst (λ (v : Word). NoOperator (v ∷ rest)) head h

not_close : (words : List Word) → NoClose words → (more after : List Word) → GoesOn words more → word.Close ∷ after ≡ more → ⊥
not_close [] h more after f e = let bad : word.Close ∷ after ≡ [] = e ∙ f in absurd cc
not_close (w ∷ rest) h more after f e =
    let bad : word.Close ∷ after ≡ w ∷ f.0 = e ∙ f.1 in
    let head : w ≡ word.Close = cc in
    subst (λ (v : Word). NoClose (v ∷ rest)) head h

-- no operator follows the first operand
pub at_operator : (d : ℕ) (a : Tree) (words rest : List Word) → depth a ≤ d → words ≡ words_of a ++ rest → NoOperator rest → NoOperand (suc d) (word.Open ∷ words) (length rest) wanted.Operator
at_operator d a words rest le is absent = record {
  front = word.Open ∷ words_of a;
  rest = rest;
  split = ap (λ (r : List Word). word.Open ∷ r) is;
  count = refl;
  tree = joined Plus a (number 0);
  more = word.Number 0 ∷ word.Close ∷ [];
  within = omega arith;
  fits = refl;
  none = λ t after more le f e.
      let i = inner d t after (words_of a ++ more) le e in
      let both = one_tree i.1 a (word.Operator i.0 ∷ (words_of i.2 ++ (word.Close ∷ after))) more i.5 in
      not_operator rest absent i.0 more (words_of i.2 ++ (word.Close ∷ after)) f both.1;
  shows = tt;
  is_open = tt;
}

-- the second operand is at fault
pub in_second : (d : ℕ) (a : Tree) (op : Operator) (words rest : List Word) (left : ℕ) (w : Wanted) → depth a ≤ d → words ≡ words_of a ++ (word.Operator op ∷ rest) → NoOperand d rest left w
    → NoOperand (suc d) (word.Open ∷ words) left w
in_second d a op words rest left w le is s = record {
  front = word.Open ∷ (words_of a ++ (word.Operator op ∷ s.front));
  rest = s.rest;
  split = ap (λ (r : List Word). word.Open ∷ r) (is ∙ ap (λ (r : List Word). words_of a ++ (word.Operator op ∷ r)) s.split ∙ sym (append_assoc (words_of a) (word.Operator op ∷ s.front) s.rest));
  count = s.count;
  tree = joined op a s.tree;
  more = s.more ++ (word.Close ∷ []);
  within = omega (arith, s.within);
  fits = ap (λ (r : List Word). word.Open ∷ r) (longer (words_of a) (word.Operator op) s.front (example w) s.more (words_of s.tree) s.fits);
  none = λ t after more le f e.
      let i = inner d t after (words_of a ++ (word.Operator op ∷ s.front) ++ more) le e in
      let both = one_tree i.1 a (word.Operator i.0 ∷ (words_of i.2 ++ (word.Close ∷ after))) (word.Operator op ∷ (s.front ++ more)) (i.5 ∙ append_assoc (words_of a) (word.Operator op ∷ s.front) more) in
      let tail : words_of i.2 ++ (word.Close ∷ after) ≡ s.front ++ more = second i.0 op (words_of i.2 ++ (word.Close ∷ after)) (s.front ++ more) both.1 in
      s.none i.2 (word.Close ∷ after) more i.4 f tail;
  shows = s.shows;
  is_open = s.is_open;
}
  where
    second : (op op' : Operator) (x y : List Word) → word.Operator op ∷ x ≡ word.Operator op' ∷ y → x ≡ y
    second op op' x y h = cc

    longer : (a : List Word) (m : Word) (b c d x : List Word) → x ≡ b ++ (c ++ d) → a ++ (m ∷ (x ++ (word.Close ∷ []))) ≡ a ++ (m ∷ b) ++ (c ++ (d ++ (word.Close ∷ [])))
    longer a m b c d x h =
        ap (λ (r : List Word). a ++ (m ∷ (r ++ (word.Close ∷ [])))) h
        ∙ ap (λ (r : List Word). a ++ (m ∷ r)) (append_assoc b (c ++ d) (word.Close ∷ []) ∙ ap (λ (r : List Word). b ++ r) (append_assoc c d (word.Close ∷ [])))
        ∙ sym (append_assoc a (m ∷ b) (c ++ (d ++ (word.Close ∷ []))))

-- no parenthesis follows the second operand
pub at_close : (d : ℕ) (a b : Tree) (op : Operator) (words right rest : List Word) → depth a ≤ d → depth b ≤ d → words ≡ words_of a ++ (word.Operator op ∷ right) → right ≡ words_of b ++ rest → NoClose rest
    → NoOperand (suc d) (word.Open ∷ words) (length rest) wanted.Close
at_close d a b op words right rest le le' is is' absent = record {
  front = word.Open ∷ (words_of a ++ (word.Operator op ∷ words_of b));
  rest = rest;
  split = ap (λ (r : List Word). word.Open ∷ r) (is ∙ ap (λ (r : List Word). words_of a ++ (word.Operator op ∷ r)) is' ∙ sym (append_assoc (words_of a) (word.Operator op ∷ words_of b) rest));
  count = refl;
  tree = joined op a b;
  more = [];
  within = max_within (depth a) (depth b) d le le';
  fits = ap (λ (r : List Word). word.Open ∷ r) (sym (append_assoc (words_of a) (word.Operator op ∷ words_of b) (word.Close ∷ [])));
  none = λ t after more le f e.
      let i = inner d t after (words_of a ++ (word.Operator op ∷ words_of b) ++ more) le e in
      let both = one_tree i.1 a (word.Operator i.0 ∷ (words_of i.2 ++ (word.Close ∷ after))) (word.Operator op ∷ (words_of b ++ more)) (i.5 ∙ append_assoc (words_of a) (word.Operator op ∷ words_of b) more) in
      let tail : words_of i.2 ++ (word.Close ∷ after) ≡ words_of b ++ more = second i.0 op (words_of i.2 ++ (word.Close ∷ after)) (words_of b ++ more) both.1 in
      let last = one_tree i.2 b (word.Close ∷ after) more tail in
      not_close rest absent more after f last.1;
  shows = tt;
  is_open = tt;
}
  where
    second : (op op' : Operator) (x y : List Word) → word.Operator op ∷ x ≡ word.Operator op' ∷ y → x ≡ y
    second op op' x y h = cc

    max_within : (m n d : ℕ) → m ≤ d → n ≤ d → suc (max m n) ≤ suc d
    max_within m n d p q = omega arith

-- ---- whole expressions

-- an expression begins with an operand, after which it ends, or an operator and an operand follow
record Whole (words : List Word) : Type 0 where
  tree : Tree
  after : List Word
  within : depth tree ≤ most_depth
  is : words ≡ words_of tree ++ after
  ends : (after ≡ []) ⊎ ((op : Operator) × (b : Tree) × (depth b ≤ most_depth) × (after ≡ word.Operator op ∷ words_of b))

whole : (words : List Word) (t : Tree) → Spells words t → Whole words
whole words t (inl h) = record { tree = t; after = []; within = h.1; is = h.0 ∙ sym (nothing (words_of t)); ends = inl refl }
whole words (joined op a b) (inr h) = record { tree = a; after = word.Operator op ∷ words_of b; within = h.1; is = h.0; ends = inr (op, b, h.2, refl) }
whole words (number n) (inr h) = absurd h
whole words (byte n) (inr h) = absurd h
whole words (digits n) (inr h) = absurd h
whole words (pair n) (inr h) = absurd h
whole words (negated t) (inr h) = absurd h

breaks : (front rest : List Word) → ((words more : List Word) (t : Tree) → GoesOn rest more → Spells words t → words ≡ front ++ more → ⊥) → Breaks front rest
breaks front [] h = λ t s. h front [] t refl s (sym (nothing front))
breaks front (w ∷ rest) h = λ b. h (front ++ (w ∷ []) ++ b.0) (w ∷ b.0) b.1 (b.0, refl) b.2 (append_assoc front (w ∷ []) b.0)

more_is : (rest more : List Word) → 0 < length rest → GoesOn rest more → [] ≡ more → ⊥
more_is [] more lt f e = absurd (omega arith)
more_is (w ∷ rest) more lt f e = let bad : [] ≡ w ∷ f.0 = e ∙ f.1 in absurd cc

pub no_words : (w : Word) (x : List Word) → [] ≡ w ∷ x → ⊥
no_words w x e = absurd cc

pub second : (op op' : Operator) (x y : List Word) → word.Operator op ∷ x ≡ word.Operator op' ∷ y → x ≡ y
second op op' x y h = cc

-- what is expected and is no end stands where an expression can go on with it
fits_open : (w : Wanted) (front : List Word) → IsOpen w → Begins (front ++ example w) → Fits w front
fits_open wanted.Operand front o h = h
fits_open wanted.Operator front o h = h
fits_open wanted.Close front o h = h
fits_open wanted.End front o h = absurd o
fits_open wanted.Depth front o h = h

-- the first operand is at fault
pub whole_first : (words : List Word) (left : ℕ) (w : Wanted) → NoOperand most_depth words left w → IsFault words left w
whole_first words left w s = record {
  front = s.front;
  rest = s.rest;
  split = s.split;
  count = s.count;
  fits = fits_open w s.front s.is_open (s.more, s.tree, inl (append_assoc s.front (example w) s.more ∙ sym s.fits, s.within));
  breaks = breaks s.front s.rest (λ ws more t f sp e.
      let o = whole ws t sp in
      s.none o.tree o.after more o.within f (sym o.is ∙ e));
  shows = s.shows;
}

-- no operator follows the first operand
pub whole_operator : (a : Tree) (words rest : List Word) → depth a ≤ most_depth → words ≡ words_of a ++ rest → 0 < length rest → NoOperator rest → IsFault words (length rest) wanted.Operator
whole_operator a words rest le is lt absent = record {
  front = words_of a;
  rest = rest;
  split = is;
  count = refl;
  fits = (word.Number 0 ∷ [], joined Plus a (number 0), inr (append_assoc (words_of a) (word.Operator Plus ∷ []) (word.Number 0 ∷ []), le, omega arith));
  breaks = breaks (words_of a) rest (λ ws more t f sp e.
      let o = whole ws t sp in
      let both = one_tree o.tree a o.after more (sym o.is ∙ e) in
      elim o.ends [
        | inl none ↦ more_is rest more lt f (sym none ∙ both.1)
        | inr other ↦ not_operator rest absent other.0 more (words_of other.1) f (sym other.3 ∙ both.1)
      ]);
  shows = tt;
}

-- the second operand is at fault
pub whole_second : (a : Tree) (op : Operator) (words right : List Word) (left : ℕ) (w : Wanted) → depth a ≤ most_depth → words ≡ words_of a ++ (word.Operator op ∷ right) → NoOperand most_depth right left w
    → IsFault words left w
whole_second a op words right left w le is s = record {
  front = words_of a ++ (word.Operator op ∷ s.front);
  rest = s.rest;
  split = is ∙ ap (λ (r : List Word). words_of a ++ (word.Operator op ∷ r)) s.split ∙ sym (append_assoc (words_of a) (word.Operator op ∷ s.front) s.rest);
  count = s.count;
  fits =
      fits_open w (words_of a ++ (word.Operator op ∷ s.front)) s.is_open
      (s.more, joined op a s.tree, inr (longer (words_of a) (word.Operator op) s.front (example w) s.more (words_of s.tree) s.fits, le, s.within));
  breaks = breaks (words_of a ++ (word.Operator op ∷ s.front)) s.rest (λ ws more t f sp e.
      let o = whole ws t sp in
      let both = one_tree o.tree a o.after (word.Operator op ∷ (s.front ++ more)) (sym o.is ∙ e ∙ append_assoc (words_of a) (word.Operator op ∷ s.front) more) in
      elim o.ends [
        | inl none ↦ no_words (word.Operator op) (s.front ++ more) (sym none ∙ both.1)
        | inr other ↦ s.none other.1 [] more other.2 f (nothing (words_of other.1) ∙ second other.0 op (words_of other.1) (s.front ++ more) (sym other.3 ∙ both.1))
      ]);
  shows = s.shows;
}
  where
    longer : (a : List Word) (m : Word) (b c d x : List Word) → x ≡ b ++ (c ++ d) → a ++ (m ∷ b) ++ c ++ d ≡ a ++ (m ∷ x)
    longer a m b c d x h =
        append_assoc (a ++ (m ∷ b)) c d ∙ append_assoc a (m ∷ b) (c ++ d) ∙ ap (λ (r : List Word). a ++ (m ∷ r)) (sym h)

-- no word follows two operands with an operator between them
closed : (a b : Tree) (op : Operator) → depth a ≤ most_depth → depth b ≤ most_depth → (w : Word) → Begins ((words_of a ++ (word.Operator op ∷ words_of b)) ++ w ∷ []) → ⊥
closed a b op le le' w begins =
    breaks (words_of a ++ (word.Operator op ∷ words_of b)) (w ∷ []) (λ ws more t f sp e.
    let o = whole ws t sp in
    let both = one_tree o.tree a o.after (word.Operator op ∷ (words_of b ++ more)) (sym o.is ∙ e ∙ append_assoc (words_of a) (word.Operator op ∷ words_of b) more) in
    elim o.ends [
      | inl none ↦ no_words (word.Operator op) (words_of b ++ more) (sym none ∙ both.1)
      | inr other ↦
          let tail : words_of other.1 ++ [] ≡ words_of b ++ more = nothing (words_of other.1) ∙ second other.0 op (words_of other.1) (words_of b ++ more) (sym other.3 ∙ both.1) in
          let last = one_tree other.1 b [] more tail in
          more_is (w ∷ []) more (omega arith) f last.1
    ]) begins

-- the expression goes on past its end
pub whole_end : (a b : Tree) (op : Operator) (words right rest : List Word) → depth a ≤ most_depth → depth b ≤ most_depth → words ≡ words_of a ++ (word.Operator op ∷ right) → right ≡ words_of b ++ rest → 0 < length rest
    → IsFault words (length rest) wanted.End
whole_end a b op words right [] le le' is is' lt = absurd (omega arith)
whole_end a b op words right (w ∷ rest) le le' is is' lt = record {
  front = words_of a ++ (word.Operator op ∷ words_of b);
  rest = w ∷ rest;
  split = is ∙ ap (λ (r : List Word). words_of a ++ (word.Operator op ∷ r)) is' ∙ sym (append_assoc (words_of a) (word.Operator op ∷ words_of b) (w ∷ rest));
  count = refl;
  fits = (joined op a b, inr (refl, le, le'), closed a b op le le');
  breaks = closed a b op le le' w;
  shows = tt;
}
