-- What the code that reads expressions has at hand, and what it shows.
use Rattle.std.proofs.Common.{◌≡◌, ℕ, suc, ◌<◌, ◌≤◌, List, [], ◌∷◌, ◌++◌, length, sym, ap, subst, ◌∙◌, arith}
use Rattle.tas_search.specs.declared.expression.Operator.{Operator}
use Rattle.tas_search.specs.declared.operands.ReadFault.{ReadFault}
use Rattle.tas_search.specs.declared.operands.ReadFault.TheVariants.{Memory, At}
use Rattle.tas_search.specs.declared.word.Word.{Word}
use Rattle.tas_search.specs.declared.word.Word.TheVariants as word
use Rattle.tas_search.specs.declared.word.Wanted.{Wanted}
use Rattle.tas_search.specs.declared.word.Wanted.TheVariants as wanted
use Rattle.tas_search.specs.Grammar.{Tree, words_of, depth, most_depth, IsDeeper, IsFault}
use Rattle.tas_search.specs.Inside.Operands.{NoOperand, NoOperator, NoClose, IsReadFault}
use Rattle.tas_search.proofs.GrammarLemmas.{NotFirst, no_first, too_deep, after_not, in_first, at_operator, in_second, at_close, whole_first, whole_second, whole_end}

-- ---- faults of an operand

there : (n levels : ℕ) (words ws : List Word) (left : ℕ) (w : Wanted) → suc n ≡ levels → words ≡ ws → NoOperand (suc n) ws left w → NoOperand levels words left w
there n levels words ws left w e is h = subst (λ (d : ℕ). NoOperand d words left w) e (subst (λ (r : List Word). NoOperand (suc n) r left w) (sym is) h)

pub empty_fault : (levels : ℕ) (words : List Word) → length words ≡ 0 → NoOperand levels words 0 wanted.Operand
empty_fault levels [] e = no_first levels [] tt
empty_fault levels (w ∷ ws) e = absurd (omega arith)

pub other_fault : (levels : ℕ) (words rest : List Word) (w : Word) → words ≡ w ∷ rest → NotFirst (w ∷ rest) → NoOperand levels words (length words) wanted.Operand
other_fault levels words rest w is h = subst (λ (ws : List Word). NoOperand levels ws (length ws) wanted.Operand) (sym is) (no_first levels (w ∷ rest) h)

pub deep_fault : (levels : ℕ) (words rest : List Word) (w : Word) → levels ≡ 0 → words ≡ w ∷ rest → IsDeeper (w ∷ rest) → NoOperand levels words (length words) wanted.Depth
deep_fault levels words rest w z is h =
    subst (λ (n : ℕ). NoOperand n words (length words) wanted.Depth) (sym z)
    (subst (λ (ws : List Word). NoOperand 0 ws (length ws) wanted.Depth) (sym is) (too_deep (w ∷ rest) h))

pub not_fault : (n levels : ℕ) (words rest : List Word) (fault : ReadFault) → suc n ≡ levels → words ≡ word.Not ∷ rest → IsReadFault (NoOperand n rest) fault → IsReadFault (NoOperand levels words) fault
not_fault n levels words rest Memory e is h = tt
not_fault n levels words rest (At left w) e is h = there n levels words (word.Not ∷ rest) left w e is (after_not n rest left w h)

pub first_fault : (n levels : ℕ) (words rest : List Word) (fault : ReadFault) → suc n ≡ levels → words ≡ word.Open ∷ rest → IsReadFault (NoOperand n rest) fault → IsReadFault (NoOperand levels words) fault
first_fault n levels words rest Memory e is h = tt
first_fault n levels words rest (At left w) e is h = there n levels words (word.Open ∷ rest) left w e is (in_first n rest left w h)

pub operator_fault : (n levels : ℕ) (words rest more : List Word) (a : Tree) → suc n ≡ levels → words ≡ word.Open ∷ rest → rest ≡ words_of a ++ more → depth a ≤ n → NoOperator more → NoOperand levels words (length more) wanted.Operator
operator_fault n levels words rest more a e is is' le absent = there n levels words (word.Open ∷ rest) (length more) wanted.Operator e is (at_operator n a rest more le is' absent)

pub second_fault : (n levels : ℕ) (words rest more right : List Word) (a : Tree) (op : Operator) (fault : ReadFault) → suc n ≡ levels → words ≡ word.Open ∷ rest → rest ≡ words_of a ++ more → depth a ≤ n → more ≡ word.Operator op ∷ right
    → IsReadFault (NoOperand n right) fault → IsReadFault (NoOperand levels words) fault
second_fault n levels words rest more right a op Memory e is is' le split h = tt
second_fault n levels words rest more right a op (At left w) e is is' le split h =
    there n levels words (word.Open ∷ rest) left w e is (in_second n a op rest right left w le (is' ∙ ap (λ (r : List Word). words_of a ++ r) split) h)

pub close_fault : (n levels : ℕ) (words rest more right last : List Word) (a b : Tree) (op : Operator) → suc n ≡ levels → words ≡ word.Open ∷ rest → rest ≡ words_of a ++ more → depth a ≤ n → more ≡ word.Operator op ∷ right
    → right ≡ words_of b ++ last → depth b ≤ n → NoClose last → NoOperand levels words (length last) wanted.Close
close_fault n levels words rest more right last a b op e is is' le split is'' le' absent =
    there n levels words (word.Open ∷ rest) (length last) wanted.Close e is (at_close n a b op rest right last le le' (is' ∙ ap (λ (r : List Word). words_of a ++ r) split) is'' absent)

-- ---- whole expressions

pub whole_first_fault : (words : List Word) (fault : ReadFault) → IsReadFault (NoOperand most_depth words) fault → IsReadFault (IsFault words) fault
whole_first_fault words Memory h = tt
whole_first_fault words (At left w) h = whole_first words left w h

pub whole_second_fault : (words more right : List Word) (a : Tree) (op : Operator) (fault : ReadFault) → words ≡ words_of a ++ more → depth a ≤ most_depth → more ≡ word.Operator op ∷ right
    → IsReadFault (NoOperand most_depth right) fault → IsReadFault (IsFault words) fault
whole_second_fault words more right a op Memory is le split h = tt
whole_second_fault words more right a op (At left w) is le split h = whole_second a op words right left w le (is ∙ ap (λ (r : List Word). words_of a ++ r) split) h

pub whole_end_fault : (words more right last : List Word) (a b : Tree) (op : Operator) → words ≡ words_of a ++ more → depth a ≤ most_depth → more ≡ word.Operator op ∷ right → right ≡ words_of b ++ last → depth b ≤ most_depth → 0 < length last
    → IsFault words (length last) wanted.End
whole_end_fault words more right last a b op is le split is' le' lt = whole_end a b op words right last le le' (is ∙ ap (λ (r : List Word). words_of a ++ r) split) is' lt
