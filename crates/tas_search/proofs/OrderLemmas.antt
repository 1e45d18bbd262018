-- The order of sequences.
use Rattle.std.proofs.Common.{◌≡◌, ℕ, ◌+◌, ◌*◌, ◌<◌, ◌≤◌, List, [], ◌∷◌, ◌++◌, length, arith}
use Rattle.std.proofs.Math.Nat.{mul-le-mul_right}
use Rattle.tas_search.specs.Space.{SpaceContent, AreNumbers, rank_from, rank}

-- a lower rank stays lower, whatever choices follow
pub lower_stays : (s : SpaceContent) (p q : ℕ) (a b : List ℕ) → p < q → AreNumbers s a → length a ≡ length b → rank_from (length s.choices) p a < rank_from (length s.choices) q b
lower_stays s p q [] [] lt are same = lt
lower_stays s p q [] (y ∷ b) lt are same = absurd (omega arith)
lower_stays s p q (x ∷ a) [] lt are same = absurd (omega arith)
lower_stays s p q (x ∷ a) (y ∷ b) lt are same =
    let more : (p + 1) * length s.choices ≤ q * length s.choices = mul-le-mul_right (length s.choices) (omega arith) in
    lower_stays s (p * length s.choices + x) (q * length s.choices + y) a b (omega arith) are.1 (omega arith)

decides_from : (s : SpaceContent) (r : ℕ) (front a b : List ℕ) (j k : ℕ) → j < k → AreNumbers s a → length a ≡ length b
    → rank_from (length s.choices) r (front ++ j ∷ a) < rank_from (length s.choices) r (front ++ k ∷ b)
decides_from s r [] a b j k lt are same = lower_stays s (r * length s.choices + j) (r * length s.choices + k) a b (omega arith) are same
decides_from s r (x ∷ front) a b j k lt are same = decides_from s (r * length s.choices + x) front a b j k lt are same

pub difference_decides : (s : SpaceContent) (front a b : List ℕ) (j k : ℕ) → j < k → AreNumbers s a → length a ≡ length b → rank s (front ++ j ∷ a) < rank s (front ++ k ∷ b)
difference_decides s front a b j k lt are same = decides_from s 0 front a b j k lt are same
