-- Lengths of what was read.
use Rattle.std.proofs.Common.{◌≡◌, ◌≤◌, ℕ, ◌+◌, List, length, take, ◌++◌, arith, length-append, length-take}

-- all that was read before, and n bytes of a buffer
pub length-append_take : (a b : List ℕ) (n k : ℕ) → n ≤ length b → length a + n ≡ k → length (a ++ take n b) ≡ k
length-append_take a b n k fits sum = omega (arith, length-append a (take n b), length-take n b)

pub length-append_take-le : (a b : List ℕ) (n k : ℕ) → n ≤ length b → length a + n ≤ k → length (a ++ take n b) ≤ k
length-append_take-le a b n k fits sum = omega (arith, length-append a (take n b), length-take n b)
