-- Bytes in which a byte doesn't occur.
use Rattle.std.proofs.Common.{◌≡◌, ℕ, ◌+◌, ◌<◌, List, [], ◌∷◌, ◌++◌, length, take, get_or, refl, sym, subst}
use Rattle.std.proofs.lemmas.List.{take_more}
use Rattle.byte_text.specs.Splitting.{NoByte}

pub push_no_byte : (c : ℕ) (xs : List ℕ) (b : ℕ) → NoByte c xs → (b ≡ c → ⊥) → NoByte c (xs ++ b ∷ [])
push_no_byte c [] b h ne = (ne, tt)
push_no_byte c (x ∷ xs) b h ne = (h.0, push_no_byte c xs b h.1 ne)

pub no_byte_more : (c : ℕ) (bytes : List ℕ) (at : ℕ) → at < length bytes → (get_or bytes at 0 ≡ c → ⊥) → NoByte c (take at bytes) → NoByte c (take (at + 1) bytes)
no_byte_more c bytes at lt ne h = subst (NoByte c) (sym (take_more bytes at 0 lt)) (push_no_byte c (take at bytes) (get_or bytes at 0) h ne)

pub no_parts : (c : ℕ) (a x : List ℕ) → NoByte c (a ++ c ∷ x) → ⊥
no_parts c [] x h = h.0 refl
no_parts c (b ∷ a) x h = no_parts c a x h.1

-- what stands before the first such byte is one list
pub same_front : (c : ℕ) (a b x y : List ℕ) → NoByte c a → NoByte c b → a ++ c ∷ x ≡ b ++ c ∷ y → (a ≡ b) × (x ≡ y)
same_front c [] [] x y ha hb e = let t : x ≡ y = cc in (refl, t)
same_front c [] (k ∷ b) x y ha hb e = let t : k ≡ c = cc in absurd (hb.0 t)
same_front c (k ∷ a) [] x y ha hb e = let t : k ≡ c = cc in absurd (ha.0 t)
same_front c (k ∷ a) (m ∷ b) x y ha hb e =
    let head : k ≡ m = cc in
    let tail : a ++ c ∷ x ≡ b ++ c ∷ y = cc in
    let both = same_front c a b x y ha.1 hb.1 tail in
    let whole : k ∷ a ≡ m ∷ b = cc in
    (whole, both.1)
