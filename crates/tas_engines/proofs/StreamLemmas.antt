-- A text that is written piece by piece.
use Rattle.std.proofs.Common.{◌≡◌, ℕ, zero, suc, ◌+◌, ◌-◌, ◌≤◌, List, [], ◌∷◌, ◌++◌, length, take, drop, take_all, append_assoc, Option, sym, ap, subst, ◌∙◌, arith}
use Rattle.std.specs.Prelude.{decimal}
use Rattle.std.specs.List.{range_with_len, flat_map}
use Rattle.std.proofs.lemmas.Grind.{flat_map-append}
use Rattle.std.proofs.lemmas.List.{length-append, take-append-le, append-nil}
use Rattle.std.proofs.Math.Seq.{take-append-add}
use Rattle.std.specs.Io.KnownBytes.{Appends}
use Rattle.std.proofs.KnownBytes.{Appends-trans}
use Rattle.byte_text.specs.CutOff.{IsCutOff}

-- the first pieces went out and the next one was cut off, so the whole text was
pub cut_within : (old mid new : Option (List ℕ)) (front piece rest : List ℕ) (before written : ℕ) → before ≡ length front → before ≤ written → Appends old mid front
    → IsCutOff mid new piece (written - before) → IsCutOff old new ((front ++ piece) ++ rest) written
cut_within old mid new front piece rest before written count from sent cut =
    let short = cut.missing in
    let all = length-append (front ++ piece) rest in
    let both = length-append front piece in
    let sum : length front + (written - before) ≡ written = omega arith in
    record {
      missing = omega arith;
      front = subst (Appends old new)
          (sym (take-append-add front piece (written - before)) ∙ sym (take-append-le (length front + (written - before)) (front ++ piece) rest (omega arith)) ∙ ap (λ (n : ℕ). take n ((front ++ piece) ++ rest)) sum)
          (Appends-trans old mid new front (take (written - before) piece) sent cut.front);
    }

-- ---- pieces of numbers that follow one another

module _ (piece : ℕ → List ℕ) where
  -- the pieces of the numbers from `from` to `to` - 1
  abbrev pub pieces : ℕ → ℕ → List ℕ
  pieces from to = flat_map piece (range_with_len from (to - from))

  joined : (a m n : ℕ) → range_with_len a (m + n) ≡ range_with_len a m ++ range_with_len (a + m) n
  joined a zero n =
      let none : 0 + n ≡ n = omega arith in
      let here : a ≡ a + 0 = omega arith in
      ap (range_with_len a) none ∙ ap (λ (k : ℕ). range_with_len k n) here
  joined a (suc m) n =
      let more : suc m + n ≡ suc (m + n) = omega arith in
      let behind : (a + 1) + m ≡ a + suc m = omega arith in
      ap (range_with_len a) more ∙ ap (λ (xs : List ℕ). a ∷ xs) (joined (a + 1) m n ∙ ap (λ (k : ℕ). range_with_len (a + 1) m ++ range_with_len k n) behind)

  pub pieces_joined : (from mid to : ℕ) → from ≤ mid → mid ≤ to → pieces from mid ++ pieces mid to ≡ pieces from to
  pieces_joined from mid to low high =
      let all : (mid - from) + (to - mid) ≡ to - from = omega arith in
      let at : mid ≡ from + (mid - from) = omega arith in
      ap (λ (k : ℕ). pieces from mid ++ flat_map piece (range_with_len k (to - mid))) at
      ∙ sym (flat_map-append piece (range_with_len from (mid - from)) (range_with_len (from + (mid - from)) (to - mid)))
      ∙ ap (flat_map piece) (sym (joined from (mid - from) (to - mid)))
      ∙ ap (λ (n : ℕ). flat_map piece (range_with_len from n)) all

  pub pieces_none : (from : ℕ) → [] ≡ pieces from from
  pieces_none from =
      let none : 0 ≡ from - from = omega arith in
      ap (λ (n : ℕ). flat_map piece (range_with_len from n)) none

  -- one more
  pub pieces_more : (from k : ℕ) → from ≤ k → pieces from k ++ piece k ≡ pieces from (k + 1)
  pieces_more from k le =
      let one : 1 ≡ (k + 1) - k = omega arith in
      ap (λ (bs : List ℕ). pieces from k ++ bs) (sym (append-nil (piece k)) ∙ ap (λ (n : ℕ). flat_map piece (range_with_len k n)) one)
      ∙ pieces_joined from k (k + 1) le (omega arith)

  -- those up to number k, it, and the rest
  pub pieces_around : (from k to : ℕ) → from ≤ k → k + 1 ≤ to → (pieces from k ++ piece k) ++ pieces (k + 1) to ≡ pieces from to
  pieces_around from k to low high = ap (λ (bs : List ℕ). bs ++ pieces (k + 1) to) (pieces_more from k low) ∙ pieces_joined from (k + 1) to (omega arith) high

-- ---- a text that grows piece by piece

pub next_piece : (old so_far piece now next : List ℕ) → now ≡ old ++ so_far → next ≡ now ++ piece → next ≡ old ++ (so_far ++ piece)
next_piece old so_far piece now next is grown = grown ∙ ap (λ (bs : List ℕ). bs ++ piece) is ∙ append_assoc old so_far piece

-- ---- a line whose number ends at byte 20 of 278

pub last_bytes : (buf : List ℕ) (start k : ℕ) (digits : List ℕ) → length digits ≡ 256 → start + length (decimal k) ≡ 20 → drop start buf ≡ decimal k ++ (32 ∷ (digits ++ (10 ∷ [])))
    → take (278 - start) (drop start buf) ≡ decimal k ++ (32 ∷ []) ++ digits ++ (10 ∷ [])
last_bytes buf start k digits long place is =
    let all = ap (λ (bs : List ℕ). length bs) is in
    let parts = length-append (decimal k) (32 ∷ (digits ++ (10 ∷ []))) in
    let back = length-append digits (10 ∷ []) in
    take_all (278 - start) (drop start buf) (omega (arith, all, parts, back, long, place)) ∙ is
    ∙ sym (append_assoc (decimal k) (32 ∷ []) (digits ++ (10 ∷ []))) ∙ sym (append_assoc (decimal k ++ (32 ∷ [])) digits (10 ∷ []))
