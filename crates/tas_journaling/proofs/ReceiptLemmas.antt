-- Each step keeps the rule of receipts.
use Rattle.std.proofs.Common.{◌≡◌, ◌≢◌, ℕ, zero, suc, ◌≤◌, List, [], ◌∷◌, set, true, false, true≢false, refl, sym, ap, ◌∙◌, subst, ⊎_elim, arith}
use Rattle.std.specs.Prelude.{slice_index}
use mathlib.Core.Option.{some, some-ne-none, some-injective}
use lib.ListN.{get_elem?}
use Rattle.crossbeam_utils.specs.Register.{Turns, Forks, Merges}
use Rattle.atomic_table.proofs.Lists.{at_set, at_snoc, set_again}
use Rattle.tas_journaling.specs.declared.receipts.Known.{Known}
use Rattle.tas_journaling.specs.Receipts.{own_at, told_of, told_by, beside, CoversAll, Raised, Compared}

-- what the rule says of one
abbrev Fits : ℕ → ℕ → ℕ → Known → Type 0
Fits seat upto by v = (v.keeps ≡ true → (by ≡ seat) × (v.upto ≡ upto)) × (v.told ≤ upto)

fits_set : (seat upto now : ℕ) (views : List Known) (by : ℕ) (w : Known) → ((j : ℕ) (u : Known) → j ≢ by → get_elem? views j ≡ some u → Fits seat now j u) → Fits seat now by w → (j : ℕ) (u : Known) → get_elem? (set views by w) j ≡ some u → Fits seat now j u
fits_set seat upto now views by w others mine j u e =
    ⊎_elim
    (λ (x : (j ≡ by) × (w ≡ u)). subst (λ (y : ℕ × Known). Fits seat now y.0 y.1) (λ i. (sym x.0 i, x.1 i)) mine)
    (λ (x : (j ≢ by) × (get_elem? views j ≡ some u)). others j u x.0 x.1)
    (at_set views by j w u e)

off : false ≡ true → ⊥
off e = true≢false (sym e)

pub begins : (words : List ℕ) → CoversAll words (own_at 0 ∷ [])
begins words = (0, 0, one)
  where
    one : (by : ℕ) (v : Known) → get_elem? (own_at 0 ∷ []) by ≡ some v → Fits 0 0 by v
    one zero v e = subst (Fits 0 0 0) (some-injective _ _ e) ((λ _. (refl, refl)), omega arith)
    one (suc by) v e = absurd (some-ne-none v (sym e))

raises : (by upto : ℕ) (new : List ℕ) → upto ≤ slice_index new 0 → Turns CoversAll by (own_at upto) (λ _. new) Raised
raises by upto new more words views h at =
    let mine = (h.2 by (own_at upto) at).0 refl in
    let w = own_at (slice_index new 0) in (
      w,
      (
        h.0,
        slice_index new 0,
        fits_set h.0 h.1 (slice_index new 0) views by w
            (λ j u apart e. ((λ k. absurd (apart (((h.2 j u e).0 k).0 ∙ sym mine.0))), (let few = (h.2 j u e).1 in omega (arith, few, mine.1, more))))
            ((λ _. (mine.0, refl)), omega arith),
      ),
      refl,
    )

compares : (by : ℕ) (v : Known) → v.keeps ≡ true → Turns CoversAll by v (λ x. x) Compared
compares by v keeps words views h at =
    let mine = h.2 by v at in
    let known = mine.0 keeps in
    let w = own_at v.upto in (
      w,
      (h.0, h.1, fits_set h.0 h.1 h.1 views by w (λ j u apart e. h.2 j u e) ((λ _. known), omega arith)),
      (refl, omega (arith, mine.1, known.1)),
    )

gives : (by upto : ℕ) → Forks CoversAll by (own_at upto) (own_at upto) (told_by (own_at upto))
gives by upto words views h at =
    let mine = (h.2 by (own_at upto) at).0 refl in (
      h.0,
      h.1,
      λ j u e. ⊎_elim
          (λ was. h.2 j u (subst (λ l. get_elem? l j ≡ some u) (set_again views by (own_at upto) at) was))
          (λ (same : told_by (own_at upto) ≡ u). subst (Fits h.0 h.1 j) same ((λ k. absurd (off k)), omega (arith, mine.1)))
          (at_snoc (set views by (own_at upto)) (told_by (own_at upto)) u j e),
    )

takes : (by upto other : ℕ) (u : Known) → Merges CoversAll by (own_at upto) other u (beside (own_at upto) u) (told_of 0)
takes by upto other u words views h at apart there =
    let w = beside (own_at upto) u in
    let mine = (h.2 by (own_at upto) at).0 refl in
    let theirs = ⊎_elim (λ (t : (other ≡ by) × (w ≡ u)). absurd (apart t.0)) (λ (t : (other ≢ by) × (get_elem? views other ≡ some u)). h.2 other u t.1) (at_set views by other w u there) in
    (h.0, h.1, fits_set h.0 h.1 h.1 (set views by w) other (told_of 0) (λ j v _ e. fits_set h.0 h.1 h.1 views by w (λ i y _ e'. h.2 i y e') ((λ _. mine), theirs.1) j v e) ((λ k. absurd (off k)), omega arith))

-- the steps, at a view that is known
pub raises_as : (by : ℕ) (v : Known) (new : List ℕ) → v ≡ own_at v.upto → v.upto ≤ slice_index new 0 → Turns CoversAll by v (λ _. new) Raised
raises_as by v new is more = subst (λ (u : Known). Turns CoversAll by u (λ _. new) Raised) (sym is) (raises by v.upto new more)

pub gives_as : (by : ℕ) (v : Known) (upto : ℕ) → v ≡ own_at upto → Forks CoversAll by v v (told_by v)
gives_as by v upto is = subst (λ (u : Known). Forks CoversAll by u u (told_by u)) (sym is) (gives by upto)

pub takes_as : (by : ℕ) (v : Known) (upto other : ℕ) (u : Known) → v ≡ own_at upto → Merges CoversAll by v other u (beside v u) (told_of 0)
takes_as by v upto other u is = subst (λ (x : Known). Merges CoversAll by x other u (beside x u) (told_of 0)) (sym is) (takes by upto other u)

pub compares_as : (by : ℕ) (v : Known) → v.keeps ≡ true → Turns CoversAll by v (λ x. x) Compared
compares_as by v keeps = compares by v keeps

-- the journal's own pass after it was raised
pub raised_to : (v w : Known) (before after : List ℕ) (upto : ℕ) → v ≡ own_at v.upto → Raised v before after w → after ≡ upto ∷ [] → w ≡ own_at upto
raised_to v w before after upto is raised words =
    raised ∙ ap (λ (u : Known). record { keeps = u.keeps; upto = slice_index after 0; told = u.told }) is ∙ ap (λ (l : List ℕ). own_at (slice_index l 0)) words
