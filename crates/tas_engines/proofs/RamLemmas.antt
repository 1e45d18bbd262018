-- Lines of RAM that are made from their end to their front.
use Rattle.std.proofs.Common.{◌≡◌, ℕ, suc, ◌+◌, ◌-◌, ◌<◌, ◌≤◌, List, [], ◌∷◌, ◌++◌, length, take, drop, get_or, append_assoc, Option, refl, sym, ap, subst, ◌∙◌, arith}
use Rattle.std.specs.Prelude.{decimal, slice_index}
use Rattle.std.proofs.lemmas.List.{append-nil, length-append, length-take, length-drop}
use Rattle.std.proofs.Math.Seq.{drop-cons}
use Rattle.std.specs.Io.KnownBytes.{Appends}
use Rattle.std.proofs.KnownBytes.{Appends-nil}
use Rattle.byte_text.specs.CutOff.{IsCutOff}
use Rattle.tas_engines.specs.declared.name.Name.{Name}
use Rattle.tas_engines.specs.Names.{names_of}
use Rattle.tas_engines.specs.Ram.{named_values}
use Rattle.tas_engines.proofs.StreamLemmas.{cut_within}

-- where a front of a buffer stayed, and bytes were put between it and an end that stayed, the buffer is as long as before
pub kept_length : (old new middle : List ℕ) (at end : ℕ) → take at new ≡ take at old → drop at new ≡ middle ++ drop end old → at + length middle ≡ end → end ≤ length old → length new ≡ length old
kept_length old new middle at end front back place le =
    let a = ap (λ (bs : List ℕ). length bs) front in
    let b = ap (λ (bs : List ℕ). length bs) back in
    omega (arith, a, b, length-take at new, length-take at old, length-drop at new, length-drop end old, length-append middle (drop end old), place, le)

drop_here : {X : Type 0} (xs : List X) (k : ℕ) (x : X) → k < length xs → get_or xs k x ≡ x → drop k xs ≡ x ∷ drop (k + 1) xs
drop_here {X = X} xs k x lt is =
    let next : suc k ≡ k + 1 = omega arith in
    drop-cons xs k x lt ∙ ap (λ (y : X). y ∷ drop (suc k) xs) is ∙ ap (λ (n : ℕ). x ∷ drop n xs) next

-- one value more stands before those of the later names
pub value_more : {Z : Type 0} (names : List (Name Z)) (k : ℕ) (n : Name Z) (bytes buffer new : List ℕ) (at to : ℕ) → k < length names → get_or names k n ≡ n
    → drop at buffer ≡ named_values (names_of (drop (k + 1) names)) bytes ++ (10 ∷ []) → drop to new ≡ (44 ∷ decimal (slice_index bytes (n.address - 128))) ++ drop at buffer
    → drop to new ≡ named_values (names_of (drop k names)) bytes ++ (10 ∷ [])
value_more {Z = Z} names k n bytes buffer new at to lt is before put =
    let value = 44 ∷ decimal (slice_index bytes (n.address - 128)) in
    put ∙ ap (λ (bs : List ℕ). value ++ bs) before
    ∙ sym (append_assoc value (named_values (names_of (drop (k + 1) names)) bytes) (10 ∷ []))
    ∙ ap (λ (ns : List (Name Z)). named_values (names_of ns) bytes ++ (10 ∷ [])) (sym (drop_here names k n lt is))

-- a line's number stands before the values
pub number_before : (k : ℕ) (values bytes : List ℕ) → bytes ≡ decimal k ++ (values ++ (10 ∷ [])) → bytes ≡ decimal k ++ values ++ (10 ∷ [])
number_before k values bytes is = is ∙ sym (append_assoc (decimal k) values (10 ∷ []))

-- ---- lines after a head

pub cut_after : (old mid new : Option (List ℕ)) (head lines : List ℕ) (before written : ℕ) → before ≡ length head → before ≤ written → Appends old mid head → IsCutOff mid new lines (written - before) → IsCutOff old new (head ++ lines) written
cut_after old mid new head lines before written count from sent cut =
    subst (λ (bs : List ℕ). IsCutOff old new bs written) (append-nil (head ++ lines)) (cut_within old mid new head lines [] before written count from sent cut)

pub cut_head : (old new : Option (List ℕ)) (head lines : List ℕ) (written : ℕ) → IsCutOff old new head written → IsCutOff old new (head ++ lines) written
cut_head old new head lines written cut =
    let all : written ≡ written - 0 = omega arith in
    cut_within old old new [] head lines 0 written refl (omega arith) (Appends-nil old) (subst (λ (n : ℕ). IsCutOff old new head n) all cut)
