-- A file that is replaced.
use Rattle.std.proofs.Common.{◌≡◌, ◌++◌, ℕ, List, [], ◌∷◌, Bool, true, false, Option, Some, None, ◌⊎◌, inl, inr, option_map, refl, sym, ap, subst, ◌∙◌}
use Rattle.std.proofs.lemmas.Slice.Eq.{bytes_eq-Decides}
use Rattle.std.specs.Io.KnownBytes.{Appends}
use Rattle.std.specs.Str.{bytes_eq}
use Rattle.clap.specs.Walk.{Text}
use Rattle.tas_program.specs.Saving.{Files, FileSteps, AllStay, IsEmptyIn, IsGiven, IsPart, IsReplaced, WasAbsent, WhereKnown, made, moved, put}

-- a name is that of itself
same_name : (name : Text) → bytes_eq name name ≡ true
same_name name = (bytes_eq-Decides name name).1 refl

-- the name of a new file beside another one is another one
rest_of : Text → Text
rest_of [] = []
rest_of (c ∷ rest) = rest

not_longer : (name : Text) (c : ℕ) (end : Text) → name ≡ name ++ c ∷ end → ⊥
unfolding rest_of
not_longer [] c end e = cc
not_longer (first ∷ name) c end e = not_longer name c end (ap rest_of e)

other_name : (file part : Text) → IsPart file part → bytes_eq file part ≡ false
other_name file part (first, end, is) = go (bytes_eq file part) refl
  where
    go : (b : Bool) → bytes_eq file part ≡ b → bytes_eq file part ≡ false
    go false e = e
    go true e = absurd (not_longer file first end ((bytes_eq-Decides file part).0 e ∙ is))

-- where there was no file of a name, a file that was made, changed and removed leaves all as they were
as_before : (part : Text) (files : Files) (first second : Option (List ℕ)) → files part ≡ None → AllStay files (put (put (put files part first) part second) part None)
as_before part files first second absent other = go (bytes_eq other part) refl
  where
    go : (b : Bool) → bytes_eq other part ≡ b → put (put (put files part first) part second) part None other ≡ files other
    go true e = rw e (sym (ap files ((bytes_eq-Decides other part).0 e) ∙ absent))
    go false e = rw e refl

as_made : (part : Text) (files : Files) → files part ≡ None → AllStay files (put (made part files) part None)
as_made part files absent other = go (bytes_eq other part) refl
  where
    go : (b : Bool) → bytes_eq other part ≡ b → put (made part files) part None other ≡ files other
    go true e = rw e (sym (ap files ((bytes_eq-Decides other part).0 e) ∙ absent))
    go false e = rw e refl

-- a new file was made, maybe changed, and removed
pub all_stay : (part : Text) (old new kept last : Option Files) → WasAbsent part old → new ≡ option_map (made part) old → (kept ≡ new) ⊎ ((bytes : Option (List ℕ)) × (kept ≡ option_map (λ files. put files part bytes) new))
    → last ≡ option_map (λ files. put files part None) kept → WhereKnown AllStay old last
all_stay part None new kept last absent makes keeps removes = tt
all_stay part (Some files) new kept last absent makes (inl same) removes = subst (WhereKnown AllStay (Some files)) (sym (removes ∙ ap (option_map (λ f. put f part None)) (same ∙ makes))) (as_made part files absent)
all_stay part (Some files) new kept last absent makes (inr (bytes, is)) removes =
    subst (WhereKnown AllStay (Some files)) (sym (removes ∙ ap (option_map (λ f. put f part None)) (is ∙ ap (option_map (λ f. put f part bytes)) makes))) (as_before part files (Some []) bytes absent)

-- a new file was made and filled, and took the name of another one
taken : (file part : Text) (bytes : List ℕ) (files : Files) → IsPart file part → files part ≡ None → IsReplaced file bytes files (moved part file (put (made part files) part (Some bytes)))
taken file part bytes files beside absent = (new, others)
  where
    new : moved part file (put (made part files) part (Some bytes)) file ≡ Some bytes
    new = rw (other_name file part beside, same_name file, same_name part) refl

    others : (other : Text) → bytes_eq other file ≡ false → moved part file (put (made part files) part (Some bytes)) other ≡ files other
    others other differs = go (bytes_eq other part) refl
      where
        go : (b : Bool) → bytes_eq other part ≡ b → moved part file (put (made part files) part (Some bytes)) other ≡ files other
        go true e = rw e (sym (ap files ((bytes_eq-Decides other part).0 e) ∙ absent))
        go false e = rw (e, differs) refl

pub is_replaced : (file part : Text) (bytes : List ℕ) (old new kept last : Option Files) → IsPart file part → WasAbsent part old → new ≡ option_map (made part) old → kept ≡ option_map (λ files. put files part (Some bytes)) new
    → last ≡ option_map (moved part file) kept → WhereKnown (IsReplaced file bytes) old last
is_replaced file part bytes None new kept last beside absent makes keeps moves = tt
is_replaced file part bytes (Some files) new kept last beside absent makes keeps moves =
    subst (WhereKnown (IsReplaced file bytes) (Some files)) (sym (moves ∙ ap (option_map (moved part file)) (keeps ∙ ap (option_map (λ f. put f part (Some bytes))) makes))) (taken file part bytes files beside absent)

-- a new file was filled
pub is_filled : (part : Text) (bytes : List ℕ) (old new : Option Files) (before after : Option (List ℕ)) → IsEmptyIn old before → Appends before after bytes → new ≡ option_map (λ files. put files part after) old
    → new ≡ option_map (λ files. put files part (Some bytes)) old
is_filled part bytes None new before after empty appends is = is
is_filled part bytes (Some files) new before after empty appends is = go after (subst (λ b. Appends b after bytes) empty appends) is
  where
    go : (a : Option (List ℕ)) → Appends (Some []) a bytes → new ≡ Some (put files part a) → new ≡ Some (put files part (Some bytes))
    go None none e = absurd none
    go (Some ys) ys_is e = e ∙ ap (λ ys. Some (put files part (Some ys))) ys_is

-- the same where the name of the new file is read off it
pub all_stay_named : (part said : Text) (old new kept last : Option Files) → said ≡ part → WasAbsent part old → new ≡ option_map (made part) old → (kept ≡ new) ⊎ ((bytes : Option (List ℕ)) × (kept ≡ option_map (λ files. put files said bytes) new))
    → last ≡ option_map (λ files. put files said None) kept → WhereKnown AllStay old last
all_stay_named part said old new kept last same absent makes keeps removes =
    all_stay said old new kept last (subst (λ p. WasAbsent p old) (sym same) absent) (makes ∙ ap (λ p. option_map (made p) old) (sym same)) keeps removes

pub is_replaced_named : (file part said : Text) (bytes : List ℕ) (old new kept last : Option Files) → said ≡ part → IsPart file part → WasAbsent part old → new ≡ option_map (made part) old
    → kept ≡ option_map (λ files. put files said (Some bytes)) new → last ≡ option_map (moved said file) kept → WhereKnown (IsReplaced file bytes) old last
is_replaced_named file part said bytes old new kept last same beside absent makes keeps moves =
    is_replaced file said bytes old new kept last (subst (IsPart file) (sym same) beside) (subst (λ p. WasAbsent p old) (sym same) absent) (makes ∙ ap (λ p. option_map (made p) old) (sym same)) keeps moves

-- the steps by which a file was given bytes
pub given_named : (steps : FileSteps) (file part said : Text) (bytes : List ℕ) (held : Option (List ℕ)) → said ≡ part → IsPart file part → steps.made part held
    → ((held' : Option (List ℕ)) × Appends held held' bytes × steps.kept said held') → steps.moved said file → IsGiven steps file bytes
given_named steps file part said bytes held same beside makes (held', appends, keeps) moves = record {
  part = part;
  held = held;
  held' = held';
  beside = beside;
  made = makes;
  written = appends;
  kept = subst (λ p. steps.kept p held') same keeps;
  moved = subst (λ p. steps.moved p file) same moves;
}
