-- The gaps of a difference, one after the other.
use Rattle.std.proofs.Common.{◌≡◌, ℕ, ◌+◌, ◌-◌, ◌<◌, ◌≤◌, List, [], ◌∷◌, ◌++◌, length, take, drop, refl, sym, ap, subst, ◌∙◌, arith}
use Rattle.std.specs.Prelude.{slice_get}
use Rattle.std.proofs.lemmas.List.{length-drop, take-append-drop, take_rest}
use lib.Seq.{drop-drop}
use Rattle.vcs_inputs.specs.declared.input.Input.{Input}
use Rattle.tas_movie.specs.Content.{MovieContent, most_inputs}
use Rattle.tas_movie.specs.Runs.{runs_of}
use Rattle.tas_movie.specs.Front.{IsCommonFront}
use Rattle.tas_language.specs.declared.change.Change.{Change}
use Rattle.tas_language.specs.declared.change.Change.TheVariants.{Insert, Replace, Delete}
use Rattle.tas_engines.specs.Changes.{changed_by, AreAllowed}
use Rattle.tas_engines.specs.Differences.{IsCommonEnd, taken_out, put_in, count_of, AreInOrder, ChangeTheirEnds, FallIntoHunks, middle, IsDifference}
use Rattle.tas_engines.specs.declared.comparing.Gap.{Gap}
use Rattle.tas_engines.specs.Hunks.{halfway, Leads, IsGapOf, AddsHunk, GoesOn}
use Rattle.tas_language.proofs.MadeLemmas.{movie_of}
use Rattle.tas_engines.proofs.HunkLemmas.{led_nowhere, led_further}
use Rattle.tas_engines.proofs.GapLemmas.{gap_further}

-- ---- the gaps of a difference

-- changes lead from the common beginning to the beginning of a gap, after which both lists have their common end
pub record Reached (old new : List Input) (front end : ℕ) (gap : Gap) (changes : List Change) : Type 0 where
  pub gap_of : IsGapOf old new gap
  pub old_end : gap.old_end ≡ length old - end
  pub new_end : gap.new_end ≡ length new - end
  pub leads : Leads old new front front gap.old gap.new gap.new changes

pub plain_end : (old new : List Input) (front end : ℕ) → IsCommonEnd (take (length old - front) (drop front old)) (take (length new - front) (drop front new)) end → IsCommonEnd (drop front old) (drop front new) end
plain_end old new front end ends =
    subst (λ (a : List Input). IsCommonEnd a (drop front new) end) (take_rest old front)
    (subst (λ (b : List Input). IsCommonEnd (take (length old - front) (drop front old)) b end) (take_rest new front) ends)

abbrev pub first_gap : List Input → List Input → ℕ → ℕ → Gap
first_gap old new front end = record { old = front; old_end = length old - end; new = front; new_end = length new - end }

pub reached_first : (old new : List Input) (front end : ℕ) → IsCommonFront old new front → IsCommonEnd (drop front old) (drop front new) end → length old ≤ most_inputs → length new ≤ most_inputs
    → Reached old new front end (first_gap old new front end) []
reached_first old new front end common ends short short_new =
    record {
      gap_of = record {
        old_forward = omega (arith, ends.within_a, common.within_a, length-drop front old);
        old_within = omega arith;
        new_forward = omega (arith, ends.within_b, common.within_b, length-drop front new);
        new_within = omega arith;
        short = short;
        short_new = short_new;
        room = omega (arith, ends.within_a, ends.within_b, common.within_a, common.within_b, length-drop front old, length-drop front new, short_new);
      };
      old_end = refl;
      new_end = refl;
      leads = led_nowhere old new front front front;
    }

pub reached_next : (old new : List Input) (front end : ℕ) (gap next : Gap) (before after : List Change) → Reached old new front end gap before → GoesOn old new gap next before after
    → Reached old new front end next after
reached_next old new front end gap next before after r n = record {
  gap_of = gap_further old new gap next before after r.gap_of n;
  old_end = n.old_end ∙ r.old_end;
  new_end = n.new_end ∙ r.new_end;
  leads = subst (Leads old new front front next.old next.new next.new) (sym n.is)
      (led_further old new front front gap.old gap.new next.old next.new gap.new next.new before n.changes r.leads n.leads (omega arith) n.leads.new_forward);
}

-- ---- the whole difference

whole_front : (old new : List Input) (front : ℕ) → IsCommonFront old new front → old ≡ new → front ≡ length old
whole_front old new front common same =
    let lens : length old ≡ length new = ap length same in
    go (λ lt. common.longest lt (omega (arith, lens, lt)) (ap (λ (l : List Input). slice_get l front) same))
  where
    go : (front < length old → ⊥) → front ≡ length old
    go h = let within = common.within_a in omega (arith, within, h)

first_some : (c : Change) (cs : List Change) → AreInOrder (c ∷ cs) → 1 ≤ count_of c
unfolding AreInOrder
first_some c [] h = h
first_some c (d ∷ cs) h = h.0

nothing_changed : (cs : List Change) → AreInOrder cs → taken_out cs ≡ 0 → put_in cs ≡ 0 → cs ≡ []
unfolding taken_out put_in
nothing_changed [] h out into = refl
nothing_changed (Insert at n input ∷ cs) h out into = let some = first_some (Insert at n input) cs h in absurd (omega (arith, some, into))
nothing_changed (Replace at n input ∷ cs) h out into = let some = first_some (Replace at n input) cs h in absurd (omega (arith, some, out))
nothing_changed (Delete at n ∷ cs) h out into = let some = first_some (Delete at n) cs h in absurd (omega (arith, some, out))

-- the ends of two lists that are the same after their common beginning
same_ends : (old new : List Input) (front end : ℕ) → IsCommonFront old new front → IsCommonEnd (drop front old) (drop front new) end → drop (length old - end) old ≡ drop (length new - end) new
same_ends old new front end common ends =
    let to_old : front + (length (drop front old) - end) ≡ length old - end = omega (arith, ends.within_a, common.within_a, length-drop front old) in
    let to_new : front + (length (drop front new) - end) ≡ length new - end = omega (arith, ends.within_b, common.within_b, length-drop front new) in
    ap (λ (n : ℕ). drop n old) (sym to_old) ∙ sym (drop-drop (length (drop front old) - end) front old) ∙ ends.same ∙ drop-drop (length (drop front new) - end) front new ∙ ap (λ (n : ℕ). drop n new) to_new

pub difference : (old new : List Input) (front end : ℕ) (changes : List Change) → IsCommonFront old new front → IsCommonEnd (drop front old) (drop front new) end
    → Leads old new front front (length old - end) (length new - end) (length new - end + 1) changes
    → FallIntoHunks front (length old - front) (runs_of (middle old front end)) (runs_of (middle new front end)) changes → IsDifference old new changes
difference old new front end changes common ends l hunks = record {
  allowed = λ cart. subst (λ (m : MovieContent). AreAllowed m changes) (starts cart) (l.allowed cart);
  made = λ cart. ap (λ (m : MovieContent). changed_by m changes) (sym (starts cart)) ∙ l.made cart ∙ finishes cart;
  between = record {
    front = front;
    end = end;
    common_front = common;
    common_end = ends;
    out = let out = l.out in omega (arith, out, fits_old, in_old, length-drop front old);
    into = let into = l.into in omega (arith, into, fits_new, in_new, length-drop front new);
    places = l.within;
    hunks = hunks;
  };
  order = l.order;
  deletions = l.deletions;
  ends = λ cart. subst (λ (m : MovieContent). ChangeTheirEnds m changes) (starts cart) (l.ends cart);
  numbers = l.numbers;
  none = λ same.
      let all = whole_front old new front common same in
      let lens : length old ≡ length new = ap length same in
      let out = l.out in
      let into = l.into in
      nothing_changed changes l.order (omega (arith, all, out)) (omega (arith, all, lens, into));
}
  where
    fits_old : end ≤ length (drop front old)
    fits_old = ends.within_a

    fits_new : end ≤ length (drop front new)
    fits_new = ends.within_b

    in_old : front ≤ length old
    in_old = common.within_a

    in_new : front ≤ length new
    in_new = common.within_b

    starts : (cart : List ℕ) → halfway cart old new front front ≡ movie_of cart old
    starts cart = ap (movie_of cart) (ap (λ (l : List Input). l ++ drop front old) (sym common.same) ∙ take-append-drop front old)

    finishes : (cart : List ℕ) → halfway cart old new (length old - end) (length new - end) ≡ movie_of cart new
    finishes cart =
        ap (movie_of cart) (ap (λ (l : List Input). take (length new - end) new ++ l) (same_ends old new front end common ends) ∙ take-append-drop (length new - end) new)

pub reached_last : (old new : List Input) (front end : ℕ) (gap : Gap) (before after : List Change) → IsCommonFront old new front → IsCommonEnd (drop front old) (drop front new) end
    → Reached old new front end gap before → AddsHunk old new gap before after
    → FallIntoHunks front (length old - front) (runs_of (middle old front end)) (runs_of (middle new front end)) after → IsDifference old new after
reached_last old new front end gap before after common ends r h hunks =
    let led = led_further old new front front gap.old gap.new gap.old_end gap.new_end gap.new (gap.new_end + 1) before h.0 r.leads h.2 (omega arith) (omega (arith, r.gap_of.new_forward)) in
    let there = subst (λ (k : ℕ). Leads old new front front k gap.new_end (gap.new_end + 1) (before ++ h.0)) r.old_end led in
    difference old new front end after common ends
    (subst (Leads old new front front (length old - end) (length new - end) (length new - end + 1)) (sym h.1)
    (subst (λ (k : ℕ). Leads old new front front (length old - end) k (k + 1) (before ++ h.0)) r.new_end there))
    hunks
