-- A part of a history has both edits of a commit or neither, and some entry where there is one.
use Rattle.std.proofs.Common.{◌≡◌, ℕ, zero, suc, ◌+◌, ◌-◌, ◌<◌, ◌≤◌, ◌==◌, Bool, true, false, List, [], ◌∷◌, ◌++◌, length, take, drop, Option, Some, refl, sym, ap, subst, ◌∙◌, inl, inr, arith, append_assoc, length-drop, take-append-drop, length-take-le}
use Rattle.std.specs.Prelude.{slice_get, if◌then◌else◌}
use Rattle.std.proofs.lemmas.Bool.{false≢true, true≢false, eq-eqb, and_from, and_parts, cases_Bool, cases_lt, false_from_ne_true}
use Rattle.std.proofs.lemmas.List.{drop-append-le}
use mathlib.Core.List.{IsPrefix}
use Rattle.vcs_inputs.specs.declared.input.Input.{Input}
use Rattle.tas_movie.specs.Content.{MovieContent, most_inputs}
use Rattle.tas_movie.specs.declared.edit.Edit.{Edit}
use Rattle.tas_movie.specs.declared.edit.Edit.TheVariants.{Load, Insert, Replace, Delete}
use Rattle.tas_published.specs.declared.entry.Entry.{Entry}
use Rattle.tas_published.specs.History.{IsLegal, movie_of}
use Rattle.tas_desk.specs.Parts.{most_entries, inputs_of, inputs_in, is_exchange, may_be_one, may_both_be_one, is_between, can_end, last_end, one_part}
use Rattle.tas_desk.proofs.PartLemmas.{CanEnd, inputs_more, not_at_end, not_before, can_end_from, can_end_parts, cannot_between, ends_where_it_can, ends_no_earlier}
use Rattle.tas_desk.specs.Seats.{entry_of}
use Rattle.tas_seat.specs.Drafts.{stroke_of, inner_inputs, IsStroke}
use Rattle.tas_seat.specs.Seats.{entries_from}
use Rattle.tas_seat.proofs.ReachLemmas.{few_inputs, few_put_in}

-- ---- the two edits of a commit

-- of two edits that put inputs in the place of others, the first is a deletion, and the second an insertion in its place
two_exchange : {A : Type 0} (at : ℕ) (olds news : List Input) (first next : Edit A) → stroke_of A at olds news ≡ first ∷ next ∷ [] → is_exchange first next ≡ true
two_exchange at [] [] first next is = absurd (cc is)
two_exchange at [] (new ∷ news) first next is = absurd (cc is)
two_exchange at (old ∷ olds) [] first next is = absurd (cc is)
two_exchange {A} at (old ∷ olds) (new ∷ news) first next is = go (length olds == length news) is
  where
    go : (same : Bool) → ◌≡◌ {A = List (Edit A)} (if same then Replace at (new ∷ news) ∷ [] else Delete at (length (old ∷ olds)) ∷ Insert at (new ∷ news) ∷ []) (first ∷ next ∷ []) → is_exchange first next ≡ true
    go true one = absurd (cc one)
    go false two =
        let gone : ◌≡◌ {A = Edit A} (Delete at (length (old ∷ olds))) first = cc two in
        let come : ◌≡◌ {A = Edit A} (Insert at (new ∷ news)) next = cc two in
        subst (λ (e : Edit A). is_exchange e next ≡ true) gone
        (subst (λ (e : Edit A). is_exchange (Delete at (length (old ∷ olds))) e ≡ true) come (eq-eqb at at refl))

pub stroke_exchange : {A : Type 0} (base new : MovieContent) (first next : Edit A) → IsStroke base new (first ∷ next ∷ []) → is_exchange first next ≡ true
stroke_exchange base new first next is =
    two_exchange is.front (inner_inputs is.front is.back base.inputs) (inner_inputs is.front is.back new.inputs) first next (sym is.edits_are)

-- ---- they stand side by side

get_here : {X : Type 0} (before after : List X) (x : X) (n : ℕ) → length before ≡ n → slice_get (before ++ x ∷ after) n ≡ Some x
get_here [] after x zero is = refl
get_here [] after x (suc n) is = absurd (omega (arith, is))
get_here (y ∷ before) after x zero is = absurd (omega (arith, is))
get_here (y ∷ before) after x (suc n) is = get_here before after x n (omega (arith, is))

get_next : {X : Type 0} (before after : List X) (x y : X) (n : ℕ) → length before ≡ n → slice_get (before ++ x ∷ y ∷ after) (suc n) ≡ Some y
get_next [] after x y zero is = refl
get_next [] after x y (suc n) is = absurd (omega (arith, is))
get_next (z ∷ before) after x y zero is = absurd (omega (arith, is))
get_next (z ∷ before) after x y (suc n) is = get_next before after x y n (omega (arith, is))

between_two : {A : Type 0} (before after : List (Entry A)) (x y : Entry A) (n : ℕ) → length before ≡ n → may_be_one x y ≡ true → is_between (before ++ x ∷ y ∷ after) (suc n) ≡ true
unfolding is_between
between_two {A} before after x y n is pair =
    ap (λ (o : Option (Entry A)). may_both_be_one o (slice_get (before ++ x ∷ y ∷ after) (suc n))) (get_here before (y ∷ after) x n is)
    ∙ ap (λ (o : Option (Entry A)). may_both_be_one (Some x) o) (get_next before after x y n is)
    ∙ pair

-- ---- how long a part is

end_there : {A : Type 0} (entries : List (Entry A)) (n : ℕ) → last_end entries n ≤ length entries
end_there entries n = elim (cases_lt 0 (last_end entries n)) [
  | inl some ↦ let can : CanEnd entries (last_end entries n) = can_end_parts entries (last_end entries n) (ends_where_it_can entries n some) in can.there
  | inr none ↦ omega (arith, none)
]

part_length : {A : Type 0} (entries : List (Entry A)) → length (one_part entries) ≡ last_end entries most_entries
part_length entries = length-take-le (last_end entries most_entries) entries (end_there entries most_entries)

-- no part ends between them
no_end_between : {A : Type 0} (entries : List (Entry A)) (n : ℕ) → 0 < n → is_between entries n ≡ true → length (one_part entries) ≡ n → ⊥
no_end_between {A} entries n some between is =
    let here : last_end entries most_entries ≡ n = sym (part_length entries) ∙ is in
    let can : can_end entries (last_end entries most_entries) ≡ true = ends_where_it_can entries most_entries (omega (arith, some, here)) in
    let never : can_end entries (last_end entries most_entries) ≡ false = ap (λ (m : ℕ). can_end entries m) here ∙ cannot_between entries n between in
    true≢false (sym can ∙ never)

dropped : {A : Type 0} (before rest : List (Entry A)) (from : ℕ) → from ≤ length before → drop from (before ++ rest) ≡ drop from before ++ rest
dropped before rest from le = drop-append-le from before rest le

pub commit_is_whole : {A : Type 0} (base new : MovieContent) (first next : Edit A) (seat serial : ℕ) (before after : List (Entry A)) (from : ℕ) → IsStroke base new (first ∷ next ∷ []) → from ≤ length before
    → from + length (one_part (drop from (before ++ (entries_from seat serial (first ∷ next ∷ []) ++ after)))) ≡ length before + 1 → ⊥
commit_is_whole {A} base new first next seat serial before after from is le ends =
    let x : Entry A = entry_of seat serial first in
    let y : Entry A = entry_of seat (serial + 1) next in
    let left : List (Entry A) = drop from before in
    let pair : may_be_one x y ≡ true = and_from (seat == seat) (is_exchange first next) (eq-eqb seat seat refl) (stroke_exchange base new first next is) in
    let rest : drop from (before ++ (entries_from seat serial (first ∷ next ∷ []) ++ after)) ≡ left ++ x ∷ y ∷ after = dropped before (x ∷ y ∷ after) from le in
    let part : from + length (one_part (left ++ x ∷ y ∷ after)) ≡ length before + 1 = subst (λ (l : List (Entry A)). from + length (one_part l) ≡ length before + 1) rest ends in
    let long : length left ≡ length before - from = length-drop from before in
    no_end_between (left ++ x ∷ y ∷ after) (suc (length left)) (omega arith) (between_two left after x y (length left) refl pair) (omega (arith, part, long, le))

-- ---- a part has some entry, where there is one

deletes_alone : {A : Type 0} (edit next : Edit A) → is_exchange edit next ≡ true → inputs_of edit ≡ 0
deletes_alone (Load cart) next is = absurd (false≢true is)
deletes_alone (Insert at inputs) next is = absurd (false≢true is)
deletes_alone (Replace at inputs) next is = absurd (false≢true is)
deletes_alone (Delete at count) next is = refl

one_fits : {A : Type 0} (entry : Entry A) (entries : List (Entry A)) → inputs_of entry.edit ≤ most_inputs → inputs_in (take 1 (entry ∷ entries)) ≤ most_inputs
one_fits entry entries few = let one = inputs_more (entry ∷ entries) 0 entry (omega arith) in omega (arith, one, few)

two_fit : {A : Type 0} (entry next : Entry A) (entries : List (Entry A)) → is_exchange entry.edit next.edit ≡ true → inputs_of next.edit ≤ most_inputs → inputs_in (take 2 (entry ∷ next ∷ entries)) ≤ most_inputs
two_fit entry next entries pair few =
    let none = deletes_alone entry.edit next.edit pair in
    let one = inputs_more (entry ∷ next ∷ entries) 0 entry (omega arith) in
    let two = inputs_more (entry ∷ next ∷ entries) 1 next (omega arith) in
    omega (arith, one, two, none, few)

first_pair : {A : Type 0} (entry next : Entry A) (entries : List (Entry A)) → is_between (entry ∷ next ∷ entries) 1 ≡ true → is_exchange entry.edit next.edit ≡ true
unfolding is_between
first_pair entry next entries is = (and_parts (entry.seat == next.seat) (is_exchange entry.edit next.edit) is).1

some_part : {A : Type 0} (entries : List (Entry A)) → ((before : List (Entry A)) (entry : Entry A) (rest : List (Entry A)) → entries ≡ before ++ entry ∷ rest → inputs_of entry.edit ≤ most_inputs)
    → 0 < length entries → 0 < last_end entries most_entries
some_part [] few some = absurd (omega (arith, some))
some_part (entry ∷ []) few some =
    let can = can_end_from (entry ∷ []) 1 (omega arith) (one_fits entry [] (few [] entry [] refl)) (not_at_end (entry ∷ []) 1 (omega arith)) in
    let least = ends_no_earlier (entry ∷ []) most_entries 1 (omega arith) can in
    omega (arith, least)
some_part {A} (entry ∷ next ∷ entries) few some = elim (cases_Bool (is_between (entry ∷ next ∷ entries) 1)) [
  | inl between ↦
      let fits = two_fit entry next entries (first_pair entry next entries between) (few (entry ∷ []) next entries refl) in
      let whole : is_between (entry ∷ next ∷ entries) 2 ≡ false = false_from_ne_true (is_between (entry ∷ next ∷ entries) 2) (λ also. true≢false (sym between ∙ not_before (entry ∷ next ∷ entries) 2 also)) in
      let can = can_end_from (entry ∷ next ∷ entries) 2 (omega arith) fits whole in
      let least = ends_no_earlier (entry ∷ next ∷ entries) most_entries 2 (omega arith) can in
      omega (arith, least)
  | inr apart ↦
      let can = can_end_from (entry ∷ next ∷ entries) 1 (omega arith) (one_fits entry (next ∷ entries) (few [] entry (next ∷ entries) refl)) apart in
      let least = ends_no_earlier (entry ∷ next ∷ entries) most_entries 1 (omega arith) can in
      omega (arith, least)
]

-- an entry of a beginning of a legal history
legal_few : {A : Type 0} (history front : List (Entry A)) (from : ℕ) → IsLegal history → IsPrefix front history
    → (before : List (Entry A)) (entry : Entry A) (rest : List (Entry A)) → drop from front ≡ before ++ entry ∷ rest → inputs_of entry.edit ≤ most_inputs
legal_few {A} history front from legal begins before entry rest is =
    let whole : history ≡ (take from front ++ before) ++ entry ∷ (rest ++ begins.0) =
    sym begins.1
    ∙ ap (λ (l : List (Entry A)). l ++ begins.0) (sym (take-append-drop from front))
    ∙ ap (λ (l : List (Entry A)). (take from front ++ l) ++ begins.0) is
    ∙ simp append_assoc in
    few_put_in (movie_of (take from front ++ before)) entry.edit (few_inputs (take from front ++ before)) (legal (take from front ++ before) entry (rest ++ begins.0) whole).allowed

pub part_goes_on : {A : Type 0} (history front : List (Entry A)) (from : ℕ) → IsLegal history → IsPrefix front history → from < length front → 0 < length (one_part (drop from front))
part_goes_on {A} history front from legal begins less =
    let left = length-drop from front in
    let some = some_part (drop from front) (legal_few history front from legal begins) (omega (arith, left, less)) in
    let long = part_length (drop from front) in
    omega (arith, some, long)
