-- Parts of the history: how many entries they have.
use Rattle.std.proofs.Common.{◌≡◌, ℕ, zero, suc, ◌+◌, ◌-◌, ◌<◌, ◌≤◌, min, true, false, not, ◌&&◌, List, length, get_or, take, Option, Some, None, refl, sym, ap, subst, ◌∙◌, inl, inr, arith}
use Rattle.std.specs.Prelude.{nat_le, slice_get, ◌==◌}
use Rattle.std.proofs.lemmas.Bool.{false≢true, true≢false, and_parts, and_from, and_left, and_right, le-leb, leb-true, lt-leb, not-true, not_from_true, not_from_false, cases_Bool, cases_lt, cond-true, cond-false}
use Rattle.std.proofs.lemmas.List.{take-take}
use Rattle.std.proofs.lemmas.List.Sums.{sum_by_more, sum_by-take-le}
use Rattle.std.proofs.lemmas.Option.{slice_get_read, slice_get_past}
use Rattle.tas_movie.specs.Content.{most_inputs}
use Rattle.tas_movie.specs.declared.edit.Edit.{Edit}
use Rattle.tas_movie.specs.declared.edit.Edit.TheVariants.{Load, Insert, Replace, Delete}
use Rattle.tas_published.specs.declared.entry.Entry.{Entry}
use Rattle.tas_desk.specs.Parts.{most_entries, inputs_of, inputs_in, is_exchange, may_be_one, may_both_be_one, is_between, can_end, last_end}
use Rattle.tas_desk.specs.Inside.Parting.{HasRoom}

-- ---- how many inputs entries put in

-- one entry more
pub inputs_more : {A : Type 0} (entries : List (Entry A)) (k : ℕ) (entry : Entry A) → k < length entries → inputs_in (take (k + 1) entries) ≡ inputs_in (take k entries) + inputs_of (get_or entries k entry).edit
inputs_more {A} entries k entry lt = sum_by_more (λ (e : Entry A). inputs_of e.edit) entries k entry lt

-- fewer entries put in no more
pub inputs_fewer : {A : Type 0} (entries : List (Entry A)) (m n : ℕ) → m ≤ n → inputs_in (take m entries) ≤ inputs_in (take n entries)
inputs_fewer {A} entries m n le =
    subst (λ (l : List (Entry A)). inputs_in l ≤ inputs_in (take n entries)) (take-take m n entries le)
    (sum_by-take-le (λ (e : Entry A). inputs_of e.edit) (take n entries) m)

-- ---- ends between two edits that may be one commit's

no_insertion : {A : Type 0} (edit : Edit A) (at count : ℕ) → is_exchange edit (Delete at count) ≡ false
no_insertion (Load cart) at count = refl
no_insertion (Insert place inputs) at count = refl
no_insertion (Replace place inputs) at count = refl
no_insertion (Delete place gone) at count = refl

-- the second of two such is no deletion, so the first of no others
edits_apart : {A : Type 0} (a b c : Edit A) → is_exchange b c ≡ true → is_exchange a b ≡ false
edits_apart a (Load cart) c is = absurd (false≢true is)
edits_apart a (Insert at inputs) c is = absurd (false≢true is)
edits_apart a (Replace at inputs) c is = absurd (false≢true is)
edits_apart a (Delete at count) c is = no_insertion a at count

entries_apart : {A : Type 0} (a b c : Entry A) → may_be_one b c ≡ true → may_be_one a b ≡ false
entries_apart a b c is =
    and_right (a.seat == b.seat) (is_exchange a.edit b.edit) (edits_apart a.edit b.edit c.edit (and_parts (b.seat == c.seat) (is_exchange b.edit c.edit) is).1)

both_apart : {A : Type 0} (a b c : Option (Entry A)) → may_both_be_one b c ≡ true → may_both_be_one a b ≡ false
both_apart None b c is = refl
both_apart (Some a) None c is = refl
both_apart (Some a) (Some b) None is = absurd (false≢true is)
both_apart (Some a) (Some b) (Some c) is = entries_apart a b c is

none_after : {A : Type 0} (entry : Option (Entry A)) → may_both_be_one entry None ≡ false
none_after None = refl
none_after (Some entry) = refl

-- no end is between such two before the first entry,
pub not_at_start : {A : Type 0} (entries : List (Entry A)) (n : ℕ) → n ≡ 0 → is_between entries n ≡ false
unfolding is_between
not_at_start entries zero is = refl
not_at_start entries (suc n) is = absurd (omega (arith, is))

-- nor after the last one
pub not_at_end : {A : Type 0} (entries : List (Entry A)) (n : ℕ) → length entries ≤ n → is_between entries n ≡ false
unfolding is_between
not_at_end entries zero past = refl
not_at_end {A} entries (suc n) past =
    ap (λ (o : Option (Entry A)). may_both_be_one (slice_get entries n) o) (slice_get_past entries (suc n) past) ∙ none_after (slice_get entries n)

pub some_before : {A : Type 0} (entries : List (Entry A)) (n : ℕ) → is_between entries n ≡ true → 0 < n
unfolding is_between
some_before entries zero is = absurd (false≢true is)
some_before entries (suc n) is = omega arith

-- where it is, it isn't one entry earlier
pub not_before : {A : Type 0} (entries : List (Entry A)) (n : ℕ) → is_between entries n ≡ true → is_between entries (n - 1) ≡ false
unfolding is_between
not_before entries zero is = absurd (false≢true is)
not_before {A} entries (suc zero) is = let none : suc zero - 1 ≡ zero = omega arith in ap (λ (m : ℕ). is_between entries m) none
not_before {A} entries (suc (suc n)) is =
    let one : suc (suc n) - 1 ≡ suc n = omega arith in
    ap (λ (m : ℕ). is_between entries m) one ∙ both_apart (slice_get entries n) (slice_get entries (suc n)) (slice_get entries (suc (suc n))) is

-- what the two entries say
pub between_read : {A : Type 0} (entries : List (Entry A)) (n last : ℕ) (entry next : Entry A) → last + 1 ≡ n → n < length entries → entry ≡ get_or entries last entry → next ≡ get_or entries n next
    → is_between entries n ≡ may_be_one entry next
unfolding is_between
between_read entries zero last entry next one lt here there = absurd (omega (arith, one))
between_read {A} entries (suc n) last entry next one lt here there =
    let same : last ≡ n = omega (arith, one) in
    let first : slice_get entries n ≡ Some entry = slice_get_read entries (length entries) n entry refl (omega (arith, lt)) (here ∙ ap (λ (m : ℕ). get_or entries m entry) same) in
    let second : slice_get entries (suc n) ≡ Some next = slice_get_read entries (length entries) (suc n) next refl lt there in
    ap (λ (o : Option (Entry A)). may_both_be_one o (slice_get entries (suc n))) first ∙ ap (λ (o : Option (Entry A)). may_both_be_one (Some entry) o) second

-- ---- where a part can end

pub record CanEnd {A : Type 0} (entries : List (Entry A)) (n : ℕ) : Type 0 where
  pub there : n ≤ length entries
  pub fits : inputs_in (take n entries) ≤ most_inputs
  pub whole : is_between entries n ≡ false

pub can_end_parts : {A : Type 0} (entries : List (Entry A)) (n : ℕ) → can_end entries n ≡ true → CanEnd entries n
can_end_parts entries n is =
    let all = and_parts (nat_le n (length entries) && nat_le (inputs_in (take n entries)) most_inputs) (not (is_between entries n)) is in
    let both = and_parts (nat_le n (length entries)) (nat_le (inputs_in (take n entries)) most_inputs) all.0 in
    record {
      there = leb-true n (length entries) both.0;
      fits = leb-true (inputs_in (take n entries)) most_inputs both.1;
      whole = not-true (is_between entries n) all.1;
    }

pub can_end_from : {A : Type 0} (entries : List (Entry A)) (n : ℕ) → n ≤ length entries → inputs_in (take n entries) ≤ most_inputs → is_between entries n ≡ false → can_end entries n ≡ true
can_end_from entries n there fits whole =
    and_from (nat_le n (length entries) && nat_le (inputs_in (take n entries)) most_inputs) (not (is_between entries n))
    (and_from (nat_le n (length entries)) (nat_le (inputs_in (take n entries)) most_inputs) (le-leb n (length entries) there) (le-leb (inputs_in (take n entries)) most_inputs fits))
    (not_from_false (is_between entries n) whole)

cannot_past : {A : Type 0} (entries : List (Entry A)) (n : ℕ) → length entries < n → can_end entries n ≡ false
cannot_past entries n past =
    and_left (nat_le n (length entries) && nat_le (inputs_in (take n entries)) most_inputs) (not (is_between entries n))
    (and_left (nat_le n (length entries)) (nat_le (inputs_in (take n entries)) most_inputs) (lt-leb n (length entries) past))

cannot_full : {A : Type 0} (entries : List (Entry A)) (n : ℕ) → most_inputs < inputs_in (take n entries) → can_end entries n ≡ false
cannot_full entries n over =
    and_left (nat_le n (length entries) && nat_le (inputs_in (take n entries)) most_inputs) (not (is_between entries n))
    (and_right (nat_le n (length entries)) (nat_le (inputs_in (take n entries)) most_inputs) (lt-leb (inputs_in (take n entries)) most_inputs over))

pub cannot_between : {A : Type 0} (entries : List (Entry A)) (n : ℕ) → is_between entries n ≡ true → can_end entries n ≡ false
cannot_between entries n between =
    and_right (nat_le n (length entries) && nat_le (inputs_in (take n entries)) most_inputs) (not (is_between entries n)) (not_from_true (is_between entries n) between)

-- ---- the last such end

-- it is the greatest number at which a part can end
last_end_is : {A : Type 0} (entries : List (Entry A)) (n k : ℕ) → k ≤ n → (0 < k → can_end entries k ≡ true) → ((m : ℕ) → k < m → m ≤ n → can_end entries m ≡ false) → last_end entries n ≡ k
unfolding last_end
last_end_is entries zero k le can none = let same : k ≡ 0 = omega (arith, le) in sym same
last_end_is {A} entries (suc n) k le can none = elim (cases_lt k (suc n)) [
  | inl less ↦ cond-false (can_end entries (suc n)) (suc n) (last_end entries n) (none (suc n) less (omega arith)) ∙ last_end_is entries n k (omega (arith, less)) can (λ m more few. none m more (omega (arith, few)))
  | inr most ↦
      let same : k ≡ suc n = omega (arith, le, most) in
      cond-true (can_end entries (suc n)) (suc n) (last_end entries n) (subst (λ (m : ℕ). can_end entries m ≡ true) same (can (omega (arith, same)))) ∙ sym same
]

-- a part can end there, unless it is 0
pub ends_where_it_can : {A : Type 0} (entries : List (Entry A)) (n : ℕ) → 0 < last_end entries n → can_end entries (last_end entries n) ≡ true
unfolding last_end
ends_where_it_can entries zero some = let never : 0 < 0 = some in absurd (omega (arith, never))
ends_where_it_can {A} entries (suc n) some = elim (cases_Bool (can_end entries (suc n))) [
  | inl can ↦ subst (λ (m : ℕ). can_end entries m ≡ true) (sym (cond-true (can_end entries (suc n)) (suc n) (last_end entries n) can)) can
  | inr never ↦
      let same = cond-false (can_end entries (suc n)) (suc n) (last_end entries n) never in
      subst (λ (m : ℕ). can_end entries m ≡ true) (sym same) (ends_where_it_can entries n (subst (λ (m : ℕ). 0 < m) same some))
]

-- and it is no earlier than any at which it can
pub ends_no_earlier : {A : Type 0} (entries : List (Entry A)) (n k : ℕ) → k ≤ n → can_end entries k ≡ true → k ≤ last_end entries n
unfolding last_end
ends_no_earlier entries zero k le can = le
ends_no_earlier {A} entries (suc n) k le can = elim (cases_Bool (can_end entries (suc n))) [
  | inl here ↦ subst (λ (m : ℕ). k ≤ m) (sym (cond-true (can_end entries (suc n)) (suc n) (last_end entries n) here)) le
  | inr never ↦
      let less : k ≤ n = elim (cases_lt k (suc n)) [
        | inl lt ↦ omega (arith, lt)
        | inr ge ↦ let same : k ≡ suc n = omega (arith, le, ge) in absurd (true≢false (sym can ∙ ap (λ (m : ℕ). can_end entries m) same ∙ never))
      ] in
      subst (λ (m : ℕ). k ≤ m) (sym (cond-false (can_end entries (suc n)) (suc n) (last_end entries n) never)) (ends_no_earlier entries n k less can)
]

-- ---- what the code counts

-- one more entry would put in too much
pub room_ends : {A : Type 0} (entries : List (Entry A)) (k most room more : ℕ) (entry : Entry A) → most ≡ min (length entries) most_entries → k < most
    → inputs_in (take k entries) + room ≡ most_inputs → more ≡ inputs_of (get_or entries k entry).edit → room < more → HasRoom entries k
room_ends entries k most room more entry is lt so_far adds over =
    let next = inputs_more entries k entry (omega (arith, is, lt)) in
    record {
      there = omega (arith, is, lt);
      few = omega (arith, is, lt);
      fits = omega (arith, so_far);
      full = λ _ _. omega (arith, next, so_far, adds, over);
    }

-- all of them were counted, or as many as a part may have
pub room_fits : {A : Type 0} (entries : List (Entry A)) (k most room : ℕ) → most ≡ min (length entries) most_entries → most ≤ k → k ≤ most → inputs_in (take k entries) + room ≡ most_inputs → HasRoom entries most
room_fits {A} entries k most room is low high so_far =
    let same : k ≡ most = omega (arith, low, high) in
    let counted : inputs_in (take most entries) + room ≡ most_inputs = subst (λ (m : ℕ). inputs_in (take m entries) + room ≡ most_inputs) same so_far in
    record {
      there = omega (arith, is);
      few = omega (arith, is);
      fits = omega (arith, counted);
      full = λ left less. absurd (omega (arith, is, left, less));
    }

-- no part can end later
none_later : {A : Type 0} (entries : List (Entry A)) (n : ℕ) → HasRoom entries n → (m : ℕ) → n < m → m ≤ most_entries → can_end entries m ≡ false
none_later entries n room m more few = elim (cases_lt (length entries) m) [
  | inl past ↦ cannot_past entries m past
  | inr there ↦
      let over = room.full (omega (arith, more, there)) (omega (arith, more, few)) in
      let grows = inputs_fewer entries (n + 1) m (omega (arith, more)) in
      cannot_full entries m (omega (arith, over, grows))
]

-- the part has all that there is room for,
pub part_whole : {A : Type 0} (entries : List (Entry A)) (n : ℕ) → HasRoom entries n → is_between entries n ≡ false → last_end entries most_entries ≡ n
part_whole entries n room whole = last_end_is entries most_entries n room.few (λ _. can_end_from entries n room.there room.fits whole) (none_later entries n room)

-- or, where its end were between two edits that may be one commit's, one entry fewer
pub part_shorter : {A : Type 0} (entries : List (Entry A)) (n : ℕ) → HasRoom entries n → is_between entries n ≡ true → last_end entries most_entries ≡ n - 1
part_shorter {A} entries n room between =
    let some = some_before entries n between in
    let fits = inputs_fewer entries (n - 1) n (omega arith) in
    last_end_is entries most_entries (n - 1) (let few = room.few in omega (arith, few))
    (λ _. can_end_from entries (n - 1) (let there = room.there in omega (arith, there)) (let all = room.fits in omega (arith, all, fits)) (not_before entries n between))
    (λ m more few. elim (cases_lt n m) [
      | inl later ↦ none_later entries n room m later few
      | inr here ↦ let same : n ≡ m = omega (arith, some, more, here) in cannot_between entries m (subst (λ (k : ℕ). is_between entries k ≡ true) same between)
    ])
