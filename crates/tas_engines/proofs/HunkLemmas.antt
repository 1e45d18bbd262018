-- Changes that follow other ones, and what they lead to.
use Rattle.std.proofs.Common.{◌≡◌, ℕ, ◌+◌, ◌-◌, ◌<◌, ◌≤◌, Bool, cond, eqb, List, [], ◌∷◌, ◌++◌, length, take, drop, get_or, Some, refl, sym, ap, subst, ◌∙◌, arith, append_assoc}
use Rattle.std.specs.Prelude.{replicate, slice_get}
use Rattle.std.proofs.lemmas.Bool.{ne_eqb}
use Rattle.std.proofs.lemmas.Option.{get_or_from_slice_get}
use Rattle.std.proofs.lemmas.List.{length-append, length-replicate, length-drop, length-take-le, take-append-drop, append-nil, get_or-append_right, get_or-drop}
use lib.Seq.{take-add, drop-drop}
use Rattle.vcs_inputs.specs.Input.{no_input}
use Rattle.vcs_inputs.specs.declared.input.Input.{Input}
use Rattle.tas_movie.specs.Content.{MovieContent, most_inputs}
use Rattle.tas_movie.specs.Edit.{edited, IsAllowed, spliced}
use Rattle.tas_language.specs.Commands.{HasNumbers}
use Rattle.tas_language.specs.declared.change.Change.{Change}
use Rattle.tas_language.specs.declared.change.Change.TheVariants.{Insert, Replace, Delete}
use Rattle.tas_engines.specs.Changes.{HaveNumbers, edit_of, changed_by, AreAllowed}
use Rattle.tas_engines.specs.Differences.{taken_out, put_in, place_of, end_of, count_of, AreInOrder, put_in_from, DeletionsDiffer, AreWithin, ChangesItsEnds, ChangeTheirEnds}
use Rattle.tas_engines.specs.Hunks.{halfway, Leads, IsBridged}
use Rattle.tas_language.proofs.MadeLemmas.{movie_of, cut, insert_allowed, replace_allowed, delete_allowed, made_insert, made_replace, made_delete}

-- ---- some changes, and others after them

changed_join : (movie : MovieContent) (xs ys : List Change) → changed_by movie (xs ++ ys) ≡ changed_by (changed_by movie xs) ys
unfolding changed_by
changed_join movie [] ys = refl
changed_join movie (c ∷ xs) ys = changed_join (edited movie (edit_of c)) xs ys

allowed_join : (movie : MovieContent) (xs ys : List Change) → AreAllowed movie xs → AreAllowed (changed_by movie xs) ys → AreAllowed movie (xs ++ ys)
unfolding changed_by AreAllowed
allowed_join movie [] ys l r = r
allowed_join movie (c ∷ xs) ys l r = (l.0, allowed_join (edited movie (edit_of c)) xs ys l.1 r)

ends_join : (movie : MovieContent) (xs ys : List Change) → ChangeTheirEnds movie xs → ChangeTheirEnds (changed_by movie xs) ys → ChangeTheirEnds movie (xs ++ ys)
unfolding changed_by ChangeTheirEnds
ends_join movie [] ys l r = r
ends_join movie (c ∷ xs) ys l r = (l.0, ends_join (edited movie (edit_of c)) xs ys l.1 r)

numbers_join : (xs ys : List Change) → HaveNumbers xs → HaveNumbers ys → HaveNumbers (xs ++ ys)
unfolding HaveNumbers
numbers_join [] ys l r = r
numbers_join (c ∷ xs) ys l r = (l.0, numbers_join xs ys l.1 r)

out_join : (xs ys : List Change) → taken_out (xs ++ ys) ≡ taken_out xs + taken_out ys
unfolding taken_out
out_join [] ys = omega arith
out_join (Insert at n input ∷ xs) ys = out_join xs ys
out_join (Replace at n input ∷ xs) ys = let more = out_join xs ys in omega (arith, more)
out_join (Delete at n ∷ xs) ys = let more = out_join xs ys in omega (arith, more)

in_join : (xs ys : List Change) → put_in (xs ++ ys) ≡ put_in xs + put_in ys
unfolding put_in
in_join [] ys = omega arith
in_join (Insert at n input ∷ xs) ys = let more = in_join xs ys in omega (arith, more)
in_join (Replace at n input ∷ xs) ys = let more = in_join xs ys in omega (arith, more)
in_join (Delete at n ∷ xs) ys = in_join xs ys

within_join : (from to : ℕ) (xs ys : List Change) → AreWithin from to xs → AreWithin from to ys → AreWithin from to (xs ++ ys)
unfolding AreWithin
within_join from to [] ys l r = r
within_join from to (c ∷ xs) ys l r = (l.0, l.1, within_join from to xs ys l.2 r)

pub within_wider : (from from' to to' : ℕ) (xs : List Change) → from' ≤ from → to ≤ to' → AreWithin from to xs → AreWithin from' to' xs
unfolding AreWithin
within_wider from from' to to' [] low high h = tt
within_wider from from' to to' (c ∷ xs) low high h =
    (omega (arith, low, h.0), omega (arith, high, h.1), within_wider from from' to to' xs low high h.2)

-- ---- in order, where the others begin further on

order_join : (from to from' to' : ℕ) (xs ys : List Change) → to ≤ from' → AreWithin from to xs → AreWithin from' to' ys → AreInOrder xs → AreInOrder ys → AreInOrder (xs ++ ys)
unfolding AreWithin AreInOrder
order_join from to from' to' [] ys le w v l r = r
order_join from to from' to' (x ∷ []) [] le w v l r = l
order_join from to from' to' (x ∷ []) (y ∷ ys) le w v l r =
    (l, record { later = omega (arith, w.1, v.0, le); touching = λ e. absurd (omega (arith, w.1, v.0, le, e)) }, r)
order_join from to from' to' (x ∷ z ∷ xs) ys le w v l r = (l.0, l.1, order_join from to from' to' (z ∷ xs) ys le w.2 v l.2 r)

none_from : (place from to : ℕ) (ys : List Change) → place < from → AreWithin from to ys → put_in_from place ys ≡ 0
unfolding AreWithin put_in_from
none_from place from to [] lt w = refl
none_from place from to (Insert at n input ∷ ys) lt w =
    ap (λ (b : Bool). cond b (n + put_in_from (at + n) ys) 0) (ne_eqb place at (λ e. omega (arith, e, w.0, lt)))
none_from place from to (Replace at n input ∷ ys) lt w = refl
none_from place from to (Delete at n ∷ ys) lt w = refl

in_from_join : (place from to from' to' : ℕ) (xs ys : List Change) → place < to → to ≤ from' → AreWithin from to xs → AreWithin from' to' ys → put_in_from place (xs ++ ys) ≡ put_in_from place xs
unfolding AreWithin put_in_from
in_from_join place from to from' to' [] ys lt le w v = none_from place from' to' ys (omega (arith, lt, le)) v
in_from_join place from to from' to' (Insert at n input ∷ xs) ys lt le w v =
    ap (λ (k : ℕ). cond (eqb place at) (n + k) 0) (in_from_join (at + n) from to from' to' xs ys w.1 le w.2 v)
in_from_join place from to from' to' (Replace at n input ∷ xs) ys lt le w v = refl
in_from_join place from to from' to' (Delete at n ∷ xs) ys lt le w v = refl

deletions_join : (from to from' to' : ℕ) (xs ys : List Change) → to ≤ from' → AreWithin from to xs → AreWithin from' to' ys → DeletionsDiffer xs → DeletionsDiffer ys → DeletionsDiffer (xs ++ ys)
unfolding AreWithin DeletionsDiffer
deletions_join from to from' to' [] ys le w v l r = r
deletions_join from to from' to' (Insert at n input ∷ xs) ys le w v l r = deletions_join from to from' to' xs ys le w.2 v l r
deletions_join from to from' to' (Replace at n input ∷ xs) ys le w v l r = deletions_join from to from' to' xs ys le w.2 v l r
deletions_join from to from' to' (Delete at n ∷ xs) ys le w v l r =
    (λ e. l.0 (sym (in_from_join at from to from' to' xs ys w.1 le w.2 v) ∙ e), deletions_join from to from' to' xs ys le w.2 v l.1 r)

-- ---- what no changes, and one of them, lead to

pub led_nowhere : (old new : List Input) (a b to : ℕ) → Leads old new a b a b to []
unfolding changed_by AreAllowed taken_out put_in AreWithin AreInOrder DeletionsDiffer ChangeTheirEnds HaveNumbers
led_nowhere old new a b to = record {
  old_forward = omega arith;
  new_forward = omega arith;
  allowed = λ cart. tt;
  made = λ cart. refl;
  out = omega arith;
  into = omega arith;
  within = tt;
  order = tt;
  deletions = tt;
  ends = λ cart. tt;
  numbers = tt;
}

-- what one change must be
record LeadsAlone (old new : List Input) (a b a' b' to : ℕ) (change : Change) : Type 0 where
  pub old_forward : a ≤ a'
  pub new_forward : b ≤ b'
  pub allowed : (cart : List ℕ) → IsAllowed (halfway cart old new a b) (edit_of change)
  pub made : (cart : List ℕ) → edited (halfway cart old new a b) (edit_of change) ≡ halfway cart old new a' b'
  pub out : a + taken_out (change ∷ []) ≤ a'
  pub into : b + put_in (change ∷ []) ≤ b'
  pub begins : b ≤ place_of change
  pub within : end_of change < to
  pub some : 1 ≤ count_of change
  pub deletions : DeletionsDiffer (change ∷ [])
  pub ends : (cart : List ℕ) → ChangesItsEnds (halfway cart old new a b) change
  pub numbers : HasNumbers change

led_alone : (old new : List Input) (a b a' b' to : ℕ) (change : Change) → LeadsAlone old new a b a' b' to change → Leads old new a b a' b' to (change ∷ [])
unfolding changed_by AreAllowed AreWithin AreInOrder ChangeTheirEnds HaveNumbers
led_alone old new a b a' b' to change l = record {
  old_forward = l.old_forward;
  new_forward = l.new_forward;
  allowed = λ cart. (l.allowed cart, tt);
  made = l.made;
  out = l.out;
  into = l.into;
  within = (l.begins, l.within, tt);
  order = l.some;
  deletions = l.deletions;
  ends = λ cart. (l.ends cart, tt);
  numbers = (l.numbers, tt);
}

-- ---- one step after the other

pub led_on : (old new : List Input) (a b a1 b1 a2 b2 to to' : ℕ) (xs ys : List Change) → Leads old new a b a1 b1 to xs → Leads old new a1 b1 a2 b2 to' ys → to ≤ to'
    → AreInOrder (xs ++ ys) → DeletionsDiffer (xs ++ ys) → Leads old new a b a2 b2 to' (xs ++ ys)
led_on old new a b a1 b1 a2 b2 to to' xs ys l r le order deletions =
    let fb = l.new_forward in
    record {
      old_forward = omega (arith, l.old_forward, r.old_forward);
      new_forward = omega (arith, fb, r.new_forward);
      allowed = λ cart. allowed_join (halfway cart old new a b) xs ys (l.allowed cart) (subst (λ (m : MovieContent). AreAllowed m ys) (sym (l.made cart)) (r.allowed cart));
      made = λ cart. changed_join (halfway cart old new a b) xs ys ∙ ap (λ (m : MovieContent). changed_by m ys) (l.made cart) ∙ r.made cart;
      out = omega (arith, out_join xs ys, l.out, r.out);
      into = omega (arith, in_join xs ys, l.into, r.into);
      within = within_join b to' xs ys (within_wider b b to to' xs (omega arith) le l.within) (within_wider b1 b to' to' ys fb (omega arith) r.within);
      order = order;
      deletions = deletions;
      ends = λ cart. ends_join (halfway cart old new a b) xs ys (l.ends cart) (subst (λ (m : MovieContent). ChangeTheirEnds m ys) (sym (l.made cart)) (r.ends cart));
      numbers = numbers_join xs ys l.numbers r.numbers;
    }

-- where the others begin further on
pub led_further : (old new : List Input) (a b a1 b1 a2 b2 to to' : ℕ) (xs ys : List Change) → Leads old new a b a1 b1 to xs → Leads old new a1 b1 a2 b2 to' ys → to ≤ b1 → to ≤ to'
    → Leads old new a b a2 b2 to' (xs ++ ys)
led_further old new a b a1 b1 a2 b2 to to' xs ys l r before le =
    led_on old new a b a1 b1 a2 b2 to to' xs ys l r le (order_join b to b1 to' xs ys before l.within r.within l.order r.order)
    (deletions_join b to b1 to' xs ys before l.within r.within l.deletions r.deletions)

-- inputs that are the same in both lists lead further
halfway_further : (old new : List Input) (a b n : ℕ) → take n (drop a old) ≡ take n (drop b new) → take b new ++ drop a old ≡ take (b + n) new ++ drop (a + n) old
halfway_further old new a b n same =
    ap (λ (l : List Input). take b new ++ l) (sym (take-append-drop n (drop a old)) ∙ ap (λ (l : List Input). l ++ drop n (drop a old)) same)
    ∙ sym (append_assoc (take b new) (take n (drop b new)) (drop n (drop a old)))
    ∙ ap (λ (l : List Input). l ++ drop n (drop a old)) (sym (take-add b n new))
    ∙ ap (λ (l : List Input). take (b + n) new ++ l) (drop-drop n a old)

pub led_same : (old new : List Input) (a b a1 b1 n to : ℕ) (xs : List Change) → Leads old new a b a1 b1 to xs → take n (drop a1 old) ≡ take n (drop b1 new)
    → Leads old new a b (a1 + n) (b1 + n) to xs
led_same old new a b a1 b1 n to xs l same =
    record {
      old_forward = omega (arith, l.old_forward);
      new_forward = omega (arith, l.new_forward);
      allowed = l.allowed;
      made = λ cart. l.made cart ∙ ap (movie_of cart) (halfway_further old new a1 b1 n same);
      out = omega (arith, l.out);
      into = omega (arith, l.into);
      within = l.within;
      order = l.order;
      deletions = l.deletions;
      ends = l.ends;
      numbers = l.numbers;
    }

pub led_within : (old new : List Input) (a b a1 b1 to to' : ℕ) (xs : List Change) → Leads old new a b a1 b1 to xs → to ≤ to' → Leads old new a b a1 b1 to' xs
led_within old new a b a1 b1 to to' xs l le = record {
  old_forward = l.old_forward;
  new_forward = l.new_forward;
  allowed = l.allowed;
  made = l.made;
  out = l.out;
  into = l.into;
  within = within_wider b b to to' xs (omega arith) le l.within;
  order = l.order;
  deletions = l.deletions;
  ends = l.ends;
  numbers = l.numbers;
}

-- ---- a deletion, a replacement and an insertion

length-halfway : (old new : List Input) (a b : ℕ) → b ≤ length new → length (take b new ++ drop a old) ≡ b + (length old - a)
length-halfway old new a b le = length-append (take b new) (drop a old) ∙ ap (λ (n : ℕ). n + length (drop a old)) (length-take-le b new le) ∙ ap (λ (n : ℕ). b + n) (length-drop a old)

-- n of the old inputs go, and `come` comes
spliced_halfway : (old new come : List Input) (a b n : ℕ) → b ≤ length new → spliced b n come (take b new ++ drop a old) ≡ take b new ++ come ++ drop (a + n) old
spliced_halfway old new come a b n le =
    subst (λ (j : ℕ). spliced j n come (take b new ++ drop a old) ≡ take b new ++ come ++ drop n (drop a old)) (length-take-le b new le) (cut n (take b new) come (drop a old))
    ∙ ap (λ (l : List Input). take b new ++ come ++ l) (drop-drop n a old)

spliced_run : (old new : List Input) (a b n count : ℕ) (input : Input) → b ≤ length new → take count (drop b new) ≡ replicate count input
    → spliced b n (replicate count input) (take b new ++ drop a old) ≡ take (b + count) new ++ drop (a + n) old
spliced_run old new a b n count input le run =
    spliced_halfway old new (replicate count input) a b n le
    ∙ ap (λ (l : List Input). l ++ drop (a + n) old) (sym (take-add b count new ∙ ap (λ (l : List Input). take b new ++ l) run))

pub led_by_deletion : (old new : List Input) (a b n to : ℕ) → 1 ≤ n → a + n ≤ length old → b ≤ length new → b < to → length old ≤ most_inputs → length new ≤ most_inputs
    → Leads old new a b (a + n) b to (Delete b n ∷ [])
unfolding taken_out put_in DeletionsDiffer put_in_from
led_by_deletion old new a b n to some fits le lt short short' =
    let may : (cart : List ℕ) → IsAllowed (halfway cart old new a b) (edit_of (Delete b n)) = λ cart. delete_allowed cart (take b new ++ drop a old) b n (omega (arith, length-halfway old new a b le, fits)) in
    led_alone old new a b (a + n) b to (Delete b n) (record {
      old_forward = omega arith;
      new_forward = omega arith;
      allowed = may;
      made = λ cart. made_delete cart (take b new ++ drop a old) b n (may cart) ∙ ap (movie_of cart) (spliced_halfway old new [] a b n le ∙ ap (λ (l : List Input). l ++ drop (a + n) old) (append-nil (take b new)));
      out = omega arith;
      into = omega arith;
      begins = omega arith;
      within = lt;
      some = some;
      deletions = (λ e. omega (arith, e, some), tt);
      ends = λ cart. tt;
      numbers = (omega (arith, le, short'), omega (arith, fits, short));
    })

halfway_at : (old new : List Input) (a b i : ℕ) → b ≤ length new → b ≤ i → get_or (take b new ++ drop a old) i no_input ≡ get_or old (a + (i - b)) no_input
halfway_at old new a b i le from =
    get_or-append_right (take b new) (drop a old) b i no_input (length-take-le b new le) from ∙ get_or-drop a old (i - b) no_input

differs_at : (old new : List Input) (a b i j : ℕ) (input : Input) → b ≤ length new → b ≤ i → a + (i - b) ≡ j → (get_or old j no_input ≡ input → ⊥) → slice_get (take b new ++ drop a old) i ≡ Some input → ⊥
differs_at old new a b i j input le from is ne e =
    ne (ap (λ (k : ℕ). get_or old k no_input) (sym is) ∙ sym (halfway_at old new a b i le from) ∙ get_or_from_slice_get (take b new ++ drop a old) i input no_input e)

pub led_by_replacement : (old new : List Input) (a b n to : ℕ) (input : Input) → 1 ≤ n → a + n ≤ length old → b + n ≤ length new → b + n < to → length old ≤ most_inputs → length new ≤ most_inputs
    → take n (drop b new) ≡ replicate n input → (get_or old a no_input ≡ input → ⊥) → (get_or old (a + (n - 1)) no_input ≡ input → ⊥)
    → IsBridged old a n input → Leads old new a b (a + n) (b + n) to (Replace b n input ∷ [])
unfolding taken_out put_in DeletionsDiffer
led_by_replacement old new a b n to input some fits fits' lt short short' run first last bridged =
    let le : b ≤ length new = omega (arith, fits') in
    let may : (cart : List ℕ) → IsAllowed (halfway cart old new a b) (edit_of (Replace b n input)) = λ cart. replace_allowed cart (take b new ++ drop a old) b n input (omega (arith, length-halfway old new a b le, fits)) in
    led_alone old new a b (a + n) (b + n) to (Replace b n input) (record {
      old_forward = omega arith;
      new_forward = omega arith;
      allowed = may;
      made = λ cart. made_replace cart (take b new ++ drop a old) b n input (may cart)
          ∙ ap (λ (k : ℕ). movie_of cart (spliced b k (replicate n input) (take b new ++ drop a old))) (length-replicate n input)
          ∙ ap (movie_of cart) (spliced_run old new a b n n input le run);
      out = omega arith;
      into = omega arith;
      begins = omega arith;
      within = lt;
      some = some;
      deletions = tt;
      ends = λ cart. (
        differs_at old new a b b a input le (omega arith) (omega arith) first,
        differs_at old new a b (b + n - 1) (a + (n - 1)) input le (omega (arith, some)) (omega (arith, some)) last,
        λ i from far.
            let at = bridged (i - b) (omega (arith, from, far)) in
            (b + at.0, omega (arith, from, at.1), omega (arith, from, at.2), differs_at old new a b (b + at.0) (a + at.0) input le (omega arith) (omega arith) at.3),
      );
      numbers = (omega (arith, fits', short'), omega (arith, fits, short));
    })

pub led_by_insertion : (old new : List Input) (a b n to : ℕ) (input : Input) → 1 ≤ n → b + n ≤ length new → b + n < to → length new ≤ most_inputs → b + n + (length old - a) ≤ most_inputs
    → take n (drop b new) ≡ replicate n input → Leads old new a b a (b + n) to (Insert b n input ∷ [])
unfolding taken_out put_in DeletionsDiffer
led_by_insertion old new a b n to input some fits lt short room run =
    let le : b ≤ length new = omega (arith, fits) in
    let len = length-halfway old new a b le in
    let may : (cart : List ℕ) → IsAllowed (halfway cart old new a b) (edit_of (Insert b n input)) = λ cart. insert_allowed cart (take b new ++ drop a old) b n input (omega (arith, len)) (omega (arith, len, room)) in
    let stays : a + 0 ≡ a = omega arith in
    led_alone old new a b a (b + n) to (Insert b n input) (record {
      old_forward = omega arith;
      new_forward = omega arith;
      allowed = may;
      made = λ cart. made_insert cart (take b new ++ drop a old) b n input (may cart)
          ∙ ap (movie_of cart) (spliced_run old new a b 0 n input le run ∙ ap (λ (k : ℕ). take (b + n) new ++ drop k old) stays);
      out = omega arith;
      into = omega arith;
      begins = omega arith;
      within = lt;
      some = some;
      deletions = tt;
      ends = λ cart. tt;
      numbers = (omega (arith, le, short), omega (arith, fits, short));
    })
