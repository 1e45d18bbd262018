-- Edits that make one movie of another.
use Rattle.std.proofs.Common.{◌≡◌, ◌↔◌, ℕ, suc, ◌+◌, ◌-◌, ◌<◌, ◌≤◌, Bool, cond, true, false, List, [], ◌∷◌, ◌++◌, length, get_or, take, drop, reverse, Option, Some, None, inl, inr, refl, sym, ap, subst, ◌∙◌, arith, append_assoc}
use Rattle.std.specs.Prelude.{IsTrue, ◌≢◌, ◌==◌, nat_lt, slice_get, if◌then◌else◌}
use Rattle.std.proofs.lemmas.Bool.{both_ways, eqb-true, cases_lt}
use Rattle.std.proofs.lemmas.Bool.Decides.{nat_tests}
use Rattle.std.proofs.lemmas.List.{take_more, take_at, drop_at, take-append-drop, take_rest, length-append, length-take-le, length-drop, length-reverse, reverse-append, reverse-reverse, get_or-reverse}
use Rattle.std.proofs.lemmas.Option.{get_or_from_slice_get, slice_get-get_or}
use Rattle.vcs_inputs.specs.declared.input.Input.{Input}
use Rattle.tas_movie.specs.Content.{MovieContent, most_inputs}
use Rattle.tas_movie.specs.Front.{IsCommonFront}
use Rattle.tas_movie.specs.declared.edit.Edit.{Edit}
use Rattle.tas_movie.specs.declared.edit.Edit.TheVariants.{Insert, Replace, Delete}
use Rattle.tas_movie.specs.declared.edit.EditRefusal.{EditRefusal}
use Rattle.tas_movie.specs.declared.edit.EditRefusal.TheVariants.{Place, Long}
use Rattle.tas_movie.specs.Edit.{IsAllowed, edited, edited_unless, changed, spliced, place_refusal, length_refusal, insert_refusal, first_refusal}
use Rattle.tas_published.specs.Strokes.{refusal_in, edited_by}
use Rattle.tas_seat.specs.Drafts.{inner_inputs, stroke_of, IsStroke, PutsIn, LeadsTo}
use Rattle.tas_seat.specs.Inside.Drafting.{Differ}

-- ---- the common end

pub back_more : (a b : List Input) (n i j : ℕ) (d : Input) (equal : Bool) → (IsTrue equal ↔ (get_or a i d ≡ get_or b j d)) → equal ≡ true → n < length a → n < length b → i ≡ length a - 1 - n → j ≡ length b - 1 - n
    → take n (reverse a) ≡ take n (reverse b) → take (n + 1) (reverse a) ≡ take (n + 1) (reverse b)
back_more a b n i j d equal tells on lt less at_a at_b same =
    let here : get_or (reverse a) n d ≡ get_or (reverse b) n d =
    get_or-reverse a n d lt ∙ ap (λ (k : ℕ). get_or a k d) (sym at_a) ∙ tells.0 on ∙ ap (λ (k : ℕ). get_or b k d) at_b ∙ sym (get_or-reverse b n d less) in
    take_more (reverse a) n d (rw (length-reverse a) lt) ∙ ap (λ (l : List Input). l ++ get_or (reverse a) n d ∷ []) same ∙ ap (λ (x : Input). take n (reverse b) ++ x ∷ []) here
    ∙ sym (take_more (reverse b) n d (rw (length-reverse b) less))

-- the longest one, where the inputs before it differ
pub back_ends : (a b : List Input) (n i j : ℕ) (d : Input) (equal : Bool) → (IsTrue equal ↔ (get_or a i d ≡ get_or b j d)) → equal ≡ false → n < length a → n < length b → i ≡ length a - 1 - n → j ≡ length b - 1 - n
    → take n (reverse a) ≡ take n (reverse b) → IsCommonFront (reverse a) (reverse b) n
back_ends a b n i j d equal tells off lt less at_a at_b same = record {
  within_a = omega (arith, lt, length-reverse a);
  within_b = omega (arith, less, length-reverse b);
  same = same;
  longest = λ lt' less' e.
      let lt'' : n < length (reverse a) = omega (arith, lt, length-reverse a) in
      let there : get_or (reverse b) n d ≡ get_or (reverse a) n d = get_or_from_slice_get (reverse b) n (get_or (reverse a) n d) d (sym e ∙ slice_get-get_or (reverse a) n d lt'') in
      let here : get_or a i d ≡ get_or b j d =
      ap (λ (k : ℕ). get_or a k d) at_a ∙ sym (get_or-reverse a n d lt) ∙ sym there ∙ get_or-reverse b n d less ∙ ap (λ (k : ℕ). get_or b k d) (sym at_b) in
      both_ways equal off (tells.1 here);
}

-- the whole of one list
pub back_whole : (a b : List Input) (n : ℕ) → n ≤ length a → n ≤ length b → (n < length a → n < length b → ⊥) → take n (reverse a) ≡ take n (reverse b) → IsCommonFront (reverse a) (reverse b) n
back_whole a b n le less end same = record {
  within_a = omega (arith, le, length-reverse a);
  within_b = omega (arith, less, length-reverse b);
  same = same;
  longest = λ lt' less' e. absurd (end (omega (arith, lt', length-reverse a)) (omega (arith, less', length-reverse b)));
}

reverse_drop : (xs : List Input) (n : ℕ) → n ≤ length xs → take n (reverse xs) ≡ reverse (drop (length xs - n) xs)
reverse_drop xs n le =
    let m : ℕ = length xs - n in
    let long : length (reverse (drop (length xs - n) xs)) ≡ n = omega (arith, length-reverse (drop (length xs - n) xs), length-drop (length xs - n) xs, le) in
    ap (λ (l : List Input). take n (reverse l)) (sym (take-append-drop (length xs - n) xs))
    ∙ ap (take n) (reverse-append (take (length xs - n) xs) (drop (length xs - n) xs))
    ∙ take_at (reverse (drop (length xs - n) xs)) (reverse (take (length xs - n) xs)) n long

same_end : (a b : List Input) (n : ℕ) → IsCommonFront (reverse a) (reverse b) n → drop (length a - n) a ≡ drop (length b - n) b
same_end a b n is =
    let le : n ≤ length a = omega (arith, is.within_a, length-reverse a) in
    let less : n ≤ length b = omega (arith, is.within_b, length-reverse b) in
    sym (reverse-reverse (drop (length a - n) a))
    ∙ ap reverse (sym (reverse_drop a n le) ∙ is.same ∙ reverse_drop b n less)
    ∙ reverse-reverse (drop (length b - n) b)

-- ---- the edits

pub back_within : (a b : List Input) (front back : ℕ) → IsCommonFront a b front → IsCommonFront (reverse (drop front a)) (reverse (drop front b)) back → (front + back ≤ length a) × (front + back ≤ length b)
back_within a b front back begins ends =
    let wa : back ≤ length a - front = omega (arith, ends.within_a, length-reverse (drop front a), length-drop front a) in
    let wb : back ≤ length b - front = omega (arith, ends.within_b, length-reverse (drop front b), length-drop front b) in
    (omega (arith, wa, begins.within_a), omega (arith, wb, begins.within_b))

-- a list of three parts
parts : (xs : List Input) (front m : ℕ) → xs ≡ (take front xs ++ take m (drop front xs)) ++ drop m (drop front xs)
parts xs front m =
    sym (take-append-drop front xs)
    ∙ ap (λ (l : List Input). take front xs ++ l) (sym (take-append-drop m (drop front xs)))
    ∙ sym (append_assoc (take front xs) (take m (drop front xs)) (drop m (drop front xs)))

abbrev joined : List ℕ → List Input → List Input → List Input → MovieContent
joined cart front between back = record { cart = cart; inputs = (front ++ between) ++ back }

joined_length : (front between back : List Input) → length ((front ++ between) ++ back) ≡ length front + length between + length back
joined_length front between back = omega (arith, length-append (front ++ between) back, length-append front between)

not_past : (len at end : ℕ) → end ≤ len → place_refusal len at end ≡ None
not_past len at end le = let no : nat_lt len end ≡ false = grind (arith, nat_tests) in ap (λ (b : Bool). cond b (Some (Place at len)) None) no

not_long : (len at count : ℕ) → at ≤ len → len + count ≤ most_inputs → insert_refusal len at count ≡ None
not_long len at count le few =
    let no : nat_lt most_inputs (len + count) ≡ false = grind (arith, nat_tests) in
    ap (λ (r : Option EditRefusal). first_refusal r (length_refusal len (len + count))) (not_past len at at le) ∙ ap (λ (b : Bool). cond b (Some (Long len)) None) no

spliced_is : (front between back news : List Input) → spliced (length front) (length between) news ((front ++ between) ++ back) ≡ (front ++ news) ++ back
spliced_is front between back news =
    ap (λ (l : List Input). (l ++ news) ++ drop (length front + length between) ((front ++ between) ++ back))
    (ap (take (length front)) (append_assoc front between back) ∙ take_at front (between ++ back) (length front) refl)
    ∙ ap (λ (l : List Input). (front ++ news) ++ l) (drop_at (front ++ between) back (length front + length between) (length-append front between))

-- the edit is allowed, so it is made
made_one : {A : Type 0} (movie : MovieContent) (edit : Edit A) → IsAllowed movie edit → edited movie edit ≡ changed movie edit
made_one movie edit allowed = ap (λ (r : Option EditRefusal). edited_unless r movie edit) allowed

inserted : (A : Type 0) (cart : List ℕ) (front back news : List Input) → length front + length news + length back ≤ most_inputs
    → IsAllowed {A = A} (joined cart front [] back) (Insert (length front) news) × (edited {A = A} (joined cart front [] back) (Insert (length front) news) ≡ joined cart front news back)
inserted A cart front back news few =
    let edit : Edit A = Insert (length front) news in
    let long = joined_length front [] back in
    let allowed : IsAllowed (joined cart front [] back) edit = not_long (length ((front ++ []) ++ back)) (length front) (length news) (omega (arith, long)) (omega (arith, long, few)) in
    (allowed, made_one (joined cart front [] back) edit allowed ∙ ap (λ (l : List Input). let m : MovieContent = record { cart = cart; inputs = l } in m) (spliced_is front [] back news))

deleted : (A : Type 0) (cart : List ℕ) (front olds back : List Input)
    → IsAllowed {A = A} (joined cart front olds back) (Delete (length front) (length olds)) × (edited {A = A} (joined cart front olds back) (Delete (length front) (length olds)) ≡ joined cart front [] back)
deleted A cart front olds back =
    let edit : Edit A = Delete (length front) (length olds) in
    let long = joined_length front olds back in
    let allowed : IsAllowed (joined cart front olds back) edit = not_past (length ((front ++ olds) ++ back)) (length front) (length front + length olds) (omega (arith, long)) in
    (allowed, made_one (joined cart front olds back) edit allowed ∙ ap (λ (l : List Input). let m : MovieContent = record { cart = cart; inputs = l } in m) (spliced_is front olds back []))

replaced : (A : Type 0) (cart : List ℕ) (front olds back news : List Input) → length olds ≡ length news
    → IsAllowed {A = A} (joined cart front olds back) (Replace (length front) news) × (edited {A = A} (joined cart front olds back) (Replace (length front) news) ≡ joined cart front news back)
replaced A cart front olds back news same =
    let edit : Edit A = Replace (length front) news in
    let long = joined_length front olds back in
    let allowed : IsAllowed (joined cart front olds back) edit = not_past (length ((front ++ olds) ++ back)) (length front) (length front + length news) (omega (arith, long, same)) in (
      allowed,
      made_one (joined cart front olds back) edit allowed
          ∙ ap (λ (n : ℕ). let m : MovieContent = record { cart = cart; inputs = spliced (length front) n news ((front ++ olds) ++ back) } in m) (sym same)
          ∙ ap (λ (l : List Input). let m : MovieContent = record { cart = cart; inputs = l } in m) (spliced_is front olds back news),
    )

one_edit : {A : Type 0} (movie last : MovieContent) (edit : Edit A) → IsAllowed movie edit × (edited movie edit ≡ last) → LeadsTo movie (edit ∷ []) last
one_edit movie last edit is = (is.0, sym is.1)

two_edits : {A : Type 0} (movie mid last : MovieContent) (edit next : Edit A) → IsAllowed movie edit × (edited movie edit ≡ mid) → IsAllowed mid next × (edited mid next ≡ last) → LeadsTo movie (edit ∷ next ∷ []) last
two_edits {A} movie mid last edit next is more =
    (is.0, subst (λ (m : MovieContent). IsAllowed m next × (last ≡ edited m next)) (sym is.1) (more.0, sym more.1))

stroke_leads : (A : Type 0) (cart : List ℕ) (front back olds news : List Input) → length front + length news + length back ≤ most_inputs
    → LeadsTo (joined cart front olds back) (stroke_of A (length front) olds news) (joined cart front news back)
stroke_leads A cart front back [] [] few = refl
stroke_leads A cart front back [] (new ∷ news) few =
    one_edit {A = A} (joined cart front [] back) (joined cart front (new ∷ news) back) (Insert (length front) (new ∷ news)) (inserted A cart front back (new ∷ news) few)
stroke_leads A cart front back (old ∷ olds) [] few =
    one_edit {A = A} (joined cart front (old ∷ olds) back) (joined cart front [] back) (Delete (length front) (length (old ∷ olds))) (deleted A cart front (old ∷ olds) back)
stroke_leads A cart front back (old ∷ olds) (new ∷ news) few = go (length olds == length news) refl
  where
    one : Edit A
    one = Replace (length front) (new ∷ news)

    first : Edit A
    first = Delete (length front) (length (old ∷ olds))

    second : Edit A
    second = Insert (length front) (new ∷ news)

    go : (b : Bool) → length olds == length news ≡ b → LeadsTo (joined cart front (old ∷ olds) back) (if b then one ∷ [] else first ∷ second ∷ []) (joined cart front (new ∷ news) back)
    go true e = one_edit (joined cart front (old ∷ olds) back) (joined cart front (new ∷ news) back) one (replaced A cart front (old ∷ olds) back (new ∷ news) (ap suc (eqb-true (length olds) (length news) e)))
    go false e =
        two_edits (joined cart front (old ∷ olds) back) (joined cart front [] back) (joined cart front (new ∷ news) back) first second (deleted A cart front (old ∷ olds) back) (inserted A cart front back (new ∷ news) few)

-- edits by where two movies differ make the one of the other
pub leads : (A : Type 0) (base new : MovieContent) (front back : ℕ) → new.cart ≡ base.cart → length new.inputs ≤ most_inputs → IsCommonFront base.inputs new.inputs front
    → IsCommonFront (reverse (drop front base.inputs)) (reverse (drop front new.inputs)) back
    → LeadsTo base (stroke_of A front (inner_inputs front back base.inputs) (inner_inputs front back new.inputs)) new
leads A base new front back cart few begins ends =
    let a : List Input = base.inputs in
    let b : List Input = new.inputs in
    let within = back_within a b front back begins ends in
    let head : List Input = take front a in
    let olds : List Input = inner_inputs front back a in
    let news : List Input = inner_inputs front back b in
    let tail : List Input = drop (length a - front - back) (drop front a) in
    let tail' : List Input = drop (length b - front - back) (drop front b) in
    let ends_same : tail ≡ tail' =
    ap (λ (n : ℕ). drop (n - back) (drop front a)) (sym (length-drop front a)) ∙ same_end (drop front a) (drop front b) back ends ∙ ap (λ (n : ℕ). drop (n - back) (drop front b)) (length-drop front b) in
    let base_is : a ≡ (head ++ olds) ++ tail = parts a front (length a - front - back) in
    let new_is : b ≡ (head ++ news) ++ tail =
    parts b front (length b - front - back) ∙ ap (λ (l : List Input). (l ++ news) ++ tail') (sym begins.same) ∙ ap (λ (l : List Input). (head ++ news) ++ l) (sym ends_same) in
    let at : length head ≡ front = length-take-le front a begins.within_a in
    let few' : length head + length news + length tail ≤ most_inputs = omega (arith, joined_length head news tail, ap length new_is, few) in
    let said = stroke_leads A base.cart head tail olds news few' in
    let here : LeadsTo (joined base.cart head olds tail) (stroke_of A front olds news) (joined base.cart head news tail) =
    subst (λ (n : ℕ). LeadsTo (joined base.cart head olds tail) (stroke_of A n olds news) (joined base.cart head news tail)) at said in
    let from : LeadsTo base (stroke_of A front olds news) (joined base.cart head news tail) =
    subst (λ (l : List Input). LeadsTo (let m : MovieContent = record { cart = base.cart; inputs = l } in m) (stroke_of A front olds news) (joined base.cart head news tail)) (sym base_is) here in
    let last : joined base.cart head news tail ≡ new =
    ap (λ (l : List Input). let m : MovieContent = record { cart = base.cart; inputs = l } in m) (sym new_is) ∙ ap (λ (c : List ℕ). let m : MovieContent = record { cart = c; inputs = new.inputs } in m) (sym cart) in
    subst (λ (m : MovieContent). LeadsTo base (stroke_of A front olds news) m) last from

-- ---- of what was computed

-- the part of a slice between two places
abbrev slice_part : ℕ → ℕ → List Input → List Input
slice_part from to xs = take (to - from) (drop from xs)

-- the common end of the rests
abbrev HasEnd : List Input → List Input → ℕ → ℕ → Type 0
HasEnd a b front back = IsCommonFront (reverse (slice_part front (length a) a)) (reverse (slice_part front (length b) b)) back

rest_end : (a b : List Input) (front back : ℕ) → HasEnd a b front back → IsCommonFront (reverse (drop front a)) (reverse (drop front b)) back
rest_end a b front back ends =
    subst (λ (l : List Input). IsCommonFront (reverse (drop front a)) (reverse l) back) (take_rest b front)
    (subst (λ (l : List Input). IsCommonFront (reverse l) (reverse (slice_part front (length b) b)) back) (take_rest a front) ends)

inner_part : (xs : List Input) (front back : ℕ) → slice_part front (length xs - back) xs ≡ inner_inputs front back xs
inner_part xs front back = let same : length xs - back - front ≡ length xs - front - back = omega arith in ap (λ (n : ℕ). take n (drop front xs)) same

-- where two movies differ, of what was computed
pub differ : (base new : MovieContent) (a b : List Input) (front back : ℕ) → a ≡ base.inputs → b ≡ new.inputs → IsCommonFront a b front → HasEnd a b front back
    → Differ base new front (slice_part front (length a - back) a) (slice_part front (length b - back) b)
differ base new a b front back old now begins ends = record {
  back = back;
  begins = rw (← old, ← now) begins;
  ends = rw (← old, ← now) (rest_end a b front back ends);
  olds_are = rw (← old) (inner_part a front back);
  news_are = rw (← now) (inner_part b front back);
}

-- something is put in where the new movie has inputs between
pub differ_puts_in : (base new : MovieContent) (front : ℕ) (olds news : List Input) → Differ base new front olds news → 0 < length news → PutsIn base new
differ_puts_in base new front olds news d some = record {
  front = front;
  back = d.back;
  begins = d.begins;
  ends = d.ends;
  some = subst (λ (l : List Input). 0 < length l) d.news_are some;
}

-- where something is put in the two aren't the same
pub puts_in_apart : (base new : MovieContent) → PutsIn base new → new ≢ base
puts_in_apart base new puts = λ same.
    let inputs : new.inputs ≡ base.inputs = ap (λ (m : MovieContent). m.inputs) same in
    let long : length new.inputs ≡ length base.inputs = ap (λ (l : List Input). length l) inputs in
    let past : length new.inputs ≤ puts.front = elim (cases_lt puts.front (length new.inputs)) [
      | inl h ↦ absurd (puts.begins.longest (omega (arith, h, long)) h (ap (λ (l : List Input). slice_get l puts.front) (sym inputs)))
      | inr h ↦ h
    ] in
    let none : length new.inputs - puts.front - puts.back ≡ 0 = omega (arith, past) in
    let news_none : length (inner_inputs puts.front puts.back new.inputs) ≡ 0 = ap (λ (n : ℕ). length (take n (drop puts.front new.inputs))) none in
    absurd (omega (arith, puts.some, news_none))

-- the edits that they come to
pub differ_stroke : (A : Type 0) (base new : MovieContent) (front : ℕ) (olds news : List Input) (edits : List (Edit A)) → Differ base new front olds news → edits ≡ stroke_of A front olds news → IsStroke base new edits
differ_stroke A base new front olds news edits d is = record {
  front = front;
  back = d.back;
  begins = d.begins;
  ends = d.ends;
  edits_are = is ∙ ap (λ (l : List Input). stroke_of A front l news) d.olds_are ∙ ap (stroke_of A front (inner_inputs front d.back base.inputs)) d.news_are;
}

pub differ_leads : (A : Type 0) (base new : MovieContent) (front : ℕ) (olds news : List Input) (edits : List (Edit A)) → new.cart ≡ base.cart → length new.inputs ≤ most_inputs → Differ base new front olds news → edits ≡ stroke_of A front olds news
    → LeadsTo base edits new
differ_leads A base new front olds news edits cart few d is =
    let made : edits ≡ stroke_of A front (inner_inputs front d.back base.inputs) (inner_inputs front d.back new.inputs) =
    is ∙ ap (λ (l : List Input). stroke_of A front l news) d.olds_are ∙ ap (stroke_of A front (inner_inputs front d.back base.inputs)) d.news_are in
    subst (λ (l : List (Edit A)). LeadsTo base l new) (sym made) (leads A base new front d.back cart few d.begins d.ends)

-- edits that lead to a movie are refused nowhere, and make it
pub leads_in : {A : Type 0} (movie last : MovieContent) (edits : List (Edit A)) → LeadsTo movie edits last → (refusal_in movie edits ≡ None) × (edited_by movie edits ≡ last)
leads_in movie last [] is = (refl, sym is)
leads_in movie last (edit ∷ edits) is =
    let more = leads_in (edited movie edit) last edits is.1 in
    (ap (λ (r : Option EditRefusal). first_refusal r (refusal_in (edited movie edit) edits)) is.0 ∙ more.0, more.1)
