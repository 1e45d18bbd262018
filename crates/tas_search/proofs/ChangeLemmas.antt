-- What the changes of a sequence make of a movie, and what that plays to.
use Rattle.std.proofs.Common.{◌≡◌, ℕ, suc, ◌+◌, ◌-◌, ◌*◌, ◌<◌, ◌≤◌, Bool, true, false, List, [], ◌∷◌, ◌++◌, length, get_or, take, drop, drop-cons, add-one, map, replicate, Option, Some, None, refl, sym, ap, subst, ◌∙◌, arith, append_assoc}
use Rattle.std.specs.Prelude.{nat_lt, if◌then◌else◌, slice_index_or}
use Rattle.std.proofs.lemmas.Bool.{ltb-true, ltb-false}
use Rattle.std.proofs.lemmas.List.{append-nil, length-append, length-replicate, length-take-le, length-drop, take-append-drop, take_at, drop-drop, drop_all}
use Rattle.vcs_inputs.specs.declared.input.Input.{Input}
use Rattle.vcs_inputs.specs.Input.{no_input}
use Rattle.vcs_cpu.specs.declared.halt.Halt.{Halt}
use Rattle.vcs_machine.specs.Machine.{Machine, frame, after_from, after, power_on, unless_halted}
use Rattle.tas_movie.specs.Content.{MovieContent, most_inputs}
use Rattle.tas_movie.specs.Edit.{edited, IsAllowed, spliced}
use Rattle.tas_language.specs.declared.change.Change.{Change}
use Rattle.tas_language.specs.declared.change.Change.TheVariants.{Insert, Replace}
use Rattle.tas_language.specs.Edits.{edit_of, edited_by, AllowsAll}
use Rattle.tas_language.proofs.MadeLemmas.{movie_of, cut, insert_allowed, replace_allowed, made_insert, made_replace}
use Rattle.tas_search.specs.Space.{SpaceContent, after_choice, reached_from}
use Rattle.tas_search.specs.AnswerChanges.{inputs_of, replacing, answer_changes, IsSpaceOf, written, Writes}

-- ---- what some changes make of a movie

record Made (cart : List ℕ) (inputs : List Input) (changes : List Change) (new : List Input) : Type 0 where
  allowed : AllowsAll (movie_of cart inputs) (map edit_of changes)
  made : edited_by (movie_of cart inputs) (map edit_of changes) ≡ movie_of cart new

none_made : (cart : List ℕ) (inputs : List Input) → Made cart inputs [] inputs
unfolding edited_by AllowsAll
none_made cart inputs = record { allowed = tt; made = refl }

one_more : (cart : List ℕ) (inputs next new : List Input) (change : Change) (changes : List Change) → IsAllowed (movie_of cart inputs) (edit_of change) → edited (movie_of cart inputs) (edit_of change) ≡ movie_of cart next
    → Made cart next changes new → Made cart inputs (change ∷ changes) new
unfolding edited_by AllowsAll
one_more cart inputs next new change changes is e m = record {
  allowed = (is, subst (λ (movie : MovieContent). AllowsAll movie (map edit_of changes)) (sym e) m.allowed);
  made = ap (λ (movie : MovieContent). edited_by movie (map edit_of changes)) e ∙ m.made;
}

-- a list that is cut at this place, with others in the place of what follows
replaced_here : (cart : List ℕ) (p q : List Input) (hold : ℕ) (input : Input) → hold ≤ length q
    → edited (movie_of cart (p ++ q)) (edit_of (Replace (length p) hold input)) ≡ movie_of cart (p ++ replicate hold input ++ drop hold q)
replaced_here cart p q hold input le =
    made_replace cart (p ++ q) (length p) hold input (replace_allowed cart (p ++ q) (length p) hold input (omega (arith, length-append p q)))
    ∙ ap (λ (n : ℕ). movie_of cart (spliced (length p) n (replicate hold input) (p ++ q))) (length-replicate hold input)
    ∙ ap (movie_of cart) (cut hold p (replicate hold input) q)

-- as many inputs as the sequence's frames
pub length_inputs : (choices : List Input) (hold : ℕ) (ks : List ℕ) → length (inputs_of choices hold ks) ≡ length ks * hold
length_inputs choices hold [] = omega arith
length_inputs choices hold (k ∷ ks) =
    let one : Input = slice_index_or choices k no_input in
    let rest : length (inputs_of choices hold ks) ≡ length ks * hold = length_inputs choices hold ks in
    omega (arith, length-append (replicate hold one) (inputs_of choices hold ks), length-replicate hold one, rest)

replaced : (cart : List ℕ) (choices : List Input) (hold : ℕ) (ks : List ℕ) (p q : List Input) → length ks * hold ≤ length q
    → Made cart (p ++ q) (replacing (length p) choices hold ks) (p ++ inputs_of choices hold ks ++ drop (length ks * hold) q)
replaced cart choices hold [] p q le =
    subst (Made cart (p ++ q) []) (ap (λ (r : List Input). r ++ q) (sym (append-nil p)) ∙ ap (λ (n : ℕ). p ++ [] ++ drop n q) none) (none_made cart (p ++ q))
  where
    none : 0 ≡ 0 * hold
    none = omega arith
replaced cart choices hold (k ∷ ks) p q le =
    let one : Input = slice_index_or choices k no_input in
    let here : List Input = replicate hold one in
    let size : length (p ++ here) ≡ length p + hold = length-append p here ∙ ap (λ (n : ℕ). length p + n) (length-replicate hold one) in
    let rest = replaced cart choices hold ks (p ++ here) (drop hold q) (omega (arith, length-drop hold q)) in
    let moved : Made cart (p ++ here ++ drop hold q) (replacing (length p + hold) choices hold ks) (p ++ here ++ inputs_of choices hold ks ++ drop (length ks * hold) (drop hold q)) =
    subst (λ (n : ℕ). Made cart (p ++ here ++ drop hold q) (replacing n choices hold ks) (p ++ here ++ inputs_of choices hold ks ++ drop (length ks * hold) (drop hold q))) size rest in
    let count : hold + length ks * hold ≡ suc (length ks) * hold = omega arith in
    let ends : p ++ here ++ inputs_of choices hold ks ++ drop (length ks * hold) (drop hold q) ≡ p ++ (here ++ inputs_of choices hold ks) ++ drop (suc (length ks) * hold) q =
    ap (λ (r : List Input). r ++ drop (length ks * hold) (drop hold q)) (append_assoc p here (inputs_of choices hold ks))
    ∙ ap (λ (r : List Input). p ++ (here ++ inputs_of choices hold ks) ++ r) (drop-drop (length ks * hold) hold q ∙ ap (λ (n : ℕ). drop n q) count) in
    subst (Made cart (p ++ q) (replacing (length p) choices hold (k ∷ ks))) ends
    (one_more cart (p ++ q) (p ++ here ++ drop hold q) (p ++ here ++ inputs_of choices hold ks ++ drop (length ks * hold) (drop hold q)) (Replace (length p) hold one) (replacing (length p + hold) choices hold ks)
    (replace_allowed cart (p ++ q) (length p) hold one (omega (arith, length-append p q))) (replaced_here cart p q hold one (omega arith)) moved)

-- the last inputs are put in where the movie is too short
filled_here : (cart : List ℕ) (xs : List Input) (count : ℕ) → length xs + count ≤ most_inputs → edited (movie_of cart xs) (edit_of (Insert (length xs) count no_input)) ≡ movie_of cart (xs ++ replicate count no_input)
filled_here cart xs count le =
    let fill : List Input = replicate count no_input in
    let whole : xs ++ [] ≡ xs = append-nil xs in
    made_insert cart xs (length xs) count no_input (insert_allowed cart xs (length xs) count no_input (omega arith) le)
    ∙ ap (λ (r : List Input). movie_of cart (spliced (length xs) 0 fill r)) (sym whole)
    ∙ ap (movie_of cart) (cut 0 xs fill [] ∙ append-nil (xs ++ fill))

answer_made : (cart : List ℕ) (xs : List Input) (choices : List Input) (hold : ℕ) (ks : List ℕ) (from : ℕ) → from ≤ length xs → from + length ks * hold ≤ most_inputs
    → Made cart xs (answer_changes (length xs) from choices hold ks) (spliced from (length ks * hold) (inputs_of choices hold ks) xs)
answer_made cart xs choices hold ks from le fits = by (nat_lt (length xs) (from + length ks * hold)) refl
  where
    size : length (take from xs) ≡ from
    size = length-take-le from xs le

    at_place : (q new : List Input) → Made cart (take from xs ++ q) (replacing (length (take from xs)) choices hold ks) new → Made cart (take from xs ++ q) (replacing from choices hold ks) new
    at_place q new m = subst (λ (n : ℕ). Made cart (take from xs ++ q) (replacing n choices hold ks) new) size m

    by : (b : Bool) → nat_lt (length xs) (from + length ks * hold) ≡ b
        → Made cart xs ((if b then Insert (length xs) (from + length ks * hold - length xs) no_input ∷ [] else []) ++ replacing from choices hold ks) (spliced from (length ks * hold) (inputs_of choices hold ks) xs)
    by false over =
        let within : from + length ks * hold ≤ length xs = ltb-false (length xs) (from + length ks * hold) over in
        let all = at_place (drop from xs) (take from xs ++ inputs_of choices hold ks ++ drop (length ks * hold) (drop from xs)) (replaced cart choices hold ks (take from xs) (drop from xs) (omega (arith, length-drop from xs, within))) in
        subst (λ (r : List Input). Made cart r (replacing from choices hold ks) (spliced from (length ks * hold) (inputs_of choices hold ks) xs)) (take-append-drop from xs)
        (subst (λ (r : List Input). Made cart (take from xs ++ drop from xs) (replacing from choices hold ks) (take from xs ++ inputs_of choices hold ks ++ r)) (drop-drop (length ks * hold) from xs) all)
    by true under =
        let short : length xs < from + length ks * hold = ltb-true (length xs) (from + length ks * hold) under in
        let count : ℕ = from + length ks * hold - length xs in
        let fill : List Input = replicate count no_input in
        let q : List Input = drop from xs ++ fill in
        let sum : length xs + count ≡ from + length ks * hold = omega (arith, short) in
        let long : length q ≡ length ks * hold = omega (arith, length-append (drop from xs) fill, length-drop from xs, length-replicate {A = Input} count no_input, sum, le) in
        let all = at_place q (take from xs ++ inputs_of choices hold ks ++ drop (length ks * hold) q) (replaced cart choices hold ks (take from xs) q (omega (arith, long))) in
        let ends : drop (length ks * hold) q ≡ drop (from + length ks * hold) xs = drop_all (length ks * hold) q (omega (arith, long)) ∙ sym (drop_all (from + length ks * hold) xs (omega (arith, short))) in
        let start : take from xs ++ q ≡ xs ++ fill = sym (append_assoc (take from xs) (drop from xs) fill) ∙ ap (λ (r : List Input). r ++ fill) (take-append-drop from xs) in
        one_more cart xs (xs ++ fill) (spliced from (length ks * hold) (inputs_of choices hold ks) xs) (Insert (length xs) count no_input) (replacing from choices hold ks)
        (insert_allowed cart xs (length xs) count no_input (omega arith) (omega (arith, sum, fits))) (filled_here cart xs count (omega (arith, sum, fits)))
        (subst (λ (r : List Input). Made cart r (replacing from choices hold ks) (spliced from (length ks * hold) (inputs_of choices hold ks) xs)) start
        (subst (λ (r : List Input). Made cart (take from xs ++ q) (replacing from choices hold ks) (take from xs ++ inputs_of choices hold ks ++ r)) ends all))

-- ---- what the sequence's inputs play to

after_both : (rom : List ℕ) (m : Machine) (a b : List Input) → after_from rom m (a ++ b) ≡ after_from rom (after_from rom m a) b
unfolding after_from
after_both rom m [] b = refl
after_both rom m (x ∷ a) b = after_both rom (frame rom m x) a b

not_halted : (h : Option Halt) (a : Option Machine) (x : Machine) → unless_halted h a None ≡ Some x → a ≡ Some x
not_halted None a x e = e
not_halted (Some halt) a x e = absurd cc

some_machine : (a b : Machine) → (let r : Option Machine = Some a in r) ≡ Some b → a ≡ b
some_machine a b e = cc

plays_from : (s : SpaceContent) (m x : Machine) (ks : List ℕ) → reached_from s m ks ≡ Some x → after_from s.cart m (inputs_of s.choices s.hold ks) ≡ x
unfolding after_from
plays_from s m x [] e = some_machine m x e
plays_from s m x (k ∷ ks) e =
    let rest : reached_from s (after_choice s m k) ks ≡ Some x = not_halted m.halt (reached_from s (after_choice s m k) ks) x e in
    after_both s.cart m (replicate s.hold (slice_index_or s.choices k no_input)) (inputs_of s.choices s.hold ks) ∙ plays_from s (after_choice s m k) x ks rest

pub writes : (movie : MovieContent) (from : ℕ) (s : SpaceContent) (ks : List ℕ) → IsSpaceOf movie from s ks → Writes movie from s ks
writes movie from s ks h =
    let played : List Input = inputs_of s.choices s.hold ks in
    let n : ℕ = from + length ks * s.hold in
    let m = answer_made movie.cart movie.inputs s.choices s.hold ks from h.within h.fits in
    let size : length (take from movie.inputs ++ played) ≡ n =
    length-append (take from movie.inputs) played ∙ ap (λ (k : ℕ). k + length played) (length-take-le from movie.inputs h.within) ∙ ap (λ (k : ℕ). from + k) (length_inputs s.choices s.hold ks) in
    let inputs : (written movie from s ks).inputs ≡ spliced from (length ks * s.hold) played movie.inputs = ap (λ (r : MovieContent). r.inputs) m.made in
    record {
      allowed = m.allowed;
      cart = ap (λ (r : MovieContent). r.cart) m.made;
      inputs = inputs;
      plays = λ x e.
          ap (λ (r : List Input). after movie.cart (take n r)) inputs
          ∙ ap (after movie.cart) (take_at (take from movie.inputs ++ played) (drop n movie.inputs) n size)
          ∙ after_both movie.cart (power_on movie.cart) (take from movie.inputs) played
          ∙ ap (λ (y : Machine). after_from movie.cart y played) (sym h.start)
          ∙ ap (λ (rom : List ℕ). after_from rom s.start played) (sym h.cart)
          ∙ plays_from s s.start x ks e;
    }

-- ---- the loop over the choices

-- one choice more is written
pub pushed_more : (choices : List Input) (hold at index : ℕ) (numbers : List ℕ) (input : Input) (changes new whole : List Change) → index < length numbers → changes ++ replacing at choices hold (drop index numbers) ≡ whole
    → input ≡ slice_index_or choices (get_or numbers index 0) no_input → new ≡ changes ++ Replace at hold input ∷ [] → new ++ replacing (at + hold) choices hold (drop (index + 1) numbers) ≡ whole
pushed_more choices hold at index numbers input changes new whole lt before same e =
    let rest : List Change = replacing (at + hold) choices hold (drop (suc index) numbers) in
    let step : drop index numbers ≡ get_or numbers index 0 ∷ drop (suc index) numbers = drop-cons numbers index 0 lt in
    let here : new ++ rest ≡ whole =
    ap (λ (r : List Change). r ++ rest) e
    ∙ append_assoc changes (Replace at hold input ∷ []) rest
    ∙ ap (λ (i : Input). changes ++ Replace at hold i ∷ rest) same
    ∙ ap (λ (ks : List ℕ). changes ++ replacing at choices hold ks) (sym step)
    ∙ before in
    subst (λ (n : ℕ). new ++ replacing (at + hold) choices hold (drop n numbers) ≡ whole) (sym (add-one index)) here

fits_more : (a b at hold total : ℕ) → a ≡ suc b → at + a * hold ≡ total → at + hold + b * hold ≡ total
fits_more a b at hold total e h =
    let one : at + suc b * hold ≡ total = subst (λ (n : ℕ). at + n * hold ≡ total) e h in
    omega (arith, one)

pub place_more : (at hold total index : ℕ) (numbers : List ℕ) → index < length numbers → at + length (drop index numbers) * hold ≡ total → at + hold + length (drop (index + 1) numbers) * hold ≡ total
place_more at hold total index numbers lt h =
    fits_more (length (drop index numbers)) (length (drop (index + 1) numbers)) at hold total (omega (arith, length-drop index numbers, length-drop (index + 1) numbers, lt)) h
