-- Bytes say one thing at most, and one answer has one text.
use Rattle.std.proofs.Common.{◌≡◌, ℕ, zero, suc, ◌+◌, ◌*◌, ◌/◌, ◌%◌, ◌^◌, ◌<◌, ◌≤◌, true, false, List, [], ◌∷◌, ◌++◌, length, get_or, drop, refl, sym, ap, subst, ◌∙◌, inl, inr, arith, append_assoc}
use Rattle.std.specs.Prelude.{not, codes}
use Rattle.std.specs.Char.{digit_value, is_ascii_digit}
use Rattle.std.specs.List.{flat_map, list_all}
use Rattle.std.specs.Str.Parse.{AllDigits, digits_value, digits_value_after}
use Rattle.std.proofs.lemmas.Bool.{cases_lt}
use Rattle.std.proofs.lemmas.Int.Digits.{digits_value-lt}
use Rattle.std.proofs.lemmas.Str.{digit_value_digit}
use Rattle.std.proofs.lemmas.Str.Parse.{digit_from_value}
use Rattle.std.proofs.Math.Nat.{mul-div_cancel, mul-le-mul_right, pow-le-pow_right, pow-zero}
use Rattle.byte_text.specs.Digits.{hex_byte}
use Rattle.byte_text.specs.Splitting.{NoByte}
use Rattle.byte_text.proofs.SplitLemmas.{same_front}
use Rattle.tas_movie.specs.Content.{MovieContent}
use Rattle.tas_language.specs.declared.change.Change.{Change}
use Rattle.tas_language.proofs.PartLemmas.{digit_same}
use Rattle.tas_engines.specs.Names.{Names}
use Rattle.tas_engines.specs.NamesFile.{name_line, is_name_byte, is_identifier, IsNew, AreNew, AreNames}
use Rattle.tas_search.specs.declared.goal.GoalKind.{GoalKind}
use Rattle.tas_search.specs.declared.goal.GoalKind.TheVariants.{Reach, Most, Least}
use Rattle.tas_search.specs.declared.movie_search.SearchRange.{SearchRange}
use Rattle.tas_search.specs.declared.space_part.SpacePart.{SpacePart}
use Rattle.tas_search.specs.LayerLines.{state_count}
use Rattle.tas_search.specs.Logs.{LogBytes}
use Rattle.tas_search.specs.MovieSearch.{WritesFound}
use Rattle.tas_search.specs.Outcome.{Outcome, best, nothing, stopped}
use Rattle.tas_search.specs.Power.{IsDecimal}
use Rattle.tas_search.specs.Reported.{IsLastLayer, IsReported, DifferInTimes}
use Rattle.tas_search.specs.Space.{SpaceContent}
use Rattle.tas_search.specs.Verdict.{IsCounted, IsNone, IsAnswerLine, IsVerdict, count_of, part_front}
use Rattle.tas_search.proofs.NameLemmas.{identifier_of, both}

-- ---- names

not_space : (b : ℕ) → is_name_byte b ≡ true → b ≡ 32 → ⊥
not_space b h e = let bad : is_name_byte 32 ≡ true = subst (λ (n : ℕ). is_name_byte n ≡ true) e h in let worse : false ≡ true = bad in absurd cc

no_space : (w : List ℕ) → list_all is_name_byte w ≡ true → NoByte 32 w
no_space [] h = tt
no_space (b ∷ w) h = let r = both (is_name_byte b) (list_all is_name_byte w) h in (not_space b r.0, no_space w r.1)

identifier_free : (w : List ℕ) → is_identifier w ≡ true → NoByte 32 w
identifier_free [] h = tt
identifier_free (b ∷ w) h = no_space (b ∷ w) (both (not (is_ascii_digit b)) (list_all is_name_byte (b ∷ w)) h).1

name_free : (names : Names) (n : List ℕ × ℕ) → IsNew names n → NoByte 32 n.0
name_free names n h = identifier_free n.0 (identifier_of names n.0 h.is)

-- a line, and what follows it
line_parts : (n : List ℕ × ℕ) (rest : List ℕ) → name_line n ++ rest ≡ n.0 ++ 32 ∷ (hex_byte n.1 ++ 10 ∷ rest)
line_parts n rest = append_assoc (n.0 ++ 32 ∷ hex_byte n.1) (10 ∷ []) rest ∙ append_assoc n.0 (32 ∷ hex_byte n.1) (10 ∷ rest)

same_address : (x y : ℕ) (p q : List ℕ) → x < 256 → y < 256 → hex_byte x ++ p ≡ hex_byte y ++ q → (x ≡ y) × (p ≡ q)
same_address x y p q hx hy e =
    let h = digit_same (x / 16) (y / 16) (ap (λ (l : List ℕ). get_or l 0 0) e) (omega arith) (omega arith) in
    let l = digit_same (x % 16) (y % 16) (ap (λ (l : List ℕ). get_or l 1 0) e) (omega arith) (omega arith) in (
      omega (arith, h, l),
      ap (λ (r : List ℕ). drop 2 r) e,
    )

names_apart : (n : List ℕ × ℕ) (names : Names) → flat_map name_line (n ∷ names) ≡ [] → ⊥
names_apart n names e = none n.0 (hex_byte n.1 ++ 10 ∷ flat_map name_line names) (sym (line_parts n (flat_map name_line names)) ∙ e)
  where
    none : (w rest : List ℕ) → w ++ 32 ∷ rest ≡ [] → ⊥
    none [] rest e = absurd cc
    none (b ∷ w) rest e = absurd cc

names_from : (j k : Names) (a b : Names) → AreNew j a → AreNew k b → flat_map name_line a ≡ flat_map name_line b → a ≡ b
names_from j k [] [] h g e = refl
names_from j k [] (m ∷ b) h g e = absurd (names_apart m b (sym e))
names_from j k (n ∷ a) [] h g e = absurd (names_apart n a e)
names_from j k (n ∷ a) (m ∷ b) h g e =
    let front =
    same_front 32 n.0 m.0 (hex_byte n.1 ++ 10 ∷ flat_map name_line a) (hex_byte m.1 ++ 10 ∷ flat_map name_line b) (name_free j n h.0) (name_free k m g.0)
    (sym (line_parts n (flat_map name_line a)) ∙ e ∙ line_parts m (flat_map name_line b)) in
    let back = same_address n.1 m.1 (10 ∷ flat_map name_line a) (10 ∷ flat_map name_line b) h.0.high g.0.high front.1 in
    joined n.0 m.0 n.1 m.1 a b front.0 back.0 (names_from (j ++ n ∷ []) (k ++ m ∷ []) a b h.1 g.1 (ap (λ (r : List ℕ). drop 1 r) back.1))
  where
    joined : (v w : List ℕ) (x y : ℕ) (a b : Names) → v ≡ w → x ≡ y → a ≡ b → ◌≡◌ {A = Names} ((v, x) ∷ a) ((w, y) ∷ b)
    joined v w x y a b h g e = cc

pub one_names : (text : List ℕ) (a b : Names) → AreNames text a → AreNames text b → a ≡ b
one_names text a b h g = names_from [] [] a b h.new g.new (sym h.is ∙ g.is)

-- ---- the range

pub ranges : (from count hold states workers from' count' hold' states' : ℕ) (part part' : SpacePart) → from ≡ from' → count ≡ count' → hold ≡ hold' → states ≡ states' → part ≡ part'
    → ◌≡◌ {A = SearchRange} (record { from = from; count = count; hold = hold; states = states; workers = workers; part = part })
    (record { from = from'; count = count'; hold = hold'; states = states'; workers = workers; part = part' })
ranges from count hold states workers from' count' hold' states' part part' a b c d e = cc

-- a number by which another one is that many times a third
pub one_count : (a b hold frames : ℕ) → 0 < hold → a * hold ≡ frames → b * hold ≡ frames → a ≡ b
one_count a b hold frames some h g = sym (mul-div_cancel a some) ∙ ap (λ (n : ℕ). n / hold) (h ∙ sym g) ∙ mul-div_cancel b some

-- ---- numbers in decimal digits

same_digit : (x y : ℕ) → digit_value x < 10 → digit_value y < 10 → digit_value x ≡ digit_value y → x ≡ y
same_digit x y h g e =
    let a : digit_value x + 48 ≡ x = digit_value_digit x (digit_from_value x h) in
    let b : digit_value y + 48 ≡ y = digit_value_digit y (digit_from_value y g) in
    omega (arith, a, b, e)

-- as many digits after two numbers make one number only where all are the same
digits_from : (p q : ℕ) (a b : List ℕ) → AllDigits 10 a → AllDigits 10 b → length a ≡ length b → digits_value_after 10 p a ≡ digits_value_after 10 q b → (p ≡ q) × (a ≡ b)
digits_from p q [] [] h g same e = (e, refl)
digits_from p q [] (y ∷ b) h g same e = absurd (omega (arith, same))
digits_from p q (x ∷ a) [] h g same e = absurd (omega (arith, same))
digits_from p q (x ∷ a) (y ∷ b) h g same e =
    let rest = digits_from (p * 10 + digit_value x) (q * 10 + digit_value y) a b h.1 g.1 (omega (arith, same)) e in (
      omega (arith, rest.0, h.0, g.0),
      joined x y a b (same_digit x y h.0 g.0 (omega (arith, rest.0, h.0, g.0))) rest.1,
    )
  where
    joined : (x y : ℕ) (a b : List ℕ) → x ≡ y → a ≡ b → x ∷ a ≡ y ∷ b
    joined x y a b h g = cc

at_least : (n : ℕ) (ds : List ℕ) → n * 10 ^ length ds ≤ digits_value_after 10 n ds
at_least n [] = let one : 10 ^ 0 ≡ 1 = pow-zero 10 in omega (arith, ap (λ (p : ℕ). n * p) one)
at_least n (d ∷ ds) =
    let more : (n * 10 + digit_value d) * 10 ^ length ds ≤ digits_value_after 10 (n * 10 + digit_value d) ds = at_least (n * 10 + digit_value d) ds in
    let less : n * 10 * 10 ^ length ds ≤ (n * 10 + digit_value d) * 10 ^ length ds = mul-le-mul_right (10 ^ length ds) (omega arith) in
    let power : 10 ^ suc (length ds) ≡ 10 * 10 ^ length ds = omega arith in
    omega (arith, more, less, ap (λ (p : ℕ). n * p) power)

-- a number of fewer digits is less
fewer_less : (a b : List ℕ) (n : ℕ) → IsDecimal a n → IsDecimal b n → length a < length b → ⊥
fewer_less a [] n h g lt = absurd (omega (arith, lt))
fewer_less a (d ∷ ds) n h g lt =
    let some : 0 < length a = h.digits.0 in
    let first : d ≡ 48 → ⊥ = (λ e. let one = g.first e in omega (arith, one, lt, some)) in
    let is : digit_value d + 48 ≡ d = digit_value_digit d (digit_from_value d g.digits.1.0) in
    let positive : 1 ≤ digit_value d = pos (digit_value d) (λ e. first (omega (arith, is, e))) in
    let below : digits_value 10 a < 10 ^ length a = digits_value-lt 10 a h.digits.1 in
    let powers : 10 ^ length a ≤ 10 ^ length ds = pow-le-pow_right (omega arith) (omega (arith, lt)) in
    let least : (0 * 10 + digit_value d) * 10 ^ length ds ≤ digits_value_after 10 (0 * 10 + digit_value d) ds = at_least (0 * 10 + digit_value d) ds in
    let once : 1 * 10 ^ length ds ≤ (0 * 10 + digit_value d) * 10 ^ length ds = mul-le-mul_right (10 ^ length ds) (omega (arith, positive)) in
    let value : digits_value_after 10 (0 * 10 + digit_value d) ds ≡ n = g.value in
    let worth : digits_value 10 a ≡ n = h.value in
    omega (arith, below, powers, least, once, value, worth)
  where
    pos : (k : ℕ) → (k ≡ 0 → ⊥) → 1 ≤ k
    pos zero h = absurd (h refl)
    pos (suc k) h = omega arith

one_decimal : (a b : List ℕ) (n : ℕ) → IsDecimal a n → IsDecimal b n → a ≡ b
one_decimal a b n h g = (digits_from 0 0 a b h.digits.1 g.digits.1 same (h.value ∙ sym g.value)).1
  where
    same : length a ≡ length b
    same =
        elim (cases_lt (length a) (length b)) [
          | inl less ↦ absurd (fewer_less a b n h g less)
          | inr le ↦
              elim (cases_lt (length b) (length a)) [
                | inl more ↦ absurd (fewer_less b a n g h more)
                | inr ge ↦ omega (arith, le, ge)
              ]
        ]

-- ---- the verdict

one_counted : (front back : List ℕ) (n : ℕ) (a b : List ℕ) → IsCounted front n back a → IsCounted front n back b → a ≡ b
one_counted front back n a b h g = h.2 ∙ ap (λ (number : List ℕ). front ++ number ++ back) (one_decimal h.0 g.0 n h.1 g.1) ∙ sym g.2

one_none : (kind : GoalKind) (n : ℕ) (a b : List ℕ) → IsNone kind n a → IsNone kind n b → a ≡ b
one_none Reach n a b h g = one_counted (codes "none: not one of all ") (codes " sequences reaches it\n") n a b h g
one_none Most n a b h g = one_counted (codes "none: each of all ") (codes " sequences halts before its end\n") n a b h g
one_none Least n a b h g = one_counted (codes "none: each of all ") (codes " sequences halts before its end\n") n a b h g

one_line : (kind : GoalKind) (range : SearchRange) (choices : ℕ) (outcome : Outcome) (a b : List ℕ) → IsAnswerLine kind range choices outcome a → IsAnswerLine kind range choices outcome b → a ≡ b
one_line kind range choices (best ks) a b h g = one_counted (codes "best of all ") (codes " sequences\n") (count_of range choices) a b h g
one_line kind range choices nothing a b h g = one_none kind (count_of range choices) a b h g
one_line kind range choices (stopped k) a b h g = h ∙ sym g

pub one_verdict : (kind : GoalKind) (range : SearchRange) (choices : ℕ) (outcome : Outcome) (a b : List ℕ) → IsVerdict kind range choices outcome a → IsVerdict kind range choices outcome b → a ≡ b
one_verdict kind range choices outcome a b h g =
    h.2 ∙ ap (λ (line : List ℕ). part_front range.part ++ line) (one_line kind range choices outcome h.0 g.0 h.1 g.1) ∙ sym g.2

-- the number of workers is in no verdict
pub verdict_same : (kind : GoalKind) (range : SearchRange) (workers choices : ℕ) (outcome : Outcome) (text : List ℕ) → IsVerdict kind (record range { workers = workers }) choices outcome text → IsVerdict kind range choices outcome text
verdict_same kind range workers choices (best ks) text h = h
verdict_same kind range workers choices nothing text h = h
verdict_same Reach range workers choices (stopped k) text h = h
verdict_same Most range workers choices (stopped k) text h = h
verdict_same Least range workers choices (stopped k) text h = h

-- ---- the changes

pub one_change : (movie : MovieContent) (range : SearchRange) (s : SpaceContent) (outcome : Outcome) (a b : List Change) → WritesFound movie range s outcome a → WritesFound movie range s outcome b → a ≡ b
one_change movie range s (best ks) a b h g = h.0 ∙ sym g.0
one_change movie range s nothing a b h g = h ∙ sym g
one_change movie range s (stopped k) a b h g = h ∙ sym g

-- ---- the report

before_last : (s : SpaceContent) (count m n : ℕ) → IsLastLayer s count nothing m → IsLastLayer s count nothing n → ((k : ℕ) → k < n → 0 < state_count s k) → m < n → ⊥
before_last s count m n (le, inl all) g full lt = omega (arith, all, g.0, lt)
before_last s count m n (le, inr none) g full lt = let some : 0 < state_count s m = full m lt in omega (arith, none, some)

one_last : (s : SpaceContent) (count : ℕ) (outcome : Outcome) (m n : ℕ) → IsLastLayer s count outcome m → IsLastLayer s count outcome n → ((k : ℕ) → k < m → 0 < state_count s k)
    → ((k : ℕ) → k < n → 0 < state_count s k) → m ≡ n
one_last s count (best ks) m n h g full all = h ∙ sym g
one_last s count nothing m n h g full all =
    elim (cases_lt m n) [
      | inl less ↦ absurd (before_last s count m n h g all less)
      | inr le ↦
          elim (cases_lt n m) [
            | inl more ↦ absurd (before_last s count n m g h full more)
            | inr ge ↦ omega (arith, le, ge)
          ]
    ]
one_last s count (stopped k) m n h g full all = omega (arith, h, g)

pub one_report : (s : SpaceContent) (count : ℕ) (outcome : Outcome) (old new old' new' : LogBytes) → IsReported s count outcome old new → IsReported s count outcome old' new' → DifferInTimes old new old' new'
one_report s count outcome old new old' new' h g = record {
  space = s;
  times = h.times;
  times' = g.times;
  as_many = one_last s count outcome (length h.times) (length g.times) h.is_last g.is_last h.full g.full;
  logged = h.logged;
  logged' = g.logged;
}
