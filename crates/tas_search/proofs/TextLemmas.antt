-- Words and lines of texts.
use Rattle.std.proofs.Common.{◌≡◌, ℕ, ◌+◌, ◌^◌, ◌<◌, ◌≤◌, ◌&&◌, Bool, true, false, eqb, List, [], ◌∷◌, ◌++◌, length, map, Option, Some, None, refl, sym, ap, subst, ◌∙◌, arith, append_assoc}
use Rattle.std.specs.Prelude.{decimal, nat_lt, codes, if◌then◌else◌}
use Rattle.std.specs.List.{flat_map}
use Rattle.std.specs.Str.{bytes_eq}
use Rattle.std.specs.Str.Parse.{digits_value}
use Rattle.std.proofs.lemmas.Bool.{ne_eqb, lt-ltb, ltb-true}
use Rattle.std.proofs.lemmas.Fmt.{decimal_is_IsNumeral}
use Rattle.std.proofs.lemmas.List.{append-nil, length-append}
use Rattle.std.proofs.lemmas.Slice.Eq.{bytes_eq-Decides}
use Rattle.byte_text.specs.Splitting.{NoByte}
use Rattle.byte_text.proofs.SplitLemmas.{same_front, no_parts}
use Rattle.tas_engines.specs.Names.{Names}
use Rattle.tas_engines.proofs.NameLemmas.{flat_map_push}
use Rattle.tas_search.specs.declared.word.Word.{Word}
use Rattle.tas_search.specs.Words.{number_of, word_of, push_byte, parts, words_in}
use Rattle.tas_search.specs.declared.goal.GoalKind.{GoalKind}
use Rattle.tas_search.specs.declared.goal.GoalKind.TheVariants.{Reach, Most, Least}
use Rattle.tas_search.specs.GoalText.{kind_word}
use Rattle.vcs_inputs.specs.declared.input.Input.{Input}
use Rattle.tas_movie.specs.Text.{frame_text, frame_line}

-- ---- numbers

value_is : (w : List ℕ) (n : ℕ) → w ≡ decimal n → n < 2 ^ 64 → digits_value 10 w ≡ n
value_is w n is lt = ap (digits_value 10) is ∙ (decimal_is_IsNumeral n lt).1

-- what the definition makes of digits with this value
abbrev tested : List ℕ → ℕ → Option ℕ
tested w v = if bytes_eq w (decimal v) && nat_lt v 4294967296 then Some v else None

at_value : (w : List ℕ) (n : ℕ) → w ≡ decimal n → n < 2 ^ 64 → number_of w ≡ tested w n
at_value w n is lt = ap (tested w) (value_is w n is lt)

pub number_small : (w : List ℕ) (n : ℕ) → w ≡ decimal n → n < 4294967296 → number_of w ≡ Some n
number_small w n is lt =
    let same : bytes_eq w (decimal n) ≡ true = (bytes_eq-Decides w (decimal n)).1 is in
    let less : nat_lt n 4294967296 ≡ true = lt-ltb n 4294967296 lt in
    at_value w n is (omega arith) ∙ rw (same, less) refl

pub number_great : (w : List ℕ) (n : ℕ) → w ≡ decimal n → n < 2 ^ 64 → 4294967296 ≤ n → number_of w ≡ None
number_great w n is lt le =
    at_value w n is lt ∙ split (bytes_eq w (decimal n)) (nat_lt n 4294967296) refl
  where
    split : (a b : Bool) → nat_lt n 4294967296 ≡ b → (if a && b then Some n else None) ≡ None
    split false b e = refl
    split true false e = refl
    split true true e = absurd (omega (arith, ltb-true n 4294967296 e))

none_at : (w : List ℕ) (v : ℕ) → ((n : ℕ) → n < 2 ^ 64 → w ≡ decimal n → ⊥) → (a b : Bool) → bytes_eq w (decimal v) ≡ a → nat_lt v 4294967296 ≡ b → (if a && b then Some v else None) ≡ None
none_at w v none false b d e = refl
none_at w v none true false d e = refl
none_at w v none true true d e = absurd (none v (omega (arith, ltb-true v 4294967296 e)) ((bytes_eq-Decides w (decimal v)).0 d))

pub number_none : (w : List ℕ) → ((n : ℕ) → n < 2 ^ 64 → w ≡ decimal n → ⊥) → number_of w ≡ None
number_none w none = none_at w (digits_value 10 w) none (bytes_eq w (decimal (digits_value 10 w))) (nat_lt (digits_value 10 w) 4294967296) refl refl

-- ---- parts

pub parts_split : (a b : List ℕ) → NoByte 32 a → parts (a ++ 32 ∷ b) ≡ a ∷ parts b
parts_split [] b h = refl
parts_split (x ∷ a) b h =
    let no : eqb x 32 ≡ false = ne_eqb x 32 h.0 in
    rw no (ap (push_byte x) (parts_split a b h.1))

pub parts_last : (a : List ℕ) → NoByte 32 a → parts a ≡ a ∷ []
parts_last [] h = refl
parts_last (x ∷ a) h =
    let no : eqb x 32 ≡ false = ne_eqb x 32 h.0 in
    rw no (ap (push_byte x) (parts_last a h.1))

-- a word more is read
pub word_read : (names : Names) (text rest first after : List ℕ) (read more : List Word) → read ++ words_in names rest ≡ words_in names text → rest ≡ first ++ 32 ∷ after → NoByte 32 first
    → more ≡ read ++ word_of names first ∷ [] → more ++ words_in names after ≡ words_in names text
word_read names text rest first after read more before is none e =
    ap (λ (r : List Word). r ++ words_in names after) e ∙ append_assoc read (word_of names first ∷ []) (words_in names after)
    ∙ ap (λ (r : List Word). read ++ r) (sym (ap (map (word_of names)) (ap parts is ∙ parts_split first after none))) ∙ before

-- the last word is read
pub last_word : (names : Names) (text rest : List ℕ) (read more : List Word) → read ++ words_in names rest ≡ words_in names text → NoByte 32 rest → more ≡ read ++ word_of names rest ∷ [] → more ≡ words_in names text
last_word names text rest read more before none e =
    e ∙ ap (λ (r : List Word). read ++ r) (sym (ap (map (word_of names)) (parts_last rest none))) ∙ before

-- what follows a byte is shorter
pub shorter : (c : ℕ) (rest a b : List ℕ) → rest ≡ a ++ c ∷ b → length b < length rest
shorter c rest a b is = let e : length rest ≡ length (a ++ c ∷ b) = ap length is in omega (arith, e, length-append a (c ∷ b))

-- ---- lines of choices

pub frames_more : (text rest said after : List ℕ) (choices : List Input) (input : Input) → text ≡ flat_map frame_line choices ++ rest → rest ≡ said ++ 10 ∷ after → said ≡ frame_text input
    → text ≡ flat_map frame_line (choices ++ input ∷ []) ++ after
frames_more text rest said after choices input is split e =
    is ∙ ap (λ (r : List ℕ). flat_map frame_line choices ++ r) (split ∙ ap (λ (r : List ℕ). r ++ 10 ∷ after) e ∙ sym (append_assoc (frame_text input) (10 ∷ []) after))
    ∙ sym (append_assoc (flat_map frame_line choices) (frame_line input) after)
    ∙ ap (λ (r : List ℕ). r ++ after) (sym (flat_map_push frame_line choices input))

-- where nothing is left all was read
pub all_read : (text made rest : List ℕ) → text ≡ made ++ rest → length rest ≡ 0 → text ≡ made
all_read text made [] is none = is ∙ append-nil made
all_read text made (b ∷ rest) is none = absurd (omega arith)

pub no_bytes : (bytes : List ℕ) → length bytes ≡ 0 → bytes ≡ []
no_bytes [] e = refl
no_bytes (b ∷ bytes) e = absurd (omega arith)

-- ---- the first word of a goal

pub kind_free : (kind : GoalKind) → NoByte 32 (kind_word kind)
kind_free Reach = (λ e. absurd (omega arith), (λ e. absurd (omega arith), (λ e. absurd (omega arith), (λ e. absurd (omega arith), (λ e. absurd (omega arith), tt)))))
kind_free Most = (λ e. absurd (omega arith), (λ e. absurd (omega arith), (λ e. absurd (omega arith), (λ e. absurd (omega arith), tt))))
kind_free Least = (λ e. absurd (omega arith), (λ e. absurd (omega arith), (λ e. absurd (omega arith), (λ e. absurd (omega arith), (λ e. absurd (omega arith), tt)))))

pub no_kind : (text first said : List ℕ) → text ≡ first ++ 32 ∷ said → NoByte 32 first → bytes_eq first (codes "reach") ≡ false → bytes_eq first (codes "most") ≡ false → bytes_eq first (codes "least") ≡ false
    → (kind : GoalKind) (more : List ℕ) → text ≡ kind_word kind ++ 32 ∷ more → ⊥
no_kind text first said is none reach most least kind more e = by kind (same_front 32 first (kind_word kind) said more none (kind_free kind) (sym is ∙ e)).0
  where
    by : (kind : GoalKind) → first ≡ kind_word kind → ⊥
    by Reach same = let on : bytes_eq first (codes "reach") ≡ true = (bytes_eq-Decides first (codes "reach")).1 same in absurd cc
    by Most same = let on : bytes_eq first (codes "most") ≡ true = (bytes_eq-Decides first (codes "most")).1 same in absurd cc
    by Least same = let on : bytes_eq first (codes "least") ≡ true = (bytes_eq-Decides first (codes "least")).1 same in absurd cc

pub no_kind_alone : (text : List ℕ) → NoByte 32 text → (kind : GoalKind) (more : List ℕ) → text ≡ kind_word kind ++ 32 ∷ more → ⊥
no_kind_alone text none kind more e = no_parts 32 (kind_word kind) more (subst (NoByte 32) e none)
