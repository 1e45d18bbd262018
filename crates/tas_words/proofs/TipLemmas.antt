-- Tips for refused words.
use Rattle.std.proofs.Common.{append_assoc, ◌≡◌, ◌==◌, ◌+◌, ◌<◌, ◌≤◌, ◌-◌, ◌++◌, ℕ, List, [], ◌∷◌, Bool, false, not, Option, Some, None, arith, codes, drop, map, get_or, length, option_map, string_bytes, take, unwrap_or, refl, sym, ap, ap₂, ◌∙◌}
use Rattle.std.proofs.lemmas.List.{drop_all, take_all}
use Rattle.std.specs.Borrow.{Bor}
use Rattle.std.specs.Prelude.{String, MatchOption, if◌then◌else◌}
use Rattle.std.specs.List.{after_first, before_first, position_or_len}
use Rattle.std.proofs.Math.Dec.{eqb-suc-zero}
use Rattle.clap.specs.Walk.{Text}
use Rattle.tas_words.specs.Guides.{guide_named, has_stray, is_among, is_dash, is_equals, is_less, is_one_of, joined, long_name, numbers_of, tip_for, tip_of, with_flags, Guide}
use Rattle.tas_words.specs.Invocations.{is_newline, with_tip}
use Rattle.tas_words.specs.declared.subcommands.Word.{Word}

-- where a command has no words left, any text is one too many
pub stray_none : (words : List Word) (given : List (Bor Text)) → length words ≡ 0 → not (length given == 0) ≡ has_stray (numbers_of words) (map (λ (text : Bor Text). text.now) given)
stray_none [] [] none = refl
stray_none [] (text ∷ given) none = ap not (eqb-suc-zero (length given))
stray_none (word ∷ words) given none = cc

-- ---- parts of a text

-- what is before the first byte of a kind and what is after it, from the parts of a text there, where there is one
pub line_and_rest : (p : ℕ → Bool) (text : Text) (parts : Option (Bor Text × Bor Text)) (whole : Bor Text × Bor Text) → whole.0.now ≡ text → whole.1.now ≡ []
    → MatchOption parts (position_or_len p text ≡ length text) (λ x. (x.0.now ≡ before_first p text) × (x.1.now ≡ after_first p text) × (position_or_len p text < length text))
    → ((unwrap_or parts whole).0.now ≡ before_first p text) × ((unwrap_or parts whole).1.now ≡ after_first p text)
line_and_rest p text None whole all none last = (rw last (all ∙ sym (take_all (length text) text (omega arith))), rw last (none ∙ sym (drop_all (length text + 1) text (omega arith))))
line_and_rest p text (Some x) whole all none split = (split.0, split.1)

-- the same of a value that is those parts, or else the whole text
pub cut_at : (p : ℕ → Bool) (text : Text) (parts : Option (Bor Text × Bor Text)) (whole cut : Bor Text × Bor Text) → whole.0.now ≡ text → whole.1.now ≡ []
    → MatchOption parts (position_or_len p text ≡ length text) (λ x. (x.0.now ≡ before_first p text) × (x.1.now ≡ after_first p text) × (position_or_len p text < length text))
    → cut ≡ unwrap_or parts whole → (cut.0.now ≡ before_first p text) × (cut.1.now ≡ after_first p text)
cut_at p text parts whole cut all none split is =
    let (first, rest) = line_and_rest p text parts whole all none split in
    (ap (λ (x : Bor Text × Bor Text). x.0.now) is ∙ first, ap (λ (x : Bor Text × Bor Text). x.1.now) is ∙ rest)

-- four texts in a row, joined from the last one on
joined_four : (a b c d : Text) → a ++ (b ++ (c ++ d)) ≡ a ++ b ++ c ++ d
joined_four a b c d = sym (append_assoc (a ++ b) c d ∙ append_assoc a b (c ++ d))

-- ---- words and flags

-- a flag's long name is looked for among a command's
pub one_of_name : (flags : List Text) (text flag : Text) (name : Option (Bor Text)) → flag ≡ before_first is_equals text → option_map (λ (n : Bor Text). n.now) name ≡ long_name flag
    → is_among flags (option_map (λ (n : Bor Text). n.now) name) ≡ is_one_of flags text
one_of_name flags text flag name cut named = ap (is_among flags) (named ∙ ap long_name cut)

-- ---- the tip for words

-- the tip for words is that of the command that the second one names
pub tip_is : {Z : Type 0} (all : List (String Z)) (name : String Z) (said : Text) (found : Option Guide) → 2 ≤ length all → name ≡ get_or all 1 name → said ≡ string_bytes name → found ≡ guide_named said
    → joined (option_map (tip_for (map string_bytes (take (length all - 2) (drop 2 all)))) found) ≡ tip_of (map string_bytes all)
tip_is [] name said found long is same named = absurd (omega arith)
tip_is (program ∷ []) name said found long is same named = absurd (omega arith)
tip_is {Z = Z} (program ∷ second ∷ texts) name said found long is same named =
    ap₂ (λ (l : List (String Z)) (o : Option Guide). joined (option_map (tip_for (map string_bytes l)) o)) (take_all (length (program ∷ second ∷ texts) - 2) texts (omega arith)) (named ∙ ap guide_named (same ∙ ap string_bytes is))

-- without a second word there is no tip
pub tip_few : {Z : Type 0} (all : List (String Z)) → length all < 2 → None ≡ tip_of (map string_bytes all)
tip_few [] few = refl
tip_few (program ∷ []) few = refl
tip_few (program ∷ name ∷ texts) few = absurd (omega arith)

-- flags in a tip, from its parts at its first `<` and at the first dash before that
pub flags_between : (tip flags new : Text) (parts more : Option (Bor Text × Bor Text)) (whole cut front call : Bor Text × Bor Text) (empty : Bool) → empty ≡ (length flags == 0) → empty ≡ false
    → whole.0.now ≡ tip → whole.1.now ≡ []
    → MatchOption parts (position_or_len is_less tip ≡ length tip) (λ x. (x.0.now ≡ before_first is_less tip) × (x.1.now ≡ after_first is_less tip) × (position_or_len is_less tip < length tip))
    → cut ≡ unwrap_or parts whole → front.0.now ≡ cut.0.now → front.1.now ≡ []
    → MatchOption more (position_or_len is_dash cut.0.now ≡ length cut.0.now) (λ x. (x.0.now ≡ before_first is_dash cut.0.now) × (x.1.now ≡ after_first is_dash cut.0.now) × (position_or_len is_dash cut.0.now < length cut.0.now))
    → call ≡ unwrap_or more front → new ≡ call.0.now ++ (flags ++ (codes "<" ++ cut.1.now)) → new ≡ with_flags flags tip
flags_between tip flags new parts more whole cut front call empty e is all none split cuts all' none' split' cuts' has =
    let (before, input) = cut_at is_less tip parts whole cut all none split cuts in
    let (start, rest) = cut_at is_dash cut.0.now more front call all' none' split' cuts' in
    has
    ∙ joined_four call.0.now flags (codes "<") cut.1.now
    ∙ ap₂ (λ (a b : Text). a ++ flags ++ codes "<" ++ b) (start ∙ ap (before_first is_dash) before) input
    ∙ ap (λ (b : Bool). if b then tip else before_first is_dash (before_first is_less tip) ++ flags ++ codes "<" ++ after_first is_less tip) (sym is ∙ e)

-- ---- a text with a tip

-- a tip between those parts
pub tip_between : (tip text new : Text) (parts : Option (Bor Text × Bor Text)) (whole cut : Bor Text × Bor Text) → whole.0.now ≡ text → whole.1.now ≡ []
    → MatchOption parts (position_or_len is_newline text ≡ length text) (λ x. (x.0.now ≡ before_first is_newline text) × (x.1.now ≡ after_first is_newline text) × (position_or_len is_newline text < length text))
    → cut ≡ unwrap_or parts whole → new ≡ cut.0.now ++ (codes "\n\n  tip: " ++ (tip ++ (codes "\n" ++ cut.1.now))) → new ≡ with_tip tip text
tip_between tip text new parts whole cut all none split is has =
    let (first, rest) = cut_at is_newline text parts whole cut all none split is in
    has
    ∙ joined_four cut.0.now (codes "\n\n  tip: ") tip (codes "\n" ++ cut.1.now)
    ∙ sym (append_assoc (cut.0.now ++ codes "\n\n  tip: " ++ tip) (codes "\n") cut.1.now)
    ∙ ap₂ (λ (a b : Text). a ++ codes "\n\n  tip: " ++ tip ++ codes "\n" ++ b) first rest
