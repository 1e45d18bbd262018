-- What came of a movie.
use Rattle.std.proofs.Common.{◌≡◌, inl, inr, ℕ, zero, suc, ◌+◌, ◌<◌, ◌≤◌, ◌^◌, List, [], ◌∷◌, ◌++◌, length, take, drop, get_or, refl, sym, ap, subst, ◌∙◌, arith, take-append-drop}
use Rattle.std.specs.Prelude.{decimal, codes, Option}
use Rattle.std.proofs.lemmas.Bool.{ne_eqb}
use Rattle.std.proofs.lemmas.List.{drop_more, append_cancel_left}
use Rattle.byte_text.specs.Splitting.{NoByte}
use Rattle.byte_text.proofs.SplitLemmas.{same_front, no_parts}
use Rattle.std.proofs.lemmas.Fmt.{decimal_injective}
use Rattle.tas_movie.specs.Content.{most_inputs}
use Rattle.tas_language.proofs.WordLemmas.{decimal_no_space}
use Rattle.std.specs.Prelude.{max, Result, Ok, Err}
use Rattle.tas_engines.specs.declared.fault.RunFault.{RunFault}
use Rattle.tas_engines.specs.Commands.{OfTwo}
use Rattle.tas_engines.specs.Digests.{IsDigestAnswer}
use Rattle.tas_verify.specs.declared.outcome.Outcome.{Outcome}
use Rattle.tas_verify.specs.declared.outcome.Outcome.TheVariants.{NotFound}
use Rattle.tas_verify.specs.declared.outcome.Role.TheVariants.{Cartridge}
use Rattle.tas_verify.specs.Manifest.{RowWords}
use Rattle.tas_verify.specs.Rows.{after_line, SaysFrames, DifferAtOnce, DifferInLine, HasStretches, newlines, outcome_of, cart_finds, cart_held, ShelfFacts, IsRead, IsAnother, IsCompared, IsPlayed, JudgesCart, JudgesDigest}

-- ---- the bytes after a line

pub after_some : (bytes line after : List ℕ) → bytes ≡ line ++ 10 ∷ after → NoByte 10 line → after ≡ after_line bytes
after_some bytes line after is none = sym (ap after_line is ∙ there line none)
  where
    there : (l : List ℕ) → NoByte 10 l → after_line (l ++ 10 ∷ after) ≡ after
    there [] h = refl
    there (b ∷ l) h = rw (ne_eqb b 10 h.0) (there l h.1)

pub after_none : (bytes : List ℕ) → NoByte 10 bytes → [] ≡ after_line bytes
after_none [] h = refl
after_none (b ∷ bytes) h = rw (ne_eqb b 10 h.0) (after_none bytes h.1)

-- ---- texts that differ

pub differ_here : (now stored : List ℕ) (at line : ℕ) → take at now ≡ take at stored → DifferAtOnce (drop at now) (drop at stored) → line ≡ newlines (take at now) + 1 → DifferInLine now stored line
differ_here now stored at line same differ place = record {
  front = take at now;
  rest = drop at now;
  after = drop at stored;
  now_is = sym (take-append-drop at now);
  stored_is = sym (take-append-drop at stored) ∙ ap (λ (f : List ℕ). f ++ drop at stored) (sym same);
  differ = differ;
  place = place;
}

pub differ_at : (now stored : List ℕ) (at d : ℕ) → at < length now → at < length stored → (get_or now at d ≡ get_or stored at d → ⊥) → DifferAtOnce (drop at now) (drop at stored)
differ_at now stored at d lt lt' ne = rw (drop_more now at d lt, drop_more stored at d lt') ne

pub differ_ended : (now stored : List ℕ) (at : ℕ) → at ≤ length now → at ≤ length stored → (at < length now → at < length stored → ⊥) → (length now ≡ length stored → ⊥) → DifferAtOnce (drop at now) (drop at stored)
differ_ended [] [] zero low low' end ne = ne refl
differ_ended [] (c ∷ after) zero low low' end ne = tt
differ_ended (b ∷ rest) [] zero low low' end ne = tt
differ_ended (b ∷ rest) (c ∷ after) zero low low' end ne = absurd (end (omega arith) (omega arith))
differ_ended [] stored (suc at) low low' end ne = absurd (omega (arith, low))
differ_ended (b ∷ rest) [] (suc at) low low' end ne = absurd (omega (arith, low'))
differ_ended (b ∷ rest) (c ∷ after) (suc at) low low' end ne =
    differ_ended rest after at (omega (arith, low)) (omega (arith, low')) (λ p q. end (omega (arith, p)) (omega (arith, q))) (λ e. ne (omega (arith, e)))

-- ---- the line of the first stretch

abbrev begin : List ℕ
begin = codes "frames 0 to "

pub says_frames : (line rest word after : List ℕ) (every : ℕ) → line ≡ begin ++ rest → rest ≡ word ++ 32 ∷ after → word ≡ decimal every → 1 ≤ every → every ≤ most_inputs → SaysFrames line every
says_frames line rest word after every is parts number some most = record {
  rest = after;
  is = is ∙ ap (λ (r : List ℕ). begin ++ r) (parts ∙ ap (λ (w : List ℕ). w ++ 32 ∷ after) number);
  some = some;
  most = most;
}

-- what is after the first words
said_rest : (line rest : List ℕ) (n : ℕ) → line ≡ begin ++ rest → (says : SaysFrames line n) → rest ≡ decimal n ++ 32 ∷ says.rest
said_rest line rest n is says = append_cancel_left begin rest (decimal n ++ 32 ∷ says.rest) (sym is ∙ says.is)

pub unsaid_end : (line rest : List ℕ) → line ≡ begin ++ rest → NoByte 32 rest → (n : ℕ) → SaysFrames line n → ⊥
unsaid_end line rest is none n says = no_parts 32 (decimal n) says.rest (subst (NoByte 32) (said_rest line rest n is says) none)

said_word : (line rest word after : List ℕ) (n : ℕ) → line ≡ begin ++ rest → rest ≡ word ++ 32 ∷ after → NoByte 32 word → SaysFrames line n → word ≡ decimal n
said_word line rest word after n is parts none says =
    (same_front 32 word (decimal n) after says.rest none (decimal_no_space n (omega (arith, says.most))) (sym parts ∙ said_rest line rest n is says)).0

pub unsaid_number : (line rest word after : List ℕ) → line ≡ begin ++ rest → rest ≡ word ++ 32 ∷ after → NoByte 32 word → ((n : ℕ) → n < 2 ^ 64 → word ≡ decimal n → ⊥) → (n : ℕ) → SaysFrames line n → ⊥
unsaid_number line rest word after is parts none never n says = never n (omega (arith, says.most)) (said_word line rest word after n is parts none says)

pub unsaid_range : (line rest word after : List ℕ) (every : ℕ) → line ≡ begin ++ rest → rest ≡ word ++ 32 ∷ after → NoByte 32 word → word ≡ decimal every → every < 2 ^ 64 → (1 ≤ every → every ≤ most_inputs → ⊥)
    → (n : ℕ) → SaysFrames line n → ⊥
unsaid_range line rest word after every is parts none number fits out n says =
    let same : n ≡ every = decimal_injective n every (omega (arith, says.most)) fits (sym (said_word line rest word after n is parts none says) ∙ number) in
    out (omega (arith, same, says.some)) (omega (arith, same, says.most))

-- ---- a movie that is played

answered : (every : ℕ) (inputs : List (List ℕ)) (image text : List ℕ) (said : Result (List ℕ) RunFault) → 1 ≤ every → inputs ≡ image ∷ text ∷ [] → OfTwo (IsDigestAnswer (max every 1)) inputs said → IsDigestAnswer every image text said
answered every inputs image text said some are is =
    let same : max every 1 ≡ every = omega arith in
    let two : IsDigestAnswer (max every 1) image text said = subst (λ (i : List (List ℕ)). OfTwo (IsDigestAnswer (max every 1)) i said) are is in
    subst (λ (n : ℕ). IsDigestAnswer n image text said) same two

pub played_now : (every : ℕ) (inputs : List (List ℕ)) (now shown stored : List ℕ) (outcome : Outcome) → HasStretches stored every → 1 ≤ every → OfTwo (IsDigestAnswer (max every 1)) inputs (Ok now) → shown ≡ now
    → IsCompared every shown stored outcome → (image text : List ℕ) → inputs ≡ image ∷ text ∷ [] → IsPlayed text image stored outcome
played_now every inputs now shown stored outcome has some is same compared image text are =
    (every, has, inl (now, answered every inputs image text (Ok now) some are is, subst (λ (s : List ℕ). IsCompared every s stored outcome) same compared))

pub played_fault : (every : ℕ) (inputs : List (List ℕ)) (stored : List ℕ) (fault : RunFault) (outcome : Outcome) → HasStretches stored every → 1 ≤ every → OfTwo (IsDigestAnswer (max every 1)) inputs (Err fault)
    → outcome ≡ outcome_of fault → (image text : List ℕ) → inputs ≡ image ∷ text ∷ [] → IsPlayed text image stored outcome
played_fault every inputs stored fault outcome has some is reported image text are = (every, has, inr (fault, answered every inputs image text (Err fault) some are is, reported))

-- ---- a cartridge that is read

pub cart_another : (facts : ShelfFacts) (row : RowWords) (text image : List ℕ) → IsRead (cart_held facts row.cart) image → IsAnother row.cart image → JudgesCart facts row text (NotFound Cartridge)
cart_another facts row text image whole another = (inr refl, inr (image, whole, inl (another, refl)))

pub cart_judged : (facts : ShelfFacts) (row : RowWords) (text image : List ℕ) (outcome : Outcome) → cart_finds facts row.cart → IsRead (cart_held facts row.cart) image → (IsAnother row.cart image → ⊥)
    → JudgesDigest facts row text image outcome → JudgesCart facts row text outcome
cart_judged facts row text image outcome there whole never judged = (inl there, inr (image, whole, inr (never, judged)))
