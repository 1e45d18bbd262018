-- Manifests, line by line.
use Rattle.std.proofs.Common.{inr, ◌≡◌, ℕ, ◌+◌, ◌<◌, ◌≤◌, List, [], ◌∷◌, ◌++◌, length, refl, sym, ap, subst, ◌∙◌, arith, append_assoc, length-append}
use Rattle.std.proofs.lemmas.Bool.{eqb-false}
use Rattle.std.specs.Prelude.{◌==◌, Bool, true, false, Option, Some, None, option_to_list}
use Rattle.std.proofs.lemmas.List.{append-nil}
use Rattle.std.proofs.lemmas.List.Elements.{filter_map-append}
use Rattle.std.specs.List.{flat_map, filter_map}
use Rattle.byte_text.specs.Splitting.{NoByte}
use Rattle.byte_text.proofs.SplitLemmas.{no_parts, same_front}
use Rattle.tas_engines.specs.Remarks.{words_of}
use Rattle.tas_verify.specs.Inside.Words.{AreWords}
use Rattle.tas_verify.specs.Manifest.{RowWords, mark_of, IsSplit, Means, Said, said_line, AreMeant, Reads, IsUnclear}

-- ---- tests

pub positive : (n : ℕ) (b : Bool) → b ≡ (n == 0) → b ≡ false → 0 < n
positive n b is isnt = let ne = eqb-false n 0 (sym is ∙ isnt) in omega (arith, ne)

pub clash : (b : Bool) → b ≡ false → b ≡ true → ⊥
clash b f t = cc

-- ---- the words of a line

pub split_made : (mark : ℕ) (bytes movie rest cart digest : List ℕ) → bytes ≡ movie ++ mark ∷ rest → NoByte mark movie → rest ≡ cart ++ mark ∷ digest → NoByte mark cart → NoByte mark digest
    → 0 < length movie → 0 < length cart → 0 < length digest → IsSplit mark bytes (record { movie = movie; cart = cart; digest = digest })
split_made mark bytes movie rest cart digest first no_first second no_second no_third a b c = record {
  is = first ∙ ap (λ (r : List ℕ). movie ++ mark ∷ r) second;
  movie = no_first;
  cart = no_second;
  digest = no_third;
  some_movie = a;
  some_cart = b;
  some_digest = c;
}

pub unsplit_first : (mark : ℕ) (bytes : List ℕ) (row : RowWords) → NoByte mark bytes → IsSplit mark bytes row → ⊥
unsplit_first mark bytes row none is = no_parts mark row.movie (row.cart ++ mark ∷ row.digest) (subst (NoByte mark) is.is none)

parts_rest : (mark : ℕ) (bytes movie rest : List ℕ) (row : RowWords) → bytes ≡ movie ++ mark ∷ rest → NoByte mark movie → IsSplit mark bytes row → (movie ≡ row.movie) × (rest ≡ row.cart ++ mark ∷ row.digest)
parts_rest mark bytes movie rest row first none is = same_front mark movie row.movie rest (row.cart ++ mark ∷ row.digest) none is.movie (sym first ∙ is.is)

pub unsplit_second : (mark : ℕ) (bytes movie rest : List ℕ) (row : RowWords) → bytes ≡ movie ++ mark ∷ rest → NoByte mark movie → NoByte mark rest → IsSplit mark bytes row → ⊥
unsplit_second mark bytes movie rest row first none no_rest is = no_parts mark row.cart row.digest (subst (NoByte mark) (parts_rest mark bytes movie rest row first none is).1 no_rest)

-- the words of the only row that there can be
pub record AreParts (row : RowWords) (movie cart digest : List ℕ) : Type 0 where
  pub movie_is : movie ≡ row.movie
  pub cart_is : cart ≡ row.cart
  pub digest_is : digest ≡ row.digest

pub parts_of : (mark : ℕ) (bytes movie rest cart digest : List ℕ) (row : RowWords) → bytes ≡ movie ++ mark ∷ rest → NoByte mark movie → rest ≡ cart ++ mark ∷ digest → NoByte mark cart → IsSplit mark bytes row → AreParts row movie cart digest
parts_of mark bytes movie rest cart digest row first none second no_cart is =
    let both = parts_rest mark bytes movie rest row first none is in
    let more = same_front mark cart row.cart digest row.digest no_cart is.cart (sym second ∙ both.1) in
    record { movie_is = both.0; cart_is = more.0; digest_is = more.1 }

-- what can't be words is no row's
pub refused_words : (mark : ℕ) (bytes movie rest cart digest : List ℕ) → bytes ≡ movie ++ mark ∷ rest → NoByte mark movie → rest ≡ cart ++ mark ∷ digest → NoByte mark cart → (AreWords mark movie cart digest → ⊥)
    → (row : RowWords) → IsSplit mark bytes row → ⊥
refused_words mark bytes movie rest cart digest first none second no_cart never row is =
    let parts = parts_of mark bytes movie rest cart digest row first none second no_cart is in
    never (rw (parts.movie_is, parts.cart_is, parts.digest_is) (is.some_movie, is.some_cart, is.some_digest, is.digest))

pub means_nothing : (said : List ℕ) → (0 < length (words_of said)) → ((row : RowWords) → IsSplit (mark_of (words_of said)) (words_of said) row → ⊥) → (row : Option RowWords) → Means said row → ⊥
means_nothing said some never None means = let none : length (words_of said) ≡ 0 = ap (λ (bytes : List ℕ). length bytes) means in omega (arith, some, none)
means_nothing said some never (Some row) means = never row means.1

-- ---- lines

lines_more : (lines : List Said) (said : Said) → flat_map said_line (lines ++ said ∷ []) ≡ flat_map said_line lines ++ said_line said
lines_more [] said = append-nil (said_line said)
lines_more (c ∷ lines) said = ap (λ (r : List ℕ). said_line c ++ r) (lines_more lines said) ∙ sym (append_assoc (said_line c) (flat_map said_line lines) (said_line said))

meant_more : (lines : List Said) (said : Said) → AreMeant lines → NoByte 10 said.text → Means said.text said.row → AreMeant (lines ++ said ∷ [])
unfolding AreMeant
meant_more [] said all whole means = (whole, means, tt)
meant_more (c ∷ lines) said all whole means = (all.0, all.1, meant_more lines said all.2 whole means)

rows_more : (lines : List Said) (said : List ℕ) (row : Option RowWords)
    → filter_map (λ (s : Said). s.row) (lines ++ record { text = said; row = row } ∷ []) ≡ filter_map (λ (s : Said). s.row) lines ++ option_to_list row
rows_more lines said None = filter_map-append (λ (s : Said). s.row) lines (record { text = said; row = None } ∷ [])
rows_more lines said (Some row) = filter_map-append (λ (s : Said). s.row) lines (record { text = said; row = Some row } ∷ [])

-- nothing is read yet
pub reads_none : (bytes : List ℕ) → Reads bytes [] [] bytes
unfolding AreMeant
reads_none bytes = record { text = refl; meant = tt; named = refl }

-- one line more
pub reads_more : (bytes rest first after : List ℕ) (rows more : List RowWords) (lines : List Said) (row : Option RowWords) → Reads bytes rows lines rest → rest ≡ first ++ 10 ∷ after
    → NoByte 10 first → Means first row → more ≡ rows ++ option_to_list row → Reads bytes more (lines ++ record { text = first; row = row } ∷ []) after
reads_more bytes rest first after rows more lines row reads is whole means grown =
    let said : Said = record { text = first; row = row } in
    let text : rest ≡ said_line said ++ after = is ∙ sym (append_assoc first (10 ∷ []) after) in
    record {
      text = reads.text ∙ ap (λ (r : List ℕ). flat_map said_line lines ++ r) text
          ∙ sym (append_assoc (flat_map said_line lines) (said_line said) after)
          ∙ ap (λ (r : List ℕ). r ++ after) (sym (lines_more lines said));
      meant = meant_more lines said reads.meant whole means;
      named = grown ∙ ap (λ (r : List RowWords). r ++ option_to_list row) reads.named ∙ sym (rows_more lines first row);
    }

pub count_more : (lines : List Said) (said : Said) → length (lines ++ said ∷ []) ≡ length lines + 1
count_more lines said = length-append lines (said ∷ [])

pub split_length : (rest a b : List ℕ) → rest ≡ a ++ 10 ∷ b → length b + 1 ≤ length rest
split_length rest a b is = rw is (omega (arith, length-append a (10 ∷ b)))

pub unclear_line : (rest first after : List ℕ) → rest ≡ first ++ 10 ∷ after → NoByte 10 first → ((row : Option RowWords) → Means first row → ⊥) → IsUnclear rest
unclear_line rest first after is whole never = inr (first, after, is, whole, never)
