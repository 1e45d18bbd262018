-- Bytes are one manifest at most, or have one first line at fault.
use Rattle.std.proofs.Common.{◌≡◌, inl, inr, ◌⊎◌, ℕ, ◌+◌, ◌<◌, List, [], ◌∷◌, ◌++◌, length, refl, sym, ap, subst, ◌∙◌, arith, append_assoc}
use Rattle.std.specs.Prelude.{Option, Some, None}
use Rattle.std.specs.List.{flat_map, filter_map}
use Rattle.byte_text.specs.Splitting.{NoByte}
use Rattle.byte_text.proofs.SplitLemmas.{no_parts, same_front}
use Rattle.tas_engines.specs.Remarks.{words_of}
use Rattle.tas_verify.specs.declared.manifest.ManifestError.TheVariants.{Line}
use Rattle.tas_verify.specs.Manifest.{RowWords, mark_of, IsSplit, Means, Said, said_line, AreMeant, IsManifest, IsManifestError, IsUnclear}

-- ---- a line

same_words : (movie movie' cart cart' digest digest' : List ℕ) → movie ≡ movie' → cart ≡ cart' → digest ≡ digest'
    → ◌≡◌ {A = RowWords} (record { movie = movie; cart = cart; digest = digest }) (record { movie = movie'; cart = cart'; digest = digest' })
same_words movie movie' cart cart' digest digest' a b c = cc

one_split : (mark : ℕ) (bytes : List ℕ) (a b : RowWords) → IsSplit mark bytes a → IsSplit mark bytes b → a ≡ b
one_split mark bytes a b h g =
    let first = same_front mark a.movie b.movie (a.cart ++ mark ∷ a.digest) (b.cart ++ mark ∷ b.digest) h.movie g.movie (sym h.is ∙ g.is) in
    let second = same_front mark a.cart b.cart a.digest b.digest h.cart g.cart first.1 in
    same_words a.movie b.movie a.cart b.cart a.digest b.digest first.0 second.0 second.1

no_words : (bytes : List ℕ) → bytes ≡ [] → 0 < length bytes → ⊥
no_words bytes none some = let zero : length bytes ≡ 0 = ap (λ (b : List ℕ). length b) none in omega (arith, zero, some)

one_meaning : (said : List ℕ) (a b : Option RowWords) → Means said a → Means said b → a ≡ b
one_meaning said None None h g = refl
one_meaning said None (Some b) h g = absurd (no_words (words_of said) h g.0)
one_meaning said (Some a) None h g = absurd (no_words (words_of said) g h.0)
one_meaning said (Some a) (Some b) h g = ap (λ (row : RowWords). Some row) (one_split (mark_of (words_of said)) (words_of said) a b h.1 g.1)

-- ---- lines

-- nothing is left, or a line at fault
abbrev IsStop : List ℕ → Type 0
IsStop rest = (rest ≡ []) ⊎ ((0 < length rest) × IsUnclear rest)

none_left : (first after : List ℕ) → first ++ 10 ∷ after ≡ [] → ⊥
none_left [] after e = absurd cc
none_left (b ∷ first) after e = absurd cc

-- a line that is understood isn't where it stops
goes_on : (rest first after : List ℕ) (row : Option RowWords) → IsStop rest → rest ≡ first ++ 10 ∷ after → NoByte 10 first → Means first row → ⊥
goes_on rest first after row (inl none) is whole means = none_left first after (sym is ∙ none)
goes_on rest first after row (inr (some, inl no_line)) is whole means = no_parts 10 first after (subst (NoByte 10) is no_line)
goes_on rest first after row (inr (some, inr (other, later, is', whole', never))) is whole means =
    let same = same_front 10 first other after later whole whole' (sym is ∙ is') in
    never row (subst (λ (l : List ℕ). Means l row) same.0 means)

-- a line, and what follows it
line_parts : (said : Said) (lines : List Said) (rest : List ℕ) → flat_map said_line (said ∷ lines) ++ rest ≡ said.text ++ 10 ∷ (flat_map said_line lines ++ rest)
line_parts said lines rest = append_assoc (said_line said) (flat_map said_line lines) rest ∙ append_assoc said.text (10 ∷ []) (flat_map said_line lines ++ rest)

same_said : (text text' : List ℕ) (row row' : Option RowWords) (lines lines' : List Said) → text ≡ text' → row ≡ row' → lines ≡ lines'
    → ◌≡◌ {A = List Said} (record { text = text; row = row } ∷ lines) (record { text = text'; row = row' } ∷ lines')
same_said text text' row row' lines lines' a b c = cc

one_reading : (a b : List Said) (x y : List ℕ) → AreMeant a → AreMeant b → flat_map said_line a ++ x ≡ flat_map said_line b ++ y → IsStop x → IsStop y → (a ≡ b) × (x ≡ y)
unfolding AreMeant
one_reading [] [] x y h g e stop stop' = (refl, e)
one_reading [] (m ∷ b) x y h g e stop stop' = absurd (goes_on x m.text (flat_map said_line b ++ y) m.row stop (e ∙ line_parts m b y) g.0 g.1)
one_reading (l ∷ a) [] x y h g e stop stop' = absurd (goes_on y l.text (flat_map said_line a ++ x) l.row stop' (sym e ∙ line_parts l a x) h.0 h.1)
one_reading (l ∷ a) (m ∷ b) x y h g e stop stop' =
    let first = same_front 10 l.text m.text (flat_map said_line a ++ x) (flat_map said_line b ++ y) h.0 g.0 (sym (line_parts l a x) ∙ e ∙ line_parts m b y) in
    let rest = one_reading a b x y h.2 g.2 first.1 stop stop' in
    let means = one_meaning l.text l.row m.row h.1 (subst (λ (t : List ℕ). Means t m.row) (sym first.0) g.1) in
    (same_said l.text m.text l.row m.row a b first.0 means rest.0, rest.1)

-- ---- manifests

abbrev rows_of : List Said → List RowWords
rows_of lines = filter_map (λ (s : Said). s.row) lines

pub one_list : (bytes : List ℕ) (a b : List RowWords) → IsManifest bytes a → IsManifest bytes b → a ≡ b
one_list bytes a b (lines, h) (others, g) =
    let same = one_reading lines others [] [] h.meant g.meant (sym h.text ∙ g.text) (inl refl) (inl refl) in
    h.named ∙ ap rows_of same.0 ∙ sym g.named

pub no_fault : (bytes : List ℕ) (rows : List RowWords) (number : ℕ) → IsManifest bytes rows → IsManifestError bytes (Line number) → ⊥
no_fault bytes rows number (lines, h) (front, others, rest, g, is, some, unclear) =
    let same = one_reading lines others [] rest h.meant g.meant (sym h.text ∙ g.text) (inl refl) (inr (some, unclear)) in
    no_words rest (sym same.1) some

pub one_fault : (bytes : List ℕ) (m n : ℕ) → IsManifestError bytes (Line m) → IsManifestError bytes (Line n) → m ≡ n
one_fault bytes m n (rows, lines, rest, h, is, some, unclear) (rows', others, rest', g, is', some', unclear') =
    let same = one_reading lines others rest rest' h.meant g.meant (sym h.text ∙ g.text) (inr (some, unclear)) (inr (some', unclear')) in
    is ∙ ap (λ (l : List Said). length l + 1) same.0 ∙ sym is'
