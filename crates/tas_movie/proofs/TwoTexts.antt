-- The two texts of a movie.
use Rattle.std.proofs.Common.{◌≡◌, ℕ, ◌≤◌, Bool, true, false, cond, List, [], ◌∷◌, ◌++◌, length, get_or, Option, Some, None, Result, Ok, Err, OnOk, MatchResult, Vec, vec_len, inl, inr, ⊎_elim, refl, sym, ap, subst, ◌∙◌, arith}
use Rattle.std.proofs.lemmas.List.{append_cancel_left}
use Rattle.std.specs.List.{flat_map}
use Rattle.std.specs.Str.{bytes_eq}
use Rattle.std.proofs.lemmas.Slice.Eq.{bytes_eq-Decides}
use Rattle.vcs_inputs.specs.declared.input.Input.{Input}
use Rattle.tas_movie.specs.declared.error.TextError.{TextError}
use Rattle.tas_movie.specs.declared.error.TextErrorKind.TheVariants.{Head, Digest}
use Rattle.tas_movie.specs.Content.{MovieContent, most_inputs}
use Rattle.tas_movie.specs.Runs.{runs_of}
use Rattle.tas_movie.specs.Text.{line, frame_line, run_line, head_text1, head_text2, digest_text, text1, text2, most_frames1, IsText}
use Rattle.tas_movie.specs.Fault.{SplitLines, split_lines, fault_at, frames_fault, runs_fault, digest_fault, fault_by, head_fault, fault}
use Rattle.tas_movie.proofs.TextLemmas.{bytes_same, movie_by_fields, same_text1, text1_right, head2_no_break, text_lines}
use Rattle.tas_movie.proofs.RunTextLemmas.{inputs_right, inputs_same}

text2_right : (movie : MovieContent) → length movie.inputs ≤ most_inputs → fault (text2 movie) movie.cart ≡ None
text2_right movie le =
    let further : List ℕ = flat_map run_line (runs_of movie.inputs) in
    ap (λ (x : SplitLines). head_fault movie.cart x.lines x.rest) (text_lines head_text2 movie.cart further head2_no_break)
    ∙ ap (λ (b : Bool). cond b (fault_by (runs_fault 3 []) further) (fault_at 2 Digest)) (bytes_same (digest_text movie.cart) (digest_text movie.cart) refl)
    ∙ inputs_right movie.inputs le

-- a text has no fault
pub text_right : (bytes : List ℕ) (movie : MovieContent) → length movie.inputs ≤ most_inputs → IsText bytes movie → fault bytes movie.cart ≡ None
text_right bytes movie le is =
    ⊎_elim (λ (one : (bytes ≡ text1 movie) × (length movie.inputs ≤ most_frames1)). ap (λ (b : List ℕ). fault b movie.cart) one.0 ∙ text1_right movie one.1)
    (λ (two : bytes ≡ text2 movie). ap (λ (b : List ℕ). fault b movie.cart) two ∙ text2_right movie le)
    is

pub same_text2 : (a b : MovieContent) → a.cart ≡ b.cart → length a.inputs ≤ most_inputs → length b.inputs ≤ most_inputs → text2 a ≡ text2 b → a ≡ b
same_text2 a b same few less e =
    let body : line (digest_text a.cart) ++ flat_map run_line (runs_of a.inputs) ≡ line (digest_text b.cart) ++ flat_map run_line (runs_of b.inputs) = append_cancel_left (line head_text2) _ _ e in
    let runs : flat_map run_line (runs_of a.inputs) ≡ flat_map run_line (runs_of b.inputs) =
    append_cancel_left (line (digest_text b.cart)) _ _ (ap (λ (cart : List ℕ). line (digest_text cart) ++ flat_map run_line (runs_of a.inputs)) (sym same) ∙ body) in
    movie_by_fields a.cart b.cart a.inputs b.inputs same (inputs_same a.inputs b.inputs few less runs)

-- no bytes are a text of either kind
not_both : (a b : MovieContent) → text1 a ≡ text2 b → ⊥
not_both a b e = let digit : ◌≡◌ {A = ℕ} 49 50 = ap (λ (l : List ℕ). get_or l 9 0) e in omega (arith, digit)

-- one text has one movie
pub one_movie : (bytes : List ℕ) (a b : MovieContent) → a.cart ≡ b.cart → length a.inputs ≤ most_inputs → length b.inputs ≤ most_inputs → IsText bytes a → IsText bytes b → a ≡ b
one_movie bytes a b same few less (inl p) (inl q) = same_text1 a b same (sym p.0 ∙ q.0)
one_movie bytes a b same few less (inl p) (inr q) = absurd (not_both a b (sym p.0 ∙ q))
one_movie bytes a b same few less (inr p) (inl q) = absurd (not_both b a (sym q.0 ∙ p))
one_movie bytes a b same few less (inr p) (inr q) = same_text2 a b same few less (sym p ∙ q)

pub read_only : (cart bytes : List ℕ) (a m : MovieContent) → a.cart ≡ cart → IsText bytes (record { cart = cart; inputs = a.inputs }) → m.cart ≡ cart → length a.inputs ≤ most_inputs → length m.inputs ≤ most_inputs
    → IsText bytes m → a ≡ m
read_only cart bytes a m is-a text-a is-m few less text-m =
    let read : MovieContent = record { cart = cart; inputs = a.inputs } in
    movie_by_fields a.cart cart a.inputs a.inputs is-a refl ∙ one_movie bytes read m (sym is-m) few less text-a text-m

pub read_no_error : (cart bytes : List ℕ) (m : MovieContent) (error : TextError) → m.cart ≡ cart → length m.inputs ≤ most_inputs → IsText bytes m → fault bytes cart ≡ Some error → ⊥
read_no_error cart bytes m error is le text-m found =
    none_some error (sym (text_right bytes m le text-m) ∙ ap (fault bytes) is ∙ found)
  where
    none_some : (error : TextError) → ◌≡◌ {A = Option TextError} None (Some error) → ⊥
    none_some error e = cc

-- ---- which text the first line begins

-- what a test of the first line shows
pub head_tells : (head literal text : List ℕ) (r b : Bool) → r ≡ bytes_eq head literal → literal ≡ text → r ≡ b → bytes_eq head text ≡ b
head_tells head literal text r b test same is = ap (λ (l : List ℕ). bytes_eq head l) (sym same) ∙ sym test ∙ is

pub first_goes_on : (bytes head after cart : List ℕ) → split_lines bytes ≡ record { lines = head ∷ (split_lines after).lines; rest = (split_lines after).rest } → bytes_eq head head_text1 ≡ true
    → fault bytes cart ≡ fault_by (digest_fault cart (frames_fault 0)) after
first_goes_on bytes head after cart is one =
    ap (λ (x : SplitLines). head_fault cart x.lines x.rest) is
    ∙ ap (λ (b : Bool). cond b (fault_by (digest_fault cart (frames_fault 0)) after) (cond (bytes_eq head head_text2) (fault_by (digest_fault cart (runs_fault 3 [])) after) (fault_at 1 Head))) one

other_goes_on : (bytes head after cart : List ℕ) (two : Bool) → split_lines bytes ≡ record { lines = head ∷ (split_lines after).lines; rest = (split_lines after).rest } → bytes_eq head head_text1 ≡ false
    → bytes_eq head head_text2 ≡ two → fault bytes cart ≡ cond two (fault_by (digest_fault cart (runs_fault 3 [])) after) (fault_at 1 Head)
other_goes_on bytes head after cart two is one other =
    ap (λ (x : SplitLines). head_fault cart x.lines x.rest) is
    ∙ ap (λ (b : Bool). cond b (fault_by (digest_fault cart (frames_fault 0)) after) (cond (bytes_eq head head_text2) (fault_by (digest_fault cart (runs_fault 3 [])) after) (fault_at 1 Head))) one
    ∙ ap (λ (b : Bool). cond b (fault_by (digest_fault cart (runs_fault 3 [])) after) (fault_at 1 Head)) other

pub second_goes_on : (bytes head after cart : List ℕ) → split_lines bytes ≡ record { lines = head ∷ (split_lines after).lines; rest = (split_lines after).rest } → bytes_eq head head_text1 ≡ false
    → bytes_eq head head_text2 ≡ true → fault bytes cart ≡ fault_by (digest_fault cart (runs_fault 3 [])) after
second_goes_on bytes head after cart is one two = other_goes_on bytes head after cart true is one two

pub head_wrong : (bytes head after cart : List ℕ) → split_lines bytes ≡ record { lines = head ∷ (split_lines after).lines; rest = (split_lines after).rest } → bytes_eq head head_text1 ≡ false
    → bytes_eq head head_text2 ≡ false → fault bytes cart ≡ fault_at 1 Head
head_wrong bytes head after cart is one two = other_goes_on bytes head after cart false is one two

-- a fault of the rest is the fault of the whole
pub same_fault : (r : Result (Unit {0}) TextError) (whole rest : Option TextError) → whole ≡ rest → MatchResult r (λ u. rest ≡ None) (λ e. rest ≡ Some e)
    → MatchResult r (λ u. whole ≡ None) (λ e. whole ≡ Some e)
same_fault r whole rest same h = subst (λ (o : Option TextError). MatchResult r (λ u. o ≡ None) (λ e. o ≡ Some e)) (sym same) h

headed : (bytes head text after cart rest lines : List ℕ) → bytes ≡ line head ++ after → bytes_eq head text ≡ true → after ≡ line (digest_text cart) ++ rest → rest ≡ lines
    → bytes ≡ line text ++ (line (digest_text cart) ++ lines)
headed bytes head text after cart rest lines is same behind read =
    is ∙ ap (λ (l : List ℕ). line l ++ after) ((bytes_eq-Decides head text).0 same)
    ∙ ap (λ (l : List ℕ). line text ++ l) (behind ∙ ap (λ (l : List ℕ). line (digest_text cart) ++ l) read)

-- what was read after the two first lines is a movie of the whole
pub first_read : (r : Result (Unit {0}) TextError) (bytes head after cart rest : List ℕ) (inputs : List Input) → bytes ≡ line head ++ after → bytes_eq head head_text1 ≡ true
    → after ≡ line (digest_text cart) ++ rest → length inputs ≤ most_frames1 → OnOk r (rest ≡ flat_map frame_line inputs) → OnOk r (IsText bytes (record { cart = cart; inputs = inputs }))
first_read (Ok u) bytes head after cart rest inputs is same behind few read = inl (headed bytes head head_text1 after cart rest (flat_map frame_line inputs) is same behind read, few)
first_read (Err e) bytes head after cart rest inputs is same behind few read = tt

pub second_read : (r : Result (Unit {0}) TextError) (bytes head after cart rest : List ℕ) (inputs : List Input) → bytes ≡ line head ++ after → bytes_eq head head_text2 ≡ true
    → after ≡ line (digest_text cart) ++ rest → OnOk r (rest ≡ flat_map run_line (runs_of inputs)) → OnOk r (IsText bytes (record { cart = cart; inputs = inputs }))
second_read (Ok u) bytes head after cart rest inputs is same behind read = inr (headed bytes head head_text2 after cart rest (flat_map run_line (runs_of inputs)) is same behind read)
second_read (Err e) bytes head after cart rest inputs is same behind read = tt

-- an empty list has no more inputs than a movie may have
pub empty_fits : {A : Type 0} (list : Vec Input A) → list.items ≡ [] → vec_len list ≤ most_inputs
empty_fits list none =
    let long = list.ok.0 in
    let few = ap length none in
    omega (arith, long, few)
