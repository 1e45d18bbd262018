-- Lines that aren't understood.
use Rattle.std.proofs.Common.{◌≡◌, ℕ, ◌<◌, ◌≤◌, List, [], ◌∷◌, ◌++◌, length, Bool, true, false, refl, sym, ap, ◌∙◌}
use Rattle.std.proofs.lemmas.Bool.{eqb-true, lt-ltb, le-ltb}
use Rattle.std.specs.Prelude.{◌==◌, if◌then◌else◌}
use Rattle.byte_text.specs.Splitting.{NoByte}
use Rattle.tas_language.specs.declared.unheard.Unheard.{Unheard}
use Rattle.tas_language.specs.declared.unheard.Unheard.TheVariants.{Long}
use Rattle.tas_language.specs.Requests.{most_bytes}
use Rattle.tas_language.specs.Held.{HoldsLine}
use Rattle.tas_language.specs.Unheard.{first_word, why_short_unheard, why_unheard}

-- ---- the first word

other : (byte : ℕ) → (byte ≡ 32 → ⊥) → (byte == 32) ≡ false
other byte never = go (byte == 32) refl
  where
    go : (b : Bool) → (byte == 32) ≡ b → (byte == 32) ≡ false
    go true is = absurd (never (eqb-true byte 32 is))
    go false is = is

pub first_split : (front after : List ℕ) → NoByte 32 front → first_word (front ++ 32 ∷ after) ≡ front
unfolding first_word
first_split [] after none = refl
first_split (byte ∷ bytes) after none =
    ap (λ (b : Bool). if b then [] else byte ∷ first_word (bytes ++ 32 ∷ after)) (other byte none.0) ∙ ap (λ (l : List ℕ). byte ∷ l) (first_split bytes after none.1)

pub first_whole : (line : List ℕ) → NoByte 32 line → first_word line ≡ line
unfolding first_word
first_whole [] none = refl
first_whole (byte ∷ bytes) none = ap (λ (b : Bool). if b then [] else byte ∷ first_word bytes) (other byte none.0) ∙ ap (λ (l : List ℕ). byte ∷ l) (first_whole bytes none.1)

-- ---- a line that is held

too_long : (said : List ℕ) → most_bytes < length said → why_unheard said ≡ Long
too_long said more = ap (λ (b : Bool). if b then Long else why_short_unheard said) (lt-ltb most_bytes (length said) more)

short_enough : (said : List ℕ) → length said ≤ most_bytes → why_unheard said ≡ why_short_unheard said
short_enough said few = ap (λ (b : Bool). if b then Long else why_short_unheard said) (le-ltb most_bytes (length said) few)

pub long_unheard : (said bytes : List ℕ) (long : Bool) → long ≡ true → HoldsLine said bytes long → Long ≡ why_unheard said
long_unheard said bytes true is holds = sym (too_long said holds)
long_unheard said bytes false is holds = absurd (cc is)

pub short_unheard : (said bytes : List ℕ) (long : Bool) (why : Unheard) → long ≡ false → HoldsLine said bytes long → why ≡ why_short_unheard bytes → why ≡ why_unheard said
short_unheard said bytes true why is holds found = absurd (cc is)
short_unheard said bytes false why is holds found = found ∙ ap why_short_unheard holds.0 ∙ sym (short_enough said holds.1)
