-- Lines of names files.
use Rattle.std.proofs.Common.{◌≡◌, ℕ, zero, suc, ◌+◌, ◌<◌, ◌≤◌, ◌&&◌, Bool, true, false, List, [], ◌∷◌, ◌++◌, length, get_or, drop, Option, Some, None, refl, sym, ap, subst, ◌∙◌, arith, append_assoc}
use Rattle.std.specs.Prelude.{nat_lt, nat_le, if◌then◌else◌}
use Rattle.std.specs.List.{flat_map}
use Rattle.std.specs.Str.{bytes_eq}
use Rattle.std.proofs.lemmas.Bool.{ltb-true, leb-true}
use Rattle.std.proofs.lemmas.Grind.{flat_map-append}
use Rattle.std.proofs.lemmas.List.{append-nil, length-append, map-append}
use Rattle.std.proofs.lemmas.Slice.Eq.{bytes_eq-Decides}
use Rattle.byte_text.specs.Digits.{hex_byte}
use Rattle.byte_text.specs.Splitting.{NoByte}
use Rattle.tas_engines.specs.declared.name.Name.{Name}
use Rattle.tas_engines.specs.declared.names.NamesError.{NamesError}
use Rattle.tas_engines.specs.declared.names.NamesError.TheVariants.{Memory, Line}
use Rattle.tas_engines.specs.declared.names.NamesFaultKind.{NamesFaultKind}
use Rattle.tas_engines.specs.declared.names.NamesFaultKind.TheVariants.{End, Space, Address, Name as NameKind}
use Rattle.tas_engines.specs.Names.{Names, names_of, named, digits_address, address_of}
use Rattle.tas_engines.specs.NamesFile.{name_line, is_name, IsNew, AreNew, IsWrong, IsLineFault, IsNamesError}
use Rattle.tas_engines.specs.Inside.NameLines.{Gives, IsWrongLine}

-- ---- addresses

some_is : (m n : ℕ) → (let r : Option ℕ = Some m in r) ≡ Some n → m ≡ n
some_is m n h = cc

address_at : (w : List ℕ) (d at : ℕ) (a b c : Bool) → nat_le 128 d ≡ a → nat_lt d 256 ≡ b → bytes_eq w (hex_byte d) ≡ c → (if a && b && c then Some d else None) ≡ Some at → (w ≡ hex_byte at) × (128 ≤ at) × (at < 256)
address_at w d at true true true p q r h =
    let same : d ≡ at = some_is d at h in
    subst (λ (n : ℕ). (w ≡ hex_byte n) × (128 ≤ n) × (n < 256)) same ((bytes_eq-Decides w (hex_byte d)).0 r, leb-true 128 d p, ltb-true d 256 q)
address_at w d at true true false p q r h = absurd cc
address_at w d at true false c p q r h = absurd cc
address_at w d at false b c p q r h = absurd cc

pub address_is : (w : List ℕ) (at : ℕ) → address_of w ≡ Some at → (w ≡ hex_byte at) × (128 ≤ at) × (at < 256)
address_is w at e = address_at w (digits_address w) at (nat_le 128 (digits_address w)) (nat_lt (digits_address w) 256) (bytes_eq w (hex_byte (digits_address w))) refl refl refl e

-- ---- names

pub flat_map_push : {X : Type 0} (f : X → List ℕ) (xs : List X) (x : X) → flat_map f (xs ++ x ∷ []) ≡ flat_map f xs ++ f x
flat_map_push f xs x = flat_map-append f xs (x ∷ []) ∙ ap (λ (r : List ℕ). flat_map f xs ++ r) (append-nil (f x))

pub named_here : {Z : Type 0} (names : List (Name Z)) (k : ℕ) (d : Name Z) (w : List ℕ) → k < length names → bytes_eq (get_or names k d).text.items w ≡ true → named (names_of (drop k names)) w ≡ Some (get_or names k d).address
named_here [] k d w lt same = absurd (omega arith)
named_here (n ∷ names) zero d w lt same = rw same refl
named_here (n ∷ names) (suc k) d w lt same = named_here names k d w (omega arith) same

pub named_later : {Z : Type 0} (names : List (Name Z)) (k : ℕ) (d : Name Z) (w : List ℕ) → k < length names → bytes_eq (get_or names k d).text.items w ≡ false → named (names_of (drop k names)) w ≡ named (names_of (drop (suc k) names)) w
named_later [] k d w lt other = absurd (omega arith)
named_later (n ∷ names) zero d w lt other = rw other refl
named_later (n ∷ names) (suc k) d w lt other = named_later names k d w (omega arith) other

pub named_all : {Z : Type 0} (names : List (Name Z)) (k : ℕ) (w : List ℕ) → length names ≤ k → named (names_of (drop k names)) w ≡ None
named_all [] zero w le = refl
named_all [] (suc k) w le = refl
named_all (n ∷ names) zero w le = absurd (omega arith)
named_all (n ∷ names) (suc k) w le = named_all names k w (omega arith)

-- ---- lines of names

new_more : (names more : Names) (n : List ℕ × ℕ) → AreNew names more → IsNew (names ++ more) n → AreNew names (more ++ n ∷ [])
new_more names [] n h new = (subst (λ (m : Names). IsNew m n) (append-nil names) new, tt)
new_more names (m ∷ more) n h new = (h.0, new_more (names ++ m ∷ []) more n h.1 (subst (λ (r : Names). IsNew r n) (sym (append_assoc names (m ∷ []) more)) new))

pub new_name : (names : Names) (n : List ℕ × ℕ) → AreNew [] names → IsNew names n → AreNew [] (names ++ n ∷ [])
new_name names n h new = new_more [] names n h new

-- a line that gives a name makes it one more
pub gives_new : (names : Names) (said name : List ℕ) (at : ℕ) → Gives names said name at → IsNew names (name, at)
gives_new names said name at g = record { is = g.name_is; low = g.low; high = g.high }

-- a text goes on with one line more
pub line_more : (text rest said after : List ℕ) (names : Names) (n : List ℕ × ℕ) → text ≡ flat_map name_line names ++ rest → rest ≡ said ++ 10 ∷ after → said ≡ n.0 ++ 32 ∷ hex_byte n.1
    → text ≡ flat_map name_line (names ++ n ∷ []) ++ after
line_more text rest said after names n is split e =
    is ∙ ap (λ (r : List ℕ). flat_map name_line names ++ r) (split ∙ ap (λ (r : List ℕ). r ++ 10 ∷ after) e ∙ sym (append_assoc (n.0 ++ 32 ∷ hex_byte n.1) (10 ∷ []) after))
    ∙ sym (append_assoc (flat_map name_line names) (name_line n) after)
    ∙ ap (λ (r : List ℕ). r ++ after) (sym (flat_map_push name_line names n))

-- what follows a byte is shorter
pub shorter : (c : ℕ) (rest a b : List ℕ) → rest ≡ a ++ c ∷ b → length b < length rest
shorter c rest a b is = let e : length rest ≡ length (a ++ c ∷ b) = ap length is in omega (arith, e, length-append a (c ∷ b))

-- where nothing is left all was read
pub all_read : (text made rest : List ℕ) → text ≡ made ++ rest → length rest ≡ 0 → text ≡ made
all_read text made [] is none = is ∙ append-nil made
all_read text made (b ∷ rest) is none = absurd (omega arith)

pub no_bytes : (bytes : List ℕ) → length bytes ≡ 0 → bytes ≡ []
no_bytes [] e = refl
no_bytes (b ∷ bytes) e = absurd (omega arith)

line_fault : (names : Names) (rest first after : List ℕ) (kind : NamesFaultKind) → rest ≡ first ++ 10 ∷ after → NoByte 10 first → IsWrong names first kind → IsLineFault names rest kind
line_fault names rest first after End is none h = absurd h
line_fault names rest first after Space is none h = (first, after, is, none, h)
line_fault names rest first after Address is none h = (first, after, is, none, h)
line_fault names rest first after NameKind is none h = (first, after, is, none, h)

-- a wrong line after those of some names
pub names_fault : (text rest first after : List ℕ) (names : Names) (number : ℕ) (error : NamesError) → text ≡ flat_map name_line names ++ rest → AreNew [] names → number ≡ length names + 1 → rest ≡ first ++ 10 ∷ after → NoByte 10 first
    → IsWrongLine names number first error → IsNamesError text error
names_fault text rest first after names number Memory is new place split none h = absurd h
names_fault text rest first after names number (Line n kind) is new place split none h = record {
  names = names;
  rest = rest;
  is = is;
  new = new;
  place = h.0 ∙ place;
  fault = line_fault names rest first after kind split none h.1;
}

names_push : {Z : Type 0} (old : List (Name Z)) (n : Name Z) → names_of (old ++ n ∷ []) ≡ names_of old ++ (n.text.items, n.address) ∷ []
names_push {Z = Z} old n = map-append (λ (m : Name Z). (m.text.items, m.address)) old (n ∷ [])

pub names_length : {Z : Type 0} (names : List (Name Z)) → length (names_of names) ≡ length names
names_length [] = refl
names_length (n ∷ names) = ap suc (names_length names)

-- one name more is read
pub name_read : {Z : Type 0} (text rest said after : List ℕ) (old new : List (Name Z)) (n : Name Z) → text ≡ flat_map name_line (names_of old) ++ rest → AreNew [] (names_of old) → rest ≡ said ++ 10 ∷ after → Gives (names_of old) said n.text.items n.address → new ≡ old ++ n ∷ [] → (text ≡ flat_map name_line (names_of new) ++ after) × AreNew [] (names_of new)
name_read text rest said after old new n is are split g e =
    let same : names_of new ≡ names_of old ++ (n.text.items, n.address) ∷ [] = ap names_of e ∙ names_push old n in (
      subst (λ (ns : Names). text ≡ flat_map name_line ns ++ after) (sym same) (line_more text rest said after (names_of old) (n.text.items, n.address) is split g.is),
      subst (AreNew []) (sym same) (new_name (names_of old) (n.text.items, n.address) are (gives_new (names_of old) said n.text.items n.address g)),
    )

pub gives : (names : Names) (said name digits : List ℕ) (at : ℕ) → said ≡ name ++ 32 ∷ digits → address_of digits ≡ Some at → is_name names name ≡ true → Gives names said name at
gives names said name digits at is at_is new =
    let a = address_is digits at at_is in
    record {
      is = is ∙ ap (λ (r : List ℕ). name ++ 32 ∷ r) a.0;
      name_is = new;
      low = a.1;
      high = a.2;
    }
