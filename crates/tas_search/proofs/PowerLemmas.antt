-- Digits that are multiplied, the lowest first.
use Rattle.std.proofs.Common.{◌≡◌, ℕ, zero, suc, drop-cons, ◌+◌, ◌-◌, ◌*◌, ◌/◌, ◌%◌, ◌^◌, ◌<◌, ◌≤◌, List, [], ◌∷◌, ◌++◌, length, get_or, reverse, drop, refl, sym, ap, subst, ◌∙◌, inl, inr, arith}
use Rattle.std.specs.Char.{digit_value}
use Rattle.std.specs.Int.{IsInRange}
use Rattle.std.specs.Str.Parse.{AllDigits, digits_value}
use Rattle.std.proofs.lemmas.Int.Digits.{digits_value_push, digits_push}
use Rattle.std.proofs.lemmas.Str.{digit_value_digit}
use Rattle.std.proofs.lemmas.Str.Parse.{digit_at}
use Rattle.std.proofs.lemmas.Bool.{cases_eq}
use Rattle.std.proofs.Math.Nat.{mul_comm, mul-le-mul, mul_assoc, mul-suc, le-mul_of_pos_right, div-mul-le_self, div-add-mod, pow-zero, pow-suc, pow-succ'}
use Rattle.std.proofs.lemmas.Nat.{pow-add}
use Rattle.std.proofs.lemmas.List.{reverse-append, length-reverse, length-append, get_or_append_left}
use Rattle.tas_search.specs.Power.{IsDecimal}
use Rattle.tas_search.specs.Inside.Digits.{low_value, HasTop, IsLow, IsTopped}

-- ---- one more digit

pub low_push : (ds : List ℕ) (c : ℕ) → low_value (ds ++ c ∷ []) ≡ low_value ds + 10 ^ length ds * digit_value c
low_push [] c = omega arith
low_push (d ∷ ds) c =
    let more : low_value (ds ++ c ∷ []) ≡ low_value ds + 10 ^ length ds * digit_value c = low_push ds c in
    let power : 10 ^ suc (length ds) ≡ 10 * 10 ^ length ds = omega arith in
    let here : 10 ^ suc (length ds) * digit_value c ≡ (10 * 10 ^ length ds) * digit_value c = ap (λ (n : ℕ). n * digit_value c) power in
    omega (arith, more, here)

pub top_push : (ds : List ℕ) (c : ℕ) → (c ≡ 48 → ⊥) → HasTop (ds ++ c ∷ [])
top_push [] c h = h
top_push (d ∷ []) c h = h
top_push (d ∷ e ∷ ds) c h = top_push (e ∷ ds) c h

-- the digit that is written for a number below ten
pub digit_range : (r : ℕ) → r < 10 → IsInRange 48 57 (48 + r)
digit_range r h = (omega arith, omega arith)

pub digit_written : (r : ℕ) → r < 10 → digit_value (48 + r) ≡ r
digit_written r h = let same : digit_value (48 + r) + 48 ≡ 48 + r = digit_value_digit (48 + r) (digit_range r h) in omega (arith, same)

-- ---- the highest first

pub value_reversed : (ds : List ℕ) → digits_value 10 (reverse ds) ≡ low_value ds
value_reversed [] = refl
value_reversed (d ∷ ds) =
    ap (digits_value 10) (reverse-append (d ∷ []) ds) ∙ digits_value_push 10 (reverse ds) d ∙ (let rest : digits_value 10 (reverse ds) ≡ low_value ds = value_reversed ds in omega (arith, rest))

pub all_reversed : (ds : List ℕ) → AllDigits 10 ds → AllDigits 10 (reverse ds)
all_reversed [] h = tt
all_reversed (d ∷ ds) h = subst (AllDigits 10) (sym (reverse-append (d ∷ []) ds)) (digits_push 10 (reverse ds) d (all_reversed ds h.1) h.0)

pub first_reversed : (ds : List ℕ) → HasTop ds → get_or (reverse ds) 0 0 ≡ 48 → ⊥
first_reversed [] h e = h
first_reversed (d ∷ []) h e = h e
first_reversed (d ∷ c ∷ ds) h e =
    let long : 0 < length (reverse (c ∷ ds)) = omega (arith, length-reverse (c ∷ ds)) in
    first_reversed (c ∷ ds) h (sym (ap (λ (xs : List ℕ). get_or xs 0 0) (reverse-append (d ∷ []) (c ∷ ds)) ∙ get_or_append_left (reverse (c ∷ ds)) (d ∷ []) 0 0 long) ∙ e)

pub decimal_reversed : (ds : List ℕ) (n : ℕ) → IsLow ds n → IsDecimal (reverse ds) n
decimal_reversed ds n h = record {
  digits = (some ds h.top, all_reversed ds h.all);
  value = value_reversed ds ∙ h.value;
  first = λ e. absurd (first_reversed ds h.top e);
}
  where
    some : (ds : List ℕ) → HasTop ds → 0 < length (reverse ds)
    some [] h = absurd h
    some (d ∷ ds) h = omega (arith, length-reverse (d ∷ ds))

-- ---- a digit is multiplied

-- what is carried before a digit, and what after it
pub step_value : (low p carry f d rest total q r : ℕ) → d * f + carry ≡ 10 * q + r → low + p * (carry + f * (d + 10 * rest)) ≡ total → (low + p * r) + (10 * p) * (q + f * rest) ≡ total
step_value low p carry f d rest total q r sum h =
    let more : p * (d * f + carry) ≡ p * (10 * q + r) = ap (λ (n : ℕ). p * n) sum in
    omega (arith, more, h)

-- what is carried is below the factor
pub carry_below : (d f carry : ℕ) → d < 10 → carry < f → (d * f + carry) / 10 < f
carry_below d f carry h g = let le : d * f ≤ 9 * f = mul-le-mul (omega arith) (le_self f) in omega (arith, le)
  where
    le_self : (k : ℕ) → k ≤ k
    le_self k = omega arith

div_mod : (n : ℕ) → n ≡ 10 * (n / 10) + n % 10
div_mod n = omega arith

mod_below : (n : ℕ) → n % 10 < 10
mod_below n = omega arith

topped : (n : ℕ) (ds : List ℕ) → 0 < n → IsTopped (n / 10) (ds ++ (48 + n % 10) ∷ [])
topped n ds h =
    elim (cases_eq (n / 10) 0) [
      | inl e ↦ inr (top_push ds (48 + n % 10) (λ same. let whole : n ≡ 10 * (n / 10) + n % 10 = div_mod n in absurd (omega (arith, whole, e, same, h))))
      | inr ne ↦ inl (omega (arith, ne))
    ]

top_last : (ds : List ℕ) (i : ℕ) → suc i ≡ length ds → HasTop ds → get_or ds i 0 ≡ 48 → ⊥
top_last [] i e h same = h
top_last (d ∷ []) i e h same = let only : i ≡ 0 = omega (arith, e) in h (subst (λ (k : ℕ). get_or (d ∷ []) k 0 ≡ 48) only same)
top_last (d ∷ c ∷ ds) zero e h same = absurd (omega (arith, e))
top_last (d ∷ c ∷ ds) (suc i) e h same = top_last (c ∷ ds) i (omega (arith, e)) h same

pub digit_product : (ds : List ℕ) (i d f : ℕ) → AllDigits 10 ds → i < length ds → d ≡ get_or ds i 0 - 48 → d * f ≤ 9 * f
digit_product ds i d f all lt is =
    let range : IsInRange 48 57 (get_or ds i 0) = digit_at ds i all lt in
    let high = range.1 in
    mul-le-mul (omega (arith, is, high)) (same f)
  where
    same : (k : ℕ) → k ≤ k
    same k = omega arith

-- the digits so far, what is carried, and the product of those that are left
pub record IsPart (ds out : List ℕ) (f carry i : ℕ) : Type 0 where
  pub all : AllDigits 10 out
  pub value : low_value out + 10 ^ length out * (carry + f * low_value (drop i ds)) ≡ low_value ds * f
  pub below : carry < f
  pub top : i ≡ length ds → IsTopped carry out

pub part_start : (ds out : List ℕ) (f : ℕ) → out ≡ [] → 0 < f → HasTop ds → IsPart ds out f 0 0
part_start ds out f e pos top = subst (λ (xs : List ℕ). IsPart ds xs f 0 0) (sym e) (record {
  all = tt;
  value = omega arith;
  below = pos;
  top = λ none. absurd (empty ds none top);
})
  where
    empty : (ds : List ℕ) → 0 ≡ length ds → HasTop ds → ⊥
    empty [] e h = h
    empty (d ∷ ds) e h = absurd (omega (arith, e))

-- the power of ten after one more digit
power_more : (ds : List ℕ) (c : ℕ) → 10 ^ length (ds ++ c ∷ []) ≡ 10 * 10 ^ length ds
power_more ds c =
    let longer : length (ds ++ c ∷ []) ≡ suc (length ds) = omega (arith, length-append ds (c ∷ [])) in
    ap (λ (n : ℕ). 10 ^ n) longer ∙ pow-succ' 10 (length ds)

pub part_more : (ds out new : List ℕ) (i f carry d : ℕ) → AllDigits 10 ds → HasTop ds → i < length ds → d ≡ get_or ds i 0 - 48 → new ≡ out ++ (48 + (d * f + carry) % 10) ∷ []
    → IsPart ds out f carry i → IsPart ds new f ((d * f + carry) / 10) (i + 1)
part_more ds out new i f carry d all top lt is e h =
    let n = d * f + carry in
    let c = get_or ds i 0 in
    let range : IsInRange 48 57 c = digit_at ds i all lt in
    let low = range.0 in
    let high = range.1 in
    let digit : digit_value c ≡ d = omega (arith, digit_value_digit c range, is) in
    let ten : d < 10 = omega (arith, is, low, high) in
    let rest = low_value (drop (i + 1) ds) in
    let after : suc i ≡ i + 1 = omega arith in
    let next : low_value (drop i ds) ≡ d + 10 * rest = ap low_value (drop-cons ds i 0 lt) ∙ ap (λ (k : ℕ). digit_value c + 10 * low_value (drop k ds)) after ∙ ap (λ (k : ℕ). k + 10 * rest) digit in
    let before : low_value out + 10 ^ length out * (carry + f * (d + 10 * rest)) ≡ low_value ds * f = sym (ap (λ (k : ℕ). low_value out + 10 ^ length out * (carry + f * k)) next) ∙ h.value in
    let pushed : low_value (out ++ (48 + n % 10) ∷ []) ≡ low_value out + 10 ^ length out * (n % 10) = low_push out (48 + n % 10) ∙ ap (λ (k : ℕ). low_value out + 10 ^ length out * k) (digit_written (n % 10) (mod_below n)) in
    subst (λ (xs : List ℕ). IsPart ds xs f (n / 10) (i + 1)) (sym e) (record {
      all = digits_push 10 out (48 + n % 10) h.all (small n);
      value =
          ap (λ (k : ℕ). k + 10 ^ length (out ++ (48 + n % 10) ∷ []) * (n / 10 + f * rest)) pushed
          ∙ ap (λ (k : ℕ). low_value out + 10 ^ length out * (n % 10) + k * (n / 10 + f * rest)) (power_more out (48 + n % 10))
          ∙ step_value (low_value out) (10 ^ length out) carry f d rest (low_value ds * f) (n / 10) (n % 10) (div_mod n) before;
      below = carry_below d f carry ten h.below;
      top = λ last. topped n out (positive d f carry (above c d is low (top_last ds i (omega (arith, last)) top)) h.below);
    })
  where
    small : (n : ℕ) → digit_value (48 + n % 10) < 10
    small n = let w : digit_value (48 + n % 10) ≡ n % 10 = digit_written (n % 10) (mod_below n) in omega (arith, w)

    above : (c d : ℕ) → d ≡ c - 48 → 48 ≤ c → (c ≡ 48 → ⊥) → 1 ≤ d
    above c d is low ne = omega (arith, is, low, ne)

    positive : (d f carry : ℕ) → 1 ≤ d → carry < f → 0 < d * f + carry
    positive d f carry one lt = let some : 1 ≤ f = omega (arith, lt) in let more : 1 * 1 ≤ d * f = mul-le-mul one some in omega (arith, more)

-- the digits so far, and what is carried after them
pub record IsRest (out : List ℕ) (carry total : ℕ) : Type 0 where
  pub all : AllDigits 10 out
  pub value : low_value out + 10 ^ length out * carry ≡ total
  pub top : IsTopped carry out

pub part_end : (ds out : List ℕ) (f carry i : ℕ) → i ≡ length ds → IsPart ds out f carry i → IsRest out carry (low_value ds * f)
part_end ds out f carry i e h = record {
  all = h.all;
  value = ap (λ (k : ℕ). low_value out + 10 ^ length out * k) (nothing f carry (low_value (drop i ds)) (ap low_value (ap (λ (k : ℕ). drop k ds) e ∙ none ds))) ∙ h.value;
  top = h.top e;
}
  where
    none : (ds : List ℕ) → drop (length ds) ds ≡ []
    none [] = refl
    none (d ∷ ds) = none ds

    nothing : (f carry rest : ℕ) → rest ≡ 0 → carry ≡ carry + f * rest
    nothing f carry rest e = rw e (omega arith)

pub rest_more : (out new : List ℕ) (carry total : ℕ) → 0 < carry → new ≡ out ++ (48 + carry % 10) ∷ [] → IsRest out carry total → IsRest new (carry / 10) total
rest_more out new carry total pos e h =
    let pushed : low_value (out ++ (48 + carry % 10) ∷ []) ≡ low_value out + 10 ^ length out * (carry % 10) = low_push out (48 + carry % 10) ∙ ap (λ (k : ℕ). low_value out + 10 ^ length out * k) (digit_written (carry % 10) (mod_below carry)) in
    let sum : 10 ^ length out * carry ≡ 10 ^ length out * (10 * (carry / 10) + carry % 10) = ap (λ (k : ℕ). 10 ^ length out * k) (div_mod carry) in
    subst (λ (xs : List ℕ). IsRest xs (carry / 10) total) (sym e) (record {
      all = digits_push 10 out (48 + carry % 10) h.all (let w : digit_value (48 + carry % 10) ≡ carry % 10 = digit_written (carry % 10) (mod_below carry) in omega (arith, w));
      value =
          ap (λ (k : ℕ). k + 10 ^ length (out ++ (48 + carry % 10) ∷ []) * (carry / 10)) pushed
          ∙ ap (λ (k : ℕ). low_value out + 10 ^ length out * (carry % 10) + k * (carry / 10)) (power_more out (48 + carry % 10))
          ∙ added (low_value out) (10 ^ length out) carry (carry / 10) (carry % 10) total sum h.value;
      top = topped carry out pos;
    })
  where
    added : (low p carry q r total : ℕ) → p * carry ≡ p * (10 * q + r) → low + p * carry ≡ total → (low + p * r) + (10 * p) * q ≡ total
    added low p carry q r total e h = omega (arith, e, h)

pub rest_end : (out : List ℕ) (carry total : ℕ) → carry ≡ 0 → IsRest out carry total → IsLow out total
rest_end out carry total e h = record { all = h.all; value = nothing (low_value out) (10 ^ length out) carry total e h.value; top = high carry e h.top }
  where
    nothing : (low p carry total : ℕ) → carry ≡ 0 → low + p * carry ≡ total → low ≡ total
    nothing low p carry total e h = omega (arith, ap (λ (k : ℕ). p * k) e, h)

    high : (carry : ℕ) → carry ≡ 0 → IsTopped carry out → HasTop out
    high carry e (inl pos) = absurd (omega (arith, e, pos))
    high carry e (inr top) = top

-- ---- powers

pub one_low : (b : ℕ) (ds : List ℕ) → ds ≡ 49 ∷ [] → IsLow ds (b ^ 0)
one_low b ds e = subst (λ (xs : List ℕ). IsLow xs (b ^ 0)) (sym e) (record { all = (omega arith, tt); value = sym (pow-zero b); top = λ same. absurd (omega (arith, same)) })

pub own_value : (ds : List ℕ) (n : ℕ) → IsLow ds n → IsLow ds (low_value ds)
own_value ds n h = record { all = h.all; value = refl; top = h.top }

pub raised : (ds new : List ℕ) (n f k : ℕ) → IsLow ds (n * f ^ k) → IsLow new (low_value ds * f) → IsLow new (n * f ^ (k + 1))
raised ds new n f k h g = subst (IsLow new) (ap (λ (v : ℕ). v * f) h.value ∙ mul_assoc n (f ^ k) f ∙ ap (λ (v : ℕ). n * v) more) g
  where
    next : suc k ≡ k + 1
    next = omega arith

    more : f ^ k * f ≡ f ^ (k + 1)
    more = sym (pow-suc f k) ∙ ap (λ (n : ℕ). f ^ n) next

pub not_raised : (ds : List ℕ) (f : ℕ) → IsLow ds (low_value ds) → IsLow ds (low_value ds * f ^ 0)
not_raised ds f h = subst (IsLow ds) one h
  where
    same : (n : ℕ) → n ≡ n * 1
    same n = omega arith

    one : low_value ds ≡ low_value ds * f ^ 0
    one = same (low_value ds) ∙ ap (λ (k : ℕ). low_value ds * k) (sym (pow-zero f))

pow_of_pow : (base size n : ℕ) → (base ^ size) ^ n ≡ base ^ (size * n)
pow_of_pow base size zero = pow-zero (base ^ size) ∙ sym (ap (λ (k : ℕ). base ^ k) none ∙ pow-zero base)
  where
    none : size * 0 ≡ 0
    none = omega arith
pow_of_pow base size (suc n) =
    pow-suc (base ^ size) n
    ∙ ap (λ (k : ℕ). k * base ^ size) (pow_of_pow base size n)
    ∙ sym (pow-add base (size * n) size)
    ∙ ap (λ (k : ℕ). base ^ k) (sym (mul-suc size n))

-- a power of a power, and what is left
pub power_split : (base factor size exponent : ℕ) → factor ≡ base ^ size → (1 * factor ^ (exponent / size)) * base ^ (exponent % size) ≡ base ^ exponent
power_split base factor size exponent is =
    ap (λ (n : ℕ). n * base ^ (exponent % size)) (same (factor ^ (exponent / size)) ∙ ap (λ (n : ℕ). n ^ (exponent / size)) is ∙ pow_of_pow base size (exponent / size))
    ∙ sym (pow-add base (size * (exponent / size)) (exponent % size))
    ∙ ap (λ (n : ℕ). base ^ n) (div-add-mod exponent size)
  where
    same : (n : ℕ) → 1 * n ≡ n
    same n = omega arith

pub power_whole : (one most all : List ℕ) (base factor size exponent : ℕ) → one ≡ 49 ∷ [] → factor ≡ base ^ size → IsLow most (low_value one * factor ^ (exponent / size))
    → IsLow all (low_value most * base ^ (exponent % size)) → IsLow all (base ^ exponent)
power_whole one most all base factor size exponent is power h g =
    subst (IsLow all)
    (ap (λ (n : ℕ). n * base ^ (exponent % size)) (h.value ∙ ap (λ (ds : List ℕ). low_value ds * factor ^ (exponent / size)) is) ∙ power_split base factor size exponent power) g

pub first_power : (base : ℕ) → base ≡ base ^ 1
first_power base = one ∙ ap (λ (n : ℕ). n * base) (sym (pow-zero base)) ∙ sym (pow-suc base 0)
  where
    one : base ≡ 1 * base
    one = omega arith

-- a power's factor once more
pub factor_more : (base factor exponent : ℕ) → factor ≡ base ^ exponent → factor * base ≡ base ^ (exponent + 1)
factor_more base factor exponent is = ap (λ (n : ℕ). n * base) is ∙ sym (pow-suc base exponent) ∙ ap (λ (n : ℕ). base ^ n) next
  where
    next : suc exponent ≡ exponent + 1
    next = omega arith

pub factor_high : (base factor most : ℕ) → factor ≤ most / base → factor * base ≤ most
factor_high base factor most le = le-trans (factor * base) ((most / base) * base) most (mul-le-mul le (same base)) (div-mul-le_self most base)
  where
    same : (n : ℕ) → n ≤ n
    same n = omega arith

    le-trans : (a b c : ℕ) → a ≤ b → b ≤ c → a ≤ c
    le-trans a b c h g = omega arith

pub factor_low : (base factor : ℕ) → 0 < base → 0 < factor → 0 < factor * base
factor_low base factor b f = omega (arith, more)
  where
    more : factor ≤ factor * base
    more = le-mul_of_pos_right factor b

-- the text of digits, the highest first
pub text_reversed : (ds text : List ℕ) (n : ℕ) → IsLow ds n → text ≡ reverse ds → IsDecimal text n
text_reversed ds text n h e = subst (λ (xs : List ℕ). IsDecimal xs n) (sym e) (decimal_reversed ds n h)

-- ---- a number of powers

-- digits of a power that were multiplied
pub times_whole : (digits product : List ℕ) (factor power : ℕ) → IsLow digits power → IsLow product (low_value digits * factor) → IsLow product (factor * power)
times_whole digits product factor power h g = subst (IsLow product) (ap (λ (n : ℕ). n * factor) h.value ∙ mul_comm power factor) g
