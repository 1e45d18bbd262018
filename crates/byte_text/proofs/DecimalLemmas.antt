-- Numbers in decimal digits.
use Rattle.std.proofs.Common.{◌≡◌, ℕ, ◌^◌, ◌<◌, Bool, true, false, List, Some, None, Result, Ok, Err, refl, sym, ◌∙◌}
use Rattle.std.specs.Prelude.{decimal}
use Rattle.std.specs.Result.{result_ok}
use Rattle.std.specs.Str.{bytes_eq}
use Rattle.std.specs.Str.Parse.{ParsesUnsigned}
use Rattle.std.proofs.lemmas.Fmt.{parse-decimal}
use Rattle.std.proofs.lemmas.Slice.Eq.{bytes_eq-Decides}

-- a result of which `ok` makes something, or nothing
pub was_ok : {T E : Type 0} (r : Result T E) (x : T) → Some x ≡ result_ok r → r ≡ Ok x
was_ok (Ok y) x e = cc
was_ok (Err y) x e = absurd cc

pub was_err : {T E : Type 0} (r : Result T E) → None ≡ result_ok r → (x : E) × (r ≡ Err x)
was_err (Ok y) e = absurd cc
was_err (Err y) e = (y, refl)

pub not_same : (a b : List ℕ) (r : Bool) → r ≡ bytes_eq a b → r ≡ false → a ≡ b → ⊥
not_same a b r is off same = let on : bytes_eq a b ≡ true = (bytes_eq-Decides a b).1 same in cc

pub same_text : (a b : List ℕ) (r : Bool) → r ≡ bytes_eq a b → r ≡ true → a ≡ b
same_text a b r is on = (bytes_eq-Decides a b).0 (sym is ∙ on)

ok_same : {E : Type 0} (a b : ℕ) → (let r : Result ℕ E = Ok a in r) ≡ Ok b → a ≡ b
ok_same a b e = cc

pub parsed_is : {E : Type 0} (n m : ℕ) (bs : List ℕ) (r : Result ℕ E) → ParsesUnsigned 64 10 bs r → bs ≡ decimal n → n < 2 ^ 64 → r ≡ Ok m → m ≡ n
parsed_is n m bs r parses is lt ok =
    let e : r ≡ Ok n = parse-decimal 64 n bs r lt lt is parses in
    ok_same m n (sym ok ∙ e)

ok_not_err : {E : Type 0} (n : ℕ) (x : E) → (let r : Result ℕ E = Ok n in r) ≡ Err x → ⊥
ok_not_err n x e = cc

pub not_parsed : {E : Type 0} (n : ℕ) (bs : List ℕ) (r : Result ℕ E) (x : E) → ParsesUnsigned 64 10 bs r → bs ≡ decimal n → n < 2 ^ 64 → r ≡ Err x → ⊥
not_parsed n bs r x parses is lt err =
    let e : r ≡ Ok n = parse-decimal 64 n bs r lt lt is parses in
    ok_not_err n x (sym e ∙ err)
