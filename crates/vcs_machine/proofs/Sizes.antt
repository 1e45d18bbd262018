-- The sizes of cartridges.
use Rattle.std.proofs.Common.{◌≡◌, ℕ, ◌+◌, ◌-◌, ◌/◌, ◌%◌, ◌<◌, ◌≤◌, ◌==◌, true, sym, subst, arith, ⊎_elim}
use Rattle.std.specs.Prelude.{bit_and}
use Rattle.std.proofs.lemmas.Bool.{or_cases, eqb-true, eq-eqb}
use Rattle.std.proofs.lemmas.Nat.{and_mask}
use Rattle.vcs_riot.specs.Address.{is_high}
use Rattle.vcs_inputs.specs.Cart.{is_cart_size}
use Rattle.vcs_machine.specs.Inside.Mirror.{IsMirror}

-- what holds of both sizes
by_size : (P : ℕ → Type 0) (n : ℕ) → is_cart_size n ≡ true → P 2048 → P 4096 → P n
by_size P n is small large =
    ⊎_elim (λ e. subst P (sym (eqb-true n 2048 e)) small) (λ e. subst P (sym (eqb-true n 4096 e)) large) (or_cases (n == 2048) (n == 4096) is)

-- the low lines of an address
pub low_lines : (n addr : ℕ) → is_cart_size n ≡ true → bit_and addr (n - 1) ≡ addr % n
low_lines n addr is = by_size (λ m. bit_and addr (m - 1) ≡ addr % m) n is (and_mask addr 11) (and_mask addr 12)

pub some_bytes : (n : ℕ) → is_cart_size n ≡ true → 0 < n
some_bytes n is = by_size (λ m. 0 < m) n is (omega arith) (omega arith)

pub least_bytes : (n : ℕ) → is_cart_size n ≡ true → 2048 ≤ n
least_bytes n is = by_size (λ m. 2048 ≤ m) n is (omega arith) (omega arith)

pub most_bytes : (n : ℕ) → is_cart_size n ≡ true → n ≤ 4096
most_bytes n is = by_size (λ m. m ≤ 4096) n is (omega arith) (omega arith)

-- a mirror's addresses show a cartridge's bytes in order
pub code_shows : (n start place addr : ℕ) → is_cart_size n ≡ true → IsMirror start n → place < n → place + start ≡ addr % 8192 → addr % n ≡ place
code_shows n start place addr is mirror within from =
    by_size (λ m. start % m ≡ 0 → place < m → addr % m ≡ place) n is (λ w l. omega (arith, w, l, from)) (λ w l. omega (arith, w, l, from)) mirror.whole within

-- and A12 is high there
pub code_high : (n start place addr : ℕ) → IsMirror start n → place < n → place + start ≡ addr % 8192 → is_high 12 addr ≡ true
code_high n start place addr mirror within from =
    let first = mirror.first in
    let last = mirror.last in
    eq-eqb (addr / 4096 % 2) 1 (omega (arith, first, last, within, from))
