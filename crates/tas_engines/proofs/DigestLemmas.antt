-- Stretches of a movie's frames.
use Rattle.std.proofs.Common.{◌≡◌, ℕ, ◌+◌, ◌-◌, ◌*◌, ◌<◌, ◌≤◌, min, arith, subst, sym}
use Rattle.std.specs.Int.{div_ceil}
use Rattle.std.proofs.lemmas.Grind.{div_ceil_times}
use Rattle.std.proofs.Math.Nat.{add-mul, mul-le-mul_right}

module _ (every len i : ℕ) (pos : 1 ≤ every) where
  pub next_start : (i + 1) * every ≡ i * every + every
  next_start = omega (arith, add-mul i 1 every)

  -- a stretch begins within the movie
  pub begins : i < div_ceil len every → i * every < len
  begins lt =
      let most = (div_ceil_times len every (omega (arith, pos))).1 in
      let below = mul-le-mul_right {m = i + 1} {n = div_ceil len every} every (omega (arith, lt)) in
      omega (arith, most, below, next_start)

  -- and ends where the next one begins, or with the movie
  pub ends : i * every < len → i * every + min every (len - i * every) ≡ min ((i + 1) * every) len
  ends lt = omega (arith, lt, next_start)

  -- the last one ends with the movie
  pub covers : i ≡ div_ceil len every → len ≤ i * every
  covers is = subst (λ (n : ℕ). len ≤ n * every) (sym is) (div_ceil_times len every (omega (arith, pos))).0
