use Rattle.std.proofs.Common.{◌≡◌, ℕ, ◌+◌, ◌*◌, ◌/◌, ◌%◌, ◌≤◌, length, get_or, List, sym, subst, arith}
use Rattle.std.specs.Prelude.{min}
use Rattle.std.proofs.lemmas.Grind.{div_ceil_times}
use Rattle.tas_search.specs.declared.arrival.Arrival.{Arrival}
use Rattle.tas_search.specs.Inside.Arrivals.{Finds}
use Rattle.tas_search.proofs.GrowLemmas.{member}
use Rattle.tas_search.proofs.growing.play_parts.Goals as goal

pub returns : goal.returns
returns g c =
    let block = c.args.block.now in
    let parts = c.in_ok-parts.parts.items in
    let count : length c.in_ok-parts.parts.items ≡ length c.args.block.now / c.args.stretch + min 1 (length c.args.block.now % c.args.stretch) = omega (arith, c.in_ok-parts.ensures.len, c.in_ok-parts.parts.ok.0) in
    record {
      all = subst (λ (n : ℕ). length c.args.block.now ≤ n * c.args.stretch) (sym count) (div_ceil_times (length c.args.block.now) c.args.stretch c.requires.stretch).0;
      within = λ k lt. let found = member parts k lt in let given = (c.in_ok-parts.ensures.each k found.0 lt).1 in omega (arith, given.argument_is.in_bounds);
      each = λ k d lt whole.
          let given = (c.in_ok-parts.ensures.each k d lt).1 in
          subst (λ (bs : List Arrival). Finds c.args.space.now (c.args.place + k * c.args.stretch) bs (get_or parts k d).found.keys (get_or parts k d).tried) given.argument_is.value (given.call whole);
    }
