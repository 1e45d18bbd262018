use Rattle.std.proofs.lemmas.Grind.{common_steps}
use Rattle.std.proofs.Common.{◌≡◌, ◌↔◌, ℕ, Bool, false, List, get_or, Some, arith}
use Rattle.std.specs.Prelude.{slice_get, IsTrue}
use Rattle.std.proofs.lemmas.Bool.{both_ways}
use Rattle.std.proofs.lemmas.Option.{get_or_from_slice_get}
use Rattle.vcs_inputs.specs.declared.input.Input.{Input}
use Rattle.tas_movie.proofs.run.run_length.Goals as goal

-- an input that a test tells apart is another one
other_there : (inputs : List Input) (n : ℕ) (input d : Input) (equal : Bool) → (IsTrue equal ↔ (get_or inputs n d ≡ input)) → equal ≡ false → slice_get inputs n ≡ Some input → ⊥
other_there inputs n input d equal tells off is = both_ways equal off (tells.1 (get_or_from_slice_get inputs n input d is))

pub returns-else-eq-clause-longest : goal.returns-else-eq-clause-longest
returns-else-eq-clause-longest c = λ lt is. other_there c.args.inputs.now c.loop-count.count c.args.input _ c.eq.result c.eq.ensures.same c.if-eq.false is

pub returns-after-loop-count-clause-longest : goal.returns-after-loop-count-clause-longest
returns-after-loop-count-clause-longest c = λ lt. absurd (omega (arith, lt))

pub loop-count-preserved : goal.loop-count-preserved
loop-count-preserved c = grind (arith, common_steps)
