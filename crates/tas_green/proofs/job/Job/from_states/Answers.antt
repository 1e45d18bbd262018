use Rattle.std.proofs.Common.{◌≤◌, ◌∙◌, ℕ, length, take, min, ap, sym, arith}
use Rattle.std.proofs.lemmas.List.{length-take-le}
use Rattle.tas_green.specs.Zone.{nearest}
use Rattle.tas_green.specs.Grid.{stride}
use Rattle.tas_green.proofs.JobLemmas.{taken_ready}
use Rattle.tas_green.proofs.job.Job.from_states.Goals as goal

pub returns-clause-inputs : goal.returns-clause-inputs
returns-clause-inputs g c =
    let end = c.min-end.ensures ∙ ap (min c.args.near) c.len.ensures.len in
    c.from_vec.ensures ∙ c.in_ok-inputs.ensures.items ∙ ap (take c.min-end.result) c.inputs.ensures.inputs ∙ ap (λ (n : ℕ). take n c.args.movie.now.inputs) end

pub returns-clause-start : goal.returns-clause-start
returns-clause-start g c = c.kept_at.ensures.frame ∙ ap (λ (n : ℕ). nearest n c.args.states.now) (c.min-end.ensures ∙ ap (min c.args.near) c.len.ensures.len)

pub invariant_of-result : goal.invariant_of-result
invariant_of-result g c =
    let end = c.min-end.result in
    let within : end ≤ length c.args.movie.now.inputs = omega (arith, c.min-end.ensures, c.len.ensures.len) in
    taken_ready c.args.movie.now c.in_ok-cart.cart c.from_vec.result c.stride.result c.kept_at.result c.in_ok-list.list.items _ end (c.in_ok-cart.ensures ∙ c.cart.ensures)
    (c.from_vec.ensures ∙ c.in_ok-inputs.ensures.items ∙ ap (take end) c.inputs.ensures.inputs) within c.stride.ensures.positive c.kept_at.ensures.bound c.kept_at.ensures.state c.in_ok-list.ensures.items
    (omega (arith, c.room.ensures, c.in_ok-list.ensures.capacity))

pub returns-clause-cart : goal.returns-clause-cart
returns-clause-cart g c = c.in_ok-cart.ensures ∙ c.cart.ensures

pub returns-clause-stride : goal.returns-clause-stride
returns-clause-stride g c = c.stride.ensures.stride ∙ ap stride c.len-2.ensures.len

pub slice_bounds-from_slice-end : goal.slice_bounds-from_slice-end
slice_bounds-from_slice-end g c =
    let within : c.min-end.result ≤ length c.inputs.result.now = omega (arith, c.min-end.ensures, c.len.ensures.len, ap length c.inputs.ensures.inputs) in
    sym (length-take-le c.min-end.result c.inputs.result.now within)
