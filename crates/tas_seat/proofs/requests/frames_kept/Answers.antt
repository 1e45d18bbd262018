use Rattle.std.proofs.Common.{◌≡◌, ◌≤◌, ℕ, ◌+◌, ◌*◌, ◌/◌, length, ap, subst, arith, ◌∙◌}
use Rattle.std.proofs.Math.Nat.{div-mul-le_self, mul-le-mul_right}
use Rattle.tas_movie.specs.Content.{MovieContent}
use Rattle.tas_green.specs.Grid.{stride}
use Rattle.tas_seat.specs.Requests.{kept_frames}
use Rattle.tas_seat.proofs.KeptLemmas.{frames_to_place, frames_to_end}
use Rattle.tas_seat.proofs.requests.frames_kept.Goals as goal

pub overflow_mul-before : goal.overflow_mul-before
overflow_mul-before g c =
    let below : (c.loop-before.before + 1) * c.stride-step.result ≤ c.len-len.result / c.stride-step.result * c.stride-step.result = mul-le-mul_right c.stride-step.result (omega arith) in
    let whole = div-mul-le_self c.len-len.result c.stride-step.result in
    omega (arith, below, whole)

pub loop-before-preserved : goal.loop-before-preserved
loop-before-preserved g c =
    frames_to_place c.args.view.now.movie c.args.view.now.states c.loop-before.before c.stride-step.result c.loop-before.frames.items c.push_kept.new.frames.items c.movie.ensures.lawful.states (c.stride-step.ensures.stride ∙ ap stride (c.len-len.ensures.len ∙ ap (λ (m : MovieContent). length m.inputs) c.movie.ensures.movie))
    c.stride-step.ensures.positive c.loop-before.invariant c.in_ok-push_kept.ensures

pub returns : goal.returns
returns g c =
    let end : c.loop-before.before ≡ c.len-len.result / c.stride-step.result = omega arith in
    subst (λ (n : ℕ). c.loop-before.frames.items ≡ kept_frames n c.args.view.now.states) (c.len-len.ensures.len ∙ ap (λ (m : MovieContent). length m.inputs) c.movie.ensures.movie)
    (frames_to_end c.args.view.now.movie c.args.view.now.states c.len-len.result c.stride-step.result c.loop-before.frames.items c.movie.ensures.lawful.states (c.stride-step.ensures.stride ∙ ap stride (c.len-len.ensures.len ∙ ap (λ (m : MovieContent). length m.inputs) c.movie.ensures.movie)) c.stride-step.ensures.positive
    (c.loop-before.invariant ∙ ap (λ (n : ℕ). kept_frames (n * c.stride-step.result) c.args.view.now.states) end))
