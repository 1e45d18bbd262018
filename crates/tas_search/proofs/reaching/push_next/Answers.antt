use Rattle.std.proofs.Common.{◌≡◌, ℕ, ◌+◌, false, ◌++◌, ◌∷◌, [], ◌∙◌, ap, arith}
use Rattle.std.specs.Prelude.{is_some, slice_index_or, Bool, min, if◌then◌else◌}
use Rattle.vcs_inputs.specs.Input.{no_input}
use Rattle.tas_search.specs.Space.{after_choice, are_lag_frames, low_at, count_at}
use Rattle.tas_search.specs.Inside.Arrivals.{arrival_at}
use Rattle.tas_search.specs.declared.arrival.Arrival.{Arrival}
use Rattle.tas_search.proofs.GrowLemmas.{all_listed, alike_listed, choice_listed, first_listed, tries_are}
use Rattle.tas_search.proofs.reaching.push_next.Goals as goal

pub returns-then-alike : goal.returns-then-alike
returns-then-alike g c =
    let space = c.args.space.now in
    let m = c.args.state.now in
    let first = c.after_choice_noted-first in
    let live : is_some c.args.state.now.halt ≡ false = cc in
    alike_listed space m first.result.0 c.args.place c.args.list.now.items c.push.new.self.items live (omega (arith, c.if-count-eq0.false, c.count_at-count.ensures.count))
    (first.ensures.state ∙ ap (after_choice space m) c.low_at-low.ensures)
    (c.in_ok-push.ensures.items ∙ ap (λ (x : Arrival). c.args.list.now.items ++ x ∷ []) c.arrival.ensures ∙ ap (λ (k : ℕ). c.args.list.now.items ++ arrival_at first.result.0 c.args.place k ∷ []) c.low_at-low.ensures)
    (first.ensures.alike c.if-alike.true)
    (tries_are space c.args.place m first.result.1 live (first.ensures.lag ∙ ap (λ (k : ℕ). are_lag_frames space.cart m (slice_index_or space.choices k no_input) space.hold) c.low_at-low.ensures)
    ∙ ap (λ (b : Bool). if b then min 1 (count_at c.args.space.now c.args.place) else count_at c.args.space.now c.args.place) c.if-alike.true)

pub loop-more-init : goal.loop-more-init
loop-more-init g c =
    let first = c.after_choice_noted-first in
    first_listed c.args.space.now c.args.state.now first.result.0 c.args.place c.args.list.now.items c.push.new.self.items (omega (arith, c.if-count-eq0.false, c.count_at-count.ensures.count))
    (first.ensures.state ∙ ap (after_choice c.args.space.now c.args.state.now) c.low_at-low.ensures)
    (c.in_ok-push.ensures.items ∙ ap (λ (x : Arrival). c.args.list.now.items ++ x ∷ []) c.arrival.ensures ∙ ap (λ (k : ℕ). c.args.list.now.items ++ arrival_at first.result.0 c.args.place k ∷ []) c.low_at-low.ensures)

pub loop-more-preserved : goal.loop-more-preserved
loop-more-preserved g c =
    let at : c.low_at-low.result + c.loop-more.more ≡ low_at c.args.space.now c.args.place + c.loop-more.more = ap (λ (k : ℕ). k + c.loop-more.more) c.low_at-low.ensures in
    choice_listed c.args.space.now c.args.state.now c.after_choice.result c.args.place c.loop-more.more c.args.list.now.items c.loop-more.list.items c.push-in-loop-more.new.self.items
    (omega (arith, c.loop-more-test.true, c.count_at-count.ensures.count)) (c.after_choice.ensures ∙ ap (after_choice c.args.space.now c.args.state.now) at)
    (c.in_ok-push-2.ensures.items ∙ ap (λ (x : Arrival). c.loop-more.list.items ++ x ∷ []) c.arrival-in-loop-more.ensures ∙ ap (λ (k : ℕ). c.loop-more.list.items ++ arrival_at c.after_choice.result c.args.place k ∷ []) at)
    c.loop-more.invariant

pub returns : goal.returns
returns g c =
    let space = c.args.space.now in
    let m = c.args.state.now in
    let first = c.after_choice_noted-first in
    let live : is_some c.args.state.now.halt ≡ false = cc in
    all_listed space m c.args.place c.loop-more.more c.args.list.now.items c.loop-more.list.items live (omega (arith, c.count_at-count.ensures.count, c.if-count-eq0.false))
    (tries_are space c.args.place m first.result.1 live (first.ensures.lag ∙ ap (λ (k : ℕ). are_lag_frames space.cart m (slice_index_or space.choices k no_input) space.hold) c.low_at-low.ensures)
    ∙ ap (λ (b : Bool). if b then min 1 (count_at c.args.space.now c.args.place) else count_at c.args.space.now c.args.place) c.if-alike.false) c.loop-more.invariant
