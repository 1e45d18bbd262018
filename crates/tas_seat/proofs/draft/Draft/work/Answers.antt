use Rattle.std.proofs.lemmas.Grind.{common_steps}
use Rattle.std.proofs.Common.{ℕ, List, length, refl, subst, ap, ◌∙◌, arith}
use Rattle.vcs_inputs.specs.declared.input.Input.{Input}
use Rattle.tas_movie.specs.Content.{MovieContent}
use Rattle.tas_movie.specs.Front.{IsCommonFront}
use Rattle.tas_green.specs.Grid.{stride}
use Rattle.tas_green.specs.Green.{IsLawful}
use Rattle.tas_green.specs.View.{ViewContent}
use Rattle.tas_green.specs.Zone.{state_at, where_true, is_on_grid}
use Rattle.tas_seat.specs.Drafts.{draft_of}
use Rattle.tas_seat.proofs.DraftLemmas.{gains, states_rest}
use Rattle.tas_seat.proofs.DraftEditLemmas.{work_refused, work_answered}
use Rattle.tas_seat.proofs.DraftWorkLemmas.{filled}
use Rattle.tas_seat.proofs.draft.Draft.work.Goals as goal

pub returns-in_default : goal.returns-in_default
returns-in_default g c = work_refused c.args.self.now c.args.self.now c.args.frame refl

pub returns-in_default-merge : goal.returns-in_default-merge
returns-in_default-merge g c =
    work_refused c.args.self.now _ c.args.frame (ap (λ (v : ViewContent). draft_of c.self.inside.at c.self.inside.base c.self.inside.made v) c.in_default-merge.ensures.unchanged ∙ c.self.view_is)

pub returns : goal.returns
returns g c =
    let old = c.self.inside.view in
    let new = c.merge.new.self in
    let before = draft_of c.self.inside.at c.self.inside.base c.self.inside.made old in
    let now = draft_of c.self.inside.at c.self.inside.base c.self.inside.made new in
    let e = c.in-Ok-merge.ensures in
    let lawful = subst (λ (m : MovieContent). IsLawful m new.states) c.merge.ensures.movie c.merge.ensures.lawful.states in
    work_answered c.args.self.now before now c.args.frame c.in-Ok-merge.merged.kept c.self.view_is (states_rest c.self.inside.at c.self.inside.made c.self.inside.base old new c.merge.ensures.movie c.merge.ensures.near) e.kept
    (gains before new.states (λ (f : ℕ). where_true (is_on_grid (stride (length old.movie.inputs)) c.in-Ok-merge.merged.front f) (state_at f c.run-batch.result.states)) c.in-Ok-merge.merged.kept c.self.invariant.lawful lawful e.states e.kept)
    (filled old.movie c.args.frame c.in-Ok-merge.merged.front old.states new.states c.run-batch.result.states c.in-Ok.job.cart c.in-Ok.job.inputs c.in-Ok.job.stride c.in-Ok.job.start c.self.invariant.lawful c.in-Ok.ensures.cart c.in-Ok.ensures.inputs
    c.in-Ok.ensures.stride c.in-Ok.ensures.start (subst (λ (l : List Input). IsCommonFront l old.movie.inputs c.in-Ok-merge.merged.front) c.run-batch.ensures.inputs e.front) c.run-batch.ensures.states e.states)

pub invariant_of-self : goal.invariant_of-self
invariant_of-self g c = grind (arith, common_steps)
