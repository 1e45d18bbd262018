use Rattle.std.proofs.lemmas.Grind.{common_steps}
use Rattle.std.proofs.Common.{ap, refl, subst, arith}
use Rattle.tas_published.specs.Published.{PublishedContent, HasStepMore}
use Rattle.tas_published.proofs.PublishedRule.{follows_on}
use Rattle.tas_published.proofs.PublishLemmas.{showed}
use Rattle.tas_published.proofs.publisher.publish.Goals as goal

pub publish_step-requires-clause-known : goal.publish_step-requires-clause-known
publish_step-requires-clause-known g c = rw c.append.ensures.desk c.requires.known

pub publish_step-requires-clause-more : goal.publish_step-requires-clause-more
publish_step-requires-clause-more g c =
    let same = ap (λ d. d.shown.value) c.append.ensures.desk in
    follows_on _ c.args.writer.desk.shown.value _ c.args.change same (showed _ _ _ _ _ c.args.change refl same c.in_default.ensures.pending c.requires.none) c.requires.follows

pub returns-clause-value : goal.returns-clause-value
returns-clause-value g c =
    let same = ap (λ d. d.shown.value) c.append.ensures.desk in
    showed _ _ _ _ _ c.args.change c.publish_step.ensures.value same c.in_default.ensures.pending c.requires.none

pub returns-clause-more : goal.returns-clause-more
returns-clause-more g c =
    let same = ap (λ d. d.shown.value) c.append.ensures.desk in
    subst (λ (p : PublishedContent _). HasStepMore p c.publish_step.result.desk.shown.value) same c.publish_step.ensures.more

pub returns-in-Err-clause-none : goal.returns-in-Err-clause-none
returns-in-Err-clause-none g c = grind (arith, common_steps)

pub returns-in-Err-clause-value : goal.returns-in-Err-clause-value
returns-in-Err-clause-value g c = grind (arith, common_steps)
