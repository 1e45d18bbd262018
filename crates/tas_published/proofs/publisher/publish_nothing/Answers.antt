use Rattle.std.proofs.Common.{refl, ap, ◌∙◌}
use Rattle.tas_published.specs.Published.{PublishedContent, view_of}
use Rattle.tas_published.proofs.PublishedRule.{publishes_nothing}
use Rattle.tas_published.proofs.PublishLemmas.{done_of, stayed}
use Rattle.tas_published.proofs.publisher.publish_nothing.Goals as goal

pub publish_as-writer-requires : goal.publish_as-writer-requires
publish_as-writer-requires g c = λ next is. publishes_nothing _ _ _ next (is ∙ stayed _ _ _ refl c.requires.none) c.requires.known

pub returns-clause-none : goal.returns-clause-none
returns-clause-none g c =
    let e = c.publish_as-writer.ensures in
    (done_of _ _ c.publish_as-writer.result.1 (e.succeeds tt) e.values).1

pub returns-clause-same : goal.returns-clause-same
returns-clause-same g c =
    let e = c.publish_as-writer.ensures in
    (done_of _ _ c.publish_as-writer.result.1 (e.succeeds tt) e.rule).same

pub returns-clause-view : goal.returns-clause-view
returns-clause-view g c =
    let e = c.publish_as-writer.ensures in
    let turned = done_of _ _ c.publish_as-writer.result.1 (e.succeeds tt) e.rule in
    turned.seen ∙ ap (λ (p : PublishedContent _). view_of p.version) turned.same
