use Rattle.tas_published.proofs.PublishedRule.{publishes_step}
use Rattle.tas_published.proofs.PublishLemmas.{done_of}
use Rattle.tas_published.proofs.publisher.publish_step.Goals as goal

pub publish_as-writer-requires : goal.publish_as-writer-requires
publish_as-writer-requires g c = λ next is. publishes_step _ _ _ _ next is c.requires.known c.requires.more

pub returns-clause-none : goal.returns-clause-none
returns-clause-none g c =
    let e = c.publish_as-writer.ensures in
    (done_of _ _ c.publish_as-writer.result.1 (e.succeeds tt) e.values).1

pub returns-clause-value : goal.returns-clause-value
returns-clause-value g c =
    let e = c.publish_as-writer.ensures in
    (done_of _ _ c.publish_as-writer.result.1 (e.succeeds tt) e.values).0

pub returns-clause-more : goal.returns-clause-more
returns-clause-more g c =
    let e = c.publish_as-writer.ensures in
    (done_of _ _ c.publish_as-writer.result.1 (e.succeeds tt) e.rule).more

pub returns-clause-view : goal.returns-clause-view
returns-clause-view g c =
    let e = c.publish_as-writer.ensures in
    (done_of _ _ c.publish_as-writer.result.1 (e.succeeds tt) e.rule).seen
