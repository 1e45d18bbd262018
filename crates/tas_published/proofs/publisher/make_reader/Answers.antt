use Rattle.std.proofs.lemmas.Grind.{common_steps}
use Rattle.std.proofs.Common.{◌++◌, ap, ◌∙◌, arith}
use Rattle.left_right.specs.Sides.{view}
use Rattle.tas_published.specs.declared.reader_view.ReaderView.{ReaderView}
use Rattle.tas_published.specs.Published.{learned}
use Rattle.tas_published.proofs.PublishedRule.{admits, learned_all}
use Rattle.tas_published.proofs.publisher.make_reader.Goals as goal

pub reader-requires : goal.reader-requires
reader-requires g c = admits

pub tell_all-requires-clause-begins : goal.tell_all-requires-clause-begins
tell_all-requires-clause-begins g c =
    let all = (view c.publish_nothing-writer.result.desk.place).seen in
    (all, ap (λ (v : ReaderView _). v.seen ++ all) c.in-Ok.ensures.view)

pub returns-in-Ok-clause-view : goal.returns-in-Ok-clause-view
returns-in-Ok-clause-view g c =
    c.tell_all.ensures.learned ∙ (λ i. learned (c.in-Ok.ensures.view i) (c.publish_nothing-writer.ensures.view i)) ∙ learned_all c.args.writer.desk.shown.value.version

pub returns-in-Ok-clause-value : goal.returns-in-Ok-clause-value
returns-in-Ok-clause-value g c = grind (arith, common_steps)

pub returns-in-Ok-clause-none : goal.returns-in-Ok-clause-none
returns-in-Ok-clause-none g c = grind (arith, common_steps)
