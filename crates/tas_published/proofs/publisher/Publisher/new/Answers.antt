use Rattle.std.proofs.lemmas.Grind.{common_steps}
use Rattle.std.proofs.Common.{◌∙◌, ap, arith}
use Rattle.tas_movie.specs.Content.{blank_movie}
use Rattle.tas_published.specs.Published.{published_of}
use Rattle.tas_published.proofs.PublishedRule.{opened_as}
use Rattle.tas_published.proofs.publisher.Publisher.new.Goals as goal

pub invariant_of-result : goal.invariant_of-result
invariant_of-result g c =
    let made = c.in_ok-writer.ensures in
    opened_as _ _ c.new-latest.result _ _ made.none (made.value ∙ ap (published_of blank_movie 0) c.version.ensures) c.new-latest.ensures c.new.ensures.items made.view

pub returns : goal.returns
returns g c = grind (arith, common_steps)
