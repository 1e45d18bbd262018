use Rattle.std.proofs.lemmas.Grind.{common_steps}
use Rattle.std.proofs.Common.{ap, arith}
use Rattle.tas_published.specs.Published.{PublisherContent}
use Rattle.tas_session.proofs.SoundLemmas.{sound_opened, counted_none}
use Rattle.tas_session.proofs.session.Session.with_places.Goals as goal

pub invariant_of-result : goal.invariant_of-result
invariant_of-result g c =
    let none = ap (λ (s : PublisherContent _). s.journal) c.in_ok-new.ensures in
    let blank = ap (λ (s : PublisherContent _). s.movie) c.in_ok-new.ensures in (
      sound_opened c.in_ok-new.field-0.journal c.in_ok-new.field-0.movie c.new-green.result none blank (c.new-green.ensures.lawful c.in_ok-new.field-0.movie),
      λ seat. counted_none c.in_ok-new.field-0.journal seat _ none (c.new-counts.ensures seat),
    )

pub returns : goal.returns
returns g c = grind (arith, common_steps)
