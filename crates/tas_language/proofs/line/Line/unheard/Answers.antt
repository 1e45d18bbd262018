use Rattle.std.proofs.Common.{ap, ◌∙◌}
use Rattle.tas_language.specs.Unheard.{why_short_unheard}
use Rattle.tas_language.proofs.UnheardLemmas.{long_unheard, short_unheard}
use Rattle.tas_language.proofs.line.Line.unheard.Goals as goal

pub returns-then-self : goal.returns-then-self
returns-then-self g c = λ said holds. long_unheard said c.args.self.now.bytes.items c.args.self.now.long c.if-self.true holds

pub returns : goal.returns
returns g c = λ said holds.
    short_unheard said c.args.self.now.bytes.items c.args.self.now.long c.why_short_unheard.result c.if-self.false holds (c.why_short_unheard.ensures ∙ ap why_short_unheard c.as_slice.ensures.value)
