use Rattle.std.proofs.lemmas.Grind.{common_steps}
use Rattle.std.proofs.Common.{List, ap, sym, ◌∙◌, subst, rules, arith}
use Rattle.left_right.specs.Sides.{view}
use mathlib.Core.List.{IsPrefix}
use Rattle.tas_published.specs.declared.entry.Entry.{Entry}
use Rattle.tas_published.specs.Version.{VersionContent}
use Rattle.tas_published.specs.Published.{PublishedContent, PublisherContent}
use Rattle.tas_published.proofs.PrefixLemmas.{prefix_trans}
use Rattle.tas_published.proofs.PublishedRule.{looks}
use Rattle.tas_published.proofs.publisher.Publisher.read_latest.Goals as goal

pub enter_as-requires : goal.enter_as-requires
enter_as-requires g c = λ x. looks _ _ x

pub returns-then-is_latest-clause-seen : goal.returns-then-is_latest-clause-seen
returns-then-is_latest-clause-seen g c = search rules

pub returns-then-is_latest-clause-begins : goal.returns-then-is_latest-clause-begins
returns-then-is_latest-clause-begins g c =
    let same = c.is_same-is_latest.ensures c.if-is_latest.true in
    let now = sym (ap (λ (p : PublishedContent _). p.version.history) c.get.ensures)
    ∙ ap (λ (v : VersionContent _). v.history) (sym c.version.ensures ∙ same ∙ c.version-version.ensures)
    ∙ ap (λ (p : PublishedContent _). p.version.history) c.published.ensures
    ∙ c.self.invariant.same
    ∙ ap (λ (p : PublisherContent _). p.journal) c.self.view_is in
    subst (λ (l : List (Entry _)). IsPrefix (view c.args.reader.place).seen l) now (prefix_trans _ _ _ c.loop.invariant.begins c.in-Ok.ensures.1.fits.begins)

pub loop-preserved-else-is_latest : goal.loop-preserved-else-is_latest
loop-preserved-else-is_latest g c = grind (arith, common_steps)

pub loop-preserved : goal.loop-preserved
loop-preserved g c = grind (arith, common_steps)

pub is_same-is_latest-requires : goal.is_same-is_latest-requires
is_same-is_latest-requires g c = grind (arith, common_steps)
