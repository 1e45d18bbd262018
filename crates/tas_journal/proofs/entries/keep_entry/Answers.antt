use Rattle.std.proofs.Common.{Option, Some, sym, ap, subst, ◌∙◌}
use Rattle.std.specs.Prelude.{IfSome}
use Rattle.tas_movie.specs.declared.edit.Edit.{Edit}
use Rattle.tas_journal.specs.Text.{entry_text, FitsInLine}
use Rattle.tas_journal.proofs.ReadingLemmas.{fits_whole, none_some, some_same, not_both}
use Rattle.tas_journal.proofs.entries.keep_entry.Goals as goal

pub returns-then-same-clause-some : goal.returns-then-same-clause-some
returns-then-same-clause-some g c = (
  c.in_ok-same-in-Some.ensures.same c.if-same.true,
  fits_whole c.in-Some.edit (subst (λ (o : Option (Edit g.row.A.Denot)). IfSome o FitsInLine) c.in-Some.is c.requires) c.in_ok-same-in-Some.ensures.cartridge,
)

pub returns-then-same-clause-all : goal.returns-then-same-clause-all
returns-then-same-clause-all g c = λ asked is said-is. sym c.in-Some.is ∙ is

pub returns-else-same-clause-all : goal.returns-else-same-clause-all
returns-else-same-clause-all g c = λ asked is said-is.
    let e = some_same c.in-Some.edit asked (sym c.in-Some.is ∙ is) in
    absurd (not_both _ (c.in_ok-same-in-Some.ensures.all (said-is ∙ ap (entry_text c.args.number c.args.seat) (sym e))) c.if-same.false)

pub returns-in-None-clause-all : goal.returns-in-None-clause-all
returns-in-None-clause-all g c = λ asked is said-is. absurd (none_some asked (sym c.in-None.is ∙ is))
