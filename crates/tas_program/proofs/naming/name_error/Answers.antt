use Rattle.std.proofs.Common.{inr, refl, subst, sym}
use Rattle.tas_engines.specs.Movies.{IsMovieFault}
use Rattle.tas_program.proofs.NamingLemmas.{named_other, named_own, text_of_is}
use Rattle.tas_program.proofs.naming.name_error.Goals as goal

pub returns-in-Ok : goal.returns-in-Ok
returns-in-Ok g c = named_other c.args.role c.args.image.now c.args.text.now _ c.args.error c.in-Ok.ensures

pub returns-in-Some : goal.returns-in-Some
returns-in-Some g c =
    named_own c.args.role c.args.image.now c.args.text.now c.args.error c.in-Some.own
    (subst (IsMovieFault c.args.image.now c.args.text.now) (text_of_is c.in-Err.why c.in-Some.own (sym c.in-Some.ensures)) c.in-Err.ensures)

pub returns-in-None : goal.returns-in-None
returns-in-None g c = inr (c.in-Err.why, c.in-Err.ensures, sym c.in-None.ensures, refl)
