use Rattle.std.proofs.Common.{inl, inr, refl, subst}
use Rattle.std.proofs.lemmas.Result.{err_from_is_err_and}
use Rattle.tas_engines.proofs.EngineEnds.{err-of_mapped, ok-of_mapped}
use Rattle.tas_engines.specs.Editing.{script_fault}
use Rattle.tas_engines.specs.Scripts.{MakesAll}
use Rattle.tas_engines.proofs.editing.text_made.Goals as goal

pub returns-in_err-map_err-clause-fault : goal.returns-in_err-map_err-clause-fault
returns-in_err-map_err-clause-fault g c =
    let p = err_from_is_err_and c.from_residual.result c.from_residual.ensures.1 in
    let (fault, is, told) = err-of_mapped _ script_fault c.in_err-map_err.field-0.0 c.in_err-map_err.ensures.cases in
    let stops = subst (λ r. MakesAll c.args.other.now c.args.movie.now c.args.script.now c.edit_movie.new.movie r) is c.edit_movie.ensures in
    rw (p.1, p.2)
    (inl (c.edit_movie.new.movie, fault, stops, told))

pub returns-clause-text : goal.returns-clause-text
returns-clause-text g c =
    let (u, is) = ok-of_mapped _ _ c.in_ok-map_err.ensures.cases in
    let made = subst (λ r. MakesAll c.args.other.now c.args.movie.now c.args.script.now c.edit_movie.new.movie r) is c.edit_movie.ensures in
    (c.edit_movie.new.movie, made, c.in_ok-print_text.ensures)

pub returns-in_err-print_text-clause-fault : goal.returns-in_err-print_text-clause-fault
returns-in_err-print_text-clause-fault g c =
    let p = err_from_is_err_and c.from_residual-in_err-print_text.result c.from_residual-in_err-print_text.ensures.1 in
    let (u, is) = ok-of_mapped _ _ c.in_ok-map_err.ensures.cases in
    let made = subst (λ r. MakesAll c.args.other.now c.args.movie.now c.args.script.now c.edit_movie.new.movie r) is c.edit_movie.ensures in
    rw (p.1, p.2) (inr (c.edit_movie.new.movie, made, refl))
