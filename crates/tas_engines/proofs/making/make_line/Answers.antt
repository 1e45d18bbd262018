use Rattle.std.proofs.lemmas.Grind.{common_steps}
use Rattle.std.proofs.Common.{◌≡◌, None, sym, subst, arith}
use Rattle.tas_movie.specs.Edit.{IsAllowed}
use Rattle.tas_engines.specs.Scripts.{line_on, line_refusal}
use Rattle.tas_engines.proofs.RetouchLemmas.{check_allows, mapped_ok, line_allowed}
use Rattle.tas_engines.proofs.making.make_line.Goals as goal

pub apply-requires : goal.apply-requires
apply-requires g c =
    let other = c.args.other.now in
    let movie = c.args.movie.now in
    let none : line_refusal other movie c.args.line ≡ None = check_allows (line_refusal other movie c.args.line) _ _ c.check_line.ensures c.in_ok-map_err.ensures.cases in
    let is = mapped_ok _ _ c.in_ok-edit.edit (λ e. e ≡ line_on _ other movie c.args.line) c.in_ok-edit.ensures.cases c.line_edit.ensures.edit in
    subst (λ e. IsAllowed movie e) (sym is) (line_allowed _ other movie c.args.line none)
