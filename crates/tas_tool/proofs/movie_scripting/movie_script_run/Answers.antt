use Rattle.std.proofs.Common.{ap, subst, sym, ◌∙◌, refl, inl, inr, Ok, Err}
use Rattle.std.proofs.KnownBytes.{Keeps-refl}
use Rattle.std.proofs.lemmas.Result.{err_from_is_err_and}
use Rattle.tas_engines.specs.Input.{IsReadWhole}
use Rattle.tas_engines.proofs.ReadLemmas.{whole_three, stops_two, stops_third}
use Rattle.tas_tool.proofs.movie_scripting.movie_script_run.Goals as goal

pub returns-in_err-image : goal.returns-in_err-image
returns-in_err-image g c =
    let told = err_from_is_err_and c.from_residual.result c.from_residual.ensures.1 in
    inl (c.in_err-image.field-0.0, told.1 ∙ ap Err told.2, stops_two _ _ _ _ _ _ c.in_err-image.ensures.fault, Keeps-refl _)

pub returns-in_err-bytes : goal.returns-in_err-bytes
returns-in_err-bytes g c =
    let told = err_from_is_err_and c.from_residual-in_err-bytes.result c.from_residual-in_err-bytes.ensures.1 in
    inl (c.in_err-bytes.field-0.0, told.1 ∙ ap Err told.2, stops_third _ _ _ _ _ _ _ _ _ c.in_ok-image.ensures.first c.in_ok-image.ensures.second c.in_err-bytes.ensures.fault, Keeps-refl _)

pub returns-in_err-run_over : goal.returns-in_err-run_over
returns-in_err-run_over g c =
    let told = err_from_is_err_and c.from_residual-in_err-run_over.result c.from_residual-in_err-run_over.ensures.1 in
    let one = subst (IsReadWhole _ _) (sym c.as_slice.ensures.value) c.in_ok-image.ensures.first in
    let two = subst (IsReadWhole _ _) (sym c.as_slice-2.ensures.value) c.in_ok-image.ensures.second in
    let three = subst (IsReadWhole _ _) (sym c.as_slice-3.ensures.value) c.in_ok-bytes.ensures.whole in
    inr (Err c.in_err-run_over.field-0.0, told.1 ∙ ap Err told.2, (_, _, _, whole_three _ _ _ _ _ _ _ _ _ one two three, c.in_err-run_over.ensures))

pub returns : goal.returns
returns g c =
    let one = subst (IsReadWhole _ _) (sym c.as_slice.ensures.value) c.in_ok-image.ensures.first in
    let two = subst (IsReadWhole _ _) (sym c.as_slice-2.ensures.value) c.in_ok-image.ensures.second in
    let three = subst (IsReadWhole _ _) (sym c.as_slice-3.ensures.value) c.in_ok-bytes.ensures.whole in
    inr (Ok tt, refl, (_, _, _, whole_three _ _ _ _ _ _ _ _ _ one two three, c.in_ok-run_over.ensures))
