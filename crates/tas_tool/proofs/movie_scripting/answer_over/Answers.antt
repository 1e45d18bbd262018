use Rattle.std.proofs.Common.{◌≡◌, ◌∙◌, length, refl, sym, ap, inl, arith}
use Rattle.std.proofs.lemmas.Result.{err_from_is_err_and}
use Rattle.std.specs.Prelude.{slice_get}
use Rattle.tas_tool.specs.Scripts.{IsUnmade}
use Rattle.tas_tool.proofs.OneSeatLemmas.{either_fault, first_of, fresh_first, whole_alone, sees_alone, written_back}
use Rattle.tas_tool.proofs.movie_scripting.answer_over.Goals as goal

pub answer_made-end-requires-clause-first : goal.answer_made-end-requires-clause-first
answer_made-end-requires-clause-first g c = fresh_first _ _ (first_of c.as_mut_slice.result.now _ c.index-as_mut_slice-0.result (ap (λ l. slice_get l 0) c.as_mut_slice.ensures.value ∙ c.in_ok-desk.ensures.fresh))

pub answer_made-end-requires-clause-empty : goal.answer_made-end-requires-clause-empty
answer_made-end-requires-clause-empty g c = c.requires.empty

pub close-requires : goal.close-requires
close-requires g c =
    let lent = c.as_mut_slice.ensures in
    let one : length c.as_mut_slice.result.now ≡ 1 = ap (λ l. length l) lent.value ∙ c.in_ok-desk.ensures.alone in
    record { whole = whole_alone _ c.answer_made-end.new.seat _ (written_back c.as_mut_slice.result.now _ _ c.answer_made-end.new.seat c.in_ok-desk.seats.len one (sym lent.len ∙ one) refl) (sym (ap (λ u. u.seats) c.requires.name) ∙ c.requires.one) c.answer_made-end.ensures.number }

pub returns-in_err-desk : goal.returns-in_err-desk
returns-in_err-desk g c =
    let p = err_from_is_err_and c.from_residual.result c.from_residual.ensures.1 in
    rw (p.1, p.2) (inl (c.requires.empty, either_fault IsUnmade _ c.in_err-desk.ensures.fault tt tt))

pub returns : goal.returns
returns g c =
    let lent = c.as_mut_slice.ensures in
    let one : length c.as_mut_slice.result.now ≡ 1 = ap (λ l. length l) lent.value ∙ c.in_ok-desk.ensures.alone in
    let alone = written_back c.as_mut_slice.result.now _ _ c.answer_made-end.new.seat c.in_ok-desk.seats.len one (sym lent.len ∙ one) refl in
    c.answer_made-end.ensures.answers (sees_alone _ _ c.answer_made-end.new.seat alone c.close.ensures.seats c.close.ensures.count c.answer_made-end.ensures.number)

pub bounds-as_mut_slice-0 : goal.bounds-as_mut_slice-0
bounds-as_mut_slice-0 g c =
    let one : length c.as_mut_slice.result.now ≡ 1 = ap (λ l. length l) c.as_mut_slice.ensures.value ∙ c.in_ok-desk.ensures.alone in
    omega (arith, one)
