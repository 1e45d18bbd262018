use Rattle.std.proofs.Common.{◌≡◌, ◌∙◌, length, refl, ap, sym, inl, arith}
use Rattle.std.proofs.lemmas.Result.{err_from_is_err_and}
use Rattle.std.specs.Prelude.{slice_get}
use Rattle.tas_tool.specs.Scripts.{standing_at_start, IsUnmade}
use Rattle.tas_tool.proofs.OneSeatLemmas.{either_fault, first_of, fresh_seen, fresh_standing, fresh_first, whole_alone, sees_alone, written_back}
use Rattle.tas_tool.proofs.ScriptLemmas.{answered_from}
use Rattle.tas_tool.proofs.scripting.answer_script.Goals as goal

pub answer_lines-end-requires-clause-seen : goal.answer_lines-end-requires-clause-seen
answer_lines-end-requires-clause-seen g c = fresh_seen _ _ (first_of c.as_mut_slice.result.now _ c.index-as_mut_slice-0.result (ap (λ l. slice_get l 0) c.as_mut_slice.ensures.value ∙ c.in_ok-desk.ensures.fresh))

pub answer_lines-end-requires-clause-empty : goal.answer_lines-end-requires-clause-empty
answer_lines-end-requires-clause-empty g c = c.requires.empty

pub close-requires : goal.close-requires
close-requires g c =
    let lent = c.as_mut_slice.ensures in
    let one : length c.as_mut_slice.result.now ≡ 1 = ap (λ l. length l) lent.value ∙ c.in_ok-desk.ensures.alone in
    let fresh = fresh_first _ _ (first_of c.as_mut_slice.result.now _ c.index-as_mut_slice-0.result (ap (λ l. slice_get l 0) c.as_mut_slice.ensures.value ∙ c.in_ok-desk.ensures.fresh)) in
    record { whole = whole_alone _ c.answer_lines-end.new.seat _ (written_back c.as_mut_slice.result.now _ _ c.answer_lines-end.new.seat c.in_ok-desk.seats.len one (sym lent.len ∙ one) refl) (sym (ap (λ u. u.seats) c.requires.name) ∙ c.requires.one) (c.answer_lines-end.ensures.number ∙ fresh.0) }

pub returns-in_err-desk : goal.returns-in_err-desk
returns-in_err-desk g c =
    let p = err_from_is_err_and c.from_residual.result c.from_residual.ensures.1 in
    rw (p.1, p.2)
    (inl (c.requires.empty, either_fault IsUnmade _ c.in_err-desk.ensures.fault tt tt))

pub returns : goal.returns
returns g c =
    let lent = c.as_mut_slice.ensures in
    let one : length c.as_mut_slice.result.now ≡ 1 = ap (λ l. length l) lent.value ∙ c.in_ok-desk.ensures.alone in
    let alone = written_back c.as_mut_slice.result.now _ _ c.answer_lines-end.new.seat c.in_ok-desk.seats.len one (sym lent.len ∙ one) refl in
    let is = (first_of c.as_mut_slice.result.now _ c.index-as_mut_slice-0.result (ap (λ l. slice_get l 0) c.as_mut_slice.ensures.value ∙ c.in_ok-desk.ensures.fresh)) in
    let nought = c.answer_lines-end.ensures.number ∙ (fresh_first _ _ is).0 in
    answered_from standing_at_start _ c.args.bytes.now c.answer_lines-end.new.text.items c.answer_lines-end.result (fresh_standing _ _ is)
    (c.answer_lines-end.ensures.answers (sees_alone _ _ c.answer_lines-end.new.seat alone c.close.ensures.seats c.close.ensures.count nought)).1

pub bounds-as_mut_slice-0 : goal.bounds-as_mut_slice-0
bounds-as_mut_slice-0 g c =
    let one : length c.as_mut_slice.result.now ≡ 1 = ap (λ l. length l) c.as_mut_slice.ensures.value ∙ c.in_ok-desk.ensures.alone in
    omega (arith, one)
