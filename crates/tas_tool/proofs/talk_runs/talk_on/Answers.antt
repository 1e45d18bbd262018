use Rattle.std.proofs.Common.{◌≡◌, ◌≤◌, ◌∙◌, ℕ, List, Option, length, refl, sym, ap, None, Err, arith}
use Rattle.std.specs.Prelude.{slice_get}
use Rattle.tas_engines.specs.declared.fault.ToolFault.TheVariants.{Run}
use Rattle.tas_tool.specs.Talk.{talk_state_from, IsTalkLeaving}
use Rattle.tas_tool.proofs.OneSeatLemmas.{either_fault, first_of, fresh_first, fresh_zone, left_movie, whole_alone, sees_alone, written_back}
use Rattle.tas_tool.proofs.TalkRunLemmas.{no_memory_yet, no_place_yet, talk_closed, talk_ended}
use Rattle.tas_tool.proofs.talk_runs.talk_on.Goals as goal

pub talk_made-made-requires-clause-first : goal.talk_made-made-requires-clause-first
talk_made-made-requires-clause-first g c = fresh_first _ _ (first_of c.as_mut_slice.result.now _ c.index-as_mut_slice-0.result (ap (λ l. slice_get l 0) c.as_mut_slice.ensures.value ∙ c.in-Ok.ensures.fresh))

pub talk_made-made-requires-clause-zone : goal.talk_made-made-requires-clause-zone
talk_made-made-requires-clause-zone g c = fresh_zone _ _ (first_of c.as_mut_slice.result.now _ c.index-as_mut_slice-0.result (ap (λ l. slice_get l 0) c.as_mut_slice.ensures.value ∙ c.in-Ok.ensures.fresh))

pub close-closed-requires : goal.close-closed-requires
close-closed-requires g c =
    let lent = c.as_mut_slice.ensures in
    let one : length c.as_mut_slice.result.now ≡ 1 = ap (λ l. length l) lent.value ∙ c.in-Ok.ensures.alone in
    record { whole = whole_alone _ c.talk_made-made.new.seat _ (written_back c.as_mut_slice.result.now _ _ c.talk_made-made.new.seat c.in-Ok.seats.len one (sym lent.len ∙ one) refl) (sym (ap (λ u. u.seats) c.requires.name) ∙ c.requires.one) c.talk_made-made.ensures.number }

pub returns-in-Err : goal.returns-in-Err
returns-in-Err g c =
    let start = talk_state_from c.args.movie in
    let talk = either_fault (λ fault. (input output : Option (List ℕ)) → IsTalkLeaving None start input input output output (Err (Run fault))) _ c.in-Err.ensures.fault
    (no_memory_yet start) (no_place_yet start) in
    talk_ended _ _ start _ _ _ _ _ _ c.unbegun.ensures.movie c.unbegun.ensures.end (talk _ _)

pub returns-in-Ok : goal.returns-in-Ok
returns-in-Ok g c =
    let lent = c.as_mut_slice.ensures in
    let one : length c.as_mut_slice.result.now ≡ 1 = ap (λ l. length l) lent.value ∙ c.in-Ok.ensures.alone in
    let alone = written_back c.as_mut_slice.result.now _ _ c.talk_made-made.new.seat c.in-Ok.seats.len one (sym lent.len ∙ one) refl in
    let sees = sees_alone _ _ c.talk_made-made.new.seat alone c.close-closed.ensures.seats c.close-closed.ensures.count c.talk_made-made.ensures.number in
    let movie = λ (seen : c.talk_made-made.new.seat.made ≤ length c.talk_made-made.new.seat.front). c.close-closed.ensures.movie ∙ left_movie _ _ c.talk_made-made.new.seat alone c.close-closed.ensures.seats c.close-closed.ensures.count seen in
    talk_ended _ _ (talk_state_from c.args.movie) _ _ _ _ _ _ c.closed_talk.ensures.movie c.closed_talk.ensures.end
    (talk_closed c.talk_made-made.new.seat (talk_state_from c.args.movie) _ _ _ _ c.talk_made-made.result c.close-closed.result.movie (c.talk_made-made.ensures.talk sees) movie)

pub bounds-as_mut_slice-0 : goal.bounds-as_mut_slice-0
bounds-as_mut_slice-0 g c =
    let one : length c.as_mut_slice.result.now ≡ 1 = ap (λ l. length l) c.as_mut_slice.ensures.value ∙ c.in-Ok.ensures.alone in
    omega (arith, one)
