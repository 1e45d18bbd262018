use Rattle.std.proofs.Common.{◌≡◌, ◌≤◌, ◌∙◌, ℕ, List, Option, length, refl, sym, ap, None, Err, arith}
use Rattle.std.specs.Prelude.{slice_get}
use Rattle.tas_engines.specs.declared.fault.ToolFault.TheVariants.{Run}
use Rattle.tas_engines.specs.declared.fault.RunFault.TheVariants.{NoPlace, Memory}
use Rattle.tas_journaling.specs.declared.talking.TalkFault.TheVariants.{Tool}
use Rattle.tas_tool.specs.Talk.{talk_state_from}
use Rattle.tas_tool.specs.NotedTalks.{IsNotedTalkLeaving}
use Rattle.tas_tool.proofs.OneSeatLemmas.{either_fault, first_of, fresh_first, fresh_zone, left_movie, whole_alone, sees_alone, written_back}
use Rattle.tas_tool.proofs.NotedLemmas.{kept_as, kept_closed, noted_as, noted_closed, noted_refused}
use Rattle.tas_tool.proofs.noted_talks.noted_on.Goals as goal

pub noted_made-made-requires-clause-first : goal.noted_made-made-requires-clause-first
noted_made-made-requires-clause-first g c = fresh_first _ _ (first_of c.as_mut_slice.result.now _ c.index-as_mut_slice-0.result (ap (λ l. slice_get l 0) c.as_mut_slice.ensures.value ∙ c.in-Ok.ensures.fresh))

pub noted_made-made-requires-clause-zone : goal.noted_made-made-requires-clause-zone
noted_made-made-requires-clause-zone g c = fresh_zone _ _ (first_of c.as_mut_slice.result.now _ c.index-as_mut_slice-0.result (ap (λ l. slice_get l 0) c.as_mut_slice.ensures.value ∙ c.in-Ok.ensures.fresh))

pub close-closed-requires : goal.close-closed-requires
close-closed-requires g c =
    let lent = c.as_mut_slice.ensures in
    let one : length c.as_mut_slice.result.now ≡ 1 = ap (λ l. length l) lent.value ∙ c.in-Ok.ensures.alone in
    record { whole = whole_alone _ c.noted_made-made.new.seat _ (written_back c.as_mut_slice.result.now _ _ c.noted_made-made.new.seat c.in-Ok.seats.len one (sym lent.len ∙ one) refl) (sym (ap (λ u. u.seats) c.requires.name) ∙ c.requires.one) c.noted_made-made.ensures.number }

pub returns-in-Err-clause-talk : goal.returns-in-Err-clause-talk
returns-in-Err-clause-talk g c =
    let start = talk_state_from c.args.movie in
    let talk = either_fault (λ fault. (file input output : Option (List ℕ)) → IsNotedTalkLeaving None file file start input input output output (Err (Tool (Run fault)))) _ c.in-Err.ensures.fault
    (λ file input output. noted_refused start file input output Memory tt) (λ file input output. noted_refused start file input output NoPlace tt) in
    noted_as _ _ _ _ _ start _ _ _ _ _ _ c.unbegun.ensures.movie c.unbegun.ensures.file (c.unbegun.ensures.end ∙ ap Err c.run_fault.ensures) (talk _ _ _)

pub returns-in-Err-clause-kept : goal.returns-in-Err-clause-kept
returns-in-Err-clause-kept g c = rw c.unbegun.ensures.movie tt

pub returns-in-Ok-clause-talk : goal.returns-in-Ok-clause-talk
returns-in-Ok-clause-talk g c =
    let lent = c.as_mut_slice.ensures in
    let one : length c.as_mut_slice.result.now ≡ 1 = ap (λ l. length l) lent.value ∙ c.in-Ok.ensures.alone in
    let alone = written_back c.as_mut_slice.result.now _ _ c.noted_made-made.new.seat c.in-Ok.seats.len one (sym lent.len ∙ one) refl in
    let sees = sees_alone _ _ c.noted_made-made.new.seat alone c.close-closed.ensures.seats c.close-closed.ensures.count c.noted_made-made.ensures.number in
    let movie = λ (seen : c.noted_made-made.new.seat.made ≤ length c.noted_made-made.new.seat.front). c.close-closed.ensures.movie ∙ left_movie _ _ c.noted_made-made.new.seat alone c.close-closed.ensures.seats c.close-closed.ensures.count seen in
    noted_as _ _ _ _ _ (talk_state_from c.args.movie) _ _ _ _ _ _ c.closed_noted.ensures.movie c.closed_noted.ensures.file c.closed_noted.ensures.end
    (noted_closed c.noted_made-made.new.seat (talk_state_from c.args.movie) _ _ _ _ _ _ c.noted_made-made.result.0 c.close-closed.result.movie (c.noted_made-made.ensures.talk sees) movie)

pub returns-in-Ok-clause-kept : goal.returns-in-Ok-clause-kept
returns-in-Ok-clause-kept g c =
    let lent = c.as_mut_slice.ensures in
    let one : length c.as_mut_slice.result.now ≡ 1 = ap (λ l. length l) lent.value ∙ c.in-Ok.ensures.alone in
    let alone = written_back c.as_mut_slice.result.now _ _ c.noted_made-made.new.seat c.in-Ok.seats.len one (sym lent.len ∙ one) refl in
    let sees = sees_alone _ _ c.noted_made-made.new.seat alone c.close-closed.ensures.seats c.close-closed.ensures.count c.noted_made-made.ensures.number in
    kept_as g.J.JournalFile.kept _ _ _ _ _ _ c.closed_noted.ensures.movie c.closed_noted.ensures.file c.closed_noted.ensures.end
    (kept_closed (g.J.JournalFile.kept (g.J.Write.contents c.noted_made-made.result.1)) c.noted_made-made.result.0 c.close-closed.result.movie (c.noted_made-made.ensures.kept sees))

pub bounds-as_mut_slice-0 : goal.bounds-as_mut_slice-0
bounds-as_mut_slice-0 g c =
    let one : length c.as_mut_slice.result.now ≡ 1 = ap (λ l. length l) c.as_mut_slice.ensures.value ∙ c.in-Ok.ensures.alone in
    omega (arith, one)
