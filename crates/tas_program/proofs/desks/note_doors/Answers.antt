use Rattle.std.proofs.lemmas.Grind.{common_steps}
use Rattle.std.proofs.Common.{◌<◌, Err, length, refl, sym, ap, inl, subst, ◌∙◌, arith}
use Rattle.std.proofs.lemmas.List.{length-map}
use Rattle.tas_desk.specs.Seats.{most_seats}
use Rattle.tas_program.proofs.PairLemmas.{ends_are, noted_over}
use Rattle.tas_program.proofs.desks.note_doors.Goals as goal

pub noted_desk_run-desk-requires-clause-few : goal.noted_desk_run-desk-requires-clause-few
noted_desk_run-desk-requires-clause-few g c κs within =
    subst (λ n. n < most_seats) (sym (ap length c.requires.pairs) ∙ length-map c.args.doors.items (λ door. door.pair)) c.requires.few

pub noted_desk_run-desk-requires-clause-some : goal.noted_desk_run-desk-requires-clause-some
noted_desk_run-desk-requires-clause-some g c = grind (arith, common_steps)

pub returns-in-Ok : goal.returns-in-Ok
returns-in-Ok g c input =
    noted_over _ g.F.Folder.steps c.args.word.name.now _ c.args.doors.items _ _ _ _ _ _ _ _ _ (record { input = input; output = g.W.Write.contents c.args.output.now }) (record { input = input; output = g.W.Write.contents c.noted_desk_run-desk.new.output }) _ c.noted_desk_run-desk.result.end c.close_desk.result
    c.in-Ok.ensures.made refl c.close_desk.ensures refl
    (ends_are g.F.Folder.bytes_of g.F.Folder.held_by (g.F.Folder.shown c.args.folder.now) (λ door. door.folder.now) (λ door. door.pair) c.args.folder.now c.args.doors.items c.args.pairs c.requires.folder c.requires.pairs)
    c.requires.name c.noted_desk_run-desk.ensures

pub returns : goal.returns
returns g c input = inl (ap Err c.in-Err.ensures.fault, refl)
