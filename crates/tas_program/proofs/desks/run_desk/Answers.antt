use Rattle.std.proofs.lemmas.Grind.{common_steps}
use Rattle.std.proofs.Common.{◌≤◌, length, refl, sym, ap, subst, ◌∙◌, arith}
use Rattle.std.proofs.lemmas.List.{length-map}
use Rattle.tas_desk.specs.Seats.{most_seats}
use Rattle.tas_program.proofs.PairLemmas.{ends_are, no_doors, over_ends}
use Rattle.tas_program.proofs.desks.run_desk.Goals as goal

pub returns-in_default : goal.returns-in_default
returns-in_default g c input = no_doors _ _ _ _ _ _ c.in_ok-cart.ensures.cart c.in_ok-cart.ensures.movie

pub desk_run-requires-clause-few : goal.desk_run-requires-clause-few
desk_run-requires-clause-few g c κs within =
    subst (λ n. n ≤ most_seats) (sym (ap length c.in-Ok.ensures.pairs) ∙ length-map c.in-Ok.doors.items (λ door. door.pair)) c.in-Ok.ensures.few

pub returns : goal.returns
returns g c input =
    over_ends _ c.in-Ok.doors.items _ _ _ _ _ _ _ _ _ _ _ c.in_ok-cart.ensures.cart c.in_ok-cart.ensures.movie refl
    (ends_are g.F.Folder.bytes_of g.F.Folder.held_by (g.F.Folder.shown c.args.folder.now) (λ door. door.folder.now) (λ door. door.pair) c.args.folder.now c.in-Ok.doors.items c.args.words.pairs c.in-Ok.ensures.folder c.in-Ok.ensures.pairs)
    c.desk_run.ensures

pub desk_run-requires-clause-some : goal.desk_run-requires-clause-some
desk_run-requires-clause-some g c = grind (arith, common_steps)
