use Rattle.std.proofs.lemmas.Grind.{common_steps}
use Rattle.std.proofs.Common.{List, refl, subst, ◌∙◌, arith}
use Rattle.tas_desk.specs.Seats.{SeatContent}
use Rattle.tas_tool.specs.Inside.Holding.{AreFresh}
use Rattle.tas_tool.proofs.HoldingLemmas.{fresh_numbered, all_met, not_met, zones_blank}
use Rattle.tas_tool.proofs.holding.put_for_all.Goals as goal

pub put_movie-requires : goal.put_movie-requires
put_movie-requires g c =
    let fresh = subst (λ (l : List (SeatContent _)). AreFresh l) c.in-Some.ensures.cases.0 c.requires.fresh in
    let seat = fresh 0 c.in-Some.first.now refl in
    record { first = (seat.0, seat.1, seat.2) }

pub returns-in_err-put_movie-clause-numbers : goal.returns-in_err-put_movie-clause-numbers
returns-in_err-put_movie-clause-numbers g c =
    let fresh = subst (λ (l : List (SeatContent _)). AreFresh l) c.in-Some.ensures.cases.0 c.requires.fresh in
    (fresh_numbered c.in-Some.first.now c.put_movie.new.seat c.in-Some.others.now c.in-Some.others.now fresh c.put_movie.ensures.number refl (not_met c.in-Some.others.now)).0

pub returns-in_err-put_movie-clause-others : goal.returns-in_err-put_movie-clause-others
returns-in_err-put_movie-clause-others g c =
    let fresh = subst (λ (l : List (SeatContent _)). AreFresh l) c.in-Some.ensures.cases.0 c.requires.fresh in
    (fresh_numbered c.in-Some.first.now c.put_movie.new.seat c.in-Some.others.now c.in-Some.others.now fresh c.put_movie.ensures.number refl (not_met c.in-Some.others.now)).1

pub returns-clause-numbers : goal.returns-clause-numbers
returns-clause-numbers g c =
    let fresh = subst (λ (l : List (SeatContent _)). AreFresh l) c.in-Some.ensures.cases.0 c.requires.fresh in
    (fresh_numbered c.in-Some.first.now c.meet_all.new.first c.in-Some.others.now c.meet_all.new.others fresh (c.meet_all.ensures.first.seen.number ∙ c.put_movie.ensures.number) c.meet_all.auto.others (λ k d lt. (c.meet_all.ensures.others k d lt).seen)).0

pub returns-clause-others : goal.returns-clause-others
returns-clause-others g c =
    let fresh = subst (λ (l : List (SeatContent _)). AreFresh l) c.in-Some.ensures.cases.0 c.requires.fresh in
    (fresh_numbered c.in-Some.first.now c.meet_all.new.first c.in-Some.others.now c.meet_all.new.others fresh (c.meet_all.ensures.first.seen.number ∙ c.put_movie.ensures.number) c.meet_all.auto.others (λ k d lt. (c.meet_all.ensures.others k d lt).seen)).1

pub returns-clause-movie : goal.returns-clause-movie
returns-clause-movie g c =
    all_met c.args.movie.now c.put_movie.new.seat c.meet_all.new.first c.in-Some.others.now c.meet_all.new.others c.in_ok-put_movie.ensures.holds c.meet_all.ensures.first.seen c.meet_all.auto.others c.meet_all.ensures.met

pub returns-clause-zones : goal.returns-clause-zones
returns-clause-zones g c =
    let fresh = subst (λ (l : List (SeatContent _)). AreFresh l) c.in-Some.ensures.cases.0 c.requires.fresh in
    zones_blank c.in-Some.first.now c.meet_all.new.first c.in-Some.others.now c.meet_all.new.others fresh (c.meet_all.ensures.first.zone ∙ c.put_movie.ensures.zone) c.meet_all.auto.others c.meet_all.ensures.others

pub returns-in_err-put_movie-clause-fault : goal.returns-in_err-put_movie-clause-fault
returns-in_err-put_movie-clause-fault g c = grind (arith, common_steps)

pub returns-in_default-clause-fault : goal.returns-in_default-clause-fault
returns-in_default-clause-fault g c = grind (arith, common_steps)

pub returns-in_default-clause-others : goal.returns-in_default-clause-others
returns-in_default-clause-others g c = grind (arith, common_steps)

pub returns-in_default-clause-numbers : goal.returns-in_default-clause-numbers
returns-in_default-clause-numbers g c = grind (arith, common_steps)

pub returns-clause-count : goal.returns-clause-count
returns-clause-count g c = grind (arith, common_steps)
