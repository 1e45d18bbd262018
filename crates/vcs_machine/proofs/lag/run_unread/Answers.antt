use contract.BorrowLft.{⊑_meet, ⊑_refl, ⊑_static}
use Rattle.std.proofs.Common.{◌∙◌, ◌||◌, Bool, is_some, ap, arith}
use Rattle.vcs_tia.specs.Tia.{clocks_passed}
use Rattle.vcs_machine.specs.Bus.{Observed}
use Rattle.vcs_machine.specs.Inside.Console.{content_of, clocks_of}
use Rattle.vcs_machine.proofs.Endings.{run_ends, clock-later}
use Rattle.vcs_machine.proofs.BusTime.{passed}
use Rattle.vcs_machine.proofs.Notings.{says_then, second_of, watching_ends}
use Rattle.vcs_machine.proofs.Watched.{stops_where}
use Rattle.vcs_machine.proofs.lag.run_unread.Goals as goal

pub run_until_over-halt-requires : goal.run_until_over-halt-requires
run_until_over-halt-requires g c =
    let b = c.args.bus.now in
    let o = content_of b in
    let low = c.requires.low in
    let run = run_ends g.O.Observer.observe 12160 c.args.regs.now o (clock-later (clocks_of b) b.tia.now b.clock) (omega (arith, passed b, low)) (omega arith) in
    let ends = watching_ends g.O.Observer.observe 12160 c.args.regs.now o run.0 run.1 in
    λ k within.
    let here = ⊑_meet k.1.1.0 _ _ (⊑_refl k.1.1.0) (⊑_static k.1.1.0) in
    let seen = ⊑_meet k.1.1.0 _ _ (⊑_meet k.1.1.0 _ _ (⊑_refl k.1.1.0) within) (⊑_static k.1.1.0) in
    let lives = ⊑_meet k.1.1.0 _ _ (⊑_meet k.1.1.0 _ _ within (⊑_static k.1.1.0)) (⊑_meet k.1.1.0 _ _ here (⊑_meet k.1.1.0 _ _ here (⊑_meet k.1.1.0 _ _ here seen))) in
    (lives, (record { settles = λ before after over settled. settled; stops = λ bus regs. stops_where g.O.Observer.watches c.requires.watches _ _ }, ((omega (arith, passed b, low), λ n few. omega (arith, passed b, low, few)), ends)))

pub returns-clause-says : goal.returns-clause-says
returns-clause-says g c =
    let b = c.run_until_over-halt.new.bus in
    let halt = c.run_until_over-halt.result in
    says_then g.O.Observer.observe 12160 c.args.regs.now c.run_until_over-halt.new.regs (content_of c.args.bus.now) (content_of b) _ halt _ c.requires.begun c.run_until_over-halt.ensures.ended
    c.catch_up.ensures.content
    (ap (λ (x : Bool). x || c.is_frame_over.result) c.is_some.ensures ∙ ap (λ (x : Bool). is_some halt || x) c.is_frame_over.ensures.over)

pub returns-clause-low : goal.returns-clause-low
returns-clause-low g c = λ no.
    let b = c.run_until_over-halt.new.bus in
    let same = ap (λ (o : Observed g.O.Observer.Seen). clocks_passed o.board.tia) c.catch_up.ensures.content in
    let early = c.is_frame_over.ensures.low (second_of c.is_some.result c.is_frame_over.result no) in
    omega (arith, same, early, passed b)

pub returns-clause-thirds : goal.returns-clause-thirds
returns-clause-thirds g c = let b = c.catch_up.new.self in omega (arith, b.beam)
