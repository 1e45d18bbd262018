-- `==` of RIOTs is true only where they are equal.
use Rattle.std.proofs.Common.{◌≡◌, true, refl}
use Rattle.std.proofs.lemmas.Bool.{eqb-true, false≢true}
use Rattle.std.specs.Cmp.{booleans_Decides, first_so, second_so}
use Rattle.std.specs.Cmp.Lexicographic.{bytes_decides}
use Rattle.vcs_riot.specs.declared.chip.Riot.{Riot}
use Rattle.vcs_riot.specs.declared.port.Port.{Port}
use Rattle.vcs_riot.specs.declared.timer.Interval.{Interval}
use Rattle.vcs_riot.specs.declared.timer.Interval.TheVariants.{Cycles1, Cycles8, Cycles64, Cycles1024}
use Rattle.vcs_riot.specs.declared.timer.Timer.{Timer}
use Rattle.vcs_riot.specs.contracts.chip.RiotPartialEq.TheImpl as riot
use Rattle.vcs_riot.specs.contracts.port.PortPartialEq.TheImpl as port
use Rattle.vcs_riot.specs.contracts.timer.IntervalPartialEq.TheImpl as interval
use Rattle.vcs_riot.specs.contracts.timer.TimerPartialEq.TheImpl as timer

same_port : (a b : Port) → port.ghosts.eq a b ≡ true → a ≡ b
same_port a b h0 =
    let h1 = second_so _ _ h0 in
    λ i. record {
      latch = eqb-true a.latch b.latch (first_so _ _ h0) i;
      direction = eqb-true a.direction b.direction h1 i;
    }

same_interval : (a b : Interval) → interval.ghosts.eq a b ≡ true → a ≡ b
same_interval Cycles1 Cycles1 h = refl
same_interval Cycles8 Cycles8 h = refl
same_interval Cycles64 Cycles64 h = refl
same_interval Cycles1024 Cycles1024 h = refl
same_interval _ _ h = absurd (false≢true h)

same_timer : (a b : Timer) → timer.ghosts.eq a b ≡ true → a ≡ b
same_timer a b h0 =
    let h1 = second_so _ _ h0 in
    let h2 = second_so _ _ h1 in
    let h3 = second_so _ _ h2 in
    let h4 = second_so _ _ h3 in
    λ i. record {
      count = eqb-true a.count b.count (first_so _ _ h0) i;
      cycles_left = eqb-true a.cycles_left b.cycles_left (first_so _ _ h1) i;
      interval = same_interval a.interval b.interval (first_so _ _ h2) i;
      underflowed = (booleans_Decides a.underflowed b.underflowed).0 (first_so _ _ h3) i;
      flag = (booleans_Decides a.flag b.flag).0 h4 i;
    }

pub same_riot : (a b : Riot) → riot.ghosts.eq a b ≡ true → a ≡ b
same_riot a b h0 =
    let h1 = second_so _ _ h0 in
    let h2 = second_so _ _ h1 in
    let h3 = second_so _ _ h2 in
    λ i. record {
      ram = (bytes_decides a.ram b.ram).0 (first_so _ _ h0) i;
      port_a = same_port a.port_a b.port_a (first_so _ _ h1) i;
      port_b = same_port a.port_b b.port_b (first_so _ _ h2) i;
      timer = same_timer a.timer b.timer h3 i;
    }
