use Rattle.tas_seat.proofs.ReachLemmas.{ram_asks, lag_asks}
use Rattle.tas_seat.proofs.looks.frames_for.Goals as goal

pub returns-in-Ram : goal.returns-in-Ram
returns-in-Ram g = rw g.in-Ram.is (ram_asks g.in-Ram.frames)

pub returns-in-Lag : goal.returns-in-Lag
returns-in-Lag g = rw g.in-Lag.is (lag_asks g.in-Lag.from g.in-Lag.to)
