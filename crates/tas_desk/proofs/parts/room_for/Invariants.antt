use Rattle.std.proofs.Common.{◌≡◌, ◌+◌, take}
use Rattle.tas_movie.specs.Content.{most_inputs}
use Rattle.tas_desk.specs.Parts.{inputs_in}
use Rattle.tas_desk.proofs.parts.room_for.Given as goal

abbrev pub invariant-loop-k : goal.invariant-loop-k
invariant-loop-k g l = inputs_in (take l.k l.entries) + l.room ≡ most_inputs
