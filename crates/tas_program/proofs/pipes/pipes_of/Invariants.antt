use Rattle.std.proofs.Common.{◌≡◌, All, map, take}
use Rattle.std.specs.List.{filter_map}
use Rattle.tas_program.proofs.pipes.pipes_of.Given as goal

abbrev pub invariant-loop-place : goal.invariant-loop-place
invariant-loop-place g l =
    (map (λ door. door.pair) l.doors.items ≡ filter_map (λ pair. pair) (take l.place-index l.place-items)) × All (λ door. door.folder.now ≡ l.folder) l.doors.items
