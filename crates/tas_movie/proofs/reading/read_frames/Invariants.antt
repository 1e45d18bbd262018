use Rattle.std.proofs.Common.{◌≡◌, ◌≤◌, ◌++◌, length, vec_len, vec_capacity}
use Rattle.std.specs.List.{flat_map}
use Rattle.tas_movie.specs.Text.{frame_line, most_frames1}
use Rattle.tas_movie.specs.Fault.{frames_fault, fault_by}
use Rattle.tas_movie.proofs.reading.read_frames.Given as goal

abbrev pub invariant-loop-rest : goal.invariant-loop-rest
invariant-loop-rest g l = record {
  frames : l.bytes ≡ flat_map frame_line l.list.items ++ l.rest;
  same_fault : fault_by (frames_fault (vec_len l.list)) l.rest ≡ fault_by (frames_fault 0) l.bytes;
  bound : vec_len l.list ≤ most_frames1;
  capacity : vec_capacity l.fn.list ≤ vec_capacity l.list;
}

abbrev pub decreases-loop-rest : goal.decreases-loop-rest
decreases-loop-rest g l = length l.rest
