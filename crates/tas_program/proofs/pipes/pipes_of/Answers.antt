use Rattle.std.proofs.Common.{◌≡◌, refl}
use Rattle.tas_program.proofs.PairLemmas.{with_door, without_door}
use Rattle.tas_program.proofs.pipes.pipes_of.Goals.{in-Some+in_ok-push, in_default}
use Rattle.tas_program.proofs.pipes.pipes_of.Goals as goal

pub loop-place-preserved : goal.loop-place-preserved
loop-place-preserved g c = elim c.match-place.branch [
  | in-Some+in_ok-push w ↦ rw w.doors-is (with_door (λ door. door.pair) (λ door. door.folder.now ≡ c.args.folder.now) _ c.loop-place.place-index _ c.loop-place.doors.items w.push.new.self.items _ c.loop-place-test.true w.in-Some.is w.in_ok-push.ensures.items refl c.loop-place.invariant)
  | in_default w ↦ rw (w.doors-is, without_door _ c.loop-place.place-index _ c.loop-place-test.true w.in_default.not-Some) c.loop-place.invariant
]
