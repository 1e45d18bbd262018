use Rattle.tas_language.proofs.WordLemmas.{frames_joined}
use Rattle.tas_language.proofs.change.frames_line.Goals as goal

pub returns : goal.returns
returns g c = rw (c.push.ensures.items, c.in_ok-push.was, c.extend_from_slice.ensures.items, c.in_ok-extend_from_slice.was, c.print_frame.ensures, c.into_bytes-bytes.ensures.value, c.in_ok-format.ensures.ok) (frames_joined _ _ _ _)
