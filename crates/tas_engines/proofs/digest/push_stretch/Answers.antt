use Rattle.tas_engines.proofs.StreamLemmas.{next_piece}
use Rattle.tas_engines.proofs.digest.push_stretch.Goals as goal

pub returns : goal.returns
returns g c =
    let old = c.args.out.now.items in
    let frames = c.in_ok-extend_from_slice.ensures.items in
    let from = next_piece old _ _ _ _ frames c.in_ok-push_number.ensures in
    let to = next_piece old _ _ _ _ from c.in_ok-extend_from_slice-2.ensures.items in
    let end = next_piece old _ _ _ _ to c.in_ok-push_number-2.ensures in
    let ram = next_piece old _ _ _ _ end c.in_ok-extend_from_slice-3.ensures.items in
    let digits = next_piece old _ _ _ _ ram c.in_ok-extend_from_slice-4.ensures.items in
    let picture = next_piece old _ _ _ _ digits c.in_ok-extend_from_slice-5.ensures.items in
    let more = next_piece old _ _ _ _ picture c.in_ok-extend_from_slice-6.ensures.items in
    next_piece old _ _ _ _ more c.in_ok-push.ensures.items
