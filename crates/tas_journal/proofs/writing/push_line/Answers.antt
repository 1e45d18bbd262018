use Rattle.std.proofs.Common.{◌∙◌}
use Rattle.tas_journal.proofs.WritingLemmas.{line_put}
use Rattle.tas_journal.proofs.writing.push_line.Goals as goal

pub returns : goal.returns
returns g c =
    line_put c.args.text.now.items _ _ _ _ _ c.args.front.now c.args.word.now _ _ c.args.at c.in_ok-extend_from_slice.ensures.items c.in_ok-extend_from_slice-2.ensures.items c.in_ok-extend_from_slice-3.ensures.items
    (c.as_bytes.ensures.value ∙ c.format.ensures.text) c.in_ok-push_frames.ensures c.in_ok-push.ensures.items
