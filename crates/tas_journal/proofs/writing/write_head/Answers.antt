use Rattle.std.proofs.Common.{◌∙◌}
use Rattle.tas_journal.proofs.WritingLemmas.{head_put}
use Rattle.tas_journal.proofs.writing.write_head.Goals as goal

pub returns : goal.returns
returns g c =
    head_put _ _ _ _ _ _ _ c.args.movie.now c.in_ok-bytes.ensures c.in_ok-extend_from_slice.ensures.items (c.as_slice-2.ensures.value ∙ c.in_ok-line.ensures) c.as_slice.ensures.value c.in_ok-extend_from_slice-2.ensures.items
    c.as_slice-3.ensures.value c.in_ok-text.ensures
