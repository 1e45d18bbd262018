use Rattle.std.proofs.Common.{◌∙◌}
use Rattle.tas_journal.proofs.WritingLemmas.{run_put}
use Rattle.tas_journal.proofs.writing.push_run.Goals as goal

pub returns : goal.returns
returns g c =
    run_put c.args.text.now.items _ _ _ _ _ _ c.args.run c.in_ok-push.ensures.items c.in_ok-extend_from_slice.ensures.items (c.as_bytes.ensures.value ∙ c.format.ensures.text) c.in_ok-push-2.ensures.items
    c.in_ok-extend_from_slice-2.ensures.items c.print_frame.ensures
