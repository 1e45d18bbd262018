use Rattle.tas_language.proofs.HistoryLemmas.{run_put}
use Rattle.tas_language.proofs.history.push_run.Goals as goal

pub returns : goal.returns
returns g c =
    run_put c.args.text.now.items _ _ _ _ _ _ _ _ c.args.prefix.now c.args.word.now c.print_frame.result c.args.at c.args.run.count c.args.run.input
    c.in_ok-extend_from_slice.ensures.items c.in_ok-extend_from_slice-2.ensures.items c.in_ok-push_number.ensures c.in_ok-push.ensures.items
    c.in_ok-push_number-2.ensures c.in_ok-push-2.ensures.items c.in_ok-extend_from_slice-3.ensures.items c.print_frame.ensures c.in_ok-push-3.ensures.items
