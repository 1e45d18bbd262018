use Rattle.std.proofs.lemmas.Grind.{common_steps}
use Rattle.std.proofs.Common.{◌++◌, List, length, arith, ap, sym, ◌∙◌, length-drop}
use Rattle.std.specs.List.{flat_map}
use Rattle.std.proofs.lemmas.Bool.{eqb-false}
use Rattle.std.proofs.lemmas.List.{take_rest}
use Rattle.tas_movie.specs.declared.run.FrameRun.{FrameRun}
use Rattle.tas_language.proofs.HistoryLemmas.{run_begins, runs_some}
use Rattle.tas_journal.specs.Text.{run_words}
use Rattle.tas_journal.proofs.WritingLemmas.{words_written, all_written}
use Rattle.tas_journal.proofs.writing.push_frames.Goals as goal

pub loop-done-preserved : goal.loop-done-preserved
loop-done-preserved g c =
    let inputs = c.args.inputs.now in
    let done = c.loop-done.done in
    let n = c.run_length-count.result in
    let fits = c.run_length-count.ensures.bound in
    let cut = take_rest inputs done in
    record {
      written = words_written c.loop-done.text.items _ inputs _ done n _ _ cut
          (run_begins inputs _ done n _ cut c.loop-done-test.true c.run_length-count.ensures.longest)
          c.run_length-count.ensures.same c.run_length-count.ensures.longest c.in_ok-push_run.ensures c.loop-done.invariant.written;
      bound = omega (arith, fits, ap length cut, length-drop done inputs, c.loop-done-test.true);
    }

pub returns : goal.returns
returns g c =
    all_written c.loop-done.text.items c.args.inputs.now c.loop-done.done _ (omega (arith, c.loop-done-test.false)) c.loop-done.invariant.written
    ∙ ap (λ (runs : List FrameRun). c.args.text.now.items ++ flat_map run_words runs) (runs_some c.args.inputs.now (eqb-false _ _ (sym c.is_empty.ensures ∙ c.if-is_empty.false)))

pub loop-done-smaller : goal.loop-done-smaller
loop-done-smaller g c = grind (arith, common_steps)
