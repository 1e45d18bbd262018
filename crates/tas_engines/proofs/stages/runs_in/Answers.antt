use Rattle.std.proofs.Common.{◌+◌, ◌++◌, ◌∷◌, [], List, drop, get_or, sym, ap, ◌∙◌, append_assoc}
use Rattle.std.proofs.lemmas.List.{append-nil}
use Rattle.vcs_inputs.specs.Input.{no_input}
use Rattle.tas_movie.specs.Runs.{runs_of}
use Rattle.tas_movie.specs.declared.run.FrameRun.{FrameRun}
use Rattle.tas_engines.proofs.RunLemmas.{next_run, no_runs}
use Rattle.tas_engines.proofs.stages.runs_in.Goals as goal

pub loop-at-preserved : goal.loop-at-preserved
loop-at-preserved g c =
    let inputs = c.args.inputs.now in
    let at = c.loop-at.at in
    let more = c.run_length-count.result in
    let items = c.loop-at.runs.items in
    let run : FrameRun = record { input = get_or inputs at no_input; count = 1 + more } in
    let rest = runs_of (drop (at + (1 + more)) inputs) in
    ap (λ (l : List FrameRun). l ++ rest) c.in_ok-push.ensures.items ∙ append_assoc items (run ∷ []) rest
    ∙ ap (λ (l : List FrameRun). items ++ l) (sym (next_run inputs at more c.loop-at-test.true c.run_length-count.ensures.same c.run_length-count.ensures.longest))
    ∙ c.loop-at.invariant

pub returns : goal.returns
returns g c =
    let items = c.loop-at.runs.items in
    sym (append-nil items) ∙ ap (λ (l : List FrameRun). items ++ l) (sym (no_runs c.args.inputs.now c.loop-at.at c.loop-at-test.false)) ∙ c.loop-at.invariant
