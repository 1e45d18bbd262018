-- Runs of equal frames.
use Rattle.std.specs.Prelude.{◌≢◌, ◌+◌, ◌≤◌, List, [], ◌∷◌, replicate, if◌then◌else◌}
use Rattle.vcs_inputs.specs.declared.input.Input.{Input}
use Rattle.vcs_inputs.specs.Input.{are_same_inputs}
use Rattle.tas_movie.specs.declared.run.FrameRun.{FrameRun}

-- the inputs of a run's frames
abbrev pub run_inputs : FrameRun → List Input
run_inputs run = replicate run.count run.input

abbrev pub run_of_one : Input → FrameRun
run_of_one input = record { input = input; count = 1 }

-- runs with one frame more before them: it belongs to the first of them where their inputs are equal, else it is a run of its own
abbrev pub in_front : Input → List FrameRun → List FrameRun
in_front input [] = run_of_one input ∷ []
in_front input (run ∷ runs) =
    if are_same_inputs input run.input then record run { count = run.count + 1 } ∷ runs else run_of_one input ∷ run ∷ runs

-- the runs of the frames with these inputs, in their order
unfoldable pub runs_of : List Input → List FrameRun
runs_of [] = []
runs_of (input ∷ inputs) = in_front input (runs_of inputs)

-- the runs don't begin with this input
unfoldable pub BeginOtherwise : Input → List FrameRun → Type 0
BeginOtherwise input [] = Unit {0}
BeginOtherwise input (run ∷ runs) = input ≢ run.input

-- each run has a frame, and neighbours have different inputs: so no run could be longer
unfoldable pub AreLongest : List FrameRun → Type 0
AreLongest [] = Unit {0}
AreLongest (run ∷ runs) = (1 ≤ run.count) × BeginOtherwise run.input runs × AreLongest runs
