use Rattle.std.proofs.Common.{◌≡◌, map, take}
use Rattle.vcs_inputs.specs.declared.input.Input.{Input}
use Rattle.tas_engines.proofs.retouching.each_changed.Given as goal

abbrev pub invariant-loop-frame : goal.invariant-loop-frame
invariant-loop-frame g l =
    (f : Input → Input) → ((frame new : Input) → goal.F-post g l.change frame new → new ≡ f frame) → l.list.items ≡ map f (take l.frame-index l.frames)
