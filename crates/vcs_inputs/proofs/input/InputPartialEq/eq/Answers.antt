use Rattle.std.proofs.Common.{◌∙◌, sym, ap}
use Rattle.std.proofs.lemmas.Slice.Eq.{slice_eq-Decides}
use Rattle.std.specs.Cmp.{booleans_Decides}
use mathlib.Core.Bool.{beq}
use Rattle.vcs_inputs.specs.Input.{switches_of}
use Rattle.vcs_inputs.proofs.InputLemmas.{input_by_switches}
use Rattle.vcs_inputs.proofs.input.InputPartialEq.eq.Goals as goal

pub returns-clause-same : goal.returns-clause-same
returns-clause-same c =
    let a = c.args.self.now in
    let b = c.args.other.now in
    let same = slice_eq-Decides {E = beq} booleans_Decides c.switches.result c.switches-2.result c.eq.result c.eq.ensures in (
      λ t. input_by_switches a b (sym c.switches.ensures ∙ same.0 t ∙ c.switches-2.ensures),
      λ e. same.1 (c.switches.ensures ∙ ap switches_of e ∙ sym c.switches-2.ensures),
    )
