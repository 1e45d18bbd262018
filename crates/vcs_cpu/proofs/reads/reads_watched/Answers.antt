use Rattle.std.proofs.Common.{Bool, ◌||◌, ◌∙◌, ap, sym}
use Rattle.std.specs.List.{list_any}
use Rattle.vcs_cpu.specs.declared.addressing.Operand.{Operand}
use Rattle.vcs_cpu.specs.declared.op.Op.{Op}
use Rattle.vcs_cpu.specs.declared.op.Mode.{Mode}
use Rattle.vcs_cpu.specs.Effects.{read_addresses}
use Rattle.vcs_cpu.specs.Reads.{addresses_of}
use Rattle.vcs_cpu.specs.Inside.Parts.{code_addresses, pointing_addresses}
use Rattle.vcs_cpu.proofs.Watching.{any_of, none_watched}
use Rattle.vcs_cpu.proofs.reads.reads_watched.Goals as goal

pub returns-then-not-watches : goal.returns-then-not-watches
returns-then-not-watches g c =
    let r = c.args.regs.now in
    let m = g.B.Bus.device.byte_at (g.B.Bus.content c.args.bus.now) in
    sym (none_watched (g.B.Watch.is_watched c.args.bus.now) (c.watches.ensures c.if-not-watches.true) (addresses_of (g.O.Operation.op c.args.op) (g.M.Addressing.mode c.args.mode) r m))

pub returns : goal.returns
returns g c =
    let p = g.B.Watch.is_watched c.args.bus.now in
    let r = c.args.regs.now in
    let m = g.B.Bus.device.byte_at (g.B.Bus.content c.args.bus.now) in
    let o = g.O.Operation.op c.args.op in
    let k = g.M.Addressing.mode c.args.mode in
    ap (λ (b : Bool). (b || c.is_pointing_watched-pointing.result) || c.is_load_watched-load.result)
    (c.is_code_watched-fetched.ensures ∙ ap (λ (x : Mode). list_any p (code_addresses x r.pc)) c.as_mode.ensures)
    ∙ ap (λ (b : Bool). (list_any p (code_addresses k r.pc) || b) || c.is_load_watched-load.result)
    (c.is_pointing_watched-pointing.ensures ∙ ap (λ (x : Mode). list_any p (pointing_addresses x r m)) c.as_mode-2.ensures)
    ∙ ap (λ (b : Bool). (list_any p (code_addresses k r.pc) || list_any p (pointing_addresses k r m)) || b)
    (c.is_load_watched-load.ensures ∙ ap (λ (x : Op). list_any p (read_addresses x c.locate-operand.result.0 r)) c.as_op.ensures
    ∙ ap (λ (x : Operand). list_any p (read_addresses o x r)) c.locate-operand.ensures.operand)
    ∙ sym (any_of p r m o k)
