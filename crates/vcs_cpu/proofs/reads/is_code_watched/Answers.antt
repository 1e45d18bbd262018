use Rattle.std.proofs.Common.{sym, arith}
use Rattle.vcs_cpu.proofs.Watching.{code_unwatched}
use Rattle.vcs_cpu.proofs.reads.is_code_watched.Goals as goal

pub returns : goal.returns
returns g c =
    sym (code_unwatched (g.B.Watch.is_watched c.args.bus.now) c.args.pc (omega arith) (c.may_watch_code.ensures c.if-may_watch_code.false) c.args.mode)
