use Rattle.std.proofs.Common.{◌∙◌, sym, arith}
use Rattle.vcs_machine.specs.Inside.Console.{content_of}
use Rattle.vcs_machine.proofs.Watched.{cartridge-unwatched, ram-unwatched}
use Rattle.vcs_machine.proofs.lag.ConsoleBusWatch.may_watch_code.Goals as goal

pub returns-then-is_high : goal.returns-then-is_high
returns-then-is_high g c = λ no.
    cartridge-unwatched g.O.Observer.watches (content_of c.args.self.now).board c.args.pc (sym c.is_high.ensures ∙ c.if-is_high.true) (omega arith)

pub returns : goal.returns
returns g c = λ no. ram-unwatched g.O.Observer.watches (content_of c.args.self.now).board c.args.pc (c.may_show_input.ensures no) (omega arith)
