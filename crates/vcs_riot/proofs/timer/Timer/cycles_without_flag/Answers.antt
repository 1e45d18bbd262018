use Rattle.std.proofs.Common.{◌+◌, ◌*◌, ◌∙◌, sym, ap, refl}
use Rattle.vcs_riot.specs.declared.timer.Timer.{Timer}
use Rattle.vcs_riot.specs.Timer.{after_ticks}
use Rattle.vcs_riot.proofs.TimerLemmas.{counting, below_zero, as_counting, as_below_zero, no_flag-counting, flag-then, flag-below_zero}
use Rattle.vcs_riot.proofs.timer.Timer.cycles_without_flag.Goals as goal

pub returns-then-self-clause-set : goal.returns-then-self-clause-set
unfolding after_ticks
returns-then-self-clause-set c = λ _. c.if-self.true

pub returns-then-self-2-clause-clear : goal.returns-then-self-2-clause-clear
returns-then-self-2-clause-clear c = λ n _.
    let t = c.args.self.now in
    let is = as_below_zero t c.if-self-2.true ∙ ap (λ b. below_zero t.count t.cycles_left t.interval b) c.if-self.false in
    ap (λ (x : Timer). (after_ticks n x).flag) is ∙ flag-below_zero n t.count t.cycles_left t.interval _

pub returns-clause-clear : goal.returns-clause-clear
returns-clause-clear c = λ n fewer.
    let t = c.args.self.now in
    let is = as_counting t c.if-self-2.false ∙ ap (λ b. counting t.count t.cycles_left t.interval b) c.if-self.false in
    ap (λ (x : Timer). (after_ticks n x).flag) is
    ∙ no_flag-counting n t.count t.cycles_left c.cycles_to_end.result c.cycles.result t.interval c.cycles_to_end.ensures c.cycles.ensures.some (sym c.cycles.ensures.value) fewer

pub returns-clause-set : goal.returns-clause-set
returns-clause-set c = λ _.
    let t = c.args.self.now in
    let n = c.cycles_to_end.result + t.count * c.cycles.result in
    let is = as_counting t c.if-self-2.false ∙ ap (λ b. counting t.count t.cycles_left t.interval b) c.if-self.false in
    ap (λ (x : Timer). (after_ticks n x).flag) is
    ∙ flag-then n t.count t.cycles_left c.cycles_to_end.result c.cycles.result t.interval c.cycles_to_end.ensures c.cycles.ensures.some (sym c.cycles.ensures.value) refl
