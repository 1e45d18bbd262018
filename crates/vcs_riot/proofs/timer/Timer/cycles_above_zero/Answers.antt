use Rattle.std.proofs.Common.{◌+◌, ◌-◌, ◌*◌, true≢false, ◌∙◌, ap, sym, refl, arith}
use Rattle.vcs_riot.specs.declared.timer.Timer.{Timer}
use Rattle.vcs_riot.specs.Timer.{after_ticks}
use Rattle.vcs_riot.proofs.TimerLemmas.{counting, as_counting, above_zero-counting, zero-then}
use Rattle.vcs_riot.proofs.timer.Timer.cycles_above_zero.Goals.{then-self-via-then-self, then-self-via-else-self+then-self-2, then-self-via-else-self+else-self-2+then-self-eq0}
use Rattle.vcs_riot.proofs.timer.Timer.cycles_above_zero.Goals as goal

pub returns-then-self-clause-zero : goal.returns-then-self-clause-zero
unfolding after_ticks
returns-then-self-clause-zero c = λ down. elim c.then-self.branch [
  | then-self-via-then-self w ↦ absurd (true≢false (sym w.if-self.true ∙ down.0))
  | then-self-via-else-self+then-self-2 w ↦ absurd (true≢false (sym w.if-self-2.true ∙ down.1))
  | then-self-via-else-self+else-self-2+then-self-eq0 w ↦ w.if-self-eq0.true
]

pub returns-clause-above : goal.returns-clause-above
returns-clause-above c = λ n fewer.
    let t = c.args.self.now in
    let none = c.if-self-eq0.false in
    let is = as_counting t c.if-self.false ∙ ap (λ b. counting t.count t.cycles_left t.interval b) c.if-self-2.false in
    above_zero-counting t n t.count t.cycles_left c.cycles_to_end.result c.cycles.result t.interval is c.cycles_to_end.ensures c.cycles.ensures.some (sym c.cycles.ensures.value) (omega (arith, none)) fewer

pub returns-clause-zero : goal.returns-clause-zero
returns-clause-zero c = λ _.
    let t = c.args.self.now in
    let none = c.if-self-eq0.false in
    let n = c.cycles_to_end.result + (t.count - 1) * c.cycles.result in
    let is = as_counting t c.if-self.false ∙ ap (λ b. counting t.count t.cycles_left t.interval b) c.if-self-2.false in
    ap (λ (x : Timer). (after_ticks n x).count) is
    ∙ zero-then n t.count t.cycles_left c.cycles_to_end.result c.cycles.result t.interval c.cycles_to_end.ensures c.cycles.ensures.some (sym c.cycles.ensures.value) (omega (arith, none)) refl
