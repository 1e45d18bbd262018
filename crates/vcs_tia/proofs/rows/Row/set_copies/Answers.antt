use Rattle.std.proofs.Common.{◌∙◌, ◌+◌, ◌-◌, ◌%◌, ◌<◌, arith}
use Rattle.vcs_tia.specs.Objects.{distance}
use Rattle.vcs_tia.proofs.Turned.{from_place}
use Rattle.vcs_tia.proofs.rows.Row.set_copies.Goals as goal

pub returns-clause-bits : goal.returns-clause-bits
returns-clause-bits c = λ x inside.
    c.turned.ensures.bits x inside
    ∙ c.copied.ensures.bits (distance x c.args.place 0) (let q : (x + 320 - c.args.place - 0) % 160 < 160 = omega arith in q)
    ∙ from_place c.args.pattern x c.args.place c.args.copies (omega arith) inside
