use Rattle.std.proofs.Common.{◌%◌, [], ◌∷◌, refl, arith}
use Rattle.vcs_tia.proofs.Turned.{turned_bit}
use Rattle.vcs_tia.proofs.rows.Row.turned.Goals as goal

pub returns-in-0-clause-bits : goal.returns-in-0-clause-bits
returns-in-0-clause-bits c = λ x inside.
    turned_bit c.args.pixels (c.pixel.result % 32) 0 c.args.place x c.part-first.result c.part-second.result c.part-third.result c.part-fourth.result
    (c.part-first.result ∷ c.part-second.result ∷ c.part-third.result ∷ c.part-fourth.result ∷ 0 ∷ []) c.requires (omega arith) (omega arith) (omega arith) inside
    refl refl refl refl refl c.part-first.ensures c.part-second.ensures c.part-third.ensures c.part-fourth.ensures

pub returns-in-1-clause-bits : goal.returns-in-1-clause-bits
returns-in-1-clause-bits c = λ x inside.
    turned_bit c.args.pixels (c.pixel.result % 32) 1 c.args.place x c.part-first.result c.part-second.result c.part-third.result c.part-fourth.result
    (0 ∷ c.part-first.result ∷ c.part-second.result ∷ c.part-third.result ∷ c.part-fourth.result ∷ []) c.requires (omega arith) (omega arith) (omega arith) inside
    refl refl refl refl refl c.part-first.ensures c.part-second.ensures c.part-third.ensures c.part-fourth.ensures

pub returns-in-2-clause-bits : goal.returns-in-2-clause-bits
returns-in-2-clause-bits c = λ x inside.
    turned_bit c.args.pixels (c.pixel.result % 32) 2 c.args.place x c.part-first.result c.part-second.result c.part-third.result c.part-fourth.result
    (c.part-fourth.result ∷ 0 ∷ c.part-first.result ∷ c.part-second.result ∷ c.part-third.result ∷ []) c.requires (omega arith) (omega arith) (omega arith) inside
    refl refl refl refl refl c.part-first.ensures c.part-second.ensures c.part-third.ensures c.part-fourth.ensures

pub returns-in-3-clause-bits : goal.returns-in-3-clause-bits
returns-in-3-clause-bits c = λ x inside.
    turned_bit c.args.pixels (c.pixel.result % 32) 3 c.args.place x c.part-first.result c.part-second.result c.part-third.result c.part-fourth.result
    (c.part-third.result ∷ c.part-fourth.result ∷ 0 ∷ c.part-first.result ∷ c.part-second.result ∷ []) c.requires (omega arith) (omega arith) (omega arith) inside
    refl refl refl refl refl c.part-first.ensures c.part-second.ensures c.part-third.ensures c.part-fourth.ensures

pub returns-in_default-clause-bits : goal.returns-in_default-clause-bits
returns-in_default-clause-bits c = λ x inside.
    turned_bit c.args.pixels (c.pixel.result % 32) 4 c.args.place x c.part-first.result c.part-second.result c.part-third.result c.part-fourth.result
    (c.part-second.result ∷ c.part-third.result ∷ c.part-fourth.result ∷ 0 ∷ c.part-first.result ∷ []) c.requires (omega arith) (omega arith) (omega arith) inside
    refl refl refl refl refl c.part-first.ensures c.part-second.ensures c.part-third.ensures c.part-fourth.ensures
