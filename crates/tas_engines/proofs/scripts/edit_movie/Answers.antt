use Rattle.std.proofs.lemmas.Grind.{common_steps}
use Rattle.std.proofs.Common.{Err, ◌++◌, ◌∷◌, [], refl, sym, subst, ◌∙◌, ap, arith}
use Rattle.std.proofs.lemmas.Bool.{eqb-false}
use Rattle.tas_engines.specs.Scripts.{IsStop, MakesLines, Said}
use Rattle.tas_engines.proofs.ScriptLemmas.{makes_none, makes_more, count_more, split_length, unclear_unsplit, unclear_line, stopped, same_movie}
use Rattle.tas_engines.proofs.scripts.edit_movie.Goals as goal

pub loop-rest-init : goal.loop-rest-init
loop-rest-init g c = ([], record { makes = makes_none c.args.other.now c.args.movie.now c.args.bytes.now; number = refl; room = omega arith })

pub returns-in_default : goal.returns-in_default
returns-in_default g c =
    let (lines, i) = c.loop-rest.invariant in
    let some = eqb-false _ _ (sym c.is_empty.ensures ∙ c.loop-rest-test.true) in
    (lines, c.loop-rest.rest.now, i.makes, (i.number, omega (arith, some), unclear_unsplit c.args.other.now _ c.in_default.ensures.none))

pub returns-in_default-read_line : goal.returns-in_default-read_line
returns-in_default-read_line g c =
    let (lines, i) = c.loop-rest.invariant in
    let some = eqb-false _ _ (sym c.is_empty.ensures ∙ c.loop-rest-test.true) in
    (lines, c.loop-rest.rest.now, i.makes, (i.number, omega (arith, some), unclear_line c.args.other.now _ c.in-Some.line.now c.in-Some.after.now c.in-Some.ensures.some.0 c.in-Some.ensures.some.1 c.in_default-read_line.ensures.none))

pub returns-in-Err : goal.returns-in-Err
returns-in-Err g c =
    let (lines, i) = c.loop-rest.invariant in
    let other = c.args.other.now in
    let same = same_movie other _ _ c.in-Some-read_line.asked c.in-Err.error c.in-Err.ensures.made in (
      lines,
      c.loop-rest.rest.now,
      subst (λ m. MakesLines other c.args.movie.now c.args.bytes.now m lines c.loop-rest.rest.now) (sym same) i.makes,
      subst (λ n. IsStop other c.make_said.new.movie c.loop-rest.rest.now n c.fault_at.result) i.number
          (stopped other _ _ _ c.in-Some.line.now c.in-Some.after.now _ c.in-Some-read_line.asked c.in-Err.error _ c.in-Some.ensures.some.0 c.in-Some.ensures.some.1 c.in-Some-read_line.ensures.some c.in-Err.ensures.made
          (λ e. c.in-Err.ensures.memory (ap Err e)) c.fault_at.ensures),
    )

pub loop-rest-preserved : goal.loop-rest-preserved
loop-rest-preserved g c =
    let (lines, i) = c.loop-rest.invariant in
    let said : Said = record { text = c.in-Some.line.now; asked = c.in-Some-read_line.asked } in
    let shorter = split_length c.loop-rest.rest.now c.in-Some.line.now c.in-Some.after.now c.in-Some.ensures.some.0 in (
      lines ++ said ∷ [],
      record {
        makes = makes_more c.args.other.now c.args.movie.now _ _ c.args.bytes.now c.loop-rest.rest.now c.in-Some.line.now c.in-Some.after.now lines c.in-Some-read_line.asked tt i.makes c.in-Some.ensures.some.0
            c.in-Some.ensures.some.1 c.in-Some-read_line.ensures.some c.in_default-make_said.ensures.made;
        number = omega (arith, i.number, count_more lines said);
        room = omega (arith, i.room, shorter);
      },
    )

pub returns : goal.returns
returns g c = grind (arith, common_steps)

pub loop-rest-smaller : goal.loop-rest-smaller
loop-rest-smaller g c = grind (arith, common_steps)
