use Rattle.std.proofs.lemmas.Grind.{common_steps}
use Rattle.std.proofs.Common.{ℕ, ◌∙◌, [], ◌++◌, ◌∷◌, length, refl, ap, sym, subst, arith}
use Rattle.std.proofs.lemmas.Bool.{eqb-true, eqb-false}
use Rattle.tas_language.specs.Parts.{IsPart, AreParts, overwritten_by_all, overwritten}
use Rattle.tas_language.proofs.PartLemmas.{not_parts, next_parts, overwritten_more, more_parts, more_text, no_parts_no_text, all_written, length-overwritten}
use Rattle.tas_language.proofs.loading.write_parts.Goals as goal

pub returns-then-is_empty-clause-other : goal.returns-then-is_empty-clause-other
returns-then-is_empty-clause-other c = λ parts some are is. no_parts_no_text c.args.text.now parts (eqb-true _ _ (sym c.is_empty.ensures ∙ c.if-is_empty.true)) some is

pub loop-rest-init : goal.loop-rest-init
unfolding AreParts overwritten_by_all
loop-rest-init c = (refl, [], record { are = tt; text = refl; image = refl; back = λ parts are is. (parts, are, is) })

pub returns-in_err-rest-clause-other : goal.returns-in_err-rest-clause-other
returns-in_err-rest-clause-other c =
    rw c.from_residual.ensures
    (λ parts some are is.
    let (len, done, i) = c.loop-rest.invariant in
    let more = i.back parts are is in
    let some = eqb-false _ _ (sym c.is_empty-in-loop-rest.ensures ∙ c.loop-rest-test.true) in
    not_parts (length c.args.image.now) c.loop-rest.rest.now more.0 (omega (arith, some)) more.1 more.2
    (λ part after is-part. c.in_err-rest.ensures.none part after (subst (λ (n : ℕ). IsPart n part) (sym len) is-part)))

pub loop-rest-preserved : goal.loop-rest-preserved
loop-rest-preserved c =
    let (len, done, i) = c.loop-rest.invariant in
    let (part, here, end, text, image) = c.in_ok-rest.ensures.some in
    let size = length c.args.image.now in
    let is : IsPart (length c.args.image.now) part = subst (λ (n : ℕ). IsPart n part) len here in (
      ap length image ∙ length-overwritten part c.loop-rest.image here ∙ len,
      done ++ part ∷ [],
      record {
        are = more_parts size done part i.are is;
        text = more_text c.args.text.now c.loop-rest.rest.now c.in_ok-rest.rest.now done part i.text text;
        image = image ∙ ap (overwritten part) i.image ∙ sym (overwritten_more _ done part);
        back = λ parts are whole.
            let more = i.back parts are whole in
            next_parts size c.loop-rest.rest.now c.in_ok-rest.rest.now part more.0 end text more.1 more.2;
      },
    )

pub returns-clause-written : goal.returns-clause-written
returns-clause-written c =
    let (len, done, i) = c.loop-rest.invariant in
    all_written c.args.text.now c.loop-rest.rest.now c.args.image.now c.loop-rest.image done (eqb-false _ _ (sym c.is_empty.ensures ∙ c.if-is_empty.false)) (eqb-true _ _ (sym c.is_empty-in-loop-rest.ensures ∙ c.loop-rest-test.false)) i.are i.text i.image

pub loop-rest-smaller : goal.loop-rest-smaller
loop-rest-smaller c = grind (arith, common_steps)

pub returns-in_err-rest-clause-written : goal.returns-in_err-rest-clause-written
returns-in_err-rest-clause-written c = grind (arith, common_steps)
