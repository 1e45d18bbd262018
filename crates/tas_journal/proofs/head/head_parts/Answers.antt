use Rattle.std.proofs.Common.{refl, ◌∙◌}
use Rattle.tas_journal.proofs.HeadLemmas.{line_there, behind_format, profiled, behind_profile}
use Rattle.tas_journal.proofs.head.head_parts.Goals as goal

pub returns-in_default-clause-none : goal.returns-in_default-clause-none
returns-in_default-clause-none g c = rw c.wrong_at.ensures (refl, λ is. c.in_default.ensures.none is.0 is.1)

pub returns-in_default-after_prefix-clause-none : goal.returns-in_default-after_prefix-clause-none
returns-in_default-after_prefix-clause-none g c =
    rw c.wrong_at-in_default-after_prefix.ensures (
      refl,
      (
        (c.in-Some.second.now, c.in-Some.ensures.some),
        λ is. c.in_default-after_prefix.ensures.none is.0 (line_there c.in-Some.second.now _ _ is.0 (c.as_slice.ensures.value ∙ c.in-Ok.ensures) (behind_format c.args.bytes.now c.in-Some.second.now _ c.in-Some.ensures.some is.1)),
      ),
    )

pub returns-in-Ok-None-clause-none : goal.returns-in-Ok-None-clause-none
returns-in-Ok-None-clause-none g c =
    let third = c.in-Some-after_prefix.third.now in
    let begun = profiled c.args.bytes.now c.in-Some.second.now _ third c.in-Some.ensures.some c.in-Some-after_prefix.ensures.some (c.as_slice.ensures.value ∙ c.in-Ok.ensures) in
    rw c.wrong_at-in-Ok-None.ensures
    (refl, ((third, begun), λ text rest short is. (rw c.in-Ok-None.field-0-is at c.in-Ok-None.ensures.none) text rest short (behind_profile c.args.bytes.now third _ begun is)))
