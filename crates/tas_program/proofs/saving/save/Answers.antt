use Rattle.std.proofs.Common.{◌≡◌, rules, string_bytes}
use Rattle.tas_program.proofs.SavingLemmas.{all_stay_named, given_named, is_replaced_named}
use Rattle.tas_program.proofs.saving.save.Goals as goal

pub returns-in-Err : goal.returns-in-Err
returns-in-Err g c =
    let same : c.as_str-part.result.now ≡ string_bytes c.in_ok-name.field-0.name = search rules in
    all_stay_named (string_bytes c.in_ok-name.field-0.name) c.as_str-part.result.now _ _ _ _ same c.in_ok-name.ensures.absent c.in_ok-name.ensures.made c.in-Err.ensures.fault c.remove.ensures

pub returns-in-Ok : goal.returns-in-Ok
returns-in-Ok g c =
    let same : c.as_str-part.result.now ≡ string_bytes c.in_ok-name.field-0.name = search rules in (
      given_named _ c.args.file.now (string_bytes c.in_ok-name.field-0.name) c.as_str-part.result.now c.args.bytes.now _ same c.in_ok-name.ensures.name c.in_ok-name.ensures.step c.in_default.ensures.steps c.in-Ok.ensures.step,
      is_replaced_named c.args.file.now (string_bytes c.in_ok-name.field-0.name) c.as_str-part.result.now c.args.bytes.now _ _ _ _ same c.in_ok-name.ensures.name c.in_ok-name.ensures.absent c.in_ok-name.ensures.made c.in_default.ensures.ok c.in-Ok.ensures.moved,
    )
