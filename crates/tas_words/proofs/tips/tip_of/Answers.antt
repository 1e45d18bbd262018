use Rattle.std.proofs.Common.{◌≡◌, Option, None, Some, option_map, string_bytes, subst}
use Rattle.std.specs.Prelude.{IfOk}
use Rattle.clap.specs.Walk.{Text}
use Rattle.tas_words.specs.Guides.{guide_of}
use Rattle.tas_words.proofs.TipLemmas.{tip_few, tip_is}
use Rattle.tas_words.proofs.tips.tip_of.Goals as goal

pub returns-in_default : goal.returns-in_default
returns-in_default g c = tip_few c.args.words.now c.in_default.len_below

pub returns-in-Some : goal.returns-in-Some
returns-in-Some g c =
    let tip = tip_is c.args.words.now c.name-item.result _ (Some (guide_of c.in-Some.command)) c.in-len2-up.len_at_least c.name-item.is c.as_str.ensures.value c.in-Some.ensures in
    subst (λ (said : Option Text). IfOk c.tip_for.result (λ tip. option_map string_bytes tip ≡ said)) tip c.tip_for.ensures

pub returns-in-None : goal.returns-in-None
returns-in-None g c = tip_is c.args.words.now c.name-item.result _ None c.in-len2-up.len_at_least c.name-item.is c.as_str.ensures.value c.in-None.ensures
