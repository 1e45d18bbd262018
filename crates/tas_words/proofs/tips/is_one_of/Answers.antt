use Rattle.std.proofs.Common.{Some, None, arith, refl, ◌∙◌}
use Rattle.tas_words.specs.Guides.{flags_of, is_equals}
use Rattle.tas_words.proofs.TipLemmas.{cut_at, one_of_name}
use Rattle.tas_words.proofs.tips.is_one_of.Goals as goal

pub returns-in-Some : goal.returns-in-Some
returns-in-Some c =
    let split = c.split_once.ensures.byte (omega arith) (λ text found is. is) in
    let (flag, value) = cut_at is_equals c.args.text.now c.split_once.result _ c.unwrap_or.result refl refl split c.unwrap_or.ensures in
    c.has_flag.ensures ∙ one_of_name (flags_of c.args.words.now) c.args.text.now _ (Some c.in-Some.name) flag c.in-Some.ensures

pub returns-in-None : goal.returns-in-None
returns-in-None c =
    let split = c.split_once.ensures.byte (omega arith) (λ text found is. is) in
    let (flag, value) = cut_at is_equals c.args.text.now c.split_once.result _ c.unwrap_or.result refl refl split c.unwrap_or.ensures in
    one_of_name (flags_of c.args.words.now) c.args.text.now _ None flag c.in-None.ensures
