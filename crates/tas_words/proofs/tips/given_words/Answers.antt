use Rattle.std.proofs.Common.{sym, string_bytes, ap, ap₂, ◌∙◌}
use Rattle.std.specs.Prelude.{fold}
use Rattle.std.proofs.lemmas.List.{take_all}
use Rattle.std.proofs.lemmas.List.Folds.{fold-map}
use Rattle.std.proofs.lemmas.List.Sums.{fold_more}
use Rattle.tas_words.specs.Guides.{flags_of, nothing_given, with_text}
use Rattle.tas_words.proofs.tips.given_words.Goals as goal

pub loop-text-preserved : goal.loop-text-preserved
loop-text-preserved g c =
    c.in_ok-push_text.ensures
    ∙ ap₂ (with_text (flags_of c.args.words.now)) c.loop-text.invariant (c.as_str.ensures.value ∙ ap string_bytes c.text-item.is)
    ∙ sym (fold_more _ _ c.args.texts.now c.loop-text.text-index c.text-item.result c.loop-text-test.true)

pub returns : goal.returns
returns g c =
    c.loop-text.invariant
    ∙ ap (fold (λ given text. with_text (flags_of c.args.words.now) given (string_bytes text)) nothing_given) (take_all c.loop-text.text-index c.args.texts.now c.loop-text-test.false)
    ∙ sym (fold-map (with_text (flags_of c.args.words.now)) string_bytes nothing_given c.args.texts.now)
