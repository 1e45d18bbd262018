use Rattle.std.proofs.lemmas.Grind.{common_steps}
use Rattle.std.proofs.Common.{[], ◌∷◌, ◌++◌, ap, ◌∙◌, arith}
use Rattle.tas_engines.specs.Names.{names_of}
use Rattle.tas_search.specs.declared.word.Word.{Word}
use Rattle.tas_search.proofs.TextLemmas.{word_read, last_word}
use Rattle.tas_search.proofs.reading_words.words_in.Goals as goal

pub loop-first-preserved : goal.loop-first-preserved
loop-first-preserved g c =
    word_read (names_of c.args.names.now) c.args.text.now c.loop-first.rest.now c.in-Some.first.now c.in-Some.after.now c.loop-first.words.items c.push.new.self.items c.loop-first.invariant c.in-Some.ensures.some.0 c.in-Some.ensures.some.1
    (c.in_ok-push.ensures.items ∙ ap (λ (w : Word). c.loop-first.words.items ++ w ∷ []) c.word_of.ensures)

pub returns : goal.returns
returns g c =
    last_word (names_of c.args.names.now) c.args.text.now c.loop-first.rest.now c.loop-first.words.items c.push-2.new.self.items c.loop-first.invariant c.in_default.ensures.none
    (c.in_ok-push-2.ensures.items ∙ ap (λ (w : Word). c.loop-first.words.items ++ w ∷ []) c.word_of-2.ensures)

pub loop-first-smaller : goal.loop-first-smaller
loop-first-smaller g c = grind (arith, common_steps)
