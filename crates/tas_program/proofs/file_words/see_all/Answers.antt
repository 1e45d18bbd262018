use Rattle.std.proofs.Common.{◌<◌, ◌≤◌, length, arith, ◌∙◌}
use Rattle.std.proofs.lemmas.List.{length-set}
use Rattle.tas_program.specs.FileWords.{IsSeen, name_of, words}
use Rattle.tas_program.proofs.FileWordLemmas.{all_seen, seen_more}
use Rattle.tas_program.proofs.file_words.see_all.Goals as goal

pub loop-i-preserved : goal.loop-i-preserved
loop-i-preserved g c =
    let below : c.loop-i.i < length c.loop-i.seen = omega (arith, c.loop-i-test.true, c.loop-i.invariant.0) in
    let more = seen_more (λ s. IsSeen (g.F.Folder.shown c.args.folder.now) (name_of c.args.task s.word) s.file) c.loop-i.seen c.loop-i.i _ c.see.result below c.loop-i-test.true c.see.ensures.word (rw c.see.ensures.word c.see.ensures.file)
    (c.loop-i.invariant.1, c.loop-i.invariant.2) in
    (length-set c.loop-i.seen c.loop-i.i c.see.result ∙ c.loop-i.invariant.0, more.0, more.1)

pub returns : goal.returns
returns g c =
    let done : length c.loop-i.seen ≤ c.loop-i.i = omega (arith, c.loop-i-test.false, c.loop-i.invariant.0) in
    let many : length words ≤ c.loop-i.i = omega (arith, c.loop-i-test.false) in
    all_seen (λ s. IsSeen (g.F.Folder.shown c.args.folder.now) (name_of c.args.task s.word) s.file) c.loop-i.seen c.loop-i.i done many (c.loop-i.invariant.1, c.loop-i.invariant.2)
