use Rattle.std.proofs.Common.{map, ap, ◌∙◌, arith}
use lib.Seq.{take_all}
use Rattle.tas_program.proofs.ProgramLemmas.{opened_more}
use Rattle.tas_program.proofs.running.open_all.Goals as goal

pub loop-k-preserved : goal.loop-k-preserved
loop-k-preserved g c =
    opened_more g.F.File.Read.remaining (λ name. g.F.Folder.bytes_of c.args.folder.now name.now) c.loop-k.files.items c.push.new.self.items c.in_ok-file.file c.args.names.now c.loop-k.k _
    c.loop-k-test.true c.loop-k.invariant c.in_ok-file.ensures.file c.in-Ok.ensures.items

pub returns-clause-files : goal.returns-clause-files
returns-clause-files g c =
    c.loop-k.invariant ∙ ap (map (λ name. g.F.Folder.bytes_of c.args.folder.now name.now)) (take_all c.loop-k.k c.args.names.now (omega (arith, c.loop-k-test.false)))
