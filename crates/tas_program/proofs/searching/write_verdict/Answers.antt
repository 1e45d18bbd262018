use Rattle.std.proofs.Common.{List, ℕ, refl, inr, subst}
use Rattle.tas_engines.specs.Output.{StopsWriting}
use Rattle.tas_program.proofs.SearchLemmas.{verdict_cut}
use Rattle.tas_program.proofs.searching.write_verdict.Goals as goal

pub returns-in-Err : goal.returns-in-Err
returns-in-Err g c = rw c.in-Err.is (refl, refl)

pub returns-in-Err-write_all : goal.returns-in-Err-write_all
returns-in-Err-write_all g c =
    rw c.in-Ok.is (inr (verdict_cut (g.E.Write.contents c.args.errors.now) (g.P.Write.contents c.args.report.now) (g.P.Write.contents c.write_all.new.writer) c.in-Ok.verdict.items c.in-Err-write_all.fault
    (subst (λ (l : List ℕ). StopsWriting (g.P.Write.contents c.args.report.now) (g.P.Write.contents c.write_all.new.writer) l c.in-Err-write_all.fault) c.as_slice.ensures.value c.in-Err-write_all.ensures.fault)))
