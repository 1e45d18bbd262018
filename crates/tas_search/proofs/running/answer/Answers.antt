use Rattle.std.proofs.Common.{inl, subst}
use Rattle.std.proofs.KnownBytes.{Keeps-refl}
use Rattle.tas_search.specs.Logs.{log_bytes}
use Rattle.tas_search.specs.SearchText.{IsSearchError, StopsText}
use Rattle.tas_search.proofs.running.answer.Goals as goal

pub returns-in-Err : goal.returns-in-Err
returns-in-Err g c =
    inl (record {
      fault = subst (λ i. IsSearchError i c.in-Err.error) c.search_bytes-bytes.ensures c.in-Err.ensures.fault;
      output = Keeps-refl _;
      report = subst (λ i. StopsText i c.in-Err.error (log_bytes (g.E.Write.contents c.args.errors.now) (g.P.Write.contents c.args.report.now)) (log_bytes (g.E.Write.contents c.search_text.new.errors) (g.P.Write.contents c.search_text.new.report))) c.search_bytes-bytes.ensures c.in-Err.ensures.cut;
    })
