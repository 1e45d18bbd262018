use Rattle.std.proofs.Common.{List, ℕ, ◌++◌, ap, ◌∙◌}
use Rattle.tas_search.specs.LayerLines.{line_back, line_front}
use Rattle.tas_search.proofs.counting.line_text.Goals as goal

pub returns : goal.returns
returns g c =
    c.in_ok-extend_from_slice.ensures.items
    ∙ ap (λ (xs : List ℕ). xs ++ c.as_slice.result.now) c.in_ok-text.ensures
    ∙ ap (λ (xs : List ℕ). line_front c.args.depth c.args.frames c.args.counts.states ++ xs)
    (c.as_slice.ensures.value ∙ c.in_ok-back.ensures ∙ ap (line_back c.args.counts.merged c.args.counts.played c.args.counts.bytes) c.rate_of-rate.ensures)
