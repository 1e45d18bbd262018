use Rattle.std.proofs.Common.{append_assoc, ◌∙◌}
use Rattle.tas_search.proofs.counting.back_text.Goals as goal

pub returns : goal.returns
returns g c = rw c.into_bytes.ensures.value (c.in_ok-format.ensures.ok ∙ simp append_assoc)
