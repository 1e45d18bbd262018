use Rattle.std.proofs.Common.{eqb-true}
use Rattle.std.proofs.lemmas.Bool.{not-false}
use Rattle.vcs_tia.proofs.Apart.{rows_apart}
use Rattle.vcs_tia.proofs.rows.Row.meets.Goals as goal

pub returns : goal.returns
returns c = λ no. rows_apart c.args.self.now.words c.args.other.now.words (eqb-true _ 0 (not-false _ no))
