use Rattle.tas_language.proofs.HistoryLemmas.{edit_made, edit_heard}
use Rattle.tas_language.proofs.laws.edit_lines_make_the_edit.Goals as goal

pub returns-clause-heard : goal.returns-clause-heard
returns-clause-heard g c = edit_heard

pub returns-clause-allowed : goal.returns-clause-allowed
returns-clause-allowed g c = λ movie edit is. (edit_made movie edit is).0

pub returns-clause-made : goal.returns-clause-made
returns-clause-made g c = λ movie edit is. (edit_made movie edit is).1
