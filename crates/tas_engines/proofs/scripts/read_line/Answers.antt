use Rattle.std.proofs.Common.{sym, subst, ◌∙◌}
use Rattle.tas_engines.proofs.ScriptLemmas.{means_nothing}
use Rattle.tas_engines.proofs.scripts.read_line.Goals as goal
