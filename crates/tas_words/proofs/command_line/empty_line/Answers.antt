use Rattle.tas_words.proofs.CommandLineLemmas.{line_start}
use Rattle.tas_words.proofs.command_line.empty_line.Goals as goal

pub returns : goal.returns
returns c = line_start c.new.result _ c.about.result c.after_help.result c.subcommand_required.result c.disable_help_subcommand.result _ _ c.new.ensures.app c.in_ok-bin_name.ensures.0 c.about.ensures c.after_help.ensures c.subcommand_required.ensures c.disable_help_subcommand.ensures
