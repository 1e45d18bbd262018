use Rattle.std.proofs.Common.{ap, ◌∙◌}
use Rattle.tas_words.specs.CommandLine.{with_commands}
use Rattle.tas_words.proofs.CommandLineLemmas.{versioned}
use Rattle.tas_words.proofs.command_line.command_line.Goals as goal

pub returns-clause-line : goal.returns-clause-line
returns-clause-line c =
    let first = c.in_ok-line.ensures ∙ ap (λ l. with_commands l c.first_subcommands.result.now) c.in_ok-empty.ensures ∙ c.first_subcommands.ensures.line in
    let next = c.in_ok-line-2.ensures ∙ ap (λ l. with_commands l c.next_subcommands.result.now) first ∙ c.next_subcommands.ensures.line in
    let later = c.in_ok-line-3.ensures ∙ ap (λ l. with_commands l c.later_subcommands.result.now) next ∙ c.later_subcommands.ensures.line in
    let last = c.in_ok-line-4.ensures ∙ ap (λ l. with_commands l c.last_subcommands.result.now) later ∙ c.last_subcommands.ensures.line in
    versioned _ _ _ _ last c.version-2.ensures
