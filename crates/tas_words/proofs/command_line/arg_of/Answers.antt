use Rattle.tas_words.proofs.command_line.arg_of.Goals as goal

pub returns-in-File-clause-rule : goal.returns-in-File-clause-rule
returns-in-File-clause-rule c = rw c.in-File.is c.file.ensures.rule

pub returns-in-OptionalFile-clause-rule : goal.returns-in-OptionalFile-clause-rule
returns-in-OptionalFile-clause-rule c = rw c.in-OptionalFile.is c.optional_file.ensures.rule

pub returns-in-Flag-clause-rule : goal.returns-in-Flag-clause-rule
returns-in-Flag-clause-rule c = rw c.in-Flag.is c.flag.ensures.rule

pub returns-in-Number-clause-rule : goal.returns-in-Number-clause-rule
returns-in-Number-clause-rule c = rw c.in-Number.is c.number.ensures.rule

pub returns-in-OptionalNumber-clause-rule : goal.returns-in-OptionalNumber-clause-rule
returns-in-OptionalNumber-clause-rule c = rw c.in-OptionalNumber.is c.optional_number.ensures.rule

pub returns-in-NumberFlag-clause-rule : goal.returns-in-NumberFlag-clause-rule
returns-in-NumberFlag-clause-rule c = rw c.in-NumberFlag.is c.number_flag.ensures.rule

pub returns-in-PairedFile-clause-rule : goal.returns-in-PairedFile-clause-rule
returns-in-PairedFile-clause-rule c = rw c.in-PairedFile.is c.paired_file.ensures.rule

pub returns-in-Output-clause-rule : goal.returns-in-Output-clause-rule
returns-in-Output-clause-rule c = rw c.in-Output.is c.output.ensures.rule

pub returns-in-LoneFlag-clause-rule : goal.returns-in-LoneFlag-clause-rule
returns-in-LoneFlag-clause-rule c = rw c.in-LoneFlag.is c.lone_flag.ensures.rule
