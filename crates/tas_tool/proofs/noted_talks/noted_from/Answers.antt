use Rattle.std.proofs.Common.{◌∙◌, ap, Err}
use Rattle.tas_engines.specs.declared.fault.RunFault.TheVariants.{Memory}
use Rattle.tas_tool.specs.Talk.{talk_state_from}
use Rattle.tas_tool.proofs.NotedLemmas.{noted_as, noted_refused}
use Rattle.tas_tool.proofs.noted_talks.noted_from.Goals as goal

pub returns-in_default-clause-talk : goal.returns-in_default-clause-talk
returns-in_default-clause-talk g c =
    noted_as _ _ _ _ _ (talk_state_from c.args.movie) _ _ _ _ _ _ c.unbegun.ensures.movie c.unbegun.ensures.file (c.unbegun.ensures.end ∙ ap Err c.run_fault.ensures) (noted_refused (talk_state_from c.args.movie) _ _ _ Memory tt)

pub returns-in_default-clause-kept : goal.returns-in_default-clause-kept
returns-in_default-clause-kept g c = rw c.unbegun.ensures.movie tt
