use Rattle.tas_tool.specs.Talk.{talk_state_from}
use Rattle.tas_tool.proofs.TalkRunLemmas.{no_memory_yet, talk_ended}
use Rattle.tas_tool.proofs.talk_runs.talk_from.Goals as goal

pub returns-in_default : goal.returns-in_default
returns-in_default g c = talk_ended _ _ (talk_state_from c.args.movie) _ _ _ _ _ _ c.unbegun.ensures.movie c.unbegun.ensures.end (no_memory_yet (talk_state_from c.args.movie) _ _)
