use Rattle.std.proofs.Common.{refl}
use Rattle.tas_journaling.specs.declared.talking.TalkFault.TheVariants.{Tool}
use Rattle.tas_tool.specs.NotedTalks.{IsNotedTalkLeaving, IsUnread}
use Rattle.tas_tool.proofs.TalkRunLemmas.{over_cart, over_no_cart, untouched}
use Rattle.tas_tool.proofs.noted_talks.noted_cart_talk_run.Goals as goal

pub returns-in-Err-clause-talk : goal.returns-in-Err-clause-talk
returns-in-Err-clause-talk g c =
    rw (c.unbegun.ensures.movie, c.unbegun.ensures.file, c.unbegun.ensures.end)
    (over_no_cart Tool (IsUnread _ _ _) (IsNotedTalkLeaving _ _ _) _ _ _ _ _ c.in-Err.ensures ((untouched _ _, refl), refl))

pub returns-in-Ok-clause-talk : goal.returns-in-Ok-clause-talk
returns-in-Ok-clause-talk g c = over_cart Tool (IsUnread _ _ _) (IsNotedTalkLeaving _ _ _) _ _ _ _ _ _ _ _ c.in-Ok.ensures c.noted_from.ensures.talk

pub returns-in-Err-clause-kept : goal.returns-in-Err-clause-kept
returns-in-Err-clause-kept g c = rw c.unbegun.ensures.movie tt
