use Rattle.std.proofs.lemmas.Grind.{common_steps}
use Rattle.std.proofs.Common.{◌∙◌, Option, ap, sym, arith}
use Rattle.tas_movie.specs.Content.{MovieContent}
use Rattle.tas_tool.specs.Talk.{talk_state_from}
use Rattle.tas_tool.specs.Inside.Alone.{SeesOwn}
use Rattle.tas_tool.proofs.NotedLemmas.{head_faults}
use Rattle.tas_tool.proofs.noted_talks.start_noted.Goals as goal

pub returns-in_default-clause-fault : goal.returns-in_default-clause-fault
returns-in_default-clause-fault g c =
    head_faults (talk_state_from c.args.movie) c.in-Ok.blank (g.J.Write.contents c.args.file) g.J.Write.contents c.write_head.result
    (c.in-Ok.ensures ∙ sym (ap (λ (m : Option MovieContent). (talk_state_from m).state.stands.movie) c.in_default.is)) c.write_head.ensures.fault (SeesOwn c.args.seat.now)

pub returns-clause-fault : goal.returns-clause-fault
returns-clause-fault g c =
    head_faults (talk_state_from c.args.movie) c.in-Some.movie (g.J.Write.contents c.args.file) g.J.Write.contents c.write_head-2.result
    (sym (ap (λ (m : Option MovieContent). (talk_state_from m).state.stands.movie) c.in-Some.is)) c.write_head-2.ensures.fault (SeesOwn c.put_movie.new.seat)

pub returns-in-Err-clause-fault : goal.returns-in-Err-clause-fault
returns-in-Err-clause-fault g c = grind (arith, common_steps)
