use Rattle.std.proofs.lemmas.Grind.{common_steps}
use Rattle.std.proofs.Common.{subst, sym, ◌∙◌, Ok, arith}
use Rattle.tas_engines.specs.Checking.{IsCheckAnswer}
use Rattle.tas_engines.proofs.EngineEnds.{ends-written}
use Rattle.tas_engines.proofs.checking.check_movie.Goals as goal

pub returns : goal.returns
returns g c =
    let answers = IsCheckAnswer c.args.image.now c.args.bytes.now in
    ends-written answers _ _ c.as_bytes.result.now _ (subst (λ line. answers (Ok line)) (sym (c.as_bytes.ensures.value ∙ c.in_ok-line.ensures)) c.in_ok-frames.ensures.length) c.write_all.ensures.ok c.write_all.ensures.fault

pub returns-in_err-frames : goal.returns-in_err-frames
returns-in_err-frames g c = grind (arith, common_steps)

pub returns-in_err-line : goal.returns-in_err-line
returns-in_err-line g c = grind (arith, common_steps)
