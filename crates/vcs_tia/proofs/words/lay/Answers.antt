use Rattle.vcs_tia.proofs.Lanes.{laid_lanes}
use Rattle.vcs_tia.proofs.words.lay.Goals as goal

pub returns : goal.returns
returns c = laid_lanes c.args.word c.args.colour c.args.pixels c.ranges.word.fits c.requires
