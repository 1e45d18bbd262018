use Rattle.std.proofs.Common.{rules}
use Rattle.tas_language.proofs.image.Image.bytes.Goals as goal

pub returns-in-Small : goal.returns-in-Small
returns-in-Small c = search rules
