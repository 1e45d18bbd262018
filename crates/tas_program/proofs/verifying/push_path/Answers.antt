use Rattle.std.proofs.Common.{string_bytes}
use Rattle.tas_program.proofs.VerifyLemmas.{path_more}
use Rattle.tas_program.proofs.verifying.push_path.Goals as goal

pub returns-clause-paths : goal.returns-clause-paths
returns-clause-paths c = λ all.
    path_more string_bytes c.args.dir.now c.args.name.now c.args.paths.now.items c.push.new.self.items c.in-Ok.path
    c.in-Ok-push.ensures.items c.in-Ok.ensures (c.is_file_name.ensures.0 c.if-not-is_file_name.false) all
