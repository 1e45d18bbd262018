use Rattle.std.proofs.Common.{string_bytes}
use Rattle.tas_program.proofs.VerifyLemmas.{verified_in}
use Rattle.tas_program.proofs.verifying.verify_in.Goals as goal

pub returns : goal.returns
returns g c =
    verified_in string_bytes (g.F.Folder.bytes_of c.args.folder.now) c.args.dir.now c.in-Ok.paths.items c.as_slice.result.now c.in-Ok-carts_among.carts.items c.as_slice-2.result.now (record { input = g.R.Read.remaining c.args.input.now; output = g.W.Write.contents c.args.output.now })
    (record { input = g.R.Read.remaining c.verify_over.new.input; output = g.W.Write.contents c.verify_over.new.output }) c.verify_over.result c.as_slice.ensures.value c.in-Ok.ensures.paths c.in-Ok-carts_among.ensures.carts c.as_slice-2.ensures.value c.verify_over.ensures
