use Rattle.std.proofs.Common.{Err, ap, inl, min, refl, ◌∙◌}
use Rattle.std.proofs.lemmas.Result.{err_from_is_err_and}
use Rattle.tas_movie.specs.Content.{most_inputs}
use Rattle.tas_engines.specs.Commands.{OfOne}
use Rattle.tas_engines.specs.Starting.{IsNewAnswer}
use Rattle.tas_program.proofs.ProgramLemmas.{over_alone}
use Rattle.tas_program.proofs.opened_runs.run_new.Goals as goal

pub returns-in_err-cart : goal.returns-in_err-cart
returns-in_err-cart g c input =
    let told = err_from_is_err_and c.from_residual.result c.from_residual.ensures.1 in
    inl (told.1 ∙ ap Err (told.2 ∙ c.in_err-cart.ensures.fault), refl)

pub returns : goal.returns
returns g c input =
    over_alone (OfOne (IsNewAnswer (min c.args.frames most_inputs))) (g.F.Folder.bytes_of c.args.folder.now c.args.cart.now) (g.F.File.Read.remaining c.in_ok-cart.cart) (g.F.File.Read.remaining c.run_over.new.input) (record { input = input; output = g.W.Write.contents c.args.output.now })
    (record { input = input; output = g.W.Write.contents c.run_over.new.output }) c.run_over.result c.in_ok-cart.ensures.file refl c.run_over.ensures
