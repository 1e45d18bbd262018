use Rattle.std.proofs.Common.{inl, inr}
use Rattle.tas_program.proofs.NotedLemmas.{noted_from_cart, noted_from_movie, noted_unopened}
use Rattle.tas_program.proofs.noted_talks.note_talk.Goals as goal

pub returns-in-Blank : goal.returns-in-Blank
returns-in-Blank g c = rw c.in-Blank.is c.note_blank.ensures

pub returns-in-Ok : goal.returns-in-Ok
returns-in-Ok g c =
    rw c.in-Cart.is
    (inr (noted_from_cart g.F.Folder.steps c.args.name.now (g.F.Folder.bytes_of c.args.folder.now c.in-Cart.cart.now) (g.F.File.Read.remaining c.in-Ok.cart) c.note_cart.result.movie (record { input = g.R.Read.remaining c.args.input.now; output = g.W.Write.contents c.args.output.now }) (record { input = g.R.Read.remaining c.note_cart.new.input; output = g.W.Write.contents c.note_cart.new.output }) c.note_cart.result.end c.in-Ok.ensures.file c.note_cart.ensures))

pub returns-in-Err : goal.returns-in-Err
returns-in-Err g c = rw c.in-Cart.is (inl (noted_unopened c.unheld.result.movie (record { input = g.R.Read.remaining c.args.input.now; output = g.W.Write.contents c.args.output.now }) c.unheld.result.end _ c.unheld.ensures.end c.in-Err.ensures.fault c.unheld.ensures.movie))

pub returns-in-Ok-open_two : goal.returns-in-Ok-open_two
returns-in-Ok-open_two g c =
    rw c.in-Movie.is
    (inr (noted_from_movie g.F.Folder.steps c.args.name.now (g.F.Folder.bytes_of c.args.folder.now c.in-Movie.files.cart.now) (g.F.Folder.bytes_of c.args.folder.now c.in-Movie.files.movie.now) (g.F.File.Read.remaining c.in-Ok-open_two.files.0) (g.F.File.Read.remaining c.in-Ok-open_two.files.1) c.note_movie.result.movie (record { input = g.R.Read.remaining c.args.input.now; output = g.W.Write.contents c.args.output.now }) (record { input = g.R.Read.remaining c.note_movie.new.input; output = g.W.Write.contents c.note_movie.new.output }) c.note_movie.result.end c.in-Ok-open_two.ensures.cart c.in-Ok-open_two.ensures.movie c.note_movie.ensures))

pub returns-in-Err-open_two : goal.returns-in-Err-open_two
returns-in-Err-open_two g c = rw c.in-Movie.is (inl (noted_unopened c.unheld-in-Err-open_two.result.movie (record { input = g.R.Read.remaining c.args.input.now; output = g.W.Write.contents c.args.output.now }) c.unheld-in-Err-open_two.result.end _ c.unheld-in-Err-open_two.ensures.end c.in-Err-open_two.ensures.fault c.unheld-in-Err-open_two.ensures.movie))
