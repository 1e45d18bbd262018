use Rattle.tas_program.proofs.saved_talks.hold_talk.Goals as goal

pub returns-in-Blank : goal.returns-in-Blank
returns-in-Blank g c = rw c.in-Blank.is c.talk_run.ensures

pub returns-in-Cart : goal.returns-in-Cart
returns-in-Cart g c = rw c.in-Cart.is c.hold_over_cart.ensures

pub returns-in-Movie : goal.returns-in-Movie
returns-in-Movie g c = rw c.in-Movie.is c.hold_over_movie.ensures
