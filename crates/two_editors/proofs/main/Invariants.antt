use Rattle.two_editors.proofs.main.Given as goal

abbrev pub ghosts-share_a_movie-N-Ledger : goal.ghosts-share_a_movie-N-Ledger
ghosts-share_a_movie-N-Ledger g a = record { name = a.unopened.ledger; parts = a.unopened.seats }

abbrev pub ghosts-share_a_movie-N-Name : goal.ghosts-share_a_movie-N-Name
ghosts-share_a_movie-N-Name g a = record { registry = a.unopened.registry }
