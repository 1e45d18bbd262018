use Rattle.tas_program.proofs.noted_talks.note_talk.Given as goal

abbrev pub ghosts-note_blank : goal.ghosts-note_blank
ghosts-note_blank g a = record { name = a.word.name.now }

abbrev pub ghosts-note_cart : goal.ghosts-note_cart
ghosts-note_cart g a = record { name = a.word.name.now }

abbrev pub ghosts-note_movie : goal.ghosts-note_movie
ghosts-note_movie g a = record { name = a.word.name.now }
