use Rattle.tas_program.proofs.desks.note_pairs.Given as goal

abbrev pub ghosts-note_doors : goal.ghosts-note_doors
ghosts-note_doors g a = record { name = a.word.name.now }
