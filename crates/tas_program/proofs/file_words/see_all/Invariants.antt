use Rattle.std.proofs.Common.{◌≡◌, All, length, map, take}
use Rattle.tas_program.specs.FileWords.{IsSeen, name_of, words}
use Rattle.tas_program.proofs.file_words.see_all.Given as goal

abbrev pub invariant-loop-i : goal.invariant-loop-i
invariant-loop-i g l =
    (length l.seen ≡ 22) × (map (λ s. s.word) (take l.i l.seen) ≡ take l.i words) × All (λ s. IsSeen (g.F.Folder.shown l.folder) (name_of l.task s.word) s.file) (take l.i l.seen)
