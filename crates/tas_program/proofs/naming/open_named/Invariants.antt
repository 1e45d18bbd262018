use Rattle.std.proofs.Common.{◌≡◌, map, take}
use Rattle.tas_program.proofs.naming.open_named.Given as goal

-- the files of the names before place k are open
abbrev pub invariant-loop-k : goal.invariant-loop-k
invariant-loop-k g l = map g.F.File.Read.remaining l.files.items ≡ map (λ name. g.F.Folder.bytes_of l.folder name.now) (take l.k l.names)
