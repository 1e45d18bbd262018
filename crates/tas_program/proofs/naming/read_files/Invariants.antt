use Rattle.std.proofs.Common.{◌≡◌, length, take, drop, map}
use Rattle.tas_engines.specs.Input.{AreReadWhole}
use Rattle.tas_program.proofs.naming.read_files.Given as goal

-- the files before place k are read whole, and the others are as they were
abbrev pub invariant-loop-k : goal.invariant-loop-k
invariant-loop-k g l = record {
  whole : AreReadWhole (map g.R.Read.remaining (take l.k l.fn.readers)) (map g.R.Read.remaining (take l.k l.readers)) (map (λ bytes. bytes.items) l.inputs.items);
  rest : drop l.k l.readers ≡ drop l.k l.fn.readers;
  len : length l.readers ≡ length l.fn.readers;
}
