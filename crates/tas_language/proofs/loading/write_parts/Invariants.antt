use Rattle.std.proofs.Common.{◌≡◌, ◌++◌, List, length}
use Rattle.std.specs.List.{flat_map}
use Rattle.tas_language.specs.Parts.{Part, AreParts, part_text, overwritten_by_all}
use Rattle.tas_language.proofs.loading.write_parts.Given as goal

abbrev pub invariant-loop-rest : goal.invariant-loop-rest
invariant-loop-rest l = (length l.image ≡ length l.fn.image) × (done : List Part) × record {
  are : AreParts (length l.fn.image) done;
  text : l.text ≡ flat_map part_text done ++ l.rest;
  image : l.image ≡ overwritten_by_all l.fn.image done;
  back : (parts : List Part) → AreParts (length l.fn.image) parts → l.text ≡ flat_map part_text parts → (more : List Part) × AreParts (length l.fn.image) more × (l.rest ≡ flat_map part_text more);
}

abbrev pub decreases-loop-rest : goal.decreases-loop-rest
decreases-loop-rest l = length l.rest
