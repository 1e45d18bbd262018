use Rattle.std.proofs.lemmas.Grind.{common_steps}
use Rattle.std.proofs.Common.{[], ◌∷◌, ◌++◌, List, map, refl, sym, subst, arith}
use Rattle.std.specs.Prelude.{option_map}
use Rattle.tas_verify.specs.declared.manifest.Row.{Row}
use Rattle.tas_verify.specs.Manifest.{Reads, Said, words_in}
use Rattle.tas_verify.proofs.ManifestLemmas.{reads_none, reads_more, count_more, split_length}
use Rattle.tas_verify.proofs.manifest.read_manifest.Goals as goal

pub loop-rest-init : goal.loop-rest-init
loop-rest-init g c =
    ([], record { reads = subst (λ (r : List Row). Reads c.args.bytes.now (map words_in r) [] c.args.bytes.now) (sym c.new-rows.ensures.items) (reads_none c.args.bytes.now); number = refl; room = omega arith })

pub loop-rest-preserved : goal.loop-rest-preserved
loop-rest-preserved g c =
    let (lines, i) = c.loop-rest.invariant in
    let said : Said = record { text = c.in-Some.line.now; row = option_map words_in c.in-Some-read_line.row } in
    let shorter = split_length c.loop-rest.rest.now c.in-Some.line.now c.in-Some.after.now c.in-Some.ensures.some.0 in (
      lines ++ said ∷ [],
      record {
        reads = reads_more c.args.bytes.now c.loop-rest.rest.now c.in-Some.line.now c.in-Some.after.now _ _ lines (option_map words_in c.in-Some-read_line.row) i.reads c.in-Some.ensures.some.0 c.in-Some.ensures.some.1
            c.in-Some-read_line.ensures.some c.in_ok-push_row.ensures.rows;
        number = omega (arith, i.number, count_more lines said);
        room = omega (arith, i.room, shorter);
      },
    )

pub loop-rest-smaller : goal.loop-rest-smaller
loop-rest-smaller g c = grind (arith, common_steps)

pub returns-in_default-clause-fault : goal.returns-in_default-clause-fault
returns-in_default-clause-fault g c = grind (arith, common_steps)

pub returns-in_default-read_line-clause-fault : goal.returns-in_default-read_line-clause-fault
returns-in_default-read_line-clause-fault g c = grind (arith, common_steps)

pub returns-clause-read : goal.returns-clause-read
returns-clause-read g c = grind (arith, common_steps)
