use Rattle.std.proofs.Common.{leb, arith, rules}
use Rattle.std.proofs.lemmas.Bool.{leb-true, leb-false}
use Rattle.std.proofs.lemmas.List.Sorted.{IsPartitionedBy-leb, IsPartitionPoint-from_clause}
use Rattle.tas_green.proofs.ZoneLemmas.{rising_order}
use Rattle.tas_green.proofs.zone.count_up_to.Goals as goal

pub returns-clause-before : goal.returns-clause-before
returns-clause-before c =
    let xs = c.args.states.now in
    let parted = IsPartitionedBy-leb (λ kept. kept.frame) xs c.args.frame (rising_order xs 0 c.requires) in
    let point = IsPartitionPoint-from_clause (λ kept. leb kept.frame c.args.frame) xs c.partition_point.result c.partition_point.ensures.partitioned parted (λ x b f k. search rules) in
    λ j d lt. leb-true _ _ (point.0 j d (omega arith) lt)

pub returns-clause-next : goal.returns-clause-next
returns-clause-next c =
    let xs = c.args.states.now in
    let parted = IsPartitionedBy-leb (λ kept. kept.frame) xs c.args.frame (rising_order xs 0 c.requires) in
    let point = IsPartitionPoint-from_clause (λ kept. leb kept.frame c.args.frame) xs c.partition_point.result c.partition_point.ensures.partitioned parted (λ x b f k. search rules) in
    λ d lt. leb-false _ _ (point.1 c.partition_point.result d (omega arith) lt)
