use Rattle.std.specs.Prelude.{Ok, Err, Result, OnOk}
use Rattle.tas_engines.proofs.GapLemmas.{goes_first, goes_further, gap_further, hunk_ends}
use Rattle.tas_engines.proofs.comparing.push_hunk.Goals as goal

pub loop-i-init : goal.loop-i-init
loop-i-init g c =
    let old = c.args.old.now in
    let new = c.args.new.now in
    let hunk = c.args.hunk in
    let before = c.args.changes.now.items in
    let first = goes_first old new hunk c.common_front-front.result before c.requires c.common_front-front.ensures in
    record { is_gap = gap_further old new hunk _ before before c.requires first; goes = first }

pub loop-i-preserved : goal.loop-i-preserved
loop-i-preserved g c =
    let old = c.args.old.now in
    let new = c.args.new.now in
    let i = c.loop-i.invariant in
    record {
      is_gap = gap_further old new _ _ _ _ i.is_gap c.in_ok-gap.ensures;
      goes = goes_further old new c.args.hunk _ _ _ _ _ i.goes c.in_ok-gap.ensures;
    }

on_ok : {T E : Type 0} (r : Result T E) (P Q : Type 0) → (P → Q) → OnOk r P → OnOk r Q
on_ok (Ok x) P Q f h = f h
on_ok (Err e) P Q f h = tt

pub returns : goal.returns
returns g c =
    let i = c.loop-i.invariant in
    on_ok c.push_gap.result _ _ (hunk_ends c.args.old.now c.args.new.now c.args.hunk c.loop-i.gap c.args.changes.now.items c.loop-i.changes.items c.push_gap.new.changes.items i.is_gap i.goes) c.push_gap.ensures
