use Rattle.std.proofs.Common.{Ok, Err}
use Rattle.std.specs.Prelude.{Result, OnOk}
use Rattle.tas_engines.proofs.GapLemmas.{shorter, shorter_gap, whole_hunk, hunk_led}
use Rattle.tas_engines.proofs.comparing.push_gap.Goals as goal

on_ok : {T E : Type 0} (r : Result T E) (P Q : Type 0) → (P → Q) → OnOk r P → OnOk r Q
on_ok (Ok x) P Q f h = f h
on_ok (Err e) P Q f h = tt

pub returns-then-replaces : goal.returns-then-replaces
returns-then-replaces g c =
    let before = c.args.changes.now.items in
    on_ok c.push_replacements.result _ _
    (whole_hunk c.args.old.now c.args.new.now c.args.gap c.common_end-end.result before c.push_replacements.new.changes.items c.requires c.common_end-end.ensures) c.push_replacements.ensures

pub returns : goal.returns
returns g c =
    let old = c.args.old.now in
    let new = c.args.new.now in
    let gap = c.args.gap in
    let end = c.common_end-end.result in
    let before = c.args.changes.now.items in
    let between' = c.push_deletion.new.changes.items in
    let after = c.push_insertions.new.changes.items in
    on_ok c.push_insertions.result _ _
    (λ is. whole_hunk old new gap end before after c.requires c.common_end-end.ensures
    (hunk_led old new (shorter gap end) before between' after (shorter_gap old new gap end c.requires c.common_end-end.ensures) c.if-replaces.false c.in_ok-push_deletion.ensures is))
    c.push_insertions.ensures
