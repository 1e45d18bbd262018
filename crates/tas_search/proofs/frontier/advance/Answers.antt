use Rattle.std.proofs.Common.{◌+◌, arith}
use Rattle.tas_search.proofs.ArrivalLemmas.{moved_frontier}
use Rattle.tas_search.proofs.CountLemmas.{counts_are}
use Rattle.tas_search.proofs.LimitLemmas.{frontier_fits}
use Rattle.tas_search.proofs.ReachLemmas.{crowded}
use Rattle.tas_search.proofs.frontier.advance.Goals as goal

pub returns-in-None-clause-over : goal.returns-in-None-clause-over
returns-in-None-clause-over g c =
    let frontier = c.args.frontier.now in
    let over = rw (c.in-None.is, c.as_slice-before.ensures.keys) at c.in_ok-grow.ensures.layer in
    crowded c.args.space.now frontier.depth frontier.place c.args.limits.states frontier.parents.items frontier.layer.keys c.requires.frontier over

pub returns-clause-moved : goal.returns-clause-moved
returns-clause-moved g c =
    let frontier = c.args.frontier.now in
    let grown = rw c.in-Some.is at c.in_ok-grow.ensures.layer in
    moved_frontier c.args.space.now frontier.depth frontier.place c.len-end.result frontier.parents.items c.keep_steps.new.parents.items frontier.layer.keys c.as_slice-before.result.now c.in-Some.grown.layer.keys c.requires.frontier
    c.as_slice-before.ensures.keys (omega (arith, c.len-end.ensures, frontier.parents.ok.0)) (rw c.as_slice.ensures.keys at c.in_ok-keep_steps.ensures) grown.0

pub returns-clause-fits : goal.returns-clause-fits
returns-clause-fits g c =
    let frontier = c.args.frontier.now in
    let grown = rw c.in-Some.is at c.in_ok-grow.ensures.layer in
    frontier_fits c.args.space.now (frontier.depth + 1) c.len-end.result c.args.limits.states c.keep_steps.new.parents.items c.in-Some.grown.layer.keys
    (moved_frontier c.args.space.now frontier.depth frontier.place c.len-end.result frontier.parents.items c.keep_steps.new.parents.items frontier.layer.keys c.as_slice-before.result.now c.in-Some.grown.layer.keys c.requires.frontier
    c.as_slice-before.ensures.keys (omega (arith, c.len-end.ensures, frontier.parents.ok.0)) (rw c.as_slice.ensures.keys at c.in_ok-keep_steps.ensures) grown.0)
    grown.1

pub returns-clause-counts : goal.returns-clause-counts
returns-clause-counts g c =
    let frontier = c.args.frontier.now in
    let grown = rw c.in-Some.is at c.in_ok-grow.ensures.layer in
    let tried = rw c.in-Some.is at c.in_ok-grow.ensures.tried in
    counts_are c.args.space.now frontier.depth frontier.place c.len-end.result frontier.parents.items c.keep_steps.new.parents.items frontier.layer.keys c.as_slice-before.result.now c.in-Some.grown.layer.keys c.in-Some.grown.tried c.len-states.result c.len-end.result
    c.in_ok-counts.counts c.requires.frontier
    (moved_frontier c.args.space.now frontier.depth frontier.place c.len-end.result frontier.parents.items c.keep_steps.new.parents.items frontier.layer.keys c.as_slice-before.result.now c.in-Some.grown.layer.keys c.requires.frontier
    c.as_slice-before.ensures.keys (omega (arith, c.len-end.ensures, frontier.parents.ok.0)) (rw c.as_slice.ensures.keys at c.in_ok-keep_steps.ensures) grown.0)
    c.as_slice-before.ensures.keys (omega (arith, c.len-states.ensures.len)) tried (omega (arith, c.len-end.ensures, frontier.parents.ok.0)) c.in_ok-counts.ensures
