use Rattle.std.proofs.Common.{◌≡◌, ◌+◌, ◌-◌, ◌/◌, ◌≤◌, take, vec_len, vec_capacity}
use Rattle.vcs_machine.specs.Machine.{after}
use Rattle.tas_green.specs.Zone.{IsRising}
use Rattle.tas_green.proofs.RunLemmas.{HasKept, grid_test, near_test}
use Rattle.tas_green.proofs.viewing.pass_both.Given as goal

abbrev pub invariant-loop-frame : goal.invariant-loop-frame
invariant-loop-frame g l = record {
  state : l.state ≡ after l.cart (take l.frame l.inputs);
  rising : IsRising 0 l.green.items;
  passed : HasKept (grid_test l.span.stride) l.fn.green.items l.cart l.inputs l.span.start.frame l.frame l.green.items;
  most : vec_len l.green + l.span.start.frame / l.span.stride ≤ vec_len l.fn.green + l.frame / l.span.stride;
  capacity : vec_capacity l.green ≡ vec_capacity l.fn.green;
  window_rising : IsRising 0 l.window.items;
  filled : HasKept (near_test l.place) l.fn.window.items l.cart l.inputs l.span.start.frame l.frame l.window.items;
  window_capacity : vec_capacity l.window ≡ vec_capacity l.fn.window;
  meter : l.meter ≡ l.fn.meter + (l.frame - l.span.start.frame);
}
