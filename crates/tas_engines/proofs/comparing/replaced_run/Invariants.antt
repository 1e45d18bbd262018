use Rattle.std.proofs.Common.{◌≡◌, ◌+◌, ◌<◌, ◌≤◌, ◌-◌, ℕ, length, take, get_or}
use Rattle.std.specs.Prelude.{replicate, ◌≢◌}
use Rattle.vcs_inputs.specs.Input.{no_input}
use Rattle.tas_engines.specs.Differences.{most_bridged}
use Rattle.tas_engines.proofs.comparing.replaced_run.Given as goal

abbrev pub invariant-loop-seen : goal.invariant-loop-seen
invariant-loop-seen l = record {
  order : l.count ≤ l.seen;
  within : l.seen ≤ length l.new;
  same : take l.seen l.new ≡ replicate l.seen l.input;
  last : 0 < l.count → get_or l.old (l.count - 1) no_input ≢ l.input;
  bridged : (i : ℕ) → i + most_bridged < l.count → (j : ℕ) × (i ≤ j) × (j ≤ i + most_bridged) × (get_or l.old j no_input ≢ l.input);
  passed : (k : ℕ) → l.count ≤ k → k < l.seen → get_or l.old k no_input ≡ l.input;
}

abbrev pub decreases-loop-seen : goal.decreases-loop-seen
decreases-loop-seen l = length l.new - l.seen
