use Rattle.std.proofs.Common.{◌≡◌, ◌≢◌, refl, ◌<◌, ◌≤◌, ◌+◌, ◌-◌, ℕ, List, length, take, get_or, inl, inr, arith, sym, ap, ◌∙◌}
use Rattle.std.specs.Prelude.{replicate}
use Rattle.std.proofs.lemmas.Bool.{both_ways, cases_lt, cases_eq}
use Rattle.std.proofs.lemmas.Grind.{common_steps}
use Rattle.std.proofs.lemmas.List.{take-take, take-replicate}
use Rattle.vcs_inputs.specs.Input.{no_input}
use Rattle.vcs_inputs.specs.declared.input.Input.{Input}
use Rattle.tas_engines.specs.Differences.{most_bridged}
use Rattle.tas_engines.specs.Hunks.{IsReplacedRun}
use Rattle.tas_engines.proofs.comparing.replaced_run.Goals.{then-not-stays, else-not-stays}
use Rattle.tas_engines.proofs.comparing.replaced_run.Goals as goal

-- what the loop has found, where it ends: another input follows, or the list does, or too many have stayed
found : (old new : List Input) (input : Input) (count seen : ℕ) → count ≤ seen → seen ≤ length new → take seen new ≡ replicate seen input → (0 < count → get_or old (count - 1) no_input ≡ input → ⊥)
    → ((i : ℕ) → i + most_bridged < count → (j : ℕ) × (i ≤ j) × (j ≤ i + most_bridged) × (get_or old j no_input ≢ input)) → ((k : ℕ) → count ≤ k → k < seen → get_or old k no_input ≡ input) → (count ≡ seen → seen < length new → get_or new seen no_input ≡ input → ⊥) → IsReplacedRun old new input count
found old new input count seen order within same last bridged passed ended = record {
  within = omega (arith, order, within);
  same = sym (take-take count seen new order) ∙ ap (take count) same ∙ take-replicate count seen input order;
  last = last;
  bridged = bridged;
  longest = λ lt is.
      elim (cases_lt count seen) [
        | inl below ↦ passed count (omega arith) below
        | inr above ↦ let here : count ≡ seen = omega (arith, order, above) in absurd (ended here (omega (arith, here, lt)) (ap (λ (k : ℕ). get_or new k no_input) (sym here) ∙ is))
      ];
}

pub loop-seen-init : goal.loop-seen-init
loop-seen-init c = record {
  order = omega arith;
  within = omega arith;
  same = refl;
  last = λ some e. absurd (omega (arith, some));
  bridged = λ i lt. absurd (omega (arith, lt));
  passed = λ k low high. absurd (omega (arith, low, high));
}

pub loop-seen-preserved : goal.loop-seen-preserved
loop-seen-preserved c =
    let old = c.args.old.now in
    let i = c.loop-seen.invariant in
    let seen = c.loop-seen.seen in
    let order = i.order in
    let here = c.loop-seen-test.true in
    let same : take (c.loop-seen.seen + 1) c.args.new.now ≡ replicate (c.loop-seen.seen + 1) c.args.input = grind (arith, common_steps) in
    elim c.if-not-stays.branch [
      | then-not-stays w ↦
          let is = w.count-is in
          let last : c.loop-seen.seen ≡ c.if-not-stays.count - 1 = omega (arith, is) in
          record {
            order = omega (arith, is);
            within = omega (arith, here);
            same = same;
            last = λ some e. both_ways c.eq-stays.result w.if-not-stays.true (c.eq-stays.ensures.same.1 (ap (λ (k : ℕ). get_or old k no_input) last ∙ e));
            bridged = λ k lt. elim (cases_lt (k + most_bridged) c.loop-seen.count) [
              | inl below ↦ i.bridged k below
              | inr above ↦ elim (cases_eq (k + most_bridged) seen) [
                | inl last_one ↦ (seen, omega (arith, last_one), omega (arith, last_one), λ e. both_ways c.eq-stays.result w.if-not-stays.true (c.eq-stays.ensures.same.1 e))
                | inr apart ↦
                    let far = c.if-seen-count.true in
                    (c.loop-seen.count - 1, omega (arith, is, lt, above, apart, far), omega (arith, above), i.last (omega (arith, is, lt, apart, far)))
              ]
            ];
            passed = λ k low high. absurd (omega (arith, is, low, high));
          }
      | else-not-stays w ↦
          let is = w.count-is in
          record {
            order = omega (arith, is, order);
            within = omega (arith, here);
            same = same;
            last = λ some e. i.last (omega (arith, is, some)) (ap (λ (k : ℕ). get_or old (k - 1) no_input) (sym is) ∙ e);
            bridged = λ k lt. i.bridged k (omega (arith, is, lt));
            passed = λ k low high.
                elim (cases_lt k seen) [
                  | inl below ↦ i.passed k (omega (arith, is, low)) below
                  | inr above ↦ let at : k ≡ c.loop-seen.seen = omega (arith, above, high) in ap (λ (j : ℕ). get_or old j no_input) at ∙ c.eq-stays.ensures.same.0 w.if-not-stays.false
                ];
          }
    ]

pub returns-else-eq : goal.returns-else-eq
returns-else-eq c =
    let i = c.loop-seen.invariant in
    found c.args.old.now c.args.new.now c.args.input c.loop-seen.count c.loop-seen.seen i.order i.within i.same i.last i.bridged i.passed (λ here lt is. both_ways c.eq.result c.if-eq.false (c.eq.ensures.same.1 is))

pub returns-else-seen-count : goal.returns-else-seen-count
returns-else-seen-count c =
    let i = c.loop-seen.invariant in
    let far = c.if-seen-count.false in
    found c.args.old.now c.args.new.now c.args.input c.loop-seen.count c.loop-seen.seen i.order i.within i.same i.last i.bridged i.passed (λ here lt is. omega (arith, far, here))

pub returns-after-loop-seen : goal.returns-after-loop-seen
returns-after-loop-seen c =
    let i = c.loop-seen.invariant in
    let end = c.loop-seen-test.false in
    found c.args.old.now c.args.new.now c.args.input c.loop-seen.count c.loop-seen.seen i.order i.within i.same i.last i.bridged i.passed (λ here lt is. omega (arith, end, lt))
