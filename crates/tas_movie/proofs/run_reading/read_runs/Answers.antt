use Rattle.std.proofs.Common.{◌≡◌, ◌+◌, ◌-◌, ◌++◌, false, length, arith, ap, sym, subst, ◌∙◌}
use Rattle.std.specs.Prelude.{slice_get}
use Rattle.std.proofs.lemmas.Bool.{eqb-false, eqb-true}
use Rattle.tas_movie.specs.Runs.{run_inputs}
use Rattle.tas_movie.specs.Fault.{is_repeated, run_fault, runs_fault, fault_by}
use Rattle.tas_movie.proofs.RunTextLemmas.{runs_go_on, runs_stop, runs_unended, runs_end, runs_read, none_read, resized}
use Rattle.tas_movie.proofs.TextLemmas.{shorter, all_read}
use Rattle.tas_movie.proofs.run_reading.read_runs.Goals as goal

pub loop-rest-init : goal.loop-rest-init
loop-rest-init g c =
    let long = c.args.list.now.ok.0 in
    let none = ap length c.requires.empty in
    record {
      runs = none_read c.args.list.now.items c.args.bytes.now c.requires.empty;
      same_fault = ap (λ l. fault_by (runs_fault 3 l) c.args.bytes.now) c.requires.empty;
      bound = omega (arith, long, none);
      capacity = omega arith;
      number = omega arith;
    }

pub returns-in_default-clause-bound : goal.returns-in_default-clause-bound
returns-in_default-clause-bound g c = c.loop-rest.invariant.bound

pub returns-in_default-clause-capacity : goal.returns-in_default-clause-capacity
returns-in_default-clause-capacity g c = c.loop-rest.invariant.capacity

pub returns-in_default-clause-fault : goal.returns-in_default-clause-fault
returns-in_default-clause-fault g c =
    rw c.error_at.ensures (sym c.loop-rest.invariant.same_fault ∙ runs_unended c.loop-rest.number _ c.loop-rest.rest.now c.in_default.ensures.none (eqb-false _ _ (sym c.loop-rest-test.ensures)))

pub returns-in-Err-clause-bound : goal.returns-in-Err-clause-bound
returns-in-Err-clause-bound g c = c.loop-rest.invariant.bound

pub returns-in-Err-clause-capacity : goal.returns-in-Err-clause-capacity
returns-in-Err-clause-capacity g c = c.loop-rest.invariant.capacity

pub returns-in-Err-clause-fault : goal.returns-in-Err-clause-fault
returns-in-Err-clause-fault g c =
    let found = ap (λ l. run_fault l c.in-Some.line.now) (sym c.as_slice.ensures.value) ∙ c.in-Err.ensures.fault in
    rw c.error_at-in-Err.ensures (sym c.loop-rest.invariant.same_fault ∙ runs_stop c.loop-rest.number _ c.loop-rest.rest.now c.in-Some.line.now c.in-Some.after.now c.in-Err.kind c.in-Some.ensures.lines found)

pub unwrap-requires : goal.unwrap-requires
unwrap-requires g c =
    let few = c.in-Ok.ensures.few in
    let same = c.as_slice.ensures.len in
    let room = c.loop-rest.invariant.capacity in
    c.resize.ensures.succeeds (omega (arith, few, same, room, c.len-len.ensures, c.requires.room))

pub loop-rest-preserved : goal.loop-rest-preserved
loop-rest-preserved g c =
    let old = c.loop-rest.list.items in
    let run = c.in-Ok.run' in
    let rest = c.loop-rest.rest.now in
    let said = c.in-Some.line.now in
    let after = c.in-Some.after.now in
    let few = c.in-Ok.ensures.few in
    let same = c.as_slice.ensures.len in
    let long = c.loop-rest.list.ok.0 in
    let is = c.in-Some.ensures.bytes in
    let fewer = shorter rest said after is in
    let counted = c.loop-rest.invariant.number in
    let right = ap (λ l. run_fault l said) (sym c.as_slice.ensures.value) ∙ c.in-Ok.ensures.fault in
    let other = subst (λ l. is_repeated (slice_get l (length l - 1)) run.input ≡ false) c.as_slice.ensures.value c.in-Ok.ensures.other in
    let grown : c.resize.new.self.items ≡ old ++ run_inputs run = rw (c.resize.ensures.items, c.unwrap.ensures) (resized old _ _ run.count run.input (omega (arith, long, c.len-len.ensures)) (omega (arith, c.len-len.ensures))) in
    record {
      runs = runs_read c.args.bytes.now old c.resize.new.self.items rest said after run c.loop-rest.invariant.runs is c.in-Ok.ensures.said other grown;
      same_fault = ap (λ l. fault_by (runs_fault (c.loop-rest.number + 1) l) after) grown ∙ sym (runs_go_on c.loop-rest.number old rest said after run c.in-Some.ensures.lines c.in-Ok.ensures.said right) ∙ c.loop-rest.invariant.same_fault;
      bound = rw (c.resize.ensures.len, c.unwrap.ensures) (omega (arith, few, same, c.len-len.ensures));
      capacity = omega (arith, c.resize.ensures.capacity);
      number = omega (arith, fewer, counted);
    }

pub loop-rest-smaller : goal.loop-rest-smaller
loop-rest-smaller g c = shorter c.loop-rest.rest.now c.in-Some.line.now c.in-Some.after.now c.in-Some.ensures.bytes

pub returns-clause-runs : goal.returns-clause-runs
returns-clause-runs g c = all_read c.args.bytes.now _ c.loop-rest.rest.now c.loop-rest.invariant.runs (eqb-true _ _ (sym c.loop-rest-test.ensures))

pub returns-clause-fault : goal.returns-clause-fault
returns-clause-fault g c = sym c.loop-rest.invariant.same_fault ∙ runs_end c.loop-rest.number _ c.loop-rest.rest.now (eqb-true _ _ (sym c.loop-rest-test.ensures))
