use Rattle.std.proofs.Common.{◌≡◌, ◌+◌, ◌++◌, length, Some, arith, ap, sym, subst, ◌∙◌}
use Rattle.std.proofs.lemmas.Bool.{eqb-false, eqb-true}
use Rattle.std.proofs.lemmas.List.{length-append, length-replicate}
use Rattle.tas_movie.specs.Runs.{run_inputs}
use Rattle.tas_movie.proofs.RunTextLemmas.{resized}
use Rattle.tas_journal.proofs.ReadingLemmas.{Remain, remain_start, remain_step, remain_none, remain_end, run_shorter}
use Rattle.tas_journal.proofs.entries.read_frames.Goals as goal

pub loop-rest-init : goal.loop-rest-init
loop-rest-init g c = record {
  bound = let none = ap length c.new-list.ensures.items in omega (arith, none);
  all = λ inputs few is. remain_start inputs _ c.args.text.now c.new-list.ensures.items is;
}

pub returns-in_default-clause-all : goal.returns-in_default-clause-all
returns-in_default-clause-all g c = λ inputs few is.
    absurd (remain_none inputs _ c.loop-rest.rest.now few (eqb-false _ _ (sym c.loop-rest-test.ensures)) (λ run after small e. c.in_default.ensures.none run after small e) (c.loop-rest.invariant.all inputs few is))

pub returns-then-run-room-clause-all : goal.returns-then-run-room-clause-all
returns-then-run-room-clause-all g c = λ inputs few is.
    let step = remain_step inputs _ c.loop-rest.rest.now c.in-Some.after.now c.in-Some.run' few c.in-Some.ensures.some.0 c.in-Some.ensures.some.1 (c.loop-rest.invariant.all inputs few is) in
    absurd (omega (arith, step.0, few, c.len-len.ensures))

pub loop-rest-preserved : goal.loop-rest-preserved
loop-rest-preserved g c =
    let old = c.loop-rest.list.items in
    let run = c.in-Some.run' in
    let long = c.loop-rest.list.ok.0 in
    let grown : c.resize.new.self.items ≡ old ++ run_inputs run = c.in_ok-resize.ensures.items ∙ resized old _ _ run.count run.input (omega (arith, long, c.len-len.ensures)) (omega (arith, c.len-len.ensures)) in
    record {
      bound = let e = ap length grown in omega (arith, e, length-append old (run_inputs run), length-replicate run.count run.input, c.len-len.ensures, c.loop-rest.invariant.bound);
      all = λ inputs few is. subst (λ l. Remain inputs l c.in-Some.after.now) (sym grown)
          (remain_step inputs old c.loop-rest.rest.now c.in-Some.after.now run few c.in-Some.ensures.some.0 c.in-Some.ensures.some.1 (c.loop-rest.invariant.all inputs few is)).1;
    }

pub loop-rest-smaller : goal.loop-rest-smaller
loop-rest-smaller g c = run_shorter c.loop-rest.rest.now c.in-Some.after.now c.in-Some.run' c.in-Some.ensures.some.0

pub returns-clause-all : goal.returns-clause-all
returns-clause-all g c = λ inputs few is.
    ap Some (c.from_vec.ensures ∙ remain_end inputs _ c.loop-rest.rest.now (eqb-true _ _ (sym c.loop-rest-test.ensures)) (c.loop-rest.invariant.all inputs few is))
