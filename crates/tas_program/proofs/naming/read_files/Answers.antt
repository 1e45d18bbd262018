use Rattle.std.proofs.Common.{ap, Err, IfErr, map, refl, subst, sym, ◌∙◌}
use Rattle.std.specs.Prelude.{slice_set}
use Rattle.std.proofs.lemmas.List.{length-set}
use Rattle.std.proofs.lemmas.Result.{err_from_is_err_and}
use Rattle.tas_engines.proofs.ReadLemmas.{whole_none, rest_more, whole_onto}
use Rattle.tas_program.specs.Naming.{StopsAt}
use Rattle.tas_program.proofs.NamingLemmas.{stops_at}
use Rattle.tas_program.proofs.naming.read_files.Goals as goal

pub loop-k-init : goal.loop-k-init
loop-k-init g c = record { whole = rw c.new-inputs.ensures.items whole_none; rest = refl; len = refl }

pub loop-k-preserved : goal.loop-k-preserved
loop-k-preserved g c = record {
  whole = whole_onto g.R.Read.remaining c.args.readers.now c.loop-k.readers c.loop-k.k c.index-readers-k.result c.read_at.new.reader _ _ c.loop-k-test.true c.loop-k.invariant.len c.loop-k.invariant.rest c.loop-k.invariant.whole
      c.in_ok-read_at.ensures.whole;
  rest = rest_more c.args.readers.now c.loop-k.readers c.loop-k.k c.index-readers-k.result c.read_at.new.reader c.loop-k-test.true c.loop-k.invariant.len c.loop-k.invariant.rest;
  len = length-set c.loop-k.readers c.loop-k.k c.read_at.new.reader ∙ c.loop-k.invariant.len;
}

pub returns-in_err-read_at-clause-fault : goal.returns-in_err-read_at-clause-fault
returns-in_err-read_at-clause-fault g c =
    let told = err_from_is_err_and c.from_residual.result c.from_residual.ensures.1 in
    subst (λ r. IfErr r (StopsAt c.args.roles (map g.R.Read.remaining c.args.readers.now) (map g.R.Read.remaining (slice_set c.loop-k.readers c.loop-k.k c.read_at.new.reader)))) (sym (told.1 ∙ ap Err told.2))
    (stops_at c.args.roles g.R.Read.remaining c.args.readers.now c.loop-k.readers c.loop-k.k c.index-readers-k.result c.read_at.new.reader c.in_err-read_at.field-0.0 _
    c.loop-k-test.true c.loop-k.invariant.len c.loop-k.invariant.rest c.loop-k.invariant.whole c.in_err-read_at.ensures.fault)
