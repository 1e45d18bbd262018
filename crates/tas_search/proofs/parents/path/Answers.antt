use Rattle.std.proofs.Common.{◌≡◌, length, refl, arith}
use Rattle.std.specs.Prelude.{slice_index_or}
use Rattle.tas_search.specs.Inside.Arrivals.{no_step}
use Rattle.tas_search.proofs.ArrivalLemmas.{within_at}
use Rattle.tas_search.proofs.CodeLemmas.{path_back_at, path_found}
use Rattle.tas_search.proofs.parents.path.Goals as goal

pub loop-back-preserved : goal.loop-back-preserved
loop-back-preserved g c =
    let parents = c.args.parents.now in
    let step = c.loop-back.step in
    record {
      found =
          path_back_at parents c.args.depth c.loop-back.back step c.args.last (slice_index_or parents step.parent no_step) c.loop-back.choices.items c.push.new.self.items (omega (arith, c.loop-back-test.true)) refl
          c.in_ok-push.ensures.items c.loop-back.invariant.found;
      within = within_at (length parents) parents step.parent c.requires.within c.loop-back.invariant.within;
    }

pub returns : goal.returns
returns g c =
    let all : c.loop-back.back ≡ c.args.depth = omega arith in
    path_found c.args.parents.now c.args.depth c.loop-back.back c.loop-back.step c.args.last c.loop-back.choices.items c.reverse.new.self.items all c.reverse.ensures.items c.loop-back.invariant.found
