use Rattle.std.proofs.Common.{◌≤◌, ◌+◌, ◌-◌, ◌++◌, ◌∷◌, [], List, drop, get_or, arith, refl, sym, ap, ◌∙◌, length-take, append_assoc}
use Rattle.std.proofs.lemmas.List.{append-nil}
use Rattle.vcs_inputs.specs.Input.{no_input}
use Rattle.tas_movie.specs.Runs.{runs_of}
use Rattle.tas_language.specs.declared.change.Change.{Change}
use Rattle.tas_language.specs.declared.change.Change.TheVariants.{Insert}
use Rattle.tas_engines.specs.Hunks.{insertions}
use Rattle.tas_engines.proofs.GapSteps.{between, first_insertion, none_left}
use Rattle.tas_engines.proofs.comparing.push_insertions.Goals as goal

pub loop-at-preserved : goal.loop-at-preserved
loop-at-preserved g c =
    let new = c.args.new.now in
    let to = c.args.to in
    let at = c.loop-at.at in
    let more = c.run_length-count.result in
    let items = c.loop-at.changes.items in
    let input = get_or new at no_input in
    let rest = insertions (at + (1 + more)) (runs_of (between new (at + (1 + more)) to)) in
    let here = c.loop-at-test.true in
    let room : c.run_length-count.result ≤ c.args.to - (c.loop-at.at + 1) =
    let bound = c.run_length-count.ensures.bound in omega (arith, bound, length-take (c.args.to - (c.loop-at.at + 1)) (drop (c.loop-at.at + 1) c.args.new.now)) in
    ap (λ (l : List Change). l ++ rest) c.in_ok-push.ensures.items
    ∙ append_assoc items (Insert at (1 + more) input ∷ []) rest
    ∙ ap (λ (l : List Change). items ++ l) (sym (first_insertion new at to more input here c.requires.within refl c.run_length-count.ensures.same room c.run_length-count.ensures.longest))
    ∙ c.loop-at.invariant

pub returns : goal.returns
returns g c =
    let items = c.loop-at.changes.items in
    sym (append-nil items) ∙ ap (λ (l : List Change). items ++ l) (sym (none_left c.args.new.now c.loop-at.at c.args.to c.loop-at-test.false)) ∙ c.loop-at.invariant
