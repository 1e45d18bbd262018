use Rattle.std.proofs.lemmas.Grind.{common_steps}
use Rattle.std.proofs.Common.{◌≤◌, ◌+◌, ◌++◌, ◌∙◌, length, take, drop, ap, append_assoc, arith}
use Rattle.tas_movie.specs.Content.{MovieContent}
use Rattle.tas_movie.proofs.EditLemmas.{place_within, insert_within, front_stays}
use Rattle.tas_movie.proofs.editing.apply.Goals as goal

pub returns-in-Insert-clause-before : goal.returns-in-Insert-clause-before
returns-in-Insert-clause-before g c =
    let le = insert_within (length c.args.movie.now.inputs) c.in-Insert.at (length c.in-Insert.inputs) (rw c.in-Insert.is at c.requires) in
    let old = c.movie.inside.list.items in
    let new = c.as_slice.result.now in
    let rest = drop c.in-Insert.at old in
    rw c.in-Insert.is (front_stays c.in-Insert.at old c.args.movie.now.inputs (new ++ rest) c.insert_at.new.list.items (ap (λ (m : MovieContent). m.inputs) c.movie.view_is) le
    (c.insert_at.ensures.items ∙ append_assoc (take c.in-Insert.at old) new rest))

pub returns-in-Delete-clause-before : goal.returns-in-Delete-clause-before
returns-in-Delete-clause-before g c =
    let end = place_within (length c.args.movie.now.inputs) c.in-Delete.at (c.in-Delete.at + c.in-Delete.count) (rw c.in-Delete.is at c.requires) in
    let le : c.in-Delete.at ≤ length c.args.movie.now.inputs = omega (arith, end) in
    rw c.in-Delete.is (front_stays c.in-Delete.at c.movie.inside.list.items c.args.movie.now.inputs _ c.delete_at.new.list.items (ap (λ (m : MovieContent). m.inputs) c.movie.view_is) le c.delete_at.ensures.items)

pub returns-in-Replace-clause-movie : goal.returns-in-Replace-clause-movie
returns-in-Replace-clause-movie g c = grind (arith, common_steps)

pub invariant_of-movie-in-Insert : goal.invariant_of-movie-in-Insert
invariant_of-movie-in-Insert g c = grind (arith, common_steps)

pub invariant_of-movie-in-Delete : goal.invariant_of-movie-in-Delete
invariant_of-movie-in-Delete g c = grind (arith, common_steps)

pub returns-in-Replace-clause-before : goal.returns-in-Replace-clause-before
returns-in-Replace-clause-before g c = grind (arith, common_steps)
