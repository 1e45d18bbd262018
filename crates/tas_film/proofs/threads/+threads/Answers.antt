use Rattle.std.proofs.Common.{◌≡◌, ◌+◌, List, get_or, subst, rules}
use Rattle.tas_film.proofs.ThreadLemmas.{allowed_first, allowed_others, left_all}
use Rattle.tas_film.proofs.threads.+threads.Goals as goal

pub on_threads_from-first_and_others-requires-clause-first : goal.on_threads_from-first_and_others-requires-clause-first
on_threads_from-first_and_others-requires-clause-first g t c κs within = allowed_first (g.V.Visitor.accepts c.args.visitor.now) c.args.at c.args.items.now c.in-Some.first.now c.in-Some.others.now c.in-Some.ensures.cases.0 c.requires.accepts

pub on_threads_from-first_and_others-requires-clause-others : goal.on_threads_from-first_and_others-requires-clause-others
on_threads_from-first_and_others-requires-clause-others g t c κs within = allowed_others (g.V.Visitor.accepts c.args.visitor.now) c.args.at c.args.items.now c.in-Some.first.now c.in-Some.others.now c.in-Some.ensures.cases.0 c.requires.accepts

pub on_threads_from-returns-in-Some : goal.on_threads_from-returns-in-Some
on_threads_from-returns-in-Some g t c =
    left_all (g.V.Visitor.changes c.args.visitor.now) c.args.at c.args.items.now c.in-Some.first.now c.first_and_others.new.first c.in-Some.others.now c.first_and_others.new.others c.in-Some.ensures.cases.0
    c.first_and_others.ensures.first c.first_and_others.ensures.others

pub first_and_others-returns-clause-first : goal.first_and_others-returns-clause-first
first_and_others-returns-clause-first g t c =
    let same : c.join_mut.new.f.2.now ≡ c.first-1.given.0 = search rules in
    subst (g.V.Visitor.changes c.args.visitor.now c.args.at c.args.first.now) same c.join_mut.ensures.0.met.1

pub first_and_others-returns-clause-others : goal.first_and_others-returns-clause-others
first_and_others-returns-clause-others g t c k d lt =
    let same : c.join_mut.new.g.4.now ≡ c.others-1.given.0 = search rules in
    subst (λ (ys : List _). g.V.Visitor.changes c.args.visitor.now (c.args.next + k) (get_or c.args.others.now k d) (get_or ys k d)) same (c.join_mut.ensures.1.met.1 k d lt)
