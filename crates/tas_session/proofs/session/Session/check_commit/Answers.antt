use Rattle.std.proofs.Common.{◌≡◌, ◌+◌, ◌≤◌, length, ap, sym, ◌∙◌, arith}
use Rattle.tas_movie.specs.Content.{MovieContent}
use Rattle.tas_published.specs.History.{most_edits, entries_of}
use Rattle.tas_session.specs.Session.{SessionContent}
use Rattle.tas_published.specs.Strokes.{edits_of, refusal_in}
use Rattle.tas_session.proofs.StepLemmas.{answer_none, are_next}
use Rattle.tas_session.proofs.session.Session.check_commit.Goals as goal

pub returns-in-Ok-clause-next : goal.returns-in-Ok-clause-next
returns-in-Ok-clause-next g c =
    let list = ap (λ (s : SessionContent _). entries_of c.args.seat s.journal) c.self.view_is in
    let serial : c.args.made ≡ entries_of c.args.seat c.args.self.now.journal = c.if-made-counted.false ∙ c.count-counted.ensures ∙ c.self.invariant.1 c.args.seat ∙ list in
    let few = c.if-here-count-gt-MAX_EDITS.false in
    let here = c.at-here.ensures.at in
    let count = c.count.ensures in
    let room : length c.args.self.now.journal + length (edits_of c.args.stroke.now) ≤ most_edits = omega (arith, few, here, count) in
    let movie = c.movie.ensures.movie ∙ c.movie.ensures.history in
    let none = answer_none (refusal_in c.movie.result.now (edits_of c.args.stroke.now)) c.check.result _ c.in-Ok.is c.check.ensures in
    are_next c.args.self.now.journal c.args.seat c.args.made (edits_of c.args.stroke.now) serial room (sym (ap (λ (m : MovieContent). refusal_in m (edits_of c.args.stroke.now)) movie) ∙ none)
