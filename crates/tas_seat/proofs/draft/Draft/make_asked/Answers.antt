use Rattle.std.proofs.Common.{◌≡◌, length, ap, ◌∙◌, arith}
use Rattle.tas_movie.specs.Content.{MovieContent}
use Rattle.tas_published.specs.History.{most_edits}
use Rattle.tas_seat.specs.Inside.EditRequests.{requested_edit}
use Rattle.tas_seat.proofs.DraftEditLemmas.{change_made}
use Rattle.tas_seat.proofs.draft.Draft.make_asked.Goals as goal

pub returns : goal.returns
returns g c =
    let at = c.edits-at.ensures.at in
    change_made g.row.A.Denot c.args.self.now c.make.new.self c.args.asked c.in-Ok.edit c.edits-at.result c.len.result at (λ (e : c.edits-at.result ≡ most_edits). omega (arith, at, e, c.requires.room)) c.requires.free
    (c.in-Ok.ensures.edit ∙ ap (requested_edit g.row.A.Denot c.args.asked) c.movie.ensures.movie) c.make.ensures (c.len.ensures.len ∙ ap (λ (m : MovieContent). length m.inputs) c.movie-2.ensures.movie)
