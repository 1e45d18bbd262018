use Rattle.std.proofs.Common.{sym, ap, arith}
use Rattle.tas_movie.specs.Content.{MovieContent}
use Rattle.tas_seat.specs.Drafts.{draft_of}
use Rattle.tas_seat.proofs.draft.Draft.new.Goals as goal

pub invariant_of-result : goal.invariant_of-result
invariant_of-result g c = record {
  most = omega (arith, c.requires.most);
  cart = ap (λ (m : MovieContent). m.cart) c.requires.same;
  lawful = c.movie-movie.ensures.lawful.states;
  window = c.movie-movie.ensures.lawful.near;
}

pub returns : goal.returns
returns g c = ap (λ (m : MovieContent). draft_of c.args.at m 0 c.args.view) (sym c.requires.same)
