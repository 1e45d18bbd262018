use Rattle.std.proofs.lemmas.Grind.{common_steps}
use Rattle.std.proofs.Common.{◌≡◌, ap, subst, subst₂, min, length, take, arith}
use Rattle.std.specs.Prelude.{IfOk}
use Rattle.tas_green.specs.Grid.{stride}
use Rattle.tas_green.specs.Zone.{nearest}
use Rattle.tas_session.specs.Session.{SessionContent}
use Rattle.tas_session.proofs.session.Session.job.Goals as goal

pub returns-clause-cart : goal.returns-clause-cart
returns-clause-cart g c = subst (λ movie. IfOk c.take.result (λ job. job.cart ≡ movie.cart)) c.movie.ensures.movie c.take.ensures.cart

pub returns-clause-inputs : goal.returns-clause-inputs
returns-clause-inputs g c =
    subst (λ movie. IfOk c.take.result (λ job. job.inputs ≡ take (min c.args.near (length movie.inputs)) movie.inputs)) c.movie.ensures.movie c.take.ensures.inputs

pub returns-clause-stride : goal.returns-clause-stride
returns-clause-stride g c = subst (λ movie. IfOk c.take.result (λ job. job.stride ≡ stride (length movie.inputs))) c.movie.ensures.movie c.take.ensures.stride

pub returns-clause-start : goal.returns-clause-start
returns-clause-start g c =
    subst₂ (λ movie zone. IfOk c.take.result (λ job. job.start ≡ nearest (min c.args.near (length movie.inputs)) zone)) c.movie.ensures.movie (ap (λ (s : SessionContent _). s.zone) c.self.view_is) c.take.ensures.start

pub take-requires : goal.take-requires
take-requires g c = grind (arith, common_steps)
