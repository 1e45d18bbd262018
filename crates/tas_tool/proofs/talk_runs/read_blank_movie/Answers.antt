use Rattle.std.proofs.Common.{refl}
use Rattle.std.proofs.lemmas.Result.{err_from_is_err_and}
use Rattle.tas_tool.proofs.TalkRunLemmas.{cart_unread, cart_unmade, cart_started}
use Rattle.tas_tool.proofs.talk_runs.read_blank_movie.Goals as goal

pub returns-in_err-image : goal.returns-in_err-image
returns-in_err-image g c =
    let p = err_from_is_err_and c.from_residual.result c.from_residual.ensures.1 in
    rw (p.1, p.2) (cart_unread _ _ c.in_err-image.field-0.0 _ c.in_err-image.ensures.fault refl)

pub returns-in_err-blank_movie_of : goal.returns-in_err-blank_movie_of
returns-in_err-blank_movie_of g c =
    let p = err_from_is_err_and c.from_residual-in_err-blank_movie_of.result c.from_residual-in_err-blank_movie_of.ensures.1 in
    rw (p.1, p.2) (cart_unmade _ _ _ c.as_slice.result.now c.in_err-blank_movie_of.field-0.0 _ c.in_ok-image.ensures.whole c.as_slice.ensures.value c.in_err-blank_movie_of.ensures refl)

pub returns : goal.returns
returns g c =
    cart_started _ _ _ c.as_slice.result.now c.in_ok-blank_movie_of.field-0 c.in_ok-image.ensures.whole c.as_slice.ensures.value c.in_ok-blank_movie_of.ensures.0 c.in_ok-blank_movie_of.ensures.1
