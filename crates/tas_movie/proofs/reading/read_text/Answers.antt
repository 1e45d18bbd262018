use Rattle.std.proofs.Common.{◌≡◌, ℕ, List, ap, sym, subst, ◌∙◌, arith}
use Rattle.tas_movie.specs.Content.{MovieContent}
use Rattle.tas_movie.specs.Text.{IsText}
use Rattle.tas_movie.proofs.TwoTexts.{read_only, read_no_error}
use Rattle.tas_movie.proofs.reading.read_text.Goals as goal

pub returns-in-Ok-read_lines-clause-found : goal.returns-in-Ok-read_lines-clause-found
returns-in-Ok-read_lines-clause-found g c =
    let same : c.movie.inside.cart ≡ c.args.cart.now = ap (λ (r : MovieContent). r.cart) (c.movie.view_is ∙ c.in-Ok.ensures) in
    (same, subst (λ (cart : List ℕ). IsText c.args.bytes.now (record { cart = cart; inputs = c.read_lines.new.list.items })) (sym same) c.in-Ok-read_lines.ensures.movie)

pub returns-in-Ok-read_lines-clause-all : goal.returns-in-Ok-read_lines-clause-all
returns-in-Ok-read_lines-clause-all g c = λ movie same le e.
    read_only c.args.cart.now c.args.bytes.now (record { cart = c.movie.inside.cart; inputs = c.read_lines.new.list.items }) movie
    (ap (λ (r : MovieContent). r.cart) (c.movie.view_is ∙ c.in-Ok.ensures)) c.in-Ok-read_lines.ensures.movie same (let bound = c.read_lines.ensures.bound in omega (arith, bound)) le e

pub returns-in-Err-clause-all : goal.returns-in-Err-clause-all
returns-in-Err-clause-all g c = λ movie same le e. absurd (read_no_error c.args.cart.now c.args.bytes.now movie c.in-Err.error same le e c.in-Err.ensures.fault)
