use Rattle.std.proofs.Common.{arith}
use Rattle.tas_journal.proofs.HeadLemmas.{recovered, line_wrong, head_wrong, text_wrong, head_long}
use Rattle.tas_journal.proofs.recovering.recover.Goals as goal

pub returns-in-Err-clause-wrong : goal.returns-in-Err-clause-wrong
returns-in-Err-clause-wrong g c = head_wrong g.row.A.Denot c.args.bytes.now c.args.cart.now c.args.until c.in-Err.error c.in-Err.ensures.none

pub head_movie-requires : goal.head_movie-requires
head_movie-requires g c = let long = head_long c.args.bytes.now c.in-Ok.parts.text.now c.in-Ok.parts.rest.now c.in-Ok.ensures.some in omega (arith, long)

pub returns-in-Err-head_movie-clause-wrong : goal.returns-in-Err-head_movie-clause-wrong
returns-in-Err-head_movie-clause-wrong g c =
    let long = head_long c.args.bytes.now c.in-Ok.parts.text.now c.in-Ok.parts.rest.now c.in-Ok.ensures.some in
    text_wrong g.row.A.Denot c.args.bytes.now c.args.cart.now c.in-Ok.parts.text.now c.in-Ok.parts.rest.now c.args.until c.in-Err-head_movie.error c.in-Ok.ensures.some (omega (arith, long)) c.in-Err-head_movie.ensures.wrong

pub overflow_add-first : goal.overflow_add-first
overflow_add-first g c =
    let long = head_long c.args.bytes.now c.in-Ok.parts.text.now c.in-Ok.parts.rest.now c.in-Ok.ensures.some in
    let few = c.count_lines-first.ensures.bound in
    omega (arith, long, few)

pub make_lines-requires : goal.make_lines-requires
make_lines-requires g c =
    let long = head_long c.args.bytes.now c.in-Ok.parts.text.now c.in-Ok.parts.rest.now c.in-Ok.ensures.some in
    let few = c.count_lines-first.ensures.bound in
    omega (arith, long, few)

pub returns-in-Err-make_lines-clause-wrong : goal.returns-in-Err-make_lines-clause-wrong
returns-in-Err-make_lines-clause-wrong g c =
    let count = c.count_lines-first.ensures.lines in
    line_wrong g.row.A.Denot c.args.bytes.now c.args.cart.now c.in-Ok.parts.text.now c.in-Ok.parts.rest.now c.args.until _ _ c.in-Ok-head_movie.movie c.in-Err-make_lines.error c.in-Ok.ensures.some c.in-Ok-head_movie.ensures.text
    c.in-Ok-head_movie.ensures.cart c.in-Ok-head_movie.ensures.few (omega (arith, count)) c.saturating_sub.ensures c.in-Err-make_lines.ensures.wrong

pub returns-in-Ok-make_lines-clause-made : goal.returns-in-Ok-make_lines-clause-made
returns-in-Ok-make_lines-clause-made g c =
    let count = c.count_lines-first.ensures.lines in
    recovered g.row.A.Denot c.args.bytes.now c.args.cart.now c.in-Ok.parts.text.now c.in-Ok.parts.rest.now c.args.until _ _ c.in-Ok-make_lines.made.edits c.in-Ok-head_movie.movie c.make_lines.new.movie c.in-Ok-make_lines.made.cut c.in-Ok.ensures.some c.in-Ok-head_movie.ensures.text
    c.in-Ok-head_movie.ensures.cart c.in-Ok-head_movie.ensures.few (omega (arith, count)) c.saturating_sub.ensures c.in-Ok-make_lines.ensures.made c.in-Ok-make_lines.ensures.edits c.in-Ok-make_lines.ensures.cut c.in-Ok-make_lines.ensures.whole
