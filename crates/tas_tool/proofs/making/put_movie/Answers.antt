use Rattle.std.proofs.lemmas.Grind.{common_steps}
use Rattle.std.proofs.Common.{Ok, Err, subst, sym, ◌∙◌, arith}
use Rattle.std.proofs.lemmas.Result.{err_from_is_err_and}
use Rattle.tas_tool.specs.Inside.TwoEdits.{IsMakingFault}
use Rattle.tas_tool.proofs.MakingLemmas.{loaded, movie_made, insert_refused, load_refused, unrefused_at_first, load_unrefused, insert_unrefused, compared}
use Rattle.tas_tool.proofs.CheckedLemmas.{edited_number, edited_zone}
use Rattle.tas_tool.proofs.making.put_movie.Goals as goal

pub returns-in-Ok-edit-clause-holds : goal.returns-in-Ok-edit-clause-holds
returns-in-Ok-edit-clause-holds g c =
    let first = loaded c.args.seat.now c.edit.new.seat c.in_ok-cart.cart c.in-Ok.field-0 c.requires.first.0 c.requires.first.1 c.in-Ok.ensures in
    (movie_made c.edit.new.seat c.edit-2.new.seat c.args.movie.now c.in_ok-cart.cart c.in_ok-cart.inputs c.in-Ok-edit.receipt _ c.in_ok-cart.ensures.whole c.in_ok-cart.ensures.few first c.in-Ok-edit.ensures c.unless_foreign.ensures).0

pub returns-in-Ok-edit-clause-fault : goal.returns-in-Ok-edit-clause-fault
returns-in-Ok-edit-clause-fault g c =
    let first = loaded c.args.seat.now c.edit.new.seat c.in_ok-cart.cart c.in-Ok.field-0 c.requires.first.0 c.requires.first.1 c.in-Ok.ensures in
    (movie_made c.edit.new.seat c.edit-2.new.seat c.args.movie.now c.in_ok-cart.cart c.in_ok-cart.inputs c.in-Ok-edit.receipt _ c.in_ok-cart.ensures.whole c.in_ok-cart.ensures.few first c.in-Ok-edit.ensures c.unless_foreign.ensures).1

pub returns-in-Err-edit-clause-fault : goal.returns-in-Err-edit-clause-fault
returns-in-Err-edit-clause-fault g c =
    let first = loaded c.args.seat.now c.edit.new.seat c.in_ok-cart.cart c.in-Ok.field-0 c.requires.first.0 c.requires.first.1 c.in-Ok.ensures in
    subst (IsMakingFault c.edit-2.new.seat) (sym c.edit_fault-in-Err-edit.ensures)
    (insert_refused c.edit.new.seat c.edit-2.new.seat c.in_ok-cart.cart c.in_ok-cart.inputs c.in-Err-edit.error c.in_ok-cart.ensures.few first c.in-Err-edit.ensures)

pub returns-in-Err-clause-zone : goal.returns-in-Err-clause-zone
returns-in-Err-clause-zone g c = edited_zone c.args.seat.now c.edit.new.seat _ (Err c.in-Err.error) c.in-Err.ensures

pub returns-in-Ok-edit-clause-zone : goal.returns-in-Ok-edit-clause-zone
returns-in-Ok-edit-clause-zone g c =
    edited_zone c.edit.new.seat c.edit-2.new.seat _ (Ok c.in-Ok-edit.receipt) c.in-Ok-edit.ensures ∙ edited_zone c.args.seat.now c.edit.new.seat _ (Ok c.in-Ok.field-0) c.in-Ok.ensures

pub returns-in-Err-edit-clause-zone : goal.returns-in-Err-edit-clause-zone
returns-in-Err-edit-clause-zone g c =
    edited_zone c.edit.new.seat c.edit-2.new.seat _ (Err c.in-Err-edit.error) c.in-Err-edit.ensures ∙ edited_zone c.args.seat.now c.edit.new.seat _ (Ok c.in-Ok.field-0) c.in-Ok.ensures

pub returns-in-Err-clause-fault : goal.returns-in-Err-clause-fault
returns-in-Err-clause-fault g c =
    subst (IsMakingFault c.edit.new.seat) (sym c.edit_fault.ensures) (load_refused c.args.seat.now c.edit.new.seat c.in_ok-cart.cart c.in-Err.error c.requires.first.1 c.in-Err.ensures)

pub returns-in-Ok-edit-clause-number : goal.returns-in-Ok-edit-clause-number
returns-in-Ok-edit-clause-number g c = edited_number c.edit.new.seat c.edit-2.new.seat _ (Ok c.in-Ok-edit.receipt) c.in-Ok-edit.ensures ∙ edited_number c.args.seat.now c.edit.new.seat _ (Ok c.in-Ok.field-0) c.in-Ok.ensures ∙ c.requires.first.0

pub returns-in-Err-edit-clause-number : goal.returns-in-Err-edit-clause-number
returns-in-Err-edit-clause-number g c = edited_number c.edit.new.seat c.edit-2.new.seat _ (Err c.in-Err-edit.error) c.in-Err-edit.ensures ∙ edited_number c.args.seat.now c.edit.new.seat _ (Ok c.in-Ok.field-0) c.in-Ok.ensures ∙ c.requires.first.0

pub returns-in_err-cart-clause-fault : goal.returns-in_err-cart-clause-fault
returns-in_err-cart-clause-fault g c =
    let p = err_from_is_err_and c.from_residual.result c.from_residual.ensures.1 in
    rw (p.1, p.2) tt

pub returns-in_err-cart-clause-memory : goal.returns-in_err-cart-clause-memory
returns-in_err-cart-clause-memory g c =
    let p = err_from_is_err_and c.from_residual.result c.from_residual.ensures.1 in
    rw (p.1, p.2) (λ e. unrefused_at_first c.args.seat.now c.args.movie.now c.requires.first.0 c.requires.first.1 c.requires.first.2)

pub returns-in-Err-clause-memory : goal.returns-in-Err-clause-memory
returns-in-Err-clause-memory g c = λ e.
    load_unrefused c.args.seat.now c.edit.new.seat c.args.movie.now c.in_ok-cart.cart c.in_ok-cart.inputs c.in-Err.error c.in_ok-cart.ensures.whole c.requires.first.1 c.in-Err.ensures (sym c.edit_fault.ensures ∙ e)

pub returns-in-Err-edit-clause-memory : goal.returns-in-Err-edit-clause-memory
returns-in-Err-edit-clause-memory g c = λ e.
    let first = loaded c.args.seat.now c.edit.new.seat c.in_ok-cart.cart c.in-Ok.field-0 c.requires.first.0 c.requires.first.1 c.in-Ok.ensures in
    insert_unrefused c.edit.new.seat c.edit-2.new.seat c.args.movie.now c.in_ok-cart.cart c.in_ok-cart.inputs c.in-Err-edit.error c.in_ok-cart.ensures.whole first.made c.in-Err-edit.ensures (sym c.edit_fault-in-Err-edit.ensures ∙ e)

pub returns-in-Ok-edit-clause-memory : goal.returns-in-Ok-edit-clause-memory
returns-in-Ok-edit-clause-memory g c = compared c.edit-2.new.seat c.args.movie.now _ c.unless_foreign.result c.unless_foreign.ensures

pub returns-in-Err-clause-number : goal.returns-in-Err-clause-number
returns-in-Err-clause-number g c = grind (arith, common_steps)
