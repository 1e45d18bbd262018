use Rattle.std.proofs.Common.{Ok}
use Rattle.tas_language.specs.declared.command.Command.TheVariants.{Length, InputAt, Shot, Work}
use Rattle.tas_seat.proofs.EditLemmas.{load_line, change_line}
use Rattle.tas_seat.proofs.LookLemmas.{answered_as}
use Rattle.tas_seat.proofs.EntryLemmas.{foreign_alone, known}
use Rattle.tas_seat.proofs.commands.reply_to_command.Goals as goal

pub returns-in-Load-clause-answer : goal.returns-in-Load-clause-answer
returns-in-Load-clause-answer g c = load_line g.row.A.Denot c.args.seat.now c.make_edit.new.seat c.args.command c.in-Load.image c.make_edit.result c.in-Load.is c.make_edit.ensures

pub returns-in-Edit-clause-answer : goal.returns-in-Edit-clause-answer
returns-in-Edit-clause-answer g c = change_line g.row.A.Denot c.args.seat.now c.make_edit-in-Edit.new.seat c.args.command c.in-Edit.change c.make_edit-in-Edit.result c.in-Edit.is c.make_edit-in-Edit.ensures

pub returns-in-Length-clause-answer : goal.returns-in-Length-clause-answer
returns-in-Length-clause-answer g c = answered_as g.row.A.Denot c.args.seat.now c.show_length.new.seat c.args.command Length c.show_length.result c.in-Length.is c.show_length.ensures

pub returns-in-InputAt-clause-answer : goal.returns-in-InputAt-clause-answer
returns-in-InputAt-clause-answer g c = answered_as g.row.A.Denot c.args.seat.now c.show_input.new.seat c.args.command (InputAt c.in-InputAt.frame) c.show_input.result c.in-InputAt.is c.show_input.ensures

pub returns-in-Shot-clause-answer : goal.returns-in-Shot-clause-answer
returns-in-Shot-clause-answer g c = answered_as g.row.A.Denot c.args.seat.now c.draw.new.seat c.args.command (Shot c.in-Shot.frame) c.draw.result c.in-Shot.is c.draw.ensures

pub returns-in-Work-clause-answer : goal.returns-in-Work-clause-answer
returns-in-Work-clause-answer g c = answered_as g.row.A.Denot c.args.seat.now c.work.new.seat c.args.command (Work c.in-Work.frames) (Ok c.work.result) c.in-Work.is c.work.ensures

pub returns-in-Load-clause-entry : goal.returns-in-Load-clause-entry
returns-in-Load-clause-entry g c = foreign_alone _ _ _ c.make_edit.result c.make_edit.ensures

pub returns-in-Edit-clause-entry : goal.returns-in-Edit-clause-entry
returns-in-Edit-clause-entry g c = foreign_alone _ _ _ c.make_edit-in-Edit.result c.make_edit-in-Edit.ensures

pub returns-in-Length-clause-entry : goal.returns-in-Length-clause-entry
returns-in-Length-clause-entry g c = known c.show_length.result (rw c.in-Length.is tt)

pub returns-in-InputAt-clause-entry : goal.returns-in-InputAt-clause-entry
returns-in-InputAt-clause-entry g c = known c.show_input.result (rw c.in-InputAt.is tt)

pub returns-in-Shot-clause-entry : goal.returns-in-Shot-clause-entry
returns-in-Shot-clause-entry g c = known c.draw.result (rw c.in-Shot.is tt)
