use Rattle.std.proofs.Common.{◌≡◌, Some, None, sym, ap, ◌∙◌}
use Rattle.tas_program.specs.Program.{desk_of, talk_of}
use Rattle.tas_program.specs.Reporting.{reported_of}
use Rattle.tas_program.specs.declared.searching.Reported.TheVariants as reported
use Rattle.tas_program.proofs.running.run_engine.Goals as goal

pub returns-in-Trace : goal.returns-in-Trace
returns-in-Trace g c = rw c.in-Trace.is (record { done = c.run_over.result; is = c.ended.ensures; ends = c.run_over.ensures })

pub returns-in-Check : goal.returns-in-Check
returns-in-Check g c = rw c.in-Check.is (record { done = c.run_over-in-Check.result; is = c.ended-in-Check.ensures; ends = c.run_over-in-Check.ensures })

pub returns-in-Migrate : goal.returns-in-Migrate
returns-in-Migrate g c = rw c.in-Migrate.is (record { done = c.run_over-in-Migrate.result; is = c.ended-in-Migrate.ensures; ends = c.run_over-in-Migrate.ensures })

pub returns-in-New : goal.returns-in-New
returns-in-New g c = rw c.in-New.is (record { done = c.run_new.result; is = c.ended-in-New.ensures; ends = c.run_new.ensures (g.R.Read.remaining c.args.input.now) })

pub unreachable-requires : goal.unreachable-requires
unreachable-requires g c =
    let recovery : Some (reported.Recovery c.in-Recover.field-0) ≡ None = sym (ap reported_of c.in-Recover.is) ∙ c.requires.reports in
    cc

pub unreachable-requires-in-Verify : goal.unreachable-requires-in-Verify
unreachable-requires-in-Verify g c =
    let verification : Some (reported.Verification c.in-Verify.field-0) ≡ None = sym (ap reported_of c.in-Verify.is) ∙ c.requires.reports in
    cc

pub unreachable-requires-in-Talk : goal.unreachable-requires-in-Talk
unreachable-requires-in-Talk g c =
    let talk : Some c.in-Talk.field-0 ≡ None = sym (ap talk_of c.in-Talk.is) ∙ c.requires.talk in
    cc

pub unreachable-requires-in-Desk : goal.unreachable-requires-in-Desk
unreachable-requires-in-Desk g c =
    let desk : Some c.in-Desk.field-0 ≡ None = sym (ap desk_of c.in-Desk.is) ∙ c.requires.desk in
    cc

pub returns-in-Shot : goal.returns-in-Shot
returns-in-Shot g c = rw c.in-Shot.is (record { done = c.run_over-in-Shot.result; is = c.ended-in-Shot.ensures; ends = c.run_over-in-Shot.ensures })

pub returns-in-Film : goal.returns-in-Film
returns-in-Film g c = rw c.in-Film.is (record { done = c.run_film.result; is = c.ended-in-Film.ensures; ends = c.run_film.ensures })

pub returns-in-Export : goal.returns-in-Export
returns-in-Export g c = rw c.in-Export.is (record { done = c.run_export.result; is = c.ended-in-Export.ensures; ends = c.run_export.ensures })

pub returns-in-Ram : goal.returns-in-Ram
returns-in-Ram g c = rw c.in-Ram.is c.run_ram.ensures

pub returns-in-Digest : goal.returns-in-Digest
returns-in-Digest g c = rw c.in-Digest.is c.run_named.ensures

pub returns-in-Compare : goal.returns-in-Compare
returns-in-Compare g c = rw c.in-Compare.is c.run_named-in-Compare.ensures

pub returns-in-Lag : goal.returns-in-Lag
returns-in-Lag g c = rw c.in-Lag.is c.run_named-in-Lag.ensures

pub returns-in-Cut : goal.returns-in-Cut
returns-in-Cut g c = rw c.in-Cut.is c.run_named-in-Cut.ensures

pub returns-in-Diff : goal.returns-in-Diff
returns-in-Diff g c = rw c.in-Diff.is c.run_named-in-Diff.ensures

pub returns-in-Script : goal.returns-in-Script
returns-in-Script g c = rw c.in-Script.is (record { done = c.run_script.result; is = c.ended-in-Script.ensures; ends = c.run_script.ensures })
