use Rattle.std.proofs.Common.{inl, inr, refl}
use Rattle.std.proofs.KnownBytes.{Keeps-refl}
use Rattle.tas_journal.proofs.RunLemmas.{run_ended}
use Rattle.tas_journal.proofs.running.recover_run.Goals as goal

pub returns-in-Err : goal.returns-in-Err
returns-in-Err g c = inl (c.in-Err.fault, refl, inl (c.in-Err.ensures.fault, refl), Keeps-refl _)

pub returns : goal.returns
returns g c = inl (c.in-Err-read_journal.fault, refl, inr (_, c.in-Ok.ensures.whole, c.in-Err-read_journal.ensures.fault), Keeps-refl _)

pub returns-in-Ok-read_journal : goal.returns-in-Ok-read_journal
returns-in-Ok-read_journal g c =
    run_ended g.row.A.Denot c.args.until _ _ _ _ _ _ _ _ _ _ _ c.as_slice.ensures.value c.as_slice-in-Ok-read_journal.ensures.value c.in-Ok.ensures.whole c.in-Ok-read_journal.ensures.whole c.answer.ensures
