use Rattle.tas_journal.proofs.RunLemmas.{journal_wrong, text_made}
use Rattle.tas_journal.proofs.running.recovered_text.Goals as goal

pub returns-in-Ok-print_text-clause-text : goal.returns-in-Ok-print_text-clause-text
returns-in-Ok-print_text-clause-text g c = text_made g.row.A.Denot c.args.until c.args.image.now c.in-Ok.cart c.args.bytes.now _ _ c.in-Ok.ensures.size c.in-Ok.ensures.image c.in-Ok-recover.ensures.made c.in-Ok-print_text.ensures

pub returns-in-Err-Journal-clause-fault : goal.returns-in-Err-Journal-clause-fault
returns-in-Err-Journal-clause-fault g c =
    let wrong = rw c.in-Err-Journal.field-0-is at c.in-Err-Journal.ensures.wrong in
    rw c.in-Err-Journal.field-0-is (journal_wrong g.row.A.Denot c.args.until c.args.image.now c.in-Ok.cart c.args.bytes.now c.in-Err-Journal.error c.in-Ok.ensures.size c.in-Ok.ensures.image wrong)
