use Rattle.tas_program.proofs.running.report.Goals as goal

pub returns-in-Word : goal.returns-in-Word
returns-in-Word g c = rw (c.in-Err.is, c.in-Word.is)

pub returns-in-Tool : goal.returns-in-Tool
returns-in-Tool g c = rw (c.in-Err.is, c.in-Tool.is)

pub returns-in-Search : goal.returns-in-Search
returns-in-Search g c = rw (c.in-Err.is, c.in-Search.is)

pub returns-in-Recover : goal.returns-in-Recover
returns-in-Recover g c = rw (c.in-Err.is, c.in-Recover.is)

pub returns-in-Image : goal.returns-in-Image
returns-in-Image g c = rw (c.in-Err.is, c.in-Image.is)

pub returns-in-Report : goal.returns-in-Report
returns-in-Report g c = rw (c.in-Err.is, c.in-Report.is)

pub returns-in-NoJournal : goal.returns-in-NoJournal
returns-in-NoJournal g c = rw (c.in-Err.is, c.in-NoJournal.is)

pub returns-in-Journal : goal.returns-in-Journal
returns-in-Journal g c = rw (c.in-Err.is, c.in-Journal.is)

pub returns-in-SeatJournal : goal.returns-in-SeatJournal
returns-in-SeatJournal g c = rw (c.in-Err.is, c.in-SeatJournal.is)

pub returns-in-Verify : goal.returns-in-Verify
returns-in-Verify g c = rw (c.in-Err.is, c.in-Verify.is)

pub returns-in-NoCarts : goal.returns-in-NoCarts
returns-in-NoCarts g c = rw (c.in-Err.is, c.in-NoCarts.is)

pub returns-in-NotAll : goal.returns-in-NotAll
returns-in-NotAll g c = rw (c.in-Err.is, c.in-NotAll.is)

pub returns-in-NoReport : goal.returns-in-NoReport
returns-in-NoReport g c = rw (c.in-Err.is, c.in-NoReport.is)

pub returns-in-UnsyncedReport : goal.returns-in-UnsyncedReport
returns-in-UnsyncedReport g c = rw (c.in-Err.is, c.in-UnsyncedReport.is)

pub returns-in-Unread : goal.returns-in-Unread
returns-in-Unread g c = rw (c.in-Err.is, c.in-Unread.is)

pub returns-in-NotMovie : goal.returns-in-NotMovie
returns-in-NotMovie g c = rw (c.in-Err.is, c.in-NotMovie.is)
