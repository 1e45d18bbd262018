-- What requests of a conversation are about.
use Rattle.tas_language.specs.declared.request.Request.{Request}
use Rattle.tas_language.specs.declared.request.Request.TheVariants.{Share, History, Begin, Commit, Drop, Quit}
use Rattle.tas_seat.specs.declared.conversation.Subject.{Subject}
use Rattle.tas_seat.specs.declared.conversation.Subject.TheVariants as subject

-- `share` and `history` are about the desk, `begin`, `commit`, `drop` and `quit` about the conversation itself, its draft and its end, each about
-- something of its own, and all others about the movie; `version`, whose answer no movie changes, counts as one of these
abbrev pub subject_of : Request → Subject
subject_of Begin = subject.Begin
subject_of Commit = subject.Commit
subject_of Drop = subject.Drop
subject_of Quit = subject.End
subject_of Share = subject.Desk
subject_of (History from) = subject.Desk
subject_of _ = subject.Movie

-- about a conversation, of which no desk knows
abbrev pub IsOfTalk : Subject → Type 0
IsOfTalk subject.Begin = Unit {0}
IsOfTalk subject.Commit = Unit {0}
IsOfTalk subject.Drop = Unit {0}
IsOfTalk subject.End = Unit {0}
IsOfTalk subject.Desk = ⊥
IsOfTalk subject.Movie = ⊥

abbrev pub IsAboutTalk : Request → Type 0
IsAboutTalk request = IsOfTalk (subject_of request)

-- about something else than a movie, of which no draft knows
abbrev pub IsOfDesk : Subject → Type 0
IsOfDesk subject.Begin = Unit {0}
IsOfDesk subject.Commit = Unit {0}
IsOfDesk subject.Drop = Unit {0}
IsOfDesk subject.End = Unit {0}
IsOfDesk subject.Desk = Unit {0}
IsOfDesk subject.Movie = ⊥

abbrev pub IsAboutDesk : Request → Type 0
IsAboutDesk request = IsOfDesk (subject_of request)
