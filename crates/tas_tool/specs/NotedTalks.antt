-- Conversations with a journal on a desk of one seat: each line is answered as without one, and no answer goes out before the journal has the edits that it is about.
use Rattle.std.specs.Prelude.{◌≡◌, ℕ, ◌≤◌, List, ◌++◌, length, drop, Option, Some, None, Result, Ok, Err, ◌⊎◌}
use Rattle.std.specs.Io.KnownBytes.{Appends, Consumes}
use Rattle.byte_text.specs.CutOff.{IsCutOff}
use Rattle.byte_text.specs.Splitting.{NoByte}
use Rattle.tas_movie.specs.Content.{MovieContent}
use Rattle.tas_movie.specs.Text.{line}
use Rattle.tas_engines.specs.Changes.{EditContent}
use Rattle.tas_engines.specs.declared.fault.ToolFault.TheVariants.{Run}
use Rattle.tas_engines.specs.declared.fault.RunFault.TheVariants.{Write, Memory}
use Rattle.tas_journal.specs.Text.{head_text, journal_text}
use Rattle.tas_journaling.specs.Journals.{journaled, IsGivenPart}
use Rattle.tas_journaling.specs.declared.journal.JournalFault.TheVariants as journal
use Rattle.tas_journaling.specs.declared.talking.TalkFault.{TalkFault}
use Rattle.tas_journaling.specs.declared.talking.TalkFault.TheVariants.{Tool, Journal}
use Rattle.tas_tool.specs.Scripts.{IsUnmade}
use Rattle.tas_tool.specs.Talk.{DraftedState, Exchange, IsExchange, AreExchanges, TalkEnds, IsUnbegun, LinesRunTo, OverCart, OverMovie, lines_of, answers_of, own_entries}

-- the text of the journal of a conversation that started from here, once these edits are made: a head with the movie that it started from, and a
-- line for each edit that was made since, in order
abbrev pub journal_since : DraftedState → List EditContent → List ℕ
journal_since start edits = journal_text start.state.stands.movie (journaled (drop (length start.edits) (own_entries edits)))

-- how a conversation ends before this rest, with these answers out before: as without a journal; or the journal failed, and nothing more is out
abbrev pub NotedTalkEnds : DraftedState → (rest told : List ℕ) → (input output output' : Option (List ℕ)) → Result (Unit {0}) TalkFault → Type 0
NotedTalkEnds state rest told input output output' (Ok u) = TalkEnds state rest told input output output' (Ok u)
NotedTalkEnds state rest told input output output' (Err (Tool fault)) = TalkEnds state rest told input output output' (Err fault)
NotedTalkEnds state rest told input output output' (Err (Journal fault)) = Appends output output' told

-- the first line of the rest was carried out, too, and this is made and kept then
abbrev pub CarriesTo : DraftedState → (rest : List ℕ) → DraftedState → Type 0
CarriesTo state rest made = (exchange : Exchange) × (more : List ℕ) × IsExchange state exchange × (rest ≡ line exchange.said ++ more) × (made ≡ exchange.next)

-- what is made in all where a conversation ends so: what the answered lines made, and what the line made whose answer isn't out whole, or for
-- which memory was refused, where that was carried out; where the journal failed, it was
abbrev pub MakesInAll : DraftedState → (rest : List ℕ) → DraftedState → Result (Unit {0}) TalkFault → Type 0
MakesInAll state rest made (Err (Tool (Run (Write written)))) = CarriesTo state rest made ⊎ (NoByte 10 rest × (made ≡ state))
MakesInAll state rest made (Err (Tool (Run Memory))) = CarriesTo state rest made ⊎ (made ≡ state)
MakesInAll state rest made (Err (Journal fault)) = CarriesTo state rest made
MakesInAll state rest made _ = made ≡ state

-- what the journal's file was given, where `answered` is the journal of what the answered lines made, and `made` that of all that was made: the one,
-- or the other where an answer was cut off. Where the journal failed at a write, the one and some first bytes of what the other has more, fewer
-- than all; where it couldn't be brought to the disk, the other; and where memory was refused, the one
abbrev pub IsGivenTo : (answered made : List ℕ) → (file file' : Option (List ℕ)) → Result (Unit {0}) TalkFault → Type 0
IsGivenTo answered made file file' (Err (Tool (Run (Write written)))) = Appends file file' made
IsGivenTo answered made file file' (Err (Journal journal.Write)) = (sent : ℕ) × (length answered ≤ sent) × IsCutOff file file' made sent
IsGivenTo answered made file file' (Err (Journal journal.Sync)) = Appends file file' made
IsGivenTo answered made file file' _ = Appends file file' answered

-- a conversation with a journal: what left the reader is the lines that were answered, and the rest before which it ended; what it leaves is the movie
-- that is made in all
pub record IsTalkNoted (left : Option MovieContent) (file file' : Option (List ℕ)) (start : DraftedState) (input input' output output' : Option (List ℕ)) (result : Result (Unit {0}) TalkFault) : Type 0 where
  pub exchanges : List Exchange
  pub state : DraftedState
  pub made : DraftedState
  pub rest : List ℕ
  pub answered : AreExchanges start exchanges state
  pub lines : Consumes input input' (lines_of exchanges ++ rest)
  pub ends : NotedTalkEnds state rest (answers_of exchanges) input' output output' result
  pub makes : MakesInAll state rest made result
  pub left_is : left ≡ Some made.state.stands.movie
  pub given : IsGivenTo (journal_since start state.edits) (journal_since start made.edits) file file' result

-- why it didn't begin: memory or a place was refused, and the journal's file is as it was; or the journal's head isn't written whole
abbrev pub IsNoBeginning : DraftedState → (file file' : Option (List ℕ)) → Result (Unit {0}) TalkFault → Type 0
IsNoBeginning start file file' (Err (Tool (Run fault))) = IsUnmade fault × (file' ≡ file)
IsNoBeginning start file file' (Err (Journal fault)) = IsGivenPart file file' (head_text start.state.stands.movie) fault
IsNoBeginning start file file' _ = ⊥

-- a conversation with a journal, or none that began: nothing was read of the input or written to the output then, and no movie is left
abbrev pub IsNotedTalkLeaving : Option MovieContent → (file file' : Option (List ℕ)) → DraftedState → LinesRunTo TalkFault
IsNotedTalkLeaving left file file' start input input' output output' result =
    (IsUnbegun left input input' output output' × IsNoBeginning start file file' result) ⊎ IsTalkNoted left file file' start input input' output output' result

-- what is said to be on the disk is there where a conversation ended so: unless the journal failed; memory that is refused leaves it as it was
abbrev pub IsKeptBy : (kept : Type 0) → Result (Unit {0}) TalkFault → Type 0
IsKeptBy kept (Ok u) = kept
IsKeptBy kept (Err (Tool fault)) = kept
IsKeptBy kept (Err (Journal journal.Memory)) = kept
IsKeptBy kept (Err (Journal journal.Write)) = Unit {0}
IsKeptBy kept (Err (Journal journal.Sync)) = Unit {0}

-- and where it began, and so left a movie
abbrev pub IsKeptAt : (kept : Type 0) → (left : Option MovieContent) → Result (Unit {0}) TalkFault → Type 0
IsKeptAt kept None result = Unit {0}
IsKeptAt kept (Some movie) result = IsKeptBy kept result

-- ---- over a cartridge or a movie

-- it didn't begin, and the journal's file is as it was
abbrev pub IsUnread : Option MovieContent → (file file' : Option (List ℕ)) → (input input' output output' : Option (List ℕ)) → Type 0
IsUnread left file file' input input' output output' = IsUnbegun left input input' output output' × (file' ≡ file)

-- what `tas talk` does with the word `--journal` and a file, over a cartridge, and over a cartridge and a movie
abbrev pub IsNotedCartTalk : Option MovieContent → (file file' cart cart' : Option (List ℕ)) → LinesRunTo TalkFault
IsNotedCartTalk left file file' cart cart' input input' output output' result =
    OverCart Tool (IsUnread left file file') (IsNotedTalkLeaving left file file') cart cart' input input' output output' result

abbrev pub IsNotedMovieTalk : Option MovieContent → (file file' cart cart' movie movie' : Option (List ℕ)) → LinesRunTo TalkFault
IsNotedMovieTalk left file file' cart cart' movie movie' input input' output output' result =
    OverMovie Tool (IsUnread left file file') (IsNotedTalkLeaving left file file') cart cart' movie movie' input input' output output' result
