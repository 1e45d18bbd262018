-- The text of some entries of a history.
use Rattle.std.specs.Prelude.{ℕ, ◌+◌, List, [], ◌∷◌, ◌++◌, length}
use Rattle.tas_published.specs.declared.entry.Entry.{Entry}
use Rattle.tas_language.specs.Answers.{history_text}
use Rattle.tas_language.specs.History.{entry_text}

-- the lines of some entries, the first of which has this number
unfoldable pub entry_lines : {A : Type 0} → ℕ → List (Entry A) → List ℕ
entry_lines number [] = []
entry_lines number (entry ∷ entries) = entry_text number entry.seat entry.edit ++ entry_lines (number + 1) entries

-- the answer to `history FROM` at this many edits: these entries
abbrev pub history_reply_text : {A : Type 0} → ℕ → ℕ → List (Entry A) → List ℕ
history_reply_text made from entries = history_text made from (length entries) (entry_lines from entries)
