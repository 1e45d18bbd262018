-- Parts of the history: entries that are copied and reported at once.
use Rattle.std.specs.Prelude.{ℕ, zero, suc, ◌==◌, nat_le, ◌&&◌, not, List, length, take, sum_by, slice_get, Bool, false, if◌then◌else◌, Option, Some, None}
use Rattle.tas_movie.specs.Content.{most_inputs}
use Rattle.tas_movie.specs.declared.edit.Edit.{Edit}
use Rattle.tas_movie.specs.declared.edit.Edit.TheVariants.{Load, Insert, Replace, Delete}
use Rattle.tas_published.specs.declared.entry.Entry.{Entry}

-- how many entries a part has at most
abbrev pub most_entries : ℕ
most_entries = 256

-- how many inputs an edit puts in
abbrev pub inputs_of : {A : Type 0} → Edit A → ℕ
inputs_of (Load cart) = 0
inputs_of (Insert at inputs) = length inputs
inputs_of (Replace at inputs) = length inputs
inputs_of (Delete at count) = 0

-- how many the edits of entries put in, together
abbrev pub inputs_in : {A : Type 0} → List (Entry A) → ℕ
inputs_in entries = sum_by (λ entry. inputs_of entry.edit) entries

-- whether an edit is an insertion at this place
abbrev pub inserts_at : {A : Type 0} → Edit A → ℕ → Bool
inserts_at (Load cart) place = false
inserts_at (Insert at inputs) place = at == place
inserts_at (Replace at inputs) place = false
inserts_at (Delete at count) place = false

-- whether an edit is a deletion, and the next one an insertion in its place
abbrev pub is_exchange : {A : Type 0} → Edit A → Edit A → Bool
is_exchange (Load cart) next = false
is_exchange (Insert at inputs) next = false
is_exchange (Replace at inputs) next = false
is_exchange (Delete at count) next = inserts_at next at

-- whether two entries may be the two edits of one commit: a seat's deletion, and its insertion in that place
abbrev pub may_be_one : {A : Type 0} → Entry A → Entry A → Bool
may_be_one entry next = (entry.seat == next.seat) && is_exchange entry.edit next.edit

-- the same of entries that may not be there
abbrev pub may_both_be_one : {A : Type 0} → Option (Entry A) → Option (Entry A) → Bool
may_both_be_one None next = false
may_both_be_one (Some entry) None = false
may_both_be_one (Some entry) (Some next) = may_be_one entry next

-- whether the end of the first n entries is between two such
unfoldable pub is_between : {A : Type 0} → List (Entry A) → ℕ → Bool
is_between entries zero = false
is_between entries (suc n) = may_both_be_one (slice_get entries n) (slice_get entries (suc n))

-- whether a part can have the first n entries: they are there, their edits put in no more inputs than a movie has at most, and their end isn't between
-- two edits that may be one commit's
abbrev pub can_end : {A : Type 0} → List (Entry A) → ℕ → Bool
can_end entries n = (nat_le n (length entries) && nat_le (inputs_in (take n entries)) most_inputs) && not (is_between entries n)

-- the greatest number up to n of first entries that a part can have, or 0
unfoldable pub last_end : {A : Type 0} → List (Entry A) → ℕ → ℕ
last_end entries zero = 0
last_end entries (suc n) = if can_end entries (suc n) then suc n else last_end entries n

-- the part that begins some entries: as many of them as it can have, `most_entries` at most
abbrev pub one_part : {A : Type 0} → List (Entry A) → List (Entry A)
one_part entries = take (last_end entries most_entries) entries
