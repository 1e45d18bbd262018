-- Receipts of a journal that several conversations share: of how many entries somebody was told. Private functions cite this file.
use Rattle.std.specs.Prelude.{◌≡◌, ℕ, ◌≤◌, List, true, false, if◌then◌else◌, [], slice_index}
use mathlib.Core.Option.{some}
use lib.ListN.{get_elem?}
use Rattle.atomic_table.specs.Seated.{TableId}
use Rattle.tas_journaling.specs.declared.receipts.Known.{Known}

-- the name of no table
abbrev pub no_table : TableId
no_table = record { words = 0; slots = 0; views_name = 0; atom = 0; block = 0; offset = 0; slot_names = [] }

-- the journal's own: this many entries come before its next line
abbrev pub own_at : ℕ → Known
own_at upto = record { keeps = true; upto = upto; told = 0 }

-- one who was told of this many entries
abbrev pub told_of : ℕ → Known
told_of told = record { keeps = false; upto = 0; told = told }

-- the journal's own tells of all its entries; others tell of none
abbrev pub told_by : Known → Known
told_by v = told_of (if v.keeps then v.upto else 0)

-- the journal's own beside a receipt
abbrev pub beside : Known → Known → Known
beside v w = record { keeps = v.keeps; upto = v.upto; told = w.told }

-- one at most is the journal's own, and nobody was told of more entries than it knows
abbrev pub CoversAll : List ℕ → List Known → Type 0
CoversAll words views = (seat : ℕ) × (upto : ℕ) × ((by : ℕ) (v : Known) → get_elem? views by ≡ some v → (v.keeps ≡ true → (by ≡ seat) × (v.upto ≡ upto)) × (v.told ≤ upto))

-- the journal has as many entries as were written
abbrev pub Raised : Known → List ℕ → List ℕ → Known → Type 0
Raised v before after w = w ≡ record { keeps = v.keeps; upto = slice_index after 0; told = v.told }

-- the journal has the entries of the receipt beside it
abbrev pub Compared : Known → List ℕ → List ℕ → Known → Type 0
Compared v before after w = (w ≡ own_at v.upto) × (v.told ≤ v.upto)
