-- The verdict of a search: the line that says what was found.
use Rattle.std.specs.Prelude.{◌≡◌, ℕ, ◌-◌, ◌*◌, ◌==◌, List, [], ◌++◌, codes, decimal, if◌then◌else◌}
use Rattle.tas_search.specs.declared.goal.GoalKind.{GoalKind}
use Rattle.tas_search.specs.declared.goal.GoalKind.TheVariants.{Reach, Most, Least}
use Rattle.tas_search.specs.declared.movie_search.SearchRange.{SearchRange}
use Rattle.tas_search.specs.declared.space_part.SpacePart.{SpacePart}
use Rattle.tas_search.specs.Outcome.{Outcome, best, nothing, stopped}
use Rattle.tas_search.specs.Parts.{sequence_count}
use Rattle.tas_search.specs.Power.{IsDecimal}

-- the text has the number, in decimal digits, between two others
abbrev pub IsCounted : List ℕ → ℕ → List ℕ → List ℕ → Type 0
IsCounted front n back text = (number : List ℕ) × IsDecimal number n × (text ≡ front ++ number ++ back)

-- which number of choices reaches too many states
abbrev pub plain_stop : ℕ → ℕ → List ℕ
plain_stop states k = codes "stopped: more than " ++ decimal states ++ codes " states in layer " ++ decimal k ++ codes "\n"

-- of a search for a first sequence also, up to how many frames no sequence reaches the goal
abbrev pub stop_text : GoalKind → SearchRange → ℕ → List ℕ
stop_text Reach range k = codes "stopped: more than " ++ decimal range.states ++ codes " states in layer " ++ decimal k ++ codes ": none of up to " ++ decimal ((k - 1) * range.hold) ++ codes " frames reaches it\n"
stop_text Most range k = plain_stop range.states k
stop_text Least range k = plain_stop range.states k

-- of so many sequences none reaches the goal, or each halts before its last choice
abbrev pub IsNone : GoalKind → ℕ → List ℕ → Type 0
IsNone Reach n text = IsCounted (codes "none: not one of all ") n (codes " sequences reaches it\n") text
IsNone Most n text = IsCounted (codes "none: each of all ") n (codes " sequences halts before its end\n") text
IsNone Least n text = IsCounted (codes "none: each of all ") n (codes " sequences halts before its end\n") text

-- how many sequences of the longest the part has, of so many choices
abbrev pub count_of : SearchRange → ℕ → ℕ
count_of range choices = sequence_count range.part.number range.part.of choices range.count

-- what was found, and of how many sequences
abbrev pub IsAnswerLine : GoalKind → SearchRange → ℕ → Outcome → List ℕ → Type 0
IsAnswerLine kind range choices (best ks) text = IsCounted (codes "best of all ") (count_of range choices) (codes " sequences\n") text
IsAnswerLine kind range choices nothing text = IsNone kind (count_of range choices) text
IsAnswerLine kind range choices (stopped k) text = text ≡ stop_text kind range k

-- which part it is, unless it is the whole
abbrev pub part_front : SpacePart → List ℕ
part_front part = if part.of == 1 then [] else codes "part " ++ decimal part.number ++ codes " of " ++ decimal part.of ++ codes ": "

abbrev pub IsVerdict : GoalKind → SearchRange → ℕ → Outcome → List ℕ → Type 0
IsVerdict kind range choices outcome text = (line : List ℕ) × IsAnswerLine kind range choices outcome line × (text ≡ part_front range.part ++ line)
