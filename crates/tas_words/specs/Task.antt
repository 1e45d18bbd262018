-- What the words of each command ask for.
use Rattle.std.specs.Prelude.{◌≡◌, ℕ, ◌≤◌, List, [], ◌∷◌, ◌++◌, ◌⊎◌, Option, Some, None, codes, decimal}
use Rattle.std.specs.List.{filter_map}
use Rattle.std.specs.Borrow.{Bor}
use Rattle.std.specs.Str.Parse.{IsNumeral, digits_value, without_leading_plus}
use Rattle.clap.specs.Walk.{Row, Text, first_of, one_of}
use Rattle.tas_language.specs.Commands.{most_number}
use Rattle.tas_movie.specs.Content.{most_inputs}
use Rattle.tas_film.specs.Runs.{most_workers}
use Rattle.tas_words.specs.declared.task.DeskWords.{DeskWords}
use Rattle.tas_words.specs.declared.task.Pair.{Pair}
use Rattle.tas_words.specs.declared.task.Pairs.{Pairs}
use Rattle.tas_words.specs.declared.task.PartWords.{PartWords}
use Rattle.tas_words.specs.declared.task.SearchWords.{SearchWords}
use Rattle.tas_words.specs.declared.task.Start.{Start}
use Rattle.tas_words.specs.declared.task.Start.TheVariants.{Blank, Cart, Movie}
use Rattle.tas_words.specs.declared.task.VerifyWords.{VerifyWords}
use Rattle.tas_words.specs.declared.task.Task.{Task}
use Rattle.tas_words.specs.declared.task.Task.TheVariants.{Trace, Check, Migrate, New, Recover, Search, Verify, Shot, Film, Export, Ram, Digest, Compare, Lag, Edit, Cut, Diff, Script, Talk, Desk}

-- the word of this name is this text
abbrev pub IsWord : List Row → Text → Text → Type 0
IsWord rows name text = first_of name rows ≡ Some text

-- there is no word of this name
abbrev pub HasNoWord : List Row → Text → Type 0
HasNoWord rows name = first_of name rows ≡ None

-- the same of a word that may be left out
abbrev pub IsOptionalWord : List Row → Text → Option (Bor Text) → Type 0
IsOptionalWord rows name None = HasNoWord rows name
IsOptionalWord rows name (Some word) = IsWord rows name word.now

-- a text is this number in decimal digits, before which there may be a plus
abbrev pub IsNumberText : Text → ℕ → Type 0
IsNumberText text n = IsNumeral 10 (without_leading_plus text) × (n ≡ digits_value 10 (without_leading_plus text))

-- the word of this name is this number, which is in a range
abbrev pub IsNumberWord : List Row → Text → ℕ → ℕ → ℕ → Type 0
IsNumberWord rows name least most n =
    (least ≤ n) × (n ≤ most) × ((text : Text) × (one_of name rows ≡ Some text) × IsNumberText text n)

-- the same of a word that may be left out
abbrev pub IsOptionalNumberWord : List Row → Text → ℕ → ℕ → Option ℕ → Type 0
IsOptionalNumberWord rows name least most None = HasNoWord rows name
IsOptionalNumberWord rows name least most (Some n) = IsNumberWord rows name least most n

-- the word of this name is the number of a frame
abbrev pub IsFrameWord : List Row → Text → ℕ → Type 0
IsFrameWord rows name k = IsNumberWord rows name 0 most_number k

-- the same of a word that may be left out
abbrev pub IsOptionalFrameWord : List Row → Text → Option ℕ → Type 0
IsOptionalFrameWord rows name said = IsOptionalNumberWord rows name 0 most_number said

-- the most instructions of a trace
abbrev pub most_traced : ℕ
most_traced = 1000000

-- the most frames of a stretch of a digest, and the default
abbrev pub most_every : ℕ
most_every = 262144

abbrev pub default_every : ℕ
default_every = 600

-- the word of this name is this number, from 1 to the most, or it is left out and the number is the usual one
abbrev pub IsNumberOr : List Row → Text → ℕ → ℕ → ℕ → Type 0
IsNumberOr rows name most usual n = IsNumberWord rows name 1 most n ⊎ (HasNoWord rows name × (n ≡ usual))

-- how many frames a stretch of a digest has
abbrev pub IsEvery : List Row → ℕ → Type 0
IsEvery rows n = IsNumberOr rows (codes "EVERY") most_every default_every n

-- the greatest number of a line of a journal
abbrev pub most_line : ℕ
most_line = 4294967295

-- for how many frames a search holds a choice if the words don't say it, and how many states of a layer it keeps at most then
abbrev pub default_hold : ℕ
default_hold = 1

abbrev pub default_states : ℕ
default_states = 100000

abbrev pub default_workers : ℕ
default_workers = 1

-- the most parts of a search's space
abbrev pub most_parts : ℕ
most_parts = 1000000

-- there is such a part: from the first to the last one
abbrev pub IsPart : PartWords → Type 0
IsPart part = (1 ≤ part.number) × (part.number ≤ part.of) × (part.of ≤ most_parts)

-- the text of a part: its number and how many there are, in decimal digits without leading zeros, with a '/' between
abbrev pub part_text : PartWords → Text
part_text part = decimal part.number ++ 47 ∷ decimal part.of

-- the only part of one, which is the whole space
abbrev pub whole_space : PartWords
whole_space = record { number = 1; of = 1 }

-- the word of this name is this part, or it is left out and the part is the whole
abbrev pub IsPartOr : List Row → Text → PartWords → Type 0
IsPartOr rows name part = (IsWord rows name (part_text part) × IsPart part) ⊎ (HasNoWord rows name × (part ≡ whole_space))

-- the words are those of a search
pub record AreSearchWords (rows : List Row) (words : SearchWords) : Type 0 where
  pub cart : IsWord rows (codes "CART") words.cart.now
  pub from : IsFrameWord rows (codes "FROM") words.from
  pub frames : IsNumberWord rows (codes "FRAMES") 0 most_inputs words.frames
  pub goal : IsWord rows (codes "GOAL") words.goal.now
  pub choices : IsOptionalWord rows (codes "CHOICES") words.choices
  pub names : IsOptionalWord rows (codes "NAMES") words.names
  pub hold : IsNumberOr rows (codes "N") most_inputs default_hold words.hold
  pub part : IsPartOr rows (codes "K/N") words.part
  pub states : IsNumberOr rows (codes "STATES") most_number default_states words.states
  pub workers : IsNumberOr rows (codes "WORKERS") most_workers default_workers words.workers
  pub report : IsOptionalWord rows (codes "REPORT") words.report

-- the words are those of a verification
pub record AreVerifyWords (rows : List Row) (words : VerifyWords) : Type 0 where
  pub carts : IsOptionalWord rows (codes "DIR") words.carts
  pub workers : IsNumberOr rows (codes "WORKERS") most_workers default_workers words.workers

-- the words name what is started from: nothing, a cartridge, or a movie
abbrev pub IsStart : List Row → Start → Type 0
IsStart rows Blank = HasNoWord rows (codes "CART") × HasNoWord rows (codes "MOVIE")
IsStart rows (Cart cart) = IsWord rows (codes "CART") cart.now × HasNoWord rows (codes "MOVIE")
IsStart rows (Movie files) = IsWord rows (codes "CART") files.cart.now × IsWord rows (codes "MOVIE") files.movie.now

-- the words of these two names are a pair
abbrev pub IsPair : List Row → Text × Text → Pair → Type 0
IsPair rows names pair = IsWord rows names.0 pair.input.now × IsWord rows names.1 pair.output.now

-- the same of a pair that may be left out
abbrev pub IsOptionalPair : List Row → Text × Text → Option Pair → Type 0
IsOptionalPair rows names None = HasNoWord rows names.0 × HasNoWord rows names.1
IsOptionalPair rows names (Some pair) = IsPair rows names pair

-- the words name these pairs
abbrev pub ArePairs : List Row → Pairs → Type 0
ArePairs rows pairs =
    IsPair rows (codes "IN0", codes "OUT0") pairs.first
    × IsOptionalPair rows (codes "IN1", codes "OUT1") pairs.second
    × IsOptionalPair rows (codes "IN2", codes "OUT2") pairs.third
    × IsOptionalPair rows (codes "IN3", codes "OUT3") pairs.fourth
    × IsOptionalPair rows (codes "IN4", codes "OUT4") pairs.fifth
    × IsOptionalPair rows (codes "IN5", codes "OUT5") pairs.sixth
    × IsOptionalPair rows (codes "IN6", codes "OUT6") pairs.seventh
    × IsOptionalPair rows (codes "IN7", codes "OUT7") pairs.eighth

-- the words are those of a desk
pub record AreDeskWords (rows : List Row) (words : DeskWords) : Type 0 where
  pub cart : IsWord rows (codes "CART") words.cart.now
  pub movie : IsWord rows (codes "MOVIE") words.movie.now
  pub pairs : ArePairs rows words.pairs
  pub journal : IsOptionalWord rows (codes "JOURNAL") words.journal

-- the pairs that are there, in order
abbrev pub pairs_in : Pairs → List Pair
pairs_in pairs =
    filter_map (λ pair. pair) (Some pairs.first ∷ pairs.second ∷ pairs.third ∷ pairs.fourth ∷ pairs.fifth ∷ pairs.sixth ∷ pairs.seventh ∷ pairs.eighth ∷ [])

-- a task is that of the command of this name, and its files and numbers are the command's words, the numbers in their ranges
abbrev pub HasWords : Text → List Row → Task → Type 0
HasWords name rows (Trace instructions) = (name ≡ codes "trace") × IsNumberWord rows (codes "N") 0 most_traced instructions
HasWords name rows (Check cart) = (name ≡ codes "check") × IsWord rows (codes "CART") cart.now
HasWords name rows (Migrate cart) = (name ≡ codes "migrate") × IsWord rows (codes "CART") cart.now
HasWords name rows (New cart frames) = (name ≡ codes "new") × IsWord rows (codes "CART") cart.now × IsNumberWord rows (codes "FRAMES") 0 most_inputs frames
HasWords name rows (Recover words) =
    (name ≡ codes "recover") × IsWord rows (codes "CART") words.cart.now × IsOptionalNumberWord rows (codes "LINE") 1 most_line words.until
    × IsOptionalWord rows (codes "IMAGE") words.image
HasWords name rows (Search words) = (name ≡ codes "search") × AreSearchWords rows words
HasWords name rows (Verify words) = (name ≡ codes "verify") × AreVerifyWords rows words
HasWords name rows (Shot cart k) = (name ≡ codes "shot") × IsWord rows (codes "CART") cart.now × IsFrameWord rows (codes "K") k
HasWords name rows (Film cart from to) =
    (name ≡ codes "film") × IsWord rows (codes "CART") cart.now × IsOptionalFrameWord rows (codes "FROM") from × IsOptionalFrameWord rows (codes "TO") to
HasWords name rows (Export cart from to workers) =
    (name ≡ codes "export") × IsWord rows (codes "CART") cart.now × IsFrameWord rows (codes "FROM") from × IsFrameWord rows (codes "TO") to
    × IsNumberWord rows (codes "WORKERS") 1 most_workers workers
HasWords name rows (Ram cart from to names) =
    (name ≡ codes "ram") × IsWord rows (codes "CART") cart.now × IsFrameWord rows (codes "FROM") from × IsFrameWord rows (codes "TO") to
    × IsOptionalWord rows (codes "NAMES") names
HasWords name rows (Digest cart every) = (name ≡ codes "digest") × IsWord rows (codes "CART") cart.now × IsEvery rows every
HasWords name rows (Compare cart old) = (name ≡ codes "compare") × IsWord rows (codes "CART") cart.now × IsWord rows (codes "OLD") old.now
HasWords name rows (Lag cart) = (name ≡ codes "lag") × IsWord rows (codes "CART") cart.now
HasWords name rows (Edit cart script other) =
    (name ≡ codes "edit") × IsWord rows (codes "CART") cart.now × IsWord rows (codes "SCRIPT") script.now × IsOptionalWord rows (codes "OTHER") other
HasWords name rows (Cut cart from to) =
    (name ≡ codes "cut") × IsWord rows (codes "CART") cart.now × IsFrameWord rows (codes "FROM") from × IsFrameWord rows (codes "TO") to
HasWords name rows (Diff cart old) = (name ≡ codes "diff") × IsWord rows (codes "CART") cart.now × IsWord rows (codes "OLD") old.now
HasWords name rows (Script None) = (name ≡ codes "script") × IsStart rows Blank
HasWords name rows (Script (Some files)) = (name ≡ codes "script") × IsStart rows (Movie files)
HasWords name rows (Talk words) = (name ≡ codes "talk") × IsStart rows words.start × IsOptionalWord rows (codes "JOURNAL") words.journal
HasWords name rows (Desk words) = (name ≡ codes "desk") × AreDeskWords rows words
