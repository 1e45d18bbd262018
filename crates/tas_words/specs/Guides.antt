-- How each command is called, and the tip for those who take its standard input for a word.
use Rattle.std.specs.Prelude.{◌≡◌, ◌&&◌, ◌||◌, ◌==◌, ◌++◌, ℕ, List, [], ◌∷◌, Bool, eqb, true, false, not, Option, Some, None, codes, fold, is_some, length, map, option_and_then, option_map, find, string_bytes, if◌then◌else◌}
use Rattle.std.specs.Char.{is_ascii_alphanumeric, is_ascii_digit}
use Rattle.std.specs.List.{after_first, before_first, filter_map, list_all, list_any, starts_with}
use Rattle.std.specs.Str.{bytes_eq}
use Rattle.clap.specs.Lexer.{strip_byte}
use Rattle.clap.specs.Walk.{Text}
use Rattle.clap.specs.declared.builder.command.Command.{Command}
use Rattle.clap.specs.declared.builder.command.Command.TheViews.{out-Command}
use Rattle.tas_words.specs.declared.subcommands.Subcommand.{Subcommand}
use Rattle.tas_words.specs.declared.subcommands.Word.{Word}
use Rattle.tas_words.specs.declared.subcommands.WordKind.{WordKind}
use Rattle.tas_words.specs.declared.subcommands.WordKind.TheVariants.{File, OptionalFile, PairedFile, Flag, LoneFlag, Output, Number, OptionalNumber, NumberFlag}
use Rattle.tas_words.specs.declared.tips.GivenWords.{GivenWords}

-- a command's name, its usage, its tip if it reads standard input, of each word that stands after no flag whether it is a number, and the long names of its flags
pub record Guide : Type 0 where
  pub name : Text
  pub usage : Text
  pub tip : Option Text
  pub numbers : List Bool
  pub flags : List Text

abbrev pub guide : Text → Text → Option Text → List Bool → List Text → Guide
guide name usage tip numbers flags = record { name = name; usage = usage; tip = tip; numbers = numbers; flags = flags }

-- whether a word is a number; none of a word after a flag
abbrev pub kind_number : WordKind → Option Bool
kind_number File = Some false
kind_number OptionalFile = Some false
kind_number (PairedFile other) = Some false
kind_number (Flag flag other) = None
kind_number (LoneFlag flag) = None
kind_number Output = None
kind_number (Number least most) = Some true
kind_number (OptionalNumber least most) = Some true
kind_number (NumberFlag flag least most) = None

abbrev pub numbers_of : List Word → List Bool
numbers_of words = filter_map (λ word. kind_number word.kind) words

-- the long name of the flag that a word stands after
abbrev pub kind_flag : WordKind → Option Text
kind_flag File = None
kind_flag OptionalFile = None
kind_flag (PairedFile other) = None
kind_flag (Flag flag other) = Some flag.now
kind_flag (LoneFlag flag) = Some flag.now
kind_flag Output = Some (codes "output")
kind_flag (Number least most) = None
kind_flag (OptionalNumber least most) = None
kind_flag (NumberFlag flag least most) = Some flag.now

abbrev pub flags_of : List Word → List Text
flags_of words = filter_map (λ word. kind_flag word.kind) words

abbrev pub guide_of : Subcommand → Guide
guide_of command = guide command.name.now command.usage.now (option_map (λ tip. tip.now) command.tip) (numbers_of command.words.now) (flags_of command.words.now)

-- the usage that clap is given of a command
abbrev pub HasUsage : Command → Text → Type 0
HasUsage command usage = option_map (λ line. line.now) (out-Command command).usage_str ≡ Some usage

-- a word in a usage: in angles where it is required, in square brackets where it may be left out; one after a flag, none
abbrev pub usage_word : Text → WordKind → Text
usage_word name File = codes " <" ++ name ++ codes ">"
usage_word name OptionalFile = codes " [" ++ name ++ codes "]"
usage_word name (PairedFile other) = codes " [" ++ name ++ codes "]"
usage_word name (Flag flag other) = []
usage_word name (LoneFlag flag) = []
usage_word name Output = []
usage_word name (Number least most) = codes " <" ++ name ++ codes ">"
usage_word name (OptionalNumber least most) = codes " [" ++ name ++ codes "]"
usage_word name (NumberFlag flag least most) = []

abbrev pub usage_words : List Word → Text
usage_words [] = []
usage_words (word ∷ words) = usage_word word.name.now word.kind ++ usage_words words

-- a word stands after a flag
abbrev pub is_flagged : WordKind → Bool
is_flagged (Flag flag other) = true
is_flagged (LoneFlag flag) = true
is_flagged Output = true
is_flagged (NumberFlag flag least most) = true
is_flagged _ = false

-- what a usage begins with: the command's name, whether it has flags, its words in order, and, where it has a tip, since it reads standard input, the sign of redirection
abbrev pub usage_start : Subcommand → Text
usage_start command = codes "tas " ++ command.name.now ++ (if list_any (λ word. is_flagged word.kind) command.words.now then codes " [OPTIONS]" else [])
    ++ usage_words command.words.now ++ (if is_some command.tip then codes " < " else [])

-- a command's usage has its words
abbrev pub has_its_words : Subcommand → Bool
has_its_words command = starts_with eqb command.usage.now (usage_start command)

-- the guides of the program's first commands
abbrev pub first_guides : List Guide
first_guides =
    guide (codes "trace") (codes "tas trace <N> < CART")
    (Some (codes "the cartridge is read from standard input: tas trace 3 < game.bin")) (true ∷ []) []
    ∷ guide (codes "check") (codes "tas check <CART> < MOVIE")
    (Some (codes "the movie is read from standard input: tas check game.bin < game.movie")) (false ∷ []) []
    ∷ guide (codes "migrate") (codes "tas migrate [OPTIONS] <CART> < MOVIE")
    (Some (codes "the movie is read from standard input: tas migrate game.bin -o new.movie < old.movie")) (false ∷ []) (codes "output" ∷ [])
    ∷ guide (codes "shot") (codes "tas shot <CART> <K> < MOVIE")
    (Some (codes "the movie is read from standard input: tas shot game.bin 60 < game.movie > frame60.ppm")) (false ∷ true ∷ []) []
    ∷ guide (codes "film") (codes "tas film <CART> [FROM] [TO] < MOVIE")
    (Some (codes "the movie is read from standard input: tas film game.bin 0 600 < game.movie > film.ppm")) (false ∷ true ∷ true ∷ []) []
    ∷ guide (codes "export") (codes "tas export <CART> <FROM> <TO> <WORKERS> < MOVIE")
    (Some (codes "the movie is read from standard input: tas export game.bin 0 600 4 < game.movie > film.ppm")) (false ∷ true ∷ true ∷ true ∷ []) []
    ∷ guide (codes "ram") (codes "tas ram [OPTIONS] <CART> <FROM> <TO> < MOVIE")
    (Some (codes "the movie is read from standard input: tas ram game.bin 1 61 < game.movie")) (false ∷ true ∷ true ∷ []) (codes "names" ∷ [])
    ∷ guide (codes "digest") (codes "tas digest <CART> [EVERY] < MOVIE")
    (Some (codes "the movie is read from standard input: tas digest game.bin 600 < game.movie")) (false ∷ true ∷ []) []
    ∷ guide (codes "compare") (codes "tas compare <CART> <OLD> < MOVIE")
    (Some (codes "the newer movie is read from standard input: tas compare game.bin old.movie < new.movie")) (false ∷ false ∷ []) []
    ∷ guide (codes "lag") (codes "tas lag <CART> < MOVIE")
    (Some (codes "the movie is read from standard input: tas lag game.bin < game.movie")) (false ∷ []) []
    ∷ []

-- the guides of the commands after them
abbrev pub next_guides : List Guide
next_guides =
    guide (codes "new") (codes "tas new [OPTIONS] <CART> <FRAMES>") None (false ∷ true ∷ []) (codes "output" ∷ [])
    ∷ guide (codes "recover") (codes "tas recover [OPTIONS] <CART> < JOURNAL")
    (Some (codes "the journal is read from standard input: tas recover game.bin -o game.movie < game.journal")) (false ∷ []) (codes "cart" ∷ codes "until" ∷ codes "output" ∷ [])
    ∷ guide (codes "search") (codes "tas search [OPTIONS] <CART> <FROM> <FRAMES> <GOAL> < MOVIE")
    (Some (codes "the movie is read from standard input: tas search game.bin 60 12 'reach byte:80 == 85' < game.movie")) (false ∷ true ∷ true ∷ false ∷ [])
    (codes "choices" ∷ codes "names" ∷ codes "hold" ∷ codes "first" ∷ codes "most" ∷ codes "workers" ∷ codes "report" ∷ [])
    ∷ guide (codes "verify") (codes "tas verify [OPTIONS] < MANIFEST")
    (Some (codes "the manifest is read from standard input: tas verify --carts roms < movies.manifest")) [] (codes "carts" ∷ codes "workers" ∷ [])
    ∷ []

-- the guides of the commands after those
abbrev pub later_guides : List Guide
later_guides =
    guide (codes "edit") (codes "tas edit [OPTIONS] <CART> <SCRIPT> < MOVIE")
    (Some (codes "the movie is read from standard input: tas edit game.bin fix.script -o new.movie < game.movie")) (false ∷ false ∷ []) (codes "with" ∷ codes "output" ∷ [])
    ∷ guide (codes "cut") (codes "tas cut [OPTIONS] <CART> <FROM> <TO> < MOVIE")
    (Some (codes "the movie is read from standard input: tas cut game.bin 60 120 -o new.movie < game.movie")) (false ∷ true ∷ true ∷ []) (codes "output" ∷ [])
    ∷ guide (codes "diff") (codes "tas diff [OPTIONS] <CART> <OLD> < MOVIE")
    (Some (codes "the newer movie is read from standard input: tas diff game.bin old.movie < new.movie")) (false ∷ false ∷ []) (codes "output" ∷ [])
    ∷ guide (codes "script") (codes "tas script [OPTIONS] < SCRIPT")
    (Some (codes "the script is read from standard input: tas script < game.script")) [] (codes "cart" ∷ codes "movie" ∷ [])
    ∷ guide (codes "talk") (codes "tas talk [OPTIONS] [CART] [MOVIE] < LINES")
    (Some (codes "the conversation is read from standard input: tas talk game.bin game.movie < lines")) (false ∷ false ∷ []) (codes "journal" ∷ codes "output" ∷ [])
    ∷ []

-- the guide of the last one
abbrev pub last_guides : List Guide
last_guides =
    guide (codes "desk") (codes "tas desk [OPTIONS] <CART> <MOVIE> <IN0> <OUT0> [IN1 OUT1] .. [IN7 OUT7]")
    None (false ∷ false ∷ false ∷ false ∷ false ∷ false ∷ false ∷ false ∷ false ∷ false ∷ false ∷ false ∷ false ∷ false ∷ false ∷ false ∷ false ∷ false ∷ []) (codes "journal" ∷ [])
    ∷ []

-- ---- which words get a tip

-- a byte that a number on the command line may have: a digit, or a plus
abbrev pub is_number_byte : ℕ → Bool
is_number_byte byte = is_ascii_digit byte || byte == 43

-- a text is a flag: it begins with a dash, and is not the dash alone, which names a file
abbrev pub is_flag : Text → Bool
is_flag [] = false
is_flag (byte ∷ bytes) = byte == 45 && not (length bytes == 0)

-- one of the texts stands where there is no word left, or where a number is wanted that it can't be
abbrev pub has_stray : List Bool → List Text → Bool
has_stray numbers [] = false
has_stray [] (text ∷ texts) = true
has_stray (number ∷ numbers) (text ∷ texts) = (number && not (list_all is_number_byte text)) || has_stray numbers texts

-- ---- words and flags

-- a byte that needs no quotes in a shell: a letter, a digit, or one of these
abbrev pub is_bare_byte : ℕ → Bool
is_bare_byte byte = is_ascii_alphanumeric byte || list_any (λ mark. mark == byte) (codes "+,-./:=@_")

-- the long name of a flag: `-o` is `--output`
abbrev pub long_name : Text → Option Text
long_name flag = if bytes_eq flag (codes "-o") then Some (codes "output") else option_and_then (strip_byte 45) (strip_byte 45 flag)

abbrev pub is_among : List Text → Option Text → Bool
is_among flags None = false
is_among flags (Some name) = list_any (λ flag. bytes_eq flag name) flags

-- a byte that a value comes after in a flag's text
abbrev pub is_equals : ℕ → Bool
is_equals byte = byte == 61

-- a text is one of these flags, alone or with `=` and its value
abbrev pub is_one_of : List Text → Text → Bool
is_one_of flags text = is_among flags (long_name (before_first is_equals text))

-- what was given after a command's name
pub record Given : Type 0 where
  -- the words
  pub words : List Text
  -- the flags with their values, a space after each
  pub flags : Text
  -- the next text is the value of the last flag
  pub awaits : Bool
  -- each flag is one of the command's, each value after one is a value, and none of them needs quotes
  pub is_known : Bool

abbrev pub nothing_given : Given
nothing_given = record { words = []; flags = []; awaits = false; is_known = true }

-- a text can be the value of the flag before it
abbrev pub is_value : Text → Bool
is_value text = not (is_flag text) && not (length text == 0)

-- a text more leaves the flags known: it needs no quotes, and is one of the command's flags, or a value where one is awaited
abbrev pub fits : List Text → Bool → Bool → Text → Bool
fits flags known awaits text = known && list_all is_bare_byte text && (if awaits then is_value text else is_one_of flags text)

-- the value of a flag is to come: the text is a flag, and has none
abbrev pub opens : Bool → Text → Bool
opens awaits text = not awaits && not (list_any is_equals text)

abbrev pub with_flag : List Text → Text → Given → Given
with_flag flags text given = record given {
  flags = given.flags ++ text ++ codes " ";
  awaits = opens given.awaits text;
  is_known = fits flags given.is_known given.awaits text;
}

-- what was given, with a text more: a flag, the value of one, or a word
abbrev pub with_text : List Text → Given → Text → Given
with_text flags given text = if given.awaits || is_flag text then with_flag flags text given else record given { words = given.words ++ text ∷ [] }

-- what these texts give a command with these flags
abbrev pub given_by : List Text → List Text → Given
given_by flags said = fold (with_text flags) nothing_given said

-- what was given, as the code has it
abbrev pub given_of : {A : Type 0} → GivenWords A → Given
given_of given = record { words = map (λ word. word.now) given.words.items; flags = string_bytes given.flags; awaits = given.awaits; is_known = given.is_known }

-- ---- the tip for words

abbrev pub is_dash : ℕ → Bool
is_dash byte = byte == 45

abbrev pub is_less : ℕ → Bool
is_less byte = byte == 60

-- a tip whose call has these flags, where there are some, in the place of its own: before its `<`
abbrev pub with_flags : Text → Text → Text
with_flags flags tip = if length flags == 0 then tip
    else before_first is_dash (before_first is_less tip) ++ flags ++ codes "<" ++ after_first is_less tip

-- what was given gets a tip: its flags are known, each has its value, and one of its words is a stray
abbrev pub is_tipped : List Bool → Given → Bool
is_tipped numbers given = given.is_known && not given.awaits && has_stray numbers given.words

abbrev pub tip_with : Guide → Given → Option Text
tip_with command given = if is_tipped command.numbers given then option_map (with_flags given.flags) command.tip else None

-- the tip of a command for the texts after its name
abbrev pub tip_for : List Text → Guide → Option Text
tip_for said command = tip_with command (given_by command.flags said)

-- a command's name is this one
abbrev pub is_named : Text → Guide → Bool
is_named name command = bytes_eq command.name name

abbrev pub or_else : {A : Type 0} → Option A → Option A → Option A
or_else None second = second
or_else (Some first) second = Some first

-- the command of this name
abbrev pub guide_named : Text → Option Guide
guide_named name = or_else (find (is_named name) first_guides) (or_else (find (is_named name) next_guides) (or_else (find (is_named name) later_guides) (find (is_named name) last_guides)))

abbrev pub joined : {A : Type 0} → Option (Option A) → Option A
joined None = None
joined (Some inner) = inner

-- the tip for these words, the first of which is the program's name
abbrev pub tip_of : List Text → Option Text
tip_of (program ∷ name ∷ texts) = joined (option_map (tip_for texts) (guide_named name))
tip_of _ = None
