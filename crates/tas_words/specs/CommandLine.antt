-- The command line, as clap's definitions see it.
use Rattle.std.specs.Prelude.{◌≡◌, ℕ, pos, List, [], ◌∷◌, ◌++◌, Option, Some, None, true, false, codes, decimal, drop, fold, map, option_map}
use Rattle.std.specs.Borrow.{Bor}
use Rattle.std.specs.Int.{int_max, int_min}
use Rattle.clap.specs.Values.{signed_between}
use Rattle.clap.specs.Simple.{App, Shape, app_of, filled_from, help_rule, version_rule, new_rule, new_shape, on_top, subcommand_of, with_subcommand}
use Rattle.clap.specs.Walk.{Names, Row, Rule, Text, stop_after}
use Rattle.clap.specs.declared.builder.action.ArgAction.TheVariants.{Set}
use Rattle.clap.specs.declared.builder.command.Command.{Command}
use Rattle.clap.specs.declared.builder.command.Command.TheViews.{out-Command}
use Rattle.clap.specs.declared.builder.value_parser.ValueParser.{ValueParser}
use Rattle.vcs_machine.specs.Machine.{profile}
use Rattle.tas_language.specs.Answers.{program_version}
use Rattle.tas_language.specs.Commands.{most_number}
use Rattle.tas_movie.specs.Content.{most_inputs}
use Rattle.tas_film.specs.Runs.{most_workers}
use Rattle.tas_words.specs.declared.subcommands.Subcommand.{Subcommand}
use Rattle.tas_words.specs.declared.subcommands.Word.{Word}
use Rattle.tas_words.specs.declared.subcommands.WordKind.{WordKind}
use Rattle.tas_words.specs.declared.subcommands.WordKind.TheVariants.{File, OptionalFile, PairedFile, Flag, LoneFlag, Output, Number, OptionalNumber, NumberFlag}
use Rattle.tas_words.specs.declared.task.Task.{Task}
use Rattle.tas_words.specs.Task.{HasWords, IsOptionalWord, most_traced, most_every, most_line}

-- what `tas --version` prints after the program's name: the program's version, and the number of the machine's profile
abbrev pub version_text : Text
version_text = program_version ++ codes ", machine profile " ++ decimal profile

-- ---- the commands. Public contracts cite `IsAsked`, at the end, and so `command_line` and `named_command`; private functions cite the rest

-- a required word
abbrev pub word_rule : Text → Option ValueParser → Rule
word_rule name parser = record (new_rule name) {
  action = Some Set;
  parser = parser;
  required = true;
}

-- the numbers of 32 bits from the least to the most
abbrev pub numbers : ℕ → ℕ → ValueParser
numbers least most = signed_between (int_max (pos 0) (pos least)) (int_min (pos 4294967295) (pos most))

-- a required word that is a number in a range
abbrev pub number_rule : Text → ℕ → ℕ → Rule
number_rule name least most = word_rule name (Some (numbers least most))

-- a file's name
abbrev pub file_rule : Text → Rule
file_rule name = word_rule name None

-- the name of the cartridge's file
abbrev pub cart_rule : Rule
cart_rule = file_rule (codes "CART")

-- the number of a frame
abbrev pub frame_rule : Text → Rule
frame_rule name = number_rule name 0 most_number

-- a word that may be left out
abbrev pub may_word_rule : Text → Rule
may_word_rule name = record (new_rule name) { action = Some Set }

-- the same of a word that goes with another one
abbrev pub paired_word_rule : Text → Rule
paired_word_rule name = record (may_word_rule name) { is_free = false }

-- a number in a range that may be left out
abbrev pub may_number_rule : Text → ℕ → ℕ → Rule
may_number_rule name least most = record (may_word_rule name) { parser = Some (numbers least most) }

-- the number of a frame, which may be left out
abbrev pub may_frame_rule : Text → Rule
may_frame_rule name = may_number_rule name 0 most_number

-- a word after a flag, which goes with another one
abbrev pub flag_rule : Text → Text → Rule
flag_rule name flag = record (new_rule name) {
  long = Some flag;
  action = Some Set;
  value_names = 1;
  is_free = false;
}

-- a word after a flag, which goes with no other one
abbrev pub lone_flag_rule : Text → Text → Rule
lone_flag_rule name flag = record (may_word_rule name) {
  long = Some flag;
  value_names = 1;
}

-- a number in a range after a flag, which may be left out
abbrev pub number_flag_rule : Text → Text → ℕ → ℕ → Rule
number_flag_rule name flag least most = record (may_number_rule name least most) {
  long = Some flag;
  value_names = 1;
}

-- a word after `-o` or `--output`
abbrev pub output_rule : Text → Rule
output_rule name = record (new_rule name) {
  short = Some 111;
  long = Some (codes "output");
  action = Some Set;
  value_names = 1;
}

-- the file that is replaced by the output, or by the movie that a conversation leaves
abbrev pub file_output_rule : Rule
file_output_rule = output_rule (codes "FILE")

-- a word, as clap reads it
abbrev pub kind_rule : Text → WordKind → Rule
kind_rule name File = file_rule name
kind_rule name OptionalFile = may_word_rule name
kind_rule name (PairedFile other) = paired_word_rule name
kind_rule name (Flag flag other) = flag_rule name flag.now
kind_rule name (LoneFlag flag) = lone_flag_rule name flag.now
kind_rule name Output = output_rule name
kind_rule name (Number least most) = number_rule name least most
kind_rule name (OptionalNumber least most) = may_number_rule name least most
kind_rule name (NumberFlag flag least most) = number_flag_rule name flag.now least most

abbrev pub rule_of_word : Word → Rule
rule_of_word word = kind_rule word.name.now word.kind

abbrev pub shape_with : Text → List Rule → Shape
shape_with name rules = record (new_shape name) { rules = rules }

-- a command with these words
pub record HasRules (name : Text) (rules : List Rule) (command : Command) : Type 0 where
  pub local : (out-Command command).has_globals ≡ false
  pub app : app_of command ≡ record { top = shape_with name rules; subs = [] }

-- the command line before it has commands and a version
abbrev pub empty_line : App
empty_line = record {
  top = record (new_shape (codes "tas")) {
    disable_help_subcommand = true;
    subcommand_required = true;
  };
  subs = [];
}

-- a command line with these commands after its own
abbrev pub with_commands : App → List Subcommand → App
with_commands line commands = fold (λ l command. with_subcommand l (shape_with command.name.now (map rule_of_word command.words.now))) line commands

-- a command line of these commands, before it has a version
abbrev pub line_of : List Shape → App
line_of shapes = record {
  top = record (new_shape (codes "tas")) {
    is_leaf = false;
    disable_help_subcommand = true;
    subcommand_required = true;
  };
  subs = shapes;
}

-- the files of the pairs of `tas desk`; of each pair but the first both may be left out
abbrev pub pair_rules : List Rule
pair_rules =
    file_rule (codes "IN0") ∷ file_rule (codes "OUT0")
    ∷ paired_word_rule (codes "IN1") ∷ paired_word_rule (codes "OUT1") ∷ paired_word_rule (codes "IN2") ∷ paired_word_rule (codes "OUT2")
    ∷ paired_word_rule (codes "IN3") ∷ paired_word_rule (codes "OUT3") ∷ paired_word_rule (codes "IN4") ∷ paired_word_rule (codes "OUT4")
    ∷ paired_word_rule (codes "IN5") ∷ paired_word_rule (codes "OUT5") ∷ paired_word_rule (codes "IN6") ∷ paired_word_rule (codes "OUT6")
    ∷ paired_word_rule (codes "IN7") ∷ paired_word_rule (codes "OUT7") ∷ []

-- the program's first commands
abbrev pub first_shapes : List Shape
first_shapes =
    shape_with (codes "trace") (number_rule (codes "N") 0 most_traced ∷ [])
    ∷ shape_with (codes "check") (cart_rule ∷ [])
    ∷ shape_with (codes "migrate") (cart_rule ∷ file_output_rule ∷ [])
    ∷ shape_with (codes "shot") (cart_rule ∷ frame_rule (codes "K") ∷ [])
    ∷ shape_with (codes "film") (cart_rule ∷ may_frame_rule (codes "FROM") ∷ may_frame_rule (codes "TO") ∷ [])
    ∷ shape_with (codes "export") (cart_rule ∷ frame_rule (codes "FROM") ∷ frame_rule (codes "TO") ∷ number_rule (codes "WORKERS") 1 most_workers ∷ [])
    ∷ shape_with (codes "ram") (cart_rule ∷ frame_rule (codes "FROM") ∷ frame_rule (codes "TO") ∷ flag_rule (codes "NAMES") (codes "names") ∷ [])
    ∷ shape_with (codes "digest") (cart_rule ∷ may_number_rule (codes "EVERY") 1 most_every ∷ [])
    ∷ shape_with (codes "compare") (cart_rule ∷ file_rule (codes "OLD") ∷ [])
    ∷ shape_with (codes "lag") (cart_rule ∷ [])
    ∷ []

-- those after them
abbrev pub next_shapes : List Shape
next_shapes =
    shape_with (codes "new") (cart_rule ∷ number_rule (codes "FRAMES") 0 most_inputs ∷ file_output_rule ∷ [])
    ∷ shape_with (codes "recover") (cart_rule ∷ lone_flag_rule (codes "IMAGE") (codes "cart") ∷ number_flag_rule (codes "LINE") (codes "until") 1 most_line ∷ file_output_rule ∷ [])
    ∷ shape_with (codes "search") (cart_rule ∷ frame_rule (codes "FROM") ∷ number_rule (codes "FRAMES") 0 most_inputs ∷ word_rule (codes "GOAL") None
    ∷ flag_rule (codes "CHOICES") (codes "choices") ∷ flag_rule (codes "NAMES") (codes "names")
    ∷ number_flag_rule (codes "N") (codes "hold") 1 most_inputs ∷ flag_rule (codes "K/N") (codes "first") ∷ number_flag_rule (codes "STATES") (codes "most") 1 most_number
    ∷ number_flag_rule (codes "WORKERS") (codes "workers") 1 most_workers ∷ flag_rule (codes "REPORT") (codes "report") ∷ [])
    ∷ shape_with (codes "verify") (lone_flag_rule (codes "DIR") (codes "carts") ∷ number_flag_rule (codes "WORKERS") (codes "workers") 1 most_workers ∷ [])
    ∷ []

-- those after them
abbrev pub later_shapes : List Shape
later_shapes =
    shape_with (codes "edit") (cart_rule ∷ file_rule (codes "SCRIPT") ∷ flag_rule (codes "OTHER") (codes "with") ∷ file_output_rule ∷ [])
    ∷ shape_with (codes "cut") (cart_rule ∷ frame_rule (codes "FROM") ∷ frame_rule (codes "TO") ∷ file_output_rule ∷ [])
    ∷ shape_with (codes "diff") (cart_rule ∷ file_rule (codes "OLD") ∷ file_output_rule ∷ [])
    ∷ shape_with (codes "script") (flag_rule (codes "CART") (codes "cart") ∷ flag_rule (codes "MOVIE") (codes "movie") ∷ [])
    ∷ shape_with (codes "talk") (may_word_rule (codes "CART") ∷ may_word_rule (codes "MOVIE") ∷ lone_flag_rule (codes "JOURNAL") (codes "journal") ∷ file_output_rule ∷ [])
    ∷ []

-- the last one
abbrev pub last_shapes : List Shape
last_shapes = shape_with (codes "desk") (cart_rule ∷ file_rule (codes "MOVIE") ∷ lone_flag_rule (codes "JOURNAL") (codes "journal") ∷ pair_rules) ∷ []

-- the first part of the program's command line
abbrev pub first_line : App
first_line = line_of first_shapes

-- the first two parts
abbrev pub next_line : App
next_line = line_of (first_shapes ++ next_shapes)

-- the first three
abbrev pub later_line : App
later_line = line_of (first_shapes ++ next_shapes ++ later_shapes)

-- all its parts
abbrev pub last_line : App
last_line = line_of (first_shapes ++ next_shapes ++ later_shapes ++ last_shapes)

-- a command line with a version
abbrev pub with_version : App → App
with_version line = on_top (λ top. record top { has_version = true }) line

-- the program's command line
abbrev pub command_line : App
command_line = with_version last_line

abbrev pub IsCommandLine : Command → Type 0
IsCommandLine command = app_of command ≡ command_line

-- the text that clap is given as a command's version
abbrev pub HasVersion : Command → Text → Type 0
HasVersion command text = option_map (λ version. version.now) (out-Command command).version ≡ Some text

-- ---- which command some words name

-- names without aliases
abbrev pub labels : List Text → Names
labels names = map (λ name. (name, [])) names

-- the commands' names
abbrev pub command_names : List Text
command_names = map (λ s. s.name) command_line.subs

-- the flags that stand before a command: help and version
abbrev pub own_flags : List Rule
own_flags = filled_from 1 (help_rule ∷ version_rule ∷ [])

-- the command that the words name, the first of which is the program's name
abbrev pub named_command : List Text → Option Text
named_command words = option_map (λ p. p.0) (stop_after own_flags (labels command_names) (drop 1 words))

-- ---- what they ask for

-- the command that was reached has a task's words, and the word for the file of its output, where there is one
abbrev pub HasWordsOf : Option (Text × List Row) → Task → Option (Bor Text) → Type 0
HasWordsOf None chosen output = ⊥
HasWordsOf (Some reached) chosen output = HasWords reached.0 reached.1 chosen × IsOptionalWord reached.1 (codes "FILE") output

-- the words name a command and reach it with the words after it, which are a task's and that for the file of its output, where there is one
pub record IsAsked (words : List Text) (chosen : Task) (output : Option (Bor Text)) : Type 0 where
  pub name : Text
  pub rows : List Row
  pub named : named_command words ≡ Some name
  pub reached : subcommand_of command_line words ≡ Some (name, rows)
  pub has : HasWords name rows chosen
  pub into : IsOptionalWord rows (codes "FILE") output
