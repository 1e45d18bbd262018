-- What clap says of the command line.
use Rattle.std.proofs.Common.{◌+◌, ◌<◌, ◌≤◌, get_or, length, take, ◌≡◌, List, [], ◌∷◌, ◌++◌, Bool, true, false, Option, Some, None, codes, map, refl, sym, subst, ap, ap₂, ◌∙◌, option_map}
use Rattle.std.specs.Prelude.{IfSome, drop, find}
use Rattle.std.proofs.lemmas.List.{map-append, take_more}
use Rattle.std.proofs.lemmas.Slice.Eq.{bytes_eq-Decides}
use Rattle.std.specs.Str.{bytes_eq}
use Rattle.std.specs.Borrow.{Bor}
use Rattle.clap.specs.Built.{AddsArg, AddsSubcommand}
use Rattle.clap.specs.Simple.{App, Shape, HasMatchesOf, app_of, app_of_fields, new_app, with_rule, with_subcommand, label_of, on_top, rows_at, entered, built, names_of, is_simple, subcommand_of, subcommand_rows_of}
use Rattle.clap.specs.Walk.{Row, Rule, Text, answers_to, first_of, one_of, rows_of, rule_of, stop_after}
use Rattle.clap.specs.declared.builder.arg.Arg.{Arg}
use Rattle.clap.specs.declared.builder.command.Command.{Command}
use Rattle.clap.specs.declared.builder.command.Command.TheViews.{out-Command}
use Rattle.clap.specs.declared.parser.matches.ArgMatches.{ArgMatches}
use Rattle.clap.proofs.OnLiterals.{clap_on_literals}
use Rattle.clap.proofs.SimpleLemmas.{label_first}
use Rattle.tas_words.specs.CommandLine.{command_names, labels, own_flags, rule_of_word, shape_with, HasRules, HasWordsOf, IsAsked, command_line, empty_line, with_version}
use Rattle.tas_words.specs.Task.{IsNumberText, IsNumberWord, IsOptionalWord}
use Rattle.tas_words.specs.declared.subcommands.Word.{Word}
use Rattle.tas_words.specs.declared.task.Task.{Task}
use Rattle.std.specs.Prelude.{Result, Ok, ℕ}
use Rattle.clap.specs.Matches.{ReadsOne, one_text}
use Rattle.clap.specs.declared.parser.matches.Found.{Found}
use Rattle.clap.proofs.WalkLemmas.{one_text-rows}

-- ---- the commands

-- a command with one word more
pub with_word : (name : Text) (rules : List Rule) (old new : Command) (arg : Arg) (rule : Rule) → HasRules name rules old → arg.global ≡ false → rule_of arg ≡ rule → AddsArg old arg new → HasRules name (rules ++ rule ∷ []) new
with_word name rules old new arg rule has local is added = record {
  local = added.globals ∙ rw (has.local, local) refl;
  app = added.shape local ∙ ap₂ with_rule has.app is;
}

-- a command with the words up to i, and the one there
pub with_next_word : (name : Text) (words : List Word) (i : ℕ) (d : Word) (command : Command) → i < length words
    → HasRules name (map rule_of_word (take i words) ++ rule_of_word (get_or words i d) ∷ []) command → HasRules name (map rule_of_word (take (i + 1) words)) command
with_next_word name words i d command below has = rw (take_more words i d below, map-append) has

abbrev with_required : Shape → Shape
with_required s = record s { subcommand_required = true }

abbrev without_help : Shape → Shape
without_help s = record s { disable_help_subcommand = true }

pub line_start : (new named told helped required last : Command) (about after : Option (Bor Text)) → app_of new ≡ new_app (codes "tas")
    → out-Command named ≡ record (out-Command new) { bin_name = (out-Command named).bin_name }
    → out-Command told ≡ record (out-Command named) { about = about } → out-Command helped ≡ record (out-Command told) { after_help = after }
    → out-Command required ≡ record (out-Command helped) { subcommand_required = true } → out-Command last ≡ record (out-Command required) { disable_help_subcommand = true } → app_of last ≡ empty_line
line_start new named told helped required last about after app n t h r l =
    ap app_of_fields l
    ∙ ap (on_top without_help) (ap app_of_fields r ∙ ap (on_top with_required) (ap app_of_fields h ∙ ap app_of_fields t ∙ ap app_of_fields n ∙ app))

-- a command line to which clap was given a version
pub versioned : (old new : Command) (app : App) (version : Bor Text) → app_of old ≡ app → out-Command new ≡ record (out-Command old) { version = Some version } → app_of new ≡ with_version app
versioned old new app version is v = ap app_of_fields v ∙ ap with_version is

-- a command line with one command more
pub with_command : (old sub new : Command) (app : App) (name : Text) (rules : List Rule) → app_of old ≡ app → HasRules name rules sub → AddsSubcommand old sub new → app_of new ≡ with_subcommand app (shape_with name rules)
with_command old sub new app name rules is has added = added.shape has.local ∙ ap₂ with_subcommand is (ap (λ (x : App). x.top) has.app)

-- ---- the command that a parse met

only_name : (word : Text) (names : List Text) → IfSome (find (answers_to word) (labels names)) (λ e. e.0 ≡ word)
only_name word [] = tt
only_name word (n ∷ names) = go (bytes_eq n word) refl (only_name word names)
  where
    go : (b : Bool) → bytes_eq n word ≡ b → IfSome (find (answers_to word) (labels names)) (λ e. e.0 ≡ word) → IfSome (find (answers_to word) (labels (n ∷ names))) (λ e. e.0 ≡ word)
    go true e rest = rw e ((bytes_eq-Decides n word).0 e)
    go false e rest = rw e rest

same_name : (word name : Text) (found : Option (Text × List Text)) → IfSome found (λ e. e.0 ≡ word) → option_map (λ p. p.0) found ≡ Some name → Some word ≡ Some name
same_name word name None is e = absurd (cc e)
same_name word name (Some p) is e = ap Some (sym is) ∙ e

name_of_rows : (rest : List Text) (found : Option Shape) → option_map (λ (p : Text × List Row). p.0) (option_map (λ s. rows_at s rest) found) ≡ option_map (λ s. s.name) found
name_of_rows rest None = refl
name_of_rows rest (Some s) = refl

entered_by : (app : App) (stop : Option (Text × List Text)) (name : Text) → map label_of app.subs ≡ labels command_names → option_map (λ (p : Text × List Row). p.0) (entered app stop) ≡ Some name
    → option_map (λ (p : Text × List Text). p.0) stop ≡ Some name
entered_by app None name is e = absurd (cc e)
entered_by app (Some p) name is e =
    let labelled : option_map (λ (q : Text × List Text). q.0) (find (answers_to p.0) (labels command_names)) ≡ Some name =
    ap (λ (l : List (Text × List Text)). option_map (λ (q : Text × List Text). q.0) (find (answers_to p.0) l)) (sym is)
    ∙ sym (label_first p.0 app.subs)
    ∙ sym (name_of_rows p.1 (find (λ s. answers_to p.0 (label_of s)) app.subs))
    ∙ e in
    same_name p.0 name (find (answers_to p.0) (labels command_names)) (only_name p.0 command_names) labelled

is_simple_line : is_simple command_line ≡ true
unfolding clap_on_literals
is_simple_line = refl

has_names : names_of (built command_line) ≡ labels command_names
has_names = refl

-- the command that the words reach is the one that they name
asked_at : (words : List Text) (reached : Option (Text × List Row)) (task : Task) (output : Option (Bor Text)) → subcommand_of command_line words ≡ reached → HasWordsOf reached task output → IsAsked words task output
asked_at words None task output is has = absurd has
asked_at words (Some p) task output is has =
    let app : App = command_line in
    record {
      name = p.0;
      rows = p.1;
      named = entered_by (built app) (stop_after own_flags (labels command_names) (drop 1 words)) p.0 has_names (ap (option_map (λ (q : Text × List Row). q.0)) is);
      reached = is;
      has = has.0;
      into = has.1;
    }

-- the command that a parse met, with its words, is the one that the words reach
pub met_asked : (line : Command) (words : List Text) (m : ArgMatches) (task : Task) (output : Option (Bor Text)) → app_of line ≡ command_line → HasMatchesOf (app_of line) words m → HasWordsOf (subcommand_rows_of m) task output → IsAsked words task output
met_asked line words m task output is matches met =
    let rows : subcommand_rows_of m ≡ subcommand_of command_line words = (matches (ap is_simple is ∙ is_simple_line)).1 ∙ ap (λ (a : App). subcommand_of a words) is in
    asked_at words (subcommand_rows_of m) task output (sym rows) met

-- ---- the words of a command

-- a word that may be left out, as it was found
pub found_word : (rows : List Row) (name : Text) (word : Option (Bor Text)) → option_map (λ w. w.now) word ≡ first_of name rows → IsOptionalWord rows name word
found_word rows name None is = sym is
found_word rows name (Some w) is = sym is

-- a number that was read, in its range
pub number_read : {E : Type 0} (G : List ℕ → Result ℕ E → Type 0) (f : Found) (name : Text) (least most : ℕ) (r : Option ℕ) (n : ℕ) → (one_text f name ≡ None → r ≡ None) → ((t : Text) → one_text f name ≡ Some t → ReadsOne G t r)
    → ((t : Text) (v : ℕ) → G t (Ok v) → IsNumberText t v) → r ≡ Some n → least ≤ n → n ≤ most → IsNumberWord (rows_of f) name least most n
number_read G f name least most r n none some value is above below = (above, below, go (one_text f name) refl)
  where
    go : (o : Option Text) → one_text f name ≡ o → (text : Text) × (one_of name (rows_of f) ≡ Some text) × IsNumberText text n
    go None e =
        let bad : Some n ≡ None = sym is ∙ none e in
        cc
    go (Some t) e = (t, sym (one_text-rows f name) ∙ e, value t n (subst (λ (x : Option ℕ). ReadsOne G t x) is (some t e)))
