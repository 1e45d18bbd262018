-- What the words that the system gave ask for.
use Rattle.std.specs.Prelude.{◌≡◌, ◌++◌, ◌==◌, ℕ, Bool, List, Option, Some, None, Result, Ok, Err, String, codes, map, string_bytes}
use Rattle.std.specs.List.{after_first, before_first}
use Rattle.std.specs.Iterator.Runs.{WholeRun}
use Rattle.std.specs.Vec.Iter.{into_iter_steps}
use Rattle.std.specs.declared.vec.IntoIter.{IntoIter}
use Rattle.std.specs.declared.io.Error.{Error}
use Rattle.tas_words.specs.declared.invocation.Invocation.{Invocation}
use Rattle.tas_words.specs.declared.invocation.Invocation.TheVariants.{Do, NoMemory, Refuse, Save, Show}
use Rattle.clap.specs.Walk.{Text}
use Rattle.tas_words.specs.CommandLine.{IsAsked}
use Rattle.tas_words.specs.Guides.{tip_of}

-- a byte that ends a line
abbrev pub is_newline : ℕ → Bool
is_newline byte = byte == 10

-- a text with a tip between its first line and the rest
abbrev pub with_tip : Text → Text → Text
with_tip tip text = before_first is_newline text ++ codes "\n\n  tip: " ++ tip ++ codes "\n" ++ after_first is_newline text

-- a text with its tip, where there is one
abbrev pub tipped : Option Text → Text → Text
tipped None text = text
tipped (Some tip) text = with_tip tip text

-- a text is another one with this tip
abbrev pub HasTip : Option Text → Text → Type 0
HasTip tip text = (old : Text) × (text ≡ tipped tip old)

-- these words are refused with this text and the tip for them, or memory was
abbrev pub IsRefusalWith : {A : Type 0} → List Text → Text → Invocation A → Type 0
IsRefusalWith words text (Do chosen) = ⊥
IsRefusalWith words text (Save chosen file) = ⊥
IsRefusalWith words text (Show shown) = ⊥
IsRefusalWith words text (Refuse new) = string_bytes new ≡ tipped (tip_of words) text
IsRefusalWith words text NoMemory = Unit {0}

-- what these words may ask for, the first of which is the program's name: the task of the command that they name, with its files and
-- numbers, these in their ranges, and that for the file of its output, exactly where it is to be saved; or a text, or nothing that is understood, with the tip for these words, or memory was refused
abbrev pub IsInvocation : {A : Type 0} → List Text → Invocation A → Type 0
IsInvocation words (Do chosen) = IsAsked words chosen None
IsInvocation words (Save chosen file) = IsAsked words chosen (Some file)
IsInvocation words (Refuse text) = HasTip (tip_of words) (string_bytes text)
IsInvocation words _ = Unit {0}

-- an invocation that is no task
abbrev pub IsNoTask : {A : Type 0} → Invocation A → Type 0
IsNoTask (Do chosen) = ⊥
IsNoTask (Save chosen file) = ⊥
IsNoTask _ = Unit {0}

-- an iterator gives these words, one after the other, and then no more
abbrev pub Gives : {A : Type 0} → IntoIter (String A) A → List Text → Type 0
Gives given words = WholeRun into_iter_steps given (λ run. map string_bytes run.items ≡ words)

-- the words that the system gave; where it gave an error, there are none
abbrev pub AreGiven : {A : Type 0} → Result (IntoIter (String A) A) Error → List Text → Type 0
AreGiven (Ok given) words = Gives given words
AreGiven (Err error) words = ⊥
