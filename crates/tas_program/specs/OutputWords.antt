-- Which of the words that name files the file of an output may not stand for, and when it may not have bytes.
use Rattle.std.specs.Prelude.{◌≡◌, ℕ, Bool, true, false, ◌&&◌, if◌then◌else◌, nat_lt, codes, List, [], ◌∷◌, All, map, Option, Some, None, option_map, Result}
use Rattle.std.specs.Borrow.{Bor}
use Rattle.std.specs.Str.{bytes_eq}
use Rattle.tas_words.specs.declared.task.Start.{Start}
use Rattle.tas_words.specs.declared.task.Task.{Task}
use Rattle.tas_words.specs.declared.task.Task.TheVariants.{Migrate, New, Recover, Edit, Cut, Diff, Talk}
use Rattle.tas_words.specs.declared.task.Start.TheVariants.{Blank, Cart, Movie}
use Rattle.tas_program.specs.declared.folder.OrdinaryFile.{OrdinaryFile}
use Rattle.tas_program.specs.declared.file_words.FileWord.{FileWord}
use Rattle.tas_program.specs.declared.file_words.FileWord.TheVariants.{Cart as CartWord, Script as ScriptWord, Other as OtherWord, Old as OldWord, File as FileOut, Journal as JournalWord, Input as InputWord, Output as OutputWord, Image as ImageWord}
use Rattle.tas_program.specs.declared.file_words.SeenWord.{SeenWord}
use Rattle.tas_program.specs.declared.file_words.Permit.{Permit}
use Rattle.tas_program.specs.declared.file_words.WordFault.{WordFault}
use Rattle.tas_program.specs.declared.file_words.WordFault.TheVariants.{SameFile}
use Rattle.tas_program.specs.FileWords.{AreSeen, IsSeen, cart_name, fault_by, fault_in, fault_or, first_fault, first_same}

-- the names of the files that a task reads whose output may replace a file
abbrev pub cart_input : Task → Option (List ℕ)
cart_input (Migrate cart) = Some cart.now
cart_input (New cart frames) = Some cart.now
cart_input (Recover words) = Some words.cart.now
cart_input (Cut cart from to) = Some cart.now
cart_input (Edit cart script other) = Some cart.now
cart_input (Diff cart old) = Some cart.now
cart_input (Talk words) = cart_name words.start
cart_input chosen = None

abbrev pub script_input : Task → Option (List ℕ)
script_input (Edit cart script other) = Some script.now
script_input chosen = None

abbrev pub other_input : Task → Option (List ℕ)
other_input (Edit cart script other) = option_map (λ name. name.now) other
other_input chosen = None

abbrev pub old_input : Task → Option (List ℕ)
old_input (Diff cart old) = Some old.now
old_input chosen = None

-- the same of standard input, which a diff reads as the newer movie, a recovery as the journal, and a conversation as its lines: none may be
-- replaced
abbrev pub stream_input : Task → Option (List ℕ)
stream_input (Diff cart old) = Some (codes "/dev/stdin")
stream_input (Recover words) = Some (codes "/dev/stdin")
stream_input (Talk words) = Some (codes "/dev/stdin")
stream_input chosen = None

-- the same of standard output, where a conversation's answers go
abbrev pub answers_input : Task → Option (List ℕ)
answers_input (Talk words) = Some (codes "/dev/stdout")
answers_input chosen = None

-- the file that a recovery's cartridge replaces, beside its movie's
abbrev pub image_input : Task → Option (List ℕ)
image_input (Recover words) = option_map (λ name. name.now) words.image
image_input chosen = None

-- the same by their words
abbrev pub input_name : Task → FileWord → Option (List ℕ)
input_name chosen CartWord = cart_input chosen
input_name chosen ScriptWord = script_input chosen
input_name chosen OtherWord = other_input chosen
input_name chosen OldWord = old_input chosen
input_name chosen InputWord = stream_input chosen
input_name chosen OutputWord = answers_input chosen
input_name chosen ImageWord = image_input chosen
input_name chosen word = None

-- these words in their order
abbrev pub input_words : List FileWord
input_words = CartWord ∷ ScriptWord ∷ OtherWord ∷ OldWord ∷ InputWord ∷ OutputWord ∷ ImageWord ∷ []

-- each of them is seen as the folder shows its file
abbrev pub AreInputsSeen : (List ℕ → Option (Option OrdinaryFile)) → Task → List SeenWord → Type 0
AreInputsSeen shown chosen seen = (map (λ s. s.word) seen ≡ input_words) × All (λ s. IsSeen shown (input_name chosen s.word) s.file) seen

-- what is started from is no movie
abbrev pub has_no_movie : Start → Bool
has_no_movie Blank = true
has_no_movie (Cart cart) = true
has_no_movie (Movie files) = false

-- a task makes a movie from nothing that it reads of one
abbrev pub starts_movie : Task → Bool
starts_movie (New cart frames) = true
starts_movie (Talk words) = has_no_movie words.start
starts_movie chosen = false

-- an ordinary file has bytes
abbrev pub has_some : Option OrdinaryFile → Bool
has_some None = false
has_some (Some file) = nat_lt 0 file.len

-- a task has a journal of this name
abbrev pub has_name : Option (Bor (List ℕ)) → List ℕ → Bool
has_name None name = false
has_name (Some said) name = bytes_eq said.now name

abbrev pub is_journal : Task → List ℕ → Bool
is_journal (Talk words) name = has_name words.journal name
is_journal chosen name = false

-- a task's cartridge replaces a file of this name
abbrev pub is_image : Task → List ℕ → Bool
is_image (Recover words) name = has_name words.image name
is_image chosen name = false

-- the fault of a file that has the name of the journal, or of the cartridge's file, where neither is there yet
abbrev pub name_fault : Task → List ℕ → Option WordFault
name_fault chosen name =
    if is_journal chosen name then Some (SameFile FileOut JournalWord) else (if is_image chosen name then Some (SameFile FileOut ImageWord) else None)

-- the fault of a file that stands for the ordinary file of one of them, or whose bytes a new movie would replace, or that has the name of the journal or of
-- the cartridge's file
abbrev pub output_fault : Task → List SeenWord → List ℕ → Option OrdinaryFile → Option WordFault
output_fault chosen seen name file =
    fault_or (fault_by FileOut (first_same seen (record { word = FileOut; file = file })) (starts_movie chosen && has_some file)) (name_fault chosen name)

-- a permit is given where the words have no fault, as for a task whose output replaces no file, and this file has none
abbrev pub OutputEnds : (List ℕ → Option (Option OrdinaryFile)) → Task → List ℕ → Result Permit WordFault → Type 0
OutputEnds shown chosen name end =
    (named : List SeenWord) × (seen : List SeenWord) × (file : Option OrdinaryFile)
    × AreSeen shown chosen named × AreInputsSeen shown chosen seen × IsSeen shown (Some name) file
    × (fault_or (first_fault named) (output_fault chosen seen name file) ≡ fault_in end)
