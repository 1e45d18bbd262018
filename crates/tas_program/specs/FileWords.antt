-- Which of the words that name files are refused, and when.
use Rattle.std.specs.Prelude.{◌≡◌, ℕ, Bool, true, false, ◌&&◌, if◌then◌else◌, nat_eq, nat_lt, codes, List, [], ◌∷◌, ◌++◌, map, All, Option, Some, None, option_map, slice_get, Result, Ok, Err}
use Rattle.tas_words.specs.declared.task.Pair.{Pair}
use Rattle.tas_words.specs.declared.task.Pairs.{Pairs}
use Rattle.tas_words.specs.declared.task.DeskWords.{DeskWords}
use Rattle.tas_words.specs.declared.task.RecoveryWords.{RecoveryWords}
use Rattle.tas_words.specs.declared.task.TalkWords.{TalkWords}
use Rattle.tas_words.specs.declared.task.Task.{Task}
use Rattle.tas_words.specs.declared.task.Task.TheVariants.{Recover, Talk, Desk}
use Rattle.std.specs.Borrow.{Bor}
use Rattle.std.specs.Option.{option_flatten}
use Rattle.std.specs.Str.{bytes_eq}
use Rattle.tas_words.specs.declared.task.Start.{Start}
use Rattle.tas_words.specs.declared.task.Start.TheVariants.{Blank, Cart, Movie}
use Rattle.tas_program.specs.declared.folder.OrdinaryFile.{OrdinaryFile}
use Rattle.tas_program.specs.declared.file_words.FileWord.{FileWord}
use Rattle.tas_program.specs.declared.file_words.FileWord.TheVariants.{Cart as CartWord, Movie as MovieWord, In, Out, Journal as JournalWord, Input, Output, Image as ImageWord}
use Rattle.tas_program.specs.declared.file_words.SeenWord.{SeenWord}
use Rattle.tas_program.specs.declared.file_words.Permit.{Permit}
use Rattle.tas_program.specs.declared.file_words.WordFault.{WordFault}
use Rattle.tas_program.specs.declared.file_words.WordFault.TheVariants.{SameFile, NotEmpty, Exists, NoSeat}

-- all words in their order: those of the command line, then the streams, and last the file that a cartridge replaces, so that its word is the one at fault
abbrev pub words : List FileWord
words = CartWord ∷ MovieWord ∷ In 0 ∷ Out 0 ∷ In 1 ∷ Out 1 ∷ In 2 ∷ Out 2 ∷ In 3 ∷ Out 3 ∷ In 4 ∷ Out 4 ∷ In 5 ∷ Out 5 ∷ In 6 ∷ Out 6 ∷ In 7 ∷ Out 7 ∷ JournalWord ∷ Input ∷ Output ∷ ImageWord ∷ []

-- the pair of this number, if it is there
abbrev pub pair_at : Pairs → ℕ → Option Pair
pair_at pairs k =
    option_flatten (slice_get (Some pairs.first ∷ pairs.second ∷ pairs.third ∷ pairs.fourth ∷ pairs.fifth ∷ pairs.sixth ∷ pairs.seventh ∷ pairs.eighth ∷ []) k)

-- the file's name for which each word of a conversation stands, by what it starts from
abbrev pub cart_name : Start → Option (List ℕ)
cart_name Blank = None
cart_name (Cart cart) = Some cart.now
cart_name (Movie files) = Some files.cart.now

abbrev pub movie_name : Start → Option (List ℕ)
movie_name Blank = None
movie_name (Cart cart) = None
movie_name (Movie files) = Some files.movie.now

abbrev pub talk_name : TalkWords → FileWord → Option (List ℕ)
talk_name talk CartWord = cart_name talk.start
talk_name talk MovieWord = movie_name talk.start
talk_name talk JournalWord = option_map (λ name. name.now) talk.journal
talk_name talk Input = Some (codes "/dev/stdin")
talk_name talk Output = Some (codes "/dev/stdout")
talk_name talk word = None

-- the same of a desk, which doesn't read standard input
abbrev pub desk_name : DeskWords → FileWord → Option (List ℕ)
desk_name desk CartWord = Some desk.cart.now
desk_name desk MovieWord = Some desk.movie.now
desk_name desk (In k) = option_map (λ pair. pair.input.now) (pair_at desk.pairs k)
desk_name desk (Out k) = option_map (λ pair. pair.output.now) (pair_at desk.pairs k)
desk_name desk JournalWord = option_map (λ name. name.now) desk.journal
desk_name desk Output = Some (codes "/dev/stdout")
desk_name desk word = None

-- the same of a recovery whose cartridge replaces a file of this name, beside its output
abbrev pub kept_name : RecoveryWords → List ℕ → FileWord → Option (List ℕ)
kept_name recovery image CartWord = Some recovery.cart.now
kept_name recovery image Input = Some (codes "/dev/stdin")
kept_name recovery image Output = Some (codes "/dev/stdout")
kept_name recovery image ImageWord = Some image
kept_name recovery image word = None

-- one that has no such file reads its inputs whole before it writes, so its files aren't looked at
abbrev pub recovery_name : RecoveryWords → Option (Bor (List ℕ)) → FileWord → Option (List ℕ)
recovery_name recovery None word = None
recovery_name recovery (Some image) word = kept_name recovery image.now word

-- the same of each task; other tasks read their inputs whole before they write, too
abbrev pub name_of : Task → FileWord → Option (List ℕ)
name_of (Recover words) word = recovery_name words words.image word
name_of (Talk talk) word = talk_name talk word
name_of (Desk desk) word = desk_name desk word
name_of chosen word = None

-- an ordinary file, or none, is what is known to be there, where something is known
abbrev pub IsShown : Option (Option OrdinaryFile) → Option OrdinaryFile → Type 0
IsShown None file = Unit {0}
IsShown (Some there) file = file ≡ there

-- the same by a name, where there is one
abbrev pub IsSeen : (List ℕ → Option (Option OrdinaryFile)) → Option (List ℕ) → Option OrdinaryFile → Type 0
IsSeen shown None file = file ≡ None
IsSeen shown (Some name) file = IsShown (shown name) file

-- each word of a task is seen as the folder shows its file
abbrev pub AreSeen : (List ℕ → Option (Option OrdinaryFile)) → Task → List SeenWord → Type 0
AreSeen shown chosen seen =
    (map (λ s. s.word) seen ≡ words) × All (λ s. IsSeen shown (name_of chosen s.word) s.file) seen

-- two words stand for one ordinary file
abbrev pub same_file : Option OrdinaryFile → Option OrdinaryFile → Bool
same_file None other = false
same_file (Some one) None = false
same_file (Some one) (Some other) = nat_eq one.device other.device && nat_eq one.number other.number

abbrev pub are_same : SeenWord → SeenWord → Bool
are_same one other = same_file one.file other.file

-- the first of these words that stands for the same file as another one
abbrev pub first_same : List SeenWord → SeenWord → Option FileWord
first_same [] word = None
first_same (other ∷ others) word = if are_same other word then Some other.word else first_same others word

-- a word is the output of a pair
abbrev pub is_pair_output : FileWord → Bool
is_pair_output (Out k) = true
is_pair_output word = false

-- a word is an OUT whose ordinary file has bytes
abbrev pub holds_bytes : FileWord → Option OrdinaryFile → Bool
holds_bytes word None = false
holds_bytes word (Some file) = is_pair_output word && nat_lt 0 file.len

abbrev pub has_bytes : SeenWord → Bool
has_bytes word = holds_bytes word.word word.file

-- a word's fault after those before it: it is their first one's file that it stands for, else that it isn't empty
abbrev pub fault_by : FileWord → Option FileWord → Bool → Option WordFault
fault_by word (Some other) full = Some (SameFile word other)
fault_by word None true = Some (NotEmpty word)
fault_by word None false = None

-- this fault, or else the other one
abbrev pub fault_or : Option WordFault → Option WordFault → Option WordFault
fault_or (Some fault) later = Some fault
fault_or None later = later

-- a journal goes to a new file, so its word is at fault where an ordinary file is there
abbrev pub there_fault : FileWord → Option OrdinaryFile → Option WordFault
there_fault JournalWord (Some file) = Some (Exists JournalWord)
there_fault word file = None

abbrev pub word_fault : List SeenWord → SeenWord → Option WordFault
word_fault others word = fault_or (fault_by word.word (first_same others word) (has_bytes word)) (there_fault word.word word.file)

-- the fault of the first word at fault, after some that aren't
abbrev pub fault_from : (others seen : List SeenWord) → Option WordFault
fault_from others [] = None
fault_from others (word ∷ later) = fault_or (word_fault others word) (fault_from (others ++ word ∷ []) later)

-- the fault of the first word at fault
abbrev pub first_fault : List SeenWord → Option WordFault
first_fault seen = fault_from [] seen

-- ---- the journal of a desk

-- the words of its pairs
abbrev pub pair_words : List FileWord
pair_words = In 0 ∷ Out 0 ∷ In 1 ∷ Out 1 ∷ In 2 ∷ Out 2 ∷ In 3 ∷ Out 3 ∷ In 4 ∷ Out 4 ∷ In 5 ∷ Out 5 ∷ In 6 ∷ Out 6 ∷ In 7 ∷ Out 7 ∷ []

-- a word stands for a file of this name
abbrev pub has_text : Option (List ℕ) → List ℕ → Bool
has_text None name = false
has_text (Some said) name = bytes_eq said name

-- the first of these words of a desk that does
abbrev pub first_named : DeskWords → List ℕ → List FileWord → Option FileWord
first_named desk name [] = None
first_named desk name (word ∷ others) = if has_text (desk_name desk word) name then Some word else first_named desk name others

-- the journal takes a seat, so that an eighth pair has none
abbrev pub seat_fault : Option Pair → Option WordFault
seat_fault None = None
seat_fault (Some pair) = Some NoSeat

-- what is wrong with the words of a desk whose journal has this name: there is an eighth pair; or a pair's file has this name, too. Neither file need be
-- there yet, so that names are compared
abbrev pub journal_fault : DeskWords → List ℕ → Option WordFault
journal_fault desk name = fault_or (seat_fault desk.pairs.eighth) (option_map (λ word. SameFile JournalWord word) (first_named desk name pair_words))

-- ---- the first fault

-- a permit is given where no word is at fault; else the first fault is returned
abbrev pub fault_in : Result Permit WordFault → Option WordFault
fault_in (Ok permit) = None
fault_in (Err fault) = Some fault

abbrev pub WordsEnd : (List ℕ → Option (Option OrdinaryFile)) → Task → Result Permit WordFault → Type 0
WordsEnd shown chosen end = (seen : List SeenWord) × AreSeen shown chosen seen × (first_fault seen ≡ fault_in end)
