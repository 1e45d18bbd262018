-- A verification: where the files of its movies come from, and how it ends.
use Rattle.std.specs.Prelude.{◌≡◌, ℕ, ◌==◌, if◌then◌else◌, List, [], ◌∷◌, ◌++◌, All, ◌⊎◌, Option, Some, None, IsSome, Result, Ok, Err, option_and_then}
use Rattle.std.specs.Borrow.{Bor}
use Rattle.byte_text.specs.Splitting.{NoByte}
use Rattle.tas_verify.specs.declared.carts.Cart.{Cart}
use Rattle.tas_verify.specs.declared.fault.VerifyFault.{VerifyFault}
use Rattle.tas_verify.specs.declared.fault.VerifyFault.TheVariants.{Memory}
use Rattle.tas_verify.specs.declared.lines.Tally.{Tally}
use Rattle.tas_verify.specs.Carts.{name_of}
use Rattle.tas_verify.specs.Rows.{ShelfFacts}
use Rattle.tas_verify.specs.Verifying.{IsVerifyRun}
use Rattle.tas_words.specs.declared.task.VerifyWords.{VerifyWords}
use Rattle.tas_program.specs.declared.status.TaskFault.{TaskFault}
use Rattle.tas_program.specs.declared.status.TaskFault.TheVariants.{NoCarts, NotAll, Verify as NotVerified}
use Rattle.tas_program.specs.Streams.{StreamBytes}

-- what is known of a folder whose files have these bytes, by their names, where some are cartridges with a SHA-256: there is one where one of them
-- has it, and it is the first
abbrev pub shelf_by : (read : List ℕ → Option (List ℕ)) → List Cart → ShelfFacts
shelf_by read carts = record {
  held = read;
  lacks = λ name. Unit {0};
  found = λ digits. option_and_then read (name_of carts digits);
  finds = λ digits. IsSome (name_of carts digits);
  misses = λ digits. Unit {0};
}

-- the name of a file right in a directory: the directory's, a slash, and a name without one
abbrev pub IsIn : (dir name : List ℕ) → Type 0
IsIn dir name = (file : List ℕ) × NoByte 47 file × (name ≡ dir ++ 47 ∷ file)

-- all are files right in a directory
abbrev pub AreIn : List ℕ → List Cart → Type 0
AreIn dir carts = All (λ cart. IsIn dir cart.name.now) carts

-- the cartridge of a file of this name is added, or nothing
abbrev pub IsMore : (name : List ℕ) → (old new : List Cart) → Type 0
IsMore name old new = (new ≡ old) ⊎ ((cart : Cart) × (cart.name.now ≡ name) × (new ≡ old ++ cart ∷ []))

-- the cartridges of a directory aren't known: it can't be listed, or memory was refused
abbrev pub IsUnlisted : TaskFault → Type 0
IsUnlisted fault = (fault ≡ NoCarts) ⊎ (fault ≡ NotVerified Memory)

-- the end of a verification: it is done where all movies are the same
abbrev pub verified_end : Result Tally VerifyFault → Result (Unit {0}) TaskFault
verified_end (Ok tally) = if tally.same == tally.movies then Ok tt else Err NotAll
verified_end (Err fault) = Err (NotVerified fault)

-- it runs over these files, the manifest on the input and the output
abbrev pub VerifiesBy : ShelfFacts → StreamBytes → StreamBytes → Result (Unit {0}) TaskFault → Type 0
VerifiesBy facts old new end =
    (done : Result Tally VerifyFault) × (end ≡ verified_end done) × IsVerifyRun facts old.input new.input old.output new.output done

-- it ends where cartridges are found in a directory: their names aren't known, and no stream is read or written; or it runs with some files of it
abbrev pub VerifiesIn : (read : List ℕ → Option (List ℕ)) → (dir : List ℕ) → StreamBytes → StreamBytes → Result (Unit {0}) TaskFault → Type 0
VerifiesIn read dir old new end =
    ((fault : TaskFault) × (end ≡ Err fault) × IsUnlisted fault × (new ≡ old)) ⊎ ((carts : List Cart) × AreIn dir carts × VerifiesBy (shelf_by read carts) old new end)

-- the same by the words, which may name no directory
abbrev pub VerifiesWith : (read : List ℕ → Option (List ℕ)) → Option (Bor (List ℕ)) → StreamBytes → StreamBytes → Result (Unit {0}) TaskFault → Type 0
VerifiesWith read None old new end = VerifiesBy (shelf_by read []) old new end
VerifiesWith read (Some dir) old new end = VerifiesIn read dir.now old new end

abbrev pub VerifyEnds : (read : List ℕ → Option (List ℕ)) → VerifyWords → StreamBytes → StreamBytes → Result (Unit {0}) TaskFault → Type 0
VerifyEnds read words old new end = VerifiesWith read words.carts old new end
