-- Manifests: a line for each movie.
use Rattle.std.specs.Prelude.{◌≡◌, ℕ, ◌+◌, ◌<◌, ◌==◌, not, if◌then◌else◌, List, [], ◌∷◌, ◌++◌, length, ◌⊎◌, Option, Some, None}
use Rattle.std.specs.List.{filter_map, flat_map, list_all}
use Rattle.byte_text.specs.Splitting.{NoByte}
use Rattle.tas_movie.specs.Text.{line}
use Rattle.tas_engines.specs.Remarks.{words_of}
use Rattle.tas_verify.specs.declared.manifest.Row.{Row}
use Rattle.tas_verify.specs.declared.manifest.ManifestError.{ManifestError}
use Rattle.tas_verify.specs.declared.manifest.ManifestError.TheVariants.{Memory, Line}

-- the three words of a movie's line
pub record RowWords : Type 0 where
  pub movie : List ℕ
  pub cart : List ℕ
  pub digest : List ℕ

abbrev pub words_in : Row → RowWords
words_in row = record { movie = row.movie.now; cart = row.cart.now; digest = row.digest.now }

-- what is between the words: a tab where there is one, so that words may have spaces, and else a space
abbrev pub mark_of : List ℕ → ℕ
mark_of bytes = if list_all (λ b. not (b == 9)) bytes then 32 else 9

-- three words and two marks, one after the other: no word is empty, and none has a mark
pub record IsSplit (mark : ℕ) (bytes : List ℕ) (row : RowWords) : Type 0 where
  pub is : bytes ≡ row.movie ++ mark ∷ (row.cart ++ mark ∷ row.digest)
  pub movie : NoByte mark row.movie
  pub cart : NoByte mark row.cart
  pub digest : NoByte mark row.digest
  pub some_movie : 0 < length row.movie
  pub some_cart : 0 < length row.cart
  pub some_digest : 0 < length row.digest

-- what a line, without its newline, says: nothing where there is nothing beside its remark, else the three words
abbrev pub Means : List ℕ → Option RowWords → Type 0
Means said None = words_of said ≡ []
Means said (Some row) = (0 < length (words_of said)) × IsSplit (mark_of (words_of said)) (words_of said) row

-- a line of a manifest, without its newline, and what it says
pub record Said : Type 0 where
  pub text : List ℕ
  pub row : Option RowWords

-- the line with its newline
abbrev pub said_line : Said → List ℕ
said_line said = line said.text

-- each is one line, and says that
unfoldable pub AreMeant : List Said → Type 0
AreMeant [] = Unit {0}
AreMeant (said ∷ lines) = NoByte 10 said.text × Means said.text said.row × AreMeant lines

-- the bytes are lines of a manifest, which name these movies, and the rest
pub record Reads (bytes : List ℕ) (rows : List RowWords) (lines : List Said) (rest : List ℕ) : Type 0 where
  pub text : bytes ≡ flat_map said_line lines ++ rest
  pub meant : AreMeant lines
  pub named : rows ≡ filter_map (λ said. said.row) lines

-- the bytes are a manifest of these movies, in order
abbrev pub IsManifest : List ℕ → List RowWords → Type 0
IsManifest bytes rows = (lines : List Said) × Reads bytes rows lines []

-- the first line of what is left is none of a manifest: no newline ends it, or it says nothing that a line can say
abbrev pub IsUnclear : List ℕ → Type 0
IsUnclear rest = NoByte 10 rest ⊎ ((first after : List ℕ) × (rest ≡ first ++ 10 ∷ after) × NoByte 10 first × ((row : Option RowWords) → Means first row → ⊥))

-- why the bytes are no manifest: the line with this number is at fault, and those before it aren't
abbrev pub IsManifestError : List ℕ → ManifestError → Type 0
IsManifestError bytes Memory = Unit {0}
IsManifestError bytes (Line number) =
    (rows : List RowWords) × (lines : List Said) × (rest : List ℕ) × Reads bytes rows lines rest × (number ≡ length lines + 1) × (0 < length rest) × IsUnclear rest
