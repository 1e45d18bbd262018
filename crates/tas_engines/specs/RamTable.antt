-- What `tas ram --names` answers.
use Rattle.std.specs.Prelude.{◌≡◌, ℕ, List, ◌∷◌, ◌++◌, codes, ◌⊎◌, Some, Result, Ok, Err}
use Rattle.std.specs.List.{flat_map}
use Rattle.tas_movie.specs.Content.{MovieContent}
use Rattle.tas_engines.specs.declared.fault.RunFault.{RunFault}
use Rattle.tas_engines.specs.declared.fault.RunFault.TheVariants.{Names as WrongNames}
use Rattle.tas_engines.specs.Movies.{IsMovieOf, IsMovieFault}
use Rattle.tas_engines.specs.Names.{Names}
use Rattle.tas_engines.specs.NamesFile.{AreNames, IsNamesFault}
use Rattle.tas_engines.specs.Ram.{ram_lines, IsRamRange, IsRamFault}

-- the head line of a table: what its first column is, and the names, with a comma before each
abbrev pub table_head : Names → List ℕ
table_head names = codes "frames played" ++ flat_map (λ n. 44 ∷ n.0) names ++ codes "\n"

-- the table: its head and a line for each number of frames
abbrev pub ram_table : Names → MovieContent → ℕ → ℕ → List ℕ
ram_table names movie from to = table_head names ++ ram_lines (Some names) movie from to

-- why the movie has no table by the text of its names: the names' fault comes first
abbrev pub IsTableFault : ℕ → ℕ → List ℕ → MovieContent → RunFault → Type 0
IsTableFault from to text movie (WrongNames line kind) = IsNamesFault text line kind
IsTableFault from to text movie e = (names : Names) × AreNames text names × IsRamFault from to movie e

-- the table of a cartridge, the text of names and a movie's text, or why there is none
abbrev pub IsTableAnswer : ℕ → ℕ → List ℕ → List ℕ → List ℕ → Result (List ℕ) RunFault → Type 0
IsTableAnswer from to image text bytes (Ok table) =
    (movie : MovieContent) × (names : Names) × IsMovieOf image bytes movie × AreNames text names × IsRamRange movie from to × (table ≡ ram_table names movie from to)
IsTableAnswer from to image text bytes (Err e) = IsMovieFault image bytes e ⊎ ((movie : MovieContent) × IsMovieOf image bytes movie × IsTableFault from to text movie e)
