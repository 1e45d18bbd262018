-- Tables of RAM, and how they end.
use Rattle.std.proofs.Common.{◌≡◌, ℕ, ◌+◌, ◌-◌, ◌≤◌, List, ◌++◌, length, Option, Some, Ok, Err, inl, inr, refl, ap, subst, arith}
use Rattle.std.specs.Io.KnownBytes.{Appends}
use Rattle.std.proofs.KnownBytes.{Appends-trans}
use Rattle.byte_text.specs.CutOff.{IsCutOff}
use Rattle.tas_movie.specs.Content.{MovieContent}
use Rattle.tas_engines.specs.declared.fault.RunFault.{RunFault}
use Rattle.tas_engines.specs.declared.fault.RunFault.TheVariants.{Write, Names as WrongNames}
use Rattle.tas_engines.specs.declared.names.NamesError.{NamesError}
use Rattle.tas_engines.specs.declared.names.NamesError.TheVariants as error
use Rattle.tas_engines.specs.Faults.{names_fault}
use Rattle.tas_engines.specs.Movies.{IsMovieOf}
use Rattle.tas_engines.specs.Names.{Names}
use Rattle.tas_engines.specs.NamesFile.{AreNames, IsNamesError}
use Rattle.tas_engines.specs.Output.{Ends}
use Rattle.tas_engines.specs.Ram.{ram_lines, IsRamRange, IsRamFault}
use Rattle.tas_engines.specs.RamTable.{table_head, IsTableFault, IsTableAnswer}
use Rattle.tas_engines.proofs.RamLemmas.{cut_after, cut_head}

-- the names are at fault
pub names_stop : (from to : ℕ) (image text bytes : List ℕ) (movie : MovieContent) (why : NamesError) → IsMovieOf image bytes movie → IsNamesError text why → IsTableAnswer from to image text bytes (Err (names_fault why))
names_stop from to image text bytes movie error.Memory is h = inl is.size
names_stop from to image text bytes movie (error.Line line kind) is h = inr (movie, is, h)

-- the range is at fault
range_fault : (from to : ℕ) (text : List ℕ) (movie : MovieContent) (names : Names) (why : RunFault) → AreNames text names → IsRamFault from to movie why → IsTableFault from to text movie why
range_fault from to text movie names (WrongNames line kind) are h = absurd h
range_fault from to text movie names why are h = (names, are, h)

pub range_stop : (from to : ℕ) (image text bytes : List ℕ) (movie : MovieContent) (names : Names) (why : RunFault) → IsMovieOf image bytes movie → AreNames text names → IsRamFault from to movie why → IsTableAnswer from to image text bytes (Err why)
range_stop from to image text bytes movie names why is are h = inr (movie, is, range_fault from to text movie names why are h)

-- what a table is written of
pub record IsTable (from to : ℕ) (image text bytes head : List ℕ) (movie : MovieContent) (names : Names) : Type 0 where
  pub movie_is : IsMovieOf image bytes movie
  pub names_are : AreNames text names
  pub range : IsRamRange movie from to
  pub head_is : head ≡ table_head names

pub table_is : (from to : ℕ) (image text bytes head : List ℕ) (movie : MovieContent) (names : Names) → IsTable from to image text bytes head movie names → IsTableAnswer from to image text bytes (Ok (head ++ ram_lines (Some names) movie from to))
table_is from to image text bytes head movie names t = (movie, names, t.movie_is, t.names_are, t.range, ap (λ (bs : List ℕ). bs ++ ram_lines (Some names) movie from to) t.head_is)

-- its head isn't written whole
pub head_ends : (from to : ℕ) (image text bytes head : List ℕ) (movie : MovieContent) (names : Names) (old new : Option (List ℕ)) (written : ℕ) → IsTable from to image text bytes head movie names → IsCutOff old new head (written - 0)
    → Ends (IsTableAnswer from to image text bytes) old new (Err (Write written))
head_ends from to image text bytes head movie names old new written t cut =
    let all : written - 0 ≡ written = omega arith in
    inr (record {
      bytes = head ++ ram_lines (Some names) movie from to;
      answer = table_is from to image text bytes head movie names t;
      stops = record { written = written; is_write = refl; cut = cut_head old new head (ram_lines (Some names) movie from to) written (subst (λ (n : ℕ). IsCutOff old new head n) all cut) };
    })

-- its lines aren't
pub lines_end : (from to : ℕ) (image text bytes head : List ℕ) (movie : MovieContent) (names : Names) (old mid new : Option (List ℕ)) (before written : ℕ) → IsTable from to image text bytes head movie names → before ≡ 0 + length head → before ≤ written
    → Appends old mid head → IsCutOff mid new (ram_lines (Some names) movie from to) (written - before) → Ends (IsTableAnswer from to image text bytes) old new (Err (Write written))
lines_end from to image text bytes head movie names old mid new before written t count from' sent cut =
    inr (record {
      bytes = head ++ ram_lines (Some names) movie from to;
      answer = table_is from to image text bytes head movie names t;
      stops = record { written = written; is_write = refl; cut = cut_after old mid new head (ram_lines (Some names) movie from to) before written (omega arith) from' sent cut };
    })

-- all of it is written
pub table_ends : (from to : ℕ) (image text bytes head : List ℕ) (movie : MovieContent) (names : Names) (old mid new : Option (List ℕ)) → IsTable from to image text bytes head movie names → Appends old mid head → Appends mid new (ram_lines (Some names) movie from to)
    → Ends (IsTableAnswer from to image text bytes) old new (Ok tt)
table_ends from to image text bytes head movie names old mid new t sent rest =
    (head ++ ram_lines (Some names) movie from to, table_is from to image text bytes head movie names t, Appends-trans old mid new head (ram_lines (Some names) movie from to) sent rest)
