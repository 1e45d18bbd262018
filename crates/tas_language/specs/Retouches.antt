-- The lines of changes that depend on the movie's frames, and those of `tas edit`.
use Rattle.std.specs.Prelude.{◌≡◌, ℕ, List, ◌++◌, codes}
use Rattle.tas_language.specs.declared.retouch.Retouch.{Retouch}
use Rattle.tas_language.specs.declared.retouch.Retouch.TheVariants.{Press, Release, Repeat, Copy}
use Rattle.tas_language.specs.declared.edit_line.EditLine.{EditLine}
use Rattle.tas_language.specs.declared.edit_line.EditLine.TheVariants as line
use Rattle.tas_language.specs.Commands.{IsNumber, HasNumbers, change_text, frames_text, triple_text}

-- the line of a retouch, without its newline
abbrev pub retouch_text : Retouch → List ℕ
retouch_text (Press at count input) = codes "press " ++ frames_text at count input
retouch_text (Release at count input) = codes "release " ++ frames_text at count input
retouch_text (Repeat at count times) = codes "repeat " ++ triple_text at count times
retouch_text (Copy from count at) = codes "copy " ++ triple_text from count at

-- its numbers have one to seven digits
abbrev pub HasRetouchNumbers : Retouch → Type 0
HasRetouchNumbers (Press at count input) = IsNumber at × IsNumber count
HasRetouchNumbers (Release at count input) = IsNumber at × IsNumber count
HasRetouchNumbers (Repeat at count times) = IsNumber at × IsNumber count × IsNumber times
HasRetouchNumbers (Copy from count at) = IsNumber from × IsNumber count × IsNumber at

-- the line says this retouch
abbrev pub IsRetouchLine : List ℕ → Retouch → Type 0
IsRetouchLine said retouch = (said ≡ retouch_text retouch) × HasRetouchNumbers retouch

-- the line of `tas edit` that says this, without its newline
abbrev pub edit_text : EditLine → List ℕ
edit_text (line.Change change) = change_text change
edit_text (line.Retouch retouch) = retouch_text retouch
edit_text (line.CopyOther from count at) = codes "copy other " ++ triple_text from count at

-- its numbers have one to seven digits
abbrev pub HasEditNumbers : EditLine → Type 0
HasEditNumbers (line.Change change) = HasNumbers change
HasEditNumbers (line.Retouch retouch) = HasRetouchNumbers retouch
HasEditNumbers (line.CopyOther from count at) = IsNumber from × IsNumber count × IsNumber at

-- the line of `tas edit` says this
abbrev pub IsEditLine : List ℕ → EditLine → Type 0
IsEditLine said asked = (said ≡ edit_text asked) × HasEditNumbers asked
