-- The lines of a conversation.
use Rattle.std.specs.Prelude.{◌≡◌, ℕ, ◌+◌, ◌<◌, ◌≤◌, List, ◌++◌, length, codes, decimal, Option, Some, None}
use Rattle.tas_language.specs.Commands.{Says, IsNumber, pair_text}
use Rattle.tas_language.specs.declared.request.Request.{Request}
use Rattle.tas_language.specs.declared.request.Request.TheVariants.{Do, Picture, Pictures, Ram, Digest, Lag, Inputs, Movie, States, Share, History, Version, Begin, Commit, Drop, Quit}
use Rattle.tas_language.specs.declared.request.Request.TheVariants as request
use Rattle.tas_language.specs.Retouches.{IsRetouchLine}

-- how many pictures, or inputs, one line asks for at most
abbrev pub most_pictures : ℕ
most_pictures = 1024

-- frames of a strip: one at least, and not too many
abbrev pub IsStrip : ℕ → ℕ → Type 0
IsStrip from to = (from < to) × (to ≤ from + most_pictures)

-- the line, without its newline, is this request: a script's command, or one that a script doesn't have
abbrev pub Asks : List ℕ → Request → Type 0
Asks said (Do command) = Says said command
Asks said (request.Retouch retouch) = IsRetouchLine said retouch
Asks said (Picture frame) = (said ≡ codes "picture " ++ decimal frame) × IsNumber frame
Asks said (Pictures from to) = (said ≡ codes "pictures " ++ pair_text from to) × IsNumber from × IsNumber to × IsStrip from to
Asks said (Ram frames) = (said ≡ codes "ram " ++ decimal frames) × IsNumber frames
Asks said (Digest frame) = (said ≡ codes "digest " ++ decimal frame) × IsNumber frame
Asks said (Lag from to) = (said ≡ codes "lag " ++ pair_text from to) × IsNumber from × IsNumber to
Asks said (Inputs from to) = (said ≡ codes "inputs " ++ pair_text from to) × IsNumber from × IsNumber to × IsStrip from to
Asks said Movie = said ≡ codes "movie"
Asks said States = said ≡ codes "states"
Asks said Share = said ≡ codes "share"
Asks said (History from) = (said ≡ codes "history " ++ decimal from) × IsNumber from
Asks said Version = said ≡ codes "version"
Asks said Begin = said ≡ codes "begin"
Asks said Commit = said ≡ codes "commit"
Asks said Drop = said ≡ codes "drop"
Asks said Quit = said ≡ codes "quit"

-- a line of one word that a script doesn't have. Private functions cite it
abbrev pub IsOneWord : Request → Type 0
IsOneWord Movie = Unit {0}
IsOneWord States = Unit {0}
IsOneWord Share = Unit {0}
IsOneWord Version = Unit {0}
IsOneWord Begin = Unit {0}
IsOneWord Commit = Unit {0}
IsOneWord Drop = Unit {0}
IsOneWord Quit = Unit {0}
IsOneWord (Do command) = ⊥
IsOneWord (request.Retouch retouch) = ⊥
IsOneWord (Picture frame) = ⊥
IsOneWord (Pictures from to) = ⊥
IsOneWord (Ram frames) = ⊥
IsOneWord (Digest frame) = ⊥
IsOneWord (Lag from to) = ⊥
IsOneWord (History from) = ⊥
IsOneWord (Inputs from to) = ⊥

-- how many bytes a line has at most that is understood, without its newline
abbrev pub most_bytes : ℕ
most_bytes = 16384

-- a line is understood as the request that it is, where it isn't too long; else as none
abbrev pub IsHeard : List ℕ → Option Request → Type 0
IsHeard said (Some request) = (length said ≤ most_bytes) × Asks said request
IsHeard said None = (request : Request) → length said ≤ most_bytes → Asks said request → ⊥
