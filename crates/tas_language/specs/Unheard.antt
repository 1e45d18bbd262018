-- Why a line of a conversation isn't understood.
use Rattle.std.specs.Prelude.{ℕ, ◌-◌, ◌==◌, nat_lt, List, [], ◌∷◌, length, slice_get, Bool, false, if◌then◌else◌, Option, Some, None, codes}
use Rattle.std.specs.List.{list_any}
use Rattle.std.specs.Str.{bytes_eq}
use Rattle.tas_language.specs.Requests.{most_bytes}
use Rattle.tas_language.specs.declared.unheard.Unheard.{Unheard}
use Rattle.tas_language.specs.declared.unheard.Unheard.TheVariants.{Long, Return, Word, Rest, End}

-- the bytes before the first space, or all of them
unfoldable pub first_word : List ℕ → List ℕ
first_word [] = []
first_word (byte ∷ bytes) = if byte == 32 then [] else byte ∷ first_word bytes

-- the words with which lines begin
abbrev pub line_words : List (List ℕ)
line_words =
    codes "load" ∷
    codes "load2" ∷
    codes "insert" ∷
    codes "replace" ∷
    codes "delete" ∷
    codes "len" ∷
    codes "input" ∷
    codes "shot" ∷
    codes "work" ∷
    codes "press" ∷
    codes "release" ∷
    codes "repeat" ∷
    codes "copy" ∷
    codes "picture" ∷
    codes "pictures" ∷
    codes "ram" ∷
    codes "digest" ∷
    codes "lag" ∷
    codes "inputs" ∷
    codes "movie" ∷
    codes "states" ∷
    codes "share" ∷
    codes "history" ∷
    codes "version" ∷
    codes "begin" ∷
    codes "commit" ∷
    codes "drop" ∷
    codes "quit" ∷
    []

abbrev pub is_line_word : List ℕ → Bool
is_line_word word = list_any (λ known. bytes_eq known word) line_words

-- the last byte is a carriage return
abbrev pub is_return : Option ℕ → Bool
is_return None = false
is_return (Some byte) = byte == 13

abbrev pub ends_in_return : List ℕ → Bool
ends_in_return said = is_return (slice_get said (length said - 1))

-- why a line that ends with a newline, and isn't too long, isn't understood, where it isn't: a carriage return is before the newline; what follows a line's
-- first word isn't as that line has it; or it has no line's first word
abbrev pub why_short_unheard : List ℕ → Unheard
why_short_unheard said =
    if ends_in_return said then Return
    else if is_line_word (first_word said) then Rest
    else Word

-- the same of one of any length
abbrev pub why_unheard : List ℕ → Unheard
why_unheard said = if nat_lt most_bytes (length said) then Long else why_short_unheard said

-- the answer to a line that isn't understood
abbrev pub unknown_text : Unheard → List ℕ
unknown_text Long = codes "unknown long\n"
unknown_text Return = codes "unknown return\n"
unknown_text Word = codes "unknown word\n"
unknown_text Rest = codes "unknown rest\n"
unknown_text End = codes "unknown end\n"
