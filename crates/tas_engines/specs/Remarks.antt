-- Remarks in scripts of `tas edit`.
use Rattle.std.specs.Prelude.{ℕ, ◌==◌, List, [], ◌∷◌, Option, Some, None, option_map, if◌then◌else◌}

-- the bytes before the first '#'; nothing where there is none
abbrev pub before_mark : List ℕ → Option (List ℕ)
before_mark [] = None
before_mark (b ∷ bytes) = if b == 35 then Some [] else option_map (λ front. b ∷ front) (before_mark bytes)

-- a byte before others that don't end in a space
abbrev pub put_before : ℕ → List ℕ → List ℕ
put_before b [] = if b == 32 then [] else b ∷ []
put_before b (c ∷ bytes) = b ∷ c ∷ bytes

-- bytes without the spaces at their end
abbrev pub trimmed : List ℕ → List ℕ
trimmed [] = []
trimmed (b ∷ bytes) = put_before b (trimmed bytes)

abbrev pub words_by : List ℕ → Option (List ℕ) → List ℕ
words_by line None = line
words_by line (Some front) = trimmed front

-- the words of a line: it without its remark, which is the first '#' and all after it, and without the spaces before that
abbrev pub words_of : List ℕ → List ℕ
words_of line = words_by line (before_mark line)
