-- What a word of a goal's text is, with the names of a names file.
use Rattle.std.specs.Prelude.{◌≡◌, ℕ, ◌==◌, nat_lt, ◌&&◌, if◌then◌else◌, List, [], ◌∷◌, length, take, drop, map, codes, decimal, Option, Some, None}
use Rattle.std.specs.Option.{option_or}
use Rattle.std.specs.Str.{bytes_eq}
use Rattle.std.specs.Str.Parse.{digits_value}
use Rattle.tas_engines.specs.Names.{Names, address_of, named}
use Rattle.tas_search.specs.declared.expression.Operator.TheVariants.{Or, And, Equal, Unequal, Less, AtMost, Greater, AtLeast, Plus, Minus, Times}
use Rattle.tas_search.specs.declared.word.Word.{Word}
use Rattle.tas_search.specs.declared.word.Word.TheVariants as word

-- the words that are always the same
abbrev pub operator_words : List (List ℕ × Word)
operator_words =
    (codes "or", word.Operator Or) ∷ (codes "and", word.Operator And) ∷ (codes "==", word.Operator Equal) ∷ (codes "!=", word.Operator Unequal) ∷ (codes "<", word.Operator Less) ∷ (codes "<=", word.Operator AtMost)
    ∷ (codes ">", word.Operator Greater) ∷ (codes ">=", word.Operator AtLeast) ∷ (codes "+", word.Operator Plus) ∷ (codes "-", word.Operator Minus) ∷ (codes "*", word.Operator Times) ∷ []

abbrev pub sign_words : List (List ℕ × Word)
sign_words = (codes "(", word.Open) ∷ (codes ")", word.Close) ∷ (codes "not", word.Not) ∷ []

-- the word of a table's row
abbrev pub row_of : List (List ℕ × Word) → List ℕ → Option Word
row_of [] w = None
row_of (row ∷ rows) w = if bytes_eq w row.0 then Some row.1 else row_of rows w

-- a number in decimal digits, without leading zeros, below 2 to the power of 32
abbrev pub number_of : List ℕ → Option ℕ
number_of w = if bytes_eq w (decimal (digits_value 10 w)) && nat_lt (digits_value 10 w) 4294967296 then Some (digits_value 10 w) else None

-- the address that is written, or that has a name
abbrev pub place_of : Names → List ℕ → Option ℕ
place_of names w = option_or (address_of w) (named names w)

-- the same where a word begins so and goes on with it
abbrev pub placed : Names → List ℕ → List ℕ → Option ℕ
placed names begin w = if bytes_eq (take (length begin) w) begin then place_of names (drop (length begin) w) else None

-- a word of a number, where there is one, or else another one
abbrev pub or_else : Option ℕ → (ℕ → Word) → Word → Word
or_else (Some n) make last = make n
or_else None make last = last

abbrev pub or_word : Option Word → Word → Word
or_word (Some w) last = w
or_word None last = last

-- the word of an expression that these bytes are
abbrev pub word_of : Names → List ℕ → Word
word_of names w =
    or_word (row_of sign_words w)
    (or_word (row_of operator_words w)
    (or_else (number_of w) word.Number
    (or_else (placed names (codes "byte:") w) word.Byte
    (or_else (placed names (codes "bcd:") w) word.Bcd
    (or_else (placed names (codes "pair:") w) word.Pair
    (or_else (named names w) word.Byte word.Other))))))

-- with all of the names each of some is the word of its byte
abbrev pub AllMean : Names → Names → Type 0
AllMean names [] = Unit {0}
AllMean names (n ∷ more) = (word_of names n.0 ≡ word.Byte n.1) × AllMean names more

-- the parts of a text: one more than it has spaces
abbrev pub push_byte : ℕ → List (List ℕ) → List (List ℕ)
push_byte b [] = (b ∷ []) ∷ []
push_byte b (part ∷ rest) = (b ∷ part) ∷ rest

abbrev pub parts : List ℕ → List (List ℕ)
parts [] = [] ∷ []
parts (b ∷ bytes) = if b == 32 then [] ∷ parts bytes else push_byte b (parts bytes)

-- the words of a text
abbrev pub words_in : Names → List ℕ → List Word
words_in names text = map (word_of names) (parts text)
