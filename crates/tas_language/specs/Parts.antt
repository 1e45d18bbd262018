-- What a `load` or `load2` line says: parts of a cartridge's image, each an offset and the bytes from there on.
use Rattle.std.specs.Prelude.{◌≡◌, ℕ, ◌+◌, ◌/◌, ◌%◌, ◌<◌, ◌≤◌, List, [], ◌∷◌, ◌++◌, length, take, drop, replicate, slice_index}
use Rattle.std.specs.List.{flat_map}
use Rattle.byte_text.specs.Digits.{digit_of, hex_byte}

-- each byte as two upper case hexadecimal digits, the high four bits first
unfoldable pub hex_text : List ℕ → List ℕ
hex_text [] = []
hex_text (byte ∷ bytes) = hex_byte byte ++ hex_text bytes

-- an offset as three upper case hexadecimal digits
abbrev pub offset_text : ℕ → List ℕ
offset_text offset = digit_of (offset / 256) ∷ digit_of (offset % 256 / 16) ∷ digit_of (offset % 16) ∷ []

-- some bytes of the image, and the offset of the first of them
pub record Part : Type 0 where
  pub offset : ℕ
  pub bytes : List ℕ

-- numbers below 256
abbrev pub IsBytes : List ℕ → Type 0
IsBytes bytes = (k : ℕ) → slice_index bytes k < 256

-- at least one byte, and none past the end of an image of this many bytes
pub record IsPart (size : ℕ) (part : Part) : Type 0 where
  pub some : 0 < length part.bytes
  pub within : part.offset + length part.bytes ≤ size
  pub bytes : IsBytes part.bytes

-- nothing, or a space first
unfoldable pub IsWordEnd : List ℕ → Type 0
IsWordEnd [] = Unit {0}
IsWordEnd (byte ∷ bytes) = byte ≡ 32

-- OFF=HEX
abbrev pub word_text : Part → List ℕ
word_text part = offset_text part.offset ++ 61 ∷ hex_text part.bytes

-- a part stands after one space
abbrev pub part_text : Part → List ℕ
part_text part = 32 ∷ word_text part

-- the image with the part's bytes in their place
abbrev pub overwritten : Part → List ℕ → List ℕ
overwritten part image = take part.offset image ++ part.bytes ++ drop (part.offset + length part.bytes) image

-- the image with the bytes of all parts, later ones over earlier ones
unfoldable pub overwritten_by_all : List ℕ → List Part → List ℕ
overwritten_by_all image [] = image
overwritten_by_all image (part ∷ parts) = overwritten_by_all (overwritten part image) parts

-- each is a part of an image of this many bytes
unfoldable pub AreParts : ℕ → List Part → Type 0
AreParts size [] = Unit {0}
AreParts size (part ∷ parts) = IsPart size part × AreParts size parts

-- the text names one or more parts, and the image of this many bytes is theirs, over zeros
pub record IsImageOf (size : ℕ) (said : List ℕ) (image : List ℕ) : Type 0 where
  pub parts : List Part
  pub some : 0 < length parts
  pub are_parts : AreParts size parts
  pub text : said ≡ flat_map part_text parts
  pub image_is : image ≡ overwritten_by_all (replicate size 0) parts

-- the text names one or more parts, and the new image has their bytes over the old one's. Private functions cite it
pub record AreWritten (said old new : List ℕ) : Type 0 where
  pub parts : List Part
  pub some : 0 < length parts
  pub are_parts : AreParts (length old) parts
  pub text : said ≡ flat_map part_text parts
  pub image_is : new ≡ overwritten_by_all old parts
