-- The replies to the lines of a script.
use Rattle.std.specs.Prelude.{ℕ, List, ◌++◌, codes, decimal}
use Rattle.tas_movie.specs.Text.{frame_text}
use Rattle.tas_language.specs.declared.reply.Reply.{Reply}
use Rattle.tas_language.specs.declared.reply.Reply.TheVariants.{Edited, Place, Long, Full, Measured, Pressed, NoFrame, Drawn, Halted, Worked, OutOfMemory}
use Rattle.byte_text.specs.Digits.{hex_byte, hex_word}

-- the line of a reply, with its newline
abbrev pub reply_text : Reply → List ℕ
reply_text (Edited at len) = codes "edit " ++ decimal at ++ codes " len " ++ decimal len ++ codes "\n"
reply_text (Place at len) = codes "place " ++ decimal at ++ codes " len " ++ decimal len ++ codes "\n"
reply_text (Long at len) = codes "long " ++ decimal at ++ codes " len " ++ decimal len ++ codes "\n"
reply_text (Full at) = codes "full " ++ decimal at ++ codes "\n"
reply_text (Measured at len) = codes "len " ++ decimal at ++ codes " " ++ decimal len ++ codes "\n"
reply_text (Pressed at input) = codes "input " ++ decimal at ++ codes " " ++ frame_text input ++ codes "\n"
reply_text (NoFrame at len) = codes "no frame " ++ decimal at ++ codes " len " ++ decimal len ++ codes "\n"
reply_text (Drawn at frame ran lit) = codes "shot " ++ decimal at ++ codes " " ++ decimal frame ++ codes " ran " ++ decimal ran ++ codes " lit " ++ decimal lit ++ codes "\n"
reply_text (Halted at address opcode) = codes "halted " ++ decimal at ++ codes " " ++ hex_word address ++ codes " " ++ hex_byte opcode ++ codes "\n"
reply_text (Worked jobs kept stale) = codes "work jobs " ++ decimal jobs ++ codes " kept " ++ decimal kept ++ codes " stale " ++ decimal stale ++ codes "\n"
reply_text OutOfMemory = codes "out of memory\n"
