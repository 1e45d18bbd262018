-- What the bus does with one of its chips, and when neither a wait nor a frame's end is near. Only what is private to the bus cites this file.
use Rattle.std.specs.Prelude.{◌≡◌, ℕ, false}
use Rattle.vcs_riot.specs.Chip as riot
use Rattle.vcs_tia.specs.declared.chip.Tia.{Tia}
use Rattle.vcs_tia.specs.Tia as tia
use Rattle.vcs_machine.specs.Bus.{Observed}

-- after an instruction has read the RIOT
abbrev pub after_riot_load : {Seen : Type 0} → ℕ → Observed Seen → Observed Seen
after_riot_load addr o = record o { board = record o.board { riot = riot.riot_after_load addr o.board.riot } }

-- after a write that the RIOT takes
abbrev pub after_riot_write : {Seen : Type 0} → ℕ → ℕ → Observed Seen → Observed Seen
after_riot_write addr v o = record o { board = record o.board { riot = riot.riot_after_write addr v o.board.riot } }

-- after a write that the TIA takes
abbrev pub after_tia_write : {Seen : Type 0} → ℕ → ℕ → Observed Seen → Observed Seen
after_tia_write addr v o = record o { board = record o.board { tia = tia.written_at addr v o.board.tia } }

-- no wait is owed, and VSYNC hasn't ended the frame
pub record IsStill (t : Tia) : Type 0 where
  pub waits : t.sync.wait_owed ≡ false
  pub rose : tia.vsync_rose t ≡ false
