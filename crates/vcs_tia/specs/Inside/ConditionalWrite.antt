-- Writes that are skipped while clocks are pending, where something that is shown would change.
use Rattle.std.specs.Prelude.{◌≡◌, ℕ, Bool, true, false}
use Rattle.vcs_tia.specs.declared.objects.Missile.{Missile}
use Rattle.vcs_tia.specs.declared.objects.Player.{Player}
use Rattle.vcs_tia.specs.declared.playfield.Playfield.{Playfield}
use Rattle.vcs_tia.specs.declared.chip.Tia.{Tia}
use Rattle.vcs_tia.specs.Units.{has_bit, copies_of, width_of}
use Rattle.vcs_tia.specs.Objects.{shown_graphics}

-- a write is done or skipped: done where no clocks are pending, and with clocks pending only where `Unseen` holds
pub record IsConditionalWrite {A : Type 0} (pending done : Bool) (Unseen : Type 0) (old new asked : A) : Type 0 where
  pub written : done ≡ true → new ≡ asked
  pub skipped : done ≡ false → new ≡ old
  pub always : pending ≡ false → done ≡ true
  pub unseen : pending ≡ true → done ≡ true → Unseen

-- what decides on which pixels the playfield is lit
abbrev pub lit_playfield : Playfield → Playfield
lit_playfield f = record f { score = false; priority = false }

-- a player's new graphics leave what it shows, and their old copy what the other one shows
pub record LeavesShown (player other : Player) (value : ℕ) : Type 0 where
  pub changed : shown_graphics (record player { graphics = value }) ≡ shown_graphics player
  pub kept : shown_graphics (record other { old_graphics = other.graphics }) ≡ shown_graphics other

-- a player and its missile have the copies and the width that a byte of NUSIZ0 or NUSIZ1 says
pub record HasSize (player : Player) (missile : Missile) (value : ℕ) : Type 0 where
  pub same_player : player.copies ≡ copies_of value
  pub same_missile : missile.copies ≡ copies_of value
  pub same_width : missile.width ≡ width_of value

-- a byte of CTRLPF leaves where playfield and ball are lit and, where something is drawn, their colours
pub record LeavesField (drawn : Bool) (t : Tia) (value : ℕ) : Type 0 where
  pub mirrored : t.playfield.mirrored ≡ has_bit value 0
  pub width : t.ball.width ≡ width_of value
  pub score : drawn ≡ true → t.playfield.score ≡ has_bit value 1
  pub priority : drawn ≡ true → t.playfield.priority ≡ has_bit value 2
