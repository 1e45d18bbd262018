-- A TIA as its packed parts, and the proof that nothing is lost, which is here since `PackedTia`'s Model cites it: code cites no proofs of its own crate.
use Rattle.std.proofs.Common.{◌≡◌, ◌^◌, ◌<◌, ℕ}
use Rattle.vcs_tia.specs.declared.chip.Tia.{Tia}
use Rattle.vcs_tia.specs.declared.chip.packed.Parts.{Parts}
use Rattle.vcs_tia.specs.Units.{has_bit}
use Rattle.vcs_tia.specs.Inside.Rows.{number_of}
use Rattle.vcs_tia.specs.Inside.Flags.{word_of, word_back, latch_flags, latches_of, setting_flags}

-- the TIA that has these parts
abbrev pub tia_of : Parts → Tia
tia_of p = record {
  player0 = record {
    place = p.player0.place;
    copies = p.player0.copies;
    graphics = p.player0.graphics;
    old_graphics = p.player0.old_graphics;
    reflected = has_bit p.flags 0;
    delayed = has_bit p.flags 1;
    motion = p.player0.motion;
  };
  player1 = record {
    place = p.player1.place;
    copies = p.player1.copies;
    graphics = p.player1.graphics;
    old_graphics = p.player1.old_graphics;
    reflected = has_bit p.flags 2;
    delayed = has_bit p.flags 3;
    motion = p.player1.motion;
  };
  missile0 = record {
    place = p.missile0.place;
    copies = p.missile0.copies;
    width = p.missile0.width;
    enabled = has_bit p.flags 4;
    hidden = has_bit p.flags 5;
    motion = p.missile0.motion;
  };
  missile1 = record {
    place = p.missile1.place;
    copies = p.missile1.copies;
    width = p.missile1.width;
    enabled = has_bit p.flags 6;
    hidden = has_bit p.flags 7;
    motion = p.missile1.motion;
  };
  ball = record {
    place = p.ball.place;
    width = p.ball.width;
    enabled = has_bit p.flags 8;
    old_enabled = has_bit p.flags 9;
    delayed = has_bit p.flags 10;
    motion = p.ball.motion;
  };
  playfield = record {
    pf0 = p.playfield.pf0;
    pf1 = p.playfield.pf1;
    pf2 = p.playfield.pf2;
    mirrored = has_bit p.flags 11;
    score = has_bit p.flags 12;
    priority = has_bit p.flags 13;
  };
  colours = p.colours;
  blank = has_bit p.flags 14;
  beam = record { line = p.line; clock = p.clock; hmove_blank = has_bit p.flags 15 };
  latches = latches_of p.latches;
  sync = record { vsync = has_bit p.flags 16; rose = has_bit p.flags 17; wait_owed = has_bit p.flags 18 };
  fire = record {
    latching = has_bit p.flags 19;
    left = record { pressed = has_bit p.flags 20; latched = has_bit p.flags 21 };
    right = record { pressed = has_bit p.flags 22; latched = has_bit p.flags 23 };
  };
}

-- the parts of a TIA
abbrev pub parts_of : Tia → Parts
parts_of t = record {
  flags = word_of (setting_flags t);
  latches = word_of (latch_flags t.latches);
  player0 = record { place = t.player0.place; copies = t.player0.copies; graphics = t.player0.graphics; old_graphics = t.player0.old_graphics; motion = t.player0.motion };
  player1 = record { place = t.player1.place; copies = t.player1.copies; graphics = t.player1.graphics; old_graphics = t.player1.old_graphics; motion = t.player1.motion };
  missile0 = record { place = t.missile0.place; copies = t.missile0.copies; width = t.missile0.width; motion = t.missile0.motion };
  missile1 = record { place = t.missile1.place; copies = t.missile1.copies; width = t.missile1.width; motion = t.missile1.motion };
  ball = record { place = t.ball.place; width = t.ball.width; motion = t.ball.motion };
  playfield = record { pf0 = t.playfield.pf0; pf1 = t.playfield.pf1; pf2 = t.playfield.pf2 };
  colours = t.colours;
  clock = t.beam.clock;
  line = t.beam.line;
}

-- both words have no further bits
pub record AreWords (flags latches : ℕ) : Type 0 where
  pub few_flags : flags < 2 ^ 24
  pub few_latches : latches < 2 ^ 15

setting_flags_back : (p : Parts) → p.flags < 2 ^ 24 → word_of (setting_flags (tia_of p)) ≡ p.flags
unfolding number_of
setting_flags_back p small = word_back 24 p.flags small

latch_flags_back : (w : ℕ) → w < 2 ^ 15 → word_of (latch_flags (latches_of w)) ≡ w
unfolding number_of
latch_flags_back w small = word_back 15 w small

-- parts are those that their TIA has
pub parts_of-tia_of : (p : Parts) → AreWords p.flags p.latches → parts_of (tia_of p) ≡ p
parts_of-tia_of p words = λ i. record p { flags = setting_flags_back p words.few_flags i; latches = latch_flags_back p.latches words.few_latches i }
