-- Truth values as the bits of a word. With the proof that a word is the one that its bits make, which is here since `PackedTia`'s Model rests on it:
-- code cites no proofs of its own crate.
use Rattle.std.proofs.Common.{◌≡◌, ◌^◌, ◌<◌, ℕ, List, [], ◌∷◌, Bool, false, length, get_or}
use Rattle.std.proofs.lemmas.Nat.Bits.{same_from_bits_below}
use Rattle.vcs_tia.specs.declared.beam.Latches.{Latches}
use Rattle.vcs_tia.specs.declared.chip.Tia.{Tia}
use Rattle.vcs_tia.specs.Units.{has_bit}
use Rattle.vcs_tia.specs.Inside.Rows.{number_of}
use Rattle.vcs_tia.specs.Inside.RowsBack.{number_of-lt, has_bit-number_of, bits_from_tests}

-- the word whose bits these are, the first as bit 0
abbrev pub word_of : List Bool → ℕ
word_of flags = number_of (λ i. get_or flags i false) (length flags)

-- the fifteen latches
abbrev pub latch_flags : Latches → List Bool
latch_flags l =
    l.player0_player1 ∷ l.player0_missile0 ∷ l.player0_missile1 ∷ l.player0_ball ∷ l.player0_playfield
    ∷ l.player1_missile0 ∷ l.player1_missile1 ∷ l.player1_ball ∷ l.player1_playfield ∷ l.missile0_missile1
    ∷ l.missile0_ball ∷ l.missile0_playfield ∷ l.missile1_ball ∷ l.missile1_playfield ∷ l.ball_playfield ∷ []

-- the latches that are the bits of a word
abbrev pub latches_of : ℕ → Latches
latches_of w = record {
  player0_player1 = has_bit w 0;
  player0_missile0 = has_bit w 1;
  player0_missile1 = has_bit w 2;
  player0_ball = has_bit w 3;
  player0_playfield = has_bit w 4;
  player1_missile0 = has_bit w 5;
  player1_missile1 = has_bit w 6;
  player1_ball = has_bit w 7;
  player1_playfield = has_bit w 8;
  missile0_missile1 = has_bit w 9;
  missile0_ball = has_bit w 10;
  missile0_playfield = has_bit w 11;
  missile1_ball = has_bit w 12;
  missile1_playfield = has_bit w 13;
  ball_playfield = has_bit w 14;
}

-- the other truth values of a TIA
abbrev pub setting_flags : Tia → List Bool
setting_flags t =
    t.player0.reflected ∷ t.player0.delayed ∷ t.player1.reflected ∷ t.player1.delayed
    ∷ t.missile0.enabled ∷ t.missile0.hidden ∷ t.missile1.enabled ∷ t.missile1.hidden
    ∷ t.ball.enabled ∷ t.ball.old_enabled ∷ t.ball.delayed
    ∷ t.playfield.mirrored ∷ t.playfield.score ∷ t.playfield.priority
    ∷ t.blank ∷ t.beam.hmove_blank ∷ t.sync.vsync ∷ t.sync.rose ∷ t.sync.wait_owed
    ∷ t.fire.latching ∷ t.fire.left.pressed ∷ t.fire.left.latched ∷ t.fire.right.pressed ∷ t.fire.right.latched ∷ []

-- a word is the one that its bits make
pub word_back : (n w : ℕ) → w < 2 ^ n → number_of (λ i. has_bit w i) n ≡ w
word_back n w small =
    same_from_bits_below n _ _ (number_of-lt (λ i. has_bit w i) n) small
    (λ i below. bits_from_tests _ i _ i (has_bit-number_of (λ i. has_bit w i) n i below))
