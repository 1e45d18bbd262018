-- A TIA comes back from its packed parts, and packed TIAs are equal where TIAs are.
use Rattle.std.proofs.Common.{◌≡◌, ◌<◌, ◌∙◌, ◌+◌, ◌*◌, ◌^◌, ◌%◌, if◌then◌else◌, ap, sym, subst, ℕ, suc, List, Bool, true, false, length, get_or, arith}
use Rattle.std.proofs.lemmas.Bool.{eqb-true}
use Rattle.std.proofs.lemmas.Nat.{one_shl}
use Rattle.std.proofs.Math.Nat.{pow-suc}
use Rattle.std.proofs.Math.Pow.{pow_mono}
use Rattle.std.specs.Bool.{Decides}
use Rattle.std.specs.Cmp.{first_so, second_so}
use Rattle.vcs_tia.specs.declared.beam.Latches.{Latches}
use Rattle.vcs_tia.specs.declared.chip.Tia.{Tia}
use Rattle.vcs_tia.specs.declared.chip.packed.PackedBall.{PackedBall}
use Rattle.vcs_tia.specs.declared.chip.packed.PackedMissile.{PackedMissile}
use Rattle.vcs_tia.specs.declared.chip.packed.PackedPlayer.{PackedPlayer}
use Rattle.vcs_tia.specs.declared.chip.packed.PackedPlayfield.{PackedPlayfield}
use Rattle.vcs_tia.specs.declared.chip.packed.Parts.{Parts}
use Rattle.vcs_tia.specs.contracts.chip.packed.PackedBallPartialEq.TheImpl as ball
use Rattle.vcs_tia.specs.contracts.chip.packed.PackedMissilePartialEq.TheImpl as missile
use Rattle.vcs_tia.specs.contracts.chip.packed.PackedPlayerPartialEq.TheImpl as player
use Rattle.vcs_tia.specs.contracts.chip.packed.PackedPlayfieldPartialEq.TheImpl as playfield
use Rattle.vcs_tia.specs.contracts.chip.packed.PartsPartialEq.TheImpl as parts
use Rattle.vcs_tia.specs.contracts.chip.packed.PartsEq.TheImpl.Laws as parts_laws
use Rattle.vcs_tia.specs.contracts.chip.TiaEq.TheImpl.Laws as tia_laws
use Rattle.vcs_tia.specs.Units.{has_bit}
use Rattle.vcs_tia.specs.Inside.Rows.{number_of}
use Rattle.vcs_tia.specs.Inside.RowsBack.{number_of-lt, has_bit-number_of}
use Rattle.vcs_tia.specs.Inside.Flags.{word_of, latch_flags, latches_of, setting_flags}
use Rattle.vcs_tia.specs.Inside.PackedEquality.{are_same_tias}
use Rattle.vcs_tia.specs.Inside.Packing.{AreWords, tia_of, parts_of, parts_of-tia_of}
use Rattle.vcs_tia.proofs.Equality.{same_copies, same_width, same_colours, same_tia}

same_player : (a b : PackedPlayer) → player.ghosts.eq a b ≡ true → a ≡ b
same_player a b h0 =
    let h1 = second_so _ _ h0 in
    let h2 = second_so _ _ h1 in
    let h3 = second_so _ _ h2 in
    let h4 = second_so _ _ h3 in
    λ i. record {
      place = eqb-true a.place b.place (first_so _ _ h0) i;
      copies = same_copies a.copies b.copies (first_so _ _ h1) i;
      graphics = eqb-true a.graphics b.graphics (first_so _ _ h2) i;
      old_graphics = eqb-true a.old_graphics b.old_graphics (first_so _ _ h3) i;
      motion = eqb-true a.motion b.motion h4 i;
    }

same_missile : (a b : PackedMissile) → missile.ghosts.eq a b ≡ true → a ≡ b
same_missile a b h0 =
    let h1 = second_so _ _ h0 in
    let h2 = second_so _ _ h1 in
    let h3 = second_so _ _ h2 in
    λ i. record {
      place = eqb-true a.place b.place (first_so _ _ h0) i;
      copies = same_copies a.copies b.copies (first_so _ _ h1) i;
      width = same_width a.width b.width (first_so _ _ h2) i;
      motion = eqb-true a.motion b.motion h3 i;
    }

same_ball : (a b : PackedBall) → ball.ghosts.eq a b ≡ true → a ≡ b
same_ball a b h0 =
    let h1 = second_so _ _ h0 in
    let h2 = second_so _ _ h1 in
    λ i. record {
      place = eqb-true a.place b.place (first_so _ _ h0) i;
      width = same_width a.width b.width (first_so _ _ h1) i;
      motion = eqb-true a.motion b.motion h2 i;
    }

same_playfield : (a b : PackedPlayfield) → playfield.ghosts.eq a b ≡ true → a ≡ b
same_playfield a b h0 =
    let h1 = second_so _ _ h0 in
    let h2 = second_so _ _ h1 in
    λ i. record {
      pf0 = eqb-true a.pf0 b.pf0 (first_so _ _ h0) i;
      pf1 = eqb-true a.pf1 b.pf1 (first_so _ _ h1) i;
      pf2 = eqb-true a.pf2 b.pf2 h2 i;
    }

same_parts : (a b : Parts) → parts.ghosts.eq a b ≡ true → a ≡ b
same_parts a b h0 =
    let h1 = second_so _ _ h0 in
    let h2 = second_so _ _ h1 in
    let h3 = second_so _ _ h2 in
    let h4 = second_so _ _ h3 in
    let h5 = second_so _ _ h4 in
    let h6 = second_so _ _ h5 in
    let h7 = second_so _ _ h6 in
    let h8 = second_so _ _ h7 in
    let h9 = second_so _ _ h8 in
    let h10 = second_so _ _ h9 in
    λ i. record {
      flags = eqb-true a.flags b.flags (first_so _ _ h0) i;
      latches = eqb-true a.latches b.latches (first_so _ _ h1) i;
      player0 = same_player a.player0 b.player0 (first_so _ _ h2) i;
      player1 = same_player a.player1 b.player1 (first_so _ _ h3) i;
      missile0 = same_missile a.missile0 b.missile0 (first_so _ _ h4) i;
      missile1 = same_missile a.missile1 b.missile1 (first_so _ _ h5) i;
      ball = same_ball a.ball b.ball (first_so _ _ h6) i;
      playfield = same_playfield a.playfield b.playfield (first_so _ _ h7) i;
      colours = same_colours a.colours b.colours (first_so _ _ h8) i;
      clock = eqb-true a.clock b.clock (first_so _ _ h9) i;
      line = eqb-true a.line b.line h10 i;
    }

-- parts are alike exactly where the TIAs are equal that have them
pub parts_decide : (p q : Parts) → AreWords p.flags p.latches → AreWords q.flags q.latches → Decides (parts.ghosts.eq p q) (tia_of p ≡ tia_of q)
parts_decide p q few many = (
  λ h. ap tia_of (same_parts p q h),
  λ e. subst (λ x. parts.ghosts.eq p x ≡ true) (sym (parts_of-tia_of p few) ∙ ap parts_of e ∙ parts_of-tia_of q many) (parts_laws.laws-law.refl p),
)

-- and exactly where the TIAs are alike
pub tias_decide : (a b : Tia) → Decides (are_same_tias a b) (a ≡ b)
tias_decide a b = (same_tia a b, λ e. subst (λ x. are_same_tias a x ≡ true) e (tia_laws.laws-law.refl a))

-- a bit of a word is the truth value at its place
flag_back : (flags : List Bool) (k : ℕ) → k < length flags → has_bit (word_of flags) k ≡ get_or flags k false
flag_back flags k below = has_bit-number_of (λ i. get_or flags i false) (length flags) k below

pub latches_back : (l : Latches) → latches_of (word_of (latch_flags l)) ≡ l
latches_back l =
    let bit : (k : ℕ) → k < 15 → has_bit (word_of (latch_flags l)) k ≡ get_or (latch_flags l) k false = flag_back (latch_flags l) in
    λ i. record {
      player0_player1 = bit 0 (omega arith) i;
      player0_missile0 = bit 1 (omega arith) i;
      player0_missile1 = bit 2 (omega arith) i;
      player0_ball = bit 3 (omega arith) i;
      player0_playfield = bit 4 (omega arith) i;
      player1_missile0 = bit 5 (omega arith) i;
      player1_missile1 = bit 6 (omega arith) i;
      player1_ball = bit 7 (omega arith) i;
      player1_playfield = bit 8 (omega arith) i;
      missile0_missile1 = bit 9 (omega arith) i;
      missile0_ball = bit 10 (omega arith) i;
      missile0_playfield = bit 11 (omega arith) i;
      missile1_ball = bit 12 (omega arith) i;
      missile1_playfield = bit 13 (omega arith) i;
      ball_playfield = bit 14 (omega arith) i;
    }

-- a TIA is that of its parts
pub tia_of-parts_of : (t : Tia) → tia_of (parts_of t) ≡ t
tia_of-parts_of t =
    let bit : (k : ℕ) → k < 24 → has_bit (word_of (setting_flags t)) k ≡ get_or (setting_flags t) k false = flag_back (setting_flags t) in
    λ i. record t {
      player0 = record t.player0 { reflected = bit 0 (omega arith) i; delayed = bit 1 (omega arith) i };
      player1 = record t.player1 { reflected = bit 2 (omega arith) i; delayed = bit 3 (omega arith) i };
      missile0 = record t.missile0 { enabled = bit 4 (omega arith) i; hidden = bit 5 (omega arith) i };
      missile1 = record t.missile1 { enabled = bit 6 (omega arith) i; hidden = bit 7 (omega arith) i };
      ball = record t.ball { enabled = bit 8 (omega arith) i; old_enabled = bit 9 (omega arith) i; delayed = bit 10 (omega arith) i };
      playfield = record t.playfield { mirrored = bit 11 (omega arith) i; score = bit 12 (omega arith) i; priority = bit 13 (omega arith) i };
      blank = bit 14 (omega arith) i;
      beam = record t.beam { hmove_blank = bit 15 (omega arith) i };
      latches = latches_back t.latches i;
      sync = record { vsync = bit 16 (omega arith) i; rose = bit 17 (omega arith) i; wait_owed = bit 18 (omega arith) i };
      fire = record {
        latching = bit 19 (omega arith) i;
        left = record { pressed = bit 20 (omega arith) i; latched = bit 21 (omega arith) i };
        right = record { pressed = bit 22 (omega arith) i; latched = bit 23 (omega arith) i };
      };
    }

-- a bit on top
number_up : (f : ℕ → Bool) (n : ℕ) → (if f n then 1 else 0) * 2 ^ n + number_of f n ≡ number_of f (n + 1)
unfolding number_of
number_up f n = let next : suc n ≡ n + 1 = omega arith in ap (number_of f) next

-- it is 1
pub bit_more : (f : ℕ → Bool) (n : ℕ) → n < 32 → f n ≡ true → number_of f n + 1 * 2 ^ n % 2 ^ 32 ≡ number_of f (n + 1)
bit_more f n small on =
    ap (λ k. number_of f n + k) (one_shl n 32 small) ∙ swap (number_of f n) (2 ^ n)
    ∙ ap (λ b. (if b then 1 else 0) * 2 ^ n + number_of f n) (sym on) ∙ number_up f n
  where
    swap : (a b : ℕ) → a + b ≡ 1 * b + a
    swap a b = omega arith

-- it is 0
pub bit_none : (f : ℕ → Bool) (n : ℕ) → f n ≡ false → number_of f n ≡ number_of f (n + 1)
bit_none f n off =
    nothing (number_of f n) (2 ^ n) ∙ ap (λ b. (if b then 1 else 0) * 2 ^ n + number_of f n) (sym off) ∙ number_up f n
  where
    nothing : (a b : ℕ) → a ≡ 0 * b + a
    nothing a b = omega arith

-- and the word stays one of 32 bits
pub bit_fits : (f : ℕ → Bool) (n : ℕ) → n < 32 → number_of f n + 1 * 2 ^ n % 2 ^ 32 < 2 ^ 32
bit_fits f n small =
    let low = number_of-lt f n in
    let top = one_shl n 32 small in
    let twice = pow-suc 2 n in
    let most = pow_mono {i = suc n} {j = 32} small in
    omega arith

-- the words of a TIA have no further bits
pub are_words : (t : Tia) → AreWords (word_of (setting_flags t)) (word_of (latch_flags t.latches))
are_words t = record {
  few_flags = number_of-lt (λ i. get_or (setting_flags t) i false) 24;
  few_latches = number_of-lt (λ i. get_or (latch_flags t.latches) i false) 15;
}
