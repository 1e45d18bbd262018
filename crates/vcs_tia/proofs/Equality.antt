-- `==` of TIAs is true only where they are equal: where their registers are, since these decide the masks.
use Rattle.std.proofs.Common.{◌≡◌, true, refl}
use Rattle.std.proofs.lemmas.Bool.{eqb-true, false≢true}
use Rattle.std.specs.Cmp.{booleans_Decides, first_so, second_so}
use Rattle.vcs_tia.specs.declared.beam.Beam.{Beam}
use Rattle.vcs_tia.specs.declared.beam.Latches.{Latches}
use Rattle.vcs_tia.specs.declared.chip.Button.{Button}
use Rattle.vcs_tia.specs.declared.chip.Colours.{Colours}
use Rattle.vcs_tia.specs.declared.chip.Fire.{Fire}
use Rattle.vcs_tia.specs.declared.chip.Sync.{Sync}
use Rattle.vcs_tia.specs.declared.chip.Tia.{Tia}
use Rattle.vcs_tia.specs.declared.objects.Ball.{Ball}
use Rattle.vcs_tia.specs.declared.objects.Missile.{Missile}
use Rattle.vcs_tia.specs.declared.objects.Player.{Player}
use Rattle.vcs_tia.specs.declared.playfield.Playfield.{Playfield}
use Rattle.vcs_tia.specs.declared.units.Copies.{Copies}
use Rattle.vcs_tia.specs.declared.units.Copies.TheVariants.{One, TwoClose, TwoMedium, ThreeClose, TwoWide, DoubleSize, ThreeMedium, QuadSize}
use Rattle.vcs_tia.specs.declared.units.Width.{Width}
use Rattle.vcs_tia.specs.declared.units.Width.TheVariants as wide
use Rattle.vcs_tia.specs.contracts.beam.BeamPartialEq.TheImpl as beam
use Rattle.vcs_tia.specs.contracts.beam.LatchesPartialEq.TheImpl as latches
use Rattle.vcs_tia.specs.contracts.chip.ButtonPartialEq.TheImpl as button
use Rattle.vcs_tia.specs.contracts.chip.ColoursPartialEq.TheImpl as colours
use Rattle.vcs_tia.specs.contracts.chip.FirePartialEq.TheImpl as fire
use Rattle.vcs_tia.specs.contracts.chip.SyncPartialEq.TheImpl as sync
use Rattle.vcs_tia.specs.contracts.chip.TiaPartialEq.TheImpl as tia
use Rattle.vcs_tia.specs.contracts.objects.BallPartialEq.TheImpl as ball
use Rattle.vcs_tia.specs.contracts.objects.MissilePartialEq.TheImpl as missile
use Rattle.vcs_tia.specs.contracts.objects.PlayerPartialEq.TheImpl as player
use Rattle.vcs_tia.specs.contracts.playfield.PlayfieldPartialEq.TheImpl as playfield
use Rattle.vcs_tia.specs.contracts.units.CopiesPartialEq.TheImpl as copies
use Rattle.vcs_tia.specs.contracts.units.WidthPartialEq.TheImpl as width

pub same_copies : (a b : Copies) → copies.ghosts.eq a b ≡ true → a ≡ b
same_copies One One h = refl
same_copies TwoClose TwoClose h = refl
same_copies TwoMedium TwoMedium h = refl
same_copies ThreeClose ThreeClose h = refl
same_copies TwoWide TwoWide h = refl
same_copies DoubleSize DoubleSize h = refl
same_copies ThreeMedium ThreeMedium h = refl
same_copies QuadSize QuadSize h = refl
same_copies _ _ h = absurd (false≢true h)

pub same_width : (a b : Width) → width.ghosts.eq a b ≡ true → a ≡ b
same_width wide.One wide.One h = refl
same_width wide.Two wide.Two h = refl
same_width wide.Four wide.Four h = refl
same_width wide.Eight wide.Eight h = refl
same_width _ _ h = absurd (false≢true h)

same_player : (a b : Player) → player.ghosts.eq a b ≡ true → a ≡ b
same_player a b h0 =
    let h1 = second_so _ _ h0 in
    let h2 = second_so _ _ h1 in
    let h3 = second_so _ _ h2 in
    let h4 = second_so _ _ h3 in
    let h5 = second_so _ _ h4 in
    let h6 = second_so _ _ h5 in
    λ i. record {
      place = eqb-true a.place b.place (first_so _ _ h0) i;
      copies = same_copies a.copies b.copies (first_so _ _ h1) i;
      graphics = eqb-true a.graphics b.graphics (first_so _ _ h2) i;
      old_graphics = eqb-true a.old_graphics b.old_graphics (first_so _ _ h3) i;
      reflected = (booleans_Decides a.reflected b.reflected).0 (first_so _ _ h4) i;
      delayed = (booleans_Decides a.delayed b.delayed).0 (first_so _ _ h5) i;
      motion = eqb-true a.motion b.motion h6 i;
    }

same_missile : (a b : Missile) → missile.ghosts.eq a b ≡ true → a ≡ b
same_missile a b h0 =
    let h1 = second_so _ _ h0 in
    let h2 = second_so _ _ h1 in
    let h3 = second_so _ _ h2 in
    let h4 = second_so _ _ h3 in
    let h5 = second_so _ _ h4 in
    λ i. record {
      place = eqb-true a.place b.place (first_so _ _ h0) i;
      copies = same_copies a.copies b.copies (first_so _ _ h1) i;
      width = same_width a.width b.width (first_so _ _ h2) i;
      enabled = (booleans_Decides a.enabled b.enabled).0 (first_so _ _ h3) i;
      hidden = (booleans_Decides a.hidden b.hidden).0 (first_so _ _ h4) i;
      motion = eqb-true a.motion b.motion h5 i;
    }

same_ball : (a b : Ball) → ball.ghosts.eq a b ≡ true → a ≡ b
same_ball a b h0 =
    let h1 = second_so _ _ h0 in
    let h2 = second_so _ _ h1 in
    let h3 = second_so _ _ h2 in
    let h4 = second_so _ _ h3 in
    let h5 = second_so _ _ h4 in
    λ i. record {
      place = eqb-true a.place b.place (first_so _ _ h0) i;
      width = same_width a.width b.width (first_so _ _ h1) i;
      enabled = (booleans_Decides a.enabled b.enabled).0 (first_so _ _ h2) i;
      old_enabled = (booleans_Decides a.old_enabled b.old_enabled).0 (first_so _ _ h3) i;
      delayed = (booleans_Decides a.delayed b.delayed).0 (first_so _ _ h4) i;
      motion = eqb-true a.motion b.motion h5 i;
    }

same_playfield : (a b : Playfield) → playfield.ghosts.eq a b ≡ true → a ≡ b
same_playfield a b h0 =
    let h1 = second_so _ _ h0 in
    let h2 = second_so _ _ h1 in
    let h3 = second_so _ _ h2 in
    let h4 = second_so _ _ h3 in
    let h5 = second_so _ _ h4 in
    λ i. record {
      pf0 = eqb-true a.pf0 b.pf0 (first_so _ _ h0) i;
      pf1 = eqb-true a.pf1 b.pf1 (first_so _ _ h1) i;
      pf2 = eqb-true a.pf2 b.pf2 (first_so _ _ h2) i;
      mirrored = (booleans_Decides a.mirrored b.mirrored).0 (first_so _ _ h3) i;
      score = (booleans_Decides a.score b.score).0 (first_so _ _ h4) i;
      priority = (booleans_Decides a.priority b.priority).0 h5 i;
    }

pub same_colours : (a b : Colours) → colours.ghosts.eq a b ≡ true → a ≡ b
same_colours a b h0 =
    let h1 = second_so _ _ h0 in
    let h2 = second_so _ _ h1 in
    let h3 = second_so _ _ h2 in
    λ i. record {
      player0 = eqb-true a.player0 b.player0 (first_so _ _ h0) i;
      player1 = eqb-true a.player1 b.player1 (first_so _ _ h1) i;
      playfield = eqb-true a.playfield b.playfield (first_so _ _ h2) i;
      background = eqb-true a.background b.background h3 i;
    }

same_beam : (a b : Beam) → beam.ghosts.eq a b ≡ true → a ≡ b
same_beam a b h0 =
    let h1 = second_so _ _ h0 in
    let h2 = second_so _ _ h1 in
    λ i. record {
      line = eqb-true a.line b.line (first_so _ _ h0) i;
      clock = eqb-true a.clock b.clock (first_so _ _ h1) i;
      hmove_blank = (booleans_Decides a.hmove_blank b.hmove_blank).0 h2 i;
    }

same_latches : (a b : Latches) → latches.ghosts.eq a b ≡ true → a ≡ b
same_latches a b h0 =
    let h1 = second_so _ _ h0 in
    let h2 = second_so _ _ h1 in
    let h3 = second_so _ _ h2 in
    let h4 = second_so _ _ h3 in
    let h5 = second_so _ _ h4 in
    let h6 = second_so _ _ h5 in
    let h7 = second_so _ _ h6 in
    let h8 = second_so _ _ h7 in
    let h9 = second_so _ _ h8 in
    let h10 = second_so _ _ h9 in
    let h11 = second_so _ _ h10 in
    let h12 = second_so _ _ h11 in
    let h13 = second_so _ _ h12 in
    let h14 = second_so _ _ h13 in
    λ i. record {
      player0_player1 = (booleans_Decides a.player0_player1 b.player0_player1).0 (first_so _ _ h0) i;
      player0_missile0 = (booleans_Decides a.player0_missile0 b.player0_missile0).0 (first_so _ _ h1) i;
      player0_missile1 = (booleans_Decides a.player0_missile1 b.player0_missile1).0 (first_so _ _ h2) i;
      player0_ball = (booleans_Decides a.player0_ball b.player0_ball).0 (first_so _ _ h3) i;
      player0_playfield = (booleans_Decides a.player0_playfield b.player0_playfield).0 (first_so _ _ h4) i;
      player1_missile0 = (booleans_Decides a.player1_missile0 b.player1_missile0).0 (first_so _ _ h5) i;
      player1_missile1 = (booleans_Decides a.player1_missile1 b.player1_missile1).0 (first_so _ _ h6) i;
      player1_ball = (booleans_Decides a.player1_ball b.player1_ball).0 (first_so _ _ h7) i;
      player1_playfield = (booleans_Decides a.player1_playfield b.player1_playfield).0 (first_so _ _ h8) i;
      missile0_missile1 = (booleans_Decides a.missile0_missile1 b.missile0_missile1).0 (first_so _ _ h9) i;
      missile0_ball = (booleans_Decides a.missile0_ball b.missile0_ball).0 (first_so _ _ h10) i;
      missile0_playfield = (booleans_Decides a.missile0_playfield b.missile0_playfield).0 (first_so _ _ h11) i;
      missile1_ball = (booleans_Decides a.missile1_ball b.missile1_ball).0 (first_so _ _ h12) i;
      missile1_playfield = (booleans_Decides a.missile1_playfield b.missile1_playfield).0 (first_so _ _ h13) i;
      ball_playfield = (booleans_Decides a.ball_playfield b.ball_playfield).0 h14 i;
    }

same_sync : (a b : Sync) → sync.ghosts.eq a b ≡ true → a ≡ b
same_sync a b h0 =
    let h1 = second_so _ _ h0 in
    let h2 = second_so _ _ h1 in
    λ i. record {
      vsync = (booleans_Decides a.vsync b.vsync).0 (first_so _ _ h0) i;
      rose = (booleans_Decides a.rose b.rose).0 (first_so _ _ h1) i;
      wait_owed = (booleans_Decides a.wait_owed b.wait_owed).0 h2 i;
    }

same_button : (a b : Button) → button.ghosts.eq a b ≡ true → a ≡ b
same_button a b h0 =
    let h1 = second_so _ _ h0 in
    λ i. record {
      pressed = (booleans_Decides a.pressed b.pressed).0 (first_so _ _ h0) i;
      latched = (booleans_Decides a.latched b.latched).0 h1 i;
    }

same_fire : (a b : Fire) → fire.ghosts.eq a b ≡ true → a ≡ b
same_fire a b h0 =
    let h1 = second_so _ _ h0 in
    let h2 = second_so _ _ h1 in
    λ i. record {
      latching = (booleans_Decides a.latching b.latching).0 (first_so _ _ h0) i;
      left = same_button a.left b.left (first_so _ _ h1) i;
      right = same_button a.right b.right h2 i;
    }

pub same_tia : (a b : Tia) → tia.ghosts.eq a b ≡ true → a ≡ b
same_tia a b h0 =
    let h1 = second_so _ _ h0 in
    let h2 = second_so _ _ h1 in
    let h3 = second_so _ _ h2 in
    let h4 = second_so _ _ h3 in
    let h5 = second_so _ _ h4 in
    let h6 = second_so _ _ h5 in
    let h7 = second_so _ _ h6 in
    let h8 = second_so _ _ h7 in
    let h9 = second_so _ _ h8 in
    let h10 = second_so _ _ h9 in
    let h11 = second_so _ _ h10 in
    λ i. record {
      player0 = same_player a.player0 b.player0 (first_so _ _ h0) i;
      player1 = same_player a.player1 b.player1 (first_so _ _ h1) i;
      missile0 = same_missile a.missile0 b.missile0 (first_so _ _ h2) i;
      missile1 = same_missile a.missile1 b.missile1 (first_so _ _ h3) i;
      ball = same_ball a.ball b.ball (first_so _ _ h4) i;
      playfield = same_playfield a.playfield b.playfield (first_so _ _ h5) i;
      colours = same_colours a.colours b.colours (first_so _ _ h6) i;
      blank = (booleans_Decides a.blank b.blank).0 (first_so _ _ h7) i;
      beam = same_beam a.beam b.beam (first_so _ _ h8) i;
      latches = same_latches a.latches b.latches (first_so _ _ h9) i;
      sync = same_sync a.sync b.sync (first_so _ _ h10) i;
      fire = same_fire a.fire b.fire h11 i;
    }
