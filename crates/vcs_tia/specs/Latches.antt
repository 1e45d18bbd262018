-- The six objects, and the latches of their fifteen pairs.
use Rattle.std.specs.Prelude.{ℕ, List, [], ◌∷◌, Bool, false, ◌&&◌, ◌||◌, ◌==◌, nat_lt, if◌then◌else◌}
use Rattle.std.specs.List.{find}
use Rattle.std.specs.Option.{option_map_or}
use Rattle.vcs_tia.specs.declared.beam.Latches.{Latches}

-- the six objects (Stella Programmer's Guide, "Collisions")
pub data Object : Type 0 where
  Player0 : Object
  Player1 : Object
  Missile0 : Object
  Missile1 : Object
  Ball : Object
  Playfield : Object

-- a set of the six objects, as those that are lit on one pixel
pub record Lit : Type 0 where
  pub player0 : Bool
  pub player1 : Bool
  pub missile0 : Bool
  pub missile1 : Bool
  pub ball : Bool
  pub playfield : Bool

-- an object belongs to a set
abbrev pub is_in : Object → Lit → Bool
is_in Player0 s = s.player0
is_in Player1 s = s.player1
is_in Missile0 s = s.missile0
is_in Missile1 s = s.missile1
is_in Ball s = s.ball
is_in Playfield s = s.playfield

-- an object's place among the six
abbrev pub place_of : Object → ℕ
place_of Player0 = 0
place_of Player1 = 1
place_of Missile0 = 2
place_of Missile1 = 3
place_of Ball = 4
place_of Playfield = 5

-- two names of one object
abbrev pub is_same : Object → Object → Bool
is_same a b = place_of a == place_of b

-- the latch of a pair whose objects are named in their order
abbrev pub latch_of : Latches → Object → Object → Bool
latch_of l Player0 Player1 = l.player0_player1
latch_of l Player0 Missile0 = l.player0_missile0
latch_of l Player0 Missile1 = l.player0_missile1
latch_of l Player0 Ball = l.player0_ball
latch_of l Player0 Playfield = l.player0_playfield
latch_of l Player1 Missile0 = l.player1_missile0
latch_of l Player1 Missile1 = l.player1_missile1
latch_of l Player1 Ball = l.player1_ball
latch_of l Player1 Playfield = l.player1_playfield
latch_of l Missile0 Missile1 = l.missile0_missile1
latch_of l Missile0 Ball = l.missile0_ball
latch_of l Missile0 Playfield = l.missile0_playfield
latch_of l Missile1 Ball = l.missile1_ball
latch_of l Missile1 Playfield = l.missile1_playfield
latch_of l Ball Playfield = l.ball_playfield
latch_of l _ _ = false

-- the latch of a pair, whichever object is named first; no object collides with itself
abbrev pub is_latched : Latches → Object → Object → Bool
is_latched l a b = if nat_lt (place_of a) (place_of b) then latch_of l a b else latch_of l b a

-- the latches of just those pairs of which something holds
abbrev pub latches_where : (Object → Object → Bool) → Latches
latches_where holds = record {
  player0_player1 = holds Player0 Player1;
  player0_missile0 = holds Player0 Missile0;
  player0_missile1 = holds Player0 Missile1;
  player0_ball = holds Player0 Ball;
  player0_playfield = holds Player0 Playfield;
  player1_missile0 = holds Player1 Missile0;
  player1_missile1 = holds Player1 Missile1;
  player1_ball = holds Player1 Ball;
  player1_playfield = holds Player1 Playfield;
  missile0_missile1 = holds Missile0 Missile1;
  missile0_ball = holds Missile0 Ball;
  missile0_playfield = holds Missile0 Playfield;
  missile1_ball = holds Missile1 Ball;
  missile1_playfield = holds Missile1 Playfield;
  ball_playfield = holds Ball Playfield;
}

-- no pair has met
abbrev pub no_latches : Latches
no_latches = latches_where (λ a b. false)

-- the latches, and those of each pair of objects that are both lit (Stella Programmer's Guide, "Collisions")
abbrev pub pairs_added : Latches → Lit → Latches
pairs_added l s = latches_where (λ a b. is_latched l a b || (is_in a s && is_in b s))

-- where each latch is read: register, bit, and the pair (Stella Programmer's Guide, "Collisions")
abbrev pub latch_rows : List (ℕ × ℕ × Object × Object)
latch_rows =
    (0, 7, Missile0, Player1) ∷ (0, 6, Missile0, Player0)
    ∷ (1, 7, Missile1, Player0) ∷ (1, 6, Missile1, Player1)
    ∷ (2, 7, Player0, Playfield) ∷ (2, 6, Player0, Ball)
    ∷ (3, 7, Player1, Playfield) ∷ (3, 6, Player1, Ball)
    ∷ (4, 7, Missile0, Playfield) ∷ (4, 6, Missile0, Ball)
    ∷ (5, 7, Missile1, Playfield) ∷ (5, 6, Missile1, Ball)
    ∷ (6, 7, Ball, Playfield)
    ∷ (7, 7, Player0, Player1) ∷ (7, 6, Missile0, Missile1) ∷ []

-- a bit of a register, which is 0 where no latch is read there
abbrev pub register_bit : Latches → ℕ → ℕ → Bool
register_bit l register bit =
    option_map_or (λ (row : ℕ × ℕ × Object × Object). is_latched l row.2 row.3)
    (find (λ (row : ℕ × ℕ × Object × Object). row.0 == register && row.1 == bit) latch_rows) false
