-- What a line of a conversation is answered at some history and greenzone, and what it leaves of both.
use Rattle.std.specs.Prelude.{◌≡◌, ℕ, ◌+◌, ◌-◌, ◌<◌, nat_le, ◌&&◌, List, [], ◌∷◌, length, take, drop, filter, is_some, Bool, true, false, if◌then◌else◌, Option, Some, None, MatchOption, Result, Ok, Err, ◌⊎◌}
use Rattle.std.specs.List.{range_with_len, flat_map}
use Rattle.std.specs.Option.{option_map}
use Rattle.vcs_cpu.specs.declared.halt.Halt.{Halt}
use Rattle.vcs_machine.specs.Machine.{profile}
use Rattle.vcs_tia.specs.Image.{ppm_bytes}
use Rattle.tas_movie.specs.Content.{MovieContent}
use Rattle.tas_movie.specs.Text.{text2}
use Rattle.tas_green.specs.declared.savestate.Savestate.{Savestate}
use Rattle.tas_green.specs.Green.{IsLawful, IsPlayedFrom}
use Rattle.tas_green.specs.Run.{state_after}
use Rattle.tas_green.specs.Zone.{state_at}
use Rattle.tas_session.specs.Answers.{answer_shot}
use Rattle.tas_desk.specs.Zones.{Shares}
use Rattle.tas_engines.specs.Lag.{lag_lines_between, LagFramesIgnoreInput}
use Rattle.tas_language.specs.declared.command.Command.{Command}
use Rattle.tas_language.specs.declared.command.Command.TheVariants.{Shot, Work}
use Rattle.tas_language.specs.declared.reply.Reply.{Reply}
use Rattle.tas_language.specs.declared.reply.Reply.TheVariants.{NoFrame, Drawn, Halted, Worked, OutOfMemory}
use Rattle.tas_language.specs.Replies.{reply_text}
use Rattle.tas_language.specs.declared.request.Request.{Request}
use Rattle.tas_language.specs.declared.request.Request.TheVariants.{Do, Retouch, Picture, Pictures, Ram, Digest, Lag, Inputs, Movie, States, Share, History, Version, Begin, Commit, Drop, Quit}
use Rattle.tas_language.specs.Answers.{picture_text, ram_text, frame_digest_text, lag_text, movie_text, states_text, share_text, version_text, inputs_text}
use Rattle.tas_seat.specs.Turns.{Standing, halted_reply, IsRetouchTurn, IsTurn}

-- ---- what is made and kept

-- what a history comes to, and a seat's greenzone: the movie that it was made for last, and the states that are kept
pub record TalkState : Type 0 where
  pub stands : Standing
  pub kept_for : MovieContent
  pub states : List Savestate

-- the greenzone is as it was
pub record Rests (old new : TalkState) : Type 0 where
  pub kept_for : new.kept_for ≡ old.kept_for
  pub states : new.states ≡ old.states

-- the greenzone is made for the movie, and each of its states is the movie's machine after this many frames
pub record IsGreen (state : TalkState) : Type 0 where
  pub kept_for : state.kept_for ≡ state.stands.movie
  pub lawful : IsLawful state.kept_for state.states

-- frames up to the place `end` were played, for k: the greenzone was cut for the movie, and is as if `ran` frames were played from the nearest state that was
-- left: the states on the way that stand on the grid are kept, too. `shot` played just these; a look may have played fewer, from its window
pub record Plays (old new : TalkState) (k end ran : ℕ) : Type 0 where
  pub green : IsGreen new
  pub played : IsPlayedFrom old.kept_for new.kept_for k end old.states new.states 0 ran

-- the greenzone was cut for the movie, and then gained this many other states of it
pub record Gains (old new : TalkState) : Type 0 where
  pub green : IsGreen new
  pub other : List Savestate
  pub others : IsLawful new.kept_for other
  pub gained : ℕ
  pub gain : Shares old.kept_for new.kept_for old.states other new.states gained

-- the greenzone was brought; where memory was refused, it may be as it was
abbrev pub GainsUnless : Bool → TalkState → TalkState → Type 0
GainsUnless true old new = Rests old new ⊎ Gains old new
GainsUnless false old new = Gains old new

-- what a shot leaves, by its reply: `left` says it after this many played frames, which it reports; `same` that nothing was played
abbrev pub ShotLeaves : (same : Type 0) → (left : ℕ → Type 0) → Reply → Type 0
ShotLeaves same left (Drawn made frame ran lit) = left ran
ShotLeaves same left (Halted made at opcode) = (ran : ℕ) × left ran
ShotLeaves same left _ = same

-- what `work K` leaves of it
abbrev pub WorkLeaves : TalkState → TalkState → Reply → Type 0
WorkLeaves old new (Worked jobs kept stale) = Gains old new
WorkLeaves old new _ = Rests old new

-- what a script's line leaves of it: an edit leaves it; the next shot cuts it
abbrev pub CommandLeaves : TalkState → TalkState → Command → Reply → Type 0
CommandLeaves old new (Shot k) reply = ShotLeaves (Rests old new) (Plays old new k (k + 1)) reply
CommandLeaves old new (Work k) reply = WorkLeaves old new reply
CommandLeaves old new _ reply = Rests old new

-- ---- what looks find

-- `picture K` finds the frame's pixmap, or what `shot K` is reported
abbrev pub picture_found : Standing → ℕ → Result (List ℕ) Halt → List ℕ
picture_found stands k (Ok picture) = picture_text stands.made k (ppm_bytes picture)
picture_found stands k (Err halt) = reply_text (halted_reply stands.made halt)

-- `digest K` finds the digests of RAM after frame K and of its pixmap, or what `shot K` is reported
abbrev pub digest_found : Standing → ℕ → Result (List ℕ) Halt → List ℕ
digest_found stands k (Ok picture) = frame_digest_text stands.made k (state_after stands.movie (k + 1)).riot.ram (ppm_bytes picture)
digest_found stands k (Err halt) = reply_text (halted_reply stands.made halt)

-- whether a movie of this length has the frames a to b - 1
abbrev pub has_frames : ℕ → ℕ → ℕ → Bool
has_frames len a b = nat_le a b && nat_le b len

-- the text that a look finds, where the movie has its frames: `ram K` RAM after the first K frames, halted or not; `lag A B` the lines of the stretches of
-- lag frames among the frames A to B - 1
abbrev pub look_text : Standing → Request → Option (List ℕ)
look_text stands (Picture k) = option_map (picture_found stands k) (answer_shot stands.movie k)
look_text stands (Ram k) = if nat_le k (length stands.movie.inputs) then Some (ram_text stands.made k (state_after stands.movie k).riot.ram) else None
look_text stands (Digest k) = option_map (digest_found stands k) (answer_shot stands.movie k)
look_text stands (Lag a b) = if has_frames (length stands.movie.inputs) a b then Some (lag_text stands.made a b (lag_lines_between stands.movie a b)) else None
look_text stands request = None

-- the place from which a look goes on, once the frames before it are played or found, and the place up to which it keeps states; other lines than looks
-- have none
abbrev pub look_places : Request → Option (ℕ × ℕ)
look_places (Picture k) = Some (k, k + 1)
look_places (Ram k) = Some (k, k)
look_places (Digest k) = Some (k, k + 1)
look_places (Lag a b) = Some (a, a)
look_places request = None

-- a look is answered by what it finds, and leaves something: `left` says it after this many played frames, `same` that nothing was played. Where the
-- movie hasn't the frames, it is `no frame` and nothing is played; where memory is refused, `out of memory`, and the frames may be played or not
abbrev pub IsLooked : Standing → Option (List ℕ) → (same : Type 0) → (left : ℕ → Type 0) → List ℕ → Type 0
IsLooked stands None same left answer = (answer ≡ reply_text (NoFrame stands.made (length stands.movie.inputs))) × same
IsLooked stands (Some text) same left answer =
    (((answer ≡ text) ⊎ (answer ≡ reply_text OutOfMemory)) × ((ran : ℕ) × left ran)) ⊎ ((answer ≡ reply_text OutOfMemory) × same)

-- ---- the answer to one line

-- the answer to `movie`
abbrev pub answer_to_movie : Bool → Standing → List ℕ
answer_to_movie no_memory stands = if no_memory then reply_text OutOfMemory else movie_text stands.made (text2 stands.movie)

-- `inputs A B` finds the runs of the inputs of the frames A to B - 1, where the movie has them
abbrev pub inputs_found : Standing → ℕ → ℕ → List ℕ
inputs_found stands a b =
    if has_frames (length stands.movie.inputs) a b then inputs_text stands.made a b (take (b - a) (drop a stands.movie.inputs)) else reply_text (NoFrame stands.made (length stands.movie.inputs))

abbrev pub answer_to_inputs : Bool → Standing → ℕ → ℕ → List ℕ
answer_to_inputs no_memory stands a b = if no_memory then reply_text OutOfMemory else inputs_found stands a b

-- the frames of a movie of this length, from 1 to its end, at which a state is kept
abbrev pub kept_frames : ℕ → List Savestate → List ℕ
kept_frames len kept = filter (λ f. is_some (state_at f kept)) (range_with_len 1 len)

-- the answer to `states`
abbrev pub answer_to_states : Bool → Standing → List Savestate → List ℕ
answer_to_states no_memory stands kept = if no_memory then reply_text OutOfMemory else states_text stands.made (kept_frames (length stands.movie.inputs) kept)

-- the answer to a look at what was made and kept so far, and what is made and kept then
abbrev pub IsLookAnswer : TalkState → Request → List ℕ → TalkState → Type 0
IsLookAnswer state look answer next =
    (next.stands ≡ state.stands)
    × MatchOption (look_places look) ⊥ (λ at. IsLooked state.stands (look_text state.stands look) (Rests state next) (Plays state next at.0 at.1) answer)

-- the same of `picture K`
abbrev pub IsPictureAnswer : TalkState → ℕ → List ℕ → TalkState → Type 0
IsPictureAnswer state k answer next = IsLookAnswer state (Picture k) answer next

-- a picture of a strip: its answer, and what it leaves
pub record StripAnswer (S : Type 0) : Type 0 where
  pub answer : List ℕ
  pub next : S

-- frames from `from` on are answered one after the other, each as `step` says; the last one is what all of them left
unfoldable pub AreShown : {S : Type 0} → (step : S → ℕ → List ℕ → S → Type 0) → S → ℕ → List (StripAnswer S) → S → Type 0
AreShown step first from [] last = last ≡ first
AreShown step first from (shown ∷ strip) last = step first from shown.answer shown.next × AreShown step shown.next (from + 1) strip last

-- the answers of a strip, one after the other
abbrev pub strip_answers : {S : Type 0} → List (StripAnswer S) → List ℕ
strip_answers strip = flat_map (λ shown. shown.answer) strip

-- `pictures A B` is answered so
abbrev pub IsStrip : {S : Type 0} → (step : S → ℕ → List ℕ → S → Type 0) → S → (from to : ℕ) → List ℕ → S → Type 0
IsStrip {S} step before from to answer now = (strip : List (StripAnswer S)) × (length strip ≡ to - from) × AreShown step before from strip now × (answer ≡ strip_answers strip)

-- what a request that isn't answered leaves: all as it was; or, of a strip, as its first pictures left it, fewer than it asks for
abbrev pub KeepsAll : {S : Type 0} → (step : S → ℕ → List ℕ → S → Type 0) → Request → S → S → Type 0
KeepsAll {S} step (Pictures from to) before now = (strip : List (StripAnswer S)) × (length strip < to - from) × AreShown step before from strip now
KeepsAll step request before now = now ≡ before

-- the answer to `share`, which reports how many states were gained
abbrev pub IsShareAnswer : Bool → TalkState → List ℕ → TalkState → Type 0
IsShareAnswer true state answer next = (answer ≡ reply_text OutOfMemory) × Rests state next
IsShareAnswer false state answer next = (gains : Gains state next) × (answer ≡ share_text state.stands.made gains.gained)

-- the answer to a request at some history and greenzone, and what both come to then. `pictures` and `history` aren't answered so: the pictures
-- of a strip may be answered at several histories, and the entries of a history are more than what it comes to. `begin`, `commit` and `drop` are
-- about the conversation's draft, and `quit`, which gets no answer, about its end
abbrev pub IsAnswerTo : TalkState → Request → List ℕ → TalkState → Type 0
IsAnswerTo state (Do command) answer next = (reply : Reply) × IsTurn state.stands command reply next.stands × (answer ≡ reply_text reply) × CommandLeaves state next command reply
IsAnswerTo state (Retouch retouch) answer next = (reply : Reply) × IsRetouchTurn state.stands retouch reply next.stands × (answer ≡ reply_text reply) × Rests state next
IsAnswerTo state (Picture k) answer next = IsPictureAnswer state k answer next
IsAnswerTo state (Pictures from to) answer next = ⊥
IsAnswerTo state (Ram k) answer next = IsLookAnswer state (Ram k) answer next
IsAnswerTo state (Digest k) answer next = IsLookAnswer state (Digest k) answer next
IsAnswerTo state (Lag a b) answer next = IsLookAnswer state (Lag a b) answer next × LagFramesIgnoreInput state.stands.movie
IsAnswerTo state (Inputs a b) answer next = (no_memory : Bool) × (answer ≡ answer_to_inputs no_memory state.stands a b) × (next.stands ≡ state.stands) × GainsUnless no_memory state next
IsAnswerTo state Movie answer next = (no_memory : Bool) × (answer ≡ answer_to_movie no_memory state.stands) × (next.stands ≡ state.stands) × GainsUnless no_memory state next
IsAnswerTo state States answer next = (no_memory : Bool) × (answer ≡ answer_to_states no_memory state.stands next.states) × (next.stands ≡ state.stands) × GainsUnless no_memory state next
IsAnswerTo state Share answer next = (no_memory : Bool) × IsShareAnswer no_memory state answer next × (next.stands ≡ state.stands)
IsAnswerTo state (History from) answer next = ⊥
IsAnswerTo state Version answer next = (answer ≡ version_text profile) × (next.stands ≡ state.stands) × Rests state next
IsAnswerTo state Begin answer next = ⊥
IsAnswerTo state Commit answer next = ⊥
IsAnswerTo state Drop answer next = ⊥
IsAnswerTo state Quit answer next = ⊥
