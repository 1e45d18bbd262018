-- Whatever the input of a lag frame, its next machine and its picture are the same.
use Rattle.std.proofs.Common.{◌≡◌, ℕ, zero, suc, Bool, true, false, not, ◌&&◌, ◌||◌, if◌then◌else◌, List, [], Option, Some, None, Result, Ok, Err, ◌∙◌, ap, sym, refl, subst}
use Rattle.std.proofs.lemmas.Bool.{false≢true}
use Rattle.vcs_cpu.specs.Steps.{Step}
use Rattle.vcs_cpu.specs.declared.regs.Regs.{Regs}
use Rattle.vcs_cpu.specs.declared.halt.Halt.{Halt}
use Rattle.vcs_tia.specs.declared.chip.Tia.{Tia}
use Rattle.vcs_tia.specs.Later.{drawing_of}
use Rattle.vcs_tia.specs.Tia.{frame_ended, latches_presses}
use Rattle.vcs_tia.specs.Trace.{trace, drawn}
use Rattle.vcs_tia.specs.Picture.{blank_picture}
use Rattle.vcs_tia.proofs.Later.{drawn-alike}
use Rattle.vcs_tia.proofs.Traces.{drawn-append}
use Rattle.vcs_inputs.specs.declared.input.Input.{Input}
use Rattle.vcs_machine.specs.Bus.{Observed, nothing_seen}
use Rattle.vcs_machine.specs.Step.{console_step}
use Rattle.vcs_machine.specs.Frame.{FrameEnd, end_within, end_or_next, is_frame_over}
use Rattle.vcs_machine.specs.Machine.{Machine, frame_start, machine_at_end, listed, frame_end, frame, frame_trace, frame_picture, unless_halted, listed_clocks}
use Rattle.vcs_machine.specs.Inside.Observing.{drawn-nil}
use Rattle.vcs_machine.specs.Lag.{ignores_input, last_or_next, is_ignored_within, is_lag_frame, IsSameFrame}
use Rattle.vcs_machine.proofs.AlikeSteps.{EndAlike}
use Rattle.vcs_machine.proofs.AlikeInputs.{tia_unpressed, AlikeButInput, console_step-alike}
use Rattle.vcs_machine.proofs.Observers.{seen_by, step_seen_by, result_seen_by, option_seen_by, console_step_seen_by, end_within_seen_by}
use Rattle.vcs_machine.proofs.Playing.{frame_picture-drawn}

and_parts : (p q : Bool) → (p && q) ≡ true → (p ≡ true) × (q ≡ true)
and_parts true true h = (refl, refl)
and_parts true false h = absurd (false≢true h)
and_parts false q h = absurd (false≢true h)

not_true : (b : Bool) → not b ≡ true → b ≡ false
not_true true h = absurd (false≢true h)
not_true false h = refl

-- ---- the steps of a frame

-- two ends of a frame that are alike, and no press sets a latch there
record SameEnd {Seen : Type 0} (e f : FrameEnd Seen) : Type 0 where
  regs : e.regs ≡ f.regs
  halt : e.halt ≡ f.halt
  observed : AlikeButInput e.observed f.observed
  off : latches_presses e.observed.board.tia ≡ false

abbrev EndsAlike : {Seen : Type 0} → Option (FrameEnd Seen) → Option (FrameEnd Seen) → Type 0
EndsAlike (Some e) (Some f) = SameEnd e f
EndsAlike (Some e) None = ⊥
EndsAlike None (Some f) = ⊥
EndsAlike None None = ⊥

module _ {Seen : Type 0} (observe : List Tia → Seen → Seen) (looks : (n : ℕ) (t u : Tia) (s : Seen) → drawing_of t ≡ drawing_of u → observe (trace n t) s ≡ observe (trace n u) s) where
  -- the same over and latched, or the steps go on
  if_over-alike : (over other : Bool) (e f : FrameEnd Seen) (latches next : Bool) (p q : Option (FrameEnd Seen)) → over ≡ other → (latches ≡ false → SameEnd e f) → (next ≡ true → EndsAlike p q) →
      (if over then not latches else next) ≡ true → EndsAlike (if over then Some e else p) (if other then Some f else q)
  if_over-alike true true e f latches next p q same ends on h = ends (not_true latches h)
  if_over-alike true false e f latches next p q same ends on h = absurd (false≢true (sym same))
  if_over-alike false true e f latches next p q same ends on h = absurd (false≢true same)
  if_over-alike false false e f latches next p q same ends on h = on h

  end_or_next-alike : (a b : Result (Step (Observed Seen)) Halt) (r : Regs) (x y : Observed Seen) (ignored : Step (Observed Seen) → Bool) (next : Step (Observed Seen) → Option (FrameEnd Seen)) →
      EndAlike AlikeButInput a b → AlikeButInput x y →
      ((s t : Step (Observed Seen)) → s.regs ≡ t.regs → AlikeButInput s.content t.content → ignored s ≡ true → EndsAlike (next s) (next t)) →
      last_or_next x a ignored ≡ true → EndsAlike (end_or_next a r x next) (end_or_next b r y next)
  end_or_next-alike (Ok s) (Ok t) r x y ignored next alike h on ends =
      if_over-alike (is_frame_over s.content.board.tia) (is_frame_over t.content.board.tia) (record { regs = s.regs; observed = s.content; halt = None }) (record { regs = t.regs; observed = t.content; halt = None })
      (latches_presses s.content.board.tia) (ignored s) (next s) (next t)
      (ap (λ (o : Observed Seen). is_frame_over o.board.tia) alike.content)
      (λ off. record { regs = alike.regs; halt = refl; observed = alike.content; off = off })
      (on s t alike.regs alike.content) ends
  end_or_next-alike (Ok s) (Err halt) r x y ignored next alike h on ends = absurd alike
  end_or_next-alike (Err halt) (Ok t) r x y ignored next alike h on ends = absurd alike
  end_or_next-alike (Err halt) (Err other) r x y ignored next alike h on ends =
      record { regs = refl; halt = ap (λ (e : Halt). Some e) alike; observed = h; off = not_true _ ends }

  -- steps that ignore the input end alike whatever it is
  ends-alike : (n : ℕ) (r s : Regs) (x y : Observed Seen) → r ≡ s → AlikeButInput x y → is_ignored_within observe n r x ≡ true → EndsAlike (end_within observe n r x) (end_within observe n s y)
  unfolding is_ignored_within end_within
  ends-alike zero r s x y same h ignored = absurd (false≢true ignored)
  ends-alike (suc n) r s x y same h ignored =
      let parts = and_parts (ignores_input r x.board) _ ignored in
      subst (λ (q : Regs). EndsAlike (end_or_next (console_step observe r x) r x (λ step. end_within observe n step.regs step.content)) (end_or_next (console_step observe q y) q y (λ step. end_within observe n step.regs step.content))) same
      (end_or_next-alike (console_step observe r x) (console_step observe r y) r x y (λ step. is_ignored_within observe n step.regs step.content) (λ step. end_within observe n step.regs step.content)
      (console_step-alike observe looks r x y h (not_true _ parts.0)) h (λ a b. ends-alike n a.regs b.regs a.content b.content) parts.1)

-- ---- whoever observes the steps

module _ {A B : Type 0} (a : List Tia → A → A) (b : List Tia → B → B) (f : A → B) (law : (ts : List Tia) (s : A) → f (a ts s) ≡ b ts (f s)) where
  last_or_next_seen_by : (o : Observed A) (x : Result (Step (Observed A)) Halt) (next : Step (Observed A) → Bool) (on : Step (Observed B) → Bool) → ((y : Step (Observed A)) → on (step_seen_by a b f law y) ≡ next y) →
      last_or_next (seen_by a b f law o) (result_seen_by a b f law x) on ≡ last_or_next o x next
  last_or_next_seen_by o (Ok x) next on h = ap (λ (q : Bool). if is_frame_over x.content.board.tia then not (latches_presses x.content.board.tia) else q) (h x)
  last_or_next_seen_by o (Err halt) next on h = refl

  ignored_seen_by : (n : ℕ) (r : Regs) (o : Observed A) → is_ignored_within b n r (seen_by a b f law o) ≡ is_ignored_within a n r o
  unfolding is_ignored_within
  ignored_seen_by zero r o = refl
  ignored_seen_by (suc n) r o =
      ap (λ (x : Result (Step (Observed B)) Halt). ignores_input r o.board && last_or_next (seen_by a b f law o) x (λ (y : Step (Observed B)). is_ignored_within b n y.regs y.content)) (console_step_seen_by a b f law r o)
      ∙ ap (λ (q : Bool). ignores_input r o.board && q)
      (last_or_next_seen_by o (console_step a r o) (λ y. is_ignored_within a n y.regs y.content) (λ y. is_ignored_within b n y.regs y.content) (λ y. ignored_seen_by n y.regs y.content))

-- ---- the machine and the picture

latch_kept : (latching latched : Bool) → latching ≡ false → latched ≡ (not latching && latched)
latch_kept true latched off = absurd (false≢true (sym off))
latch_kept false latched off = refl

frame_ended-unpressed : (t : Tia) → latches_presses t ≡ false → frame_ended t ≡ frame_ended (tia_unpressed t)
frame_ended-unpressed t off =
    let left = latch_kept t.fire.latching t.fire.left.latched off in
    let right = latch_kept t.fire.latching t.fire.right.latched off in
    λ i. record (frame_ended t) {
      fire = record { latching = t.fire.latching; left = record { pressed = false; latched = left i }; right = record { pressed = false; latched = right i } };
    }

frame_ended-alike : (t u : Tia) → tia_unpressed t ≡ tia_unpressed u → latches_presses t ≡ false → frame_ended t ≡ frame_ended u
frame_ended-alike t u h off =
    let same = ap latches_presses h in
    frame_ended-unpressed t off ∙ ap frame_ended h ∙ sym (frame_ended-unpressed u (sym same ∙ off))

-- the machines after two ends that are alike
same_machine : {Seen : Type 0} (m : Machine) (p q : Option (FrameEnd Seen)) → EndsAlike p q → machine_at_end m p ≡ machine_at_end m q
same_machine {Seen} m (Some e) (Some f) h =
    let riot = ap (λ (o : Observed Seen). o.board.riot) h.observed in
    let tia = frame_ended-alike e.observed.board.tia f.observed.board.tia (ap (λ (o : Observed Seen). o.board.tia) h.observed) h.off in
    λ i. record { regs = h.regs i; riot = riot i; tia = tia i; halt = h.halt i }
same_machine m (Some e) None h = absurd h
same_machine m None (Some f) h = absurd h
same_machine m None None h = absurd h

abbrev picture_seen : Option (FrameEnd (List ℕ)) → List ℕ
picture_seen None = blank_picture
picture_seen (Some e) = e.observed.seen

same_picture : (p q : Option (FrameEnd (List ℕ))) → EndsAlike p q → picture_seen p ≡ picture_seen q
same_picture (Some e) (Some f) h = ap (λ (o : Observed (List ℕ)). o.seen) h.observed
same_picture (Some e) None h = absurd h
same_picture None (Some f) h = absurd h
same_picture None None h = absurd h

-- ---- a frame as one who draws it sees it

abbrev drawing_law : (ts : List Tia) (before : List Tia) → drawn (listed ts before) blank_picture ≡ drawn ts (drawn before blank_picture)
drawing_law ts before = drawn-append before ts blank_picture

abbrev drawn_end : List ℕ → Machine → Input → Option (FrameEnd (List ℕ))
drawn_end rom m input = end_within drawn 12160 m.regs (frame_start rom m input blank_picture)

abbrev of_listed : Option (FrameEnd (List Tia)) → Option (FrameEnd (List ℕ))
of_listed p = option_seen_by listed drawn (λ ts. drawn ts blank_picture) drawing_law p

drawn_end-listed : (rom : List ℕ) (m : Machine) (input : Input) → drawn_end rom m input ≡ of_listed (frame_end rom m input)
drawn_end-listed rom m input =
    sym (ap (λ (s : List ℕ). end_within drawn 12160 m.regs (frame_start rom m input s)) (drawn-nil blank_picture))
    ∙ end_within_seen_by listed drawn (λ ts. drawn ts blank_picture) drawing_law 12160 m.regs (frame_start rom m input [])

machine-listed : (m : Machine) (p : Option (FrameEnd (List Tia))) → machine_at_end m (of_listed p) ≡ machine_at_end m p
machine-listed m None = refl
machine-listed m (Some e) = refl

picture-listed : (p : Option (FrameEnd (List Tia))) → picture_seen (of_listed p) ≡ drawn (listed_clocks p) blank_picture
picture-listed None = sym (drawn-nil blank_picture)
picture-listed (Some e) = refl

module _ (rom : List ℕ) (m : Machine) where
  frame-drawn_end : (input : Input) → m.halt ≡ None → frame rom m input ≡ machine_at_end m (drawn_end rom m input)
  unfolding frame
  frame-drawn_end input h =
      ap (λ (halt : Option Halt). unless_halted halt (machine_at_end m (frame_end rom m input)) m) h
      ∙ sym (machine-listed m (frame_end rom m input)) ∙ ap (machine_at_end m) (sym (drawn_end-listed rom m input))

  picture-drawn_end : (input : Input) → m.halt ≡ None → frame_picture rom m input ≡ picture_seen (drawn_end rom m input)
  unfolding frame_trace
  picture-drawn_end input h =
      sym (frame_picture-drawn rom m input)
      ∙ ap (λ (halt : Option Halt). drawn (unless_halted halt (listed_clocks (frame_end rom m input)) []) blank_picture) h
      ∙ sym (picture-listed (frame_end rom m input)) ∙ ap picture_seen (sym (drawn_end-listed rom m input))

  -- the frame starts alike, whatever a press latches
  latch_still : (latching latched pressed other : Bool) → (not latching && (latched || (latching && pressed))) ≡ (not latching && (latched || (latching && other)))
  latch_still true latched pressed other = refl
  latch_still false latched pressed other = refl

  starts-alike : {Seen : Type 0} (a b : Input) (s : Seen) → AlikeButInput (frame_start rom m a s) (frame_start rom m b s)
  starts-alike a b s =
      let f = m.tia.fire in
      let left = latch_still f.latching f.left.latched a.left.fire b.left.fire in
      let right = latch_still f.latching f.right.latched a.right.fire b.right.fire in
      λ i. record {
        board = record {
          rom = rom;
          pins = record { a = 0; b = 0 };
          riot = m.riot;
          tia = record m.tia {
            sync = record m.tia.sync { rose = false };
            fire = record { latching = f.latching; left = record { pressed = false; latched = left i }; right = record { pressed = false; latched = right i } };
          };
        };
        seen = s;
      }

  unhalted-law : (a b : Input) → m.halt ≡ None → is_ignored_within nothing_seen 12160 m.regs (frame_start rom m a tt) ≡ true → IsSameFrame rom m a b
  unhalted-law a b h ignored =
      let drawn_ignored = sym (ignored_seen_by drawn nothing_seen (λ picture. tt) (λ ts picture. refl) 12160 m.regs (frame_start rom m a blank_picture)) ∙ ignored in
      let start = starts-alike a b blank_picture in
      let ends = ends-alike drawn drawn-alike 12160 m.regs m.regs (frame_start rom m a blank_picture) (frame_start rom m b blank_picture) refl start drawn_ignored in
      record {
        state = frame-drawn_end a h ∙ same_machine m (drawn_end rom m a) (drawn_end rom m b) ends ∙ sym (frame-drawn_end b h);
        picture = picture-drawn_end a h ∙ same_picture (drawn_end rom m a) (drawn_end rom m b) ends ∙ sym (picture-drawn_end b h);
      }

  halted-law : (a b : Input) (halt : Halt) → m.halt ≡ Some halt → IsSameFrame rom m a b
  unfolding frame frame_trace
  halted-law a b halt h =
      let state : (input : Input) → frame rom m input ≡ m = λ input. ap (λ (o : Option Halt). unless_halted o (machine_at_end m (frame_end rom m input)) m) h in
      let clocks : (input : Input) → frame_trace rom m input ≡ [] = λ input. ap (λ (o : Option Halt). unless_halted o (listed_clocks (frame_end rom m input)) []) h in
      let picture : (input : Input) → frame_picture rom m input ≡ drawn [] blank_picture =
      λ input. sym (frame_picture-drawn rom m input) ∙ ap (λ (ts : List Tia). drawn ts blank_picture) (clocks input) in
      record { state = state a ∙ sym (state b); picture = picture a ∙ sym (picture b) }

  law-by : (halt : Option Halt) (a b : Input) → m.halt ≡ halt → is_lag_frame rom m a ≡ true → IsSameFrame rom m a b
  unfolding is_lag_frame
  law-by None a b h lag = unhalted-law a b h (sym (ap (λ (o : Option Halt). unless_halted o (is_ignored_within nothing_seen 12160 m.regs (frame_start rom m a tt)) true) h) ∙ lag)
  law-by (Some halt) a b h lag = halted-law a b halt h

  -- a lag frame is the same for every input
  pub lag_law : (input other : Input) → is_lag_frame rom m input ≡ true → IsSameFrame rom m input other
  lag_law input other = law-by m.halt input other refl
