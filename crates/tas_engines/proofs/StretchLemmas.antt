-- Stretches of lag frames, as a loop over the frames finds them.
use Rattle.std.proofs.Common.{◌≡◌, ℕ, zero, suc, ◌+◌, ◌-◌, ◌<◌, ◌≤◌, Bool, true, false, not, ◌&&◌, if◌then◌else◌, List, [], ◌++◌, length, get_or, ⊎_elim, subst, ap, sym, refl, ◌∙◌, arith}
use Rattle.std.specs.List.{range_with_len, flat_map}
use Rattle.std.proofs.Math.Bool.{and-false}
use Rattle.std.proofs.lemmas.Bool.{eq-eqb, ne_eqb, cases_lt}
use Rattle.std.proofs.lemmas.Bool.Decides.{nat_tests}
use Rattle.std.specs.Prelude.{nat_lt}
use Rattle.std.proofs.lemmas.List.{append-nil, get_or_default}
use Rattle.vcs_inputs.specs.declared.input.Input.{Input}
use Rattle.vcs_inputs.specs.Input.{no_input}
use Rattle.vcs_machine.specs.Machine.{Machine}
use Rattle.vcs_machine.specs.Lag.{is_lag_frame}
use Rattle.tas_movie.specs.Content.{MovieContent}
use Rattle.tas_green.specs.Run.{state_after}
use Rattle.tas_engines.specs.Lag.{is_lag, lag_length, begins_stretch, stretch_line, line_at, stretch_or_none}
use Rattle.tas_engines.proofs.StreamLemmas.{pieces, pieces_none, pieces_joined, pieces_more}

module _ (lag : ℕ → Bool) where
  -- all frames from a to b - 1 are lag frames
  abbrev pub AreLag : ℕ → ℕ → Type 0
  AreLag a b = (j : ℕ) → a ≤ j → j < b → lag j ≡ true

  length-all : (n a : ℕ) → AreLag a (a + n) → lag_length lag a n ≡ n
  length-all zero a all = refl
  length-all (suc n) a all =
      ap (λ (b : Bool). if b then suc (lag_length lag (a + 1) n) else 0) (all a (omega arith) (omega arith))
      ∙ ap suc (length-all n (a + 1) (λ j low high. all j (omega (arith, low)) (omega (arith, high))))

  length-until : (n m a : ℕ) → n < m → AreLag a (a + n) → lag (a + n) ≡ false → lag_length lag a m ≡ n
  length-until n zero a more all off = absurd (omega (arith, more))
  length-until zero (suc m) a more all off =
      let here : a ≡ a + 0 = omega arith in
      ap (λ (b : Bool). if b then suc (lag_length lag (a + 1) m) else 0) (ap lag here ∙ off)
  length-until (suc n) (suc m) a more all off =
      let behind : (a + 1) + n ≡ a + suc n = omega arith in
      ap (λ (b : Bool). if b then suc (lag_length lag (a + 1) m) else 0) (all a (omega arith) (omega arith))
      ∙ ap suc (length-until n m (a + 1) (omega (arith, more)) (λ j low high. all j (omega (arith, low)) (omega (arith, high))) (ap lag behind ∙ off))

  module _ (first : ℕ) where
    -- among the frames from the first one on, none that is right before frame a is one
    abbrev pub IsFresh : ℕ → Type 0
    IsFresh a = (nat_lt first a && lag (a - 1)) ≡ false

    pub fresh-first : IsFresh first
    fresh-first =
        let no : nat_lt first first ≡ false = grind (arith, nat_tests) in ap (λ (b : Bool). b && lag (first - 1)) no

    pub fresh-after : (k : ℕ) → lag k ≡ false → IsFresh (k + 1)
    fresh-after k off =
        let back : (k + 1) - 1 ≡ k = omega arith in
        ap (λ (n : ℕ). nat_lt first (k + 1) && lag n) back ∙ ap (λ (b : Bool). nat_lt first (k + 1) && b) off ∙ and-false (nat_lt first (k + 1))

    begins : (a : ℕ) → IsFresh a → lag a ≡ true → begins_stretch lag first a ≡ true
    begins a fresh on = ap (λ (b : Bool). lag a && not b) fresh ∙ ap (λ (b : Bool). b && true) on

    goes_on : (a : ℕ) → first ≤ a → lag a ≡ true → begins_stretch lag first (a + 1) ≡ false
    goes_on a low on =
        let yes : nat_lt first (a + 1) ≡ true = grind (arith, nat_tests) in
        let back : (a + 1) - 1 ≡ a = omega arith in
        ap (λ (b : Bool). lag (a + 1) && not (b && lag ((a + 1) - 1))) yes ∙ ap (λ (n : ℕ). lag (a + 1) && not (lag n)) back
        ∙ ap (λ (b : Bool). lag (a + 1) && not b) on ∙ and-false (lag (a + 1))

    off_here : (a : ℕ) → lag a ≡ false → begins_stretch lag first a ≡ false
    off_here a off = ap (λ (b : Bool). b && not (nat_lt first a && lag (a - 1))) off

    module _ (to : ℕ) where
      pub none_at : (a : ℕ) → lag a ≡ false → line_at lag first to a ≡ []
      none_at a off = ap (λ (b : Bool). if b then stretch_line a (a + lag_length lag a (to - a)) else []) (off_here a off)

      -- after a lag frame no stretch begins
      alone : (n a : ℕ) → first ≤ a → AreLag a (a + n) → pieces (line_at lag first to) a ((a + 1) + n) ≡ line_at lag first to a
      alone zero a low all =
          let here : (a + 1) + 0 ≡ a + 1 = omega arith in
          ap (pieces (line_at lag first to) a) here ∙ sym (pieces_more (line_at lag first to) a a (omega arith))
          ∙ ap (λ (xs : List ℕ). xs ++ line_at lag first to a) (sym (pieces_none (line_at lag first to) a))
      alone (suc n) a low all =
          let next : (a + 1) + suc n ≡ ((a + 1) + n) + 1 = omega arith in
          let last : (a + 1) + n ≡ (a + n) + 1 = omega arith in
          let none : line_at lag first to ((a + 1) + n) ≡ [] =
          ap (line_at lag first to) last
          ∙ ap (λ (b : Bool). if b then stretch_line ((a + n) + 1) (((a + n) + 1) + lag_length lag ((a + n) + 1) (to - ((a + n) + 1))) else []) (goes_on (a + n) (omega (arith, low)) (all (a + n) (omega arith) (omega arith))) in
          ap (pieces (line_at lag first to) a) next ∙ sym (pieces_more (line_at lag first to) a ((a + 1) + n) (omega arith))
          ∙ ap (λ (xs : List ℕ). pieces (line_at lag first to) a ((a + 1) + n) ++ xs) none ∙ append-nil (pieces (line_at lag first to) a ((a + 1) + n))
          ∙ alone n a low (λ j from high. all j from (omega (arith, high)))

      -- this many lag frames from a on, and then the end or a frame that isn't one
      stretch-by : (n a : ℕ) → first ≤ a → AreLag a (a + n) → IsFresh a → lag_length lag a (to - a) ≡ n → pieces (line_at lag first to) a (a + n) ≡ stretch_or_none a (a + n)
      stretch-by zero a low all fresh size =
          let here : a + 0 ≡ a = omega arith in
          ap (pieces (line_at lag first to) a) here ∙ sym (pieces_none (line_at lag first to) a)
          ∙ sym (ap (λ (b : Bool). if b then [] else stretch_line a (a + 0)) (eq-eqb a (a + 0) (sym here)))
      stretch-by (suc n) a low all fresh size =
          let here : a + suc n ≡ (a + 1) + n = omega arith in
          ap (pieces (line_at lag first to) a) here ∙ alone n a low (λ j from high. all j from (omega (arith, high)))
          ∙ ap (λ (b : Bool). if b then stretch_line a (a + lag_length lag a (to - a)) else []) (begins a fresh (all a (omega arith) (omega arith)))
          ∙ ap (λ (k : ℕ). stretch_line a (a + k)) size
          ∙ sym (ap (λ (b : Bool). if b then [] else stretch_line a (a + suc n)) (ne_eqb a (a + suc n) (λ e. omega (arith, e))))

      -- a stretch that a frame ends which isn't a lag frame
      pub stretch-closed : (a b : ℕ) → first ≤ a → a ≤ b → b < to → AreLag a b → IsFresh a → lag b ≡ false → pieces (line_at lag first to) a b ≡ stretch_or_none a b
      stretch-closed a b low order within all fresh off =
          let end : a + (b - a) ≡ b = omega (arith, order) in
          let size = length-until (b - a) (to - a) a (omega (arith, order, within)) (λ j from high. all j from (omega (arith, high, order))) (ap lag end ∙ off) in
          ap (pieces (line_at lag first to) a) (sym end) ∙ stretch-by (b - a) a low (λ j from high. all j from (omega (arith, high, order))) fresh size ∙ ap (stretch_or_none a) end

      -- the stretch that the last frame ends
      pub stretch-last : (a : ℕ) → first ≤ a → a ≤ to → AreLag a to → IsFresh a → pieces (line_at lag first to) a to ≡ stretch_or_none a to
      stretch-last a low order all fresh =
          let end : a + (to - a) ≡ to = omega (arith, order) in
          let size = length-all (to - a) a (λ j from high. all j from (omega (arith, high, order))) in
          ap (pieces (line_at lag first to) a) (sym end) ∙ stretch-by (to - a) a low (λ j from high. all j from (omega (arith, high, order))) fresh size ∙ ap (stretch_or_none a) end

-- what was found of frame k is what the movie says of it
pub lag_at : (movie : MovieContent) (k : ℕ) (s : Machine) (d : Input) (found : Bool) → found ≡ is_lag_frame movie.cart s (get_or movie.inputs k d) → s ≡ state_after movie k →
    k < length movie.inputs → found ≡ is_lag movie k
lag_at movie k s d found is start within =
    is ∙ ap (λ (m : Machine). is_lag_frame movie.cart m (get_or movie.inputs k d)) start
    ∙ ap (is_lag_frame movie.cart (state_after movie k)) (get_or_default movie.inputs k d no_input within)

-- one lag frame more
pub lag_more : (lag : ℕ → Bool) (a k : ℕ) → AreLag lag a k → lag k ≡ true → AreLag lag a (k + 1)
lag_more lag a k all on = λ j low high. ⊎_elim (λ (before : j < k). all j low before) (λ (here : k ≤ j). let same : j ≡ k = omega (arith, here, high) in ap lag same ∙ on) (cases_lt j k)

-- what a loop over the frames from `first` to `to` - 1 knows before frame k: the lines of the stretches before the one that began at `start`
pub record IsOnTheWay (lag : ℕ → Bool) (first to start k : ℕ) (text : List ℕ) : Type 0 where
  pub lines : text ≡ pieces (line_at lag first to) first start
  pub low : first ≤ start
  pub order : start ≤ k
  pub all : AreLag lag start k
  pub fresh : IsFresh lag first start

-- nothing is found yet
pub nothing_found : (lag : ℕ → Bool) (first to : ℕ) (text : List ℕ) → text ≡ [] → IsOnTheWay lag first to first first text
nothing_found lag first to text none = record {
  lines = none ∙ pieces_none (line_at lag first to) first;
  low = omega arith;
  order = omega arith;
  all = λ j from high. absurd (omega (arith, from, high));
  fresh = fresh-first lag first;
}

module _ (lag : ℕ → Bool) (first to start k : ℕ) (text : List ℕ) (way : IsOnTheWay lag first to start k text) where
  -- the line of the stretch that frame k ends
  with_line : (stretch : List ℕ) (end : ℕ) → start ≤ end → pieces (line_at lag first to) start end ≡ stretch → text ++ stretch ≡ pieces (line_at lag first to) first end
  with_line stretch end order is =
      ap (λ (xs : List ℕ). xs ++ stretch) way.lines ∙ ap (λ (xs : List ℕ). pieces (line_at lag first to) first start ++ xs) (sym is)
      ∙ pieces_joined (line_at lag first to) first start end way.low order

  further-by : (found : Bool) → found ≡ lag k → k < to →
      IsOnTheWay lag first to (if found then start else k + 1) (k + 1) (text ++ (if found then [] else stretch_or_none start k))
  further-by true is within =
      let order = way.order in
      record {
        lines = append-nil text ∙ way.lines;
        low = way.low;
        order = omega (arith, order);
        all = lag_more lag start k way.all (sym is);
        fresh = way.fresh;
      }
  further-by false is within =
      let order = way.order in
      let low = way.low in
      let closed = stretch-closed lag first to start k low order within way.all way.fresh (sym is) in
      let behind : first ≤ k = omega (arith, order, low) in
      record {
        lines = with_line (stretch_or_none start k) k order closed ∙ sym (append-nil (pieces (line_at lag first to) first k))
            ∙ ap (λ (xs : List ℕ). pieces (line_at lag first to) first k ++ xs) (sym (none_at lag first to k (sym is))) ∙ pieces_more (line_at lag first to) first k behind;
        low = omega (arith, order, low);
        order = omega arith;
        all = λ j from high. absurd (omega (arith, from, high));
        fresh = fresh-after lag first k (sym is);
      }

  -- a frame more
  pub further : (found : Bool) (next : ℕ) (new : List ℕ) → found ≡ lag k → k < to → next ≡ (if found then start else k + 1) →
      new ≡ text ++ (if found then [] else stretch_or_none start k) → IsOnTheWay lag first to next (k + 1) new
  further found next new is within starts line =
      subst (λ (n : ℕ). IsOnTheWay lag first to n (k + 1) new) (sym starts)
      (subst (λ (xs : List ℕ). IsOnTheWay lag first to (if found then start else k + 1) (k + 1) xs) (sym line) (further-by found is within))

  -- all frames are done
  pub finished : k ≡ to → text ++ stretch_or_none start to ≡ flat_map (line_at lag first to) (range_with_len first (to - first))
  finished end =
      let before = way.order in
      let order : start ≤ to = omega (arith, before, end) in
      with_line (stretch_or_none start to) to order (stretch-last lag first to start way.low order (λ j from high. way.all j from (omega (arith, high, end))) way.fresh)
