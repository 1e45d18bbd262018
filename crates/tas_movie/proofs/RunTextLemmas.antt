-- The text of runs.
use Rattle.std.proofs.Common.{◌≡◌, ℕ, zero, suc, ◌+◌, ◌-◌, ◌%◌, ◌^◌, ◌<◌, ◌≤◌, ◌⊎◌, inl, inr, ⊎_elim, Bool, true, false, not, ◌&&◌, cond, eqb, List, [], ◌∷◌, ◌++◌, length, get_or, take, drop, Option, Some, None, refl, sym, ap, subst, ◌∙◌, arith, append_assoc}
use Rattle.std.specs.Prelude.{codes, decimal, replicate, slice_get, nat_le, nat_lt}
use Rattle.std.specs.List.{flat_map}
use Rattle.std.specs.Str.{all_ascii_digits}
use Rattle.std.specs.Str.Parse.{digits_value}
use Rattle.std.proofs.lemmas.Bool.{both_ways, cases_Bool, cases_eq, eqb-true, eqb-false, false≢true, ne_eqb, not-true, and_parts, and_from, le-leb, lt-leb, leb-true, lt-ltb, le-ltb}
use Rattle.std.proofs.lemmas.Fmt.{decimal-digits_value, digits_decimal, digits_value-decimal, first_decimal, decimal_by_steps, decimal_injective, decimal_is_IsNumeral}
use Rattle.std.proofs.lemmas.List.{length-append, length-replicate, take-append-drop, take_all, flat_map_more}
use Rattle.std.proofs.lemmas.Str.Parse.{IsNumeralModel, numerals_by_value, tells_all_ascii_digits}
use Rattle.vcs_inputs.specs.declared.input.Input.{Input}
use Rattle.vcs_inputs.specs.Input.{are_same_inputs}
use Rattle.tas_movie.specs.declared.error.TextErrorKind.{TextErrorKind}
use Rattle.tas_movie.specs.declared.error.TextErrorKind.TheVariants.{Frame, End, TooMany, Run}
use Rattle.tas_movie.specs.declared.run.FrameRun.{FrameRun}
use Rattle.tas_movie.specs.Content.{most_inputs}
use Rattle.tas_movie.specs.Runs.{run_inputs, runs_of, BeginOtherwise, AreLongest}
use Rattle.tas_movie.specs.Text.{line, frame_text, count_text, run_text, run_line}
use Rattle.tas_movie.specs.Fault.{SplitLines, split_lines, shown_input, is_frame, shown_count, shown_run, is_many, is_count, is_run, is_repeated, IsRunLine, run_fault, fault_at, fault_or, runs_fault, fault_by}
use Rattle.tas_movie.proofs.RunLemmas.{equal_same, apart_same, runs_longest, runs_made, runs_more, run_is_last, length-runs}
use Rattle.tas_movie.proofs.TextLemmas.{NoBreak, NoBreak-push, NoBreak-append, split_lines-line, input_read, frame_shown, is_frame-frame, frame_no_break}

-- ---- the line of a run

count_more : (n : ℕ) → 2 ≤ n → count_text n ≡ 32 ∷ 120 ∷ decimal n
count_more n le = ap (λ (b : Bool). cond b [] (codes " x" ++ decimal n)) (ne_eqb n 1 (λ e. omega arith))

one_or_more : (n : ℕ) → 1 ≤ n → (n ≡ 1) ⊎ (2 ≤ n)
one_or_more n le = ⊎_elim (λ e. inl e) (λ ne. inr (omega arith)) (cases_eq n 1)

count_shown : (n : ℕ) → 1 ≤ n → n < 2 ^ 64 → shown_count (count_text n) ≡ n
count_shown n le lt =
    ⊎_elim (λ (e : n ≡ 1). subst (λ (m : ℕ). shown_count (count_text m) ≡ m) (sym e) refl)
    (λ (more : 2 ≤ n). ap shown_count (count_more n more) ∙ (decimal_is_IsNumeral n lt).1)
    (one_or_more n le)

run_by_fields : (i j : Input) (m n : ℕ) → i ≡ j → m ≡ n → ◌≡◌ {A = FrameRun} (record { input = i; count = m }) (record { input = j; count = n })
run_by_fields i j m n p q = cc

-- a line shows the run that it says
pub run_shown : (l : List ℕ) (r : FrameRun) → IsRunLine l r → shown_run l ≡ r
run_shown l r said =
    ap shown_run said.0
    ∙ run_by_fields _ r.input _ r.count (input_read r.input (count_text r.count)) (count_shown r.count said.1 (omega (arith, said.2)))

own_digits : IsNumeralModel (λ (ds : List ℕ). all_ascii_digits ds ≡ true) (digits_value 10)
own_digits = numerals_by_value _ tells_all_ascii_digits

many_decimal : (n : ℕ) → 2 ≤ n → n ≤ most_inputs → is_many (decimal n) ≡ true
many_decimal n more few =
    let small : n < 2 ^ 64 = omega (arith, few) in
    let value : digits_value 10 (decimal n) ≡ n = digits_value-decimal own_digits n small in
    let first = first_decimal n (omega (arith, more)) small in
    and_from _ _ (and_from _ _ (digits_decimal own_digits n small) (ap (λ (b : Bool). not b) (ne_eqb (get_or (decimal n) 0 0) 48 (λ e. omega (arith, e, first)))))
    (and_from _ _ (le-leb 2 (digits_value 10 (decimal n)) (omega (arith, value, more))) (le-leb (digits_value 10 (decimal n)) most_inputs (omega (arith, value, few))))

many_digits : (ds : List ℕ) → 2 ≤ digits_value 10 ds → 0 < length ds
many_digits [] more = absurd (omega (arith, more))
many_digits (d ∷ ds) more = omega arith

many_back : (ds : List ℕ) → is_many ds ≡ true → (decimal (digits_value 10 ds) ≡ ds) × (2 ≤ digits_value 10 ds) × (digits_value 10 ds ≤ most_inputs)
many_back ds h =
    let both = and_parts (all_ascii_digits ds && not (eqb (get_or ds 0 0) 48)) (nat_le 2 (digits_value 10 ds) && nat_le (digits_value 10 ds) most_inputs) h in
    let digits = and_parts (all_ascii_digits ds) (not (eqb (get_or ds 0 0) 48)) both.0 in
    let counts = and_parts (nat_le 2 (digits_value 10 ds)) (nat_le (digits_value 10 ds) most_inputs) both.1 in
    let more = leb-true 2 (digits_value 10 ds) counts.0 in
    let few = leb-true (digits_value 10 ds) most_inputs counts.1 in (
      decimal-digits_value own_digits ds digits.0 (many_digits ds more) (λ e. absurd (eqb-false (get_or ds 0 0) 48 (not-true _ digits.1) e)) (omega (arith, few)),
      more,
      few,
    )

count_said : (n : ℕ) → 1 ≤ n → n ≤ most_inputs → is_count (count_text n) ≡ true
count_said n le few =
    ⊎_elim (λ (e : n ≡ 1). subst (λ (m : ℕ). is_count (count_text m) ≡ true) (sym e) refl)
    (λ (more : 2 ≤ n). ap is_count (count_more n more) ∙ many_decimal n more few)
    (one_or_more n le)

count_back : (l : List ℕ) → is_count l ≡ true → (l ≡ count_text (shown_count l)) × (1 ≤ shown_count l) × (shown_count l ≤ most_inputs)
count_back [] h = (refl, omega arith, omega arith)
count_back (a ∷ []) h = absurd (false≢true h)
count_back (a ∷ b ∷ ds) h =
    let both = and_parts (eqb a 32 && eqb b 120) (is_many ds) h in
    let letters = and_parts (eqb a 32) (eqb b 120) both.0 in
    let many = many_back ds both.1 in
    let front : a ∷ b ∷ ds ≡ 32 ∷ 120 ∷ ds = ap (λ (x : ℕ). x ∷ b ∷ ds) (eqb-true a 32 letters.0) ∙ ap (λ (x : ℕ). 32 ∷ x ∷ ds) (eqb-true b 120 letters.1) in (
      front ∙ ap (λ (x : List ℕ). 32 ∷ 120 ∷ x) (sym many.0) ∙ sym (count_more (digits_value 10 ds) many.1),
      omega (arith, many.1),
      many.2,
    )

is_run_true : (l : List ℕ) (r : FrameRun) → IsRunLine l r → is_run l ≡ true
is_run_true l r said = ap is_run said.0 ∙ and_from _ _ (is_frame-frame (frame_text r.input) r.input refl) (count_said r.count said.1 said.2)

is_run_false : (l : List ℕ) → ((r : FrameRun) → IsRunLine l r → ⊥) → is_run l ≡ false
is_run_false l never = ⊎_elim (λ t. absurd (never (shown_run l) (says t))) (λ f. f) (cases_Bool (is_run l))
  where
    says : is_run l ≡ true → IsRunLine l (shown_run l)
    says t =
        let both = and_parts (is_frame (take 17 l)) (is_count (drop 17 l)) t in
        let count = count_back (drop 17 l) both.1 in
        let i : Input = shown_input (take 17 l) in
        let whole : l ≡ frame_text i ++ drop 17 l = sym (take-append-drop 17 l) ∙ ap (λ (x : List ℕ). x ++ drop 17 l) (sym (frame_shown (take 17 l) both.0)) in
        let input : shown_input l ≡ i = ap shown_input whole ∙ input_read i (drop 17 l) in (
          whole ∙ ap (λ (j : Input). frame_text j ++ drop 17 l) (sym input) ∙ ap (λ (x : List ℕ). frame_text (shown_input l) ++ x) count.0,
          count.1,
          count.2,
        )

-- ---- what is wrong with a line

abbrev by_tests : Bool → Bool → Bool → Bool → Option TextErrorKind
by_tests full run repeated over = cond full (Some TooMany) (cond (not run) (Some Frame) (cond repeated (Some Run) (cond over (Some TooMany) None)))

tested : (before : List Input) (l : List ℕ) (full run repeated over : Bool) → nat_le most_inputs (length before) ≡ full → is_run l ≡ run
    → is_repeated (slice_get before (length before - 1)) (shown_run l).input ≡ repeated → nat_lt most_inputs (length before + (shown_run l).count) ≡ over
    → run_fault before l ≡ by_tests full run repeated over
unfolding run_fault
tested before l full run repeated over p q r s =
    let is : Bool = is_repeated (slice_get before (length before - 1)) (shown_run l).input in
    let many : Bool = nat_lt most_inputs (length before + (shown_run l).count) in
    ap (λ (b : Bool). by_tests b (is_run l) is many) p ∙ ap (λ (b : Bool). by_tests full b is many) q ∙ ap (λ (b : Bool). by_tests full run b many) r ∙ ap (λ (b : Bool). by_tests full run repeated b) s

pub run_too_many : (before : List Input) (l : List ℕ) → most_inputs ≤ length before → run_fault before l ≡ Some TooMany
run_too_many before l le = tested before l true _ _ _ (le-leb most_inputs (length before) le) refl refl refl

pub run_wrong : (before : List Input) (l : List ℕ) → length before < most_inputs → ((r : FrameRun) → IsRunLine l r → ⊥) → run_fault before l ≡ Some Frame
run_wrong before l lt never = tested before l false false _ _ (lt-leb most_inputs (length before) lt) (is_run_false l never) refl refl

pub run_repeated : (before : List Input) (l : List ℕ) (r : FrameRun) → length before < most_inputs → IsRunLine l r → is_repeated (slice_get before (length before - 1)) r.input ≡ true → run_fault before l ≡ Some Run
run_repeated before l r lt said is =
    let shown : shown_run l ≡ r = run_shown l r said in
    tested before l false true true _ (lt-leb most_inputs (length before) lt) (is_run_true l r said)
    (ap (λ (q : FrameRun). is_repeated (slice_get before (length before - 1)) q.input) shown ∙ is) refl

pub run_over : (before : List Input) (l : List ℕ) (r : FrameRun) → length before < most_inputs → IsRunLine l r → is_repeated (slice_get before (length before - 1)) r.input ≡ false
    → most_inputs < length before + r.count → run_fault before l ≡ Some TooMany
run_over before l r lt said other over =
    let shown : shown_run l ≡ r = run_shown l r said in
    let count : (shown_run l).count ≡ r.count = ap (λ (q : FrameRun). q.count) shown in
    tested before l false true false true (lt-leb most_inputs (length before) lt) (is_run_true l r said)
    (ap (λ (q : FrameRun). is_repeated (slice_get before (length before - 1)) q.input) shown ∙ other)
    (lt-ltb most_inputs (length before + (shown_run l).count) (omega (arith, count, over)))

pub run_right : (before : List Input) (l : List ℕ) (r : FrameRun) → IsRunLine l r → is_repeated (slice_get before (length before - 1)) r.input ≡ false
    → length before + r.count ≤ most_inputs → run_fault before l ≡ None
run_right before l r said other few =
    let shown : shown_run l ≡ r = run_shown l r said in
    let count : (shown_run l).count ≡ r.count = ap (λ (q : FrameRun). q.count) shown in
    tested before l false true false false (lt-leb most_inputs (length before) (omega (arith, few, said.1))) (is_run_true l r said)
    (ap (λ (q : FrameRun). is_repeated (slice_get before (length before - 1)) q.input) shown ∙ other)
    (le-ltb most_inputs (length before + (shown_run l).count) (omega (arith, count, few)))

-- ---- lines, one after the other

pub runs_go_on : (number : ℕ) (before : List Input) (rest l after : List ℕ) (r : FrameRun) → split_lines rest ≡ record { lines = l ∷ (split_lines after).lines; rest = (split_lines after).rest } → IsRunLine l r
    → run_fault before l ≡ None → fault_by (runs_fault number before) rest ≡ fault_by (runs_fault (number + 1) (before ++ run_inputs r)) after
unfolding runs_fault
runs_go_on number before rest l after r is said none =
    ap (λ (x : SplitLines). runs_fault number before x.lines x.rest) is
    ∙ ap (λ (o : Option TextErrorKind). fault_or number o (fault_by (runs_fault (number + 1) (before ++ run_inputs (shown_run l))) after)) none
    ∙ ap (λ (q : FrameRun). fault_by (runs_fault (number + 1) (before ++ run_inputs q)) after) (run_shown l r said)

pub runs_stop : (number : ℕ) (before : List Input) (rest l after : List ℕ) (kind : TextErrorKind) → split_lines rest ≡ record { lines = l ∷ (split_lines after).lines; rest = (split_lines after).rest }
    → run_fault before l ≡ Some kind → fault_by (runs_fault number before) rest ≡ fault_at number kind
unfolding runs_fault
runs_stop number before rest l after kind is found =
    ap (λ (x : SplitLines). runs_fault number before x.lines x.rest) is
    ∙ ap (λ (o : Option TextErrorKind). fault_or number o (fault_by (runs_fault (number + 1) (before ++ run_inputs (shown_run l))) after)) found

pub runs_unended : (number : ℕ) (before : List Input) (rest : List ℕ) → split_lines rest ≡ record { lines = []; rest = rest } → (length rest ≡ 0 → ⊥) → fault_by (runs_fault number before) rest ≡ fault_at number End
unfolding runs_fault
runs_unended number before [] is ne = absurd (ne refl)
runs_unended number before (b ∷ rest) is ne = ap (λ (x : SplitLines). runs_fault number before x.lines x.rest) is

pub runs_end : (number : ℕ) (before : List Input) (rest : List ℕ) → length rest ≡ 0 → fault_by (runs_fault number before) rest ≡ None
unfolding runs_fault split_lines
runs_end number before [] e = refl
runs_end number before (b ∷ rest) e = absurd (omega arith)

-- the last frame isn't the run's
apart_last : (old : List Input) (i : Input) → is_repeated (slice_get old (length old - 1)) i ≡ false → slice_get old (length old - 1) ≡ Some i → ⊥
apart_last old i off e = both_ways (are_same_inputs i i) (ap (λ (o : Option Input). is_repeated o i) (sym e) ∙ off) (equal_same i i refl)

-- a run more is read
pub runs_read : (bytes : List ℕ) (old new : List Input) (rest l after : List ℕ) (r : FrameRun) → bytes ≡ flat_map run_line (runs_of old) ++ rest → rest ≡ line l ++ after → IsRunLine l r
    → is_repeated (slice_get old (length old - 1)) r.input ≡ false → new ≡ old ++ run_inputs r → bytes ≡ flat_map run_line (runs_of new) ++ after
runs_read bytes old new rest l after r is rest-is said other new-is =
    is ∙ ap (λ (q : List ℕ). flat_map run_line (runs_of old) ++ q) (rest-is ∙ ap (λ (x : List ℕ). line x ++ after) said.0)
    ∙ sym (append_assoc (flat_map run_line (runs_of old)) (run_line r) after)
    ∙ ap (λ (q : List ℕ). q ++ after) (flat_map_more run_line [] (runs_of old) r ∙ ap (flat_map run_line) (sym (runs_more old r said.1 (apart_last old r.input other)) ∙ ap runs_of (sym new-is)))

-- no run is read yet
pub none_read : (list : List Input) (bytes : List ℕ) → list ≡ [] → bytes ≡ flat_map run_line (runs_of list) ++ bytes
unfolding runs_of
none_read list bytes none = ap (λ (l : List Input). flat_map run_line (runs_of l) ++ bytes) (sym none)

-- ---- a text has no fault

decimal_no_break : (n : ℕ) → n < 2 ^ 64 → NoBreak (decimal n)
decimal_no_break n lt = decimal_by_steps (λ m ds. NoBreak ds)
    (λ m small. ((λ (e : 48 + m ≡ 10). omega arith), tt))
    (λ m ds big h. NoBreak-push ds (48 + m % 10) h (λ (e : 48 + m % 10 ≡ 10). omega arith)) n lt

count_no_break : (n : ℕ) → 1 ≤ n → n < 2 ^ 64 → NoBreak (count_text n)
count_no_break n le lt =
    ⊎_elim (λ (e : n ≡ 1). subst (λ (m : ℕ). NoBreak (count_text m)) (sym e) tt)
    (λ (more : 2 ≤ n). subst NoBreak (sym (count_more n more)) ((λ (e : ◌≡◌ {A = ℕ} 32 10). omega (arith, e)), ((λ (e : ◌≡◌ {A = ℕ} 120 10). omega (arith, e)), decimal_no_break n lt)))
    (one_or_more n le)

run_no_break : (r : FrameRun) → 1 ≤ r.count → r.count ≤ most_inputs → NoBreak (run_text r)
run_no_break r le few = NoBreak-append (frame_text r.input) (count_text r.count) (frame_no_break r.input) (count_no_break r.count le (omega (arith, few)))

-- the first run isn't of the last frame
abbrev Goes : List Input → List FrameRun → Type 0
Goes before [] = Unit {0}
Goes before (r ∷ rs) = is_repeated (slice_get before (length before - 1)) r.input ≡ false

goes_on : (before : List Input) (r : FrameRun) (rs : List FrameRun) → 1 ≤ r.count → BeginOtherwise r.input rs → Goes (before ++ run_inputs r) rs
unfolding BeginOtherwise
goes_on before r [] le h = tt
goes_on before r (q ∷ rs) le h = ap (λ (o : Option Input). is_repeated o q.input) (run_is_last before r le) ∙ apart_same r.input q.input h

length-behind : (before : List Input) (r : FrameRun) → length (before ++ run_inputs r) ≡ length before + r.count
length-behind before r = omega (arith, length-append before (run_inputs r), length-replicate r.count r.input)

runs_right : (number : ℕ) (before : List Input) (rs : List FrameRun) → AreLongest rs → Goes before rs → length before + length (flat_map run_inputs rs) ≤ most_inputs
    → fault_by (runs_fault number before) (flat_map run_line rs) ≡ None
unfolding AreLongest
runs_right number before [] h goes le = runs_end number before [] refl
runs_right number before (r ∷ rs) h goes le =
    let more = length-runs r rs in
    let few : r.count ≤ most_inputs = omega (arith, more, le) in
    let said : IsRunLine (run_text r) r = (refl, h.0, few) in
    let tail : List ℕ = flat_map run_line rs in
    runs_go_on number before (flat_map run_line (r ∷ rs)) (run_text r) tail r
    (ap split_lines (append_assoc (run_text r) (10 ∷ []) tail) ∙ split_lines-line (run_text r) tail (run_no_break r h.0 few)) said
    (run_right before (run_text r) r said goes (omega (arith, more, le)))
    ∙ runs_right (number + 1) (before ++ run_inputs r) rs h.2 (goes_on before r rs h.0 h.1) (omega (arith, more, le, length-behind before r))

goes_first : (rs : List FrameRun) → Goes [] rs
goes_first [] = tt
goes_first (r ∷ rs) = refl

pub inputs_right : (inputs : List Input) → length inputs ≤ most_inputs → fault_by (runs_fault 3 []) (flat_map run_line (runs_of inputs)) ≡ None
inputs_right inputs le = runs_right 3 [] (runs_of inputs) (runs_longest inputs) (goes_first (runs_of inputs)) (let whole = ap length (runs_made inputs) in omega (arith, whole, le))

-- ---- one text has one list of runs

same_line : (a b x y : List ℕ) → NoBreak a → NoBreak b → a ++ 10 ∷ x ≡ b ++ 10 ∷ y → (a ≡ b) × (x ≡ y)
same_line [] [] x y ha hb e = let t : x ≡ y = cc in (refl, t)
same_line [] (k ∷ b) x y ha hb e = let t : k ≡ 10 = cc in absurd (hb.0 t)
same_line (k ∷ a) [] x y ha hb e = let t : k ≡ 10 = cc in absurd (ha.0 t)
same_line (k ∷ a) (m ∷ b) x y ha hb e =
    let head : k ≡ m = cc in
    let tail : a ++ 10 ∷ x ≡ b ++ 10 ∷ y = cc in
    let both = same_line a b x y ha.1 hb.1 tail in
    let front : a ≡ b = both.0 in
    let whole : k ∷ a ≡ m ∷ b = cc in
    (whole, both.1)

runs_same : (rs qs : List FrameRun) → AreLongest rs → AreLongest qs → length (flat_map run_inputs rs) ≤ most_inputs → length (flat_map run_inputs qs) ≤ most_inputs
    → flat_map run_line rs ≡ flat_map run_line qs → rs ≡ qs
unfolding AreLongest
runs_same [] [] h k few less e = refl
runs_same [] (q ∷ qs) h k few less e = absurd cc
runs_same (r ∷ rs) [] h k few less e = absurd cc
runs_same (r ∷ rs) (q ∷ qs) h k few less e =
    let more = length-runs r rs in
    let others = length-runs q qs in
    let fits : r.count ≤ most_inputs = omega (arith, more, few) in
    let holds : q.count ≤ most_inputs = omega (arith, others, less) in
    let lines : run_text r ++ 10 ∷ flat_map run_line rs ≡ run_text q ++ 10 ∷ flat_map run_line qs =
    sym (append_assoc (run_text r) (10 ∷ []) (flat_map run_line rs)) ∙ e ∙ append_assoc (run_text q) (10 ∷ []) (flat_map run_line qs) in
    let both = same_line (run_text r) (run_text q) (flat_map run_line rs) (flat_map run_line qs) (run_no_break r h.0 fits) (run_no_break q k.0 holds) lines in
    let first : r ≡ q = sym (run_shown (run_text r) r (refl, h.0, fits)) ∙ ap shown_run both.0 ∙ run_shown (run_text q) q (refl, k.0, holds) in
    let rest : rs ≡ qs = runs_same rs qs h.2 k.2 (omega (arith, more, few)) (omega (arith, others, less)) both.1 in
    ap (λ (x : FrameRun). x ∷ rs) first ∙ ap (λ (l : List FrameRun). q ∷ l) rest

pub inputs_same : (a b : List Input) → length a ≤ most_inputs → length b ≤ most_inputs → flat_map run_line (runs_of a) ≡ flat_map run_line (runs_of b) → a ≡ b
inputs_same a b few less e =
    let one = ap length (runs_made a) in
    let other = ap length (runs_made b) in
    sym (runs_made a)
    ∙ ap (flat_map run_inputs) (runs_same (runs_of a) (runs_of b) (runs_longest a) (runs_longest b) (omega (arith, one, few)) (omega (arith, other, less)) e)
    ∙ runs_made b

-- ---- what stands after a frame

pub count_is : (bytes : List ℕ) (n : ℕ) → bytes ≡ count_text n → 1 ≤ n → (length bytes ≡ 0 → ⊥) → (2 ≤ n) × (bytes ≡ 32 ∷ 120 ∷ decimal n)
count_is bytes n is le some =
    ⊎_elim (λ (e : n ≡ 1). absurd (some (ap length (is ∙ ap count_text e)))) (λ (more : 2 ≤ n). (more, is ∙ count_more n more)) (one_or_more n le)

pub no_count : (bytes : List ℕ) → length bytes ≡ 0 → bytes ≡ count_text 1
no_count [] e = refl
no_count (b ∷ bytes) e = absurd (omega arith)

-- ---- a frame and what stands after it

pub run_made : (l letters behind : List ℕ) (i : Input) (n : ℕ) → letters ≡ take 17 l → behind ≡ drop 17 l → letters ≡ frame_text i → behind ≡ count_text n → l ≡ run_text (record { input = i; count = n })
run_made l letters behind i n front back is count =
    sym (take-append-drop 17 l)
    ∙ ap (λ (x : List ℕ). x ++ drop 17 l) (sym front ∙ is)
    ∙ ap (λ (x : List ℕ). frame_text i ++ x) (sym back ∙ count)

-- the letters and the rest of a line that says a run
pub run_parts : (l letters behind : List ℕ) (r : FrameRun) → letters ≡ take 17 l → behind ≡ drop 17 l → l ≡ run_text r → (letters ≡ frame_text r.input) × (behind ≡ count_text r.count)
run_parts l letters behind r front back is = (front ∙ ap (λ (x : List ℕ). take 17 x) is, back ∙ ap (λ (x : List ℕ). drop 17 x) is)

pub run_length-ge : (l : List ℕ) (r : FrameRun) → l ≡ run_text r → 17 ≤ length l
run_length-ge l r is = let e : length l ≡ length (run_text r) = ap length is in omega (arith, e, length-append (frame_text r.input) (count_text r.count))

-- the digits after the mark are one number's text
pub same_count : (bytes digits : List ℕ) (m n : ℕ) → digits ≡ drop 2 bytes → digits ≡ decimal m → m < 2 ^ 64 → n < 2 ^ 64 → bytes ≡ 32 ∷ 120 ∷ decimal n → n ≡ m
same_count bytes digits m n back number lt less is = decimal_injective n m less lt (sym (ap (λ (l : List ℕ). drop 2 l) is) ∙ sym back ∙ number)

-- the digits of a count
pub digits_are : (bytes digits : List ℕ) (n : ℕ) → bytes ≡ count_text n → 1 ≤ n → (length bytes ≡ 0 → ⊥) → digits ≡ drop 2 bytes → digits ≡ decimal n
digits_are bytes digits n is le some back = back ∙ ap (λ (l : List ℕ). drop 2 l) (count_is bytes n is le some).1

pub long_count : (bytes : List ℕ) (n : ℕ) → bytes ≡ count_text n → 1 ≤ n → (length bytes ≡ 0 → ⊥) → 2 ≤ length bytes
long_count bytes n is le some = let e : length bytes ≡ length (32 ∷ 120 ∷ decimal n) = ap length (count_is bytes n is le some).1 in omega (arith, e)

-- ---- steps of the code

-- further copies of an input at the end of a list
pub resized : (old : List Input) (all k n : ℕ) (i : Input) → length old ≤ all → k ≡ n → take all old ++ replicate k i ≡ old ++ replicate n i
resized old all k n i le e = ap (λ (l : List Input). l ++ replicate k i) (take_all all old le) ∙ ap (λ (m : ℕ). old ++ replicate m i) e

pub first_is : (xs : List Input) (d : Input) → (length xs ≡ 0 → ⊥) → slice_get xs 0 ≡ Some (get_or xs 0 d)
first_is [] d some = absurd (some refl)
first_is (x ∷ xs) d some = refl

pub run_some : (xs : List Input) (i : Input) (n : ℕ) → slice_get xs 0 ≡ Some i → (length xs ≡ 0 → ⊥) → (n < length xs → slice_get xs n ≡ Some i → ⊥) → 1 ≤ n
run_some xs i zero first some longest = absurd (longest (omega arith) first)
run_some xs i (suc n) first some longest = omega arith
