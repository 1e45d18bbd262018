-- The changes of one gap: insertions, a deletion before them, or replacements.
use Rattle.std.proofs.Common.{◌≡◌, ℕ, zero, suc, ◌+◌, ◌-◌, ◌<◌, ◌≤◌, Bool, cond, eqb, List, [], ◌∷◌, ◌++◌, length, take, drop, get_or, refl, sym, ap, subst, inl, inr, ◌∙◌, arith, append_assoc}
use Rattle.std.specs.Prelude.{replicate, Some, slice_get}
use Rattle.std.specs.List.{flat_map}
use Rattle.std.proofs.lemmas.Bool.{eq-eqb}
use Rattle.std.proofs.lemmas.List.{length-replicate, length-drop, length-take-le, take-take, drop_more, drop-take, append-nil, get_or-take, get_or-drop}
use lib.Seq.{take-append_seam, drop-append-add, drop-drop}
use Rattle.vcs_inputs.specs.Input.{no_input}
use Rattle.vcs_inputs.specs.declared.input.Input.{Input}
use Rattle.tas_movie.specs.Content.{most_inputs}
use Rattle.tas_movie.specs.declared.run.FrameRun.{FrameRun}
use Rattle.tas_movie.specs.Runs.{run_inputs, runs_of, BeginOtherwise, AreLongest}
use Rattle.tas_movie.proofs.RunLemmas.{runs_longest, runs_made, runs_split, length-runs}
use Rattle.tas_language.specs.declared.change.Change.{Change}
use Rattle.tas_language.specs.declared.change.Change.TheVariants.{Insert, Replace, Delete}
use Rattle.tas_engines.specs.Differences.{count_of, Follows, AreInOrder, put_in_from, DeletionsDiffer}
use Rattle.tas_engines.specs.Hunks.{Leads, IsBridged, AddsReplacement, deletion, insertions}
use Rattle.tas_engines.proofs.HunkLemmas.{led_nowhere, led_on, led_same, led_within, led_by_deletion, led_by_replacement, led_by_insertion}

-- ---- insertions of runs

insertions_in_order : (at : ℕ) (runs : List FrameRun) → AreLongest runs → AreInOrder (insertions at runs)
unfolding AreLongest BeginOtherwise AreInOrder
insertions_in_order at [] h = tt
insertions_in_order at (r ∷ []) h = h.0
insertions_in_order at (r ∷ q ∷ runs) h = (h.0, record { later = omega arith; touching = λ e. h.1 }, insertions_in_order (at + r.count) (q ∷ runs) h.2)

deleted_in_order : (at gone : ℕ) (runs : List FrameRun) → 1 ≤ gone → AreLongest runs → AreInOrder (Delete at gone ∷ insertions at runs)
unfolding AreInOrder
deleted_in_order at gone [] some h = some
deleted_in_order at gone (r ∷ runs) some h = (some, record { later = omega arith; touching = λ e. tt }, insertions_in_order at (r ∷ runs) h)

insertions_put_in : (at : ℕ) (runs : List FrameRun) → put_in_from at (insertions at runs) ≡ length (flat_map run_inputs runs)
unfolding put_in_from
insertions_put_in at [] = refl
insertions_put_in at (r ∷ runs) =
    ap (λ (b : Bool). cond b (r.count + put_in_from (at + r.count) (insertions (at + r.count) runs)) 0) (eq-eqb at at refl)
    ∙ ap (λ (n : ℕ). r.count + n) (insertions_put_in (at + r.count) runs) ∙ sym (length-runs r runs)

insertions_delete_none : (at : ℕ) (runs : List FrameRun) → DeletionsDiffer (insertions at runs)
unfolding DeletionsDiffer
insertions_delete_none at [] = tt
insertions_delete_none at (r ∷ runs) = insertions_delete_none (at + r.count) runs

deletion_differs : (at gone : ℕ) (runs : List FrameRun) → (length (flat_map run_inputs runs) ≡ gone → ⊥) → DeletionsDiffer (Delete at gone ∷ insertions at runs)
unfolding DeletionsDiffer
deletion_differs at gone runs ne = (λ e. ne (sym (insertions_put_in at runs) ∙ e), insertions_delete_none at runs)

take_first : (n : ℕ) (p q : List Input) → length p ≡ n → take n (p ++ q) ≡ p
take_first n p q len = subst (λ (k : ℕ). take k (p ++ q) ≡ p) len (take-append_seam p q)

drop_first : (n : ℕ) (p q : List Input) → length p ≡ n → drop n (p ++ q) ≡ q
drop_first n p q len = let more : length p + 0 ≡ n = omega (arith, len) in subst (λ (k : ℕ). drop k (p ++ q) ≡ q) more (drop-append-add p q 0)

first_run : (n m : ℕ) (input : Input) (xs rest : List Input) → take (n + m) xs ≡ replicate n input ++ rest → take n xs ≡ replicate n input
first_run n m input xs rest is =
    let le : n ≤ n + m = omega arith in
    sym (take-take n (n + m) xs le) ∙ ap (take n) is ∙ take_first n (replicate n input) rest (length-replicate n input)

other_runs : (n m : ℕ) (input : Input) (xs rest : List Input) → take (n + m) xs ≡ replicate n input ++ rest → take m (drop n xs) ≡ rest
other_runs n m input xs rest is = sym (drop-take n m xs) ∙ ap (drop n) is ∙ drop_first n (replicate n input) rest (length-replicate n input)

some_run : (run : FrameRun) (runs : List FrameRun) → AreLongest (run ∷ runs) → 1 ≤ run.count
unfolding AreLongest
some_run run runs h = h.0

others_longest : (run : FrameRun) (runs : List FrameRun) → AreLongest (run ∷ runs) → AreLongest runs
unfolding AreLongest
others_longest run runs h = h.2

led_by_runs : (old new : List Input) (a b b' to : ℕ) (runs : List FrameRun) → AreLongest runs → b + length (flat_map run_inputs runs) ≡ b' → take (length (flat_map run_inputs runs)) (drop b new) ≡ flat_map run_inputs runs
    → b' ≤ length new → b' < to → length new ≤ most_inputs → b' + (length old - a) ≤ most_inputs → Leads old new a b a b' to (insertions b runs)
led_by_runs old new a b b' to [] longest is same within lt short room =
    let there : b ≡ b' = omega (arith, is) in
    subst (λ (k : ℕ). Leads old new a b a k to []) there (led_nowhere old new a b to)
led_by_runs old new a b b' to (run ∷ runs) longest is same within lt short room =
    let n = run.count in
    let m = length (flat_map run_inputs runs) in
    let len = length-runs run runs in
    let whole : take (run.count + length (flat_map run_inputs runs)) (drop b new) ≡ replicate run.count run.input ++ flat_map run_inputs runs = ap (λ (k : ℕ). take k (drop b new)) (sym len) ∙ same in
    let further : b + run.count + length (flat_map run_inputs runs) ≡ b' = omega (arith, is, len) in
    led_on old new a b a (b + n) a b' (b + n + 1) to (Insert b n run.input ∷ []) (insertions (b + n) runs)
    (led_by_insertion old new a b n (b + n + 1) run.input (some_run run runs longest) (omega (arith, further, within)) (omega arith) short (omega (arith, further, room)) (first_run n m run.input (drop b new) (flat_map run_inputs runs) whole))
    (led_by_runs old new a (b + n) b' to runs (others_longest run runs longest) further
    (ap (take m) (sym (drop-drop n b new)) ∙ other_runs n m run.input (drop b new) (flat_map run_inputs runs) whole) within lt short room)
    (omega (arith, further, lt)) (insertions_in_order b (run ∷ runs) longest) (insertions_delete_none b (run ∷ runs))

-- ---- the runs from a place on, up to another one

abbrev pub between : List Input → ℕ → ℕ → List Input
between new from to = take (to - from) (drop from new)

pub none_left : (new : List Input) (at to : ℕ) → to ≤ at → insertions at (runs_of (between new at to)) ≡ []
unfolding runs_of
none_left new at to le =
    let zero_left : to - at ≡ 0 = omega (arith, le) in
    ap (λ (n : ℕ). insertions at (runs_of (take n (drop at new)))) zero_left

pub length-between : (new : List Input) (from to : ℕ) → from ≤ to → to ≤ length new → length (between new from to) ≡ to - from
length-between new from to le within = length-take-le (to - from) (drop from new) (omega (arith, within, le, length-drop from new))

-- the first of them is an insertion as long as it can be
pub first_insertion : (new : List Input) (at to more : ℕ) (input : Input) → at < to → to ≤ length new → get_or new at no_input ≡ input
    → take more (between new (at + 1) to) ≡ replicate more input → more ≤ to - (at + 1)
    → (more < length (between new (at + 1) to) → slice_get (between new (at + 1) to) more ≡ Some input → ⊥)
    → insertions at (runs_of (between new at to)) ≡ Insert at (1 + more) input ∷ insertions (at + (1 + more)) (runs_of (between new (at + (1 + more)) to))
first_insertion new at to more input lt within is same fits longest =
    let rest : List Input = between new (at + 1) to in
    let next : to - at ≡ suc (to - (at + 1)) = omega (arith, lt) in
    let parts : between new at to ≡ input ∷ rest =
    ap (λ (n : ℕ). take n (drop at new)) next ∙ ap (take (suc (to - (at + 1)))) (drop_more new at no_input (omega (arith, lt, within)) ∙ ap (λ (i : Input). i ∷ drop (at + 1) new) is) in
    let split : runs_of (input ∷ rest) ≡ record { input = input; count = suc more } ∷ runs_of (drop (suc more) (input ∷ rest)) =
    runs_split (input ∷ rest) input (suc more) (omega arith) (ap (λ (l : List Input). input ∷ l) same) (λ below here. longest (omega (arith, below)) here) in
    let left : more + (to - (at + (1 + more))) ≡ to - (at + 1) = omega (arith, fits) in
    let onward : (at + 1) + more ≡ at + (1 + more) = omega arith in
    let further : drop more rest ≡ between new (at + (1 + more)) to =
    ap (λ (n : ℕ). drop more (take n (drop (at + 1) new))) (sym left)
    ∙ drop-take more (to - (at + (1 + more))) (drop (at + 1) new)
    ∙ ap (take (to - (at + (1 + more)))) (drop-drop more (at + 1) new ∙ ap (λ (n : ℕ). drop n new) onward) in
    let count : suc more ≡ 1 + more = omega arith in
    ap (λ (l : List Input). insertions at (runs_of l)) parts ∙ ap (insertions at) split
    ∙ ap (λ (l : List Input). insertions at (record { input = input; count = suc more } ∷ runs_of l)) further
    ∙ ap (λ (n : ℕ). Insert at n input ∷ insertions (at + n) (runs_of (between new (at + (1 + more)) to))) count

-- ---- a deletion, if any inputs go, and insertions

pub led_by_hunk : (old new : List Input) (a b gone b' : ℕ) → b ≤ b' → a + gone ≤ length old → b' ≤ length new → length old ≤ most_inputs → length new ≤ most_inputs
    → b' + (length old - (a + gone)) ≤ most_inputs → (b' - b ≡ gone → ⊥) → Leads old new a b (a + gone) b' (b' + 1) (deletion b gone ++ insertions b (runs_of (between new b b')))
led_by_hunk old new a b gone b' le fits within short short' room ne = go gone fits room ne
  where
    runs : List FrameRun
    runs = runs_of (between new b b')

    made : flat_map run_inputs runs ≡ between new b b'
    made = runs_made (between new b b')

    len : length (flat_map run_inputs runs) ≡ b' - b
    len = ap length made ∙ length-between new b b' le within

    led : (a1 : ℕ) → b' + (length old - a1) ≤ most_inputs → Leads old new a1 b a1 b' (b' + 1) (insertions b runs)
    led a1 room = led_by_runs old new a1 b b' (b' + 1) runs (runs_longest (between new b b')) (omega (arith, len, le)) (ap (λ (n : ℕ). take n (drop b new)) len ∙ sym made) within (omega arith) short' room

    go : (gone : ℕ) → a + gone ≤ length old → b' + (length old - (a + gone)) ≤ most_inputs → (b' - b ≡ gone → ⊥) → Leads old new a b (a + gone) b' (b' + 1) (deletion b gone ++ insertions b runs)
    go zero fits room ne =
        let stays : a ≡ a + 0 = omega arith in
        subst (λ (k : ℕ). Leads old new k b (a + 0) b' (b' + 1) (insertions b runs)) (sym stays) (led (a + 0) room)
    go (suc n) fits room ne =
        led_on old new a b (a + suc n) b (a + suc n) b' (b + 1) (b' + 1) (Delete b (suc n) ∷ []) (insertions b runs)
        (led_by_deletion old new a b (suc n) (b + 1) (omega arith) fits (omega (arith, le, within)) (omega arith) short short')
        (led (a + suc n) room) (omega (arith, le)) (deleted_in_order b (suc n) runs (omega arith) (runs_longest (between new b b'))) (deletion_differs b (suc n) runs (λ e. ne (sym len ∙ e)))

-- ---- replacements

abbrev pub Last : (Change → Type 0) → List Change → Type 0
Last P [] = Unit {0}
Last P (c ∷ []) = P c
Last P (c ∷ d ∷ cs) = Last P (d ∷ cs)

last_more : (P : Change → Type 0) (cs : List Change) (c : Change) → P c → Last P (cs ++ c ∷ [])
last_more P [] c p = p
last_more P (x ∷ []) c p = p
last_more P (x ∷ y ∷ cs) c p = last_more P (y ∷ cs) c p

last_map : (P Q : Change → Type 0) (cs : List Change) → ((c : Change) → P c → Q c) → Last P cs → Last Q cs
last_map P Q [] f h = tt
last_map P Q (c ∷ []) f h = f c h
last_map P Q (c ∷ d ∷ cs) f h = last_map P Q (d ∷ cs) f h

order_more : (cs : List Change) (c : Change) → AreInOrder cs → Last (λ (x : Change). Follows x c) cs → 1 ≤ count_of c → AreInOrder (cs ++ c ∷ [])
unfolding AreInOrder
order_more [] c h last some = some
order_more (x ∷ []) c h last some = (h, last, some)
order_more (x ∷ y ∷ cs) c h last some = (h.0, h.1, order_more (y ∷ cs) c h.2 last some)

in_from_more : (place : ℕ) (cs : List Change) (at n : ℕ) (input : Input) → put_in_from place (cs ++ Replace at n input ∷ []) ≡ put_in_from place cs
unfolding put_in_from
in_from_more place [] at n input = refl
in_from_more place (Insert a k i ∷ cs) at n input = ap (λ (more : ℕ). cond (eqb place a) (k + more) 0) (in_from_more (a + k) cs at n input)
in_from_more place (Replace a k i ∷ cs) at n input = refl
in_from_more place (Delete a k ∷ cs) at n input = refl

deletions_more : (cs : List Change) (at n : ℕ) (input : Input) → DeletionsDiffer cs → DeletionsDiffer (cs ++ Replace at n input ∷ [])
unfolding DeletionsDiffer
deletions_more [] at n input h = tt
deletions_more (Insert a k i ∷ cs) at n input h = deletions_more cs at n input h
deletions_more (Replace a k i ∷ cs) at n input h = deletions_more cs at n input h
deletions_more (Delete a k ∷ cs) at n input h = (λ e. h.0 (sym (in_from_more a cs at n input) ∙ e), deletions_more cs at n input h.1)

-- the replacement ends before the place b or there, and there only where it can't be one input more
abbrev OpenEnd : (old new : List Input) (a b end : ℕ) → Change → Type 0
OpenEnd old new a b end (Insert at count input) = ⊥
OpenEnd old new a b end (Replace at count input) = (at + count ≤ b) × (at + count ≡ b → b < end → get_or new b no_input ≡ input → get_or old a no_input ≡ input)
OpenEnd old new a b end (Delete at count) = ⊥

-- replacements came after changes, and `done` inputs of a gap are done
pub record Replacing (old new : List Input) (a b end done : ℕ) (before now : List Change) : Type 0 where
  pub changes : List Change
  pub is : now ≡ before ++ changes
  pub leads : Leads old new a b (a + done) (b + done) (b + done + 1) changes
  pub last : Last (OpenEnd old new (a + done) (b + done) end) changes

pub replacing_none : (old new : List Input) (a b end : ℕ) (before : List Change) → Replacing old new a b end 0 before before
replacing_none old new a b end before = record {
  changes = [];
  is = sym (append-nil before);
  leads = led_same old new a b a b 0 (b + 0 + 1) [] (led_nowhere old new a b (b + 0 + 1)) refl;
  last = tt;
}

one_more : (old new : List Input) (a b : ℕ) → a < length old → b < length new → get_or old a no_input ≡ get_or new b no_input → take 1 (drop a old) ≡ take 1 (drop b new)
one_more old new a b lt lt' same =
    ap (take 1) (drop_more old a no_input lt) ∙ ap (λ (i : Input). i ∷ []) same ∙ sym (ap (take 1) (drop_more new b no_input lt'))

-- reading a part of a list
pub part_at : (xs : List Input) (from size i : ℕ) → i < size → get_or (take size (drop from xs)) i no_input ≡ get_or xs (from + i) no_input
part_at xs from size i lt = get_or-take size (drop from xs) i no_input lt ∙ get_or-drop from xs i no_input

part_first : (xs : List Input) (from size : ℕ) → 0 < size → get_or (take size (drop from xs)) 0 no_input ≡ get_or xs from no_input
part_first xs from size lt = let here : from + 0 ≡ from = omega arith in part_at xs from size 0 lt ∙ ap (λ (k : ℕ). get_or xs k no_input) here

-- a gap in which as many inputs come as go, of which some are left
pub record LeftToReplace (old new : List Input) (a b end done left : ℕ) : Type 0 where
  pub some : 0 < left
  pub old_within : a + done + left ≤ length old
  pub new_within : b + done + left ≡ end
  pub new_end : end ≤ length new
  pub short : length old ≤ most_inputs
  pub short_new : length new ≤ most_inputs

replacing_same : (old new : List Input) (a b end done left : ℕ) (before now : List Change) → LeftToReplace old new a b end done left → Replacing old new a b end done before now
    → get_or old (a + done) no_input ≡ get_or new (b + done) no_input → Replacing old new a b end (done + 1) before now
replacing_same old new a b end done left before now g r same =
    let old_next : a + done + 1 ≡ a + (done + 1) = omega arith in
    let new_next : b + done + 1 ≡ b + (done + 1) = omega arith in
    let one = one_more old new (a + done) (b + done) (omega (arith, g.some, g.old_within)) (omega (arith, g.some, g.new_within, g.new_end)) same in
    let led = led_within old new a b (a + done + 1) (b + done + 1) (b + done + 1) (b + (done + 1) + 1) r.changes (led_same old new a b (a + done) (b + done) 1 (b + done + 1) r.changes r.leads one) (omega arith) in
    record {
      changes = r.changes;
      is = r.is;
      leads = subst (λ (k : ℕ). Leads old new a b k (b + (done + 1)) (b + (done + 1) + 1) r.changes) old_next (subst (λ (k : ℕ). Leads old new a b (a + done + 1) k (b + (done + 1) + 1) r.changes) new_next led);
      last = last_map (OpenEnd old new (a + done) (b + done) end) (OpenEnd old new (a + (done + 1)) (b + (done + 1)) end) r.changes shut r.last;
    }
  where
    shut : (c : Change) → OpenEnd old new (a + done) (b + done) end c → OpenEnd old new (a + (done + 1)) (b + (done + 1)) end c
    shut (Insert at count input) h = h
    shut (Replace at count input) h = let le = h.0 in (omega (arith, le), λ e lt is. absurd (omega (arith, le, e)))
    shut (Delete at count) h = h

replacing_other : (old new : List Input) (a b end done left n : ℕ) (input : Input) (before now : List Change) → LeftToReplace old new a b end done left → Replacing old new a b end done before now
    → 1 ≤ n → n ≤ left → take n (drop (b + done) new) ≡ replicate n input → get_or new (b + done) no_input ≡ input → (get_or old (a + done) no_input ≡ input → ⊥) → (get_or old (a + done + (n - 1)) no_input ≡ input → ⊥)
    → IsBridged old (a + done) n input → (n < left → get_or new (b + done + n) no_input ≡ input → get_or old (a + done + n) no_input ≡ input)
    → Replacing old new a b end (done + n) before (now ++ Replace (b + done) n input ∷ [])
replacing_other old new a b end done left n input before now g r some fits run begins first last bridged longest =
    let short = g.short in
    let short_new = g.short_new in
    let c = Replace (b + done) n input in
    let old_next : a + done + n ≡ a + (done + n) = omega arith in
    let new_next : b + done + n ≡ b + (done + n) = omega arith in
    let one = led_by_replacement old new (a + done) (b + done) n (b + (done + n) + 1) input some (omega (arith, fits, g.old_within)) (omega (arith, fits, g.new_within, g.new_end)) (omega arith) short short_new run first last bridged in
    let led = led_on old new a b (a + done) (b + done) (a + done + n) (b + done + n) (b + done + 1) (b + (done + n) + 1) r.changes (c ∷ []) r.leads one (omega arith)
    (order_more r.changes c r.leads.order (last_map (OpenEnd old new (a + done) (b + done) end) (λ (x : Change). Follows x c) r.changes follows r.last) some)
    (deletions_more r.changes (b + done) n input r.leads.deletions) in
    record {
      changes = r.changes ++ c ∷ [];
      is = ap (λ (l : List Change). l ++ c ∷ []) r.is ∙ append_assoc before r.changes (c ∷ []);
      leads = subst (λ (k : ℕ). Leads old new a b k (b + (done + n)) (b + (done + n) + 1) (r.changes ++ c ∷ [])) old_next
          (subst (λ (k : ℕ). Leads old new a b (a + done + n) k (b + (done + n) + 1) (r.changes ++ c ∷ [])) new_next led);
      last = last_more (OpenEnd old new (a + (done + n)) (b + (done + n)) end) r.changes c (omega arith, λ e lt is. go lt is);
    }
  where
    follows : (x : Change) → OpenEnd old new (a + done) (b + done) end x → Follows x (Replace (b + done) n input)
    follows (Insert at count other) h = absurd h
    follows (Replace at count other) h =
        let inside = g.new_within in
        let some_left = g.some in
        record { later = h.0; touching = λ e same. first (h.1 e (omega (arith, inside, some_left)) (begins ∙ sym same) ∙ same) }
    follows (Delete at count) h = absurd h

    go : b + (done + n) < end → get_or new (b + (done + n)) no_input ≡ input → get_or old (a + (done + n)) no_input ≡ input
    go lt is =
        let inside = g.new_within in
        let old_next : a + done + n ≡ a + (done + n) = omega arith in
        let new_next : b + (done + n) ≡ b + done + n = omega arith in
        ap (λ (k : ℕ). get_or old k no_input) (sym old_next) ∙ longest (omega (arith, lt, inside)) (ap (λ (k : ℕ). get_or new k no_input) (sym new_next) ∙ is)

-- what the next of the inputs add
pub replacing_next : (old new : List Input) (a b end done left n : ℕ) (before now after : List Change) → LeftToReplace old new a b end done left → Replacing old new a b end done before now
    → AddsReplacement (take left (drop (a + done) old)) (take left (drop (b + done) new)) (b + done) n now after
    → Replacing old new a b end (done + n) before after × (1 ≤ n) × (n ≤ left)
replacing_next old new a b end done left n before now after g r (inl same) =
    let some = g.some in
    let one = same.0 in
    let heads = sym (part_first old (a + done) left some) ∙ same.2 ∙ part_first new (b + done) left some in
    let next = subst (λ (l : List Change). Replacing old new a b end (done + 1) before l) (sym same.1) (replacing_same old new a b end done left before now g r heads) in
    (subst (λ (k : ℕ). Replacing old new a b end (done + k) before after) (sym one) next, omega (arith, one), omega (arith, one, some))
replacing_next old new a b end done left n before now after g r (inr other) =
    let some = g.some in
    let old_within = g.old_within in
    let part_old : List Input = take left (drop (a + done) old) in
    let part_new : List Input = take left (drop (b + done) new) in
    let input : Input = get_or part_new 0 no_input in
    let run = other.2 in
    let len : length (take left (drop (b + done) new)) ≡ left = length-take-le left (drop (b + done) new) (omega (arith, g.new_within, g.new_end, length-drop (b + done) new)) in
    let fits : n ≤ left = let within = run.within in omega (arith, within, len) in
    let first : get_or old (a + done) no_input ≡ input → ⊥ = λ e. other.1 (part_first old (a + done) left some ∙ e) in
    let many : 1 ≤ n = at_least n run.longest (omega (arith, len, some)) other.1 in
    let last : get_or old (a + done + (n - 1)) no_input ≡ input → ⊥ = λ e. run.last many (part_at old (a + done) left (n - 1) (omega (arith, many, fits)) ∙ e) in
    let bridged : IsBridged old (a + done) n input = λ i far.
    let at = run.bridged i far in
    (at.0, at.1, at.2, λ e. at.3 (part_at old (a + done) left at.0 (omega (arith, at.2, far, fits)) ∙ e)) in
    let further : n < left → get_or new (b + done + n) no_input ≡ input → get_or old (a + done + n) no_input ≡ input =
    λ lt e. sym (part_at old (a + done) left n lt) ∙ run.longest (omega (arith, lt, len)) (part_at new (b + done) left n lt ∙ e) in (
      subst (λ (l : List Change). Replacing old new a b end (done + n) before l) (sym other.0)
          (replacing_other old new a b end done left n input before now g r many fits (sym (take-take n left (drop (b + done) new) fits) ∙ run.same) (sym (part_first new (b + done) left some)) first last bridged further),
      many,
      fits,
    )
  where
    at_least : (n : ℕ) → (n < length (take left (drop (b + done) new)) → get_or (take left (drop (b + done) new)) n no_input ≡ get_or (take left (drop (b + done) new)) 0 no_input
        → get_or (take left (drop (a + done) old)) n no_input ≡ get_or (take left (drop (b + done) new)) 0 no_input)
        → 0 < length (take left (drop (b + done) new)) → (get_or (take left (drop (a + done) old)) 0 no_input ≡ get_or (take left (drop (b + done) new)) 0 no_input → ⊥) → 1 ≤ n
    at_least zero longest lt ne = absurd (ne (longest lt refl))
    at_least (suc n) longest lt ne = omega arith
