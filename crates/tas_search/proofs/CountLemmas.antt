-- The layers of the code have the machines of the definitions, each once, and their numbers.
use Rattle.std.proofs.Common.{◌≡◌, ℕ, zero, suc, ◌+◌, ◌-◌, ◌*◌, Bool, true, false, List, [], ◌∷◌, ◌++◌, length, map, refl, sym, ap, subst, ◌∙◌, arith, append_assoc}
use Rattle.std.specs.Prelude.{◌||◌, if◌then◌else◌, Option, Some, None, flat_map, filter_map, sum_by}
use Rattle.std.specs.List.{list_any, range_with_len, cons_option}
use Rattle.std.proofs.lemmas.List.Elements.{filter_map-append}
use Rattle.std.proofs.lemmas.List.Sums.{sum_by-cons}
use Rattle.std.proofs.lemmas.List.{map-append, length-map, append-nil}
use Rattle.std.proofs.lemmas.List.Folds.{list_any-append}
use Rattle.vcs_cpu.specs.declared.halt.Halt.{Halt}
use Rattle.vcs_machine.specs.Equality.{are_same_machines, machines_decide}
use Rattle.vcs_machine.specs.Machine.{Machine, unless_halted}
use Rattle.tas_search.specs.declared.arrival.Arrival.{Arrival}
use Rattle.tas_search.specs.declared.arrival.Step.{Step}
use Rattle.tas_search.specs.Space.{SpaceContent, after_choice, reached_from, reached, low_at, count_at}
use Rattle.tas_search.specs.LayerLines.{sequences, all_reached, with_machine, with_machines, layer, going_on, tried, state_count, merged_count, played_count, link_count, held_bytes, rate_of, line_front, line_back, layer_line}
use Rattle.tas_search.specs.Inside.Layers.{Reached, with_reached, with_all, next_from, next_of, grown_from, layers_from, root, first_of, layer_of}
use Rattle.tas_search.specs.Inside.Arrivals.{with_path, tried_of, IsFrontier}
use Rattle.tas_search.specs.declared.counting.LayerCounts.{LayerCounts}
use Rattle.tas_search.specs.Inside.Counts.{AreCounts}
use Rattle.tas_search.proofs.LayerLemmas.{layer_more}

-- ---- each machine once

-- a machine is among some
abbrev Knows : List Machine → Machine → Type 0
Knows ms m = list_any (are_same_machines m) ms ≡ true

abbrev KnowsAll : List Machine → List Machine → Type 0
KnowsAll ms [] = Unit {0}
KnowsAll ms (x ∷ xs) = Knows ms x × KnowsAll ms xs

or_true : (a : Bool) → (a || true) ≡ true
or_true true = refl
or_true false = refl

known_push : (ms : List Machine) (x m : Machine) → Knows ms m → Knows (ms ++ x ∷ []) m
known_push ms x m h = list_any-append (are_same_machines m) ms (x ∷ []) ∙ ap (λ (b : Bool). b || list_any (are_same_machines m) (x ∷ [])) h

known_with : (ms : List Machine) (x m : Machine) → Knows ms m → Knows (with_machine ms x) m
known_with ms x m h = split (list_any (are_same_machines x) ms)
  where
    split : (b : Bool) → Knows (if b then ms else ms ++ x ∷ []) m
    split true = h
    split false = known_push ms x m h

known_after : (xs ms : List Machine) (m : Machine) → Knows ms m → Knows (with_machines ms xs) m
known_after [] ms m h = h
known_after (x ∷ xs) ms m h = known_after xs (with_machine ms x) m (known_with ms x m h)

known_self : (ms : List Machine) (x : Machine) → Knows (with_machine ms x) x
known_self ms x = split (list_any (are_same_machines x) ms) refl
  where
    split : (b : Bool) → list_any (are_same_machines x) ms ≡ b → Knows (if b then ms else ms ++ x ∷ []) x
    split true e = e
    split false e =
        list_any-append (are_same_machines x) ms (x ∷ [])
        ∙ ap (λ (b : Bool). list_any (are_same_machines x) ms || (b || false)) ((machines_decide x x).1 refl)
        ∙ or_true (list_any (are_same_machines x) ms)

all_known : (xs ms : List Machine) → KnowsAll (with_machines ms xs) xs
all_known [] ms = tt
all_known (x ∷ xs) ms = (known_after xs (with_machine ms x) x (known_self ms x), all_known xs (with_machine ms x))

all_known_after : (ys xs ms : List Machine) → KnowsAll ms ys → KnowsAll (with_machines ms xs) ys
all_known_after [] xs ms h = tt
all_known_after (y ∷ ys) xs ms h = (known_after xs ms y h.0, all_known_after ys xs ms h.1)

-- what is known adds nothing
known_adds_none : (xs ms : List Machine) → KnowsAll ms xs → with_machines ms xs ≡ ms
known_adds_none [] ms h = refl
known_adds_none (x ∷ xs) ms h = ap (λ (b : Bool). with_machines (if b then ms else ms ++ x ∷ []) xs) h.0 ∙ known_adds_none xs ms h.1

pub after_append : (xs ys ms : List Machine) → with_machines ms (xs ++ ys) ≡ with_machines (with_machines ms xs) ys
after_append [] ys ms = refl
after_append (x ∷ xs) ys ms = after_append xs ys (with_machine ms x)

-- those of further machines that aren't there
abbrev news : List Machine → List Machine → List Machine
news ms [] = []
news ms (x ∷ xs) = if list_any (are_same_machines x) ms then news ms xs else x ∷ news (ms ++ x ∷ []) xs

after_is : (xs ms : List Machine) → with_machines ms xs ≡ ms ++ news ms xs
after_is [] ms = sym (append-nil ms)
after_is (x ∷ xs) ms = split (list_any (are_same_machines x) ms) (after_is xs ms) (after_is xs (ms ++ x ∷ []))
  where
    split : (b : Bool) → with_machines ms xs ≡ ms ++ news ms xs → with_machines (ms ++ x ∷ []) xs ≡ (ms ++ x ∷ []) ++ news (ms ++ x ∷ []) xs
        → with_machines (if b then ms else ms ++ x ∷ []) xs ≡ ms ++ (if b then news ms xs else x ∷ news (ms ++ x ∷ []) xs)
    split true kept pushed = kept
    split false kept pushed = pushed ∙ append_assoc ms (x ∷ []) (news (ms ++ x ∷ []) xs)

module _ (f : Machine → List Machine) where
  -- whatever follows a machine that is among some is among others
  abbrev Leads : List Machine → List Machine → Type 0
  Leads seen ms = (m : Machine) → Knows seen m → KnowsAll ms (f m)

  leads_push : (seen ms : List Machine) (x : Machine) → Leads seen ms → Leads (seen ++ x ∷ []) (with_machines ms (f x))
  leads_push seen ms x h = λ m known. split m (list_any (are_same_machines m) seen) refl known
    where
      last : (m : Machine) → (are_same_machines m x || false) ≡ true → are_same_machines m x ≡ true
      last m e = pass (are_same_machines m x) e
        where
          pass : (b : Bool) → (b || false) ≡ true → b ≡ true
          pass true e = refl
          pass false e = e

      split : (m : Machine) (b : Bool) → list_any (are_same_machines m) seen ≡ b → Knows (seen ++ x ∷ []) m → KnowsAll (with_machines ms (f x)) (f m)
      split m true is known = all_known_after (f m) (f x) ms (h m is)
      split m false is known =
          let tail : (are_same_machines m x || false) ≡ true =
          ap (λ (b : Bool). b || (are_same_machines m x || false)) (sym is) ∙ sym (list_any-append (are_same_machines m) seen (x ∷ [])) ∙ known in
          subst (λ (y : Machine). KnowsAll (with_machines ms (f x)) (f y)) (sym ((machines_decide m x).0 (last m tail))) (all_known (f x) ms)

  once_leads : (xs seen ms : List Machine) → Leads seen ms → with_machines ms (flat_map f xs) ≡ with_machines ms (flat_map f (news seen xs))
  once_leads [] seen ms h = refl
  once_leads (x ∷ xs) seen ms h =
      split (list_any (are_same_machines x) seen) refl (once_leads xs seen ms h) (once_leads xs (seen ++ x ∷ []) (with_machines ms (f x)) (leads_push seen ms x h))
    where
      split : (b : Bool) → list_any (are_same_machines x) seen ≡ b → with_machines ms (flat_map f xs) ≡ with_machines ms (flat_map f (news seen xs))
          → with_machines (with_machines ms (f x)) (flat_map f xs) ≡ with_machines (with_machines ms (f x)) (flat_map f (news (seen ++ x ∷ []) xs))
          → with_machines ms (f x ++ flat_map f xs) ≡ with_machines ms (flat_map f (if b then news seen xs else x ∷ news (seen ++ x ∷ []) xs))
      split true is kept pushed =
          after_append (f x) (flat_map f xs) ms
          ∙ ap (λ (ks : List Machine). with_machines ks (flat_map f xs)) (known_adds_none (f x) ms (h x is))
          ∙ kept
      split false is kept pushed =
          after_append (f x) (flat_map f xs) ms
          ∙ pushed
          ∙ sym (after_append (f x) (flat_map f (news (seen ++ x ∷ []) xs)) ms)

  none_known : Leads [] []
  none_known = λ m e. absurd cc

  -- what follows some machines is what follows each of them once
  pub each_once : (xs : List Machine) → with_machines [] (flat_map f xs) ≡ with_machines [] (flat_map f (with_machines [] xs))
  each_once xs = once_leads xs [] [] none_known ∙ ap (λ (ys : List Machine). with_machines [] (flat_map f ys)) (sym (after_is xs []))

-- ---- the machines that one choice more reaches

module _ (s : SpaceContent) where
  -- after n choices from number k on
  abbrev by_choices : Machine → ℕ → ℕ → List Machine
  by_choices m k n = map (after_choice s m) (range_with_len k n)

  abbrev after_some : ℕ → ℕ → Machine → List Machine
  after_some k n m = unless_halted m.halt (by_choices m k n) []

  abbrev after_all : Machine → List Machine
  after_all m = after_some 0 (length s.choices) m

  abbrev machines_of : List Reached → List Machine
  machines_of rs = map (λ r. r.machine) rs

  with_is : (rs : List Reached) (r : Reached) → machines_of (with_reached rs r) ≡ with_machine (machines_of rs) r.machine
  with_is rs r = split (list_any (λ o. are_same_machines r.machine o.machine) rs) ∙ ap (λ (b : Bool). if b then machines_of rs else machines_of rs ++ r.machine ∷ []) (same_known rs)
    where
      split : (b : Bool) → machines_of (if b then rs else rs ++ r ∷ []) ≡ (if b then machines_of rs else machines_of rs ++ r.machine ∷ [])
      split true = refl
      split false = map-append (λ (o : Reached). o.machine) rs (r ∷ [])

      same_known : (os : List Reached) → list_any (λ o. are_same_machines r.machine o.machine) os ≡ list_any (are_same_machines r.machine) (machines_of os)
      same_known [] = refl
      same_known (o ∷ os) = ap (λ (b : Bool). are_same_machines r.machine o.machine || b) (same_known os)

  all_is : (cs rs : List Reached) → machines_of (with_all rs cs) ≡ with_machines (machines_of rs) (machines_of cs)
  all_is [] rs = refl
  all_is (c ∷ cs) rs = all_is cs (with_reached rs c) ∙ ap (λ (ms : List Machine). with_machines ms (machines_of cs)) (with_is rs c)

  from_are : (r : Reached) (k n : ℕ) → machines_of (next_from s r k n) ≡ by_choices r.machine k n
  from_are r k zero = refl
  from_are r k (suc n) = ap (λ (ms : List Machine). after_choice s r.machine k ∷ ms) (from_are r (suc k) n ∙ ap (λ (i : ℕ). by_choices r.machine i n) next)
    where
      next : suc k ≡ k + 1
      next = omega arith

  some_are : (r : Reached) (k n : ℕ) → machines_of (unless_halted r.machine.halt (next_from s r k n) []) ≡ after_some k n r.machine
  some_are r k n = split r.machine.halt
    where
      split : (h : Option Halt) → machines_of (unless_halted h (next_from s r k n) []) ≡ unless_halted h (by_choices r.machine k n) []
      split None = from_are r k n
      split (Some x) = refl

  grown_are : (rs next : List Reached) → machines_of (grown_from s next rs) ≡ with_machines (machines_of next) (flat_map after_all (machines_of rs))
  grown_are [] next = refl
  grown_are (r ∷ rs) next =
      grown_are rs (with_all next (next_of s r))
      ∙ ap (λ (ms : List Machine). with_machines ms (flat_map after_all (machines_of rs))) (all_is (next_of s r) next ∙ ap (with_machines (machines_of next)) (some_are r 0 (length s.choices)))
      ∙ sym (after_append (after_all r.machine) (flat_map after_all (machines_of rs)) (machines_of next))

  -- ---- the machines that one choice more reaches, by sequences

  -- what a sequence reaches with one choice more
  abbrev next_option : Option Machine → ℕ → Option Machine
  next_option None k = None
  next_option (Some m) k = unless_halted m.halt (Some (after_choice s m k)) None

  reached_more : (ks : List ℕ) (k : ℕ) (start : Machine) → reached_from s start (ks ++ k ∷ []) ≡ next_option (reached_from s start ks) k
  reached_more [] k start = refl
  reached_more (x ∷ ks) k start = split start.halt (reached_more ks k (after_choice s start x))
    where
      split : (h : Option Halt) → reached_from s (after_choice s start x) (ks ++ k ∷ []) ≡ next_option (reached_from s (after_choice s start x) ks) k
          → unless_halted h (reached_from s (after_choice s start x) (ks ++ k ∷ [])) None ≡ next_option (unless_halted h (reached_from s (after_choice s start x) ks) None) k
      split None rest = rest
      split (Some h) rest = refl

  -- all that a machine leads to by n choices from number k on, if there is one
  abbrev after_option : ℕ → ℕ → Option Machine → List Machine
  after_option k n None = []
  after_option k n (Some m) = after_some k n m

  choices_reach : (ks : List ℕ) (k n : ℕ) → filter_map (reached s) (map (λ i. ks ++ i ∷ []) (range_with_len k n)) ≡ filter_map (next_option (reached s ks)) (range_with_len k n)
  choices_reach ks k zero = refl
  choices_reach ks k (suc n) =
      ap (λ (o : Option Machine). cons_option o (filter_map (reached s) (map (λ i. ks ++ i ∷ []) (range_with_len (k + 1) n)))) (reached_more ks k s.start)
      ∙ ap (cons_option (next_option (reached s ks) k)) (choices_reach ks (k + 1) n)

  some_reach : (h : Option Halt) (m : Machine) (ks : List ℕ) → filter_map (λ i. unless_halted h (Some (after_choice s m i)) None) ks ≡ unless_halted h (map (after_choice s m) ks) []
  some_reach None m [] = refl
  some_reach None m (k ∷ ks) = ap (λ (ms : List Machine). after_choice s m k ∷ ms) (some_reach None m ks)
  some_reach (Some x) m [] = refl
  some_reach (Some x) m (k ∷ ks) = some_reach (Some x) m ks

  none_reach : (ks : List ℕ) → filter_map (next_option None) ks ≡ []
  none_reach [] = refl
  none_reach (k ∷ ks) = none_reach ks

  option_reach : (k n : ℕ) (o : Option Machine) → filter_map (next_option o) (range_with_len k n) ≡ after_option k n o
  option_reach k n None = none_reach (range_with_len k n)
  option_reach k n (Some m) = some_reach m.halt m (range_with_len k n)

  cons_after : (k n : ℕ) (o : Option Machine) (ms : List Machine) → after_option k n o ++ flat_map (after_some k n) ms ≡ flat_map (after_some k n) (cons_option o ms)
  cons_after k n None ms = refl
  cons_after k n (Some m) ms = refl

  sequences_reach : (k n : ℕ) (seqs : List (List ℕ)) → filter_map (reached s) (flat_map (λ ks. map (λ i. ks ++ i ∷ []) (range_with_len k n)) seqs)
      ≡ flat_map (after_some k n) (filter_map (reached s) seqs)
  sequences_reach k n [] = refl
  sequences_reach k n (ks ∷ seqs) =
      filter_map-append (reached s) (map (λ i. ks ++ i ∷ []) (range_with_len k n)) (flat_map (λ ks. map (λ i. ks ++ i ∷ []) (range_with_len k n)) seqs)
      ∙ ap (λ (ms : List Machine). ms ++ filter_map (reached s) (flat_map (λ ks. map (λ i. ks ++ i ∷ []) (range_with_len k n)) seqs))
      (choices_reach ks k n ∙ option_reach k n (reached s ks))
      ∙ ap (λ (ms : List Machine). after_option k n (reached s ks) ++ ms) (sequences_reach k n seqs)
      ∙ cons_after k n (reached s ks) (filter_map (reached s) seqs)

  all_more : (n : ℕ) → all_reached s (suc n) ≡ flat_map (after_some (low_at s n) (count_at s n)) (all_reached s n)
  all_more n = sequences_reach (low_at s n) (count_at s n) (sequences s n)

  -- ---- layers

  first_machines : machines_of (layer_of s 1) ≡ layer s 1
  unfolding layers_from
  first_machines =
      all_is (first_of s) []
      ∙ ap (with_machines []) (some_are (root s) s.low (s.high - s.low) ∙ sym (append-nil (after_some s.low (s.high - s.low) s.start)) ∙ sym (all_more 0))

  layer_machines : (n : ℕ) → machines_of (layer_of s n) ≡ layer s n
  layer_machines zero = refl
  layer_machines (suc zero) = first_machines
  layer_machines (suc (suc n)) =
      ap machines_of (layer_more s n)
      ∙ grown_are (layer_of s (suc n)) []
      ∙ ap (λ (ms : List Machine). with_machines [] (flat_map after_all ms)) (layer_machines (suc n))
      ∙ sym (each_once after_all (all_reached s (suc n)))
      ∙ ap (with_machines []) (sym (all_more (suc n)))

  pub layer_states : (n : ℕ) → length (layer_of s n) ≡ state_count s n
  layer_states n = sym (length-map (layer_of s n) (λ r. r.machine)) ∙ ap length (layer_machines n)

  paths_machines : (parents : List Step) (d : ℕ) (bs : List Arrival) → machines_of (map (with_path parents d) bs) ≡ map (λ a. a.state) bs
  paths_machines parents d [] = refl
  paths_machines parents d (a ∷ bs) = ap (λ (ms : List Machine). a.state ∷ ms) (paths_machines parents d bs)

  -- the states of a frontier are its layer's machines
  pub frontier_layer : (depth place : ℕ) (parents : List Step) (bs : List Arrival) → IsFrontier s depth place parents bs → map (λ a. a.state) bs ≡ layer s depth
  frontier_layer depth place parents bs frontier = sym (paths_machines parents depth bs) ∙ ap machines_of frontier.layer ∙ layer_machines depth

  pub frontier_states : (depth place : ℕ) (parents : List Step) (bs : List Arrival) → IsFrontier s depth place parents bs → length bs ≡ state_count s depth
  frontier_states depth place parents bs frontier = sym (length-map bs (λ a. a.state)) ∙ ap length (frontier_layer depth place parents bs frontier)

  sum_states : (f : Machine → ℕ) (bs : List Arrival) → sum_by (λ a. f a.state) bs ≡ sum_by f (map (λ a. a.state) bs)
  sum_states f [] = refl
  sum_states f (a ∷ bs) =
      sum_by-cons (λ (b : Arrival). f b.state) a bs ∙ ap (λ (n : ℕ). f a.state + n) (sum_states f bs) ∙ sym (sum_by-cons f a.state (map (λ a. a.state) bs))

  pub frontier_sum : (f : Machine → ℕ) (depth place : ℕ) (parents : List Step) (bs : List Arrival) → IsFrontier s depth place parents bs → sum_by (λ a. f a.state) bs ≡ sum_by f (layer s depth)
  frontier_sum f depth place parents bs frontier = sum_states f bs ∙ ap (sum_by f) (frontier_layer depth place parents bs frontier)

later_tries : (s : SpaceContent) (depth place : ℕ) (bs : List Arrival) → tried_of s (suc place) bs ≡ sum_by (λ a. tried s (suc depth) a.state) bs
later_tries s depth place [] = refl
later_tries s depth place (a ∷ bs) =
    ap (λ (n : ℕ). tried s (suc depth) a.state + n) (later_tries s depth (suc place) bs) ∙ sym (sum_by-cons (λ (b : Arrival). tried s (suc depth) b.state) a bs)

-- how many choices are played from a frontier
frontier_tries : (s : SpaceContent) (depth place : ℕ) (parents : List Step) (bs : List Arrival) → IsFrontier s depth place parents bs → tried_of s place bs ≡ sum_by (λ a. tried s depth a.state) bs
frontier_tries s zero zero parents [] frontier = refl
frontier_tries s zero zero parents (a ∷ []) frontier = sym (sum_by-cons (λ (b : Arrival). tried s 0 b.state) a [])
frontier_tries s zero zero parents (a ∷ b ∷ bs) frontier = let one : suc (suc (length bs)) ≡ 1 = frontier_states s 0 0 parents (a ∷ b ∷ bs) frontier in absurd (omega (arith, one))
frontier_tries s zero (suc place) parents bs frontier = absurd frontier.after
frontier_tries s (suc depth) zero parents bs frontier = absurd frontier.after
frontier_tries s (suc depth) (suc place) parents bs frontier = later_tries s depth place bs

pub links_more : (s : SpaceContent) (depth : ℕ) → link_count s depth + state_count s (depth + 1) ≡ link_count s (depth + 1)
links_more s depth = ap (λ (n : ℕ). link_count s depth + state_count s n) next ∙ ap (link_count s) (sym next)
  where
    next : depth + 1 ≡ suc depth
    next = omega arith

-- the numbers of the layer after a frontier's, by what the code has at hand
pub counts_are : (s : SpaceContent) (depth place place' : ℕ) (parents parents' : List Step) (bs given next : List Arrival) (tries states links : ℕ) (counts : LayerCounts) → IsFrontier s depth place parents bs
    → IsFrontier s (depth + 1) place' parents' next → given ≡ bs → states ≡ length next → tries ≡ tried_of s place given → links ≡ length parents
    → counts ≡ record { states = states; merged = sum_by (λ a. going_on s depth a.state) given - states; played = tries * s.hold; bytes = held_bytes (length given) states (links + states) } → AreCounts s (depth + 1) counts
counts_are s depth place place' parents parents' bs given next tries states links counts old new same e tried_is links_are is =
    let whole : states ≡ state_count s (depth + 1) = e ∙ frontier_states s (depth + 1) place' parents' next new in
    let before : depth ≡ (depth + 1) - 1 = omega arith in
    record {
      states = ap (λ (c : LayerCounts). c.states) is ∙ whole;
      merged = ap (λ (c : LayerCounts). c.merged) is
          ∙ ap (λ (n : ℕ). sum_by (λ a. going_on s depth a.state) given - n) whole
          ∙ ap (λ (n : ℕ). n - state_count s (depth + 1))
          (ap (λ (xs : List Arrival). sum_by (λ a. going_on s depth a.state) xs) same ∙ frontier_sum s (going_on s depth) depth place parents bs old ∙ ap (λ (n : ℕ). sum_by (going_on s n) (layer s n)) before);
      played = ap (λ (c : LayerCounts). c.played) is
          ∙ ap (λ (n : ℕ). n * s.hold)
          (tried_is
          ∙ ap (tried_of s place) same
          ∙ frontier_tries s depth place parents bs old
          ∙ frontier_sum s (tried s depth) depth place parents bs old
          ∙ ap (λ (n : ℕ). sum_by (tried s n) (layer s n)) before);
      bytes = ap (λ (c : LayerCounts). c.bytes) is
          ∙ ap (λ (n : ℕ). held_bytes n states (links + states)) (ap length same ∙ frontier_states s depth place parents bs old ∙ ap (state_count s) before)
          ∙ ap (λ (n : ℕ). held_bytes (state_count s ((depth + 1) - 1)) states (n + states)) (links_are ∙ old.links)
          ∙ ap (λ (n : ℕ). held_bytes (state_count s ((depth + 1) - 1)) n (link_count s depth + n)) whole
          ∙ ap (held_bytes (state_count s ((depth + 1) - 1)) (state_count s (depth + 1))) (links_more s depth);
    }

-- the line of a layer, by what the code has at hand
pub line_is : (s : SpaceContent) (depth next hold nanos : ℕ) (counts : LayerCounts) (text : List ℕ) → next ≡ depth + 1 → hold ≡ s.hold → AreCounts s next counts
    → text ≡ line_front next (next * hold) counts.states ++ line_back counts.merged counts.played counts.bytes (rate_of counts.played nanos) → text ≡ layer_line s (depth + 1) nanos
line_is s depth next hold nanos counts text deeper held are is =
    is
    ∙ ap (λ (n : ℕ). line_front next (next * n) counts.states ++ line_back counts.merged counts.played counts.bytes (rate_of counts.played nanos)) held
    ∙ ap (λ (n : ℕ). line_front next (next * s.hold) n ++ line_back counts.merged counts.played counts.bytes (rate_of counts.played nanos)) are.states
    ∙ ap (λ (n : ℕ). line_front next (next * s.hold) (state_count s next) ++ line_back n counts.played counts.bytes (rate_of counts.played nanos)) are.merged
    ∙ ap (λ (n : ℕ). line_front next (next * s.hold) (state_count s next) ++ line_back (merged_count s next) n counts.bytes (rate_of n nanos)) are.played
    ∙ ap (λ (n : ℕ). line_front next (next * s.hold) (state_count s next) ++ line_back (merged_count s next) (played_count s next) n (rate_of (played_count s next) nanos)) are.bytes
    ∙ ap (λ (n : ℕ). layer_line s n nanos) deeper
