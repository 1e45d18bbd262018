-- What the code keeps is the layers of the definitions.
use Rattle.std.proofs.Common.{◌≡◌, ℕ, zero, suc, ◌+◌, ◌-◌, ◌<◌, ◌≤◌, Bool, true, false, List, [], ◌∷◌, ◌++◌, length, map, drop, get_or, Option, Some, None, refl, sym, ap, subst, ◌∙◌, arith, add-one}
use Rattle.std.specs.Prelude.{◌||◌, if◌then◌else◌, slice_index_or}
use Rattle.std.specs.List.{list_any}
use Rattle.std.proofs.lemmas.List.{get_or-drop, get_or_append_left, map-append, append-nil, length-append, length-map, drop_at}
use Rattle.vcs_cpu.specs.declared.halt.Halt.{Halt}
use Rattle.vcs_machine.specs.Equality.{are_same_machines}
use Rattle.vcs_machine.specs.Machine.{Machine, unless_halted}
use Rattle.indexmap.specs.IndexSet.{insert_key, insert_all}
use Rattle.tas_search.specs.declared.arrival.Arrival.{Arrival}
use Rattle.tas_search.specs.declared.arrival.Step.{Step}
use Rattle.tas_search.specs.Space.{SpaceContent, after_choice, low_at, count_at}
use Rattle.tas_search.specs.Inside.Layers.{Reached, with_reached, with_all, next_reached, next_from, next_of, grown_from, grown, layers_from, root, first_layer, layer_of}
use Rattle.tas_search.specs.Inside.Arrivals.{are_same_arrivals, arrivals_from, arrivals_of, grown_arrivals, no_step, path, with_path, AreWithin, steps_of, IsPlaceAfter, IsFrontier}
use Rattle.tas_search.specs.LayerLines.{state_count, link_count}
use Rattle.tas_search.proofs.CountLemmas.{layer_states, links_more}
use Rattle.tas_search.proofs.LayerLemmas.{layer_more}

-- ---- paths

pub within_more : (a b : ℕ) (steps : List Step) → a ≤ b → AreWithin a steps → AreWithin b steps
within_more a b [] le h = tt
within_more a b (x ∷ xs) le h = (omega arith, within_more a b xs le h.1)

pub within_append : (n : ℕ) (xs ys : List Step) → AreWithin n xs → AreWithin n ys → AreWithin n (xs ++ ys)
within_append n [] ys h g = g
within_append n (x ∷ xs) ys h g = (h.0, within_append n xs ys h.1 g)

pub within_at : (n : ℕ) (steps : List Step) (i : ℕ) → AreWithin n steps → i < length steps → (slice_index_or steps i no_step).parent < n
within_at n [] i h lt = absurd (omega arith)
within_at n (x ∷ xs) zero h lt = h.0
within_at n (x ∷ xs) (suc i) h lt = within_at n xs i h.1 (omega arith)

-- a path stays where more parent links come after those that it takes
pub path_stays : (parents more : List Step) (d : ℕ) (step : Step) → AreWithin (length parents) parents → step.parent < length parents
    → path (parents ++ more) d step ≡ path parents d step
path_stays parents more zero step h lt = refl
path_stays parents more (suc d) step h lt =
    let at : slice_index_or (parents ++ more) step.parent no_step ≡ slice_index_or parents step.parent no_step = get_or_append_left parents more no_step step.parent lt in
    ap (λ (x : Step). path (parents ++ more) d x ++ step.choice ∷ []) at
    ∙ ap (λ (ks : List ℕ). ks ++ step.choice ∷ []) (path_stays parents more d (slice_index_or parents step.parent no_step) h (within_at (length parents) parents step.parent h lt))

pub paths_stay : (parents more : List Step) (d : ℕ) (bs : List Arrival) → AreWithin (length parents) parents → AreWithin (length parents) (steps_of bs)
    → map (with_path (parents ++ more) d) bs ≡ map (with_path parents d) bs
paths_stay parents more d [] h g = refl
paths_stay parents more d (a ∷ bs) h g =
    ap (λ (ks : List ℕ). record { machine = a.state; sequence = ks } ∷ map (with_path (parents ++ more) d) bs) (path_stays parents more d a.step h g.0)
    ∙ ap (λ (rs : List Reached). with_path parents d a ∷ rs) (paths_stay parents more d bs h g.1)

-- ---- arrivals

map_choice : (f : Arrival → Reached) (b : Bool) (ks : List Arrival) (a : Arrival) → map f (if b then ks else ks ++ a ∷ []) ≡ (if b then map f ks else map f ks ++ f a ∷ [])
map_choice f true ks a = refl
map_choice f false ks a = map-append f ks (a ∷ [])

module _ (s : SpaceContent) (parents : List Step) (d : ℕ) where
  same_known : (a : Arrival) (ks : List Arrival) → list_any (are_same_arrivals a) ks ≡ list_any (λ o. are_same_machines a.state o.machine) (map (with_path parents d) ks)
  same_known a [] = refl
  same_known a (k ∷ ks) = ap (λ (b : Bool). are_same_machines a.state k.state || b) (same_known a ks)

  pub insert_is : (ks : List Arrival) (a : Arrival) → map (with_path parents d) (insert_key are_same_arrivals ks a) ≡ with_reached (map (with_path parents d) ks) (with_path parents d a)
  insert_is ks a =
      map_choice (with_path parents d) (list_any (are_same_arrivals a) ks) ks a
      ∙ ap (λ (b : Bool). if b then map (with_path parents d) ks else map (with_path parents d) ks ++ with_path parents d a ∷ []) (same_known a ks)

  pub insert_all_is : (ks bs : List Arrival) → map (with_path parents d) (insert_all are_same_arrivals ks bs) ≡ with_all (map (with_path parents d) ks) (map (with_path parents d) bs)
  insert_all_is ks [] = refl
  insert_all_is ks (a ∷ bs) =
      insert_all_is (insert_key are_same_arrivals ks a) bs
      ∙ ap (λ (rs : List Reached). with_all rs (map (with_path parents d) bs)) (insert_is ks a)

module _ (s : SpaceContent) (parents : List Step) (d : ℕ) where
  pub from_is : (a : Arrival) (place k n : ℕ) → slice_index_or parents place no_step ≡ a.step
      → map (with_path parents (suc d)) (arrivals_from s a.state place k n) ≡ next_from s (with_path parents d a) k n
  from_is a place k zero e = refl
  from_is a place k (suc n) e =
      ap (λ (x : Step). record { machine = after_choice s a.state k; sequence = path parents d x ++ k ∷ [] } ∷ map (with_path parents (suc d)) (arrivals_from s a.state place (suc k) n)) e
      ∙ ap (λ (rs : List Reached). next_reached s (with_path parents d a) k ∷ rs) (from_is a place (suc k) n e)

  map_halted : (f : Arrival → Reached) (h : Option Halt) (bs : List Arrival) → map f (unless_halted h bs []) ≡ unless_halted h (map f bs) []
  map_halted f None bs = refl
  map_halted f (Some x) bs = refl

  pub of_is : (a : Arrival) (place : ℕ) → slice_index_or parents (suc place) no_step ≡ a.step
      → map (with_path parents (suc d)) (arrivals_of s a.state (suc place)) ≡ next_of s (with_path parents d a)
  of_is a place e =
      map_halted (with_path parents (suc d)) a.state.halt (arrivals_from s a.state (suc place) 0 (length s.choices))
      ∙ ap (λ (rs : List Reached). unless_halted a.state.halt rs []) (from_is a (suc place) 0 (length s.choices) e)

  plus : (n : ℕ) → n + 0 ≡ n
  plus n = omega arith

  pub head_at : (steps : List Step) (step : Step) (place : ℕ) → drop place parents ≡ step ∷ steps → slice_index_or parents place no_step ≡ step
  head_at steps step place e =
      sym (get_or-drop place parents 0 no_step ∙ ap (λ (n : ℕ). slice_index_or parents n no_step) (plus place)) ∙ ap (λ (xs : List Step). slice_index_or xs 0 no_step) e

  tail_at : (xs : List Step) (place : ℕ) (y : Step) (ys : List Step) → drop place xs ≡ y ∷ ys → drop (suc place) xs ≡ ys
  tail_at [] zero y ys e = absurd cc
  tail_at [] (suc place) y ys e = absurd cc
  tail_at (x ∷ xs) zero y ys e = cc
  tail_at (x ∷ xs) (suc place) y ys e = tail_at xs place y ys e

  -- what some arrivals reach, whose steps are among the parent links from a place after the start's on, before others
  pub grown_is : (bs next : List Arrival) (place : ℕ) (others : List Step) → drop (suc place) parents ≡ steps_of bs ++ others
      → map (with_path parents (suc d)) (grown_arrivals s next (suc place) bs) ≡ grown_from s (map (with_path parents (suc d)) next) (map (with_path parents d) bs)
  grown_is [] next place others e = refl
  grown_is (a ∷ bs) next place others e =
      grown_is bs (insert_all are_same_arrivals next (arrivals_of s a.state (suc place))) (suc place) others (tail_at parents (suc place) a.step (steps_of bs ++ others) e)
      ∙ ap (λ (rs : List Reached). grown_from s rs (map (with_path parents d) bs))
      (insert_all_is s parents (suc d) next (arrivals_of s a.state (suc place))
      ∙ ap (λ (rs : List Reached). with_all (map (with_path parents (suc d)) next) rs) (of_is a place (head_at (steps_of bs ++ others) a.step (suc place) e))
      )

-- what the start reaches
first_is : (s : SpaceContent) (parents : List Step) (a : Arrival) → slice_index_or parents 0 no_step ≡ a.step → with_path parents 0 a ≡ root s
    → map (with_path parents 1) (insert_all are_same_arrivals [] (arrivals_of s a.state 0)) ≡ first_layer s
first_is s parents a e is =
    insert_all_is s parents 1 [] (arrivals_of s a.state 0)
    ∙ ap (with_all [])
    (map_halted s parents 0 (with_path parents 1) a.state.halt (arrivals_from s a.state 0 s.low (s.high - s.low))
    ∙ ap (λ (rs : List Reached). unless_halted a.state.halt rs []) (from_is s parents 0 a 0 s.low (s.high - s.low) e)
    ∙ ap (λ (r : Reached). unless_halted r.machine.halt (next_from s r s.low (s.high - s.low)) []) is
    )

-- ---- the parents of what was added

module _ (s : SpaceContent) (n : ℕ) where
  steps_push : (b : Bool) (ks : List Arrival) (a : Arrival) → AreWithin n (steps_of ks) → a.step.parent < n → AreWithin n (steps_of (if b then ks else ks ++ a ∷ []))
  steps_push true ks a h lt = h
  steps_push false ks a h lt = push ks h
    where
      push : (ks : List Arrival) → AreWithin n (steps_of ks) → AreWithin n (steps_of (ks ++ a ∷ []))
      push [] h = (lt, tt)
      push (k ∷ ks) h = (h.0, push ks h.1)

  inserted_within : (bs ks : List Arrival) → AreWithin n (steps_of ks) → AreWithin n (steps_of bs) → AreWithin n (steps_of (insert_all are_same_arrivals ks bs))
  inserted_within [] ks h g = h
  inserted_within (a ∷ bs) ks h g = inserted_within bs (insert_key are_same_arrivals ks a) (steps_push (list_any (are_same_arrivals a) ks) ks a h g.0) g.1

  from_within : (c k place : ℕ) (m : Machine) → place < n → AreWithin n (steps_of (arrivals_from s m place k c))
  from_within zero k place m lt = tt
  from_within (suc c) k place m lt = (lt, from_within c (suc k) place m lt)

  of_within : (place : ℕ) (m : Machine) → place < n → AreWithin n (steps_of (arrivals_of s m place))
  of_within place m lt = split m.halt
    where
      split : (h : Option Halt) → AreWithin n (steps_of (unless_halted h (arrivals_from s m place (low_at s place) (count_at s place)) []))
      split None = from_within (count_at s place) (low_at s place) place m lt
      split (Some x) = tt

  pub grown_within : (bs next : List Arrival) (place : ℕ) → AreWithin n (steps_of next) → place + length bs ≤ n → AreWithin n (steps_of (grown_arrivals s next place bs))
  grown_within [] next place h le = h
  grown_within (a ∷ bs) next place h le =
      grown_within bs (insert_all are_same_arrivals next (arrivals_of s a.state place)) (suc place)
      (inserted_within (arrivals_of s a.state place) next h (of_within place a.state (omega arith))) (omega arith)

-- ---- from layer to layer

pub root_frontier : (s : SpaceContent) → IsFrontier s 0 0 (no_step ∷ []) (record { state = s.start; step = no_step } ∷ [])
unfolding layers_from
root_frontier s = record { layer = refl; within = (omega arith, tt); steps = refl; count = refl; links = refl; after = tt }

no_root : (s : SpaceContent) → ◌≡◌ {A = List Reached} [] (root s ∷ []) → ⊥
no_root s e = cc

one_root : (s : SpaceContent) (r o : Reached) (rs : List Reached) → r ∷ o ∷ rs ≡ root s ∷ [] → ⊥
one_root s r o rs e = cc

is_root : (s : SpaceContent) (r : Reached) → r ∷ [] ≡ root s ∷ [] → r ≡ root s
is_root s r e = cc

-- what a frontier's arrivals reach is the next layer
pub next_layer_is : (s : SpaceContent) (depth place : ℕ) (parents : List Step) (bs : List Arrival) → IsFrontier s depth place parents bs
    → map (with_path parents (suc depth)) (grown_arrivals s [] place bs) ≡ layer_of s (suc depth)
unfolding layers_from
next_layer_is s zero zero parents [] frontier = absurd (no_root s frontier.layer)
next_layer_is s zero zero parents (a ∷ []) frontier = first_is s parents a (head_at s parents 0 [] a.step 0 frontier.steps) (is_root s (with_path parents 0 a) frontier.layer)
next_layer_is s zero zero parents (a ∷ b ∷ bs) frontier = absurd (one_root s (with_path parents 0 a) (with_path parents 0 b) (map (with_path parents 0) bs) frontier.layer)
next_layer_is s zero (suc place) parents bs frontier = absurd frontier.after
next_layer_is s (suc depth) zero parents bs frontier = absurd frontier.after
next_layer_is s (suc depth) (suc place) parents bs frontier =
    grown_is s parents (suc depth) bs [] place [] (frontier.steps ∙ sym (append-nil (steps_of bs)))
    ∙ ap (grown s) frontier.layer
    ∙ sym (layer_more s depth)

-- a frontier has parent links
some_parents : (s : SpaceContent) (depth place : ℕ) (parents : List Step) (bs : List Arrival) → IsFrontier s depth place parents bs → 0 < length parents
some_parents s zero zero parents [] frontier = absurd (no_root s frontier.layer)
some_parents s zero zero parents (a ∷ bs) frontier = omega (arith, frontier.count)
some_parents s zero (suc place) parents bs frontier = absurd frontier.after
some_parents s (suc depth) zero parents bs frontier = absurd frontier.after
some_parents s (suc depth) (suc place) parents bs frontier = omega (arith, frontier.count)

place_after : (depth place : ℕ) → 0 < place → IsPlaceAfter (suc depth) place
place_after depth zero some = absurd (omega arith)
place_after depth (suc place) some = tt

-- the arrivals after those of a frontier, whose steps come to the end of the parent links
pub next_frontier : (s : SpaceContent) (depth place : ℕ) (parents : List Step) (bs next : List Arrival) → IsFrontier s depth place parents bs
    → next ≡ grown_arrivals s [] place bs → IsFrontier s (depth + 1) (length parents) (parents ++ steps_of next) next
next_frontier s depth place parents bs next frontier e =
    let added : AreWithin (length parents) (steps_of next) =
    subst (λ (ns : List Arrival). AreWithin (length parents) (steps_of ns)) (sym e) (grown_within s (length parents) bs [] place tt (omega (arith, frontier.count))) in
    let count : length (parents ++ steps_of next) ≡ length parents + length next = length-append parents (steps_of next) ∙ ap (λ (n : ℕ). length parents + n) (length-map next (λ a. a.step)) in
    let is : map (with_path parents (suc depth)) next ≡ layer_of s (suc depth) = ap (map (with_path parents (suc depth))) e ∙ next_layer_is s depth place parents bs frontier in
    let plus : suc depth ≡ depth + 1 = omega arith in
    let states : length next ≡ state_count s (suc depth) = sym (length-map next (with_path parents (suc depth))) ∙ ap length is ∙ layer_states s (suc depth) in
    record {
      layer = rw add-one (paths_stay parents (steps_of next) (suc depth) next frontier.within added ∙ is);
      within = subst (λ (n : ℕ). AreWithin n (parents ++ steps_of next)) (sym count)
          (within_append (length parents + length next) parents (steps_of next) (within_more (length parents) (length parents + length next) parents (omega arith) frontier.within) (within_more (length parents) (length parents + length next) (steps_of next) (omega arith) added));
      steps = drop_at parents (steps_of next) (length parents) refl;
      count = sym count;
      links = count ∙ ap (λ (n : ℕ). n + length next) frontier.links ∙ ap (λ (n : ℕ). link_count s depth + n) (states ∙ ap (state_count s) plus) ∙ links_more s depth;
      after = rw add-one (place_after depth (length parents) (some_parents s depth place parents bs frontier));
    }

within_drop : (n k : ℕ) (steps : List Step) → AreWithin n steps → AreWithin n (drop k steps)
within_drop n zero steps h = h
within_drop n (suc k) [] h = tt
within_drop n (suc k) (x ∷ xs) h = within_drop n k xs h.1

step_within : (n : ℕ) (bs : List Arrival) (i : ℕ) (d : Arrival) → AreWithin n (steps_of bs) → i < length bs → (get_or bs i d).step.parent < n
step_within n [] i d h lt = absurd (omega arith)
step_within n (a ∷ bs) zero d h lt = h.0
step_within n (a ∷ bs) (suc i) d h lt = step_within n bs i d h.1 (omega arith)

-- the last step of each path leads into the parent links
pub last_within : (s : SpaceContent) (depth place : ℕ) (parents : List Step) (bs : List Arrival) (i : ℕ) (d : Arrival) → IsFrontier s depth place parents bs → i < length bs
    → (get_or bs i d).step.parent < length parents
last_within s depth place parents bs i d frontier lt =
    step_within (length parents) bs i d (subst (AreWithin (length parents)) frontier.steps (within_drop (length parents) place parents frontier.within)) lt

-- the frontier of the empty sequence
pub first_frontier_is : (s : SpaceContent) (start : Machine) (parents : List Step) (none keys : List Arrival) → start ≡ s.start → parents ≡ no_step ∷ [] → none ≡ []
    → keys ≡ insert_key are_same_arrivals none (record { state = start; step = no_step }) → IsFrontier s 0 0 parents keys
first_frontier_is s start parents none keys at is empty e =
    subst (λ (xs : List Step). IsFrontier s 0 0 xs keys) (sym is) (subst (λ (ks : List Arrival). IsFrontier s 0 0 (no_step ∷ []) ks) (sym keys_are) (root_frontier s))
  where
    keys_are : keys ≡ record { state = s.start; step = no_step } ∷ []
    keys_are =
        e
        ∙ ap (λ (ks : List Arrival). insert_key are_same_arrivals ks (record { state = start; step = no_step })) empty
        ∙ ap (λ (m : Machine). record { state = m; step = no_step } ∷ []) at

-- the frontier after it, by what the code has at hand
pub moved_frontier : (s : SpaceContent) (depth place end : ℕ) (parents after : List Step) (bs given next : List Arrival) → IsFrontier s depth place parents bs → given ≡ bs → end ≡ length parents
    → after ≡ parents ++ steps_of next → next ≡ grown_arrivals s [] place given → IsFrontier s (depth + 1) end after next
moved_frontier s depth place end parents after bs given next frontier same at is e =
    subst (λ (n : ℕ). IsFrontier s (depth + 1) n after next) (sym at)
    (subst (λ (xs : List Step). IsFrontier s (depth + 1) (length parents) xs next) (sym is)
    (next_frontier s depth place parents bs next frontier (e ∙ ap (grown_arrivals s [] place) same)))
