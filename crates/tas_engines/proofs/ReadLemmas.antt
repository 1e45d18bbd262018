-- Reading inputs one after the other.
use Rattle.std.proofs.Common.{◌≡◌, ℕ, ◌+◌, ◌<◌, List, [], ◌∷◌, ◌++◌, length, take, drop, map, get_or, Option, refl, sym, ap, ◌∙◌, inl, inr, arith, subst}
use Rattle.std.specs.Prelude.{slice_set}
use Rattle.std.proofs.lemmas.List.{take-append-drop, take_more, take_more_set, take-set, drop_more, drop-set, drop-set-lt, map-append}
use Rattle.tas_engines.specs.declared.fault.ReadFault.{ReadFault}
use Rattle.tas_engines.specs.declared.fault.ReadFault.TheVariants.{Memory}
use Rattle.tas_engines.specs.Input.{IsReadWhole, IsReadOnto, StopsReading, StopsReadingTwo, AreReadWhole, StopsReadingAll}

pub whole_none : AreReadWhole [] [] []
unfolding AreReadWhole
whole_none = tt

pub whole_append : (xs ys : List (Option (List ℕ))) (ts : List (List ℕ)) (cs ds : List (Option (List ℕ))) (us : List (List ℕ)) → AreReadWhole xs ys ts → AreReadWhole cs ds us
    → AreReadWhole (xs ++ cs) (ys ++ ds) (ts ++ us)
unfolding AreReadWhole
whole_append [] [] [] cs ds us one two = two
whole_append [] [] (t ∷ ts) cs ds us one two = absurd one
whole_append [] (b ∷ ys) ts cs ds us one two = absurd one
whole_append (a ∷ xs) [] ts cs ds us one two = absurd one
whole_append (a ∷ xs) (b ∷ ys) [] cs ds us one two = absurd one
whole_append (a ∷ xs) (b ∷ ys) (t ∷ ts) cs ds us one two = (one.0, whole_append xs ys ts cs ds us one.1 two)

stops_after : (xs ys : List (Option (List ℕ))) (ts : List (List ℕ)) (cs ds : List (Option (List ℕ))) (fault : ReadFault) → AreReadWhole xs ys ts → StopsReadingAll cs ds fault
    → StopsReadingAll (xs ++ cs) (ys ++ ds) fault
unfolding AreReadWhole StopsReadingAll
stops_after [] [] [] cs ds fault one two = two
stops_after [] [] (t ∷ ts) cs ds fault one two = absurd one
stops_after [] (b ∷ ys) ts cs ds fault one two = absurd one
stops_after (a ∷ xs) [] ts cs ds fault one two = absurd one
stops_after (a ∷ xs) (b ∷ ys) [] cs ds fault one two = absurd one
stops_after (a ∷ xs) (b ∷ ys) (t ∷ ts) cs ds fault one two = inr (t, one.0, stops_after xs ys ts cs ds fault one.1 two)

pub stops_before : (xs ys cs : List (Option (List ℕ))) (fault : ReadFault) → StopsReadingAll xs ys fault → StopsReadingAll (xs ++ cs) (ys ++ cs) fault
unfolding StopsReadingAll
stops_before [] ys cs fault stops = absurd stops
stops_before (a ∷ xs) [] cs fault stops = absurd stops
stops_before (a ∷ xs) (b ∷ ys) cs fault (inl (stops, same)) = inl (stops, ap (λ l. l ++ cs) same)
stops_before (a ∷ xs) (b ∷ ys) cs fault (inr (bytes, whole, stops)) = inr (bytes, whole, stops_before xs ys cs fault stops)

-- all but the last were read whole, and the last one too
pub whole_last : (xs ys : List (Option (List ℕ))) (a b : Option (List ℕ)) (ts us : List (List ℕ)) → AreReadWhole xs ys ts → IsReadOnto a b ts us → AreReadWhole (xs ++ a ∷ []) (ys ++ b ∷ []) us
unfolding AreReadWhole
whole_last xs ys a b ts us whole (bytes, read, is) =
    subst (λ (l : List (List ℕ)). AreReadWhole (xs ++ a ∷ []) (ys ++ b ∷ []) l) (sym is) (whole_append xs ys ts (a ∷ []) (b ∷ []) (bytes ∷ []) whole (read, tt))

-- or reading it stopped
pub stops_last : (xs ys : List (Option (List ℕ))) (a b : Option (List ℕ)) (ts : List (List ℕ)) (fault : ReadFault) → AreReadWhole xs ys ts → StopsReading a b fault → StopsReadingAll (xs ++ a ∷ []) (ys ++ b ∷ []) fault
unfolding StopsReadingAll
stops_last xs ys a b ts fault whole stops = stops_after xs ys ts (a ∷ []) (b ∷ []) fault whole (inl (stops, refl))

-- ---- three inputs, of which the first two are read by one call

pub whole_three : (a a' b b' c c' : Option (List ℕ)) (x y z : List ℕ) → IsReadWhole a a' x → IsReadWhole b b' y → IsReadWhole c c' z → AreReadWhole (a ∷ b ∷ c ∷ []) (a' ∷ b' ∷ c' ∷ []) (x ∷ y ∷ z ∷ [])
unfolding AreReadWhole
whole_three a a' b b' c c' x y z one two three = (one, (two, (three, tt)))

pub stops_two : (a a' b b' c : Option (List ℕ)) (fault : ReadFault) → StopsReadingTwo a a' b b' fault → StopsReadingAll (a ∷ b ∷ c ∷ []) (a' ∷ b' ∷ c ∷ []) fault
unfolding StopsReadingAll
stops_two a a' b b' c fault (inl (stops, same)) = inl (stops, ap (λ (o : Option (List ℕ)). o ∷ c ∷ []) same)
stops_two a a' b b' c fault (inr (bytes, whole, stops)) = inr (bytes, whole, inl (stops, refl))

pub stops_third : (a a' b b' c c' : Option (List ℕ)) (x y : List ℕ) (fault : ReadFault) → IsReadWhole a a' x → IsReadWhole b b' y → StopsReading c c' fault → StopsReadingAll (a ∷ b ∷ c ∷ []) (a' ∷ b' ∷ c' ∷ []) fault
unfolding StopsReadingAll
stops_third a a' b b' c c' x y fault one two stops = inr (x, one, inr (y, two, inl (stops, refl)))

-- ---- a list of readers of which the first k are read

head_same : {X : Type 0} (x y : X) (xs ys : List X) → ◌≡◌ {A = List X} (x ∷ xs) (y ∷ ys) → x ≡ y
head_same x y xs ys e = cc

tail_same : {X : Type 0} (x y : X) (xs ys : List X) → ◌≡◌ {A = List X} (x ∷ xs) (y ∷ ys) → xs ≡ ys
tail_same x y xs ys e = cc

-- what stands from place k on, in both lists
parts : {X : Type 0} (fs ls : List X) (k : ℕ) (d : X) → k < length fs → length ls ≡ length fs → drop k ls ≡ drop k fs
    → ◌≡◌ {A = List X} (get_or ls k d ∷ drop (k + 1) ls) (get_or fs k d ∷ drop (k + 1) fs)
parts fs ls k d lt len rest = sym (drop_more ls k d (omega (arith, lt, len))) ∙ rest ∙ drop_more fs k d lt

pub rest_more : {X : Type 0} (fs ls : List X) (k : ℕ) (d x : X) → k < length fs → length ls ≡ length fs → drop k ls ≡ drop k fs → drop (k + 1) (slice_set ls k x) ≡ drop (k + 1) fs
rest_more fs ls k d x lt len rest = drop-set-lt (k + 1) ls k x (omega arith) ∙ tail_same _ _ _ _ (parts fs ls k d lt len rest)

whole_more : {X : Type 0} (r : X → Option (List ℕ)) (fs ls : List X) (k : ℕ) (d x : X) (bytes : List ℕ) (ts : List (List ℕ)) → k < length fs → length ls ≡ length fs → drop k ls ≡ drop k fs
    → AreReadWhole (map r (take k fs)) (map r (take k ls)) ts → IsReadWhole (r (get_or ls k d)) (r x) bytes
    → AreReadWhole (map r (take (k + 1) fs)) (map r (take (k + 1) (slice_set ls k x))) (ts ++ bytes ∷ [])
unfolding AreReadWhole
whole_more r fs ls k d x bytes ts lt len rest whole read =
    let here : get_or ls k d ≡ get_or fs k d = head_same _ _ _ _ (parts fs ls k d lt len rest) in
    let one : AreReadWhole (r (get_or fs k d) ∷ []) (r x ∷ []) (bytes ∷ []) = (subst (λ y. IsReadWhole (r y) (r x) bytes) here read, tt) in
    let all = whole_append (map r (take k fs)) (map r (take k ls)) ts (r (get_or fs k d) ∷ []) (r x ∷ []) (bytes ∷ []) whole one in
    subst (λ (l : List (Option (List ℕ))). AreReadWhole l (map r (take (k + 1) (slice_set ls k x))) (ts ++ bytes ∷ [])) (sym (ap (map r) (take_more fs k d lt) ∙ map-append r (take k fs) (get_or fs k d ∷ [])))
    (subst (λ (l : List (Option (List ℕ))). AreReadWhole (map r (take k fs) ++ r (get_or fs k d) ∷ []) l (ts ++ bytes ∷ []))
    (sym (ap (map r) (take_more_set ls k x (omega (arith, lt, len))) ∙ map-append r (take k ls) (x ∷ []))) all)

-- the same of bytes that were put after others
pub whole_onto : {X : Type 0} (r : X → Option (List ℕ)) (fs ls : List X) (k : ℕ) (d x : X) (ts us : List (List ℕ)) → k < length fs → length ls ≡ length fs → drop k ls ≡ drop k fs
    → AreReadWhole (map r (take k fs)) (map r (take k ls)) ts → IsReadOnto (r (get_or ls k d)) (r x) ts us → AreReadWhole (map r (take (k + 1) fs)) (map r (take (k + 1) (slice_set ls k x))) us
whole_onto r fs ls k d x ts us lt len rest whole (bytes, read, is) =
    subst (λ (l : List (List ℕ)). AreReadWhole (map r (take (k + 1) fs)) (map r (take (k + 1) (slice_set ls k x))) l) (sym is) (whole_more r fs ls k d x bytes ts lt len rest whole read)

-- reading stopped at place k
pub stops_at : {X : Type 0} (r : X → Option (List ℕ)) (fs ls : List X) (k : ℕ) (d x : X) (fault : ReadFault) (ts : List (List ℕ)) → k < length fs → length ls ≡ length fs → drop k ls ≡ drop k fs
    → AreReadWhole (map r (take k fs)) (map r (take k ls)) ts → StopsReading (r (get_or ls k d)) (r x) fault → StopsReadingAll (map r fs) (map r (slice_set ls k x)) fault
unfolding StopsReadingAll
stops_at r fs ls k d x fault ts lt len rest whole stops =
    let both = parts fs ls k d lt len rest in
    let here : get_or ls k d ≡ get_or fs k d = head_same _ _ _ _ both in
    let olds = map r (drop (k + 1) fs) in
    let news = map r (drop (k + 1) ls) in
    let one : StopsReadingAll (r (get_or fs k d) ∷ olds) (r x ∷ news) fault = inl (subst (λ y. StopsReading (r y) (r x) fault) here stops, ap (map r) (tail_same _ _ _ _ both)) in
    let all = stops_after (map r (take k fs)) (map r (take k ls)) ts (r (get_or fs k d) ∷ olds) (r x ∷ news) fault whole one in
    let old : fs ≡ take k fs ++ get_or fs k d ∷ drop (k + 1) fs = sym (take-append-drop k fs) ∙ ap (λ l. take k fs ++ l) (drop_more fs k d lt) in
    let new : slice_set ls k x ≡ take k ls ++ x ∷ drop (k + 1) ls =
    sym (take-append-drop k (slice_set ls k x)) ∙ ap (λ l. l ++ drop k (slice_set ls k x)) (take-set ls k x) ∙ ap (λ l. take k ls ++ l) (drop-set ls k x (omega (arith, lt, len))) in
    subst (λ (l : List (Option (List ℕ))). StopsReadingAll l (map r (slice_set ls k x)) fault) (sym (ap (map r) old ∙ map-append r (take k fs) (get_or fs k d ∷ drop (k + 1) fs)))
    (subst (λ (l : List (Option (List ℕ))). StopsReadingAll (map r (take k fs) ++ r (get_or fs k d) ∷ olds) l fault) (sym (ap (map r) new ∙ map-append r (take k ls) (x ∷ drop (k + 1) ls))) all)

-- what was read whole was within the limit, so that memory may have been refused then
pub refused_after : (old new : Option (List ℕ)) (bytes : List ℕ) → IsReadWhole old new bytes → StopsReading old new Memory
refused_after old new bytes whole = (bytes, whole.left_reader, whole.within)
