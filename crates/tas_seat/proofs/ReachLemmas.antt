-- Looks, wherever they are answered.
use Rattle.std.proofs.Common.{◌≡◌, ℕ, ◌+◌, ◌-◌, ◌<◌, ◌≤◌, Bool, cond, true, false, List, [], ◌∷◌, ◌++◌, length, take, drop, get_or, Option, Some, None, Result, Ok, Err, IfOk, ◌⊎◌, inl, inr, refl, sym, ap, subst, ◌∙◌, arith}
use Rattle.std.specs.Prelude.{nat_le, nat_lt, ◌&&◌, if◌then◌else◌, MatchResult}
use Rattle.std.specs.Option.{option_map}
use Rattle.std.proofs.lemmas.Bool.{cases_lt, lt-ltb}
use Rattle.std.proofs.lemmas.Bool.Decides.{nat_tests}
use Rattle.std.proofs.lemmas.List.{length-append, length-take-le, length-drop}
use Rattle.std.proofs.lemmas.Result.{MatchResult-weaker}
use Rattle.vcs_cpu.specs.declared.halt.Halt.{Halt}
use Rattle.vcs_cpu.specs.declared.halt.Halt.TheVariants.{Undocumented}
use Rattle.vcs_inputs.specs.declared.input.Input.{Input}
use Rattle.vcs_machine.specs.declared.state.State.{State}
use Rattle.vcs_inputs.specs.Input.{no_input}
use Rattle.vcs_machine.proofs.LagFrames.{lag_law}
use Rattle.vcs_tia.specs.Picture.{lit_count}
use Rattle.tas_movie.specs.Content.{MovieContent, most_inputs, blank_movie}
use Rattle.tas_movie.specs.declared.edit.Edit.{Edit}
use Rattle.tas_movie.specs.declared.edit.Edit.TheVariants.{Load, Insert, Replace, Delete}
use Rattle.tas_movie.specs.declared.edit.EditRefusal.{EditRefusal}
use Rattle.tas_movie.specs.declared.edit.EditRefusal.TheVariants.{Long}
use Rattle.tas_movie.specs.Edit.{IsAllowed, refusal, edited, edited_unless, spliced, place_refusal, length_refusal}
use Rattle.tas_movie.proofs.EditLemmas.{place_within, insert_within, unrefused}
use Rattle.tas_green.specs.Run.{state_after, picture_of}
use Rattle.tas_published.specs.declared.entry.Entry.{Entry}
use Rattle.tas_published.specs.declared.errors.ShotError.{ShotError}
use Rattle.tas_published.specs.declared.errors.ShotError.TheVariants.{NoEntry as NoShotEntry, NoFrame as NoShotFrame, Memory as NoShotMemory, Halted as ShotHalted}
use Rattle.tas_published.specs.declared.errors.StateError.{StateError}
use Rattle.tas_published.specs.declared.errors.StateError.TheVariants.{NoEntry as NoStateEntry, NoFrame as FewFrames, Memory as NoStateMemory}
use Rattle.tas_session.specs.declared.replies.Shot.{Shot as ShotOf}
use Rattle.tas_session.specs.declared.replies.Reached.{Reached}
use Rattle.tas_session.specs.Answers.{answer_shot, shown_of}
use Rattle.tas_published.specs.History.{movie_from, movie_of}
use Rattle.tas_published.specs.Errors.{shot_error}
use Rattle.tas_desk.specs.Parts.{inputs_of}
use Rattle.tas_engines.specs.Lag.{lag_lines_between, LagFramesIgnoreInput}
use Rattle.tas_engines.specs.declared.fault.RunFault.{RunFault}
use Rattle.tas_engines.specs.declared.fault.RunFault.TheVariants.{NoEntry, Memory}
use Rattle.tas_language.specs.declared.command.Command.TheVariants.{Shot}
use Rattle.tas_language.specs.declared.reply.Reply.{Reply}
use Rattle.tas_language.specs.declared.reply.Reply.TheVariants.{NoFrame, Drawn, OutOfMemory}
use Rattle.tas_language.specs.Replies.{reply_text}
use Rattle.tas_language.specs.declared.request.Request.{Request}
use Rattle.tas_language.specs.declared.request.Request.TheVariants.{Do, Retouch, Picture, Pictures, Ram, Digest, Lag, Inputs, Movie, States, Share, History, Version, Begin, Commit, Drop, Quit}
use Rattle.tas_language.specs.Answers.{ram_text, lag_text, inputs_text}
use Rattle.tas_seat.specs.Turns.{Standing, Unforeseen, standing_at, halted_reply, shot_reply, IsTurn}
use Rattle.tas_seat.specs.Requests.{ShotLeaves, look_text, look_places, IsLooked, inputs_found}
use Rattle.tas_seat.specs.Outcomes.{unshown_as}
use Rattle.tas_seat.specs.Inside.Looking.{IsShotFound, IsStateFound, CanLook, AsksForState, HasText, HasReport}
use Rattle.tas_seat.proofs.EditLemmas.{unforeseen}
use Rattle.tas_seat.proofs.TextLemmas.{text_or_memory}

-- ---- what is there

-- what a frame shows that is there
pub shown_frame : (movie : MovieContent) (k : ℕ) → k < length movie.inputs → answer_shot movie k ≡ Some (shown_of (state_after movie (k + 1)).halt (picture_of movie k))
shown_frame movie k within = rw (lt-ltb k (length movie.inputs) within) refl

shot_none : (movie : MovieContent) (k : ℕ) → length movie.inputs ≤ k → answer_shot movie k ≡ None
shot_none movie k le =
    let never : nat_lt k (length movie.inputs) ≡ false = grind (arith, nat_tests) in ap (λ (b : Bool). if b then Some (shown_of (state_after movie (k + 1)).halt (picture_of movie k)) else None) never

both_true : (p q : Bool) → p ≡ true → q ≡ true → (p && q) ≡ true
both_true p q is also = ap (λ (b : Bool). b && q) is ∙ also

not_both : (p q : Bool) → (p ≡ true → q ≡ true → ⊥) → (p && q) ≡ false
not_both true true never = absurd (never refl refl)
not_both true false never = refl
not_both false q never = refl

-- and where a frame shows something, the movie has it
pub shown_within : (movie : MovieContent) (k : ℕ) (shown : Result (List ℕ) Halt) → answer_shot movie k ≡ Some shown → k < length movie.inputs
shown_within movie k shown is =
    elim (cases_lt k (length movie.inputs)) [
      | inl within ↦ within
      | inr past ↦ absurd (cc (sym (shot_none movie k past) ∙ is))
    ]

-- ---- a movie's length fits a word

refused : (r : EditRefusal) → ◌≡◌ {A = Option EditRefusal} (Some r) None → ⊥
refused r e = cc

length_within : (len longer : ℕ) → length_refusal len longer ≡ None → longer ≤ most_inputs
length_within len longer none =
    elim (cases_lt most_inputs longer) [
      | inl past ↦ absurd (refused (Long len) (sym (ap (λ (b : Bool). cond b (Some (Long len)) None) (lt-ltb most_inputs longer past)) ∙ none))
      | inr within ↦ within
    ]

spliced_length : (at count : ℕ) (new inputs : List Input) → at + count ≤ length inputs → length (spliced at count new inputs) + count ≡ length inputs + length new
spliced_length at count new inputs le =
    let is : length (spliced at count new inputs) ≡ length ((take at inputs ++ new) ++ drop (at + count) inputs) = refl in
    omega (
      arith,
      is,
      length-append (take at inputs ++ new) (drop (at + count) inputs),
      length-append (take at inputs) new,
      length-take-le at inputs (let lower : at ≤ length inputs = omega (arith, le) in lower),
      length-drop (at + count) inputs,
      le,
    )

few_changed : {A : Type 0} (movie : MovieContent) (edit : Edit A) → length movie.inputs ≤ most_inputs → (r : Option EditRefusal) → refusal movie edit ≡ r → length (edited_unless r movie edit).inputs ≤ most_inputs
few_changed movie edit few (Some refused) is = few
few_changed movie (Load cart) few None is = few
few_changed movie (Insert at inputs) few None is =
    let place = insert_within (length movie.inputs) at (length inputs) is in
    let long = length_within (length movie.inputs) (length movie.inputs + length inputs) (unrefused (place_refusal (length movie.inputs) at at) (length_refusal (length movie.inputs) (length movie.inputs + length inputs)) is).1 in
    omega (arith, spliced_length at 0 inputs movie.inputs (let lower : at + 0 ≤ length movie.inputs = omega (arith, place) in lower), long)
few_changed movie (Replace at inputs) few None is = let place = place_within (length movie.inputs) at (at + length inputs) is in omega (arith, spliced_length at (length inputs) inputs movie.inputs place, few)
few_changed movie (Delete at count) few None is = let place = place_within (length movie.inputs) at (at + count) is in omega (arith, spliced_length at count [] movie.inputs place, few)

-- nor does an edit that it allows put in more
pub few_put_in : {A : Type 0} (movie : MovieContent) (edit : Edit A) → length movie.inputs ≤ most_inputs → IsAllowed movie edit → inputs_of edit ≤ most_inputs
few_put_in movie (Load cart) few is = omega arith
few_put_in movie (Insert at inputs) few is =
    let long = length_within (length movie.inputs) (length movie.inputs + length inputs) (unrefused (place_refusal (length movie.inputs) at at) (length_refusal (length movie.inputs) (length movie.inputs + length inputs)) is).1 in
    omega (arith, long)
few_put_in movie (Replace at inputs) few is = let place = place_within (length movie.inputs) at (at + length inputs) is in omega (arith, place, few)
few_put_in movie (Delete at count) few is = omega arith

few_from : {A : Type 0} (movie : MovieContent) (history : List (Entry A)) → length movie.inputs ≤ most_inputs → length (movie_from movie history).inputs ≤ most_inputs
unfolding movie_from
few_from movie [] few = few
few_from movie (entry ∷ entries) few = few_from (edited movie entry.edit) entries (few_changed movie entry.edit few (refusal movie entry.edit) refl)

pub few_inputs : {A : Type 0} (history : List (Entry A)) → length (movie_of history).inputs ≤ most_inputs
few_inputs history = few_from blank_movie history (omega arith)

-- ---- what looks at a state ask for

pub ram_there : (stands : Standing) (k : ℕ) → k ≤ length stands.movie.inputs → look_text stands (Ram k) ≡ Some (ram_text stands.made k (state_after stands.movie k).riot.ram)
ram_there stands k within =
    let yes : nat_le k (length stands.movie.inputs) ≡ true = grind (arith, nat_tests) in ap (λ (b : Bool). if b then Some (ram_text stands.made k (state_after stands.movie k).riot.ram) else None) yes

ram_none : (stands : Standing) (k : ℕ) → (k ≤ k → k ≤ length stands.movie.inputs → ⊥) → look_text stands (Ram k) ≡ None
ram_none stands k never =
    let past : length stands.movie.inputs < k = elim (cases_lt (length stands.movie.inputs) k) [
      | inl lt ↦ lt
      | inr le ↦ absurd (never (omega arith) le)
    ] in
    let no : nat_le k (length stands.movie.inputs) ≡ false = grind (arith, nat_tests) in
    ap (λ (b : Bool). if b then Some (ram_text stands.made k (state_after stands.movie k).riot.ram) else None) no

pub ram_asks : (k : ℕ) → AsksForState (Ram k) k k
ram_asks k = record { places = refl; can = λ movie order within. (within, refl); found = λ stands order within. (_, ram_there stands k within); none = λ stands never. ram_none stands k never }

pub lag_there : (stands : Standing) (a b : ℕ) → a ≤ b → b ≤ length stands.movie.inputs → look_text stands (Lag a b) ≡ Some (lag_text stands.made a b (lag_lines_between stands.movie a b))
lag_there stands a b order within =
    ap (λ (t : Bool). if t then Some (lag_text stands.made a b (lag_lines_between stands.movie a b)) else None) (both_true (nat_le a b) (nat_le b (length stands.movie.inputs)) (grind (arith, nat_tests)) (grind (arith, nat_tests)))

lag_none : (stands : Standing) (a b : ℕ) → (a ≤ b → b ≤ length stands.movie.inputs → ⊥) → look_text stands (Lag a b) ≡ None
lag_none stands a b never =
    ap (λ (t : Bool). if t then Some (lag_text stands.made a b (lag_lines_between stands.movie a b)) else None)
    (not_both (nat_le a b) (nat_le b (length stands.movie.inputs)) (λ (p : nat_le a b ≡ true) (q : nat_le b (length stands.movie.inputs) ≡ true). never (grind (arith, nat_tests)) (grind (arith, nat_tests))))

-- what `inputs` finds

pub inputs_there : (stands : Standing) (a b : ℕ) → a ≤ b → b ≤ length stands.movie.inputs → inputs_found stands a b ≡ inputs_text stands.made a b (take (b - a) (drop a stands.movie.inputs))
inputs_there stands a b order within =
    ap (λ (t : Bool). if t then inputs_text stands.made a b (take (b - a) (drop a stands.movie.inputs)) else reply_text (NoFrame stands.made (length stands.movie.inputs)))
    (both_true (nat_le a b) (nat_le b (length stands.movie.inputs)) (grind (arith, nat_tests)) (grind (arith, nat_tests)))

pub inputs_none : (stands : Standing) (a b : ℕ) → (a ≤ b → b ≤ length stands.movie.inputs → ⊥) → inputs_found stands a b ≡ reply_text (NoFrame stands.made (length stands.movie.inputs))
inputs_none stands a b never =
    ap (λ (t : Bool). if t then inputs_text stands.made a b (take (b - a) (drop a stands.movie.inputs)) else reply_text (NoFrame stands.made (length stands.movie.inputs)))
    (not_both (nat_le a b) (nat_le b (length stands.movie.inputs)) (λ (p : nat_le a b ≡ true) (q : nat_le b (length stands.movie.inputs) ≡ true). never (grind (arith, nat_tests)) (grind (arith, nat_tests))))

pub lag_asks : (a b : ℕ) → AsksForState (Lag a b) a b
lag_asks a b = record { places = refl; can = λ movie order within. (order, within, refl); found = λ stands order within. (_, lag_there stands a b order within); none = λ stands never. lag_none stands a b never }

pub lag_ignored : (movie : MovieContent) → LagFramesIgnoreInput movie
lag_ignored movie = λ k other is. lag_law movie.cart (state_after movie k) (get_or movie.inputs k no_input) other is

-- a look can be answered from the state that was reached, in another name of the movie
pub can_reached : (movie same : MovieContent) (made : ℕ) (look : Request) (from to : ℕ) (entry kept : Type 0) (left : ℕ → Type 0) (reached : Result Reached StateError) → AsksForState look from to
    → IsStateFound (standing_at movie made) entry kept left from to reached → IfOk reached (λ found. same ≡ movie) → IfOk reached (λ found. CanLook look same found.state)
can_reached movie same made look from to entry kept left (Ok found) asks is name =
    subst (λ (s : State). CanLook look same s) (sym is.2) (subst (λ (m : MovieContent). CanLook look m (state_after movie from)) (sym name) (asks.can movie is.0 is.1))
can_reached movie same made look from to entry kept left (Err error) asks is name = tt

-- ---- of all requests

-- a claim of each look is one of each request with places
pub of_looks : (P : Request → Type 0) (at : ℕ × ℕ) (request : Request) → look_places request ≡ Some at → ((k : ℕ) → P (Picture k)) → ((k : ℕ) → P (Ram k)) → ((k : ℕ) → P (Digest k)) → ((a b : ℕ) → P (Lag a b)) → P request
of_looks P at (Picture k) is picture ram digest lag = picture k
of_looks P at (Ram k) is picture ram digest lag = ram k
of_looks P at (Digest k) is picture ram digest lag = digest k
of_looks P at (Lag a b) is picture ram digest lag = lag a b
of_looks P at (Do command) is picture ram digest lag = absurd (cc is)
of_looks P at (Retouch retouch) is picture ram digest lag = absurd (cc is)
of_looks P at (Pictures from to) is picture ram digest lag = absurd (cc is)
of_looks P at (Inputs from to) is picture ram digest lag = absurd (cc is)
of_looks P at Movie is picture ram digest lag = absurd (cc is)
of_looks P at States is picture ram digest lag = absurd (cc is)
of_looks P at Share is picture ram digest lag = absurd (cc is)
of_looks P at (History from) is picture ram digest lag = absurd (cc is)
of_looks P at Version is picture ram digest lag = absurd (cc is)
of_looks P at Begin is picture ram digest lag = absurd (cc is)
of_looks P at Commit is picture ram digest lag = absurd (cc is)
of_looks P at Drop is picture ram digest lag = absurd (cc is)
of_looks P at Quit is picture ram digest lag = absurd (cc is)

-- ---- what a look is answered

looked_found : (stands : Standing) (found : Option (List ℕ)) (text answer : List ℕ) (same : Type 0) (left : ℕ → Type 0) → found ≡ Some text → (answer ≡ text) ⊎ (answer ≡ reply_text OutOfMemory) → (ran : ℕ) × left ran → IsLooked stands found same left answer
looked_found stands found text answer same left there is played = subst (λ (f : Option (List ℕ)). IsLooked stands f same left answer) (sym there) (inl (is, played))

looked_lost : (stands : Standing) (found : Option (List ℕ)) (text : List ℕ) (same : Type 0) (left : ℕ → Type 0) → found ≡ Some text → same → IsLooked stands found same left (reply_text OutOfMemory)
looked_lost stands found text same left there kept = subst (λ (f : Option (List ℕ)). IsLooked stands f same left (reply_text OutOfMemory)) (sym there) (inr (refl, kept))

looked_none : (stands : Standing) (found : Option (List ℕ)) (at len : ℕ) (same : Type 0) (left : ℕ → Type 0) → found ≡ None → at ≡ stands.made → len ≡ length stands.movie.inputs → same → IsLooked stands found same left (reply_text (NoFrame at len))
looked_none stands found at len same left never here long kept =
    subst (λ (f : Option (List ℕ)). IsLooked stands f same left (reply_text (NoFrame at len))) (sym never)
    (ap (λ (n : ℕ). reply_text (NoFrame n len)) here ∙ ap (λ (n : ℕ). reply_text (NoFrame stands.made n)) long, kept)

-- of other things that are left
pub looked_as : (stands : Standing) (found : Option (List ℕ)) (answer : List ℕ) (same same' : Type 0) (left left' : ℕ → Type 0) → IsLooked stands found same left answer → (same → same') → ((ran : ℕ) → left ran → (rose : ℕ) × left' rose)
    → IsLooked stands found same' left' answer
looked_as stands None answer same same' left left' is kept played = (is.0, kept is.1)
looked_as stands (Some text) answer same same' left left' (inl is) kept played = inl (is.0, played is.1.0 is.1.1)
looked_as stands (Some text) answer same same' left left' (inr is) kept played = inr (is.0, kept is.1)

-- all is as it was, or frames were played
pub same_or_left : (stands : Standing) (found : Option (List ℕ)) (answer : List ℕ) (same : Type 0) (left : ℕ → Type 0) → IsLooked stands found same left answer → same ⊎ ((ran : ℕ) × left ran)
same_or_left stands None answer same left is = inl is.1
same_or_left stands (Some text) answer same left (inl is) = inr is.1
same_or_left stands (Some text) answer same left (inr is) = inl is.1

-- the text of what was found, or none where memory was refused
text_told : {X : Type 0} (P : List ℕ → Type 0) (Q : RunFault → Type 0) (stands : Standing) (found given : Option (List ℕ)) (text : List ℕ) (same : Type 0) (left : ℕ → Type 0) (r : Result X RunFault) (bytes_of : X → List ℕ) → found ≡ Some text → found ≡ given
    → (ran : ℕ) × left ran → HasText r bytes_of given → ((answer : List ℕ) → IsLooked stands found same left answer → P answer) → ((answer : List ℕ) → P answer → Q Memory) → MatchResult r (λ x. P (bytes_of x)) Q
text_told P Q stands found given text same left r bytes_of there name played has told lost =
    MatchResult-weaker r has (λ x e. told (bytes_of x) (elim e [
      | inl is ↦ looked_found stands found (bytes_of x) (bytes_of x) same left (name ∙ is) (inl refl) played
      | inr is ↦ looked_found stands found text (bytes_of x) same left there (inr is) played
    ])) (λ fault e. subst Q (sym e) (lost (reply_text OutOfMemory) (told (reply_text OutOfMemory) (looked_found stands found text (reply_text OutOfMemory) same left there (inr refl) played))))

-- a look at a state: for any claim of the answer, and any of the fault
pub state_told : {X : Type 0} (P : List ℕ → Type 0) (Q : RunFault → Type 0) (movie name : MovieContent) (made : ℕ) (look : Request) (from to : ℕ) (entry same : Type 0) (left : ℕ → Type 0) (reached : Result Reached StateError) (r : Result X RunFault) (bytes_of : X → List ℕ)
    → AsksForState look from to → IsStateFound (standing_at movie made) entry same left from to reached → IfOk reached (λ found. name ≡ movie)
    → MatchResult reached (λ found. HasText r bytes_of (look_text (standing_at name found.at) look)) (λ error. HasReport r bytes_of (shot_error error))
    → ((answer : List ℕ) → IsLooked (standing_at movie made) (look_text (standing_at movie made) look) same left answer → P answer) → (entry → Q NoEntry) → ((answer : List ℕ) → P answer → Q Memory) → MatchResult r (λ x. P (bytes_of x)) Q
state_told P Q movie name made look from to entry same left (Ok found) r bytes_of asks is named has told none lost =
    let there = asks.found (standing_at movie made) is.0 is.1 in
    text_told P Q (standing_at movie made) (look_text (standing_at movie made) look) (look_text (standing_at name found.at) look) there.0 same left r bytes_of there.1
    (sym (ap (λ (m : MovieContent). look_text (standing_at m found.at) look) named ∙ ap (λ (n : ℕ). look_text (standing_at movie n) look) is.3)) (found.ran, is.4) has told lost
state_told {X} P Q movie name made look from to entry same left (Err NoStateEntry) r bytes_of asks is named has told none lost = subst (λ (x : Result X RunFault). MatchResult x (λ x. P (bytes_of x)) Q) (sym has) (none is)
state_told P Q movie name made look from to entry same left (Err (FewFrames at len)) r bytes_of asks is named has told none lost =
    text_or_memory P Q (reply_text (NoFrame at len)) r bytes_of has
    (told (reply_text (NoFrame at len)) (looked_none (standing_at movie made) (look_text (standing_at movie made) look) at len same left (asks.none (standing_at movie made) is.0) is.1 is.2 is.3)) (lost (reply_text (NoFrame at len)))
state_told P Q movie name made look from to entry same left (Err NoStateMemory) r bytes_of asks is named has told none lost =
    let there = asks.found (standing_at movie made) is.0 is.1 in
    text_or_memory P Q (reply_text OutOfMemory) r bytes_of has (told (reply_text OutOfMemory) (looked_lost (standing_at movie made) (look_text (standing_at movie made) look) there.0 same left there.1 is.2)) (lost (reply_text OutOfMemory))

-- what is so of each answer
pub of_ok : {X E : Type 0} (r : Result X E) (P : X → Type 0) → ((x : X) → P x) → IfOk r P
of_ok (Ok x) P all = all x
of_ok (Err e) P all = tt

-- a look that draws frame k, and finds `found` of what it shows: what is said of a picture at some number of edits is `text`
pub drawn_told : {X B : Type 0} (P : List ℕ → Type 0) (Q : RunFault → Type 0) (movie : MovieContent) (made k : ℕ) (look : Request) (found : Result (List ℕ) Halt → List ℕ) (text : ℕ → List ℕ → List ℕ) (entry same : Type 0) (left : ℕ → Type 0)
    (drawn : Result (ShotOf B) ShotError) (r : Result X RunFault) (bytes_of : X → List ℕ) → look_text (standing_at movie made) look ≡ option_map found (answer_shot movie k) → ((halt : Halt) → found (Err halt) ≡ reply_text (halted_reply made halt))
    → IfOk drawn (λ shot. text made shot.picture ≡ found (Ok shot.picture)) → IsShotFound (standing_at movie made) entry same left k drawn
    → MatchResult drawn (λ shot. HasText r bytes_of (Some (text shot.at shot.picture))) (λ error. HasReport r bytes_of error)
    → ((answer : List ℕ) → IsLooked (standing_at movie made) (look_text (standing_at movie made) look) same left answer → P answer) → (entry → Q NoEntry) → ((answer : List ℕ) → P answer → Q Memory) → MatchResult r (λ x. P (bytes_of x)) Q
drawn_told P Q movie made k look found text entry same left (Ok shot) r bytes_of looks halts named is has told none lost =
    let there = looks ∙ ap (option_map found) is.0 in
    text_told P Q (standing_at movie made) (look_text (standing_at movie made) look) (Some (text shot.at shot.picture)) _ same left r bytes_of there
    (there ∙ ap (λ (l : List ℕ). Some l) (sym named) ∙ ap (λ (n : ℕ). Some (text n shot.picture)) (sym is.1)) (shot.ran, is.3) has told lost
drawn_told {X} P Q movie made k look found text entry same left (Err NoShotEntry) r bytes_of looks halts named is has told none lost = subst (λ (x : Result X RunFault). MatchResult x (λ x. P (bytes_of x)) Q) (sym has) (none is)
drawn_told P Q movie made k look found text entry same left (Err (NoShotFrame at len)) r bytes_of looks halts named is has told none lost =
    text_or_memory P Q (reply_text (NoFrame at len)) r bytes_of has
    (told (reply_text (NoFrame at len)) (looked_none (standing_at movie made) (look_text (standing_at movie made) look) at len same left (looks ∙ ap (option_map found) is.0) is.1 is.2 is.3)) (lost (reply_text (NoFrame at len)))
drawn_told P Q movie made k look found text entry same left (Err NoShotMemory) r bytes_of looks halts named is has told none lost =
    let there = looks ∙ ap (option_map found) (shown_frame movie k is.0) in
    text_or_memory P Q (reply_text OutOfMemory) r bytes_of has (told (reply_text OutOfMemory) (looked_lost (standing_at movie made) (look_text (standing_at movie made) look) _ same left there is.1)) (lost (reply_text OutOfMemory))
drawn_told P Q movie made k look found text entry same left (Err (ShotHalted at halt)) r bytes_of looks halts named is has told none lost =
    let there = looks ∙ ap (option_map found) is.0 ∙ ap (λ (l : List ℕ). Some l) (halts halt) ∙ ap (λ (n : ℕ). Some (reply_text (halted_reply n halt))) (sym is.1) in
    text_or_memory P Q (reply_text (halted_reply at halt)) r bytes_of has
    (told (reply_text (halted_reply at halt)) (looked_found (standing_at movie made) (look_text (standing_at movie made) look) (reply_text (halted_reply at halt)) (reply_text (halted_reply at halt)) same left there (inl refl) is.2)) (lost (reply_text (halted_reply at halt)))

-- a shot: for any claim of the reply, and any of the fault
pub shot_told : {B : Type 0} (P : Reply → Type 0) (Q : RunFault → Type 0) (movie : MovieContent) (made k : ℕ) (entry same same' : Type 0) (left left' : ℕ → Type 0) (drawn : Result (ShotOf B) ShotError) (r : Result Reply RunFault)
    → IsShotFound (standing_at movie made) entry same left k drawn → MatchResult drawn (λ shot. r ≡ Ok (Drawn shot.at shot.frame shot.ran (lit_count shot.picture))) (λ error. r ≡ unshown_as error) → (same → same') → ((ran : ℕ) → left ran → left' ran)
    → ((reply : Reply) → IsTurn (standing_at movie made) (Shot k) reply (standing_at movie made) → ShotLeaves same' left' reply → same ⊎ ((ran : ℕ) × left ran) → P reply) → (entry → Q NoEntry) → MatchResult r P Q
shot_told P Q movie made k entry same same' left left' (Ok shot) r is has kept played told none =
    let lit : ℕ = lit_count shot.picture in
    let u : Unforeseen = record { refused = false; ran = shot.ran; kept = 0; stale = 0 } in
    subst (λ (x : Result Reply RunFault). MatchResult x P Q) (sym has)
    (told (Drawn shot.at shot.frame shot.ran lit) (
      u,
      ap (λ (n : ℕ). Drawn n shot.frame shot.ran lit) is.1 ∙ ap (λ (n : ℕ). Drawn made n shot.ran lit) is.2 ∙ ap (shot_reply u (standing_at movie made) k) (sym is.0),
      refl,
    ) (played shot.ran is.3) (inr (shot.ran, is.3)))
shot_told P Q movie made k entry same same' left left' (Err NoShotEntry) r is has kept played told none = subst (λ (x : Result Reply RunFault). MatchResult x P Q) (sym has) (none is)
shot_told P Q movie made k entry same same' left left' (Err (NoShotFrame at len)) r is has kept played told none =
    subst (λ (x : Result Reply RunFault). MatchResult x P Q) (sym has)
    (told (NoFrame at len) (
      unforeseen false,
      ap (λ (n : ℕ). NoFrame n len) is.1 ∙ ap (NoFrame made) is.2 ∙ ap (shot_reply (unforeseen false) (standing_at movie made) k) (sym is.0),
      refl,
    ) (kept is.3) (inl is.3))
shot_told P Q movie made k entry same same' left left' (Err NoShotMemory) r is has kept played told none =
    subst (λ (x : Result Reply RunFault). MatchResult x P Q) (sym has)
    (told OutOfMemory (unforeseen true, ap (shot_reply (unforeseen true) (standing_at movie made) k) (sym (shown_frame movie k is.0)), refl) (kept is.1) (inl is.1))
shot_told P Q movie made k entry same same' left left' (Err (ShotHalted at (Undocumented address opcode))) r is has kept played told none =
    subst (λ (x : Result Reply RunFault). MatchResult x P Q) (sym has)
    (told (halted_reply at (Undocumented address opcode)) (
      unforeseen false,
      ap (λ (n : ℕ). halted_reply n (Undocumented address opcode)) is.1 ∙ ap (shot_reply (unforeseen false) (standing_at movie made) k) (sym is.0),
      refl,
    ) (is.2.0, played is.2.0 is.2.1) (inr is.2))
