-- The pairs of a desk, and the ends of their doors.
use Rattle.std.proofs.Common.{◌≡◌, ℕ, ◌<◌, ◌≤◌, ◌+◌, Bool, List, [], ◌∷◌, ◌++◌, Option, Some, None, Result, Err, inl, inr, subst, All, arith, length, map, take, get_or, append-nil, refl, sym, ap, ◌∙◌}
use Rattle.std.proofs.lemmas.List.{map-append, take_more}
use Rattle.std.proofs.lemmas.List.Elements.{All-head, All-push, All-tail, filter_map-append}
use Rattle.std.specs.List.{cons_option, filter_map}
use Rattle.std.specs.Global.{Global as GlobalType}
use Rattle.std.specs.Io.KnownBytes.{Consumes}
use Rattle.std.proofs.KnownBytes.{Keeps-refl}
use Rattle.tas_engines.specs.declared.fault.ReadFault.TheVariants.{Memory}
use Rattle.tas_engines.specs.declared.fault.ToolFault.{ToolFault}
use Rattle.tas_engines.specs.declared.fault.ToolFault.TheVariants.{Read}
use Rattle.tas_seat.specs.Lines.{DoorFacts, DoorEnds, end_facts}
use Rattle.clap.specs.Walk.{Text}
use Rattle.tas_desk.specs.Seats.{most_seats}
use Rattle.tas_tool.specs.Desks.{IsDeskRun}
use Rattle.tas_tool.specs.NotedDesks.{IsNotedDeskRun}
use Rattle.tas_tool.specs.declared.noted_desk_runs.DeskFault.{DeskFault}
use Rattle.tas_words.specs.declared.task.DeskWords.{DeskWords}
use Rattle.tas_words.specs.Task.{pairs_in}
use Rattle.tas_words.specs.declared.task.Pair.{Pair}
use Rattle.tas_words.specs.declared.task.Pairs.{Pairs}
use Rattle.tas_program.specs.declared.folder.OrdinaryFile.{OrdinaryFile}
use Rattle.tas_program.specs.Files.{ends_by, ends_of, files_by}
use Rattle.tas_program.specs.Noting.{NotesDoors, desk_end, from_doors}
use Rattle.tas_program.specs.declared.file_words.WordFault.{WordFault}
use Rattle.tas_program.specs.FileWords.{fault_or, journal_fault, seat_fault}
use Rattle.tas_program.specs.Program.{EndsOver, OverTwo, IsDeskTask}
use Rattle.tas_program.specs.Saving.{FileSteps}
use Rattle.tas_program.specs.declared.status.TaskFault.{TaskFault}
use Rattle.tas_program.specs.Streams.{StreamBytes}
use Rattle.tas_program.proofs.DoorEndLemmas.{desk_run_ends, door_ends, noted_run_ends}
use Rattle.tas_program.proofs.NotedLemmas.{made_into}
use Rattle.tas_program.proofs.ProgramLemmas.{over_two}

-- the pairs of the places up to this one
pub pairs_more : (places : List (Option Pair)) (i : ℕ) (d : Option Pair) → i < length places
    → filter_map (λ pair. pair) (take (i + 1) places) ≡ filter_map (λ pair. pair) (take i places) ++ cons_option (get_or places i d) []
pairs_more places i d below = ap (filter_map (λ pair. pair)) (take_more places i d below) ∙ filter_map-append (λ pair. pair) (take i places) (get_or places i d ∷ [])

-- a door at a place that has a pair
pub with_door : {D : Type 0} (pair_of : D → Pair) (P : D → Type 0) (places : List (Option Pair)) (i : ℕ) (d : Option Pair) (before after : List D) (door : D) → i < length places
    → get_or places i d ≡ Some (pair_of door) → after ≡ before ++ door ∷ [] → P door → (map pair_of before ≡ filter_map (λ pair. pair) (take i places)) × All P before
    → (map pair_of after ≡ filter_map (λ pair. pair) (take (i + 1) places)) × All P after
with_door pair_of P places i d before after door below is now fits (pairs, all) =
    rw now (map-append pair_of before (door ∷ []) ∙ ap (λ l. l ++ pair_of door ∷ []) pairs ∙ sym (pairs_more places i d below ∙ ap (λ p. filter_map (λ pair. pair) (take i places) ++ cons_option p []) is), All-push P before door all fits)

-- no door at a place without one
pub without_door : (places : List (Option Pair)) (i : ℕ) (d : Option Pair) → i < length places → ((pair : Pair) → get_or places i d ≡ Some pair → ⊥)
    → filter_map (λ pair. pair) (take (i + 1) places) ≡ filter_map (λ pair. pair) (take i places)
without_door places i d below none = go (get_or places i d) refl
  where
    go : (p : Option Pair) → get_or places i d ≡ p → filter_map (λ pair. pair) (take (i + 1) places) ≡ filter_map (λ pair. pair) (take i places)
    go None e = pairs_more places i d below ∙ rw e (append-nil (filter_map (λ pair. pair) (take i places)))
    go (Some pair) e = absurd (none pair e)

-- the ends of doors to these pairs in one folder are the pairs' ends
pub ends_are : {D F : Type 0} (read held : F → List ℕ → Option (List ℕ)) (shown : List ℕ → Option (Option OrdinaryFile)) (folder_of : D → F) (pair_of : D → Pair) (folder : F) (doors : List D) (pairs : Pairs) → All (λ door. folder_of door ≡ folder) doors
    → map pair_of doors ≡ pairs_in pairs
    → map (λ door. ends_by (files_by (read (folder_of door)) (held (folder_of door)) shown) (pair_of door)) doors ≡ ends_of (files_by (read folder) (held folder) shown) pairs
ends_are {D = D} {F = F} read held shown folder_of pair_of folder doors pairs all is = go doors all ∙ ap (λ l. map (ends_by (files_by (read folder) (held folder) shown)) l) is
  where
    known : D → DoorEnds
    known door = ends_by (files_by (read (folder_of door)) (held (folder_of door)) shown) (pair_of door)

    go : (l : List D) → All (λ door. folder_of door ≡ folder) l → map known l ≡ map (ends_by (files_by (read folder) (held folder) shown)) (map pair_of l)
    go [] all = refl
    go (door ∷ l) all = rw (All-head (λ d. folder_of d ≡ folder) door l all) (ap (λ r. ends_by (files_by (read folder) (held folder) shown) (pair_of door) ∷ r) (go l (All-tail (λ d. folder_of d ≡ folder) door l all)))

-- a desk was run over two files and the ends of these doors
pub over_ends : {D : Type 0} (facts : DoorFacts D) (doors doors' : List D) (ends : List DoorEnds) (one two file left file' left' : Option (List ℕ)) (old new : StreamBytes) (end : Result (Unit {0}) ToolFault) → file ≡ one → file' ≡ two
    → new.input ≡ old.input → map (door_ends facts) doors ≡ ends → IsDeskRun GlobalType facts doors doors' file left file' left' old.output new.output end → EndsOver (one ∷ two ∷ []) (OverTwo (IsDeskTask ends)) old new end
over_ends facts doors doors' ends one two file left file' left' old new end is is' unread are ran =
    over_two (IsDeskTask ends) one two file left file' left' old new end is is'
    (unread, subst (λ l. IsDeskRun GlobalType end_facts l l file left file' left' old.output new.output end) are (desk_run_ends facts doors doors' file left file' left' old.output new.output end ran))

-- memory was refused for the doors, and nothing is read or written
pub no_doors : (ends : List DoorEnds) (one two file file' : Option (List ℕ)) (old : StreamBytes) → file ≡ one → file' ≡ two → EndsOver (one ∷ two ∷ []) (OverTwo (IsDeskTask ends)) old old (Err (Read Memory))
no_doors ends one two file file' old is is' =
    over_two (IsDeskTask ends) one two file file file' file' old old (Err (Read Memory)) is is' (refl, inl (Memory, refl, inl (([], unread file, omega arith), refl), (refl, Keeps-refl old.output)))
  where
    unread : (known : Option (List ℕ)) → Consumes known known []
    unread None = tt
    unread (Some bytes) = refl

-- ---- a journal

-- no more pairs than places
few_pairs : (places : List (Option Pair)) → length (filter_map (λ pair. pair) places) ≤ length places
few_pairs [] = omega arith
few_pairs (None ∷ places) = omega (arith, few_pairs places)
few_pairs (Some pair ∷ places) = omega (arith, few_pairs places)

-- without an eighth pair there is a seat more
fewer_pairs : (pairs : Pairs) → pairs.eighth ≡ None → length (pairs_in pairs) < most_seats
fewer_pairs pairs none =
    let seven : List (Option Pair) = Some pairs.first ∷ pairs.second ∷ pairs.third ∷ pairs.fourth ∷ pairs.fifth ∷ pairs.sixth ∷ pairs.seventh ∷ [] in
    let cut : pairs_in pairs ≡ filter_map (λ pair. pair) seven = filter_map-append (λ pair. pair) seven (pairs.eighth ∷ [])
    ∙ ap (λ (p : Option Pair). filter_map (λ pair. pair) seven ++ filter_map (λ pair. pair) (p ∷ [])) none ∙ append-nil (filter_map (λ pair. pair) seven) in
    let most : length (filter_map (λ pair. pair) seven) ≤ 7 = few_pairs seven in
    subst (λ (l : List Pair). length l < most_seats) (sym cut) (omega (arith, most))

-- so there is where a desk's journal has no fault
no_eighth : (eighth : Option Pair) (later : Option WordFault) → fault_or (seat_fault eighth) later ≡ None → eighth ≡ None
no_eighth None later right = refl
no_eighth (Some pair) later right = absurd (cc right)

pub seat_left : (words : DeskWords) (journal : Text) → journal_fault words journal ≡ None → length (pairs_in words.pairs) < most_seats
seat_left words journal right = fewer_pairs words.pairs (no_eighth words.pairs.eighth _ right)

-- a desk was run over two files and the ends of these doors, with a journal that was made
pub noted_over : {D : Type 0} (facts : DoorFacts D) (steps : FileSteps) (journal name : Text) (doors doors' : List D) (ends : List DoorEnds) (cart cart' movie movie' held held' made : Option (List ℕ)) (old new : StreamBytes) (begun : Bool) (done : Result (Unit {0}) DeskFault) (end : Result (Unit {0}) TaskFault)
    → steps.made journal made → held ≡ made → end ≡ desk_end done → new.input ≡ old.input → map (door_ends facts) doors ≡ ends → journal ≡ name
    → IsNotedDeskRun GlobalType facts (steps.kept name) doors doors' held held' cart cart' movie movie' old.output new.output begun done → NotesDoors steps journal ends cart movie old new end
noted_over facts steps journal name doors doors' ends cart cart' movie movie' held held' made old new begun done end makes same is unread are named ran =
    let over = subst (λ (l : List DoorEnds). IsNotedDeskRun GlobalType end_facts (steps.kept name) l l held held' cart cart' movie movie' old.output new.output begun done) are
    (noted_run_ends facts (steps.kept name) doors doors' held held' cart cart' movie movie' old.output new.output begun done ran) in
    inr (made_into steps journal desk_end (from_doors ends cart movie) held held' made old new done end makes same is name named (unread, (cart', movie', begun, over)))

-- two files that were opened
pub noted_from : (steps : FileSteps) (journal : Text) (ends : List DoorEnds) (one two file file' : Option (List ℕ)) (old new : StreamBytes) (end : Result (Unit {0}) TaskFault) → file ≡ one → file' ≡ two
    → NotesDoors steps journal ends file file' old new end → NotesDoors steps journal ends one two old new end
noted_from steps journal ends one two file file' old new end is is' notes =
    subst (λ (f : Option (List ℕ)). NotesDoors steps journal ends one f old new end) is' (subst (λ (f : Option (List ℕ)). NotesDoors steps journal ends f file' old new end) is notes)
