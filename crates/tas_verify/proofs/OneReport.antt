-- Runs over one manifest and the same files write the same lines, accidents aside.
use Rattle.std.proofs.Common.{◌≡◌, inl, inr, ◌⊎◌, ℕ, ◌+◌, ◌<◌, ◌≤◌, List, [], ◌∷◌, ◌++◌, length, map, refl, sym, ap, subst, ◌∙◌, arith}
use Rattle.std.specs.Prelude.{Option, Some, Result, Ok, Err}
use Rattle.std.specs.List.{All}
use Rattle.std.specs.Io.KnownBytes.{Keeps}
use Rattle.std.proofs.KnownBytes.{Appends-nil, Appends-kept}
use Rattle.std.proofs.lemmas.List.{append-nil, length-map}
use Rattle.std.proofs.lemmas.List.Elements.{All-head, All-tail}
use Rattle.tas_engines.specs.declared.fault.ReadFault.{ReadFault}
use Rattle.tas_engines.specs.declared.fault.ReadFault.TheVariants.{TooLong, Failed, Memory as NoMemory}
use Rattle.tas_engines.specs.Input.{most_input_bytes, IsReadWhole, StopsReading}
use Rattle.tas_verify.specs.declared.fault.VerifyFault.{VerifyFault}
use Rattle.tas_verify.specs.declared.fault.VerifyFault.TheVariants.{Read, Manifest, Write, Memory}
use Rattle.tas_verify.specs.declared.lines.Tally.{Tally}
use Rattle.tas_verify.specs.declared.outcome.Outcome.{Outcome}
use Rattle.tas_verify.specs.declared.manifest.ManifestError.TheVariants.{Line}
use Rattle.tas_verify.specs.Manifest.{RowWords, IsManifest, IsManifestError}
use Rattle.tas_verify.specs.Rows.{ShelfFacts, IsOutcome}
use Rattle.tas_verify.specs.Lines.{RowEnd, AreOutcomes, tally_of}
use Rattle.tas_verify.specs.Verifying.{AreFirst, EndsWith, EndsOn, RunsOn, IsVerifyRun, report}
use Rattle.tas_verify.specs.Agreement.{AreKnown, IsAccident, Agree, AllAgree, NoAccident, VerifyRun, IsRunOver, WritesBy, RunsAgree, IsOfManifest, IsUnfinished}
use Rattle.tas_verify.proofs.OneManifest.{one_list, no_fault, one_fault}
use Rattle.tas_verify.proofs.OneOutcome.{one_outcome, too_long}

-- ---- what one run writes

first_all : (facts : ShelfFacts) (rows : List RowWords) (ends : List RowEnd) → AreOutcomes facts rows ends → AreFirst facts rows ends
first_all facts rows ends outcomes = record { front = rows; later = []; parts = sym (append-nil rows); outcomes = outcomes }

first_none : (facts : ShelfFacts) (rows : List RowWords) → AreFirst facts rows []
first_none facts rows = record { front = []; later = rows; parts = refl; outcomes = record { named = refl; each = λ k d lt. absurd (omega (arith, lt)) } }

first_of : (facts : ShelfFacts) (rows : List RowWords) (old new : Option (List ℕ)) (result : Result Tally VerifyFault) (ends : List RowEnd) → EndsWith facts rows old new result ends → AreFirst facts rows ends
first_of facts rows old new (Ok tally) ends h = first_all facts rows ends h.0
first_of facts rows old new (Err Memory) ends h = h.0
first_of facts rows old new (Err (Write written)) ends (inl h) = h.0
first_of facts rows old new (Err (Write written)) ends (inr h) = first_all facts rows ends h.0
first_of facts rows old new (Err (Read why)) ends h = absurd h
first_of facts rows old new (Err (Manifest number)) ends h = absurd h

-- what a run wrote, of some first movies
pub record Wrote (facts : ShelfFacts) (rows : List RowWords) (old new : Option (List ℕ)) (result : Result Tally VerifyFault) : Type 0 where
  pub ends : List RowEnd
  pub first : AreFirst facts rows ends
  pub writes : WritesBy facts rows old new result ends

wrote_none : (facts : ShelfFacts) (rows : List RowWords) (old new : Option (List ℕ)) → Keeps old new → Wrote facts rows old new (Err Memory)
wrote_none facts rows old new kept = record { ends = []; first = first_none facts rows; writes = (first_none facts rows, Appends-kept old old new [] (Appends-nil old) kept) }

stopped : (facts : ShelfFacts) (rows : List RowWords) (old new : Option (List ℕ)) (why : ReadFault) → Keeps old new → Wrote facts rows old new (Err (Read why))
stopped facts rows old new why kept = record { ends = []; first = first_none facts rows; writes = (refl, kept) }

is_memory : (written : ℕ) → ◌≡◌ {A = Result Tally VerifyFault} (Err (Write written)) (Err Memory) → ⊥
is_memory written e = cc

is_ok : (tally : Tally) → ◌≡◌ {A = Result Tally VerifyFault} (Ok tally) (Err Memory) → ⊥
is_ok tally e = cc

same_rows : (bytes : List ℕ) (rows named : List RowWords) (facts : ShelfFacts) (old new : Option (List ℕ)) (result : Result Tally VerifyFault) → IsManifest bytes rows → IsManifest bytes named → EndsOn facts named old new result → EndsOn facts rows old new result
same_rows bytes rows named facts old new result is is' ends = subst (λ (r : List RowWords). EndsOn facts r old new result) (one_list bytes named rows is' is) ends

ran_on : (facts : ShelfFacts) (bytes : List ℕ) (rows : List RowWords) (old new : Option (List ℕ)) (result : Result Tally VerifyFault) → IsManifest bytes rows → RunsOn facts bytes old new result → Wrote facts rows old new result
ran_on facts bytes rows old new (Ok tally) is (inl (refused, kept)) = absurd (is_ok tally refused)
ran_on facts bytes rows old new (Ok tally) is (inr (named, is', ends)) =
    let (there, writes) = same_rows bytes rows named facts old new (Ok tally) is is' ends in
    record { ends = there; first = first_of facts rows old new (Ok tally) there writes; writes = writes }
ran_on facts bytes rows old new (Err Memory) is (inl (refused, kept)) = wrote_none facts rows old new kept
ran_on facts bytes rows old new (Err Memory) is (inr (named, is', ends)) =
    let (there, writes) = same_rows bytes rows named facts old new (Err Memory) is is' ends in
    record { ends = there; first = first_of facts rows old new (Err Memory) there writes; writes = writes }
ran_on facts bytes rows old new (Err (Write written)) is (inl (refused, kept)) = absurd (is_memory written refused)
ran_on facts bytes rows old new (Err (Write written)) is (inr (named, is', ends)) =
    let (there, writes) = same_rows bytes rows named facts old new (Err (Write written)) is is' ends in
    record { ends = there; first = first_of facts rows old new (Err (Write written)) there writes; writes = writes }
ran_on facts bytes rows old new (Err (Manifest number)) is (fault, kept) = absurd (no_fault bytes rows number is fault)
ran_on facts bytes rows old new (Err (Read why)) is h = absurd h

-- what was read is the manifest
whole_of : (manifest bytes : List ℕ) (left : Option (List ℕ)) → IsReadWhole (Some manifest) left bytes → bytes ≡ manifest
whole_of manifest bytes left whole = whole.are_all manifest refl

wrote : (facts : ShelfFacts) (manifest : List ℕ) (rows : List RowWords) (left old new : Option (List ℕ)) (result : Result Tally VerifyFault) → IsManifest manifest rows → IsVerifyRun facts (Some manifest) left old new result
    → Wrote facts rows old new result
wrote facts manifest rows left old new result is (inl (why, ended, stops, kept)) = subst (Wrote facts rows old new) (sym ended) (stopped facts rows old new why kept)
wrote facts manifest rows left old new result is (inr (bytes, whole, ran)) =
    ran_on facts manifest rows old new result is (subst (λ (b : List ℕ). RunsOn facts b old new result) (whole_of manifest bytes left whole) ran)

-- ---- two runs

empty : (row : RowWords) (rows : List RowWords) → row ∷ rows ≡ [] → ⊥
empty row rows e = cc

module _ (facts : ShelfFacts) where
  abbrev CameOf : RowEnd → Type 0
  CameOf end = IsOutcome facts end.row end.outcome

  all_agree : (rows later later' : List RowWords) (ends others : List RowEnd) → map (λ (e : RowEnd). e.row) ends ++ later ≡ rows → map (λ (e : RowEnd). e.row) others ++ later' ≡ rows
      → All CameOf ends → All CameOf others → AllAgree facts ends others
  all_agree rows later later' [] others h g each each' = tt
  all_agree rows later later' (end ∷ ends) [] h g each each' = tt
  all_agree [] later later' (end ∷ ends) (other ∷ others) h g each each' = absurd (empty end.row (map (λ (e : RowEnd). e.row) ends ++ later) h)
  all_agree (row ∷ rows) later later' (end ∷ ends) (other ∷ others) h g each each' =
      let first : end.row ≡ row = cc in
      let second : other.row ≡ row = cc in
      let rest : map (λ (e : RowEnd). e.row) ends ++ later ≡ rows = cc in
      let rest' : map (λ (e : RowEnd). e.row) others ++ later' ≡ rows = cc in
      let same : end.row ≡ other.row = first ∙ sym second in
      let came : IsOutcome facts end.row other.outcome = subst (λ (r : RowWords). IsOutcome facts r other.outcome) (sym same) (All-head CameOf other others each') in (
        same,
        λ known. one_outcome facts end.row end.outcome other.outcome known (All-head CameOf end ends each) came,
        all_agree rows later later' ends others rest rest' (All-tail CameOf end ends each) (All-tail CameOf other others each'),
      )

  first_agree : (rows : List RowWords) (ends others : List RowEnd) → AreFirst facts rows ends → AreFirst facts rows others → AllAgree facts ends others
  first_agree rows ends others h g =
      all_agree rows h.later g.later ends others (ap (λ (r : List RowWords). r ++ h.later) h.outcomes.named ∙ sym h.parts) (ap (λ (r : List RowWords). r ++ g.later) g.outcomes.named ∙ sym g.parts) h.outcomes.each
      g.outcomes.each

  pub same_lines : (manifest : List ℕ) (rows : List RowWords) (a b : VerifyRun) → IsManifest manifest rows → IsRunOver facts manifest a → IsRunOver facts manifest b → RunsAgree facts rows a b
  same_lines manifest rows a b is h g =
      let first = wrote facts manifest rows a.left a.old a.new a.result is h in
      let second = wrote facts manifest rows b.left b.old b.new b.result is g in
      record { ends = first.ends; others = second.ends; first = first.writes; second = second.writes; agree = first_agree rows first.ends second.ends first.first second.first }

  -- ---- no accidents

  same_ends : (row row' : RowWords) (a b : Outcome) (ends others : List RowEnd) → row ≡ row' → a ≡ b → ends ≡ others
      → ◌≡◌ {A = List RowEnd} (record { row = row; outcome = a } ∷ ends) (record { row = row'; outcome = b } ∷ others)
  same_ends row row' a b ends others h g e = cc

  same_outcome : (row row' : RowWords) (a b : Outcome) → row ≡ row' → Agree facts row a b → (IsAccident facts row a → ⊥) → (IsAccident facts row' b → ⊥) → a ≡ b
  same_outcome row row' a b same (inl is) never never' = is
  same_outcome row row' a b same (inr (inl accident)) never never' = absurd (never accident)
  same_outcome row row' a b same (inr (inr accident)) never never' = absurd (never' (subst (λ (r : RowWords). IsAccident facts r b) same accident))

  abbrev IsNone : RowEnd → Type 0
  IsNone end = IsAccident facts end.row end.outcome → ⊥

  all_same : (ends others : List RowEnd) → length ends ≡ length others → All (AreKnown facts) (map (λ (e : RowEnd). e.row) ends) → AllAgree facts ends others → NoAccident facts ends → NoAccident facts others → ends ≡ others
  all_same [] [] long known agree never never' = refl
  all_same [] (other ∷ others) long known agree never never' = absurd (omega (arith, long))
  all_same (end ∷ ends) [] long known agree never never' = absurd (omega (arith, long))
  all_same (end ∷ ends) (other ∷ others) long known agree never never' =
      let there = All-head (AreKnown facts) end.row (map (λ (e : RowEnd). e.row) ends) known in
      let outcome = same_outcome end.row other.row end.outcome other.outcome agree.0 (agree.1 there) (All-head IsNone end ends never) (All-head IsNone other others never') in
      let rest = all_same ends others (omega (arith, long)) (All-tail (AreKnown facts) end.row (map (λ (e : RowEnd). e.row) ends) known) agree.2 (All-tail IsNone end ends never) (All-tail IsNone other others never') in
      same_ends end.row other.row end.outcome other.outcome ends others agree.0 outcome rest

  as_many : (rows : List RowWords) (ends : List RowEnd) → AreOutcomes facts rows ends → length ends ≡ length rows
  as_many rows ends outcomes = sym (length-map ends (λ (e : RowEnd). e.row)) ∙ ap (λ (r : List RowWords). length r) outcomes.named

  pub same_report : (rows : List RowWords) (old new old' new' : Option (List ℕ)) (tally tally' : Tally) (ends others : List RowEnd) → All (AreKnown facts) rows → EndsWith facts rows old new (Ok tally) ends → EndsWith facts rows old' new' (Ok tally') others
      → AllAgree facts ends others → NoAccident facts ends → NoAccident facts others → (report ends ≡ report others) × (tally ≡ tally')
  same_report rows old new old' new' tally tally' ends others known h g agree never never' =
      let same = all_same ends others (as_many rows ends h.0 ∙ sym (as_many rows others g.0)) (subst (All (AreKnown facts)) (sym h.0.named) known) agree never never' in
      (ap report same, h.1 ∙ ap tally_of same ∙ sym g.1)

-- ---- faults of the manifest

-- what such a fault shows of the manifest's bytes
abbrev Shows : List ℕ → VerifyFault → Type 0
Shows manifest (Read TooLong) = most_input_bytes < length manifest
Shows manifest (Manifest number) = (length manifest ≤ most_input_bytes) × IsManifestError manifest (Line number)
Shows manifest _ = ⊥

same_why : (why why' : ReadFault) → ◌≡◌ {A = Result Tally VerifyFault} (Err (Read why)) (Err (Read why')) → why ≡ why'
same_why why why' e = cc

not_read : (number : ℕ) (why : ReadFault) → ◌≡◌ {A = Result Tally VerifyFault} (Err (Manifest number)) (Err (Read why)) → ⊥
not_read number why e = cc

few_of : (manifest bytes : List ℕ) (left : Option (List ℕ)) → IsReadWhole (Some manifest) left bytes → length manifest ≤ most_input_bytes
few_of manifest bytes left whole = subst (λ (b : List ℕ). length b ≤ most_input_bytes) (whole_of manifest bytes left whole) whole.within

shown : (facts : ShelfFacts) (manifest : List ℕ) (left old new : Option (List ℕ)) (fault : VerifyFault) → IsOfManifest fault → IsVerifyRun facts (Some manifest) left old new (Err fault) → Shows manifest fault
shown facts manifest left old new (Read TooLong) of (inl (why, ended, stops, kept)) = too_long manifest left (subst (StopsReading (Some manifest) left) (sym (same_why TooLong why ended)) stops)
shown facts manifest left old new (Read TooLong) of (inr (bytes, whole, ran)) = absurd ran
shown facts manifest left old new (Read Failed) of h = absurd of
shown facts manifest left old new (Read NoMemory) of h = absurd of
shown facts manifest left old new (Manifest number) of (inl (why, ended, stops, kept)) = absurd (not_read number why ended)
shown facts manifest left old new (Manifest number) of (inr (bytes, whole, (fault, kept))) =
    (few_of manifest bytes left whole, subst (λ (b : List ℕ). IsManifestError b (Line number)) (whole_of manifest bytes left whole) fault)
shown facts manifest left old new (Write written) of h = absurd of
shown facts manifest left old new Memory of h = absurd of

-- another run ends with the fault, or unfinished
abbrev EndsSo : VerifyFault → Result Tally VerifyFault → Type 0
EndsSo fault result = (result ≡ Err fault) ⊎ IsUnfinished result

stops_so : (manifest : List ℕ) (left : Option (List ℕ)) (why : ReadFault) (fault : VerifyFault) → StopsReading (Some manifest) left why → Shows manifest fault → EndsSo fault (Err (Read why))
stops_so manifest left Failed fault stops shows = inr tt
stops_so manifest left NoMemory fault stops shows = inr tt
stops_so manifest left TooLong (Read TooLong) stops shows = inl refl
stops_so manifest left TooLong (Read Failed) stops shows = absurd shows
stops_so manifest left TooLong (Read NoMemory) stops shows = absurd shows
stops_so manifest left TooLong (Manifest number) stops shows = let long = too_long manifest left stops in absurd (omega (arith, long, shows.0))
stops_so manifest left TooLong (Write written) stops shows = absurd shows
stops_so manifest left TooLong Memory stops shows = absurd shows

runs_so : (facts : ShelfFacts) (manifest : List ℕ) (old new : Option (List ℕ)) (number : ℕ) (result : Result Tally VerifyFault) → RunsOn facts manifest old new result → IsManifestError manifest (Line number)
    → Keeps old new × EndsSo (Manifest number) result
runs_so facts manifest old new number (Ok tally) (inl (refused, kept)) fault = absurd (is_ok tally refused)
runs_so facts manifest old new number (Ok tally) (inr (rows, is, ends)) fault = absurd (no_fault manifest rows number is fault)
runs_so facts manifest old new number (Err Memory) (inl (refused, kept)) fault = (kept, inr tt)
runs_so facts manifest old new number (Err Memory) (inr (rows, is, ends)) fault = absurd (no_fault manifest rows number is fault)
runs_so facts manifest old new number (Err (Write written)) (inl (refused, kept)) fault = absurd (is_memory written refused)
runs_so facts manifest old new number (Err (Write written)) (inr (rows, is, ends)) fault = absurd (no_fault manifest rows number is fault)
runs_so facts manifest old new number (Err (Manifest other)) (fault', kept) fault = (kept, inl (ap (λ (n : ℕ). Err (Manifest n)) (one_fault manifest other number fault' fault)))
runs_so facts manifest old new number (Err (Read why)) h fault = absurd h

read_so : (facts : ShelfFacts) (manifest : List ℕ) (old new : Option (List ℕ)) (fault : VerifyFault) (result : Result Tally VerifyFault) → length manifest ≤ most_input_bytes → RunsOn facts manifest old new result → Shows manifest fault
    → Keeps old new × EndsSo fault result
read_so facts manifest old new (Read TooLong) result few ran shows = absurd (omega (arith, few, shows))
read_so facts manifest old new (Read Failed) result few ran shows = absurd shows
read_so facts manifest old new (Read NoMemory) result few ran shows = absurd shows
read_so facts manifest old new (Manifest number) result few ran shows = runs_so facts manifest old new number result ran shows.1
read_so facts manifest old new (Write written) result few ran shows = absurd shows
read_so facts manifest old new Memory result few ran shows = absurd shows

ends_so : (facts : ShelfFacts) (manifest : List ℕ) (left old new : Option (List ℕ)) (fault : VerifyFault) (result : Result Tally VerifyFault) → IsVerifyRun facts (Some manifest) left old new result → Shows manifest fault
    → Keeps old new × EndsSo fault result
ends_so facts manifest left old new fault result (inl (why, ended, stops, kept)) shows = (kept, subst (EndsSo fault) (sym ended) (stops_so manifest left why fault stops shows))
ends_so facts manifest left old new fault result (inr (bytes, whole, ran)) shows =
    read_so facts manifest old new fault result (few_of manifest bytes left whole) (subst (λ (b : List ℕ). RunsOn facts b old new result) (whole_of manifest bytes left whole) ran) shows

pub same_fault : (facts : ShelfFacts) (manifest : List ℕ) (fault : VerifyFault) (a b : VerifyRun) → IsRunOver facts manifest a → IsRunOver facts manifest b → IsOfManifest fault → a.result ≡ Err fault
    → Keeps b.old b.new × ((b.result ≡ Err fault) ⊎ IsUnfinished b.result)
same_fault facts manifest fault a b h g of is =
    ends_so facts manifest b.left b.old b.new fault b.result g
    (shown facts manifest a.left a.old a.new fault of (subst (λ (r : Result Tally VerifyFault). IsVerifyRun facts (Some manifest) a.left a.old a.new r) is h))
