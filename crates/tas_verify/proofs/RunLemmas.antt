-- A run, some movies at a time.
use Rattle.std.proofs.Common.{inl, inr, ◌≡◌, ℕ, ◌+◌, ◌-◌, ◌≤◌, List, [], ◌++◌, length, take, drop, map, refl, sym, ap, subst, ◌∙◌, arith, length-append, length-take, length-drop, take_all, take-append-drop}
use Rattle.std.proofs.lemmas.List.Sums.{length-filter}
use Rattle.std.specs.Prelude.{Bool, filter, count_by, Option, Result, Ok, Err, IfOk, IfErr}
use Rattle.std.specs.Io.KnownBytes.{Appends}
use Rattle.std.proofs.KnownBytes.{Appends-nil, Appends-trans, Appends-kept}
use Rattle.std.proofs.lemmas.Grind.{flat_map-append}
use Rattle.std.proofs.lemmas.List.{append-nil, map-append, length-map, take-map}
use Rattle.std.proofs.Math.Seq.{take-add}
use Rattle.std.proofs.lemmas.List.Elements.{All-append, filter-append}
use Rattle.byte_text.specs.CutOff.{IsCutOff}
use Rattle.tas_engines.proofs.StreamLemmas.{cut_within}
use Rattle.tas_verify.specs.declared.fault.VerifyFault.{VerifyFault}
use Rattle.tas_verify.specs.declared.fault.VerifyFault.TheVariants.{Read, Manifest, Write, Memory}
use Rattle.tas_verify.specs.declared.lines.Tally.{Tally}
use Rattle.tas_verify.specs.declared.lines.Verified.{Verified}
use Rattle.tas_verify.specs.declared.manifest.Row.{Row}
use Rattle.tas_verify.specs.Manifest.{RowWords, words_in, IsManifest}
use Rattle.tas_verify.specs.Rows.{ShelfFacts, IsOutcome}
use Rattle.tas_verify.specs.Lines.{RowEnd, AreOutcomes, end_of, end_line, end_lines, is_same, tally_of, tally_line}
use Rattle.tas_verify.specs.Verifying.{AreFirst, EndsOn, RunsOn, report}
use Rattle.tas_verify.specs.Inside.Running.{BreaksOff, SoFar}

outcomes_none : (facts : ShelfFacts) → AreOutcomes facts [] []
outcomes_none facts = record { named = refl; each = λ k d lt. absurd (omega (arith, lt)) }

outcomes_more : (facts : ShelfFacts) (front more : List RowWords) (ends last : List RowEnd) → AreOutcomes facts front ends → AreOutcomes facts more last → AreOutcomes facts (front ++ more) (ends ++ last)
outcomes_more facts front more ends last first next = record {
  named = map-append (λ (e : RowEnd). e.row) ends last ∙ ap (λ (r : List RowWords). r ++ map (λ (e : RowEnd). e.row) last) first.named ∙ ap (λ (r : List RowWords). front ++ r) next.named;
  each = All-append (λ (e : RowEnd). IsOutcome facts e.row e.outcome) ends last first.each next.each;
}

abbrev same_end : RowEnd → Bool
same_end e = is_same e.outcome

count_joined : (ends last : List RowEnd) → count_by (λ (e : RowEnd). is_same e.outcome) (ends ++ last) ≡ count_by (λ (e : RowEnd). is_same e.outcome) ends + count_by (λ (e : RowEnd). is_same e.outcome) last
count_joined ends last =
    let whole = length-filter same_end (ends ++ last) in
    let first = length-filter same_end ends in
    let second = length-filter same_end last in
    let parts = ap (λ (l : List RowEnd). length l) (filter-append same_end ends last) ∙ length-append (filter same_end ends) (filter same_end last) in
    sym whole ∙ parts ∙ ap (λ (n : ℕ). n + length (filter same_end last)) first ∙ ap (λ (n : ℕ). count_by same_end ends + n) second

-- nothing is written yet
pub far_none : (facts : ShelfFacts) (rows : List RowWords) (out : Option (List ℕ)) → SoFar facts rows 0 out out 0 0 []
far_none facts rows out = record { outcomes = outcomes_none facts; out = Appends-nil out; count = refl; same_is = refl; most = omega arith; within = omega arith }

-- the next movies' lines
pub far_more : (facts : ShelfFacts) (rows part : List RowWords) (at to : ℕ) (old mid new : Option (List ℕ)) (written written' same more : ℕ) (ends last : List RowEnd) → SoFar facts rows at old mid written same ends
    → take to rows ≡ take at rows ++ part → AreOutcomes facts part last → Appends mid new (end_lines last) → written' ≡ written + length (end_lines last) → more ≡ count_by (λ (e : RowEnd). is_same e.outcome) last
    → same + more ≤ to → to ≤ length rows → SoFar facts rows to old new written' (same + more) (ends ++ last)
far_more facts rows part at to old mid new written written' same more ends last far parts outcomes out count counted most within =
    let text : end_lines ends ++ end_lines last ≡ end_lines (ends ++ last) = sym (flat_map-append end_line ends last) in
    record {
      outcomes = subst (λ (r : List RowWords). AreOutcomes facts r (ends ++ last)) (sym parts) (outcomes_more facts (take at rows) part ends last far.outcomes outcomes);
      out = subst (Appends old new) text (Appends-trans old mid new (end_lines ends) (end_lines last) far.out out);
      count = count ∙ ap (λ (n : ℕ). n + length (end_lines last)) far.count ∙ sym (length-append (end_lines ends) (end_lines last)) ∙ ap (λ (b : List ℕ). length b) text;
      same_is = ap (λ (n : ℕ). n + more) far.same_is ∙ ap (λ (n : ℕ). count_by (λ (e : RowEnd). is_same e.outcome) ends + n) counted ∙ sym (count_joined ends last);
      most = most;
      within = within;
    }

-- memory is refused before the next ones are written
pub far_stopped : (facts : ShelfFacts) (rows : List RowWords) (at : ℕ) (old now : Option (List ℕ)) (written same : ℕ) (ends : List RowEnd) → SoFar facts rows at old now written same ends → EndsOn facts rows old now (Err Memory)
far_stopped facts rows at old now written same ends far =
    (ends, (record { front = take at rows; later = drop at rows; parts = sym (take-append-drop at rows); outcomes = far.outcomes }, far.out))

-- a write of the next ones breaks off, or memory is refused for them
pub far_broken : (facts : ShelfFacts) (rows part : List RowWords) (at to : ℕ) (old mid new : Option (List ℕ)) (written same : ℕ) (ends last : List RowEnd) (fault : VerifyFault) → SoFar facts rows at old mid written same ends
    → take to rows ≡ take at rows ++ part → AreOutcomes facts part last → BreaksOff mid new (end_lines last) written fault → EndsOn facts rows old new (Err fault)
far_broken facts rows part at to old mid new written same ends last (Write n) far parts outcomes broken =
    let text : (end_lines ends ++ end_lines last) ++ [] ≡ end_lines (ends ++ last) = append-nil (end_lines ends ++ end_lines last) ∙ sym (flat_map-append end_line ends last) in
    let whole = cut_within old mid new (end_lines ends) (end_lines last) [] written n far.count broken.0 far.out broken.1 in
    let first : AreFirst facts rows (ends ++ last) = record {
      front = take to rows;
      later = drop to rows;
      parts = sym (take-append-drop to rows);
      outcomes = subst (λ (r : List RowWords). AreOutcomes facts r (ends ++ last)) (sym parts) (outcomes_more facts (take at rows) part ends last far.outcomes outcomes);
    } in
    (ends ++ last, inl (first, subst (λ (b : List ℕ). IsCutOff old new b n) text whole))
far_broken facts rows part at to old mid new written same ends last Memory far parts outcomes kept =
    (ends, (record { front = take at rows; later = drop at rows; parts = sym (take-append-drop at rows); outcomes = far.outcomes }, Appends-kept old mid new (end_lines ends) far.out kept))
far_broken facts rows part at to old mid new written same ends last (Read why) far parts outcomes broken = absurd broken
far_broken facts rows part at to old mid new written same ends last (Manifest line) far parts outcomes broken = absurd broken

-- ---- the last line

length_ends : (facts : ShelfFacts) (rows : List RowWords) (ends : List RowEnd) → AreOutcomes facts rows ends → length ends ≡ length rows
length_ends facts rows ends outcomes = sym (length-map ends (λ (e : RowEnd). e.row)) ∙ ap (λ (r : List RowWords). length r) outcomes.named

pub record HasAll (facts : ShelfFacts) (rows : List RowWords) (old now : Option (List ℕ)) (written : ℕ) (tally : Tally) (ends : List RowEnd) : Type 0 where
  pub outcomes : AreOutcomes facts rows ends
  pub out : Appends old now (end_lines ends)
  pub count : written ≡ length (end_lines ends)
  pub tally_is : tally ≡ tally_of ends

pub far_all : (facts : ShelfFacts) (rows : List RowWords) (at : ℕ) (old now : Option (List ℕ)) (written same movies : ℕ) (ends : List RowEnd) → SoFar facts rows at old now written same ends → take at rows ≡ rows → movies ≡ length rows
    → HasAll facts rows old now written (record { movies = movies; same = same }) ends
far_all facts rows at old now written same movies ends far all are =
    let outcomes = subst (λ (r : List RowWords). AreOutcomes facts r ends) all far.outcomes in
    let long : movies ≡ length ends = are ∙ sym (length_ends facts rows ends outcomes) in
    record { outcomes = outcomes; out = far.out; count = far.count; tally_is = rw (long, far.same_is) refl }

pub all_written : (facts : ShelfFacts) (rows : List RowWords) (old mid new : Option (List ℕ)) (written : ℕ) (tally said : Tally) (ends : List RowEnd) → HasAll facts rows old mid written tally ends
    → said ≡ tally → Appends mid new (tally_line tally) → EndsOn facts rows old new (Ok said)
all_written facts rows old mid new written tally said ends all is out =
    (ends, (all.outcomes, is ∙ all.tally_is, subst (λ (t : Tally). Appends old new (end_lines ends ++ tally_line t)) all.tally_is (Appends-trans old mid new (end_lines ends) (tally_line tally) all.out out)))

pub all_broken : (facts : ShelfFacts) (rows : List RowWords) (old mid new : Option (List ℕ)) (written : ℕ) (tally : Tally) (ends : List RowEnd) (fault : VerifyFault) → HasAll facts rows old mid written tally ends
    → BreaksOff mid new (tally_line tally) written fault → EndsOn facts rows old new (Err fault)
all_broken facts rows old mid new written tally ends (Write n) all broken =
    let whole = cut_within old mid new (end_lines ends) (tally_line tally) [] written n all.count broken.0 all.out broken.1 in
    let text : (end_lines ends ++ tally_line tally) ++ [] ≡ report ends = append-nil (end_lines ends ++ tally_line tally) ∙ ap (λ (t : Tally). end_lines ends ++ tally_line t) all.tally_is in
    (ends, inr (all.outcomes, subst (λ (b : List ℕ). IsCutOff old new b n) text whole))
all_broken facts rows old mid new written tally ends Memory all kept =
    (ends, (record { front = rows; later = []; parts = sym (append-nil rows); outcomes = all.outcomes }, Appends-kept old mid new (end_lines ends) all.out kept))
all_broken facts rows old mid new written tally ends (Read why) all broken = absurd broken
all_broken facts rows old mid new written tally ends (Manifest line) all broken = absurd broken

-- ---- the rows of the next lines

pub rows_between : (rows : List Row) (at to : ℕ) → at ≤ to → take to (map words_in rows) ≡ take at (map words_in rows) ++ map words_in (take (to - at) (drop at rows))
rows_between rows at to le =
    let sum : to ≡ at + (to - at) = omega arith in
    let part : List Row = take (to - at) (drop at rows) in
    take-map words_in to rows ∙ ap (λ (n : ℕ). map words_in (take n rows)) sum ∙ ap (λ (r : List Row). map words_in r) (take-add at (to - at) rows) ∙ map-append words_in (take at rows) part
    ∙ ap (λ (r : List RowWords). r ++ map words_in part) (sym (take-map words_in at rows))

-- all rows are before their end
pub rows_all : (rows : List Row) (at : ℕ) → length rows ≤ at → take at (map words_in rows) ≡ map words_in rows
rows_all rows at le = take_all at (map words_in rows) (omega (arith, length-map rows words_in))

pub batch_length : (facts : ShelfFacts) (rows : List Row) (at to : ℕ) (verified : List Verified) → at ≤ to → to ≤ length rows → AreOutcomes facts (map words_in (take (to - at) (drop at rows))) (map end_of verified) → length verified ≡ to - at
batch_length facts rows at to verified low high outcomes =
    let part : List Row = take (to - at) (drop at rows) in
    let ends = length_ends facts (map words_in part) (map end_of verified) outcomes in
    omega (arith, ends, length-map verified end_of, length-map part words_in, length-take (to - at) (drop at rows), length-drop at rows)

-- ---- how a run ends

pub all_ended : (facts : ShelfFacts) (rows : List RowWords) (old mid new : Option (List ℕ)) (written : ℕ) (tally : Tally) (ends : List RowEnd) (result : Result Tally VerifyFault) → HasAll facts rows old mid written tally ends
    → IfOk result (λ said. (said ≡ tally) × Appends mid new (tally_line tally)) → IfErr result (BreaksOff mid new (tally_line tally) written) → EndsOn facts rows old new result
all_ended facts rows old mid new written tally ends (Ok said) all ok err = all_written facts rows old mid new written tally said ends all ok.0 ok.1
all_ended facts rows old mid new written tally ends (Err fault) all ok err = all_broken facts rows old mid new written tally ends fault all err

pub runs_on : (facts : ShelfFacts) (bytes : List ℕ) (rows : List RowWords) (old new : Option (List ℕ)) (result : Result Tally VerifyFault) → IsManifest bytes rows → EndsOn facts rows old new result → RunsOn facts bytes old new result
runs_on facts bytes rows old new (Ok tally) is ends = inr (rows, is, ends)
runs_on facts bytes rows old new (Err Memory) is ends = inr (rows, is, ends)
runs_on facts bytes rows old new (Err (Write written)) is ends = inr (rows, is, ends)
runs_on facts bytes rows old new (Err (Read fault)) is ends = absurd ends.1
runs_on facts bytes rows old new (Err (Manifest line)) is ends = absurd ends.1
