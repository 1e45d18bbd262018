-- Gaps, and what leads over them.
use Rattle.std.proofs.Common.{◌≡◌, ℕ, ◌+◌, ◌-◌, ◌<◌, ◌≤◌, List, [], ◌++◌, length, take, drop, refl, sym, ap, subst, ◌∙◌, arith, append_assoc}
use Rattle.std.proofs.lemmas.List.{length-drop, length-take-le, take-take, drop-take, append-nil}
use lib.Seq.{drop-drop}
use Rattle.vcs_inputs.specs.declared.input.Input.{Input}
use Rattle.tas_movie.specs.Runs.{runs_of}
use Rattle.tas_movie.specs.Front.{IsCommonFront}
use Rattle.tas_language.specs.declared.change.Change.{Change}
use Rattle.tas_engines.specs.Differences.{IsCommonEnd}
use Rattle.tas_engines.specs.declared.anchors.Anchor.{Anchor}
use Rattle.tas_engines.specs.declared.comparing.Gap.{Gap}
use Rattle.tas_engines.specs.Hunks.{Leads, IsGapOf, AddsHunk, GoesOn, IsCommonFrom, deletion, insertions}
use Rattle.tas_engines.proofs.HunkLemmas.{led_nowhere, led_further, led_same, led_within}
use Rattle.tas_engines.proofs.GapSteps.{between, led_by_hunk, Replacing, LeftToReplace}

-- ---- a gap

-- the gap without the inputs with which both lists end there
abbrev pub shorter : Gap → ℕ → Gap
shorter gap end = record { old = gap.old; old_end = gap.old_end - end; new = gap.new; new_end = gap.new_end - end }

abbrev pub IsEndOf : List Input → List Input → Gap → ℕ → Type 0
IsEndOf old new gap end = IsCommonEnd (take (gap.old_end - gap.old) (drop gap.old old)) (take (gap.new_end - gap.new) (drop gap.new new)) end

length-part : (xs : List Input) (from end : ℕ) → from ≤ end → end ≤ length xs → length (take (end - from) (drop from xs)) ≡ end - from
length-part xs from end le within = length-take-le (end - from) (drop from xs) (omega (arith, within, le, length-drop from xs))

part_end : (xs : List Input) (from end n : ℕ) → from ≤ end → end ≤ length xs → n ≤ end - from
    → drop (length (take (end - from) (drop from xs)) - n) (take (end - from) (drop from xs)) ≡ take n (drop (end - n) xs)
part_end xs from end n le within fits =
    let whole : end - from - n + n ≡ end - from = omega (arith, fits) in
    let place : from + (end - from - n) ≡ end - n = omega (arith, le, fits) in
    ap (λ (k : ℕ). drop (k - n) (take (end - from) (drop from xs))) (length-part xs from end le within)
    ∙ ap (λ (k : ℕ). drop (end - from - n) (take k (drop from xs))) (sym whole)
    ∙ drop-take (end - from - n) n (drop from xs)
    ∙ ap (take n) (drop-drop (end - from - n) from xs ∙ ap (λ (k : ℕ). drop k xs) place)

pub end_fits : (old new : List Input) (gap : Gap) (end : ℕ) → IsGapOf old new gap → IsEndOf old new gap end → (end ≤ gap.old_end - gap.old) × (end ≤ gap.new_end - gap.new)
end_fits old new gap end g e =
    (omega (arith, e.within_a, length-part old gap.old gap.old_end g.old_forward g.old_within), omega (arith, e.within_b, length-part new gap.new gap.new_end g.new_forward g.new_within))

same_end : (old new : List Input) (gap : Gap) (end : ℕ) → IsGapOf old new gap → IsEndOf old new gap end → take end (drop (gap.old_end - end) old) ≡ take end (drop (gap.new_end - end) new)
same_end old new gap end g e =
    let fits = end_fits old new gap end g e in
    sym (part_end old gap.old gap.old_end end g.old_forward g.old_within fits.0) ∙ e.same ∙ part_end new gap.new gap.new_end end g.new_forward g.new_within fits.1

pub shorter_gap : (old new : List Input) (gap : Gap) (end : ℕ) → IsGapOf old new gap → IsEndOf old new gap end → IsGapOf old new (shorter gap end)
shorter_gap old new gap end g e =
    let fits = end_fits old new gap end g e in
    record {
      old_forward = omega (arith, fits.0, g.old_forward);
      old_within = omega (arith, g.old_within);
      new_forward = omega (arith, fits.1, g.new_forward);
      new_within = omega (arith, g.new_within);
      short = g.short;
      short_new = g.short_new;
      room = omega (arith, fits.0, fits.1, g.old_forward, g.new_forward, g.old_within, g.new_within, g.room);
    }

-- what leads to the inputs with which both lists end leads over them
pub whole_hunk : (old new : List Input) (gap : Gap) (end : ℕ) (before after : List Change) → IsGapOf old new gap → IsEndOf old new gap end
    → AddsHunk old new (shorter gap end) before after → AddsHunk old new gap before after
whole_hunk old new gap end before after g e h =
    let fits = end_fits old new gap end g e in
    let to_old : gap.old_end - end + end ≡ gap.old_end = omega (arith, fits.0) in
    let to_new : gap.new_end - end + end ≡ gap.new_end = omega (arith, fits.1) in
    let led = led_within old new gap.old gap.new (gap.old_end - end + end) (gap.new_end - end + end) (gap.new_end - end + 1) (gap.new_end + 1) h.0
    (led_same old new gap.old gap.new (gap.old_end - end) (gap.new_end - end) end (gap.new_end - end + 1) h.0 h.2 (same_end old new gap end g e)) (omega arith) in (
      h.0,
      h.1,
      subst (λ (k : ℕ). Leads old new gap.old gap.new k gap.new_end (gap.new_end + 1) h.0) to_old
          (subst (λ (k : ℕ). Leads old new gap.old gap.new (gap.old_end - end + end) k (gap.new_end + 1) h.0) to_new led),
    )

-- a deletion and insertions lead over a gap in which not as many inputs come as go
pub hunk_led : (old new : List Input) (gap : Gap) (before between' after : List Change) → IsGapOf old new gap → (gap.old_end - gap.old ≡ gap.new_end - gap.new → ⊥)
    → between' ≡ before ++ deletion gap.new (gap.old_end - gap.old) → after ≡ between' ++ insertions gap.new (runs_of (between new gap.new gap.new_end)) → AddsHunk old new gap before after
hunk_led old new gap before between' after g ne is is' =
    let gone = gap.old_end - gap.old in
    let come = insertions gap.new (runs_of (between new gap.new gap.new_end)) in
    let to : gap.old + (gap.old_end - gap.old) ≡ gap.old_end = omega (arith, g.old_forward) in (
      deletion gap.new gone ++ come,
      is' ∙ ap (λ (l : List Change). l ++ come) is ∙ append_assoc before (deletion gap.new gone) come,
      subst (λ (k : ℕ). Leads old new gap.old gap.new k gap.new_end (gap.new_end + 1) (deletion gap.new gone ++ come)) to
          (led_by_hunk old new gap.old gap.new gone gap.new_end g.new_forward (omega (arith, g.old_forward, g.old_within)) g.new_within g.short g.short_new (omega (arith, to, g.room)) (λ e. ne (sym e))),
    )

-- the replacements of all inputs of a gap
pub hunk_replaced : (old new : List Input) (gap : Gap) (done : ℕ) (before after : List Change) → IsGapOf old new gap → gap.old_end - gap.old ≡ gap.new_end - gap.new → done ≡ gap.new_end - gap.new
    → Replacing old new gap.old gap.new gap.new_end done before after → AddsHunk old new gap before after
hunk_replaced old new gap done before after g as_many all r =
    let to_old : gap.old + done ≡ gap.old_end = omega (arith, g.old_forward, as_many, all) in
    let to_new : gap.new + done ≡ gap.new_end = omega (arith, g.new_forward, all) in (
      r.changes,
      r.is,
      subst (λ (k : ℕ). Leads old new gap.old gap.new k gap.new_end (gap.new_end + 1) r.changes) to_old
          (subst (λ (k : ℕ). Leads old new gap.old gap.new (gap.old + done) k (k + 1) r.changes) to_new r.leads),
    )

pub left_to_replace : (old new : List Input) (gap : Gap) (done : ℕ) → IsGapOf old new gap → gap.old_end - gap.old ≡ gap.new_end - gap.new → done < gap.new_end - gap.new
    → LeftToReplace old new gap.old gap.new gap.new_end done (gap.new_end - (gap.new + done))
left_to_replace old new gap done g as_many lt =
    record {
      some = omega (arith, lt, g.new_forward);
      old_within = omega (arith, g.old_forward, g.old_within, g.new_forward, as_many, lt);
      new_within = omega (arith, g.new_forward, lt);
      new_end = g.new_within;
      short = g.short;
      short_new = g.short_new;
    }

-- ---- up to an anchor

abbrev pub gap_before : Gap → Anchor → Gap
gap_before gap anchor = record { old = gap.old; old_end = anchor.old; new = gap.new; new_end = anchor.new }

abbrev pub gap_after : Gap → Anchor → ℕ → Gap
gap_after gap anchor same = record { old = anchor.old + same; old_end = gap.old_end; new = anchor.new + same; new_end = gap.new_end }

pub is_gap_before : (old new : List Input) (gap : Gap) (anchor : Anchor) (same : ℕ) → IsGapOf old new gap → IsCommonFrom old new gap anchor same → IsGapOf old new (gap_before gap anchor)
is_gap_before old new gap anchor same g c =
    record {
      old_forward = c.old_begins;
      old_within = omega (arith, g.old_within, c.old_ends);
      new_forward = c.new_begins;
      new_within = omega (arith, g.new_within, c.new_ends);
      short = g.short;
      short_new = g.short_new;
      room = c.room;
    }

pub goes_nowhere : (old new : List Input) (gap : Gap) (before : List Change) → IsGapOf old new gap → GoesOn old new gap gap before before
goes_nowhere old new gap before g = record {
  changes = [];
  is = sym (append-nil before);
  leads = led_nowhere old new gap.old gap.new gap.new;
  old_end = refl;
  new_end = refl;
  old_forward = g.old_forward;
  new_forward = g.new_forward;
}

pub goes_on : (old new : List Input) (gap : Gap) (anchor : Anchor) (same : ℕ) (before after : List Change) → 0 < same → IsCommonFrom old new gap anchor same
    → AddsHunk old new (gap_before gap anchor) before after → GoesOn old new gap (gap_after gap anchor same) before after
goes_on old new gap anchor same before after some c h = record {
  changes = h.0;
  is = h.1;
  leads = led_within old new gap.old gap.new (anchor.old + same) (anchor.new + same) (anchor.new + 1) (anchor.new + same) h.0
      (led_same old new gap.old gap.new anchor.old anchor.new same (anchor.new + 1) h.0 h.2 c.same) (omega (arith, some));
  old_end = refl;
  new_end = refl;
  old_forward = c.old_ends;
  new_forward = c.new_ends;
}

-- ---- a hunk, from one gap to the next

-- the gap without the inputs with which both lists begin there
abbrev pub later : Gap → ℕ → Gap
later gap front = record { old = gap.old + front; old_end = gap.old_end; new = gap.new + front; new_end = gap.new_end }

pub goes_first : (old new : List Input) (hunk : Gap) (front : ℕ) (before : List Change) → IsGapOf old new hunk
    → IsCommonFront (take (hunk.old_end - hunk.old) (drop hunk.old old)) (take (hunk.new_end - hunk.new) (drop hunk.new new)) front → GoesOn old new hunk (later hunk front) before before
goes_first old new hunk front before g common =
    let fits_old : front ≤ hunk.old_end - hunk.old = omega (arith, common.within_a, length-part old hunk.old hunk.old_end g.old_forward g.old_within) in
    let fits_new : front ≤ hunk.new_end - hunk.new = omega (arith, common.within_b, length-part new hunk.new hunk.new_end g.new_forward g.new_within) in
    let same : take front (drop hunk.old old) ≡ take front (drop hunk.new new) =
    sym (take-take front (hunk.old_end - hunk.old) (drop hunk.old old) fits_old) ∙ common.same ∙ take-take front (hunk.new_end - hunk.new) (drop hunk.new new) fits_new in
    record {
      changes = [];
      is = sym (append-nil before);
      leads = led_same old new hunk.old hunk.new hunk.old hunk.new front (hunk.new + front) [] (led_nowhere old new hunk.old hunk.new (hunk.new + front)) same;
      old_end = refl;
      new_end = refl;
      old_forward = omega (arith, fits_old, g.old_forward);
      new_forward = omega (arith, fits_new, g.new_forward);
    }

pub goes_further : (old new : List Input) (hunk gap next : Gap) (before now after : List Change) → GoesOn old new hunk gap before now → GoesOn old new gap next now after → GoesOn old new hunk next before after
goes_further old new hunk gap next before now after g n =
    let on = n.leads.new_forward in
    record {
      changes = g.changes ++ n.changes;
      is = n.is ∙ ap (λ (l : List Change). l ++ n.changes) g.is ∙ append_assoc before g.changes n.changes;
      leads = led_further old new hunk.old hunk.new gap.old gap.new next.old next.new gap.new next.new g.changes n.changes g.leads n.leads (omega arith) on;
      old_end = n.old_end ∙ g.old_end;
      new_end = n.new_end ∙ g.new_end;
      old_forward = omega (arith, g.old_end, n.old_forward);
      new_forward = omega (arith, g.new_end, n.new_forward);
    }

pub gap_further : (old new : List Input) (gap next : Gap) (before after : List Change) → IsGapOf old new gap → GoesOn old new gap next before after → IsGapOf old new next
gap_further old new gap next before after g n =
    record {
      old_forward = omega (arith, n.old_end, n.old_forward);
      old_within = omega (arith, n.old_end, g.old_within);
      new_forward = omega (arith, n.new_end, n.new_forward);
      new_within = omega (arith, n.new_end, g.new_within);
      short = g.short;
      short_new = g.short_new;
      room = omega (arith, n.old_end, n.new_end, g.room);
    }

pub hunk_ends : (old new : List Input) (hunk gap : Gap) (before now after : List Change) → IsGapOf old new gap → GoesOn old new hunk gap before now → AddsHunk old new gap now after → AddsHunk old new hunk before after
hunk_ends old new hunk gap before now after is_gap g h =
    let led = led_further old new hunk.old hunk.new gap.old gap.new gap.old_end gap.new_end gap.new (gap.new_end + 1) g.changes h.0 g.leads h.2 (omega arith) (omega (arith, is_gap.new_forward)) in
    let there = subst (λ (k : ℕ). Leads old new hunk.old hunk.new k gap.new_end (gap.new_end + 1) (g.changes ++ h.0)) g.old_end led in (
      g.changes ++ h.0,
      h.1 ∙ ap (λ (l : List Change). l ++ h.0) g.is ∙ append_assoc before g.changes h.0,
      subst (λ (k : ℕ). Leads old new hunk.old hunk.new hunk.old_end k (k + 1) (g.changes ++ h.0)) g.new_end there,
    )
