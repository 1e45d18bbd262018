-- Where two lists of runs go on alike.
use Rattle.std.proofs.Common.{◌≡◌, ℕ, ◌+◌, ◌-◌, ◌≤◌, List, ◌++◌, length, take, drop, Option, Some, None, sym, ap, subst, ◌∙◌, arith, length-take, append_assoc}
use Rattle.std.proofs.lemmas.List.{length-drop, take-take, drop-take, take_rest, take-append-drop}
use Rattle.tas_movie.specs.Content.{most_inputs}
use Rattle.tas_movie.specs.declared.run.FrameRun.{FrameRun}
use Rattle.tas_engines.specs.Differences.{frames, GoOnAlike, AreApart}
use Rattle.tas_engines.specs.declared.alike.Lengths.{Lengths}
use Rattle.tas_engines.specs.declared.anchors.Anchor.{Anchor}
use Rattle.tas_engines.specs.declared.comparing.Gap.{Gap}
use Rattle.tas_engines.specs.declared.stages.Stage.{Stage}
use Rattle.tas_engines.specs.Hunks.{IsLongestFront, HasRoom, IsNearest, IsNext, IsStep}
use Rattle.tas_engines.proofs.RunLemmas.{frames_within}

-- the rests of two lists, as slices
pub plain_front : (old new : List FrameRun) (i j n : ℕ) → IsLongestFront (take (length old - i) (drop i old)) (take (length new - j) (drop j new)) n → IsLongestFront (drop i old) (drop j new) n
plain_front old new i j n f =
    subst (λ (a : List FrameRun). IsLongestFront a (drop j new) n) (take_rest old i) (subst (λ (b : List FrameRun). IsLongestFront (take (length old - i) (drop i old)) b n) (take_rest new j) f)

pub alike_front : (old new : List FrameRun) (made left i j n : ℕ) → GoOnAlike old new made left i j → IsLongestFront (drop i old) (drop j new) n → 4 ≤ n
alike_front old new made left i j n g f =
    f.longest 4 (omega (arith, g.old_within, length-drop i old)) (omega (arith, g.new_within, length-drop j new)) g.same

pub front_alike : (old new : List FrameRun) (made left i j n : ℕ) → i ≤ length old → j ≤ length new → IsLongestFront (drop i old) (drop j new) n → 4 ≤ n
    → made + frames (take j new) + (left - frames (take i old)) ≤ most_inputs → GoOnAlike old new made left i j
front_alike old new made left i j n le le' f many room =
    record {
      old_within = omega (arith, le, f.within_old, many, length-drop i old);
      new_within = omega (arith, le', f.within_new, many, length-drop j new);
      same = sym (take-take 4 n (drop i old) many) ∙ ap (take 4) f.same ∙ take-take 4 n (drop j new) many;
      room = room;
    }

-- four of the first runs
four_of : (runs : List FrameRun) (n i : ℕ) → i + 4 ≤ n → take 4 (drop i (take n runs)) ≡ take 4 (drop i runs)
four_of runs n i fits =
    let whole : n ≡ i + (n - i) = omega (arith, fits) in
    let left : 4 ≤ n - i = omega (arith, fits) in
    ap (λ (k : ℕ). take 4 (drop i (take k runs))) whole ∙ ap (take 4) (drop-take i (n - i) runs) ∙ take-take 4 (n - i) (drop i runs) left

alike_longer : (old new : List FrameRun) (made left n m i j : ℕ) → GoOnAlike (take n old) (take m new) made left i j → GoOnAlike old new made left i j
alike_longer old new made left n m i j g =
    let fits_old : i + 4 ≤ n = omega (arith, g.old_within, length-take n old) in
    let fits_new : j + 4 ≤ m = omega (arith, g.new_within, length-take m new) in
    let in_old : i ≤ n = omega (arith, fits_old) in
    let in_new : j ≤ m = omega (arith, fits_new) in
    record {
      old_within = omega (arith, g.old_within, length-take n old);
      new_within = omega (arith, g.new_within, length-take m new);
      same = sym (four_of old n i fits_old) ∙ g.same ∙ four_of new m j fits_new;
      room = subst (λ (l : List FrameRun). made + frames (take j new) + (left - frames l) ≤ most_inputs) (take-take i n old in_old)
          (subst (λ (l : List FrameRun). made + frames l + (left - frames (take i (take n old))) ≤ most_inputs) (take-take j m new in_new) g.room);
    }

pub nearest_next : (old new : List FrameRun) (lengths : Lengths) (found : Option Anchor) → IsNearest old new lengths found → IsNext old new lengths found
nearest_next old new lengths None h = h
nearest_next old new lengths (Some at) h = (
  h.0,
  λ i j near g.
      let old_within = g.old_within in
      let new_within = g.new_within in
      h.1 i j (omega (arith, old_within, new_within, length-take at.old old, length-take at.new new)) (alike_longer old new lengths.made lengths.left at.old at.new i j g),
)

pub nearer_next : (old new : List FrameRun) (lengths : Lengths) (n m : ℕ) (at : Anchor) → IsNearest (take n old) (take m new) lengths (Some at) → IsNext old new lengths (Some at)
nearer_next old new lengths n m at h =
    let next = nearest_next (take n old) (take m new) lengths (Some at) h in
    let in_old : at.old ≤ n = omega (arith, h.0.old_within, length-take n old) in
    let in_new : at.new ≤ m = omega (arith, h.0.new_within, length-take m new) in (
      alike_longer old new lengths.made lengths.left n m at.old at.new h.0,
      subst (λ (l : List FrameRun). AreApart l (take at.new new) lengths.made lengths.left) (take-take at.old n old in_old)
          (subst (λ (l : List FrameRun). AreApart (take at.old (take n old)) l lengths.made lengths.left) (take-take at.new m new in_new) next.1),
    )

pub room_within : (old new : List FrameRun) (lengths : Lengths) (n m : ℕ) → HasRoom old new lengths → HasRoom (take n old) (take m new) lengths
room_within old new lengths n m h =
    record { old_left = omega (arith, h.old_left, frames_within n old); left_bound = h.left_bound; made_bound = omega (arith, h.made_bound, frames_within m new) }

-- ---- a step to a place from which both lists go on alike

in_three : {A : Type 0} (i n : ℕ) (xs : List A) → xs ≡ take i xs ++ take n (drop i xs) ++ drop n (drop i xs)
in_three {A = A} i n xs =
    sym (append_assoc (take i xs) (take n (drop i xs)) (drop n (drop i xs)) ∙ ap (λ (l : List A). take i xs ++ l) (take-append-drop n (drop i xs)) ∙ take-append-drop i xs)

pub stepped : (old new : List FrameRun) (len : ℕ) (stage : Stage) (i j n f f' s : ℕ) → GoOnAlike old new stage.gap.new (len - stage.gap.old) i j → AreApart (take i old) (take j new) stage.gap.new (len - stage.gap.old)
    → IsLongestFront (drop i old) (drop j new) n → f ≡ frames (take i old) → f' ≡ frames (take j new) → s ≡ frames (take n (drop i old))
    → IsStep old new len stage (record {
      hunk = record { old = stage.gap.old; old_end = stage.gap.old + f; new = stage.gap.new; new_end = stage.gap.new + f' };
      after = record { runs = record { old = stage.runs.old + i + n; new = stage.runs.new + j + n }; gap = record { old = stage.gap.old + f + s; old_end = stage.gap.old_end; new = stage.gap.new + f' + s; new_end = stage.gap.new_end } };
    })
stepped old new len stage i j n f f' s g apart front is is' stay =
    let many = alike_front old new stage.gap.new (len - stage.gap.old) i j n g front in
    let lengths : length (take n (drop i old)) ≡ n = omega (arith, front.within_old, length-take n (drop i old)) in
    record {
      out = take i old;
      into = take j new;
      stays = take n (drop i old);
      old_rest = drop n (drop i old);
      new_rest = drop n (drop j new);
      old_is = in_three i n old;
      new_is = in_three j n new ∙ ap (λ (l : List FrameRun). take j new ++ l ++ drop n (drop j new)) (sym front.same);
      many = omega (arith, many, lengths);
      apart = apart;
      room = g.room;
      hunk = ap (λ (k : ℕ). let gap : Gap = record { old = stage.gap.old; old_end = stage.gap.old + k; new = stage.gap.new; new_end = stage.gap.new + f' } in gap) is
          ∙ ap (λ (k : ℕ). let gap : Gap = record { old = stage.gap.old; old_end = stage.gap.old + frames (take i old); new = stage.gap.new; new_end = stage.gap.new + k } in gap) is';
      after_old = omega (arith, g.old_within, length-take i old, lengths);
      after_new = omega (arith, g.new_within, length-take j new, lengths);
      after_gap = ap (λ (k : ℕ). let gap : Gap = record { old = stage.gap.old + k + s; old_end = stage.gap.old_end; new = stage.gap.new + f' + s; new_end = stage.gap.new_end } in gap) is
          ∙ ap (λ (k : ℕ). let gap : Gap = record { old = stage.gap.old + frames (take i old) + s; old_end = stage.gap.old_end; new = stage.gap.new + k + s; new_end = stage.gap.new_end } in gap) is'
          ∙ ap (λ (k : ℕ). let gap : Gap = record { old = stage.gap.old + frames (take i old) + k; old_end = stage.gap.old_end; new = stage.gap.new + frames (take j new) + k; new_end = stage.gap.new_end } in gap) stay;
    }
