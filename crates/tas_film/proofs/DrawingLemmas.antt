-- Frames drawn one after the other, and their pixmaps.
use Rattle.std.proofs.Common.{◌≡◌, ℕ, zero, suc, ◌+◌, ◌-◌, ◌<◌, ◌≤◌, List, [], ◌∷◌, ◌++◌, Some, None, sym, ap, subst, ◌∙◌, inl, inr, arith}
use Rattle.std.specs.List.{range_with_len, flat_map}
use Rattle.std.proofs.lemmas.Bool.{cases_eq}
use Rattle.std.proofs.lemmas.Grind.{flat_map-append}
use Rattle.std.proofs.lemmas.List.{append-nil}
use Rattle.vcs_tia.specs.Image.{ppm_bytes}
use Rattle.tas_movie.specs.Content.{MovieContent}
use Rattle.tas_green.specs.Run.{state_after, picture_of}
use Rattle.tas_film.specs.declared.pixmaps.Stop.{Stop}
use Rattle.tas_film.specs.declared.pixmaps.Stop.TheVariants.{Halted, Memory}
use Rattle.tas_film.specs.Frames.{IsDrawn, AllDrawn, IsStopAt, Shows, pixmaps_of}

pub drawn_none : (movie : MovieContent) (first : ℕ) → AllDrawn movie first first
drawn_none movie first f le lt = absurd (omega arith)

pub drawn_more : (movie : MovieContent) (first frame : ℕ) → AllDrawn movie first frame → IsDrawn movie frame → AllDrawn movie first (frame + 1)
drawn_more movie first frame so_far here f le lt =
    elim (cases_eq f frame) [
      | inl same ↦ subst (λ (n : ℕ). IsDrawn movie n) (sym same) here
      | inr apart ↦ so_far f le (omega arith)
    ]

pub range_joined : (a m n : ℕ) → range_with_len a (m + n) ≡ range_with_len a m ++ range_with_len (a + m) n
range_joined a zero n =
    let none : 0 + n ≡ n = omega arith in
    let here : a ≡ a + 0 = omega arith in
    ap (range_with_len a) none ∙ ap (λ (k : ℕ). range_with_len k n) here
range_joined a (suc m) n =
    let more : suc m + n ≡ suc (m + n) = omega arith in
    let behind : (a + 1) + m ≡ a + suc m = omega arith in
    ap (range_with_len a) more ∙ ap (λ (xs : List ℕ). a ∷ xs) (range_joined (a + 1) m n ∙ ap (λ (k : ℕ). range_with_len (a + 1) m ++ range_with_len k n) behind)

pixmaps_behind : (movie : MovieContent) (a m n : ℕ) → pixmaps_of movie a (m + n) ≡ pixmaps_of movie a m ++ pixmaps_of movie (a + m) n
pixmaps_behind movie a m n =
    ap (flat_map (λ f. ppm_bytes (picture_of movie f))) (range_joined a m n)
    ∙ flat_map-append (λ f. ppm_bytes (picture_of movie f)) (range_with_len a m) (range_with_len (a + m) n)

-- the pixmaps of frames in two parts
pub pixmaps_joined : (movie : MovieContent) (from mid to : ℕ) → from ≤ mid → mid ≤ to → pixmaps_of movie from (to - from) ≡ pixmaps_of movie from (mid - from) ++ pixmaps_of movie mid (to - mid)
pixmaps_joined movie from mid to low high =
    let all : to - from ≡ (mid - from) + (to - mid) = omega arith in
    let at : from + (mid - from) ≡ mid = omega arith in
    ap (pixmaps_of movie from) all
    ∙ pixmaps_behind movie from (mid - from) (to - mid)
    ∙ ap (λ (n : ℕ). pixmaps_of movie from (mid - from) ++ pixmaps_of movie n (to - mid)) at

pub pixmaps_none : (movie : MovieContent) (first : ℕ) → [] ≡ pixmaps_of movie first (first - first)
pixmaps_none movie first =
    let none : 0 ≡ first - first = omega arith in
    ap (pixmaps_of movie first) none

-- one frame more
pub pixmaps_more : (movie : MovieContent) (first frame : ℕ) (before after : List ℕ) → first ≤ frame → before ≡ pixmaps_of movie first (frame - first) → after ≡ before ++ ppm_bytes (picture_of movie frame)
    → after ≡ pixmaps_of movie first ((frame + 1) - first)
pixmaps_more movie first frame before after le so_far is =
    let one : 1 ≡ (frame + 1) - frame = omega arith in
    is
    ∙ ap (λ (bs : List ℕ). bs ++ ppm_bytes (picture_of movie frame)) so_far
    ∙ ap (λ (bs : List ℕ). pixmaps_of movie first (frame - first) ++ bs) (sym (append-nil (ppm_bytes (picture_of movie frame))))
    ∙ ap (λ (n : ℕ). pixmaps_of movie first (frame - first) ++ pixmaps_of movie frame n) one
    ∙ sym (pixmaps_joined movie first frame (frame + 1) le (omega arith))

-- frames up to one that isn't drawn
pub stopped_at : (movie : MovieContent) (first frame end : ℕ) (bytes : List ℕ) (stop : Stop) → first ≤ frame → frame < end → AllDrawn movie first frame → IsStopAt movie frame stop
    → Shows movie first end bytes (Some stop)
stopped_at movie first frame end bytes (Halted halted) low high so_far is = record {
  above = omega (arith, is.0);
  below = omega (arith, is.0);
  halt = ap (λ (n : ℕ). (state_after movie (n + 1)).halt) is.0 ∙ is.1;
  before = λ f le lt. so_far f le (omega (arith, is.0));
}
stopped_at movie first frame end bytes Memory low high so_far is = record { frame = frame; above = low; below = high; drawn = drawn_more movie first frame so_far is }

-- all frames
pub shown_all : (movie : MovieContent) (first frame end : ℕ) (bytes : List ℕ) → frame ≡ end → AllDrawn movie first frame → bytes ≡ pixmaps_of movie first (frame - first) → Shows movie first end bytes None
shown_all movie first frame end bytes same all are = record {
  all = subst (AllDrawn movie first) same all;
  are = are ∙ ap (λ (n : ℕ). pixmaps_of movie first (n - first)) same;
}

-- what was appended
pub grown : (was old new pixmap wanted : List ℕ) → old ≡ was → new ≡ old ++ pixmap → pixmap ≡ wanted → new ≡ was ++ wanted
grown was old new pixmap wanted same is drawn = is ∙ ap (λ (bs : List ℕ). bs ++ pixmap) same ∙ ap (λ (bs : List ℕ). was ++ bs) drawn
