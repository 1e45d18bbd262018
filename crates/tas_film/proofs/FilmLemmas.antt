-- Films.
use Rattle.std.proofs.Common.{◌≡◌, ℕ, ◌+◌, ◌*◌, ◌-◌, ◌<◌, ◌≤◌, List, ◌++◌, length, take, Option, Some, Err, refl, sym, ap, subst, ◌∙◌, arith}
use lib.Seq.{take-append-add}
use Rattle.std.specs.Io.KnownBytes.{Appends}
use Rattle.std.proofs.KnownBytes.{Appends-nil, Appends-trans}
use Rattle.byte_text.specs.CutOff.{IsCutOff}
use Rattle.vcs_tia.specs.Image.{ppm_bytes}
use Rattle.tas_movie.specs.Content.{MovieContent}
use Rattle.tas_green.specs.Run.{state_after, picture_of}
use Rattle.tas_film.specs.declared.pixmaps.HaltedFrame.{HaltedFrame}
use Rattle.tas_film.specs.declared.film.FilmStop.{FilmStop}
use Rattle.tas_film.specs.declared.film.FilmStop.TheVariants.{Memory, Halted, Write}
use Rattle.tas_film.specs.Frames.{IsDrawn, AllDrawn, IsLeastHalted, pixmaps_of}
use Rattle.tas_film.specs.Films.{IsFilmCut, IsFilm, IsFilmStop}
use Rattle.tas_film.proofs.DrawingLemmas.{drawn_more, pixmaps_none, pixmaps_more}
use Rattle.tas_film.proofs.WriteLemmas.{length-pixmap, length-pixmaps_of}

pub nothing_yet : (movie : MovieContent) (from : ℕ) (out : Option (List ℕ)) → Appends out out (pixmaps_of movie from (from - from))
nothing_yet movie from out = subst (Appends out out) (pixmaps_none movie from) (Appends-nil out)

frames_more : (movie : MovieContent) (from frame : ℕ) → from ≤ frame → pixmaps_of movie from (frame - from) ++ ppm_bytes (picture_of movie frame) ≡ pixmaps_of movie from (frame + 1 - from)
frames_more movie from frame le =
    let so_far = pixmaps_of movie from (frame - from) in
    pixmaps_more movie from frame so_far (so_far ++ ppm_bytes (picture_of movie frame)) le refl refl

-- one frame more
pub one_more : (movie : MovieContent) (from frame : ℕ) (a b c : Option (List ℕ)) → from ≤ frame → Appends a b (pixmaps_of movie from (frame - from)) → Appends b c (ppm_bytes (picture_of movie frame))
    → Appends a c (pixmaps_of movie from (frame + 1 - from))
one_more movie from frame a b c le so_far here = subst (Appends a c) (frames_more movie from frame le) (Appends-trans a b c _ _ so_far here)

-- a write failed in a frame's pixmap
film_cut : (movie : MovieContent) (from to frame : ℕ) (a b c : Option (List ℕ)) (before written : ℕ) → from ≤ frame → frame < to → AllDrawn movie from frame → before ≡ (frame - from) * 100815
    → Appends a b (pixmaps_of movie from (frame - from)) → IsDrawn movie frame → before ≤ written → IsCutOff b c (ppm_bytes (picture_of movie frame)) (written - before) → IsFilmCut movie from to a c written
film_cut movie from to frame a b c before written low high all size so_far drawn from_before cut =
    let sent = pixmaps_of movie from (frame - from) in
    let here = ppm_bytes (picture_of movie frame) in
    let whole = length-pixmaps_of movie from (frame - from) in
    let longer = length-pixmaps_of movie from (frame + 1 - from) in
    let one = length-pixmap movie frame in
    let missing = cut.missing in
    let count : length sent + (written - before) ≡ written = omega arith in
    let front = sym (take-append-add sent here (written - before)) ∙ ap (λ (n : ℕ). take n (sent ++ here)) count ∙ ap (take written) (frames_more movie from frame low) in
    record {
      last = frame;
      within = high;
      drawn = drawn_more movie from frame all drawn;
      whole = omega arith;
      cut = record { missing = omega arith; front = subst (Appends a c) front (Appends-trans a b c _ _ so_far cut.front) };
    }

-- a frame is halted
halted_at : (movie : MovieContent) (from to frame : ℕ) (a b c : Option (List ℕ)) (halted : HaltedFrame) → from ≤ frame → frame < to → AllDrawn movie from frame
    → Appends a b (pixmaps_of movie from (frame - from)) → halted.frame ≡ frame → (state_after movie (frame + 1)).halt ≡ Some halted.halt → c ≡ b
    → IsLeastHalted movie from to halted × Appends a c (pixmaps_of movie from (halted.frame - from))
halted_at movie from to frame a b c halted low high all so_far here halt kept =
    let least : IsLeastHalted movie from to halted = record {
      above = omega (arith, here);
      below = omega (arith, here);
      halt = ap (λ (n : ℕ). (state_after movie (n + 1)).halt) here ∙ halt;
      before = λ f le lt. all f le (omega (arith, here));
    } in
    let out : Appends a c (pixmaps_of movie from (frame - from)) = subst (λ (o : Option (List ℕ)). Appends a o (pixmaps_of movie from (frame - from))) (sym kept) so_far in
    (least, subst (λ (n : ℕ). Appends a c (pixmaps_of movie from (n - from))) (sym here) out)

-- a film up to a frame that isn't out, or not all of it
pub film_stopped : (movie : MovieContent) (from to frame : ℕ) (a b c : Option (List ℕ)) (before : ℕ) (stop : FilmStop) → from ≤ frame → frame < to → AllDrawn movie from frame → before ≡ (frame - from) * 100815
    → Appends a b (pixmaps_of movie from (frame - from)) → IsFilmStop movie frame before b c stop → IsFilm movie from to a c (Err stop)
film_stopped movie from to frame a b c before Memory low high all size so_far is = absurd is
film_stopped movie from to frame a b c before (Halted halted) low high all size so_far is = halted_at movie from to frame a b c halted low high all so_far is.0 is.1 is.2
film_stopped movie from to frame a b c before (Write fault) low high all size so_far is = film_cut movie from to frame a b c before fault.written low high all size so_far is.0 is.1 is.2

-- all frames
pub film_done : (movie : MovieContent) (from frame to : ℕ) (a b : Option (List ℕ)) → frame ≡ to → AllDrawn movie from frame → Appends a b (pixmaps_of movie from (frame - from))
    → AllDrawn movie from to × Appends a b (pixmaps_of movie from (to - from))
film_done movie from frame to a b same all out = subst (λ (n : ℕ). AllDrawn movie from n × Appends a b (pixmaps_of movie from (n - from))) same (all, out)
