-- How a journal's lines are put together.
use Rattle.std.proofs.Common.{◌≡◌, ℕ, ◌+◌, ◌<◌, ◌≤◌, List, [], ◌∷◌, ◌++◌, length, take, drop, Some, refl, sym, ap, ◌∙◌, arith, append_assoc}
use Rattle.std.specs.Prelude.{codes, decimal, replicate, slice_get}
use Rattle.std.specs.List.{flat_map}
use Rattle.std.proofs.lemmas.List.{append-nil, drop-drop, drop_all}
use Rattle.vcs_inputs.specs.declared.input.Input.{Input}
use Rattle.tas_movie.specs.Runs.{runs_of}
use Rattle.tas_movie.specs.Content.{MovieContent}
use Rattle.tas_movie.specs.Text.{line, frame_text, text2}
use Rattle.tas_movie.specs.declared.run.FrameRun.{FrameRun}
use Rattle.tas_movie.proofs.RunLemmas.{runs_split}
use Rattle.tas_journal.specs.Text.{run_words, format_line, profile_line, movie_line, head_text}

pub run_put : (t0 t1 t2 t3 t4 digits frame : List ℕ) (run : FrameRun) → t1 ≡ t0 ++ 32 ∷ [] → t2 ≡ t1 ++ digits → digits ≡ decimal run.count → t3 ≡ t2 ++ 32 ∷ [] → t4 ≡ t3 ++ frame → frame ≡ frame_text run.input → t4 ≡ t0 ++ run_words run
run_put t0 t1 t2 t3 t4 digits frame run e1 e2 number e3 e4 is = rw (e4, e3, e2, e1, number, is) (simp append_assoc)

pub line_put : (t0 t1 t2 t3 t4 t5 front word digits frames : List ℕ) (at : ℕ) → t1 ≡ t0 ++ front → t2 ≡ t1 ++ word → t3 ≡ t2 ++ digits → digits ≡ decimal at → t4 ≡ t3 ++ frames → t5 ≡ t4 ++ 10 ∷ [] → t5 ≡ t0 ++ line (front ++ (word ++ (decimal at ++ frames)))
line_put t0 t1 t2 t3 t4 t5 front word digits frames at e1 e2 e3 number e4 e5 = rw (e5, e4, e3, e2, e1, number) (simp append_assoc)

-- a run more is written
pub words_written : (out now : List ℕ) (inputs rest : List Input) (done n : ℕ) (i : Input) (whole : List ℕ) → rest ≡ drop done inputs → 1 ≤ n → take n rest ≡ replicate n i → (n < length rest → slice_get rest n ≡ Some i → ⊥)
    → now ≡ out ++ run_words (record { input = i; count = n }) → out ++ flat_map run_words (runs_of (drop done inputs)) ≡ whole → now ++ flat_map run_words (runs_of (drop (done + n) inputs)) ≡ whole
words_written out now inputs rest done n i whole cut le same longest now-is is =
    let run : FrameRun = record { input = i; count = n } in
    let after : List Input = drop (done + n) inputs in
    let further : after ≡ drop n rest = sym (drop-drop n done inputs) ∙ ap (drop n) (sym cut) in
    ap (λ (x : List ℕ). x ++ flat_map run_words (runs_of after)) now-is
    ∙ append_assoc out (run_words run) (flat_map run_words (runs_of after))
    ∙ ap (λ (l : List Input). out ++ (run_words run ++ flat_map run_words (runs_of l))) further
    ∙ ap (λ (q : List FrameRun). out ++ flat_map run_words q) (sym (runs_split rest i n le same longest))
    ∙ ap (λ (l : List Input). out ++ flat_map run_words (runs_of l)) cut
    ∙ is

pub all_written : (out : List ℕ) (inputs : List Input) (done : ℕ) (whole : List ℕ) → length inputs ≤ done → out ++ flat_map run_words (runs_of (drop done inputs)) ≡ whole → out ≡ whole
unfolding runs_of
all_written out inputs done whole end is =
    sym (append-nil out) ∙ ap (λ (l : List Input). out ++ flat_map run_words (runs_of l)) (sym (drop_all done inputs end)) ∙ is

pub head_put : (t0 t1 t2 first line last text : List ℕ) (movie : MovieContent) → t0 ≡ format_line ++ profile_line → t1 ≡ t0 ++ line → line ≡ movie_line first → first ≡ text → t2 ≡ t1 ++ last → last ≡ text → text ≡ text2 movie → t2 ≡ head_text movie
head_put t0 t1 t2 first line last text movie front e1 line-is first-is e2 last-is is =
    e2 ∙ ap (λ (l : List ℕ). t1 ++ l) (last-is ∙ is)
    ∙ ap (λ (l : List ℕ). l ++ text2 movie) (e1 ∙ ap (λ (l : List ℕ). l ++ line) front ∙ ap (λ (l : List ℕ). (format_line ++ profile_line) ++ l) (line-is ∙ ap movie_line (first-is ∙ is)))
    ∙ joined format_line profile_line (movie_line (text2 movie)) (text2 movie)
  where
    joined : (a b c d : List ℕ) → ((a ++ b) ++ c) ++ d ≡ a ++ (b ++ (c ++ d))
    joined a b c d = simp append_assoc
