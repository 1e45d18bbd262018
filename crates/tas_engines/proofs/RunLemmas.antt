-- Runs, and the frames that they have.
use Rattle.std.proofs.Common.{◌≡◌, ℕ, suc, ◌+◌, ◌-◌, ◌<◌, ◌≤◌, List, [], ◌∷◌, ◌++◌, length, take, drop, get_or, refl, sym, ap, subst, ◌∙◌, arith, append_assoc}
use Rattle.std.specs.Prelude.{replicate, slice_get, Some}
use Rattle.std.specs.List.{flat_map}
use Rattle.std.proofs.lemmas.Grind.{flat_map-append}
use Rattle.std.proofs.lemmas.List.{length-append, take-append-drop, take_more, take_rest, drop_more, drop_all}
use lib.Seq.{take-append_seam, drop-append_seam, drop-drop}
use Rattle.vcs_inputs.specs.Input.{no_input}
use Rattle.vcs_inputs.specs.declared.input.Input.{Input}
use Rattle.tas_movie.specs.Runs.{run_inputs, runs_of}
use Rattle.tas_movie.specs.declared.run.FrameRun.{FrameRun}
use Rattle.tas_movie.proofs.RunLemmas.{length-runs, runs_split}
use Rattle.tas_engines.specs.Differences.{frames}

-- what a slice has where it has nothing
abbrev pub no_run : FrameRun
no_run = record { input = no_input; count = 0 }

pub frames_join : (xs ys : List FrameRun) → frames (xs ++ ys) ≡ frames xs + frames ys
frames_join xs ys = ap length (flat_map-append run_inputs xs ys) ∙ length-append (flat_map run_inputs xs) (flat_map run_inputs ys)

pub frames_parts : (n : ℕ) (xs : List FrameRun) → frames (take n xs) + frames (drop n xs) ≡ frames xs
frames_parts n xs = sym (frames_join (take n xs) (drop n xs)) ∙ ap frames (take-append-drop n xs)

frames_one : (run : FrameRun) → frames (run ∷ []) ≡ run.count
frames_one run = omega (arith, length-runs run [])

pub frames_next : (runs : List FrameRun) (i : ℕ) (d : FrameRun) → i < length runs → frames (take (i + 1) runs) ≡ frames (take i runs) + (get_or runs i d).count
frames_next runs i d lt =
    ap frames (take_more runs i d lt) ∙ frames_join (take i runs) (get_or runs i d ∷ []) ∙ ap (λ (k : ℕ). frames (take i runs) + k) (frames_one (get_or runs i d))

pub frames_within : (n : ℕ) (runs : List FrameRun) → frames (take n runs) ≤ frames runs
frames_within n runs = omega (arith, frames_parts n runs)

pub frames_fit : (runs : List FrameRun) (i : ℕ) (d : FrameRun) → i < length runs → frames (take i runs) + (get_or runs i d).count ≤ frames runs
frames_fit runs i d lt = omega (arith, frames_next runs i d lt, frames_within (i + 1) runs)

-- ---- the beginning and the rest of a list that is two lists

pub taken : {A : Type 0} (n : ℕ) (xs ys zs : List A) → xs ≡ ys ++ zs → length ys ≡ n → take n xs ≡ ys
taken {A = A} n xs ys zs is len = ap (take n) is ∙ subst (λ (k : ℕ). take k (ys ++ zs) ≡ ys) len (take-append_seam ys zs)

pub dropped : {A : Type 0} (n : ℕ) (xs ys zs : List A) → xs ≡ ys ++ zs → length ys ≡ n → drop n xs ≡ zs
dropped {A = A} n xs ys zs is len = ap (drop n) is ∙ subst (λ (k : ℕ). drop k (ys ++ zs) ≡ zs) len (drop-append_seam ys zs)

-- the inputs of some runs, which other runs come before, in a movie
pub inputs_at : (inputs : List Input) (front size : ℕ) (before runs after : List FrameRun) → flat_map run_inputs (before ++ runs ++ after) ≡ take size (drop front inputs)
    → take (frames runs) (drop (front + frames before) inputs) ≡ flat_map run_inputs runs
inputs_at inputs front size before runs after is =
    let rest : List Input = drop size (drop front inputs) in
    let first : List Input = flat_map run_inputs before in
    let these : List Input = flat_map run_inputs runs in
    let others : List Input = flat_map run_inputs after in
    let parts : flat_map run_inputs (before ++ runs ++ after) ≡ first ++ these ++ others =
    flat_map-append run_inputs (before ++ runs) after ∙ ap (λ (l : List Input). l ++ flat_map run_inputs after) (flat_map-append run_inputs before runs) in
    let whole : drop front inputs ≡ first ++ these ++ others ++ rest =
    sym (take-append-drop size (drop front inputs)) ∙ ap (λ (l : List Input). l ++ drop size (drop front inputs)) (sym is ∙ parts) in
    let there : drop (front + frames before) inputs ≡ these ++ (others ++ rest) =
    sym (drop-drop (frames before) front inputs)
    ∙ dropped (frames before) (drop front inputs) first (these ++ (others ++ rest))
    (whole ∙ append_assoc (first ++ these) others rest ∙ append_assoc first these (others ++ rest)) refl in
    taken (frames runs) (drop (front + frames before) inputs) these (others ++ rest) there refl

-- ---- the runs of the inputs from a place on

pub next_run : (xs : List Input) (at n : ℕ) → at < length xs → take n (take (length xs - (at + 1)) (drop (at + 1) xs)) ≡ replicate n (get_or xs at no_input)
    → (n < length (take (length xs - (at + 1)) (drop (at + 1) xs)) → slice_get (take (length xs - (at + 1)) (drop (at + 1) xs)) n ≡ Some (get_or xs at no_input) → ⊥)
    → runs_of (drop at xs) ≡ record { input = get_or xs at no_input; count = 1 + n } ∷ runs_of (drop (at + (1 + n)) xs)
next_run xs at n lt same longest =
    let input : Input = get_or xs at no_input in
    let rest : List Input = drop (at + 1) xs in
    let same' : take n rest ≡ replicate n input = ap (take n) (sym (take_rest xs (at + 1))) ∙ same in
    let longest' : n < length rest → slice_get rest n ≡ Some input → ⊥ = subst (λ (l : List Input). n < length l → slice_get l n ≡ Some (get_or xs at no_input) → ⊥) (take_rest xs (at + 1)) longest in
    let split : runs_of (input ∷ rest) ≡ record { input = input; count = suc n } ∷ runs_of (drop (suc n) (input ∷ rest)) =
    runs_split (input ∷ rest) input (suc n) (omega arith) (ap (λ (l : List Input). input ∷ l) same') (λ below here. longest' (omega (arith, below)) here) in
    let onward : at + 1 + n ≡ at + (1 + n) = omega arith in
    let count : suc n ≡ 1 + n = omega arith in
    ap runs_of (drop_more xs at no_input lt) ∙ split
    ∙ ap (λ (l : List Input). let run : FrameRun = record { input = input; count = suc n } in run ∷ runs_of l) (drop-drop n (at + 1) xs ∙ ap (λ (k : ℕ). drop k xs) onward)
    ∙ ap (λ (k : ℕ). let run : FrameRun = record { input = input; count = k } in run ∷ runs_of (drop (at + (1 + n)) xs)) count

pub no_runs : (xs : List Input) (at : ℕ) → length xs ≤ at → runs_of (drop at xs) ≡ []
unfolding runs_of
no_runs xs at le = ap runs_of (drop_all at xs le)

pub frames_inside : (i n : ℕ) (runs : List FrameRun) → frames (take i runs) + frames (take n (drop i runs)) ≤ frames runs
frames_inside i n runs = omega (arith, frames_parts i runs, frames_within n (drop i runs))
