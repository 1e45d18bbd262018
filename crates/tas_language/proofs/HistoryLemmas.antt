-- The lines of a history: how they are put together, and that they make what its edits make.
use Rattle.std.proofs.Common.{◌≡◌, ℕ, ◌+◌, ◌*◌, ◌<◌, ◌≤◌, Bool, cond, true, false, List, [], ◌∷◌, ◌++◌, length, take, drop, get_or, Some, None, refl, sym, ap, subst, ◌∙◌, arith, append_assoc}
use Rattle.std.specs.Prelude.{◌==◌, ◌||◌, replicate, slice_get, codes, decimal}
use Rattle.std.specs.List.{flat_map}
use Rattle.std.proofs.lemmas.Bool.{eqb-true, eq-eqb, ne_eqb}
use Rattle.std.proofs.lemmas.Fmt.{length-decimal-le}
use Rattle.std.proofs.lemmas.List.{append-nil, take-append-drop, length-append, length-replicate, length-drop, length-take-le, get_or-drop, drop-drop, drop_all}
use Rattle.byte_text.specs.Digits.{hex_byte}
use Rattle.vcs_inputs.specs.declared.input.Input.{Input}
use Rattle.tas_movie.specs.Content.{MovieContent, most_inputs}
use Rattle.tas_movie.specs.Edit.{edited, IsAllowed, spliced, length_refusal, insert_refusal, place_refusal}
use Rattle.tas_movie.specs.Runs.{run_inputs, runs_of}
use Rattle.tas_movie.specs.Text.{line, frame_text}
use Rattle.tas_movie.specs.declared.edit.Edit.{Edit}
use Rattle.tas_movie.specs.declared.edit.Edit.TheVariants as edit
use Rattle.tas_movie.specs.declared.run.FrameRun.{FrameRun}
use Rattle.tas_movie.proofs.EditLemmas.{place_within, insert_within, unrefused}
use Rattle.tas_movie.proofs.RunLemmas.{runs_made, runs_split, length-runs}
use Rattle.tas_movie.proofs.RunTextLemmas.{first_is, run_some}
use Rattle.tas_language.specs.declared.change.Change.{Change}
use Rattle.tas_language.specs.declared.change.Change.TheVariants.{Insert, Replace, Delete}
use Rattle.tas_language.specs.declared.command.Command.TheVariants.{Load, Edit as Edits}
use Rattle.tas_language.specs.declared.image.Image.TheVariants.{Large, Small}
use Rattle.tas_language.specs.declared.request.Request.TheVariants.{Do}
use Rattle.tas_language.specs.Commands.{IsNumber, HasNumbers, most_number, change_text, frames_text, image_bytes}
use Rattle.tas_language.specs.Edits.{EditContent, edit_of, edits_of, edited_by, AllowsAll}
use Rattle.tas_language.specs.History.{image_of, some_runs_of, commands_of_runs, edit_commands, load_text, command_text, edit_lines, run_lines, IsCartridge, LoadsCartridge, AreHeard}
use Rattle.tas_language.specs.Parts.{Part, AreParts, IsBytes, IsImageOf, hex_text, part_text, overwritten_by_all}
use Rattle.tas_language.specs.Requests.{IsHeard}
use Rattle.tas_language.proofs.MadeLemmas.{movie_of, cut, insert_allowed, replace_allowed, made_insert, made_replace, length_within}
use Rattle.tas_language.proofs.PartLemmas.{length-word_text}

abbrev pub whole : List ℕ → Part
whole image = record { offset = 0; bytes = image }

digits_same : (bytes : List ℕ) → flat_map hex_byte bytes ≡ hex_text bytes
unfolding hex_text
digits_same [] = refl
digits_same (b ∷ bytes) = ap (λ (l : List ℕ). hex_byte b ++ l) (digits_same bytes)

-- ---- the lines of runs

lines_of_runs : (prefix word : List ℕ) (change : ℕ → ℕ → Input → Change) (at : ℕ) (runs : List FrameRun)
    → ((place count : ℕ) (input : Input) → word ++ frames_text place count input ≡ change_text (change place count input))
    → run_lines prefix word at runs ≡ flat_map (λ command. line (prefix ++ command_text command)) (commands_of_runs change at runs)
lines_of_runs prefix word change at [] says = refl
lines_of_runs prefix word change at (run ∷ runs) says =
    ap (λ (l : List ℕ). line (prefix ++ l) ++ run_lines prefix word (at + run.count) runs) (says at run.count run.input)
    ∙ ap (λ (l : List ℕ). line (prefix ++ change_text (change at run.count run.input)) ++ l) (lines_of_runs prefix word change (at + run.count) runs says)

pub insert_lines : {A : Type 0} (prefix : List ℕ) (at : ℕ) (inputs : List Input) (made : Edit A) → made ≡ edit.Insert at inputs → run_lines prefix (codes "insert ") at (some_runs_of inputs) ≡ edit_lines prefix made
insert_lines prefix at inputs made is = lines_of_runs prefix (codes "insert ") Insert at (some_runs_of inputs) (λ place count input. refl) ∙ ap (edit_lines prefix) (sym is)

pub replace_lines : {A : Type 0} (prefix : List ℕ) (at : ℕ) (inputs : List Input) (made : Edit A) → made ≡ edit.Replace at inputs → run_lines prefix (codes "replace ") at (some_runs_of inputs) ≡ edit_lines prefix made
replace_lines prefix at inputs made is = lines_of_runs prefix (codes "replace ") Replace at (some_runs_of inputs) (λ place count input. refl) ∙ ap (edit_lines prefix) (sym is)

-- a run more is reported
pub run_told : (out now prefix word : List ℕ) (inputs rest : List Input) (at done n : ℕ) (i : Input) (all : List ℕ) → rest ≡ drop done inputs
    → 1 ≤ n → take n rest ≡ replicate n i → (n < length rest → slice_get rest n ≡ Some i → ⊥)
    → now ≡ out ++ line (prefix ++ (word ++ frames_text (at + done) n i))
    → out ++ run_lines prefix word (at + done) (runs_of (drop done inputs)) ≡ all
    → now ++ run_lines prefix word (at + (done + n)) (runs_of (drop (done + n) inputs)) ≡ all
run_told out now prefix word inputs rest at done n i all cut some same longest now-is is =
    let run : FrameRun = record { input = i; count = n } in
    let first : List ℕ = line (prefix ++ (word ++ frames_text (at + done) n i)) in
    let next : at + (done + n) ≡ at + done + n = omega arith in
    let further : drop (done + n) inputs ≡ drop n rest = sym (drop-drop n done inputs) ∙ ap (drop n) (sym cut) in
    ap (λ (x : List ℕ). x ++ run_lines prefix word (at + (done + n)) (runs_of (drop (done + n) inputs))) now-is
    ∙ append_assoc out first (run_lines prefix word (at + (done + n)) (runs_of (drop (done + n) inputs)))
    ∙ ap (λ (k : ℕ). out ++ (first ++ run_lines prefix word k (runs_of (drop (done + n) inputs)))) next
    ∙ ap (λ (l : List Input). out ++ (first ++ run_lines prefix word (at + done + n) (runs_of l))) further
    ∙ ap (λ (q : List FrameRun). out ++ run_lines prefix word (at + done) q) (sym (runs_split rest i n some same longest))
    ∙ ap (λ (l : List Input). out ++ run_lines prefix word (at + done) (runs_of l)) cut
    ∙ is

-- the run that begins at a place of a list has an input
pub run_begins : (xs rest : List Input) (k n : ℕ) (d : Input) → rest ≡ drop k xs → k < length xs → (n < length rest → slice_get rest n ≡ Some (get_or xs k d) → ⊥) → 1 ≤ n
run_begins xs rest k n d cut lt longest =
    let len = ap length cut in
    let some : length rest ≡ 0 → ⊥ = λ e. omega (arith, e, len, length-drop k xs, lt) in
    let none : k + 0 ≡ k = omega arith in
    let first : get_or rest 0 d ≡ get_or xs k d = ap (λ (l : List Input). get_or l 0 d) cut ∙ get_or-drop k xs 0 d ∙ ap (λ (j : ℕ). get_or xs j d) none in
    run_some rest (get_or xs k d) n (first_is rest d some ∙ ap Some first) some longest

pub all_told : (out prefix word : List ℕ) (inputs : List Input) (place done : ℕ) (whole : List ℕ) → length inputs ≤ done
    → out ++ run_lines prefix word place (runs_of (drop done inputs)) ≡ whole → out ≡ whole
unfolding runs_of
all_told out prefix word inputs place done whole end is =
    sym (append-nil out) ∙ ap (λ (l : List Input). out ++ run_lines prefix word place (runs_of l)) (sym (drop_all done inputs end)) ∙ is

-- where there are inputs, their lines are those of their runs
pub runs_some : (inputs : List Input) → (length inputs ≡ 0 → ⊥) → runs_of inputs ≡ some_runs_of inputs
runs_some [] some = absurd (some refl)
runs_some (input ∷ inputs) some = refl

-- a prefix and a line of a run are put together
pub run_put : (t0 t1 t2 t3 t4 t5 t6 t7 t8 prefix word frame : List ℕ) (at count : ℕ) (input : Input)
    → t1 ≡ t0 ++ prefix → t2 ≡ t1 ++ word → t3 ≡ t2 ++ decimal at → t4 ≡ t3 ++ 32 ∷ [] → t5 ≡ t4 ++ decimal count → t6 ≡ t5 ++ 32 ∷ [] → t7 ≡ t6 ++ frame → frame ≡ frame_text input → t8 ≡ t7 ++ 10 ∷ []
    → t8 ≡ t0 ++ line (prefix ++ (word ++ frames_text at count input))
run_put t0 t1 t2 t3 t4 t5 t6 t7 t8 prefix word frame at count input e1 e2 e3 e4 e5 e6 e7 is e8 = rw (e8, e7, e6, e5, e4, e3, e2, e1, is) (simp append_assoc)

-- a prefix and a line of an image are put together
load_put : (t0 t1 t2 t3 t4 t5 prefix word image digits : List ℕ) → t1 ≡ t0 ++ prefix → t2 ≡ t1 ++ word → t3 ≡ t2 ++ codes " 000=" → t4 ≡ t3 ++ digits → digits ≡ flat_map hex_byte image → t5 ≡ t4 ++ 10 ∷ []
    → t5 ≡ t0 ++ line (prefix ++ (word ++ part_text (whole image)))
load_put t0 t1 t2 t3 t4 t5 prefix word image digits e1 e2 e3 e4 is e5 = rw (e5, e4, e3, e2, e1, is, digits_same image) (simp append_assoc)

pub small_put : (t0 t1 t2 t2' t3 t4 t5 prefix image : List ℕ) → length image ≡ 2048 → t1 ≡ t0 ++ prefix → t2 ≡ t1 ++ codes "load" → t2' ≡ t2 ++ 50 ∷ [] → t3 ≡ t2' ++ codes " 000=" → t4 ≡ t3 ++ flat_map hex_byte image
    → t5 ≡ t4 ++ 10 ∷ [] → t5 ≡ t0 ++ line (prefix ++ load_text (image_of image))
small_put t0 t1 t2 t2' t3 t4 t5 prefix image is e1 e2 e2' e3 e4 e5 =
    load_put t0 t1 t2' t3 t4 t5 prefix (codes "load2") image (flat_map hex_byte image) e1 (e2' ∙ ap (λ (l : List ℕ). l ++ 50 ∷ []) e2 ∙ append_assoc t1 (codes "load") (50 ∷ [])) e3 e4 refl e5
    ∙ ap (λ (b : Bool). t0 ++ line (prefix ++ load_text (cond b (Small image) (Large image)))) (sym (eq-eqb (length image) 2048 is))

pub large_put : (t0 t1 t2 t2' t3 t4 t5 prefix image : List ℕ) → (length image ≡ 2048 → ⊥) → t1 ≡ t0 ++ prefix → t2 ≡ t1 ++ codes "load" → t2' ≡ t2 → t3 ≡ t2' ++ codes " 000=" → t4 ≡ t3 ++ flat_map hex_byte image
    → t5 ≡ t4 ++ 10 ∷ [] → t5 ≡ t0 ++ line (prefix ++ load_text (image_of image))
large_put t0 t1 t2 t2' t3 t4 t5 prefix image ne e1 e2 e2' e3 e4 e5 =
    load_put t0 t1 t2' t3 t4 t5 prefix (codes "load") image (flat_map hex_byte image) e1 (e2' ∙ e2) e3 e4 refl e5
    ∙ ap (λ (b : Bool). t0 ++ line (prefix ++ load_text (cond b (Small image) (Large image)))) (sym (ne_eqb (length image) 2048 ne))

-- ---- what lines make

abbrev Makes : MovieContent → List EditContent → MovieContent → Type 0
Makes old edits new = AllowsAll old edits × (edited_by old edits ≡ new)

-- one edit, and then others
makes_more : (old next new : MovieContent) (first : EditContent) (edits : List EditContent) → IsAllowed old first → edited old first ≡ next → Makes next edits new → Makes old (first ∷ edits) new
unfolding edited_by AllowsAll
makes_more old next new first edits may made rest =
    let then : Makes (edited old first) edits new = subst (λ (m : MovieContent). Makes m edits new) (sym made) rest in
    ((may, then.0), then.1)

makes_none : (old new : MovieContent) → old ≡ new → Makes old [] new
unfolding edited_by AllowsAll
makes_none old new same = (tt, same)

abbrev insertions : ℕ → List FrameRun → List EditContent
insertions at runs = flat_map edits_of (commands_of_runs Insert at runs)

abbrev replacements : ℕ → List FrameRun → List EditContent
replacements at runs = flat_map edits_of (commands_of_runs Replace at runs)

inserted : (cart : List ℕ) (p q : List Input) (runs : List FrameRun) → length p + length (flat_map run_inputs runs) + length q ≤ most_inputs
    → Makes (movie_of cart (p ++ q)) (insertions (length p) runs) (movie_of cart (p ++ flat_map run_inputs runs ++ q))
inserted cart p q [] le = makes_none (movie_of cart (p ++ q)) _ (ap (λ (l : List Input). movie_of cart (l ++ q)) (sym (append-nil p)))
inserted cart p q (run ∷ runs) le =
    let here : List Input = run_inputs run in
    let all = length-runs run runs in
    let both = length-append p q in
    let place : length (p ++ here) ≡ length p + run.count = length-append p here ∙ ap (λ (k : ℕ). length p + k) (length-replicate run.count run.input) in
    let may = insert_allowed cart (p ++ q) (length p) run.count run.input (omega (arith, both)) (omega (arith, both, all, le)) in
    let made = made_insert cart (p ++ q) (length p) run.count run.input may ∙ ap (movie_of cart) (cut 0 p here q) in
    let rest = inserted cart (p ++ here) q runs (omega (arith, place, all, le)) in
    let new : MovieContent = movie_of cart (p ++ here ++ flat_map run_inputs runs ++ q) in
    let moved = subst (λ (k : ℕ). Makes (movie_of cart (p ++ here ++ q)) (insertions k runs) new) place rest in
    let joined = ap (λ (l : List Input). movie_of cart (l ++ q)) (append_assoc p here (flat_map run_inputs runs)) in
    subst (λ (m : MovieContent). Makes (movie_of cart (p ++ q)) (insertions (length p) (run ∷ runs)) m) joined
    (makes_more (movie_of cart (p ++ q)) (movie_of cart (p ++ here ++ q)) new (edit_of (Insert (length p) run.count run.input)) (insertions (length p + run.count) runs) may made moved)

replaced : (cart : List ℕ) (p r : List Input) (runs : List FrameRun) → length (flat_map run_inputs runs) ≤ length r
    → Makes (movie_of cart (p ++ r)) (replacements (length p) runs) (movie_of cart (p ++ flat_map run_inputs runs ++ drop (length (flat_map run_inputs runs)) r))
replaced cart p r [] le = makes_none (movie_of cart (p ++ r)) _ (ap (λ (l : List Input). movie_of cart (l ++ r)) (sym (append-nil p)))
replaced cart p r (run ∷ runs) le =
    let here : List Input = run_inputs run in
    let later : List Input = flat_map run_inputs runs in
    let all = length-runs run runs in
    let place : length (p ++ here) ≡ length p + run.count = length-append p here ∙ ap (λ (k : ℕ). length p + k) (length-replicate run.count run.input) in
    let may = replace_allowed cart (p ++ r) (length p) run.count run.input (omega (arith, length-append p r, all, le)) in
    let made =
    made_replace cart (p ++ r) (length p) run.count run.input may
    ∙ ap (λ (k : ℕ). movie_of cart (spliced (length p) k here (p ++ r))) (length-replicate run.count run.input)
    ∙ ap (movie_of cart) (cut run.count p here r) in
    let rest = replaced cart (p ++ here) (drop run.count r) runs (omega (arith, length-drop run.count r, all, le)) in
    let new : MovieContent = movie_of cart (p ++ here ++ later ++ drop (length later) (drop run.count r)) in
    let moved = subst (λ (k : ℕ). Makes (movie_of cart (p ++ here ++ drop run.count r)) (replacements k runs) new) place rest in
    let joined =
    ap (λ (l : List Input). movie_of cart (l ++ drop (length later) (drop run.count r))) (append_assoc p here later)
    ∙ ap (λ (l : List Input). movie_of cart (p ++ (here ++ later) ++ l)) (drop-drop (length later) run.count r ∙ ap (λ (k : ℕ). drop k r) (sym all)) in
    subst (λ (m : MovieContent). Makes (movie_of cart (p ++ r)) (replacements (length p) (run ∷ runs)) m) joined
    (makes_more (movie_of cart (p ++ r)) (movie_of cart (p ++ here ++ drop run.count r)) new (edit_of (Replace (length p) run.count run.input)) (replacements (length p + run.count) runs) may made moved)

some_runs : (inputs : List Input) → flat_map run_inputs (some_runs_of inputs) ≡ inputs
some_runs [] = refl
some_runs (input ∷ inputs) = runs_made (input ∷ inputs)

insert_short : (len at count : ℕ) → insert_refusal len at count ≡ None → len + count ≤ most_inputs
insert_short len at count none = length_within len (len + count) (unrefused (place_refusal len at at) (length_refusal len (len + count)) none).1

insertion_made : (A : Type 0) (movie : MovieContent) (at : ℕ) (inputs : List Input) → insert_refusal (length movie.inputs) at (length inputs) ≡ None
    → Makes movie (insertions at (some_runs_of inputs)) (edited {A = A} movie (edit.Insert at inputs))
insertion_made A movie at inputs is =
    let le = insert_within (length movie.inputs) at (length inputs) is in
    let few = insert_short (length movie.inputs) at (length inputs) is in
    let p : List Input = take at movie.inputs in
    let q : List Input = drop at movie.inputs in
    let here : length p ≡ at = length-take-le at movie.inputs le in
    let runs : List FrameRun = some_runs_of inputs in
    let all : length (flat_map run_inputs runs) ≡ length inputs = ap length (some_runs inputs) in
    let none : at + 0 ≡ at = omega arith in
    let made = inserted movie.cart p q runs (omega (arith, here, length-drop at movie.inputs, all, few, le)) in
    let there = subst (λ (k : ℕ). Makes (movie_of movie.cart (p ++ q)) (insertions k runs) (movie_of movie.cart (p ++ flat_map run_inputs runs ++ q))) here made in
    let whole = subst (λ (l : List Input). Makes (movie_of movie.cart l) (insertions at runs) (movie_of movie.cart (p ++ flat_map run_inputs runs ++ q))) (take-append-drop at movie.inputs) there in
    let told = subst (λ (l : List Input). Makes movie (insertions at runs) (movie_of movie.cart (p ++ l ++ q))) (some_runs inputs) whole in
    let new : movie_of movie.cart (p ++ inputs ++ q) ≡ edited {A = A} movie (edit.Insert at inputs) = rw is (ap (λ (k : ℕ). movie_of movie.cart (p ++ inputs ++ drop k movie.inputs)) (sym none)) in
    subst (λ (m : MovieContent). Makes movie (insertions at runs) m) new told

replacement_made : (A : Type 0) (movie : MovieContent) (at : ℕ) (inputs : List Input) → place_refusal (length movie.inputs) at (at + length inputs) ≡ None
    → Makes movie (replacements at (some_runs_of inputs)) (edited {A = A} movie (edit.Replace at inputs))
replacement_made A movie at inputs is =
    let le = place_within (length movie.inputs) at (at + length inputs) is in
    let p : List Input = take at movie.inputs in
    let r : List Input = drop at movie.inputs in
    let here : length p ≡ at = length-take-le at movie.inputs (omega (arith, le)) in
    let runs : List FrameRun = some_runs_of inputs in
    let all : length (flat_map run_inputs runs) ≡ length inputs = ap length (some_runs inputs) in
    let made = replaced movie.cart p r runs (omega (arith, length-drop at movie.inputs, all, le)) in
    let there = subst (λ (k : ℕ). Makes (movie_of movie.cart (p ++ r)) (replacements k runs) (movie_of movie.cart (p ++ flat_map run_inputs runs ++ drop (length (flat_map run_inputs runs)) r))) here made in
    let whole = subst (λ (l : List Input). Makes (movie_of movie.cart l) (replacements at runs) (movie_of movie.cart (p ++ flat_map run_inputs runs ++ drop (length (flat_map run_inputs runs)) r))) (take-append-drop at movie.inputs) there in
    let told = subst (λ (l : List Input). Makes movie (replacements at runs) (movie_of movie.cart (p ++ l ++ drop (length l) r))) (some_runs inputs) whole in
    let new : movie_of movie.cart (p ++ inputs ++ drop (length inputs) r) ≡ edited {A = A} movie (edit.Replace at inputs) =
    rw is (ap (λ (l : List Input). movie_of movie.cart (p ++ inputs ++ l)) (drop-drop (length inputs) at movie.inputs)) in
    subst (λ (m : MovieContent). Makes movie (replacements at runs) m) new told

-- an image's bytes, whatever its size
same_bytes : (cart : List ℕ) → image_bytes (image_of cart) ≡ cart
same_bytes cart = go (length cart == 2048)
  where
    go : (small : Bool) → image_bytes (cond small (Small cart) (Large cart)) ≡ cart
    go true = refl
    go false = refl

pub edit_made : {A : Type 0} (movie : MovieContent) (edit : Edit A) → IsAllowed movie edit → Makes movie (flat_map edits_of (edit_commands edit)) (edited movie edit)
unfolding edited_by AllowsAll
edit_made {A} movie (edit.Load cart) is = ((refl, tt), ap (λ (bytes : List ℕ). movie_of bytes movie.inputs) (same_bytes cart))
edit_made {A} movie (edit.Insert at inputs) is = insertion_made A movie at inputs is
edit_made {A} movie (edit.Replace at inputs) is = replacement_made A movie at inputs is
edit_made {A} movie (edit.Delete at count) is = ((is, tt), rw is refl)

-- ---- what lines say

length_number : (n : ℕ) → IsNumber n → length (decimal n) ≤ 7
length_number n small = length-decimal-le 7 n (omega arith) (omega (arith, small)) (omega (arith, small))

length_frames : (at count : ℕ) (input : Input) → IsNumber at → IsNumber count → length (frames_text at count input) ≤ 33
length_frames at count input la lc =
    let a = length_number at la in
    let c = length_number count lc in
    let front = length-append (decimal at) (32 ∷ (decimal count ++ 32 ∷ frame_text input)) in
    let back = length-append (decimal count) (32 ∷ frame_text input) in
    omega (arith, a, c, front, back)

heard_change : (change : Change) → HasNumbers change → IsHeard (change_text change) (Some (Do (Edits change)))
heard_change (Insert at count input) small = let l = length_frames at count input small.0 small.1 in (omega (arith, l), (refl, small))
heard_change (Replace at count input) small = let l = length_frames at count input small.0 small.1 in (omega (arith, l), (refl, small))
heard_change (Delete at count) small =
    let a = length_number at small.0 in
    let c = length_number count small.1 in
    (omega (arith, a, c, length-append (decimal at) (32 ∷ decimal count)), (refl, small))

heard_runs : (change : ℕ → ℕ → Input → Change) (at : ℕ) (runs : List FrameRun) → ((place count : ℕ) (input : Input) → IsNumber place → IsNumber count → HasNumbers (change place count input))
    → at + length (flat_map run_inputs runs) ≤ most_number → AreHeard (commands_of_runs change at runs)
unfolding AreHeard
heard_runs change at [] numbers le = tt
heard_runs change at (run ∷ runs) numbers le =
    let all = length-runs run runs in
    let has = numbers at run.count run.input (omega (arith, all, le)) (omega (arith, all, le)) in
    (heard_change (change at run.count run.input) has, heard_runs change (at + run.count) runs numbers (omega (arith, all, le)))

whole_image : (size : ℕ) (image : List ℕ) → length image ≡ size → 0 < size → IsBytes image → IsImageOf size (part_text (whole image)) image
unfolding AreParts overwritten_by_all
whole_image size image is some bytes =
    let byte : ℕ = 0 in
    let zeros : List ℕ = replicate size byte in
    let none : drop (0 + length image) zeros ≡ [] = drop_all (0 + length image) zeros (omega (arith, length-replicate size byte, is)) in
    record {
      parts = whole image ∷ [];
      some = omega arith;
      are_parts = (record { some = omega (arith, is, some); within = omega (arith, is); bytes = bytes }, tt);
      text = sym (append-nil (part_text (whole image)));
      image_is = sym (append-nil image) ∙ ap (λ (l : List ℕ). image ++ l) (sym none);
    }

length_part : (image : List ℕ) → length (part_text (whole image)) ≡ 5 + 2 * length image
length_part image = let l = length-word_text (whole image) in omega (arith, l)

heard_small : (cart : List ℕ) → length cart ≡ 2048 → IsBytes cart → IsHeard (load_text (Small cart)) (Some (Do (Load (Small cart))))
heard_small cart is bytes =
    let l = length_part cart in
    (omega (arith, l, is), (part_text (whole cart), refl, whole_image 2048 cart is (omega arith) bytes))

heard_large : (cart : List ℕ) → length cart ≡ 4096 → IsBytes cart → IsHeard (load_text (Large cart)) (Some (Do (Load (Large cart))))
heard_large cart is bytes =
    let l = length_part cart in
    (omega (arith, l, is), (part_text (whole cart), refl, whole_image 4096 cart is (omega arith) bytes))

heard_load : (cart : List ℕ) → IsCartridge cart → IsHeard (load_text (image_of cart)) (Some (Do (Load (image_of cart))))
heard_load cart is = go (length cart == 2048) refl is.0
  where
    go : (small : Bool) → (length cart == 2048) ≡ small → (small || (length cart == 4096)) ≡ true
        → IsHeard (load_text (cond small (Small cart) (Large cart))) (Some (Do (Load (cond small (Small cart) (Large cart)))))
    go true is-small size = heard_small cart (eqb-true (length cart) 2048 is-small) is.1
    go false is-large size = heard_large cart (eqb-true (length cart) 4096 size) is.1

pub edit_heard : {A : Type 0} (movie : MovieContent) (edit : Edit A) → length movie.inputs ≤ most_inputs → IsAllowed movie edit → LoadsCartridge edit → AreHeard (edit_commands edit)
unfolding AreHeard
edit_heard movie (edit.Load cart) few is loads = (heard_load cart loads, tt)
edit_heard movie (edit.Insert at inputs) few is loads =
    let le = insert_within (length movie.inputs) at (length inputs) is in
    let short = insert_short (length movie.inputs) at (length inputs) is in
    let all : length (flat_map run_inputs (some_runs_of inputs)) ≡ length inputs = ap length (some_runs inputs) in
    heard_runs Insert at (some_runs_of inputs) (λ place count input p c. (p, c)) (omega (arith, le, short, all))
edit_heard movie (edit.Replace at inputs) few is loads =
    let le = place_within (length movie.inputs) at (at + length inputs) is in
    let all : length (flat_map run_inputs (some_runs_of inputs)) ≡ length inputs = ap length (some_runs inputs) in
    heard_runs Replace at (some_runs_of inputs) (λ place count input p c. (p, c)) (omega (arith, le, few, all))
edit_heard movie (edit.Delete at count) few is loads =
    let le = place_within (length movie.inputs) at (at + count) is in
    (heard_change (Delete at count) (omega (arith, le, few), omega (arith, le, few)), tt)
