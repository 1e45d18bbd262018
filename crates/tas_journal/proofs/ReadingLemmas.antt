-- Reading the frames of an entry.
use Rattle.std.proofs.Common.{◌≡◌, ℕ, ◌+◌, ◌<◌, ◌≤◌, ◌^◌, Bool, true, false, cond, List, [], ◌∷◌, ◌++◌, length, get_or, take, drop, Option, Some, None, refl, sym, ap, subst, ◌∙◌, arith, append_assoc}
use Rattle.std.specs.Prelude.{◌==◌, codes, decimal, replicate, Result, Ok, Err, IfOk, IfSome, IfNone}
use Rattle.std.specs.List.{flat_map}
use Rattle.std.proofs.lemmas.Bool.{eqb-true, false≢true}
use Rattle.std.proofs.lemmas.Fmt.{decimal_injective}
use Rattle.std.proofs.lemmas.List.{append-nil, append_cancel_left, length-append, take-append-drop}
use Rattle.byte_text.specs.Splitting.{NoByte}
use Rattle.byte_text.proofs.SplitLemmas.{same_front}
use Rattle.vcs_inputs.specs.declared.input.Input.{Input}
use Rattle.tas_movie.specs.Content.{MovieContent, most_inputs}
use Rattle.tas_movie.specs.Fault.{shown_input}
use Rattle.tas_movie.specs.Runs.{run_inputs}
use Rattle.tas_movie.specs.Text.{frame_text}
use Rattle.tas_movie.specs.declared.edit.Edit.{Edit}
use Rattle.tas_movie.specs.declared.edit.Edit.TheVariants as edit
use Rattle.tas_movie.specs.declared.run.FrameRun.{FrameRun}
use Rattle.tas_movie.proofs.RunLemmas.{runs_made, length-runs}
use Rattle.tas_movie.proofs.TextLemmas.{input_read}
use Rattle.tas_language.specs.declared.change.Change.TheVariants as change
use Rattle.tas_language.specs.declared.command.Command.{Command}
use Rattle.tas_language.specs.declared.command.Command.TheVariants as command
use Rattle.tas_language.specs.declared.image.Image.TheVariants.{Large, Small}
use Rattle.tas_language.specs.Commands.{IsNumber, Says, image_bytes, pair_text}
use Rattle.tas_language.specs.History.{some_runs_of, image_of, load_text, IsCartridge, LoadsCartridge, AreHeard}
use Rattle.tas_language.proofs.HistoryLemmas.{edit_heard}
use Rattle.tas_language.proofs.OneCommand.{one_command, number_before, number_same}
use Rattle.tas_language.proofs.WordLemmas.{number_first, decimal_no_space}
use Rattle.tas_journal.specs.Recovery.{IsEntry}
use Rattle.tas_journal.specs.Text.{run_words, frames_words, edit_text, entry_front, entry_text, edit_of_command, Fits, FitsInLine, IsSeat}

-- ---- one run

-- what stands after a run's first space
pub run_cut : (text words word letters r : List ℕ) (run : FrameRun) → text ≡ 32 ∷ words → words ≡ word ++ 32 ∷ letters → NoByte 32 word → IsNumber run.count → text ≡ run_words run ++ r
    → (word ≡ decimal run.count) × (letters ≡ frame_text run.input ++ r)
run_cut text words word letters r run is cut none small said =
    let tail : words ≡ decimal run.count ++ 32 ∷ (frame_text run.input ++ r) = ap (drop 1) (sym is ∙ said) ∙ append_assoc (decimal run.count) (32 ∷ frame_text run.input) r in
    number_first words word letters (frame_text run.input ++ r) run.count cut none small tail

pub words_after : (text words r : List ℕ) (run : FrameRun) → text ≡ 32 ∷ words → text ≡ run_words run ++ r → words ≡ decimal run.count ++ 32 ∷ (frame_text run.input ++ r)
words_after text words r run is said = ap (drop 1) (sym is ∙ said) ∙ append_assoc (decimal run.count) (32 ∷ frame_text run.input) r

pub run_is : (text words word letters frame rest : List ℕ) (i : Input) (n : ℕ) → text ≡ 32 ∷ words → words ≡ word ++ 32 ∷ letters → word ≡ decimal n → frame ≡ take 17 letters → rest ≡ drop 17 letters → frame ≡ frame_text i
    → text ≡ run_words (record { input = i; count = n }) ++ rest
run_is text words word letters frame rest i n is cut number front back letters-is =
    let joined : letters ≡ frame_text i ++ rest =
    sym (take-append-drop 17 letters) ∙ ap (λ (x : List ℕ). x ++ drop 17 letters) (sym front ∙ letters-is) ∙ ap (λ (x : List ℕ). frame_text i ++ x) (sym back) in
    is ∙ ap (λ (l : List ℕ). 32 ∷ l)
    (cut ∙ ap (λ (l : List ℕ). l ++ 32 ∷ letters) number ∙ ap (λ (l : List ℕ). decimal n ++ 32 ∷ l) joined ∙ sym (append_assoc (decimal n) (32 ∷ frame_text i) rest))

-- the letters of a frame
pub frame_cut : (letters frame r : List ℕ) (i : Input) → letters ≡ frame_text i ++ r → frame ≡ take 17 letters → frame ≡ frame_text i
frame_cut letters frame r i is front = front ∙ ap (take 17) is

pub frame_long : (letters r : List ℕ) (i : Input) → letters ≡ frame_text i ++ r → 17 ≤ length letters
frame_long letters r i is = let e = ap length is in omega (arith, e, length-append (frame_text i) r)

run_by_fields : (i j : Input) (m n : ℕ) → i ≡ j → m ≡ n → ◌≡◌ {A = FrameRun} (record { input = i; count = m }) (record { input = j; count = n })
run_by_fields i j m n p q = cc

-- a text begins with one run
pub run_same : (a b : FrameRun) (x y : List ℕ) → IsNumber a.count → IsNumber b.count → run_words a ++ x ≡ run_words b ++ y → (a ≡ b) × (x ≡ y)
run_same a b x y small less e =
    let tails : decimal a.count ++ 32 ∷ (frame_text a.input ++ x) ≡ decimal b.count ++ 32 ∷ (frame_text b.input ++ y) =
    sym (append_assoc (decimal a.count) (32 ∷ frame_text a.input) x) ∙ ap (drop 1) e ∙ append_assoc (decimal b.count) (32 ∷ frame_text b.input) y in
    let both = number_before a.count b.count (frame_text a.input ++ x) (frame_text b.input ++ y) small less tails in
    let input : a.input ≡ b.input = sym (input_read a.input x) ∙ ap shown_input both.1 ∙ input_read b.input y in
    let rest : x ≡ y = ap (drop 17) both.1 in
    (run_by_fields a.input b.input a.count b.count input both.0, rest)

pub none_some : {X : Type 0} (x : X) → ◌≡◌ {A = Option X} None (Some x) → ⊥
none_some x e = cc

-- ---- runs, one after the other

pub some_runs : (inputs : List Input) → flat_map run_inputs (some_runs_of inputs) ≡ inputs
some_runs [] = refl
some_runs (input ∷ inputs) = runs_made (input ∷ inputs)

-- these are the further inputs where the list has those before them
abbrev pub Remain : List Input → List Input → List ℕ → Type 0
Remain inputs list rest = (more : List FrameRun) × ((rest ≡ flat_map run_words more) × (inputs ≡ list ++ flat_map run_inputs more))

pub remain_first : (inputs : List Input) (text : List ℕ) → text ≡ frames_words inputs → Remain inputs [] text
remain_first inputs text is = (some_runs_of inputs, (is, sym (some_runs inputs)))

count_small : (inputs list : List Input) (r : FrameRun) (more : List FrameRun) → length inputs ≤ most_inputs → inputs ≡ list ++ flat_map run_inputs (r ∷ more) → length list + r.count ≤ length inputs
count_small inputs list r more few all =
    let e = ap length all in
    omega (arith, e, length-append list (flat_map run_inputs (r ∷ more)), length-runs r more)

pub remain_step : (inputs list : List Input) (rest after : List ℕ) (run : FrameRun) → length inputs ≤ most_inputs → rest ≡ run_words run ++ after → IsNumber run.count → Remain inputs list rest
    → (length list + run.count ≤ length inputs) × Remain inputs (list ++ run_inputs run) after
remain_step inputs list rest after run few is small left = go left.0 left.1.0 left.1.1
  where
    go : (more : List FrameRun) → rest ≡ flat_map run_words more → inputs ≡ list ++ flat_map run_inputs more → (length list + run.count ≤ length inputs) × Remain inputs (list ++ run_inputs run) after
    go [] e all = let n = ap length (sym is ∙ e) in absurd (omega (arith, n))
    go (r ∷ more) e all =
        let fits = count_small inputs list r more few all in
        let both = run_same run r after (flat_map run_words more) small (omega (arith, fits, few)) (sym is ∙ e) in
        subst (λ (q : FrameRun). (length list + q.count ≤ length inputs) × Remain inputs (list ++ run_inputs q) after) (sym both.0)
        (fits, (more, (both.1, all ∙ sym (append_assoc list (run_inputs r) (flat_map run_inputs more)))))

pub remain_none : (inputs list : List Input) (rest : List ℕ) → length inputs ≤ most_inputs → (length rest ≡ 0 → ⊥) → ((run : FrameRun) (after : List ℕ) → IsNumber run.count → rest ≡ run_words run ++ after → ⊥) → Remain inputs list rest → ⊥
remain_none inputs list rest few some never left = go left.0 left.1.0 left.1.1
  where
    go : (more : List FrameRun) → rest ≡ flat_map run_words more → inputs ≡ list ++ flat_map run_inputs more → ⊥
    go [] e all = some (ap length e)
    go (r ∷ more) e all =
        let fits = count_small inputs list r more few all in
        never r (flat_map run_words more) (omega (arith, fits, few)) e

pub remain_end : (inputs list : List Input) (rest : List ℕ) → length rest ≡ 0 → Remain inputs list rest → list ≡ inputs
remain_end inputs list rest none left = go left.0 left.1.0 left.1.1
  where
    go : (more : List FrameRun) → rest ≡ flat_map run_words more → inputs ≡ list ++ flat_map run_inputs more → list ≡ inputs
    go [] e all = sym (append-nil list) ∙ sym all
    go (r ∷ more) e all = let n = ap length e in absurd (omega (arith, n, none))

-- ---- a place

-- the runs of some frames begin with a space
pub frames_begin : (inputs : List Input) → (tail : List ℕ) × (frames_words inputs ≡ 32 ∷ tail)
frames_begin inputs = go (some_runs_of inputs) refl
  where
    empty : (inputs : List Input) → length inputs ≡ 0 → some_runs_of inputs ≡ [] → ⊥
    empty [] none e = let n = ap length e in omega (arith, n)
    empty (i ∷ is) none e = absurd (omega (arith, none))

    go : (runs : List FrameRun) → some_runs_of inputs ≡ runs → (tail : List ℕ) × (frames_words inputs ≡ 32 ∷ tail)
    go [] e = absurd (empty inputs (sym (ap length (sym (ap (flat_map run_inputs) e) ∙ some_runs inputs))) e)
    go (r ∷ runs) e = ((decimal r.count ++ 32 ∷ frame_text r.input) ++ flat_map run_words runs, ap (flat_map run_words) e)

-- a place's digits end at the first space
pub place_cut : (text word second : List ℕ) (at : ℕ) (inputs : List Input) → text ≡ word ++ 32 ∷ second → NoByte 32 word → IsNumber at → text ≡ decimal at ++ frames_words inputs → (word ≡ decimal at) × (32 ∷ second ≡ frames_words inputs)
place_cut text word second at inputs cut none small is =
    let begun = frames_begin inputs in
    let both = number_first text word second begun.0 at cut none small (is ∙ ap (λ (l : List ℕ). decimal at ++ l) begun.1) in
    (both.0, ap (λ (l : List ℕ). 32 ∷ l) both.1 ∙ sym begun.1)

pub place_spaced : (text : List ℕ) (at : ℕ) (inputs : List Input) → text ≡ decimal at ++ frames_words inputs → (second : List ℕ) × (text ≡ decimal at ++ 32 ∷ second)
place_spaced text at inputs is =
    let begun = frames_begin inputs in
    (begun.0, is ∙ ap (λ (l : List ℕ). decimal at ++ l) begun.1)

-- ---- an edit

-- the command that loads a cartridge is what its text says
pub loads_said : (cart : List ℕ) → IsCartridge cart → Says (load_text (image_of cart)) (command.Load (image_of cart))
unfolding AreHeard
loads_said cart is =
    let blank : MovieContent = record { cart = []; inputs = [] } in
    (edit_heard {A = Unit {0}} blank (edit.Load cart) (omega arith) refl is).0.1

pub same_bytes : (cart : List ℕ) → image_bytes (image_of cart) ≡ cart
same_bytes cart = go (length cart == 2048)
  where
    go : (small : Bool) → image_bytes (cond small (Small cart) (Large cart)) ≡ cart
    go true = refl
    go false = refl

-- the edit that loads these bytes
abbrev pub loaded : (A : Type 0) → List ℕ → Option (Edit A)
loaded A bytes = Some (edit.Load bytes)

pub load_read : (A : Type 0) (found : Option (Edit A)) (text cart : List ℕ) (said : Command) → Says text said → found ≡ edit_of_command A said → IsCartridge cart → text ≡ load_text (image_of cart) → found ≡ Some (edit.Load cart)
load_read A found text cart said is found-is cartridge text-is =
    let same : said ≡ command.Load (image_of cart) = one_command text said (command.Load (image_of cart)) is (subst (λ (l : List ℕ). Says l (command.Load (image_of cart))) (sym text-is) (loads_said cart cartridge)) in
    found-is ∙ ap (edit_of_command A) same ∙ ap (loaded A) (same_bytes cart)

pub no_load : (text cart : List ℕ) → ((said : Command) → Says text said → ⊥) → IsCartridge cart → text ≡ load_text (image_of cart) → ⊥
no_load text cart never cartridge is = never (command.Load (image_of cart)) (subst (λ (l : List ℕ). Says l (command.Load (image_of cart))) (sym is) (loads_said cart cartridge))

pub delete_read : (A : Type 0) (found : Option (Edit A)) (text : List ℕ) (at count : ℕ) (said : Command) → Says text said → found ≡ edit_of_command A said → IsNumber at → IsNumber count → text ≡ codes "delete " ++ pair_text at count → found ≡ Some (edit.Delete at count)
delete_read A found text at count said is found-is small less text-is =
    let same : said ≡ command.Edit (change.Delete at count) = one_command text said (command.Edit (change.Delete at count)) is (text-is, (small, less)) in
    found-is ∙ ap (edit_of_command A) same

pub load_first : (cart : List ℕ) → get_or (load_text (image_of cart)) 0 0 ≡ 108
load_first cart = go (length cart == 2048)
  where
    go : (small : Bool) → get_or (load_text (cond small (Small cart) (Large cart))) 0 0 ≡ 108
    go true = refl
    go false = refl

first_letter : (text other : List ℕ) (a b : ℕ) → text ≡ other → get_or text 0 0 ≡ a → get_or other 0 0 ≡ b → (a ≡ b → ⊥) → ⊥
first_letter text other a b is e f ne = ne (sym e ∙ ap (λ (l : List ℕ). get_or l 0 0) is ∙ f)

-- what an edit is whose text begins with `insert`
pub insert_read : {A : Type 0} (found : Option (Edit A)) (text rest : List ℕ) (asked : Edit A) → Fits asked → text ≡ codes "insert " ++ rest → text ≡ edit_text asked
    → ((at : ℕ) (inputs : List Input) → IsNumber at → length inputs ≤ most_inputs → rest ≡ decimal at ++ frames_words inputs → found ≡ Some (edit.Insert at inputs)) → found ≡ Some asked
insert_read found text rest (edit.Load cart) fits is said read = absurd (first_letter _ _ 105 108 (sym is ∙ said) refl (load_first cart) (λ e. omega (arith, e)))
insert_read found text rest (edit.Insert at inputs) fits is said read = read at inputs fits.0 fits.1 (append_cancel_left (codes "insert ") rest (decimal at ++ frames_words inputs) (sym is ∙ said))
insert_read found text rest (edit.Replace at inputs) fits is said read = absurd (first_letter _ _ 105 114 (sym is ∙ said) refl refl (λ e. omega (arith, e)))
insert_read found text rest (edit.Delete at count) fits is said read = absurd (first_letter _ _ 105 100 (sym is ∙ said) refl refl (λ e. omega (arith, e)))

-- what an edit is whose text begins with `replace`
pub replace_read : {A : Type 0} (found : Option (Edit A)) (text rest : List ℕ) (asked : Edit A) → Fits asked → text ≡ codes "replace " ++ rest → text ≡ edit_text asked
    → ((at : ℕ) (inputs : List Input) → IsNumber at → length inputs ≤ most_inputs → rest ≡ decimal at ++ frames_words inputs → found ≡ Some (edit.Replace at inputs)) → found ≡ Some asked
replace_read found text rest (edit.Load cart) fits is said read = absurd (first_letter _ _ 114 108 (sym is ∙ said) refl (load_first cart) (λ e. omega (arith, e)))
replace_read found text rest (edit.Insert at inputs) fits is said read = absurd (first_letter _ _ 114 105 (sym is ∙ said) refl refl (λ e. omega (arith, e)))
replace_read found text rest (edit.Replace at inputs) fits is said read = read at inputs fits.0 fits.1 (append_cancel_left (codes "replace ") rest (decimal at ++ frames_words inputs) (sym is ∙ said))
replace_read found text rest (edit.Delete at count) fits is said read = absurd (first_letter _ _ 114 100 (sym is ∙ said) refl refl (λ e. omega (arith, e)))

-- what an edit is whose text begins with neither
pub other_read : {A : Type 0} (found : Option (Edit A)) (text : List ℕ) (asked : Edit A) → Fits asked → ((rest : List ℕ) → text ≡ codes "insert " ++ rest → ⊥) → ((rest : List ℕ) → text ≡ codes "replace " ++ rest → ⊥) → text ≡ edit_text asked
    → ((cart : List ℕ) → IsCartridge cart → text ≡ load_text (image_of cart) → found ≡ Some (edit.Load cart))
    → ((at count : ℕ) → IsNumber at → IsNumber count → text ≡ codes "delete " ++ pair_text at count → found ≡ Some (edit.Delete at count)) → found ≡ Some asked
other_read found text (edit.Load cart) fits never none said load delete = load cart fits said
other_read found text (edit.Insert at inputs) fits never none said load delete = absurd (never (decimal at ++ frames_words inputs) said)
other_read found text (edit.Replace at inputs) fits never none said load delete = absurd (none (decimal at ++ frames_words inputs) said)
other_read found text (edit.Delete at count) fits never none said load delete = delete at count fits.0 fits.1 said

pub fits_whole : {A : Type 0} (asked : Edit A) → FitsInLine asked → LoadsCartridge asked → Fits asked
fits_whole (edit.Load cart) fits loads = loads
fits_whole (edit.Insert at inputs) fits loads = fits
fits_whole (edit.Replace at inputs) fits loads = fits
fits_whole (edit.Delete at count) fits loads = fits

-- ---- a seat and an edit

pub past_seats : (n m : ℕ) (word : List ℕ) → word ≡ decimal m → m < 2 ^ 64 → 4294967295 < m → n < 2 ^ 32 → word ≡ decimal n → ⊥
past_seats n m word is lt over small same =
    let e : n ≡ m = decimal_injective n m (omega (arith, small)) lt (sym same ∙ is) in
    omega (arith, e)

-- what follows the number of an entry
pub entry_rest : (A : Type 0) (number seat : ℕ) (said rest : List ℕ) (asked : Edit A) → said ≡ decimal number ++ 32 ∷ rest → said ≡ entry_text number seat asked → rest ≡ decimal seat ++ 32 ∷ edit_text asked
entry_rest A number seat said rest asked is said-is =
    let whole : entry_text number seat asked ≡ decimal number ++ 32 ∷ (decimal seat ++ 32 ∷ edit_text asked) = entry_parts number seat (edit_text asked) in
    let tails : 32 ∷ rest ≡ 32 ∷ (decimal seat ++ 32 ∷ edit_text asked) = append_cancel_left (decimal number) (32 ∷ rest) _ (sym is ∙ said-is ∙ whole) in
    ap (drop 1) tails
  where
    entry_parts : (number seat : ℕ) (text : List ℕ) → entry_front number seat ++ text ≡ decimal number ++ 32 ∷ (decimal seat ++ 32 ∷ text)
    entry_parts number seat text = simp append_assoc

-- the seat and the edit of an entry
pub seat_cut : (A : Type 0) (rest word text : List ℕ) (seat : ℕ) (asked : Edit A) → rest ≡ word ++ 32 ∷ text → NoByte 32 word → IsSeat seat → rest ≡ decimal seat ++ 32 ∷ edit_text asked → (word ≡ decimal seat) × (text ≡ edit_text asked)
seat_cut A rest word text seat asked cut none small is = same_front 32 word (decimal seat) text (edit_text asked) none (decimal_no_space seat (omega (arith, small))) (sym cut ∙ is)

-- lists of one length are the beginning of one list
pub same_long : (a b x y : List ℕ) → length a ≡ length b → a ++ x ≡ b ++ y → (a ≡ b) × (x ≡ y)
same_long [] [] x y n e = (refl, e)
same_long [] (k ∷ b) x y n e = absurd (omega (arith, n))
same_long (k ∷ a) [] x y n e = absurd (omega (arith, n))
same_long (k ∷ a) (m ∷ b) x y n e =
    let head : k ≡ m = cc in
    let tail : a ++ x ≡ b ++ y = cc in
    let both = same_long a b x y (omega (arith, n)) tail in
    let whole : k ∷ a ≡ m ∷ b = ap (λ (c : ℕ). c ∷ a) head ∙ ap (λ (l : List ℕ). m ∷ l) both.0 in
    (whole, both.1)

-- where one byte follows, it is the newline
pub entry_whole : (whole said text rest : List ℕ) → whole ≡ text ++ 10 ∷ [] → whole ≡ said ++ rest → (length rest == 1) ≡ true → said ≡ text
entry_whole whole said text rest is cut one =
    let n = eqb-true (length rest) 1 one in
    let e : said ++ rest ≡ text ++ 10 ∷ [] = sym cut ∙ is in
    let long = ap length e in
    (same_long said text rest (10 ∷ []) (omega (arith, n, long, length-append said rest, length-append text (10 ∷ []))) e).0

pub entry_found : (whole said text rest : List ℕ) → whole ≡ text ++ 10 ∷ [] → whole ≡ said ++ rest → said ≡ text → (length rest == 1) ≡ true
entry_found whole said text rest is cut same =
    let left : rest ≡ 10 ∷ [] = append_cancel_left text rest (10 ∷ []) (ap (λ (l : List ℕ). l ++ rest) (sym same) ∙ sym cut ∙ is) in
    ap (λ (l : List ℕ). length l == 1) left

pub not_both : (b : Bool) → b ≡ true → b ≡ false → ⊥
not_both true t f = false≢true (sym f)
not_both false t f = false≢true t

-- ---- what was found, whether there was memory or not

pub ok_then : {X E : Type 0} (P Q : X → Type 0) (r : Result X E) → IfOk r P → ((x : X) → P x → Q x) → IfOk r Q
ok_then P Q (Ok x) holds follows = follows x holds
ok_then P Q (Err e) holds follows = tt

pub kept_none : {X E : Type 0} (P : X → Type 0) (r : Result (Option X) E) → IfOk r (λ found. (x : X) → P x → found ≡ Some x) → IfOk r (λ found. IfNone found ((x : X) → P x → ⊥))
kept_none P (Ok None) all = λ x p. none_some x (all x p)
kept_none P (Ok (Some y)) all = tt
kept_none P (Err e) all = tt

pub kept_some : {X E : Type 0} (P Q : X → Type 0) (r : Result (Option X) E) → IfOk r (λ found. IfSome found P) → ((x : X) → P x → Q x) → IfOk r (λ found. IfSome found Q)
kept_some P Q (Ok None) holds follows = tt
kept_some P Q (Ok (Some y)) holds follows = follows y holds
kept_some P Q (Err e) holds follows = tt

pub remain_start : (inputs list : List Input) (text : List ℕ) → list ≡ [] → text ≡ frames_words inputs → Remain inputs list text
remain_start inputs list text none is = subst (λ (l : List Input). Remain inputs l text) (sym none) (remain_first inputs text is)

pub run_shorter : (rest after : List ℕ) (run : FrameRun) → rest ≡ run_words run ++ after → length after < length rest
run_shorter rest after run is = let e = ap length is in omega (arith, e, length-append (run_words run) after)

-- what stands after a place's digits
pub place_frames : (text word second runs : List ℕ) (at : ℕ) (inputs : List Input) → text ≡ word ++ 32 ∷ second → NoByte 32 word → runs ≡ drop (length word) text → IsNumber at → text ≡ decimal at ++ frames_words inputs → runs ≡ frames_words inputs
place_frames text word second runs at inputs cut none back small is =
    back ∙ ap (drop (length word)) cut ∙ drop_front word (32 ∷ second) ∙ (place_cut text word second at inputs cut none small is).1
  where
    drop_front : (a b : List ℕ) → drop (length a) (a ++ b) ≡ b
    drop_front [] b = refl
    drop_front (x ∷ a) b = drop_front a b

pub place_is : (text word second : List ℕ) (at n : ℕ) (inputs : List Input) → text ≡ word ++ 32 ∷ second → NoByte 32 word → IsNumber at → IsNumber n → word ≡ decimal n → text ≡ decimal at ++ frames_words inputs → n ≡ at
place_is text word second at n inputs cut none small less number is =
    number_same n at less small (sym number ∙ (place_cut text word second at inputs cut none small is).0)

pub placed_some : (at n : ℕ) (a b : List Input) → at ≡ n → a ≡ b → ◌≡◌ {A = Option (ℕ × List Input)} (Some (at, a)) (Some (n, b))
placed_some at n a b p q = cc

pub some_same : {X : Type 0} (a b : X) → ◌≡◌ {A = Option X} (Some a) (Some b) → a ≡ b
some_same a b e = cc

pub no_deletion : (text : List ℕ) (at count : ℕ) → ((said : Command) → Says text said → ⊥) → IsNumber at → IsNumber count → text ≡ codes "delete " ++ pair_text at count → ⊥
no_deletion text at count never small few is = never (command.Edit (change.Delete at count)) (is, (small, few))

-- what was found of a command, whether there was memory or not
pub loads_found : (A : Type 0) {E : Type 0} (r : Result (Option (Edit A)) E) (text : List ℕ) (said : Command) → Says text said → IfOk r (λ found. found ≡ edit_of_command A said)
    → IfOk r (λ found. (cart : List ℕ) → IsCartridge cart → text ≡ load_text (image_of cart) → found ≡ Some (edit.Load cart))
loads_found A (Ok found) text said is found-is = λ cart cartridge text-is. load_read A found text cart said is found-is cartridge text-is
loads_found A (Err e) text said is found-is = tt

pub deletes_found : (A : Type 0) {E : Type 0} (r : Result (Option (Edit A)) E) (text : List ℕ) (said : Command) → Says text said → IfOk r (λ found. found ≡ edit_of_command A said)
    → IfOk r (λ found. (at count : ℕ) → IsNumber at → IsNumber count → text ≡ codes "delete " ++ pair_text at count → found ≡ Some (edit.Delete at count))
deletes_found A (Ok found) text said is found-is = λ at count small few text-is. delete_read A found text at count said is found-is small few text-is
deletes_found A (Err e) text said is found-is = tt

-- the entry that a line is has the seat and the edit that were read
pub entry_kept : (A : Type 0) (number seat : ℕ) (said rest word text : List ℕ) (found : Option (Edit A)) (asked : Edit A) → said ≡ decimal number ++ 32 ∷ rest → rest ≡ word ++ 32 ∷ text → NoByte 32 word → word ≡ decimal seat → seat < 2 ^ 32
    → ((asked : Edit A) → Fits asked → text ≡ edit_text asked → found ≡ Some asked) → IsEntry number said asked → (found ≡ Some asked) × (said ≡ entry_text number seat asked)
entry_kept A number seat said rest word text found asked numbered cut none digits lt read is =
    let tail = entry_rest A number is.seat said rest asked numbered is.text in
    let parts = seat_cut A rest word text is.seat asked cut none is.is_seat tail in
    let same : is.seat ≡ seat = decimal_injective is.seat seat (omega (arith, is.is_seat)) (omega (arith, lt)) (sym parts.0 ∙ digits) in
    (read asked is.fits parts.1, is.text ∙ ap (λ (n : ℕ). entry_text number n asked) same)

pub front_left : (number : ℕ) (said rest front : List ℕ) → said ≡ decimal number ++ 32 ∷ rest → front ≡ decimal number ++ 32 ∷ [] → said ≡ front ++ rest
front_left number said rest front is front-is = is ∙ sym (append_assoc (decimal number) (32 ∷ []) rest) ∙ ap (λ (l : List ℕ). l ++ rest) (sym front-is)
