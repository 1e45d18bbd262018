-- One thing comes of a movie whose files are known, accidents aside.
use Rattle.std.proofs.Common.{◌≡◌, inl, inr, ◌⊎◌, ℕ, zero, suc, ◌+◌, ◌-◌, ◌<◌, ◌≤◌, ◌^◌, true, false, List, [], ◌∷◌, ◌++◌, length, get_or, refl, sym, ap, subst, ◌∙◌, arith, length-append}
use Rattle.std.specs.Prelude.{decimal, codes, Option, Some, None, IsSome, Ok, Err}
use Rattle.std.proofs.lemmas.Bool.{both_ways, cases_lt}
use Rattle.std.proofs.lemmas.Fmt.{decimal_injective}
use Rattle.std.proofs.lemmas.List.{append_cancel_left}
use Rattle.byte_text.proofs.SplitLemmas.{same_front}
use Rattle.vcs_cpu.specs.declared.halt.Halt.{Halt}
use Rattle.vcs_cpu.specs.declared.halt.Halt.TheVariants.{Undocumented}
use Rattle.vcs_inputs.specs.Cart.{is_cart_size}
use Rattle.vcs_inputs.specs.Input.{no_input}
use Rattle.vcs_machine.specs.Machine.{frame, power_on, after}
use Rattle.vcs_machine.proofs.Afters.{after_from-take_more}
use Rattle.vcs_machine.proofs.Playing.{frame-halted}
use Rattle.tas_movie.specs.Content.{MovieContent}
use Rattle.tas_movie.specs.Fault.{fault}
use Rattle.tas_movie.specs.declared.error.TextError.{TextError}
use Rattle.tas_language.proofs.WordLemmas.{decimal_no_space}
use Rattle.tas_green.specs.Run.{state_after}
use Rattle.tas_engines.specs.declared.fault.ReadFault.TheVariants.{TooLong, Failed, Memory as NoMemory}
use Rattle.tas_engines.specs.declared.fault.RunFault.{RunFault}
use Rattle.tas_engines.specs.declared.fault.RunFault.TheVariants as run
use Rattle.tas_engines.specs.Input.{most_input_bytes, StopsReading}
use Rattle.tas_engines.specs.Movies.{IsMovieOf}
use Rattle.tas_engines.specs.Shooting.{IsShotFault}
use Rattle.tas_engines.specs.Digests.{digest_text, IsDigestAnswer}
use Rattle.tas_engines.proofs.ReadMovies.{one_movie_read, only_memory}
use Rattle.tas_verify.specs.declared.outcome.Role.{Role}
use Rattle.tas_verify.specs.declared.outcome.Role.TheVariants.{Movie, Cartridge, Digest}
use Rattle.tas_verify.specs.declared.outcome.Outcome.{Outcome}
use Rattle.tas_verify.specs.declared.outcome.Outcome.TheVariants.{NotFound, Unread, Size, Text, Halted, Memory}
use Rattle.tas_verify.specs.Manifest.{RowWords}
use Rattle.tas_verify.specs.Rows.{ShelfFacts, Opens, cart_lacks, cart_held, cart_finds, IsThereOr, IsAnother, SaysFrames, HasStretches, first_stretch, newlines, DifferAtOnce, DifferInLine, differing, IsCompared, outcome_of, IsPlayed, JudgesDigest, JudgesCart, IsOutcome}
use Rattle.tas_verify.specs.Agreement.{AreKnown, IsAccident, Agree}

-- ---- stretches

same_number : (line : List ℕ) (m n : ℕ) → SaysFrames line m → SaysFrames line n → m ≡ n
same_number line m n h g =
    let rest : decimal m ++ 32 ∷ h.rest ≡ decimal n ++ 32 ∷ g.rest = append_cancel_left (codes "frames 0 to ") (decimal m ++ 32 ∷ h.rest) (decimal n ++ 32 ∷ g.rest) (sym h.is ∙ g.is) in
    let small : m < 2 ^ 64 = omega (arith, h.most) in
    let small' : n < 2 ^ 64 = omega (arith, g.most) in
    let word = same_front 32 (decimal m) (decimal n) h.rest g.rest (decimal_no_space m small) (decimal_no_space n small') rest in
    decimal_injective m n small small' word.0

one_stretch : (digest : List ℕ) (m n : ℕ) → HasStretches digest m → HasStretches digest n → m ≡ n
one_stretch digest m n (inl h) (inl g) = same_number (first_stretch digest) m n h g
one_stretch digest m n (inl h) (inr g) = absurd (g.0 m h)
one_stretch digest m n (inr h) (inl g) = absurd (h.0 n g)
one_stretch digest m n (inr h) (inr g) = h.1 ∙ sym g.1

-- ---- the first line that differs

differ_from_itself : (a b : List ℕ) → a ≡ b → DifferAtOnce a b → ⊥
differ_from_itself [] [] e differ = differ
differ_from_itself [] (c ∷ b) e differ = absurd cc
differ_from_itself (x ∷ a) [] e differ = absurd cc
differ_from_itself (x ∷ a) (c ∷ b) e differ = let head : x ≡ c = cc in differ head

-- they don't differ at once where both go on with one byte
goes_on_alike : (c : ℕ) (x y a b : List ℕ) → a ≡ c ∷ x → b ≡ c ∷ y → DifferAtOnce a b → ⊥
goes_on_alike c x y [] b h g differ = absurd cc
goes_on_alike c x y (d ∷ a) [] h g differ = absurd cc
goes_on_alike c x y (d ∷ a) (e ∷ b) h g differ =
    let first : d ≡ c = cc in
    let second : e ≡ c = cc in
    differ (first ∙ sym second)

one_front : (f g rest after rest' after' : List ℕ) → f ++ rest ≡ g ++ rest' → f ++ after ≡ g ++ after' → DifferAtOnce rest after → DifferAtOnce rest' after' → f ≡ g
one_front [] [] rest after rest' after' h k differ differ' = refl
one_front [] (c ∷ g) rest after rest' after' h k differ differ' = absurd (goes_on_alike c (g ++ rest') (g ++ after') rest after h k differ)
one_front (c ∷ f) [] rest after rest' after' h k differ differ' = absurd (goes_on_alike c (f ++ rest) (f ++ after) rest' after' (sym h) (sym k) differ')
one_front (c ∷ f) (d ∷ g) rest after rest' after' h k differ differ' =
    let head : c ≡ d = cc in
    let now : f ++ rest ≡ g ++ rest' = cc in
    let stored : f ++ after ≡ g ++ after' = cc in
    let tail : f ≡ g = one_front f g rest after rest' after' now stored differ differ' in
    cc

one_line : (now stored : List ℕ) (m n : ℕ) → DifferInLine now stored m → DifferInLine now stored n → m ≡ n
one_line now stored m n h g =
    let front = one_front h.front g.front h.rest h.after g.rest g.after (sym h.now_is ∙ g.now_is) (sym h.stored_is ∙ g.stored_is) h.differ g.differ in
    h.place ∙ ap (λ (f : List ℕ). newlines f + 1) front ∙ sym g.place

no_line : (now stored : List ℕ) (n : ℕ) → now ≡ stored → DifferInLine now stored n → ⊥
no_line now stored n same h =
    differ_from_itself h.rest h.after (append_cancel_left h.front h.rest h.after (sym h.now_is ∙ same ∙ h.stored_is)) h.differ

one_compared : (every : ℕ) (now stored : List ℕ) (a b : Outcome) → IsCompared every now stored a → IsCompared every now stored b → a ≡ b
one_compared every now stored a b (inl h) (inl g) = h.1 ∙ sym g.1
one_compared every now stored a b (inl h) (inr (n, g, is)) = absurd (no_line now stored n h.0 g)
one_compared every now stored a b (inr (m, h, is)) (inl g) = absurd (no_line now stored m g.0 h)
one_compared every now stored a b (inr (m, h, is)) (inr (n, g, is')) = is ∙ ap (differing every) (one_line now stored m n h g) ∙ sym is'

-- ---- halts

-- a machine that is halted stays so
halted_on : (movie : MovieContent) (halt : Halt) (i n : ℕ) → i + n ≤ length movie.inputs → (state_after movie i).halt ≡ Some halt → (state_after movie (i + n)).halt ≡ Some halt
halted_on movie halt i zero low h =
    let same : i ≡ i + 0 = omega arith in
    subst (λ (k : ℕ). (state_after movie k).halt ≡ Some halt) same h
halted_on movie halt i (suc n) low h =
    let before = halted_on movie halt i n (omega (arith, low)) h in
    let next : state_after movie (i + suc n) ≡ frame movie.cart (state_after movie (i + n)) (get_or movie.inputs (i + n) no_input) =
    after_from-take_more movie.cart (power_on movie.cart) movie.inputs (i + n) (i + suc n) no_input (omega (arith, low)) (omega arith) in
    let stays = frame-halted movie.cart (state_after movie (i + n)) (get_or movie.inputs (i + n) no_input) halt before in
    ap (λ (m : _). m.halt) (next ∙ sym stays) ∙ before

same_halt : (at at' opcode opcode' : ℕ) → ◌≡◌ {A = Option Halt} (Some (Undocumented at opcode)) (Some (Undocumented at' opcode')) → (at ≡ at') × (opcode ≡ opcode')
same_halt at at' opcode opcode' e = let a : at ≡ at' = cc in let b : opcode ≡ opcode' = cc in (a, b)

later_halt : (movie : MovieContent) (halt halt' : Halt) (j k : ℕ) → j ≤ k → k < length movie.inputs → (state_after movie (j + 1)).halt ≡ Some halt → (state_after movie (k + 1)).halt ≡ Some halt'
    → ◌≡◌ {A = Option Halt} (Some halt) (Some halt')
later_halt movie halt halt' j k le lt h g =
    let there = halted_on movie halt (j + 1) (k - j) (omega (arith, le, lt)) h in
    let same : (j + 1) + (k - j) ≡ k + 1 = omega (arith, le) in
    sym (subst (λ (n : ℕ). (state_after movie n).halt ≡ Some halt) same there) ∙ g

some_none : (halt : Option Halt) (h : Halt) → halt ≡ None → halt ≡ Some h → ⊥
some_none halt h none some = clash (sym none ∙ some)
  where
    clash : ◌≡◌ {A = Option Halt} None (Some h) → ⊥
    clash e = cc

-- ---- a movie that is played

-- why a movie has no digest, as it is reported: the cartridge's size, the text's fault, a halt, or that memory was refused
abbrev HasSize : List ℕ → Outcome → Type 0
HasSize image outcome = (n : ℕ) × (outcome ≡ Size n) × (n ≡ length image) × (is_cart_size n ≡ false)

abbrev HasFault : (image text : List ℕ) → Outcome → Type 0
HasFault image text outcome = (error : TextError) × (outcome ≡ Text error) × (is_cart_size (length image) ≡ true) × (fault text image ≡ Some error)

pub record HasHalt (image text : List ℕ) (outcome : Outcome) : Type 0 where
  pub at : ℕ
  pub opcode : ℕ
  pub is : outcome ≡ Halted at opcode
  pub movie : MovieContent
  pub made : IsMovieOf image text movie
  pub frame : ℕ
  pub halted : IsShotFault movie frame (run.Halted at opcode)

abbrev IsDue : (image text : List ℕ) → Outcome → Type 0
IsDue image text outcome = (outcome ≡ Memory) ⊎ (HasSize image outcome ⊎ (HasFault image text outcome ⊎ HasHalt image text outcome))

due : (every : ℕ) (image text : List ℕ) (why : RunFault) → IsDigestAnswer every image text (Err why) → IsDue image text (outcome_of why)
due every image text (run.Size n) (inl h) = inr (inl (n, refl, h.0, h.1))
due every image text (run.Size n) (inr (movie, is, h)) = absurd h
due every image text (run.Text error) (inl h) = inr (inr (inl (error, refl, h.0, h.1)))
due every image text (run.Text error) (inr (movie, is, h)) = absurd h
due every image text (run.Halted at opcode) (inl h) = absurd h
due every image text (run.Halted at opcode) (inr (movie, is, (k, h))) =
    inr (inr (inr (record { at = at; opcode = opcode; is = refl; movie = movie; made = is; frame = k; halted = h })))
due every image text _ h = inl refl

-- equal, or one is that memory was refused
abbrev AreNearly : Outcome → Outcome → Type 0
AreNearly a b = (a ≡ b) ⊎ ((a ≡ Memory) ⊎ (b ≡ Memory))

not_memory : (error : TextError) → ◌≡◌ {A = RunFault} (run.Text error) run.Memory → ⊥
not_memory error e = cc

-- a movie whose text has no fault and whose cartridge has the right size has neither fault
no_size : (image text : List ℕ) (movie : MovieContent) (o : Outcome) → IsMovieOf image text movie → HasSize image o → ⊥
no_size image text movie o is (n, said, long, wrong) = both_ways (is_cart_size n) wrong (ap is_cart_size long ∙ is.size)

no_text : (image text : List ℕ) (movie : MovieContent) (o : Outcome) → IsMovieOf image text movie → HasFault image text o → ⊥
no_text image text movie o is (error, said, right, found) = not_memory error (only_memory image text movie (run.Text error) is (right, found))

one_size : (image : List ℕ) (a b : Outcome) → HasSize image a → HasSize image b → a ≡ b
one_size image a b (m, is, long, wrong) (n, is', long', wrong') = is ∙ ap Size (long ∙ sym long') ∙ sym is'

size_or_text : (image text : List ℕ) (a b : Outcome) → HasSize image a → HasFault image text b → ⊥
size_or_text image text a b (n, is, long, wrong) (error, is', right, found) = both_ways (is_cart_size n) wrong (ap is_cart_size long ∙ right)

same_error : (error error' : TextError) → ◌≡◌ {A = Option TextError} (Some error) (Some error') → error ≡ error'
same_error error error' e = cc

one_text : (image text : List ℕ) (a b : Outcome) → HasFault image text a → HasFault image text b → a ≡ b
one_text image text a b (error, is, right, found) (error', is', right', found') = is ∙ ap Text (same_error error error' (sym found ∙ found')) ∙ sym is'

halted_same : (at at' opcode opcode' : ℕ) → at ≡ at' → opcode ≡ opcode' → ◌≡◌ {A = Outcome} (Halted at opcode) (Halted at' opcode')
halted_same at at' opcode opcode' a b = cc

frame_halt : (movie : MovieContent) (j k at at' opcode opcode' : ℕ) → IsShotFault movie j (run.Halted at opcode) → IsShotFault movie k (run.Halted at' opcode') → (at ≡ at') × (opcode ≡ opcode')
frame_halt movie j k at at' opcode opcode' h g =
    elim (cases_lt j k) [
      | inl lt ↦ same_halt at at' opcode opcode' (later_halt movie (Undocumented at opcode) (Undocumented at' opcode') j k (omega (arith, lt)) g.0 h.1 g.1)
      | inr le ↦ same_halt at at' opcode opcode' (sym (later_halt movie (Undocumented at' opcode') (Undocumented at opcode) k j le h.0 g.1 h.1))
    ]

one_halt : (image text : List ℕ) (a b : Outcome) → HasHalt image text a → HasHalt image text b → a ≡ b
one_halt image text a b h g =
    let same : g.movie ≡ h.movie = one_movie_read image text g.movie h.movie g.made h.made in
    let both =
    frame_halt h.movie h.frame g.frame h.at g.at h.opcode g.opcode h.halted (subst (λ (m : MovieContent). IsShotFault m g.frame (run.Halted g.at g.opcode)) same g.halted) in
    h.is ∙ halted_same h.at g.at h.opcode g.opcode both.0 both.1 ∙ sym g.is

one_due : (image text : List ℕ) (a b : Outcome) → IsDue image text a → IsDue image text b → AreNearly a b
one_due image text a b (inl is) g = inr (inl is)
one_due image text a b (inr h) (inl is) = inr (inr is)
one_due image text a b (inr (inl h)) (inr (inl g)) = inl (one_size image a b h g)
one_due image text a b (inr (inl h)) (inr (inr (inl g))) = absurd (size_or_text image text a b h g)
one_due image text a b (inr (inl h)) (inr (inr (inr g))) = absurd (no_size image text g.movie a g.made h)
one_due image text a b (inr (inr (inl h))) (inr (inl g)) = absurd (size_or_text image text b a g h)
one_due image text a b (inr (inr (inl h))) (inr (inr (inl g))) = inl (one_text image text a b h g)
one_due image text a b (inr (inr (inl h))) (inr (inr (inr g))) = absurd (no_text image text g.movie a g.made h)
one_due image text a b (inr (inr (inr h))) (inr (inl g)) = absurd (no_size image text h.movie b h.made g)
one_due image text a b (inr (inr (inr h))) (inr (inr (inl g))) = absurd (no_text image text h.movie b h.made g)
one_due image text a b (inr (inr (inr h))) (inr (inr (inr g))) = inl (one_halt image text a b h g)

-- a movie with a digest has no fault
digest_or_fault : (every : ℕ) (image text now : List ℕ) (b : Outcome) → IsDigestAnswer every image text (Ok now) → IsDue image text b → b ≡ Memory
digest_or_fault every image text now b h (inl is) = is
digest_or_fault every image text now b (movie, is, none, text_is) (inr (inl g)) = absurd (no_size image text movie b is g)
digest_or_fault every image text now b (movie, is, none, text_is) (inr (inr (inl g))) = absurd (no_text image text movie b is g)
digest_or_fault every image text now b (movie, is, none, text_is) (inr (inr (inr g))) =
    let same : g.movie ≡ movie = one_movie_read image text g.movie movie g.made is in
    let halt = subst (λ (m : MovieContent). IsShotFault m g.frame (run.Halted g.at g.opcode)) same g.halted in
    absurd (some_none (state_after movie (g.frame + 1)).halt (Undocumented g.at g.opcode) (none g.frame halt.0) halt.1)

one_digest : (every : ℕ) (image text now now' : List ℕ) → IsDigestAnswer every image text (Ok now) → IsDigestAnswer every image text (Ok now') → now ≡ now'
one_digest every image text now now' (movie, is, none, text_is) (other, is', none', text_is') =
    text_is ∙ ap (digest_text every) (one_movie_read image text movie other is is') ∙ sym text_is'

abbrev Plays : (every : ℕ) → (text image stored : List ℕ) → Outcome → Type 0
Plays every text image stored outcome =
    ((now : List ℕ) × IsDigestAnswer every image text (Ok now) × IsCompared every now stored outcome) ⊎ ((why : RunFault) × IsDigestAnswer every image text (Err why) × (outcome ≡ outcome_of why))

one_play : (every : ℕ) (text image stored : List ℕ) (a b : Outcome) → Plays every text image stored a → Plays every text image stored b → AreNearly a b
one_play every text image stored a b (inl (now, h, compared)) (inl (now', g, compared')) =
    let same : now' ≡ now = one_digest every image text now' now g h in
    inl (one_compared every now stored a b compared (subst (λ (n : List ℕ). IsCompared every n stored b) same compared'))
one_play every text image stored a b (inl (now, h, compared)) (inr (why, g, is)) =
    inr (inr (is ∙ digest_or_fault every image text now (outcome_of why) h (due every image text why g)))
one_play every text image stored a b (inr (why, h, is)) (inl (now, g, compared)) =
    inr (inl (is ∙ digest_or_fault every image text now (outcome_of why) g (due every image text why h)))
one_play every text image stored a b (inr (why, h, is)) (inr (why', g, is')) =
    subst (λ (o : Outcome). AreNearly o b) (sym is)
    (subst (λ (o : Outcome). AreNearly (outcome_of why) o) (sym is') (one_due image text (outcome_of why) (outcome_of why') (due every image text why h) (due every image text why' g)))

one_played : (text image stored : List ℕ) (a b : Outcome) → IsPlayed text image stored a → IsPlayed text image stored b → AreNearly a b
one_played text image stored a b (every, has, h) (every', has', g) =
    let same : every' ≡ every = one_stretch stored every' every has' has in
    one_play every text image stored a b h (subst (λ (n : ℕ). Plays n text image stored b) same g)

-- ---- files

-- what opening and reading a file with these bytes came to: it wasn't opened; a read failed or memory was refused; it is too long; or it was read
abbrev IsOpened : (lacks : Type 0) → (held : List ℕ) → Role → (rest : List ℕ → Outcome → Type 0) → Outcome → Type 0
IsOpened lacks held role rest outcome =
    (lacks × (outcome ≡ NotFound role))
    ⊎ (((outcome ≡ Unread role Failed) ⊎ (outcome ≡ Unread role NoMemory)) ⊎ (((most_input_bytes < length held) × (outcome ≡ Unread role TooLong)) ⊎ ((length held ≤ most_input_bytes) × rest held outcome)))

pub too_long : (held : List ℕ) (after : Option (List ℕ)) → StopsReading (Some held) after TooLong → most_input_bytes < length held
too_long held None (bytes, consumed, count) = absurd consumed
too_long held (Some left) (bytes, consumed, count) =
    let long : length held ≡ length bytes + length left = ap (λ (b : List ℕ). length b) consumed ∙ length-append bytes left in
    omega (arith, long, count)

opened : (lacks : Type 0) (held : List ℕ) (role : Role) (rest : List ℕ → Outcome → Type 0) (outcome : Outcome) → Opens lacks (Some held) role rest outcome → IsOpened lacks held role rest outcome
opened lacks held role rest outcome (inl (inl h)) = inl h
opened lacks held role rest outcome (inl (inr (TooLong, (after, stops), is))) = inr (inr (inl (too_long held after stops, is)))
opened lacks held role rest outcome (inl (inr (Failed, unread, is))) = inr (inl (inl is))
opened lacks held role rest outcome (inl (inr (NoMemory, unread, is))) = inr (inl (inr is))
opened lacks held role rest outcome (inr (bytes, (after, whole), decided)) =
    let all : bytes ≡ held = whole.are_all held refl in
    let few : length held ≤ most_input_bytes = subst (λ (b : List ℕ). length b ≤ most_input_bytes) all whole.within in
    inr (inr (inr (few, subst (λ (b : List ℕ). rest b outcome) all decided)))

held_of : (known : Option (List ℕ)) → IsSome known → (held : List ℕ) × (known ≡ Some held)
held_of None h = absurd (both_ways false refl h)
held_of (Some held) h = (held, refl)

-- ---- a movie

module _ (facts : ShelfFacts) (row : RowWords) (a b : Outcome) where
  agree_nearly : AreNearly a b → Agree facts row a b
  agree_nearly (inl same) = inl same
  agree_nearly (inr (inl is)) = inr (inl (subst (IsAccident facts row) (sym is) tt))
  agree_nearly (inr (inr is)) = inr (inr (subst (IsAccident facts row) (sym is) tt))

  unread_accident : (role : Role) (o : Outcome) → (o ≡ Unread role Failed) ⊎ (o ≡ Unread role NoMemory) → IsAccident facts row o
  unread_accident role o (inl is) = subst (IsAccident facts row) (sym is) tt
  unread_accident role o (inr is) = subst (IsAccident facts row) (sym is) tt

  agree_opened : (lacks : Type 0) (held : List ℕ) (role : Role) (rest : List ℕ → Outcome → Type 0) → IsOpened lacks held role rest a → IsOpened lacks held role rest b
      → (lacks → a ≡ NotFound role → Agree facts row a b) → (lacks → b ≡ NotFound role → Agree facts row a b) → (rest held a → rest held b → Agree facts row a b) → Agree facts row a b
  agree_opened lacks held role rest (inl h) g first second both = first h.0 h.1
  agree_opened lacks held role rest (inr h) (inl g) first second both = second g.0 g.1
  agree_opened lacks held role rest (inr (inl h)) (inr g) first second both = inr (inl (unread_accident role a h))
  agree_opened lacks held role rest (inr (inr h)) (inr (inl g)) first second both = inr (inr (unread_accident role b g))
  agree_opened lacks held role rest (inr (inr (inl h))) (inr (inr (inl g))) first second both = inl (h.1 ∙ sym g.1)
  agree_opened lacks held role rest (inr (inr (inl h))) (inr (inr (inr g))) first second both = absurd (omega (arith, h.0, g.0))
  agree_opened lacks held role rest (inr (inr (inr h))) (inr (inr (inl g))) first second both = absurd (omega (arith, h.0, g.0))
  agree_opened lacks held role rest (inr (inr (inr h))) (inr (inr (inr g))) first second both = both h.1 g.1

  -- the same of a file that is known
  agree_opens : (lacks : Type 0) (known : Option (List ℕ)) (role : Role) (rest : List ℕ → Outcome → Type 0) → IsSome known → Opens lacks known role rest a → Opens lacks known role rest b
      → (lacks → a ≡ NotFound role → Agree facts row a b) → (lacks → b ≡ NotFound role → Agree facts row a b) → ((held : List ℕ) → rest held a → rest held b → Agree facts row a b) → Agree facts row a b
  agree_opens lacks known role rest is h g first second both =
      let file = held_of known is in
      agree_opened lacks file.0 role rest (opened lacks file.0 role rest a (subst (λ (k : Option (List ℕ)). Opens lacks k role rest a) file.1 h))
      (opened lacks file.0 role rest b (subst (λ (k : Option (List ℕ)). Opens lacks k role rest b) file.1 g)) first second (both file.0)

  agree_digest : (text image : List ℕ) → IsSome (facts.held row.digest) → JudgesDigest facts row text image a → JudgesDigest facts row text image b → Agree facts row a b
  agree_digest text image known (inl is) g = inr (inl (subst (IsAccident facts row) (sym is) tt))
  agree_digest text image known (inr h) (inl is) = inr (inr (subst (IsAccident facts row) (sym is) tt))
  agree_digest text image known (inr h) (inr g) =
      agree_opens (facts.lacks row.digest) (facts.held row.digest) Digest (IsPlayed text image) known h g
      (λ lacks is. inr (inl (subst (IsAccident facts row) (sym is) lacks))) (λ lacks is. inr (inr (subst (IsAccident facts row) (sym is) lacks)))
      (λ stored p q. agree_nearly (one_played text image stored a b p q))

  abbrev Judges : (text image : List ℕ) → Outcome → Type 0
  Judges text image outcome = (IsAnother row.cart image × (outcome ≡ NotFound Cartridge)) ⊎ ((IsAnother row.cart image → ⊥) × JudgesDigest facts row text image outcome)

  agree_image : (text image : List ℕ) → IsSome (facts.held row.digest) → Judges text image a → Judges text image b → Agree facts row a b
  agree_image text image known (inl h) (inl g) = inl (h.1 ∙ sym g.1)
  agree_image text image known (inl h) (inr g) = absurd (g.0 h.0)
  agree_image text image known (inr h) (inl g) = absurd (h.0 g.0)
  agree_image text image known (inr h) (inr g) = agree_digest text image known h.1 g.1

  -- one wasn't opened, although there may be one: the other one has seen that there is, or hasn't opened it either
  first_closed : cart_lacks facts row.cart → a ≡ NotFound Cartridge → IsThereOr (cart_finds facts row.cart) b → Agree facts row a b
  first_closed lacks is (inl finds) = inr (inl (subst (IsAccident facts row) (sym is) (finds, lacks)))
  first_closed lacks is (inr is') = inl (is ∙ sym is')

  second_closed : cart_lacks facts row.cart → b ≡ NotFound Cartridge → IsThereOr (cart_finds facts row.cart) a → Agree facts row a b
  second_closed lacks is (inl finds) = inr (inr (subst (IsAccident facts row) (sym is) (finds, lacks)))
  second_closed lacks is (inr is') = inl (is' ∙ sym is)

  none_there : (o : Outcome) → (cart_finds facts row.cart → ⊥) → IsThereOr (cart_finds facts row.cart) o → o ≡ NotFound Cartridge
  none_there o never (inl finds) = absurd (never finds)
  none_there o never (inr is) = is

  agree_cart : (text : List ℕ) → (cart_finds facts row.cart → ⊥) ⊎ (IsSome (cart_held facts row.cart) × IsSome (facts.held row.digest)) → JudgesCart facts row text a → JudgesCart facts row text b → Agree facts row a b
  agree_cart text (inl never) h g = inl (none_there a never h.0 ∙ sym (none_there b never g.0))
  agree_cart text (inr known) h g =
      agree_opens (cart_lacks facts row.cart) (cart_held facts row.cart) Cartridge (Judges text) known.0 h.1 g.1 (λ lacks is. first_closed lacks is g.0) (λ lacks is. second_closed lacks is h.0)
      (λ image p q. agree_image text image known.1 p q)

  pub one_outcome : AreKnown facts row → IsOutcome facts row a → IsOutcome facts row b → Agree facts row a b
  one_outcome known h g =
      agree_opens (facts.lacks row.movie) (facts.held row.movie) Movie (JudgesCart facts row) known.0 h g (λ lacks is. inr (inl (subst (IsAccident facts row) (sym is) lacks)))
      (λ lacks is. inr (inr (subst (IsAccident facts row) (sym is) lacks))) (λ text p q. agree_cart text known.1 p q)
