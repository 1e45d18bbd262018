-- Verifications.
use Rattle.std.proofs.Common.{◌≡◌, ℕ, List, [], ◌∷◌, ◌++◌, length, All, ◌<◌, Option, None, Some, Result, Ok, Err, inl, inr, sym, subst}
use Rattle.std.specs.Prelude.{Bool, true, false, if◌then◌else◌, ◌==◌, slice_index_or}
use Rattle.std.specs.Borrow.{Bor}
use Rattle.std.proofs.lemmas.List.Elements.{All-push}
use Rattle.byte_text.specs.Splitting.{NoByte}
use Rattle.byte_text.proofs.SplitLemmas.{no_parts}
use Rattle.tas_verify.specs.declared.carts.Cart.{Cart}
use Rattle.tas_verify.specs.Rows.{ShelfFacts}
use Rattle.tas_program.specs.declared.saving.SaveFault.{SaveFault}
use Rattle.tas_program.specs.declared.status.TaskFault.{TaskFault}
use Rattle.tas_program.specs.declared.status.TaskFault.TheVariants.{Save as NotSaved, NotAll}
use Rattle.tas_program.specs.Streams.{StreamBytes}
use Rattle.tas_program.specs.Verifying.{AreIn, IsIn, IsMore, IsUnlisted, VerifiesBy, VerifiesIn, VerifiesWith, shelf_by}

-- a verification ends with no fault of a file that was to be replaced
counted_end : (same : Bool) (fault : SaveFault) → ◌≡◌ {A = Result (Unit {0}) TaskFault} (Err (NotSaved fault)) (if same then Ok tt else Err NotAll) → ⊥
counted_end true fault is = cc
counted_end false fault is = cc

run_fault : (facts : ShelfFacts) (old new : StreamBytes) (fault : SaveFault) → VerifiesBy facts old new (Err (NotSaved fault)) → ⊥
run_fault facts old new fault (Ok tally, is, ran) = counted_end (tally.same == tally.movies) fault is
run_fault facts old new fault (Err why, is, ran) = cc

unlisted_fault : (why : TaskFault) (fault : SaveFault) → ◌≡◌ {A = Result (Unit {0}) TaskFault} (Err (NotSaved fault)) (Err why) → IsUnlisted why → ⊥
unlisted_fault why fault is (inl none) = cc
unlisted_fault why fault is (inr refused) = cc

pub no_verify_fault : (read : List ℕ → Option (List ℕ)) (dir : Option (Bor (List ℕ))) (old new : StreamBytes) (fault : SaveFault) → VerifiesWith read dir old new (Err (NotSaved fault)) → ⊥
no_verify_fault read None old new fault by = run_fault (shelf_by read []) old new fault by
no_verify_fault read (Some dir) old new fault (inl (why, is, unlisted, same)) = unlisted_fault why fault is unlisted
no_verify_fault read (Some dir) old new fault (inr (carts, are, by)) = run_fault (shelf_by read carts) old new fault by

-- one more cartridge of a directory, or none
pub in_more : (dir name : List ℕ) (old new : List Cart) → IsIn dir name → IsMore name old new → AreIn dir old → AreIn dir new
in_more dir name old new file (inl same) all = subst (AreIn dir) (sym same) all
in_more dir name old new file (inr (cart, named, more)) all =
    subst (AreIn dir) (sym more) (All-push (λ (c : Cart). IsIn dir c.name.now) old cart all (subst (IsIn dir) (sym named) file))

-- one more item of a list all of whose items are so
pub all_more : {X : Type 0} (P : X → Type 0) (old new : List X) (x : X) → new ≡ old ++ x ∷ [] → All P old → P x → All P new
all_more P old new x is all here = subst (All P) (sym is) (All-push P old x all here)

-- the name of a path of a directory
pub item_in : {X : Type 0} (bytes : X → List ℕ) (dir name : List ℕ) (paths : List X) (k : ℕ) (path : X) → k < length paths → path ≡ slice_index_or paths k path → name ≡ bytes path → All (λ p. IsIn dir (bytes p)) paths → IsIn dir name
item_in {X = X} bytes dir name paths k path lt is named all = subst (IsIn dir) (sym named) (subst (λ (p : X). IsIn dir (bytes p)) (sym is) (all k path lt))

-- a verification ran with the cartridges among a directory's paths
pub verified_in : {X : Type 0} (bytes : X → List ℕ) (read : List ℕ → Option (List ℕ)) (dir : List ℕ) (paths shown : List X) (carts used : List Cart) (old new : StreamBytes) (end : Result (Unit {0}) TaskFault) → shown ≡ paths
    → All (λ p. IsIn dir (bytes p)) paths → ((d : List ℕ) → All (λ p. IsIn d (bytes p)) shown → AreIn d carts) → used ≡ carts → VerifiesBy (shelf_by read used) old new end → VerifiesIn read dir old new end
verified_in bytes read dir paths shown carts used old new end same all among is by =
    inr (carts, among dir (subst (All (λ p. IsIn dir (bytes p))) (sym same) all), subst (λ (l : List Cart). VerifiesBy (shelf_by read l) old new end) is by)

-- a name that is split at a slash has one
pub has_slash : (name front rest : List ℕ) → name ≡ front ++ 47 ∷ rest → NoByte 47 name → ⊥
has_slash name front rest is none = no_parts 47 front rest (subst (NoByte 47) is none)

-- one more path of a directory
pub path_more : {X : Type 0} (bytes : X → List ℕ) (dir name : List ℕ) (old new : List X) (path : X) → new ≡ old ++ path ∷ [] → bytes path ≡ dir ++ 47 ∷ name → NoByte 47 name
    → All (λ p. IsIn dir (bytes p)) old → All (λ p. IsIn dir (bytes p)) new
path_more bytes dir name old new path more is none all = all_more (λ p. IsIn dir (bytes p)) old new path more all (name, none, is)
