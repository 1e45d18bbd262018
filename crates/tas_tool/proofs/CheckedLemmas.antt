-- Answers that are compared with the seat's own edits, and what an edit leaves of a seat.
use Rattle.std.proofs.Common.{◌≡◌, ℕ, ◌+◌, ◌<◌, ◌≤◌, List, [], ◌∷◌, ◌++◌, length, Bool, true, false, Result, Ok, Err, inl, inr, refl, sym, ap, subst, ◌∙◌, arith, length-append}
use Rattle.std.specs.Prelude.{◌==◌, if◌then◌else◌}
use Rattle.std.proofs.lemmas.Bool.{eqb-true, eq-eqb, cases_lt}
use Rattle.std.proofs.lemmas.List.Sums.{sum_by-append}
use Rattle.tas_movie.specs.declared.edit.Edit.{Edit}
use Rattle.tas_published.specs.declared.entry.Entry.{Entry}
use Rattle.tas_session.specs.declared.replies.Receipt.{Receipt}
use Rattle.tas_session.specs.declared.replies.EditError.{EditError}
use Rattle.tas_published.specs.History.{entries_of}
use Rattle.tas_desk.specs.Seats.{SeatContent, HasSeen, IsEdited}
use Rattle.tas_engines.specs.declared.fault.RunFault.{RunFault}
use Rattle.tas_engines.specs.declared.fault.RunFault.TheVariants.{Foreign}
use Rattle.tas_tool.specs.Inside.TwoEdits.{unless_foreign}

-- ---- compared answers

-- a number that isn't the least one is more
pub more_than : (a b : ℕ) → a ≤ b → (b ≡ a → ⊥) → a < b
more_than a b le other = elim (cases_lt a b) [
  | inl h ↦ h
  | inr h ↦ absurd (other (omega (arith, le, h)))
]

-- what was compared is as it was where it stands at just the two edits, and `Foreign` where it doesn't
pub foreign_cases : (at : ℕ) (end r : Result (Unit {0}) RunFault) (P : Result (Unit {0}) RunFault → Type 0) → r ≡ unless_foreign at end → (at ≡ 2 → P end) → ((at ≡ 2 → ⊥) → P (Err Foreign)) → P r
foreign_cases at end r P is same_at other_at = go (at == 2) refl is
  where
    go : (b : Bool) → (at == 2) ≡ b → r ≡ (if b then end else Err Foreign) → P r
    go true e here = let e' : r ≡ end = here in subst P (sym e') (same_at (eqb-true at 2 e))
    go false e here = let e' : r ≡ Err Foreign = here in subst P (sym e') (other_at (λ (same : at ≡ 2). let t : true ≡ false = sym (eq-eqb at 2 same) ∙ e in absurd (cc t)))

-- ---- seats

pub longer : {A : Type 0} (before now : SeatContent A) → HasSeen before now → length before.front ≤ length now.front
longer before now seen = omega (arith, sym (ap length seen.begins.1) ∙ length-append before.front seen.begins.0)

pub entries_push : {A : Type 0} (history : List (Entry A)) (entry : Entry A) (k : ℕ) → entry.seat ≡ k → entries_of k (history ++ entry ∷ []) ≡ entries_of k history + 1
entries_push {A} history entry k is =
    let e = sum_by-append (λ (y : Entry A). if y.seat == k then 1 else 0) history (entry ∷ []) in
    let one : ◌≡◌ {A = ℕ} (if entry.seat == k then 1 else 0) 1 = rw (eq-eqb entry.seat k is) refl in
    omega (arith, e, one)

pub edited_number : {A : Type 0} (before now : SeatContent A) (edit : Edit A) (answer : Result Receipt EditError) → IsEdited before now edit answer → now.number ≡ before.number
edited_number {A} before now edit (Ok receipt) e = ap (λ (s : SeatContent A). s.number) e.seat
edited_number {A} before now edit (Err error) e = ap (λ (s : SeatContent A). s.number) e.seat

pub edited_zone : {A : Type 0} (before now : SeatContent A) (edit : Edit A) (answer : Result Receipt EditError) → IsEdited before now edit answer → now.zone ≡ before.zone
edited_zone {A} before now edit (Ok receipt) is = ap (λ (s : SeatContent A). s.zone) is.seat
edited_zone {A} before now edit (Err error) is = ap (λ (s : SeatContent A). s.zone) is.seat
