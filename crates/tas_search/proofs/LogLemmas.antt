-- Lines of a report, one after the other.
use Rattle.std.proofs.Common.{◌≡◌, ℕ, List, [], ◌++◌, subst, sym}
use Rattle.std.proofs.KnownBytes.{Appends-nil, Appends-trans}
use Rattle.std.specs.Prelude.{Result, Ok, Err, IfErr, IsErrAnd}
use Rattle.tas_search.specs.Logs.{LogBytes, Logged}
use Rattle.tas_search.specs.declared.logs.Unfinished.TheVariants.{Memory, Report}

pub nothing_logged : (old : LogBytes) → Logged old old []
nothing_logged old = record { errors = Appends-nil old.errors; report = Appends-nil old.report }

pub logged_more : (old mid new : LogBytes) (front back : List ℕ) → Logged old mid front → Logged mid new back → Logged old new (front ++ back)
logged_more old mid new front back a b = record {
  errors = Appends-trans old.errors mid.errors new.errors front back a.errors b.errors;
  report = Appends-trans old.report mid.report new.report front back a.report b.report;
}

-- what holds of the error holds of the result
pub err_is : {T E : Type 0} (r : Result T E) (e : E) (P : E → Type 0) → IsErrAnd r (λ x. x ≡ e) → P e → IfErr r P
err_is (Ok t) e P h p = tt
err_is (Err x) e P h p = subst P (sym h) p

-- memory was refused, so no line failed
pub memory_is_no_report : {A : Type 0} → Memory ≡ Report → A
memory_is_no_report e = absurd cc
