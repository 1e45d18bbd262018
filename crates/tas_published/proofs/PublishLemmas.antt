-- What a publish did that can't fail.
use Rattle.std.proofs.Common.{◌≡◌, true, false, true≢false, List, [], ◌∷◌, ◌++◌, ap, sym, ◌∙◌}
use Rattle.std.specs.Prelude.{Result, Ok, Err, IsOk, is_err, OnOk, OnErr, MatchResult, fold}
use Rattle.tas_published.specs.Published.{PublishedContent, StepContent, after}

pub done_of : {X E : Type 0} (P Q : Type 0) (r : Result X E) → IsOk r → MatchResult r (λ _. P) (λ _. Q) → P
done_of P Q (Ok x) ok v = v
done_of P Q (Err e) ok v = absurd (true≢false (sym ok))

-- where nothing is pending, what was published stays
pub stayed : {A : Type 0} (x y : PublishedContent A) (ops : List (StepContent A)) → y ≡ fold after x ops → ops ≡ [] → y ≡ x
stayed x y ops is none = is ∙ ap (fold after x) none

-- where one change is pending, it is made
pub showed : {A : Type 0} (x was y : PublishedContent A) (before ops : List (StepContent A)) (op : StepContent A) → y ≡ fold after was ops → was ≡ x → ops ≡ before ++ op ∷ [] → before ≡ [] → y ≡ after x op
showed x was y before ops op is same more none = is ∙ (λ i. fold after (same i) ((more ∙ ap (λ l. l ++ op ∷ []) none) i))

-- a result that isn't taken apart, where it is known to be no error, and where it is known to be one
pub where_ok : {X E : Type 0} (P Q : Type 0) (r : Result X E) → is_err r ≡ false → MatchResult r (λ _. P) (λ _. Q) → P
where_ok P Q (Ok x) is v = v
where_ok P Q (Err e) is v = absurd (true≢false is)

pub where_err : {X E : Type 0} (P Q : Type 0) (r : Result X E) → is_err r ≡ true → MatchResult r (λ _. P) (λ _. Q) → Q
where_err P Q (Ok x) is v = absurd (true≢false (sym is))
where_err P Q (Err e) is v = v

pub on_ok : {X E : Type 0} (P : Type 0) (r : Result X E) → P → OnOk r P
on_ok P (Ok x) p = p
on_ok P (Err e) p = tt

pub on_err : {X E : Type 0} (P : Type 0) (r : Result X E) → P → OnErr r P
on_err P (Ok x) p = tt
on_err P (Err e) p = p

pub not_ok : {X E : Type 0} (P : Type 0) (r : Result X E) → is_err r ≡ true → OnOk r P
not_ok P (Ok x) is = absurd (true≢false (sym is))
not_ok P (Err e) is = tt

pub not_err : {X E : Type 0} (P : Type 0) (r : Result X E) → is_err r ≡ false → OnErr r P
not_err P (Ok x) is = tt
not_err P (Err e) is = absurd (true≢false is)
