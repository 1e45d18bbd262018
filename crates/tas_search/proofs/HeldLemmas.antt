-- Frames of one input, one after the other.
use Rattle.std.proofs.Common.{◌≡◌, ℕ, suc, ◌+◌, ◌-◌, ◌<◌, List, replicate, Bool, true, false, refl, ap, arith, sym, ◌∙◌}
use Rattle.std.specs.Prelude.{◌&&◌}
use Rattle.vcs_inputs.specs.declared.input.Input.{Input}
use Rattle.vcs_machine.specs.Machine.{Machine, frame, after_from}
use Rattle.vcs_machine.specs.Lag.{is_lag_frame}
use Rattle.tas_search.specs.Space.{are_lag_frames}

pub held_more : (rom : List ℕ) (m : Machine) (input : Input) (n i : ℕ) → i < n
    → after_from rom m (replicate (n - i) input) ≡ after_from rom (frame rom m input) (replicate (n - (i + 1)) input)
unfolding after_from
held_more rom m input n i lt = ap (λ (k : ℕ). after_from rom m (replicate k input)) left
  where
    left : n - i ≡ suc (n - (i + 1))
    left = omega arith

pub held_none : (rom : List ℕ) (m : Machine) (input : Input) (n : ℕ) → after_from rom m (replicate (n - n) input) ≡ m
unfolding after_from
held_none rom m input n = ap (λ (k : ℕ). after_from rom m (replicate k input)) left
  where
    left : n - n ≡ 0
    left = omega arith

-- one frame more of those that must be lag frames
pub lag_more : (rom : List ℕ) (m next : Machine) (input : Input) (n i : ℕ) (before ignored after all : Bool) → i < n → next ≡ frame rom m input → ignored ≡ is_lag_frame rom m input
    → after ≡ (before && ignored) → (before && are_lag_frames rom m input (n - i)) ≡ all → (after && are_lag_frames rom next input (n - (i + 1))) ≡ all
lag_more rom m next input n i before ignored after all lt is lag both e =
    ap (λ (b : Bool). b && are_lag_frames rom next input (n - (i + 1))) (both ∙ ap (λ (b : Bool). before && b) lag)
    ∙ ap (λ (x : Machine). (before && is_lag_frame rom m input) && are_lag_frames rom x input (n - (i + 1))) is
    ∙ regroup before (is_lag_frame rom m input) (are_lag_frames rom (frame rom m input) input (n - (i + 1)))
    ∙ ap (λ (k : ℕ). before && are_lag_frames rom m input k) left
    ∙ e
  where
    regroup : (a b c : Bool) → ((a && b) && c) ≡ (a && (b && c))
    regroup true b c = refl
    regroup false b c = refl

    left : suc (n - (i + 1)) ≡ n - i
    left = omega arith

pub lag_none : (rom : List ℕ) (m : Machine) (input : Input) (n i : ℕ) (seen all : Bool) → i ≡ n → (seen && are_lag_frames rom m input (n - i)) ≡ all → seen ≡ all
lag_none rom m input n i seen all over e = last seen ∙ ap (λ (k : ℕ). seen && are_lag_frames rom m input k) left ∙ e
  where
    last : (a : Bool) → a ≡ (a && true)
    last true = refl
    last false = refl

    left : 0 ≡ n - i
    left = omega arith

-- a frame that ignores its input, among frames of another one
pub ignored_more : (rom : List ℕ) (m next : Machine) (input other : Input) (n i : ℕ) (end : Machine) → i < n → next ≡ frame rom m input → frame rom m input ≡ frame rom m other
    → after_from rom m (replicate (n - i) other) ≡ end → after_from rom next (replicate (n - (i + 1)) other) ≡ end
ignored_more rom m next input other n i end lt is same e =
    ap (λ (x : Machine). after_from rom x (replicate (n - (i + 1)) other)) (is ∙ same) ∙ sym (held_more rom m other n i lt) ∙ e
