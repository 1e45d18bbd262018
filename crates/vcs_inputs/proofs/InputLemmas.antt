-- An input is its fifteen switches.
use Rattle.std.proofs.Common.{◌≡◌, Bool}
use Rattle.vcs_inputs.specs.declared.input.Input.{Input}
use Rattle.vcs_inputs.specs.declared.input.Stick.{Stick}
use Rattle.vcs_inputs.specs.Input.{switches_of}

stick_by_fields : (a b c d e a' b' c' d' e' : Bool) → a ≡ a' → b ≡ b' → c ≡ c' → d ≡ d' → e ≡ e' →
    ◌≡◌ {A = Stick} (record { right = a; left = b; down = c; up = d; fire = e }) (record { right = a'; left = b'; down = c'; up = d'; fire = e' })
stick_by_fields a b c d e a' b' c' d' e' p q r s t = cc

input_by_fields : (a b a' b' : Stick) (c d e f g c' d' e' f' g' : Bool) → a ≡ a' → b ≡ b' → c ≡ c' → d ≡ d' → e ≡ e' → f ≡ f' → g ≡ g' →
    ◌≡◌ {A = Input} (record { left = a; right = b; reset = c; select = d; mono = e; left_a = f; right_a = g })
    (record { left = a'; right = b'; reset = c'; select = d'; mono = e'; left_a = f'; right_a = g' })
input_by_fields a b a' b' c d e f g c' d' e' f' g' p q r s t u v = cc

pub input_by_switches : (a b : Input) → switches_of a ≡ switches_of b → a ≡ b
input_by_switches a b h =
    input_by_fields a.left a.right b.left b.right _ _ _ _ _ _ _ _ _ _
    (stick_by_fields a.left.right a.left.left a.left.down a.left.up a.left.fire b.left.right b.left.left b.left.down b.left.up b.left.fire (cc) (cc) (cc) (cc) (cc))
    (stick_by_fields a.right.right a.right.left a.right.down a.right.up a.right.fire b.right.right b.right.left b.right.down b.right.up b.right.fire (cc) (cc) (cc) (cc) (cc))
    (let e : a.reset ≡ b.reset = cc in e) (let e : a.select ≡ b.select = cc in e) (let e : a.mono ≡ b.mono = cc in e)
    (let e : a.left_a ≡ b.left_a = cc in e) (let e : a.right_a ≡ b.right_a = cc in e)
