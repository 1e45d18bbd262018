-- A read that shows no pin gives the same whatever the pins show.
use Rattle.std.proofs.Common.{◌≡◌, ℕ, zero, suc, ◌%◌, ◌==◌, Bool, true, false, not, ◌∙◌, ap, sym, refl, [], ◌∷◌, slice_index, slice_index_or, if◌then◌else◌}
use Rattle.std.proofs.lemmas.Bool.{eqb-true, false≢true}
use Rattle.vcs_riot.specs.declared.chip.Riot.{Riot}
use Rattle.vcs_riot.specs.declared.chip.Pins.{Pins}
use Rattle.vcs_riot.specs.declared.port.Port.{Port}
use Rattle.vcs_riot.specs.Address.{is_high}
use Rattle.vcs_riot.specs.Port.{shown, has_input}
use Rattle.vcs_riot.specs.Chip.{byte_at, shows_pin, port_byte_at, port_shows_pin, timer_byte_at}

not_false : (b : Bool) → not b ≡ false → b ≡ true
not_false true h = refl
not_false false h = absurd (false≢true (sym h))

outputs_alone : (latch direction p q : ℕ) → direction ≡ 255 → shown p (record { latch = latch; direction = direction }) ≡ shown q (record { latch = latch; direction = direction })
unfolding shown
outputs_alone latch direction p q e =
    ap (λ (d : ℕ). shown p (record { latch = latch; direction = d })) e ∙ sym (ap (λ (d : ℕ). shown q (record { latch = latch; direction = d })) e)

shown-pins : (port : Port) (p q : ℕ) → has_input port ≡ false → shown p port ≡ shown q port
shown-pins port p q h = outputs_alone port.latch port.direction p q (eqb-true port.direction 255 (not_false (port.direction == 255) h))

one_of_four : (k a b c d x y : ℕ) (left right : Bool) → (left ≡ false → a ≡ x) → (right ≡ false → c ≡ y) →
    slice_index_or (left ∷ false ∷ right ∷ false ∷ []) k false ≡ false → slice_index (a ∷ b ∷ c ∷ d ∷ []) k ≡ slice_index (x ∷ b ∷ y ∷ d ∷ []) k
one_of_four zero a b c d x y left right e f h = e h
one_of_four (suc zero) a b c d x y left right e f h = refl
one_of_four (suc (suc zero)) a b c d x y left right e f h = f h
one_of_four (suc (suc (suc k))) a b c d x y left right e f h = refl

port_byte-pins : (addr : ℕ) (p q : Pins) (r : Riot) → port_shows_pin addr r ≡ false → port_byte_at addr p r ≡ port_byte_at addr q r
port_byte-pins addr p q r h =
    one_of_four (addr % 4) (shown p.a r.port_a) r.port_a.direction (shown p.b r.port_b) r.port_b.direction (shown q.a r.port_a) (shown q.b r.port_b)
    (has_input r.port_a) (has_input r.port_b) (shown-pins r.port_a p.a q.a) (shown-pins r.port_b p.b q.b) h

by_lines : (nine two shows : Bool) (timer x y ram : ℕ) → (shows ≡ false → x ≡ y) → (if nine then (if two then false else shows) else false) ≡ false →
    (if nine then (if two then timer else x) else ram) ≡ (if nine then (if two then timer else y) else ram)
by_lines true true shows timer x y ram e h = refl
by_lines true false shows timer x y ram e h = e h
by_lines false two shows timer x y ram e h = refl

pub byte-pins : (addr : ℕ) (p q : Pins) (r : Riot) → shows_pin addr r ≡ false → byte_at addr p r ≡ byte_at addr q r
byte-pins addr p q r h =
    by_lines (is_high 9 addr) (is_high 2 addr) (port_shows_pin addr r) (timer_byte_at addr r.timer) (port_byte_at addr p r) (port_byte_at addr q r)
    (slice_index r.ram (addr % 128)) (port_byte-pins addr p q r) h
