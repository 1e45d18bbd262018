-- One instruction more of a run.
use Rattle.std.proofs.Common.{◌≡◌, ℕ, zero, suc, ◌≤◌, ◌∙◌, ap, sym, subst, refl, Bool, true, false, Option, Some, None, Result, Ok, Err, if◌then◌else◌, arith}
use Rattle.vcs_cpu.specs.declared.regs.Regs.{Regs}
use Rattle.vcs_cpu.specs.declared.halt.Halt.{Halt}
use Rattle.vcs_cpu.specs.Device.{Device}
use Rattle.vcs_cpu.specs.Steps.{Step, step_of}
use Rattle.vcs_cpu.specs.Runs.{RunEnd, Settling, run_within, over_or_next, end_or_next}
use Rattle.vcs_cpu.specs.Inside.Leading.{length_within, one_more, Leads, IsLedTo}

module _ {Content : Type 0} (d : Device Content) (settling : Settling Content) where
  -- one instruction of a run that doesn't stop before it, of which this is known
  run_within-step : (n k : ℕ) (r : Regs) (c : Content) (x : Result (Step Content) Halt) → settling.stops r c ≡ false → k ≡ suc n → step_of d r c ≡ x →
      run_within d settling k r c ≡ end_or_next d settling x r c (run_within d settling n)
  unfolding run_within
  run_within-step n k r c x going e s =
      ap (λ j. run_within d settling j r c) e
      ∙ ap (λ (b : Bool). if b then Some (record { regs = r; content = c; halt = None }) else end_or_next d settling (step_of d r c) r c (run_within d settling n)) going
      ∙ ap (λ (y : Result (Step Content) Halt). end_or_next d settling y r c (run_within d settling n)) s

  -- an instruction after which the bus settled
  pub run_within-settled : (n : ℕ) (r s : Regs) (c x y : Content) (time : ℕ) (over : Bool) → settling.stops r c ≡ false → step_of d r c ≡ Ok (record { regs = s; content = x; cycles = time }) → y ≡ settling.after x →
      over ≡ settling.is_over y → run_within d settling (suc n) r c ≡ (if over then Some (record { regs = s; content = y; halt = None }) else run_within d settling n s y)
  run_within-settled n r s c x y time over going stepped is h =
      run_within-step n (suc n) r c (Ok (record { regs = s; content = x; cycles = time })) going refl stepped
      ∙ ap (λ z. over_or_next d settling s z (run_within d settling n)) (sym is)
      ∙ ap (λ (b : Bool). if b then Some (record { regs = s; content = y; halt = None }) else run_within d settling n s y) (sym h)

  -- a halt
  pub run_within-halt : (n k : ℕ) (r : Regs) (c : Content) (halt : Halt) → settling.stops r c ≡ false → k ≡ suc n → step_of d r c ≡ Err halt →
      run_within d settling k r c ≡ Some (record { regs = r; content = c; halt = Some halt })
  run_within-halt n k r c halt going e s = run_within-step n k r c (Err halt) going e s

  -- a run that stops
  run_within-stop : (n : ℕ) (r : Regs) (c : Content) → settling.stops r c ≡ true → run_within d settling (suc n) r c ≡ Some (record { regs = r; content = c; halt = None })
  unfolding run_within
  run_within-stop n r c stop =
      ap (λ (b : Bool). if b then Some (record { regs = r; content = c; halt = None }) else end_or_next d settling (step_of d r c) r c (run_within d settling n)) stop

  -- without an instruction there is no end
  pub run_within-none : (k : ℕ) (r : Regs) (c : Content) → k ≡ zero → run_within d settling k r c ≡ None
  unfolding run_within
  run_within-none k r c e = ap (λ j. run_within d settling j r c) e

  -- a run that ends within n instructions ends so within more
  more_by_over : (over : Bool) (q : Regs) (x : Content) (e : RunEnd Content) (shorter longer : Regs → Content → Option (RunEnd Content)) →
      (shorter q x ≡ Some e → longer q x ≡ Some e) → (if over then Some (record { regs = q; content = x; halt = None }) else shorter q x) ≡ Some e →
      (if over then Some (record { regs = q; content = x; halt = None }) else longer q x) ≡ Some e
  more_by_over true q x e shorter longer more is = is
  more_by_over false q x e shorter longer more is = more is

  more_by_step : (step : Result (Step Content) Halt) (r : Regs) (c : Content) (e : RunEnd Content) (shorter longer : Regs → Content → Option (RunEnd Content)) →
      ((q : Regs) (x : Content) → shorter q x ≡ Some e → longer q x ≡ Some e) → end_or_next d settling step r c shorter ≡ Some e → end_or_next d settling step r c longer ≡ Some e
  more_by_step (Err halt) r c e shorter longer more is = is
  more_by_step (Ok step) r c e shorter longer more is =
      more_by_over (settling.is_over (settling.after step.content)) step.regs (settling.after step.content) e shorter longer (more step.regs (settling.after step.content)) is

  more_by_stop : (stop : Bool) (here shorter longer : Option (RunEnd Content)) (e : RunEnd Content) → (shorter ≡ Some e → longer ≡ Some e) →
      (if stop then here else shorter) ≡ Some e → (if stop then here else longer) ≡ Some e
  more_by_stop true here shorter longer e more is = is
  more_by_stop false here shorter longer e more is = more is

  run_within-more : (n more : ℕ) (r : Regs) (c : Content) (e : RunEnd Content) → n ≤ more → run_within d settling n r c ≡ Some e → run_within d settling more r c ≡ Some e
  unfolding run_within
  run_within-more zero more r c e few is = cc
  run_within-more (suc n) zero r c e few is = absurd (omega (arith, few))
  run_within-more (suc n) (suc more) r c e few is =
      more_by_stop (settling.stops r c) _ (end_or_next d settling (step_of d r c) r c (run_within d settling n)) (end_or_next d settling (step_of d r c) r c (run_within d settling more)) e
      (more_by_step (step_of d r c) r c e (run_within d settling n) (run_within d settling more) (λ q x. run_within-more n more q x e (omega (arith, few)))) is

  -- and takes as many
  same_by_over : (over : Bool) (q : Regs) (x : Content) (e : RunEnd Content) (ends : Regs → Content → Option (RunEnd Content)) (shorter longer : Regs → Content → ℕ) →
      (ends q x ≡ Some e → longer q x ≡ shorter q x) → (if over then Some (record { regs = q; content = x; halt = None }) else ends q x) ≡ Some e →
      (if over then zero else suc (longer q x)) ≡ (if over then zero else suc (shorter q x))
  same_by_over true q x e ends shorter longer same is = refl
  same_by_over false q x e ends shorter longer same is = ap suc (same is)

  same_by_step : (step : Result (Step Content) Halt) (r : Regs) (c : Content) (e : RunEnd Content) (ends : Regs → Content → Option (RunEnd Content)) (shorter longer : Regs → Content → ℕ) →
      ((q : Regs) (x : Content) → ends q x ≡ Some e → longer q x ≡ shorter q x) → end_or_next d settling step r c ends ≡ Some e → one_more d settling step longer ≡ one_more d settling step shorter
  same_by_step (Err halt) r c e ends shorter longer same is = refl
  same_by_step (Ok step) r c e ends shorter longer same is =
      same_by_over (settling.is_over (settling.after step.content)) step.regs (settling.after step.content) e ends shorter longer (same step.regs (settling.after step.content)) is

  same_by_stop : (stop : Bool) (here ends : Option (RunEnd Content)) (e : RunEnd Content) (shorter longer : ℕ) → (ends ≡ Some e → longer ≡ shorter) →
      (if stop then here else ends) ≡ Some e → (if stop then zero else longer) ≡ (if stop then zero else shorter)
  same_by_stop true here ends e shorter longer same is = refl
  same_by_stop false here ends e shorter longer same is = same is

  length_within-more : (n more : ℕ) (r : Regs) (c : Content) (e : RunEnd Content) → n ≤ more → run_within d settling n r c ≡ Some e →
      length_within d settling more r c ≡ length_within d settling n r c
  unfolding run_within length_within
  length_within-more zero more r c e few is = cc
  length_within-more (suc n) zero r c e few is = absurd (omega (arith, few))
  length_within-more (suc n) (suc more) r c e few is =
      same_by_stop (settling.stops r c) _ (end_or_next d settling (step_of d r c) r c (run_within d settling n)) e
      (one_more d settling (step_of d r c) (length_within d settling n)) (one_more d settling (step_of d r c) (length_within d settling more))
      (same_by_step (step_of d r c) r c e (run_within d settling n) (length_within d settling n) (length_within d settling more) (λ q x. length_within-more n more q x e (omega (arith, few)))) is

  -- an instruction that doesn't end the run
  length_within-settled : (n : ℕ) (r q : Regs) (c x y : Content) (time : ℕ) → settling.stops r c ≡ false → step_of d r c ≡ Ok (record { regs = q; content = x; cycles = time }) → y ≡ settling.after x →
      false ≡ settling.is_over y → length_within d settling (suc n) r c ≡ suc (length_within d settling n q y)
  unfolding length_within
  length_within-settled n r q c x y time going stepped is h =
      ap (λ (b : Bool). if b then zero else one_more d settling (step_of d r c) (length_within d settling n)) going
      ∙ ap (λ (z : Result (Step Content) Halt). one_more d settling z (length_within d settling n)) stepped
      ∙ ap (λ z. if settling.is_over z then zero else suc (length_within d settling n q z)) (sym is)
      ∙ ap (λ (b : Bool). if b then zero else suc (length_within d settling n q y)) (sym h)

  pub leads_on : (most : ℕ) (r q : Regs) (c x y : Content) (time : ℕ) → settling.stops r c ≡ false → step_of d r c ≡ Ok (record { regs = q; content = x; cycles = time }) → y ≡ settling.after x →
      false ≡ settling.is_over y → Leads d settling most r c q y
  unfolding Leads
  leads_on zero r q c x y time going stepped is h = λ e ends. let none = run_within-none zero r c refl in cc
  leads_on (suc n) r q c x y time going stepped is h = λ e ends.
      let there : run_within d settling n q y ≡ Some e = sym (run_within-settled n r q c x y time false going stepped is h) ∙ ends in
      let few : n ≤ suc n = omega arith in
      let before = length_within-settled n r q c x y time going stepped is h in
      let after = length_within-more n (suc n) q y e few there in
      (run_within-more n (suc n) q y e few there, omega (arith, before, after))

  -- one that ends it
  pub settled_end : (most : ℕ) (r q : Regs) (c x y : Content) (time : ℕ) (e : RunEnd Content) (halt : Option Halt) → halt ≡ None → settling.stops r c ≡ false →
      step_of d r c ≡ Ok (record { regs = q; content = x; cycles = time }) → y ≡ settling.after x → true ≡ settling.is_over y → run_within d settling most r c ≡ Some e →
      e ≡ record { regs = q; content = y; halt = halt }
  settled_end zero r q c x y time e halt none going stepped is h ends = let nothing = run_within-none zero r c refl in cc
  settled_end (suc n) r q c x y time e halt none going stepped is h ends =
      let there = run_within-settled n r q c x y time true going stepped is h in cc

  -- a halt that ends it
  pub halted_end : (most : ℕ) (r : Regs) (c : Content) (e : RunEnd Content) (why : Halt) → settling.stops r c ≡ false → step_of d r c ≡ Err why → run_within d settling most r c ≡ Some e →
      e ≡ record { regs = r; content = c; halt = Some why }
  halted_end zero r c e why going halts ends = let none = run_within-none zero r c refl in cc
  halted_end (suc n) r c e why going halts ends = let there = run_within-halt n (suc n) r c why going refl halts in cc

  -- one that stops
  pub stopped_end : (most : ℕ) (r : Regs) (c : Content) (e : RunEnd Content) (halt : Option Halt) → halt ≡ None → settling.stops r c ≡ true → run_within d settling most r c ≡ Some e →
      e ≡ record { regs = r; content = c; halt = halt }
  stopped_end zero r c e halt none stop ends = let nothing = run_within-none zero r c refl in cc
  stopped_end (suc n) r c e halt none stop ends = let there = run_within-stop n r c stop in cc

  -- two ways, one after the other
  pub leads_further : (most : ℕ) (r q p : Regs) (c x y : Content) → Leads d settling most r c q x → Leads d settling most q x p y → Leads d settling most r c p y
  unfolding Leads
  leads_further most r q p c x y first second = λ e ends.
      let there = first e ends in
      let further = second e there.0 in
      let sooner = there.1 in
      let yet_sooner = further.1 in
      (further.0, omega (arith, sooner, yet_sooner))

-- from a bus that has the same content and holds the same
pub led_from-same : {Bus Content Held : Type 0} (d : Device Content) (content_of : Bus → Content) (Settles : Bus → Bus → Bool → Type 0) (is_watched : Bus → ℕ → Bool) (Ready : Bus → Type 0) (held : Bus → Held)
    (r q : Regs) (bus other after : Bus) (over : Bool) (halt : Option Halt) → content_of other ≡ content_of bus → held other ≡ held bus →
    IsLedTo d content_of Settles is_watched Ready held r other over q after halt → IsLedTo d content_of Settles is_watched Ready held r bus over q after halt
led_from-same d content_of Settles is_watched Ready held r q bus other after over halt same fixed led = record {
  ends = λ s most e is settles ends. led.ends s most e is settles (ap (λ x. run_within d s most r x) same ∙ ends);
  goes_on = λ s most on settles. subst (λ x. Leads d s most r x q (content_of after)) same (led.goes_on s most on settles);
  going = led.going;
  ready = led.ready;
  fixed = led.fixed ∙ fixed;
}
