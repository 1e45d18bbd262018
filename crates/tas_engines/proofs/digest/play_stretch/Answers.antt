use Rattle.std.proofs.lemmas.Grind.{common_steps}
use Rattle.std.proofs.Common.{◌≡◌, ◌+◌, ◌-◌, ◌++◌, ℕ, List, None, sym, ap, subst, refl, inl, inr, ◌∙◌, arith}
use Rattle.std.proofs.lemmas.Bool.{cases_eq}
use Rattle.hex.specs.Hex.{encode_lower}
use Rattle.sha2.specs.Sha256.{sha256}
use Rattle.sha2.specs.Hashers.{Holds256}
use Rattle.vcs_machine.specs.declared.state.State.{State}
use Rattle.tas_green.specs.Run.{state_after}
use Rattle.tas_engines.specs.Ram.{ram_after}
use Rattle.tas_engines.specs.Digests.{ram_of_frames}
use Rattle.tas_engines.proofs.Shots.{no_halt}
use Rattle.tas_engines.proofs.StreamLemmas.{pieces_more}
use Rattle.tas_engines.proofs.digest.play_stretch.Goals as goal

pub loop-k-preserved : goal.loop-k-preserved
loop-k-preserved g c =
    let movie = c.args.movie.now in
    let from = c.args.from in
    let k = c.loop-k.k in
    let none = no_halt _ _ _ c.in_ok-hash_ram.ensures.answer refl in
    let more = ap (λ (r : List ℕ). ram_of_frames movie from k ++ r) (ap (λ (s : State). s.riot.ram) c.pass_frame.ensures)
    ∙ pieces_more (λ f. ram_after movie (f + 1)) from k (omega (arith, c.loop-k.auto.k)) in
    record {
      state = c.pass_frame.ensures;
      holds = subst (Holds256 c.hash_ram.new.hasher) more (c.in_ok-hash_ram.ensures.ram (ram_of_frames movie from k) c.loop-k.invariant.holds);
      drawn = λ f low lt.
          elim (cases_eq f k) [
            | inl same ↦ subst (λ (n : ℕ). (state_after movie (n + 1)).halt ≡ None) (sym same) (sym (ap (λ (s : State). s.halt) c.pass_frame.ensures) ∙ none)
            | inr apart ↦ c.loop-k.invariant.drawn f low (omega (arith, lt, apart))
          ];
    }

pub returns-clause-ram : goal.returns-clause-ram
returns-clause-ram g c =
    let movie = c.args.movie.now in
    let from = c.args.from in
    let k = c.loop-k.k in
    let at : c.args.to - 1 ≡ c.loop-k.k = omega (arith, c.loop-k-test.false, c.loop-k.auto.k-end, c.requires.order) in
    let ended : c.loop-k.k + 1 ≡ c.args.to = omega (arith, c.loop-k-test.false, c.loop-k.auto.k-end, c.requires.order) in
    let last = c.ram.ensures ∙ ap (λ (s : State). s.riot.ram) c.draw_frame.ensures.state ∙ ap (λ (n : ℕ). ram_after movie (n + 1)) at in
    let more = ap (λ (r : List ℕ). ram_of_frames movie from k ++ r) last ∙ pieces_more (λ f. ram_after movie (f + 1)) from k (omega (arith, c.loop-k.auto.k)) ∙ ap (ram_of_frames movie from) ended in
    c.digits_of.ensures ∙ ap encode_lower (c.finalize.ensures (ram_of_frames movie from k ++ c.ram.result) (c.update.ensures (ram_of_frames movie from k) c.loop-k.invariant.holds) ∙ ap sha256 more)

pub draw_frame-requires-clause-start : goal.draw_frame-requires-clause-start
draw_frame-requires-clause-start g c = grind (arith, common_steps)

pub returns-clause-state : goal.returns-clause-state
returns-clause-state g c = grind (arith, common_steps)
