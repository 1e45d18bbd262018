use Rattle.std.proofs.lemmas.Grind.{common_steps}
use Rattle.std.proofs.Common.{◌≡◌, ◌+◌, ◌*◌, ◌<◌, ◌++◌, ℕ, List, length, min, sym, ap, inl, inr, ◌∙◌, append-nil, append_assoc, arith}
use Rattle.std.proofs.lemmas.Bool.{cases_lt}
use Rattle.vcs_machine.specs.Machine.{power_on}
use Rattle.tas_green.specs.Run.{state_after}
use Rattle.tas_green.proofs.RunLemmas.{after_none}
use Rattle.tas_engines.specs.declared.digest.Stretch.{Stretch}
use Rattle.tas_engines.specs.Digests.{stretch_text, stretch_line, line_of_stretch}
use Rattle.tas_engines.proofs.DigestLemmas.{begins, ends, covers}
use Rattle.tas_engines.proofs.StreamLemmas.{pieces, pieces_more}
use Rattle.tas_engines.proofs.digest.push_stretches.Goals as goal

pub loop-i-init : goal.loop-i-init
loop-i-init g c =
    let movie = c.args.movie.now in
    let none : 0 ≡ min (0 * c.args.every) (length c.args.movie.now.inputs) = omega arith in
    record {
      state = c.power_on-state.ensures ∙ ap power_on c.cart.ensures ∙ after_none movie.cart movie.inputs ∙ ap (state_after movie) none;
      drawn = λ f lt. absurd (omega (arith, lt));
      hashed = c.in_ok-pixmaps.ensures;
      text = sym (append-nil c.args.out.now.items);
    }

pub digest_stretch-requires-clause-order : goal.digest_stretch-requires-clause-order
digest_stretch-requires-clause-order g c =
    let lt = begins c.args.every c.len-len.result c.loop-i.i c.requires (omega (arith, c.loop-i-test.true, c.div_ceil-i-end.ensures)) in
    omega (arith, lt, c.requires, c.min.ensures)

pub loop-i-preserved : goal.loop-i-preserved
loop-i-preserved g c =
    let movie = c.args.movie.now in
    let every = c.args.every in
    let i = c.loop-i.i in
    let inside = begins every c.len-len.result i c.requires (omega (arith, c.loop-i-test.true, c.div_ceil-i-end.ensures)) in
    let lt : c.loop-i.i * c.args.every < length c.args.movie.now.inputs = omega (arith, inside, c.len-len.ensures.len) in
    let to : c.loop-i.i * c.args.every + c.min.result ≡ min ((c.loop-i.i + 1) * c.args.every) (length c.args.movie.now.inputs) =
    omega (arith, ends c.args.every (length c.args.movie.now.inputs) c.loop-i.i c.requires lt, c.min.ensures, c.len-len.ensures.len) in
    let shown = ap (λ (s : Stretch). c.loop-i.out.items ++ stretch_text s.from s.to s.ram s.picture) c.in_ok-stretch.ensures.digests in
    let line = ap (λ (end : ℕ). c.loop-i.out.items ++ stretch_line movie (i * every) end) to in
    record {
      state = c.in_ok-stretch.ensures.state ∙ ap (state_after movie) to;
      drawn = λ f below.
          elim (cases_lt f (i * every)) [
            | inl before ↦ c.loop-i.invariant.drawn f (omega (arith, before, lt))
            | inr here ↦ c.in_ok-stretch.ensures.drawn f here (omega (arith, below, to))
          ];
      hashed = c.in_ok-stretch.ensures.hashed;
      text = c.in_ok-push_stretch.ensures ∙ shown ∙ line ∙ ap (λ (bs : List ℕ). bs ++ line_of_stretch every movie i) c.loop-i.invariant.text
          ∙ append_assoc c.args.out.now.items (pieces (line_of_stretch every movie) 0 i) (line_of_stretch every movie i)
          ∙ ap (λ (bs : List ℕ). c.args.out.now.items ++ bs) (pieces_more (line_of_stretch every movie) 0 i (omega arith));
    }

pub returns-clause-drawn : goal.returns-clause-drawn
returns-clause-drawn g c = λ k lt.
    let ended : c.loop-i.i ≡ c.div_ceil-i-end.result = omega (arith, c.loop-i-test.false, c.loop-i.auto.i-end) in
    let all = covers c.args.every c.len-len.result c.loop-i.i c.requires (ended ∙ c.div_ceil-i-end.ensures) in
    c.loop-i.invariant.drawn k (omega (arith, lt, all, c.len-len.ensures.len))

pub overflow_sub-len : goal.overflow_sub-len
overflow_sub-len g c = grind (arith, common_steps)

pub overflow_mul-from : goal.overflow_mul-from
overflow_mul-from g c = grind (arith, common_steps)

pub overflow_add-to : goal.overflow_add-to
overflow_add-to g c = grind (arith, common_steps)

pub digest_stretch-requires-clause-within : goal.digest_stretch-requires-clause-within
digest_stretch-requires-clause-within g c = grind (arith, common_steps)

pub digest_stretch-requires-clause-start : goal.digest_stretch-requires-clause-start
digest_stretch-requires-clause-start g c = grind (arith, common_steps)
