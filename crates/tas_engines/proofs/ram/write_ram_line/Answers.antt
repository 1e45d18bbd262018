use Rattle.std.proofs.lemmas.Grind.{common_steps}
use Rattle.std.proofs.Common.{ℕ, ◌++◌, ◌-◌, List, [], ◌∷◌, OnOk, IfErr, ◌∙◌, ap, subst, arith}
use Rattle.std.specs.Prelude.{decimal}
use Rattle.std.proofs.lemmas.Fmt.{length-decimal-le}
use Rattle.std.specs.Io.KnownBytes.{Appends}
use Rattle.byte_text.specs.CutOff.{IsCutOff}
use Rattle.tas_engines.proofs.StreamLemmas.{last_bytes}
use Rattle.tas_engines.proofs.ram.write_ram_line.Goals as goal

pub write_digits-start-requires : goal.write_digits-start-requires
write_digits-start-requires g c = (length-decimal-le 20 c.args.k (omega arith) (omega (arith, c.ranges.k.fits)) (omega (arith, c.ranges.k.fits)), omega arith)

pub returns-clause-all : goal.returns-clause-all
returns-clause-all g c =
    let text = last_bytes c.write_digits-start.new.buf c.write_digits-start.result c.args.k c.copy_from_slice.new.self c.copy_from_slice.ensures.len c.write_digits-start.ensures.start c.write_digits-start.ensures.written
    ∙ ap (λ (bs : List ℕ). decimal c.args.k ++ (32 ∷ []) ++ bs ++ (10 ∷ [])) (c.copy_from_slice.ensures.after ∙ c.ram_digits.ensures) in
    subst (λ (bs : List ℕ). OnOk c.write_counted.result (Appends (g.W.Write.contents c.args.output.now) (g.W.Write.contents c.write_counted.new.to) bs)) text c.write_counted.ensures.all

pub returns-clause-cut : goal.returns-clause-cut
returns-clause-cut g c =
    let text = last_bytes c.write_digits-start.new.buf c.write_digits-start.result c.args.k c.copy_from_slice.new.self c.copy_from_slice.ensures.len c.write_digits-start.ensures.start c.write_digits-start.ensures.written
    ∙ ap (λ (bs : List ℕ). decimal c.args.k ++ (32 ∷ []) ++ bs ++ (10 ∷ [])) (c.copy_from_slice.ensures.after ∙ c.ram_digits.ensures) in
    subst (λ (bs : List ℕ). IfErr c.write_counted.result (λ f. IsCutOff (g.W.Write.contents c.args.output.now) (g.W.Write.contents c.write_counted.new.to) bs (f.written - c.args.before))) text c.write_counted.ensures.cut

pub slice_bounds-write_digits-end : goal.slice_bounds-write_digits-end
slice_bounds-write_digits-end g c = grind (arith, common_steps)

pub returns-clause-count : goal.returns-clause-count
returns-clause-count g c = grind (arith, common_steps)
