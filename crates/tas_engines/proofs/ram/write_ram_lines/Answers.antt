use Rattle.std.proofs.Common.{◌≡◌, ◌+◌, ◌-◌, ◌++◌, ℕ, List, length, length-append, ap, subst, ◌∙◌, arith}
use Rattle.std.specs.Io.KnownBytes.{Appends}
use Rattle.std.proofs.KnownBytes.{Appends-nil, Appends-trans}
use Rattle.std.proofs.lemmas.Result.{err_from_is_err_and}
use Rattle.vcs_machine.specs.declared.state.State.{State}
use Rattle.byte_text.specs.CutOff.{IsCutOff}
use Rattle.tas_engines.specs.Inside.RamLines.{told_names}
use Rattle.tas_engines.specs.Ram.{bytes_line, ram_line}
use Rattle.tas_engines.proofs.StreamLemmas.{pieces, pieces_none, pieces_more, pieces_around, cut_within}
use Rattle.tas_engines.proofs.ram.write_ram_lines.Goals as goal

pub loop-k-init : goal.loop-k-init
loop-k-init g c =
    let line = ram_line (told_names c.args.lines.now.names) c.args.movie.now in
    let none = pieces_none line c.args.lines.now.from in
    let zero : 0 ≡ length (pieces line c.args.lines.now.from c.args.lines.now.from) = ap (λ (bs : List ℕ). length bs) none in
    record {
      state = c.pass_frames-state.ensures;
      out = subst (Appends _ _) none (Appends-nil _);
      count = omega (arith, zero);
      most = omega arith;
      size = c.requires.size;
      room = c.requires.longest;
    }

pub write_line-requires : goal.write_line-requires
write_line-requires g c = record {
  size = c.loop-k.invariant.size;
  most = c.loop-k.invariant.room;
  room = omega (arith, c.loop-k-test.true, c.loop-k.invariant.most, c.requires.most, c.requires.range.within, c.requires.before);
}

pub returns-in_err-written-clause-cut : goal.returns-in_err-written-clause-cut
returns-in_err-written-clause-cut g c =
    let p = err_from_is_err_and c.from_residual.result c.from_residual.ensures.1 in
    let names = told_names c.args.lines.now.names in
    let line = ram_line names c.args.movie.now in
    let from = c.args.lines.now.from in
    let k = c.loop-k.k in
    let to = c.args.lines.now.to in
    let same = ap (bytes_line names k) (c.ram.ensures ∙ ap (λ (s : State). s.riot.ram) c.loop-k.invariant.state) in
    let old = g.W.Write.contents c.args.output.now in
    let mid = g.W.Write.contents c.loop-k.output in
    let new = g.W.Write.contents c.write_line.new.output in
    let w = c.in_err-written.field-0.0.written in
    let done = c.loop-k.written in
    let b = c.args.before in
    let part : w - done ≡ (w - b) - (done - b) = omega (arith, c.loop-k.invariant.count, c.in_err-written.ensures.from) in
    let cut = subst (λ (n : ℕ). IsCutOff mid new (line k) n) part (subst (λ (bs : List ℕ). IsCutOff mid new bs (w - done)) same c.in_err-written.ensures.cut) in
    let whole = cut_within old mid new (pieces line from k) (line k) (pieces line (k + 1) to) (done - b) (w - b) (omega (arith, c.loop-k.invariant.count)) (omega (arith, c.loop-k.invariant.count, c.in_err-written.ensures.from)) c.loop-k.invariant.out cut in
    let around = pieces_around line from k to (omega (arith, c.loop-k.auto.k)) (omega (arith, c.loop-k-test.true)) in
    rw (p.1, p.2) (subst (λ (bs : List ℕ). IsCutOff old new bs (w - b)) around whole)

pub loop-k-preserved : goal.loop-k-preserved
loop-k-preserved g c =
    let names = told_names c.args.lines.now.names in
    let line = ram_line names c.args.movie.now in
    let from = c.args.lines.now.from in
    let k = c.loop-k.k in
    let same = ap (bytes_line names k) (c.ram.ensures ∙ ap (λ (s : State). s.riot.ram) c.loop-k.invariant.state) in
    let more = ap (λ (bs : List ℕ). pieces line from k ++ bs) same ∙ pieces_more line from k (omega (arith, c.loop-k.auto.k)) in
    let longer = ap (λ (bs : List ℕ). length bs) more in
    record {
      state = c.pass_frame.ensures;
      out = subst (Appends _ _) more (Appends-trans _ _ _ _ _ c.loop-k.invariant.out c.in_ok-written.ensures.all);
      count = omega (arith, c.in_ok-written.ensures.count, c.loop-k.invariant.count, length-append (pieces line from k) (bytes_line names k c.ram.result), longer);
      most = omega (arith, c.in_ok-written.ensures.longest, c.loop-k.invariant.most, c.loop-k.auto.k);
      size = c.write_line.ensures.len ∙ c.loop-k.invariant.size;
      room = omega (arith, c.write_line.ensures.len, c.loop-k.invariant.room);
    }

pub returns-clause-all : goal.returns-clause-all
returns-clause-all g c =
    let ended : c.loop-k.k ≡ c.args.lines.now.to = omega (arith, c.loop-k-test.false, c.loop-k.auto.k-end, c.requires.range.order) in
    subst (λ (k : ℕ). Appends (g.W.Write.contents c.args.output.now) (g.W.Write.contents c.loop-k.output) (pieces (ram_line (told_names c.args.lines.now.names) c.args.movie.now) c.args.lines.now.from k)) ended c.loop-k.invariant.out
