-- `==` of registers and of halts is true only where they are equal.
use Rattle.std.proofs.Common.{◌≡◌, true}
use Rattle.std.proofs.lemmas.Bool.{eqb-true}
use Rattle.std.specs.Cmp.{booleans_Decides, first_so, second_so}
use Rattle.vcs_cpu.specs.declared.regs.Regs.{Regs}
use Rattle.vcs_cpu.specs.declared.halt.Halt.{Halt}
use Rattle.vcs_cpu.specs.declared.halt.Halt.TheVariants.{Undocumented}
use Rattle.vcs_cpu.specs.contracts.regs.RegsPartialEq.TheImpl as regs
use Rattle.vcs_cpu.specs.contracts.halt.HaltPartialEq.TheImpl as halt

pub same_regs : (a b : Regs) → regs.ghosts.eq a b ≡ true → a ≡ b
same_regs a b h0 =
    let h1 = second_so _ _ h0 in
    let h2 = second_so _ _ h1 in
    let h3 = second_so _ _ h2 in
    let h4 = second_so _ _ h3 in
    let h5 = second_so _ _ h4 in
    let h6 = second_so _ _ h5 in
    let h7 = second_so _ _ h6 in
    let h8 = second_so _ _ h7 in
    let h9 = second_so _ _ h8 in
    let h10 = second_so _ _ h9 in
    λ i. record {
      a = eqb-true a.a b.a (first_so _ _ h0) i;
      x = eqb-true a.x b.x (first_so _ _ h1) i;
      y = eqb-true a.y b.y (first_so _ _ h2) i;
      s = eqb-true a.s b.s (first_so _ _ h3) i;
      pc = eqb-true a.pc b.pc (first_so _ _ h4) i;
      n = (booleans_Decides a.n b.n).0 (first_so _ _ h5) i;
      v = (booleans_Decides a.v b.v).0 (first_so _ _ h6) i;
      d = (booleans_Decides a.d b.d).0 (first_so _ _ h7) i;
      i = (booleans_Decides a.i b.i).0 (first_so _ _ h8) i;
      z = (booleans_Decides a.z b.z).0 (first_so _ _ h9) i;
      c = (booleans_Decides a.c b.c).0 h10 i;
    }

pub same_halt : (a b : Halt) → halt.ghosts.eq a b ≡ true → a ≡ b
same_halt (Undocumented at opcode) (Undocumented at' opcode') h = λ i. Undocumented (eqb-true at at' (first_so _ _ h) i) (eqb-true opcode opcode' (second_so _ _ h) i)
