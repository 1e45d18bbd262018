use Rattle.std.proofs.Common.{arith}
use Rattle.std.proofs.lemmas.Grind.{common_steps}
use Rattle.vcs_tia.proofs.chip.Tia.write_ctrlpf.Goals as goal

pub returns : goal.returns
returns c = grind (arith, common_steps)

pub returns-then-not-is_unseen_ctrlpf : goal.returns-then-not-is_unseen_ctrlpf
returns-then-not-is_unseen_ctrlpf c = grind (arith, common_steps)
