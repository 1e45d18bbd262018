use Rattle.std.proofs.Common.{◌≡◌, ◌≤◌, length, false, get_or}
use Rattle.vcs_tia.specs.Inside.Rows.{number_of}
use Rattle.vcs_tia.proofs.chip.flags.word_of.Given as goal

-- the word has the bits so far
abbrev pub invariant-loop-i : goal.invariant-loop-i
invariant-loop-i l = (l.word ≡ number_of (λ k. get_or l.flags k false) l.i) × (l.i ≤ length l.flags)
