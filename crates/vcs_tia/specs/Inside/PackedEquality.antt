-- `==` of packed TIAs is that of TIAs.
use Rattle.std.specs.Prelude.{Bool}
use Rattle.std.specs.Cmp.{IsEquivalence, IsPartialEquivalence}
use Rattle.vcs_tia.specs.declared.chip.Tia.{Tia}
use Rattle.vcs_tia.specs.contracts.chip.TiaPartialEq.TheImpl as tia
use Rattle.vcs_tia.specs.contracts.chip.TiaPartialEq.TheImpl.Laws as tia_laws
use Rattle.vcs_tia.specs.contracts.chip.TiaEq.TheImpl.Laws as tia_eq_laws

-- whether two TIAs are alike
abbrev pub are_same_tias : Tia → Tia → Bool
are_same_tias = tia.ghosts.eq

pub same_tias_laws : IsPartialEquivalence are_same_tias
same_tias_laws = tia_laws.laws-law

pub same_tias_equivalence : IsEquivalence are_same_tias
same_tias_equivalence = tia_eq_laws.laws-law
