use Rattle.std.proofs.lemmas.Grind.{common_steps}
use Rattle.std.proofs.Common.{ap, length, arith}
use Rattle.tas_session.specs.Session.{SessionContent}
use Rattle.tas_session.proofs.session.Session.offer.Goals.{in-Ok, in-Err-Cartridge, in-Err-Memory}
use Rattle.tas_session.proofs.session.Session.offer.Goals as goal

pub returns-clause-few : goal.returns-clause-few
returns-clause-few g c = elim c.match-merge.branch [
  | in-Ok w ↦
      let bound = w.count-count.ensures.bounded _ c.merge.ensures.lawful in
      let count = w.count-count.ensures.count in
      let gained = w.in-Ok.ensures.kept in
      rw w.result-is (omega (arith, bound, count, gained))
  | in-Err-Cartridge w ↦ rw w.result-is tt
  | in-Err-Memory w ↦ rw w.result-is tt
]

pub returns-clause-kept : goal.returns-clause-kept
returns-clause-kept g c = elim c.match-merge.branch [
  | in-Ok w ↦
      let was = ap (λ (s : SessionContent _). length s.zone) c.self.view_is in
      let gained = w.in-Ok.ensures.kept in
      rw w.result-is (omega (arith, was, gained))
  | in-Err-Cartridge w ↦ rw w.result-is tt
  | in-Err-Memory w ↦ rw w.result-is tt
]

pub returns-clause-lawful : goal.returns-clause-lawful
returns-clause-lawful g c = grind (arith, common_steps)

pub merge-requires : goal.merge-requires
merge-requires g c = grind (arith, common_steps)

pub returns-clause-cartridge : goal.returns-clause-cartridge
returns-clause-cartridge g c = grind (arith, common_steps)

pub returns-clause-same : goal.returns-clause-same
returns-clause-same g c = grind (arith, common_steps)
