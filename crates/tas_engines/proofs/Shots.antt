-- What a shot answers.
use Rattle.std.proofs.Common.{◌≡◌, ℕ, ◌+◌, ◌<◌, length, Option, Some, None, Result, Ok, Err, OnOk, refl}
use Rattle.vcs_cpu.specs.declared.halt.Halt.{Halt}
use Rattle.vcs_cpu.specs.declared.halt.Halt.TheVariants.{Undocumented}
use Rattle.tas_movie.specs.Content.{MovieContent}
use Rattle.tas_green.specs.Run.{answer_of, state_after}
use Rattle.tas_engines.specs.declared.fault.RunFault.{RunFault}
use Rattle.tas_engines.specs.Shooting.{halt_fault, IsShotFault}

pub no_halt : (answer : Result (Unit {0}) Halt) (u : Unit {0}) (halt : Option Halt) → answer ≡ answer_of halt → answer ≡ Ok u → halt ≡ None
no_halt answer u None is ok = refl
no_halt answer u (Some h) is ok = cc

pub the_halt : (answer : Result (Unit {0}) Halt) (h : Halt) (halt : Option Halt) → answer ≡ answer_of halt → answer ≡ Err h → halt ≡ Some h
the_halt answer h None is err = cc
the_halt answer h (Some h') is err = cc

pub when_ok : (answer : Result (Unit {0}) Halt) (u : Unit {0}) (P : Type 0) → answer ≡ Ok u → OnOk answer P → P
when_ok (Ok u') u P is p = p
when_ok (Err h) u P is p = cc

pub stopped_shot : (movie : MovieContent) (k : ℕ) (halt : Halt) (fault : RunFault) → fault ≡ halt_fault halt → k < length movie.inputs → (state_after movie (k + 1)).halt ≡ Some halt → IsShotFault movie k fault
stopped_shot movie k (Undocumented at opcode) fault told lt is = rw told (lt, is)
