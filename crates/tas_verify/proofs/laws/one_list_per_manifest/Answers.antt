use Rattle.tas_verify.proofs.OneManifest.{one_list, no_fault, one_fault}
use Rattle.tas_verify.proofs.laws.one_list_per_manifest.Goals as goal

pub returns : goal.returns
returns c = record { list = one_list; fault = no_fault; line = one_fault }
