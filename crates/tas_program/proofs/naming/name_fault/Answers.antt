use Rattle.std.proofs.Common.{map, sym}
use Rattle.tas_program.proofs.NamingLemmas.{named_second, named_alone}
use Rattle.tas_program.proofs.naming.name_fault.Goals as goal

pub returns-in-Some : goal.returns-in-Some
returns-in-Some g c =
    named_second c.args.roles (map (λ bytes. bytes.items) c.args.inputs.now) c.args.fault c.in-Some.place c.role_of-role.result c.bytes_of-image.result.now c.bytes_of-text.result.now c.name_text.result
    (sym c.in-Some.ensures) c.role_of-role.ensures c.bytes_of-image.ensures c.bytes_of-text.ensures c.name_text.ensures

pub returns-in-None : goal.returns-in-None
returns-in-None g c = named_alone c.args.roles (map (λ bytes. bytes.items) c.args.inputs.now) c.args.fault (sym c.in-None.ensures)
