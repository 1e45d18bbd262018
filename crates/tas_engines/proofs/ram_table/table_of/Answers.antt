use Rattle.std.proofs.lemmas.Result.{err_from_is_err_and}
use Rattle.tas_engines.specs.Names.{names_of}
use Rattle.tas_engines.proofs.TableLemmas.{names_stop, range_stop}
use Rattle.tas_engines.proofs.ram_table.table_of.Goals as goal

pub returns-in_err-names-clause-fault : goal.returns-in_err-names-clause-fault
returns-in_err-names-clause-fault g c =
    let p = err_from_is_err_and c.from_residual-in_err-names.result c.from_residual-in_err-names.ensures.1 in
    rw (p.1, p.2) (names_stop c.args.from c.args.to c.args.image.now c.args.text.now c.args.bytes.now c.in_ok-movie.movie c.in_err-names.field-0.0 c.in_ok-movie.ensures c.in_err-names.ensures.fault)

pub returns-in_err-check_lines-clause-fault : goal.returns-in_err-check_lines-clause-fault
returns-in_err-check_lines-clause-fault g c =
    let p = err_from_is_err_and c.from_residual-in_err-check_lines.result c.from_residual-in_err-check_lines.ensures.1 in
    rw (p.1, p.2)
    (range_stop c.args.from c.args.to c.args.image.now c.args.text.now c.args.bytes.now c.in_ok-movie.movie (names_of c.in_ok-names.names.items) c.in_err-check_lines.field-0.0 c.in_ok-movie.ensures c.in_ok-names.ensures.read c.in_err-check_lines.ensures.fault)
