use Rattle.std.proofs.lemmas.Result.{err_from_is_err_and}
use Rattle.tas_engines.specs.Names.{names_of}
use Rattle.tas_engines.proofs.TableLemmas.{IsTable, head_ends, lines_end, table_ends}
use Rattle.tas_engines.proofs.ram_table.show_table.Goals as goal

pub returns-in_err-written : goal.returns-in_err-written
returns-in_err-written g c =
    let p = err_from_is_err_and c.from_residual-in_err-written.result c.from_residual-in_err-written.ensures.1 in
    let t : IsTable c.args.range.from c.args.range.to c.args.image.now c.args.text.now c.args.bytes.now c.in_ok-table.table.head.items c.in_ok-table.table.movie (names_of c.in_ok-table.table.names.items) =
    record { movie_is = c.in_ok-table.ensures.movie; names_are = c.in_ok-table.ensures.names; range = c.in_ok-table.ensures.range; head_is = c.in_ok-table.ensures.head } in
    rw (p.1, p.2) (head_ends _ _ _ _ _ _ _ _ _ _ c.in_err-written.field-0.0.written t (rw c.as_slice-2.ensures.value at c.in_err-written.ensures.cut))

pub returns-in_err-write_ram_lines : goal.returns-in_err-write_ram_lines
returns-in_err-write_ram_lines g c =
    let p = err_from_is_err_and c.from_residual-in_err-write_ram_lines.result c.from_residual-in_err-write_ram_lines.ensures.1 in
    let t : IsTable c.args.range.from c.args.range.to c.args.image.now c.args.text.now c.args.bytes.now c.in_ok-table.table.head.items c.in_ok-table.table.movie (names_of c.in_ok-table.table.names.items) =
    record { movie_is = c.in_ok-table.ensures.movie; names_are = c.in_ok-table.ensures.names; range = c.in_ok-table.ensures.range; head_is = c.in_ok-table.ensures.head } in
    rw (p.1, p.2)
    (lines_end _ _ _ _ _ _ _ _ _ _ _ _ c.in_err-write_ram_lines.field-0.0.written t (rw c.as_slice-2.ensures.value at c.in_ok-written.ensures.count) c.in_err-write_ram_lines.ensures.from (rw c.as_slice-2.ensures.value at c.in_ok-written.ensures.all)
    (rw c.as_slice.ensures.value at c.in_err-write_ram_lines.ensures.cut))

pub returns : goal.returns
returns g c =
    let t : IsTable c.args.range.from c.args.range.to c.args.image.now c.args.text.now c.args.bytes.now c.in_ok-table.table.head.items c.in_ok-table.table.movie (names_of c.in_ok-table.table.names.items) =
    record { movie_is = c.in_ok-table.ensures.movie; names_are = c.in_ok-table.ensures.names; range = c.in_ok-table.ensures.range; head_is = c.in_ok-table.ensures.head } in
    table_ends _ _ _ _ _ _ _ _ _ _ _ t (rw c.as_slice-2.ensures.value at c.in_ok-written.ensures.all) (rw c.as_slice.ensures.value at c.in_ok-write_ram_lines.ensures.all)
