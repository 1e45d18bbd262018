use Rattle.std.proofs.Common.{◌≡◌, ◌++◌, ◌∷◌, subst, arith}
use Rattle.std.specs.Prelude.{decimal}
use Rattle.byte_text.specs.Splitting.{NoByte}
use Rattle.byte_text.proofs.SplitLemmas.{no_parts}
use Rattle.tas_journal.specs.Text.{edit_text, entry_text, Fits}
use Rattle.tas_journal.specs.Recovery.{IsEntry}
use Rattle.tas_journal.proofs.ReadingLemmas.{entry_rest, seat_cut, entry_kept, ok_then, kept_none, kept_some}
use Rattle.tas_journal.proofs.entries.read_seated.Goals as goal

pub returns-in_default-clause-none : goal.returns-in_default-clause-none
returns-in_default-clause-none g c = λ asked is.
    no_parts 32 (decimal is.seat) (edit_text asked) (subst (NoByte 32) (entry_rest g.row.A.Denot c.args.number is.seat c.args.said.now c.args.rest.now asked c.requires is.text) c.in_default.ensures.none)

pub returns-in_default-read_seat-clause-none : goal.returns-in_default-read_seat-clause-none
returns-in_default-read_seat-clause-none g c = λ asked is.
    let tail = entry_rest g.row.A.Denot c.args.number is.seat c.args.said.now c.args.rest.now asked c.requires is.text in
    c.in_default-read_seat.ensures.none is.seat is.is_seat (seat_cut g.row.A.Denot c.args.rest.now _ _ is.seat asked c.in-Some.ensures.some.0 c.in-Some.ensures.some.1 is.is_seat tail).0

pub returns-clause-none : goal.returns-clause-none
returns-clause-none g c =
    kept_none (λ asked. IsEntry c.args.number c.args.said.now asked) c.keep_entry.result
    (ok_then _ _ c.keep_entry.result c.keep_entry.ensures.all
    (λ kept all asked is.
    let both = entry_kept g.row.A.Denot c.args.number c.in-Some-read_seat.seat c.args.said.now c.args.rest.now _ _ c.in_ok-found.found asked c.requires c.in-Some.ensures.some.0 c.in-Some.ensures.some.1 c.in-Some-read_seat.ensures.some (omega arith)
    c.in_ok-found.ensures.all is in
    all asked both.0 both.1))

pub returns-clause-some : goal.returns-clause-some
returns-clause-some g c =
    kept_some _ _ c.keep_entry.result c.keep_entry.ensures.some
    (λ asked holds. record { seat = c.in-Some-read_seat.seat; is_seat = omega arith; text = holds.0; fits = holds.1 })
