use Rattle.std.proofs.Common.{Option, None, Some, sym, subst, ◌∙◌}
use Rattle.std.specs.Prelude.{decimal}
use Rattle.byte_text.specs.Splitting.{NoByte}
use Rattle.byte_text.proofs.SplitLemmas.{no_parts}
use Rattle.tas_journal.proofs.ReadingLemmas.{place_cut, place_spaced, place_frames, place_is, placed_some, none_some, some_same}
use Rattle.tas_journal.proofs.entries.read_placed.Goals as goal

pub returns-in_default-clause-all : goal.returns-in_default-clause-all
returns-in_default-clause-all g c = λ at inputs small few is.
    let spaced = place_spaced c.args.text.now at inputs is in
    absurd (no_parts 32 (decimal at) spaced.0 (subst (NoByte 32) spaced.1 c.in_default.ensures.none))

pub returns-in_default-number-clause-all : goal.returns-in_default-number-clause-all
returns-in_default-number-clause-all g c = λ at inputs small few is.
    absurd (c.in_default-number.ensures.none at small (place_cut c.args.text.now _ _ at inputs c.in-Some.ensures.some.0 c.in-Some.ensures.some.1 small is).0)

pub returns-in-Some-2-clause-all : goal.returns-in-Some-2-clause-all
returns-in-Some-2-clause-all g c = λ at inputs small few is.
    let frames = place_frames c.args.text.now _ _ _ at inputs c.in-Some.ensures.some.0 c.in-Some.ensures.some.1 c.split_at.ensures.back small is in
    let found = c.in_ok-inputs.ensures.all inputs few frames in
    let number = place_is c.args.text.now _ _ at c.in-Some-number.at inputs c.in-Some.ensures.some.0 c.in-Some.ensures.some.1 small c.in-Some-number.ensures.some.1 c.in-Some-number.ensures.some.0 is in
    placed_some c.in-Some-number.at at c.in-Some-2.inputs inputs number (some_same c.in-Some-2.inputs inputs (sym c.in-Some-2.is ∙ found))

pub returns-in-None-clause-all : goal.returns-in-None-clause-all
returns-in-None-clause-all g c = λ at inputs small few is.
    let frames = place_frames c.args.text.now _ _ _ at inputs c.in-Some.ensures.some.0 c.in-Some.ensures.some.1 c.split_at.ensures.back small is in
    absurd (none_some inputs (sym c.in-None.is ∙ c.in_ok-inputs.ensures.all inputs few frames))
