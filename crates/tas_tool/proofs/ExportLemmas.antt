-- The export of a movie that was made by two edits.
use Rattle.std.proofs.Common.{◌≡◌, ℕ, ◌-◌, ◌≤◌, List, length, take, Option, Result, Ok, Err, inl, inr, refl, sym, ap, subst, ◌∙◌, arith}
use Rattle.std.specs.Prelude.{IfErr}
use Rattle.std.proofs.lemmas.List.{take-append-le, take_all}
use Rattle.std.proofs.KnownBytes.{Keeps-refl}
use Rattle.std.specs.Io.KnownBytes.{Keeps}
use Rattle.byte_text.specs.CutOff.{IsCutOff}
use Rattle.vcs_cpu.specs.declared.halt.Halt.{Halt}
use Rattle.vcs_cpu.specs.declared.halt.Halt.TheVariants.{Undocumented}
use Rattle.tas_movie.specs.Content.{MovieContent}
use Rattle.tas_published.specs.declared.entry.Entry.{Entry}
use Rattle.tas_desk.specs.declared.export.Exported.{Exported}
use Rattle.tas_film.specs.declared.runs.ExportPlan.{ExportPlan}
use Rattle.tas_desk.specs.declared.export.ExportError.{ExportError}
use Rattle.tas_desk.specs.declared.export.ExportError.TheVariants.{Range as OffRange, Memory as OutOfRoom, Halted as HaltedAt, Write as WriteFailed}
use Rattle.tas_published.specs.History.{movie_of, entries_of}
use Rattle.tas_published.specs.Strokes.{edits_in}
use Rattle.tas_desk.specs.Seats.{SeatContent, HasSeen}
use Rattle.tas_desk.specs.Zones.{ZoneContent}
use Rattle.tas_desk.specs.Exports.{IsInRange, IsExport}
use Rattle.tas_film.specs.Frames.{AllDrawn, pixmaps_of}
use Rattle.tas_engines.specs.declared.fault.RunFault.{RunFault}
use Rattle.tas_engines.specs.declared.fault.RunFault.TheVariants.{Write, Size, Text, NoFrame, Range, Halted, HaltedFrame, Script, Place, Long, Names as NoNames, NoPlace, NoEntry, Foreign, Memory}
use Rattle.tas_engines.specs.Movies.{IsMovieOf}
use Rattle.tas_engines.specs.Shooting.{halt_fault}
use Rattle.tas_engines.specs.Output.{Ends}
use Rattle.tas_tool.specs.Pixmaps.{IsPixmapsAnswer, IsExportAnswer}
use Rattle.tas_tool.specs.Inside.TwoEdits.{export_end, HoldsMovie, IsMakingFault, StandsAtOwn, unless_foreign}
use Rattle.tas_tool.proofs.CheckedLemmas.{longer, more_than, foreign_cases}

pub still_holds : {A : Type 0} (before now : SeatContent A) (movie : MovieContent) → HasSeen before now → HoldsMovie before movie → HoldsMovie now movie
still_holds {A} before now movie seen holds =
    let more = longer before now seen in
    let two = holds.seen in
    let first : take 2 now.front ≡ take 2 before.front = ap (λ (l : List (Entry A)). take 2 l) (sym seen.begins.1) ∙ take-append-le 2 before.front seen.begins.0 two in
    record {
      made = seen.made ∙ holds.made;
      seen = omega (arith, more, two);
      own = ap (λ (k : ℕ). entries_of k (take 2 now.front)) seen.number ∙ ap (λ (l : List (Entry A)). entries_of before.number l) first ∙ holds.own;
      edits = ap (λ (l : List (Entry A)). edits_in l) first ∙ holds.edits;
      movie_is = ap (λ (l : List (Entry A)). movie_of l) first ∙ holds.movie_is;
    }

-- the movie of a seat that has seen no others' edits
own_movie : {A : Type 0} (seat : SeatContent A) (movie : MovieContent) → HoldsMovie seat movie → length seat.front ≤ seat.made → movie_of seat.front ≡ movie
own_movie {A} seat movie holds le =
    let made = holds.made in
    ap (λ (l : List (Entry A)). movie_of l) (sym (take_all 2 seat.front (omega (arith, made, le)))) ∙ holds.movie_is

-- what an export does at the movie that the seat sees, it does at this one
pub at_movie : {A : Type 0} (seat : SeatContent A) (movie : MovieContent) (from to : ℕ) (old new : Option (List ℕ)) (end : Result (Unit {0}) RunFault) → HoldsMovie seat movie
    → Ends (IsPixmapsAnswer (movie_of seat.front) from to) old new end → length seat.front ≤ seat.made → Ends (IsPixmapsAnswer movie from to) old new end
at_movie {A} seat movie from to old new end holds ends le = subst (λ (m : MovieContent). Ends (IsPixmapsAnswer m from to) old new end) (own_movie seat movie holds le) ends

-- an answer that names the front at which it stands, where the seat made two edits
ends_here : {A : Type 0} (seat : SeatContent A) (movie : MovieContent) (at from to : ℕ) (old new : Option (List ℕ)) (end : Result (Unit {0}) RunFault) → seat.made ≡ 2 → 2 ≤ length seat.front → at ≡ length seat.front
    → length seat.front ≤ seat.made → Ends (IsPixmapsAnswer movie from to) old new end → Ends (IsPixmapsAnswer movie from to) old new (unless_foreign at end)
ends_here seat movie at from to old new end made two is le ends =
    foreign_cases at end (unless_foreign at end) (Ends (IsPixmapsAnswer movie from to) old new) refl (λ (here : at ≡ 2). ends)
    (λ (other : at ≡ 2 → ⊥). absurd (other (omega (arith, two, made, is, le))))

own_here : {A : Type 0} (seat : SeatContent A) (at : ℕ) (end : Result (Unit {0}) RunFault) → seat.made ≡ 2 → 2 ≤ length seat.front → at ≡ length seat.front → (length seat.front ≡ seat.made → StandsAtOwn seat end)
    → StandsAtOwn seat (unless_foreign at end)
own_here seat at end made two is stands =
    foreign_cases at end (unless_foreign at end) (StandsAtOwn seat) refl (λ (here : at ≡ 2). stands (omega (arith, is, here, made)))
    (λ (other : at ≡ 2 → ⊥). more_than seat.made (length seat.front) (omega (arith, two, made)) (λ (own : length seat.front ≡ seat.made). other (omega (arith, is, own, made))))

foreign_room : ◌≡◌ {A = RunFault} Foreign Memory → ⊥
foreign_room e = cc

-- an end that isn't being out of memory is none where it is compared
other_here : (X : Type 0) (at : ℕ) (fault : RunFault) → (fault ≡ Memory → ⊥) → IfErr (unless_foreign at (Err fault)) (λ (f : RunFault). f ≡ Memory → X)
other_here X at fault ne =
    foreign_cases at (Err fault) (unless_foreign at (Err fault)) (λ (r : Result (Unit {0}) RunFault). IfErr r (λ (f : RunFault). f ≡ Memory → X)) refl
    (λ (here : at ≡ 2). λ e. absurd (ne e)) (λ (other : at ≡ 2 → ⊥). λ e. absurd (foreign_room e))

kept : (old new : Option (List ℕ)) → new ≡ old → Keeps old new
kept old new same = subst (λ (o : Option (List ℕ)). Keeps old o) (sym same) (Keeps-refl old)

pub pixmaps_end : {A : Type 0} (zone : ZoneContent A) (movie : MovieContent) (edits : ℕ) (plan : ExportPlan) (old new : Option (List ℕ)) (exported : Exported) → IsExport zone movie edits plan old new (Ok exported)
    → Ends (IsPixmapsAnswer movie plan.from plan.to) old new (Ok tt)
pixmaps_end zone movie edits plan old new exported is =
    (pixmaps_of movie plan.from (plan.to - plan.from), record { range = is.1.range; drawn = is.1.drawn; pixmaps = refl }, is.1.written)

pub range_ends : {A : Type 0} (zone : ZoneContent A) (movie : MovieContent) (edits : ℕ) (plan : ExportPlan) (old new : Option (List ℕ)) (at len : ℕ) → IsExport zone movie edits plan old new (Err (OffRange at len))
    → Ends (IsPixmapsAnswer movie plan.from plan.to) old new (Err (Range plan.from plan.to len))
range_ends zone movie edits plan old new at len is = inl ((refl, refl, is.1, is.2), kept old new is.3)

pub halted_ends : {A : Type 0} (zone : ZoneContent A) (movie : MovieContent) (edits : ℕ) (plan : ExportPlan) (old new : Option (List ℕ)) (at frame : ℕ) (halt : Halt) (fault : RunFault) → IsExport zone movie edits plan old new (Err (HaltedAt at frame halt))
    → fault ≡ halt_fault halt → Ends (IsPixmapsAnswer movie plan.from plan.to) old new (Err fault)
halted_ends zone movie edits plan old new at frame (Undocumented address opcode) fault is told =
    subst (λ (f : RunFault). Ends (IsPixmapsAnswer movie plan.from plan.to) old new (Err f)) (sym told) (inl ((is.1, (frame, is.2)), kept old new is.3))

pub memory_ends : {A : Type 0} (zone : ZoneContent A) (movie : MovieContent) (edits : ℕ) (plan : ExportPlan) (old new : Option (List ℕ)) → IsExport zone movie edits plan old new (Err OutOfRoom)
    → Ends (IsPixmapsAnswer movie plan.from plan.to) old new (Err Memory)
memory_ends zone movie edits plan old new is = inl (tt, kept old new is.1)

pub write_ends : (movie : MovieContent) (plan : ExportPlan) (old new : Option (List ℕ)) (written : ℕ) → IsInRange (length movie.inputs) plan.from plan.to → AllDrawn movie plan.from plan.to
    → IsCutOff old new (pixmaps_of movie plan.from (plan.to - plan.from)) written → Ends (IsPixmapsAnswer movie plan.from plan.to) old new (Err (Write written))
write_ends movie plan old new written range drawn cut =
    inr (record {
      bytes = pixmaps_of movie plan.from (plan.to - plan.from);
      answer = record { range = range; drawn = drawn; pixmaps = refl };
      stops = record { written = written; is_write = refl; cut = cut };
    })

-- what a desk answers is reported so
export_ends : {A : Type 0} (seat : SeatContent A) (zone : ZoneContent A) (plan : ExportPlan) (old new : Option (List ℕ)) (answer : Result Exported ExportError) → seat.made ≡ 2 → 2 ≤ length seat.front
    → IsExport zone (movie_of seat.front) (length seat.front) plan old new answer → length seat.front ≤ seat.made
    → Ends (IsPixmapsAnswer (movie_of seat.front) plan.from plan.to) old new (export_end plan.from plan.to answer)
export_ends seat zone plan old new (Ok exported) made two is le =
    ends_here seat (movie_of seat.front) exported.at plan.from plan.to old new (Ok tt) made two is.0 le (pixmaps_end zone (movie_of seat.front) (length seat.front) plan old new exported is)
export_ends seat zone plan old new (Err (OffRange at len)) made two is le =
    ends_here seat (movie_of seat.front) at plan.from plan.to old new (Err (Range plan.from plan.to len)) made two is.0 le (range_ends zone (movie_of seat.front) (length seat.front) plan old new at len is)
export_ends seat zone plan old new (Err OutOfRoom) made two is le = memory_ends zone (movie_of seat.front) (length seat.front) plan old new is
export_ends seat zone plan old new (Err (HaltedAt at frame halt)) made two is le =
    ends_here seat (movie_of seat.front) at plan.from plan.to old new (Err (halt_fault halt)) made two is.0 le (halted_ends zone (movie_of seat.front) (length seat.front) plan old new at frame halt (halt_fault halt) is refl)
export_ends seat zone plan old new (Err (WriteFailed written error)) made two is le = write_ends (movie_of seat.front) plan old new written is.0 is.1 is.2

pub frames_end : {A : Type 0} (seat : SeatContent A) (zone : ZoneContent A) (plan : ExportPlan) (old new : Option (List ℕ)) (answer : Result Exported ExportError) (told : Result (Unit {0}) RunFault) → seat.made ≡ 2
    → 2 ≤ length seat.front → IsExport zone (movie_of seat.front) (length seat.front) plan old new answer → told ≡ export_end plan.from plan.to answer → length seat.front ≤ seat.made
    → Ends (IsPixmapsAnswer (movie_of seat.front) plan.from plan.to) old new told
frames_end seat zone plan old new answer told made two is same le =
    subst (λ (r : Result (Unit {0}) RunFault). Ends (IsPixmapsAnswer (movie_of seat.front) plan.from plan.to) old new r) (sym same) (export_ends seat zone plan old new answer made two is le)

pub export_own : {A : Type 0} (seat : SeatContent A) (zone : ZoneContent A) (plan : ExportPlan) (old new : Option (List ℕ)) (answer : Result Exported ExportError) → seat.made ≡ 2 → 2 ≤ length seat.front
    → IsExport zone (movie_of seat.front) (length seat.front) plan old new answer → StandsAtOwn seat (export_end plan.from plan.to answer)
export_own seat zone plan old new (Ok exported) made two is = own_here seat exported.at (Ok tt) made two is.0 (λ own. own)
export_own seat zone plan old new (Err (OffRange at len)) made two is = own_here seat at (Err (Range plan.from plan.to len)) made two is.0 (λ own. own)
export_own seat zone plan old new (Err OutOfRoom) made two is = tt
export_own seat zone plan old new (Err (HaltedAt at frame (Undocumented address opcode))) made two is = own_here seat at (Err (Halted address opcode)) made two is.0 (λ own. own)
export_own seat zone plan old new (Err (WriteFailed written error)) made two is = tt

-- and as out of memory only where the movie has the frames
pub export_room : {A : Type 0} (zone : ZoneContent A) (movie : MovieContent) (edits : ℕ) (plan : ExportPlan) (old new : Option (List ℕ)) (answer : Result Exported ExportError) → IsExport zone movie edits plan old new answer
    → IfErr (export_end plan.from plan.to answer) (λ (fault : RunFault). fault ≡ Memory → IsInRange (length movie.inputs) plan.from plan.to)
export_room zone movie edits plan old new (Ok exported) is =
    foreign_cases exported.at (Ok tt) (unless_foreign exported.at (Ok tt)) (λ (r : Result (Unit {0}) RunFault). IfErr r (λ (f : RunFault). f ≡ Memory → IsInRange (length movie.inputs) plan.from plan.to)) refl
    (λ (here : exported.at ≡ 2). tt) (λ (other : exported.at ≡ 2 → ⊥). λ e. absurd (foreign_room e))
export_room zone movie edits plan old new (Err (OffRange at len)) is = other_here (IsInRange (length movie.inputs) plan.from plan.to) at (Range plan.from plan.to len) (λ e. cc)
export_room zone movie edits plan old new (Err OutOfRoom) is = λ e. is.0
export_room zone movie edits plan old new (Err (HaltedAt at frame (Undocumented address opcode))) is = other_here (IsInRange (length movie.inputs) plan.from plan.to) at (Halted address opcode) (λ e. cc)
export_room zone movie edits plan old new (Err (WriteFailed written error)) is = λ e. absurd cc

-- the movie isn't made
pub unmade_ends : {A : Type 0} (seat : SeatContent A) (movie : MovieContent) (from to : ℕ) (old : Option (List ℕ)) (fault : RunFault) → IsMakingFault seat fault → length seat.front ≤ seat.made
    → Ends (IsPixmapsAnswer movie from to) old old (Err fault)
unmade_ends seat movie from to old Memory is own = inl (tt, Keeps-refl old)
unmade_ends seat movie from to old Foreign is own = absurd (omega (arith, is, own))
unmade_ends seat movie from to old NoEntry is own = absurd is
unmade_ends seat movie from to old NoPlace is own = absurd is
unmade_ends seat movie from to old (Write written) is own = absurd is
unmade_ends seat movie from to old (Size n) is own = absurd is
unmade_ends seat movie from to old (Text error) is own = absurd is
unmade_ends seat movie from to old (NoFrame frame len) is own = absurd is
unmade_ends seat movie from to old (Range first end len) is own = absurd is
unmade_ends seat movie from to old (NoNames row kind) is own = absurd is
unmade_ends seat movie from to old (Halted at opcode) is own = absurd is
unmade_ends seat movie from to old (HaltedFrame frame at opcode) is own = absurd is
unmade_ends seat movie from to old (Script line) is own = absurd is
unmade_ends seat movie from to old (Place line) is own = absurd is
unmade_ends seat movie from to old (Long line) is own = absurd is

-- what an export of a movie does, it does for the cartridge and the text that the movie is one of
pub movie_ends : (from to : ℕ) (image bytes : List ℕ) (movie : MovieContent) (old new : Option (List ℕ)) (end : Result (Unit {0}) RunFault) → IsMovieOf image bytes movie → Ends (IsPixmapsAnswer movie from to) old new end
    → Ends (IsExportAnswer from to image bytes) old new end
movie_ends from to image bytes movie old new (Ok u) is ends = (ends.0, (movie, is, ends.1), ends.2)
movie_ends from to image bytes movie old new (Err e) is (inl kept) = inl (inr (movie, is, kept.0), kept.1)
movie_ends from to image bytes movie old new (Err e) is (inr off) = inr (record { bytes = off.bytes; answer = (movie, is, off.answer); stops = off.stops })
