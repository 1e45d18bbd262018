-- Scripts that start from a movie.
use Rattle.std.proofs.Common.{◌≡◌, ℕ, ◌≤◌, List, [], length, take, Option, Result, Ok, Err, inl, inr, refl, sym, ap, ◌∙◌, arith}
use Rattle.std.proofs.KnownBytes.{Appends-nil}
use Rattle.std.proofs.lemmas.List.{take_all}
use Rattle.std.specs.Io.KnownBytes.{Appends}
use Rattle.tas_movie.specs.Content.{MovieContent}
use Rattle.tas_published.specs.declared.entry.Entry.{Entry}
use Rattle.tas_published.specs.History.{movie_of}
use Rattle.tas_desk.specs.Seats.{SeatContent}
use Rattle.tas_engines.specs.declared.fault.RunFault.{RunFault}
use Rattle.tas_engines.specs.declared.fault.RunFault.TheVariants.{Write, Size, Text, NoFrame as OffMovie, Range as OffRange, Halted as Stopped, HaltedFrame as StoppedFrame, Script, Place, Long, Names as NoNames, NoPlace, NoEntry, Foreign, Memory}
use Rattle.tas_engines.specs.Movies.{IsMovieOf}
use Rattle.tas_seat.specs.Turns.{Standing, standing_of}
use Rattle.tas_tool.specs.Inside.Alone.{SeesOwn}
use Rattle.tas_tool.specs.Inside.TwoEdits.{HoldsMovie, IsMakingFault}
use Rattle.tas_tool.specs.Scripts.{IsUnmade}
use Rattle.tas_tool.specs.MovieScripts.{standing_of_movie, AnswersOver, RunsOver}
use Rattle.tas_tool.proofs.ScriptLemmas.{written}

-- a seat that holds a movie has seen all that it made
pub holds_seen : {A : Type 0} (seat : SeatContent A) (movie : MovieContent) → HoldsMovie seat movie → seat.made ≤ length seat.front
holds_seen seat movie holds = omega (arith, holds.made, holds.seen)

-- and where it sees its own edits alone, these make the movie
pub holds_standing : {A : Type 0} (seat : SeatContent A) (movie : MovieContent) → HoldsMovie seat movie → SeesOwn seat → standing_of seat.front ≡ standing_of_movie movie
holds_standing {A} seat movie holds own =
    let two : length seat.front ≡ 2 = omega (arith, holds.made, holds.seen, own.few) in
    let whole : take 2 seat.front ≡ seat.front = take_all 2 seat.front (omega (arith, two)) in
    ap (λ (m : MovieContent). let x : Standing = record { movie = m; made = length seat.front } in x) (ap (λ (l : List (Entry A)). movie_of l) (sym whole) ∙ holds.movie_is)
    ∙ ap (λ (n : ℕ). let x : Standing = record { movie = movie; made = n } in x) two

-- the movie isn't made
pub unmade_by : {A : Type 0} (seat : SeatContent A) (fault : RunFault) → IsMakingFault seat fault → length seat.front ≤ seat.made → IsUnmade fault
unmade_by seat Memory is own = tt
unmade_by seat Foreign is own = absurd (omega (arith, is, own))
unmade_by seat NoEntry is own = absurd is
unmade_by seat NoPlace is own = absurd is
unmade_by seat (Write written) is own = absurd is
unmade_by seat (Size n) is own = absurd is
unmade_by seat (Text error) is own = absurd is
unmade_by seat (OffMovie frame len) is own = absurd is
unmade_by seat (OffRange from to len) is own = absurd is
unmade_by seat (NoNames row kind) is own = absurd is
unmade_by seat (Stopped at opcode) is own = absurd is
unmade_by seat (StoppedFrame frame at opcode) is own = absurd is
unmade_by seat (Script line) is own = absurd is
unmade_by seat (Place line) is own = absurd is
unmade_by seat (Long line) is own = absurd is

pub unmade : (A : Type 0) (movie : MovieContent) (bytes text : List ℕ) (seat : SeatContent A) (fault : RunFault) → text ≡ [] → IsMakingFault seat fault → length seat.front ≤ seat.made → AnswersOver movie bytes text (Err fault)
unmade A movie bytes text seat fault none is own = inl (none, unmade_by seat fault is own)

-- there is no desk for the movie
pub unopened_over : (image said bytes : List ℕ) (movie : MovieContent) (old : Option (List ℕ)) → IsMovieOf image said movie → RunsOver image said bytes old old (Err Memory)
unopened_over image said bytes movie old is = inr (movie, is, inl ([], inl (refl, tt), Appends-nil old))

-- the replies over the movie are written
pub written_over : (image said bytes : List ℕ) (movie : MovieContent) (items text : List ℕ) (old new : Option (List ℕ)) (end : Result (Unit {0}) RunFault) → IsMovieOf image said movie → AnswersOver movie bytes items end → text ≡ items
    → Appends old new text → RunsOver image said bytes old new end
written_over image said bytes movie items text old new (Ok u) is at same out = (movie, is, written (AnswersOver movie bytes) items text old new (Ok u) at same out)
written_over image said bytes movie items text old new (Err fault) is at same out = inr (movie, is, written (AnswersOver movie bytes) items text old new (Err fault) at same out)
