-- Scripts, line by line.
use Rattle.std.proofs.Common.{◌≡◌, ℕ, ◌+◌, ◌≤◌, List, [], ◌∷◌, ◌++◌, length, refl, sym, ap, subst, ◌∙◌, arith, append_assoc, length-append}
use Rattle.std.specs.Prelude.{Option, Some, None, Ok, Err, IfSome}
use Rattle.std.proofs.lemmas.List.{append-nil}
use Rattle.std.proofs.lemmas.List.Elements.{filter_map-append}
use Rattle.std.specs.List.{flat_map}
use Rattle.tas_movie.specs.Content.{MovieContent}
use Rattle.tas_movie.specs.Edit.{edited}
use Rattle.tas_movie.specs.declared.edit.EditRefusal.TheVariants.{Place, Long}
use Rattle.byte_text.specs.Splitting.{NoByte}
use Rattle.byte_text.proofs.SplitLemmas.{no_parts, same_front}
use Rattle.tas_language.specs.declared.edit_line.EditLine.{EditLine}
use Rattle.tas_engines.specs.declared.making.ChangeError.{ChangeError}
use Rattle.tas_engines.specs.declared.making.ChangeError.TheVariants.{Refused, Memory}
use Rattle.tas_engines.specs.declared.scripts.ScriptFault.{ScriptFault}
use Rattle.tas_engines.specs.Remarks.{words_of}
use Rattle.tas_engines.specs.Scripts.{said_line, asked_in, Said, Reads, AreUnderstood, IsUnclear, IsUnderstood, Begins, IsStop, BringsFrames, Makes, MakesSaid, MakesLines, Means, LinesAreAllowed, made_by, line_of, line_refusal, fault_at}

lines_more : (lines : List Said) (said : Said) → flat_map said_line (lines ++ said ∷ []) ≡ flat_map said_line lines ++ said_line said
lines_more [] said = append-nil (said_line said)
lines_more (c ∷ lines) said = ap (λ (r : List ℕ). said_line c ++ r) (lines_more lines said) ∙ sym (append_assoc (said_line c) (flat_map said_line lines) (said_line said))

understood_more : (other : Option MovieContent) (lines : List Said) (said : Said) → AreUnderstood other lines → NoByte 10 said.text → Means other said.text said.asked → AreUnderstood other (lines ++ said ∷ [])
unfolding AreUnderstood
understood_more other [] said all whole means = (whole, means, tt)
understood_more other (c ∷ lines) said all whole means = (all.0, all.1, understood_more other lines said all.2 whole means)

allowed_more : (other : Option MovieContent) (movie : MovieContent) (lines : List EditLine) (asked : EditLine) → LinesAreAllowed other movie lines → line_refusal other (made_by other movie lines) asked ≡ None
    → LinesAreAllowed other movie (lines ++ asked ∷ [])
unfolding made_by LinesAreAllowed
allowed_more other movie [] asked all is = (is, tt)
allowed_more other movie (c ∷ lines) asked all is = (all.0, allowed_more other (edited movie (line_of other movie c)) lines asked all.1 is)

made_more : (other : Option MovieContent) (movie : MovieContent) (lines : List EditLine) (asked : EditLine)
    → made_by other movie (lines ++ asked ∷ []) ≡ edited (made_by other movie lines) (line_of other (made_by other movie lines) asked)
unfolding made_by
made_more other movie [] asked = refl
made_more other movie (c ∷ lines) asked = made_more other (edited movie (line_of other movie c)) lines asked

-- nothing is read or made yet
pub makes_none : (other : Option MovieContent) (movie : MovieContent) (bytes : List ℕ) → MakesLines other movie bytes movie [] bytes
unfolding AreUnderstood LinesAreAllowed made_by
makes_none other movie bytes = record { reads = record { text = refl; understood = tt }; allowed = tt; made = refl }

reads_more : (other : Option MovieContent) (bytes rest after : List ℕ) (lines : List Said) (said : Said) → Reads other bytes lines rest → rest ≡ said.text ++ 10 ∷ after
    → NoByte 10 said.text → Means other said.text said.asked → Reads other bytes (lines ++ said ∷ []) after
reads_more other bytes rest after lines said reads is whole means =
    let text : rest ≡ said_line said ++ after = is ∙ sym (append_assoc said.text (10 ∷ []) after) in
    record {
      text = reads.text ∙ ap (λ (r : List ℕ). flat_map said_line lines ++ r) text
          ∙ sym (append_assoc (flat_map said_line lines) (said_line said) after)
          ∙ ap (λ (r : List ℕ). r ++ after) (sym (lines_more lines said));
      understood = understood_more other lines said reads.understood whole means;
    }

-- a line more that asks for something
asked_more : (lines : List Said) (said : List ℕ) (asked : EditLine) → asked_in (lines ++ record { text = said; asked = Some asked } ∷ []) ≡ asked_in lines ++ asked ∷ []
asked_more lines said asked = filter_map-append (λ (s : Said). s.asked) lines (record { text = said; asked = Some asked } ∷ [])

-- and one that asks for nothing
none_more : (lines : List Said) (said : List ℕ) → asked_in (lines ++ record { text = said; asked = None } ∷ []) ≡ asked_in lines
none_more lines said = filter_map-append (λ (s : Said). s.asked) lines (record { text = said; asked = None } ∷ []) ∙ append-nil (asked_in lines)

pub makes_more : (other : Option MovieContent) (start old new : MovieContent) (bytes rest first after : List ℕ) (lines : List Said) (asked : Option EditLine) (done : Unit {0}) → MakesLines other start bytes old lines rest
    → rest ≡ first ++ 10 ∷ after → NoByte 10 first → Means other first asked → MakesSaid other old asked (Ok done) new
    → MakesLines other start bytes new (lines ++ record { text = first; asked = asked } ∷ []) after
makes_more other start old new bytes rest first after lines None done before is whole means made = record {
  reads = reads_more other bytes rest after lines (record { text = first; asked = None }) before.reads is whole means;
  allowed = subst (LinesAreAllowed other start) (sym (none_more lines first)) before.allowed;
  made = made ∙ before.made ∙ ap (made_by other start) (sym (none_more lines first));
}
makes_more other start old new bytes rest first after lines (Some asked) done before is whole means made = record {
  reads = reads_more other bytes rest after lines (record { text = first; asked = Some asked }) before.reads is whole means;
  allowed = subst (LinesAreAllowed other start) (sym (asked_more lines first asked))
      (allowed_more other start (asked_in lines) asked before.allowed (subst (λ (m : MovieContent). line_refusal other m asked ≡ None) before.made made.0));
  made = made.1 ∙ ap (λ (m : MovieContent). edited m (line_of other m asked)) before.made ∙ sym (made_more other start (asked_in lines) asked) ∙ ap (made_by other start) (sym (asked_more lines first asked));
}

pub count_more : (lines : List Said) (said : Said) → length (lines ++ said ∷ []) ≡ length lines + 1
count_more lines said = length-append lines (said ∷ [])

pub split_length : (rest a b : List ℕ) → rest ≡ a ++ 10 ∷ b → length b + 1 ≤ length rest
split_length rest a b is = rw is (omega (arith, length-append a (10 ∷ b)))

-- ---- the first line at fault

pub unclear_unsplit : (other : Option MovieContent) (rest : List ℕ) → NoByte 10 rest → IsUnclear other rest
unclear_unsplit other rest none = λ said more asked n is says. no_parts 10 said more (subst (NoByte 10) is none)

pub unclear_line : (other : Option MovieContent) (rest first after : List ℕ) → rest ≡ first ++ 10 ∷ after → NoByte 10 first → ((asked : Option EditLine) → Means other first asked → ⊥) → IsUnclear other rest
unclear_line other rest first after is none never = λ said more asked n is' says.
    never asked (subst (λ (s : List ℕ). Means other s asked) (same_front 10 said first more after n none (sym is' ∙ is)).0 says)

refused_line : (other : Option MovieContent) (old new : MovieContent) (rest : List ℕ) (number : ℕ) (asked : EditLine) (error : ChangeError) → Begins other rest asked
    → Makes other old asked (Err error) new → (error ≡ Memory → BringsFrames asked) → IsStop other new rest number (fault_at number error)
refused_line other old new rest number asked (Refused (Place at len)) first makes brings =
    (refl, (at, len, rw makes.1 (record { asked = asked; first = first; is = makes.0 })))
refused_line other old new rest number asked (Refused (Long len)) first makes brings =
    (refl, (len, rw makes.1 (record { asked = asked; first = first; is = makes.0 })))
refused_line other old new rest number asked Memory first makes brings =
    rw makes.1 (record { asked = asked; first = first; frames = brings refl; allowed = makes.0 })

pub stopped : (other : Option MovieContent) (old new : MovieContent) (rest first after : List ℕ) (number : ℕ) (asked : Option EditLine) (error : ChangeError) (fault : ScriptFault) → rest ≡ first ++ 10 ∷ after
    → NoByte 10 first → Means other first asked → MakesSaid other old asked (Err error) new → (error ≡ Memory → IfSome asked BringsFrames) → fault ≡ fault_at number error → IsStop other new rest number fault
stopped other old new rest first after number None error fault is whole means makes brings told = absurd makes
stopped other old new rest first after number (Some asked) error fault is whole means makes brings told =
    let first' : Begins other rest asked = record { said = first; more = after; text = is; whole = whole; means = means } in
    rw told (refused_line other old new rest number asked error first' makes brings)

-- a line that isn't made leaves the movie as it was
pub same_movie : (other : Option MovieContent) (old new : MovieContent) (asked : Option EditLine) (error : ChangeError) → MakesSaid other old asked (Err error) new → new ≡ old
same_movie other old new None error makes = absurd makes
same_movie other old new (Some asked) (Refused refused) makes = makes.1
same_movie other old new (Some asked) Memory makes = makes.1

-- a line with words that aren't understood means nothing
pub means_nothing : (other : Option MovieContent) (said : List ℕ) → (words_of said ≡ [] → ⊥) → ((asked : EditLine) → IsUnderstood other (words_of said) asked → ⊥) → (asked : Option EditLine) → Means other said asked → ⊥
means_nothing other said some never None means = some means
means_nothing other said some never (Some asked) means = never asked means
