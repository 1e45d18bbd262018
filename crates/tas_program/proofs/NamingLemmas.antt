-- Commands whose faults name their input.
use Rattle.std.proofs.Common.{◌≡◌, ℕ, ◌+◌, ◌<◌, List, [], ◌∷◌, ◌++◌, length, take, drop, map, get_or, Option, None, Some, Result, Ok, Err, refl, sym, ap, ◌∙◌, inl, inr, arith, subst, append_assoc}
use Rattle.std.specs.Prelude.{slice_set}
use Rattle.std.proofs.lemmas.List.{length-map, length-take-le, take-append-drop, take-set, drop_more, drop-set, map-append}
use Rattle.tas_movie.specs.Content.{MovieContent}
use Rattle.tas_movie.specs.declared.error.TextError.{TextError}
use Rattle.tas_movie.specs.Fault.{fault as text_error}
use Rattle.tas_movie.proofs.TwoTexts.{text_right}
use Rattle.tas_engines.specs.declared.fault.ReadFault.{ReadFault}
use Rattle.tas_engines.specs.declared.fault.ReadFault.TheVariants.{TooLong, Failed, Memory as NoMemory}
use Rattle.tas_engines.specs.declared.fault.RunFault.{RunFault}
use Rattle.tas_engines.specs.declared.fault.RunFault.TheVariants.{Write, Size, Text, NoFrame, Range, Halted, HaltedFrame, Script, Place, Long, Names, NoPlace, NoEntry, Foreign, Memory}
use Rattle.tas_engines.specs.declared.fault.ToolFault.TheVariants.{Run}
use Rattle.tas_engines.specs.Commands.{Answers, bytes_of}
use Rattle.tas_engines.specs.Input.{AreReadWhole}
use Rattle.tas_engines.specs.Movies.{IsMovieOf, IsMovieFault}
use Rattle.tas_program.specs.declared.roles.Role.{Role}
use Rattle.tas_program.specs.declared.roles.Roles.{Roles}
use Rattle.tas_program.specs.declared.saving.SaveFault.{SaveFault}
use Rattle.tas_program.specs.declared.status.TaskFault.{TaskFault}
use Rattle.tas_program.specs.declared.status.TaskFault.TheVariants.{Tool, NotMovie, Save as NotSaved}
use Rattle.tas_program.specs.Naming.{EndsNamed, IsNamedAmong, IsNamedBy, IsNamedEnd, IsNamedFault, IsNamedRun, IsNamedText, IsUnopened, IsUnread, StopsAt, named_text, text_of}
use Rattle.tas_program.specs.Roles.{role_of, second_of, unread_fault}
use Rattle.tas_program.specs.Streams.{StreamBytes}

-- ---- reading

head_same : {X : Type 0} (x y : X) (xs ys : List X) → ◌≡◌ {A = List X} (x ∷ xs) (y ∷ ys) → x ≡ y
head_same x y xs ys e = cc

tail_same : {X : Type 0} (x y : X) (xs ys : List X) → ◌≡◌ {A = List X} (x ∷ xs) (y ∷ ys) → xs ≡ ys
tail_same x y xs ys e = cc

-- what stands from place k on, in both lists
parts : {X : Type 0} (fs ls : List X) (k : ℕ) (d : X) → k < length fs → length ls ≡ length fs → drop k ls ≡ drop k fs
    → ◌≡◌ {A = List X} (get_or ls k d ∷ drop (k + 1) ls) (get_or fs k d ∷ drop (k + 1) fs)
parts fs ls k d lt len rest = sym (drop_more ls k d (omega (arith, lt, len))) ∙ rest ∙ drop_more fs k d lt

-- reading stopped at place k of some files
pub stops_at : {X : Type 0} (roles : Roles) (r : X → Option (List ℕ)) (fs ls : List X) (k : ℕ) (d x : X) (named : TaskFault) (ts : List (List ℕ)) → k < length fs → length ls ≡ length fs → drop k ls ≡ drop k fs
    → AreReadWhole (map r (take k fs)) (map r (take k ls)) ts → IsUnread (role_of roles k) (r (get_or ls k d)) (r x) named → StopsAt roles (map r fs) (map r (slice_set ls k x)) named
stops_at roles r fs ls k d x named ts lt len rest whole stops =
    let both = parts fs ls k d lt len rest in
    let here : get_or ls k d ≡ get_or fs k d = head_same _ _ _ _ both in
    let tails : drop (k + 1) ls ≡ drop (k + 1) fs = tail_same _ _ _ _ both in
    let old : fs ≡ take k fs ++ get_or fs k d ∷ drop (k + 1) fs = sym (take-append-drop k fs) ∙ ap (λ l. take k fs ++ l) (drop_more fs k d lt) in
    let new : slice_set ls k x ≡ take k ls ++ x ∷ drop (k + 1) ls =
    sym (take-append-drop k (slice_set ls k x)) ∙ ap (λ l. l ++ drop k (slice_set ls k x)) (take-set ls k x) ∙ ap (λ l. take k ls ++ l) (drop-set ls k x (omega (arith, lt, len))) in
    let count : length (map r (take k fs)) ≡ k = length-map (take k fs) r ∙ length-take-le k fs (omega (arith, lt)) in
    let from_old : IsUnread (role_of roles k) (r (get_or fs k d)) (r x) named = subst (λ y. IsUnread (role_of roles k) (r y) (r x) named) here stops in
    record {
      before = map r (take k fs);
      before' = map r (take k ls);
      here = r (get_or fs k d);
      here' = r x;
      after = map r (drop (k + 1) fs);
      read = ts;
      olds_are = ap (map r) old ∙ map-append r (take k fs) (get_or fs k d ∷ drop (k + 1) fs);
      news_are = ap (map r) new ∙ map-append r (take k ls) (x ∷ drop (k + 1) ls) ∙ ap (λ l. map r (take k ls) ++ r x ∷ map r l) tails;
      whole = whole;
      stops = subst (λ (n : ℕ). IsUnread (role_of roles n) (r (get_or fs k d)) (r x) named) (sym count) from_old;
    }

-- reading stopped at a file, so that what comes after the files is untouched
pub stops_in_files : (roles : Roles) (olds news more : List (Option (List ℕ))) (named : TaskFault) → StopsAt roles olds news named → StopsAt roles (olds ++ more) (news ++ more) named
stops_in_files roles olds news more named stopped = record {
  before = stopped.before;
  before' = stopped.before';
  here = stopped.here;
  here' = stopped.here';
  after = stopped.after ++ more;
  read = stopped.read;
  olds_are = ap (λ l. l ++ more) stopped.olds_are ∙ append_assoc stopped.before (stopped.here ∷ stopped.after) more;
  news_are = ap (λ l. l ++ more) stopped.news_are ∙ append_assoc stopped.before' (stopped.here' ∷ stopped.after) more;
  whole = stopped.whole;
  stops = stopped.stops;
}

-- or at the last input, and the files were read whole
pub stops_at_last : (roles : Roles) (olds news : List (Option (List ℕ))) (a b : Option (List ℕ)) (ts : List (List ℕ)) (place : ℕ) (named : TaskFault) → place ≡ length olds → AreReadWhole olds news ts
    → IsUnread (role_of roles place) a b named → StopsAt roles (olds ++ a ∷ []) (news ++ b ∷ []) named
stops_at_last roles olds news a b ts place named is whole stops = record {
  before = olds;
  before' = news;
  here = a;
  here' = b;
  after = [];
  read = ts;
  olds_are = refl;
  news_are = refl;
  whole = whole;
  stops = subst (λ (n : ℕ). IsUnread (role_of roles n) a b named) is stops;
}

-- ---- which of two movies is at fault

pub text_of_is : (why : RunFault) (own : TextError) → text_of why ≡ Some own → why ≡ Text own
text_of_is (Text e) own is = cc
text_of_is (Write written) own is = cc
text_of_is (Size n) own is = cc
text_of_is (NoFrame frame len) own is = cc
text_of_is (Range from to len) own is = cc
text_of_is (Halted at opcode) own is = cc
text_of_is (HaltedFrame frame at opcode) own is = cc
text_of_is (Script line) own is = cc
text_of_is (Place line) own is = cc
text_of_is (Long line) own is = cc
text_of_is (Names line kind) own is = cc
text_of_is NoPlace own is = cc
text_of_is NoEntry own is = cc
text_of_is Foreign own is = cc
text_of_is Memory own is = cc

-- the second movie is read, so that the error is of the other one's text
pub named_other : (role : Role) (image text : List ℕ) (movie : MovieContent) (error : TextError) → IsMovieOf image text movie → IsNamedText role image text error (Tool (Run (Text error)))
named_other role image text movie error is =
    let none : text_error text image ≡ None = ap (text_error text) (sym is.cart) ∙ text_right text movie is.most is.text in
    inl (sym (ap (λ (own : Option TextError). named_text role own error) none))

-- the second movie's text is at fault
pub named_own : (role : Role) (image text : List ℕ) (error own : TextError) → IsMovieFault image text (Text own) → IsNamedText role image text error (NotMovie role own)
named_own role image text error own why = inl (sym (ap (λ (o : Option TextError). named_text role o error) why.1))

-- a fault that is of a text, and one that isn't
pub named_error : (role : Role) (image text : List ℕ) (fault : RunFault) (error : TextError) (named : TaskFault) → text_of fault ≡ Some error → IsNamedText role image text error named
    → IsNamedBy (text_of fault) role image text fault named
named_error role image text fault error named is by = subst (λ (o : Option TextError). IsNamedBy o role image text fault named) (sym is) by

pub named_as_it_is : (role : Role) (image text : List ℕ) (fault : RunFault) → text_of fault ≡ None → IsNamedBy (text_of fault) role image text fault (Tool (Run fault))
named_as_it_is role image text fault is = subst (λ (o : Option TextError). IsNamedBy o role image text fault (Tool (Run fault))) (sym is) refl

-- a command with a second movie, and one without
pub named_second : (roles : Roles) (read : List (List ℕ)) (fault : RunFault) (place : ℕ) (role : Role) (image text : List ℕ) (named : TaskFault) → second_of roles ≡ Some place → role ≡ role_of roles place → image ≡ bytes_of read 0
    → text ≡ bytes_of read place → IsNamedBy (text_of fault) role image text fault named → IsNamedFault roles read fault named
named_second roles read fault place role image text named is role_is image_is text_is by =
    subst (λ (o : Option ℕ). IsNamedAmong o roles read fault named) (sym is)
    (subst (λ (r : Role). IsNamedBy (text_of fault) r (bytes_of read 0) (bytes_of read place) fault named) role_is
    (subst (λ (i : List ℕ). IsNamedBy (text_of fault) role i (bytes_of read place) fault named) image_is
    (subst (λ (t : List ℕ). IsNamedBy (text_of fault) role image t fault named) text_is by)))

pub named_alone : (roles : Roles) (read : List (List ℕ)) (fault : RunFault) → second_of roles ≡ None → IsNamedFault roles read fault (Tool (Run fault))
named_alone roles read fault is = subst (λ (o : Option ℕ). IsNamedAmong o roles read fault (Tool (Run fault))) (sym is) refl

-- ---- files

-- files that can't be opened
pub not_opened : (roles : Roles) (answers : Answers) (files : List (Option (List ℕ))) (old : StreamBytes) (count : ℕ) (named : TaskFault) (end : Result (Unit {0}) TaskFault) → end ≡ Err named → count ≡ length files
    → IsUnopened roles count named → EndsNamed roles files answers old old end
not_opened roles answers files old count named end is all why = inl (named, is, subst (λ (n : ℕ). IsUnopened roles n named) all why, refl)

-- a command ran over files that were opened
pub named_over : (roles : Roles) (answers : Answers) (all files left : List (Option (List ℕ))) (old new : StreamBytes) (end : Result (Unit {0}) TaskFault) → files ≡ all
    → IsNamedRun roles answers files left old.input new.input old.output new.output end → EndsNamed roles all answers old new end
named_over roles answers all files left old new end is ended =
    inr (left, subst (λ (l : List (Option (List ℕ))). IsNamedRun roles answers l left old.input new.input old.output new.output end) is ended)

-- ---- no such fault is one of a file that was to be replaced

unsaved_unread : (role : Role) (why : ReadFault) (save : SaveFault) → ◌≡◌ {A = TaskFault} (NotSaved save) (unread_fault role why) → ⊥
unsaved_unread role TooLong save e = cc
unsaved_unread role Failed save e = cc
unsaved_unread role NoMemory save e = cc

unsaved_text : (role : Role) (own : Option TextError) (error : TextError) (save : SaveFault) → ◌≡◌ {A = TaskFault} (NotSaved save) (named_text role own error) → ⊥
unsaved_text role (Some e) error save is = cc
unsaved_text role None error save is = cc

unsaved_by : (said : Option TextError) (role : Role) (image text : List ℕ) (fault : RunFault) (save : SaveFault) → IsNamedBy said role image text fault (NotSaved save) → ⊥
unsaved_by (Some error) role image text fault save (inl is) = unsaved_text role (text_error text image) error save is
unsaved_by (Some error) role image text fault save (inr (why, fails, none, is)) = cc
unsaved_by None role image text fault save is = cc

unsaved_among : (second : Option ℕ) (roles : Roles) (read : List (List ℕ)) (fault : RunFault) (save : SaveFault) → IsNamedAmong second roles read fault (NotSaved save) → ⊥
unsaved_among (Some place) roles read fault save by = unsaved_by (text_of fault) (role_of roles place) (bytes_of read 0) (bytes_of read place) fault save by
unsaved_among None roles read fault save is = cc

same_fault : (save : SaveFault) (named : TaskFault) → ◌≡◌ {A = Result (Unit {0}) TaskFault} (Err (NotSaved save)) (Err named) → named ≡ NotSaved save
same_fault save named e = cc

unsaved_end : (roles : Roles) (read : List (List ℕ)) (done : Result (Unit {0}) RunFault) (save : SaveFault) → IsNamedEnd roles read done (Err (NotSaved save)) → ⊥
unsaved_end roles read (Ok u) save is = cc
unsaved_end roles read (Err fault) save (named, is, by) =
    unsaved_among (second_of roles) roles read fault save (subst (λ (n : TaskFault). IsNamedFault roles read fault n) (same_fault save named is) by)

unsaved_stop : (save : SaveFault) (named : TaskFault) (role : Role) (old new : Option (List ℕ)) → named ≡ NotSaved save → IsUnread role old new named → ⊥
unsaved_stop save named role old new same (why, is, stops) = unsaved_unread role why save (sym same ∙ is)

pub unsaved_named : (roles : Roles) (files : List (Option (List ℕ))) (answers : Answers) (old new : StreamBytes) (save : SaveFault) → EndsNamed roles files answers old new (Err (NotSaved save)) → ⊥
unsaved_named roles files answers old new save (inl (named, is, inl (place, within, unopened), same)) =
    let both : NotSaved save ≡ unread_fault (role_of roles place) Failed = sym (same_fault save named is) ∙ unopened in
    unsaved_unread (role_of roles place) Failed save both
unsaved_named roles files answers old new save (inl (named, is, inr refused, same)) =
    let both : NotSaved save ≡ unread_fault (role_of roles 0) NoMemory = sym (same_fault save named is) ∙ refused in
    unsaved_unread (role_of roles 0) NoMemory save both
unsaved_named roles files answers old new save (inr (left, inl (named, is, stopped, keeps))) =
    unsaved_stop save named (role_of roles (length stopped.before)) stopped.here stopped.here' (same_fault save named is) stopped.stops
unsaved_named roles files answers old new save (inr (left, inr (read, whole, (done, ends, by)))) = unsaved_end roles read done save by
