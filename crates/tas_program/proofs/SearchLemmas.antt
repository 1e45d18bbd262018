-- Searches and recoveries, and the ends of tasks that are one.
use Rattle.std.proofs.Common.{◌≡◌, ◌⊎◌, ℕ, max, List, Bool, [], ◌∷◌, Option, None, Some, Result, Ok, Err, inl, inr, refl, sym, ap, subst}
use Rattle.std.specs.Borrow.{Bor}
use Rattle.std.specs.Io.KnownBytes.{Appends}
use Rattle.tas_engines.specs.declared.fault.RunFault.{RunFault}
use Rattle.tas_engines.specs.Output.{StopsWriting}
use Rattle.tas_engines.specs.Commands.{OfTwo, OfThree, OfFour}
use Rattle.tas_engines.specs.Comparing.{IsCompareAnswer}
use Rattle.tas_engines.specs.Cutting.{IsCutAnswer}
use Rattle.tas_engines.specs.Diffing.{IsDiffAnswer}
use Rattle.tas_engines.specs.Digests.{IsDigestAnswer}
use Rattle.tas_engines.specs.Editing.{IsEditAnswer, IsEditWithAnswer}
use Rattle.tas_engines.specs.Lag.{IsLagAnswer}
use Rattle.tas_engines.specs.Ram.{IsRamAnswer}
use Rattle.tas_engines.specs.RamTable.{IsTableAnswer}
use Rattle.tas_engines.specs.declared.fault.ReadFault.TheVariants.{Failed, Memory}
use Rattle.tas_engines.specs.declared.fault.ToolFault.{ToolFault}
use Rattle.tas_engines.specs.declared.fault.ToolFault.TheVariants.{Read}
use Rattle.tas_search.specs.declared.search_error.SearchError.{SearchError}
use Rattle.tas_search.specs.declared.search_request.Search.{Search as Asked}
use Rattle.tas_search.specs.Logs.{LogBytes, Logged, log_bytes}
use Rattle.tas_search.specs.SearchRun.{IsSearchRunOn}
use Rattle.tas_words.specs.declared.task.SearchWords.{SearchWords}
use Rattle.tas_words.specs.declared.task.Task.{Task}
use Rattle.tas_words.specs.declared.task.Task.TheVariants.{Trace, Check, Migrate, New, Recover, Search, Verify, Shot, Film, Export, Ram, Digest, Compare, Lag, Edit, Cut, Diff, Script, Talk, Desk}
use Rattle.tas_program.specs.declared.saving.SaveFault.{SaveFault}
use Rattle.tas_program.specs.declared.status.TaskFault.{TaskFault}
use Rattle.tas_program.specs.declared.status.TaskFault.TheVariants.{Tool, Report, NoReport, Save as NotSaved}
use Rattle.tas_program.specs.declared.searching.Reported.{Reported}
use Rattle.tas_program.specs.declared.searching.Reported.TheVariants as reported
use Rattle.tas_journal.specs.declared.fault.RecoveryFault.{RecoveryFault}
use Rattle.tas_journal.specs.declared.recovering.Recovered.{Recovered}
use Rattle.tas_words.specs.declared.task.RecoveryWords.{RecoveryWords}
use Rattle.tas_program.specs.Recovering.{IsLineAfter, IsReportOf, KeepsImage, Recovers, RecoversOver, first_left_out, image_end, recovered_end}
use Rattle.tas_journal.specs.RecoveryRun.{IsRecoveryRun}
use Rattle.std.specs.Global.{Global as GlobalType}
use Rattle.tas_program.specs.Reporting.{ReportedEnds, reported_of}
use Rattle.tas_program.specs.Files.{FileBytes}
use Rattle.tas_program.specs.Program.{DeskWordsEnd, DoesTask, EndsPlain, EngineEnds, LeavesWords, desk_of, talk_of, tool_end}
use Rattle.tas_program.specs.declared.roles.Roles.TheVariants.{CartMovie, CartOldMovie, CartScriptMovie, CartScriptOtherMovie, CartNamesMovie}
use Rattle.tas_program.proofs.NamingLemmas.{unsaved_named}
use Rattle.tas_program.proofs.NotedLemmas.{no_desk_fault, no_talk_fault}
use Rattle.tas_program.proofs.VerifyLemmas.{no_verify_fault}
use Rattle.tas_movie.specs.Content.{MovieContent}
use Rattle.tas_words.specs.declared.task.DeskWords.{DeskWords}
use Rattle.tas_words.specs.declared.task.TalkWords.{TalkWords}
use Rattle.tas_program.specs.Saving.{Files, FileSteps, SaveEnds}
use Rattle.tas_program.specs.Searching.{BreaksOff, KeepsFile, KeepsReport, Reports, ReportsVerdict, RunsSearch, SearchEnds, Searches, SearchesOver, bytes_end, search_files}
use Rattle.tas_program.specs.Streams.{StreamBytes}

-- the same end of a run, its verdict as bytes
pub in_bytes : {Z : Type 0} (said : Z → List ℕ) (asked : Asked) (inputs inputs' : List (Option (List ℕ))) (output output' : Option (List ℕ)) (logs logs' : LogBytes) (end : Result Z SearchError)
    → IsSearchRunOn said asked inputs inputs' output output' logs logs' end → IsSearchRunOn (λ verdict. verdict) asked inputs inputs' output output' logs logs' (bytes_end said end)
in_bytes said asked inputs inputs' output output' logs logs' end (inl (fault, is, stops, keeps, same)) = inl (fault, ap (bytes_end said) is, stops, keeps, same)
in_bytes said asked inputs inputs' output output' logs logs' (Ok verdict) (inr (read, whole, ends)) = inr (read, whole, ends)
in_bytes said asked inputs inputs' output output' logs logs' (Err e) (inr (read, whole, ends)) = inr (read, whole, ends)

-- files that can't be opened
pub not_searched : (files : FileBytes) (words : SearchWords) (old : StreamBytes) (logs : LogBytes) (fault : ToolFault) → (fault ≡ Read Failed) ⊎ (fault ≡ Read Memory) → Searches files words old old logs logs (Err (Tool fault))
not_searched files words old logs fault (inl is) = inl (inl (ap (λ (f : ToolFault). Err (Tool f)) is), refl, refl)
not_searched files words old logs fault (inr is) = inl (inr (ap (λ (f : ToolFault). Err (Tool f)) is), refl, refl)

-- a search ran over files that were opened
pub searched : (files : FileBytes) (words : SearchWords) (taken left : List (Option (List ℕ))) (old new : StreamBytes) (logs logs' : LogBytes) (end : Result (List ℕ) TaskFault) → taken ≡ search_files files words
    → SearchesOver words taken left old new logs logs' end → Searches files words old new logs logs' end
searched files words taken left old new logs logs' end is ran = inr (left, subst (λ (l : List (Option (List ℕ))). SearchesOver words l left old new logs logs' end) is ran)

-- a recovery ran over a cartridge that is open, up to this line
pub recovered_over : (until : Option ℕ) (line : ℕ) (cart cart' input input' output output' : Option (List ℕ)) (done : Result (Recovered GlobalType) RecoveryFault) (end : Result (Recovered GlobalType) TaskFault) → line ≡ first_left_out until → end ≡ recovered_end done
    → IsRecoveryRun GlobalType line cart cart' input input' output output' done → RecoversOver until cart cart' input input' output output' end
recovered_over until line cart cart' input input' output output' done end is ended ran = (done, ended, subst (λ (n : ℕ). IsRecoveryRun GlobalType n cart cart' input input' output output' done) is ran)

-- a recovery ran over a cartridge that was opened
pub recovered : (files : FileBytes) (words : RecoveryWords) (cart left : Option (List ℕ)) (old new : StreamBytes) (end : Result (Recovered GlobalType) TaskFault) → cart ≡ files.read words.cart.now
    → RecoversOver words.until cart left old.input new.input old.output new.output end → Recovers files words old new end
recovered files words cart left old new end is ran = inr (left, subst (λ (c : Option (List ℕ)). RecoversOver words.until c left old.input new.input old.output new.output end) is ran)

-- the file that is named for a cartridge was replaced by it, or wasn't
pub image_kept : (steps : FileSteps) (named : Option (Bor (List ℕ))) (name : Bor (List ℕ)) (image : List ℕ) (files files' : Option Files) (saved : Result (Unit {0}) SaveFault) (end : Result (Unit {0}) TaskFault) → named ≡ Some name
    → end ≡ image_end saved → SaveEnds steps name.now image files files' saved → KeepsImage steps named image end
image_kept steps named name image files files' saved end is ended saves = rw is (saved, ended, (files, files', saves))

-- the same of the cartridge of a movie that was recovered, and the report
pub reported_kept : (steps : FileSteps) (named : Option (Bor (List ℕ))) (done : Result (Recovered GlobalType) TaskFault) (found : Recovered GlobalType) (image : List ℕ) (kept : Result (Unit {0}) TaskFault) (end : Result (List ℕ) TaskFault) → done ≡ Ok found
    → image ≡ found.movie.cart → KeepsImage steps named image kept → IsLineAfter kept found.edits found.cut end → IsReportOf steps named done end
reported_kept steps named done found image kept end is same keeps after = rw is (kept, subst (λ (i : List ℕ). KeepsImage steps named i kept) same keeps, after)

-- the engine of a task that reports, a conversation, a desk, and the engine of any other task
pub ends_reported : (steps : FileSteps) (files : FileBytes) (chosen : Task) (words : Reported) (told told' : Option (List ℕ)) (old new : StreamBytes) (end : Result (Unit {0}) TaskFault) → reported_of chosen ≡ Some words
    → ReportedEnds steps files words old new told told' end → EngineEnds steps files (reported_of chosen) (talk_of chosen) (desk_of chosen) chosen old new end
ends_reported steps files chosen words told told' old new end is ends = subst (λ (o : Option Reported). EngineEnds steps files o (talk_of chosen) (desk_of chosen) chosen old new end) (sym is) (told, told', ends)

pub ends_talk : (steps : FileSteps) (files : FileBytes) (chosen : Task) (words : TalkWords) (left : Option MovieContent) (old new : StreamBytes) (end : Result (Unit {0}) TaskFault) → reported_of chosen ≡ None → talk_of chosen ≡ Some words
    → LeavesWords steps files words left old new end → EngineEnds steps files (reported_of chosen) (talk_of chosen) (desk_of chosen) chosen old new end
ends_talk steps files chosen words left old new end is talk leaves = rw (is, talk) (left, leaves)

pub ends_desk : (steps : FileSteps) (files : FileBytes) (chosen : Task) (words : DeskWords) (old new : StreamBytes) (end : Result (Unit {0}) TaskFault) → reported_of chosen ≡ None → talk_of chosen ≡ None → desk_of chosen ≡ Some words
    → DeskWordsEnd steps files words old new end → EngineEnds steps files (reported_of chosen) (talk_of chosen) (desk_of chosen) chosen old new end
ends_desk steps files chosen words old new end is talk desk ends = rw (is, talk, desk) ends

pub ends_other : (steps : FileSteps) (files : FileBytes) (chosen : Task) (old new : StreamBytes) (end : Result (Unit {0}) TaskFault) → reported_of chosen ≡ None → talk_of chosen ≡ None → desk_of chosen ≡ None
    → DoesTask files chosen old new end → EngineEnds steps files (reported_of chosen) (talk_of chosen) (desk_of chosen) chosen old new end
ends_other steps files chosen old new end is talk desk does = rw (is, talk, desk) does

-- a report ends with no fault of a file that was to be replaced, where what is reported doesn't
not_reported : (done : Result (List ℕ) TaskFault) (fault : SaveFault) (told told' : Option (List ℕ)) → (done ≡ Err (NotSaved fault) → ⊥) → Reports done told told' (Err (NotSaved fault)) → ⊥
not_reported (Ok report) fault told told' none (inl (is, out)) = cc
not_reported (Ok report) fault told told' none (inr (write, is, out)) = cc
not_reported (Err other) fault told told' none (is, keeps) = none (let same : other ≡ NotSaved fault = cc in ap Err same)

no_verdict_fault : (done : Result (List ℕ) TaskFault) (fault : SaveFault) (logs logs' : LogBytes) → (done ≡ Err (NotSaved fault) → ⊥) → ReportsVerdict done logs logs' (Err (NotSaved fault)) → ⊥
no_verdict_fault (Ok verdict) fault logs logs' none (inl (is, out)) = cc
no_verdict_fault (Ok verdict) fault logs logs' none (inr broken) = broken_end broken.is
  where
    broken_end : ◌≡◌ {A = Result (Unit {0}) TaskFault} (Err (NotSaved fault)) (Err (Report broken.fault)) → ⊥
    broken_end e = cc
no_verdict_fault (Err other) fault logs logs' none (is, same) = none (let same_fault : other ≡ NotSaved fault = cc in ap Err same_fault)

-- no search and no recovery ends with one
no_search_fault : (files : FileBytes) (words : SearchWords) (old new : StreamBytes) (logs logs' : LogBytes) (done : Result (List ℕ) TaskFault) (fault : SaveFault) → Searches files words old new logs logs' done → done ≡ Err (NotSaved fault) → ⊥
no_search_fault files words old new logs logs' done fault (inl (inl failed, same, kept)) is = cc
no_search_fault files words old new logs logs' done fault (inl (inr refused, same, kept)) is = cc
no_search_fault files words old new logs logs' done fault (inr (left, (asked, by, Ok verdict, ended, ran))) is = cc
no_search_fault files words old new logs logs' done fault (inr (left, (asked, by, Err e, ended, ran))) is = cc

no_recovery_fault : (files : FileBytes) (words : RecoveryWords) (old new : StreamBytes) (done : Result (Recovered GlobalType) TaskFault) (fault : SaveFault) → Recovers files words old new done → done ≡ Err (NotSaved fault) → ⊥
no_recovery_fault files words old new done fault (inl (failed, same)) is = cc
no_recovery_fault files words old new done fault (inr (left, (Ok found, ended, ran))) is = cc
no_recovery_fault files words old new done fault (inr (left, (Err e, ended, ran))) is = cc

-- nor does keeping its cartridge, nor the line after that
no_image_fault : (steps : FileSteps) (named : Option (Bor (List ℕ))) (image : List ℕ) (kept : Result (Unit {0}) TaskFault) (fault : SaveFault) → KeepsImage steps named image kept → kept ≡ Err (NotSaved fault) → ⊥
no_image_fault steps None image kept fault keeps is = cc
no_image_fault steps (Some name) image kept fault (Ok u, ended, saves) is = cc
no_image_fault steps (Some name) image kept fault (Err why, ended, saves) is = cc

no_line_fault : (kept : Result (Unit {0}) TaskFault) (edits : ℕ) (cut : Bool) (end : Result (List ℕ) TaskFault) (fault : SaveFault) → (kept ≡ Err (NotSaved fault) → ⊥) → IsLineAfter kept edits cut end → end ≡ Err (NotSaved fault) → ⊥
no_line_fault (Ok u) edits cut end fault none (inl said) is = cc
no_line_fault (Ok u) edits cut end fault none (inr refused) is = cc
no_line_fault (Err other) edits cut end fault none ended is = none (let same : other ≡ NotSaved fault = cc in ap Err same)

no_report_fault : (steps : FileSteps) (named : Option (Bor (List ℕ))) (found : Result (Recovered GlobalType) TaskFault) (end : Result (List ℕ) TaskFault) (fault : SaveFault) → (found ≡ Err (NotSaved fault) → ⊥) → IsReportOf steps named found end
    → end ≡ Err (NotSaved fault) → ⊥
no_report_fault steps named (Ok it) end fault none (kept, keeps, after) is =
    no_line_fault kept it.edits it.cut end fault (no_image_fault steps named it.movie.cart kept fault keeps) after is
no_report_fault steps named (Err other) end fault none ended is = none (let same : other ≡ NotSaved fault = cc in ap Err same)

-- nor does bringing the file of a report to the disk
no_kept_fault : (steps : FileSteps) (name : Option (Bor (List ℕ))) (held' : Option (List ℕ)) (done : Result (Unit {0}) TaskFault) (fault : SaveFault) → (done ≡ Err (NotSaved fault) → ⊥) → KeepsReport steps name held' done (Err (NotSaved fault)) → ⊥
no_kept_fault steps None held' done fault none is = none (sym is)
no_kept_fault steps (Some name) held' (Ok u) fault none (inl (is, kept)) = cc
no_kept_fault steps (Some name) held' (Ok u) fault none (inr is) = cc
no_kept_fault steps (Some name) held' (Err other) fault none is = none (sym is)

-- nor does a task that reports nothing and holds no conversation
no_plain_fault : (ran : Result (Unit {0}) ToolFault → Type 0) (fault : SaveFault) → EndsPlain ran (Err (NotSaved fault)) → ⊥
no_plain_fault ran fault ends = go ends.done ends.is
  where
    go : (done : Result (Unit {0}) ToolFault) → ◌≡◌ {A = Result (Unit {0}) TaskFault} (Err (NotSaved fault)) (tool_end done) → ⊥
    go (Ok u) is = cc
    go (Err other) is = cc

no_task_fault : (files : FileBytes) (chosen : Task) (old new : StreamBytes) (fault : SaveFault) → DoesTask files chosen old new (Err (NotSaved fault)) → ⊥
no_task_fault files (Trace n) old new fault does = no_plain_fault _ fault does
no_task_fault files (Check cart) old new fault does = no_plain_fault _ fault does
no_task_fault files (Migrate cart) old new fault does = no_plain_fault _ fault does
no_task_fault files (New cart frames) old new fault does = no_plain_fault _ fault does
no_task_fault files (Recover words) old new fault does = absurd does
no_task_fault files (Search words) old new fault does = absurd does
no_task_fault files (Verify words) old new fault does = absurd does
no_task_fault files (Shot cart k) old new fault does = no_plain_fault _ fault does
no_task_fault files (Film cart from to) old new fault does = no_plain_fault _ fault does
no_task_fault files (Export cart from to workers) old new fault does = no_plain_fault _ fault does
no_task_fault files (Ram cart from to None) old new fault does = unsaved_named CartMovie (files.read cart.now ∷ []) (OfTwo (IsRamAnswer from to)) old new fault does
no_task_fault files (Ram cart from to (Some names)) old new fault does =
    unsaved_named CartNamesMovie (files.read cart.now ∷ files.read names.now ∷ []) (OfThree (IsTableAnswer from to)) old new fault does
no_task_fault files (Digest cart every) old new fault does = unsaved_named CartMovie (files.read cart.now ∷ []) (OfTwo (IsDigestAnswer (max every 1))) old new fault does
no_task_fault files (Compare cart before) old new fault does = unsaved_named CartOldMovie (files.read cart.now ∷ files.read before.now ∷ []) (OfThree IsCompareAnswer) old new fault does
no_task_fault files (Lag cart) old new fault does = unsaved_named CartMovie (files.read cart.now ∷ []) (OfTwo IsLagAnswer) old new fault does
no_task_fault files (Edit cart script None) old new fault does = unsaved_named CartScriptMovie (files.read cart.now ∷ files.read script.now ∷ []) (OfThree IsEditAnswer) old new fault does
no_task_fault files (Edit cart script (Some other)) old new fault does =
    unsaved_named CartScriptOtherMovie (files.read cart.now ∷ files.read script.now ∷ files.read other.now ∷ []) (OfFour IsEditWithAnswer) old new fault does
no_task_fault files (Cut cart from to) old new fault does = unsaved_named CartMovie (files.read cart.now ∷ []) (OfTwo (IsCutAnswer from to)) old new fault does
no_task_fault files (Diff cart before) old new fault does = unsaved_named CartOldMovie (files.read cart.now ∷ files.read before.now ∷ []) (OfThree IsDiffAnswer) old new fault does
no_task_fault files (Script start) old new fault does = no_plain_fault _ fault does
no_task_fault files (Talk words) old new fault does = absurd does
no_task_fault files (Desk words) old new fault does = absurd does

-- no engine ends with a fault of a file that was to be replaced
pub no_save_fault : (steps : FileSteps) (files : FileBytes) (asked : Option Reported) (talk : Option TalkWords) (desk : Option DeskWords) (chosen : Task) (old new : StreamBytes) (fault : SaveFault) → EngineEnds steps files asked talk desk chosen old new (Err (NotSaved fault)) → ⊥
no_save_fault steps files None None (Some words) chosen old new fault ends = no_desk_fault steps files words words.journal old new fault ends
no_save_fault steps files None None None chosen old new fault does = no_task_fault files chosen old new fault does
no_save_fault steps files None (Some words) desk chosen old new fault (left, leaves) = no_talk_fault steps files words.start words.journal left old new fault leaves
no_save_fault steps files (Some (reported.Search words)) talk desk chosen old new fault (told, told', inl none) = other_end none.is
  where
    other_end : ◌≡◌ {A = Result (Unit {0}) TaskFault} (Err (NotSaved fault)) (Err NoReport) → ⊥
    other_end e = cc
no_save_fault steps files (Some (reported.Search words)) talk desk chosen old new fault (told, told', inr into) =
    no_kept_fault steps words.report into.held' into.done fault
    (no_verdict into.ends)
    into.kept
  where
    no_verdict : SearchEnds files words old new (log_bytes told into.held) (log_bytes told' into.held') into.done → into.done ≡ Err (NotSaved fault) → ⊥
    no_verdict ends is =
        no_verdict_fault ends.done fault ends.mid (log_bytes told' into.held') (no_search_fault files words old new (log_bytes told into.held) ends.mid ends.done fault ends.searches)
        (subst (λ (e : Result (Unit {0}) TaskFault). ReportsVerdict ends.done ends.mid (log_bytes told' into.held') e) is ends.reports)
no_save_fault steps files (Some (reported.Recovery words)) talk desk chosen old new fault (told, told', ends) =
    not_reported ends.done fault told told' (no_report_fault steps words.image ends.found ends.done fault (no_recovery_fault files words old new ends.found fault ends.recovers) ends.reported) ends.reports
no_save_fault steps files (Some (reported.Verification words)) talk desk chosen old new fault (told, told', ends) = no_verify_fault files.read words.carts old new fault ends

-- ---- the file of a report

-- a search without one, and with one, which was made by a step
pub runs_alone : (steps : FileSteps) (files : FileBytes) (words : SearchWords) (old new : StreamBytes) (told told' held held' : Option (List ℕ)) (end : Result (Unit {0}) TaskFault) → words.report ≡ None
    → SearchEnds files words old new (log_bytes told held) (log_bytes told' held') end → RunsSearch steps files words old new told told' end
runs_alone steps files words old new told told' held held' end is ends =
    inr (record { held = held; held' = held'; done = end; made = rw is tt; ends = ends; kept = rw is refl })

pub runs_into : (steps : FileSteps) (files : FileBytes) (words : SearchWords) (name : Bor (List ℕ)) (old new : StreamBytes) (told told' held held' : Option (List ℕ)) (done end : Result (Unit {0}) TaskFault) → words.report ≡ Some name
    → steps.made name.now held → SearchEnds files words old new (log_bytes told held) (log_bytes told' held') done → KeepsFile steps name.now held' done end → RunsSearch steps files words old new told told' end
runs_into steps files words name old new told told' held held' done end is made ends kept =
    inr (record { held = held; held' = held'; done = done; made = rw is made; ends = ends; kept = rw is kept })

-- ---- the verdict

pub verdict_logged : (told told' held held' : Option (List ℕ)) (verdict : List ℕ) → Appends held held' verdict → Appends told told' verdict → Logged (log_bytes told held) (log_bytes told' held') verdict
verdict_logged told told' held held' verdict a b = record { errors = b; report = a }

pub verdict_cut : (told held held' : Option (List ℕ)) (verdict : List ℕ) (fault : RunFault) → StopsWriting held held' verdict fault → BreaksOff (log_bytes told held) (log_bytes told held') verdict (Err (Report fault))
verdict_cut told held held' verdict fault stops = record { fault = fault; is = refl; stops = inl (stops, refl) }

pub verdict_cut_later : (told told' held held' : Option (List ℕ)) (verdict : List ℕ) (fault : RunFault) → Appends held held' verdict → StopsWriting told told' verdict fault
    → BreaksOff (log_bytes told held) (log_bytes told' held') verdict (Err (Report fault))
verdict_cut_later told told' held held' verdict fault kept stops = record { fault = fault; is = refl; stops = inr (kept, stops) }
