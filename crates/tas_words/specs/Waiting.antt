-- What a task waits for before it answers.
use Rattle.std.specs.Prelude.{Option, Some, None, codes, option_and_then}
use Rattle.clap.specs.Walk.{Text}
use Rattle.tas_words.specs.declared.task.Task.{Task}
use Rattle.tas_words.specs.declared.task.Task.TheVariants.{Trace, Check, Migrate, New, Recover, Search, Verify, Shot, Film, Export, Ram, Digest, Compare, Lag, Edit, Cut, Diff, Script, Talk, Desk}
use Rattle.tas_words.specs.Guides.{guide_named}

-- the name of a task's command, where it reads standard input whole
abbrev pub whole_reader : Task → Option Text
whole_reader (Trace n) = Some (codes "trace")
whole_reader (Check cart) = Some (codes "check")
whole_reader (Migrate cart) = Some (codes "migrate")
whole_reader (New cart frames) = None
whole_reader (Recover words) = Some (codes "recover")
whole_reader (Search words) = Some (codes "search")
whole_reader (Verify words) = Some (codes "verify")
whole_reader (Shot cart k) = Some (codes "shot")
whole_reader (Film cart from to) = Some (codes "film")
whole_reader (Export cart from to workers) = Some (codes "export")
whole_reader (Ram cart from to names) = Some (codes "ram")
whole_reader (Digest cart every) = Some (codes "digest")
whole_reader (Compare cart old) = Some (codes "compare")
whole_reader (Lag cart) = Some (codes "lag")
whole_reader (Edit cart script other) = Some (codes "edit")
whole_reader (Cut cart from to) = Some (codes "cut")
whole_reader (Diff cart old) = Some (codes "diff")
whole_reader (Script start) = Some (codes "script")
whole_reader (Talk words) = None
whole_reader (Desk words) = None

-- the tip of that command: what it reads from standard input, with a call of it
abbrev pub waits_for : Task → Option Text
waits_for chosen = option_and_then (λ name. option_and_then (λ command. command.tip) (guide_named name)) (whole_reader chosen)
