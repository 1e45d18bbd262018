use Rattle.std.proofs.Common.{◌+◌, ◌-◌, ◌*◌}
use Rattle.tas_film.proofs.threads.+threads.Given as goal

abbrev pub decreases-on_threads_from : goal.decreases-on_threads_from
decreases-on_threads_from g l = 3 * (l.end - l.at)

abbrev pub decreases-first_and_others : goal.decreases-first_and_others
decreases-first_and_others g l = 3 * (l.end - l.next) + 2

abbrev pub decreases-first_and_others-back : goal.decreases-first_and_others-back
decreases-first_and_others-back g l = 3 * (l.end - l.next) + 1
