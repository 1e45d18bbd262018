use Rattle.std.proofs.lemmas.Grind.{common_steps}
use Rattle.std.proofs.Common.{length, ap, sym, ◌∙◌, subst, arith}
use Rattle.tas_published.specs.Version.{VersionContent}
use Rattle.tas_published.specs.Strokes.{AreNext, entries_in}
use Rattle.tas_published.specs.Published.{PublisherContent}
use Rattle.tas_published.proofs.EntryLemmas.{follows, accepted_as, change_is, same_current, edited_as, pushed_as, left_as}
use Rattle.tas_published.proofs.PublishLemmas.{where_ok, where_err, on_ok, on_err, not_ok, not_err}
use Rattle.tas_published.proofs.publisher.Publisher.pushed.Goals.{then-is_err, else-is_err}
use Rattle.tas_published.proofs.publisher.Publisher.pushed.Goals as goal

pub publish-writer-requires-clause-follows : goal.publish-writer-requires-clause-follows
publish-writer-requires-clause-follows g c =
    let may = subst (λ (s : PublisherContent _). AreNext s.journal (entries_in c.args.step)) (sym c.self.view_is) c.requires in
    let op = change_is c.self.inside.latest.registry c.self.inside.journal.items _ (entries_in c.args.step) _ _ _ _ _ c.in-Ok.ensures.stroke c.in-Ok.ensures.journal c.copy-version.ensures c.version.ensures c.renew.ensures c.new-change.ensures in
    follows _ _ _ _ _ c.args.step c.new-change.result c.self.invariant may op

pub publish-writer-requires-clause-known : goal.publish-writer-requires-clause-known
publish-writer-requires-clause-known g c = c.self.invariant.view ∙ sym c.self.invariant.same

pub invariant_of-publisher : goal.invariant_of-publisher
invariant_of-publisher g c =
    let e = c.publish-writer.ensures in
    let answer = c.publish-writer.result.1 in
    let registry = ap (λ (m : VersionContent _). m.registry) c.renew.ensures in
    let may = subst (λ (s : PublisherContent _). AreNext s.journal (entries_in c.args.step)) (sym c.self.view_is) c.requires in
    let op = change_is c.self.inside.latest.registry c.self.inside.journal.items _ (entries_in c.args.step) _ _ _ _ _ c.in-Ok.ensures.stroke c.in-Ok.ensures.journal c.copy-version.ensures c.version.ensures c.renew.ensures c.new-change.ensures in elim c.if-is_err.branch [
      | then-is_err w ↦
          let failed = sym c.is_err.ensures.value ∙ w.if-is_err.true in
          let back = ap (λ v. v.items) w.journal-is ∙ w.take_back.ensures _ _ c.in-Ok.ensures.journal (sym (ap length c.as_slice-kept.ensures.value)) in
          same_current _ _ _ _ _ _ _ _ _ _ c.self.invariant (where_err _ _ answer failed e.value) e.none (where_err _ _ answer failed e.view) registry back
      | else-is_err w ↦
          let done = sym c.is_err.ensures.value ∙ w.if-is_err.false in
          let list = ap (λ v. v.items) w.journal-is ∙ c.in-Ok.ensures.journal in
          accepted_as _ _ _ _ _ _ _ _ _ (entries_in c.args.step) c.new-change.result _ c.self.invariant may op e.none (where_ok _ _ answer done e.value) (where_ok _ _ answer done e.view) registry list
    ]

pub returns-after-is_err-clause-done : goal.returns-after-is_err-clause-done
returns-after-is_err-clause-done g c =
    let e = c.publish-writer.ensures in
    let answer = c.publish-writer.result.1 in
    let registry = ap (λ (m : VersionContent _). m.registry) c.renew.ensures in
    let op = change_is c.self.inside.latest.registry c.self.inside.journal.items _ (entries_in c.args.step) _ _ _ _ _ c.in-Ok.ensures.stroke c.in-Ok.ensures.journal c.copy-version.ensures c.version.ensures c.renew.ensures c.new-change.ensures in elim c.if-is_err.branch [
      | then-is_err w ↦ not_ok _ answer (sym c.is_err.ensures.value ∙ w.if-is_err.true)
      | else-is_err w ↦
          let done = sym c.is_err.ensures.value ∙ w.if-is_err.false in
          let list = ap (λ v. v.items) w.journal-is ∙ c.in-Ok.ensures.journal in
          on_ok _ answer (pushed_as _ _ _ _ _ _ _ (entries_in c.args.step) c.self.view_is registry list (edited_as c.self.inside.writer.desk.shown.value c.publish-writer.result.0.desk.shown.value _ _ _ op (where_ok _ _ answer done e.value)))
    ]

pub returns-after-is_err-clause-refused : goal.returns-after-is_err-clause-refused
returns-after-is_err-clause-refused g c =
    let e = c.publish-writer.ensures in
    let answer = c.publish-writer.result.1 in
    let registry = ap (λ (m : VersionContent _). m.registry) c.renew.ensures in elim c.if-is_err.branch [
      | then-is_err w ↦
          let failed = sym c.is_err.ensures.value ∙ w.if-is_err.true in
          let back = ap (λ v. v.items) w.journal-is ∙ w.take_back.ensures _ _ c.in-Ok.ensures.journal (sym (ap length c.as_slice-kept.ensures.value)) in
          on_err _ answer (left_as _ _ _ _ _ _ _ c.self.view_is registry back (ap (λ p. p.movie) (where_err _ _ answer failed e.value)))
      | else-is_err w ↦ not_err _ answer (sym c.is_err.ensures.value ∙ w.if-is_err.false)
    ]

pub returns-in-Err-clause-refused : goal.returns-in-Err-clause-refused
returns-in-Err-clause-refused g c = grind (arith, common_steps)

pub invariant_of-publisher-in-Err : goal.invariant_of-publisher-in-Err
invariant_of-publisher-in-Err g c = grind (arith, common_steps)
