use Rattle.std.proofs.Common.{◌≡◌, ◌++◌, List, ℕ, ap, sym, subst, ◌∙◌}
use Rattle.std.specs.Prelude.{OnOk, codes}
use Rattle.vcs_inputs.specs.declared.input.Input.{Input}
use Rattle.tas_language.specs.History.{run_lines, some_runs_of, IsCartridge, LoadsCartridge}
use Rattle.tas_language.proofs.HistoryLemmas.{insert_lines, replace_lines}
use Rattle.tas_language.proofs.history.push_edit_lines.Goals as goal

pub returns-in-Load-clause-cartridge : goal.returns-in-Load-clause-cartridge
returns-in-Load-clause-cartridge g c =
    subst LoadsCartridge (sym c.in-Load.is) (subst IsCartridge c.bytes.ensures.value (c.bytes.ensures.size, c.push_load.ensures.bytes))

pub returns-in-Insert-clause-text : goal.returns-in-Insert-clause-text
returns-in-Insert-clause-text g c =
    let prefix = c.args.prefix.now in
    let at = c.in-Insert.at in
    subst (λ (l : List ℕ). OnOk c.push_inputs.result (c.push_inputs.new.text.items ≡ c.args.text.now.items ++ l))
    (ap (λ (l : List Input). run_lines prefix (codes "insert ") at (some_runs_of l)) c.as_slice.ensures ∙ insert_lines prefix at _ c.args.edit.now c.in-Insert.is)
    c.push_inputs.ensures

pub returns-in-Replace-clause-text : goal.returns-in-Replace-clause-text
returns-in-Replace-clause-text g c =
    let prefix = c.args.prefix.now in
    let at = c.in-Replace.at in
    subst (λ (l : List ℕ). OnOk c.push_inputs-in-Replace.result (c.push_inputs-in-Replace.new.text.items ≡ c.args.text.now.items ++ l))
    (ap (λ (l : List Input). run_lines prefix (codes "replace ") at (some_runs_of l)) c.as_slice-in-Replace.ensures ∙ replace_lines prefix at _ c.args.edit.now c.in-Replace.is)
    c.push_inputs-in-Replace.ensures
