use Rattle.tas_engines.proofs.diffing.difference_text.Goals as goal

pub returns-clause-text : goal.returns-clause-text
returns-clause-text g c =
    let (changes, makes, said) = c.in_ok-script_between.ensures in
    (c.in_ok-old.old, c.in_ok-old.new, changes, c.in_ok-old.ensures, makes, said)
