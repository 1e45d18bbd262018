use Rattle.std.proofs.lemmas.Result.{IfOk-weaker}
use Rattle.tas_engines.specs.Names.{names_of}
use Rattle.tas_engines.specs.NamesFile.{AreNames}
use Rattle.tas_search.specs.Words.{AllMean}
use Rattle.tas_search.proofs.NameLemmas.{names_mean}
use Rattle.tas_search.proofs.names.read_names.Goals as goal

pub returns-clause-mean : goal.returns-clause-mean
returns-clause-mean g c =
    IfOk-weaker c.read_names.result (λ names. AreNames c.args.text.now (names_of names.items)) (λ names. AllMean (names_of names.items) (names_of names.items))
    (λ names are. names_mean (names_of names.items) are.new) c.read_names.ensures.read
