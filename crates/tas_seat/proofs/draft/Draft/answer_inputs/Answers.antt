use Rattle.tas_seat.proofs.DraftLemmas.{inputs_answered}
use Rattle.tas_seat.proofs.draft.Draft.answer_inputs.Goals as goal

pub returns : goal.returns
returns g c =
    inputs_answered c.args.self.now c.edits.result c.args.from c.args.to c.movie.result.now c.list_inputs.result (λ bytes. bytes.items) c.movie.ensures.lawful c.edits.ensures.at c.movie.ensures.movie c.list_inputs.ensures
