use Rattle.std.proofs.Common.{refl, sym}
use Rattle.tas_seat.specs.Drafts.{stroke_of}
use Rattle.tas_seat.proofs.StrokeLemmas.{differ_stroke, differ_leads}
use Rattle.tas_seat.proofs.draft_stroke.stroke_len.Goals as goal

pub returns-clause-stroke : goal.returns-clause-stroke
returns-clause-stroke g c = record {
  edits = stroke_of g.row.A.Denot c.differing.result.0 c.differing.result.1.now c.differing.result.2.now;
  stroke_is = differ_stroke g.row.A.Denot c.args.base.now c.args.movie.now _ _ _ _ c.differing.ensures.differ refl;
  leads = differ_leads g.row.A.Denot c.args.base.now c.args.movie.now _ _ _ _ c.requires c.differing.ensures.most c.differing.ensures.differ refl;
  long = sym (c.len_at.ensures.stroke c.differing.result.0);
}
