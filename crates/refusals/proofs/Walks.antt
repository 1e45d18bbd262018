-- The names that the walks of both methods cite.
pub use Rattle.std.proofs.Common.{◌≡◌, ℕ, List, [], ◌∷◌, true, false, Ok, Err, refl, ap, w64}
pub use Rattle.std.proofs.raw_atomic.Walks.{proved}
pub use Rattle.std.proofs.alloc.Calls.{Al, seen, token}
pub use mathlib.Core.Bool.{Bool}
pub use base.Logic.{id⊢}
pub use base.Fml.{Fml, ftrue, fsep, flft}
pub use mir.MapTy.{inst_fn}
pub use mir.Val.{Val, vbool, vunit, vint, vptr}
pub use prog.Memory.{size, align, capped}
pub use sound.WpLaws.{fm_of}
pub use contract.BorrowLft.{◌⊑◌, ⊑_trans}
pub use contract.Monad.{fact}
pub use contract.Running.{tables}
pub use types.Kit.{‵, raw, ◌⊛◌, some, later, given, prop, at_ret, Sq, ◌$◌, ◌∵◌, !, qed, done, move, keep, drop, use0, use1, use2, split, split3, join, fsplit, fjoin, feq_i, feq_l, learn, pick, await, suffices, frame, group}
pub use types.Part.{agg}
pub use types.Run.{enter, of_opd, lit, unit_lit, addr, stop, fld, no_more, and_then, first, branches, skips, exec, returns, returns_within}
pub use types.ByLocal.{alloc_all, pass_all, free_all, look_at, get, through, sets, lands_as, env}
pub use denote.Builtin.{usize, bool}
pub use denote.Exit.{yes}
pub use denote.Opens.{unhide}
pub use denote.Plain.{uint_vals, uint_Tells}
pub use denote.RattleType.{owns}
pub use denote.Ref.{shr_vals}
pub use denote.Signature.{plain, types_at}
pub use denote.Steps.{nothing, only, heard}
pub use denote.Triple.Call.{calls_at}
pub use denote.Triple.Clauses.{lasts}
pub use denote.Triple.Spec.{triple_of}
pub use denote.Triple.Table.{framed}
pub use denote.Triple.Walked.{Stays, walk_of, stay_dropped, Goes-dropped, ends_at}
