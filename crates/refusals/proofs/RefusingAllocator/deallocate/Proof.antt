-- A block goes back to the inner allocator, uncounted. Assumes `Logic`.
use Rattle.refusals.proofs.Walks.{◌≡◌, List, [], ◌∷◌, refl, w64, proved, Al, seen, token, id⊢, Fml, ftrue, fsep, flft, inst_fn, Val, vunit, vint, vptr, ⊑_trans, ◌⊑◌, fact, tables, ‵, raw, ◌⊛◌, later, given, prop, ◌$◌, ◌∵◌, !, qed, done, move, keep, use1, split, split3, join, fsplit, fjoin, feq_i, learn, await, suffices, group, enter, of_opd, unit_lit, addr, stop, fld, no_more, and_then, returns, alloc_all, pass_all, free_all, look_at, get, through, sets, lands_as, usize, yes, unhide, uint_vals, uint_Tells, owns, shr_vals, plain, types_at, nothing, heard, calls_at, framed, Stays, walk_of, stay_dropped, Goes-dropped, ends_at}
use Rattle.std.proofs.alloc.Calls.{Gives, at_gives, Gives-goes, Gives-Gives}
use Rattle.std.specs.Allocator.{HasLayout}
use base.Logic.{never, fst∗}
use prog.Wp.{WpFn}
use types.Logic.{sem}
use types.Kit.{regoal}
use denote.RawPtr.{Ptr, RawPtr, block_ptr, null_ptr, ptr_val, room_for, in_a_block, rawptr_vals, rawptr_Tells}
use Rattle.refusals.proofs.Heap.{arguments, self, inner_at}
use Rattle.refusals.specs.contracts.RefusingAllocator.deallocate as f
use Rattle.refusals.proofs.RefusingAllocator.deallocate.Statement.{statement}
use Rattle.refusals.proofs.RefusingAllocator.deallocate.Code as code

module _ (inner : Al) where
  abbrev stayed : Stays (f.signature inner.row).params (f.ended inner.row inner.g inner.d inner.drops).kept
  stayed = (stay_dropped (self inner) yes, (stay_dropped (plain (λ _. RawPtr)) yes, (stay_dropped (plain (λ _. usize)) yes, (stay_dropped (plain (λ _. usize)) yes, tt))))

pub deallocate_spec : {M : Type 1} → statement M
deallocate_spec 𝓤 𝓛 𝓜 𝓡 wired B laws ghosts dict drops inner_met _ =
    let inner : Al = record { row = B; laws = laws; g = ghosts; d = dict; drops = drops } in
    let T = f.ended B ghosts dict drops in let hs = stayed inner in
    let c = f.clauses B ghosts dict drops 𝓛 𝓜.mem 𝓡.returns in let W = walk_of 𝓛 T hs c in
    let 𝓣 = tables 𝓤 𝓛.H 𝓜 𝓡 𝓡.env in let here = inst_fn (arguments inner) code.function in
    let word = Goes-dropped 𝓛 2 (plain (λ _. usize)) yes (λ κs x w. refl) in
    proved 𝓛 T hs c 𝓜 𝓡 (Goes-dropped 𝓛 2 (self inner) yes (λ κs x w. refl), (Goes-dropped 𝓛 2 (plain (λ _. RawPtr)) yes (λ κs x w. refl), (word, (word, tt))))
    (f.Key.name (arguments inner)) here (code.unfolded 𝓤 𝓛.H 𝓜 𝓡 wired (B, tt) dict drops)
    (λ κs. (shr_vals, (rawptr_vals, (uint_vals w64, (uint_vals w64, tt))))) (λ κs. ((λ r vs s. s.0), (rawptr_Tells, (uint_Tells w64, (uint_Tells w64, tt))))) (λ κs qs bounds a τ are.
    let κ = κs.0 in let q = qs.0 in let at = a.0.ref_ptr in let handle = a.0.now.inner in let n = a.1.1.0 in let al = a.1.1.1.0 in
    let y : Ptr → W.Ghost = λ x. ((κs, qs, bounds, (a.0, (x, (n, (al, tt)))), (shr_vals a.0, (rawptr_vals x, (uint_vals w64 n, (uint_vals w64 al, tt))))), τ) in
    let block : Ptr → Fml = λ x. fsep (room_for τ x) (token inner handle τ x) in
    qed 𝓛 (((‵ (flft κ q) ⊛ ‵ (flft κs.1.0 qs.1.0) ⊛ ‵ ftrue) ⊛ ‵ (owns (types_at T.signature.params κs) a (y a.1.0).0.4))
    ∷ (raw (fact 𝓤 (κs.1.0 ⊑ B.lives)) ⊛ raw (fact 𝓤 (HasLayout τ n al)) ⊛ ‵ (block a.1.0)) ∷ []) ∵
    move ! (1 ∷ []) $ split3 ! $ heard ! (κs.1.0 ⊑ B.lives) (λ lives. heard ! (HasLayout τ n al) (λ layout. move ! (1 ∷ []) $
    -- [what is behind the gate; the gate; .. ; two tokens; the block]
    split ! $ split ! $ move ! (2 ∷ []) $ fsplit ! $ fsplit ! $ move ! (1 ∷ []) $ unhide ! $ fsplit ! $ fsplit ! $
    move ! (1 ∷ []) $ fsplit ! $ keep ! (0 ∷ 6 ∷ 7 ∷ 8 ∷ []) $ use1 𝓛 (‵ (seen inner κ (inner_at inner at) handle)) (id⊢ 𝓤 _) $ move ! (3 ∷ []) $
    -- [the block; the inner allocator; its token; the other token]
    in_a_block ! a.1.0 block (fst∗ 𝓤 (never 𝓤) (sem 𝓛 (token inner handle τ null_ptr))) (λ b o e.
    regoal ! (λ x. prop (WpFn 𝓤 𝓛.H 𝓣.C 𝓣.Λ here (vptr at.0 at.1 ∷ ptr_val x ∷ vint w64 n ∷ vint w64 al ∷ []) (W.post (y x)))) e refl $
    let asked : (Gives inner 𝓛 𝓜.mem 𝓡.returns).Ghost = at_gives inner 𝓛 𝓜.mem 𝓡.returns κ q (inner_at inner at) handle b o n al τ in
    enter ! 𝓣.C 𝓣.Λ here _ _ $ alloc_all ! (λ l. pass_all ! refl ((tt, tt), ((tt, tt), ((tt, record { fits = are.1.1.0.1 }), ((tt, record { fits = are.1.1.1.0.1 }), tt)))) $
    sets ! (addr ! (through ! refl (fld ! refl (stop !)))) refl (tt, tt) $
    fsplit ! $ group ! 4 $ use1 𝓛 (raw ((Gives inner 𝓛 𝓜.mem 𝓡.returns).pre asked))
    (Gives-goes inner 𝓛 𝓜.mem 𝓡.returns κ q (inner_at inner at) handle (⊑_trans κ κs.1.0 B.lives bounds.0 lives) b o n al τ layout.0 layout.1 are.1.1.0.1 are.1.1.1.0.1) $
    calls_at ! (framed 𝓤 𝓛.H 𝓜 𝓣) (Gives inner 𝓛 𝓜.mem 𝓡.returns) (inner_met.deallocate drops) asked
    (and_then ! (get ! refl) (and_then ! (get ! refl) (and_then ! (get ! refl) (and_then ! (get ! refl) (no_more !))))) (λ v.
    use1 𝓛 (later (given (v ≡ vunit) (‵ (flft κ q)))) (Gives-Gives inner 𝓛 𝓜.mem 𝓡.returns κ q (inner_at inner at) handle b o n al τ v) $ await ! tt $ learn ! (λ told.
    lands_as ! told refl (tt, tt) $ sets ! (of_opd ! (unit_lit !)) refl (tt, tt) $ returns ! (look_at ! 0 refl) $ free_all ! refl $
    -- [two tokens]
    suffices ! _ (ends_at 𝓛 T hs c (y (block_ptr b o)) vunit tt (tt, (tt, (tt, (tt, tt)))) (tt, (tt, (tt, (tt, tt))))) $
    join ! $ feq_i ! (List Val) (vunit ∷ []) (vunit ∷ []) refl $
    nothing ! $ nothing ! $ fjoin ! $ nothing ! $ fjoin ! $ nothing ! $ fjoin ! $ nothing ! $ fjoin ! $ join ! $ move ! (1 ∷ 0 ∷ []) $ join ! $
    nothing ! $ move ! (1 ∷ 0 ∷ []) $ done !)))))))
