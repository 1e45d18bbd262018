-- One growth is refused, with nothing taken; each other one is answered as the inner allocator answers it. Assumes `Logic`.
use Rattle.refusals.proofs.Walks.{List, [], ◌∷◌, true, false, Ok, Err, refl, ap, w64, proved, Al, seen, token, Bool, id⊢, ftrue, fsep, flft, inst_fn, Val, vptr, ⊑_trans, ◌⊑◌, fact, tables, ‵, raw, ◌⊛◌, some, later, prop, at_ret, Sq, ◌$◌, ◌∵◌, !, qed, done, move, keep, drop, use0, use1, use2, split, join, fsplit, fjoin, feq_i, feq_l, pick, await, suffices, agg, enter, lit, addr, stop, fld, no_more, and_then, first, branches, skips, exec, returns, returns_within, alloc_all, pass_all, free_all, look_at, get, through, sets, lands_as, env, usize, bool, yes, unhide, uint_vals, uint_Tells, owns, shr_vals, plain, types_at, nothing, only, heard, calls_at, triple_of, framed, Stays, walk_of, stay_dropped, Goes-dropped, ends_at}
use Rattle.std.proofs.alloc.Calls.{Answer, answer_val, Answer-typed, Answer-Ok, Answer-err, Takes, at_takes, Answered, Takes-goes, Takes-gives, answers}
use Rattle.std.proofs.VecSteps.Shapes.{after}
use Rattle.std.specs.Allocator.{HasLayout, block_if_ok}
use base.Logic.{ent, emp}
use types.Logic.{sem}
use denote.RawPtr.{block_ptr}
use Rattle.refusals.proofs.Heap.{arguments, self, gate_at, inner_at}
use Rattle.refusals.specs.contracts.RefusingAllocator.allocate as f
use Rattle.refusals.proofs.RefusingAllocator.allocate.Statement.{statement}
use Rattle.refusals.proofs.RefusingAllocator.allocate.Code as code
use Rattle.refusals.specs.contracts.refuses_next as g
use Rattle.refusals.proofs.refuses_next.Met.{met}

module _ (inner : Al) where
  abbrev stayed : Stays (f.signature inner.row).params (f.ended inner.row inner.g inner.d inner.drops).kept
  stayed = (stay_dropped (self inner) yes, (stay_dropped (plain (λ _. usize)) yes, (stay_dropped (plain (λ _. usize)) yes, tt)))

pub allocate_spec : {M : Type 1} → statement M
allocate_spec 𝓤 𝓛 𝓜 𝓡 wired B laws ghosts dict drops inner_met _ =
    let inner : Al = record { row = B; laws = laws; g = ghosts; d = dict; drops = drops } in
    let T = f.ended B ghosts dict drops in let hs = stayed inner in
    let c = f.clauses B ghosts dict drops 𝓛 𝓜.mem 𝓡.returns in let W = walk_of 𝓛 T hs c in
    let 𝓣 = tables 𝓤 𝓛.H 𝓜 𝓡 𝓡.env in let here = inst_fn (arguments inner) code.function in
    let word = Goes-dropped 𝓛 2 (plain (λ _. usize)) yes (λ κs x w. refl) in
    proved 𝓛 T hs c 𝓜 𝓡 (Goes-dropped 𝓛 2 (self inner) yes (λ κs x w. refl), (word, (word, tt)))
    (f.Key.name (arguments inner)) here (code.unfolded 𝓤 𝓛.H 𝓜 𝓡 wired (B, tt) dict drops)
    (λ κs. (shr_vals, (uint_vals w64, (uint_vals w64, tt)))) (λ κs. ((λ r vs s. s.0), (uint_Tells w64, (uint_Tells w64, tt)))) (λ κs qs bounds a τ are.
    let κ = κs.0 in let q = qs.0 in let at = a.0.ref_ptr in let handle = a.0.now.inner in let n = a.1.0 in let al = a.1.1.0 in
    let y : W.Ghost = ((κs, qs, bounds, a, (shr_vals a.0, (uint_vals w64 n, (uint_vals w64 al, tt)))), τ) in
    -- [the block; two tokens], once the locals are gone
    let ends : (x : Answer.Denot) (v : Val) → ent 𝓤 (emp 𝓤) (sem 𝓛 (Answer.own_val x (v ∷ [])))
    → Sq 𝓛 (‵ (block_if_ok (token inner handle) τ x) ∷ ‵ (flft κ q) ∷ (‵ (flft κs.1.0 qs.1.0) ⊛ ‵ ftrue) ∷ []) (prop (W.post y v)) = λ x v owned.
    suffices ! _ (ends_at 𝓛 T hs c y v x (tt, (tt, (tt, tt))) (tt, (tt, (tt, tt)))) $
    move ! (1 ∷ 2 ∷ []) $ join ! $ use0 𝓛 (‵ (Answer.own_val x (v ∷ []))) owned $
    nothing ! $ nothing ! $ fjoin ! $ nothing ! $ fjoin ! $ nothing ! $ fjoin ! $ join ! $ move ! (1 ∷ 0 ∷ []) $ join ! $ done ! in
    qed 𝓛 (((‵ (flft κ q) ⊛ ‵ (flft κs.1.0 qs.1.0) ⊛ ‵ ftrue) ⊛ ‵ (owns (types_at T.signature.params κs) a y.0.4))
    ∷ (raw (fact 𝓤 (κs.1.0 ⊑ B.lives)) ⊛ raw (fact 𝓤 (HasLayout τ n al))) ∷ []) ∵
    move ! (1 ∷ []) $ split ! $ heard ! (κs.1.0 ⊑ B.lives) (λ lives. heard ! (HasLayout τ n al) (λ layout.
    -- [the gate; what is behind it; .. ; two tokens]
    split ! $ split ! $ move ! (2 ∷ []) $ fsplit ! $ fsplit ! $ move ! (1 ∷ []) $ unhide ! $ fsplit ! $ fsplit ! $
    move ! (1 ∷ []) $ fsplit ! $ keep ! (0 ∷ 2 ∷ 6 ∷ 7 ∷ []) $ use1 𝓛 (‵ (seen inner κ (inner_at inner at) handle)) (id⊢ 𝓤 _) $ move ! (1 ∷ 2 ∷ []) $
    -- [the gate; its token; the inner allocator; the other token]
    enter ! 𝓣.C 𝓣.Λ here _ _ $ alloc_all ! (λ l. pass_all ! refl ((tt, tt), ((tt, record { fits = are.1.0.1 }), ((tt, record { fits = are.1.1.0.1 }), tt))) $
    sets ! (addr ! (through ! refl (fld ! refl (stop !)))) refl (tt, tt) $
    let G = triple_of 𝓛 g.signature (g.spec 𝓛 𝓜.mem 𝓡.returns) in let p = gate_at inner at in
    let z : G.Ghost = (((κ, tt), (q, tt), tt, (record { ref_ptr = p; now = a.0.now.gate }, tt), (vptr p.0 p.1 ∷ [], tt)), tt) in
    feq_i ! (List Val) (vptr p.0 p.1 ∷ []) (vptr p.0 p.1 ∷ []) refl $ fjoin ! $ nothing ! $ move ! (1 ∷ 0 ∷ []) $ fjoin ! $
    nothing ! $ move ! (2 ∷ 0 ∷ []) $ join ! $ join ! $ nothing ! $ move ! (1 ∷ 0 ∷ []) $ use2 𝓛 (raw (G.pre z)) (id⊢ 𝓤 _) $
    calls_at ! (framed 𝓤 𝓛.H 𝓜 𝓣) G (met 𝓤 𝓛 𝓜 𝓡 (code.calls-refusals::refuses_next 𝓡.env wired)) z (and_then ! (get ! refl) (no_more !)) (λ u.
    use1 𝓛 (later (some (λ (refused : Bool). ((‵ (flft κ q) ⊛ ‵ ftrue) ⊛ ‵ (bool.own_val refused (u ∷ []))) ⊛
    some (λ (ws : Unit {0} × Unit {0}). ‵ (fsep ftrue ftrue) ⊛ ‵ ftrue)))) (id⊢ 𝓤 _) $ await ! tt $ pick ! (λ refused.
    split ! $ split ! $ move ! (1 ∷ []) $ feq_l ! (λ told. split ! $ move ! (1 ∷ []) $ drop ! $ move ! (1 ∷ []) $ drop ! $
    -- [the token; the inner allocator; the other token]
    lands_as ! (ap only told) refl (tt, tt) $
    first ! $ branches ! (get ! refl)
    (λ is. sets ! (agg ! (no_more !)) refl (tt, tt) $
    sets ! (agg ! (and_then ! (lit ! tt) (and_then ! (get ! refl) (no_more !)))) refl (Answer-typed false 0 0) $
    returns_within ! (W.post y) refl (look_at ! 0 refl) $ free_all ! refl $ move ! (1 ∷ []) $ drop ! $ nothing ! $
    ends (Err (record {})) (answer_val false 0 0) (Answer-err 𝓛))
    (λ not. skips ! $ exec ! 𝓣.C 𝓣.Λ (env here.locals l) (after 3 here.body) (at_ret _ (W.post y)) $
    sets ! (addr ! (through ! refl (fld ! refl (stop !)))) refl (tt, tt) $ move ! (1 ∷ 0 ∷ []) $
    let asked : (Takes inner 𝓛 𝓜.mem 𝓡.returns).Ghost = at_takes inner 𝓛 𝓜.mem 𝓡.returns κ q (inner_at inner at) handle n al τ in
    use2 𝓛 (raw ((Takes inner 𝓛 𝓜.mem 𝓡.returns).pre asked))
    (Takes-goes inner 𝓛 𝓜.mem 𝓡.returns κ q (inner_at inner at) handle (⊑_trans κ κs.1.0 B.lives bounds.0 lives) n al τ layout.0 layout.1 are.1.0.1 are.1.1.0.1) $
    calls_at ! (framed 𝓤 𝓛.H 𝓜 𝓣) (Takes inner 𝓛 𝓜.mem 𝓡.returns) (inner_met.allocate drops) asked
    (and_then ! (get ! refl) (and_then ! (get ! refl) (and_then ! (get ! refl) (no_more !)))) (λ v.
    use1 𝓛 (later (raw (Answered inner 𝓛 𝓜.mem 𝓡.returns handle τ v) ⊛ ‵ (flft κ q))) (Takes-gives inner 𝓛 𝓜.mem 𝓡.returns κ q (inner_at inner at) handle n al τ v) $
    await ! tt $ split ! $ answers inner ! 𝓜.mem 𝓡.returns handle τ v
    (λ b o told. fjoin ! $ lands_as ! told refl (Answer-typed true b o) $ returns ! (look_at ! 0 refl) $ free_all ! refl $
    ends (Ok (block_ptr b o)) (answer_val true b o) (Answer-Ok 𝓛 b o))
    (λ told. lands_as ! told refl (Answer-typed false 0 0) $ returns ! (look_at ! 0 refl) $ free_all ! refl $ nothing ! $
    ends (Err (record {})) (answer_val false 0 0) (Answer-err 𝓛)))))))))))
