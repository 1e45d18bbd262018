use Rattle.std.proofs.Common.{◌≡◌, ◌+◌, sym, ap, subst, ◌∙◌}
use Rattle.std.specs.Cmp.Lexicographic.{same_text, other_text}
use Rattle.vcs_machine.specs.declared.state.State.{State}
use Rattle.tas_engines.specs.Ram.{ram_after}
use Rattle.tas_engines.specs.Comparing.{ram_at, picture_at, IsFirstUpTo}
use Rattle.tas_engines.proofs.CompareLemmas.{up_to_more, same_there, other_there}
use Rattle.tas_engines.proofs.compare.compare_frame.Goals as goal

pub returns-clause-found : goal.returns-clause-found
returns-clause-found g c =
    let old = c.args.old.now in
    let new = c.args.new.now in
    let k = c.args.k in
    let lt = c.requires.old.0 in
    let less = c.requires.new.0 in
    let ram : c.ram.result ≡ ram_after c.args.old.now (c.args.k + 1) = c.ram.ensures ∙ ap (λ (s : State). s.riot.ram) c.in_ok-play_side.ensures.state in
    let ram2 : c.ram-2.result ≡ ram_after c.args.new.now (c.args.k + 1) = c.ram-2.ensures ∙ ap (λ (s : State). s.riot.ram) c.in_ok-play_side-2.ensures.state in
    let map = c.as_slice.ensures.value ∙ c.in_ok-play_side.ensures.pixmap in
    let map2 = c.as_slice-2.ensures.value ∙ c.in_ok-play_side-2.ensures.pixmap in
    record {
      ram = subst (IsFirstUpTo (ram_at old) (ram_at new) (k + 1)) (sym c.first_of.ensures)
          (up_to_more (ram_at old) (ram_at new) k c.args.found.ram c.eq-same_ram.result c.requires.found.ram
          (λ on. same_there old new k _ _ lt less (sym ram ∙ same_text c.ram.result c.ram-2.result (sym on ∙ c.eq-same_ram.ensures) ∙ ram2))
          (λ off. other_there old new k _ _ lt less (λ e. other_text c.ram.result c.ram-2.result (sym off ∙ c.eq-same_ram.ensures) (ram ∙ e ∙ sym ram2))));
      picture = subst (IsFirstUpTo (picture_at old) (picture_at new) (k + 1)) (sym c.first_of-2.ensures)
          (up_to_more (picture_at old) (picture_at new) k c.args.found.picture c.eq-same_picture.result c.requires.found.picture
          (λ on. same_there old new k _ _ lt less (sym map ∙ same_text c.as_slice.result.now c.as_slice-2.result.now (sym on ∙ c.eq-same_picture.ensures) ∙ map2))
          (λ off. other_there old new k _ _ lt less (λ e. other_text c.as_slice.result.now c.as_slice-2.result.now (sym off ∙ c.eq-same_picture.ensures) (map ∙ e ∙ sym map2))));
    }
