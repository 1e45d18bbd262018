use Rattle.std.proofs.Common.{◌≡◌, ◌∙◌, rules, ap, subst, sym}
use Rattle.vcs_tia.specs.Inside.Flags.{word_of, latch_flags, setting_flags}
use Rattle.vcs_tia.specs.Inside.Packing.{AreWords, tia_of, parts_of}
use Rattle.vcs_tia.proofs.Packing.{are_words, tia_of-parts_of}
use Rattle.vcs_tia.proofs.chip.Tia.pack.Goals as goal

pub invariant_of-result : goal.invariant_of-result
invariant_of-result c =
    let t = c.args.self.now in
    let flags : c.word_of.result ≡ word_of (setting_flags t) = search rules in
    let latches : c.word_of-2.result ≡ word_of (latch_flags t.latches) = search rules in
    subst (λ f. AreWords f c.word_of-2.result) (sym flags) (subst (λ l. AreWords (word_of (setting_flags t)) l) (sym latches) (are_words t))

pub returns : goal.returns
returns c =
    let t = c.args.self.now in
    let flags : c.word_of.result ≡ word_of (setting_flags t) = search rules in
    let latches : c.word_of-2.result ≡ word_of (latch_flags t.latches) = search rules in
    let player0 : c.of.result ≡ (parts_of t).player0 = search rules in
    let player1 : c.of-2.result ≡ (parts_of t).player1 = search rules in
    let missile0 : c.of-3.result ≡ (parts_of t).missile0 = search rules in
    let missile1 : c.of-4.result ≡ (parts_of t).missile1 = search rules in
    let ball : c.of-5.result ≡ (parts_of t).ball = search rules in
    let playfield : c.of-6.result ≡ (parts_of t).playfield = search rules in
    ap tia_of
    (λ i. record (parts_of t) {
      flags = flags i;
      latches = latches i;
      player0 = player0 i;
      player1 = player1 i;
      missile0 = missile0 i;
      missile1 = missile1 i;
      ball = ball i;
      playfield = playfield i;
    })
    ∙ tia_of-parts_of t
