use Rattle.std.proofs.Common.{◌≡◌, ℕ, ◌∙◌, ◌&&◌, ap, sym, subst}
use Rattle.vcs_tia.specs.declared.chip.Tia.{Tia}
use Rattle.vcs_tia.specs.declared.objects.Player.{Player}
use Rattle.vcs_tia.specs.declared.objects.Missile.{Missile}
use Rattle.vcs_tia.specs.declared.objects.Ball.{Ball}
use Rattle.vcs_tia.specs.declared.playfield.Playfield.{Playfield}
use Rattle.vcs_tia.specs.declared.register.Register.TheVariants.{Vsync, Vblank, Wsync, Nusiz0, Nusiz1, Colup0, Colup1, Colupf, Colubk, Ctrlpf, Refp0, Refp1, Pf0, Pf1, Pf2, Resp0, Resp1, Resm0, Resm1, Resbl, Grp0, Grp1, Enam0, Enam1, Enabl, Hmp0, Hmp1, Hmm0, Hmm1, Hmbl, Vdelp0, Vdelp1, Vdelbl, Resmp0, Resmp1, Hmove, Hmclr, Cxclr, Unused}
use Rattle.vcs_tia.specs.Later.{drawn_player, drawn_missile, drawn_ball}
use Rattle.vcs_tia.specs.Inside.ConditionalWrite.{IsConditionalWrite}
use Rattle.vcs_tia.proofs.Unseen.{asked, done_unseen, lift, where_drawn, unseen-vsync, unseen-vblank, unseen-wsync, unseen-nusiz0, unseen-nusiz1, unseen-colup0, unseen-colup1, unseen-colupf, unseen-colubk, unseen-ctrlpf, unseen-refp0, unseen-refp1, unseen-pf0, unseen-pf1, unseen-pf2, unseen-grp0, unseen-grp1, unseen-enam0, unseen-enam1, unseen-enabl, unseen-hmp0, unseen-hmp1, unseen-hmm0, unseen-hmm1, unseen-hmbl, unseen-vdelp0, unseen-vdelp1, unseen-vdelbl, unseen-resmp0, unseen-resmp1, unseen-hmclr, unseen-unused}
use Rattle.vcs_tia.proofs.chip.Tia.try_write.Goals as goal

pub returns-in-Vsync : goal.returns-in-Vsync
returns-in-Vsync c =
    let t = c.args.self.now in
    let is = sym c.at.ensures ∙ c.in-Vsync.is in
    done_unseen (c.write_vsync.ensures ∙ asked Vsync c.args.addr c.args.value t is) (unseen-vsync c.args.drawn c.args.addr c.args.value t is)

pub returns-in-Vblank : goal.returns-in-Vblank
returns-in-Vblank c =
    let t = c.args.self.now in
    let is = sym c.at.ensures ∙ c.in-Vblank.is in
    lift (λ (x : Tia). x) (asked Vblank c.args.addr c.args.value t is) (unseen-vblank c.args.drawn c.args.addr c.args.value t is) (where_drawn c.write_vblank.ensures)

pub returns-in-Wsync : goal.returns-in-Wsync
returns-in-Wsync c =
    let t = c.args.self.now in
    let is = sym c.at.ensures ∙ c.in-Wsync.is in
    done_unseen (asked Wsync c.args.addr c.args.value t is) (unseen-wsync c.args.drawn c.args.addr c.args.value t is)

pub returns-in-Nusiz0 : goal.returns-in-Nusiz0
returns-in-Nusiz0 c =
    let t = c.args.self.now in
    let is = sym c.at.ensures ∙ c.in-Nusiz0.is in
    lift (λ (o : Player × Missile). record t { player0 = o.0; missile0 = o.1 }) (asked Nusiz0 c.args.addr c.args.value t is) (λ h. unseen-nusiz0 c.args.drawn c.args.addr c.args.value t is h.same_player h.same_missile h.same_width) c.write_nusiz.ensures

pub returns-in-Nusiz1 : goal.returns-in-Nusiz1
returns-in-Nusiz1 c =
    let t = c.args.self.now in
    let is = sym c.at.ensures ∙ c.in-Nusiz1.is in
    lift (λ (o : Player × Missile). record t { player1 = o.0; missile1 = o.1 }) (asked Nusiz1 c.args.addr c.args.value t is) (λ h. unseen-nusiz1 c.args.drawn c.args.addr c.args.value t is h.same_player h.same_missile h.same_width) c.write_nusiz-in-Nusiz1.ensures

pub returns-in-Colup0 : goal.returns-in-Colup0
returns-in-Colup0 c =
    let t = c.args.self.now in
    let is = sym c.at.ensures ∙ c.in-Colup0.is in
    lift (λ b. record t { colours = record t.colours { player0 = b } }) (asked Colup0 c.args.addr c.args.value t is) (unseen-colup0 c.args.drawn c.args.addr c.args.value t is)
    (where_drawn (subst (λ b. IsConditionalWrite (c.args.pending && c.args.drawn) c.put.result (t.colours.player0 ≡ b) t.colours.player0 c.put.new.place b) c.colour.ensures c.put.ensures))

pub returns-in-Colup1 : goal.returns-in-Colup1
returns-in-Colup1 c =
    let t = c.args.self.now in
    let is = sym c.at.ensures ∙ c.in-Colup1.is in
    lift (λ b. record t { colours = record t.colours { player1 = b } }) (asked Colup1 c.args.addr c.args.value t is) (unseen-colup1 c.args.drawn c.args.addr c.args.value t is)
    (where_drawn (subst (λ b. IsConditionalWrite (c.args.pending && c.args.drawn) c.put-in-Colup1.result (t.colours.player1 ≡ b) t.colours.player1 c.put-in-Colup1.new.place b) c.colour-in-Colup1.ensures c.put-in-Colup1.ensures))

pub returns-in-Colupf : goal.returns-in-Colupf
returns-in-Colupf c =
    let t = c.args.self.now in
    let is = sym c.at.ensures ∙ c.in-Colupf.is in
    lift (λ b. record t { colours = record t.colours { playfield = b } }) (asked Colupf c.args.addr c.args.value t is) (unseen-colupf c.args.drawn c.args.addr c.args.value t is)
    (where_drawn (subst (λ b. IsConditionalWrite (c.args.pending && c.args.drawn) c.put-in-Colupf.result (t.colours.playfield ≡ b) t.colours.playfield c.put-in-Colupf.new.place b) c.colour-in-Colupf.ensures c.put-in-Colupf.ensures))

pub returns-in-Colubk : goal.returns-in-Colubk
returns-in-Colubk c =
    let t = c.args.self.now in
    let is = sym c.at.ensures ∙ c.in-Colubk.is in
    lift (λ b. record t { colours = record t.colours { background = b } }) (asked Colubk c.args.addr c.args.value t is) (unseen-colubk c.args.drawn c.args.addr c.args.value t is)
    (where_drawn (subst (λ b. IsConditionalWrite (c.args.pending && c.args.drawn) c.put-in-Colubk.result (t.colours.background ≡ b) t.colours.background c.put-in-Colubk.new.place b) c.colour-in-Colubk.ensures c.put-in-Colubk.ensures))

pub returns-in-Ctrlpf : goal.returns-in-Ctrlpf
returns-in-Ctrlpf c =
    let t = c.args.self.now in
    let is = sym c.at.ensures ∙ c.in-Ctrlpf.is in
    lift (λ (x : Tia). x) (asked Ctrlpf c.args.addr c.args.value t is) (λ h. unseen-ctrlpf c.args.drawn c.args.addr c.args.value t is h.mirrored h.width h.score h.priority) c.write_ctrlpf.ensures

pub returns-in-Refp0 : goal.returns-in-Refp0
returns-in-Refp0 c =
    let t = c.args.self.now in
    let is = sym c.at.ensures ∙ c.in-Refp0.is in
    lift (λ (o : Player). record t { player0 = o }) (asked Refp0 c.args.addr c.args.value t is) (unseen-refp0 c.args.drawn c.args.addr c.args.value t is)
    (subst (λ b. IsConditionalWrite c.args.pending c.set_reflected.result (drawn_player (record t.player0 { reflected = b }) ≡ drawn_player t.player0) t.player0 c.set_reflected.new.self (record t.player0 { reflected = b })) c.bit.ensures c.set_reflected.ensures)

pub returns-in-Refp1 : goal.returns-in-Refp1
returns-in-Refp1 c =
    let t = c.args.self.now in
    let is = sym c.at.ensures ∙ c.in-Refp1.is in
    lift (λ (o : Player). record t { player1 = o }) (asked Refp1 c.args.addr c.args.value t is) (unseen-refp1 c.args.drawn c.args.addr c.args.value t is)
    (subst (λ b. IsConditionalWrite c.args.pending c.set_reflected-in-Refp1.result (drawn_player (record t.player1 { reflected = b }) ≡ drawn_player t.player1) t.player1 c.set_reflected-in-Refp1.new.self (record t.player1 { reflected = b })) c.bit-in-Refp1.ensures c.set_reflected-in-Refp1.ensures)

pub returns-in-Pf0 : goal.returns-in-Pf0
returns-in-Pf0 c =
    let t = c.args.self.now in
    let is = sym c.at.ensures ∙ c.in-Pf0.is in
    lift (λ (o : Playfield). record t { playfield = o }) (asked Pf0 c.args.addr c.args.value t is) (unseen-pf0 c.args.drawn c.args.addr c.args.value t is) c.set_pf0.ensures

pub returns-in-Pf1 : goal.returns-in-Pf1
returns-in-Pf1 c =
    let t = c.args.self.now in
    let is = sym c.at.ensures ∙ c.in-Pf1.is in
    lift (λ (o : Playfield). record t { playfield = o }) (asked Pf1 c.args.addr c.args.value t is) (unseen-pf1 c.args.drawn c.args.addr c.args.value t is) c.set_pf1.ensures

pub returns-in-Pf2 : goal.returns-in-Pf2
returns-in-Pf2 c =
    let t = c.args.self.now in
    let is = sym c.at.ensures ∙ c.in-Pf2.is in
    lift (λ (o : Playfield). record t { playfield = o }) (asked Pf2 c.args.addr c.args.value t is) (unseen-pf2 c.args.drawn c.args.addr c.args.value t is) c.set_pf2.ensures

pub returns-in-Resp0 : goal.returns-in-Resp0
returns-in-Resp0 c =
    let t = c.args.self.now in
    let is = sym c.at.ensures ∙ c.in-Resp0.is in
    lift (λ (o : Player). record t { player0 = o }) (asked Resp0 c.args.addr c.args.value t is) (λ no. absurd no)
    (subst (λ (x : ℕ). IsConditionalWrite c.args.pending c.strobe.result ⊥ t.player0 c.strobe.new.self (record t.player0 { place = x })) c.player_strobed.ensures c.strobe.ensures)

pub returns-in-Resp1 : goal.returns-in-Resp1
returns-in-Resp1 c =
    let t = c.args.self.now in
    let is = sym c.at.ensures ∙ c.in-Resp1.is in
    lift (λ (o : Player). record t { player1 = o }) (asked Resp1 c.args.addr c.args.value t is) (λ no. absurd no)
    (subst (λ (x : ℕ). IsConditionalWrite c.args.pending c.strobe-in-Resp1.result ⊥ t.player1 c.strobe-in-Resp1.new.self (record t.player1 { place = x })) c.player_strobed-in-Resp1.ensures c.strobe-in-Resp1.ensures)

pub returns-in-Resm0 : goal.returns-in-Resm0
returns-in-Resm0 c =
    let t = c.args.self.now in
    let is = sym c.at.ensures ∙ c.in-Resm0.is in
    lift (λ (o : Missile). record t { missile0 = o }) (asked Resm0 c.args.addr c.args.value t is) (λ no. absurd no)
    (subst (λ (x : ℕ). IsConditionalWrite c.args.pending c.strobe-in-Resm0.result ⊥ t.missile0 c.strobe-in-Resm0.new.self (record t.missile0 { place = x })) c.missile_strobed.ensures c.strobe-in-Resm0.ensures)

pub returns-in-Resm1 : goal.returns-in-Resm1
returns-in-Resm1 c =
    let t = c.args.self.now in
    let is = sym c.at.ensures ∙ c.in-Resm1.is in
    lift (λ (o : Missile). record t { missile1 = o }) (asked Resm1 c.args.addr c.args.value t is) (λ no. absurd no)
    (subst (λ (x : ℕ). IsConditionalWrite c.args.pending c.strobe-in-Resm1.result ⊥ t.missile1 c.strobe-in-Resm1.new.self (record t.missile1 { place = x })) c.missile_strobed-in-Resm1.ensures c.strobe-in-Resm1.ensures)

pub returns-in-Resbl : goal.returns-in-Resbl
returns-in-Resbl c =
    let t = c.args.self.now in
    let is = sym c.at.ensures ∙ c.in-Resbl.is in
    lift (λ (o : Ball). record t { ball = o }) (asked Resbl c.args.addr c.args.value t is) (λ no. absurd no)
    (subst (λ (x : ℕ). IsConditionalWrite c.args.pending c.strobe-in-Resbl.result ⊥ t.ball c.strobe-in-Resbl.new.self (record t.ball { place = x })) c.missile_strobed-in-Resbl.ensures c.strobe-in-Resbl.ensures)

pub returns-in-Grp0 : goal.returns-in-Grp0
returns-in-Grp0 c =
    let t = c.args.self.now in
    let is = sym c.at.ensures ∙ c.in-Grp0.is in
    lift (λ (x : Tia). x) (asked Grp0 c.args.addr c.args.value t is) (λ h. unseen-grp0 c.args.drawn c.args.addr c.args.value t is h.changed h.kept) c.write_grp0.ensures

pub returns-in-Grp1 : goal.returns-in-Grp1
returns-in-Grp1 c =
    let t = c.args.self.now in
    let is = sym c.at.ensures ∙ c.in-Grp1.is in
    lift (λ (x : Tia). x) (asked Grp1 c.args.addr c.args.value t is) (λ h. unseen-grp1 c.args.drawn c.args.addr c.args.value t is h.0.changed h.0.kept h.1) c.write_grp1.ensures

pub returns-in-Enam0 : goal.returns-in-Enam0
returns-in-Enam0 c =
    let t = c.args.self.now in
    let is = sym c.at.ensures ∙ c.in-Enam0.is in
    lift (λ (o : Missile). record t { missile0 = o }) (asked Enam0 c.args.addr c.args.value t is) (unseen-enam0 c.args.drawn c.args.addr c.args.value t is)
    (subst (λ b. IsConditionalWrite c.args.pending c.set_enabled.result (drawn_missile (record t.missile0 { enabled = b }) ≡ drawn_missile t.missile0) t.missile0 c.set_enabled.new.self (record t.missile0 { enabled = b })) c.bit-in-Enam0.ensures c.set_enabled.ensures)

pub returns-in-Enam1 : goal.returns-in-Enam1
returns-in-Enam1 c =
    let t = c.args.self.now in
    let is = sym c.at.ensures ∙ c.in-Enam1.is in
    lift (λ (o : Missile). record t { missile1 = o }) (asked Enam1 c.args.addr c.args.value t is) (unseen-enam1 c.args.drawn c.args.addr c.args.value t is)
    (subst (λ b. IsConditionalWrite c.args.pending c.set_enabled-in-Enam1.result (drawn_missile (record t.missile1 { enabled = b }) ≡ drawn_missile t.missile1) t.missile1 c.set_enabled-in-Enam1.new.self (record t.missile1 { enabled = b })) c.bit-in-Enam1.ensures c.set_enabled-in-Enam1.ensures)

pub returns-in-Enabl : goal.returns-in-Enabl
returns-in-Enabl c =
    let t = c.args.self.now in
    let is = sym c.at.ensures ∙ c.in-Enabl.is in
    lift (λ (o : Ball). record t { ball = o }) (asked Enabl c.args.addr c.args.value t is) (unseen-enabl c.args.drawn c.args.addr c.args.value t is)
    (subst (λ b. IsConditionalWrite c.args.pending c.set_enabled-in-Enabl.result (drawn_ball (record t.ball { enabled = b }) ≡ drawn_ball t.ball) t.ball c.set_enabled-in-Enabl.new.self (record t.ball { enabled = b })) c.bit-in-Enabl.ensures c.set_enabled-in-Enabl.ensures)

pub returns-in-Hmp0 : goal.returns-in-Hmp0
returns-in-Hmp0 c =
    let t = c.args.self.now in
    let is = sym c.at.ensures ∙ c.in-Hmp0.is in
    done_unseen (ap (λ (o : Player). record t { player0 = o }) (c.set_motion.ensures ∙ ap (λ (x : ℕ). record t.player0 { motion = x }) c.high.ensures) ∙ asked Hmp0 c.args.addr c.args.value t is) (unseen-hmp0 c.args.drawn c.args.addr c.args.value t is)

pub returns-in-Hmp1 : goal.returns-in-Hmp1
returns-in-Hmp1 c =
    let t = c.args.self.now in
    let is = sym c.at.ensures ∙ c.in-Hmp1.is in
    done_unseen (ap (λ (o : Player). record t { player1 = o }) (c.set_motion-in-Hmp1.ensures ∙ ap (λ (x : ℕ). record t.player1 { motion = x }) c.high-in-Hmp1.ensures) ∙ asked Hmp1 c.args.addr c.args.value t is) (unseen-hmp1 c.args.drawn c.args.addr c.args.value t is)

pub returns-in-Hmm0 : goal.returns-in-Hmm0
returns-in-Hmm0 c =
    let t = c.args.self.now in
    let is = sym c.at.ensures ∙ c.in-Hmm0.is in
    done_unseen (ap (λ (o : Missile). record t { missile0 = o }) (c.set_motion-in-Hmm0.ensures ∙ ap (λ (x : ℕ). record t.missile0 { motion = x }) c.high-in-Hmm0.ensures) ∙ asked Hmm0 c.args.addr c.args.value t is) (unseen-hmm0 c.args.drawn c.args.addr c.args.value t is)

pub returns-in-Hmm1 : goal.returns-in-Hmm1
returns-in-Hmm1 c =
    let t = c.args.self.now in
    let is = sym c.at.ensures ∙ c.in-Hmm1.is in
    done_unseen (ap (λ (o : Missile). record t { missile1 = o }) (c.set_motion-in-Hmm1.ensures ∙ ap (λ (x : ℕ). record t.missile1 { motion = x }) c.high-in-Hmm1.ensures) ∙ asked Hmm1 c.args.addr c.args.value t is) (unseen-hmm1 c.args.drawn c.args.addr c.args.value t is)

pub returns-in-Hmbl : goal.returns-in-Hmbl
returns-in-Hmbl c =
    let t = c.args.self.now in
    let is = sym c.at.ensures ∙ c.in-Hmbl.is in
    done_unseen (ap (λ (o : Ball). record t { ball = o }) (c.set_motion-in-Hmbl.ensures ∙ ap (λ (x : ℕ). record t.ball { motion = x }) c.high-in-Hmbl.ensures) ∙ asked Hmbl c.args.addr c.args.value t is) (unseen-hmbl c.args.drawn c.args.addr c.args.value t is)

pub returns-in-Vdelp0 : goal.returns-in-Vdelp0
returns-in-Vdelp0 c =
    let t = c.args.self.now in
    let is = sym c.at.ensures ∙ c.in-Vdelp0.is in
    lift (λ (o : Player). record t { player0 = o }) (asked Vdelp0 c.args.addr c.args.value t is) (unseen-vdelp0 c.args.drawn c.args.addr c.args.value t is)
    (subst (λ b. IsConditionalWrite c.args.pending c.set_delayed.result (drawn_player (record t.player0 { delayed = b }) ≡ drawn_player t.player0) t.player0 c.set_delayed.new.self (record t.player0 { delayed = b })) c.bit-in-Vdelp0.ensures c.set_delayed.ensures)

pub returns-in-Vdelp1 : goal.returns-in-Vdelp1
returns-in-Vdelp1 c =
    let t = c.args.self.now in
    let is = sym c.at.ensures ∙ c.in-Vdelp1.is in
    lift (λ (o : Player). record t { player1 = o }) (asked Vdelp1 c.args.addr c.args.value t is) (unseen-vdelp1 c.args.drawn c.args.addr c.args.value t is)
    (subst (λ b. IsConditionalWrite c.args.pending c.set_delayed-in-Vdelp1.result (drawn_player (record t.player1 { delayed = b }) ≡ drawn_player t.player1) t.player1 c.set_delayed-in-Vdelp1.new.self (record t.player1 { delayed = b })) c.bit-in-Vdelp1.ensures c.set_delayed-in-Vdelp1.ensures)

pub returns-in-Vdelbl : goal.returns-in-Vdelbl
returns-in-Vdelbl c =
    let t = c.args.self.now in
    let is = sym c.at.ensures ∙ c.in-Vdelbl.is in
    lift (λ (o : Ball). record t { ball = o }) (asked Vdelbl c.args.addr c.args.value t is) (unseen-vdelbl c.args.drawn c.args.addr c.args.value t is)
    (subst (λ b. IsConditionalWrite c.args.pending c.set_delayed-in-Vdelbl.result (drawn_ball (record t.ball { delayed = b }) ≡ drawn_ball t.ball) t.ball c.set_delayed-in-Vdelbl.new.self (record t.ball { delayed = b })) c.bit-in-Vdelbl.ensures c.set_delayed-in-Vdelbl.ensures)

pub returns-in-Resmp0 : goal.returns-in-Resmp0
returns-in-Resmp0 c =
    let t = c.args.self.now in
    let is = sym c.at.ensures ∙ c.in-Resmp0.is in
    lift (λ (o : Missile). record t { missile0 = o }) (asked Resmp0 c.args.addr c.args.value t is) (unseen-resmp0 c.args.drawn c.args.addr c.args.value t is) c.write_resmp.ensures

pub returns-in-Resmp1 : goal.returns-in-Resmp1
returns-in-Resmp1 c =
    let t = c.args.self.now in
    let is = sym c.at.ensures ∙ c.in-Resmp1.is in
    lift (λ (o : Missile). record t { missile1 = o }) (asked Resmp1 c.args.addr c.args.value t is) (unseen-resmp1 c.args.drawn c.args.addr c.args.value t is) c.write_resmp-in-Resmp1.ensures

pub returns-in-Hmove : goal.returns-in-Hmove
returns-in-Hmove c =
    let t = c.args.self.now in
    let is = sym c.at.ensures ∙ c.in-Hmove.is in
    lift (λ (x : Tia). x) (asked Hmove c.args.addr c.args.value t is) (λ no. absurd no) c.move_objects.ensures

pub returns-in-Hmclr : goal.returns-in-Hmclr
returns-in-Hmclr c =
    let t = c.args.self.now in
    let is = sym c.at.ensures ∙ c.in-Hmclr.is in
    done_unseen (c.clear_motion.ensures ∙ asked Hmclr c.args.addr c.args.value t is) (unseen-hmclr c.args.drawn c.args.addr c.args.value t is)

pub returns-in-Cxclr : goal.returns-in-Cxclr
returns-in-Cxclr c =
    let t = c.args.self.now in
    let is = sym c.at.ensures ∙ c.in-Cxclr.is in
    lift (λ (x : Tia). x) (asked Cxclr c.args.addr c.args.value t is) (λ no. absurd no) c.clear_latches.ensures

pub returns-in-Unused : goal.returns-in-Unused
returns-in-Unused c =
    let t = c.args.self.now in
    let is = sym c.at.ensures ∙ c.in-Unused.is in
    done_unseen (asked Unused c.args.addr c.args.value t is) (unseen-unused c.args.drawn c.args.addr c.args.value t is)
