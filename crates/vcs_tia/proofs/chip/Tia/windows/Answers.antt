use Rattle.vcs_tia.proofs.chip.Tia.windows.Goals as goal

pub returns : goal.returns
returns c = λ i near within. λ j. record {
  player0 = c.window.ensures i near within j;
  player1 = c.window-2.ensures i near within j;
  missile0 = c.window-3.ensures i near within j;
  missile1 = c.window-4.ensures i near within j;
  ball = c.window-5.ensures i near within j;
  playfield = c.window-6.ensures i near within j;
}
