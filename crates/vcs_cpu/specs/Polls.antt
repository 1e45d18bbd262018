-- Polls: an LDA of an absolute address and a branch back to it, again and again: a BNE until the byte there is 0, or a BEQ while it is.
use Rattle.std.specs.Prelude.{◌≡◌, ◌<◌, ◌==◌, ℕ, zero, suc, Bool, false}
use Rattle.vcs_cpu.specs.declared.bus.Poll.{Poll}
use Rattle.vcs_cpu.specs.Device.{Device}
use Rattle.vcs_cpu.specs.Operands.{address_after}

module _ {Content : Type 0} (d : Device Content) (poll : Poll) where
  -- the byte that a poll reads, four cycles after it begins
  abbrev pub polled_byte : Content → ℕ
  polled_byte c = d.byte_at (d.after_advance c 4) poll.address

  -- the content once its LDA is done
  abbrev pub after_poll_read : Content → Content
  after_poll_read c = d.after_load (d.after_advance c 4) poll.address

  -- the content once its branch is done, too
  abbrev pub after_poll : Content → Content
  after_poll c = d.after_advance (after_poll_read c) poll.branch

  -- the content after n polls
  abbrev pub after_polls : ℕ → Content → Content
  after_polls zero c = c
  after_polls (suc n) c = after_polls n (after_poll c)

module _ {Bus Content : Type 0} (d : Device Content) (content_of : Bus → Content) (Settles : Bus → Bus → Bool → Type 0) where
  -- a bus with this content stays as it is when it settles, and the run isn't over
  pub record Rests (c : Content) : Type 0 where
    pub bus : Bus
    pub is : content_of bus ≡ c
    pub settles : Settles bus bus false

  -- a content on which a poll leads back to itself: its LDA's three bytes of code are those that another content shows, and so are
  -- all five once the LDA is done, whose read may change the content; the byte that it reads takes its branch, and the bus rests
  -- after each of its two instructions
  pub record IsPoll (poll : Poll) (start c : Content) : Type 0 where
    pub lda : (k : ℕ) → k < 3 → d.byte_at c (address_after poll.pc k) ≡ d.byte_at start (address_after poll.pc k)
    pub back : (k : ℕ) → k < 5 → d.byte_at (after_poll_read d poll c) (address_after poll.pc k) ≡ d.byte_at start (address_after poll.pc k)
    pub taken : (polled_byte d poll c == 0) ≡ poll.while_zero
    pub read : Rests (after_poll_read d poll c)
    pub branch : Rests (after_poll d poll c)

-- none of the addresses that a poll reads is watched
pub record IsPollUnwatched (poll : Poll) (is_watched : ℕ → Bool) : Type 0 where
  pub code : (k : ℕ) → k < 5 → is_watched (address_after poll.pc k) ≡ false
  pub byte : is_watched poll.address ≡ false
