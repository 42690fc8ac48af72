-- What lapsed and gone marks are.
use Rattle.std.proofs.Common.{ℕ, ◌≡◌, true, false, refl}
use Rattle.ps_model.specs.declared.mark.Mark.{Mark}
use Rattle.ps_model.specs.declared.mark.Mark.TheVariants.{Backlog, Leased, Ahead, Done, Gone}
use Rattle.ps_model.specs.Slots.{is_gone, is_leased, is_backlog, is_ahead, is_unacked, is_done}
use Rattle.ps_model.specs.Retention.{lapsed}
use Rattle.ps_model.specs.Sound.{MarkFits}

pub lapsed-gone : (mark : Mark) → is_gone (lapsed mark) ≡ true
lapsed-gone (Backlog f u l) = refl
lapsed-gone (Leased f l d) = refl
lapsed-gone (Ahead f) = refl
lapsed-gone (Done c) = refl
lapsed-gone (Gone c) = refl

pub gone-fits : (t next : ℕ) (mark : Mark) → is_gone mark ≡ true → MarkFits t next mark
gone-fits t next (Backlog f u l) e = absurd (cc (e))
gone-fits t next (Leased f l d) e = absurd (cc (e))
gone-fits t next (Ahead f) e = absurd (cc (e))
gone-fits t next (Done c) e = absurd (cc (e))
gone-fits t next (Gone c) e = tt

pub gone-not-leased : (mark : Mark) → is_gone mark ≡ true → is_leased mark ≡ false
gone-not-leased (Backlog f u l) e = refl
gone-not-leased (Leased f l d) e = absurd (cc (e))
gone-not-leased (Ahead f) e = refl
gone-not-leased (Done c) e = refl
gone-not-leased (Gone c) e = refl

pub gone-not-backlog : (mark : Mark) → is_gone mark ≡ true → is_backlog mark ≡ false
gone-not-backlog (Backlog f u l) e = absurd (cc (e))
gone-not-backlog (Leased f l d) e = refl
gone-not-backlog (Ahead f) e = refl
gone-not-backlog (Done c) e = refl
gone-not-backlog (Gone c) e = refl

pub gone-not-ahead : (mark : Mark) → is_gone mark ≡ true → is_ahead mark ≡ false
gone-not-ahead (Backlog f u l) e = refl
gone-not-ahead (Leased f l d) e = refl
gone-not-ahead (Ahead f) e = absurd (cc (e))
gone-not-ahead (Done c) e = refl
gone-not-ahead (Gone c) e = refl

pub gone-not-unacked : (mark : Mark) → is_gone mark ≡ true → is_unacked mark ≡ false
gone-not-unacked (Backlog f u l) e = absurd (cc (e))
gone-not-unacked (Leased f l d) e = absurd (cc (e))
gone-not-unacked (Ahead f) e = refl
gone-not-unacked (Done c) e = refl
gone-not-unacked (Gone c) e = refl

pub done-not-unacked : (mark : Mark) → is_done mark ≡ true → is_unacked mark ≡ false
done-not-unacked (Backlog f u l) e = absurd (cc (e))
done-not-unacked (Leased f l d) e = absurd (cc (e))
done-not-unacked (Ahead f) e = refl
done-not-unacked (Done c) e = refl
done-not-unacked (Gone c) e = refl
