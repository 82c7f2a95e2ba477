-- Bounds that grow.
use Rattle.std.proofs.Common.{ℕ, ◌+◌, ◌≤◌, arith}
use Rattle.sg_demo.specs.Rounds.{IsSmall}
use Rattle.sg_demo.specs.Standing.{IsWithin}
use Rattle.sg_demo.specs.declared.round.Round.{Round}
use Rattle.sg_demo.specs.declared.summary.Summary.{Summary}

pub more_within : (n m : ℕ) (s : Summary) → n ≤ m → IsWithin n s → IsWithin m s
more_within n m s more w = record {
  calls = omega (arith, w.calls, more);
  sealed = omega (arith, w.sealed, more);
  arrived = omega (arith, w.arrived, more);
  out = omega (arith, w.out, more);
  repeat = omega (arith, w.repeat, more);
  badtag = omega (arith, w.badtag, more);
  other = omega (arith, w.other, more);
  sent = omega (arith, w.sent, more);
  opened = omega (arith, w.opened, more);
}

pub within_sealed : (n m : ℕ) (s : Summary) → m ≤ 512 → IsWithin n s → IsWithin (n + 512) (record s { sealed = s.sealed + m })
within_sealed n m s few w = record {
  calls = omega (arith, w.calls);
  sealed = omega (arith, w.sealed, few);
  arrived = omega (arith, w.arrived);
  out = omega (arith, w.out);
  repeat = omega (arith, w.repeat);
  badtag = omega (arith, w.badtag);
  other = omega (arith, w.other);
  sent = omega (arith, w.sent);
  opened = omega (arith, w.opened);
}

pub more_small : (s a t b : ℕ) (r : Round) → s ≤ t → a ≤ b → IsSmall s a r → IsSmall t b r
more_small s a t b r more_sealed more_arrivals small = record {
  few_sealed = omega (arith, small.few_sealed, more_sealed);
  few_arrivals = omega (arith, small.few_arrivals, more_arrivals);
  pads = small.pads;
}
