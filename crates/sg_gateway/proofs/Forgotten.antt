-- Each event leaves the calls made, the ring and what is noted as they were, or with new ones behind the old ones.
use Rattle.std.proofs.Common.{◌≡◌, List, [], ◌∷◌, ◌++◌, Option, Some, sym, ◌≤◌, arith}
use Rattle.sg_gateway.proofs.Common.{Call, Datagram, Event, Installed, Medium, Signalled, World, append-nil, keys_from, manual_medium, step}
use Rattle.sg_gateway.proofs.Growth.{install_is}
use Rattle.sg_gateway.proofs.Kept.{IsRing}
use Rattle.sg_gateway.proofs.StepCases.{Installs, each_datagram, each_signal, manual_call}
use Rattle.sg_psk.specs.declared.replays.Noted.{Noted}
use Rattle.sg_gateway.proofs.Authentic.{notes_stay}

pub record HasGrown (w v : World) : Type 0 where
  pub made : w.made ≤ v.made
  pub ring : (new : List Installed) × (v.books.ring ≡ w.books.ring ++ new)
  pub noted : (new : List Noted) × (v.books.noted ≡ w.books.noted ++ new)

module _ (w : World) (ring : IsRing w.books.ring) where
  abbrev HasKeys : List Installed → Type 0
  HasKeys after = (new : List Installed) × (after ≡ w.books.ring ++ new)

  keys_stay : HasKeys w.books.ring
  keys_stay = ([], sym (append-nil w.books.ring))

  book_stays : (new : List Noted) × (w.books.noted ≡ w.books.noted ++ new)
  book_stays = ([], sym (append-nil w.books.noted))

  grows : (c : Call) (media : List (Option Medium)) (after : List Installed) → Installs w.moment w.books c media after → HasKeys after
  grows c media after is = (keys_from c.serial c.generations 0 media, sym (install_is w.books.ring (keys_from c.serial c.generations 0 media) after is ring).0)

  pub event_grows : (e : Event) → HasGrown w (step w e).world
  event_grows (Signalled signal) = each_signal w (λ signal a. HasGrown w a.world) (record {
    refuses = λ signal id cause. record { made = omega arith; ring = keys_stay; noted = book_stays };
    ticks = λ now on. record { made = omega arith; ring = keys_stay; noted = book_stays };
    pairs = λ p. record { made = omega arith; ring = keys_stay; noted = book_stays };
    keys = λ h none room after is. record { made = omega arith; ring = grows (manual_call w h) (Some (manual_medium h) ∷ []) after is; noted = book_stays };
    begins = λ id way noise text none room a agreed. record { made = omega arith; ring = keys_stay; noted = notes_stay w.books.noted a.noted };
    offers = λ id way noise text c at a agreed. record { made = omega arith; ring = keys_stay; noted = notes_stay w.books.noted a.noted };
    answers = λ id noise text c at o is_open g agreed after is. record { made = omega arith; ring = grows c g.media after is; noted = book_stays };
    rejects = λ id c at none. record { made = omega arith; ring = keys_stay; noted = book_stays };
    closes = λ id c at. record { made = omega arith; ring = keys_stay; noted = book_stays };
    leaves = λ id c at. record { made = omega arith; ring = keys_stay; noted = book_stays };
  }) signal
  event_grows (Datagram port from d) = each_datagram w port (λ h. HasGrown w h.world)
      (record { drops = λ cause. record { made = omega arith; ring = keys_stay; noted = book_stays }; puts = λ c at s t octets held. record { made = omega arith; ring = keys_stay; noted = book_stays } }) from d.items
