-- Datagrams in turn: each changes the call that has its port.
use Rattle.std.proofs.Common.{◌≡◌, ℕ, Bool, true, false, cond, List, [], ◌∷◌, map, Option, Some, None, refl, sym, ap, ◌∙◌}
use Rattle.std.proofs.lemmas.List.Elements.{filter_agree}
use Rattle.std.proofs.lemmas.Simd.{map-map}
use Rattle.sg_gateway.proofs.Arrivals.{arrival}
use Rattle.sg_gateway.proofs.InTurn.{IsSameCall, after_is}
use Rattle.sg_gateway.specs.Batch.{Arrived, after, given_by, given_in, delivered, drained, own}
use Rattle.sg_gateway.specs.Datagrams.{Given, Drops, Puts, arrived_at, given_to}
use Rattle.sg_gateway.specs.Ports.{call_at, has_port, is_in_slot}
use Rattle.sg_gateway.specs.World.{Call, World}
use Rattle.sg_session.proofs.Lists.{both}
use Rattle.sg_table.specs.Parts.{TakesTurns}

pub map_agree : {X Y : Type 0} (f g : X → Y) → ((x : X) → f x ≡ g x) → (xs : List X) → map f xs ≡ map g xs
map_agree f g same [] = refl
map_agree f g same (x ∷ xs) = (λ i. same x i ∷ map_agree f g same xs i)

-- a call's turn
abbrev pub turn : ℕ → Arrived → Call → Call
turn now a c = cond (has_port a.port c) (after (given_by now c a) c) c

pub given_same : (now : ℕ) (a : Arrived) (c : Call) → IsSameCall c (after (given_by now c a) c)
given_same now a c = after_is now a.port a.octets.items c (given_by now c a) (arrival now a.port a.from a.octets.items c)

pub turn_same : (now : ℕ) (a : Arrived) (c : Call) → IsSameCall c (turn now a c)
turn_same now a c = both (IsSameCall c) (has_port a.port c) (after (given_by now c a) c) c (given_same now a c) (record { serial = refl; slot = refl; media = refl })

pub drained_same : (now : ℕ) (c : Call) (before : List Arrived) → IsSameCall c (drained now c before)
drained_same now c [] = record { serial = refl; slot = refl; media = refl }
drained_same now c (a ∷ later) =
    let first = given_same now a c in
    let rest = drained_same now (after (given_by now c a) c) later in
    record { serial = rest.serial ∙ first.serial; slot = rest.slot ∙ first.slot; media = rest.media ∙ first.media }

pub same_ports : (c d : Call) → IsSameCall c d → (port : ℕ) → has_port port d ≡ has_port port c
same_ports c d is port = let slot = is.slot in let media = is.media in (λ i. is_in_slot (slot i) (media i) port)

-- the first datagram is the call's turn
pub drain_one : (now : ℕ) (a : Arrived) (later : List Arrived) (c : Call) → drained now (turn now a c) (own (turn now a c) later) ≡ drained now c (own c (a ∷ later))
drain_one now a later c = ap (drained now (turn now a c)) (filter_agree (λ b. has_port b.port (turn now a c)) (λ b. has_port b.port c) (λ b. same_ports c (turn now a c) (turn_same now a c) b.port) later)
    ∙ go (has_port a.port c)
  where
    go : (b : Bool) → drained now (cond b (after (given_by now c a) c) c) (own c later) ≡ drained now c (cond b (a ∷ own c later) (own c later))
    go true = refl
    go false = refl

module _ (w : World) (a : Arrived) where
  given_calls : (g : Given) → (given_to w a.port g).world ≡ record w { calls = (given_to w a.port g).world.calls }
  given_calls (Drops cause) = refl
  given_calls (Puts p) = refl

  -- it changes the calls alone
  calls_alone : (given_in w a).world ≡ record w { calls = (given_in w a).world.calls }
  calls_alone = at (call_at w a.port)
    where
      at : (o : Option Call) → (arrived_at w a.port a.from a.octets.items o).world ≡ record w { calls = (arrived_at w a.port a.from a.octets.items o).world.calls }
      at None = refl
      at (Some c) = given_calls (given_by w.moment c a)

  pub same_moment : (given_in w a).world.moment ≡ w.moment
  same_moment = ap (λ (v : World). v.moment) calls_alone

  pub same_books : (given_in w a).world.books ≡ w.books
  same_books = ap (λ (v : World). v.books) calls_alone

  module _ (turns : TakesTurns w) where
    pub one_turn : (given_in w a).world.calls ≡ map (turn w.moment a) w.calls
    one_turn = turns (a ∷ []) ∙ map_agree (λ c. drained w.moment c (own c (a ∷ []))) (turn w.moment a) (λ c. sym (drain_one w.moment a [] c) ∙ none c) w.calls
      where
        none : (c : Call) → drained w.moment (turn w.moment a c) (own (turn w.moment a c) []) ≡ turn w.moment a c
        none c = refl

    pub turns_on : TakesTurns (given_in w a).world
    turns_on later =
        let v : World = (given_in w a).world in
        turns (a ∷ later)
        ∙ map_agree (λ c. drained w.moment c (own c (a ∷ later))) (λ c. drained w.moment (turn w.moment a c) (own (turn w.moment a c) later)) (λ c. sym (drain_one w.moment a later c)) w.calls
        ∙ sym (map-map (λ c. drained w.moment c (own c later)) (turn w.moment a) w.calls)
        ∙ (λ i. map (λ c. drained (sym same_moment i) c (own c later)) (sym one_turn i))

-- so do several datagrams
pub delivered_alone : (w : World) (before : List Arrived) → delivered w before ≡ record w { calls = (delivered w before).calls }
delivered_alone w [] = refl
delivered_alone w (a ∷ later) =
    let v : World = (given_in w a).world in
    delivered_alone v later ∙ ap (λ (u : World). record u { calls = (delivered v later).calls }) (calls_alone w a)

pub moments : (w : World) (before : List Arrived) → (delivered w before).moment ≡ w.moment
moments w before = ap (λ (v : World). v.moment) (delivered_alone w before)

pub books_stay : (w : World) (before : List Arrived) → (delivered w before).books ≡ w.books
books_stay w before = ap (λ (v : World). v.books) (delivered_alone w before)
