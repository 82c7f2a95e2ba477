-- Arrivals that are handed to their calls, and what the drain leaves of them.
use Rattle.std.proofs.Common.{◌≡◌, ℕ, Bool, true, false, cond, List, [], ◌∷◌, ◌++◌, map, refl, sym, ap, ◌∙◌, subst}
use Rattle.std.proofs.lemmas.List.{append-nil}
use Rattle.sg_call.proofs.Paired.{stands_append}
use Rattle.sg_call.proofs.Passing.{filter_append}
use Rattle.sg_call.proofs.Standing.{other_inbox}
use Rattle.sg_call.specs.Drained.{IsDrained}
use Rattle.sg_call.specs.Handling.{handled_of, call_after, all_handled}
use Rattle.sg_call.specs.Standing.{CallStandsFor}
use Rattle.sg_call.specs.Values.{CallValue, QueuedValue}
use Rattle.sg_gateway.specs.Batch.{Arrived, after, given_by, drained, own}
use Rattle.sg_gateway.specs.Datagrams.{arrived_in}
use Rattle.sg_gateway.specs.Ports.{has_port, is_in_slot}
use Rattle.sg_gateway.specs.World.{Call}
use Rattle.sg_leg.specs.Pairs.{EachPair}
use Rattle.sg_psk.specs.declared.pairs.Pair.{Pair}
use Rattle.sg_table.proofs.Pairing.{by_pairs}
use Rattle.sg_table.specs.Batches.{octets_of}
use Rattle.sg_table.specs.Octets.{AreOctets}
use Rattle.sg_table.specs.Parts.{datagram_of, pushed, pushed_at, waiting_of, Waits, handled_all, IsReady, IsLeft}
use Rattle.sg_table.specs.Values.{has_call_port}
use Rattle.sg_table.specs.declared.arrival.Arrival.{Arrival}

pub call_ports : (pairs : List Pair) (port : ℕ) (call : CallValue) (c : Call) → CallStandsFor pairs call c → has_call_port port call ≡ has_port port c
call_ports pairs port call c h = let slot = h.slot_is in let media = h.media_are in (λ i. is_in_slot (sym slot i) (sym media i) port)

module _ (pairs : List Pair) (now : ℕ) where
  -- one arrival more
  pub ready_more : (number : ℕ) (before : List Arrived) (a : Arrival) (call : CallValue) (c : Call) → AreOctets (octets_of a.pad) → IsReady pairs now before call c
      → IsReady pairs now (before ++ datagram_of a ∷ []) (pushed_at (waiting_of number now a) call) c
  ready_more number before a call c octets r = go (has_call_port a.port call) (sym (call_ports pairs a.port call c r.stands))
    where
      own_is : own c (before ++ datagram_of a ∷ []) ≡ own c before ++ own c (datagram_of a ∷ [])
      own_is = filter_append (λ (b : Arrived). has_port b.port c) before (datagram_of a ∷ [])

      go : (b : Bool) → has_port a.port c ≡ b → IsReady pairs now (before ++ datagram_of a ∷ []) (cond b (pushed (waiting_of number now a) call) call) c
      go true is = record {
        stands = other_inbox pairs call (pushed (waiting_of number now a) call) c r.stands refl;
        waits = subst (λ l. EachPair (Waits now) l (call.waiting ++ waiting_of number now a ∷ [])) (sym (own_is ∙ ap (λ b. own c before ++ cond b (datagram_of a ∷ []) []) is))
            (stands_append (Waits now) (own c before) (datagram_of a ∷ []) call.waiting (waiting_of number now a ∷ []) r.waits (record { port = refl; from = refl; octets = sym octets; moment = refl }, tt));
        none_handled = r.none_handled;
      }
      go false is = record {
        stands = r.stands;
        waits = subst (λ l. EachPair (Waits now) l call.waiting) (sym (own_is ∙ ap (λ b. own c before ++ cond b (datagram_of a ∷ []) []) is ∙ append-nil (own c before))) r.waits;
        none_handled = r.none_handled;
      }

  -- without arrivals
  pub ready_first : (call : CallValue) (c : Call) → CallStandsFor pairs call c → call.waiting ≡ [] → call.handled ≡ [] → IsReady pairs now [] call c
  ready_first call c s w h = record { stands = s; waits = subst (EachPair (Waits now) []) (sym w) tt; none_handled = h }

-- what waits gives what the datagram gives
gives_same : (now : ℕ) (c : Call) (a : Arrived) (w : QueuedValue) → Waits now a w → arrived_in w.now w.port w.from w.octets c ≡ given_by now c a
gives_same now c a w h = let moment = h.moment in let port = h.port in let from = h.from in let octets = h.octets in (λ i. arrived_in (moment i) (port i) (from i) (octets i) c)

pub waits_after : (now : ℕ) (c : Call) (came : List Arrived) (ws : List QueuedValue) → EachPair (Waits now) came ws → call_after c ws ≡ drained now c came
waits_after now c came ws h = by_pairs (Waits now) (λ came ws. (c : Call) → call_after c ws ≡ drained now c came) (λ c. refl)
    (λ a w later ws h rest c. ap (λ g. call_after (after g c) ws) (gives_same now c a w h) ∙ rest (after (given_by now c a) c)) came ws h c

pub waits_handled : (now : ℕ) (c : Call) (came : List Arrived) (ws : List QueuedValue) → EachPair (Waits now) came ws → map (λ h. h.1) (all_handled c ws) ≡ handled_all now c came
waits_handled now c came ws h = by_pairs (Waits now) (λ came ws. (c : Call) → map (λ h. h.1) (all_handled c ws) ≡ handled_all now c came) (λ c. refl) (λ a w later ws h rest c.
    (λ i. handled_of (h.octets i) (gives_same now c a w h i) ∷ map (λ x. x.1) (all_handled (after (gives_same now c a w h i) c) ws))
    ∙ ap (λ l. handled_of a.octets.items (given_by now c a) ∷ l) (rest (after (given_by now c a) c))) came ws h c

-- after the drain
pub left_of : (pairs : List Pair) (now : ℕ) (came : List Arrived) (call : CallValue) (c : Call) (new : CallValue) → IsReady pairs now came call c → IsDrained call new → IsLeft pairs now came new c
left_of pairs now came call c new r d = record {
  stands = subst (CallStandsFor pairs new) (waits_after now c (own c came) call.waiting r.waits) (d.stands pairs c r.stands);
  none_waits = d.none_waits;
  are_handled = ap (map (λ h. h.1)) (d.handles pairs c r.stands ∙ ap (λ l. l ++ all_handled c call.waiting) r.none_handled) ∙ waits_handled now c (own c came) call.waiting r.waits;
}
