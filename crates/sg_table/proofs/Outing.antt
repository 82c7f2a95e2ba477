-- Arrivals that are handed out one by one.
use Rattle.std.proofs.Common.{◌≡◌, ℕ, suc, ◌+◌, ◌<◌, ◌≤◌, List, [], ◌∷◌, ◌++◌, append_assoc, length, length-append, take, drop, get_or, map, refl, sym, ap, ◌∙◌, subst, arith}
use Rattle.std.proofs.Math.ListN.{set}
use Rattle.std.proofs.Math.Seq.{set-append_seam, get_or-append_seam, take-suc}
use Rattle.std.proofs.lemmas.List.{drop_more, map-append, length-map, length-take-le}
use Rattle.std.specs.List.{AllByRecursion}
use Rattle.sg_call.specs.Values.{CallValue}
use Rattle.sg_session.proofs.Lists.{each_append, both}
use Rattle.sg_table.proofs.Pairing.{pairs_left}
use Rattle.sg_table.proofs.Sharing.{ready_more}
use Rattle.sg_gateway.specs.World.{World}
use Rattle.sg_table.specs.Batches.{octets_of}
use Rattle.sg_table.specs.Octets.{AreOctets}
use Rattle.sg_table.specs.Parts.{datagram_of, pushed, pushed_at, waiting_of, handed, is_taken, all_handed, HaveRoom, AreReady, IsReady}
use Rattle.sg_table.specs.Values.{shape_of, shapes_of, has_call_port}
use Rattle.sg_table.specs.declared.arrival.Arrival.{Arrival}

shapes_pushed : (now number : ℕ) (a : Arrival) (calls : List CallValue) → shapes_of (map (pushed_at (waiting_of number now a)) calls) ≡ shapes_of calls
shapes_pushed now number a [] = refl
shapes_pushed now number a (c ∷ cs) =
    (λ i. both (λ (d : CallValue). shape_of d ≡ shape_of c) (has_call_port a.port c) (pushed (waiting_of number now a) c) c refl refl i ∷ shapes_pushed now number a cs i)

room_pushed : (now number n : ℕ) (a : Arrival) (calls : List CallValue) → HaveRoom n calls → HaveRoom (n + 1) (map (pushed_at (waiting_of number now a)) calls)
room_pushed now number n a [] r = tt
room_pushed now number n a (c ∷ cs) r =
    let x = length-append c.waiting (waiting_of number now a ∷ []) in
    let y = r.0 in
    (both (λ (d : CallValue). length d.waiting + length d.handled ≤ n + 1) (has_call_port a.port c) (pushed (waiting_of number now a) c) c (omega (arith, x, y)) (omega (arith, y)), room_pushed now number n a cs r.1)

-- the first k are handed out
pub record Shares (now : ℕ) (came : List Arrival) (calls0 : List CallValue) (k : ℕ) (arrivals : List Arrival) (calls : List CallValue) : Type 0 where
  pub ready : (w : World) → AreReady now [] calls0 w → AreReady now (map datagram_of (take k came)) calls w
  pub arrivals_are : arrivals ≡ all_handed (shapes_of calls0) (take k came) ++ drop k came
  pub shapes_are : shapes_of calls ≡ shapes_of calls0
  pub room : HaveRoom k calls
  pub octets : AllByRecursion (λ a. AreOctets (octets_of a.pad)) (take k came)

pub shares_first : (now : ℕ) (came : List Arrival) (calls0 : List CallValue) → HaveRoom 0 calls0 → Shares now came calls0 0 came calls0
shares_first now came calls0 room = record { ready = λ w r. r; arrivals_are = refl; shapes_are = refl; room = room; octets = tt }

module _ (now : ℕ) (came : List Arrival) (calls0 : List CallValue) (k : ℕ) (arrivals : List Arrival) (calls : List CallValue) (d : Arrival) (lt : k < length came) (s : Shares now came calls0 k arrivals calls) where
  abbrev this : Arrival
  this = get_or came k d

  abbrev prefix : List Arrival
  prefix = all_handed (shapes_of calls0) (take k came)

  prefix_length : length prefix ≡ k
  prefix_length = length-map (take k came) (λ (a : Arrival). handed (is_taken a.port (shapes_of calls0)) a) ∙ length-take-le k came (omega (arith, lt))

  arrivals_so : arrivals ≡ prefix ++ this ∷ drop (k + 1) came
  arrivals_so = s.arrivals_are ∙ ap (λ l. prefix ++ l) (drop_more came k d lt)

  pub this_is : get_or arrivals k d ≡ this
  this_is = (λ i. get_or (arrivals_so i) (sym prefix_length i) d) ∙ get_or-append_seam prefix this (drop (k + 1) came) d

  pub shares_next : (number : ℕ) (calls' : List CallValue) (new : Arrival) → calls' ≡ map (pushed_at (waiting_of number now (get_or arrivals k d))) calls
      → new ≡ handed (is_taken (get_or arrivals k d).port (shapes_of calls)) (get_or arrivals k d) → AreOctets (octets_of (get_or arrivals k d).pad) → Shares now came calls0 (k + 1) (set arrivals k new) calls'
  shares_next number calls' new pushed_so new_so holds =
      let calls_are : calls' ≡ map (pushed_at (waiting_of number now this)) calls = pushed_so ∙ ap (λ a. map (pushed_at (waiting_of number now a)) calls) this_is in
      let new_is : new ≡ handed (is_taken this.port (shapes_of calls0)) this = new_so ∙ (λ i. handed (is_taken (this_is i).port (s.shapes_are i)) (this_is i)) in
      let octets_are : AreOctets (octets_of this.pad) = subst (λ (a : Arrival). AreOctets (octets_of a.pad)) this_is holds in
      let more : take (k + 1) came ≡ take k came ++ this ∷ [] = ap (λ n. take n came) (let e : k + 1 ≡ suc k = omega arith in e) ∙ take-suc came k d lt in
      record {
        ready = λ w r. subst (λ cs. AreReady now (map datagram_of (take (k + 1) came)) cs w) (sym calls_are)
            (subst (λ l. AreReady now l (map (pushed_at (waiting_of number now this)) calls) w) (sym (ap (map datagram_of) more ∙ map-append datagram_of (take k came) (this ∷ [])))
            (pairs_left (IsReady w.books.pairs now (map datagram_of (take k came))) (IsReady w.books.pairs now (map datagram_of (take k came) ++ datagram_of this ∷ [])) (pushed_at (waiting_of number now this))
            (λ call c h. ready_more w.books.pairs now number (map datagram_of (take k came)) this call c octets_are h) calls w.calls (s.ready w r)));
        arrivals_are = (λ i. set (arrivals_so i) (sym prefix_length i) new) ∙ set-append_seam prefix this (drop (k + 1) came) new ∙ ap (λ x. prefix ++ x ∷ drop (k + 1) came) new_is
            ∙ sym (append_assoc prefix (handed (is_taken this.port (shapes_of calls0)) this ∷ []) (drop (k + 1) came))
            ∙ ap (λ l. l ++ drop (k + 1) came) (sym (ap (all_handed (shapes_of calls0)) more ∙ map-append (λ a. handed (is_taken a.port (shapes_of calls0)) a) (take k came) (this ∷ [])));
        shapes_are = ap shapes_of calls_are ∙ shapes_pushed now number this calls ∙ s.shapes_are;
        room = subst (HaveRoom (k + 1)) (sym calls_are) (room_pushed now number k this calls s.room);
        octets = subst (AllByRecursion (λ (a : Arrival). AreOctets (octets_of a.pad))) (sym more) (each_append _ (take k came) (this ∷ []) s.octets (octets_are, tt));
      }
