-- The keys of a line that are free come into use, the sessions are those of the line, and no offer is open.
use Rattle.std.proofs.Common.{◌≡◌, ◌+◌, ℕ, Bool, true, false, cond, List, [], ◌∷◌, ◌++◌, length, Some, None, Result, Ok, refl, sym, ap, ◌∙◌, subst, arith, ltb, length-append}
use Rattle.std.proofs.lemmas.Bool.{and_from, and_parts, cond-false, false_from_ne_true, lt-ltb, ltb-true, not_from_false, or_from}
use Rattle.std.specs.List.{AllByRecursion}
use Rattle.std.specs.Prelude.{◌&&◌, not}
use Rattle.sg_agreement.specs.Generations.{Generation, generation_of, sessions_from}
use Rattle.sg_base.specs.Suites.{is_raw}
use Rattle.sg_base.specs.declared.faults.Refusal.TheVariants.{KeyReused, RingFull}
use Rattle.sg_session.specs.Ring.{Installed, derived, first_clash_by, install, key_of, keys_clash, same_secret, with_key_by, with_keys_by}
use Rattle.sg_session.specs.Stages.{after_ok, stop_if}
use Rattle.sg_gateway.proofs.Common.{Call, Event, Manual, ManualCall, Master, Opening, Refusal, Rtcp, Rtp, Sealing, Session, Turn, World, answer_to, call_of, each_weaker, manual_medium, same_id, same_octets, same_octets_is, step}
use Rattle.sg_gateway.proofs.CarriedOut.{same_call_id}
use Rattle.sg_gateway.proofs.Signals.{each_and_call, found}
use Rattle.sg_gateway.proofs.StepCases.{each_manual}
use Rattle.sg_gateway.specs.Taken.{ManualCallIsTaken}
use Rattle.sg_conduct.proofs.Alone.{unknown}
use Rattle.sg_conduct.specs.Manual.{AreApart, AreByLine, AreFree, HasControl, IsApartInItself, ManualIsTaken, session_by}

-- ---- the ring takes keys that are apart from all in it

pub secret : (x y : List ℕ) → (x ≡ y → x ≡ []) → same_secret x y ≡ false
secret [] y apart = refl
secret (x ∷ xs) y apart = false_from_ne_true _ (λ e. absurd (let none : x ∷ xs ≡ [] = apart (same_octets_is (x ∷ xs) y e) in cc))

pub apart_is : (a b : Master) → AreApart a b → keys_clash (derived a) (derived b) ≡ false
apart_is a b is =
    let first : same_octets a.key b.key ≡ false = false_from_ne_true _ (λ e. is.masters (same_octets_is a.key b.key e)) in
    or_from _ _ first
    (or_from _ _ (or_from _ _ (secret _ _ is.ciphers.0.0) (secret _ _ is.ciphers.0.1.0)) (or_from _ _ (secret _ _ is.ciphers.1.0.0) (secret _ _ is.ciphers.1.0.1.0)))

no_clash : (n : ℕ) (ring : List Installed) (m : Master) → AllByRecursion (λ k. AreApart k.master m) ring → first_clash_by key_of n ring (derived m) ≡ None
no_clash n [] m all = refl
no_clash n (r ∷ rs) m all = cond-false (keys_clash (derived r.master) (derived m)) (Some n) (first_clash_by key_of (n + 1) rs (derived m)) (apart_is r.master m all.0) ∙ no_clash (n + 1) rs m all.1

one_more : (ring : List Installed) (k : Installed) → AllByRecursion (λ r. AreApart r.master k.master) ring → IsApartInItself k.master
    → with_key_by key_of ring k (first_clash_by key_of 0 ring (key_of k)) ≡ Ok (ring ++ k ∷ [])
one_more ring k all own =
    ap (with_key_by key_of ring k) (no_clash 0 ring k.master all)
    ∙ ap (λ b. stop_if b (KeyReused (length ring)) (Ok (ring ++ k ∷ []))) (secret _ _ own)

and_last : (m : Master) (k : Installed) (ring : List Installed) → AllByRecursion (λ r. AreApart r.master m) ring → AreApart k.master m → AllByRecursion (λ r. AreApart r.master m) (ring ++ k ∷ [])
and_last m k [] all last = (last, tt)
and_last m k (r ∷ rs) all last = (all.0, and_last m k rs all.1 last)

module _ (h : ManualCall) (call : ℕ) (ring : List Installed) (free : AreFree ring h) where
  abbrev a : Installed
  a = record { master = h.from_peer; owner = record { call = call; medium = 0; generation = 0; direction = Opening } }

  abbrev b : Installed
  b = record { master = h.to_peer; owner = record { call = call; medium = 0; generation = 0; direction = Sealing } }

  abbrev keyed : List Installed
  keyed = (ring ++ a ∷ []) ++ b ∷ []

  both_in : with_keys_by key_of ring (a ∷ (b ∷ [])) ≡ Ok keyed
  both_in =
      ap (λ (r : Result (List Installed) Refusal). after_ok r (λ ring'. with_keys_by key_of ring' (b ∷ []))) (one_more ring a free.from_peer free.from_itself)
      ∙ ap (λ (r : Result (List Installed) Refusal). after_ok r (λ ring'. with_keys_by key_of ring' [])) (one_more (ring ++ a ∷ []) b (and_last h.to_peer a ring free.to_peer free.apart) free.to_itself)

  size : length keyed ≡ length ring + 2
  size = length-append (ring ++ a ∷ []) (b ∷ []) ∙ ap (λ n. n + 1) (length-append ring (a ∷ [])) ∙ (omega arith)

  no_more : (n : ℕ) → n ≡ length ring + 2 → ltb 65536 n ≡ false
  no_more n is = let room = free.room in false_from_ne_true _ (λ e. let lt = ltb-true 65536 n e in omega (arith, is, room, lt))

  installed : install ring (a ∷ (b ∷ [])) ≡ Ok keyed
  installed =
      ap (λ (r : Result (List Installed) Refusal). after_ok r (λ ring'. stop_if (ltb 65536 (length ring')) RingFull (Ok ring'))) both_in
      ∙ ap (λ (full : Bool). stop_if full RingFull (Ok keyed)) (no_more (length keyed) size)

  abbrev made : Generation
  made = record { sessions = sessions_from call 0 0 (length ring) (Some (manual_medium h) ∷ []); ring = keyed }

  pub generated : generation_of call 0 ring (Some (manual_medium h) ∷ []) ≡ Ok made
  generated = ap (λ (r : Result (List Installed) Refusal). after_ok r (λ keyed. let g : Generation = record { sessions = sessions_from call 0 0 (length ring) (Some (manual_medium h) ∷ []); ring = keyed } in Ok g)) installed

  -- ---- sessions

  abbrev sessions_if : Bool → List Session
  sessions_if control =
      (session_by h call (length ring) Opening Rtp ∷ cond control (session_by h call (length ring) Opening Rtcp ∷ []) [])
      ++ ((session_by h call (length ring + 1) Sealing Rtp ∷ cond control (session_by h call (length ring + 1) Sealing Rtcp ∷ []) []) ++ [])

  as_they_are : made.sessions ≡ sessions_if (manual_medium h).has_rtcp
  as_they_are = refl

  control_is : HasControl h → (manual_medium h).has_rtcp ≡ true
  control_is is = and_from _ _ (and_from _ _ (not_from_false _ is.from_peer) (not_from_false _ is.to_peer)) (and_from _ _ (lt-ltb _ _ is.secure) (lt-ltb _ _ is.plain))

  not_is : (x : Bool) → not x ≡ true → x ≡ false
  not_is true e = sym e
  not_is false e = refl

  is_control : (manual_medium h).has_rtcp ≡ true → HasControl h
  is_control e =
      let parts = and_parts (not (is_raw h.from_peer.suite) && not (is_raw h.to_peer.suite)) (ltb h.secure.port 65535 && ltb h.plain.port 65535) e in
      let keys = and_parts (not (is_raw h.from_peer.suite)) (not (is_raw h.to_peer.suite)) parts.0 in
      let ports = and_parts (ltb h.secure.port 65535) (ltb h.plain.port 65535) parts.1 in
      record { from_peer = not_is _ keys.0; to_peer = not_is _ keys.1; secure = ltb-true _ _ ports.0; plain = ltb-true _ _ ports.1 }

  pub by_line : AreByLine h call (length ring) made.sessions
  by_line = record {
    with_control = λ is. as_they_are ∙ ap sessions_if (control_is is);
    without = λ none. as_they_are ∙ ap sessions_if (false_from_ne_true _ (λ e. none (is_control e)));
  }

-- ---- the call that is made has no open offer

module _ (w : World) (h : ManualCall) (none : call_of w h.id ≡ None) where
  abbrev IsClosed : Call → Type 0
  IsClosed d = d.id ≡ h.id → d.offer ≡ None

  others_closed : AllByRecursion IsClosed w.calls
  others_closed = each_weaker (λ c. ¬ c.id ≡ h.id) IsClosed (λ c other same. absurd (other same)) w.calls (unknown w h.id none)

  each_closed : AllByRecursion IsClosed (answer_to w (Manual h)).world.calls
  each_closed = each_manual w h (λ a. AllByRecursion IsClosed a.world.calls) (λ cause. others_closed) (λ free room ring is. each_and_call IsClosed _ w.calls (λ same. refl) others_closed)

  pub made_closed : (d : Call) → call_of (answer_to w (Manual h)).world h.id ≡ Some d → d.offer ≡ None
  made_closed d at =
      let calls : List Call = (answer_to w (Manual h)).world.calls in
      found IsClosed (λ x. same_id x.id h.id) calls d at each_closed (same_call_id h.id d calls at)

pub manual_taken : (t : Turn) → ManualCallIsTaken t → ManualIsTaken t
manual_taken t taken h event none room free =
    let r = taken h (made h t.before.made t.before.books.ring free) event none room (generated h t.before.made t.before.books.ring free) in
    let closed : r.1.0.offer ≡ None = made_closed t.before h none r.1.0 (subst (λ (e : Event). call_of (step t.before e).world h.id ≡ Some r.1.0) event r.1.1) in
    (r.0, (r.1.0, r.1.1, r.1.2, closed, subst (AreByLine h t.before.made (length t.before.books.ring)) (sym r.1.3) (by_line h t.before.made t.before.books.ring free)))
