-- The ring gets the keys of a new generation, each with a session that is under it.
use Rattle.std.proofs.Common.{◌≡◌, ℕ, ◌+◌, cond, eqb, eq-eqb, List, [], ◌∷◌, ◌++◌, length, filter, Option, Some, None, refl, sym, subst}
use Rattle.std.proofs.lemmas.Bool.{cond-true}
use Rattle.std.proofs.lemmas.List.{append-nil}
use Rattle.std.specs.List.{AllByRecursion, Any}
use Rattle.sg_agreement.specs.Generations.{keys_from, numbered, owned, owner_at, sessions_from, stream_sessions}
use Rattle.sg_gateway.proofs.Common.{AgreedKey, Call, Datagram, Event, Installed, Medium, Opening, Owner, Sealing, Session, Signalled, Stream, World, and_call, any_here, any_there, any_weaker}
use Rattle.sg_gateway.proofs.Common.{each_append, each_weaker, manual_medium, same_id, step, turn_of, with_call}
use Rattle.sg_gateway.proofs.CarriedOut.{any_mapped, stays}
use Rattle.sg_gateway.proofs.Growth.{install_is}
use Rattle.sg_gateway.proofs.Kept.{IsRing}
use Rattle.sg_gateway.proofs.Lists.{any_first, any_second}
use Rattle.sg_gateway.proofs.Signals.{is_found}
use Rattle.sg_gateway.proofs.StepCases.{Installs, each_datagram, each_signal, manual_call, renewed_by}
use Rattle.sg_gateway.proofs.Taken.{found_new, same_id_itself}
use Rattle.sg_conduct.specs.Causes.{HasUser, KeysComeWithUsers}

-- ---- the sessions of a generation

abbrev IsUnder : List Session → Installed → Type 0
IsUnder ss k = Any (λ s. (s.name.owner ≡ k.owner) × Any (λ x. x.master ≡ k.master) s.keys) ss

each_numbered : (owner : Owner) (n : ℕ) (ks : List AgreedKey) → AllByRecursion (λ k. (owner ≡ k.owner) × Any (λ x. x.master ≡ k.master) (numbered n ks)) (owned owner ks)
each_numbered owner n [] = tt
each_numbered owner n (k ∷ ks) = ((refl, any_here _ _ _ refl), each_weaker _ _ (λ i p. (p.0, any_there _ _ _ p.1)) (owned owner ks) (each_numbered owner (n + 1) ks))

each_of_stream : (owner : Owner) (n : ℕ) (ks : List AgreedKey) (st : Stream) (window : ℕ) (x : Medium) (rest : List Session)
    → AllByRecursion (IsUnder (stream_sessions owner (numbered n ks) st window x ++ rest)) (owned owner ks)
each_of_stream owner n ks st window x rest = each_weaker _ _ (λ i p. any_here _ _ _ p) (owned owner ks) (each_numbered owner n ks)

module _ (call generation : ℕ) where
  each_of_media : (m n : ℕ) (xs : List (Option Medium)) → AllByRecursion (IsUnder (sessions_from call generation m n xs)) (keys_from call generation m xs)
  each_of_media m n [] = tt
  each_of_media m n (None ∷ xs) = each_of_media (m + 1) n xs
  each_of_media m n (Some x ∷ xs) =
      let opens : Owner = owner_at call generation m Opening in
      let seals : Owner = owner_at call generation m Sealing in
      let n1 : ℕ = n + length x.from_peer.keys in
      let n2 : ℕ = n1 + length x.to_peer.keys in
      let opening : List Session = stream_sessions opens (numbered n x.from_peer.keys) x.from_peer x.window x in
      let sealing : List Session = stream_sessions seals (numbered n1 x.to_peer.keys) x.to_peer 1024 x in
      let later : List Session = sessions_from call generation (m + 1) n2 xs in
      let more : List Installed = keys_from call generation (m + 1) xs in
      each_append (IsUnder (opening ++ (sealing ++ later))) (owned opens x.from_peer.keys) (owned seals x.to_peer.keys ++ more)
      (each_of_stream opens n x.from_peer.keys x.from_peer x.window x (sealing ++ later))
      (each_weaker (IsUnder (sealing ++ later)) (IsUnder (opening ++ (sealing ++ later))) (λ k p. any_second _ opening (sealing ++ later) p) (owned seals x.to_peer.keys ++ more)
      (each_append (IsUnder (sealing ++ later)) (owned seals x.to_peer.keys) more (each_of_stream seals n1 x.to_peer.keys x.to_peer 1024 x later)
      (each_weaker (IsUnder later) (IsUnder (sealing ++ later)) (λ k p. any_second _ sealing later p) more (each_of_media (m + 1) n2 xs))))

-- ---- an event

-- a call is in its place
pub placed : (w : World) (c d : Call) → d.serial ≡ c.serial → Any (λ x. x ≡ c) w.calls → Any (λ x. x ≡ d) (with_call d w.calls)
placed w c d serial there = any_mapped (λ x. x ≡ d) (λ x. cond (eqb x.serial d.serial) d x) c w.calls (cond-true (eqb c.serial d.serial) d c (eq-eqb c.serial d.serial (sym serial))) there

module _ (w : World) (ring : IsRing w.books.ring) where
  abbrev Comes : World → Type 0
  Comes v = (new : List Installed) × (v.books.ring ≡ w.books.ring ++ new) × AllByRecursion (HasUser v.calls) new

  nothing : w.books.ring ≡ w.books.ring ++ []
  nothing = sym (append-nil w.books.ring)

  -- the call under a new generation is among these
  gets : (c : Call) (text : List ℕ) (media : List (Option Medium)) (after : List Installed) → Installs w.moment w.books c media after
      → (cs : List Call) → Any (λ x. x ≡ (renewed_by w.moment w.books c text media after).call) cs
      → (new : List Installed) × (after ≡ w.books.ring ++ new) × AllByRecursion (HasUser cs) new
  gets c text media after is cs there =
      let new : List Installed = keys_from c.serial c.generations 0 media in
      let made : List Session = sessions_from c.serial c.generations 0 (length w.books.ring) media in (
        new,
        sym (install_is w.books.ring new after is ring).0,
        each_weaker (IsUnder made) (HasUser cs) (λ k p. any_weaker (λ x. x ≡ (renewed_by w.moment w.books c text media after).call) (λ x. IsUnder x.sessions k)
            (λ x same. subst (λ (x : Call). IsUnder x.sessions k) (sym same) (any_first _ made (filter (stays c) c.sessions) p)) cs there) new (each_of_media c.serial c.generations 0 (length w.books.ring) media),
      )

  event_comes : (e : Event) → Comes (step w e).world
  event_comes (Signalled signal) = each_signal w (λ signal a. Comes a.world) (record {
    refuses = λ signal id cause. ([], nothing, tt);
    ticks = λ now on. ([], nothing, tt);
    pairs = λ p. ([], nothing, tt);
    keys = λ h none room after is.
        let made : Call = (renewed_by w.moment w.books (manual_call w h) [] (Some (manual_medium h) ∷ []) after).call in
        gets (manual_call w h) [] (Some (manual_medium h) ∷ []) after is (and_call made w.calls)
        (is_found (λ c. same_id c.id h.id) (and_call made w.calls) made (found_new (λ c. same_id c.id h.id) made w.calls (same_id_itself h.id) none));
    begins = λ id way noise text free room a agreed. ([], nothing, tt);
    offers = λ id way noise text c at a agreed. ([], nothing, tt);
    answers = λ id noise text c at o is_open g agreed after is.
        let made : Call = (renewed_by w.moment w.books c g.text g.media after).call in
        gets c g.text g.media after is (with_call made w.calls) (placed w c made refl (is_found _ w.calls c at));
    rejects = λ id c at free. ([], nothing, tt);
    closes = λ id c at. ([], nothing, tt);
    leaves = λ id c at. ([], nothing, tt);
  }) signal
  event_comes (Datagram port from d) = each_datagram w port (λ h. Comes h.world) (record { drops = λ cause. ([], nothing, tt); puts = λ c at s t octets held. ([], nothing, tt) }) from d.items

pub keys_come : (w : World) → IsRing w.books.ring → (e : Event) → KeysComeWithUsers (turn_of w e)
keys_come w ring e = event_comes w ring e
