-- The keys that the ring is to take in are those of the sessions that the answer gives its call.
use Rattle.std.proofs.Common.{◌≡◌, inl, inr, arith, ℕ, ◌+◌, Bool, true, false, cond, List, [], ◌∷◌, ◌++◌, length, map, Option, Some, None, Ok, refl, sym, ap, ◌∙◌, subst}
use Rattle.std.proofs.lemmas.List.{append-nil}
use Rattle.std.specs.List.{AllByRecursion, Any}
use Rattle.sg_agreement.specs.Answers.{AgreedAnswer, agreed_answer}
use Rattle.sg_agreement.specs.Generations.{owned}
use Rattle.sg_sdp.specs.declared.sdp.Sdp as sdp
use Rattle.sg_gateway.proofs.Common.{AgreedKey, Call, CallId, Direction, Installed, Key, Master, Medium, Offer, Opening, Owner, Pair, Rtcp, Rtp, Sealing, Session}
use Rattle.sg_gateway.proofs.Common.{Stream, Turn, description_of, each_append}
use Rattle.sg_gateway.proofs.Common.{each_weaker, keys_from, numbered, owner_at, sessions_from}
use Rattle.sg_gateway.proofs.Common.{stream_session, stream_sessions}
use Rattle.sg_gateway.proofs.Addressed.{IsAnswered}
use Rattle.sg_gateway.proofs.Agreements.{Agreements}
use Rattle.sg_gateway.proofs.ByTexts.{MadeBy, by_way}
use Rattle.sg_gateway.proofs.LineSessions.{masters_of}
use Rattle.sg_gateway.proofs.MediaSessions.{each_stream}
use Rattle.sg_gateway.proofs.Ordered.{InGeneration, generation_differ, generation_named}
use Rattle.sg_gateway.proofs.Pairs.{Pairs, pairs_append, pairs_to}
use Rattle.sg_gateway.specs.ByTexts.{AreByTexts}
use Rattle.sg_gateway.specs.Order.{DifferInName}
use Rattle.sg_conduct.proofs.Back.{told_back}
use Rattle.sg_conduct.proofs.Drawn.{drawn_by}
use Rattle.sg_conduct.proofs.Firsts.{first_by}
use Rattle.sg_conduct.proofs.Opened.{OpenedBy, opens_it, was_offered}
use Rattle.sg_conduct.proofs.Partners.{new_partners}
use Rattle.sg_conduct.proofs.Present.{new_therein}
use Rattle.sg_conduct.specs.Brought.{AreBrought, IsOfAnswer, StandsBefore, master_keys}

-- ---- the keys of sessions

module _ (owner : Owner) where
  stream_keys : (keys : List Key) (st : Stream) (window : ℕ) (x : Medium) (rest : List Session) → master_keys (stream_sessions owner keys st window x ++ rest) ≡ map (λ k. k.master) keys ++ master_keys rest
  stream_keys keys st window x rest = go x.has_rtcp
    where
      go : (b : Bool) → master_keys ((stream_session owner keys st window x Rtp st.encrypts_rtp st.tag_len ∷ cond b (stream_session owner keys st window x Rtcp st.encrypts_rtcp 10 ∷ []) []) ++ rest)
          ≡ map (λ k. k.master) keys ++ master_keys rest
      go true = refl
      go false = refl

  owned_keys : (ks : List AgreedKey) (rest : List Installed) → map (λ k. k.master) (owned owner ks ++ rest) ≡ map (λ k. k.master) ks ++ map (λ k. k.master) rest
  owned_keys [] rest = refl
  owned_keys (k ∷ ks) rest = ap (λ (ms : List Master). k.master ∷ ms) (owned_keys ks rest)

  stream_calls : (keys : List Key) (st : Stream) (window : ℕ) (x : Medium) → AllByRecursion (λ s. s.name.owner.call ≡ owner.call) (stream_sessions owner keys st window x)
  stream_calls keys st window x = (refl, go x.has_rtcp)
    where
      go : (b : Bool) → AllByRecursion (λ s. s.name.owner.call ≡ owner.call) (cond b (stream_session owner keys st window x Rtcp st.encrypts_rtcp 10 ∷ []) [])
      go true = (refl, tt)
      go false = tt

module _ (call generation : ℕ) where
  generation_keys : (m n : ℕ) (xs : List (Option Medium)) → master_keys (sessions_from call generation m n xs) ≡ map (λ k. k.master) (keys_from call generation m xs)
  generation_keys m n [] = refl
  generation_keys m n (None ∷ xs) = generation_keys (m + 1) n xs
  generation_keys m n (Some x ∷ xs) =
      let opens : Owner = owner_at call generation m Opening in
      let seals : Owner = owner_at call generation m Sealing in
      let n1 : ℕ = n + length x.from_peer.keys in
      let n2 : ℕ = n1 + length x.to_peer.keys in
      let sealing : List Session = stream_sessions seals (numbered n1 x.to_peer.keys) x.to_peer 1024 x in
      let later : List Session = sessions_from call generation (m + 1) n2 xs in
      let more : List Installed = keys_from call generation (m + 1) xs in
      let a : List Master = map (λ k. k.master) x.from_peer.keys in
      let b : List Master = map (λ k. k.master) x.to_peer.keys in
      let of_sealing : master_keys (sealing ++ later) ≡ map (λ k. k.master) (owned seals x.to_peer.keys ++ more) =
      stream_keys seals (numbered n1 x.to_peer.keys) x.to_peer 1024 x later
      ∙ (ap (λ (l : List Master). l ++ master_keys later) (masters_of Rtp n1 x.to_peer.keys)
      ∙ (ap (λ (l : List Master). b ++ l) (generation_keys (m + 1) n2 xs) ∙ sym (owned_keys seals x.to_peer.keys more))) in
      stream_keys opens (numbered n x.from_peer.keys) x.from_peer x.window x (sealing ++ later)
      ∙ (ap (λ (l : List Master). l ++ master_keys (sealing ++ later)) (masters_of Rtp n x.from_peer.keys)
      ∙ (ap (λ (l : List Master). a ++ l) of_sealing ∙ sym (owned_keys opens x.from_peer.keys (owned seals x.to_peer.keys ++ more))))

  generation_calls : (m n : ℕ) (xs : List (Option Medium)) → AllByRecursion (λ s. s.name.owner.call ≡ call) (sessions_from call generation m n xs)
  generation_calls m n [] = tt
  generation_calls m n (None ∷ xs) = generation_calls (m + 1) n xs
  generation_calls m n (Some x ∷ xs) =
      let n1 : ℕ = n + length x.from_peer.keys in
      let n2 : ℕ = n1 + length x.to_peer.keys in
      let opening : List Session = stream_sessions (owner_at call generation m Opening) (numbered n x.from_peer.keys) x.from_peer x.window x in
      let sealing : List Session = stream_sessions (owner_at call generation m Sealing) (numbered n1 x.to_peer.keys) x.to_peer 1024 x in
      let later : List Session = sessions_from call generation (m + 1) n2 xs in
      each_append (λ s. s.name.owner.call ≡ call) opening (sealing ++ later) (stream_calls (owner_at call generation m Opening) (numbered n x.from_peer.keys) x.from_peer x.window x)
      (each_append (λ s. s.name.owner.call ≡ call) sealing later (stream_calls (owner_at call generation m Sealing) (numbered n1 x.to_peer.keys) x.to_peer 1024 x) (generation_calls (m + 1) n2 xs))

  -- ---- their order

  abbrev IsAt : ℕ → Direction → Session → Type 0
  IsAt m direction s = (s.name.owner.medium ≡ m) × (s.name.owner.direction ≡ direction)

  streams_at : (m : ℕ) (direction : Direction) (keys : List Key) (st : Stream) (window : ℕ) (x : Medium) → AllByRecursion (IsAt m direction) (stream_sessions (owner_at call generation m direction) keys st window x)
  streams_at m direction keys st window x = each_stream (IsAt m direction) _ keys st window x (refl, refl) (λ on. (refl, refl))

  streams_ordered : (m : ℕ) (direction : Direction) (keys : List Key) (st : Stream) (window : ℕ) (x : Medium) → Pairs StandsBefore (stream_sessions (owner_at call generation m direction) keys st window x)
  streams_ordered m direction keys st window x = two x.has_rtcp
    where
      owner : Owner
      owner = owner_at call generation m direction

      two : (b : Bool) → Pairs StandsBefore (stream_session owner keys st window x Rtp st.encrypts_rtp st.tag_len ∷ cond b (stream_session owner keys st window x Rtcp st.encrypts_rtcp 10 ∷ []) [])
      two true = ((inr (refl, λ opens. opens), tt), (tt, tt))
      two false = (tt, tt)

  -- the media behind this one
  before_later : (m : ℕ) (direction : Direction) (s : Session) → IsAt m direction s → (later : List Session) → AllByRecursion (InGeneration generation (m + 1)) later → AllByRecursion (StandsBefore s) later
  before_later m direction s at later are =
      each_weaker (InGeneration generation (m + 1)) (StandsBefore s) (λ t p. inl (let e = at.0 in let le = p.1 in omega (arith, e, le))) later are

  generation_ordered : (m n : ℕ) (xs : List (Option Medium)) → Pairs StandsBefore (sessions_from call generation m n xs)
  generation_ordered m n [] = tt
  generation_ordered m n (None ∷ xs) = generation_ordered (m + 1) n xs
  generation_ordered m n (Some x ∷ xs) =
      let n1 : ℕ = n + length x.from_peer.keys in
      let n2 : ℕ = n1 + length x.to_peer.keys in
      let opening : List Session = stream_sessions (owner_at call generation m Opening) (numbered n x.from_peer.keys) x.from_peer x.window x in
      let sealing : List Session = stream_sessions (owner_at call generation m Sealing) (numbered n1 x.to_peer.keys) x.to_peer 1024 x in
      let later : List Session = sessions_from call generation (m + 1) n2 xs in
      let of_later : AllByRecursion (InGeneration generation (m + 1)) later = generation_named call generation (m + 1) n2 xs in
      let of_sealing : AllByRecursion (IsAt m Sealing) sealing = streams_at m Sealing (numbered n1 x.to_peer.keys) x.to_peer 1024 x in
      let of_opening : AllByRecursion (IsAt m Opening) opening = streams_at m Opening (numbered n x.from_peer.keys) x.from_peer x.window x in
      pairs_append StandsBefore opening (sealing ++ later) (streams_ordered m Opening (numbered n x.from_peer.keys) x.from_peer x.window x)
      (pairs_append StandsBefore sealing later (streams_ordered m Sealing (numbered n1 x.to_peer.keys) x.to_peer 1024 x) (generation_ordered (m + 1) n2 xs)
      (each_weaker (IsAt m Sealing) (λ s. AllByRecursion (StandsBefore s) later) (λ s at. before_later m Sealing s at later of_later) sealing of_sealing))
      (each_weaker (IsAt m Opening) (λ s. AllByRecursion (StandsBefore s) (sealing ++ later))
      (λ s at. each_append (StandsBefore s) sealing later
      (each_weaker (IsAt m Sealing) (StandsBefore s) (λ t is. inr (at.0 ∙ sym is.0, λ opens. at.1)) sealing of_sealing) (before_later m Opening s at later of_later)) opening of_opening)

-- ---- an answer

module _ (laws : Agreements) (ts : List Turn) (id : CallId) (o : Offer) (noise text : List ℕ) (c : Call) (by : Any (OpenedBy id o) ts) (g : AgreedAnswer) (agreed : agreed_answer c.slot o noise text ≡ Ok g) where
  abbrev u : Turn
  u = by.1

  abbrev made : MadeBy id o u
  made = by.4.0

  abbrev before : Call
  before = record c { sessions = [] }

  abbrev new : List Session
  new = sessions_from c.serial c.generations 0 0 g.media

  -- the call under them alone
  abbrev under : Call
  under = record c { generations = c.generations + 1; sessions = new }

  answered : agreed_answer c.slot made.accepted.offer noise text ≡ Ok g
  answered = ap (λ (o : Offer). agreed_answer c.slot o noise text) made.same ∙ agreed

  is_answered : IsAnswered before under o noise text
  is_answered = record { serial = refl; id = refl; generations = refl; agreement = g; agreed = agreed; number = 0; sessions = sym (append-nil new) }

  texts : (answer : sdp.Sdp) → description_of text ≡ Ok answer → AreByTexts u.before.books.pairs made.way o.description answer made.accepted.text g.text under
  texts answer read =
      subst (λ (o : Offer). AreByTexts u.before.books.pairs made.way o.description answer made.accepted.text g.text under) made.same
      (subst (λ (pairs : List Pair). AreByTexts pairs made.way made.accepted.offer.description answer made.accepted.text g.text under) made.pairs
      (by_way made.way made.hand made.text noise text before under 0 answer made.accepted g made.agreed answered read (sym (append-nil new)) refl))

  of_answer : (answer : sdp.Sdp) → description_of text ≡ Ok answer → IsOfAnswer o answer under
  of_answer answer read = record {
    number = c.generations;
    current = refl;
    call = generation_calls c.serial c.generations 0 0 g.media;
    generation = each_weaker _ _ (λ s (p : InGeneration c.generations 0 s). p.0) new (generation_named c.serial c.generations 0 0 g.media);
    names = pairs_to DifferInName new (generation_differ c.serial c.generations 0 0 g.media);
    order = pairs_to StandsBefore new (generation_ordered c.serial c.generations 0 0 g.media);
    partners = new_partners laws c.slot o noise text g answer (was_offered id o u by.4) agreed read c.serial c.generations 0;
    present = new_therein laws c o noise text g answer (was_offered id o u by.4) agreed read 0;
  }

  pub keys_brought : AreBrought ts c.slot id o noise text (map (λ k. k.master) (keys_from c.serial c.generations 0 g.media))
  unfolding opens_it
  keys_brought =
      let back = told_back laws c.slot o noise text g (was_offered id o u by.4) agreed in
      record {
        of_offer = u;
        was_earlier = (by.0, by.1, by.2, by.3, refl);
        opens = opens_it id o u by.4;
        answer = back.0;
        in_answer = back.1;
        back = g.text;
        told = back.2;
        call = under;
        of_answer = of_answer back.0 back.1;
        by_texts = texts back.0 back.1;
        first = first_by id o u made before under noise text back.0 back.1 is_answered;
        drawn = drawn_by id o u made before under noise text is_answered;
        are = sym (generation_keys c.serial c.generations 0 0 g.media);
      }
