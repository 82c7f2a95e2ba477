-- The sessions of what is agreed of media: what holds of those of each stream, and of each medium, holds of all.
use Rattle.std.proofs.Common.{◌≡◌, ℕ, suc, ◌+◌, Bool, true, false, cond, List, [], ◌∷◌, ◌++◌, length, take, filter, Option, Some, None, refl, subst, arith}
use Rattle.sg_sdp.specs.declared.medium.Medium as descriptions
use Rattle.sg_gateway.proofs.Common.{AllByRecursion, Direction, IsMediumAt, Key, Kind, Medium, Opening, Owner, Rtcp, Rtp, Sealing, Session, Side, Stream}
use Rattle.sg_gateway.proofs.Common.{each_append, each_weaker, is_active, numbered, owner_at, sessions_from, stream_session, stream_sessions}
use Rattle.sg_gateway.proofs.MediaOver.{MediaFrom}
use Rattle.sg_gateway.specs.CryptoSessions.{others_before}

-- ---- a stream

module _ (P : Session → Type 0) (owner : Owner) (keys : List Key) (st : Stream) (window : ℕ) (x : Medium) where
  abbrev of_kind : Kind → Bool → ℕ → Session
  of_kind kind on tag_len = stream_session owner keys st window x kind on tag_len

  pub each_stream : P (of_kind Rtp st.encrypts_rtp st.tag_len) → (x.has_rtcp ≡ true → P (of_kind Rtcp st.encrypts_rtcp 10)) → AllByRecursion P (stream_sessions owner keys st window x)
  each_stream rtp rtcp = (rtp, go x.has_rtcp refl)
    where
      go : (b : Bool) → x.has_rtcp ≡ b → AllByRecursion P (cond b (of_kind Rtcp st.encrypts_rtcp 10 ∷ []) [])
      go true on = (rtcp on, tt)
      go false off = tt

pub stream_weaker : (P Q : Session → Type 0) (owner : Owner) (keys : List Key) (st : Stream) (window : ℕ) (x : Medium)
    → ((kind : Kind) (on : Bool) (tag_len : ℕ) → P (stream_session owner keys st window x kind on tag_len) → Q (stream_session owner keys st window x kind on tag_len))
    → AllByRecursion P (stream_sessions owner keys st window x) → AllByRecursion Q (stream_sessions owner keys st window x)
stream_weaker P Q owner keys st window x h p = (h Rtp st.encrypts_rtp st.tag_len p.0, go x.has_rtcp p.1)
  where
    rtcp : Session
    rtcp = stream_session owner keys st window x Rtcp st.encrypts_rtcp 10

    go : (b : Bool) → AllByRecursion P (cond b (rtcp ∷ []) []) → AllByRecursion Q (cond b (rtcp ∷ []) [])
    go true p = (h Rtcp st.encrypts_rtcp 10 p.0, tt)
    go false p = tt

-- ---- media, whatever is agreed of each

module _ (P : Session → Type 0) (Q : Option Medium → Type 0) (call generation : ℕ)
    (opens : (m n : ℕ) (x : Medium) → Q (Some x) → AllByRecursion P (stream_sessions (owner_at call generation m Opening) (numbered n x.from_peer.keys) x.from_peer x.window x))
    (seals : (m n : ℕ) (x : Medium) → Q (Some x) → AllByRecursion P (stream_sessions (owner_at call generation m Sealing) (numbered n x.to_peer.keys) x.to_peer 1024 x)) where
  pub each_session : (m n : ℕ) (xs : List (Option Medium)) → AllByRecursion Q xs → AllByRecursion P (sessions_from call generation m n xs)
  each_session m n [] q = tt
  each_session m n (None ∷ xs) q = each_session (m + 1) n xs q.1
  each_session m n (Some x ∷ xs) q =
      let sealing : List Session = stream_sessions (owner_at call generation m Sealing) (numbered (n + length x.from_peer.keys) x.to_peer.keys) x.to_peer 1024 x in
      let later : List Session = sessions_from call generation (m + 1) (n + length x.from_peer.keys + length x.to_peer.keys) xs in
      each_append P (stream_sessions (owner_at call generation m Opening) (numbered n x.from_peer.keys) x.from_peer x.window x) (sealing ++ later) (opens m n x q.0)
      (each_append P sealing later (seals m (n + length x.from_peer.keys) x q.0) (each_session (m + 1) (n + length x.from_peer.keys + length x.to_peer.keys) xs q.1))

-- ---- the sessions of media, from one on

-- what holds of a medium that is agreed, holds so of its sessions
module _ (side : Side) (Q : ℕ → descriptions.Medium → descriptions.Medium → descriptions.Medium → Medium → Type 0)
    (P : ℕ → descriptions.Medium → descriptions.Medium → descriptions.Medium → Session → Type 0) where
  abbrev GoesOver : Type 0
  GoesOver = (others : ℕ) (m n t : descriptions.Medium) (call generation medium a : ℕ) (x : Medium) → Q others m n t x
      → AllByRecursion (P others m n t) (stream_sessions (owner_at call generation medium Opening) (numbered a x.from_peer.keys) x.from_peer x.window x)
      × AllByRecursion (P others m n t) (stream_sessions (owner_at call generation medium Sealing) (numbered (a + length x.from_peer.keys) x.to_peer.keys) x.to_peer 1024 x)

  -- by its medium, where the media begin at that of number k, behind so many others
  pub record IsFrom (k others : ℕ) (ms ns ts : List descriptions.Medium) (s : Session) : Type 0 where
    pub offered : descriptions.Medium
    pub answered : descriptions.Medium
    pub told : descriptions.Medium
    pub at : ℕ
    pub place : s.name.owner.medium ≡ k + at
    pub in_offer : IsMediumAt ms at offered
    pub in_answer : IsMediumAt ns at answered
    pub in_told : IsMediumAt ts at told
    pub is : P (others + others_before side ms at) offered answered told s

  next : (k others : ℕ) (m n t : descriptions.Medium) (ms ns ts : List descriptions.Medium) (s : Session) → IsFrom (k + 1) (cond (is_active side m) (others + 1) others) ms ns ts s
      → IsFrom k others (m ∷ ms) (n ∷ ns) (t ∷ ts) s
  next k others m n t ms ns ts s is = record {
    offered = is.offered;
    answered = is.answered;
    told = is.told;
    at = suc is.at;
    place = let e = is.place in omega (arith, e);
    in_offer = ((let lt = is.in_offer.0 in omega (arith, lt)), is.in_offer.1);
    in_answer = ((let lt = is.in_answer.0 in omega (arith, lt)), is.in_answer.1);
    in_told = ((let lt = is.in_told.0 in omega (arith, lt)), is.in_told.1);
    is = subst (λ o. P o is.offered is.answered is.told s) (count (is_active side m)) is.is;
  }
    where
      rest : List descriptions.Medium
      rest = filter (is_active side) (take is.at ms)

      count : (b : Bool) → cond b (others + 1) others + length rest ≡ others + length (cond b (m ∷ rest) rest)
      count true = omega arith
      count false = refl

  first : (k others : ℕ) (m n t : descriptions.Medium) (ms ns ts : List descriptions.Medium) (s : Session) → s.name.owner.medium ≡ k → P others m n t s → IsFrom k others (m ∷ ms) (n ∷ ns) (t ∷ ts) s
  first k others m n t ms ns ts s of_medium is = record {
    offered = m;
    answered = n;
    told = t;
    at = 0;
    place = (let e = of_medium in omega (arith, e));
    in_offer = (omega arith, refl);
    in_answer = (omega arith, refl);
    in_told = (omega arith, refl);
    is = subst (λ o. P o m n t s) (none others) is;
  }
    where
      none : (o : ℕ) → o ≡ o + 0
      none o = omega arith

  of_stream : (k others : ℕ) (m n t : descriptions.Medium) (ms ns ts : List descriptions.Medium) (call generation a : ℕ) (direction : Direction) (st : Stream) (window : ℕ) (x : Medium)
      → AllByRecursion (P others m n t) (stream_sessions (owner_at call generation k direction) (numbered a st.keys) st window x)
      → AllByRecursion (IsFrom k others (m ∷ ms) (n ∷ ns) (t ∷ ts)) (stream_sessions (owner_at call generation k direction) (numbered a st.keys) st window x)
  of_stream k others m n t ms ns ts call generation a direction st window x is =
      stream_weaker (P others m n t) (IsFrom k others (m ∷ ms) (n ∷ ns) (t ∷ ts)) _ _ st window x (λ kind on tag_len. first k others m n t ms ns ts _ refl) is

  pub all_from : GoesOver → (call generation k a others : ℕ) (ms ns ts : List descriptions.Medium) (xs : List (Option Medium)) → MediaFrom side Q others ms ns ts xs
      → AllByRecursion (IsFrom k others ms ns ts) (sessions_from call generation k a xs)
  all_from over call generation k a others ms ns ts [] are = tt
  all_from over call generation k a others (m ∷ ms) (n ∷ ns) (t ∷ ts) (None ∷ xs) are =
      each_weaker (IsFrom (k + 1) (cond (is_active side m) (others + 1) others) ms ns ts) (IsFrom k others (m ∷ ms) (n ∷ ns) (t ∷ ts)) (next k others m n t ms ns ts) (sessions_from call generation (k + 1) a xs)
      (all_from over call generation (k + 1) a (cond (is_active side m) (others + 1) others) ms ns ts xs are.1)
  all_from over call generation k a others (m ∷ ms) (n ∷ ns) (t ∷ ts) (Some x ∷ xs) are =
      let both = over others m n t call generation k a x (are.0 x refl) in
      let opening : List Session = stream_sessions (owner_at call generation k Opening) (numbered a x.from_peer.keys) x.from_peer x.window x in
      let sealing : List Session = stream_sessions (owner_at call generation k Sealing) (numbered (a + length x.from_peer.keys) x.to_peer.keys) x.to_peer 1024 x in
      let later : List Session = sessions_from call generation (k + 1) (a + length x.from_peer.keys + length x.to_peer.keys) xs in
      each_append (IsFrom k others (m ∷ ms) (n ∷ ns) (t ∷ ts)) opening (sealing ++ later)
      (of_stream k others m n t ms ns ts call generation a Opening x.from_peer x.window x both.0)
      (each_append (IsFrom k others (m ∷ ms) (n ∷ ns) (t ∷ ts)) sealing later
      (of_stream k others m n t ms ns ts call generation (a + length x.from_peer.keys) Sealing x.to_peer 1024 x both.1)
      (each_weaker (IsFrom (k + 1) (cond (is_active side m) (others + 1) others) ms ns ts) (IsFrom k others (m ∷ ms) (n ∷ ns) (t ∷ ts)) (next k others m n t ms ns ts) later
      (all_from over call generation (k + 1) (a + length x.from_peer.keys + length x.to_peer.keys) (cond (is_active side m) (others + 1) others) ms ns ts xs are.1)))
  all_from over call generation k a others _ _ _ (x ∷ xs) are = absurd are

  -- from the first medium on
  pub record IsOf (ms ns ts : List descriptions.Medium) (s : Session) : Type 0 where
    pub offered : descriptions.Medium
    pub answered : descriptions.Medium
    pub told : descriptions.Medium
    pub in_offer : IsMediumAt ms s.name.owner.medium offered
    pub in_answer : IsMediumAt ns s.name.owner.medium answered
    pub in_told : IsMediumAt ts s.name.owner.medium told
    pub is : P (others_before side ms s.name.owner.medium) offered answered told s

  place_is : (k at : ℕ) → k ≡ 0 + at → at ≡ k
  place_is k at e = omega (arith, e)

  from_none : (o : ℕ) → 0 + o ≡ o
  from_none o = omega arith

  pub all_of : GoesOver → (call generation a : ℕ) (ms ns ts : List descriptions.Medium) (xs : List (Option Medium)) → MediaFrom side Q 0 ms ns ts xs → AllByRecursion (IsOf ms ns ts) (sessions_from call generation 0 a xs)
  all_of over call generation a ms ns ts xs are =
      each_weaker (IsFrom 0 0 ms ns ts) (IsOf ms ns ts) from_first (sessions_from call generation 0 a xs) (all_from over call generation 0 a 0 ms ns ts xs are)
    where
      from_first : (s : Session) → IsFrom 0 0 ms ns ts s → IsOf ms ns ts s
      from_first s is =
          let same : is.at ≡ s.name.owner.medium = place_is s.name.owner.medium is.at is.place in
          record {
            offered = is.offered;
            answered = is.answered;
            told = is.told;
            in_offer = subst (λ k. IsMediumAt ms k is.offered) same is.in_offer;
            in_answer = subst (λ k. IsMediumAt ns k is.answered) same is.in_answer;
            in_told = subst (λ k. IsMediumAt ts k is.told) same is.in_told;
            is = subst (λ k. P (others_before side ms k) is.offered is.answered is.told s) same (subst (λ o. P o is.offered is.answered is.told s) (from_none (others_before side ms is.at)) is.is);
          }
