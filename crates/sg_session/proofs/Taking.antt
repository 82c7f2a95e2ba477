-- What a session opens or seals is new in it, and under one of its keys.
use Rattle.std.proofs.Common.{◌≡◌, ℕ, ◌+◌, ◌<◌, Bool, true, false, cond, not, List, [], ◌∷◌, ◌*◌, Option, Some, None, Result, Ok, Err, refl, sym, ap, subst, arith, ltb}
use Rattle.std.proofs.lemmas.Bool.{not-false, ltb-true}
use Rattle.std.specs.List.{Any}
use Rattle.sg_base.specs.Octets.{same_octets}
use Rattle.sg_base.specs.declared.addresses.Kind.{Kind}
use Rattle.sg_base.specs.declared.addresses.Kind.TheVariants.{Rtp, Rtcp}
use Rattle.sg_base.specs.declared.faults.DropCause.TheVariants as cause
use Rattle.sg_base.specs.declared.faults.IndexFault.{IndexFault}
use Rattle.sg_session.specs.Opening.{Head, Check, Taken, taken_by, checked, opens, tag_fits, key_with, mki_in, head_in, place_in, if_new, fresh_index}
use Rattle.sg_session.specs.Sealing.{seals, sealing_key, head_out, number_out, number_of_kind, next_after}
use Rattle.sg_session.specs.Session.{Key, Session, indices_of, has_done, highest_in, with_cause, nearest_from, index_in, count_of, is_live, admits, has_room}
use Rattle.sg_replay.specs.Freshness.{freshness, highest_of, is_in}
use Rattle.sg_replay.specs.declared.seen.Freshness.{Freshness}
use Rattle.sg_replay.specs.declared.seen.Freshness.TheVariants.{New, Repeat, TooOld}
use Rattle.sg_session.proofs.Inversions.{after_ok_is, stop_if_is, ok_is}
use Rattle.sg_replay.proofs.DoneLists.{highest_of-none, is_in-above_highest}
use Rattle.sg_session.proofs.Leaves.{fresh_parts, life_below, nearest_below}
use Rattle.sg_session.proofs.Lists.{any_here, any_there}

pub if_new_is : (i j : ℕ) (f : Freshness) → if_new i f ≡ Ok j → (f ≡ New) × (i ≡ j)
if_new_is i j New e = (refl, ok_is i j e)
if_new_is i j Repeat e = absurd cc
if_new_is i j TooOld e = absurd cc

-- a fresh index is not done
pub fresh_index_is : (s : Session) (ssrc i j : ℕ) → fresh_index s ssrc i ≡ Ok j → (has_done s.done ssrc j ≡ false) × (i ≡ j)
fresh_index_is s ssrc i j e =
    let is = if_new_is i j (freshness s.window (indices_of s.done ssrc) i) e in
    (subst (λ n. has_done s.done ssrc n ≡ false) is.1 (fresh_parts s.window (indices_of s.done ssrc) i is.0).1, is.1)

pub key_with_is : (ks : List Key) (mki : List ℕ) (k : Key) → key_with ks mki ≡ Ok k → Any (λ x. x ≡ k) ks
key_with_is [] mki k e = absurd cc
key_with_is (x ∷ ks) mki k e = go (key_with_is ks mki k) (same_octets x.mki mki) e
  where
    go : (key_with ks mki ≡ Ok k → Any (λ x. x ≡ k) ks) → (b : Bool) → cond b (Ok x) (key_with ks mki) ≡ Ok k → Any (λ x. x ≡ k) (x ∷ ks)
    go rest true e = any_here (λ x. x ≡ k) x ks (ok_is x k e)
    go rest false e = any_there (λ x. x ≡ k) x ks (rest e)

key_with_mki : (ks : List Key) (mki : List ℕ) (k : Key) → key_with ks mki ≡ Ok k → same_octets k.mki mki ≡ true
key_with_mki [] mki k e = absurd cc
key_with_mki (x ∷ ks) mki k e = go (key_with_mki ks mki k) (same_octets x.mki mki) refl e
  where
    go : (key_with ks mki ≡ Ok k → same_octets k.mki mki ≡ true) → (b : Bool) → same_octets x.mki mki ≡ b → cond b (Ok x) (key_with ks mki) ≡ Ok k → same_octets k.mki mki ≡ true
    go rest true is e = subst (λ (k : Key). same_octets k.mki mki ≡ true) (ok_is x k e) is
    go rest false is e = rest e

pub sealing_key_is : (s : Session) (ks : List Key) (k : Key) → sealing_key s ks ≡ Ok k → Any (λ x. x ≡ k) ks
sealing_key_is s [] k e = absurd cc
sealing_key_is s (x ∷ []) k e = go (is_live s x) e
  where
    go : (b : Bool) → cond b (Ok x) (Err (cause.KeySpent x.number (count_of s x))) ≡ Ok k → Any (λ x. x ≡ k) (x ∷ [])
    go true e = any_here (λ x. x ≡ k) x [] (ok_is x k e)
    go false e = absurd cc
sealing_key_is s (x ∷ y ∷ ks) k e = go (sealing_key_is s (y ∷ ks) k) (is_live s x) e
  where
    go : (sealing_key s (y ∷ ks) ≡ Ok k → Any (λ x. x ≡ k) (y ∷ ks)) → (b : Bool) → cond b (Ok x) (sealing_key s (y ∷ ks)) ≡ Ok k → Any (λ x. x ≡ k) (x ∷ (y ∷ ks))
    go rest true e = any_here (λ x. x ≡ k) x (y ∷ ks) (ok_is x k e)
    go rest false e = any_there (λ x. x ≡ k) x (y ∷ ks) (rest e)

sealing_key_live : (s : Session) (ks : List Key) (k : Key) → sealing_key s ks ≡ Ok k → is_live s k ≡ true
sealing_key_live s [] k e = absurd cc
sealing_key_live s (x ∷ []) k e = go (is_live s x) refl e
  where
    go : (b : Bool) → is_live s x ≡ b → cond b (Ok x) (Err (cause.KeySpent x.number (count_of s x))) ≡ Ok k → is_live s k ≡ true
    go true is e = subst (λ k. is_live s k ≡ true) (ok_is x k e) is
    go false is e = absurd cc
sealing_key_live s (x ∷ y ∷ ks) k e = go (sealing_key_live s (y ∷ ks) k) (is_live s x) refl e
  where
    go : (sealing_key s (y ∷ ks) ≡ Ok k → is_live s k ≡ true) → (b : Bool) → is_live s x ≡ b → cond b (Ok x) (sealing_key s (y ∷ ks)) ≡ Ok k → is_live s k ≡ true
    go rest true is e = subst (λ k. is_live s k ≡ true) (ok_is x k e) is
    go rest false is e = rest e

pub record IsCheckOf (s : Session) (d : List ℕ) (k : Check) : Type 0 where
  pub head : head_in s d ≡ Ok k.head
  pub mki : same_octets k.key.mki (mki_in s d) ≡ true
  pub new : has_done s.done k.head.ssrc k.index ≡ false
  pub key : Any (λ x. x ≡ k.key) s.keys
  pub live : is_live s k.key ≡ true

pub checked_is : (s : Session) (d : List ℕ) (k : Check) → checked s d ≡ Ok k → IsCheckOf s d k
checked_is s d k e =
    let a = after_ok_is (head_in s d) _ k e in
    let b = stop_if_is _ _ _ k a.2 in
    let c = after_ok_is (key_with s.keys (mki_in s d)) _ k b.1 in
    let f = stop_if_is _ _ _ k c.2 in
    let g = after_ok_is (place_in s a.0) _ k f.1 in
    let h = after_ok_is (fresh_index s a.0.ssrc g.0) _ k g.2 in
    let same : record { key = c.0; head = a.0; index = h.0 } ≡ k = ok_is _ k h.2 in
    subst (IsCheckOf s d) same (record { head = a.1; mki = key_with_mki s.keys (mki_in s d) c.0 c.1; new = (fresh_index_is s a.0.ssrc g.0 h.0 h.1).0; key = key_with_is s.keys (mki_in s d) c.0 c.1; live = not-false _ f.0 })

-- what a session takes is new in it, and under one of its keys
pub record IsNewIn (s : Session) (t : Taken) : Type 0 where
  pub new : has_done s.done t.done.ssrc t.done.index ≡ false
  pub key : Any (λ x. x ≡ t.key) s.keys
  pub live : is_live s t.key ≡ true
  pub number : t.done.key ≡ t.key.number

pub record IsOpened (s : Session) (d : List ℕ) (t : Taken) : Type 0 where
  pub check : Check
  pub checks : checked s d ≡ Ok check
  pub fits : tag_fits s check d ≡ true
  pub is : taken_by s d check ≡ t

pub opens_is : (s : Session) (d : List ℕ) (t : Taken) → opens s d ≡ Ok t → IsOpened s d t
opens_is s d t e =
    let a = after_ok_is (checked s d) _ t e in
    let b = stop_if_is _ _ _ t a.2 in
    let c = stop_if_is _ _ _ t b.1 in
    record { check = a.0; checks = a.1; fits = not-false _ b.0; is = ok_is _ t c.1 }

pub opened_new : (s : Session) (d : List ℕ) (t : Taken) → opens s d ≡ Ok t → IsNewIn s t
opened_new s d t e =
    let o = opens_is s d t e in
    let k = checked_is s d o.check o.checks in
    subst (IsNewIn s) o.is (record { new = k.new; key = k.key; live = k.live; number = refl })

-- what a sealing takes
pub record IsSealing (s : Session) (p : List ℕ) (t : Taken) : Type 0 where
  pub taken : IsNewIn s t
  pub packet : t.done.packet ≡ p
  pub index : t.done.index < 281474976710656

index_below : (roc seq : ℕ) (o : Option ℕ) (j : ℕ) → with_cause (nearest_from roc seq o) ≡ Ok j → j < 281474976710656
index_below roc seq o j e = go o (nearest_from roc seq o) refl e
  where
    of : (o : Option ℕ) (i : ℕ) → nearest_from roc seq o ≡ Ok i → i < 281474976710656
    of None i e = life_below (roc * 65536 + seq) i e
    of (Some h) i e = nearest_below h seq i e

    go : (o : Option ℕ) (r : Result ℕ IndexFault) → nearest_from roc seq o ≡ r → with_cause r ≡ Ok j → j < 281474976710656
    go o (Ok i) is e = subst (λ n. n < 281474976710656) (ok_is i j e) (of o i is)
    go o (Err fault) is e = absurd cc

next_is : (done : List ℕ) (o : Option ℕ) (j : ℕ) → highest_of done ≡ o → next_after o ≡ Ok j → (is_in done j ≡ false) × (j < 281474976710656)
next_is done None j is e = (ap (λ l. is_in l j) (highest_of-none done is), let zero : 0 ≡ j = ok_is 0 j e in omega (arith, zero))
next_is done (Some h) j is e = go (ltb h 2147483647) refl e
  where
    go : (b : Bool) → ltb h 2147483647 ≡ b → cond b (Ok (h + 1)) (Err cause.RtcpIndexSpent) ≡ Ok j → (is_in done j ≡ false) × (j < 281474976710656)
    go true low e =
        let next : h + 1 ≡ j = ok_is (h + 1) j e in
        let lt = ltb-true _ _ low in
        (is_in-above_highest done h j is (omega (arith, next)), omega (arith, next, lt))
    go false low e = absurd cc

number_is : (kind : Kind) (s : Session) (h : Head) (j : ℕ) → number_of_kind kind s h ≡ Ok j → (has_done s.done h.ssrc j ≡ false) × (j < 281474976710656)
number_is Rtp s h j e =
    let a = after_ok_is (index_in s h.ssrc h.number) _ j e in
    let fresh = fresh_index_is s h.ssrc a.0 j a.2 in
    (fresh.0, subst (λ i. i < 281474976710656) fresh.1 (index_below s.roc h.number (highest_in s h.ssrc) a.0 a.1))
number_is Rtcp s h j e = next_is (indices_of s.done h.ssrc) (highest_in s h.ssrc) j refl e

pub seals_is : (s : Session) (p : List ℕ) (t : Taken) → seals s p ≡ Ok t → (h : Head) × (head_out s p ≡ Ok h) × (t.done.ssrc ≡ h.ssrc) × IsSealing s p t
seals_is s p t e =
    let a = after_ok_is (head_out s p) _ t e in
    let b = stop_if_is (not (admits s a.0.ssrc)) cause.SsrcUnknown _ t a.2 in
    let c = stop_if_is (not (has_room s a.0.ssrc)) cause.StreamsFull _ t b.1 in
    let f = after_ok_is (sealing_key s s.keys) _ t c.1 in
    let g = after_ok_is (number_out s a.0) _ t f.2 in
    let same : record { key = f.0; done = record { ssrc = a.0.ssrc; index = g.0; key = f.0.number; packet = p } } ≡ t = ok_is _ t g.2 in
    let fresh = number_is s.name.kind s a.0 g.0 g.1 in (
      a.0,
      a.1,
      ap (λ (t : Taken). t.done.ssrc) (sym same),
      subst (IsSealing s p) same (record { taken = record { new = fresh.0; key = sealing_key_is s s.keys f.0 f.1; live = sealing_key_live s s.keys f.0 f.1; number = refl }; packet = refl; index = fresh.1 }),
    )
