-- From the steps of sealing to what a side seals, and from there to the sessions that it stands for.
use Rattle.std.proofs.Common.{◌≡◌, ℕ, ◌<◌, Bool, true, false, not, List, length, Result, Ok, Err, refl, ap, subst, sym, ◌∙◌}
use Rattle.std.specs.Prelude.{MatchResult}
use Rattle.sg_base.specs.declared.addresses.Kind.{Kind}
use Rattle.sg_base.specs.declared.faults.DropCause.{DropCause}
use Rattle.sg_base.specs.declared.faults.DropCause.TheVariants.{SsrcUnknown}
use Rattle.sg_keys.specs.Live.{Live}
use Rattle.sg_session.specs.OneSession.{after}
use Rattle.sg_session.specs.Opening.{Head, Taken}
use Rattle.sg_session.specs.Sealing.{datagram_of, seals}
use Rattle.sg_session.specs.Session.{Done, Session, is_admitted}
use Rattle.sg_session.specs.Stages.{after_ok, stop_if}
use Rattle.sg_session.proofs.Taking.{seals_is}
use Rattle.sg_states.specs.Outbound.{IsOutHeaded, Outgoing}
use Rattle.sg_states.specs.Parts.{heading_out}
use Rattle.sg_states.specs.Steps.{sealing_steps, text_of}
use Rattle.sg_states.proofs.SealingLaw.{sealing_is}
use Rattle.sg_media.specs.declared.outbound.Sealed.{Sealed}
use Rattle.sg_media.specs.Accepting.{IsAdmitted}
use Rattle.sg_media.specs.Answers.{Closed, closed_among, entry_out, roomed, sealed_of, told_of}
use Rattle.sg_media.specs.Sides.{SideValue, StandsFor}
use Rattle.sg_media.specs.Standing.{room_in}
use Rattle.sg_media.specs.Steps.{outgoing_at, sealed_headed, side_seals}

-- ---- a packet with its head
out_headed_at : (v : SideValue) (p : List ℕ) (h : Outgoing) → IsOutHeaded p v.kind v.encrypts h → h ≡ outgoing_at v p h.head
out_headed_at v p h is = λ i. record { pad = is.same_pad i; kind = is.same_kind i; head = h.head }

module _ (v : SideValue) (done : List Done) (p : List ℕ) where
  abbrev with_head : Result Head DropCause → Result Closed DropCause
  with_head r = after_ok r (λ head. sealed_headed v done (outgoing_at v p head))

  abbrev with_source : Head → Bool → Result Closed DropCause
  with_source head b = stop_if (not b) SsrcUnknown (roomed (room_in done head.ssrc) (closed_among (outgoing_at v p head) v.keys v.tag_len v.roc v.window done))

  pub unheaded_out : (c : DropCause) → heading_out v.kind v.encrypts p ≡ Err c → side_seals v done p ≡ Err c
  unheaded_out c h = ap with_head h

  pub unadmitted_out : (h : Outgoing) → IsOutHeaded p v.kind v.encrypts h → is_admitted v.admit done h.head.ssrc ≡ false → side_seals v done p ≡ Err SsrcUnknown
  unadmitted_out h is a = ap with_head is.reads ∙ ap (with_source h.head) a

  pub admitted : (h : Outgoing) → IsOutHeaded p v.kind v.encrypts h → is_admitted v.admit done h.head.ssrc ≡ true → IsAdmitted v done p h
  admitted h is a = record { head = h.head; reads = is.reads; same = out_headed_at v p h is; admitted = a }

  -- what an admitted packet is sealed as
  pub admitted_seals : (h : Outgoing) → IsAdmitted v done p h
      → told_of h.kind h.pad (roomed (room_in done h.head.ssrc) (closed_among h v.keys v.tag_len v.roc v.window done)) ≡ told_of v.kind p (side_seals v done p)
  admitted_seals h a =
      ap (λ (g : Outgoing). told_of g.kind g.pad (roomed (room_in done g.head.ssrc) (closed_among g v.keys v.tag_len v.roc v.window done))) a.same
      ∙ sym (ap (told_of v.kind p) (ap with_head a.reads ∙ ap (with_source a.head) a.admitted))

pub refused_out : (kind : Kind) (p : List ℕ) (x : List ℕ × DropCause) (r : Result Closed DropCause) → x.0 ≡ p → r ≡ Err (x.1) → Err x ≡ told_of kind p r
refused_out kind p x r a b = (λ i. let y : Result Sealed (List ℕ × DropCause) = Err (a i, x.1) in y) ∙ sym (ap (told_of kind p) b)

-- ---- the sessions that a side stands for
module _ (v : SideValue) (s : Session) (p : List ℕ) (st : StandsFor v s) (some : 0 < length v.keys) where
  steps_are : side_seals v s.done p ≡ sealing_steps s p
  steps_are = λ i.
      after_ok (heading_out (st.same_kind i) (st.same_encrypts i) p)
      (λ head. sealed_headed (record { kind = st.same_kind i; keys = st.same_keys i; streams = v.streams; roc = st.same_roc i; window = st.same_window i; admit = st.same_admit i; encrypts = st.same_encrypts i; tag_len = st.same_tag_len i })
      s.done (record { pad = p; kind = st.same_kind i; head = head }))

  session_steps : side_seals v s.done p ≡ text_of s (seals s p)
  session_steps = steps_are ∙ sealing_is s p (subst (λ (ks : List Live). 0 < length ks) st.same_keys some)

  told_is : (r : Result Taken DropCause) → told_of s.name.kind p (text_of s r) ≡ sealed_of s p r
  told_is (Ok t) = refl
  told_is (Err c) = refl

  pub session_seals : told_of v.kind p (side_seals v s.done p) ≡ sealed_of s p (seals s p)
  session_seals = (λ i. told_of (st.same_kind i) p (session_steps i)) ∙ told_is (seals s p)

  cause_is : (r : Result Taken DropCause) (c : DropCause) → text_of s r ≡ Err c → r ≡ Err c
  cause_is (Ok t) c e = cc
  cause_is (Err b) c e = let same : b ≡ c = cc in ap (λ x. Err x) same

  -- a side that refuses stands for the session afterwards
  pub stands_refused_out : (c : DropCause) → side_seals v s.done p ≡ Err c → StandsFor v (after s (seals s p))
  stands_refused_out c e = subst (λ r. StandsFor v (after s r)) (sym (cause_is (seals s p) c (sym session_steps ∙ e))) st

-- ---- what an answer tells
pub sealed_tells : (s : Session) (p : List ℕ) (said : Result Taken DropCause) (r : Result Sealed (List ℕ × DropCause)) → said ≡ seals s p → r ≡ sealed_of s p said
    → MatchResult r (λ o. (t : Taken) × (said ≡ Ok t) × (entry_out p o ≡ t.done)) (λ e. (c : DropCause) × (said ≡ Err c))
sealed_tells s p (Ok t) (Ok o) is e =
    let same : o ≡ record { pad = datagram_of s t; kind = s.name.kind; ssrc = t.done.ssrc; index = t.done.index; key = t.done.key } = cc in
    let packet : t.done.packet ≡ p = (seals_is s p t (sym is)).3.packet in
    (t, refl, ap (entry_out p) same ∙ ap (λ q. record { ssrc = t.done.ssrc; index = t.done.index; key = t.done.key; packet = q }) (sym packet))
sealed_tells s p (Err c) (Err x) is e = (c, refl)
sealed_tells s p (Ok t) (Err x) is e = cc
sealed_tells s p (Err c) (Ok o) is e = cc
