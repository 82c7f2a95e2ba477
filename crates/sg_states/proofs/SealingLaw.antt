-- The steps of sealing are those of the definitions of a session.
use Rattle.std.proofs.Common.{◌≡◌, ℕ, suc, ◌<◌, Bool, true, false, not, find, List, [], ◌∷◌, ◌++◌, ◌-◌, length, map, slice_get, Option, Some, None, Result, Ok, Err, refl, arith, ap, sym, ◌∙◌, inl, inr}
use Rattle.std.proofs.lemmas.Bool.{cases_Bool}
use Rattle.sg_base.specs.declared.addresses.Kind.{Kind}
use Rattle.sg_base.specs.declared.addresses.Kind.TheVariants.{Rtp, Rtcp}
use Rattle.sg_base.specs.declared.faults.DropCause.{DropCause}
use Rattle.sg_base.specs.declared.faults.DropCause.TheVariants as cause
use Rattle.sg_base.specs.declared.faults.HeadFault.{HeadFault}
use Rattle.sg_base.specs.declared.keys.HalfKeys.{HalfKeys}
use Rattle.sg_keys.specs.Live.{Live, is_alive}
use Rattle.sg_keys.specs.KeySet.{sealing_if, told}
use Rattle.sg_keys.specs.Stands.{live, live_key}
use Rattle.sg_rtp.specs.Heads.{rtp_head, rtcp_head}
use Rattle.sg_rtp.specs.declared.heads.RtpHead.{RtpHead}
use Rattle.sg_rtp.specs.declared.heads.RtcpHead.{RtcpHead}
use Rattle.sg_session.specs.Opening.{Head, Taken, half_in, of_rtp, of_rtcp}
use Rattle.sg_session.specs.Sealed.{crypted, head_size, index_word, sealed_text, size_of, tagged_rtp, tagged_rtcp}
use Rattle.sg_session.specs.Sealing.{head_out, head_out_of_kind, number_of_kind, number_out, sealing_key, seals}
use Rattle.sg_session.specs.Session.{Key, Done, Session, admits, has_room, indices_of, is_live}
use Rattle.sg_session.specs.Stages.{after_ok, stop_if}
use Rattle.sg_session.proofs.Inversions.{ok_is}
use Rattle.sg_states.specs.Choosing.{chosen_to_seal, with_spent_cause}
use Rattle.sg_states.specs.Outbound.{closed}
use Rattle.sg_states.specs.Parts.{heading_out}
use Rattle.sg_states.specs.Placing.{next_index}
use Rattle.sg_states.specs.Steps.{seal_step, sealing_steps, source_step, text_of}
use Rattle.sg_states.proofs.OpeningLaw.{live_result}

-- ---- heads
heading_kind : (kind : Kind) (s : Session) (p : List ℕ) → heading_out kind s.encrypts p ≡ head_out_of_kind kind s p
heading_kind Rtp s p = refl
heading_kind Rtcp s p = refl

pub heading_out_is : (s : Session) (p : List ℕ) → heading_out s.name.kind s.encrypts p ≡ head_out s p
heading_out_is s p = heading_kind s.name.kind s p

rtp_parts : (on : Bool) (r : Result RtpHead HeadFault) (head : Head) → of_rtp on r ≡ Ok head → (head.size ≡ size_of r) × (head.encrypted ≡ on)
rtp_parts on (Err f) head e = cc
rtp_parts on (Ok h) head e =
    let same : record { size = h.length; ssrc = h.ssrc; number = h.seq; encrypted = on } ≡ head = ok_is _ head e in
    (ap (λ (x : Head). x.size) (sym same), ap (λ (x : Head). x.encrypted) (sym same))

rtcp_parts : (on : Bool) (r : Result RtcpHead HeadFault) (head : Head) → of_rtcp 0 on r ≡ Ok head → (head.size ≡ 8) × (head.encrypted ≡ on)
rtcp_parts on (Err f) head e = cc
rtcp_parts on (Ok h) head e =
    let same : record { size = 8; ssrc = h.ssrc; number = 0; encrypted = on } ≡ head = ok_is _ head e in
    (ap (λ (x : Head). x.size) (sym same), ap (λ (x : Head). x.encrypted) (sym same))

pub out_parts : (kind : Kind) (s : Session) (p : List ℕ) (head : Head) → head_out_of_kind kind s p ≡ Ok head → (head.size ≡ head_size kind p) × (head.encrypted ≡ s.encrypts)
out_parts Rtp s p head e = rtp_parts s.encrypts (rtp_head p) head e
out_parts Rtcp s p head e = rtcp_parts s.encrypts (rtcp_head p) head e

-- ---- keys
last_rest : (x y : Live) (ys : List Live) → slice_get (x ∷ y ∷ ys) (length (x ∷ y ∷ ys) - 1) ≡ slice_get (y ∷ ys) (length (y ∷ ys) - 1)
last_rest x y ys =
    let a : length (x ∷ y ∷ ys) - 1 ≡ suc (length ys) = omega arith in
    let b : length (y ∷ ys) - 1 ≡ length ys = omega arith in
    ap (slice_get (x ∷ y ∷ ys)) a ∙ sym (ap (slice_get (y ∷ ys)) b)

told_rest : (o : Option Live) (x y : Live) (ys : List Live) → with_spent_cause (sealing_if o (x ∷ y ∷ ys)) ≡ with_spent_cause (sealing_if o (y ∷ ys))
told_rest (Some k) x y ys = refl
told_rest None x y ys = ap (λ o. with_spent_cause (Err (told o))) (last_rest x y ys)

key_is : (s : Session) (k : Key) (ks : List Key) → chosen_to_seal (map (live_key s) (k ∷ ks)) ≡ live_result s (sealing_key s (k ∷ ks))
key_is s k [] = elim (cases_Bool (is_live s k)) [
  | inl y ↦ rw y refl
  | inr n ↦ rw n refl
]
key_is s k (l ∷ ls) = elim (cases_Bool (is_live s k)) [
  | inl y ↦ rw y refl
  | inr n ↦ rw n (told_rest (find is_alive (map (live_key s) (l ∷ ls))) (live_key s k) (live_key s l) (map (live_key s) ls) ∙ key_is s l ls)
]

pub sealing_live : (s : Session) (ks : List Key) → 0 < length (map (live_key s) ks) → chosen_to_seal (map (live_key s) ks) ≡ live_result s (sealing_key s ks)
sealing_live s [] some = absurd (omega arith)
sealing_live s (k ∷ ks) some = key_is s k ks

-- ---- the index and the text
pub next_kind : (kind : Kind) (s : Session) (h : Head) → next_index kind s.roc s.window (indices_of s.done h.ssrc) h.number ≡ number_of_kind kind s h
next_kind Rtp s h = refl
next_kind Rtcp s h = refl

pub text_is : (kind : Kind) (half : HalfKeys) (head : Head) (on : Bool) (t i : ℕ) (mki p : List ℕ) → head.size ≡ head_size kind p → head.encrypted ≡ on
    → closed kind half head.encrypted t i mki (crypted head.encrypted half head.ssrc i head.size p) ≡ sealed_text kind half on t mki head.ssrc i p
text_is Rtp half head on t i mki p z e = λ j. tagged_rtp half t i mki (crypted (e j) half head.ssrc i (z j) p)
text_is Rtcp half head on t i mki p z e = λ j. tagged_rtcp half mki (crypted (e j) half head.ssrc i (z j) p ++ index_word (e j) i)

-- ---- step by step
abbrev pub taken_at : Head → List ℕ → Key → ℕ → Taken
taken_at h p k i = record { key = k; done = record { ssrc = h.ssrc; index = i; key = k.number; packet = p } }

one_sealed : (s : Session) (p : List ℕ) (h : Head) → h.size ≡ head_size s.name.kind p → h.encrypted ≡ s.encrypts → (known room : Bool) (rk : Result Key DropCause) (r : Result ℕ DropCause)
    → stop_if (not known) cause.SsrcUnknown (stop_if (not room) cause.StreamsFull (after_ok (live_result s rk) (λ key. after_ok r (seal_step s p h key))))
    ≡ text_of s (stop_if (not known) cause.SsrcUnknown (stop_if (not room) cause.StreamsFull (after_ok rk (λ k. after_ok r (λ i. Ok (taken_at h p k i))))))
one_sealed s p h z e false room rk r = refl
one_sealed s p h z e true false rk r = refl
one_sealed s p h z e true true (Err c) r = refl
one_sealed s p h z e true true (Ok k) (Err c) = refl
one_sealed s p h z e true true (Ok k) (Ok i) =
    let text = text_is s.name.kind (half_in s k) h s.encrypts s.tag_len i k.mki p z e in
    (λ j. let r : Result (List ℕ × Done) DropCause = Ok (text j, (taken_at h p k i).done) in r)

headed_out_is : (s : Session) (p : List ℕ) → 0 < length (live s) → (r : Result Head DropCause) → head_out s p ≡ r
    → after_ok r (source_step s p)
    ≡ text_of s (after_ok r (λ h. stop_if (not (admits s h.ssrc)) cause.SsrcUnknown (stop_if (not (has_room s h.ssrc)) cause.StreamsFull
    (after_ok (sealing_key s s.keys) (λ k. after_ok (number_out s h) (λ i. Ok (taken_at h p k i)))))))
headed_out_is s p some (Err c) e = refl
headed_out_is s p some (Ok h) e =
    let parts = out_parts s.name.kind s p h e in
    (λ i. stop_if (not (admits s h.ssrc)) cause.SsrcUnknown (stop_if (not (has_room s h.ssrc)) cause.StreamsFull
    (after_ok (sealing_live s s.keys some i) (λ key. after_ok (next_kind s.name.kind s h i) (seal_step s p h key)))))
    ∙ one_sealed s p h parts.0 parts.1 (admits s h.ssrc) (has_room s h.ssrc) (sealing_key s s.keys) (number_out s h)

pub sealing_is : (s : Session) (p : List ℕ) → 0 < length (live s) → sealing_steps s p ≡ text_of s (seals s p)
sealing_is s p some = ap (λ r. after_ok r (source_step s p)) (heading_out_is s p) ∙ headed_out_is s p some (head_out s p) refl
