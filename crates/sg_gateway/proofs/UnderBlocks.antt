-- What is sealed is, behind its head, under the blocks that its entry says.
use Rattle.std.proofs.Common.{◌≡◌, ℕ, ◌+◌, ◌-◌, ◌<◌, ◌/◌, ◌%◌, true, List, [], ◌∷◌, ◌++◌, bit_xor, length, slice_index, take, drop, sym, ap, ◌∙◌, subst, arith, length-append}
use Rattle.std.proofs.lemmas.List.{get_or-append_right, get_or_append_left, get_or-drop, length-take-le, length-drop}
use Rattle.sg_base.specs.Octets.{xor_octets}
use Rattle.sg_base.specs.declared.keys.HalfKeys.{HalfKeys}
use Rattle.sg_ctr.proofs.StreamLemmas.{length-keystream, octet_of_keystream, octet_of_xor}
use Rattle.sg_ctr.specs.Keystream.{counter_value, key_block, keystream}
use Rattle.sg_session.proofs.Texts.{length-crypted}
use Rattle.sg_session.specs.Reach.{choice_of, text_in}
use Rattle.sg_session.specs.Sealed.{crypted, head_size, index_word, rtcp_tag, rtp_tag, sealed_text}
use Rattle.sg_gateway.proofs.Common.{Address, Any, Entry, Kind, Out, Rtcp, Rtp, Session, Turn, half_of, session_keys}
use Rattle.sg_gateway.specs.SealedOut.{IsSealedOutOf, sealed_by}
use Rattle.sg_gateway.specs.Used.{IsUnderItsBlocks}

-- an octet that the keystream stands on is one of the blocks
module _ (half : HalfKeys) (ssrc index size : ℕ) (p : List ℕ) where
  abbrev stream : List ℕ
  stream = keystream half.encrypt half.salt ssrc index (length p - size)

  -- octet k behind the head, as the block of its counter makes it
  abbrev masked : ℕ → ℕ
  masked k = bit_xor (slice_index p (size + k)) (slice_index (key_block half.encrypt (counter_value half.salt ssrc index (k / 16))) (k % 16))

  crypted_octet : (k : ℕ) → size + k < length p → slice_index (crypted true half ssrc index size p) (size + k) ≡ masked k
  crypted_octet k lt =
      get_or-append_right (take size p) (xor_octets (drop size p) stream) size (size + k) 0 (length-take-le size p (omega (arith, lt))) (omega arith)
      ∙ ap (slice_index (xor_octets (drop size p) stream)) (let at : size + k - size ≡ k = omega arith in at)
      ∙ octet_of_xor (drop size p) stream k (omega (arith, lt, length-drop size p)) (omega (arith, length-drop size p, length-keystream half.encrypt half.salt ssrc index (length p - size)))
      ∙ ap (λ x. bit_xor x (slice_index stream k)) (get_or-drop size p k 0)
      ∙ ap (bit_xor (slice_index p (size + k))) (octet_of_keystream half.encrypt half.salt ssrc index (length p - size) k (omega (arith, lt)))

  -- what follows is no part of it
  begun_octet : (rest : List ℕ) (k : ℕ) → size + k < length p → slice_index (crypted true half ssrc index size p ++ rest) (size + k) ≡ masked k
  begun_octet rest k lt =
      get_or_append_left (crypted true half ssrc index size p) rest 0 (size + k) (omega (arith, lt, length-crypted half ssrc index size p (omega (arith, lt)) true))
      ∙ crypted_octet k lt

module _ (half : HalfKeys) (tag_len : ℕ) (mki : List ℕ) (ssrc index : ℕ) (p : List ℕ) where
  sealed_octet : (kind : Kind) (k : ℕ) → head_size kind p + k < length p
      → slice_index (sealed_text kind half true tag_len mki ssrc index p) (head_size kind p + k)
      ≡ bit_xor (slice_index p (head_size kind p + k)) (slice_index (key_block half.encrypt (counter_value half.salt ssrc index (k / 16))) (k % 16))
  sealed_octet Rtp k lt = begun_octet half ssrc index (head_size Rtp p) p (mki ++ rtp_tag half tag_len index (crypted true half ssrc index (head_size Rtp p) p)) k lt
  sealed_octet Rtcp k lt =
      let c : List ℕ = crypted true half ssrc index 8 p in
      get_or_append_left (c ++ index_word true index) (mki ++ rtcp_tag half (c ++ index_word true index)) 0 (8 + k)
      (omega (arith, lt, length-crypted half ssrc index 8 p (omega (arith, lt)) true, length-append c (index_word true index)))
      ∙ begun_octet half ssrc index 8 p (index_word true index) k lt

-- the text of an entry that was encrypted
text_under : (s : Session) (e : Entry) → s.encrypts ≡ e.encrypts → e.encrypts ≡ true → IsUnderItsBlocks e (text_in s e.key.mki (sealed_by e))
text_under s e same on k lt =
    ap (λ b. slice_index (sealed_text e.session.kind (half_of e.session.kind (session_keys e.key.master)) b s.tag_len e.key.mki e.done.ssrc e.done.index e.done.packet) (head_size e.session.kind e.done.packet + k))
    (choice e.session.kind)
    ∙ sealed_octet (half_of e.session.kind (session_keys e.key.master)) s.tag_len e.key.mki e.done.ssrc e.done.index e.done.packet e.session.kind k lt
  where
    choice : (kind : Kind) → choice_of kind s (sealed_by e) ≡ true
    choice Rtp = same ∙ on
    choice Rtcp = on

out_text : (port : ℕ) (to : Address) (text : List ℕ) (port' : ℕ) (to' : Address) (text' : List ℕ) → Out port to text ∷ [] ≡ Out port' to' text' ∷ [] → text ≡ text'
out_text port to text port' to' text' same = cc

-- each text that such an event puts out
pub seal_uses_its_blocks : (t : Turn) (e : Entry) → Any (λ c. Any (IsSealedOutOf t e c) c.sessions) t.before.calls → e.encrypts ≡ true
    → (port : ℕ) (to : Address) (text : List ℕ) → t.outcomes ≡ Out port to text ∷ [] → IsUnderItsBlocks e text
seal_uses_its_blocks t e (i, c, lt, at, (j, s, lt', at', is)) on port to text outs =
    subst (IsUnderItsBlocks e) (out_text _ _ _ port to text (sym is.out ∙ outs)) (text_under s e is.encrypts on)
