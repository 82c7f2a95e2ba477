-- The sealing of a packet of at most 4,096 octets has at most 4,238.
use Rattle.std.proofs.Common.{◌≡◌, ℕ, ◌/◌, ◌≤◌, Bool, List, ◌++◌, length, take, Ok, ap, ◌∙◌, subst, arith, length-append}
use Rattle.sg_base.specs.Octets.{be}
use Rattle.sg_base.specs.declared.addresses.Kind.{Kind}
use Rattle.sg_base.specs.declared.addresses.Kind.TheVariants.{Rtp, Rtcp}
use Rattle.sg_base.specs.declared.keys.HalfKeys.{HalfKeys}
use Rattle.sg_hmac.specs.Hmac.{hmac_sha1}
use Rattle.sg_kdf.specs.SessionKeys.{session_keys}
use Rattle.sg_rtp.specs.declared.heads.RtpHead.{RtpHead}
use Rattle.sg_rtp.specs.Heads.{rtp_head}
use Rattle.sg_session.proofs.Leaves.{rtp_size, rtcp_size}
use Rattle.sg_session.proofs.ReadBack.{length-tag}
use Rattle.sg_session.proofs.Texts.{length-crypted}
use Rattle.sg_session.specs.Halves.{half_of}
use Rattle.sg_session.specs.Reach.{Sealed, IsSealed, HasHead, HasTags, IsSound, text_in, choice_of}
use Rattle.sg_session.specs.Sealed.{crypted, size_of, head_size, sealed_text, index_word}
use Rattle.sg_session.specs.Session.{Session}

module _ (half : HalfKeys) (on : Bool) (tag_len : ℕ) (mki : List ℕ) (ssrc index : ℕ) (p : List ℕ) (low : tag_len ≤ 10) (short : length mki ≤ 128) (few : length p ≤ 4096) where
  rtp_fits : (h : RtpHead) → rtp_head p ≡ Ok h → length (sealed_text Rtp half on tag_len mki ssrc index p) ≤ 4238
  rtp_fits h is_head =
      let c : List ℕ = crypted on half ssrc index (head_size Rtp p) p in
      let at_size : head_size Rtp p ≡ h.length = ap size_of is_head in
      let same : length c ≡ length p = ap (λ m. length (crypted on half ssrc index m p)) at_size ∙ length-crypted half ssrc index h.length p (rtp_size p h is_head).1 on in
      let tag : List ℕ = take tag_len (hmac_sha1 half.auth (c ++ be (index / 65536) 4)) in
      let of_tag : length tag ≡ tag_len = length-tag tag_len half.auth (c ++ be (index / 65536) 4) low in
      omega (arith, length-append c (mki ++ tag), length-append mki tag, same, of_tag, low, short, few)

  rtcp_fits : 8 ≤ length p → length (sealed_text Rtcp half on tag_len mki ssrc index p) ≤ 4238
  rtcp_fits long =
      let c : List ℕ = crypted on half ssrc index 8 p in
      let same : length c ≡ length p = length-crypted half ssrc index 8 p long on in
      let tagged : List ℕ = c ++ index_word on index in
      let tag : List ℕ = take 10 (hmac_sha1 half.auth tagged) in
      let of_tag : length tag ≡ 10 = length-tag 10 half.auth tagged (omega arith) in
      omega (arith, length-append tagged (mki ++ tag), length-append mki tag, length-append c (index_word on index), same, of_tag, short, few)

pub text_fits : (s : Session) (mki : List ℕ) (x : Sealed) → IsSound s → IsSealed x → s.name.kind ≡ x.kind → length mki ≤ 128 → length x.packet ≤ 4096 → length (text_in s mki x) ≤ 4238
text_fits s mki x sound is same short few = go x.kind is (subst (λ k. HasTags k s) same sound.tags)
  where
    go : (k : Kind) → HasHead k x → HasTags k s → length (sealed_text k (half_of k (session_keys x.master)) (choice_of k s x) s.tag_len mki x.ssrc x.index x.packet) ≤ 4238
    go Rtp is low = rtp_fits (half_of Rtp (session_keys x.master)) s.encrypts s.tag_len mki x.ssrc x.index x.packet low short few is.1.0 is.1.1
    go Rtcp is tags = rtcp_fits (half_of Rtcp (session_keys x.master)) x.encrypted s.tag_len mki x.ssrc x.index x.packet (let t = tags in omega (arith, t)) short few (rtcp_size x.packet is.1.0 is.1.1)
