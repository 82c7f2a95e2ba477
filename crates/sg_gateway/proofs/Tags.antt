-- The tag of a datagram fits exactly where its last octets are the code of what stands before the MKI.
use Rattle.std.proofs.Common.{◌≡◌, ℕ, ◌+◌, ◌-◌, ◌/◌, true, List, ◌++◌, length, take, drop, Ok, sym, ap, ◌∙◌, arith, ltb}
use Rattle.std.proofs.lemmas.Bool.{ltb-false}
use Rattle.std.proofs.lemmas.List.{length-take-le, length-drop}
use Rattle.sg_base.specs.Octets.{be}
use Rattle.sg_base.specs.declared.faults.DropCause.TheVariants as cause
use Rattle.sg_hmac.specs.Hmac.{hmac_sha1}
use Rattle.sg_session.proofs.Taking.{IsCheckOf, checked_is}
use Rattle.sg_session.specs.Opening.{Check, Head, before_mki, checked, covered_of_kind, end_len, half_in, head_in, head_of_kind, mki_in, mki_len, tag_fits, tag_in}
use Rattle.sg_gateway.proofs.Common.{Kind, Rtcp, Rtp, Session, same_octets_is, same_octets_true, stop_if_is}
use Rattle.sg_gateway.specs.Unforged.{HasTag, under_tag}

mki_long : (s : Session) (d : List ℕ) (h : Head) → head_in s d ≡ Ok h → length (mki_in s d) ≡ mki_len s
mki_long s d h e =
    let long = ltb-false _ _ (stop_if_is (ltb (length d) (12 + end_len s)) cause.Short (head_of_kind s.name.kind s d) h e).0 in
    length-take-le (mki_len s) (drop (length d - end_len s) d) (omega (arith, length-drop (length d - end_len s) d, long))

module _ (s : Session) (d : List ℕ) (k : Check) (checks : checked s d ≡ Ok k) where
  before_is : take (length d - (length k.key.mki + s.tag_len)) d ≡ before_mki s d
  before_is =
      let is : IsCheckOf s d k = checked_is s d k checks in
      ap (λ n. take (length d - (n + s.tag_len)) d) (ap length (same_octets_is _ _ is.mki) ∙ mki_long s d k.head is.head)

  covers : (kind : Kind) → under_tag kind k.index (take (length d - (length k.key.mki + s.tag_len)) d) ≡ covered_of_kind kind s k d
  covers Rtp = ap (λ octets. octets ++ be (k.index / 65536) 4) before_is
  covers Rtcp = before_is

  code_is : take s.tag_len (hmac_sha1 (half_in s k.key).auth (under_tag s.name.kind k.index (take (length d - (length k.key.mki + s.tag_len)) d)))
      ≡ take s.tag_len (hmac_sha1 (half_in s k.key).auth (covered_of_kind s.name.kind s k d))
  code_is = ap (λ octets. take s.tag_len (hmac_sha1 (half_in s k.key).auth octets)) (covers s.name.kind)

  pub has_tag : tag_fits s k d ≡ true → HasTag s k d
  has_tag fits = same_octets_is (tag_in s d) _ fits ∙ sym code_is

  pub fits_tag : HasTag s k d → tag_fits s k d ≡ true
  fits_tag has = same_octets_true (tag_in s d) _ (has ∙ code_is)
