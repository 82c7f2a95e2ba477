-- A datagram that a session opens is the sealing of what it opens as.
use Rattle.std.proofs.Common.{◌≡◌, ℕ, zero, suc, ◌+◌, ◌-◌, ◌/◌, ◌%◌, ◌<◌, ◌≤◌, Bool, true, false, cond, List, [], ◌∷◌, ◌++◌, length, take, drop, Result, Ok, Err, refl, sym, ap, ◌∙◌, subst, arith, leb, ltb}
use Rattle.std.proofs.lemmas.Bool.{ltb-false, leb-true, leb-false}
use Rattle.std.proofs.lemmas.List.{length-take-le, length-drop, take-append-drop, take-take, drop-drop}
use Rattle.std.specs.List.{AllByRecursion}
use Rattle.sg_base.specs.Octets.{be, number_of}
use Rattle.sg_base.specs.declared.faults.DropCause.TheVariants as cause
use Rattle.sg_base.specs.declared.faults.HeadFault.{HeadFault}
use Rattle.sg_base.specs.declared.keys.HalfKeys.{HalfKeys}
use Rattle.sg_hmac.specs.Hmac.{hmac_sha1}
use Rattle.sg_rtp.specs.Heads.{rtp_head, rtcp_head}
use Rattle.sg_rtp.specs.declared.heads.RtcpHead.{RtcpHead}
use Rattle.sg_rtp.specs.declared.heads.RtpHead.{RtpHead}
use Rattle.sg_session.proofs.Leaves.{rtcp_size, rtp_size, rtp_stays}
use Rattle.sg_session.proofs.Taking.{IsCheckOf, IsOpened, checked_is, fresh_index_is, opens_is}
use Rattle.sg_session.proofs.Texts.{crypted_twice, take-crypted}
use Rattle.sg_session.specs.Opening.{Check, Head, Taken, before_mki, checked, covered, covered_of_kind, end_len, fresh_index, half_in, head_in, head_of_kind, index_word_in, key_with, mki_in, mki_len, of_rtcp, of_rtp, opens, packet_of, packet_part, part_of_kind, place_in, place_of_kind, tag_fits, tag_in}
use Rattle.sg_session.specs.Reach.{HasTags, IsSound, Sealed, text_in}
use Rattle.sg_session.specs.Sealed.{crypted, head_size, index_word, size_of, tagged_rtcp, tagged_rtp}
use Rattle.sg_gateway.proofs.Common.{Kind, Rtcp, Rtp, Session, after_ok_is, half_of, ok_is, same_octets_is, session_keys, stop_if_is}

-- ---- numbers in four octets

same_four : (a b c d p q r s : ℕ) → a ≡ p → b ≡ q → c ≡ r → d ≡ s → a ∷ b ∷ c ∷ d ∷ [] ≡ p ∷ q ∷ r ∷ s ∷ []
same_four a b c d p q r s e f g h = rw (e, f, g, h) refl

back_four : (octets : List ℕ) → length octets ≡ 4 → AllByRecursion (λ x. x < 256) octets → be (number_of octets) 4 ≡ octets
back_four [] h fits = absurd (omega (arith, h))
back_four (a ∷ []) h fits = absurd (omega (arith, h))
back_four (a ∷ b ∷ []) h fits = absurd (omega (arith, h))
back_four (a ∷ b ∷ c ∷ []) h fits = absurd (omega (arith, h))
back_four (a ∷ b ∷ c ∷ d ∷ []) h fits =
    let fa = fits.0 in let fb = fits.1.0 in let fc = fits.1.1.0 in let fd = fits.1.1.1.0 in
    same_four _ _ _ _ a b c d (omega (arith, fa, fb, fc, fd)) (omega (arith, fa, fb, fc, fd)) (omega (arith, fa, fb, fc, fd)) (omega (arith, fa, fb, fc, fd))
back_four (a ∷ b ∷ c ∷ d ∷ x ∷ rest) h fits = absurd (omega (arith, h))

below_four : (octets : List ℕ) → length octets ≡ 4 → AllByRecursion (λ x. x < 256) octets → number_of octets < 4294967296
below_four [] h fits = absurd (omega (arith, h))
below_four (a ∷ []) h fits = absurd (omega (arith, h))
below_four (a ∷ b ∷ []) h fits = absurd (omega (arith, h))
below_four (a ∷ b ∷ c ∷ []) h fits = absurd (omega (arith, h))
below_four (a ∷ b ∷ c ∷ d ∷ []) h fits =
    let fa = fits.0 in let fb = fits.1.0 in let fc = fits.1.1.0 in let fd = fits.1.1.1.0 in omega (arith, fa, fb, fc, fd)
below_four (a ∷ b ∷ c ∷ d ∷ x ∷ rest) h fits = absurd (omega (arith, h))

-- E and the index, put together again
word_again : (w : ℕ) → w < 4294967296 → cond (leb 2147483648 w) 2147483648 0 + w % 2147483648 ≡ w
word_again w below = go (leb 2147483648 w) refl
  where
    go : (b : Bool) → leb 2147483648 w ≡ b → cond b 2147483648 0 + w % 2147483648 ≡ w
    go true is = let le = leb-true 2147483648 w is in omega (arith, le, below)
    go false is = let lt = leb-false 2147483648 w is in omega (arith, lt)

small_drop : (n : ℕ) (xs : List ℕ) → AllByRecursion (λ x. x < 256) xs → AllByRecursion (λ x. x < 256) (drop n xs)
small_drop zero xs p = p
small_drop (suc n) [] p = tt
small_drop (suc n) (x ∷ xs) p = small_drop n xs p.1

pub small_take : (n : ℕ) (xs : List ℕ) → AllByRecursion (λ x. x < 256) xs → AllByRecursion (λ x. x < 256) (take n xs)
small_take zero xs p = tt
small_take (suc n) [] p = tt
small_take (suc n) (x ∷ xs) p = (p.0, small_take n xs p.1)

-- ---- heads

record IsRtpOf (on : Bool) (r : Result RtpHead HeadFault) (h : Head) : Type 0 where
  head : RtpHead
  is : r ≡ Ok head
  same : record { size = head.length; ssrc = head.ssrc; number = head.seq; encrypted = on } ≡ h

rtp_is : (on : Bool) (r : Result RtpHead HeadFault) (h : Head) → of_rtp on r ≡ Ok h → IsRtpOf on r h
rtp_is on (Err fault) h e = absurd cc
rtp_is on (Ok head) h e = record { head = head; is = refl; same = ok_is _ h e }

record IsRtcpOf (number : ℕ) (on : Bool) (r : Result RtcpHead HeadFault) (h : Head) : Type 0 where
  head : RtcpHead
  is : r ≡ Ok head
  same : record { size = 8; ssrc = head.ssrc; number = number; encrypted = on } ≡ h

rtcp_is : (number : ℕ) (on : Bool) (r : Result RtcpHead HeadFault) (h : Head) → of_rtcp number on r ≡ Ok h → IsRtcpOf number on r h
rtcp_is number on (Err fault) h e = absurd cc
rtcp_is number on (Ok head) h e = record { head = head; is = refl; same = ok_is _ h e }

-- an RTCP datagram carries its index
carried_index : (s : Session) (d : List ℕ) (k : Check) → s.name.kind ≡ Rtcp → checked s d ≡ Ok k → k.head.number ≡ k.index
carried_index s d k kind e =
    let a = after_ok_is (head_in s d) _ k e in
    let b = stop_if_is _ _ _ k a.2 in
    let c = after_ok_is (key_with s.keys (mki_in s d)) _ k b.1 in
    let f = stop_if_is _ _ _ k c.2 in
    let g = after_ok_is (place_in s a.0) _ k f.1 in
    let h = after_ok_is (fresh_index s a.0.ssrc g.0) _ k g.2 in
    let same : record { key = c.0; head = a.0; index = h.0 } ≡ k = ok_is _ k h.2 in
    let carried : a.0.number ≡ g.0 = ok_is a.0.number g.0 (sym (ap (λ k'. place_of_kind k' s a.0) kind) ∙ g.1) in
    subst (λ (k : Check). k.head.number ≡ k.index) same (carried ∙ (fresh_index_is s a.0.ssrc g.0 h.0 h.1).1)

-- ---- the parts of a datagram

module _ (s : Session) (d : List ℕ) (long : 12 + end_len s ≤ length d) where
  pub whole_again : before_mki s d ++ (mki_in s d ++ tag_in s d) ≡ d
  whole_again =
      let tail : tag_in s d ≡ drop (mki_len s) (drop (length d - end_len s) d) =
      ap (λ k. drop k d) (omega (arith, long)) ∙ sym (drop-drop (mki_len s) (length d - end_len s) d) in
      let rest : mki_in s d ++ tag_in s d ≡ drop (length d - end_len s) d =
      ap (λ l. mki_in s d ++ l) tail ∙ take-append-drop (mki_len s) (drop (length d - end_len s) d) in
      ap (λ l. before_mki s d ++ l) rest ∙ take-append-drop (length d - end_len s) d

  pub long_before : length (before_mki s d) ≡ length d - end_len s
  long_before = length-take-le (length d - end_len s) d (omega arith)

  pub four : length (drop (length d - (end_len s + 4)) (before_mki s d)) ≡ 4
  four = let a = long_before in omega (arith, length-drop (length d - (end_len s + 4)) (before_mki s d), a, long)

  pub packet_and_word : part_of_kind Rtcp s d ++ drop (length d - (end_len s + 4)) (before_mki s d) ≡ before_mki s d
  packet_and_word =
      ap (λ l. l ++ drop (length d - (end_len s + 4)) (before_mki s d)) (sym (take-take (length d - (end_len s + 4)) (length d - end_len s) d (omega arith)))
      ∙ take-append-drop (length d - (end_len s + 4)) (before_mki s d)

  word_back : AllByRecursion (λ x. x < 256) d → index_word (leb 2147483648 (index_word_in s d)) (index_word_in s d % 2147483648) ≡ drop (length d - (end_len s + 4)) (before_mki s d)
  word_back small =
      let few : AllByRecursion (λ x. x < 256) (drop (length d - (end_len s + 4)) (before_mki s d)) = small_drop (length d - (end_len s + 4)) (before_mki s d) (small_take (length d - end_len s) d small) in
      ap (λ n. be n 4) (word_again (index_word_in s d) (below_four (drop (length d - (end_len s + 4)) (before_mki s d)) four few))
      ∙ back_four (drop (length d - (end_len s + 4)) (before_mki s d)) four few

-- ---- both kinds

abbrev seen_as : Session → Check → List ℕ → Kind → Bool → Sealed
seen_as s k p kind on = record { master = k.key.master; kind = kind; ssrc = k.head.ssrc; index = k.index; packet = p; encrypted = on }

module _ (s : Session) (d : List ℕ) (k : Check) (small : AllByRecursion (λ x. x < 256) d) (checks : checked s d ≡ Ok k) (fits : tag_fits s k d ≡ true) where
  is_check : IsCheckOf s d k
  is_check = checked_is s d k checks

  of_head : (ltb (length d) (12 + end_len s) ≡ false) × (head_of_kind s.name.kind s d ≡ Ok k.head)
  of_head = stop_if_is (ltb (length d) (12 + end_len s)) cause.Short (head_of_kind s.name.kind s d) k.head is_check.head

  is_long : 12 + end_len s ≤ length d
  is_long = ltb-false _ _ of_head.0

  mki_is : k.key.mki ≡ mki_in s d
  mki_is = same_octets_is _ _ is_check.mki

  tag_is : tag_in s d ≡ take s.tag_len (hmac_sha1 (half_in s k.key).auth (covered s k d))
  tag_is = same_octets_is (tag_in s d) _ fits

  rtp_again : s.name.kind ≡ Rtp → text_in s k.key.mki (seen_as s k (packet_of s k d) Rtp s.encrypts) ≡ d
  rtp_again kind =
      let half : HalfKeys = half_of Rtp (session_keys k.key.master) in
      let halves : half_in s k.key ≡ half_of Rtp (session_keys k.key.master) = ap (λ k'. half_of k' (session_keys k.key.master)) kind in
      let part : List ℕ = before_mki s d in
      let is_part : packet_part s d ≡ before_mki s d = ap (λ k'. part_of_kind k' s d) kind in
      let h = rtp_is s.encrypts (rtp_head (packet_part s d)) k.head (sym (ap (λ k'. head_of_kind k' s d) kind) ∙ of_head.1) in
      let n : ℕ = h.head.length in
      let is_head : rtp_head (before_mki s d) ≡ Ok h.head = ap rtp_head (sym is_part) ∙ h.is in
      let size : k.head.size ≡ n = ap (λ (h : Head). h.size) (sym h.same) in
      let on : k.head.encrypted ≡ s.encrypts = ap (λ (h : Head). h.encrypted) (sym h.same) in
      let within : n ≤ length (before_mki s d) = (rtp_size (before_mki s d) h.head is_head).1 in
      let p : List ℕ = crypted s.encrypts half k.head.ssrc k.index n (before_mki s d) in
      let packet : packet_of s k d ≡ crypted s.encrypts half k.head.ssrc k.index n (before_mki s d) = (λ i. crypted (on i) (halves i) k.head.ssrc k.index (size i) (is_part i)) in
      let head_again : rtp_head p ≡ Ok h.head = rtp_stays p (before_mki s d) h.head (take-crypted half k.head.ssrc k.index n (before_mki s d) within s.encrypts) is_head in
      let back : crypted s.encrypts half k.head.ssrc k.index (head_size Rtp p) p ≡ before_mki s d =
      ap (λ m. crypted s.encrypts half k.head.ssrc k.index m p) (ap size_of head_again) ∙ crypted_twice half k.head.ssrc k.index n (before_mki s d) within s.encrypts in
      let tag : take s.tag_len (hmac_sha1 half.auth (before_mki s d ++ be (k.index / 65536) 4)) ≡ tag_in s d =
      sym (tag_is ∙ (λ i. take s.tag_len (hmac_sha1 (halves i).auth (covered_of_kind (kind i) s k d)))) in
      ap (λ q. text_in s k.key.mki (seen_as s k q Rtp s.encrypts)) packet
      ∙ (λ i. tagged_rtp half s.tag_len k.index (mki_is i) (back i))
      ∙ ap (λ t. before_mki s d ++ (mki_in s d ++ t)) tag
      ∙ whole_again s d is_long

  rtcp_again : s.name.kind ≡ Rtcp → s.tag_len ≡ 10 → text_in s k.key.mki (seen_as s k (packet_of s k d) Rtcp k.head.encrypted) ≡ d
  rtcp_again kind tags =
      let half : HalfKeys = half_of Rtcp (session_keys k.key.master) in
      let halves : half_in s k.key ≡ half_of Rtcp (session_keys k.key.master) = ap (λ k'. half_of k' (session_keys k.key.master)) kind in
      let part : List ℕ = part_of_kind Rtcp s d in
      let is_part : packet_part s d ≡ part_of_kind Rtcp s d = ap (λ k'. part_of_kind k' s d) kind in
      let h = rtcp_is (index_word_in s d % 2147483648) (leb 2147483648 (index_word_in s d)) (rtcp_head (packet_part s d)) k.head (sym (ap (λ k'. head_of_kind k' s d) kind) ∙ of_head.1) in
      let is_head : rtcp_head (part_of_kind Rtcp s d) ≡ Ok h.head = ap rtcp_head (sym is_part) ∙ h.is in
      let size : k.head.size ≡ 8 = ap (λ (h : Head). h.size) (sym h.same) in
      let on : k.head.encrypted ≡ leb 2147483648 (index_word_in s d) = ap (λ (h : Head). h.encrypted) (sym h.same) in
      let number : k.head.number ≡ index_word_in s d % 2147483648 = ap (λ (h : Head). h.number) (sym h.same) in
      let index : k.index ≡ index_word_in s d % 2147483648 = sym (carried_index s d k kind checks) ∙ number in
      let within : 8 ≤ length (part_of_kind Rtcp s d) = rtcp_size (part_of_kind Rtcp s d) h.head is_head in
      let packet : packet_of s k d ≡ crypted k.head.encrypted half k.head.ssrc k.index 8 (part_of_kind Rtcp s d) = (λ i. crypted k.head.encrypted (halves i) k.head.ssrc k.index (size i) (is_part i)) in
      let back : crypted k.head.encrypted half k.head.ssrc k.index 8 (crypted k.head.encrypted half k.head.ssrc k.index 8 (part_of_kind Rtcp s d)) ≡ part_of_kind Rtcp s d =
      crypted_twice half k.head.ssrc k.index 8 (part_of_kind Rtcp s d) within k.head.encrypted in
      let word : index_word k.head.encrypted k.index ≡ drop (length d - (end_len s + 4)) (before_mki s d) =
      (λ i. index_word (on i) (index i)) ∙ word_back s d is_long small in
      let before : crypted k.head.encrypted half k.head.ssrc k.index 8 (crypted k.head.encrypted half k.head.ssrc k.index 8 (part_of_kind Rtcp s d)) ++ index_word k.head.encrypted k.index ≡ before_mki s d =
      (λ i. back i ++ word i) ∙ packet_and_word s d is_long in
      let tag : take 10 (hmac_sha1 half.auth (before_mki s d)) ≡ tag_in s d =
      sym (tag_is ∙ (λ i. take (tags i) (hmac_sha1 (halves i).auth (covered_of_kind (kind i) s k d)))) in
      ap (λ q. text_in s k.key.mki (seen_as s k q Rtcp k.head.encrypted)) packet
      ∙ (λ i. tagged_rtcp half (mki_is i) (before i))
      ∙ ap (λ t. before_mki s d ++ (mki_in s d ++ t)) tag
      ∙ whole_again s d is_long

  either : HasTags s.name.kind s → (kind : Kind) → s.name.kind ≡ kind → (on : Bool) × (text_in s k.key.mki (seen_as s k (packet_of s k d) kind on) ≡ d)
  either tags Rtp is = (s.encrypts, rtp_again is)
  either tags Rtcp is = (k.head.encrypted, rtcp_again is (subst (λ k'. HasTags k' s) is tags))

pub opened_again : (s : Session) (d : List ℕ) (t : Taken) → IsSound s → AllByRecursion (λ x. x < 256) d → opens s d ≡ Ok t
    → (on : Bool) × (text_in s t.key.mki (record { master = t.key.master; kind = s.name.kind; ssrc = t.done.ssrc; index = t.done.index; packet = t.done.packet; encrypted = on }) ≡ d)
opened_again s d t sound small opened =
    let o : IsOpened s d t = opens_is s d t opened in
    subst (λ (t : Taken). (on : Bool) × (text_in s t.key.mki (record { master = t.key.master; kind = s.name.kind; ssrc = t.done.ssrc; index = t.done.index; packet = t.done.packet; encrypted = on }) ≡ d)) o.is
    (either s d o.check small o.checks o.fits sound.tags s.name.kind refl)
