-- A sealed text is read as it was sealed, and opened where it comes within reach.
use Rattle.std.proofs.Common.{map, ◌≡◌, ◌⊎◌, inl, inr, ℕ, ◌+◌, ◌-◌, ◌/◌, ◌%◌, ◌<◌, ◌≤◌, Bool, true, false, cond, not, List, [], ◌∷◌, ◌++◌, length, take, drop, Option, Some, None, Result, Ok, Err, refl, sym, ap, ◌∙◌, subst, arith, ltb, leb, append_assoc, length-append}
use Rattle.std.proofs.lemmas.Bool.{false_from_ne_true, le-ltb, lt-ltb, le-leb, lt-leb, ltb-false, leb-false, cond-true, cond-false}
use Rattle.std.proofs.lemmas.List.{take_at, drop_at, length-take-le, length-drop, take-append-drop, drop-drop}
use Rattle.std.specs.List.{AllByRecursion, Any}
use Rattle.sg_base.specs.Octets.{be, number_of, same_octets}
use Rattle.sg_base.specs.declared.addresses.Kind.{Kind}
use Rattle.sg_base.specs.declared.addresses.Kind.TheVariants.{Rtp, Rtcp}
use Rattle.sg_base.specs.declared.faults.DropCause.{DropCause}
use Rattle.sg_base.specs.declared.faults.DropCause.TheVariants as cause
use Rattle.sg_base.specs.declared.keys.HalfKeys.{HalfKeys}
use Rattle.sg_hmac.specs.Hmac.{hmac_sha1}
use Rattle.sg_hmac.proofs.Sizes.{length-hmac_sha1}
use Rattle.sg_session.specs.Halves.{half_of}
use Rattle.sg_session.specs.Opening.{mki_len_of, Head, of_rtp, of_rtcp, Check, checked, opens, opened_if, tag_fits, packet_of, mki_len, end_len, before_mki, mki_in, tag_in, packet_part, part_of_kind, index_word_in, head_in, head_of_kind, place_in, place_of_kind, key_with, half_in, covered, covered_of_kind, if_new, fresh_index}
use Rattle.sg_session.specs.Reach.{Sealed, IsAt, IsSealed, HasHead, HasTags, IsSound, IsWithinReach, IsNear, IsNearIn, text_in, choice_of, taken_of, without_mki, AreDistinct, HaveOneLength}
use Rattle.sg_session.specs.Sealed.{crypted, size_of, head_size, tagged_rtp, tagged_rtcp, sealed_text, index_word}
use Rattle.sg_session.specs.Session.{Key, Session, admits, has_room, is_live, count_of, indices_of, highest_in, with_cause, nearest_from}
use Rattle.sg_base.specs.declared.faults.IndexFault.TheVariants as index_fault
use Rattle.sg_replay.specs.Freshness.{freshness, is_behind}
use Rattle.sg_rtp.specs.declared.heads.RtpHead.{RtpHead}
use Rattle.sg_rtp.specs.declared.heads.RtcpHead.{RtcpHead}
use Rattle.sg_rtp.specs.Heads.{rtp_head, rtcp_head}
use Rattle.sg_index.specs.Nearest.{within_life}
use Rattle.sg_kdf.specs.SessionKeys.{session_keys}
use Rattle.sg_session.proofs.Inversions.{stop_if_is, stop_if_of, after_ok_of, ok_is}
use Rattle.sg_session.proofs.Leaves.{rtp_size, rtp_stays, rtcp_size, rtcp_stays, nearest_reaches, fresh_parts}
use Rattle.sg_session.proofs.Lists.{any_none, any_cases, each_at_this}
use Rattle.sg_base.proofs.SameOctets.{same_octets_true, same_octets_is}
use Rattle.sg_session.proofs.Taking.{IsCheckOf, checked_is}
use Rattle.sg_session.proofs.Texts.{length-crypted, take-crypted, crypted_twice, length-parts, prefix_part, mki_part, tag_part}

-- what is read of a sealing of x in s
pub record Reads (s : Session) (x : Sealed) (half : HalfKeys) (mki d : List ℕ) : Type 0 where
  pub head : Head
  pub reads_head : head_in s d ≡ Ok head
  pub ssrc : head.ssrc ≡ x.ssrc
  pub reads_mki : mki_in s d ≡ mki
  pub back : crypted head.encrypted half x.ssrc x.index head.size (packet_part s d) ≡ x.packet
  pub tag : (k : Check) → k.index ≡ x.index → tag_in s d ≡ take s.tag_len (hmac_sha1 half.auth (covered s k d))

abbrev IsNumber : Kind → ℕ → ℕ → Type 0
IsNumber Rtp n index = n ≡ index % 65536
IsNumber Rtcp n index = n ≡ index

pub length-tag : (n : ℕ) (auth c : List ℕ) → n ≤ 10 → length (take n (hmac_sha1 auth c)) ≡ n
length-tag n auth c le = length-take-le n (hmac_sha1 auth c) (let size = length-hmac_sha1 auth c in omega (arith, size, le))

-- the index word of RTCP
word_value : (on : Bool) (index : ℕ) → index < 2147483648 → number_of (index_word on index) ≡ cond on 2147483648 0 + index
word_value true index lt = omega arith
word_value false index lt = omega arith

word_number : (on : Bool) (index : ℕ) → index < 2147483648 → (cond on 2147483648 0 + index) % 2147483648 ≡ index
word_number true index lt = omega arith
word_number false index lt = omega arith

word_on : (on : Bool) (index : ℕ) → index < 2147483648 → leb 2147483648 (cond on 2147483648 0 + index) ≡ on
word_on true index lt = le-leb _ _ (omega arith)
word_on false index lt = lt-leb _ _ (omega arith)

abbrev head_of : Bool → RtpHead → Head
head_of on h = record { size = h.length; ssrc = h.ssrc; number = h.seq; encrypted = on }

module _ (s : Session) (x : Sealed) (mki : List ℕ) (of_mki : length mki ≡ mki_len s) where
  -- RTP
  module _ (sk : s.name.kind ≡ Rtp) (xk : x.kind ≡ Rtp) (low : s.tag_len ≤ 10) (h : RtpHead) (is_head : rtp_head x.packet ≡ Ok h) (source : h.ssrc ≡ x.ssrc) where
    rtp_reads : (half : HalfKeys) → (c d : List ℕ) → c ≡ crypted s.encrypts half x.ssrc x.index (head_size Rtp x.packet) x.packet → d ≡ tagged_rtp half s.tag_len x.index mki c
        → (r : Reads s x half mki d) × (r.head.number ≡ h.seq)
    rtp_reads half c d is_c is_d =
        let p : List ℕ = x.packet in
        let n : ℕ = h.length in
        let at_size : head_size Rtp p ≡ n = ap size_of is_head in
        let is : c ≡ crypted s.encrypts half x.ssrc x.index n p = is_c ∙ ap (λ m. crypted s.encrypts half x.ssrc x.index m p) at_size in
        let sizes = rtp_size p h is_head in
        let long = sizes.0 in
        let within : n ≤ length p = sizes.1 in
        let same : length c ≡ length p = ap length is ∙ length-crypted half x.ssrc x.index n p within s.encrypts in
        let prefix : take n c ≡ take n p = ap (take n) is ∙ take-crypted half x.ssrc x.index n p within s.encrypts in
        let tag : List ℕ = take s.tag_len (hmac_sha1 half.auth (c ++ be (x.index / 65536) 4)) in
        let of_tag : length tag ≡ s.tag_len = length-tag s.tag_len half.auth (c ++ be (x.index / 65536) 4) low in
        let size : length d ≡ length c + mki_len s + s.tag_len = ap length is_d ∙ length-parts c mki tag (mki_len s) s.tag_len of_mki of_tag in
        let before : before_mki s d ≡ c = ap (before_mki s) is_d ∙ prefix_part c mki tag (mki_len s) s.tag_len of_mki of_tag in
        let part : packet_part s d ≡ c = ap (λ k. part_of_kind k s d) sk ∙ before in
        let head : head_in s d ≡ Ok (head_of s.encrypts h) =
        stop_if_of (ltb (length d) (12 + end_len s)) cause.Short (head_of_kind s.name.kind s d) (le-ltb _ _ (omega (arith, size, same, long, within)))
        ∙ ap (λ k. head_of_kind k s d) sk ∙ ap (λ o. of_rtp s.encrypts (rtp_head o)) part ∙ ap (of_rtp s.encrypts) (rtp_stays c p h prefix is_head) in (
          record {
            head = head_of s.encrypts h;
            reads_head = head;
            ssrc = source;
            reads_mki = ap (mki_in s) is_d ∙ mki_part c mki tag (mki_len s) s.tag_len of_mki of_tag;
            back = ap (crypted s.encrypts half x.ssrc x.index n) (part ∙ is) ∙ crypted_twice half x.ssrc x.index n p within s.encrypts;
            tag = λ k at. ap (tag_in s) is_d ∙ tag_part c mki tag (mki_len s) s.tag_len of_mki of_tag
                ∙ ap (λ t. take s.tag_len (hmac_sha1 half.auth t)) ((λ i. sym before i ++ be (sym at i / 65536) 4) ∙ sym (ap (λ k'. covered_of_kind k' s k d) sk));
          },
          refl,
        )

  -- RTCP
  module _ (sk : s.name.kind ≡ Rtcp) (tags : s.tag_len ≡ 10) (h : RtcpHead) (is_head : rtcp_head x.packet ≡ Ok h) (source : h.ssrc ≡ x.ssrc) (low : x.index < 2147483648) where
    abbrev rtcp_head_of : ℕ → Bool → Head
    rtcp_head_of number on = record { size = 8; ssrc = h.ssrc; number = number; encrypted = on }

    rtcp_reads : (half : HalfKeys) → (c d : List ℕ) → c ≡ crypted x.encrypted half x.ssrc x.index 8 x.packet → d ≡ tagged_rtcp half mki (c ++ index_word x.encrypted x.index)
        → (r : Reads s x half mki d) × (r.head.number ≡ x.index)
    rtcp_reads half c d is_c is_d =
        let p : List ℕ = x.packet in
        let w : List ℕ = index_word x.encrypted x.index in
        let within : 8 ≤ length p = rtcp_size p h is_head in
        let same : length c ≡ length p = ap length is_c ∙ length-crypted half x.ssrc x.index 8 p within x.encrypted in
        let prefix : take 8 c ≡ take 8 p = ap (take 8) is_c ∙ take-crypted half x.ssrc x.index 8 p within x.encrypted in
        let tag : List ℕ = take 10 (hmac_sha1 half.auth (c ++ w)) in
        let of_tag : length tag ≡ s.tag_len = length-tag 10 half.auth (c ++ w) (omega arith) ∙ sym tags in
        let size : length d ≡ length (c ++ w) + mki_len s + s.tag_len = ap length is_d ∙ length-parts (c ++ w) mki tag (mki_len s) s.tag_len of_mki of_tag in
        let four : length w ≡ 4 = refl in
        let size2 : length (c ++ w) ≡ length c + 4 = omega (arith, length-append c w, four) in
        let before : before_mki s d ≡ c ++ w = ap (before_mki s) is_d ∙ prefix_part (c ++ w) mki tag (mki_len s) s.tag_len of_mki of_tag in
        let cut : length d - (end_len s + 4) ≡ length c = omega (arith, size, size2) in
        let part : packet_part s d ≡ c =
        ap (λ k. part_of_kind k s d) sk ∙ (λ i. take (cut i) (is_d i)) ∙ ap (take (length c)) (append_assoc c w (mki ++ tag)) ∙ take_at c (w ++ (mki ++ tag)) (length c) refl in
        let word_at : index_word_in s d ≡ number_of w = (λ i. number_of (drop (cut i) (before i))) ∙ ap number_of (drop_at c w (length c) refl) in
        let value : index_word_in s d ≡ cond x.encrypted 2147483648 0 + x.index = word_at ∙ word_value x.encrypted x.index low in
        let number : index_word_in s d % 2147483648 ≡ x.index = ap (λ n. n % 2147483648) value ∙ word_number x.encrypted x.index low in
        let on : leb 2147483648 (index_word_in s d) ≡ x.encrypted = ap (leb 2147483648) value ∙ word_on x.encrypted x.index low in
        let head : head_in s d ≡ Ok (rtcp_head_of x.index x.encrypted) =
        stop_if_of (ltb (length d) (12 + end_len s)) cause.Short (head_of_kind s.name.kind s d) (le-ltb _ _ (omega (arith, size, size2, same, within)))
        ∙ ap (λ k. head_of_kind k s d) sk ∙ (λ i. of_rtcp (number i) (on i) (rtcp_head (part i)))
        ∙ ap (of_rtcp x.index x.encrypted) (rtcp_stays c p h prefix same is_head) in (
          record {
            head = rtcp_head_of x.index x.encrypted;
            reads_head = head;
            ssrc = source;
            reads_mki = ap (mki_in s) is_d ∙ mki_part (c ++ w) mki tag (mki_len s) s.tag_len of_mki of_tag;
            back = ap (crypted x.encrypted half x.ssrc x.index 8) (part ∙ is_c) ∙ crypted_twice half x.ssrc x.index 8 p within x.encrypted;
            tag = λ k at. ap (tag_in s) is_d ∙ tag_part (c ++ w) mki tag (mki_len s) s.tag_len of_mki of_tag
                ∙ (λ i. take (sym tags i) (hmac_sha1 half.auth (sym before i))) ∙ ap (λ t. take s.tag_len (hmac_sha1 half.auth t)) (sym (ap (λ k'. covered_of_kind k' s k d) sk));
          },
          refl,
        )

-- the place of a number within reach
life_of : (i : ℕ) → i < 281474976710656 → within_life i ≡ Ok i
life_of i low = cond-true (ltb i 281474976710656) (Ok i) (Err index_fault.IndexSpent) (lt-ltb _ _ low)

pub near : (roc window i : ℕ) (o : Option ℕ) → window ≤ 1024 → i < 281474976710656 → IsNear roc i o → is_behind window o i ≡ false → nearest_from roc (i % 65536) o ≡ Ok i
near roc window i None narrow low is fresh = ap within_life (omega (arith, is)) ∙ life_of i low
near roc window i (Some h) narrow low is fresh = nearest_reaches h i (let above = leb-false _ _ fresh in omega (arith, above, narrow)) is low

-- both kinds
text_reads : (s : Session) (x : Sealed) (mki : List ℕ) → length mki ≡ mki_len s → (K : Kind) → s.name.kind ≡ K → x.kind ≡ K → HasTags K s → HasHead K x
    → (r : Reads s x (half_of K (session_keys x.master)) mki (text_in s mki x)) × IsNumber K r.head.number x.index
text_reads s x mki of_mki Rtp sk xk tags head =
    let r = rtp_reads s x mki of_mki sk xk tags head.1.0 head.1.1 head.1.2 (half_of Rtp (session_keys x.master))
    (crypted s.encrypts (half_of Rtp (session_keys x.master)) x.ssrc x.index (head_size Rtp x.packet) x.packet) (text_in s mki x) refl
    (ap (λ k. sealed_text k (half_of k (session_keys x.master)) (choice_of k s x) s.tag_len mki x.ssrc x.index x.packet) xk) in
    (r.0, r.1 ∙ head.1.3)
text_reads s x mki of_mki Rtcp sk xk tags head =
    rtcp_reads s x mki of_mki sk tags head.1.0 head.1.1 head.1.2 head.0 (half_of Rtcp (session_keys x.master))
    (crypted x.encrypted (half_of Rtcp (session_keys x.master)) x.ssrc x.index 8 x.packet) (text_in s mki x) refl
    (ap (λ k. sealed_text k (half_of k (session_keys x.master)) (choice_of k s x) s.tag_len mki x.ssrc x.index x.packet) xk)

length-mki_in : (s : Session) (d : List ℕ) (h : Head) → head_in s d ≡ Ok h → length (mki_in s d) ≡ mki_len s
length-mki_in s d h e =
    let long = ltb-false _ _ (stop_if_is (ltb (length d) (12 + end_len s)) cause.Short (head_of_kind s.name.kind s d) h e).0 in
    length-take-le (mki_len s) (drop (length d - end_len s) d) (omega (arith, length-drop (length d - end_len s) d, long))

-- a key of the session is found by its MKI
in_rest : (ks : List Key) (k : Key) → AreDistinct (map (λ k. k.mki) ks) → Any (λ l. l ≡ k) ks → key_with ks k.mki ≡ Ok k
in_rest [] k are a = absurd (any_none (λ l. l ≡ k) a)
in_rest (l ∷ ks) k are a = go (in_rest ks k are.1) (any_cases (λ l. l ≡ k) l ks a)
  where
    of_map : (ks : List Key) → AllByRecursion (λ y. l.mki ≡ y → ⊥) (map (λ k. k.mki) ks) → AllByRecursion (λ j. l.mki ≡ j.mki → ⊥) ks
    of_map [] p = tt
    of_map (j ∷ js) p = (p.0, of_map js p.1)

    go : (Any (λ l. l ≡ k) ks → key_with ks k.mki ≡ Ok k) → (l ≡ k) ⊎ Any (λ l. l ≡ k) ks → key_with (l ∷ ks) k.mki ≡ Ok k
    go later (inl same) = cond-true (same_octets l.mki k.mki) (Ok l) (key_with ks k.mki) (same_octets_true _ _ (ap (λ (k : Key). k.mki) same)) ∙ ap (λ k. let r : Result Key DropCause = Ok k in r) same
    go later (inr rest) =
        let differ : l.mki ≡ k.mki → ⊥ = each_at_this (λ j. l.mki ≡ j.mki → ⊥) ks k (of_map ks are.0) rest in
        cond-false (same_octets l.mki k.mki) (Ok l) (key_with ks k.mki) (false_from_ne_true _ (λ e. differ (same_octets_is _ _ e))) ∙ later rest

of_length : (ks : List Key) (k : Key) → HaveOneLength (map (λ k. k.mki) ks) → Any (λ l. l ≡ k) ks → length k.mki ≡ mki_len_of ks
of_length [] k are a = absurd (any_none (λ l. l ≡ k) a)
of_length (l ∷ ks) k are a = elim (any_cases (λ l. l ≡ k) l ks a) [
  | inl same ↦ ap (λ (k : Key). length k.mki) (sym same)
  | inr rest ↦ each_at_this (λ j. length j.mki ≡ length l.mki) ks k (lengths ks are) rest
]
  where
    lengths : (ks : List Key) → AllByRecursion (λ y. length y ≡ length l.mki) (map (λ k. k.mki) ks) → AllByRecursion (λ j. length j.mki ≡ length l.mki) ks
    lengths [] p = tt
    lengths (j ∷ js) p = (p.0, lengths js p.1)

-- a datagram that agrees in all but the MKI is the text with the datagram's MKI
text_parts : (s : Session) (x : Sealed) (K : Kind) → s.name.kind ≡ K → x.kind ≡ K → HasTags K s → (a : List ℕ) × (t : List ℕ) × (length t ≡ s.tag_len) × ((mki : List ℕ) → text_in s mki x ≡ a ++ (mki ++ t))
text_parts s x Rtp sk xk low =
    let half : HalfKeys = half_of Rtp (session_keys x.master) in
    let c : List ℕ = crypted s.encrypts half x.ssrc x.index (head_size Rtp x.packet) x.packet in (
      c,
      take s.tag_len (hmac_sha1 half.auth (c ++ be (x.index / 65536) 4)),
      length-tag s.tag_len half.auth (c ++ be (x.index / 65536) 4) low,
      (λ mki. ap (λ k. sealed_text k (half_of k (session_keys x.master)) (choice_of k s x) s.tag_len mki x.ssrc x.index x.packet) xk),
    )
text_parts s x Rtcp sk xk tags =
    let half : HalfKeys = half_of Rtcp (session_keys x.master) in
    let c : List ℕ = crypted x.encrypted half x.ssrc x.index 8 x.packet ++ index_word x.encrypted x.index in (
      c,
      take 10 (hmac_sha1 half.auth c),
      length-tag 10 half.auth c (omega arith) ∙ sym tags,
      (λ mki. ap (λ k. sealed_text k (half_of k (session_keys x.master)) (choice_of k s x) s.tag_len mki x.ssrc x.index x.packet) xk),
    )

with_mki : (s : Session) (x : Sealed) (d : List ℕ) (h : Head) → s.name.kind ≡ x.kind → HasTags x.kind s → head_in s d ≡ Ok h → text_in s [] x ≡ without_mki s d → text_in s (mki_in s d) x ≡ d
with_mki s x d h kind tags is_head e =
    let parts = text_parts s x x.kind kind refl tags in
    let a : List ℕ = parts.0 in
    let t : List ℕ = parts.1 in
    let of_t : length t ≡ s.tag_len = parts.2 in
    let long = ltb-false _ _ (stop_if_is (ltb (length d) (12 + end_len s)) cause.Short (head_of_kind s.name.kind s d) h is_head).0 in
    let same : a ++ t ≡ before_mki s d ++ tag_in s d = sym (parts.3 []) ∙ e in
    let of_tag : length (tag_in s d) ≡ s.tag_len = omega (arith, length-drop (length d - s.tag_len) d, long) in
    let sizes : length a + length t ≡ length (before_mki s d) + length (tag_in s d) =
    sym (length-append a t) ∙ ap length same ∙ length-append (before_mki s d) (tag_in s d) in
    let of_a : length a ≡ length (before_mki s d) = omega (arith, sizes, of_tag, of_t) in
    let prefix : a ≡ before_mki s d = sym (take_at a t (length a) refl) ∙ (λ i. take (of_a i) (same i)) ∙ take_at (before_mki s d) (tag_in s d) (length (before_mki s d)) refl in
    let back : t ≡ tag_in s d = sym (drop_at a t (length a) refl) ∙ (λ i. drop (of_a i) (same i)) ∙ drop_at (before_mki s d) (tag_in s d) (length (before_mki s d)) refl in
    let tail : tag_in s d ≡ drop (mki_len s) (drop (length d - end_len s) d) =
    ap (λ k. drop k d) (omega (arith, long)) ∙ sym (drop-drop (mki_len s) (length d - end_len s) d) in
    let rest : mki_in s d ++ tag_in s d ≡ drop (length d - end_len s) d =
    ap (λ l. mki_in s d ++ l) tail ∙ take-append-drop (mki_len s) (drop (length d - end_len s) d) in
    parts.3 (mki_in s d) ∙ (λ i. prefix i ++ (mki_in s d ++ back i)) ∙ ap (λ l. before_mki s d ++ l) rest ∙ take-append-drop (length d - end_len s) d

pub reads_as_sealed : (s : Session) (d : List ℕ) (k : Check) (x : Sealed) → IsSound s → IsSealed x → checked s d ≡ Ok k
    → IsAt k.key.master s.name.kind k.head.ssrc k.index x → text_in s [] x ≡ without_mki s d → packet_of s k d ≡ x.packet
reads_as_sealed s d k x sound sealed checks at text =
    let is : IsCheckOf s d k = checked_is s d k checks in
    let mki : k.key.mki ≡ mki_in s d = same_octets_is _ _ is.mki in
    let kind : s.name.kind ≡ x.kind = sym at.same_kind in
    let tags = subst (λ k. HasTags k s) kind sound.tags in
    let whole : text_in s k.key.mki x ≡ d = ap (λ m. text_in s m x) mki ∙ with_mki s x d k.head kind tags is.head text in
    let r = (text_reads s x k.key.mki (ap length mki ∙ length-mki_in s d k.head is.head) x.kind kind refl (subst (λ k. HasTags k s) kind sound.tags) sealed).0 in
    let head : k.head ≡ r.head = ok_is _ _ (sym is.head ∙ ap (head_in s) (sym whole) ∙ r.reads_head) in
    let ssrc : k.head.ssrc ≡ x.ssrc = sym at.same_ssrc in
    let index : k.index ≡ x.index = sym at.same_index in
    let half : half_in s k.key ≡ half_of x.kind (session_keys x.master) = (λ i. half_of (kind i) (session_keys (sym at.same_master i))) in
    let part : packet_part s d ≡ packet_part s (text_in s k.key.mki x) = ap (packet_part s) (sym whole) in
    (λ i. crypted (head i).encrypted (half i) (ssrc i) (index i) (head i).size (part i)) ∙ r.back

place_of : (K : Kind) (s : Session) (h : Head) (x : Sealed) → s.window ≤ 1024 → HasHead K x → h.ssrc ≡ x.ssrc → IsNumber K h.number x.index → IsNearIn K s x → is_behind s.window (highest_in s x.ssrc) x.index ≡ false
    → place_of_kind K s h ≡ Ok x.index
place_of Rtp s h x narrow head ssrc number is fresh =
    (λ i. with_cause (nearest_from s.roc (number i) (highest_in s (ssrc i))))
    ∙ ap with_cause (near s.roc s.window x.index (highest_in s x.ssrc) narrow head.0 is fresh)
place_of Rtcp s h x narrow head ssrc number is fresh = ap (λ n. let r : Result ℕ DropCause = Ok n in r) number

pub opens_within : (s : Session) (k : Key) (x : Sealed) → IsSound s → IsSealed x → s.name.kind ≡ x.kind → Any (λ l. l ≡ k) s.keys
    → is_live s k ≡ true → k.master ≡ x.master → IsWithinReach s x → opens s (text_in s k.mki x) ≡ Ok (taken_of k x)
opens_within s k x sound sealed kind of_keys live master within =
    let keyed : key_with s.keys k.mki ≡ Ok k = in_rest s.keys k sound.mkis.0 of_keys in
    let of_mki : length k.mki ≡ mki_len s = of_length s.keys k sound.mkis.1 of_keys in
    let d : List ℕ = text_in s k.mki x in
    let both = text_reads s x k.mki of_mki x.kind kind refl (subst (λ k. HasTags k s) kind sound.tags) sealed in
    let r = both.0 in
    let h : Head = r.head in
    let check : Check = record { key = k; head = h; index = x.index } in
    let in_window = (fresh_parts s.window (indices_of s.done x.ssrc) x.index within.new).0 in
    let place : place_in s h ≡ Ok x.index = ap (λ k. place_of_kind k s h) kind ∙ place_of x.kind s h x sound.window sealed r.ssrc both.1 within.near in_window in
    let fresh : fresh_index s h.ssrc x.index ≡ Ok x.index =
    ap (λ n. if_new x.index (freshness s.window (indices_of s.done n) x.index)) r.ssrc ∙ ap (if_new x.index) within.new in
    let checks : checked s d ≡ Ok check =
    after_ok_of (head_in s d) _ h r.reads_head
    ∙ stop_if_of (not (admits s h.ssrc)) cause.SsrcUnknown _ (ap (λ n. not (admits s n)) r.ssrc ∙ ap not within.admitted)
    ∙ after_ok_of (key_with s.keys (mki_in s d)) _ k (ap (key_with s.keys) r.reads_mki ∙ keyed)
    ∙ stop_if_of (not (is_live s k)) (cause.KeySpent k.number (count_of s k)) _ (ap not live)
    ∙ after_ok_of (place_in s h) _ x.index place
    ∙ after_ok_of (fresh_index s h.ssrc x.index) _ x.index fresh in
    let half : half_in s k ≡ half_of x.kind (session_keys x.master) = (λ i. half_of (kind i) (session_keys (master i))) in
    let fits : tag_fits s check d ≡ true =
    same_octets_true _ _ (r.tag check refl ∙ ap (λ (f : HalfKeys). take s.tag_len (hmac_sha1 f.auth (covered s check d))) (sym half)) in
    let packet : packet_of s check d ≡ x.packet = (λ i. crypted h.encrypted (half i) (r.ssrc i) x.index h.size (packet_part s d)) ∙ r.back in
    after_ok_of (checked s d) (opened_if s d) check checks
    ∙ stop_if_of (not (tag_fits s check d)) cause.BadTag _ (ap not fits)
    ∙ stop_if_of (not (has_room s h.ssrc)) cause.StreamsFull _ (ap (λ n. not (has_room s n)) r.ssrc ∙ ap not within.room)
    ∙ (λ i. Ok (record { key = k; done = record { ssrc = r.ssrc i; index = x.index; key = k.number; packet = packet i } }))
