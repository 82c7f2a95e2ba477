-- What is used of the definitions of the layers below.
use Rattle.std.proofs.Common.{◌≡◌, ℕ, zero, suc, ◌+◌, ◌-◌, ◌*◌, ◌/◌, ◌%◌, ◌<◌, ◌≤◌, Bool, true, false, cond, not, List, [], ◌∷◌, length, get_or, take, Result, Ok, Err, refl, sym, ap, ◌∙◌, subst, arith, eqb, ltb}
use Rattle.std.proofs.lemmas.Bool.{ltb-true, ltb-false}
use Rattle.std.proofs.lemmas.Bool.Decides.{nat_tests}
use Rattle.std.specs.List.{AllByRecursion}
use Rattle.sg_base.specs.Keys.{Master}
use Rattle.sg_base.specs.declared.addresses.Kind.{Kind}
use Rattle.sg_base.specs.declared.addresses.Kind.TheVariants.{Rtp, Rtcp}
use Rattle.sg_session.specs.Halves.{half_of}
use Rattle.sg_kdf.specs.SessionKeys.{is_raw}
use Rattle.sg_base.specs.declared.faults.IndexFault.TheVariants as index_fault
use Rattle.sg_kdf.proofs.KdfLemmas.{rtp_keys, rtcp_keys, some_octets}
use Rattle.sg_ctr.proofs.CounterLemmas.{counters_differ}
use Rattle.sg_rtp.proofs.HeadPrefixes.{rtp_head_again}
use Rattle.sg_session.proofs.Inversions.{ok_is, stop_if_is, stop_if_of}
use Rattle.sg_base.specs.declared.faults.HeadFault.{HeadFault}
use Rattle.sg_base.specs.declared.faults.HeadFault.TheVariants as head_fault
use Rattle.std.proofs.lemmas.List.{get_or-take}
use Rattle.sg_replay.specs.Freshness.{highest_of, is_in, is_behind, freshness}
use Rattle.sg_replay.specs.declared.seen.Freshness.TheVariants.{New, Repeat, TooOld}
use Rattle.sg_rtp.specs.declared.heads.RtpHead.{RtpHead}
use Rattle.sg_rtp.specs.declared.heads.RtcpHead.{RtcpHead}
use Rattle.sg_rtp.specs.Fields.{u16_at, u32_at}
use Rattle.sg_rtp.specs.Heads.{version_of, listed_of, extension_of, rtp_head, rtcp_head}
use Rattle.sg_index.specs.Nearest.{nearest_index, within_life}
use Rattle.sg_ctr.specs.Keystream.{counter_value}
use Rattle.sg_kdf.specs.SessionKeys.{session_keys}

-- heads
abbrev head_of : List ℕ → RtpHead
head_of p = record { length = listed_of p + extension_of p; seq = u16_at p 2; ssrc = u32_at p 8 }

record IsRtp (p : List ℕ) (h : RtpHead) : Type 0 where
  long : ltb (length p) 12 ≡ false
  version : not (eqb (version_of p) 2) ≡ false
  listed : ltb (length p) (listed_of p) ≡ false
  whole : ltb (length p) (listed_of p + extension_of p) ≡ false
  is : head_of p ≡ h

rtp_parts : (p : List ℕ) (h : RtpHead) → rtp_head p ≡ Ok h → IsRtp p h
rtp_parts p h e =
    let a = stop_if_is (ltb (length p) 12) head_fault.Short _ h e in
    let b = stop_if_is (not (eqb (version_of p) 2)) head_fault.Version _ h a.1 in
    let c = stop_if_is (ltb (length p) (listed_of p)) head_fault.CsrcCut _ h b.1 in
    let d = stop_if_is (ltb (length p) (listed_of p + extension_of p)) head_fault.ExtensionCut (Ok (head_of p)) h c.1 in
    record { long = a.0; version = b.0; listed = c.0; whole = d.0; is = ok_is _ h d.1 }

pub rtp_size : (p : List ℕ) (h : RtpHead) → rtp_head p ≡ Ok h → (12 ≤ h.length) × (h.length ≤ length p)
rtp_size p h e =
    let is = rtp_parts p h e in
    let at : listed_of p + extension_of p ≡ h.length = ap (λ (h : RtpHead). h.length) is.is in
    let whole = ltb-false _ _ is.whole in
    (omega (arith, at), omega (arith, at, whole))

-- lists that begin alike have the same octets there
same_octet : (c p : List ℕ) (size : ℕ) → take size c ≡ take size p → (k : ℕ) → k < size → get_or c k 0 ≡ get_or p k 0
same_octet c p size prefix k lt = sym (get_or-take size c k 0 lt) ∙ ap (λ l. get_or l k 0) prefix ∙ get_or-take size p k 0 lt

pub rtp_stays : (c p : List ℕ) (h : RtpHead) → take h.length c ≡ take h.length p → rtp_head p ≡ Ok h → rtp_head c ≡ Ok h
rtp_stays c p h prefix e = rtp_head_again p c h e prefix

octet_low : (p : List ℕ) (k : ℕ) → AllByRecursion (λ x. x < 256) p → get_or p k 0 < 256
octet_low [] k all = omega arith
octet_low (x ∷ xs) zero all = all.0
octet_low (x ∷ xs) (suc k) all = octet_low xs k all.1

source_low : (p : List ℕ) (k : ℕ) → AllByRecursion (λ x. x < 256) p → u32_at p k < 4294967296
source_low p k all =
    let a = octet_low p k all in
    let b = octet_low p (k + 1) all in
    let c = octet_low p (k + 2) all in
    let d = octet_low p (k + 2 + 1) all in
    omega (arith, a, b, c, d)

pub rtp_source : (p : List ℕ) (h : RtpHead) → AllByRecursion (λ x. x < 256) p → rtp_head p ≡ Ok h → h.ssrc < 4294967296
rtp_source p h all e = subst (λ (h : RtpHead). h.ssrc < 4294967296) (rtp_parts p h e).is (source_low p 8 all)

abbrev rtcp_of : List ℕ → RtcpHead
rtcp_of p = record { ssrc = u32_at p 4 }

record IsRtcp (p : List ℕ) (h : RtcpHead) : Type 0 where
  long : ltb (length p) 8 ≡ false
  version : not (eqb (version_of p) 2) ≡ false
  is : rtcp_of p ≡ h

rtcp_parts : (p : List ℕ) (h : RtcpHead) → rtcp_head p ≡ Ok h → IsRtcp p h
rtcp_parts p h e =
    let a = stop_if_is (ltb (length p) 8) head_fault.Short _ h e in
    let b = stop_if_is (not (eqb (version_of p) 2)) head_fault.Version (Ok (rtcp_of p)) h a.1 in
    record { long = a.0; version = b.0; is = ok_is _ h b.1 }

pub rtcp_size : (p : List ℕ) (h : RtcpHead) → rtcp_head p ≡ Ok h → 8 ≤ length p
rtcp_size p h e = ltb-false _ _ (rtcp_parts p h e).long

pub rtcp_stays : (c p : List ℕ) (h : RtcpHead) → take 8 c ≡ take 8 p → length c ≡ length p → rtcp_head p ≡ Ok h → rtcp_head c ≡ Ok h
rtcp_stays c p h prefix same e =
    let is = rtcp_parts p h e in
    let octet = λ (k : ℕ) (lt : k < 8). same_octet c p 8 prefix k lt in
    let a = octet 4 (omega arith) in
    let b = octet 5 (omega arith) in
    let d = octet 6 (omega arith) in
    let g = octet 7 (omega arith) in
    stop_if_of (ltb (length c) 8) head_fault.Short _ (ap (λ n. ltb n 8) same ∙ is.long)
    ∙ stop_if_of (not (eqb (version_of c) 2)) head_fault.Version (Ok (rtcp_of c)) (ap (λ b. not (eqb (b / 64) 2)) (octet 0 (omega arith)) ∙ is.version)
    ∙ (λ i. let r : Result RtcpHead HeadFault = Ok (record { ssrc = (a i * 256 + b i) * 65536 + (d i * 256 + g i) }) in r)
    ∙ ap (λ h. let r : Result RtcpHead HeadFault = Ok h in r) is.is

pub rtcp_source : (p : List ℕ) (h : RtcpHead) → AllByRecursion (λ x. x < 256) p → rtcp_head p ≡ Ok h → h.ssrc < 4294967296
rtcp_source p h all e = subst (λ (h : RtcpHead). h.ssrc < 4294967296) (rtcp_parts p h e).is (source_low p 4 all)

-- indices
pub nearest_reaches : (h i : ℕ) → h < i + 32768 → i < h + 32768 → i < 281474976710656 → nearest_index h (i % 65536) ≡ Ok i
nearest_reaches h i a b c = grind (arith, nat_tests)

pub life_below : (i j : ℕ) → within_life i ≡ Ok j → j < 281474976710656
life_below i j e = go (ltb i 281474976710656) refl e
  where
    go : (b : Bool) → ltb i 281474976710656 ≡ b → cond b (Ok i) (Err index_fault.IndexSpent) ≡ Ok j → j < 281474976710656
    go true is e = let same = ok_is i j e in let lt = ltb-true _ _ is in omega (arith, lt, same)
    go false is e = absurd cc

pub nearest_below : (h seq j : ℕ) → nearest_index h seq ≡ Ok j → j < 281474976710656
nearest_below h seq j e = go _ _ _ e
  where
    same : ℕ
    same = h / 65536 * 65536 + seq

    go : (a b c : Bool) → cond a (within_life (h / 65536 * 65536 + seq)) (cond b (within_life (h / 65536 * 65536 + seq + 65536)) (cond c (Err index_fault.BeforeFirst) (within_life (h / 65536 * 65536 + seq - 65536)))) ≡ Ok j → j < 281474976710656
    go true b c e = life_below (h / 65536 * 65536 + seq) j e
    go false true c e = life_below (h / 65536 * 65536 + seq + 65536) j e
    go false false true e = absurd cc
    go false false false e = life_below (h / 65536 * 65536 + seq - 65536) j e

-- lists of what is done
pub fresh_parts : (window : ℕ) (done : List ℕ) (i : ℕ) → freshness window done i ≡ New → (is_behind window (highest_of done) i ≡ false) × (is_in done i ≡ false)
fresh_parts window done i e = go (is_behind window (highest_of done) i) (is_in done i) e
  where
    go : (b c : Bool) → cond b TooOld (cond c Repeat New) ≡ New → (b ≡ false) × (c ≡ false)
    go true c e = absurd cc
    go false true e = absurd cc
    go false false e = (refl, refl)

-- keystreams
pub one_counter : (m : Master) (kind : Kind) (ssrc index j ssrc' index' j' : ℕ)
    → ssrc < 4294967296 → index < 281474976710656 → j < 65536 → ssrc' < 4294967296 → index' < 281474976710656 → j' < 65536
    → counter_value (half_of kind (session_keys m)).salt ssrc index j ≡ counter_value (half_of kind (session_keys m)).salt ssrc' index' j'
    → (ssrc ≡ ssrc') × (index ≡ index') × (j ≡ j')
one_counter m kind ssrc index j ssrc' index' j' a b c a' b' c' e = counters_differ (half_of kind (session_keys m)).salt ssrc index j ssrc' index' j' a b c a' b' c' e

pub has_cipher_key : (m : Master) (kind : Kind) → is_raw m.suite ≡ false → length (half_of kind (session_keys m)).encrypt ≡ 0 → ⊥
has_cipher_key m Rtp raw none = omega (arith, (rtp_keys m).encrypt_length, some_octets m.suite raw, none)
has_cipher_key m Rtcp raw none = omega (arith, (rtcp_keys m).encrypt_length, some_octets m.suite raw, none)
