-- What a session refuses shows its cause.
use Rattle.std.proofs.Common.{◌≡◌, ◌⊎◌, ◌↔◌, inl, inr, ℕ, zero, suc, ◌+◌, ◌-◌, ◌*◌, ◌%◌, ◌^◌, ◌<◌, ◌≤◌, Bool, true, false, cond, not, max, List, [], ◌∷◌, ◌++◌, length, map, get_or, take, drop, Option, Some, None, Result, Ok, Err, refl, sym, ap, ◌∙◌, subst, arith, append_assoc, eqb, ltb, leb}
use Rattle.std.proofs.lemmas.Bool.{cases_Bool, eq-eqb, eqb-true, false≢true, leb-false, leb-true, ltb-false, ltb-true, not-false, not-true, or_cases}
use Rattle.std.proofs.lemmas.List.{length-drop, length-take-le}
use Rattle.std.specs.List.{AllByRecursion, Any}
use Rattle.sg_base.proofs.SameOctets.{same_octets_is, same_octets_true}
use Rattle.sg_base.specs.Octets.{number_of, same_octets}
use Rattle.sg_base.specs.declared.IndexFault.{IndexFault}
use Rattle.sg_base.specs.declared.IndexFault.TheVariants.{BeforeFirst, IndexSpent}
use Rattle.sg_base.specs.declared.addresses.Kind.{Kind}
use Rattle.sg_base.specs.declared.addresses.Kind.TheVariants.{Rtp, Rtcp}
use Rattle.sg_base.specs.declared.faults.DropCause.{DropCause}
use Rattle.sg_base.specs.declared.faults.DropCause.TheVariants as causes
use Rattle.sg_base.specs.declared.faults.HeadFault.{HeadFault}
use Rattle.sg_base.specs.declared.faults.HeadFault.TheVariants as head_fault
use Rattle.sg_base.specs.declared.sources.Admit.{Admit}
use Rattle.sg_base.specs.declared.sources.Admit.TheVariants as admit
use Rattle.sg_hmac.specs.Hmac.{hmac_sha1}
use Rattle.sg_index.specs.Nearest.{IsBeforeFirst, IsNearest, IsSpent, nearest_index, within_life}
use Rattle.sg_kdf.specs.SessionKeys.{session_keys}
use Rattle.sg_replay.proofs.DoneLists.{is_in-push}
use Rattle.sg_replay.specs.Freshness.{freshness, highest_of, highest_with, is_behind, is_in}
use Rattle.sg_replay.specs.declared.seen.Freshness.TheVariants.{New, Repeat, TooOld}
use Rattle.sg_rtp.specs.Fields.{u16_at, u32_at}
use Rattle.sg_rtp.specs.Heads.{extension_of, has_extension, listed_of, rtcp_head, rtp_head, version_of}
use Rattle.sg_rtp.specs.declared.heads.RtcpHead.{RtcpHead}
use Rattle.sg_rtp.specs.declared.heads.RtpHead.{RtpHead}
use Rattle.sg_session.proofs.Inversions.{after_ok_is, ok_is, stop_if_is}
use Rattle.sg_session.proofs.Lists.{any_cases, any_here, any_none, any_there, any_weaker, each_weaker}
use Rattle.sg_session.proofs.Taking.{if_new_is}
use Rattle.sg_session.specs.Halves.{half_of}
use Rattle.sg_session.specs.Opening.{Check, Head, before_mki, checked, covered_of_kind, end_len, fresh_index, head_cause, head_in, head_of_kind, if_new, index_word_in, key_with, mki_in, mki_len, mki_len_of, of_rtcp, of_rtp, opened_if, opens, packet_part, part_of_kind, place_in, place_of_kind, tag_fits, tag_in}
use Rattle.sg_session.specs.Reach.{HaveOneLength, IsSound}
use Rattle.sg_session.specs.Sealing.{head_out, head_out_of_kind, next_after, number_of_kind, number_out, sealing_key, seals}
use Rattle.sg_session.specs.Session.{Done, Key, Session, admits, count_of, has_room, highest_in, index_in, indices_of, is_admitted, is_live, nearest_from, source_with, sources, sources_from, with_cause}
use Rattle.sg_session.specs.Stages.{after_ok, stop_if}
use Rattle.sg_gateway.proofs.Newness.{fresh_is_new, live_is}
use Rattle.sg_gateway.specs.Newness.{IsAdmittedBy, IsLiveIn, IsNewIn}
use Rattle.sg_conduct.proofs.Places.{admitted_is, done_is_there, place_is}
use Rattle.sg_conduct.proofs.Sealings.{four, long_before, packet_and_word, small_take, whole_again}
use Rattle.sg_conduct.specs.Place.{HasPlace}
use Rattle.sg_conduct.specs.Shown.{HasNothing, IsBehind, IsDone, IsEstimated, IsHighest, IsInWindow, IsIndexOf, IsAdmitted, IsPlaced, IsSpentAt, HasHead, HasKey, HeadShows, IsTagged, OpenedShows, Parts, SealedShows, covered_at, least, listed, number_in, source_in, tag_at, version_in, word_size}

-- ---- a refusal, stage by stage

err_is : {X E : Type 0} (a b : E) → (let r : Result X E = Err a in r ≡ Err b) → a ≡ b
err_is a b e = cc

by_cause : {Y E : Type 0} (P : E → Type 0) (c e : E) → P c → (let r : Result Y E = Err c in r ≡ Err e) → P e
by_cause {Y} P c e p is = subst P (err_is {X = Y} c e is) p

after_refused : {X Y E : Type 0} (P : E → Type 0) (r : Result X E) (f : X → Result Y E) → ((e : E) → r ≡ Err e → P e) → ((x : X) → r ≡ Ok x → (e : E) → f x ≡ Err e → P e) → (e : E)
    → after_ok r f ≡ Err e → P e
after_refused P (Ok x) f bad good e is = good x refl e is
after_refused P (Err c) f bad good e is = by_cause P c e (bad c refl) is

stop_refused : {Y E : Type 0} (P : E → Type 0) (b : Bool) (c : E) (r : Result Y E) → (b ≡ true → P c) → (b ≡ false → (e : E) → r ≡ Err e → P e) → (e : E) → stop_if b c r ≡ Err e → P e
stop_refused P true c r bad good e is = by_cause P c e (bad refl) is
stop_refused P false c r bad good e is = good refl e is

-- ---- the nearest index, by its laws

pub record NearestIs : Type 0 where
  pub ok : (h seq n : ℕ) → seq < 65536 → (nearest_index h seq ≡ Ok n) ↔ (IsNearest h seq n × (n < 281474976710656))
  pub first : (h seq : ℕ) → seq < 65536 → (nearest_index h seq ≡ Err BeforeFirst) ↔ IsBeforeFirst h seq
  pub spent : (h seq : ℕ) → seq < 65536 → (nearest_index h seq ≡ Err IndexSpent) ↔ IsSpent h seq

with_ok : (r : Result ℕ IndexFault) (i : ℕ) → with_cause r ≡ Ok i → r ≡ Ok i
with_ok (Ok j) i e = ap (λ n. let r : Result ℕ IndexFault = Ok n in r) (ok_is j i e)
with_ok (Err fault) i e = absurd cc

life_ok : (n i : ℕ) → within_life n ≡ Ok i → (n ≡ i) × (i < 281474976710656)
life_ok n i e = go (ltb n 281474976710656) refl e
  where
    go : (b : Bool) → ltb n 281474976710656 ≡ b → cond b (Ok n) (Err IndexSpent) ≡ Ok i → (n ≡ i) × (i < 281474976710656)
    go true low e = let same = ok_is n i e in let lt = ltb-true _ _ low in (same, omega (arith, same, lt))
    go false high e = absurd cc

-- ---- lists of what is done

module _ (ssrc : ℕ) where
  any_of_source : (P : ℕ → Type 0) (done : List Done) → Any P (indices_of done ssrc) → Any (λ d. (d.ssrc ≡ ssrc) × P d.index) done
  any_of_source P [] a = absurd (any_none P a)
  any_of_source P (d ∷ ds) a = go (eqb d.ssrc ssrc) refl (any_of_source P ds) a
    where
      go : (b : Bool) → eqb d.ssrc ssrc ≡ b → (Any P (indices_of ds ssrc) → Any (λ d. (d.ssrc ≡ ssrc) × P d.index) ds)
          → Any P (cond b (d.index ∷ indices_of ds ssrc) (indices_of ds ssrc)) → Any (λ d. (d.ssrc ≡ ssrc) × P d.index) (d ∷ ds)
      go true is rest a = elim (any_cases P d.index (indices_of ds ssrc) a) [
        | inl p ↦ any_here _ d ds (eqb-true d.ssrc ssrc is, p)
        | inr more ↦ any_there _ d ds (rest more)
      ]
      go false is rest a = any_there _ d ds (rest a)

  all_of_source : (P : ℕ → Type 0) (done : List Done) → AllByRecursion P (indices_of done ssrc) → AllByRecursion (λ d. d.ssrc ≡ ssrc → P d.index) done
  all_of_source P [] all = tt
  all_of_source P (d ∷ ds) all = go (eqb d.ssrc ssrc) refl (all_of_source P ds) all
    where
      go : (b : Bool) → eqb d.ssrc ssrc ≡ b → (AllByRecursion P (indices_of ds ssrc) → AllByRecursion (λ d. d.ssrc ≡ ssrc → P d.index) ds)
          → AllByRecursion P (cond b (d.index ∷ indices_of ds ssrc) (indices_of ds ssrc)) → AllByRecursion (λ d. d.ssrc ≡ ssrc → P d.index) (d ∷ ds)
      go true is rest all = ((λ e. all.0), rest all.1)
      go false is rest all = ((λ e. absurd (false≢true (sym is ∙ eq-eqb d.ssrc ssrc e))), rest all)

some_in : (x : ℕ) (o : Option ℕ) (h : ℕ) → Some (highest_with o x) ≡ Some h → highest_with o x ≡ h
some_in x o h e = cc

none_under : (xs : List ℕ) → highest_of xs ≡ None → xs ≡ []
none_under [] e = refl
none_under (x ∷ xs) e = absurd cc

abbrev TopOf : List ℕ → ℕ → Type 0
TopOf xs h = Any (λ x. x ≡ h) xs × AllByRecursion (λ x. x ≤ h) xs

-- the highest of a list is in it, and none is above
highest_is : (xs : List ℕ) (h : ℕ) → highest_of xs ≡ Some h → TopOf xs h
highest_is [] h e = absurd cc
highest_is (x ∷ xs) h e = go (highest_is xs) (highest_of xs) refl (some_in x (highest_of xs) h e)
  where
    at : (k : ℕ) → max k x ≡ h → Any (λ x. x ≡ k) xs → (b : Bool) → leb k x ≡ b → Any (λ x. x ≡ h) (x ∷ xs)
    at k e a true low = let le = leb-true k x low in any_here (λ x. x ≡ h) x xs (omega (arith, le, e))
    at k e a false high =
        let lt = leb-false k x high in
        any_there (λ x. x ≡ h) x xs (any_weaker (λ y. y ≡ k) (λ y. y ≡ h) (λ y is. omega (arith, is, lt, e)) xs a)

    go : ((k : ℕ) → highest_of xs ≡ Some k → TopOf xs k) → (o : Option ℕ) → highest_of xs ≡ o → highest_with o x ≡ h → TopOf (x ∷ xs) h
    go rest None is e = (any_here (λ x. x ≡ h) x xs e, (omega (arith, e), subst (λ ys. AllByRecursion (λ x. x ≤ h) ys) (sym (none_under xs is)) tt))
    go rest (Some k) is e =
        let top = rest k is in
        (at k e top.0 (leb k x) refl, (omega (arith, e), each_weaker (λ y. y ≤ k) (λ y. y ≤ h) (λ y le. omega (arith, le, e)) xs top.1))

in_list : (i : ℕ) (xs : List ℕ) → is_in xs i ≡ true → Any (λ x. x ≡ i) xs
in_list i [] e = absurd (false≢true e)
in_list i (x ∷ xs) e = elim (or_cases (eqb x i) (is_in xs i) e) [
  | inl here ↦ any_here _ x xs (eqb-true x i here)
  | inr more ↦ any_there _ x xs (in_list i xs more)
]

module _ (s : Session) (ssrc : ℕ) where
  abbrev doneness : List ℕ
  doneness = indices_of s.done ssrc

  is_highest : (h : ℕ) → highest_in s ssrc ≡ Some h → IsHighest s ssrc h
  is_highest h e =
      let is = highest_is doneness h e in
      (any_of_source ssrc (λ x. x ≡ h) s.done is.0, all_of_source ssrc (λ x. x ≤ h) s.done is.1)

  has_nothing : highest_in s ssrc ≡ None → HasNothing s ssrc
  has_nothing e = all_of_source ssrc (λ x. ⊥) s.done (none doneness e)
    where
      none : (xs : List ℕ) → highest_of xs ≡ None → AllByRecursion (λ x. ⊥) xs
      none [] e = tt
      none (x ∷ xs) e = absurd cc

  -- ---- why an index isn't new

  behind_is : (i : ℕ) (o : Option ℕ) → highest_in s ssrc ≡ o → is_behind s.window o i ≡ true → IsBehind s ssrc i
  behind_is i None is e = absurd (false≢true e)
  behind_is i (Some h) is e =
      let le = leb-true (i + s.window) h e in
      any_of_source ssrc (λ x. i + s.window ≤ x) s.done (any_weaker (λ x. x ≡ h) _ (λ x same. omega (arith, le, same)) doneness (highest_is doneness h is).0)

  in_window : (i : ℕ) (o : Option ℕ) → highest_in s ssrc ≡ o → is_behind s.window o i ≡ false → IsInWindow s ssrc i
  in_window i None is e = each_weaker _ _ (λ d none same. absurd (none same)) s.done (has_nothing is)
  in_window i (Some h) is e =
      let lt = leb-false (i + s.window) h e in
      each_weaker _ _ (λ d low same. let le = low same in omega (arith, le, lt)) s.done (is_highest h is).1

  fresh_refused : (P : DropCause → Type 0) (i : ℕ) → (IsBehind s ssrc i → P causes.TooOld) → (IsInWindow s ssrc i → IsDone s ssrc i → P causes.Repeat)
      → (e : DropCause) → fresh_index s ssrc i ≡ Err e → P e
  fresh_refused P i old again e is = go (is_behind s.window (highest_in s ssrc) i) refl (is_in doneness i) refl is
    where
      go : (b : Bool) → is_behind s.window (highest_in s ssrc) i ≡ b → (c : Bool) → is_in doneness i ≡ c → if_new i (cond b TooOld (cond c Repeat New)) ≡ Err e → P e
      go true is_old c is_done is = by_cause P causes.TooOld e (old (behind_is i (highest_in s ssrc) refl is_old)) is
      go false not_old true is_done is =
          by_cause P causes.Repeat e (again (in_window i (highest_in s ssrc) refl not_old) (any_of_source ssrc (λ x. x ≡ i) s.done (in_list i doneness is_done))) is
      go false not_old false not_done is = absurd cc

  -- ---- its index

  module _ (nearest : NearestIs) (seq : ℕ) (few : seq < 65536) where
    estimated : (i : ℕ) → index_in s ssrc seq ≡ Ok i → IsEstimated s ssrc seq i
    estimated i e = go (highest_in s ssrc) refl (with_ok _ i e)
      where
        go : (o : Option ℕ) → highest_in s ssrc ≡ o → nearest_from s.roc seq o ≡ Ok i → IsEstimated s ssrc seq i
        go None is e = let life = life_ok (s.roc * 65536 + seq) i e in (life.1, inr (has_nothing is, sym life.0))
        go (Some h) is e = let near = (nearest.ok h seq i few).0 e in (near.1, inl (h, is_highest h is, near.0))

    index_refused : (P : DropCause → Type 0) → ((h : ℕ) → IsHighest s ssrc h → IsBeforeFirst h seq → P causes.BeforeFirst)
        → (((h : ℕ) × IsHighest s ssrc h × IsSpent h seq) ⊎ (HasNothing s ssrc × (2 ^ 48 ≤ s.roc * 2 ^ 16 + seq)) → P causes.IndexSpent)
        → (e : DropCause) → index_in s ssrc seq ≡ Err e → P e
    index_refused P first spent e is = go (highest_in s ssrc) refl is
      where
        of_nearest : (h : ℕ) → highest_in s ssrc ≡ Some h → (r : Result ℕ IndexFault) → nearest_index h seq ≡ r → with_cause r ≡ Err e → P e
        of_nearest h is (Ok i) at e' = absurd cc
        of_nearest h is (Err BeforeFirst) at e' = by_cause P causes.BeforeFirst e (first h (is_highest h is) ((nearest.first h seq few).0 at)) e'
        of_nearest h is (Err IndexSpent) at e' = by_cause P causes.IndexSpent e (spent (inl (h, is_highest h is, (nearest.spent h seq few).0 at))) e'

        of_life : highest_in s ssrc ≡ None → (b : Bool) → ltb (s.roc * 65536 + seq) 281474976710656 ≡ b → with_cause (cond b (Ok (s.roc * 65536 + seq)) (Err IndexSpent)) ≡ Err e → P e
        of_life is true low e' = absurd cc
        of_life is false high e' = by_cause P causes.IndexSpent e (spent (inr (has_nothing is, ltb-false _ _ high))) e'

        go : (o : Option ℕ) → highest_in s ssrc ≡ o → with_cause (nearest_from s.roc seq o) ≡ Err e → P e
        go None is e' = of_life is (ltb (s.roc * 65536 + seq) 281474976710656) refl e'
        go (Some h) is e' = of_nearest h is (nearest_index h seq) refl e'

-- ---- heads

octet_low : (p : List ℕ) (k : ℕ) → AllByRecursion (λ x. x < 256) p → get_or p k 0 < 256
octet_low [] k all = omega arith
octet_low (x ∷ xs) zero all = all.0
octet_low (x ∷ xs) (suc k) all = octet_low xs k all.1

number_low : (p : List ℕ) → AllByRecursion (λ x. x < 256) p → number_in p < 65536
number_low p all = let a = octet_low p 2 all in let b = octet_low p 3 all in omega (arith, a, b)

module _ (s : Session) (p : List ℕ) (P : DropCause → Type 0) where
  rtp_refused : (length p < 12 → P causes.Short) → (12 ≤ length p → (c : DropCause) → HeadShows Rtp s p c → P c) → (on : Bool) (e : DropCause) → of_rtp on (rtp_head p) ≡ Err e → P e
  rtp_refused short other on e is = go (rtp_head p) refl is
    where
      Q : HeadFault → Type 0
      Q fault = P (head_cause fault)

      cut : 12 ≤ length p → version_in p ≡ 2 → listed p ≤ length p → (b : Bool) → has_extension p ≡ b → length p < listed_of p + cond b (4 + 4 * u16_at p (listed_of p + 2)) 0 → P causes.ExtensionCut
      cut long version le true has lt = other long causes.ExtensionCut (refl, version, le, eqb-true _ _ has, lt)
      cut long version le false has lt = absurd (omega (arith, le, lt))

      by_fault : (fault : HeadFault) → rtp_head p ≡ Err fault → Q fault
      by_fault =
          stop_refused Q (ltb (length p) 12) head_fault.Short _ (λ lt. short (ltb-true _ _ lt)) (λ not_short.
          let long = ltb-false _ _ not_short in
          stop_refused Q (not (eqb (version_of p) 2)) head_fault.Version _ (λ no. other long causes.Version (λ same. false≢true (sym (not-true _ no) ∙ eq-eqb _ _ same))) (λ is_version.
          let version = eqb-true _ _ (not-false _ is_version) in
          stop_refused Q (ltb (length p) (listed_of p)) head_fault.CsrcCut _ (λ lt. other long causes.CsrcCut (refl, version, ltb-true _ _ lt)) (λ listed.
          stop_refused Q (ltb (length p) (listed_of p + extension_of p)) head_fault.ExtensionCut _ (λ lt. cut long version (ltb-false _ _ listed) (has_extension p) refl (ltb-true _ _ lt)) (λ whole fault is. absurd cc))))

      go : (r : Result RtpHead HeadFault) → rtp_head p ≡ r → of_rtp on r ≡ Err e → P e
      go (Ok head) at is = absurd cc
      go (Err fault) at is = by_cause P (head_cause fault) e (by_fault fault at) is

  rtcp_refused : (length p < 8 → P causes.Short) → (8 ≤ length p → (c : DropCause) → HeadShows Rtcp s p c → P c) → (number : ℕ) (on : Bool) (e : DropCause) → of_rtcp number on (rtcp_head p) ≡ Err e → P e
  rtcp_refused short other number on e is = go (rtcp_head p) refl is
    where
      Q : HeadFault → Type 0
      Q fault = P (head_cause fault)

      by_fault : (fault : HeadFault) → rtcp_head p ≡ Err fault → Q fault
      by_fault =
          stop_refused Q (ltb (length p) 8) head_fault.Short _ (λ lt. short (ltb-true _ _ lt)) (λ not_short.
          stop_refused Q (not (eqb (version_of p) 2)) head_fault.Version _ (λ no. other (ltb-false _ _ not_short) causes.Version (λ same. false≢true (sym (not-true _ no) ∙ eq-eqb _ _ same)))
          (λ is_version fault is. absurd cc))

      go : (r : Result RtcpHead HeadFault) → rtcp_head p ≡ r → of_rtcp number on r ≡ Err e → P e
      go (Ok head) at is = absurd cc
      go (Err fault) at is = by_cause P (head_cause fault) e (by_fault fault at) is

-- what a whole head says: its source, and of RTP its number
record Says (K : Kind) (p : List ℕ) (h : Head) : Type 0 where
  long : least K ≤ length p
  head : HasHead K p
  source : h.ssrc ≡ source_in K p
  number : K ≡ Rtp → h.number ≡ number_in p

rtp_says : (p : List ℕ) (on : Bool) (h : Head) → of_rtp on (rtp_head p) ≡ Ok h → Says Rtp p h
rtp_says p on h e = go (rtp_head p) refl e
  where
    own : RtpHead
    own = record { length = listed_of p + extension_of p; seq = u16_at p 2; ssrc = u32_at p 8 }

    go : (r : Result RtpHead HeadFault) → rtp_head p ≡ r → of_rtp on r ≡ Ok h → Says Rtp p h
    go (Err fault) at e = absurd cc
    go (Ok head) at e =
        let a = stop_if_is (ltb (length p) 12) head_fault.Short _ head at in
        let b = stop_if_is (not (eqb (version_of p) 2)) head_fault.Version _ head a.1 in
        let c = stop_if_is (ltb (length p) (listed_of p)) head_fault.CsrcCut _ head b.1 in
        let d = stop_if_is (ltb (length p) (listed_of p + extension_of p)) head_fault.ExtensionCut (Ok own) head c.1 in
        let is : own ≡ head = ok_is own head d.1 in
        let same = ok_is _ h e in
        let whole = ltb-false _ _ d.0 in
        record {
          long = ltb-false _ _ a.0;
          head = (
            eqb-true _ _ (not-false _ b.0),
            ltb-false _ _ c.0,
            λ has. let size : extension_of p ≡ 4 + 4 * u16_at p (listed_of p + 2) = ap (λ b. cond b (4 + 4 * u16_at p (listed_of p + 2)) 0) (eq-eqb _ _ has) in omega (arith, whole, size),
          );
          source = ap (λ (h : Head). h.ssrc) (sym same) ∙ ap (λ (h : RtpHead). h.ssrc) (sym is);
          number = λ k. ap (λ (h : Head). h.number) (sym same) ∙ ap (λ (h : RtpHead). h.seq) (sym is);
        }

rtcp_says : (p : List ℕ) (number : ℕ) (on : Bool) (h : Head) → of_rtcp number on (rtcp_head p) ≡ Ok h → Says Rtcp p h × (h.number ≡ number)
rtcp_says p number on h e = go (rtcp_head p) refl e
  where
    own : RtcpHead
    own = record { ssrc = u32_at p 4 }

    go : (r : Result RtcpHead HeadFault) → rtcp_head p ≡ r → of_rtcp number on r ≡ Ok h → Says Rtcp p h × (h.number ≡ number)
    go (Err fault) at e = absurd cc
    go (Ok head) at e =
        let a = stop_if_is (ltb (length p) 8) head_fault.Short _ head at in
        let b = stop_if_is (not (eqb (version_of p) 2)) head_fault.Version (Ok own) head a.1 in
        let is : own ≡ head = ok_is own head b.1 in
        let same = ok_is _ h e in (
          record {
            long = ltb-false _ _ a.0;
            head = (eqb-true _ _ (not-false _ b.0), ltb-false _ _ a.0);
            source = ap (λ (h : Head). h.ssrc) (sym same) ∙ ap (λ (h : RtcpHead). h.ssrc) (sym is);
            number = λ k. absurd cc;
          },
          ap (λ (h : Head). h.number) (sym same),
        )

-- ---- sources

admitted_by : (a : Admit) (done : List Done) (ssrc : ℕ) → is_admitted a done ssrc ≡ true → IsAdmittedBy a done ssrc
admitted_by admit.Any done ssrc e = tt
admitted_by (admit.One own) done ssrc e = sym (eqb-true own ssrc e)
admitted_by admit.FirstSeen [] ssrc e = tt
admitted_by admit.FirstSeen (d ∷ ds) ssrc e = sym (eqb-true d.ssrc ssrc e)

-- a source in the list is one of which something is done
source_done : (acc : List ℕ) (ds : List Done) (ssrc : ℕ) → is_in (sources_from acc ds) ssrc ≡ true → (is_in acc ssrc ≡ true) ⊎ Any (λ d. d.ssrc ≡ ssrc) ds
source_done acc [] ssrc e = inl e
source_done acc (d ∷ ds) ssrc e = elim (source_done (source_with acc d.ssrc) ds ssrc e) [
  | inl before ↦ go (is_in acc d.ssrc) before
  | inr later ↦ inr (any_there _ d ds later)
]
  where
    go : (b : Bool) → is_in (cond b acc (acc ++ d.ssrc ∷ [])) ssrc ≡ true → (is_in acc ssrc ≡ true) ⊎ Any (λ d. d.ssrc ≡ ssrc) (d ∷ ds)
    go true before = inl before
    go false before = elim (cases_Bool (is_in acc ssrc)) [
      | inl there ↦ inl there
      | inr absent ↦ elim (cases_Bool (eqb d.ssrc ssrc)) [
        | inl same ↦ inr (any_here _ d ds (eqb-true d.ssrc ssrc same))
        | inr other ↦ absurd (false≢true (sym (is_in-push acc d.ssrc ssrc ∙ rw (absent, other) refl) ∙ before))
      ]
    ]

each_self : {X : Type 0} (xs : List X) → AllByRecursion (λ x. Any (λ y. y ≡ x) xs) xs
each_self [] = tt
each_self (x ∷ xs) = (any_here (λ y. y ≡ x) x xs refl, each_weaker _ _ (λ y own. any_there (λ z. z ≡ y) x xs own) xs (each_self xs))

has_place : (s : Session) (ssrc : ℕ) → has_room s ssrc ≡ true → HasPlace s ssrc
has_place s ssrc e = elim (or_cases (is_in (sources s.done) ssrc) (ltb (length (sources s.done)) 64) e) [
  | inl there ↦ elim (source_done [] s.done ssrc there) [
    | inl none ↦ absurd (false≢true none)
    | inr done ↦ inl done
  ]
  | inr few ↦ inr (
    sources s.done,
    ltb-true _ _ few,
    each_weaker _ _ (λ d own. in_list d.ssrc (sources s.done) (done_is_there [] s.done d.ssrc (any_weaker _ _ (λ x is. ap (λ (x : Done). x.ssrc) is) s.done own))) s.done (each_self s.done),
  )
]

-- ---- keys

-- the first key with the MKI
key_there : (ks : List Key) (mki : List ℕ) (k : Key) → key_with ks mki ≡ Ok k → Any (λ x. (x ≡ k) × (x.mki ≡ mki)) ks
key_there [] mki k e = absurd cc
key_there (x ∷ ks) mki k e = go (key_there ks mki k) (same_octets x.mki mki) refl e
  where
    go : (key_with ks mki ≡ Ok k → Any (λ x. (x ≡ k) × (x.mki ≡ mki)) ks) → (b : Bool) → same_octets x.mki mki ≡ b → cond b (Ok x) (key_with ks mki) ≡ Ok k → Any (λ x. (x ≡ k) × (x.mki ≡ mki)) (x ∷ ks)
    go rest true is e = any_here _ x ks (ok_is x k e, same_octets_is x.mki mki is)
    go rest false is e = any_there _ x ks (rest e)

no_key : (P : DropCause → Type 0) (ks : List Key) (mki : List ℕ) → (AllByRecursion (λ k. ¬ k.mki ≡ mki) ks → P causes.MkiUnknown) → (e : DropCause) → key_with ks mki ≡ Err e → P e
no_key P [] mki none e is = by_cause P causes.MkiUnknown e (none tt) is
no_key P (x ∷ ks) mki none e is = go (λ other. no_key P ks mki (λ all. none (other, all)) e) (same_octets x.mki mki) refl is
  where
    go : ((¬ x.mki ≡ mki) → key_with ks mki ≡ Err e → P e) → (b : Bool) → same_octets x.mki mki ≡ b → cond b (Ok x) (key_with ks mki) ≡ Err e → P e
    go rest true at is = absurd cc
    go rest false at is = rest (λ same. false≢true (sym at ∙ same_octets_true x.mki mki same)) is

module _ (s : Session) where
  spent_at : (k : Key) → is_live s k ≡ false → IsSpentAt s k.number (count_of s k) k
  spent_at k is = (refl, refl, ltb-false _ _ is)

  not_live : (k : Key) → is_live s k ≡ false → ¬ IsLiveIn s k
  not_live k is live = false≢true (sym is ∙ live_is s k live)

  abbrev LastIsSpent : List Key → DropCause → Type 0
  LastIsSpent ks (causes.KeySpent number count) = (earlier : List Key) × (last : Key) × (ks ≡ earlier ++ last ∷ []) × AllByRecursion (λ k. ¬ IsLiveIn s k) earlier × IsSpentAt s number count last
  LastIsSpent ks causes.MkiUnknown = ks ≡ []
  LastIsSpent ks other = ⊥

  no_live_key : (ks : List Key) (e : DropCause) → sealing_key s ks ≡ Err e → LastIsSpent ks e
  no_live_key [] e is = by_cause (LastIsSpent []) causes.MkiUnknown e refl is
  no_live_key (x ∷ []) e is = go (is_live s x) refl is
    where
      go : (b : Bool) → is_live s x ≡ b → cond b (Ok x) (Err (causes.KeySpent x.number (count_of s x))) ≡ Err e → LastIsSpent (x ∷ []) e
      go true at is = absurd cc
      go false at is = by_cause (LastIsSpent (x ∷ [])) (causes.KeySpent x.number (count_of s x)) e ([], x, refl, tt, spent_at x at) is
  no_live_key (x ∷ y ∷ ks) e is = go (no_live_key (y ∷ ks) e) (is_live s x) refl is
    where
      more : (e : DropCause) → (¬ IsLiveIn s x) → LastIsSpent (y ∷ ks) e → LastIsSpent (x ∷ y ∷ ks) e
      more (causes.KeySpent number count) dead l = (x ∷ l.0, l.1, ap (λ ks. x ∷ ks) l.2, (dead, l.3), l.4)
      more causes.MkiUnknown dead l = absurd cc
      more other dead l = absurd l

      go : (sealing_key s (y ∷ ks) ≡ Err e → LastIsSpent (y ∷ ks) e) → (b : Bool) → is_live s x ≡ b → cond b (Ok x) (sealing_key s (y ∷ ks)) ≡ Err e → LastIsSpent (x ∷ y ∷ ks) e
      go rest true at is = absurd cc
      go rest false at is = more e (not_live x at) (rest is)

-- ---- what a sealing session refuses

live_among : (s : Session) (ks : List Key) (k : Key) → sealing_key s ks ≡ Ok k → Any (IsLiveIn s) ks
live_among s [] k e = absurd cc
live_among s (x ∷ []) k e = go (is_live s x) refl e
  where
    go : (b : Bool) → is_live s x ≡ b → cond b (Ok x) (Err (causes.KeySpent x.number (count_of s x))) ≡ Ok k → Any (IsLiveIn s) (x ∷ [])
    go true is e = any_here (IsLiveIn s) x [] (ltb-true _ _ is)
    go false is e = absurd cc
live_among s (x ∷ y ∷ ks) k e = go (live_among s (y ∷ ks) k) (is_live s x) refl e
  where
    go : (sealing_key s (y ∷ ks) ≡ Ok k → Any (IsLiveIn s) (y ∷ ks)) → (b : Bool) → is_live s x ≡ b → cond b (Ok x) (sealing_key s (y ∷ ks)) ≡ Ok k → Any (IsLiveIn s) (x ∷ y ∷ ks)
    go rest true is e = any_here (IsLiveIn s) x (y ∷ ks) (ltb-true _ _ is)
    go rest false is e = any_there (IsLiveIn s) x (y ∷ ks) (rest e)

module _ (nearest : NearestIs) (s : Session) (p : List ℕ) (small : AllByRecursion (λ x. x < 256) p) where
  says_out : (K : Kind) (h : Head) → head_out_of_kind K s p ≡ Ok h → Says K p h
  says_out Rtp h e = rtp_says p s.encrypts h e
  says_out Rtcp h e = (rtcp_says p 0 s.encrypts h e).0

  head_cause_out : (K : Kind) (c : DropCause) → least K ≤ length p → HeadShows K s p c → SealedShows K s p c
  head_cause_out K causes.Short long is = absurd is
  head_cause_out K causes.StreamsFull long is = absurd is
  head_cause_out K causes.MkiUnknown long is = absurd is
  head_cause_out K (causes.KeySpent number count) long is = absurd is
  head_cause_out K causes.RtcpIndexSpent long is = absurd is
  head_cause_out K other long is = (long, inl is)

  head_out_refused : (K : Kind) (e : DropCause) → head_out_of_kind K s p ≡ Err e → SealedShows K s p e
  head_out_refused Rtp = rtp_refused s p (SealedShows Rtp s p) (λ lt. lt) (λ long c is. head_cause_out Rtp c long is) s.encrypts
  head_out_refused Rtcp = rtcp_refused s p (SealedShows Rtcp s p) (λ lt. lt) (λ long c is. head_cause_out Rtcp c long is) 0 s.encrypts

  number_refused : (K : Kind) (h : Head) → Says K p h → IsPlaced K s p → Any (IsLiveIn s) s.keys → (e : DropCause) → number_of_kind K s h ≡ Err e → SealedShows K s p e
  number_refused Rtp h says placed live e is =
      after_refused (SealedShows Rtp s p) (index_in s (source_in Rtp p) (number_in p)) (fresh_index s (source_in Rtp p))
      (index_refused s (source_in Rtp p) nearest (number_in p) (number_low p small) (SealedShows Rtp s p)
      (λ h top first. (says.long, inr (refl, placed, live, (refl, (h, top, first))))) (λ spent. (says.long, inr (refl, placed, live, (refl, spent)))))
      (λ i at. let index = estimated s (source_in Rtp p) nearest (number_in p) (number_low p small) i at in
      fresh_refused s (source_in Rtp p) (SealedShows Rtp s p) i
      (λ old. (says.long, inr (refl, placed, live, (i, index, old)))) (λ within again. (says.long, inr (refl, placed, live, (i, index, within, again))))) e
      (sym (λ i. after_ok (index_in s (says.source i) (says.number refl i)) (fresh_index s (says.source i))) ∙ is)
  number_refused Rtcp h says placed live e is = go (highest_in s (source_in Rtcp p)) refl (sym (λ i. next_after (highest_in s (says.source i))) ∙ is)
    where
      count : (h : ℕ) → highest_in s (source_in Rtcp p) ≡ Some h → (b : Bool) → ltb h 2147483647 ≡ b → cond b (Ok (h + 1)) (Err causes.RtcpIndexSpent) ≡ Err e → SealedShows Rtcp s p e
      count h at true low is = absurd cc
      count h at false high is =
          let le = ltb-false _ _ high in
          by_cause (SealedShows Rtcp s p) causes.RtcpIndexSpent e
          (refl, placed, live, any_weaker _ _ (λ d at. (at.0, (let same = at.1 in omega (arith, same, le)))) s.done (is_highest s (source_in Rtcp p) h at).0) is

      go : (o : Option ℕ) → highest_in s (source_in Rtcp p) ≡ o → next_after o ≡ Err e → SealedShows Rtcp s p e
      go None at is = absurd cc
      go (Some h) at is = count h at (ltb h 2147483647) refl is

  key_refused : (K : Kind) → IsPlaced K s p → (e : DropCause) → sealing_key s s.keys ≡ Err e → SealedShows K s p e
  key_refused K placed e is = go e (no_live_key s s.keys e is)
    where
      go : (e : DropCause) → LastIsSpent s s.keys e → SealedShows K s p e
      go (causes.KeySpent number count) l = (placed, l)
      go causes.MkiUnknown l = (placed, l)
      go other l = absurd l

  pub seal_refused : (e : DropCause) → seals s p ≡ Err e → SealedShows s.name.kind s p e
  seal_refused =
      let P : DropCause → Type 0 = SealedShows s.name.kind s p in
      let ssrc : ℕ = source_in s.name.kind p in
      after_refused P (head_out s p) _ (head_out_refused s.name.kind) (λ h at.
      let says = says_out s.name.kind h at in
      stop_refused P (not (admits s h.ssrc)) causes.SsrcUnknown _
      (λ no. (says.long, inl (says.head, λ is. false≢true (sym (not-true _ no) ∙ ap (λ n. admits s n) says.source ∙ admitted_is s.admit s.done ssrc is)))) (λ own_one.
      let admitted : IsAdmitted s.name.kind s p = (says.head, admitted_by s.admit s.done ssrc (sym (ap (λ n. admits s n) says.source) ∙ not-false _ own_one)) in
      stop_refused P (not (has_room s h.ssrc)) causes.StreamsFull _
      (λ no. (admitted, λ is. false≢true (sym (not-true _ no) ∙ ap (λ n. has_room s n) says.source ∙ place_is s ssrc is))) (λ room.
      let placed : IsPlaced s.name.kind s p = (admitted, has_place s ssrc (sym (ap (λ n. has_room s n) says.source) ∙ not-false _ room)) in
      after_refused P (sealing_key s s.keys) _ (key_refused s.name.kind placed) (λ k of_key.
      after_refused P (number_out s h) _ (number_refused s.name.kind h says placed (live_among s s.keys k of_key)) (λ i number e is. absurd cc)))))

-- ---- what an opening session refuses

each_unmap : {X Y : Type 0} (P : Y → Type 0) (f : X → Y) (xs : List X) → AllByRecursion P (map f xs) → AllByRecursion (λ x. P (f x)) xs
each_unmap P f [] all = tt
each_unmap P f (x ∷ xs) all = (all.0, each_unmap P f xs all.1)

of_one_length : (ks : List Key) → HaveOneLength (map (λ k. k.mki) ks) → AllByRecursion (λ k. length k.mki ≡ mki_len_of ks) ks
of_one_length [] all = tt
of_one_length (k ∷ ks) all = (refl, each_unmap (λ mki. length mki ≡ length k.mki) (λ k. k.mki) ks all)

-- the least length, in two parts
twelve : (K : Kind) → least K + word_size K ≡ 12
twelve Rtp = refl
twelve Rtcp = refl

module _ (nearest : NearestIs) (s : Session) (d : List ℕ) (small : AllByRecursion (λ x. x < 256) d) (sound : IsSound s) where
  of_keys : AllByRecursion (λ k. length k.mki ≡ mki_len s) s.keys
  of_keys = of_one_length s.keys sound.mkis.1

  abbrev word_of : Kind → List ℕ
  word_of Rtp = []
  word_of Rtcp = drop (length d - (end_len s + 4)) (before_mki s d)

  whole_is : 12 + end_len s ≤ length d → (K : Kind) → d ≡ part_of_kind K s d ++ (word_of K ++ (mki_in s d ++ tag_in s d))
  whole_is long Rtp = sym (whole_again s d long)
  whole_is long Rtcp = sym (whole_again s d long) ∙ ap (λ l. l ++ (mki_in s d ++ tag_in s d)) (sym (packet_and_word s d long)) ∙ append_assoc (part_of_kind Rtcp s d) (word_of Rtcp) (mki_in s d ++ tag_in s d)

  packet_long : 12 + end_len s ≤ length d → (K : Kind) → least K ≤ length (part_of_kind K s d)
  packet_long long Rtp = let at = long_before s d long in omega (arith, at, long)
  packet_long long Rtcp = let at = length-take-le (length d - (end_len s + 4)) d (omega arith) in omega (arith, at, long)

  word_long : 12 + end_len s ≤ length d → (K : Kind) → length (word_of K) ≡ word_size K
  word_long long Rtp = refl
  word_long long Rtcp = four s d long

  mki_long : 12 + end_len s ≤ length d → length (mki_in s d) ≡ mki_len s
  mki_long long = length-take-le (mki_len s) (drop (length d - end_len s) d) (omega (arith, length-drop (length d - end_len s) d, long))

  abbrev parts : 12 + end_len s ≤ length d → Parts s.name.kind s d
  parts long = record {
    packet = packet_part s d;
    word = word_of s.name.kind;
    mki = mki_in s d;
    tag = tag_in s d;
    whole = whole_is long s.name.kind;
    of_packet = packet_long long s.name.kind;
    of_word = word_long long s.name.kind;
    of_mki = each_weaker _ _ (λ k at. at ∙ sym (mki_long long)) s.keys of_keys;
    of_tag = omega (arith, length-drop (length d - s.tag_len) d, long);
  }

  -- ---- the head, and the index

  module _ (long : 12 + end_len s ≤ length d) where
    small_packet : AllByRecursion (λ x. x < 256) (packet_part s d)
    small_packet = at s.name.kind
      where
        at : (K : Kind) → AllByRecursion (λ x. x < 256) (part_of_kind K s d)
        at Rtp = small_take _ d small
        at Rtcp = small_take _ d small

    abbrev IsOurs : (K : Kind) → Parts K s d → Type 0
    IsOurs K r = (packet_part s d ≡ r.packet) × (word_of K ≡ r.word)

    head_cause_in : (K : Kind) (r : Parts K s d) (c : DropCause) → HeadShows K s r.packet c → OpenedShows K s d c
    head_cause_in K r causes.Short is = absurd is
    head_cause_in K r causes.MkiUnknown is = absurd is
    head_cause_in K r (causes.KeySpent number count) is = absurd is
    head_cause_in K r causes.BadTag is = absurd is
    head_cause_in K r causes.StreamsFull is = absurd is
    head_cause_in K r other is = (r, inl is)

    head_kind_refused : (K : Kind) (r : Parts K s d) → IsOurs K r → (e : DropCause) → head_of_kind K s d ≡ Err e → OpenedShows K s d e
    head_kind_refused Rtp r ours e is =
        rtp_refused s r.packet (OpenedShows Rtp s d) (λ lt. let le = r.of_packet in absurd (omega (arith, le, lt))) (λ long. head_cause_in Rtp r) s.encrypts e
        (sym (ap (λ p. of_rtp s.encrypts (rtp_head p)) ours.0) ∙ is)
    head_kind_refused Rtcp r ours e is =
        rtcp_refused s r.packet (OpenedShows Rtcp s d) (λ lt. let le = r.of_packet in absurd (omega (arith, le, lt))) (λ long. head_cause_in Rtcp r) (index_word_in s d % 2147483648) (leb 2147483648 (index_word_in s d)) e
        (sym (ap (λ p. of_rtcp (index_word_in s d % 2147483648) (leb 2147483648 (index_word_in s d)) (rtcp_head p)) ours.0) ∙ is)

    abbrev SaysIn : (K : Kind) → Parts K s d → Head → Type 0
    SaysIn K r h = Says K r.packet h × (K ≡ Rtcp → h.number ≡ number_of r.word % 2147483648)

    says_in : (K : Kind) (r : Parts K s d) → IsOurs K r → (h : Head) → head_of_kind K s d ≡ Ok h → SaysIn K r h
    says_in Rtp r ours h e = (rtp_says r.packet s.encrypts h (sym (ap (λ p. of_rtp s.encrypts (rtp_head p)) ours.0) ∙ e), λ k. absurd cc)
    says_in Rtcp r ours h e =
        let is = rtcp_says r.packet (index_word_in s d % 2147483648) (leb 2147483648 (index_word_in s d)) h
        (sym (ap (λ p. of_rtcp (index_word_in s d % 2147483648) (leb 2147483648 (index_word_in s d)) (rtcp_head p)) ours.0) ∙ e) in
        (is.0, λ k. is.1 ∙ ap (λ w. number_of w % 2147483648) ours.1)

    place_refused : (K : Kind) (r : Parts K s d) → IsOurs K r → (h : Head) → SaysIn K r h → IsAdmitted K s r.packet → HasKey s r.mki → (e : DropCause) → place_of_kind K s h ≡ Err e → OpenedShows K s d e
    place_refused Rtp r ours h says admitted key e is =
        index_refused s (source_in Rtp r.packet) nearest (number_in r.packet) (subst (λ p. number_in p < 65536) ours.0 (number_low (packet_part s d) small_packet)) (OpenedShows Rtp s d)
        (λ h top first. (r, inr (admitted, key, (refl, (h, top, first))))) (λ spent. (r, inr (admitted, key, (refl, spent)))) e (sym (λ i. index_in s (says.0.source i) (says.0.number refl i)) ∙ is)
    place_refused Rtcp r ours h says admitted key e is = absurd cc

    placed : (K : Kind) (r : Parts K s d) → IsOurs K r → (h : Head) → SaysIn K r h → (i : ℕ) → place_of_kind K s h ≡ Ok i → IsIndexOf K s r.packet r.word i
    placed Rtp r ours h says i is =
        estimated s (source_in Rtp r.packet) nearest (number_in r.packet) (subst (λ p. number_in p < 65536) ours.0 (number_low (packet_part s d) small_packet)) i
        (sym (λ i. index_in s (says.0.source i) (says.0.number refl i)) ∙ is)
    placed Rtcp r ours h says i is = sym (ok_is h.number i is) ∙ says.1 refl

  -- ---- every stage

  abbrev Shown : DropCause → Type 0
  Shown = OpenedShows s.name.kind s d

  head_refused : (e : DropCause) → head_in s d ≡ Err e → Shown e
  head_refused = stop_refused Shown (ltb (length d) (12 + end_len s)) causes.Short (head_of_kind s.name.kind s d)
      (λ lt. let few = ltb-true _ _ lt in let sum = twelve s.name.kind in each_weaker _ _ (λ k at. omega (arith, at, few, sum)) s.keys of_keys)
      (λ not_few. let long = ltb-false _ _ not_few in head_kind_refused long s.name.kind (parts long) (refl, refl))

  record IsHeaded (h : Head) : Type 0 where
    long : 12 + end_len s ≤ length d
    says : SaysIn long s.name.kind (parts long) h

  headed : (h : Head) → head_in s d ≡ Ok h → IsHeaded h
  headed h e =
      let is = stop_if_is (ltb (length d) (12 + end_len s)) causes.Short (head_of_kind s.name.kind s d) h e in
      let long = ltb-false _ _ is.0 in
      record { long = long; says = says_in long s.name.kind (parts long) (refl, refl) h is.1 }

  -- the facts of a datagram whose head is whole
  module _ (h : Head) (is : IsHeaded h) where
    abbrev ssrc : ℕ
    ssrc = source_in s.name.kind (packet_part s d)

    own_source : admits s h.ssrc ≡ true → IsAdmitted s.name.kind s (packet_part s d)
    own_source own = (is.says.0.head, admitted_by s.admit s.done ssrc (sym (ap (λ n. admits s n) is.says.0.source) ∙ own))

  live_key : (k : Key) → key_with s.keys (mki_in s d) ≡ Ok k → is_live s k ≡ true → HasKey s (mki_in s d)
  live_key k of_key live = any_weaker _ _ (λ x is. (is.1, subst (IsLiveIn s) (sym is.0) (ltb-true _ _ live))) s.keys (key_there s.keys (mki_in s d) k of_key)

  checked_refused : (e : DropCause) → checked s d ≡ Err e → Shown e
  checked_refused =
      after_refused Shown (head_in s d) _ head_refused (λ h at.
      let is = headed h at in let r = parts is.long in
      stop_refused Shown (not (admits s h.ssrc)) causes.SsrcUnknown _
      (λ no. (r, inl (is.says.0.head, λ own. false≢true (sym (not-true _ no) ∙ ap (λ n. admits s n) is.says.0.source ∙ admitted_is s.admit s.done _ own)))) (λ own_one.
      let admitted = own_source h is (not-false _ own_one) in
      after_refused Shown (key_with s.keys (mki_in s d)) _ (no_key Shown s.keys (mki_in s d) (λ all. (r, admitted, all))) (λ k of_key.
      stop_refused Shown (not (is_live s k)) (causes.KeySpent k.number (count_of s k)) _
      (λ dead. (r, admitted, any_weaker _ _ (λ x is. (is.1, subst (IsSpentAt s k.number (count_of s k)) (sym is.0) (spent_at s k (not-true _ dead)))) s.keys (key_there s.keys (mki_in s d) k of_key))) (λ live.
      let key = live_key k of_key (not-false _ live) in
      after_refused Shown (place_in s h) _ (place_refused is.long s.name.kind r (refl, refl) h is.says admitted key) (λ i place.
      let index = placed is.long s.name.kind r (refl, refl) h is.says i place in
      after_refused Shown (fresh_index s h.ssrc i) _
      (λ e is_old. fresh_refused s (source_in s.name.kind (packet_part s d)) Shown i (λ old. (r, inr (admitted, key, (i, index, old)))) (λ within again. (r, inr (admitted, key, (i, index, within, again)))) e
      (sym (ap (λ n. fresh_index s n i) is.says.0.source) ∙ is_old)) (λ j fresh e is. absurd cc))))))

  record IsChecked (k : Check) : Type 0 where
    head : IsHeaded k.head
    admitted : IsAdmitted s.name.kind s (packet_part s d)
    key : Any (λ x. (x ≡ k.key) × (x.mki ≡ mki_in s d)) s.keys
    live : is_live s k.key ≡ true
    index : IsIndexOf s.name.kind s (packet_part s d) (word_of s.name.kind) k.index
    new : IsNewIn s (source_in s.name.kind (packet_part s d)) k.index

  is_checked : (k : Check) → checked s d ≡ Ok k → IsChecked k
  is_checked k e =
      let a = after_ok_is (head_in s d) _ k e in
      let b = stop_if_is _ _ _ k a.2 in
      let c = after_ok_is (key_with s.keys (mki_in s d)) _ k b.1 in
      let f = stop_if_is (not (is_live s c.0)) (causes.KeySpent c.0.number (count_of s c.0)) _ k c.2 in
      let g = after_ok_is (place_in s a.0) _ k f.1 in
      let h = after_ok_is (fresh_index s a.0.ssrc g.0) _ k g.2 in
      let is = headed a.0 a.1 in
      let new = if_new_is g.0 h.0 (freshness s.window (indices_of s.done a.0.ssrc) g.0) h.1 in
      let same : record { key = c.0; head = a.0; index = h.0 } ≡ k = ok_is _ k h.2 in
      subst IsChecked same (record {
        head = is;
        admitted = own_source a.0 is (not-false _ b.0);
        key = key_there s.keys (mki_in s d) c.0 c.1;
        live = not-false _ f.0;
        index = subst (IsIndexOf s.name.kind s (packet_part s d) (word_of s.name.kind)) new.1 (placed is.long s.name.kind (parts is.long) (refl, refl) a.0 is.says g.0 g.1);
        new = subst (λ i. IsNewIn s (source_in s.name.kind (packet_part s d)) i) new.1 (subst (λ n. IsNewIn s n g.0) is.says.0.source (fresh_is_new s a.0.ssrc g.0 new.0));
      })

  covers : 12 + end_len s ≤ length d → (k : Check) (K : Kind) → covered_of_kind K s k d ≡ covered_at K (part_of_kind K s d) (word_of K) k.index
  covers long k Rtp = refl
  covers long k Rtcp = sym (packet_and_word s d long)

  -- the tag of the key at the index, of which this holds
  module _ (k : Check) (is : IsChecked k) where
    abbrev code : List ℕ
    code = tag_at s.name.kind s k.key (packet_part s d) (word_of s.name.kind) k.index

    code_is : code ≡ take s.tag_len (hmac_sha1 (half_of s.name.kind (session_keys k.key.master)).auth (covered_of_kind s.name.kind s k d))
    code_is = ap (λ l. take s.tag_len (hmac_sha1 (half_of s.name.kind (session_keys k.key.master)).auth l)) (sym (covers is.head.long k s.name.kind))

    tagged : (P : List ℕ → Type 0) → P code → IsTagged s.name.kind s (packet_part s d) (word_of s.name.kind) (mki_in s d) P
    tagged P p = record {
      i = k.index;
      index = is.index;
      new = is.new;
      tagged = any_weaker _ _ (λ x of_x. (
        of_x.1,
        subst (IsLiveIn s) (sym of_x.0) (ltb-true _ _ is.live),
        subst (λ k'. P (tag_at s.name.kind s k' (packet_part s d) (word_of s.name.kind) k.index)) (sym of_x.0) p,
      )) s.keys is.key;
    }

  pub open_refused : (e : DropCause) → opens s d ≡ Err e → Shown e
  open_refused =
      after_refused Shown (checked s d) (opened_if s d) checked_refused (λ k at.
      let is = is_checked k at in
      stop_refused Shown (not (tag_fits s k d)) causes.BadTag _
      (λ bad. (parts is.head.long, is.admitted, tagged k is (λ tag. ¬ tag_in s d ≡ tag) (λ same. false≢true (sym (not-true _ bad) ∙ same_octets_true (tag_in s d) _ (same ∙ code_is k is))))) (λ fits.
      stop_refused Shown (not (has_room s k.head.ssrc)) causes.StreamsFull _
      (λ no. (
        parts is.head.long,
        is.admitted,
        tagged k is (λ tag. tag_in s d ≡ tag) (same_octets_is (tag_in s d) _ (not-false _ fits) ∙ sym (code_is k is)),
        λ place. false≢true (sym (not-true _ no) ∙ ap (λ n. has_room s n) is.head.says.0.source ∙ place_is s _ place),
      )) (λ room e is. absurd cc)))
