-- From the steps of opening to what a side opens, and from there to the sessions that it stands for.
use Rattle.std.proofs.Common.{◌≡◌, ℕ, Bool, true, false, not, List, Result, Ok, Err, refl, ap, subst, sym, ◌∙◌}
use Rattle.std.specs.Prelude.{MatchResult}
use Rattle.sg_base.specs.declared.addresses.Kind.{Kind}
use Rattle.sg_base.specs.declared.faults.DropCause.{DropCause}
use Rattle.sg_base.specs.declared.faults.DropCause.TheVariants.{SsrcUnknown}
use Rattle.sg_keys.specs.Live.{Live, mki_len as live_mki_len}
use Rattle.sg_session.specs.OneSession.{after}
use Rattle.sg_session.specs.Opening.{Head, Taken, mki_len, opens}
use Rattle.sg_session.specs.Session.{Done, Session, is_admitted}
use Rattle.sg_session.specs.Stages.{after_ok, stop_if}
use Rattle.sg_states.specs.Choosing.{chosen_for}
use Rattle.sg_states.specs.Inbound.{Heading, Keying, IsHeaded, IsKeyed}
use Rattle.sg_states.specs.Parts.{heading, mki_of}
use Rattle.sg_states.specs.Steps.{done_of, opening_steps}
use Rattle.sg_states.proofs.OpeningLaw.{mki_len_is, opening_is}
use Rattle.sg_media.specs.declared.inbound.Opened.{Opened}
use Rattle.sg_media.specs.Accepting.{IsAccepted}
use Rattle.sg_media.specs.Answers.{answer_at, entry_of, opened_among, opened_of}
use Rattle.sg_media.specs.Sides.{SideValue, StandsFor}
use Rattle.sg_media.specs.Steps.{heading_at, opened_headed, side_opens}

-- ---- a datagram with its head
pub record IsHeadAt (v : SideValue) (d : List ℕ) (h : Heading) : Type 0 where
  pub reads : heading v.kind v.encrypts (live_mki_len v.keys) v.tag_len d ≡ Ok h.head
  pub same : h ≡ heading_at v d h.head

pub headed_at : (v : SideValue) (d : List ℕ) (m : ℕ) (h : Heading) → m ≡ live_mki_len v.keys → IsHeaded d v.kind v.encrypts m v.tag_len h → IsHeadAt v d h
headed_at v d m h e is = record {
  reads = sym (ap (λ n. heading v.kind v.encrypts n v.tag_len d) e) ∙ is.reads;
  same = λ i. record { pad = is.same_pad i; kind = is.same_kind i; mki_len = (is.same_mki_len ∙ e) i; tag_len = is.same_tag_len i; head = h.head };
}

module _ (v : SideValue) (done : List Done) (d : List ℕ) where
  abbrev with_head : Result Head DropCause → Result Done DropCause
  with_head r = after_ok r (λ head. opened_headed v done (heading_at v d head))

  abbrev with_source : Head → Bool → Result Done DropCause
  with_source head b = stop_if (not b) SsrcUnknown (after_ok (chosen_for v.keys (mki_of (live_mki_len v.keys) v.tag_len d)) (λ key. opened_among (heading_at v d head) key v.roc v.window done))

  abbrev with_key : Head → Result Live DropCause → Result Done DropCause
  with_key head r = after_ok r (λ key. opened_among (heading_at v d head) key v.roc v.window done)

  pub unheaded : (m : ℕ) (c : DropCause) → m ≡ live_mki_len v.keys → heading v.kind v.encrypts m v.tag_len d ≡ Err c → side_opens v done d ≡ Err c
  unheaded m c e h = ap with_head (sym (ap (λ n. heading v.kind v.encrypts n v.tag_len d) e) ∙ h)

  pub unadmitted : (h : Heading) → IsHeadAt v d h → is_admitted v.admit done h.head.ssrc ≡ false → side_opens v done d ≡ Err SsrcUnknown
  unadmitted h is a = ap with_head is.reads ∙ ap (with_source h.head) a

  pub unkeyed : (h : Heading) (c : DropCause) → IsHeadAt v d h → is_admitted v.admit done h.head.ssrc ≡ true → chosen_for v.keys (mki_of h.mki_len h.tag_len h.pad) ≡ Err c
      → side_opens v done d ≡ Err c
  unkeyed h c is a choice =
      ap with_head is.reads ∙ ap (with_source h.head) a
      ∙ ap (with_key h.head) (sym (ap (λ (g : Heading). chosen_for v.keys (mki_of g.mki_len g.tag_len g.pad)) is.same) ∙ choice)

  pub accepted : (h : Heading) (k : Keying) → IsHeadAt v d h → is_admitted v.admit done h.head.ssrc ≡ true → IsKeyed h v.keys k → IsAccepted v done d k
  accepted h k is a keyed = record {
    head = h.head;
    reads = is.reads;
    same = keyed.same ∙ is.same;
    admitted = a;
    key = keyed.key;
    chosen = sym (ap (λ (g : Heading). chosen_for v.keys (mki_of g.mki_len g.tag_len g.pad)) is.same) ∙ keyed.choice;
    at = keyed.at;
  }

  -- what a keyed datagram opens as
  pub keyed_opens : (k : Keying) (a : IsAccepted v done d k)
      → answer_at k.headed.kind k.headed.pad (opened_among k.headed a.key v.roc v.window done) ≡ answer_at v.kind d (side_opens v done d)
  keyed_opens k a =
      ap (λ (h : Heading). answer_at h.kind h.pad (opened_among h a.key v.roc v.window done)) a.same
      ∙ sym (ap (answer_at v.kind d) (ap with_head a.reads ∙ ap (with_source a.head) a.admitted ∙ ap (with_key a.head) a.chosen))

pub refused_as : (kind : Kind) (d : List ℕ) (x : List ℕ × DropCause) (r : Result Done DropCause) → x.0 ≡ d → r ≡ Err (x.1) → Err x ≡ answer_at kind d r
refused_as kind d x r a b = (λ i. let y : Result Opened (List ℕ × DropCause) = Err (a i, x.1) in y) ∙ sym (ap (answer_at kind d) b)

-- ---- the sessions that a side stands for
module _ (v : SideValue) (s : Session) (d : List ℕ) (st : StandsFor v s) where
  steps_are : side_opens v s.done d ≡ opening_steps s d
  steps_are =
      let size : live_mki_len v.keys ≡ mki_len s = ap live_mki_len st.same_keys ∙ mki_len_is s s.keys in
      λ i.
      after_ok (heading (st.same_kind i) (st.same_encrypts i) (size i) (st.same_tag_len i) d)
      (λ head. opened_headed (record { kind = st.same_kind i; keys = st.same_keys i; streams = v.streams; roc = st.same_roc i; window = st.same_window i; admit = st.same_admit i; encrypts = st.same_encrypts i; tag_len = st.same_tag_len i })
      s.done (record { pad = d; kind = st.same_kind i; mki_len = size i; tag_len = st.same_tag_len i; head = head }))

  answer_is : (r : Result Taken DropCause) → answer_at s.name.kind d (done_of r) ≡ opened_of s.name.kind d r
  answer_is (Ok t) = refl
  answer_is (Err c) = refl

  pub session_opens : answer_at v.kind d (side_opens v s.done d) ≡ opened_of s.name.kind d (opens s d)
  session_opens = (λ i. answer_at (st.same_kind i) d ((steps_are ∙ opening_is s d) i)) ∙ answer_is (opens s d)

  cause_is : (r : Result Taken DropCause) (c : DropCause) → done_of r ≡ Err c → r ≡ Err c
  cause_is (Ok t) c e = cc
  cause_is (Err b) c e = let same : b ≡ c = cc in ap (λ x. Err x) same

  -- a side that refuses stands for the session afterwards
  pub stands_refused : (c : DropCause) → side_opens v s.done d ≡ Err c → StandsFor v (after s (opens s d))
  stands_refused c e = subst (λ r. StandsFor v (after s r)) (sym (cause_is (opens s d) c (sym (steps_are ∙ opening_is s d) ∙ e))) st

-- ---- what an answer tells
pub opened_tells : (kind : Kind) (d : List ℕ) (said : Result Taken DropCause) (r : Result Opened (List ℕ × DropCause)) → r ≡ opened_of kind d said
    → MatchResult r (λ o. (t : Taken) × (said ≡ Ok t) × (entry_of o ≡ t.done)) (λ e. (c : DropCause) × (said ≡ Err c))
opened_tells kind d (Ok t) (Ok o) e =
    let same : o ≡ record { pad = t.done.packet; kind = kind; ssrc = t.done.ssrc; index = t.done.index; key = t.done.key } = cc in
    (t, refl, ap entry_of same)
opened_tells kind d (Err c) (Err x) e = (c, refl)
opened_tells kind d (Ok t) (Err x) e = cc
opened_tells kind d (Err c) (Ok o) e = cc
