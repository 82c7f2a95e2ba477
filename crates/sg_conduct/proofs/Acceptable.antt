-- A message against which nothing speaks is accepted, and gives the streams of its media.
use Rattle.std.proofs.Common.{◌≡◌, inl, inr, ℕ, ◌+◌, ◌*◌, Bool, true, false, not, ◌&&◌, eqb, eq-eqb, eqb-true, ltb, leb, List, [], ◌∷◌, ◌++◌, length, codes, Option, Some, None, Ok, refl, sym, ap, ◌∙◌, subst, arith}
use Rattle.std.proofs.lemmas.Bool.{and_from, and_parts, cond-false, cond-true, false_from_ne_true, le-leb, ltb-true, not_from_true, or_from}
use Rattle.std.specs.List.{AllByRecursion, Any, cons_option, filter_map, find, list_all, list_any}
use Rattle.std.specs.Option.{is_none, is_some, option_map}
use Rattle.sg_agreement.proofs.TextLines.{mikey_is}
use Rattle.sg_agreement.specs.Attributes.{first_of, mikey_octets, mikey_rest, mikey_value}
use Rattle.sg_agreement.specs.Messages.{AtHand, Bundle, bundle_in, message_in}
use Rattle.sg_agreement.specs.TextLines.{IsMessageLine}
use Rattle.sg_base.specs.Fields.{◌>>=◌}
use Rattle.sg_base.specs.Octets.{number_of, same_octets}
use Rattle.sg_base.specs.declared.faults.CsFault.TheVariants.{PolicyValue}
use Rattle.sg_base.specs.declared.faults.Refusal.TheVariants.{KeyMgmt}
use Rattle.sg_csmap.specs.CryptoSessions.{lacks_policy, or_fault, pair_in, pairs_from, stream_in, streams_of}
use Rattle.sg_csmap.specs.Policies.{are_served, each_once, has_kind, is_short, meaning, protection_of, said_by}
use Rattle.sg_csmap.specs.declared.policies.Protection.{Protection}
use Rattle.sg_mikey.specs.declared.policy.Policy.{Policy}
use Rattle.sg_psk.specs.Accepting.{Accepted, accepted_with, fault_of, initial_fits, initial_of, initial_under, is_served, keys_in, unless, with_keys}
use Rattle.sg_psk.specs.Envelope.{mac_of}
use Rattle.sg_psk.specs.Pairs.{is_noted, is_of, is_same, is_with, note, pair_named}
use Rattle.sg_psk.specs.Parts.{closing_in, names_in, policies_in, random_in, stamp_in}
use Rattle.sg_psk.specs.Stamps.{is_skewed}
use Rattle.sg_psk.specs.declared.replays.Noted.{Noted}
use Rattle.sg_session.proofs.Inversions.{after_ok_of, stop_if_of}
use Rattle.sg_gateway.proofs.Authentic.{not_timely}
use Rattle.sg_gateway.proofs.Common.{Books, CsEntry, Pair, StreamKeys, Tgk, any_cases, any_none, each_weaker, of_cs, of_message, of_psk, or_refusal, same_octets_is}
use Rattle.sg_gateway.proofs.Common.{same_octets_true}
use Rattle.sg_gateway.specs.Authentic.{AreNamesOf}
use Rattle.sg_gateway.specs.CryptoSessions.{Carries, IsFirst}
use Rattle.sg_conduct.specs.Offers.{AreOfOwnTypes, HasPolicy, IsAcceptable, IsFirstNamed, IsServed, served}

-- ---- the attribute

no_rest : (line : List ℕ) → ¬ IsMessageLine line → mikey_rest line ≡ None
no_rest line other = go (mikey_rest line) refl
  where
    go : (o : Option (List ℕ)) → mikey_rest line ≡ o → o ≡ None
    go None is = refl
    go (Some value) is = absurd (other (mikey_is line value is))

pub kept_behind : (before rest : List (List ℕ)) → AllByRecursion (λ line. ¬ IsMessageLine line) before → filter_map mikey_rest (before ++ rest) ≡ filter_map mikey_rest rest
kept_behind [] rest none = refl
kept_behind (line ∷ before) rest none = ap (λ o. cons_option o (filter_map mikey_rest (before ++ rest))) (no_rest line none.0) ∙ kept_behind before rest none.1

pub value_is : (lines : List (List ℕ)) (value : List ℕ) → IsFirst lines value → mikey_value lines ≡ Some (32 ∷ value)
unfolding mikey_value
value_is lines value is =
    ap (λ (ls : List (List ℕ)). first_of (filter_map mikey_rest ls)) is.parts ∙ ap first_of (kept_behind is.before ((codes "a=key-mgmt:mikey " ++ value) ∷ is.behind) is.none)

pub octets_are : (lines : List (List ℕ)) (octets : List ℕ) → Carries lines octets → mikey_octets (mikey_value lines) ≡ Some octets
unfolding mikey_octets
octets_are lines octets is = ap mikey_octets (value_is lines is.0 is.1) ∙ is.2

-- ---- the pair

find_behind : {X : Type 0} (test : X → Bool) (before behind : List X) (x : X) → AllByRecursion (λ y. test y ≡ false) before → test x ≡ true → find test (before ++ x ∷ behind) ≡ Some x
find_behind test [] behind x none here = cond-true (test x) (Some x) (find test behind) here
find_behind test (y ∷ before) behind x none here =
    cond-false (test y) (Some y) (find test (before ++ x ∷ behind)) none.0 ∙ find_behind test before behind x none.1 here

each_not : {X : Type 0} (P : X → Type 0) (test : X → Bool) → ((x : X) → test x ≡ true → P x) → (xs : List X) → AllByRecursion (λ x. ¬ P x) xs → AllByRecursion (λ x. test x ≡ false) xs
each_not P test is [] none = tt
each_not P test is (x ∷ xs) none = (false_from_ne_true (test x) (λ e. none.0 (is x e)), each_not P test is xs none.1)

pub pair_found : (pairs : List Pair) (names : List (List ℕ)) (pair : Pair) → IsFirstNamed pairs names pair → pair_named pairs names ≡ Some pair
pair_found pairs names pair is = ap (λ ps. pair_named ps names) is.parts ∙ go names is.named is.none
  where
    go : (names : List (List ℕ)) → AreNamesOf pair names → AllByRecursion (λ p. ¬ AreNamesOf p names) is.before → pair_named (is.before ++ pair ∷ is.behind) names ≡ Some pair
    go [] (inl e) none = absurd cc
    go [] (inr (more, e)) none = absurd cc
    go (peer ∷ []) (inl e) none =
        let same : peer ≡ pair.peer = cc in
        find_behind (is_with peer) is.before is.behind pair
        (each_not (λ p. AreNamesOf p (peer ∷ [])) (is_with peer) (λ p t. inl (ap (λ n. n ∷ []) (sym (same_octets_is p.peer peer t)))) is.before none)
        (same_octets_true pair.peer peer (sym same))
    go (peer ∷ []) (inr (more, e)) none = absurd cc
    go (peer ∷ own ∷ names) (inl e) none = absurd cc
    go (peer ∷ own ∷ names) (inr (more, e)) none =
        let of_peer : peer ≡ pair.peer = cc in
        let of_own : own ≡ pair.own = cc in
        find_behind (is_of own peer) is.before is.behind pair
        (each_not (λ p. AreNamesOf p (peer ∷ own ∷ names)) (is_of own peer) (λ p t.
        let parts = and_parts (same_octets p.own own) (is_with peer p) t in
        let a : peer ≡ p.peer = sym (same_octets_is p.peer peer parts.1) in
        let b : own ≡ p.own = sym (same_octets_is p.own own parts.0) in
        inr (names, λ i. a i ∷ b i ∷ names)) is.before none)
        (and_from (same_octets pair.own own) (is_with peer pair) (same_octets_true pair.own own (sym of_own)) (same_octets_true pair.peer peer (sym of_peer)))

-- ---- what is noted

not_there : (peer stamp : List ℕ) (csb : ℕ) (noted : List Noted) → AllByRecursion (λ (n : Noted). ¬ ((n.peer ≡ peer) × (n.csb ≡ csb) × (n.stamp ≡ stamp))) noted → is_noted noted (note peer csb stamp) ≡ false
not_there peer stamp csb [] none = refl
not_there peer stamp csb (n ∷ ns) none =
    or_from (is_same (note peer csb stamp) n) (is_noted ns (note peer csb stamp)) (false_from_ne_true _ (λ e.
    let p = and_parts (same_octets peer n.peer && eqb csb n.csb) (same_octets stamp n.stamp) e in
    let q = and_parts (same_octets peer n.peer) (eqb csb n.csb) p.0 in
    none.0 (sym (same_octets_is peer n.peer q.0), sym (eqb-true csb n.csb q.1), sym (same_octets_is stamp n.stamp p.1)))) (not_there peer stamp csb ns none.1)

-- ---- policies

abbrev Means : ℕ × List ℕ → Type 0
Means row = AllByRecursion (λ v. is_some (meaning row.0 v) ≡ true) row.1

all_mean : AllByRecursion Means served
unfolding meaning
all_mean = ((refl, tt), ((refl, (refl, (refl, (refl, (refl, (refl, tt)))))), ((refl, tt), ((refl, (refl, tt)), ((refl, (refl, tt)), ((refl, tt), ((refl, tt), ((refl, (refl, tt)), ((refl, (refl, tt)), ((refl, tt), ((refl, tt), ((refl, (refl, (refl, (refl, tt)))), ((refl, tt), tt)))))))))))))

at_any : {X : Type 0} (P Q : X → Type 0) (R : Type 0) (xs : List X) → AllByRecursion P xs → Any Q xs → ((x : X) → P x → Q x → R) → R
at_any P Q R [] all any f = absurd (any_none Q any)
at_any P Q R (x ∷ xs) all any f = elim (any_cases Q x xs any) [
  | inl here ↦ f x all.0 here
  | inr later ↦ at_any P Q R xs all.1 later f
]

meant : (item : ℕ × List ℕ) → IsServed item → is_some (meaning item.0 (number_of item.1)) ≡ true
meant item is = at_any Means (λ row. (row.0 ≡ item.0) × Any (λ v. v ≡ number_of item.1) row.1) (is_some (meaning item.0 (number_of item.1)) ≡ true) served all_mean is.value
    (λ row means of. at_any (λ v. is_some (meaning row.0 v) ≡ true) (λ v. v ≡ number_of item.1) (is_some (meaning item.0 (number_of item.1)) ≡ true) row.1 means of.1
    (λ v some same. subst (λ k. is_some (meaning k (number_of item.1)) ≡ true) of.0 (subst (λ n. is_some (meaning row.0 n) ≡ true) same some)))

said : (item : ℕ × List ℕ) → IsServed item → is_some (said_by item) ≡ true
unfolding said_by
said item is =
    ap is_some (cond-true (is_short item.1) (meaning item.0 (number_of item.1)) None (and_from (leb 1 (length item.1)) (leb (length item.1) 4) (le-leb 1 (length item.1) is.some) (le-leb (length item.1) 4 is.few)))
    ∙ meant item is

all_said : (items : List (ℕ × List ℕ)) → AllByRecursion IsServed items → list_all (λ item. is_some (said_by item)) items ≡ true
all_said [] all = refl
all_said (item ∷ items) all = and_from (is_some (said_by item)) (list_all (λ item. is_some (said_by item)) items) (said item all.0) (all_said items all.1)

not_had : (kind : ℕ) (items : List (ℕ × List ℕ)) → AllByRecursion (λ x. ¬ x.0 ≡ kind) items → has_kind kind items ≡ false
not_had kind [] none = refl
not_had kind (x ∷ items) none = or_from (eqb x.0 kind) (has_kind kind items) (false_from_ne_true _ (λ e. none.0 (eqb-true x.0 kind e))) (not_had kind items none.1)

once : (items : List (ℕ × List ℕ)) → AreOfOwnTypes items → each_once items ≡ true
unfolding each_once
once [] own = refl
once (item ∷ items) own = and_from (not (has_kind item.0 items)) (each_once items) (ap not (not_had item.0 items own.0)) (once items own.1)

-- ---- crypto sessions

bind_of : {A B : Type 0} (o : Option A) (f : A → Option B) (x : A) → o ≡ Some x → (o >>= f) ≡ f x
bind_of o f x e = ap (λ o. o >>= f) e

-- the first policy that has the crypto session's number means something
pub record HasMeaning (policies : List Policy) (entry : CsEntry) : Type 0 where
  pub policy : Policy
  pub named : find (λ (p : Policy). eqb p.number entry.policy) policies ≡ Some policy
  pub protection : Protection
  pub means : protection_of policy ≡ Some protection

pub policy_means : (policies : List Policy) (entry : CsEntry) → HasPolicy policies entry → HasMeaning policies entry
unfolding protection_of
policy_means policies entry has = record {
  policy = has.policy;
  named = has.named;
  protection = _;
  means = cond-true (are_served has.policy.items) _ None (and_from _ (each_once has.policy.items) (all_said has.policy.items has.each) (once has.policy.items has.own));
}

module _ (csb : ℕ) (random : List ℕ) (policies : List Policy) (tgks : List Tgk) where
  pub stream_given : (session : ℕ) (entry : CsEntry) → HasMeaning policies entry → (x : StreamKeys) × (stream_in csb random policies tgks session entry ≡ Some x)
  unfolding stream_in
  stream_given session entry has = (
    _,
    bind_of (find (λ (p : Policy). eqb p.number entry.policy) policies) _ has.policy has.named ∙ bind_of (protection_of has.policy) _ has.protection has.means,
  )

  pairs_given : (session : ℕ) (map : List CsEntry) → AllByRecursion (HasMeaning policies) map → (xs : List (StreamKeys × StreamKeys)) × (pairs_from csb random policies tgks session map ≡ Some xs)
  unfolding pairs_from pair_in
  pairs_given session [] all = ([], refl)
  pairs_given session (alone ∷ []) all = ([], refl)
  pairs_given session (i ∷ r ∷ map) all =
      let a = stream_given session i all.0 in
      let b = stream_given (session + 1) r all.1.0 in
      let rest = pairs_given (session + 2) map all.1.1 in
      let pair : pair_in csb random policies tgks session i r ≡ Some (a.0, b.0) =
      bind_of (stream_in csb random policies tgks session i) _ a.0 a.1 ∙ bind_of (stream_in csb random policies tgks (session + 1) r) _ b.0 b.1 in (
        (a.0, b.0) ∷ rest.0,
        bind_of (pair_in csb random policies tgks session i r) _ (a.0, b.0) pair ∙ ap (λ o. option_map (λ pairs. (a.0, b.0) ∷ pairs) o) rest.1,
      )

  none_lacks : (map : List CsEntry) → AllByRecursion (HasMeaning policies) map → list_any (lacks_policy policies) map ≡ false
  none_lacks [] all = refl
  none_lacks (entry ∷ map) all = or_from (lacks_policy policies entry) (list_any (lacks_policy policies) map) (ap is_none all.0.named) (none_lacks map all.1)

  pub streams_given : (map : List CsEntry) (media : ℕ) → length map ≡ 2 * media → AllByRecursion (HasMeaning policies) map → (xs : List (StreamKeys × StreamKeys)) × (streams_of csb random map policies tgks media ≡ Ok xs)
  unfolding streams_of
  streams_given map media many all =
      let p = pairs_given 1 map all in (
        p.0,
        cond-false (not (eqb (length map) (2 * media))) _ _ (ap not (eq-eqb (length map) (2 * media) many))
            ∙ cond-false (list_any (lacks_policy policies) map) _ _ (none_lacks map all)
            ∙ ap (λ o. or_fault PolicyValue o) p.1,
      )

-- ---- the message

module _ (books : Books) (now : ℕ) (lines : List (List ℕ)) (media : ℕ) (is : IsAcceptable books now lines media) where
  abbrev accepted : Accepted
  accepted = accepted_with is.message is.pair is.tgks

  no_fault : fault_of is.octets is.message is.pair books.noted now ≡ None
  unfolding fault_of initial_fits mac_of
  no_fault =
      cond-false (not (is_served (closing_in is.message.payloads))) _ _ (not_from_true _ (and_from _ _ (eq-eqb _ 1 is.cipher) (eq-eqb _ 1 is.mac)))
      ∙ cond-false (not (initial_fits is.octets is.message is.pair)) _ _ (not_from_true _ (same_octets_true _ _ is.code))
      ∙ cond-false (is_skewed (stamp_in is.message.payloads) now) _ _
      (false_from_ne_true _ (λ e. not_timely (stamp_in is.message.payloads) now e is.timely))
      ∙ cond-false (is_noted books.noted (note is.pair.peer is.message.csb (stamp_in is.message.payloads))) _ _ (not_there is.pair.peer (stamp_in is.message.payloads) is.message.csb books.noted is.new)

  taken : initial_of is.octets is.message books.pairs books.noted now ≡ Ok accepted
  unfolding initial_of initial_under with_keys keys_in
  taken =
      ap (initial_under is.octets is.message books.noted now) (pair_found books.pairs (names_in is.message.payloads) is.pair is.held)
      ∙ ap (λ fault. unless fault (with_keys is.message is.pair (length books.noted) (keys_in is.message is.pair))) no_fault
      ∙ ap (with_keys is.message is.pair (length books.noted)) is.keys
      ∙ cond-false (ltb 1020 (length books.noted)) _ _ (false_from_ne_true _ (λ e. let over = ltb-true 1020 (length books.noted) e in let room = is.room in omega (arith, over, room)))

  pub bundle_given : (h : AtHand) (medium : ℕ) → h.pairs ≡ books.pairs → h.noted ≡ books.noted → h.now ≡ now → (b : Bundle) × (bundle_in h medium media (mikey_value lines) ≡ Ok b)
  unfolding bundle_in message_in
  bundle_given h medium pairs noted moment =
      let policies : List Policy = policies_in is.message.payloads in
      let means = each_weaker (HasPolicy policies) (HasMeaning policies) (policy_means policies) is.message.map is.policies in
      let streams = streams_given is.message.csb (random_in is.message.payloads) policies is.tgks is.message.map media is.sessions means in
      let read : message_in medium 0 (mikey_value lines) ≡ Ok (is.octets, is.message) =
      after_ok_of _ _ is.octets (ap (or_refusal (KeyMgmt medium)) (octets_are lines is.octets is.carried))
      ∙ after_ok_of _ _ is.message (ap (of_message medium) is.read)
      ∙ stop_if_of (not (eqb is.message.kind 0)) _ _ (not_from_true _ (eq-eqb is.message.kind 0 is.kind)) in
      let at : initial_of is.octets is.message h.pairs h.noted h.now ≡ Ok accepted = (λ i. initial_of is.octets is.message (pairs i) (noted i) (moment i)) ∙ taken in (
        record { initial = accepted; streams = streams.0 },
        after_ok_of (message_in medium 0 (mikey_value lines)) _ (is.octets, is.message) read
            ∙ after_ok_of (of_psk medium (initial_of is.octets is.message h.pairs h.noted h.now)) _ accepted (ap (of_psk medium) at)
            ∙ after_ok_of (of_cs medium (streams_of accepted.csb accepted.random accepted.map accepted.policies accepted.tgks media)) _ streams.0 (ap (of_cs medium) streams.1),
      )
