-- The line that is taken of a peer's medium is the first crypto line of it that is read.
use Rattle.std.proofs.Common.{◌≡◌, ◌⊎◌, inl, inr, ℕ, suc, ◌+◌, cond, List, [], ◌∷◌, ◌++◌, codes, Option, Some, None, Result, Ok, refl, sym, ap, ◌∙◌, subst, arith, eqb}
use Rattle.std.specs.List.{AllByRecursion, cons_option, filter_map}
use Rattle.sg_agreement.proofs.TextLines.{active_some, behind_is, bind_is, has_none, if_same}
use Rattle.sg_agreement.specs.Attributes.{behind, crypto_values, first_of, mikey_value}
use Rattle.sg_agreement.specs.Described.{described}
use Rattle.sg_agreement.specs.LineAnswers.{lines_matched}
use Rattle.sg_agreement.specs.Offers.{AgreedOffer, agreed_offer, chosen_in, keying_by_messages, keying_of}
use Rattle.sg_agreement.specs.TextLines.{HasNoMessage}
use Rattle.sg_base.specs.declared.faults.SdesFault.TheVariants.{Tag, Suite}
use Rattle.sg_sdes.specs.Answers.{matched, same_suite}
use Rattle.sg_sdes.specs.CryptoOf.{crypto_of}
use Rattle.sg_sdes.specs.Keys as lines
use Rattle.sg_sdp.specs.declared.medium.Medium as descriptions
use Rattle.std.specs.List.{find}
use Rattle.sg_gateway.proofs.Common.{AtHand, CryptoLine, FromSecure, IsMediumAt, Keying, Offer, PeerLines, Refusal, Secure, Side}
use Rattle.sg_gateway.proofs.Common.{after_ok, after_ok_is, each_active, if_active, is_active}
use Rattle.sg_gateway.proofs.Common.{none_some, ok_is}
use Rattle.sg_conduct.proofs.Drawn.{AllAt, some_at}
use Rattle.sg_conduct.proofs.Forth.{first_line}
use Rattle.sg_conduct.specs.Carried.{IsFirstLine}
use Rattle.sg_conduct.specs.Causes.{HasNoValue, IsFirstValue}

-- ---- the first crypto attribute

pub first_value : (lines : List (List ℕ)) (o : Option (List ℕ)) → first_of (filter_map (behind (codes "a=crypto:")) lines) ≡ o → (HasNoValue lines × (o ≡ None)) ⊎ ((value : List ℕ) × IsFirstValue lines value × (o ≡ Some value))
first_value [] o e = inl (tt, sym e)
first_value (line ∷ lines) o e = go (first_value lines o) (behind (codes "a=crypto:") line) refl e
  where
    Found : List (List ℕ) → Type 0
    Found ls = (HasNoValue ls × (o ≡ None)) ⊎ ((value : List ℕ) × IsFirstValue ls value × (o ≡ Some value))

    go : (first_of (filter_map (behind (codes "a=crypto:")) lines) ≡ o → Found lines) → (p : Option (List ℕ)) → behind (codes "a=crypto:") line ≡ p
        → first_of (cons_option p (filter_map (behind (codes "a=crypto:")) lines)) ≡ o → Found (line ∷ lines)
    go rest (Some value) is e = inr (value, ([], lines, ap (λ (x : List ℕ). x ∷ lines) (behind_is (codes "a=crypto:") line value is), tt), sym e)
    go rest None is e =
        let none : (value : List ℕ) → ¬ line ≡ codes "a=crypto:" ++ value = λ value same. none_some value (sym is ∙ ap (behind (codes "a=crypto:")) same) in
        elim (rest e) [
          | inl x ↦ inl ((none, x.0), x.1)
          | inr x ↦ inr (x.0, (line ∷ x.1.0, x.1.1, ap (λ (ls : List (List ℕ)). line ∷ ls) x.1.2, (none, x.1.3)), x.2)
        ]

-- behind lines that are none, it is the first that is read
none_read : (ls : List (List ℕ)) → HasNoValue ls → AllByRecursion (λ line. (v : List ℕ) (other : CryptoLine) → line ≡ codes "a=crypto:" ++ v → ¬ crypto_of v ≡ Ok other) ls
none_read [] none = tt
none_read (l ∷ ls) none = ((λ v other is said. none.0 v is), none_read ls none.1)

pub peer_matched : (offered : List CryptoLine) (value : List ℕ) (p : CryptoLine × CryptoLine) → matched offered value ≡ Ok p → crypto_of value ≡ Ok p.1
unfolding matched
peer_matched offered value p e =
    let a = bind_is (crypto_of value) _ p e in
    let b = bind_is (lines.or_fault Tag (find (λ l. eqb l.tag a.0.tag) offered)) _ p a.2 in
    a.1 ∙ ap (λ (p : CryptoLine × CryptoLine). Ok p.1) (if_same (same_suite b.0.suite a.0.suite) (b.0, a.0) p Suite b.2)

pub first_matched : (offered : List CryptoLine) (ls : List (List ℕ)) (p : CryptoLine × CryptoLine) → lines_matched offered (first_of (crypto_values ls)) ≡ Ok p → IsFirstLine ls p.1
unfolding crypto_values
first_matched offered ls p e = elim (first_value ls (first_of (filter_map (behind (codes "a=crypto:")) ls)) refl) [
  | inl none ↦ absurd (no_line (ap (lines_matched offered) (sym none.1) ∙ e))
  | inr x ↦ record {
    before = x.1.0;
    value = x.0;
    behind = x.1.1;
    parts = x.1.2;
    read = peer_matched offered x.0 p (ap (lines_matched offered) (sym x.2) ∙ e);
    none = none_read x.1.0 x.1.3;
  }
]
  where
    no_line : lines_matched offered None ≡ Ok p → ⊥
    no_line e = absurd cc

-- ---- media in their places

abbrev pub Placed : List descriptions.Medium → ℕ → List descriptions.Medium → Type 0
Placed all k ms = (j : ℕ) (m : descriptions.Medium) → IsMediumAt ms j m → IsMediumAt all (k + j) m

module _ (all : List descriptions.Medium) where
  pub at_start : Placed all 0 all
  at_start j m is = subst (λ i. IsMediumAt all i m) (let e : j ≡ 0 + j = omega arith in e) is

  pub at_head : (k : ℕ) (m : descriptions.Medium) (ms : List descriptions.Medium) → Placed all k (m ∷ ms) → IsMediumAt all k m
  at_head k m ms placed = subst (λ i. IsMediumAt all i m) (let e : k + 0 ≡ k = omega arith in e) (placed 0 m (omega arith, refl))

  pub at_rest : (k : ℕ) (m : descriptions.Medium) (ms : List descriptions.Medium) → Placed all k (m ∷ ms) → Placed all (k + 1) ms
  at_rest k m ms placed j n is = subst (λ i. IsMediumAt all i n) (let e : k + suc j ≡ k + 1 + j = omega arith in e) (placed (suc j) n ((let lt = is.0 in omega (arith, lt)), is.1))

  pub active_placed : {X : Type 0} (P : ℕ → X → Type 0) (side : Side) (value : ℕ → descriptions.Medium → Result X Refusal) → ((k : ℕ) (m : descriptions.Medium) (x : X) → IsMediumAt all k m → value k m ≡ Ok x → P k x)
      → (k : ℕ) (ms : List descriptions.Medium) (xs : List (Option X)) → Placed all k ms → each_active side value k ms ≡ Ok xs → AllAt P k xs
  active_placed P side value each k [] xs placed e = subst (AllAt P k) (ok_is [] xs e) tt
  active_placed P side value each k (m ∷ ms) xs placed e =
      let a = after_ok_is (if_active (is_active side m) (value k m)) _ xs e in
      let b = after_ok_is (each_active side value (k + 1) ms) _ xs a.2 in
      subst (AllAt P k) (ok_is (a.0 ∷ b.0) xs b.2)
      (some_at P k a.0 b.0 (λ x is. each k m x (at_head k m ms placed) (active_some (is_active side m) (value k m) x (a.1 ∙ ap Ok is)))
      (active_placed P side value each (k + 1) ms b.0 (at_rest k m ms placed) b.1))

-- ---- by lines

-- a line that is the first of the medium of this number
abbrev pub IsFirstAt : List descriptions.Medium → ℕ → CryptoLine → Type 0
IsFirstAt peers k l = (m : descriptions.Medium) × IsMediumAt peers k m × IsFirstLine m.lines l

-- the offer of the secure side, without a message
pub offer_first : (h : AtHand) (text : List ℕ) (a : AgreedOffer) → agreed_offer h FromSecure text ≡ Ok a → HasNoMessage a.offer.description
    → (ls : List (Option CryptoLine)) × (a.offer.keying ≡ PeerLines ls) × AllAt (IsFirstAt a.offer.description.media) 0 ls
unfolding agreed_offer
offer_first h text a e none =
    let p = after_ok_is (described Secure h.media text) _ a e in
    let q = after_ok_is (keying_of h p.0 FromSecure) _ a p.2 in
    let offered : Keying → Offer = λ k. record { side = Secure; description = p.0; keying = k } in
    let same : offered q.0 ≡ a.offer = ap (λ (a : AgreedOffer). a.offer) (ok_is _ a q.2) in
    let lines : Result Keying Refusal = after_ok (each_active Secure chosen_in 0 p.0.media) (λ ls. Ok (PeerLines ls)) in
    let no : HasNoMessage p.0 = subst (λ (o : Offer). HasNoMessage o.description) (sym same) none in
    let b = after_ok_is (each_active Secure chosen_in 0 p.0.media) _ q.0 (ap (λ b. cond b (keying_by_messages h p.0 (mikey_value p.0.session)) lines) (sym (has_none p.0 no)) ∙ q.1) in
    subst (λ (o : Offer). (ls : List (Option CryptoLine)) × (o.keying ≡ PeerLines ls) × AllAt (IsFirstAt o.description.media) 0 ls) same (
      b.0,
      sym (ok_is (PeerLines b.0) q.0 b.2),
      active_placed p.0.media (IsFirstAt p.0.media) Secure chosen_in (λ k m l at chosen. (m, at, first_line k m l chosen)) 0 p.0.media b.0 (at_start p.0.media) b.1,
    )
