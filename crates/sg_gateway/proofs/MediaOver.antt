-- What holds of each medium that is agreed by a message, in the order of those that are active in the offer.
use Rattle.std.proofs.Common.{◌≡◌, ℕ, ◌+◌, Bool, true, false, cond, ◌&&◌, List, [], ◌∷◌, Option, Some, None, Result, Ok, refl, ap, ◌∙◌, subst}
use Rattle.std.specs.Option.{option_map}
use Rattle.sg_agreement.proofs.TextLines.{kept_some}
use Rattle.sg_agreement.specs.MessageAnswers.{next_if, over_active}
use Rattle.sg_sdp.specs.declared.medium.Medium as descriptions
use Rattle.sg_gateway.proofs.Common.{Keyed, Medium, Refusal, Side, StreamKeys, actives_after, after_ok, after_ok_is, each_kept, if_kept, is_active}
use Rattle.sg_gateway.proofs.Common.{media_agreed, medium_agreed, none_some, ok_is, other_side, some_is}
use Rattle.sg_gateway.proofs.CryptoSessions.{EachFrom}

-- Of media side by side, those of the offer, of the answer and of what is told: what holds of each that is agreed, behind so
-- many others that are active in the offer.
abbrev pub MediaFrom : Side → (ℕ → descriptions.Medium → descriptions.Medium → descriptions.Medium → Medium → Type 0) → ℕ
    → List descriptions.Medium → List descriptions.Medium → List descriptions.Medium → List (Option Medium) → Type 0
MediaFrom side Q others ms ns ts [] = Unit {0}
MediaFrom side Q others (m ∷ ms) (n ∷ ns) (t ∷ ts) (x ∷ xs) = ((y : Medium) → x ≡ Some y → Q others m n t y) × MediaFrom side Q (cond (is_active side m) (others + 1) others) ms ns ts xs
MediaFrom side Q others _ _ _ (x ∷ xs) = ⊥

-- what holds of each that is active in the offer
abbrev pub SaidFrom : Side → (ℕ → descriptions.Medium → descriptions.Medium → Type 0) → ℕ → List descriptions.Medium → List descriptions.Medium → Type 0
SaidFrom side R others [] ns = Unit {0}
SaidFrom side R others (m ∷ ms) [] = Unit {0}
SaidFrom side R others (m ∷ ms) (n ∷ ns) = (is_active side m ≡ true → R others m n) × SaidFrom side R (cond (is_active side m) (others + 1) others) ms ns

-- What both sides send in each medium that is active in the offer, and what is said of it, give what holds of it where it is
-- agreed.
module _ (side : Side) (P : ℕ → StreamKeys × StreamKeys → Type 0) (key : StreamKeys × StreamKeys → descriptions.Medium → Keyed) (R : ℕ → descriptions.Medium → descriptions.Medium → Type 0)
    (Q : ℕ → descriptions.Medium → descriptions.Medium → descriptions.Medium → Medium → Type 0)
    (gives : (others : ℕ) (m n t : descriptions.Medium) (p : StreamKeys × StreamKeys) → P others p → R others m n → Q others m n t (medium_agreed side (key p n) m n)) where
  abbrev keyed : ℕ → StreamKeys × StreamKeys → descriptions.Medium → Result Keyed Refusal
  keyed k p n = Ok (key p n)

  one_kept : (others k : ℕ) (m n t : descriptions.Medium) (on : Bool) (p : StreamKeys × StreamKeys) (y : Option Keyed) (x : Medium) → P others p → R others m n → if_kept on (Some p) (λ p. keyed k p n) ≡ Ok y
      → option_map (λ k. medium_agreed side k m n) y ≡ Some x → Q others m n t x
  one_kept others k m n t on p None x is said e f = absurd cc
  one_kept others k m n t on p (Some y) x is said e f =
      let v = kept_some on (Some p) (λ p. keyed k p n) y e in
      let same : key p n ≡ y = ap (λ p. key p n) (some_is p v.0 v.1) ∙ ok_is (key v.0 n) y v.2 in
      subst (Q others m n t) (ap (λ y. medium_agreed side y m n) same ∙ some_is (medium_agreed side y m n) x f) (gives others m n t p is said)

  none_kept : (k : ℕ) (m n : descriptions.Medium) (on : Bool) (y : Option Keyed) (x : Medium) → if_kept {X = StreamKeys × StreamKeys} on None (λ p. keyed k p n) ≡ Ok y
      → option_map (λ k. medium_agreed side k m n) y ≡ Some x → ⊥
  none_kept k m n on None x e f = absurd cc
  none_kept k m n on (Some y) x e f = let v = kept_some on None (λ p. keyed k p n) y e in none_some v.0 v.1

  pub media_over : (others k : ℕ) (ms ns : List descriptions.Medium) (streams : List (StreamKeys × StreamKeys)) (ys : List (Option Keyed)) → EachFrom P others streams → SaidFrom side R others ms ns
      → each_kept keyed k (actives_after side ms ns) (over_active side ms streams) ns ≡ Ok ys → MediaFrom side Q others ms ns ns (media_agreed side ms ns ys)
  media_over others k [] ns streams ys are said e = tt
  media_over others k (m ∷ ms) [] streams ys are said e = tt
  media_over others k (m ∷ ms) (n ∷ ns) streams ys are said e =
      one_more ys (go (λ others streams ys are said e. media_over others (k + 1) ms ns streams ys are said e) (is_active side m) streams are said e)
    where
      Rest : Type 0
      Rest = (others : ℕ) (streams : List (StreamKeys × StreamKeys)) (ys : List (Option Keyed)) → EachFrom P others streams → SaidFrom side R others ms ns
          → each_kept keyed (k + 1) (actives_after side ms ns) (over_active side ms streams) ns ≡ Ok ys → MediaFrom side Q others ms ns ns (media_agreed side ms ns ys)

      Is : Bool → List (Option Keyed) → Type 0
      Is b [] = Unit {0}
      Is b (y ∷ ys) = ((x : Medium) → option_map (λ k. medium_agreed side k m n) y ≡ Some x → Q others m n n x) × MediaFrom side Q (cond b (others + 1) others) ms ns ns (media_agreed side ms ns ys)

      one_more : (ys : List (Option Keyed)) → Is (is_active side m) ys → MediaFrom side Q others (m ∷ ms) (n ∷ ns) (n ∷ ns) (media_agreed side (m ∷ ms) (n ∷ ns) ys)
      one_more [] is = tt
      one_more (y ∷ ys) is = is

      others_too : List (StreamKeys × StreamKeys) → Option Keyed → Result (List (Option Keyed)) Refusal
      others_too streams y = after_ok (each_kept keyed (k + 1) (actives_after side ms ns) (over_active side ms streams) ns) (λ ys. Ok (y ∷ ys))

      answer_on : Bool
      answer_on = is_active (other_side side) n

      go : Rest → (b : Bool) (streams : List (StreamKeys × StreamKeys)) → EachFrom P others streams → (b ≡ true → R others m n) × SaidFrom side R (cond b (others + 1) others) ms ns
          → each_kept keyed k ((b && answer_on) ∷ actives_after side ms ns) (next_if b streams (over_active side ms)) (n ∷ ns) ≡ Ok ys → Is b ys
      go rest true (p ∷ streams) are said e =
          let a = after_ok_is (if_kept answer_on (Some p) (λ x. keyed k x n)) (others_too streams) ys e in
          let b = after_ok_is (each_kept keyed (k + 1) (actives_after side ms ns) (over_active side ms streams) ns) (λ ys. Ok (a.0 ∷ ys)) ys a.2 in
          subst (Is true) (ok_is (a.0 ∷ b.0) ys b.2)
          ((λ x f. one_kept others k m n n answer_on p a.0 x are.0 (said.0 refl) a.1 f), rest (others + 1) streams b.0 are.1 said.1 b.1)
      go rest true [] are said e =
          let a = after_ok_is (if_kept {X = StreamKeys × StreamKeys} answer_on None (λ x. keyed k x n)) (others_too []) ys e in
          let b = after_ok_is (each_kept keyed (k + 1) (actives_after side ms ns) (over_active side ms []) ns) (λ ys. Ok (a.0 ∷ ys)) ys a.2 in
          subst (Is true) (ok_is (a.0 ∷ b.0) ys b.2)
          ((λ x f. absurd (none_kept k m n answer_on a.0 x a.1 f)), rest (others + 1) [] b.0 tt said.1 b.1)
      go rest false streams are said e =
          let a = after_ok_is (if_kept {X = StreamKeys × StreamKeys} false None (λ x. keyed k x n)) (others_too streams) ys e in
          let b = after_ok_is (each_kept keyed (k + 1) (actives_after side ms ns) (over_active side ms streams) ns) (λ ys. Ok (a.0 ∷ ys)) ys a.2 in
          subst (Is false) (ok_is (a.0 ∷ b.0) ys b.2)
          ((λ x f. absurd (none_kept k m n false a.0 x a.1 f)), rest others streams b.0 are said.1 b.1)
