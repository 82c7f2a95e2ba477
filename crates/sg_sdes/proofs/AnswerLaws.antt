-- Choosing a line, value by value.
use Rattle.std.proofs.Common.{◌≡◌, ◌≢◌, ℕ, ◌+◌, ◌^◌, ◌<◌, ◌≤◌, List, [], ◌∷◌, Bool, true, None, length, drop, get_or, Result, Ok, Err, refl, sym, ◌∙◌, arith}
use Rattle.std.specs.Prelude.{IfOk, IfErr}
use Rattle.std.specs.List.{AllByRecursion}
use Rattle.std.proofs.Math.ListN.{drop_of_length-le}
use Rattle.base64.specs.GeneralPurpose.{IsBytes}
use Rattle.sg_base.specs.declared.Suite as suites
use Rattle.sg_base.specs.declared.Suite.TheVariants.{Raw80}
use Rattle.sg_base.specs.Keys.{master_of}
use Rattle.sg_base.specs.Suites.{key_len_of, salt_len_of}
use Rattle.sg_base.specs.declared.SdesFault.{SdesFault}
use Rattle.sg_base.specs.declared.SdesFault.TheVariants.{NoLine}
use Rattle.sg_sdes.specs.declared.lines.CryptoLine.{CryptoLine}
use Rattle.sg_base.proofs.Lists.{split_here}
use Rattle.sg_sdes.specs.Answers.{chosen_of, or_next, IsUnread, fresh_line}
use Rattle.sg_sdes.specs.CryptoOf.{crypto_of}
use Rattle.sg_sdes.specs.CryptoText.{IsCryptoLine}
use Rattle.sg_sdes.specs.Keys.{all_differ}
use Rattle.sg_sdes.proofs.ValidLaws.{crypto_valid, made_key, inline_made, longest}

pub is_read : (vs : List (List ℕ)) (i : ℕ) (v : List ℕ) (l : CryptoLine) (total : Result CryptoLine SdesFault) → i < length vs → v ≡ get_or vs i v → Ok l ≡ crypto_of v
    → chosen_of (drop i vs) ≡ total → Ok l ≡ total
unfolding chosen_of
is_read vs i v l total lt is e so_far = let step : chosen_of (drop i vs) ≡ Ok l = rw (split_here vs i v lt is, ← e) refl in sym step ∙ so_far

pub not_read : (vs : List (List ℕ)) (i : ℕ) (v : List ℕ) (f : SdesFault) (total : Result CryptoLine SdesFault) → i < length vs → v ≡ get_or vs i v → Err f ≡ crypto_of v
    → chosen_of (drop i vs) ≡ total → chosen_of (drop (i + 1) vs) ≡ total
unfolding chosen_of
not_read vs i v f total lt is e so_far = let step : chosen_of (drop i vs) ≡ chosen_of (drop (i + 1) vs) = rw (split_here vs i v lt is, ← e) refl in sym step ∙ so_far

pub none_read : (vs : List (List ℕ)) (i : ℕ) (total : Result CryptoLine SdesFault) → length vs ≤ i → chosen_of (drop i vs) ≡ total → Err NoLine ≡ total
unfolding chosen_of
none_read vs i total le so_far = let step : chosen_of (drop i vs) ≡ Err NoLine = rw (drop_of_length-le vs le) refl in sym step ∙ so_far

-- ---- what is chosen

ok_step : (v : List ℕ) (r s : Result CryptoLine SdesFault) (l : CryptoLine) → crypto_of v ≡ r → (s ≡ Ok l → IsCryptoLine l) → or_next r s ≡ Ok l → IsCryptoLine l
ok_step v (Ok m) s l is rest e = crypto_valid v l (is ∙ e)
ok_step v (Err f) s l is rest e = rest e

chosen_valid : (vs : List (List ℕ)) (l : CryptoLine) → chosen_of vs ≡ Ok l → IsCryptoLine l
unfolding chosen_of
chosen_valid [] l e = absurd cc
chosen_valid (v ∷ vs) l e = ok_step v (crypto_of v) (chosen_of vs) l refl (chosen_valid vs l) e

unread : (v : List ℕ) (f : SdesFault) → crypto_of v ≡ Err f → IsUnread v
unread v f e l is = no (sym e ∙ is)
  where
    no : Err f ≡ Ok l → ⊥
    no e = cc

err_step : (v : List ℕ) (r s : Result CryptoLine SdesFault) (f : SdesFault) (rest : Type 0) → crypto_of v ≡ r → (s ≡ Err f → (f ≡ NoLine) × rest) → or_next r s ≡ Err f
    → (f ≡ NoLine) × (IsUnread v × rest)
err_step v (Ok m) s f rest is more e = absurd cc
err_step v (Err g) s f rest is more e = let m = more e in (m.0, (unread v g is, m.1))

chosen_none : (vs : List (List ℕ)) (f : SdesFault) → chosen_of vs ≡ Err f → (f ≡ NoLine) × AllByRecursion IsUnread vs
unfolding chosen_of
chosen_none [] f e = let same : NoLine ≡ f = cc in (sym same, tt)
chosen_none (v ∷ vs) f e = err_step v (crypto_of v) (chosen_of vs) f (AllByRecursion IsUnread vs) refl (chosen_none vs f) e

pub choice_valid : (vs : List (List ℕ)) (r : Result CryptoLine SdesFault) → r ≡ chosen_of vs → IfOk r IsCryptoLine
choice_valid vs (Ok l) e = chosen_valid vs l (sym e)
choice_valid vs (Err f) e = tt

pub choice_none : (vs : List (List ℕ)) (r : Result CryptoLine SdesFault) → r ≡ chosen_of vs → IfErr r (λ f. (f ≡ NoLine) × AllByRecursion IsUnread vs)
choice_none vs (Ok l) e = tt
choice_none vs (Err f) e = chosen_none vs f (sym e)

-- ---- the gateway's own lines

one_differs : (k : _) → all_differ (k ∷ []) ≡ true
unfolding all_differ
one_differs k = refl

pub fresh_valid : (tag : ℕ) (suite : suites.Suite) (octets : List ℕ) (rtp rtcp : Bool) → tag < 10 ^ 9 → suite ≢ Raw80 → IsBytes octets → length octets ≡ key_len_of suite + salt_len_of suite
    → IsCryptoLine (fresh_line tag suite octets rtp rtcp)
fresh_valid tag suite octets rtp rtcp small other bytes size = record {
  tag = small;
  suite = other;
  some = omega arith;
  few = omega arith;
  keys = (inline_made suite (master_of suite octets) (2 ^ 48) None (made_key suite octets bytes size) longest tt, tt);
  mkis = one_differs _;
  window = tt;
}
