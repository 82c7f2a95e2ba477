-- Names in outcome lines: each value has one.
use Rattle.std.proofs.Common.{◌≡◌, ℕ, Bool, true, false, List, [], ◌∷◌, Some, refl, inl, inr}
use Rattle.std.specs.List.{find, list_all}
use Rattle.std.specs.Str.{bytes_eq}
use Rattle.std.proofs.lemmas.Slice.Eq.{bytes_eq-Decides}
use Rattle.std.proofs.lemmas.Bool.{and_parts}
use Rattle.sg_base.specs.declared.Side.{Side}
use Rattle.sg_base.specs.declared.Side.TheVariants.{Secure, Plain}
use Rattle.sg_base.specs.declared.DropCause.{DropCause}
use Rattle.sg_base.specs.declared.DropCause.TheVariants as drops
use Rattle.sg_base.specs.declared.SdpFault.{SdpFault}
use Rattle.sg_base.specs.declared.SdpFault.TheVariants as sdp
use Rattle.sg_base.specs.declared.SdesFault.{SdesFault}
use Rattle.sg_base.specs.declared.SdesFault.TheVariants as sdes
use Rattle.sg_base.specs.declared.MikeyFault.{MikeyFault}
use Rattle.sg_base.specs.declared.MikeyFault.TheVariants as mikey
use Rattle.sg_base.specs.declared.PskFault.{PskFault}
use Rattle.sg_base.specs.declared.PskFault.TheVariants as psk
use Rattle.sg_base.specs.declared.CsFault.{CsFault}
use Rattle.sg_base.specs.declared.CsFault.TheVariants as cs
use Rattle.sg_base.specs.declared.Refusal.{Refusal}
use Rattle.sg_base.specs.declared.Refusal.TheVariants as refusals
use Rattle.sg_outcome.specs.declared.outcomes.Why.{Why}
use Rattle.sg_outcome.specs.declared.outcomes.Why.TheVariants.{Bye, Rejected, Idle}
use Rattle.sg_outcome.specs.OutcomeText.{side_name, why_name, drop_cause_name, sdp_fault_name, sdes_fault_name, mikey_fault_name, cs_fault_name}
use Rattle.sg_outcome.specs.OutcomeFields.{psk_fault_name, refusal_name}
use Rattle.sg_outcome.specs.OutcomeOf.{sides, side_at, whys, why_at, plain_drop_causes, plain_drop_cause_at, sdp_faults, sdp_fault_at, sdes_faults, sdes_fault_at, mikey_faults, mikey_fault_at, plain_psk_faults, plain_psk_fault_at, cs_faults, cs_fault_at, plain_refusals, plain_refusal_at}
use Rattle.sg_base.proofs.SuiteLemmas.{find_passes}
use Rattle.sg_base.proofs.Cases.{chosen}
use Rattle.sg_lines.proofs.Dense.{IsDense, dense_test}

-- what is found in a list has what all of the list have
pub find_holds : {A : Type 0} (p q : A → Bool) (xs : List A) (x : A) → find p xs ≡ Some x → list_all q xs ≡ true → q x ≡ true
find_holds p q [] x e all = absurd cc
find_holds p q (y ∷ ys) x e all =
    let parts = and_parts (q y) (list_all q ys) all in
    elim (chosen (p y) (Some y) (find p ys) (Some x) e) [
      | inl h ↦ let same : y ≡ x = cc in rw (← same) parts.0
      | inr h ↦ find_holds p q ys x h.1 parts.1
    ]

pub side_again : (x : Side) → side_at (side_name x) ≡ Some x
unfolding side_at
side_again Secure = refl
side_again Plain = refl

pub side_takes : (t : List ℕ) (x : Side) → side_at t ≡ Some x → t ≡ side_name x
unfolding side_at
side_takes t x e = (bytes_eq-Decides t (side_name x)).0 (find_passes (λ x. bytes_eq t (side_name x)) sides x e)

pub dense_side : (x : Side) → IsDense (side_name x)
dense_side Secure = dense_test (side_name Secure) refl
dense_side Plain = dense_test (side_name Plain) refl

pub why_again : (x : Why) → why_at (why_name x) ≡ Some x
unfolding why_at
why_again Bye = refl
why_again other = refl

pub why_takes : (t : List ℕ) (x : Why) → why_at t ≡ Some x → t ≡ why_name x
unfolding why_at
why_takes t x e = (bytes_eq-Decides t (why_name x)).0 (find_passes (λ x. bytes_eq t (why_name x)) whys x e)

pub dense_why : (x : Why) → IsDense (why_name x)
dense_why Bye = dense_test (why_name Bye) refl
dense_why other = dense_test (why_name other) refl

pub sdp_fault_again : (x : SdpFault) → sdp_fault_at (sdp_fault_name x) ≡ Some x
unfolding sdp_fault_at
sdp_fault_again sdp.Order = refl
sdp_fault_again other = refl

pub sdp_fault_takes : (t : List ℕ) (x : SdpFault) → sdp_fault_at t ≡ Some x → t ≡ sdp_fault_name x
unfolding sdp_fault_at
sdp_fault_takes t x e = (bytes_eq-Decides t (sdp_fault_name x)).0 (find_passes (λ x. bytes_eq t (sdp_fault_name x)) sdp_faults x e)

pub dense_sdp_fault : (x : SdpFault) → IsDense (sdp_fault_name x)
dense_sdp_fault sdp.Order = dense_test (sdp_fault_name sdp.Order) refl
dense_sdp_fault other = dense_test (sdp_fault_name other) refl

pub sdes_fault_again : (x : SdesFault) → sdes_fault_at (sdes_fault_name x) ≡ Some x
unfolding sdes_fault_at
sdes_fault_again sdes.NoLine = refl
sdes_fault_again other = refl

pub sdes_fault_takes : (t : List ℕ) (x : SdesFault) → sdes_fault_at t ≡ Some x → t ≡ sdes_fault_name x
unfolding sdes_fault_at
sdes_fault_takes t x e = (bytes_eq-Decides t (sdes_fault_name x)).0 (find_passes (λ x. bytes_eq t (sdes_fault_name x)) sdes_faults x e)

pub dense_sdes_fault : (x : SdesFault) → IsDense (sdes_fault_name x)
dense_sdes_fault sdes.NoLine = dense_test (sdes_fault_name sdes.NoLine) refl
dense_sdes_fault other = dense_test (sdes_fault_name other) refl

pub mikey_fault_again : (x : MikeyFault) → mikey_fault_at (mikey_fault_name x) ≡ Some x
unfolding mikey_fault_at
mikey_fault_again mikey.Cut = refl
mikey_fault_again other = refl

pub mikey_fault_takes : (t : List ℕ) (x : MikeyFault) → mikey_fault_at t ≡ Some x → t ≡ mikey_fault_name x
unfolding mikey_fault_at
mikey_fault_takes t x e = (bytes_eq-Decides t (mikey_fault_name x)).0 (find_passes (λ x. bytes_eq t (mikey_fault_name x)) mikey_faults x e)

pub dense_mikey_fault : (x : MikeyFault) → IsDense (mikey_fault_name x)
dense_mikey_fault mikey.Cut = dense_test (mikey_fault_name mikey.Cut) refl
dense_mikey_fault other = dense_test (mikey_fault_name other) refl

pub cs_fault_again : (x : CsFault) → cs_fault_at (cs_fault_name x) ≡ Some x
unfolding cs_fault_at
cs_fault_again cs.CsCount = refl
cs_fault_again other = refl

pub cs_fault_takes : (t : List ℕ) (x : CsFault) → cs_fault_at t ≡ Some x → t ≡ cs_fault_name x
unfolding cs_fault_at
cs_fault_takes t x e = (bytes_eq-Decides t (cs_fault_name x)).0 (find_passes (λ x. bytes_eq t (cs_fault_name x)) cs_faults x e)

pub dense_cs_fault : (x : CsFault) → IsDense (cs_fault_name x)
dense_cs_fault cs.CsCount = dense_test (cs_fault_name cs.CsCount) refl
dense_cs_fault other = dense_test (cs_fault_name other) refl

-- it has no numbers
abbrev pub is_plain_drop_cause : DropCause → Bool
is_plain_drop_cause (drops.KeySpent number count) = false
is_plain_drop_cause other = true

pub plain_drop_cause_again : (x : DropCause) → is_plain_drop_cause x ≡ true → plain_drop_cause_at (drop_cause_name x) ≡ Some x
unfolding plain_drop_cause_at
plain_drop_cause_again (drops.KeySpent number count) e = absurd cc
plain_drop_cause_again other e = refl

pub plain_drop_cause_takes : (t : List ℕ) (x : DropCause) → plain_drop_cause_at t ≡ Some x → (t ≡ drop_cause_name x) × (is_plain_drop_cause x ≡ true)
unfolding plain_drop_cause_at
plain_drop_cause_takes t x e =
    ((bytes_eq-Decides t (drop_cause_name x)).0 (find_passes (λ x. bytes_eq t (drop_cause_name x)) plain_drop_causes x e), find_holds (λ x. bytes_eq t (drop_cause_name x)) is_plain_drop_cause plain_drop_causes x e refl)

pub dense_drop_cause : (x : DropCause) → IsDense (drop_cause_name x)
dense_drop_cause drops.Short = dense_test (drop_cause_name drops.Short) refl
dense_drop_cause other = dense_test (drop_cause_name other) refl

-- it has no numbers
abbrev pub is_plain_psk_fault : PskFault → Bool
is_plain_psk_fault (psk.Skew stamp now) = false
is_plain_psk_fault other = true

pub plain_psk_fault_again : (x : PskFault) → is_plain_psk_fault x ≡ true → plain_psk_fault_at (psk_fault_name x) ≡ Some x
unfolding plain_psk_fault_at
plain_psk_fault_again (psk.Skew stamp now) e = absurd cc
plain_psk_fault_again other e = refl

pub plain_psk_fault_takes : (t : List ℕ) (x : PskFault) → plain_psk_fault_at t ≡ Some x → (t ≡ psk_fault_name x) × (is_plain_psk_fault x ≡ true)
unfolding plain_psk_fault_at
plain_psk_fault_takes t x e =
    ((bytes_eq-Decides t (psk_fault_name x)).0 (find_passes (λ x. bytes_eq t (psk_fault_name x)) plain_psk_faults x e), find_holds (λ x. bytes_eq t (psk_fault_name x)) is_plain_psk_fault plain_psk_faults x e refl)

pub dense_psk_fault : (x : PskFault) → IsDense (psk_fault_name x)
dense_psk_fault psk.IdUnknown = dense_test (psk_fault_name psk.IdUnknown) refl
dense_psk_fault other = dense_test (psk_fault_name other) refl

-- it has no numbers
abbrev pub is_plain_refusal : Refusal → Bool
is_plain_refusal (refusals.Sdp line fault) = false
is_plain_refusal (refusals.Sdes medium fault) = false
is_plain_refusal (refusals.Mikey medium offset fault) = false
is_plain_refusal (refusals.Psk medium fault) = false
is_plain_refusal (refusals.Cs medium fault) = false
is_plain_refusal (refusals.KeyMgmt medium) = false
is_plain_refusal (refusals.KeyReused number) = false
is_plain_refusal (refusals.TickBack last) = false
is_plain_refusal other = true

pub plain_refusal_again : (x : Refusal) → is_plain_refusal x ≡ true → plain_refusal_at (refusal_name x) ≡ Some x
unfolding plain_refusal_at
plain_refusal_again (refusals.Sdp line fault) e = absurd cc
plain_refusal_again (refusals.Sdes medium fault) e = absurd cc
plain_refusal_again (refusals.Mikey medium offset fault) e = absurd cc
plain_refusal_again (refusals.Psk medium fault) e = absurd cc
plain_refusal_again (refusals.Cs medium fault) e = absurd cc
plain_refusal_again (refusals.KeyMgmt medium) e = absurd cc
plain_refusal_again (refusals.KeyReused number) e = absurd cc
plain_refusal_again (refusals.TickBack last) e = absurd cc
plain_refusal_again other e = refl

pub plain_refusal_takes : (t : List ℕ) (x : Refusal) → plain_refusal_at t ≡ Some x → (t ≡ refusal_name x) × (is_plain_refusal x ≡ true)
unfolding plain_refusal_at
plain_refusal_takes t x e =
    ((bytes_eq-Decides t (refusal_name x)).0 (find_passes (λ x. bytes_eq t (refusal_name x)) plain_refusals x e), find_holds (λ x. bytes_eq t (refusal_name x)) is_plain_refusal plain_refusals x e refl)

pub dense_refusal : (x : Refusal) → IsDense (refusal_name x)
dense_refusal (refusals.Sdp line fault) = dense_test (refusal_name (refusals.Sdp line fault)) refl
dense_refusal other = dense_test (refusal_name other) refl
