-- A packet that can be sealed is sealed.
use Rattle.std.proofs.Common.{◌≡◌, ◌⊎◌, inl, inr, ℕ, ◌+◌, ◌<◌, Bool, true, false, cond, not, List, [], ◌∷◌, Option, Some, None, Result, Ok, Err, refl, sym, ap, ◌∙◌, arith, ltb}
use Rattle.std.proofs.lemmas.Bool.{cond-true, lt-ltb, false≢true}
use Rattle.std.specs.List.{Any}
use Rattle.sg_base.specs.declared.addresses.Kind.{Kind}
use Rattle.sg_base.specs.declared.addresses.Kind.TheVariants.{Rtp, Rtcp}
use Rattle.sg_base.specs.declared.faults.DropCause.{DropCause}
use Rattle.sg_base.specs.declared.faults.DropCause.TheVariants as cause
use Rattle.sg_session.specs.Opening.{Head, of_rtp, of_rtcp, if_new, fresh_index}
use Rattle.sg_session.specs.Reach.{HasHeadAt, IsNext, IsFree, CanBeSealed, IsSound, taken_under}
use Rattle.sg_session.specs.Sealing.{head_out, head_out_of_kind, sealing_key, next_after, number_out, number_of_kind, seals}
use Rattle.sg_session.specs.Session.{Key, Session, admits, has_room, is_live, count_of, indices_of, highest_in, with_cause, nearest_from}
use Rattle.sg_session.specs.Stages.{after_ok}
use Rattle.sg_session.proofs.Inversions.{stop_if_of, after_ok_of}
use Rattle.sg_session.proofs.Leaves.{fresh_parts}
use Rattle.sg_session.proofs.Lists.{any_none, any_cases, any_here, any_there, any_weaker}
use Rattle.sg_session.proofs.ReadBack.{near}

-- the first live key seals
first_live : (s : Session) (ks : List Key) → Any (λ k. is_live s k ≡ true) ks → Any (λ k. (is_live s k ≡ true) × (sealing_key s ks ≡ Ok k)) ks
first_live s [] a = absurd (any_none (λ k. is_live s k ≡ true) a)
first_live s (x ∷ []) a = go (is_live s x) refl (any_cases (λ k. is_live s k ≡ true) x [] a)
  where
    go : (b : Bool) → is_live s x ≡ b → (is_live s x ≡ true) ⊎ Any (λ k. is_live s k ≡ true) []
        → Any (λ k. (is_live s k ≡ true) × (cond b (Ok x) (Err (cause.KeySpent x.number (count_of s x))) ≡ Ok k)) (x ∷ [])
    go true is one = any_here _ x [] (is, refl)
    go false is (inl live) = absurd (false≢true (sym is ∙ live))
    go false is (inr none) = absurd (any_none (λ k. is_live s k ≡ true) none)
first_live s (x ∷ y ∷ ks) a = go (λ more. first_live s (y ∷ ks) more) (is_live s x) refl (any_cases (λ k. is_live s k ≡ true) x (y ∷ ks) a)
  where
    go : (Any (λ k. is_live s k ≡ true) (y ∷ ks) → Any (λ k. (is_live s k ≡ true) × (sealing_key s (y ∷ ks) ≡ Ok k)) (y ∷ ks)) → (b : Bool) → is_live s x ≡ b
        → (is_live s x ≡ true) ⊎ Any (λ k. is_live s k ≡ true) (y ∷ ks) → Any (λ k. (is_live s k ≡ true) × (cond b (Ok x) (sealing_key s (y ∷ ks)) ≡ Ok k)) (x ∷ (y ∷ ks))
    go rest true is one = any_here _ x (y ∷ ks) (is, refl)
    go rest false is (inl live) = absurd (false≢true (sym is ∙ live))
    go rest false is (inr more) = any_there _ x (y ∷ ks) (rest more)

next_of : (index : ℕ) (o : Option ℕ) → index < 2147483648 → IsNext index o → next_after o ≡ Ok index
next_of index None low is = ap (λ n. let r : Result ℕ DropCause = Ok n in r) (sym is)
next_of index (Some h) low is =
    cond-true (ltb h 2147483647) (Ok (h + 1)) (Err cause.RtcpIndexSpent) (lt-ltb _ _ (omega (arith, low, is)))
    ∙ ap (λ n. let r : Result ℕ DropCause = Ok n in r) (sym is)

-- the head of such a packet, and its index
numbered : (s : Session) (ssrc index : ℕ) (p : List ℕ) (K : Kind) → IsSound s → HasHeadAt K ssrc index p → IsFree K s ssrc index
    → (h : Head) × (head_out_of_kind K s p ≡ Ok h) × (h.ssrc ≡ ssrc) × (number_of_kind K s h ≡ Ok index)
numbered s ssrc index p Rtp sound head free =
    let source = head.1.2 in
    let seq = head.1.3 in
    let in_window = (fresh_parts s.window (indices_of s.done ssrc) index free.1).0 in (
      record { size = head.1.0.length; ssrc = head.1.0.ssrc; number = head.1.0.seq; encrypted = s.encrypts },
      ap (of_rtp s.encrypts) head.1.1,
      source,
      (λ i. after_ok (with_cause (nearest_from s.roc (seq i) (highest_in s (source i)))) (fresh_index s (source i)))
          ∙ ap (λ r. after_ok (with_cause r) (fresh_index s ssrc)) (near s.roc s.window index (highest_in s ssrc) sound.window head.0 free.0 in_window)
          ∙ ap (if_new index) free.1,
    )
numbered s ssrc index p Rtcp sound head free =
    let source = head.1.2 in (
      record { size = 8; ssrc = head.1.0.ssrc; number = 0; encrypted = s.encrypts },
      ap (of_rtcp 0 s.encrypts) head.1.1,
      source,
      ap (λ n. next_after (highest_in s n)) source ∙ next_of index (highest_in s ssrc) head.0 free,
    )

pub can_seal : (s : Session) (ssrc index : ℕ) (p : List ℕ) → IsSound s → CanBeSealed s ssrc index p
    → Any (λ k. (is_live s k ≡ true) × (seals s p ≡ Ok (taken_under k ssrc index p))) s.keys
can_seal s ssrc index p sound can =
    let of_head = numbered s ssrc index p s.name.kind sound can.head can.free in
    let h : Head = of_head.0 in
    let source : h.ssrc ≡ ssrc = of_head.2 in
    any_weaker _ _ (λ k is. (
      is.0,
      after_ok_of (head_out s p) _ h of_head.1
          ∙ stop_if_of (not (admits s h.ssrc)) cause.SsrcUnknown _ (ap (λ n. not (admits s n)) source ∙ ap not can.admitted)
          ∙ stop_if_of (not (has_room s h.ssrc)) cause.StreamsFull _ (ap (λ n. not (has_room s n)) source ∙ ap not can.room)
          ∙ after_ok_of (sealing_key s s.keys) _ k is.1
          ∙ after_ok_of (number_out s h) _ index of_head.3
          ∙ ap (λ n. Ok (taken_under k n index p)) source,
    )) s.keys (first_live s s.keys can.live)
