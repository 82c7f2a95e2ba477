-- The steps of opening are those of the definitions of a session.
use Rattle.std.proofs.Common.{◌≡◌, ℕ, ◌+◌, Bool, true, false, not, List, [], ◌∷◌, length, map, take, Some, Result, Ok, Err, refl, ap, sym, ◌∙◌, inl, inr}
use Rattle.std.specs.Prelude.{nat_lt}
use Rattle.std.proofs.lemmas.Bool.{cases_Bool}
use Rattle.sg_base.specs.Octets.{same_octets}
use Rattle.sg_base.specs.declared.addresses.Kind.{Kind}
use Rattle.sg_base.specs.declared.addresses.Kind.TheVariants.{Rtp, Rtcp}
use Rattle.sg_base.specs.declared.faults.DropCause.{DropCause}
use Rattle.sg_base.specs.declared.faults.DropCause.TheVariants as cause
use Rattle.sg_hmac.specs.Hmac.{hmac_sha1}
use Rattle.sg_keys.specs.Live.{Live, mki_len as live_mki_len}
use Rattle.sg_keys.specs.KeySet.{chosen_if}
use Rattle.sg_keys.specs.Stands.{live, live_key}
use Rattle.sg_session.specs.Opening.{Head, Check, covered_of_kind, fresh_index, head_in, head_of_kind, half_in, key_with, mki_in, mki_len, mki_len_of, opened_if, opens, packet_of, part_of_kind, place_in, place_of_kind, tag_fits, tag_in, taken_by}
use Rattle.sg_session.specs.Sealed.{crypted}
use Rattle.sg_session.specs.Session.{Key, Done, Session, admits, count_of, has_room, index_in, indices_of, is_live}
use Rattle.sg_session.specs.Stages.{after_ok, stop_if}
use Rattle.sg_states.specs.Choosing.{chosen_for, usable_in, with_key_cause}
use Rattle.sg_states.specs.Inbound.{packet_at}
use Rattle.sg_states.specs.Parts.{covered_by, prefix_of, heading, heading_of, part_of, tag_fits_at}
use Rattle.sg_states.specs.Placing.{placed}
use Rattle.sg_states.specs.Steps.{done_of, heading_in, key_step, opening_steps, place_step, tag_step}

-- ---- keys
pub mki_len_is : (s : Session) (ks : List Key) → live_mki_len (map (live_key s) ks) ≡ mki_len_of ks
mki_len_is s [] = refl
mki_len_is s (k ∷ ks) = refl

abbrev pub live_result : Session → Result Key DropCause → Result Live DropCause
live_result s (Ok k) = Ok (live_key s k)
live_result s (Err c) = Err c

alive_is : (s : Session) (k : Key) → with_key_cause (chosen_if (Some (live_key s k))) ≡ live_result s (stop_if (not (is_live s k)) (cause.KeySpent k.number (count_of s k)) (Ok k))
alive_is s k = elim (cases_Bool (is_live s k)) [
  | inl y ↦ rw y refl
  | inr n ↦ rw n refl
]

pub chosen_is : (s : Session) (ks : List Key) (mki : List ℕ) → chosen_for (map (live_key s) ks) mki ≡ live_result s (usable_in s ks mki)
chosen_is s [] mki = refl
chosen_is s (k ∷ ks) mki = elim (cases_Bool (same_octets k.mki mki)) [
  | inl y ↦ rw y (alive_is s k)
  | inr n ↦ rw n (chosen_is s ks mki)
]

-- ---- heads
heading_kind : (kind : Kind) (s : Session) (d : List ℕ) → s.name.kind ≡ kind → heading_of kind s.encrypts (mki_len s) s.tag_len d ≡ head_of_kind kind s d
heading_kind Rtp s d e = rw e refl
heading_kind Rtcp s d e = rw e refl

pub heading_is : (s : Session) (d : List ℕ) → heading s.name.kind s.encrypts (mki_len s) s.tag_len d ≡ head_in s d
heading_is s d = ap (λ r. stop_if (nat_lt (length d) (12 + (mki_len s + s.tag_len))) cause.Short r) (heading_kind s.name.kind s d refl)

module _ (s : Session) (F : Key → Result Check DropCause) where
  abbrev pub spent_or : Key → Result Check DropCause
  spent_or k = stop_if (not (is_live s k)) (cause.KeySpent k.number (count_of s k)) (F k)

  abbrev pub spent_only : Key → Result Key DropCause
  spent_only k = stop_if (not (is_live s k)) (cause.KeySpent k.number (count_of s k)) (Ok k)

abbrev pub placed_check : Session → Head → Key → Result Check DropCause
placed_check s h k = after_ok (place_in s h) (λ i. after_ok (fresh_index s h.ssrc i) (λ j. Ok (record { key = k; head = h; index = j })))

-- ---- the place of a keyed datagram
pub after_twice : {X Y Z : Type 0} (r : Result X DropCause) (f : X → Result Y DropCause) (g : Y → Result Z DropCause) → after_ok r (λ x. after_ok (f x) g) ≡ after_ok (after_ok r f) g
after_twice (Ok x) f g = refl
after_twice (Err c) f g = refl

pub placed_kind : (kind : Kind) (s : Session) (h : Head) (g : ℕ → Result Check DropCause)
    → after_ok (place_of_kind kind s h) (λ i. after_ok (fresh_index s h.ssrc i) g) ≡ after_ok (placed kind s.roc s.window (indices_of s.done h.ssrc) h.number) g
placed_kind Rtp s h g = after_twice (index_in s h.ssrc h.number) (fresh_index s h.ssrc) g
placed_kind Rtcp s h g = refl

-- ---- the tag and the packet
pub covered_is : (kind : Kind) (s : Session) (k : Check) (d : List ℕ) → covered_by kind k.index (prefix_of (mki_len s) s.tag_len d) ≡ covered_of_kind kind s k d
covered_is Rtp s k d = refl
covered_is Rtcp s k d = refl

pub part_is : (kind : Kind) (s : Session) (d : List ℕ) → part_of kind (mki_len s) s.tag_len d ≡ part_of_kind kind s d
part_is Rtp s d = refl
part_is Rtcp s d = refl

pub fits_is : (s : Session) (d : List ℕ) (k : Check) → tag_fits_at s.name.kind (mki_len s) s.tag_len k.index d (half_in s k.key).auth ≡ tag_fits s k d
fits_is s d k = ap (λ text. same_octets (tag_in s d) (take s.tag_len (hmac_sha1 (half_in s k.key).auth text))) (covered_is s.name.kind s k d)

pub packet_is : (s : Session) (d : List ℕ) (k : Check) → packet_at (heading_in s d k.head) k.head.encrypted (half_in s k.key) k.index ≡ packet_of s k d
packet_is s d k = ap (λ p. crypted k.head.encrypted (half_in s k.key) k.head.ssrc k.index k.head.size p) (part_is s.name.kind s d)

-- ---- step by step
abbrev check_of : Head → Key → ℕ → Check
check_of h k i = record { key = k; head = h; index = i }

abbrev done_then : Bool → Bool → Done → Result Done DropCause
done_then fits room done = stop_if (not fits) cause.BadTag (stop_if (not room) cause.StreamsFull (Ok done))

done_is : (s : Session) (d : List ℕ) (k : Check) (fits room : Bool)
    → done_then fits room (taken_by s d k).done ≡ done_of (stop_if (not fits) cause.BadTag (stop_if (not room) cause.StreamsFull (Ok (taken_by s d k))))
done_is s d k false room = refl
done_is s d k true false = refl
done_is s d k true true = refl

tag_is : (s : Session) (d : List ℕ) (h : Head) (k : Key) (r : Result ℕ DropCause)
    → after_ok r (tag_step s d h (live_key s k)) ≡ done_of (after_ok (after_ok r (λ j. Ok (check_of h k j))) (opened_if s d))
tag_is s d h k (Err c) = refl
tag_is s d h k (Ok i) =
    (λ j. done_then (fits_is s d (check_of h k i) j) (has_room s h.ssrc) (record { ssrc = h.ssrc; index = i; key = k.number; packet = packet_is s d (check_of h k i) j }))
    ∙ done_is s d (check_of h k i) (tag_fits s (check_of h k i) d) (has_room s h.ssrc)

place_is : (s : Session) (d : List ℕ) (h : Head) (k : Key) → place_step s d h (live_key s k) ≡ done_of (after_ok (placed_check s h k) (opened_if s d))
place_is s d h k =
    tag_is s d h k (placed s.name.kind s.roc s.window (indices_of s.done h.ssrc) h.number)
    ∙ sym (ap (λ r. done_of (after_ok r (opened_if s d))) (placed_kind s.name.kind s h (λ j. Ok (check_of h k j))))

alive_then : (s : Session) (d : List ℕ) (h : Head) (k : Key) (b : Bool)
    → after_ok (live_result s (stop_if (not b) (cause.KeySpent k.number (count_of s k)) (Ok k))) (place_step s d h)
    ≡ done_of (after_ok (stop_if (not b) (cause.KeySpent k.number (count_of s k)) (placed_check s h k)) (opened_if s d))
alive_then s d h k false = refl
alive_then s d h k true = place_is s d h k

key_is : (s : Session) (d : List ℕ) (h : Head) (r : Result Key DropCause)
    → after_ok (live_result s (after_ok r (spent_only s (placed_check s h)))) (place_step s d h) ≡ done_of (after_ok (after_ok r (spent_or s (placed_check s h))) (opened_if s d))
key_is s d h (Err c) = refl
key_is s d h (Ok k) = alive_then s d h k (is_live s k)

admitted_is : (s : Session) (d : List ℕ) (h : Head) (b : Bool)
    → stop_if (not b) cause.SsrcUnknown (after_ok (chosen_for (live s) (mki_in s d)) (place_step s d h))
    ≡ done_of (after_ok (stop_if (not b) cause.SsrcUnknown (after_ok (key_with s.keys (mki_in s d)) (spent_or s (placed_check s h)))) (opened_if s d))
admitted_is s d h false = refl
admitted_is s d h true = ap (λ r. after_ok r (place_step s d h)) (chosen_is s s.keys (mki_in s d)) ∙ key_is s d h (key_with s.keys (mki_in s d))

headed_is : (s : Session) (d : List ℕ) (r : Result Head DropCause)
    → after_ok r (key_step s d)
    ≡ done_of (after_ok (after_ok r (λ h. stop_if (not (admits s h.ssrc)) cause.SsrcUnknown (after_ok (key_with s.keys (mki_in s d)) (spent_or s (placed_check s h))))) (opened_if s d))
headed_is s d (Err c) = refl
headed_is s d (Ok h) = admitted_is s d h (admits s h.ssrc)

pub opening_is : (s : Session) (d : List ℕ) → opening_steps s d ≡ done_of (opens s d)
opening_is s d = ap (λ r. after_ok r (key_step s d)) (heading_is s d) ∙ headed_is s d (head_in s d)
