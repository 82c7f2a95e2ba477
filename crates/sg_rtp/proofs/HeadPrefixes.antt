-- Packets that begin alike have one head.
use Rattle.std.proofs.Common.{◌≡◌, ℕ, ◌+◌, ◌*◌, ◌<◌, ◌≤◌, List, length, take, slice_index, arith, refl, ap, sym, ◌∙◌, inl, inr, Ok}
use Rattle.std.proofs.lemmas.Bool.{cases_Bool}
use Rattle.std.proofs.lemmas.List.{get_or-take, length-take}
use Rattle.sg_rtp.specs.declared.heads.RtpHead.{RtpHead}
use Rattle.sg_rtp.specs.Fields.{u16_at}
use Rattle.sg_rtp.specs.Heads.{rtp_head, IsRtpHead, has_extension, listed_of, extension_of}

same_at : (n i : ℕ) (o p : List ℕ) → take n p ≡ take n o → i < n → slice_index p i ≡ slice_index o i
same_at n i o p e h = sym (get_or-take n p i 0 h) ∙ ap (λ l. slice_index l i) e ∙ get_or-take n o i 0 h

same_extension : (n : ℕ) (o p : List ℕ) → take n p ≡ take n o → 12 ≤ n → n ≡ listed_of o + extension_of o → extension_of p ≡ extension_of o
same_extension n o p e h size =
    let first : slice_index p 0 ≡ slice_index o 0 = same_at n 0 o p e (omega arith) in
    elim (cases_Bool (has_extension o)) [
      | inr without ↦ rw (first, without) refl
      | inl with_one ↦
          (let wide : n ≡ listed_of o + (4 + 4 * u16_at o (listed_of o + 2)) = size ∙ ap (λ b. listed_of o + b) (rw with_one refl) in
          let high : slice_index p (listed_of o + 2) ≡ slice_index o (listed_of o + 2) = same_at n (listed_of o + 2) o p e (omega arith) in
          let low : slice_index p (listed_of o + 2 + 1) ≡ slice_index o (listed_of o + 2 + 1) = same_at n (listed_of o + 2 + 1) o p e (omega arith) in
          rw (first, with_one, high, low) refl)
    ]

as_long : (n : ℕ) (o p : List ℕ) → take n p ≡ take n o → n ≤ length o → n ≤ length p
as_long n o p e h = omega (arith, length-take n p, length-take n o, ap length e)

same_head : (o p : List ℕ) (head : RtpHead) → IsRtpHead o head → take head.length p ≡ take head.length o → IsRtpHead p head
same_head o p head s e =
    let whole : head.length ≤ length p = as_long head.length o p e s.whole in
    let twelve : 12 ≤ head.length = omega (arith, s.size) in
    let at : (i : ℕ) → i < 12 → slice_index p i ≡ slice_index o i = λ i h. same_at head.length i o p e (omega arith) in
    record {
      long = omega arith;
      version = rw (at 0 (omega arith)) s.version;
      size = s.size ∙ sym (rw (same_extension head.length o p e twelve s.size, at 0 (omega arith)) refl);
      whole = whole;
      number = s.number ∙ sym (rw (at 2 (omega arith), at 3 (omega arith)) refl);
      source = s.source ∙ sym (rw (at 8 (omega arith), at 9 (omega arith), at 10 (omega arith), at 11 (omega arith)) refl);
    }

is_head : (o : List ℕ) (head : RtpHead) → rtp_head o ≡ Ok head → IsRtpHead o head
is_head o head e = record {
  long = grind arith;
  version = grind arith;
  size = grind arith;
  whole = grind arith;
  number = grind arith;
  source = grind arith;
}

from_head : (o : List ℕ) (head : RtpHead) → IsRtpHead o head → rtp_head o ≡ Ok head
from_head o head s = grind arith

pub rtp_head_again : (o p : List ℕ) (head : RtpHead) → rtp_head o ≡ Ok head → take head.length p ≡ take head.length o → rtp_head p ≡ Ok head
rtp_head_again o p head e same = from_head p head (same_head o p head (is_head o head e) same)
