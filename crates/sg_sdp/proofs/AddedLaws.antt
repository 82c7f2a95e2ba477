-- A line more leaves a description one.
use Rattle.std.proofs.Common.{◌≡◌, ℕ, zero, suc, false, List, [], ◌∷◌, ◌++◌, Option, None, refl, sym, ap, ◌∙◌, arith}
use Rattle.std.specs.List.{AllByRecursion}
use Rattle.std.specs.Option.{option_or}
use Rattle.sg_sdp.specs.declared.medium.Medium.{Medium}
use Rattle.sg_sdp.specs.declared.sdp.Sdp.{Sdp}
use Rattle.sg_sdp.specs.Addresses.{address_in, first_address, medium_address}
use Rattle.sg_sdp.specs.Descriptions.{HasPrefix, IsAddressed, IsKept, IsSdp}
use Rattle.sg_sdp.specs.LineForm.{is_letter}
use Rattle.sg_sdp.specs.Parts.{with_line_at, with_media_line, with_session_line}
use Rattle.sg_sdp.proofs.CarriedLaws.{starts_not}
use Rattle.sg_sdp.proofs.Cases.{all_append}
use Rattle.sg_sdp.proofs.TextTakes.{length-with_line_at, line_kept}

no_address : (l : List ℕ) → is_letter 99 l ≡ false → address_in l ≡ None
unfolding address_in
no_address l other = rw (starts_not 99 61 l other) refl

-- a line that isn't a `c=` line has no address to give
same_address : (ls : List (List ℕ)) (l : List ℕ) → is_letter 99 l ≡ false → first_address (ls ++ l ∷ []) ≡ first_address ls
unfolding first_address
same_address [] l other = rw (no_address l other) refl
same_address (x ∷ ls) l other = ap (option_or (address_in x)) (same_address ls l other)

prefix_more : (session : List (List ℕ)) (l : List ℕ) → HasPrefix session → HasPrefix (session ++ l ∷ [])
prefix_more [] l prefix = absurd prefix
prefix_more (v ∷ []) l prefix = absurd prefix
prefix_more (v ∷ o ∷ []) l prefix = absurd prefix
prefix_more (v ∷ o ∷ s ∷ rest) l prefix = prefix

session_more : (session : List (List ℕ)) (ms : List Medium) (l : List ℕ) → is_letter 99 l ≡ false → AllByRecursion (IsAddressed session) ms → AllByRecursion (IsAddressed (session ++ l ∷ [])) ms
session_more session [] l other is = tt
session_more session (m ∷ ms) l other is = (is.0 ∙ ap (λ (a : Option (List ℕ)). medium_address a m.lines) (sym (same_address session l other)), session_more session ms l other is.1)

pub session_stays : (s : Sdp) (l : List ℕ) → IsSdp s → IsKept l → is_letter 99 l ≡ false → IsSdp (with_session_line l s)
session_stays s l is kept other =
    record { prefix = prefix_more s.session l is.prefix; session = all_append IsKept s.session (l ∷ []) is.session (kept, tt); media = is.media; few = is.few; addresses = session_more s.session s.media l other is.addresses }

media_more : (session : List (List ℕ)) (ms : List Medium) (i : ℕ) (l : List ℕ) → is_letter 99 l ≡ false → AllByRecursion (IsAddressed session) ms → AllByRecursion (IsAddressed session) (with_line_at i l ms)
unfolding with_line_at
media_more session [] i l other is = tt
media_more session (m ∷ ms) zero l other is = (is.0 ∙ ap (λ (a : Option (List ℕ)). option_or a (first_address session)) (sym (same_address m.lines l other)), is.1)
media_more session (m ∷ ms) (suc i) l other is = (is.0, media_more session ms i l other is.1)

pub media_stay : (s : Sdp) (i : ℕ) (l : List ℕ) → IsSdp s → IsKept l → is_letter 99 l ≡ false → IsSdp (with_media_line i l s)
media_stay s i l is kept other =
    record { prefix = is.prefix; session = is.session; media = line_kept s.media i l kept is.media; few = omega (arith, length-with_line_at s.media i l, is.few); addresses = media_more s.session s.media i l other is.addresses }
