-- The index word of an RTCP datagram.
use Rattle.std.proofs.Common.{◌≡◌, ◌+◌, ◌-◌, ◌%◌, ◌≤◌, ℕ, Bool, List, length, take, drop, Ok, arith, ap, sym, ◌∙◌, length-drop}
use Rattle.std.specs.Prelude.{nat_le, nat_lt}
use Rattle.std.proofs.lemmas.Bool.{le-ltb}
use Rattle.std.proofs.lemmas.List.{length-take-le, take_all}
use Rattle.sg_base.specs.Octets.{number_of}
use Rattle.sg_base.specs.declared.addresses.Kind.{Kind}
use Rattle.sg_base.specs.declared.addresses.Kind.TheVariants.{Rtcp}
use Rattle.sg_base.specs.declared.faults.DropCause.TheVariants.{Short}
use Rattle.sg_rtp.specs.Heads.{rtcp_head}
use Rattle.sg_session.specs.Opening.{Head, of_rtcp}
use Rattle.sg_session.proofs.Inversions.{stop_if_of}
use Rattle.sg_states.specs.Parts.{prefix_of, part_of, word_of, heading, heading_of}

pub word_reads : (m t : ℕ) (d : List ℕ) (word : ℕ) → 12 + (m + t) ≤ length d
    → word ≡ number_of (take 4 (drop (length (prefix_of m t d) - 4) (prefix_of m t d))) → word ≡ word_of m t d
word_reads m t d word long e =
    let size : length (prefix_of m t d) ≡ length d - (m + t) = length-take-le (length d - (m + t)) d (omega arith) in
    let rest : length (drop (length (prefix_of m t d) - 4) (prefix_of m t d)) ≡ 4 = omega (arith, length-drop (length (prefix_of m t d) - 4) (prefix_of m t d)) in
    let at : length (prefix_of m t d) - 4 ≡ length d - ((m + t) + 4) = omega arith in
    e ∙ ap number_of (take_all 4 (drop (length (prefix_of m t d) - 4) (prefix_of m t d)) (omega (arith, rest))) ∙ ap (λ n. number_of (drop n (prefix_of m t d))) at

pub heading_rtcp : (kind : Kind) (encrypts : Bool) (m t : ℕ) (d : List ℕ) (word : ℕ) (h : Head) → kind ≡ Rtcp → 12 + (m + t) ≤ length d → word ≡ word_of m t d
    → of_rtcp (word % 2147483648) (nat_le 2147483648 word) (rtcp_head (part_of Rtcp m t d)) ≡ Ok h → heading kind encrypts m t d ≡ Ok h
heading_rtcp kind encrypts m t d word h k long e is =
    ap (λ k. heading k encrypts m t d) k
    ∙ stop_if_of (nat_lt (length d) (12 + (m + t))) Short (heading_of Rtcp encrypts m t d) (le-ltb (length d) (12 + (m + t)) long)
    ∙ ap (λ w. of_rtcp (w % 2147483648) (nat_le 2147483648 w) (rtcp_head (part_of Rtcp m t d))) (sym e)
    ∙ is
