-- By which port what is put out leaves, and to which address.
use Rattle.std.proofs.Common.{◌≡◌, inl, inr, ℕ, ◌+◌, ◌*◌, ◌-◌, ◌%◌, List, [], ◌∷◌, ap, ◌∙◌, arith}
use Rattle.sg_base.specs.declared.addresses.Address.{Address}
use Rattle.sg_gateway.proofs.Common.{Kind, Out, Outcome, Rtcp, Rtp}
use Rattle.sg_gateway.specs.Legs.{end_for, plain_port_of, secure_port_of}
use Rattle.sg_passages.specs.Passages.{KeepsLegs, Leaves, Leaving, out_by}
use Rattle.sg_audit.specs.Seen.{LeavesBy}

address_is : (a b : Address) → a.ip ≡ b.ip → a.port ≡ b.port → a ≡ b
address_is a b ip port = (λ i. record { ip = ip i; port = port i })

is_first : (port : ℕ) → (port - 20000) % 2 ≡ 0 → (port - 20000) % 2 ≡ 1 → ⊥
is_first port even odd = omega (arith, even, odd)

less_one : (a b : ℕ) → a + 1 ≡ b + 1 → a ≡ b
less_one a b e = omega (arith, e)

module _ (leaves : Leaves) (keeps : KeepsLegs leaves) (told : List Outcome) (octets : List ℕ) where
  straight_on : (port : ℕ) (to : Address) → (port - 20000) % 2 ≡ 0 → told ≡ out_by leaves port to octets ∷ [] → told ≡ Out port to octets ∷ []
  straight_on port to even is = elim (keeps port to) [
    | inl same ↦ is ∙ ap (λ (l : Leaving). Out l.port l.to octets ∷ []) same
    | inr before ↦ absurd (is_first port even before.second)
  ]

  either_way : (port next : ℕ) (to : Address) → next ≡ port + 1 → told ≡ out_by leaves next (end_for Rtcp to) octets ∷ [] → LeavesBy told Rtcp port to octets
  either_way port next to is_next is = elim (keeps next (end_for Rtcp to)) [
    | inl same ↦ inl (is ∙ ap (λ (l : Leaving). Out l.port l.to octets ∷ []) same ∙ ap (λ (n : ℕ). Out n (end_for Rtcp to) octets ∷ []) is_next)
    | inr before ↦ (let l : Leaving = leaves next (end_for Rtcp to) in
        let by : l.port ≡ port = less_one l.port port (before.first ∙ is_next) in
        let end : l.to ≡ to = address_is l.to to before.host (less_one l.to.port to.port before.before) in
        inr (is ∙ (λ i. Out (by i) (end i) octets ∷ [])))
  ]

  pub by_plain : (kind : Kind) (slot medium : ℕ) (to : Address) → told ≡ out_by leaves (plain_port_of kind slot medium) (end_for kind to) octets ∷ []
      → LeavesBy told kind (plain_port_of Rtp slot medium) to octets
  by_plain Rtp slot medium to is = straight_on (20002 + 16 * slot + 4 * medium) to (omega arith) is
  by_plain Rtcp slot medium to is = either_way (20002 + 16 * slot + 4 * medium) (20003 + 16 * slot + 4 * medium) to (omega arith) is

  pub by_secure : (kind : Kind) (slot medium : ℕ) (to : Address) → told ≡ out_by leaves (secure_port_of kind slot medium) (end_for kind to) octets ∷ []
      → LeavesBy told kind (secure_port_of Rtp slot medium) to octets
  by_secure Rtp slot medium to is = straight_on (20000 + 16 * slot + 4 * medium) to (omega arith) is
  by_secure Rtcp slot medium to is = either_way (20000 + 16 * slot + 4 * medium) (20001 + 16 * slot + 4 * medium) to (omega arith) is
