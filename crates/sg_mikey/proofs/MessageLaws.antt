-- A message that is read is spelled so, and what is spelled so is read.
use Rattle.std.proofs.Common.{◌≡◌, ℕ, zero, suc, ◌+◌, ◌%◌, ◌^◌, ◌<◌, ◌≤◌, true, nat_eq, List, [], ◌∷◌, ◌++◌, length, map, Result, Ok, Err, refl, sym, ap, subst, ◌∙◌, append_assoc, arith}
use Rattle.std.specs.List.{flat_map, AllByRecursion}
use Rattle.std.proofs.lemmas.Bool.{eqb-true}
use Rattle.std.proofs.lemmas.List.{append-nil, nil_from_length}
use Rattle.std.proofs.lemmas.List.Concat.{flat_map-cons}
use Rattle.sg_base.specs.Octets.{be}
use Rattle.sg_base.specs.declared.MikeyFault.TheVariants as faults
use Rattle.sg_mikey.specs.declared.chain.Stage.TheVariants.{BeforeTime}
use Rattle.sg_mikey.specs.declared.faults.Stop.{Stop}
use Rattle.sg_mikey.specs.declared.message.CsEntry.{CsEntry}
use Rattle.sg_mikey.specs.declared.message.Header.{Header}
use Rattle.sg_mikey.specs.declared.message.Message.{Message}
use Rattle.sg_mikey.specs.declared.payload.Payload.{Payload}
use Rattle.sg_mikey.specs.Spelling.{payload_number, next_number, chain_octets, entry_octets, message_octets, IsEntry, IsMessage}
use Rattle.sg_mikey.specs.Reading.{stop, is_number, octet_at, up_to_at, number_at, next_at, version_at, verify_bit_at, chain_at, entry_at, entries_at, header_at, whole_at, message_of, placed}
use Rattle.sg_mikey.proofs.FieldLaws.{IsOctets, took, pass_ok, ok_is, Takes, Takes-then, octet_takes, octet_again, up_to_takes, up_to_again, wide_four, number_takes, number_again, next_takes, next_again, version_takes, version_again, verify_octet, verify_takes, verify_again}
use Rattle.sg_mikey.proofs.Orders.{chain_of, accepts_chain}
use Rattle.sg_mikey.proofs.ChainLaws.{TakesChain, chain_takes, chain_again, next_known, length-chain_octets}

-- ---- crypto sessions

entry_takes : (octets : List ℕ) (y : CsEntry × List ℕ) → IsOctets octets → entry_at octets ≡ Ok y → Takes octets (entry_octets y.0) y.1 × IsEntry y.0
unfolding entry_at
entry_takes octets y fits e =
    took (octet_at octets) _ y (λ x. octet_takes octets x fits) e (λ a ta ea.
    took (number_at 4 a.1) _ y (λ x. number_takes 4 (2 ^ 32) wide_four a.1 x ta.0.rest_fits) ea (λ b tb eb.
    took (number_at 4 b.1) _ y (λ x. number_takes 4 (2 ^ 32) wide_four b.1 x tb.0.rest_fits) eb (λ c tc ec.
    subst (λ (z : CsEntry × List ℕ). Takes octets (entry_octets z.0) z.1 × IsEntry z.0) (ok_is (record { policy = a.0; ssrc = b.0; roc = c.0 }, c.1) y ec)
    (Takes-then _ _ _ _ _ ta.0 (Takes-then _ _ _ _ _ tb.0 tc.0), (tb.1, tc.1)))))

entry_again : (x : CsEntry) (rest : List ℕ) → IsEntry x → entry_at (entry_octets x ++ rest) ≡ Ok (x, rest)
unfolding entry_at
entry_again x rest fits =
    rw (
      octet_again x.policy (be x.ssrc 4 ++ (be x.roc 4 ++ rest)),
      number_again 4 (2 ^ 32) wide_four x.ssrc (be x.roc 4 ++ rest) fits.0,
      number_again 4 (2 ^ 32) wide_four x.roc rest fits.1,
    ) refl

entries_take : (count : ℕ) (octets : List ℕ) (y : List CsEntry × List ℕ) → IsOctets octets → entries_at count octets ≡ Ok y
    → Takes octets (flat_map entry_octets y.0) y.1 × (length y.0 ≡ count) × AllByRecursion IsEntry y.0
unfolding entries_at
entries_take zero octets y fits e =
    let none : List CsEntry × List ℕ = ([], octets) in
    subst (λ (z : List CsEntry × List ℕ). Takes octets (flat_map entry_octets z.0) z.1 × (length z.0 ≡ 0) × AllByRecursion IsEntry z.0) (ok_is none y e)
    (record { parts = refl; rest_fits = fits }, refl, tt)
entries_take (suc count) octets y fits e =
    took (entry_at octets) _ y (λ x. entry_takes octets x fits) e (λ a ta ea.
    took (entries_at count a.1) _ y (λ x. entries_take count a.1 x ta.0.rest_fits) ea (λ b tb eb.
    subst (λ (z : List CsEntry × List ℕ). Takes octets (flat_map entry_octets z.0) z.1 × (length z.0 ≡ suc count) × AllByRecursion IsEntry z.0) (ok_is (a.0 ∷ b.0, b.1) y eb)
    (rw flat_map-cons (Takes-then octets (entry_octets a.0) a.1 (flat_map entry_octets b.0) b.1 ta.0 tb.0), ap suc tb.1, (ta.1, tb.2))))

entries_again : (xs : List CsEntry) (rest : List ℕ) → AllByRecursion IsEntry xs → entries_at (length xs) (flat_map entry_octets xs ++ rest) ≡ Ok (xs, rest)
unfolding entries_at
entries_again [] rest fits = refl
entries_again (x ∷ xs) rest fits =
    let regrouped : flat_map entry_octets (x ∷ xs) ++ rest ≡ entry_octets x ++ (flat_map entry_octets xs ++ rest) =
    ap (λ (l : List ℕ). l ++ rest) (flat_map-cons entry_octets x xs) ∙ append_assoc (entry_octets x) (flat_map entry_octets xs) rest in
    ap (entries_at (suc (length xs))) regrouped
    ∙ rw (entry_again x (flat_map entry_octets xs ++ rest) fits.0, entries_again xs rest fits.1) refl

-- ---- the common header

-- the header's octets, up to the map
abbrev header_octets : Header → List ℕ
header_octets h = 1 ∷ h.kind ∷ h.next ∷ verify_octet h.verify ∷ (be h.csb 4 ++ h.count ∷ 0 ∷ [])

record IsHeader (h : Header) : Type 0 where
  kind : h.kind ≤ 1
  csb : h.csb < 2 ^ 32
  count : h.count < 2 ^ 8

header_takes : (octets : List ℕ) (y : Header × List ℕ) → IsOctets octets → header_at octets ≡ Ok y → Takes octets (header_octets y.0) y.1 × IsHeader y.0
unfolding header_at
header_takes octets y fits e =
    took (version_at octets) _ y (λ x. version_takes octets x fits) e (λ a ta ea.
    took (up_to_at 1 faults.DataType a.1) _ y (λ x. up_to_takes 1 faults.DataType a.1 x ta.rest_fits) ea (λ b tb eb.
    took (next_at b.1) _ y (λ x. next_takes b.1 x tb.0.rest_fits) eb (λ c tc ec.
    took (verify_bit_at c.1) _ y (λ x. verify_takes c.1 x tc.0.rest_fits) ec (λ d td ed.
    took (number_at 4 d.1) _ y (λ x. number_takes 4 (2 ^ 32) wide_four d.1 x td.rest_fits) ed (λ f tf ef.
    took (octet_at f.1) _ y (λ x. octet_takes f.1 x tf.0.rest_fits) ef (λ g tg eg.
    took (up_to_at 0 faults.Value g.1) _ y (λ x. up_to_takes 0 faults.Value g.1 x tg.0.rest_fits) eg (λ h th eh.
    let zero_is : h.0 ≡ 0 = omega (arith, th.1) in
    let form : Takes g.1 (0 ∷ []) h.1 = subst (λ (n : ℕ). Takes g.1 (n ∷ []) h.1) zero_is th.0 in
    let back = Takes-then d.1 _ _ _ _ tf.0 (Takes-then f.1 _ _ _ _ tg.0 form) in
    let whole = Takes-then octets _ _ _ _ ta (Takes-then a.1 _ _ _ _ tb.0 (Takes-then b.1 _ _ _ _ tc.0 (Takes-then c.1 _ _ _ _ td back))) in
    subst (λ (z : Header × List ℕ). Takes octets (header_octets z.0) z.1 × IsHeader z.0)
    (ok_is (record { kind = b.0; next = c.0; verify = d.0; csb = f.0; count = g.0 }, h.1) y eh)
    (whole, record { kind = tb.1; csb = tf.1; count = tg.1 }))))))))

-- ---- the whole message

-- the parts of a message, put together
whole_made : (octets : List ℕ) (h : Header) (behind : List ℕ) (map' : List CsEntry) (rest : List ℕ) (ps : List Payload) (left : List ℕ)
    → Takes octets (header_octets h) behind → IsHeader h → Takes behind (flat_map entry_octets map') rest → length map' ≡ h.count → AllByRecursion IsEntry map'
    → TakesChain rest h.kind BeforeTime h.next ps left → left ≡ []
    → IsMessage (record { kind = h.kind; verify = h.verify; csb = h.csb; map = map'; payloads = ps })
    × (octets ≡ message_octets (record { kind = h.kind; verify = h.verify; csb = h.csb; map = map'; payloads = ps }))
whole_made octets h behind map' rest ps left ta is tb count entries tc nothing =
    let size : h.count ≡ length map' % 256 = omega (arith, count, is.count) in
    let named : Takes octets (header_octets (record { kind = h.kind; next = next_number ps; verify = h.verify; csb = h.csb; count = length map' % 256 })) behind =
    subst (λ (n : ℕ). Takes octets (1 ∷ h.kind ∷ n ∷ verify_octet h.verify ∷ (be h.csb 4 ++ length map' % 256 ∷ 0 ∷ [])) behind) tc.first
    (subst (λ (n : ℕ). Takes octets (1 ∷ h.kind ∷ h.next ∷ verify_octet h.verify ∷ (be h.csb 4 ++ n ∷ 0 ∷ [])) behind) size ta) in
    let chain : rest ≡ chain_octets ps = tc.takes.parts ∙ ap (λ (l : List ℕ). chain_octets ps ++ l) nothing ∙ append-nil (chain_octets ps) in
    let inner : behind ≡ flat_map entry_octets map' ++ chain_octets ps = tb.parts ∙ ap (λ (l : List ℕ). flat_map entry_octets map' ++ l) chain in (
      record {
        kind = is.kind;
        csb = is.csb;
        count = rw count is.count;
        entries = entries;
        payloads = tc.payloads;
        order = chain_of h.kind (map payload_number ps) tc.accepted;
      },
      named.parts ∙ ap (λ (l : List ℕ). header_octets (record { kind = h.kind; next = next_number ps; verify = h.verify; csb = h.csb; count = length map' % 256 }) ++ l) inner,
    )

pub whole_takes : (octets : List ℕ) (m : Message) → IsOctets octets → whole_at octets ≡ Ok m → IsMessage m × (octets ≡ message_octets m)
unfolding whole_at
whole_takes octets m fits e =
    took (header_at octets) _ m (λ x. header_takes octets x fits) e (λ a ta ea.
    took (entries_at a.0.count a.1) _ m (λ x. entries_take a.0.count a.1 x ta.0.rest_fits) ea (λ b tb eb.
    took (chain_at (length b.1 + 1) a.0.kind BeforeTime a.0.next b.1) _ m (λ x. chain_takes (length b.1 + 1) a.0.kind BeforeTime a.0.next b.1 x tb.0.rest_fits) eb (λ c tc ec.
    let g = pass_ok (nat_eq (length c.1) 0) (stop c.1 faults.Trailing) (record { kind = a.0.kind; verify = a.0.verify; csb = a.0.csb; map = b.0; payloads = c.0 }) m ec in
    subst (λ (z : Message). IsMessage z × (octets ≡ message_octets z)) g.1
    (whole_made octets a.0 a.1 b.0 b.1 c.0 c.1 ta.0 ta.1 tb.0 tb.1 tb.2 tc (nil_from_length c.1 (eqb-true _ _ g.0))))))

header_again : (h : Header) (rest : List ℕ) → IsHeader h → is_number h.next ≡ true → header_at (header_octets h ++ rest) ≡ Ok (h, rest)
unfolding header_at
header_again h rest fits known =
    rw (
      version_again (h.kind ∷ h.next ∷ verify_octet h.verify ∷ (be h.csb 4 ++ h.count ∷ 0 ∷ rest)),
      up_to_again 1 faults.DataType h.kind (h.next ∷ verify_octet h.verify ∷ (be h.csb 4 ++ h.count ∷ 0 ∷ rest)) fits.kind,
      next_again h.next (verify_octet h.verify ∷ (be h.csb 4 ++ h.count ∷ 0 ∷ rest)) known,
      verify_again h.verify (be h.csb 4 ++ h.count ∷ 0 ∷ rest),
      number_again 4 (2 ^ 32) wide_four h.csb (h.count ∷ 0 ∷ rest) fits.csb,
      octet_again h.count (0 ∷ rest),
      up_to_again 0 faults.Value 0 rest (omega arith),
    ) refl

abbrev header_of : Message → Header
header_of m = record { kind = m.kind; next = next_number m.payloads; verify = m.verify; csb = m.csb; count = length m.map }

pub whole_again : (m : Message) → IsMessage m → whole_at (message_octets m) ≡ Ok m
unfolding whole_at
whole_again m is =
    let size : length m.map % 256 ≡ length m.map = omega (arith, is.count) in
    let header : header_at (message_octets m) ≡ Ok (header_of m, flat_map entry_octets m.map ++ chain_octets m.payloads) =
    ap (λ (n : ℕ). header_at (1 ∷ m.kind ∷ next_number m.payloads ∷ verify_octet m.verify ∷ (be m.csb 4 ++ n ∷ 0 ∷ (flat_map entry_octets m.map ++ chain_octets m.payloads)))) size
    ∙ header_again (header_of m) (flat_map entry_octets m.map ++ chain_octets m.payloads) (record { kind = is.kind; csb = is.csb; count = is.count }) (next_known m.payloads) in
    let chain : chain_at (length (chain_octets m.payloads) + 1) m.kind BeforeTime (next_number m.payloads) (chain_octets m.payloads) ≡ Ok (m.payloads, []) =
    ap (chain_at (length (chain_octets m.payloads) + 1) m.kind BeforeTime (next_number m.payloads)) (sym (append-nil (chain_octets m.payloads)))
    ∙ chain_again m.payloads (length (chain_octets m.payloads) + 1) m.kind BeforeTime [] is.payloads (accepts_chain m.kind (map payload_number m.payloads) is.order) (let long = length-chain_octets m.payloads in omega arith) in
    rw (header, entries_again m.map (chain_octets m.payloads) is.entries, chain) refl

-- ---- what `read` says

pub placed_ok : (size : ℕ) (r : Result Message Stop) (m : Message) → placed size r ≡ Ok m → r ≡ Ok m
placed_ok size (Ok x) m e = let same : x ≡ m = cc in ap Ok same
placed_ok size (Err s) m e = absurd cc

-- what is read is spelled so
pub found : (octets : List ℕ) (m : Message) → IsOctets octets → message_of octets ≡ Ok m → IsMessage m × (octets ≡ message_octets m)
found octets m fits e = whole_takes octets m fits (placed_ok (length octets) (whole_at octets) m e)

-- what is spelled so is read
pub message_again : (m : Message) → IsMessage m → message_of (message_octets m) ≡ Ok m
message_again m is = ap (placed (length (message_octets m))) (whole_again m is)
