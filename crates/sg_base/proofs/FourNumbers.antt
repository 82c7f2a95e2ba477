-- Four numbers and addresses have one spelling.
use Rattle.std.proofs.Common.{◌%◌, ◌≡◌, ℕ, zero, suc, ◌+◌, ◌^◌, ◌<◌, ◌≤◌, List, [], ◌∷◌, ◌++◌, length, Option, Some, None, refl, sym, ap, subst, ◌∙◌, arith, inl, inr, append_assoc, lit<}
use Rattle.std.specs.Prelude.{◌⊎◌, slice_index}
use Rattle.std.specs.Fmt.{decimal}
use Rattle.std.proofs.lemmas.Bool.{ne_eqb}
use Rattle.std.proofs.lemmas.Fmt.{decimal_by_steps_wide}
use Rattle.sg_base.specs.declared.addresses.Address.{Address}
use Rattle.sg_base.specs.Fields.{◌>>=◌, Lacks, number_at, cut_at, four_at, address_at, four_text, address_text, IsFour, IsAddress}
use Rattle.sg_base.proofs.Cases.{some_is}
use Rattle.sg_base.proofs.Cuts.{cut_again, cut_takes, lacks_append}
use Rattle.sg_base.proofs.Decimals.{number_again, number_takes}

pub bind_some : {A B : Type 0} (o : Option A) (f : A → Option B) (y : B) → (o >>= f) ≡ Some y → (x : A) × (o ≡ Some x) × (f x ≡ Some y)
bind_some (Some x) f y e = (x, refl, e)
bind_some None f y e = absurd cc

-- no digit is an octet of another kind
pub decimal_lacks : (c n : ℕ) → n < 10 ^ 64 → (c < 48) ⊎ (57 < c) → Lacks c (decimal n)
decimal_lacks c n small other =
    let apart : (d : ℕ) → d < 10 → 48 + d ≡ c → ⊥ = λ d lt e. elim other [ inl l ↦ omega (arith, e) | inr h ↦ omega (arith, e) ] in
    decimal_by_steps_wide (λ n ds. Lacks c ds) (λ n lt. (ne_eqb (48 + n) c (apart n lt), tt))
    (λ n ds le so_far. lacks_append c ds ((48 + n % 10) ∷ []) so_far (ne_eqb (48 + n % 10) c (apart (n % 10) (omega arith)), tt)) n small

four_parts : (l : List ℕ) → length l ≡ 4 → l ≡ slice_index l 0 ∷ slice_index l 1 ∷ slice_index l 2 ∷ slice_index l 3 ∷ []
four_parts (a ∷ b ∷ c ∷ d ∷ []) e = refl
four_parts l e = absurd (omega arith)

four_small : (a b c d : ℕ) → a ≤ 255 → b ≤ 255 → c ≤ 255 → d ≤ 255 → (i : ℕ) → slice_index (a ∷ b ∷ c ∷ d ∷ []) i ≤ 255
four_small a b c d p q r s zero = p
four_small a b c d p q r s (suc zero) = q
four_small a b c d p q r s (suc (suc zero)) = r
four_small a b c d p q r s (suc (suc (suc zero))) = s
four_small a b c d p q r s (suc (suc (suc (suc i)))) = omega arith

-- as the text is cut from the left
cuts : (a b c d : List ℕ) → a ++ 46 ∷ [] ++ b ++ 46 ∷ [] ++ c ++ 46 ∷ [] ++ d ≡ a ++ 46 ∷ (b ++ 46 ∷ (c ++ 46 ∷ d))
cuts a b c d = simp append_assoc refl

four_small_again : (a b c d : ℕ) → a ≤ 255 → b ≤ 255 → c ≤ 255 → d ≤ 255 → four_at (four_text (a ∷ b ∷ c ∷ d ∷ [])) ≡ Some (a ∷ b ∷ c ∷ d ∷ [])
unfolding four_at
four_small_again a b c d pa pb pc pd =
    let stop : (n : ℕ) → n ≤ 255 → Lacks 46 (decimal n) = λ n h. decimal_lacks 46 n (omega arith) (inl (omega arith)) in
    rw (
      cuts (decimal a) (decimal b) (decimal c) (decimal d),
      cut_again 46 (decimal a) (decimal b ++ 46 ∷ (decimal c ++ 46 ∷ decimal d)) (stop a pa),
      cut_again 46 (decimal b) (decimal c ++ 46 ∷ decimal d) (stop b pb),
      cut_again 46 (decimal c) (decimal d) (stop c pc),
      number_again 255 a pa (lit< tt),
      number_again 255 b pb (lit< tt),
      number_again 255 c pc (lit< tt),
      number_again 255 d pd (lit< tt),
    ) refl

-- what is spelled so is read
pub four_again : (ip : List ℕ) → IsFour ip → four_at (four_text ip) ≡ Some ip
four_again ip fits =
    let p = fits.octets in
    four_small_again (slice_index ip 0) (slice_index ip 1) (slice_index ip 2) (slice_index ip 3) (p 0) (p 1) (p 2) (p 3)
    ∙ ap Some (sym (four_parts ip fits.four))

joined : (t p p' q q' r r' a b c d : List ℕ) → t ≡ p ++ 46 ∷ p' → p' ≡ q ++ 46 ∷ q' → q' ≡ r ++ 46 ∷ r'
    → p ≡ a → q ≡ b → r ≡ c → r' ≡ d → t ≡ a ++ 46 ∷ [] ++ b ++ 46 ∷ [] ++ c ++ 46 ∷ [] ++ d
joined t p p' q q' r r' a b c d e1 e2 e3 ea eb ec ed = rw (cuts a b c d, e1, e2, e3, ea, eb, ec, ed) refl

-- what is read is spelled so
pub four_takes : (t ip : List ℕ) → four_at t ≡ Some ip → (t ≡ four_text ip) × IsFour ip
unfolding four_at
four_takes t ip e =
    let p = bind_some (cut_at 46 t) _ ip e in
    let q = bind_some (cut_at 46 p.0.1) _ ip p.2 in
    let r = bind_some (cut_at 46 q.0.1) _ ip q.2 in
    let na = bind_some (number_at 255 p.0.0) _ ip r.2 in
    let nb = bind_some (number_at 255 q.0.0) _ ip na.2 in
    let nc = bind_some (number_at 255 r.0.0) _ ip nb.2 in
    let nd = bind_some (number_at 255 r.0.1) _ ip nc.2 in
    let ta = number_takes 255 p.0.0 na.0 na.1 in
    let tb = number_takes 255 q.0.0 nb.0 nb.1 in
    let tc = number_takes 255 r.0.0 nc.0 nc.1 in
    let td = number_takes 255 r.0.1 nd.0 nd.1 in
    let made : List ℕ = na.0 ∷ nb.0 ∷ nc.0 ∷ nd.0 ∷ [] in
    let one : t ≡ p.0.0 ++ 46 ∷ p.0.1 = cut_takes 46 t p.0.0 p.0.1 p.1 in
    let two : p.0.1 ≡ q.0.0 ++ 46 ∷ q.0.1 = cut_takes 46 p.0.1 q.0.0 q.0.1 q.1 in
    let three : q.0.1 ≡ r.0.0 ++ 46 ∷ r.0.1 = cut_takes 46 q.0.1 r.0.0 r.0.1 r.1 in
    let spelled : t ≡ four_text made = joined t p.0.0 p.0.1 q.0.0 q.0.1 r.0.0 r.0.1 (decimal na.0) (decimal nb.0) (decimal nc.0) (decimal nd.0) one two three ta.0 tb.0 tc.0 td.0 in
    subst (λ (x : List ℕ). (t ≡ four_text x) × IsFour x) (some_is made ip nd.2)
    (spelled, record { four = refl; octets = four_small na.0 nb.0 nc.0 nd.0 ta.1 tb.1 tc.1 td.1 })

-- no octet of the four numbers is another kind of octet than a digit and a full stop
pub four_lacks : (c : ℕ) (ip : List ℕ) → IsFour ip → (c < 46) ⊎ (57 < c) → Lacks c (four_text ip)
four_lacks c ip fits other =
    let number : (i : ℕ) → Lacks c (decimal (slice_index ip i)) = λ i.
    let small = fits.octets i in decimal_lacks c (slice_index ip i) (omega (arith, small)) (elim other [ inl l ↦ inl (omega arith) | inr h ↦ inr h ]) in
    let stop : Lacks c (46 ∷ []) = (ne_eqb 46 c (λ e. elim other [ inl l ↦ omega (arith, e) | inr h ↦ omega (arith, e) ]), tt) in
    let two = lacks_append c _ (46 ∷ []) (lacks_append c _ (decimal (slice_index ip 1)) (lacks_append c (decimal (slice_index ip 0)) (46 ∷ []) (number 0) stop) (number 1)) stop in
    lacks_append c _ (decimal (slice_index ip 3)) (lacks_append c _ (46 ∷ []) (lacks_append c _ (decimal (slice_index ip 2)) two (number 2)) stop) (number 3)

port_cut : (a b : List ℕ) → a ++ 58 ∷ [] ++ b ≡ a ++ 58 ∷ b
port_cut a b = append_assoc a (58 ∷ []) b

-- what is spelled so is read
pub address_again : (a : Address) → IsAddress a → address_at (address_text a) ≡ Some a
unfolding address_at
address_again a fits =
    rw (
      port_cut (four_text a.ip) (decimal a.port),
      cut_again 58 (four_text a.ip) (decimal a.port) (four_lacks 58 a.ip fits.ip (inr (omega arith))),
      four_again a.ip fits.ip,
      number_again 65535 a.port fits.port (lit< tt),
    ) refl

behind : (t p q a b : List ℕ) → t ≡ p ++ 58 ∷ q → p ≡ a → q ≡ b → t ≡ a ++ 58 ∷ [] ++ b
behind t p q a b e f g = rw (port_cut a b, e, f, g) refl

-- what is read is spelled so
pub address_takes : (t : List ℕ) (a : Address) → address_at t ≡ Some a → (t ≡ address_text a) × IsAddress a
unfolding address_at
address_takes t a e =
    let w = bind_some (cut_at 58 t) _ a e in
    let f = bind_some (four_at w.0.0) _ a w.2 in
    let n = bind_some (number_at 65535 w.0.1) _ a f.2 in
    let ft = four_takes w.0.0 f.0 f.1 in
    let nt = number_takes 65535 w.0.1 n.0 n.1 in
    let made : Address = record { ip = f.0; port = n.0 } in
    let spelled : t ≡ address_text made = behind t w.0.0 w.0.1 (four_text f.0) (decimal n.0) (cut_takes 58 t w.0.0 w.0.1 w.1) ft.0 nt.0 in
    subst (λ (x : Address). (t ≡ address_text x) × IsAddress x) (some_is made a n.2) (spelled, record { ip = ft.1; port = nt.1 })
