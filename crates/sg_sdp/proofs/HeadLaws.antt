-- What stands behind `m=` has one spelling.
use Rattle.std.proofs.Common.{◌≡◌, ℕ, ◌<◌, ◌≤◌, true, false, eqb, List, [], ◌∷◌, ◌++◌, length, Some, refl, subst, arith, inl, lit<}
use Rattle.std.specs.Prelude.{◌&&◌, not, decimal}
use Rattle.std.specs.List.{list_all}
use Rattle.std.proofs.lemmas.Bool.{ne_eqb, and_parts, not-true}
use Rattle.sg_base.specs.Fields.{Lacks, cut_at, number_at}
use Rattle.sg_base.proofs.Cuts.{cut_again, cut_takes}
use Rattle.sg_base.proofs.Decimals.{number_again, number_takes}
use Rattle.sg_base.proofs.FourNumbers.{decimal_lacks}
use Rattle.sg_base.proofs.Cases.{and_then_some, guarded}
use Rattle.sg_sdp.specs.declared.medium.Medium.{Medium}
use Rattle.sg_sdp.specs.Descriptions.{IsMedium, medium_line}
use Rattle.sg_sdp.specs.LineForm.{HeadParts, has_form, head_of, is_inner, is_printing, is_word}
use Rattle.sg_sdp.proofs.Cases.{above_zero}

abbrev pub head_text : HeadParts → List ℕ
head_text h = h.word ++ 32 ∷ (decimal h.port ++ 32 ∷ (h.proto ++ 32 ∷ h.formats))

pub record FitsHead (h : HeadParts) : Type 0 where
  pub word : is_word h.word ≡ true
  pub port : h.port ≤ 65535
  pub proto : is_word h.proto ≡ true
  pub formats : 0 < length h.formats

printing_low : (c : ℕ) → is_printing c ≡ true → 33 ≤ c
printing_low c e = grind (arith)

above_space : (c : ℕ) → is_printing c ≡ true → eqb c 32 ≡ false
above_space c e = let low : 33 ≤ c = printing_low c e in ne_eqb c 32 (λ h. omega arith)

printing_lacks : (t : List ℕ) → list_all is_printing t ≡ true → Lacks 32 t
printing_lacks [] e = tt
printing_lacks (c ∷ t) e =
    let p = and_parts (is_printing c) (list_all is_printing t) e in
    (above_space c p.0, printing_lacks t p.1)

word_lacks : (t : List ℕ) → is_word t ≡ true → Lacks 32 t
unfolding is_word
word_lacks t e = printing_lacks t (and_parts (not (eqb (length t) 0)) (list_all is_printing t) e).1

-- what is spelled so is read
pub head_again : (h : HeadParts) → FitsHead h → head_of (head_text h) ≡ Some h
unfolding head_of
head_again h fits =
    let some : eqb (length h.formats) 0 ≡ false = ne_eqb (length h.formats) 0 (λ e. omega (arith, fits.formats)) in
    rw (
      cut_again 32 h.word (decimal h.port ++ 32 ∷ (h.proto ++ 32 ∷ h.formats)) (word_lacks h.word fits.word),
      cut_again 32 (decimal h.port) (h.proto ++ 32 ∷ h.formats) (decimal_lacks 32 h.port (omega (arith, fits.port)) (inl (omega arith))),
      cut_again 32 h.proto h.formats (word_lacks h.proto fits.proto),
      number_again 65535 h.port fits.port (lit< tt),
      fits.word,
      fits.proto,
      some,
    ) refl

same_text : (t w t1 n t2 p f n' : List ℕ) → t ≡ w ++ 32 ∷ t1 → t1 ≡ n ++ 32 ∷ t2 → t2 ≡ p ++ 32 ∷ f → n ≡ n' → t ≡ w ++ 32 ∷ (n' ++ 32 ∷ (p ++ 32 ∷ f))
same_text t w t1 n t2 p f n' a b c d = rw (a, b, c, d) refl

-- what is read is spelled so
pub head_takes : (t : List ℕ) (h : HeadParts) → head_of t ≡ Some h → (t ≡ head_text h) × FitsHead h
unfolding head_of
head_takes t h e =
    let p = and_then_some (cut_at 32 t) _ h e in
    let q = and_then_some (cut_at 32 p.0.1) _ h p.2 in
    let r = and_then_some (cut_at 32 q.0.1) _ h q.2 in
    let n = and_then_some (number_at 65535 q.0.0) _ h r.2 in
    let g = guarded (is_word p.0.0 && is_word r.0.0 && not (eqb (length r.0.1) 0)) (record { word = p.0.0; port = n.0; proto = r.0.0; formats = r.0.1 }) h n.2 in
    let b = and_parts (is_word p.0.0 && is_word r.0.0) (not (eqb (length r.0.1) 0)) g.0 in
    let w = and_parts (is_word p.0.0) (is_word r.0.0) b.0 in
    let number = number_takes 65535 q.0.0 n.0 n.1 in
    let some : 0 < length r.0.1 = above_zero (length r.0.1) (not-true (eqb (length r.0.1) 0) b.1) in
    subst (λ (x : HeadParts). (t ≡ head_text x) × FitsHead x) g.1 (
      same_text t p.0.0 p.0.1 q.0.0 q.0.1 r.0.0 r.0.1 (decimal n.0) (cut_takes 32 t p.0.0 p.0.1 p.1) (cut_takes 32 p.0.1 q.0.0 q.0.1 q.1) (cut_takes 32 q.0.1 r.0.0 r.0.1 r.1) number.0,
      record { word = w.0; port = number.1; proto = w.1; formats = some },
    )

-- ---- the form of an `m=` line

-- what stands behind a space of a line
pub inner_end : (x y : List ℕ) → list_all is_inner (x ++ 32 ∷ y) ≡ true → list_all is_inner y ≡ true
inner_end [] y e = e
inner_end (c ∷ x) y e = inner_end x y (and_parts (is_inner c) (list_all is_inner (x ++ 32 ∷ y)) e).1

inner_join : (x y : List ℕ) → list_all is_inner x ≡ true → list_all is_inner y ≡ true → list_all is_inner (x ++ 32 ∷ y) ≡ true
inner_join [] y p q = q
inner_join (c ∷ x) y p q =
    let h = and_parts (is_inner c) (list_all is_inner x) p in
    rw (h.0, inner_join x y h.1 q) refl

printing_inner : (c : ℕ) → is_printing c ≡ true → is_inner c ≡ true
printing_inner c e =
    let low : 33 ≤ c = printing_low c e in
    rw (ne_eqb c 0 (λ h. omega arith), ne_eqb c 10 (λ h. omega arith), ne_eqb c 13 (λ h. omega arith)) refl

printing_all_inner : (t : List ℕ) → list_all is_printing t ≡ true → list_all is_inner t ≡ true
printing_all_inner [] e = refl
printing_all_inner (c ∷ t) e =
    let p = and_parts (is_printing c) (list_all is_printing t) e in
    rw (printing_inner c p.0, printing_all_inner t p.1) refl

word_inner : (t : List ℕ) → is_word t ≡ true → list_all is_inner t ≡ true
unfolding is_word
word_inner t e = printing_all_inner t (and_parts (not (eqb (length t) 0)) (list_all is_printing t) e).1

lacks_inner : (t : List ℕ) → Lacks 0 t → Lacks 10 t → Lacks 13 t → list_all is_inner t ≡ true
lacks_inner [] a b c = refl
lacks_inner (x ∷ t) a b c = rw (a.0, b.0, c.0, lacks_inner t a.1 b.1 c.1) refl

decimal_inner : (n : ℕ) → n ≤ 65535 → list_all is_inner (decimal n) ≡ true
decimal_inner n small =
    lacks_inner (decimal n) (decimal_lacks 0 n (omega arith) (inl (omega arith))) (decimal_lacks 10 n (omega arith) (inl (omega arith)))
    (decimal_lacks 13 n (omega arith) (inl (omega arith)))

-- an `m=` line has the form of a line
pub medium_form : (m : Medium) → IsMedium m → has_form (medium_line m) ≡ true
unfolding has_form
medium_form m is =
    inner_join m.word (decimal m.port ++ 32 ∷ (m.proto ++ 32 ∷ m.formats)) (word_inner m.word is.word)
    (inner_join (decimal m.port) (m.proto ++ 32 ∷ m.formats) (decimal_inner m.port is.port)
    (inner_join m.proto m.formats (word_inner m.proto is.proto) is.inner))
