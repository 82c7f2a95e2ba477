-- What is held after asks.
use Rattle.std.proofs.Common.{◌≡◌, ◌⊎◌, inl, inr, ℕ, zero, suc, ◌+◌, ◌<◌, ◌≤◌, Bool, true, false, cond, List, [], ◌∷◌, ◌++◌, map, refl, sym, ap, ◌∙◌, subst, arith, eqb}
use Rattle.sg_relay.proofs.Common.{Ask, Bind, EachFits, Fits, Send, Unbind, eq-eqb, false≢true, held_after, hold, ne_eqb, ports_from}

pub held-append : (port : ℕ) (was : Bool) (a b : List Ask) → held_after port was (a ++ b) ≡ held_after port (held_after port was a) b
held-append port was [] b = refl
held-append port was (Bind p ∷ a) b = held-append port (cond (eqb p port) true was) a b
held-append port was (Unbind p ∷ a) b = held-append port (cond (eqb p port) false was) a b
held-append port was (Send p to octets ∷ a) b = held-append port was a b

-- the ports that are held after asks, of those that were so before them
abbrev pub after : (ℕ → Bool) → List Ask → ℕ → Bool
after held asks port = held_after port (held port) asks

-- each ask fits, where these ports were held before
abbrev pub AreFit : (ℕ → Bool) → List Ask → Type 0
AreFit held [] = Unit {0}
AreFit held (Bind p ∷ asks) = (held p ≡ false) × AreFit (after held (Bind p ∷ [])) asks
AreFit held (Unbind p ∷ asks) = (held p ≡ true) × AreFit (after held (Unbind p ∷ [])) asks
AreFit held (Send p to octets ∷ asks) = (held p ≡ true) × AreFit held asks

pub fit_append : (held : ℕ → Bool) (a b : List Ask) → AreFit held a → AreFit (after held a) b → AreFit held (a ++ b)
fit_append held [] b first more = more
fit_append held (Bind p ∷ a) b first more = (first.0, fit_append (after held (Bind p ∷ [])) a b first.1 more)
fit_append held (Unbind p ∷ a) b first more = (first.0, fit_append (after held (Unbind p ∷ [])) a b first.1 more)
fit_append held (Send p to octets ∷ a) b first more = (first.0, fit_append held a b first.1 more)

-- they fit where the same ports were held
pub fit_same : (held others : ℕ → Bool) (asks : List Ask) → ((port : ℕ) → held port ≡ others port) → AreFit held asks → AreFit others asks
fit_same held others asks same fit = subst (λ (h : ℕ → Bool). AreFit h asks) (λ i port. same port i) fit

-- each of them, behind those before it
pub each_fits : (asks : List Ask) → AreFit (λ port. false) asks → EachFits asks
each_fits asks fit = λ before rest ask is. at (λ port. false) before ask rest (subst (AreFit (λ port. false)) is fit) (λ port. refl)
  where
    last : (held : ℕ → Bool) (ask : Ask) (rest : List Ask) → AreFit held (ask ∷ rest) → (before : List Ask) → ((port : ℕ) → held port ≡ held_after port false before) → Fits before ask
    last held (Bind p) rest fit before same = λ is. false≢true (sym fit.0 ∙ same p ∙ is)
    last held (Unbind p) rest fit before same = sym (same p) ∙ fit.0
    last held (Send p to octets) rest fit before same = sym (same p) ∙ fit.0

    from : (held : ℕ → Bool) (before : List Ask) (ask : Ask) (rest : List Ask) → AreFit held (before ++ ask ∷ rest) → AreFit (after held before) (ask ∷ rest)
    from held [] ask rest fit = fit
    from held (Bind p ∷ before) ask rest fit = from (after held (Bind p ∷ [])) before ask rest fit.1
    from held (Unbind p ∷ before) ask rest fit = from (after held (Unbind p ∷ [])) before ask rest fit.1
    from held (Send p to octets ∷ before) ask rest fit = from held before ask rest fit.1

    at : (held : ℕ → Bool) (before : List Ask) (ask : Ask) (rest : List Ask) → AreFit held (before ++ ask ∷ rest) → ((port : ℕ) → held port ≡ false) → Fits before ask
    at held before ask rest fit none = last (after held before) ask rest (from held before ask rest fit) before (λ port. ap (λ b. held_after port b before) (none port))

-- ---- ports that follow one another are bound, or given up

abbrev pub bound_from : ℕ → ℕ → List Ask
bound_from first n = map (hold true) (ports_from first n)

abbrev pub given_from : ℕ → ℕ → List Ask
given_from first n = map (hold false) (ports_from first n)

-- one of them, or another
pub bound_in : (port : ℕ) (was : Bool) (first n : ℕ) → first ≤ port → port < first + n → held_after port was (bound_from first n) ≡ true
bound_in port was first zero le lt = absurd (omega (arith, le, lt))
bound_in port was first (suc n) le lt = elim (Rattle.std.proofs.lemmas.Bool.cases_eq first port) [
  | inl same ↦ ap (λ b. held_after port (cond b true was) (bound_from (first + 1) n)) (eq-eqb first port same) ∙ still port true (first + 1) n refl
  | inr other ↦ bound_in port (cond (eqb first port) true was) (first + 1) n (omega (arith, le, other)) (omega (arith, lt))
]
  where
    still : (port : ℕ) (was : Bool) (first n : ℕ) → was ≡ true → held_after port was (bound_from first n) ≡ true
    still port was first zero is = is
    still port was first (suc n) is = still port (cond (eqb first port) true was) (first + 1) n (go (eqb first port))
      where
        go : (b : Bool) → cond b true was ≡ true
        go true = refl
        go false = is

pub bound_other : (port : ℕ) (was : Bool) (first n : ℕ) → (port < first) ⊎ (first + n ≤ port) → held_after port was (bound_from first n) ≡ was
bound_other port was first zero off = refl
bound_other port was first (suc n) off =
    ap (λ b. held_after port (cond b true was) (bound_from (first + 1) n)) (ne_eqb first port (λ same. elim off [ inl low ↦ omega (arith, same, low) | inr high ↦ omega (arith, same, high) ]))
    ∙ bound_other port was (first + 1) n (elim off [ inl low ↦ inl (omega (arith, low)) | inr high ↦ inr (omega (arith, high)) ])

given_still : (port first n : ℕ) → held_after port false (given_from first n) ≡ false
given_still port first zero = refl
given_still port first (suc n) = ap (λ b. held_after port b (given_from (first + 1) n)) (go (eqb first port)) ∙ given_still port (first + 1) n
  where
    go : (b : Bool) → cond b false false ≡ false
    go true = refl
    go false = refl

pub given_in : (port : ℕ) (was : Bool) (first n : ℕ) → first ≤ port → port < first + n → held_after port was (given_from first n) ≡ false
given_in port was first zero le lt = absurd (omega (arith, le, lt))
given_in port was first (suc n) le lt = elim (Rattle.std.proofs.lemmas.Bool.cases_eq first port) [
  | inl same ↦ ap (λ b. held_after port (cond b false was) (given_from (first + 1) n)) (eq-eqb first port same) ∙ given_still port (first + 1) n
  | inr other ↦ given_in port (cond (eqb first port) false was) (first + 1) n (omega (arith, le, other)) (omega (arith, lt))
]

pub given_other : (port : ℕ) (was : Bool) (first n : ℕ) → (port < first) ⊎ (first + n ≤ port) → held_after port was (given_from first n) ≡ was
given_other port was first zero off = refl
given_other port was first (suc n) off =
    ap (λ b. held_after port (cond b false was) (given_from (first + 1) n)) (ne_eqb first port (λ same. elim off [ inl low ↦ omega (arith, same, low) | inr high ↦ omega (arith, same, high) ]))
    ∙ given_other port was (first + 1) n (elim off [ inl low ↦ inl (omega (arith, low)) | inr high ↦ inr (omega (arith, high)) ])

-- none of them was held, or each was
pub bound_fit : (held : ℕ → Bool) (first n : ℕ) → ((port : ℕ) → first ≤ port → port < first + n → held port ≡ false) → AreFit held (bound_from first n)
bound_fit held first zero none = tt
bound_fit held first (suc n) none = (
  none first (omega arith) (omega arith),
  bound_fit (after held (Bind first ∷ [])) (first + 1) n
      (λ port le lt. ap (λ b. cond b true (held port)) (ne_eqb first port (λ same. omega (arith, same, le))) ∙ none port (omega (arith, le)) (omega (arith, lt))),
)

pub given_fit : (held : ℕ → Bool) (first n : ℕ) → ((port : ℕ) → first ≤ port → port < first + n → held port ≡ true) → AreFit held (given_from first n)
given_fit held first zero each = tt
given_fit held first (suc n) each = (
  each first (omega arith) (omega arith),
  given_fit (after held (Unbind first ∷ [])) (first + 1) n
      (λ port le lt. ap (λ b. cond b false (held port)) (ne_eqb first port (λ same. omega (arith, same, le))) ∙ each port (omega (arith, le)) (omega (arith, lt))),
)
