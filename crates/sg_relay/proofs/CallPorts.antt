-- The ports of calls, as the gateway finds the call of a port, and what their binds and unbinds hold.
use Rattle.std.proofs.Common.{◌≡◌, ◌⊎◌, inl, inr, ℕ, ◌+◌, ◌*◌, ◌<◌, ◌≤◌, ◌-◌, ◌/◌, ◌%◌, Bool, true, false, cond, not, ◌||◌, List, [], ◌∷◌, map, refl, sym, ap, ap₂, ◌∙◌, arith, ltb, leb}
use Rattle.sg_gateway.proofs.Reached.{before_apart}
use Rattle.sg_relay.proofs.Common.{AllByRecursion, Any, Ask, Call, IsBefore, IsPortOf, Pairs, Why, and_call, and_cases, and_from, and_parts, any_cases}
use Rattle.sg_relay.proofs.Common.{any_here, any_none, any_there, each_weaker, false≢true, filter, flat_map, has_port, held_after, hold, le-leb, leb-false}
use Rattle.sg_relay.proofs.Common.{leb-true, lt-ltb, ltb-false, ltb-true, or_cases, or_left, or_right, port_at, ports_of, tells_ended}
use Rattle.sg_relay.proofs.Asks.{asked_by}
use Rattle.sg_relay.proofs.Held.{AreFit, after, bound_fit, bound_in, bound_other, fit_append, given_fit, given_in, given_other, held-append}

-- a port of one of these calls
abbrev pub of_calls : ℕ → List Call → Bool
of_calls port [] = false
of_calls port (c ∷ cs) = has_port port c || of_calls port cs

-- ---- in a call's words, and in the law's

pub within : (port : ℕ) (c : Call) → has_port port c ≡ true → (port_at c.slot 0 0 ≤ port) × (port < port_at c.slot 0 0 + 4 * c.media)
within port c has =
    let parts = and_parts (leb (port_at c.slot 0 0) port) (ltb port (port_at c.slot c.media 0)) has in
    let high = ltb-true _ _ parts.1 in
    (leb-true _ _ parts.0, omega (arith, high))

outside : (port : ℕ) (c : Call) → has_port port c ≡ false → (port < port_at c.slot 0 0) ⊎ (port_at c.slot 0 0 + 4 * c.media ≤ port)
outside port c has = elim (and_cases (leb (port_at c.slot 0 0) port) (ltb port (port_at c.slot c.media 0)) has) [
  | inl low ↦ inl (leb-false _ _ low)
  | inr high ↦ inr (let le = ltb-false _ _ high in omega (arith, le))
]

pub has_within : (port : ℕ) (c : Call) → port_at c.slot 0 0 ≤ port → port < port_at c.slot 0 0 + 4 * c.media → has_port port c ≡ true
has_within port c low high = and_from _ _ (le-leb (port_at c.slot 0 0) port low) (lt-ltb port (port_at c.slot c.media 0) (omega (arith, high)))

pub of_call : (port : ℕ) (c : Call) → IsPortOf port c → has_port port c ≡ true
of_call port c p =
    let is = p.is in let lt = p.of_call in let four = p.of_four in
    has_within port c (omega (arith, is)) (omega (arith, is, lt, four))

pub port_of_call : (port : ℕ) (c : Call) → has_port port c ≡ true → IsPortOf port c
port_of_call port c has =
    let at = within port c has in
    let n : ℕ = port - port_at c.slot 0 0 in
    record { medium = n / 4; leg = n % 4; of_call = omega (arith, at.0, at.1); of_four = omega arith; is = omega (arith, at.0) }

pub of_any : (port : ℕ) (cs : List Call) → Any (IsPortOf port) cs → of_calls port cs ≡ true
of_any port [] a = absurd (any_none (IsPortOf port) a)
of_any port (c ∷ cs) a = elim (any_cases (IsPortOf port) c cs a) [
  | inl here ↦ or_left _ _ (of_call port c here)
  | inr there ↦ or_right _ _ (of_any port cs there)
]

pub any_of_calls : (port : ℕ) (cs : List Call) → of_calls port cs ≡ true → Any (IsPortOf port) cs
any_of_calls port [] has = absurd (false≢true has)
any_of_calls port (c ∷ cs) has = elim (or_cases (has_port port c) (of_calls port cs) has) [
  | inl here ↦ any_here (IsPortOf port) c cs (port_of_call port c here)
  | inr there ↦ any_there (IsPortOf port) c cs (any_of_calls port cs there)
]

-- a port of a call that is one of them
pub of_one : (port : ℕ) (c : Call) (cs : List Call) → Any (λ x. x ≡ c) cs → has_port port c ≡ true → of_calls port cs ≡ true
of_one port c [] a has = absurd (any_none (λ x. x ≡ c) a)
of_one port c (x ∷ cs) a has = elim (any_cases (λ x. x ≡ c) x cs a) [
  | inl same ↦ or_left _ _ (ap (has_port port) same ∙ has)
  | inr there ↦ or_right _ _ (of_one port c cs there has)
]

-- ---- calls that stand apart

abbrev pub Apart : Call → Call → Type 0
Apart c d = (port : ℕ) → has_port port c ≡ true → has_port port d ≡ false

pub apart_from : (cs : List Call) → AllByRecursion (λ c. c.media ≤ 4) cs → Pairs IsBefore cs → Pairs Apart cs
apart_from [] few before = tt
apart_from (c ∷ cs) few before = (each_weaker (IsBefore c) (Apart c) (λ d b. (before_apart c d few.0 b).ports) cs before.0, apart_from cs few.1 before.1)

-- a port that none of them has
pub none_has : (port : ℕ) (cs : List Call) → AllByRecursion (λ c. has_port port c ≡ false) cs → of_calls port cs ≡ false
none_has port [] none = refl
none_has port (c ∷ cs) none = ap₂ (λ (a b : Bool). a || b) none.0 (none_has port cs none.1)

none_of : (port : ℕ) (cs : List Call) → of_calls port cs ≡ false → AllByRecursion (λ c. has_port port c ≡ false) cs
none_of port [] none = tt
none_of port (c ∷ cs) none = let parts = Rattle.std.proofs.lemmas.Bool.or_parts (has_port port c) (of_calls port cs) none in (parts.0, none_of port cs parts.1)

filtered_none : (port : ℕ) (test : Call → Bool) (cs : List Call) → of_calls port cs ≡ false → of_calls port (filter test cs) ≡ false
filtered_none port test cs none = none_has port (filter test cs) (Rattle.sg_session.proofs.Lists.each_filter (λ c. has_port port c ≡ false) test cs (none_of port cs none))

-- of calls that are parted by a test no two have one port
pub parted : (port : ℕ) (test : Call → Bool) (cs : List Call) → Pairs Apart cs → of_calls port (filter test cs) ≡ true → of_calls port (filter (λ c. not (test c)) cs) ≡ false
parted port test [] apart has = refl
parted port test (c ∷ cs) apart has = go (parted port test cs apart.1) (test c) (has_port port c) refl has
  where
    rest : has_port port c ≡ true → of_calls port cs ≡ false
    rest is = none_has port cs (each_weaker (Apart c) (λ d. has_port port d ≡ false) (λ d a. a port is) cs apart.0)

    go : (of_calls port (filter test cs) ≡ true → of_calls port (filter (λ c. not (test c)) cs) ≡ false) → (t h : Bool) → has_port port c ≡ h → of_calls port (cond t (c ∷ filter test cs) (filter test cs)) ≡ true
        → of_calls port (cond (not t) (c ∷ filter (λ c. not (test c)) cs) (filter (λ c. not (test c)) cs)) ≡ false
    go more true true is has = filtered_none port (λ c. not (test c)) cs (rest is)
    go more true false is has = more (ap (λ b. b || of_calls port (filter test cs)) (sym is) ∙ has)
    go more false true is has = absurd (false≢true (sym (filtered_none port test cs (rest is)) ∙ has))
    go more false false is has = ap (λ b. b || of_calls port (filter (λ c. not (test c)) cs)) is ∙ more has

-- and where those of the one part haven't, those of the other have what all have
pub others_have : (port : ℕ) (test : Call → Bool) (cs : List Call) → of_calls port (filter test cs) ≡ false → of_calls port (filter (λ c. not (test c)) cs) ≡ of_calls port cs
others_have port test [] none = refl
others_have port test (c ∷ cs) none = go (others_have port test cs) (test c) none
  where
    go : (of_calls port (filter test cs) ≡ false → of_calls port (filter (λ c. not (test c)) cs) ≡ of_calls port cs) → (t : Bool) → of_calls port (cond t (c ∷ filter test cs) (filter test cs)) ≡ false
        → of_calls port (cond (not t) (c ∷ filter (λ c. not (test c)) cs) (filter (λ c. not (test c)) cs)) ≡ has_port port c || of_calls port cs
    go more true none = let parts = Rattle.std.proofs.lemmas.Bool.or_parts (has_port port c) (of_calls port (filter test cs)) none in more parts.1 ∙ ap (λ b. b || of_calls port cs) (sym parts.0)
    go more false none = ap (λ b. has_port port c || b) (more none)

-- ---- calls that are changed in their places keep their ports

pub of_map : (port : ℕ) (f : Call → Call) (cs : List Call) → AllByRecursion (λ c. has_port port (f c) ≡ has_port port c) cs → of_calls port (map f cs) ≡ of_calls port cs
of_map port f [] same = refl
of_map port f (c ∷ cs) same = ap₂ (λ (a b : Bool). a || b) same.0 (of_map port f cs same.1)

-- ---- a call that is made

or_swap : (a b c : Bool) → a || (b || c) ≡ b || (a || c)
or_swap true true c = refl
or_swap true false c = refl
or_swap false true c = refl
or_swap false false c = refl

pub of_and : (port : ℕ) (d : Call) (cs : List Call) → of_calls port (and_call d cs) ≡ has_port port d || of_calls port cs
of_and port d [] = refl
of_and port d (c ∷ cs) = go (of_and port d cs) (ltb d.slot c.slot)
  where
    go : of_calls port (and_call d cs) ≡ has_port port d || of_calls port cs → (b : Bool) → of_calls port (cond b (d ∷ (c ∷ cs)) (c ∷ and_call d cs)) ≡ has_port port d || (has_port port c || of_calls port cs)
    go more true = refl
    go more false = ap (λ b. has_port port c || b) more ∙ or_swap (has_port port c) (has_port port d) (of_calls port cs)

-- none of the others has a port of it
pub new_apart : (port : ℕ) (d : Call) (cs : List Call) → Pairs Apart (and_call d cs) → has_port port d ≡ true → of_calls port cs ≡ false
new_apart port d [] apart has = refl
new_apart port d (c ∷ cs) apart has = go (λ apart. new_apart port d cs apart has) (ltb d.slot c.slot) apart
  where
    go : (Pairs Apart (and_call d cs) → of_calls port cs ≡ false) → (b : Bool) → Pairs Apart (cond b (d ∷ (c ∷ cs)) (c ∷ and_call d cs)) → has_port port c || of_calls port cs ≡ false
    go more true apart = none_has port (c ∷ cs) (each_weaker (Apart d) (λ x. has_port port x ≡ false) (λ x a. a port has) (c ∷ cs) apart.0)
    go more false apart = at (has_port port c) refl
      where
        at : (b : Bool) → has_port port c ≡ b → has_port port c || of_calls port cs ≡ false
        at true is = absurd (false≢true (sym (none_has port (and_call d cs) (each_weaker (Apart c) (λ x. has_port port x ≡ false) (λ x a. a port is) (and_call d cs) apart.0))
            ∙ of_and port d cs ∙ ap (λ b. b || of_calls port cs) has))
        at false is = ap (λ b. b || of_calls port cs) is ∙ more apart.1

abbrev pub made_asks : Call → List Ask
made_asks c = map (hold true) (ports_of c.slot c.media)

pub made_held : (port : ℕ) (d : Call) (cs : List Call) → held_after port (of_calls port cs) (made_asks d) ≡ of_calls port (and_call d cs)
made_held port d cs = go (has_port port d) refl ∙ sym (of_and port d cs)
  where
    go : (b : Bool) → has_port port d ≡ b → held_after port (of_calls port cs) (made_asks d) ≡ has_port port d || of_calls port cs
    go true is = let at = within port d is in bound_in port (of_calls port cs) (port_at d.slot 0 0) (4 * d.media) at.0 at.1 ∙ sym (or_left _ _ is)
    go false is = bound_other port (of_calls port cs) (port_at d.slot 0 0) (4 * d.media) (outside port d is) ∙ ap (λ b. b || of_calls port cs) (sym is)

pub made_fit : (d : Call) (cs : List Call) → Pairs Apart (and_call d cs) → AreFit (λ port. of_calls port cs) (made_asks d)
made_fit d cs apart = bound_fit (λ port. of_calls port cs) (port_at d.slot 0 0) (4 * d.media) (λ port le lt. new_apart port d cs apart (has_within port d le lt))

-- ---- calls that end

abbrev pub ended_asks : Call → List Ask
ended_asks c = map (hold false) (ports_of c.slot c.media)

one_in : (port : ℕ) (was : Bool) (c : Call) → has_port port c ≡ true → held_after port was (ended_asks c) ≡ false
one_in port was c is = let at = within port c is in given_in port was (port_at c.slot 0 0) (4 * c.media) at.0 at.1

one_other : (port : ℕ) (was : Bool) (c : Call) → has_port port c ≡ false → held_after port was (ended_asks c) ≡ was
one_other port was c is = given_other port was (port_at c.slot 0 0) (4 * c.media) (outside port c is)

-- what is asked for of calls that end
abbrev pub all_ended : Why → List Call → List Ask
all_ended why cs = flat_map asked_by (map (tells_ended why) cs)

pub ended_other : (port : ℕ) (was : Bool) (why : Why) (cs : List Call) → of_calls port cs ≡ false → held_after port was (all_ended why cs) ≡ was
ended_other port was why [] none = refl
ended_other port was why (c ∷ cs) none =
    let parts = Rattle.std.proofs.lemmas.Bool.or_parts (has_port port c) (of_calls port cs) none in
    held-append port was (ended_asks c) (all_ended why cs) ∙ ap (λ b. held_after port b (all_ended why cs)) (one_other port was c parts.0) ∙ ended_other port was why cs parts.1

ended_still : (port : ℕ) (why : Why) (cs : List Call) → held_after port false (all_ended why cs) ≡ false
ended_still port why [] = refl
ended_still port why (c ∷ cs) =
    held-append port false (ended_asks c) (all_ended why cs) ∙ ap (λ b. held_after port b (all_ended why cs)) (go (has_port port c) refl) ∙ ended_still port why cs
  where
    go : (b : Bool) → has_port port c ≡ b → held_after port false (ended_asks c) ≡ false
    go true is = one_in port false c is
    go false is = one_other port false c is

pub ended_in : (port : ℕ) (was : Bool) (why : Why) (cs : List Call) → of_calls port cs ≡ true → held_after port was (all_ended why cs) ≡ false
ended_in port was why [] has = absurd (false≢true has)
ended_in port was why (c ∷ cs) has = held-append port was (ended_asks c) (all_ended why cs) ∙ go (ended_in port (held_after port was (ended_asks c)) why cs) (has_port port c) refl has
  where
    go : (of_calls port cs ≡ true → held_after port (held_after port was (ended_asks c)) (all_ended why cs) ≡ false) → (b : Bool) → has_port port c ≡ b → b || of_calls port cs ≡ true → held_after port (held_after port was (ended_asks c)) (all_ended why cs) ≡ false
    go more true is has = ap (λ b. held_after port b (all_ended why cs)) (one_in port was c is) ∙ ended_still port why cs
    go more false is has = more has

pub ended_fit : (held : ℕ → Bool) (why : Why) (cs : List Call) → Pairs Apart cs → ((port : ℕ) → of_calls port cs ≡ true → held port ≡ true) → AreFit held (all_ended why cs)
ended_fit held why [] apart each = tt
ended_fit held why (c ∷ cs) apart each = fit_append held (ended_asks c) (all_ended why cs)
    (given_fit held (port_at c.slot 0 0) (4 * c.media) (λ port le lt. each port (or_left _ _ (has_within port c le lt))))
    (ended_fit (after held (ended_asks c)) why cs apart.1 (λ port has. one_other port (held port) c (not_here port has (has_port port c) refl) ∙ each port (or_right _ _ has)))
  where
    not_here : (port : ℕ) → of_calls port cs ≡ true → (b : Bool) → has_port port c ≡ b → has_port port c ≡ false
    not_here port has true is = absurd (false≢true (sym (none_has port cs (each_weaker (Apart c) (λ d. has_port port d ≡ false) (λ d a. a port is) cs apart.0)) ∙ has))
    not_here port has false is = is

-- those that a test tells end, and the others stay
pub tested_held : (port : ℕ) (why : Why) (test : Call → Bool) (cs : List Call) → Pairs Apart cs
    → held_after port (of_calls port cs) (all_ended why (filter test cs)) ≡ of_calls port (filter (λ c. not (test c)) cs)
tested_held port why test cs apart = go (of_calls port (filter test cs)) refl
  where
    go : (b : Bool) → of_calls port (filter test cs) ≡ b → held_after port (of_calls port cs) (all_ended why (filter test cs)) ≡ of_calls port (filter (λ c. not (test c)) cs)
    go true has = ended_in port (of_calls port cs) why (filter test cs) has ∙ sym (parted port test cs apart has)
    go false none = ended_other port (of_calls port cs) why (filter test cs) none ∙ sym (others_have port test cs none)
