-- That the waiting ports are bound ones, so that there are no more of them.
use Rattle.std.proofs.Common.{◌≡◌, ◌<◌, ◌≤◌, ◌+◌, ℕ, suc, length, Bool, true, false, List, [], ◌∷◌, Option, Some, None, refl, sym, ap, subst, ◌∙◌, arith, inl, inr}
use Rattle.std.specs.Prelude.{◌==◌, ◌≢◌, is_some, not, cond}
use Rattle.std.specs.BTreeMap.{get, is_at}
use Rattle.std.specs.Map.{lookup}
use Rattle.std.specs.Ordering.{nat_cmp}
use Rattle.std.proofs.lemmas.Bool.{cases_eq, eq-eqb, ne_eqb}
use Rattle.sg_edge.specs.declared.ports.Bound.{Bound}
use Rattle.sg_edge.specs.Ports.{IsMarkedWaiting, Sockets, is_marked, times, without}
use Rattle.sg_edge.proofs.Waiting.{is_apart, others_stay, taken_out, times_at}

-- a list has as many as the list without a port, and those that are the port
counts : (port : ℕ) (ws : List ℕ) → length ws ≡ times port ws + length (without port ws)
counts port [] = refl
counts port (x ∷ ws) = by (x == port) refl (counts port ws)
  where
    by : (b : Bool) → (x == port) ≡ b → length ws ≡ times port ws + length (without port ws) → suc (length ws) ≡ times port (x ∷ ws) + length (cond (not b) (x ∷ without port ws) (without port ws))
    by true e rest = omega (arith, rest, times_at port x ws true e)
    by false e rest = omega (arith, rest, times_at port x ws false e)

-- how often a port may stand among those that wait
abbrev at_most : ℕ → List (ℕ × Bound) → ℕ
at_most q es = cond (is_some (lookup (is_at (nat_cmp q)) es)) 1 0

one_most : (b : Bool) → cond b 1 0 ≤ 1
one_most true = omega arith
one_most false = omega arith

-- a port that stands behind the first entry
behind : (q : ℕ) (e : ℕ × Bound) (es : List (ℕ × Bound)) → q ≢ e.0 → at_most q (e ∷ es) ≡ at_most q es
behind q e es apart = ap (λ (b : Bool). cond (is_some (cond b (Some e.1) (lookup (is_at (nat_cmp q)) es))) 1 0) (is_apart q e.0 (λ same. apart (sym same)))

others_fit : (q : ℕ) (e : ℕ × Bound) (es : List (ℕ × Bound)) (ws : List ℕ) → times q ws ≤ at_most q (e ∷ es) → times q (without e.0 ws) ≤ at_most q es
others_fit q e es ws few = elim (cases_eq q e.0) [
  | inl same ↦
      let none : times q (without e.0 ws) ≡ 0 = ap (λ (n : ℕ). times n (without e.0 ws)) same ∙ taken_out e.0 ws in
      omega (arith, none)
  | inr apart ↦ omega (arith, few, others_stay e.0 q apart ws, behind q e es apart)
]

-- Ports that stand in a list once, and only where they are bound, are no more than the bound ones.
fits : (es : List (ℕ × Bound)) (ws : List ℕ) → ((q : ℕ) → times q ws ≤ at_most q es) → length ws ≤ length es
fits [] [] few = omega arith
fits [] (x ∷ xs) few =
    let none : times x (x ∷ xs) ≤ 0 = few x in
    absurd (omega (arith, none, times_at x x xs true (eq-eqb x x refl)))
fits (e ∷ es) ws few =
    let most : at_most e.0 (e ∷ es) ≤ 1 = one_most (is_some (lookup (is_at (nat_cmp e.0)) (e ∷ es))) in
    let rest : length (without e.0 ws) ≤ length es = fits es (without e.0 ws) (λ q. others_fit q e es ws (few q)) in
    omega (arith, counts e.0 ws, few e.0, most, rest)

marked_some : (b : Option Bound) → cond (is_marked b) 1 0 ≤ cond (is_some b) 1 0
marked_some None = omega arith
marked_some (Some b) = one_most b.is_waiting

-- Where a bound port doesn't wait, fewer wait than are bound.
pub room_for : (bound : Sockets) (ws : List ℕ) (port : ℕ) (b : Bound) → ((q : ℕ) → IsMarkedWaiting bound ws q) → get nat_cmp bound port ≡ Some b → b.is_waiting ≡ false → length ws < length bound.entries
room_for bound ws port b marked there unmarked =
    let here : times port (port ∷ ws) ≤ at_most port bound.entries =
    (let one : at_most port bound.entries ≡ 1 = ap (λ (o : Option Bound). cond (is_some o) 1 0) there in
    let none : times port ws ≡ 0 = marked port ∙ ap (λ (o : Option Bound). cond (is_marked o) 1 0) there ∙ ap (λ (w : Bool). cond w 1 0) unmarked in
    omega (arith, one, none, times_at port port ws true (eq-eqb port port refl))) in
    let all : length (port ∷ ws) ≤ length bound.entries = fits bound.entries (port ∷ ws) (λ q. elim (cases_eq q port) [
      | inl same ↦ subst (λ (p : ℕ). times p (port ∷ ws) ≤ at_most p bound.entries) (sym same) here
      | inr apart ↦ (let may : cond (is_marked (get nat_cmp bound q)) 1 0 ≤ at_most q bound.entries = marked_some (get nat_cmp bound q) in
          omega (arith, may, marked q, times_at q port ws false (ne_eqb port q (λ same. apart (sym same)))))
    ]) in
    omega (arith, all)
