-- Asks of which some sends are left out: they hold the same ports, and each fits where it did.
use Rattle.std.proofs.Common.{◌≡◌, ◌⊎◌, inl, inr, ℕ, Bool, true, false, cond, List, [], ◌∷◌, ◌++◌, refl, sym, ap, ◌∙◌, subst, eqb, flat_map}
use Rattle.sg_relay.proofs.Common.{Act, Ask, Bind, EachFits, Fits, PortsAreOfCalls, Send, Unbind, World, asks_of, held_after}

-- the second are the first, but for some sends
abbrev pub LeavesOutSends : List Ask → List Ask → Type 0
LeavesOutSends [] ys = ys ≡ []
LeavesOutSends (Bind p ∷ xs) ys = (rest : List Ask) × (ys ≡ Bind p ∷ rest) × LeavesOutSends xs rest
LeavesOutSends (Unbind p ∷ xs) ys = (rest : List Ask) × (ys ≡ Unbind p ∷ rest) × LeavesOutSends xs rest
LeavesOutSends (Send p to octets ∷ xs) ys = LeavesOutSends xs ys ⊎ ((rest : List Ask) × (ys ≡ Send p to octets ∷ rest) × LeavesOutSends xs rest)

pub leaves_none : (xs : List Ask) → LeavesOutSends xs xs
leaves_none [] = refl
leaves_none (Bind p ∷ xs) = (xs, refl, leaves_none xs)
leaves_none (Unbind p ∷ xs) = (xs, refl, leaves_none xs)
leaves_none (Send p to octets ∷ xs) = inr (xs, refl, leaves_none xs)

pub leaves_more : (xs ys more others : List Ask) → LeavesOutSends xs ys → LeavesOutSends more others → LeavesOutSends (xs ++ more) (ys ++ others)
leaves_more [] ys more others none then = subst (λ (l : List Ask). LeavesOutSends more (l ++ others)) (sym none) then
leaves_more (Bind p ∷ xs) ys more others (rest, is, left) then = (rest ++ others, ap (λ (l : List Ask). l ++ others) is, leaves_more xs rest more others left then)
leaves_more (Unbind p ∷ xs) ys more others (rest, is, left) then = (rest ++ others, ap (λ (l : List Ask). l ++ others) is, leaves_more xs rest more others left then)
leaves_more (Send p to octets ∷ xs) ys more others (inl left) then = inl (leaves_more xs ys more others left then)
leaves_more (Send p to octets ∷ xs) ys more others (inr (rest, is, left)) then = inr (rest ++ others, ap (λ (l : List Ask). l ++ others) is, leaves_more xs rest more others left then)

-- the same ports are held after them
pub leaves_held : (xs ys : List Ask) → LeavesOutSends xs ys → (port : ℕ) (was : Bool) → held_after port was xs ≡ held_after port was ys
leaves_held [] ys none port was = ap (held_after port was) (sym none)
leaves_held (Bind p ∷ xs) ys (rest, is, left) port was = leaves_held xs rest left port (cond (eqb p port) true was) ∙ ap (held_after port was) (sym is)
leaves_held (Unbind p ∷ xs) ys (rest, is, left) port was = leaves_held xs rest left port (cond (eqb p port) false was) ∙ ap (held_after port was) (sym is)
leaves_held (Send p to octets ∷ xs) ys (inl left) port was = leaves_held xs ys left port was
leaves_held (Send p to octets ∷ xs) ys (inr (rest, is, left)) port was = leaves_held xs rest left port was ∙ ap (held_after port was) (sym is)

-- an ask that is left, where it stood among all
abbrev IsAmong : List Ask → List Ask → Ask → Type 0
IsAmong xs before ask = (first rest : List Ask) × (xs ≡ first ++ ask ∷ rest) × LeavesOutSends first before

heads : (x y : Ask) (xs ys : List Ask) → (let l : List Ask = x ∷ xs in l ≡ y ∷ ys) → x ≡ y
heads x y xs ys is = cc

tails : (x y : Ask) (xs ys : List Ask) → (let l : List Ask = x ∷ xs in l ≡ y ∷ ys) → xs ≡ ys
tails x y xs ys is = cc

among : (xs before after : List Ask) (ask : Ask) → LeavesOutSends xs (before ++ ask ∷ after) → IsAmong xs before ask
among [] [] after ask none = absurd cc
among [] (x ∷ before) after ask none = absurd cc
among (Bind p ∷ xs) [] after ask (others, is, left) = ([], xs, ap (λ (a : Ask). a ∷ xs) (sym (heads ask (Bind p) after others is)), refl)
among (Bind p ∷ xs) (x ∷ before) after ask (others, is, left) =
    let (first, rest, all, kept) = among xs before after ask (subst (LeavesOutSends xs) (sym (tails x (Bind p) (before ++ ask ∷ after) others is)) left) in
    (Bind p ∷ first, rest, ap (λ (l : List Ask). Bind p ∷ l) all, (before, ap (λ (a : Ask). a ∷ before) (heads x (Bind p) (before ++ ask ∷ after) others is), kept))
among (Unbind p ∷ xs) [] after ask (others, is, left) = ([], xs, ap (λ (a : Ask). a ∷ xs) (sym (heads ask (Unbind p) after others is)), refl)
among (Unbind p ∷ xs) (x ∷ before) after ask (others, is, left) =
    let (first, rest, all, kept) = among xs before after ask (subst (LeavesOutSends xs) (sym (tails x (Unbind p) (before ++ ask ∷ after) others is)) left) in
    (Unbind p ∷ first, rest, ap (λ (l : List Ask). Unbind p ∷ l) all, (before, ap (λ (a : Ask). a ∷ before) (heads x (Unbind p) (before ++ ask ∷ after) others is), kept))
among (Send p to octets ∷ xs) before after ask (inl left) =
    let (first, rest, all, kept) = among xs before after ask left in
    (Send p to octets ∷ first, rest, ap (λ (l : List Ask). Send p to octets ∷ l) all, inl kept)
among (Send p to octets ∷ xs) [] after ask (inr (others, is, left)) = ([], xs, ap (λ (a : Ask). a ∷ xs) (sym (heads ask (Send p to octets) after others is)), refl)
among (Send p to octets ∷ xs) (x ∷ before) after ask (inr (others, is, left)) =
    let (first, rest, all, kept) = among xs before after ask (subst (LeavesOutSends xs) (sym (tails x (Send p to octets) (before ++ ask ∷ after) others is)) left) in
    (Send p to octets ∷ first, rest, ap (λ (l : List Ask). Send p to octets ∷ l) all, inr (before, ap (λ (a : Ask). a ∷ before) (heads x (Send p to octets) (before ++ ask ∷ after) others is), kept))

fits_so : (first before : List Ask) (ask : Ask) → ((port : ℕ) → held_after port false first ≡ held_after port false before) → Fits first ask → Fits before ask
fits_so first before (Bind p) same fits = λ held. fits (same p ∙ held)
fits_so first before (Unbind p) same fits = sym (same p) ∙ fits
fits_so first before (Send p to octets) same fits = sym (same p) ∙ fits

pub leaves_fit : (xs ys : List Ask) → LeavesOutSends xs ys → EachFits xs → EachFits ys
leaves_fit xs ys left each = λ before after ask is.
    let (first, rest, all, kept) = among xs before after ask (subst (LeavesOutSends xs) is left) in
    fits_so first before ask (λ port. leaves_held first before kept port false) (each first rest ask all)

-- acts that ask for the same but for some sends
pub ports_left : (acts fewer : List Act) (w : World) → LeavesOutSends (flat_map asks_of acts) (flat_map asks_of fewer) → PortsAreOfCalls acts w → PortsAreOfCalls fewer w
ports_left acts fewer w left all =
    let same = leaves_held (flat_map asks_of acts) (flat_map asks_of fewer) left in record {
      ports = record { held = λ port is. all.ports.held port (same port false ∙ is); all = λ port a. sym (same port false) ∙ all.ports.all port a };
      each = leaves_fit (flat_map asks_of acts) (flat_map asks_of fewer) left all.each;
    }
