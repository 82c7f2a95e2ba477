-- What the parameters of a line say, whatever their order.
use Rattle.std.proofs.Common.{◌≡◌, ℕ, suc, ◌+◌, Bool, true, false, cond, List, [], ◌∷◌, ◌++◌, length, take, drop, Option, Some, None, refl, sym, ap, ◌∙◌, subst, arith, inl, inr}
use Rattle.std.specs.Prelude.{◌↔◌, codes, is_some, nat_eq, option_and_then}
use Rattle.std.specs.List.{AllByRecursion, filter, starts_with}
use Rattle.std.specs.Str.{bytes_eq}
use Rattle.std.proofs.lemmas.Bool.{cases_Bool}
use Rattle.std.proofs.lemmas.List.{take-append-drop}
use Rattle.std.proofs.lemmas.Slice.Eq.{bytes_eq-Decides}
use Rattle.sg_base.proofs.Cases.{chosen, is_name, some_is}
use Rattle.sg_base.proofs.FourNumbers.{bind_some}
use Rattle.sg_sdes.specs.declared.parameters.Parameters.{Parameters}
use Rattle.sg_sdes.specs.Grammar.{SaysNumber, SayWindow, IsParameter, count_of, is_window, times}
use Rattle.sg_sdes.specs.KeyTexts.{digits_at}
use Rattle.sg_sdes.specs.Parameters.{with_parameter, parameters_from}
use Rattle.sg_sdes.proofs.NumberGrammar.{number_says, number_reads}

pub some_unless : {A : Type 0} (b : Bool) (x y : A) → cond b None (Some x) ≡ Some y → (b ≡ false) × (x ≡ y)
some_unless true x y e = absurd cc
some_unless false x y e = (refl, cc)

-- a text that begins with another
pub begins : (needle t : List ℕ) → starts_with nat_eq t needle ≡ true → t ≡ needle ++ drop (length needle) t
begins needle t e =
    sym (take-append-drop (length needle) t)
    ∙ ap (λ (l : List ℕ). l ++ drop (length needle) t) (sym ((bytes_eq-Decides needle (take (length needle) t)).0 e))

-- the window parameters behind a window that was said, or wasn't
abbrev WindowFrom : Option ℕ → List (List ℕ) → Option ℕ → Type 0
WindowFrom None texts window = SayWindow texts window
WindowFrom (Some n) [] window = window ≡ Some n
WindowFrom (Some n) (text ∷ texts) window = ⊥

-- the parameters, and what was said before them
pub record From (said : Parameters) (ts : List (List ℕ)) (all : Parameters) : Type 0 where
  pub known : AllByRecursion IsParameter ts
  pub rate : count_of (codes "KDR=0") ts + times said.rate ≡ times all.rate
  pub order : count_of (codes "FEC_ORDER=FEC_SRTP") ts + times said.order ≡ times all.order
  pub plain_rtp : count_of (codes "UNENCRYPTED_SRTP") ts + times said.plain_rtp ≡ times all.plain_rtp
  pub plain_rtcp : count_of (codes "UNENCRYPTED_SRTCP") ts + times said.plain_rtcp ≡ times all.plain_rtcp
  pub window : WindowFrom said.window (filter is_window ts) all.window

-- ---- what was read says so

window_end : (w : Option ℕ) → WindowFrom w [] w
window_end None = tt
window_end (Some n) = refl

window_step : (w : Option ℕ) (t : List ℕ) (n : ℕ) → is_some w ≡ false → SaysNumber (drop 4 t) n → WindowFrom w (t ∷ []) (Some n)
window_step (Some m) t n e says = absurd cc
window_step None t n e says = says

window_one : (t : List ℕ) (n : ℕ) (u : Option ℕ) → SaysNumber (drop 4 t) n → SayWindow (t ∷ []) u → u ≡ Some n
window_one t n None says f = absurd f
window_one t n (Some m) says f = ap Some (sym f.value ∙ says.value)

-- one parameter, and those behind it
count_step : (name t : List ℕ) (ts : List (List ℕ)) → count_of name (t ∷ ts) ≡ count_of name (t ∷ []) + count_of name ts
count_step name t ts = elim (cases_Bool (bytes_eq t name)) [ inl is ↦ rw is (omega arith) | inr is ↦ rw is (omega arith) ]

windows : (b : Bool) (t : List ℕ) (ws : List (List ℕ)) (w v u : Option ℕ) → WindowFrom w (cond b (t ∷ []) []) v → WindowFrom v ws u ↔ WindowFrom w (cond b (t ∷ ws) ws) u
windows false t ws None None u f = (λ g. g, λ g. g)
windows false t ws None (Some n) u f = absurd f
windows false t ws (Some m) v u f = rw f (λ g. g, λ g. g)
windows true t ws (Some m) v u f = absurd f
windows true t ws None None u f = absurd f
windows true t [] None (Some n) u f = (λ g. subst (SayWindow (t ∷ [])) (sym g) f, λ g. window_one t n u f g)
windows true t (x ∷ xs) None (Some n) u f = (λ g. absurd g, λ g. absurd g)

joined : (said more all : Parameters) (t : List ℕ) (ts : List (List ℕ)) → From said (t ∷ []) more → From more ts all → From said (t ∷ ts) all
joined said more all t ts one rest = record {
  known = (one.known.0, rest.known);
  rate = (let a = one.rate in let b = rest.rate in let c = count_step (codes "KDR=0") t ts in omega (arith, a, b, c));
  order = (let a = one.order in let b = rest.order in let c = count_step (codes "FEC_ORDER=FEC_SRTP") t ts in omega (arith, a, b, c));
  plain_rtp = (let a = one.plain_rtp in let b = rest.plain_rtp in let c = count_step (codes "UNENCRYPTED_SRTP") t ts in omega (arith, a, b, c));
  plain_rtcp = (let a = one.plain_rtcp in let b = rest.plain_rtcp in let c = count_step (codes "UNENCRYPTED_SRTCP") t ts in omega (arith, a, b, c));
  window = (windows (is_window t) t (filter is_window ts) said.window more.window all.window one.window).0 rest.window;
}

parted : (said more all : Parameters) (t : List ℕ) (ts : List (List ℕ)) → From said (t ∷ []) more → From said (t ∷ ts) all → From more ts all
parted said more all t ts one whole = record {
  known = whole.known.1;
  rate = (let a = one.rate in let b = whole.rate in let c = count_step (codes "KDR=0") t ts in omega (arith, a, b, c));
  order = (let a = one.order in let b = whole.order in let c = count_step (codes "FEC_ORDER=FEC_SRTP") t ts in omega (arith, a, b, c));
  plain_rtp = (let a = one.plain_rtp in let b = whole.plain_rtp in let c = count_step (codes "UNENCRYPTED_SRTP") t ts in omega (arith, a, b, c));
  plain_rtcp = (let a = one.plain_rtcp in let b = whole.plain_rtcp in let c = count_step (codes "UNENCRYPTED_SRTCP") t ts in omega (arith, a, b, c));
  window = (windows (is_window t) t (filter is_window ts) said.window more.window all.window one.window).1 whole.window;
}

-- ---- one parameter

is_parameter : (said more : Parameters) (t : List ℕ) → with_parameter said t ≡ Some more → IsParameter t
unfolding with_parameter
is_parameter said more t e = elim (chosen (starts_with nat_eq t (codes "-")) _ _ (Some more) e) [
  | inl p ↦ inl p.0
  | inr p ↦ elim (chosen (starts_with nat_eq t (codes "WSH=")) _ _ (Some more) p.1) [
    | inl q ↦ inr (inl q.0)
    | inr q ↦ elim (chosen (bytes_eq t (codes "KDR=0")) _ _ (Some more) q.1) [
      | inl r ↦ inr (inr (inl (is_name t (codes "KDR=0") r.0)))
      | inr r ↦ elim (chosen (bytes_eq t (codes "FEC_ORDER=FEC_SRTP")) _ _ (Some more) r.1) [
        | inl s ↦ inr (inr (inr (inl (is_name t (codes "FEC_ORDER=FEC_SRTP") s.0))))
        | inr s ↦ elim (chosen (bytes_eq t (codes "UNENCRYPTED_SRTP")) _ _ (Some more) s.1) [
          | inl u ↦ inr (inr (inr (inr (inl (is_name t (codes "UNENCRYPTED_SRTP") u.0)))))
          | inr u ↦ elim (chosen (bytes_eq t (codes "UNENCRYPTED_SRTCP")) _ _ (Some more) u.1) [
            | inl v ↦ inr (inr (inr (inr (inr (is_name t (codes "UNENCRYPTED_SRTCP") v.0)))))
            | inr v ↦ absurd (let no : None ≡ Some more = v.1 in cc)
          ]
        ]
      ]
    ]
  ]
]

-- a window that is said
window_said : (b : Bool) (said more : Parameters) (o : Option ℕ) → cond b None (option_and_then (λ n. Some (record said { window = Some n })) o) ≡ Some more
    → (b ≡ false) × ((n : ℕ) × (o ≡ Some n) × (record said { window = Some n } ≡ more))
window_said true said more o e = absurd cc
window_said false said more None e = absurd cc
window_said false said more (Some n) e = (refl, (n, refl, some_is (record said { window = Some n }) more e))

seen : (said made more : Parameters) (x t : List ℕ) → t ≡ x → made ≡ more → From said (x ∷ []) made → From said (t ∷ []) more
seen said made more x t is same f =
    subst (λ (m : Parameters). From said (t ∷ []) m) same (subst (λ (l : List ℕ). From said (l ∷ []) made) (sym is) f)

once : (b : Bool) → b ≡ false → 1 + times b ≡ 1
once b off = ap (λ (x : Bool). 1 + times x) off

-- what is said with it
added : (said more : Parameters) (t : List ℕ) → IsParameter t → with_parameter said t ≡ Some more → From said (t ∷ []) more
unfolding with_parameter
added said more t (inl p) e =
    let is = begins (codes "-") t p in
    seen said said more (45 ∷ drop 1 t) t is (some_is said more (ap (with_parameter said) (sym is) ∙ e))
    (record { known = (inl refl, tt); rate = omega arith; order = omega arith; plain_rtp = omega arith; plain_rtcp = omega arith; window = window_end said.window })
added said more t (inr (inl p)) e =
    let is = begins (codes "WSH=") t p in
    let w = window_said (is_some said.window) said more (digits_at (drop 4 t)) (ap (with_parameter said) (sym is) ∙ e) in
    let window = window_step said.window (87 ∷ 83 ∷ 72 ∷ 61 ∷ drop 4 t) w.1.0 w.0 (number_says (drop 4 t) w.1.0 w.1.1) in
    seen said (record said { window = Some w.1.0 }) more (87 ∷ 83 ∷ 72 ∷ 61 ∷ drop 4 t) t is w.1.2
    (record { known = (inr (inl refl), tt); rate = omega arith; order = omega arith; plain_rtp = omega arith; plain_rtcp = omega arith; window = window })
added said more t (inr (inr (inl is))) e =
    let g = some_unless said.rate (record said { rate = true }) more (ap (with_parameter said) (sym is) ∙ e) in
    seen said (record said { rate = true }) more (codes "KDR=0") t is g.1
    (record { known = (inr (inr (inl refl)), tt); rate = once said.rate g.0; order = omega arith; plain_rtp = omega arith; plain_rtcp = omega arith; window = window_end said.window })
added said more t (inr (inr (inr (inl is)))) e =
    let g = some_unless said.order (record said { order = true }) more (ap (with_parameter said) (sym is) ∙ e) in
    seen said (record said { order = true }) more (codes "FEC_ORDER=FEC_SRTP") t is g.1
    (record { known = (inr (inr (inr (inl refl))), tt); rate = omega arith; order = once said.order g.0; plain_rtp = omega arith; plain_rtcp = omega arith; window = window_end said.window })
added said more t (inr (inr (inr (inr (inl is))))) e =
    let g = some_unless said.plain_rtp (record said { plain_rtp = true }) more (ap (with_parameter said) (sym is) ∙ e) in
    seen said (record said { plain_rtp = true }) more (codes "UNENCRYPTED_SRTP") t is g.1
    (record { known = (inr (inr (inr (inr (inl refl)))), tt); rate = omega arith; order = omega arith; plain_rtp = once said.plain_rtp g.0; plain_rtcp = omega arith; window = window_end said.window })
added said more t (inr (inr (inr (inr (inr is))))) e =
    let g = some_unless said.plain_rtcp (record said { plain_rtcp = true }) more (ap (with_parameter said) (sym is) ∙ e) in
    seen said (record said { plain_rtcp = true }) more (codes "UNENCRYPTED_SRTCP") t is g.1
    (record { known = (inr (inr (inr (inr (inr refl)))), tt); rate = omega arith; order = omega arith; plain_rtp = omega arith; plain_rtcp = once said.plain_rtcp g.0; window = window_end said.window })

pub parameters_say : (said all : Parameters) (ts : List (List ℕ)) → parameters_from said ts ≡ Some all → From said ts all
unfolding parameters_from
parameters_say said all [] e =
    let nothing : From said [] said = record { known = tt; rate = omega arith; order = omega arith; plain_rtp = omega arith; plain_rtcp = omega arith; window = window_end said.window } in
    subst (λ (a : Parameters). From said [] a) (some_is said all e) nothing
parameters_say said all (t ∷ ts) e =
    let p = bind_some (with_parameter said t) _ all e in
    joined said p.0 all t ts (added said p.0 t (is_parameter said p.0 t p.1) p.1) (parameters_say p.0 all ts p.2)

-- ---- what says so is read

times_same : (a b : Bool) → times a ≡ times b → a ≡ b
times_same true true e = refl
times_same true false e = absurd (omega (arith, e))
times_same false true e = absurd (omega (arith, e))
times_same false false e = refl

-- a mark that stands there wasn't said before
off : (b c : Bool) (n : ℕ) → suc n + times b ≡ times c → b ≡ false
off true true n e = absurd (omega (arith, e))
off true false n e = absurd (omega (arith, e))
off false c n e = refl

window_same : (w v : Option ℕ) → WindowFrom w [] v → w ≡ v
window_same None None f = refl
window_same None (Some n) f = absurd f
window_same (Some n) v f = sym f

window_cases : (w : Option ℕ) (t : List ℕ) (ws : List (List ℕ)) (v : Option ℕ) → WindowFrom w (t ∷ ws) v → (n : ℕ) × (w ≡ None) × (ws ≡ []) × (v ≡ Some n) × SaysNumber (drop 4 t) n
window_cases None t [] None f = absurd f
window_cases None t [] (Some n) f = (n, refl, refl, refl, f)
window_cases None t (u ∷ us) v f = absurd f
window_cases (Some m) t ws v f = absurd f

window_read : (said : Parameters) (r : List ℕ) (n : ℕ) → said.window ≡ None → digits_at r ≡ Some n → with_parameter said (87 ∷ 83 ∷ 72 ∷ 61 ∷ r) ≡ Some (record said { window = Some n })
unfolding with_parameter
window_read said r n none digits = rw (none, digits) refl

-- what stands there may be said
sayable : (said all : Parameters) (t : List ℕ) (ts : List (List ℕ)) → IsParameter t → From said (t ∷ ts) all → (more : Parameters) × (with_parameter said t ≡ Some more)
unfolding with_parameter
sayable said all t ts (inl p) f = (said, rw p refl)
sayable said all t ts (inr (inl p)) f =
    let is = begins (codes "WSH=") t p in
    let c = window_cases said.window t (filter is_window ts) all.window (rw p at f.window) in
    (record said { window = Some c.0 }, ap (with_parameter said) is ∙ window_read said (drop 4 t) c.0 c.1 (number_reads (drop 4 t) c.0 c.4))
sayable said all t ts (inr (inr (inl is))) f =
    (record said { rate = true }, ap (with_parameter said) is ∙ rw (off said.rate all.rate (count_of (codes "KDR=0") ts) (rw is at f.rate)) refl)
sayable said all t ts (inr (inr (inr (inl is)))) f =
    (record said { order = true }, ap (with_parameter said) is ∙ rw (off said.order all.order (count_of (codes "FEC_ORDER=FEC_SRTP") ts) (rw is at f.order)) refl)
sayable said all t ts (inr (inr (inr (inr (inl is))))) f =
    (record said { plain_rtp = true }, ap (with_parameter said) is ∙ rw (off said.plain_rtp all.plain_rtp (count_of (codes "UNENCRYPTED_SRTP") ts) (rw is at f.plain_rtp)) refl)
sayable said all t ts (inr (inr (inr (inr (inr is))))) f =
    (record said { plain_rtcp = true }, ap (with_parameter said) is ∙ rw (off said.plain_rtcp all.plain_rtcp (count_of (codes "UNENCRYPTED_SRTCP") ts) (rw is at f.plain_rtcp)) refl)

pub parameters_read : (ts : List (List ℕ)) (said all : Parameters) → From said ts all → parameters_from said ts ≡ Some all
unfolding parameters_from
parameters_read [] said all f =
    let r = times_same said.rate all.rate (let e = f.rate in omega (arith, e)) in
    let o = times_same said.order all.order (let e = f.order in omega (arith, e)) in
    let p = times_same said.plain_rtp all.plain_rtp (let e = f.plain_rtp in omega (arith, e)) in
    let c = times_same said.plain_rtcp all.plain_rtcp (let e = f.plain_rtcp in omega (arith, e)) in
    let w = window_same said.window all.window f.window in
    (λ i. Some (record { rate = r i; order = o i; plain_rtp = p i; plain_rtcp = c i; window = w i }))
parameters_read (t ∷ ts) said all f =
    let n = sayable said all t ts f.known.0 f in
    rw n.1 (parameters_read ts n.0 all (parted said n.0 all t ts (added said n.0 t f.known.0 n.1) f))
