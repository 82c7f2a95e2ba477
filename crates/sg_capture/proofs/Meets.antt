-- How what a record gives is handled, part by part.
use Rattle.std.proofs.Common.{◌≡◌, ◌≤◌, ◌<◌, ℕ, ltb, List, [], ◌∷◌, ◌++◌, length, take, map, Result, Ok, Err, OnOk, refl, sym, ap, ◌∙◌, subst, inl, inr, append_assoc, arith, min, append-nil, take_all}
use Rattle.sg_capture.proofs.Common.{Event, Happens, HasRoom, IsMet, IsPrefixOf, IsSettled, IsStepped, IsToldOf, IsWant, IsWritten, Occurrence, Signalled}
use Rattle.sg_capture.proofs.Common.{Skipped, State, Status, Tally, World, Wrote, captured_events, cases_lt, cond-false, cond-true, effects, le-ltb, lt-ltb}
use Rattle.sg_capture.proofs.Common.{output_of, skip_line, take-length, text_from, ticks_at, unshared, unshared_after, world_after, world_after-append}
use Rattle.sg_capture.proofs.Outputs.{events_in-append, happens-append, happens_events, happens_text, output_of-append}
use Rattle.sg_gateway.specs.Signals.{Tick}
use Rattle.sg_trace.proofs.Writings.{prefix_longer}
use Rattle.sg_pcap.specs.declared.skips.SkipCause.{SkipCause}
use Rattle.sg_trace.specs.declared.status.Status.TheVariants as statuses

-- ---- prefixes

pub prefix_of-more : (w : World) (os ps : List Occurrence) (prefix : List ℕ) → IsPrefixOf prefix (output_of w os) → IsPrefixOf prefix (output_of w (os ++ ps))
prefix_of-more w os ps prefix is = subst (IsPrefixOf prefix) (sym (output_of-append w os ps)) (prefix_longer prefix (output_of w os) (output_of (world_after w (captured_events os)) ps) is)

pub prefix_of-behind : (w : World) (os ps : List Occurrence) (prefix : List ℕ) → IsPrefixOf prefix (output_of (world_after w (captured_events os)) ps) → IsPrefixOf (output_of w os ++ prefix) (output_of w (os ++ ps))
prefix_of-behind w os ps prefix is = (is.0, output_of-append w os ps ∙ ap (λ (l : List ℕ). output_of w os ++ l) is.1 ∙ sym (append_assoc (output_of w os) prefix is.0))

-- ---- one part, and then another

pub met_none : (w : World) (waited : List Event) (stands_for : World → Type 0) → stands_for w → IsToldOf w waited waited [] stands_for []
met_none w waited stands_for stands = record { told = []; all = append-nil (map Happens waited); written = refl; stands = stands }

pub met_then : (r : Result (Unit {0}) Status) (w : World) (waited mid waits : List Event) (os ps : List Occurrence) (stands_for stands_for' : World → Type 0) (out out' : List ℕ)
    → (first : IsToldOf w waited mid os stands_for out) → IsMet r (world_after w (captured_events first.told)) mid waits ps stands_for' out' → IsMet r w waited waits (os ++ ps) stands_for' (out ++ out')
met_then (Ok u) w waited mid waits os ps stands_for stands_for' out out' first then = record {
  told = first.told ++ then.told;
  all =
      sym (append_assoc (map Happens waited) os ps) ∙ ap (λ (l : List Occurrence). l ++ ps) first.all ∙ append_assoc first.told (map Happens mid) ps
      ∙ ap (λ (l : List Occurrence). first.told ++ l) then.all ∙ sym (append_assoc first.told then.told (map Happens waits));
  written = (λ i. first.written i ++ then.written i) ∙ sym (output_of-append w first.told then.told);
  stands = subst stands_for' (sym (ap (world_after w) (events_in-append first.told then.told) ∙ world_after-append w (captured_events first.told) (captured_events then.told))) then.stands;
}
met_then (Err status) w waited mid waits os ps stands_for stands_for' out out' first then =
    let whole : map Happens waited ++ (os ++ ps) ≡ first.told ++ (map Happens mid ++ ps) =
    sym (append_assoc (map Happens waited) os ps) ∙ ap (λ (l : List Occurrence). l ++ ps) first.all ∙ append_assoc first.told (map Happens mid) ps in (
      then.0,
      subst (λ (l : List ℕ). IsPrefixOf (l ++ out') (output_of w (map Happens waited ++ (os ++ ps)))) (sym first.written)
          (subst (λ (l : List Occurrence). IsPrefixOf (output_of w first.told ++ out') (output_of w l)) (sym whole) (prefix_of-behind w first.told (map Happens mid ++ ps) out' then.1)),
    )

pub met_before : (status : Status) (w : World) (waited waits waits' : List Event) (os ps : List Occurrence) (stands_for stands_for' : World → Type 0) (out : List ℕ)
    → IsMet (Err status) w waited waits os stands_for out → IsMet (Err status) w waited waits' (os ++ ps) stands_for' out
met_before status w waited waits waits' os ps stands_for stands_for' out first =
    (first.0, subst (λ (l : List Occurrence). IsPrefixOf out (output_of w l)) (append_assoc (map Happens waited) os ps) (prefix_of-more w (map Happens waited ++ os) ps out first.1))

-- ---- events, by a player none of whose legs may share its ports

module _ (w : World) (waited events : List Event) (stands_for : State → Type 0) (out : List ℕ) where
  events_met : (prefix waits : List Event) → waited ++ events ≡ prefix ++ waits → IsStepped (Ok tt) (unshared w) prefix stands_for out → IsToldOf w waited waits (map Happens events) (λ v. stands_for (unshared v)) out
  events_met prefix waits all stepped = record {
    told = map Happens prefix;
    all = sym (happens-append waited events) ∙ ap (map Happens) all ∙ happens-append prefix waits;
    written = stepped.0 ∙ sym (happens_text w prefix);
    stands = subst (λ (es : List Event). stands_for (unshared (world_after w es))) (sym (happens_events prefix)) (subst stands_for (unshared_after w prefix) stepped.1);
  }

  events_cut : (status : Status) → IsStepped (Err status) (unshared w) (waited ++ events) stands_for out → IsWant status × IsPrefixOf out (output_of w (map Happens waited ++ map Happens events))
  events_cut status stepped =
      (stepped.0, subst (IsPrefixOf out) (sym (ap (output_of w) (sym (happens-append waited events)) ∙ happens_text w (waited ++ events))) stepped.1)

  -- all of them were handled
  pub stepped_met : (r : Result (Unit {0}) Status) (waits : List Event) → (r ≡ Ok tt → waits ≡ []) → IsStepped r (unshared w) (waited ++ events) stands_for out → IsMet r w waited waits (map Happens events) (λ v. stands_for (unshared v)) out
  stepped_met (Ok tt) waits none stepped = events_met (waited ++ events) waits (sym (ap (λ (l : List Event). (waited ++ events) ++ l) (none refl) ∙ append-nil (waited ++ events))) stepped
  stepped_met (Err status) waits none stepped = events_cut status stepped

  -- some of them, the others wait
  pub room_met : (r : Result (Unit {0}) Status) (waits : List Event) → HasRoom r (unshared w) (waited ++ events) waits stands_for out → IsMet r w waited waits (map Happens events) (λ v. stands_for (unshared v)) out
  room_met (Ok tt) waits came = events_met came.0 waits came.1 came.2
  room_met (Err status) waits came = events_cut status came

-- what waited
pub settled_met : (r : Result (Unit {0}) Status) (w : World) (waited waits : List Event) (stands_for : State → Type 0) (out : List ℕ) → IsSettled r effects 258 (unshared w) waited waits stands_for out
    → IsMet r w waited waits [] (λ v. stands_for (unshared v)) out
settled_met (Ok tt) w waited waits stands_for out settled = events_met w waited [] stands_for out waited waits (ap (λ (l : List Event). waited ++ l) (sym settled.1)) (settled.0, settled.2)
settled_met (Err status) w waited waits stands_for out settled = events_cut w waited [] stands_for out status (settled.0, subst (λ (l : List Event). IsPrefixOf out (text_from (unshared w) l)) (sym (append-nil waited)) settled.1)

-- ---- the line of a skip

pub skip_met : (r : Result (Unit {0}) Status) (w : World) (waits waits' : List Event) (number : ℕ) (cause : SkipCause) (stands_for : World → Type 0) (a b : Tally) → waits ≡ [] → waits' ≡ waits → stands_for w
    → IsWritten r a b (skip_line number cause) → (out : List ℕ) × Wrote a b out × IsMet r w waits waits' (Skipped number cause ∷ []) stands_for out
skip_met (Ok u) w waits waits' number cause stands_for a b none same stands wrote = (
  skip_line number cause,
  wrote,
  record {
    told = Skipped number cause ∷ [];
    all = (λ i. map Happens (none i) ++ (Skipped number cause ∷ [])) ∙ (λ i. (Skipped number cause ∷ []) ++ map Happens (sym (same ∙ none) i));
    written = sym (append-nil (skip_line number cause));
    stands = stands;
  },
)
skip_met (Err statuses.Write) w waits waits' number cause stands_for a b none same stands wrote =
    (wrote.0, wrote.2, (inl refl, subst (IsPrefixOf wrote.0) (sym (append-nil (skip_line number cause)) ∙ (λ i. output_of w (map Happens (sym none i) ++ (Skipped number cause ∷ [])))) wrote.1))
skip_met (Err statuses.NoMemory) w waits waits' number cause stands_for a b none same stands wrote =
    (wrote.0, wrote.2, (inr refl, subst (IsPrefixOf wrote.0) (sym (append-nil (skip_line number cause)) ∙ (λ i. output_of w (map Happens (sym none i) ++ (Skipped number cause ∷ [])))) wrote.1))
skip_met (Err statuses.Done) w waits waits' number cause stands_for a b none same stands wrote = absurd wrote
skip_met (Err other) w waits waits' number cause stands_for a b none same stands wrote = absurd wrote

-- ---- a record's frame

-- a moment that isn't greater
pub tick_none : (top moment : ℕ) (w : World) (waited : List Event) (stands_for : World → Type 0) → moment ≤ top → stands_for w → IsToldOf w waited waited (map Happens (ticks_at top moment)) stands_for []
tick_none top moment w waited stands_for le stands =
    subst (λ (es : List Event). IsToldOf w waited waited (map Happens es) stands_for []) (sym (cond-false (ltb top moment) _ _ (le-ltb top moment le))) (met_none w waited stands_for stands)

-- one that is
pub tick_met : (r : Result (Unit {0}) Status) (top moment : ℕ) (w : World) (waited waits : List Event) (stands_for : State → Type 0) (out : List ℕ) → top < moment → (r ≡ Ok tt → waits ≡ [])
    → IsStepped r (unshared w) (waited ++ Signalled (Tick moment) ∷ []) stands_for out → IsMet r w waited waits (map Happens (ticks_at top moment)) (λ v. stands_for (unshared v)) out
tick_met r top moment w waited waits stands_for out lt none stepped =
    subst (λ (es : List Event). IsMet r w waited waits (map Happens es) (λ v. stands_for (unshared v)) out) (sym (cond-true (ltb top moment) _ _ (lt-ltb top moment lt)))
    (stepped_met w waited (Signalled (Tick moment) ∷ []) stands_for out r waits none stepped)

-- a datagram counts as its first octets
pub take_counted : (n : ℕ) (xs : List ℕ) → take (min (length xs) n) xs ≡ take n xs
take_counted n xs = elim (cases_lt n (length xs)) [
  | inl lt ↦ ap (λ (m : ℕ). take m xs) (omega (arith, lt))
  | inr le ↦ (let size : min (length xs) n ≡ length xs = omega (arith, le) in ap (λ (m : ℕ). take m xs) size ∙ take-length xs ∙ sym (take_all n xs le))
]

pub on_ok : (r : Result (Unit {0}) Status) (P : Type 0) → Rattle.std.specs.Prelude.OnOk r P → r ≡ Ok tt → P
on_ok (Ok u) P is same = is
on_ok (Err e) P is same = absurd (let other : (let r : Result (Unit {0}) Status = Err e in r ≡ Ok tt) = same in cc)

-- nothing waits behind a tick, nor behind what is settled
pub few_of : {A : Type 0} (r : Result (Unit {0}) Status) (xs : List A) → OnOk r (xs ≡ []) → OnOk r (length xs ≤ 256)
few_of (Ok u) xs none = omega (arith, ap length none)
few_of (Err status) xs none = tt

pub few_ok : {A : Type 0} (r : Result (Unit {0}) Status) (xs : List A) → xs ≡ [] → OnOk r (length xs ≤ 256)
few_ok (Ok u) xs none = omega (arith, ap length none)
few_ok (Err status) xs none = tt
