-- Ticks that change nothing.
use Rattle.std.proofs.Common.{◌≡◌, ℕ, suc, ◌+◌, ◌<◌, ◌≤◌, Bool, true, false, cond, not, List, [], ◌∷◌, map, length, ◌^◌, ◌-◌, get_or, min, refl, sym, ap, ◌∙◌, subst, arith, ltb, inl, inr}
use Rattle.std.proofs.lemmas.Bool.{cases_lt, cond-true, cond-false, lt-leb, le-leb, le-ltb}
use Rattle.std.proofs.Math.Nat.{min-eq_right, min-le_left, min-le_right, min-eq_left}
use Rattle.std.specs.List.{AllByRecursion, filter}
use Rattle.sg_base.specs.declared.addresses.Address.{Address}
use Rattle.sg_base.specs.declared.faults.Refusal.TheVariants.{TickBack}
use Rattle.sg_call.specs.Standing.{CallStandsFor}
use Rattle.sg_call.specs.Values.{CallValue}
use Rattle.sg_gateway.proofs.Deliveries.{delivers}
use Rattle.sg_gateway.proofs.Rested.{AreRested, IsRested, are_rested}
use Rattle.sg_gateway.specs.CallSignals.{call_at_tick, drops_earlier, is_idle, without_earlier}
use Rattle.sg_gateway.specs.Generations.{is_current}
use Rattle.sg_gateway.specs.Octets.{Octets}
use Rattle.sg_gateway.specs.Runs.{world_after}
use Rattle.sg_gateway.specs.Signals.{answer, refused, tells_ended, ticked}
use Rattle.sg_gateway.specs.Step.{Datagram, step}
use Rattle.sg_gateway.specs.World.{Call, World}
use Rattle.sg_leg.specs.Pairs.{EachPair}
use Rattle.sg_outcome.specs.declared.outcomes.Why.TheVariants as why
use Rattle.sg_psk.specs.declared.pairs.Pair.{Pair}
use Rattle.sg_session.specs.Session.{Session}
use Rattle.sg_session.proofs.Lists.{each_of}
use Rattle.sg_table.proofs.Pairing.{by_pairs}
use Rattle.sg_table.specs.Batches.{arrived}
use Rattle.sg_table.specs.Calm.{CallRests, IsCalm, Rests}
use Rattle.sg_table.specs.Standing.{Holds, TableStandsFor}
use Rattle.sg_table.specs.Telling.{IsAnswered}
use Rattle.sg_table.specs.Values.{TableValue}
use Rattle.sg_table.specs.declared.arrival.Arrival.{Arrival}

-- no moment is before 0
pub calm_at_0 : (t : TableValue) → IsCalm 0 t
calm_at_0 t = record { soon = omega arith; calls = each_of (CallRests 0 t.moment) (λ c. record { awake = omega arith; kept = inl (omega arith) }) t.calls }

pub kept_until : (until same : ℕ) (t : TableValue) → until ≡ same → IsCalm until t → IsCalm same t
kept_until until same t is calm = subst (λ n. IsCalm n t) is calm

module _ (until : ℕ) where
  -- the same of a call of the world
  abbrev RestsIn : ℕ → Call → Type 0
  RestsIn last c = Rests until last c.moment c.replaced

  module _ (pairs : List Pair) (last : ℕ) where
    in_world : (calls : List CallValue) (cs : List Call) → EachPair (CallStandsFor pairs) calls cs → AllByRecursion (CallRests until last) calls → AllByRecursion (RestsIn last) cs
    in_world = by_pairs (CallStandsFor pairs) (λ calls cs. AllByRecursion (CallRests until last) calls → AllByRecursion (RestsIn last) cs) (λ each. tt) (λ call c calls cs h rest each.
        (subst (λ n. Rests until last n c.replaced) (sym h.moment_is) (subst (λ n. Rests until last call.moment n) (sym h.replaced_is) each.0), rest each.1))

    in_table : (calls : List CallValue) (cs : List Call) → EachPair (CallStandsFor pairs) calls cs → AllByRecursion (RestsIn last) cs → AllByRecursion (CallRests until last) calls
    in_table = by_pairs (CallStandsFor pairs) (λ calls cs. AllByRecursion (RestsIn last) cs → AllByRecursion (CallRests until last) calls) (λ each. tt) (λ call c calls cs h rest each.
        (subst (λ n. Rests until last n call.replaced) h.moment_is (subst (λ n. Rests until last c.moment n) h.replaced_is each.0), rest each.1))

  -- a world of a calm table
  record IsCalmIn (w : World) : Type 0 where
    soon : until ≤ w.moment + 60000
    calls : AllByRecursion (RestsIn w.moment) w.calls

  calm_in : (t : TableValue) (w : World) → Holds t w → IsCalm until t → IsCalmIn w
  calm_in t w holds calm = record {
    soon = subst (λ n. until ≤ n + 60000) (sym holds.moment_is) calm.soon;
    calls = in_world w.books.pairs w.moment t.calls w.calls holds.calls (subst (λ n. AllByRecursion (CallRests until n) t.calls) (sym holds.moment_is) calm.calls);
  }

  calm_from : (t : TableValue) (w : World) → Holds t w → IsCalmIn w → IsCalm until t
  calm_from t w holds calm = record {
    soon = subst (λ n. until ≤ n + 60000) holds.moment_is calm.soon;
    calls = subst (λ n. AllByRecursion (CallRests until n) t.calls) holds.moment_is (in_table w.books.pairs w.moment t.calls w.calls holds.calls calm.calls);
  }

  -- ---- datagrams: the moment stays, and what a call puts out makes the moment its own

  calm_on : (w : World) (port : ℕ) (from : Address) (d : Octets) → IsCalmIn w → IsCalmIn (step w (Datagram port from d)).world
  calm_on w port from d calm =
      let soon = calm.soon in
      let is = delivers (RestsIn w.moment) (λ e. Unit {0}) w calm.calls (λ c a rests s t held. record { awake = soon; kept = rests.kept }) (λ c a rests s t held. tt) port from d.items in
      record {
        soon = subst (λ n. until ≤ n + 60000) (sym is.moment) soon;
        calls = subst (λ n. AllByRecursion (RestsIn n) (step w (Datagram port from d)).world.calls) (sym is.moment) is.calls;
      }

  calm_after : (w : World) (arrivals : List Arrival) → IsCalmIn w → IsCalmIn (world_after w (map arrived arrivals))
  calm_after w [] calm = calm
  calm_after w (a ∷ later) calm = calm_after (step w (arrived a)).world later (calm_on w (arrived_port a) a.from (arrived_octets a) calm)
    where
      arrived_port : Arrival → ℕ
      arrived_port a = a.port

      arrived_octets : Arrival → Octets
      arrived_octets a = Rattle.sg_gateway.specs.Octets.as_octets (Rattle.sg_table.specs.Batches.octets_of a.pad)

  pub calm_with_datagram : (old new : TableValue) (w : World) (port : ℕ) (from : Address) (d : Octets) → Holds old w → Holds new (world_after w (Datagram port from d ∷ [])) → IsCalm until old → IsCalm until new
  calm_with_datagram old new w port from d before after calm = calm_from new (step w (Datagram port from d)).world after (calm_on w port from d (calm_in old w before calm))

  pub calm_with_batch : (old new : TableValue) (w : World) (arrivals : List Arrival) → Holds old w → Holds new (world_after w (map arrived arrivals)) → IsCalm until old → IsCalm until new
  calm_with_batch old new w arrivals before after calm = calm_from new (world_after w (map arrived arrivals)) after (calm_after w arrivals (calm_in old w before calm))

  -- ---- a tick before that moment

  module _ (now : ℕ) (early : now < until) where
    record Stays (c : Call) : Type 0 where
      awake : is_idle now c ≡ false
      same : call_at_tick now c ≡ c

    all_current : (c : Call) (ss : List Session) → AllByRecursion (λ s. is_current c s ≡ true) ss → filter (is_current c) ss ≡ ss
    all_current c [] each = refl
    all_current c (s ∷ ss) each = cond-true (is_current c s) (s ∷ filter (is_current c) ss) (filter (is_current c) ss) each.0 ∙ ap (λ (l : List Session). s ∷ l) (all_current c ss each.1)

    stays : (last : ℕ) (c : Call) → RestsIn last c → IsRested last c → Stays c
    stays last c rests rested =
        let awake = rests.awake in
        record {
          awake = lt-leb (c.moment + 60000) now (omega (arith, early, awake));
          same = elim rests.kept [
            | inl yet ↦ cond-false (drops_earlier now c) (without_earlier c) c (lt-leb (c.replaced + 2000) now (omega (arith, early, yet)))
            | inr done ↦ dropped (rested.gone (le-leb (c.replaced + 2000) last done)) (drops_earlier now c)
          ];
        }
      where
        dropped : AllByRecursion (λ s. is_current c s ≡ true) c.sessions → (b : Bool) → cond b (without_earlier c) c ≡ c
        dropped current true = ap (λ (l : List Session). record c { sessions = l }) (all_current c c.sessions current)
        dropped current false = refl

    all_stay : (last : ℕ) (cs : List Call) → AllByRecursion (RestsIn last) cs → AllByRecursion (IsRested last) cs → AllByRecursion Stays cs
    all_stay last [] rests rested = tt
    all_stay last (c ∷ cs) rests rested = (stays last c rests.0 rested.0, all_stay last cs rests.1 rested.1)

    none_end : (cs : List Call) → AllByRecursion Stays cs → filter (is_idle now) cs ≡ []
    none_end [] each = refl
    none_end (c ∷ cs) each = cond-false (is_idle now c) (c ∷ filter (is_idle now) cs) (filter (is_idle now) cs) each.0.awake ∙ none_end cs each.1

    left_as_they_were : (cs : List Call) → AllByRecursion Stays cs → map (call_at_tick now) (filter (λ c. not (is_idle now c)) cs) ≡ cs
    left_as_they_were [] each = refl
    left_as_they_were (c ∷ cs) each =
        let here = each.0.same in
        let rest = left_as_they_were cs each.1 in
        ap (map (call_at_tick now)) (cond-true (not (is_idle now c)) (c ∷ filter (λ c. not (is_idle now c)) cs) (filter (λ c. not (is_idle now c)) cs) (ap not each.0.awake)) ∙ (λ i. here i ∷ rest i)

    pub rests_at_tick : (t : TableValue) (w : World) → TableStandsFor t w → IsCalm until t → t.moment ≤ now → IsAnswered [] (record t { moment = now }) (ticked w now)
    rests_at_tick t w stands calm on =
        let holds = stands.holds in
        let rested : AreRested w = subst AreRested (sym stands.is_after) (are_rested stands.history) in
        let each : AllByRecursion Stays w.calls = all_stay w.moment w.calls (calm_in t w holds calm).calls rested in
        let none : filter (is_idle now) w.calls ≡ [] = none_end w.calls each in
        let same : map (call_at_tick now) (filter (λ c. not (is_idle now c)) w.calls) ≡ w.calls = left_as_they_were w.calls each in
        let is : ticked w now ≡ answer [] (record w { moment = now }) =
        cond-false (ltb now w.moment) (refused w Rattle.std.proofs.Common.None (TickBack w.moment))
        (answer (map (tells_ended why.Idle) (filter (is_idle now) w.calls)) (record w { calls = map (call_at_tick now) (filter (λ c. not (is_idle now c)) w.calls); moment = now }))
        (le-ltb now w.moment (subst (λ n. n ≤ now) (sym holds.moment_is) on))
        ∙ (λ i. answer (map (tells_ended why.Idle) (none i)) (record w { calls = same i; moment = now })) in
        subst (IsAnswered [] (record t { moment = now })) (sym is)
        (record { tells = refl; holds = record { calls = holds.calls; books = holds.books; moment_is = refl; quiet = holds.quiet } })

    -- and so it is still calm
    pub calm_at_tick : (t : TableValue) → t.moment ≤ now → IsCalm until t → IsCalm until (record t { moment = now })
    calm_at_tick t on calm = record { soon = (let soon = calm.soon in omega (arith, soon, on)); calls = later t.calls calm.calls }
      where
        later : (calls : List CallValue) → AllByRecursion (CallRests until t.moment) calls → AllByRecursion (CallRests until now) calls
        later [] each = tt
        later (c ∷ cs) each = (
          record {
            awake = each.0.awake;
            kept = elim each.0.kept [
              | inl yet ↦ inl yet
              | inr done ↦ inr (omega (arith, done, on))
            ];
          },
          later cs each.1,
        )

-- ---- a moment of calm is found by a walk

-- so far: it is no later than any call seen allows
pub record CalmSoFar (calm last k : ℕ) (calls : List CallValue) : Type 0 where
  pub soon : calm ≤ last + 60000
  pub each : (i : ℕ) (d : CallValue) → i < k → i < length calls → CallRests calm last (get_or calls i d)

pub calm_of_all : (calm last k : ℕ) (calls : List CallValue) → length calls ≤ k → CalmSoFar calm last k calls → AllByRecursion (CallRests calm last) calls
calm_of_all calm last k calls all so_far = go calls (λ i d lt. so_far.each i d (omega (arith, all, lt)) lt)
  where
    go : (cs : List CallValue) → ((i : ℕ) (d : CallValue) → i < length cs → CallRests calm last (get_or cs i d)) → AllByRecursion (CallRests calm last) cs
    go [] each = tt
    go (c ∷ cs) each = (each 0 c (omega arith), go cs (λ i d lt. each (suc i) d (omega (arith, lt))))

-- ---- the moment of one call

capped : (a most : ℕ) → min a most < most → min a most ≡ a
capped a most less = elim (cases_lt a most) [
  | inl lt ↦ min-eq_left (omega (arith, lt))
  | inr le ↦ (let is : min a most ≡ most = min-eq_right le in absurd (omega (arith, is, less)))
]

pub rests_gone : (idle past last moment replaced : ℕ) → idle ≡ min (moment + 60000) (2 ^ 64 - 1) → past ≡ min (replaced + 2000) (2 ^ 64 - 1) → past ≤ last → last ≤ 2085978495999 → Rests idle last moment replaced
rests_gone idle past last moment replaced idle_is past_is le most =
    let below = min-le_left (moment + 60000) (2 ^ 64 - 1) in
    let small : min (replaced + 2000) (2 ^ 64 - 1) < 2 ^ 64 - 1 = omega (arith, past_is, le, most) in
    let all = capped (replaced + 2000) (2 ^ 64 - 1) small in
    record { awake = omega (arith, idle_is, below); kept = inr (omega (arith, past_is, all, le)) }

pub rests_yet : (idle past last moment replaced : ℕ) → idle ≡ min (moment + 60000) (2 ^ 64 - 1) → past ≡ min (replaced + 2000) (2 ^ 64 - 1) → Rests (min idle past) last moment replaced
rests_yet idle past last moment replaced idle_is past_is =
    let below = min-le_left (moment + 60000) (2 ^ 64 - 1) in
    let left = min-le_left idle past in
    let right = min-le_right idle past in
    let lower = min-le_left (replaced + 2000) (2 ^ 64 - 1) in
    record { awake = omega (arith, idle_is, below, left); kept = inl (omega (arith, past_is, lower, right)) }
