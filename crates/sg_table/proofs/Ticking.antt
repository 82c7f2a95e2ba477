-- What a table holds after a tick.
use Rattle.std.proofs.Common.{◌≡◌, ℕ, ◌+◌, ◌<◌, ◌≤◌, Bool, true, false, cond, not, ◌||◌, List, [], ◌∷◌, length, get_or, map, None, refl, sym, ap, ◌∙◌, subst, arith, leb, ltb}
use Rattle.std.proofs.lemmas.Bool.{false≢true, le-ltb}
use Rattle.std.specs.List.{filter, list_any}
use Rattle.sg_base.specs.declared.faults.Refusal.TheVariants.{TickBack}
use Rattle.sg_call.specs.Standing.{CallStandsFor}
use Rattle.sg_call.specs.Values.{CallValue}
use Rattle.sg_gateway.specs.CallSignals.{is_idle, call_at_tick}
use Rattle.sg_gateway.specs.Signals.{Answer, answer, tells_ended, refused, ticked}
use Rattle.sg_gateway.specs.World.{Call, World}
use Rattle.sg_leg.specs.Pairs.{EachPair}
use Rattle.sg_leg.specs.declared.books.Books.{Books}
use Rattle.sg_outcome.specs.declared.outcomes.Outcome.{Outcome}
use Rattle.sg_outcome.specs.declared.outcomes.Outcome.TheVariants.{Ended}
use Rattle.sg_outcome.specs.declared.outcomes.Why.TheVariants as why
use Rattle.sg_psk.specs.declared.pairs.Pair.{Pair}
use Rattle.sg_table.proofs.Pairing.{by_pairs, pairs_from_each}
use Rattle.sg_table.specs.Ends.{ended_as, idles, IsTicked}
use Rattle.sg_table.specs.Standing.{Holds}
use Rattle.sg_table.specs.Telling.{IsAnswered}
use Rattle.sg_table.specs.Values.{AreQuiet}

module _ (pairs : List Pair) (now : ℕ) where
  idles_same : (call : CallValue) (c : Call) → CallStandsFor pairs call c → idles now call ≡ is_idle now c
  idles_same call c h = ap (λ n. leb (n + 60000) now) (sym h.moment_is)

  ended_same : (call : CallValue) (c : Call) → CallStandsFor pairs call c → ended_as why.Idle call ≡ tells_ended why.Idle c
  ended_same call c h = (λ i. Ended (sym h.id_is i) (sym h.slot_is i) (sym h.media_are i) why.Idle)

  told_same : (calls : List CallValue) (cs : List Call) → EachPair (CallStandsFor pairs) calls cs → map (ended_as why.Idle) (filter (idles now) calls) ≡ map (tells_ended why.Idle) (filter (is_idle now) cs)
  told_same [] [] h = refl
  told_same (call ∷ calls) (c ∷ cs) h =
      ap (λ b. map (ended_as why.Idle) (cond b (call ∷ filter (idles now) calls) (filter (idles now) calls))) (idles_same call c h.0) ∙ go (is_idle now c) (told_same calls cs h.1)
    where
      go : (b : Bool) → map (ended_as why.Idle) (filter (idles now) calls) ≡ map (tells_ended why.Idle) (filter (is_idle now) cs)
          → map (ended_as why.Idle) (cond b (call ∷ filter (idles now) calls) (filter (idles now) calls)) ≡ map (tells_ended why.Idle) (cond b (c ∷ filter (is_idle now) cs) (filter (is_idle now) cs))
      go true rest = (λ i. ended_same call c h.0 i ∷ rest i)
      go false rest = rest
  told_same calls cs h = absurd h

  kept : (calls : List CallValue) (cs : List Call) → EachPair (CallStandsFor pairs) calls cs → EachPair (CallStandsFor pairs) (filter (λ c. not (idles now c)) calls) (filter (λ c. not (is_idle now c)) cs)
  kept [] [] h = tt
  kept (call ∷ calls) (c ∷ cs) h =
      subst (λ b. EachPair (CallStandsFor pairs) (cond (not b) (call ∷ filter (λ c. not (idles now c)) calls) (filter (λ c. not (idles now c)) calls)) (filter (λ c. not (is_idle now c)) (c ∷ cs))) (sym (idles_same call c h.0))
      (go (is_idle now c) (kept calls cs h.1))
    where
      go : (b : Bool) → EachPair (CallStandsFor pairs) (filter (λ c. not (idles now c)) calls) (filter (λ c. not (is_idle now c)) cs)
          → EachPair (CallStandsFor pairs) (cond (not b) (call ∷ filter (λ c. not (idles now c)) calls) (filter (λ c. not (idles now c)) calls)) (cond (not b) (c ∷ filter (λ c. not (is_idle now c)) cs) (filter (λ c. not (is_idle now c)) cs))
      go true rest = rest
      go false rest = (h.0, rest)
  kept calls cs h = absurd h

  ticked_stand : (calls new : List CallValue) (cs : List Call) → EachPair (CallStandsFor pairs) calls cs → EachPair (IsTicked now) calls new → EachPair (CallStandsFor pairs) new (map (call_at_tick now) cs)
  ticked_stand [] [] [] h t = tt
  ticked_stand [] new (c ∷ cs) h t = absurd h
  ticked_stand (call ∷ calls) new [] h t = absurd h
  ticked_stand (call ∷ calls) (n ∷ ns) (c ∷ cs) h t = (t.0.stands pairs c h.0, ticked_stand calls ns cs h.1 t.1)
  ticked_stand calls new cs h t = absurd t

quiet_kept : (test : CallValue → Bool) (calls : List CallValue) → AreQuiet calls → AreQuiet (filter test calls)
quiet_kept test [] q = tt
quiet_kept test (c ∷ cs) q = go (test c) (quiet_kept test cs q.1)
  where
    go : (b : Bool) → AreQuiet (filter test cs) → AreQuiet (cond b (c ∷ filter test cs) (filter test cs))
    go true rest = (q.0, rest)
    go false rest = rest

quiet_ticked : (now : ℕ) (calls new : List CallValue) → EachPair (IsTicked now) calls new → AreQuiet calls → AreQuiet new
quiet_ticked now = by_pairs (IsTicked now) (λ calls new. AreQuiet calls → AreQuiet new) (λ q. tt) (λ c n cs ns t rest q. ((t.waiting ∙ q.0.0, t.handled ∙ q.0.1), rest q.1))

module _ (calls : List CallValue) (books : Books) (last now : ℕ) (w : World) (holds : Holds (record { calls = calls; books = books; moment = last }) w) (outs : List Outcome) where
  abbrev goes_on : Answer
  goes_on = answer (map (tells_ended why.Idle) (filter (is_idle now) w.calls)) (record w { calls = map (call_at_tick now) (filter (λ c. not (is_idle now c)) w.calls); moment = now })

  ticked_by : (b : Bool) → ltb now last ≡ b → ticked w now ≡ cond b (refused w None (TickBack w.moment)) goes_on
  ticked_by b is = ap (λ t. cond t (refused w None (TickBack w.moment)) goes_on) (ap (ltb now) holds.moment_is ∙ is)

  pub tick_on : (awake new : List CallValue) → last ≤ now → outs ≡ map (ended_as why.Idle) (filter (idles now) calls) → awake ≡ filter (λ c. not (idles now c)) calls → EachPair (IsTicked now) awake new
      → IsAnswered outs (record { calls = new; books = books; moment = now }) (ticked w now)
  tick_on awake new le tells are ticks = subst (IsAnswered outs (record { calls = new; books = books; moment = now })) (sym (ticked_by false (le-ltb now last le)))
      (record {
        tells = tells ∙ told_same w.books.pairs now calls w.calls holds.calls;
        holds = record {
          calls = ticked_stand w.books.pairs now awake new (filter (λ c. not (is_idle now c)) w.calls)
              (subst (λ l. EachPair (CallStandsFor w.books.pairs) l (filter (λ c. not (is_idle now c)) w.calls)) (sym are) (kept w.books.pairs now calls w.calls holds.calls)) ticks;
          books = holds.books;
          moment_is = refl;
          quiet = quiet_ticked now awake new ticks (subst AreQuiet (sym are) (quiet_kept (λ c. not (idles now c)) calls holds.quiet));
        };
      })

-- where no call is idle
none_idle : (now : ℕ) (calls : List CallValue) → list_any (idles now) calls ≡ false → (filter (idles now) calls ≡ []) × (filter (λ c. not (idles now c)) calls ≡ calls)
none_idle now [] e = (refl, refl)
none_idle now (c ∷ cs) e = go (idles now c) e (none_idle now cs)
  where
    go : (b : Bool) → (b || list_any (idles now) cs) ≡ false → (list_any (idles now) cs ≡ false → (filter (idles now) cs ≡ []) × (filter (λ c. not (idles now c)) cs ≡ cs))
        → (cond b (c ∷ filter (idles now) cs) (filter (idles now) cs) ≡ []) × (cond (not b) (c ∷ filter (λ c. not (idles now c)) cs) (filter (λ c. not (idles now c)) cs) ≡ c ∷ cs)
    go true e rest = absurd (false≢true (sym e))
    go false e rest = let r = rest e in (r.0, ap (λ l. c ∷ l) r.1)

-- where one is
some_idle : (now : ℕ) (calls : List CallValue) → list_any (idles now) calls ≡ true → map (ended_as why.Idle) (filter (idles now) calls) ≡ [] → ⊥
some_idle now [] e none = false≢true e
some_idle now (c ∷ cs) e none = go (idles now c) e none (some_idle now cs)
  where
    go : (b : Bool) → (b || list_any (idles now) cs) ≡ true → map (ended_as why.Idle) (cond b (c ∷ filter (idles now) cs) (filter (idles now) cs)) ≡ []
        → (list_any (idles now) cs ≡ true → map (ended_as why.Idle) (filter (idles now) cs) ≡ [] → ⊥) → ⊥
    go true e none rest = cc
    go false e none rest = rest e none

module _ (calls : List CallValue) (books : Books) (last now : ℕ) (w : World) (holds : Holds (record { calls = calls; books = books; moment = last }) w) where
  pub tick_quiet : (new : List CallValue) → last ≤ now → list_any (idles now) calls ≡ false → EachPair (IsTicked now) calls new → IsAnswered [] (record { calls = new; books = books; moment = now }) (ticked w now)
  tick_quiet new le quiet ticks =
      let none = none_idle now calls quiet in
      tick_on calls books last now w holds [] calls new le (sym (ap (map (ended_as why.Idle)) none.0)) (sym none.1) ticks

  pub idle_tells : last ≤ now → list_any (idles now) calls ≡ true → (ticked w now).outcomes ≡ [] → ⊥
  idle_tells le some none =
      some_idle now calls some (told_same w.books.pairs now calls w.calls holds.calls ∙ sym (ap (λ (a : Answer). a.outcomes) (ticked_by calls books last now w holds [] false (le-ltb now last le))) ∙ none)

-- the calls before this position are ticked
pub record Ticks (now k : ℕ) (old calls : List CallValue) : Type 0 where
  pub ticked : (i : ℕ) (d : CallValue) → i < k → i < length old → IsTicked now (get_or old i d) (get_or calls i d)
  pub others : (i : ℕ) (d : CallValue) → k ≤ i → get_or calls i d ≡ get_or old i d

pub ticks_all : (now k : ℕ) (old calls : List CallValue) → length calls ≡ length old → length old ≤ k → Ticks now k old calls → EachPair (IsTicked now) old calls
ticks_all now k old calls len le t = pairs_from_each (IsTicked now) old calls len (λ i d lt. t.ticked i d (omega (arith, le, lt)) lt)
