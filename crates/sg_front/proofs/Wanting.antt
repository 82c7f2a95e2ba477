-- Where a text is told of a signal, memory may be wanting.
use Rattle.std.proofs.Common.{◌≡◌, ℕ, Bool, true, false, cond, ltb, List, [], ◌∷◌, map, filter, Option, Some, None, Result, Ok, Err, refl, sym, ap, ◌∙◌}
use Rattle.std.proofs.lemmas.Bool.{false≢true}
use Rattle.std.proofs.lemmas.List.{append-nil}
use Rattle.std.specs.List.{list_any}
use Rattle.sg_base.specs.declared.addresses.CallId.{CallId}
use Rattle.sg_base.specs.declared.faults.Refusal.{Refusal}
use Rattle.sg_base.specs.declared.faults.Refusal.TheVariants.{TickBack}
use Rattle.sg_gateway.proofs.Refusals.{refused_first}
use Rattle.sg_gateway.specs.CallSignals.{is_idle, rejected_in}
use Rattle.sg_gateway.specs.Early.{MayWant, early, takes_memory}
use Rattle.sg_gateway.specs.Events.{events_of_signal, outcomes_from, signal_lacks_noise, signal_of}
use Rattle.sg_gateway.specs.Signals.{Answer, Signal, Tick, Psk, Manual, Offered, Answered, Reject, Bye, answer, answer_to, left, refused, rejected, rejected_to, tells_ended, ticked}
use Rattle.sg_gateway.specs.Step.{Event, Signalled, step}
use Rattle.sg_gateway.specs.World.{Call, World, call_of}
use Rattle.sg_lines.specs.declared.lines.Signal as lines
use Rattle.sg_mux.specs.Muxed.{is_text}
use Rattle.sg_outcome.specs.declared.outcomes.Outcome.{Outcome}
use Rattle.sg_outcome.specs.declared.outcomes.Why.TheVariants as why

-- calls that end tell no text
no_text_ended : (cs : List Call) → list_any is_text (map (tells_ended why.Idle) cs) ≡ false
no_text_ended [] = refl
no_text_ended (c ∷ cs) = no_text_ended cs

module _ (w : World) where
  no_text_ticked : (now : ℕ) → list_any is_text (ticked w now).outcomes ≡ false
  no_text_ticked now = go (ltb now w.moment) _
    where
      go : (b : Bool) (after : World) → list_any is_text (cond b (refused w None (TickBack w.moment)) (answer (map (tells_ended why.Idle) (filter (is_idle now) w.calls)) after)).outcomes ≡ false
      go true after = refl
      go false after = no_text_ended (filter (is_idle now) w.calls)

  no_text_rejected : (id : CallId) (o : Option Call) → list_any is_text (rejected w id o).outcomes ≡ false
  no_text_rejected id None = refl
  no_text_rejected id (Some c) = go (rejected_in w.moment c)
    where
      go : (r : Result (Option Call) Refusal) → list_any is_text (rejected_to w c r).outcomes ≡ false
      go (Err cause) = refl
      go (Ok None) = refl
      go (Ok (Some d)) = refl

  no_text_left : (id : CallId) (o : Option Call) → list_any is_text (left w id o).outcomes ≡ false
  no_text_left id None = refl
  no_text_left id (Some c) = refl

  takes : (signal : Signal) → list_any is_text (answer_to w signal).outcomes ≡ true → takes_memory signal ≡ true
  takes (Tick now) text = absurd (false≢true (sym (no_text_ticked now) ∙ text))
  takes (Reject id) text = absurd (false≢true (sym (no_text_rejected id (call_of w id)) ∙ text))
  takes (Bye id) text = absurd (false≢true (sym (no_text_left id (call_of w id)) ∙ text))
  takes other text = refl

  -- no refusal is told
  none_early : (signal : Signal) → list_any is_text (answer_to w signal).outcomes ≡ true → (o : Option Refusal) → early w signal ≡ o → early w signal ≡ None
  none_early signal text None is = is
  none_early signal text (Some cause) is = absurd (false≢true (sym (ap (λ (a : Answer). list_any is_text a.outcomes) (refused_first w signal cause is)) ∙ text))

  -- a line's signal, of which these outcomes were told
  pub text_may_want : (line : lines.Signal) (told slice : List Outcome) → signal_lacks_noise line ≡ false → told ≡ outcomes_from w (events_of_signal line)
      → slice ≡ told → list_any is_text slice ≡ true → MayWant w (signal_of line) × (list_any is_text (outcomes_from w (events_of_signal line)) ≡ true)
  text_may_want line told slice noise is same text =
      let signal : Signal = signal_of line in
      let events : events_of_signal line ≡ Signalled signal ∷ [] = ap (λ lacks. cond lacks [] (Signalled signal ∷ [])) noise in
      let tells : list_any is_text (outcomes_from w (events_of_signal line)) ≡ true = ap (list_any is_text) (sym (same ∙ is)) ∙ text in
      let answers : list_any is_text (answer_to w signal).outcomes ≡ true =
      ap (list_any is_text) (sym (append-nil (step w (Signalled signal)).outcomes)) ∙ ap (λ (es : List Event). list_any is_text (outcomes_from w es)) (sym events) ∙ tells in
      (record { takes = takes signal answers; none_earlier = none_early signal answers (early w signal) refl }, tells)
