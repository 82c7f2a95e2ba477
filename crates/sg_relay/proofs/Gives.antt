-- What the lines of a relay give whose calls aren't joined, and that their events go in order.
use Rattle.std.proofs.Common.{◌≡◌, ◌⊎◌, ℕ, List, [], ◌++◌, map, Option, Some, Result, Ok, Err, refl, sym, ap, ◌∙◌, inl, inr, IfErr}
use Rattle.sg_front.proofs.Sequences.{state_after-append, told_from-append}
use Rattle.sg_lines.specs.declared.lines.Line.{Line}
use Rattle.sg_lines.specs.declared.lines.Line.TheVariants as lines
use Rattle.sg_lines.specs.declared.lines.Signal.{Signal}
use Rattle.sg_trace.specs.Course.{Given}
use Rattle.sg_trace.specs.Supplying.{IsSupplied}
use Rattle.sg_relay.specs.Plain.{acting, arrives, given, gives_by}
use Rattle.sg_relay.proofs.Common.{Acting, Address, AreHandled, Event, Gives, GoInOrder, IsGiven, IsOfOutcomes, LinkCall, Noise, Status, act_of}
use Rattle.sg_relay.proofs.Common.{events_of_signal, map-append, state_after, told_from}
use Rattle.sg_relay.proofs.Blames.{outcomes_not}

pub in_order : GoInOrder acting
in_order = record {
  none_done = λ s. refl;
  none_after = λ s. refl;
  acts = λ s ds es. ap (map act_of) (told_from-append s ds es) ∙ map-append act_of (told_from s ds) (told_from (state_after s ds) es);
  after = λ s ds es. state_after-append s ds es;
}

-- what a line gives was handled, or in part
pub given_so : {T S D : Type 0} (r : Result T Status) (g : List ℕ → Option (Given D)) (a : Acting S D) (state : S) (ds : List D) (stands_for : S → Type 0) (calls : List LinkCall) (draws out : List ℕ)
    → IfErr r IsOfOutcomes → Gives g draws ds → AreHandled r a state ds stands_for calls out → IsGiven r g a state stands_for calls draws out
given_so (Ok x) g a state ds stands_for calls draws out only says handled = (ds, says, handled.0, handled.1, handled.2, handled.3)
given_so (Err Noise) g a state ds stands_for calls draws out only says handled = absurd (outcomes_not Noise (λ e. cc) (λ e. cc) (λ e. cc) Noise only refl)
given_so (Err other) g a state ds stands_for calls draws out only says handled = (ds, says, handled.0, handled.1)

-- ---- a line that every script may have, by what its events give

module _ {D : Type 0} (deeds : List Event → List D) (l : Line) where
  -- a header, of either version
  pub gives_header : deeds [] ≡ [] → (l ≡ lines.Header) ⊎ (l ≡ lines.HeaderTwo) → Gives (gives_by deeds l) [] []
  gives_header none is more = go is ∙ ap (λ (ds : List D). let g : Option (Given D) = Some (record { deeds = ds; left = more }) in g) none
    where
      go : (l ≡ lines.Header) ⊎ (l ≡ lines.HeaderTwo) → gives_by deeds l more ≡ Some (record { deeds = deeds []; left = more })
      go (inl is) = ap (λ (m : Line). gives_by deeds m more) is
      go (inr is) = ap (λ (m : Line). gives_by deeds m more) is

  -- a datagram, of which a relay leaves out the moment where it has one
  pub gives_datagram : (port : ℕ) (from : Address) (octets pad : List ℕ) → (l ≡ lines.Datagram port from octets) ⊎ ((now : ℕ) × (l ≡ lines.DatagramAt now port from octets)) → pad ≡ octets
      → Gives (gives_by deeds l) [] (deeds (arrives port from pad))
  gives_datagram port from octets pad is same more = go is ∙ ap (λ (d : List ℕ). let g : Option (Given D) = Some (record { deeds = deeds (arrives port from d); left = more }) in g) (sym same)
    where
      go : (l ≡ lines.Datagram port from octets) ⊎ ((now : ℕ) × (l ≡ lines.DatagramAt now port from octets)) → gives_by deeds l more ≡ Some (record { deeds = deeds (arrives port from octets); left = more })
      go (inl is) = ap (λ (m : Line). gives_by deeds m more) is
      go (inr (now, is)) = ap (λ (m : Line). gives_by deeds m more) is

  -- a signal
  pub gives_signal : (signal s : Signal) (draws : List ℕ) → l ≡ lines.Signal signal → IsSupplied (Ok s) signal draws → Gives (gives_by deeds l) draws (deeds (events_of_signal s))
  gives_signal signal s draws is supplies more = ap (λ (m : Line). gives_by deeds m (draws ++ more)) is ∙ ap (given deeds) (supplies more)

  -- its noise couldn't be drawn
  pub unsupplied : {S : Type 0} (a : Acting S D) (T : Type 0) (signal : Signal) (draws : List ℕ) (s : Status) (state : S) (stands_for : S → Type 0) → l ≡ lines.Signal signal → IsSupplied (Err s) signal draws
      → IsGiven {T = T} (Err s) (gives_by deeds l) a state stands_for [] draws []
  unsupplied a T signal draws Noise state stands_for is lacks = (lacks.0, ap (λ (m : Line). gives_by deeds m []) is ∙ ap (given deeds) lacks.1, refl, refl)
  unsupplied a T signal draws other state stands_for is lacks = absurd lacks
