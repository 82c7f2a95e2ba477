-- What the values in code stand for. They name a pair by its position in the book.
use Rattle.std.specs.Prelude.{◌≡◌, ℕ, List, Option, Some, None, Result, Ok, Err, slice_get}
use Rattle.sg_base.specs.declared.faults.PskFault.{PskFault}
use Rattle.sg_psk.specs.Accepting.{Accepted}
use Rattle.sg_psk.specs.Sending.{Sent, initial_octets, sent}
use Rattle.sg_psk.specs.declared.accepting.Initial.{Initial}
use Rattle.sg_psk.specs.declared.sending.Waiting.{Waiting}
use Rattle.sg_psk.specs.declared.faults.PskError.{PskError}
use Rattle.sg_psk.specs.declared.faults.PskError.TheVariants as errors
use Rattle.sg_psk.specs.declared.pairs.Pair.{Pair}

-- an accepted message under a pair
abbrev pub accepted_as : Initial → Pair → Accepted
accepted_as i pair = record {
  csb = i.csb;
  random = i.random;
  stamp = i.stamp;
  pair = pair;
  tgks = i.tgks.keys;
  map = i.map;
  policies = i.policies;
}

-- it names the book's pair, and its peer
pub record IsAccepted (pairs : List Pair) (i : Initial) (a : Accepted) : Type 0 where
  pub pair : slice_get pairs i.pair ≡ Some a.pair
  pub peer : i.peer ≡ a.pair.peer
  pub same : accepted_as i a.pair ≡ a

-- a message that was sent under a pair
abbrev pub sent_as : Waiting → Pair → Sent
sent_as w pair = sent w.csb w.random w.stamp pair w.tgks.keys w.map

-- it names the book's pair
pub record IsSent (pairs : List Pair) (w : Waiting) (s : Sent) : Type 0 where
  pub pair : slice_get pairs w.pair ≡ Some s.pair
  pub same : sent_as w s.pair ≡ s

-- its octets, and what is kept of it
abbrev pub AreSent : List Pair → List ℕ × Waiting → Sent → Type 0
AreSent pairs made s = (made.0 ≡ initial_octets s) × IsSent pairs made.1 s

-- a value, or a fault where there is none
abbrev pub or_fault : {A : Type 0} → PskFault → Option A → Result A PskFault
or_fault fault None = Err fault
or_fault fault (Some x) = Ok x

-- what a function returned is what the definition gives, unless memory ran out
abbrev pub Gives : {X A : Type 0} → (X → A → Type 0) → Result X PskError → Result A PskFault → Type 0
Gives Is (Ok x) (Ok a) = Is x a
Gives Is (Ok x) (Err fault) = ⊥
Gives Is (Err (errors.Psk fault)) is = is ≡ Err fault
Gives Is (Err errors.NoMemory) is = Unit {0}

-- out of memory is answered only where this holds
abbrev pub OnNoMemory : {X : Type 0} → Result X PskError → Type 0 → Type 0
OnNoMemory (Ok x) P = Unit {0}
OnNoMemory (Err (errors.Psk fault)) P = Unit {0}
OnNoMemory (Err errors.NoMemory) P = P
