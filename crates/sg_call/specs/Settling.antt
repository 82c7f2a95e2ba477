-- What a call settles: with the call, the books that all calls share.
use Rattle.std.specs.Prelude.{◌≡◌, Bool, true, false, List, [], ℕ, Option, Some, None, Result, Ok, Err}
use Rattle.sg_base.specs.declared.faults.Fault.{Fault}
use Rattle.sg_base.specs.declared.faults.Fault.TheVariants.{Refused, NoMemory}
use Rattle.sg_base.specs.declared.faults.Refusal.{Refusal}
use Rattle.sg_gateway.specs.Generations.{Settled}
use Rattle.sg_gateway.specs.World as world
use Rattle.sg_keys.specs.Installing.{keys_of}
use Rattle.sg_leg.specs.Values.{OfferedValue}
use Rattle.sg_leg.specs.declared.books.Books.{Books}
use Rattle.sg_psk.specs.declared.pairs.Pair.{Pair}
use Rattle.sg_call.specs.Standing.{CallStandsFor}
use Rattle.sg_call.specs.States.{IsOffered}
use Rattle.sg_call.specs.Values.{CallValue}
use Rattle.sg_call.specs.declared.state.State.{State}

-- the books stand for books: the ring doesn't keep whose its keys are
pub record BooksStandFor (books : Books) (b : world.Books) : Type 0 where
  pub pairs : books.psks ≡ b.pairs
  pub noted : books.seen ≡ b.noted
  pub ring : keys_of b.ring ≡ books.ring

-- this text goes on, and the state and the books stand for what is settled
pub record Settles {S : Type 0} (Stands : List Pair → S → world.Call → Type 0) (state : S) (text : List ℕ) (books : Books) (r : Result Settled Refusal) : Type 0 where
  pub settled : Settled
  pub is_settled : r ≡ Ok settled
  pub text_is : text ≡ settled.text
  pub stands : Stands settled.books.pairs state settled.call
  pub books_stand : BooksStandFor books settled.books

-- it is settled, or refused; memory may be wanting
abbrev pub IsSettled : Result (List ℕ) Fault → CallValue → Books → Result Settled Refusal → Type 0
IsSettled (Ok text) call books r = Settles CallStandsFor call text books r
IsSettled (Err (Refused cause)) call books r = r ≡ Err cause
IsSettled (Err NoMemory) call books r = Unit {0}

-- the same of a call that is keyed manually: no text goes on
abbrev pub IsKeyed : Result (Unit {0}) Fault → CallValue → Books → Result Settled Refusal → Type 0
IsKeyed (Ok u) call books r = Settles CallStandsFor call [] books r
IsKeyed (Err (Refused cause)) call books r = r ≡ Err cause
IsKeyed (Err NoMemory) call books r = Unit {0}

-- the same of a state that takes an offer, or is handed back
abbrev pub IsTaken : Result (OfferedValue × List ℕ) (State × Fault) → Books → Result Settled Refusal → Type 0
IsTaken (Ok (o, text)) books r = Settles IsOffered o text books r
IsTaken (Err (state, Refused cause)) books r = r ≡ Err cause
IsTaken (Err (state, NoMemory)) books r = Unit {0}

-- the call goes on, or ends
abbrev pub GoesOnAs : List Pair → Bool → CallValue → Result (Option world.Call) Refusal → Type 0
GoesOnAs pairs true call r = (d : world.Call) × (r ≡ Ok (Some d)) × CallStandsFor pairs call d
GoesOnAs pairs false call r = r ≡ Ok None

-- or there is no open offer
abbrev pub IsRejected : List Pair → Result Bool Refusal → CallValue → Result (Option world.Call) Refusal → Type 0
IsRejected pairs (Ok goes_on) call r = GoesOnAs pairs goes_on call r
IsRejected pairs (Err cause) call r = r ≡ Err cause
