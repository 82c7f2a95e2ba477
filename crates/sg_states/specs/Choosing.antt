-- The key that opens a datagram, or the cause why none does.
use Rattle.std.specs.Prelude.{ℕ, not, List, Result, Ok, Err}
use Rattle.sg_base.specs.declared.faults.DropCause.{DropCause}
use Rattle.sg_base.specs.declared.faults.DropCause.TheVariants as cause
use Rattle.sg_keys.specs.Live.{Live}
use Rattle.sg_keys.specs.KeySet.{chosen, chosen_seal}
use Rattle.sg_keys.specs.declared.key_set.OpenKeyFault.{OpenKeyFault}
use Rattle.sg_keys.specs.declared.key_set.OpenKeyFault.TheVariants.{MkiUnknown, KeySpent}
use Rattle.sg_keys.specs.declared.key_set.Spent.{Spent}
use Rattle.sg_session.specs.Opening.{key_with}
use Rattle.sg_session.specs.Session.{Key, Session, count_of, is_live}
use Rattle.sg_session.specs.Stages.{after_ok, stop_if}

abbrev pub key_cause : OpenKeyFault → DropCause
key_cause MkiUnknown = cause.MkiUnknown
key_cause (KeySpent number count) = cause.KeySpent number count

abbrev pub with_key_cause : Result Live OpenKeyFault → Result Live DropCause
with_key_cause (Ok k) = Ok k
with_key_cause (Err fault) = Err (key_cause fault)

-- the first key with this MKI, where it is alive
abbrev pub chosen_for : List Live → List ℕ → Result Live DropCause
chosen_for keys mki = with_key_cause (chosen keys mki)

abbrev pub with_spent_cause : Result Live Spent → Result Live DropCause
with_spent_cause (Ok k) = Ok k
with_spent_cause (Err last) = Err (cause.KeySpent last.number last.count)

-- the first key that is alive, or the last one's number and count
abbrev pub chosen_to_seal : List Live → Result Live DropCause
chosen_to_seal keys = with_spent_cause (chosen_seal keys)

-- the first of a session's keys that has this MKI, where it is live
abbrev pub usable_in : Session → List Key → List ℕ → Result Key DropCause
usable_in s ks mki = after_ok (key_with ks mki) (λ k. stop_if (not (is_live s k)) (cause.KeySpent k.number (count_of s k)) (Ok k))
