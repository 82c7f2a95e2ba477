-- How media are keyed by messages, for either part of the gateway.
use Rattle.std.specs.Prelude.{◌≡◌, ℕ, List, [], Option, Some, None, Ok}
use Rattle.std.specs.List.{AllByRecursion}
use Rattle.sg_agreement.specs.Keyed.{Keyed}
use Rattle.sg_agreement.specs.MessageAnswers.{keyed_as_initiator, keyed_as_responder, streams_answered}
use Rattle.sg_csmap.specs.declared.sessions.StreamKeys.{StreamKeys}
use Rattle.sg_psk.specs.Sending.{Sent}
use Rattle.sg_sdp.specs.declared.medium.Medium as descriptions
use Rattle.sg_leg.specs.Messages.{HasFewKeys}
use Rattle.sg_leg.specs.declared.keying.Bundle.{Bundle}
use Rattle.sg_leg.specs.declared.replying.Role.{Role}
use Rattle.sg_leg.specs.declared.replying.Role.TheVariants.{Initiator, Responder}

-- without a line of its own
abbrev pub keyed_as : Role → StreamKeys × StreamKeys → descriptions.Medium → Keyed
keyed_as Initiator streams n = keyed_as_initiator streams
keyed_as Responder streams n = keyed_as_responder [] streams n

-- a message, where there is one, has few keys in each crypto session
abbrev pub HaveFewKeys : Option Bundle → Type 0
HaveFewKeys None = Unit {0}
HaveFewKeys (Some b) = AllByRecursion HasFewKeys b.streams

-- so will a message that was sent, once the response is there
abbrev pub WillHaveFewKeys : Sent → Type 0
WillHaveFewKeys s =
    (count : ℕ) (value : Option (List ℕ)) (streams : List (StreamKeys × StreamKeys)) → streams_answered s count value ≡ Ok streams → AllByRecursion HasFewKeys streams
