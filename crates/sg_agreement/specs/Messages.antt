-- The MIKEY message of a description's part (RFC 4567, 3.1; RFC 3830, 3.1).
use Rattle.std.specs.Prelude.{ℕ, List, Option, not, Result, Ok, ◌==◌}
use Rattle.sg_base.specs.declared.faults.MikeyFault.TheVariants.{DataType}
use Rattle.sg_base.specs.declared.faults.Refusal.{Refusal}
use Rattle.sg_base.specs.declared.faults.Refusal.TheVariants.{KeyMgmt, Mikey}
use Rattle.sg_csmap.specs.CryptoSessions.{streams_of}
use Rattle.sg_csmap.specs.declared.sessions.StreamKeys.{StreamKeys}
use Rattle.sg_mikey.specs.Reading.{message_of}
use Rattle.sg_mikey.specs.declared.message.Message.{Message}
use Rattle.sg_psk.specs.Accepting.{Accepted, initial_of}
use Rattle.sg_psk.specs.declared.pairs.Pair.{Pair}
use Rattle.sg_psk.specs.declared.replays.Noted.{Noted}
use Rattle.sg_session.specs.Stages.{after_ok, stop_if}
use Rattle.sg_agreement.specs.Attributes.{mikey_octets}
use Rattle.sg_agreement.specs.Refusals.{or_refusal, of_message, of_psk, of_cs}

-- The octets and the message of an attribute's value, in the medium of this number or, with 255, in the session
-- part. A message of the other kind shows it in its second octet, its data type (RFC 3830, 6.1).
unfoldable pub message_in : ℕ → ℕ → Option (List ℕ) → Result (List ℕ × Message) Refusal
message_in medium kind value =
    after_ok (or_refusal (KeyMgmt medium) (mikey_octets value)) (λ octets.
    after_ok (of_message medium (message_of octets)) (λ m.
    stop_if (not (m.kind == kind)) (Mikey medium 1 DataType)
    (Ok (octets, m))))

-- What is at hand when an offer comes: the call's slot and, where the call has media, their number; the
-- noise; the moment; the pre-shared keys and the messages noted.
pub record AtHand : Type 0 where
  pub slot : ℕ
  pub media : Option ℕ
  pub noise : List ℕ
  pub now : ℕ
  pub pairs : List Pair
  pub noted : List Noted

-- an initiator's message that was accepted, and what both sides send in each medium that it covers
pub record Bundle : Type 0 where
  pub initial : Accepted
  pub streams : List (StreamKeys × StreamKeys)

-- The peer's message for so many media. Refused, in this order: there is none (KeyMgmt), it can't be read
-- (Mikey), it isn't accepted (Psk), its crypto sessions don't serve these media (Cs).
unfoldable pub bundle_in : AtHand → ℕ → ℕ → Option (List ℕ) → Result Bundle Refusal
bundle_in h medium count value =
    after_ok (message_in medium 0 value) (λ read.
    after_ok (of_psk medium (initial_of read.0 read.1 h.pairs h.noted h.now)) (λ a.
    after_ok (of_cs medium (streams_of a.csb a.random a.map a.policies a.tgks count)) (λ streams.
    Ok (record { initial = a; streams = streams }))))
