-- How the secure side of a call is keyed, from the offer on.
use Rattle.std.specs.Prelude.{ℕ, List, [], ◌∷◌, map, Option, Some, None, option_map}
use Rattle.std.specs.List.{filter_map}
use Rattle.sg_base.specs.declared.addresses.Side.{Side}
use Rattle.sg_psk.specs.Accepting.{note_of}
use Rattle.sg_psk.specs.Sending.{Sent, initial_octets}
use Rattle.sg_psk.specs.declared.replays.Noted.{Noted}
use Rattle.sg_sdes.specs.declared.lines.CryptoLine.{CryptoLine}
use Rattle.sg_sdp.specs.declared.sdp.Sdp.{Sdp}
use Rattle.sg_agreement.specs.CarriedTexts.{Added, nothing, crypto_attribute, mikey_attribute}
use Rattle.sg_agreement.specs.Messages.{Bundle}

-- A list has an entry for each medium of the offer, none for an idle one.
pub data Keying : Type 0 where
  -- by a line of the peer's, which the gateway chose
  PeerLines : List (Option CryptoLine) → Keying
  -- by the lines that the gateway offers
  OwnLines : List (Option (List CryptoLine)) → Keying
  -- by the peer's message for all active media
  PeerMessage : Bundle → Keying
  -- by the peer's messages, one for each active medium
  PeerMessages : List (Option Bundle) → Keying
  -- by the gateway's message for all active media
  OwnMessage : Sent → Keying

-- an open offer: its side, what it describes, and how it is keyed
pub record Offer : Type 0 where
  pub side : Side
  pub description : Sdp
  pub keying : Keying

abbrev pub attributes_of : Option (List CryptoLine) → List (List ℕ)
attributes_of None = []
attributes_of (Some lines) = map crypto_attribute lines

-- what the gateway adds to the text that it carries to the other side
abbrev pub added_by : Keying → Added
added_by (PeerLines lines) = nothing
added_by (OwnLines lines) = record { session = []; media = map attributes_of lines }
added_by (PeerMessage bundle) = nothing
added_by (PeerMessages bundles) = nothing
added_by (OwnMessage sent) = record { session = mikey_attribute (initial_octets sent) ∷ []; media = [] }

abbrev pub note_in : Option Bundle → Option Noted
note_in bundle = option_map (λ (b : Bundle). note_of b.initial) bundle

-- the messages that are to be noted, so that none is accepted again (RFC 3830, 5.4)
abbrev pub notes_of : Keying → List Noted
notes_of (PeerLines lines) = []
notes_of (OwnLines lines) = []
notes_of (PeerMessage bundle) = note_of bundle.initial ∷ []
notes_of (PeerMessages bundles) = filter_map note_in bundles
notes_of (OwnMessage sent) = []
