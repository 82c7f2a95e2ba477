-- What a medium of an answer agrees by MIKEY messages (RFC 3830, 3.1 and 6.1.1). The gateway opens in a window of 64.
use Rattle.std.specs.Prelude.{ℕ, List, [], ◌∷◌, Bool, true, false, Option, Some, None, option_map, Result, Ok, if◌then◌else◌}
use Rattle.sg_base.specs.declared.addresses.Side.{Side}
use Rattle.sg_base.specs.declared.faults.Refusal.{Refusal}
use Rattle.sg_csmap.specs.CryptoSessions.{streams_of}
use Rattle.sg_csmap.specs.declared.sessions.StreamKeys.{StreamKeys}
use Rattle.sg_mikey.specs.declared.message.CsEntry.{CsEntry}
use Rattle.sg_psk.specs.Accepting.{Accepted}
use Rattle.sg_psk.specs.Policy.{own_policy}
use Rattle.sg_psk.specs.Sending.{Sent, response_of, response_octets}
use Rattle.sg_sdp.specs.declared.medium.Medium as descriptions
use Rattle.sg_session.specs.Stages.{after_ok}
use Rattle.sg_agreement.specs.Attributes.{own_ssrc}
use Rattle.sg_agreement.specs.CarriedTexts.{mikey_attribute}
use Rattle.sg_agreement.specs.Keyed.{Keyed}
use Rattle.sg_agreement.specs.Messages.{Bundle, message_in}
use Rattle.sg_agreement.specs.Refusals.{of_psk, of_cs}
use Rattle.sg_agreement.specs.Sides.{is_active}
use Rattle.sg_agreement.specs.Streams.{stream_of_session, with_source}

-- the next value where a medium is active; there is one, since there are as many as active media
abbrev pub next_if : {X : Type 0} → Bool → List X → (List X → List (Option X)) → List (Option X)
next_if true (x ∷ xs) rest = Some x ∷ rest xs
next_if true [] rest = None ∷ rest []
next_if false xs rest = None ∷ rest xs

-- a message covers the active media of the offer: each has the next of these
abbrev pub over_active : {X : Type 0} → Side → List descriptions.Medium → List X → List (Option X)
over_active side [] xs = []
over_active side (m ∷ ms) xs = next_if (is_active side m) xs (over_active side ms)

-- ---- the peer is the initiator

-- the gateway's stream has its own SSRC and begins at rollover 0
abbrev pub keyed_as_responder : List (List ℕ) → StreamKeys × StreamKeys → descriptions.Medium → Keyed
keyed_as_responder lines streams n = record {
  from_peer = stream_of_session streams.0;
  to_peer = stream_of_session (with_source (own_ssrc n.lines) 0 streams.1);
  window = 64;
  lines = lines;
}

-- the SSRCs of the answer's media that were active in the offer
abbrev pub ssrcs_answered : Side → List descriptions.Medium → List descriptions.Medium → List ℕ
ssrcs_answered side (m ∷ ms) (n ∷ ns) =
    if is_active side m then own_ssrc n.lines ∷ ssrcs_answered side ms ns else ssrcs_answered side ms ns
ssrcs_answered side ms ns = []

-- the response to a message of the session part
abbrev pub response_line : Side → List descriptions.Medium → List descriptions.Medium → Accepted → List ℕ
response_line side ms ns a = mikey_attribute (response_octets a (ssrcs_answered side ms ns))

-- what both sides send in the first medium
abbrev pub first_streams : List (StreamKeys × StreamKeys) → Option (StreamKeys × StreamKeys)
first_streams [] = None
first_streams (streams ∷ others) = Some streams

-- a medium's own message, and what both sides send in the one medium that it covers
abbrev pub own_streams : Option Bundle → Option (Accepted × (StreamKeys × StreamKeys))
own_streams None = None
own_streams (Some b) = option_map (λ streams. (b.initial, streams)) (first_streams b.streams)

-- the response is added to that medium
abbrev pub keyed_by_message : Accepted × (StreamKeys × StreamKeys) → descriptions.Medium → Keyed
keyed_by_message x n = keyed_as_responder (mikey_attribute (response_octets x.0 (own_ssrc n.lines ∷ [])) ∷ []) x.1 n

-- ---- the gateway is the initiator

abbrev pub keyed_as_initiator : StreamKeys × StreamKeys → Keyed
keyed_as_initiator streams = record {
  from_peer = stream_of_session streams.1;
  to_peer = stream_of_session streams.0;
  window = 64;
  lines = [];
}

-- the responder's streams have the SSRC and the rollover of the response
abbrev pub responded : List (StreamKeys × StreamKeys) → List CsEntry → List (StreamKeys × StreamKeys)
responded (streams ∷ others) (i ∷ r ∷ map) = (streams.0, with_source r.ssrc r.roc streams.1) ∷ responded others map
responded streams map = []

-- What both sides send in each of so many media, by the gateway's message and the response to it, which stands in
-- the session part as the message does.
unfoldable pub streams_answered : Sent → ℕ → Option (List ℕ) → Result (List (StreamKeys × StreamKeys)) Refusal
streams_answered sent count value =
    after_ok (message_in 255 1 value) (λ read.
    after_ok (of_psk 255 (response_of read.0 read.1 sent)) (λ map.
    after_ok (of_cs 255 (streams_of sent.csb sent.random sent.map (own_policy ∷ []) sent.tgks count)) (λ streams.
    Ok (responded streams map))))
