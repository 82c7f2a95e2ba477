-- What one side of a medium sends: under the keys of a crypto line (RFC 4568, 6.1 and 6.3), or in a crypto
-- session (RFC 3830, 6.1.1).
use Rattle.std.specs.Prelude.{ℕ, ◌^◌, List, [], map, not, Option, Some, None, ◌==◌, min, max, if◌then◌else◌}
use Rattle.sg_base.specs.Mkis.{MkiValue, mki_octets}
use Rattle.sg_base.specs.Keys.{Master}
use Rattle.sg_base.specs.Suites.{tag_len_of}
use Rattle.sg_csmap.specs.declared.sessions.StreamKeys.{StreamKeys}
use Rattle.sg_sdes.specs.declared.lines.CryptoLine.{CryptoLine}
use Rattle.sg_sdes.specs.declared.lines.InlineKey.{InlineKey}
use Rattle.sg_base.specs.declared.sources.Admit.{Admit}
use Rattle.sg_base.specs.declared.sources.Admit.TheVariants as admit
use Rattle.sg_agreement.specs.Media.{AgreedKey, Stream}

-- the octets of an MKI, none where there is none
abbrev pub octets_of : Option MkiValue → List ℕ
octets_of None = []
octets_of (Some m) = mki_octets m

-- ---- under a crypto line

abbrev pub line_key : InlineKey → AgreedKey
line_key k = record { master = k.key; mki = octets_of k.mki; life = k.lifetime }

-- The sender of a line sends under its keys from rollover 0 on, whatever the source. What isn't encrypted,
-- the peer's line says, for both directions (6.3.2).
abbrev pub stream_of_line : CryptoLine → CryptoLine → Stream
stream_of_line peer line = record {
  keys = map line_key line.keys;
  roc = 0;
  admit = admit.Any;
  encrypts_rtp = not peer.plain_rtp;
  encrypts_rtcp = not peer.plain_rtcp;
  tag_len = tag_len_of line.suite;
}

-- The window in which the gateway opens: what the sender's line asks for, between 64 and 1,024, and 64 where
-- it asks for none (6.3.7; RFC 3711, 3.3.2).
abbrev pub window_of : Option ℕ → ℕ
window_of None = 64
window_of (Some size) = max 64 (min size 1024)

-- ---- in a crypto session

-- a key serves 2^48 packets (RFC 3711, 9.2)
abbrev pub session_key : Option MkiValue × Master → AgreedKey
session_key k = record { master = k.1; mki = octets_of k.0; life = 2 ^ 48 }

-- the source that is known, or the first that comes where it isn't
abbrev pub admit_of : ℕ → Admit
admit_of ssrc = if ssrc == 0 then admit.FirstSeen else admit.One ssrc

abbrev pub stream_of_session : StreamKeys → Stream
stream_of_session s = record {
  keys = map session_key s.keys;
  roc = s.roc;
  admit = admit_of s.ssrc;
  encrypts_rtp = not s.plain_rtp;
  encrypts_rtcp = not s.plain_rtcp;
  tag_len = tag_len_of s.suite;
}

-- the same keys for another source, at this rollover
abbrev pub with_source : ℕ → ℕ → StreamKeys → StreamKeys
with_source ssrc roc s = record s { ssrc = ssrc; roc = roc }
