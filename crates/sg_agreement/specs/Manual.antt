-- A call that is keyed manually, without an offer: its one medium.
use Rattle.std.specs.Prelude.{min, max, ℕ, ◌^◌, true, not, ◌&&◌, nat_lt, [], ◌∷◌}
use Rattle.sg_base.specs.Keys.{Master}
use Rattle.sg_base.specs.Suites.{is_raw, tag_len_of}
use Rattle.sg_base.specs.declared.addresses.Address.{Address}
use Rattle.sg_base.specs.declared.addresses.CallId.{CallId}
use Rattle.sg_base.specs.declared.sources.Admit.TheVariants as admit
use Rattle.sg_agreement.specs.Media.{Stream, Medium}

-- what one side sends under one key, which serves 2^48 RTP packets (RFC 3711, 9.2)
abbrev pub manual_stream : ℕ → Master → Stream
manual_stream roc m = record {
  keys = record { master = m; mki = []; life = 2 ^ 48 } ∷ [];
  roc = roc;
  admit = admit.Any;
  encrypts_rtp = not (is_raw m.suite);
  encrypts_rtcp = true;
  tag_len = tag_len_of m.suite;
}

-- The one medium of such a call: its addresses, the starting rollover, the window, the peer's key and the
-- gateway's. There is no RTCP under raw keys, nor where no port follows the RTP port of a side. A window has 64
-- to 1,024 indices.
abbrev pub medium_under : Address → Address → ℕ → ℕ → Master → Master → Medium
medium_under secure plain roc window from_peer to_peer = record {
  from_peer = manual_stream roc from_peer;
  to_peer = manual_stream roc to_peer;
  window = max 64 (min window 1024);
  has_rtcp = (not (is_raw from_peer.suite) && not (is_raw to_peer.suite)) && (nat_lt secure.port 65535 && nat_lt plain.port 65535);
  secure = secure;
  plain = plain;
}

-- its id, the two addresses, the starting rollover, the window, and the keys of the two directions
pub record ManualCall : Type 0 where
  pub id : CallId
  pub secure : Address
  pub plain : Address
  pub roc : ℕ
  pub window : ℕ
  pub from_peer : Master
  pub to_peer : Master

abbrev pub manual_medium : ManualCall → Medium
manual_medium h = medium_under h.secure h.plain h.roc h.window h.from_peer h.to_peer
