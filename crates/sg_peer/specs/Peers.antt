-- A peer of the gateway: one session that seals and one that opens, of RTP alone, under one key.
use Rattle.std.specs.Prelude.{◌≡◌, ℕ, ◌/◌, ◌^◌, not, [], ◌∷◌}
use Rattle.sg_base.specs.Keys.{Master}
use Rattle.sg_base.specs.Suites.{tag_len_of}
use Rattle.sg_base.specs.declared.addresses.Kind.TheVariants.{Rtp}
use Rattle.sg_kdf.specs.SessionKeys.{is_raw}
use Rattle.sg_media.specs.Sides.{SideValue}
use Rattle.sg_session.specs.Session.{Key, Session}
use Rattle.sg_base.specs.declared.sources.Admit.TheVariants.{One}

-- the one key of a peer's session: number 0, no MKI, and the longest life (RFC 3711, 9.2)
abbrev pub peer_key : Master → Key
peer_key master = record { number = 0; master = master; mki = []; life = 2 ^ 48 }

-- A session of RTP under this key in which nothing is done. It admits one source, and starts at the rollover
-- counter of that source's first index (RFC 3711, 3.3.1). Its replay window has this size. It encrypts, but for
-- a raw key.
pub record IsPeers (s : Session) (master : Master) (ssrc first size : ℕ) : Type 0 where
  pub kind : s.name.kind ≡ Rtp
  pub keys : s.keys ≡ peer_key master ∷ []
  pub roc : s.roc ≡ first / 2 ^ 16
  pub window : s.window ≡ size
  pub admit : s.admit ≡ One ssrc
  pub encrypts : s.encrypts ≡ not (is_raw master.suite)
  pub tag_len : s.tag_len ≡ tag_len_of master.suite
  pub none_done : s.done ≡ []

-- what a peer shows: the side that seals and the side that opens
pub record PeerValue : Type 0 where
  pub sealing : SideValue
  pub opening : SideValue
