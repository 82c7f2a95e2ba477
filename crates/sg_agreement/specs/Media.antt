-- What is agreed of a call's media: manually, or by an offer and its answer.
use Rattle.std.specs.Prelude.{ℕ, Bool, List}
use Rattle.sg_base.specs.Keys.{Master}
use Rattle.sg_base.specs.declared.addresses.Address.{Address}
use Rattle.sg_base.specs.declared.sources.Admit.{Admit}

-- a master key that one side has chosen, its MKI's octets, and how many packets it may serve
pub record AgreedKey : Type 0 where
  pub master : Master
  pub mki : List ℕ
  pub life : ℕ

-- What one side sends: its keys, the starting rollover, the sources that are admitted, whether RTP and
-- RTCP are encrypted, and the octets of an RTP tag.
pub record Stream : Type 0 where
  pub keys : List AgreedKey
  pub roc : ℕ
  pub admit : Admit
  pub encrypts_rtp : Bool
  pub encrypts_rtcp : Bool
  pub tag_len : ℕ

-- A medium: what its peer sends and what the gateway sends to the peer, the opening window, whether there
-- is RTCP, and the addresses of the two sides.
pub record Medium : Type 0 where
  pub from_peer : Stream
  pub to_peer : Stream
  pub window : ℕ
  pub has_rtcp : Bool
  pub secure : Address
  pub plain : Address
