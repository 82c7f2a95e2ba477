-- A datagram whose key is chosen and a packet whose source is admitted, by what a side shows.
use Rattle.std.specs.Prelude.{◌≡◌, ℕ, true, List, [], Ok, Some, slice_get}
use Rattle.sg_keys.specs.Live.{Live, mki_len}
use Rattle.sg_keys.specs.Stands.{live}
use Rattle.sg_keys.specs.declared.spec.SessionSpec.{SessionSpec}
use Rattle.sg_session.specs.Opening.{Head}
use Rattle.sg_session.specs.Session.{Done, Session, is_admitted}
use Rattle.sg_states.specs.Choosing.{chosen_for}
use Rattle.sg_states.specs.Inbound.{Keying}
use Rattle.sg_states.specs.Outbound.{Outgoing}
use Rattle.sg_states.specs.Parts.{heading, heading_out, mki_of}
use Rattle.sg_media.specs.Sides.{SideValue}
use Rattle.sg_media.specs.Steps.{heading_at, outgoing_at}

-- the datagram's head, its source and its key are the side's
pub record IsAccepted (v : SideValue) (done : List Done) (d : List ℕ) (k : Keying) : Type 0 where
  pub head : Head
  pub reads : heading v.kind v.encrypts (mki_len v.keys) v.tag_len d ≡ Ok head
  pub same : k.headed ≡ heading_at v d head
  pub admitted : is_admitted v.admit done head.ssrc ≡ true
  pub key : Live
  pub chosen : chosen_for v.keys (mki_of (mki_len v.keys) v.tag_len d) ≡ Ok key
  pub at : slice_get v.keys k.key ≡ Some key

-- the packet's head and its source are the side's
pub record IsAdmitted (v : SideValue) (done : List Done) (p : List ℕ) (h : Outgoing) : Type 0 where
  pub head : Head
  pub reads : heading_out v.kind v.encrypts p ≡ Ok head
  pub same : h ≡ outgoing_at v p head
  pub admitted : is_admitted v.admit done head.ssrc ≡ true

-- a session in which nothing is done, made of these
pub record IsMadeOf (s : Session) (spec : SessionSpec) : Type 0 where
  pub same_kind : spec.kind ≡ s.name.kind
  pub same_keys : spec.keys ≡ live s
  pub same_roc : spec.roc ≡ s.roc
  pub same_window : spec.window ≡ s.window
  pub same_admit : spec.admit ≡ s.admit
  pub same_encrypts : spec.encrypt ≡ s.encrypts
  pub same_tag_len : spec.tag_len ≡ s.tag_len
  pub none_done : s.done ≡ []
