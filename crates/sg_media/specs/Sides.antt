-- What a side shows, and the sessions that it stands for.
use Rattle.std.specs.Prelude.{◌≡◌, ℕ, ◌<◌, ◌≤◌, Bool, true, List, [], length, map, All}
use Rattle.sg_base.specs.declared.addresses.Kind.{Kind}
use Rattle.sg_keys.specs.Live.{Live}
use Rattle.sg_keys.specs.Stands.{live}
use Rattle.sg_keys.specs.declared.spec.SessionSpec.{SessionSpec}
use Rattle.sg_session.specs.Session.{Session}
use Rattle.sg_base.specs.declared.sources.Admit.{Admit}
pub use Rattle.sg_states.specs.Parts.{is_tag_len}
use Rattle.sg_states.specs.StreamValues.{StreamValue}
use Rattle.sg_media.specs.Ciphers.{HaveCiphers}
use Rattle.sg_media.specs.Standing.{source_of, AreOfKind, StreamsStand}

pub record SideValue : Type 0 where
  pub kind : Kind
  pub keys : List Live
  pub streams : List StreamValue
  pub roc : ℕ
  pub window : ℕ
  pub admit : Admit
  pub encrypts : Bool
  pub tag_len : ℕ

-- what is always true of a side
pub record IsSide (keys : List Live) (streams : List StreamValue) (row : List ℕ) (kind : Kind) (window : ℕ) (encrypts : Bool) (tag_len : ℕ) : Type 0 where
  pub at_least : 64 ≤ window
  pub at_most : window ≤ 1024
  pub tag : is_tag_len kind tag_len ≡ true
  pub some : 0 < length keys
  pub ciphers : HaveCiphers keys kind encrypts
  pub kinds : AreOfKind streams kind
  pub in_row : row ≡ map source_of streams

-- A side stands for a session: it has its keys with their counts, and its streams stand for what is done.
pub record StandsFor (side : SideValue) (s : Session) : Type 0 where
  pub same_kind : side.kind ≡ s.name.kind
  pub same_keys : side.keys ≡ live s
  pub same_roc : side.roc ≡ s.roc
  pub same_window : side.window ≡ s.window
  pub same_admit : side.admit ≡ s.admit
  pub same_encrypts : side.encrypts ≡ s.encrypts
  pub same_tag_len : side.tag_len ≡ s.tag_len
  pub streams : StreamsStand side.streams s.roc s.window s.done

-- what a side shows when it is made
abbrev pub side_of : SessionSpec → SideValue
side_of spec = record {
  kind = spec.kind;
  keys = spec.keys;
  streams = [];
  roc = spec.roc;
  window = spec.window;
  admit = spec.admit;
  encrypts = spec.encrypt;
  tag_len = spec.tag_len;
}

-- what a side can be made of: keys that have not served, each with a cipher's key where something may be
-- encrypted
pub record CanBeMade (spec : SessionSpec) : Type 0 where
  pub at_least : 64 ≤ spec.window
  pub at_most : spec.window ≤ 1024
  pub tag : is_tag_len spec.kind spec.tag_len ≡ true
  pub fresh : All (λ k. k.count ≡ 0) spec.keys
  pub ciphers : HaveCiphers spec.keys spec.kind spec.encrypt
