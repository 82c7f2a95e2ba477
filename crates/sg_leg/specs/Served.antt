-- Media that can be served: sides can be made for them.
use Rattle.std.specs.Prelude.{◌≡◌, ◌≤◌, ◌<◌, true, false, map, length, Option, Some, None}
use Rattle.std.specs.List.{AllByRecursion}
use Rattle.sg_base.specs.Suites.{is_raw}
use Rattle.sg_base.specs.declared.addresses.Kind.{Kind}
use Rattle.sg_base.specs.declared.addresses.Kind.TheVariants.{Rtp, Rtcp}
use Rattle.sg_agreement.specs.Media.{AgreedKey, Stream, Medium}
use Rattle.sg_media.specs.Ciphers.{may_encrypt}
use Rattle.sg_session.specs.Reach.{AreMkis}

-- One to eight keys, MKIs that differ and have one length, and no raw key where something may be encrypted.
pub record IsServed (kind : Kind) (s : Stream) : Type 0 where
  pub mkis : AreMkis (map (λ (k : AgreedKey). k.mki) s.keys)
  pub some : 1 ≤ length s.keys
  pub few : length s.keys ≤ 8
  pub secret : may_encrypt kind s.encrypts_rtp ≡ true → AllByRecursion (λ (k : AgreedKey). is_raw k.master.suite ≡ false) s.keys

-- both directions are served, and where there is RTCP, it is so too, and a port follows that of RTP
pub record IsServedMedium (x : Medium) : Type 0 where
  pub from_peer : IsServed Rtp x.from_peer
  pub to_peer : IsServed Rtp x.to_peer
  pub from_peer_rtcp : x.has_rtcp ≡ true → IsServed Rtcp x.from_peer
  pub to_peer_rtcp : x.has_rtcp ≡ true → IsServed Rtcp x.to_peer
  pub secure : x.has_rtcp ≡ true → x.secure.port < 65535
  pub plain : x.has_rtcp ≡ true → x.plain.port < 65535
  pub least : 64 ≤ x.window
  pub most : x.window ≤ 1024

abbrev pub IsServedIf : Option Medium → Type 0
IsServedIf None = Unit {0}
IsServedIf (Some x) = IsServedMedium x
