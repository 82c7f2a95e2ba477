-- What every agreement has.
use Rattle.std.specs.Prelude.{◌≡◌, ◌≤◌, List, [], ◌∷◌, false, ◌&&◌, length, map, Option, Some, None, is_some}
use Rattle.std.specs.List.{AllByRecursion}
use Rattle.sg_base.specs.Suites.{is_raw}
use Rattle.sg_base.specs.declared.addresses.Side.{Side}
use Rattle.sg_sdp.specs.declared.medium.Medium as descriptions
use Rattle.sg_session.specs.Reach.{AreMkis}
use Rattle.sg_agreement.specs.Media.{Stream, Medium}
use Rattle.sg_agreement.specs.Sides.{is_active, other_side}

-- one to eight keys, none of them raw, MKIs that differ and have one length, and a tag of ten octets at most
pub record IsSoundStream (s : Stream) : Type 0 where
  pub mkis : AreMkis (map (λ k. k.mki) s.keys)
  pub tags : s.tag_len ≤ 10
  pub some : 1 ≤ length s.keys
  pub few : length s.keys ≤ 8
  pub secret : AllByRecursion (λ k. is_raw k.master.suite ≡ false) s.keys

-- such keys both ways, and a window of 64 to 1,024
pub record IsSound (x : Medium) : Type 0 where
  pub from_peer : IsSoundStream x.from_peer
  pub to_peer : IsSoundStream x.to_peer
  pub least : 64 ≤ x.window
  pub most : x.window ≤ 1024

-- a medium that is agreed is sound
abbrev pub IsSoundMedium : Option Medium → Type 0
IsSoundMedium None = Unit {0}
IsSoundMedium (Some x) = IsSound x

-- Offer and answer have as many media, and one is agreed exactly where it is active in both.
abbrev pub AreAgreedWhereActive : Side → List descriptions.Medium → List descriptions.Medium → List (Option Medium) → Type 0
AreAgreedWhereActive side [] [] [] = Unit {0}
AreAgreedWhereActive side (m ∷ ms) (n ∷ ns) (x ∷ xs) =
    (is_some x ≡ (is_active side m && is_active (other_side side) n)) × AreAgreedWhereActive side ms ns xs
AreAgreedWhereActive side _ _ _ = ⊥
