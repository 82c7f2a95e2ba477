-- The sessions of media, and the specs that sides are made of.
use Rattle.std.specs.Prelude.{◌≡◌, ℕ, ◌+◌, Option, Some, None, List, [], ◌∷◌, ◌++◌, map}
use Rattle.std.specs.List.{flat_map}
use Rattle.sg_agreement.specs.Generations.{numbered, sessions_from, stream_session}
use Rattle.sg_agreement.specs.Media.{Medium, Stream}
use Rattle.sg_base.specs.declared.addresses.Address.{Address}
use Rattle.sg_base.specs.declared.addresses.Kind.{Kind}
use Rattle.sg_keys.specs.declared.spec.SessionSpec.{SessionSpec}
use Rattle.sg_media.specs.Accepting.{IsMadeOf}
use Rattle.sg_session.specs.Session.{Session}
use Rattle.sg_session.specs.declared.names.Direction.{Direction}
use Rattle.sg_session.specs.declared.names.Direction.TheVariants.{Opening, Sealing}
use Rattle.sg_session.specs.declared.names.Owner.{Owner}
use Rattle.sg_leg.specs.FreshKeys.{encrypts_for, tag_for}
use Rattle.sg_leg.specs.Pairs.{EachPair}
use Rattle.sg_leg.specs.declared.media_spec.MediaSpec.{MediaSpec}
use Rattle.sg_leg.specs.declared.media_spec.SideSpec.{SideSpec}

-- one session's spec, with the medium, the direction and the addresses
pub record Planned : Type 0 where
  pub medium : ℕ
  pub direction : Direction
  pub spec : SessionSpec
  pub secure : Address
  pub plain : Address

-- the session is the one that is planned
pub record IsPlanned (p : Planned) (s : Session) : Type 0 where
  pub made : IsMadeOf s p.spec
  pub medium_is : s.name.owner.medium ≡ p.medium
  pub direction_is : s.name.owner.direction ≡ p.direction
  pub secure_is : s.secure ≡ p.secure
  pub plain_is : s.plain ≡ p.plain

abbrev pub planned_if : MediaSpec → Direction → Option SessionSpec → List Planned
planned_if m direction None = []
planned_if m direction (Some spec) = record { medium = m.medium; direction = direction; spec = spec; secure = m.secure; plain = m.plain } ∷ []

-- the sessions of a medium in their order: what is opened, then what is sealed, RTP before RTCP
abbrev pub planned_in : MediaSpec → List Planned
planned_in m =
    planned_if m Opening (Some m.open_rtp) ++ (planned_if m Opening m.open_rtcp ++ (planned_if m Sealing (Some m.seal_rtp) ++ planned_if m Sealing m.seal_rtcp))

abbrev pub planned : List MediaSpec → List Planned
planned ms = flat_map planned_in ms

abbrev pub planned_side : SideSpec → Planned
planned_side s = record { medium = s.medium; direction = s.direction; spec = s.spec; secure = s.secure; plain = s.plain }

abbrev pub planned_sides : List SideSpec → List Planned
planned_sides ss = map planned_side ss

-- what is planned of a medium in one direction
abbrev pub planned_for : Medium → ℕ → Direction → SessionSpec → Planned
planned_for x medium direction spec = record { medium = medium; direction = direction; spec = spec; secure = x.secure; plain = x.plain }

-- the spec is of one kind of what is sent, whose first key has this number, for every owner and medium
abbrev pub IsMadeFor : Stream → Kind → ℕ → ℕ → SessionSpec → Type 0
IsMadeFor s kind n window spec =
    (owner : Owner) (x : Medium) → IsMadeOf (stream_session owner (numbered n s.keys) s window x kind (encrypts_for kind s) (tag_for kind s)) spec

-- the sessions are those that are planned, one by one
abbrev pub ArePlanned : List Planned → List Session → Type 0
ArePlanned ps ss = EachPair IsPlanned ps ss

-- the sessions are those of the one medium
abbrev pub AreOfMedium : MediaSpec → List Session → Type 0
AreOfMedium m ss = ArePlanned (planned_in m) ss

-- One medium more is planned: with `count` keys so far, and `count'` then, whatever is planned of the rest.
abbrev pub IsNext : ℕ → ℕ → Option Medium → List Planned → ℕ → List Planned → ℕ → Type 0
IsNext m first x old count new count' =
    (call generation : ℕ) (rest : List (Option Medium)) (more : List Planned) → EachPair IsPlanned more (sessions_from call generation (m + 1) (first + count') rest)
    → (these : List Planned) × (new ≡ old ++ these) × EachPair IsPlanned (these ++ more) (sessions_from call generation m (first + count) (x ∷ rest))
