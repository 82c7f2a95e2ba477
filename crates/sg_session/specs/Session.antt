-- Sessions, the cryptographic contexts of RFC 3711, 3.2: their names, their keys, and what they have done.
use Rattle.std.specs.Prelude.{ℕ, ◌+◌, ◌*◌, Bool, true, false, ◌&&◌, ◌||◌, ◌==◌, nat_lt, if◌then◌else◌, List, [], ◌∷◌, ◌++◌, length, count_by, Option, Some, None, Result, Ok, Err}
use Rattle.sg_base.specs.Keys.{Master}
use Rattle.sg_base.specs.declared.addresses.Address.{Address}
use Rattle.sg_base.specs.declared.addresses.Kind.{Kind}
use Rattle.sg_base.specs.declared.addresses.Kind.TheVariants.{Rtp, Rtcp}
use Rattle.sg_base.specs.declared.faults.DropCause.{DropCause}
use Rattle.sg_base.specs.declared.faults.DropCause.TheVariants as cause
use Rattle.sg_base.specs.declared.faults.IndexFault.{IndexFault}
use Rattle.sg_base.specs.declared.faults.IndexFault.TheVariants as index_fault
use Rattle.sg_session.specs.declared.names.Direction.{Direction}
use Rattle.sg_session.specs.declared.names.Direction.TheVariants.{Opening, Sealing}
use Rattle.sg_session.specs.declared.names.Name.{Name}
use Rattle.sg_session.specs.declared.names.Owner.{Owner}
use Rattle.sg_base.specs.declared.sources.Admit.{Admit}
use Rattle.sg_base.specs.declared.sources.Admit.TheVariants as admit
use Rattle.sg_index.specs.Nearest.{nearest_index, within_life}
use Rattle.sg_replay.specs.Freshness.{highest_of, is_in}

-- A key of a session: its number in the ring, its MKI's octets, none where it has no MKI, and how many
-- packets it may serve (3.2.1 and 9.2).
pub record Key : Type 0 where
  pub number : ℕ
  pub master : Master
  pub mki : List ℕ
  pub life : ℕ

-- what was opened or sealed: the source, the index, the number of the key and the plain packet
pub record Done : Type 0 where
  pub ssrc : ℕ
  pub index : ℕ
  pub key : ℕ
  pub packet : List ℕ

-- The starting rollover counter is that of a source of which nothing is done. The window is the replay
-- window (3.3.2), and tag_len the octets of the tag. The two addresses are the medium's.
pub record Session : Type 0 where
  pub name : Name
  pub keys : List Key
  pub roc : ℕ
  pub window : ℕ
  pub admit : Admit
  pub encrypts : Bool
  pub tag_len : ℕ
  pub secure : Address
  pub plain : Address
  pub done : List Done

abbrev pub same_direction : Direction → Direction → Bool
same_direction Opening Opening = true
same_direction Sealing Sealing = true
same_direction Opening Sealing = false
same_direction Sealing Opening = false

abbrev pub same_kind : Kind → Kind → Bool
same_kind Rtp Rtp = true
same_kind Rtcp Rtcp = true
same_kind Rtp Rtcp = false
same_kind Rtcp Rtp = false

abbrev pub same_owner : Owner → Owner → Bool
same_owner a b = (a.call == b.call) && ((a.medium == b.medium) && ((a.generation == b.generation) && same_direction a.direction b.direction))

abbrev pub same_name : Name → Name → Bool
same_name a b = same_owner a.owner b.owner && same_kind a.kind b.kind

-- the indices that are done of a source, in their order
abbrev pub indices_of : List Done → ℕ → List ℕ
indices_of [] ssrc = []
indices_of (d ∷ ds) ssrc = if d.ssrc == ssrc then d.index ∷ indices_of ds ssrc else indices_of ds ssrc

-- whether an index of a source is done
abbrev pub has_done : List Done → ℕ → ℕ → Bool
has_done done ssrc index = is_in (indices_of done ssrc) index

-- the highest index of a source, where something of it is done
abbrev pub highest_in : Session → ℕ → Option ℕ
highest_in s ssrc = highest_of (indices_of s.done ssrc)

abbrev pub index_cause : IndexFault → DropCause
index_cause index_fault.BeforeFirst = cause.BeforeFirst
index_cause index_fault.IndexSpent = cause.IndexSpent

abbrev pub with_cause : Result ℕ IndexFault → Result ℕ DropCause
with_cause (Ok index) = Ok index
with_cause (Err fault) = Err (index_cause fault)

-- the nearest index, or the one in the block of the starting rollover
abbrev pub nearest_from : ℕ → ℕ → Option ℕ → Result ℕ IndexFault
nearest_from roc seq None = within_life (roc * 65536 + seq)
nearest_from roc seq (Some h) = nearest_index h seq

-- the index of a packet's number, estimated from the highest index of its source (3.3.1, appendix A)
abbrev pub index_in : Session → ℕ → ℕ → Result ℕ DropCause
index_in s ssrc seq = with_cause (nearest_from s.roc seq (highest_in s ssrc))

-- how many packets a key has served, of all sources
abbrev pub count_of : Session → Key → ℕ
count_of s k = count_by (λ d. d.key == k.number) s.done

-- a key has not served its life (9.2)
abbrev pub is_live : Session → Key → Bool
is_live s k = nat_lt (count_of s k) k.life

abbrev pub is_first : List Done → ℕ → Bool
is_first [] ssrc = true
is_first (d ∷ ds) ssrc = d.ssrc == ssrc

abbrev pub is_admitted : Admit → List Done → ℕ → Bool
is_admitted admit.Any done ssrc = true
is_admitted (admit.One own) done ssrc = own == ssrc
is_admitted admit.FirstSeen done ssrc = is_first done ssrc

-- the session admits the source
abbrev pub admits : Session → ℕ → Bool
admits s ssrc = is_admitted s.admit s.done ssrc

abbrev pub source_with : List ℕ → ℕ → List ℕ
source_with ssrcs ssrc = if is_in ssrcs ssrc then ssrcs else ssrcs ++ ssrc ∷ []

abbrev pub sources_from : List ℕ → List Done → List ℕ
sources_from ssrcs [] = ssrcs
sources_from ssrcs (d ∷ ds) = sources_from (source_with ssrcs d.ssrc) ds

-- the sources of what is done, each once, in the order in which they came
abbrev pub sources : List Done → List ℕ
sources done = sources_from [] done

-- the source is there, or one of 64 places is free
abbrev pub has_room : Session → ℕ → Bool
has_room s ssrc = is_in (sources s.done) ssrc || nat_lt (length (sources s.done)) 64

-- the session of this name with one thing more done, and every other as it was
abbrev pub with_done : Name → Done → Session → Session
with_done n d s = if same_name s.name n then record s { done = s.done ++ d ∷ [] } else s
