-- What a stream says of the list of all indices that are done of its source.
use Rattle.std.specs.Prelude.{◌≡◌, ℕ, ◌<◌, ◌^◌, List, [], ◌∷◌, ◌++◌}
use Rattle.sg_base.specs.declared.addresses.Kind.{Kind}
use Rattle.sg_base.specs.declared.addresses.Kind.TheVariants.{Rtp}
use Rattle.sg_replay.specs.Freshness.{highest_of}
use Rattle.sg_replay.specs.Seen.{StandsFor, freshness_at}
use Rattle.sg_replay.specs.declared.seen.Freshness.TheVariants.{New}
use Rattle.sg_states.specs.StreamValues.{StreamValue}

-- the stream is of this kind and this source
pub record IsStreamOf (stream : StreamValue) (kind : Kind) (ssrc : ℕ) : Type 0 where
  pub same_kind : stream.kind ≡ kind
  pub same_source : stream.ssrc ≡ ssrc

-- A stream stands for a list of indices: its highest and its replay list are those of the list. Only RTP
-- has a starting rollover.
pub record StreamStands (stream : StreamValue) (ssrc roc window : ℕ) (indices : List ℕ) : Type 0 where
  pub source : stream.ssrc ≡ ssrc
  pub start : stream.kind ≡ Rtp → stream.roc ≡ roc
  pub top : stream.highest ≡ highest_of indices
  pub seen : StandsFor stream.seen window indices

-- whatever list of indices it stands for
abbrev pub ForIndicesOf : StreamValue → (ℕ → ℕ → List ℕ → Type 0) → Type 0
ForIndicesOf stream is = (ssrc roc window : ℕ) (indices : List ℕ) → StreamStands stream ssrc roc window indices → is roc window indices

-- it then stands for that list with this index at its end
abbrev pub TakesIn : StreamValue → StreamValue → ℕ → Type 0
TakesIn old new index = (ssrc roc window : ℕ) (indices : List ℕ) → StreamStands old ssrc roc window indices → StreamStands new ssrc roc window (indices ++ index ∷ [])

-- an index that may be marked
pub record IsOpenPlace (stream : StreamValue) (index : ℕ) : Type 0 where
  pub bound : index < 2 ^ 48
  pub new : freshness_at stream.seen index ≡ New
