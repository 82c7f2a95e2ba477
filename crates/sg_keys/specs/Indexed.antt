-- What the index of a ring tells.
use Rattle.std.specs.Prelude.{◌≡◌, ◌≤◌, ℕ, ◌+◌, Bool, nat_lt, if◌then◌else◌, List, [], ◌∷◌, length, take, Option, Some, None, Vec}
use Rattle.std.specs.BTreeMap.{BTreeMap, get_by}
use Rattle.std.specs.Cmp.Lexicographic.{slice_cmp}
use Rattle.std.specs.Ordering.{nat_cmp}
use Rattle.sg_base.specs.Octets.{same_octets}
use Rattle.sg_session.specs.Ring.{RingKey, same_secret}
use Rattle.sg_keys.specs.declared.part.Part.{Part}
use Rattle.sg_keys.specs.declared.part.Part.TheVariants as part
use Rattle.sg_keys.specs.declared.index.Index.{Index}
use Rattle.sg_keys.specs.declared.indexes.Indexes.{Indexes}

-- the octets of a part of a key
abbrev pub octets_of : Part → RingKey → List ℕ
octets_of part.Master k = k.master.key
octets_of part.Rtp k = k.rtp
octets_of part.Rtcp k = k.rtcp

-- the least number, from n on, of a key that passes a test
abbrev pub first_of : (RingKey → Bool) → ℕ → List RingKey → Option ℕ
first_of test n [] = None
first_of test n (r ∷ ring) = if test r then Some n else first_of test (n + 1) ring

-- of a key whose part has these octets
abbrev pub first_with : Part → List ℕ → ℕ → List RingKey → Option ℕ
first_with p octets n ring = first_of (λ r. same_octets (octets_of p r) octets) n ring

-- of a key whose part is this secret, which isn't empty
abbrev pub first_secret : Part → List ℕ → ℕ → List RingKey → Option ℕ
first_secret p secret n ring = first_of (λ r. same_secret (octets_of p r) secret) n ring

-- what a map from octets has at these
abbrev pub at_octets : {Y : Type 0} → BTreeMap (Vec ℕ Y) ℕ → List ℕ → Option ℕ
at_octets map octets = get_by (λ k. slice_cmp nat_cmp octets k.items) map

-- The index is one of this part, and tells the least number of each octets among the first keys of the
-- ring, as many as it counts.
pub record IsIndexOf (p : Part) (index : Index) (ring : List RingKey) : Type 0 where
  pub part : index.part ≡ p
  pub within : index.count ≤ length ring
  pub finds : (octets : List ℕ) → at_octets index.numbers octets ≡ first_with p octets 0 (take index.count ring)

-- an index for each part
pub record AreIndexesOf (indexes : Indexes) (ring : List RingKey) : Type 0 where
  pub master : IsIndexOf part.Master indexes.master ring
  pub rtp : IsIndexOf part.Rtp indexes.rtp ring
  pub rtcp : IsIndexOf part.Rtcp indexes.rtcp ring

-- the lesser of two numbers, as far as there are some
abbrev pub least : Option ℕ → Option ℕ → Option ℕ
least None b = b
least (Some a) None = Some a
least (Some a) (Some b) = if nat_lt b a then Some b else Some a
