-- What a line says that joins two calls or parts one, wherever it stands in a script.
use Rattle.std.specs.Prelude.{◌≡◌, ◌≤◌, ◌<◌, ◌+◌, ◌^◌, ℕ, List, ◌∷◌, ◌++◌, length, decimal, codes, None}
use Rattle.sg_base.specs.declared.addresses.CallId.{CallId}
use Rattle.sg_bridge.specs.Bridge.{bridge_trace}
use Rattle.sg_bridge.specs.Bridge as bridges
use Rattle.sg_edge.specs.Links.{Received}
use Rattle.sg_lines.specs.declared.lines.Line.TheVariants as scripts
use Rattle.sg_pairs.specs.Bridged.{Said, Joins, Parts}
use Rattle.sg_pairs.specs.declared.lines.BridgeLine.{BridgeLine}
use Rattle.sg_pairs.specs.declared.lines.BridgeLine.TheVariants as lines
use Rattle.sg_relay.specs.Joined.{weaves}
use Rattle.sg_relay.specs.Joined as joined
use Rattle.sg_relay.specs.Weaving.{Woven, woven}
use Rattle.sg_trace.specs.Course.{Course}
use Rattle.sg_trace.specs.Trace.{AtEnd}
use Rattle.sg_run.specs.Captures.{AreLines}

-- the line that joins these two, and the one that parts this call
abbrev pub join_line : CallId → CallId → List ℕ
join_line first second = codes "join " ++ decimal first.0 ++ codes " " ++ decimal second.0 ++ codes "\n"

abbrev pub part_line : CallId → List ℕ
part_line call = codes "part " ++ decimal call.0 ++ codes "\n"

-- Right behind what is said in front comes this, and all else stays.
pub record IsPutBehind (said : Said) (front all longer : List Said) : Type 0 where
  pub later : List Said
  pub without : all ≡ front ++ later
  pub within : longer ≡ front ++ said ∷ later

-- It is played to its end as well, and leaves as much of what was drawn.
pub record PlaysWith (said : Said) (front all longer : Course Said) : Type 0 where
  pub says : IsPutBehind said front.deeds all.deeds longer.deeds
  pub stop : longer.stop ≡ AtEnd
  pub left : longer.left ≡ all.left

-- the same of a relay, which leaves as much of all that it was given
pub record RelaysWith (said : Said) (front all longer : Woven Said) : Type 0 where
  pub says : IsPutBehind said front.deeds all.deeds longer.deeds
  pub stop : longer.stop ≡ AtEnd
  pub left : longer.left ≡ all.left

-- A line that a bridge hears so: between the lines of any script that is played to its end it says that and nothing else, and what
-- stands behind it is played as without it.
abbrev pub IsHeard : List ℕ → Said → Type 0
IsHeard line said = (lines rest draws : List ℕ) → AreLines lines → length lines + length line + length rest ≤ 2 ^ 30 → (bridge_trace (lines ++ rest) draws).stop ≡ AtEnd
    → PlaysWith said (bridge_trace lines draws) (bridge_trace (lines ++ rest) draws) (bridge_trace (lines ++ line ++ rest) draws)

-- one that a relay hears so, whose calls may be joined, whatever it is given
abbrev pub IsHeardByRelay : List ℕ → Said → Type 0
IsHeardByRelay line said = (lines rest readings : List ℕ) (receipts : List Received) (draws : List ℕ) → AreLines lines → length lines + length line + length rest ≤ 2 ^ 30
    → (woven weaves (lines ++ rest) readings receipts draws).stop ≡ AtEnd
    → RelaysWith said (woven weaves lines readings receipts draws) (woven weaves (lines ++ rest) readings receipts draws) (woven weaves (lines ++ line ++ rest) readings receipts draws)

-- Every line that joins or parts is heard as just that.
pub record LinesAreHeard (is_heard : List ℕ → Said → Type 0) : Type 0 where
  pub joins : (first second : CallId) → first.0 < 2 ^ 32 → second.0 < 2 ^ 32 → is_heard (join_line first second) (Joins first second)
  pub parts : (call : CallId) → call.0 < 2 ^ 32 → is_heard (part_line call) (Parts call)

-- a line without the moment that a datagram may have in version 2
abbrev pub without_moment : BridgeLine → BridgeLine
without_moment (lines.Script (scripts.DatagramAt now port from octets)) = lines.Script (scripts.Datagram port from octets)
without_moment other = other

-- What a relay is given by a line at which it doesn't wait is what a bridge is given by it, but for that moment.
abbrev pub RelaysHearAsBridges : Type 0
RelaysHearAsBridges = (l : BridgeLine) (draws : List ℕ) → joined.waits l ≡ None → joined.gives l draws ≡ bridges.gives (without_moment l) draws
