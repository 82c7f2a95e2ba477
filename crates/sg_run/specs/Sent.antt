-- What a relay sends: the packets that are told as put out, and nothing else.
use Rattle.std.specs.Prelude.{◌≡◌, ◌⊎◌, ℕ, List, [], ◌∷◌, ◌++◌}
use Rattle.std.specs.List.{flat_map}
use Rattle.sg_base.specs.declared.addresses.Address.{Address}
use Rattle.sg_edge.specs.Links.{Failing, LinkCall, Received}
use Rattle.sg_edge.specs.Links as links
use Rattle.sg_outcome.specs.declared.outcomes.Outcome.{Outcome}
use Rattle.sg_outcome.specs.declared.outcomes.Outcome.TheVariants.{Out}
use Rattle.sg_pairs.specs.Bridged.{Bridging}
use Rattle.sg_pairs.specs.declared.outcomes.BridgeOutcome.{BridgeOutcome}
use Rattle.sg_pairs.specs.declared.outcomes.BridgeOutcome.TheVariants as tells
use Rattle.sg_passages.specs.Passages.{Passage}
use Rattle.sg_relay.specs.Asked.{receipts_in}
use Rattle.sg_trace.specs.Output.{IsPrefixOf}
use Rattle.sg_trace.specs.declared.status.Status.{Status}
use Rattle.sg_trace.specs.declared.status.Status.TheVariants.{Link, NoMemory, Read, Write}

-- the port that it leaves by, the address that it goes to, and its octets
pub record Packet : Type 0 where
  pub port : ℕ
  pub to : Address
  pub octets : List ℕ

-- the packet that a call of the link sends
abbrev pub sent_by : LinkCall → List Packet
sent_by (links.Send port to octets ok) = record { port = port; to = to; octets = octets } ∷ []
sent_by other = []

abbrev pub sent_in : List LinkCall → List Packet
sent_in calls = flat_map sent_by calls

-- the packet that is told as put out
abbrev pub put_out : Outcome → List Packet
put_out (Out port to octets) = record { port = port; to = to; octets = octets } ∷ []
put_out other = []

abbrev pub put_out_of_bridge : BridgeOutcome → List Packet
put_out_of_bridge (tells.Table o) = put_out o
put_out_of_bridge other = []

-- those of passages, and of a bridge's run
abbrev pub put_out_in : List Passage → List Packet
put_out_in passages = flat_map put_out (flat_map (λ p. p.told) passages)

abbrev pub put_out_in_bridge : List Bridging → List Packet
put_out_in_bridge bridgings = flat_map put_out_of_bridge (flat_map (λ b. b.told) bridgings)

-- At its end a relay has sent all these packets, or the first of them where the outside failed or memory ran out: a receive that
-- failed is its last call, or it was cut off in between.
abbrev pub HasSent : Status → List LinkCall → List Packet → Type 0
HasSent Read calls told = IsPrefixOf (sent_in calls) told
HasSent Write calls told = IsPrefixOf (sent_in calls) told
HasSent NoMemory calls told = IsPrefixOf (sent_in calls) told
HasSent Link calls told = ((before : List LinkCall) × (calls ≡ before ++ links.Receive Failing ∷ [])) ⊎ IsPrefixOf (sent_in calls) told
HasSent other calls told = sent_in calls ≡ told

-- Whenever a relay received, it had sent the packets that are told as put out up to there, in order, each once, from its port, to
-- its address and with its octets, and nothing else. So it is at its end.
pub record SendsAsTold (status : Status) (calls : List LinkCall) (told_by : List Received → List Packet) : Type 0 where
  pub at_receives : (before after : List LinkCall) (x : Received) → calls ≡ before ++ links.Receive x ∷ after → sent_in before ≡ told_by (receipts_in before)
  pub at_end : HasSent status calls (told_by (receipts_in calls))
