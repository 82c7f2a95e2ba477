-- What is asked of a link, and what is written.
use Rattle.std.specs.Prelude.{◌≡◌, ◌⊎◌, ℕ, ◌+◌, ◌*◌, zero, suc, Bool, true, false, List, [], ◌∷◌, ◌++◌, map}
use Rattle.std.specs.List.{AllByRecursion, flat_map}
use Rattle.sg_base.specs.declared.addresses.Address.{Address}
use Rattle.sg_edge.specs.Links.{LinkCall, Received, Came, Nothing, Failing}
use Rattle.sg_edge.specs.Links as links
use Rattle.sg_gateway.specs.Ports.{port_at}
use Rattle.sg_outcome.specs.declared.outcomes.Outcome.{Outcome}
use Rattle.sg_outcome.specs.OutcomeText.{outcome_line}
use Rattle.sg_outcome.specs.declared.outcomes.Outcome.TheVariants.{Made, Ended, Out, Unsent}
use Rattle.sg_trace.specs.Output.{IsPrefixOf}
use Rattle.sg_trace.specs.Trace.{ForReceive, Stop}

-- what an outcome asks of a link
pub data Ask : Type 0 where
  Bind : ℕ → Ask
  Unbind : ℕ → Ask
  Send : ℕ → Address → List ℕ → Ask

-- to bind a port, or to give it up
abbrev pub hold : Bool → ℕ → Ask
hold true port = Bind port
hold false port = Unbind port

-- so many ports in ascending order from this one on
abbrev pub ports_from : ℕ → ℕ → List ℕ
ports_from port zero = []
ports_from port (suc n) = port ∷ ports_from (port + 1) n

-- the ports of a call's media, four each, in ascending order
abbrev pub ports_of : ℕ → ℕ → List ℕ
ports_of slot media = ports_from (port_at slot 0 0) (4 * media)

-- What a relay does for one thing that is told: it asks this of the link, and then writes that line; or it sends a packet, and
-- writes that it is unsent where that fails.
pub data Act : Type 0 where
  Tells : List Ask → List ℕ → Act
  Sends : ℕ → Address → List ℕ → Act

abbrev pub asks_of : Act → List Ask
asks_of (Tells asks line) = asks
asks_of (Sends port to octets) = Send port to octets ∷ []

-- the ports of a call that is made are bound, those of one that has ended are given up, and a packet is sent
abbrev pub act_of : Outcome → Act
act_of (Made call slot media) = Tells (map (hold true) (ports_of slot media)) (outcome_line (Made call slot media))
act_of (Ended call slot media why) = Tells (map (hold false) (ports_of slot media)) (outcome_line (Ended call slot media why))
act_of (Out port to octets) = Sends port to octets
act_of other = Tells [] (outcome_line other)

-- the binds, unbinds and sends among the calls of a link
abbrev pub ask_in : LinkCall → List Ask
ask_in (links.Bind port ok) = Bind port ∷ []
ask_in (links.Unbind port ok) = Unbind port ∷ []
ask_in (links.Receive received) = []
ask_in (links.Send port to octets ok) = Send port to octets ∷ []

abbrev pub asks_in : List LinkCall → List Ask
asks_in calls = flat_map ask_in calls

-- how the sends among them went
abbrev pub sent_in : LinkCall → List Bool
sent_in (links.Bind port ok) = []
sent_in (links.Unbind port ok) = []
sent_in (links.Receive received) = []
sent_in (links.Send port to octets ok) = ok ∷ []

abbrev pub sends_in : List LinkCall → List Bool
sends_in calls = flat_map sent_in calls

-- the answers of the receives among them
abbrev pub receipt_in : LinkCall → List Received
receipt_in (links.Bind port ok) = []
receipt_in (links.Unbind port ok) = []
receipt_in (links.Receive received) = received ∷ []
receipt_in (links.Send port to octets ok) = []

abbrev pub receipts_in : List LinkCall → List Received
receipts_in calls = flat_map receipt_in calls

-- an act, and how its send went, where it is a packet
pub record Done : Type 0 where
  pub act : Act
  pub sent : Bool

-- the answer of its send
abbrev pub sent_as : Act → Bool → List Bool
sent_as (Tells asks line) ok = []
sent_as (Sends port to octets) ok = ok ∷ []

abbrev pub sent_of : Done → List Bool
sent_of d = sent_as d.act d.sent

-- What is written: of a packet that was sent nothing, of one whose send failed that it is unsent, and else the line.
abbrev pub written_as : Act → Bool → List ℕ
written_as (Tells asks line) ok = line
written_as (Sends port to octets) true = []
written_as (Sends port to octets) false = outcome_line (Unsent port to)

abbrev pub written_of : Done → List ℕ
written_of d = written_as d.act d.sent

-- The calls of the link are those that the acts ask for, each once and in order, and the octets are their lines, by how the sends
-- went.
pub record IsDone (acts : List Act) (calls : List LinkCall) (out : List ℕ) : Type 0 where
  pub done : List Done
  pub of_acts : map (λ d. d.act) done ≡ acts
  pub asked : asks_in calls ≡ flat_map asks_of acts
  pub sent : sends_in calls ≡ flat_map sent_of done
  pub written : out ≡ flat_map written_of done

-- What the act asks for was asked, and of what is written of it a prefix was.
pub record IsUntold (act : Act) (calls : List LinkCall) (out : List ℕ) : Type 0 where
  pub sent : Bool
  pub asked : asks_in calls ≡ asks_of act
  pub sends : sends_in calls ≡ sent_as act sent
  pub written : IsPrefixOf out (written_as act sent)

-- of the first of these, where there is one, all was asked and its line is untold; or nothing of it was done
abbrev pub IsAtNext : List Act → List LinkCall → List ℕ → Type 0
IsAtNext others calls out = ((calls ≡ []) × (out ≡ [])) ⊎ ((next : Act) × (rest : List Act) × (others ≡ next ∷ rest) × IsUntold next calls out)

-- The acts before the next one are done, what was asked and what was written alike. Of the next one nothing was
-- done, or what it asks for was asked and a prefix of its line was written.
pub record IsPart (acts : List Act) (calls : List LinkCall) (out : List ℕ) : Type 0 where
  pub done : List Act
  pub others : List Act
  pub acts_are : acts ≡ done ++ others
  pub before : List LinkCall
  pub last : List LinkCall
  pub calls_are : calls ≡ before ++ last
  pub lines : List ℕ
  pub piece : List ℕ
  pub out_is : out ≡ lines ++ piece
  pub whole : IsDone done before lines
  pub next : IsAtNext others last piece

-- the call went well, or is a send
abbrev pub IsGood : LinkCall → Type 0
IsGood (links.Bind port ok) = ok ≡ true
IsGood (links.Unbind port ok) = ok ≡ true
IsGood (links.Receive (Came port from octets)) = Unit {0}
IsGood (links.Receive Nothing) = Unit {0}
IsGood (links.Receive Failing) = ⊥
IsGood (links.Send port to octets ok) = Unit {0}

abbrev pub AreGood : List LinkCall → Type 0
AreGood calls = AllByRecursion IsGood calls

-- the last call is a bind, an unbind or a receive that failed, and no other call is
pub record EndsBadly (calls : List LinkCall) : Type 0 where
  pub before : List LinkCall
  pub last : LinkCall
  pub calls_are : calls ≡ before ++ last ∷ []
  pub good : AreGood before
  pub bad : ¬ IsGood last

-- Some of what the act asks for was asked, and the last of these calls failed.
pub record FailsIn (act : Act) (calls : List LinkCall) : Type 0 where
  pub asked : IsPrefixOf (asks_in calls) (asks_of act)
  pub bad : EndsBadly calls
  pub unsent : sends_in calls ≡ []
  pub unreceived : receipts_in calls ≡ []

-- The acts before the next one are done, and the lines that were written are theirs and no more. The link's calls
-- are theirs too, and behind them those that the next one asks for, up to one that failed.
pub record IsCutOff (acts : List Act) (calls : List LinkCall) (out : List ℕ) : Type 0 where
  pub done : List Act
  pub next : Act
  pub others : List Act
  pub acts_are : acts ≡ done ++ next ∷ others
  pub before : List LinkCall
  pub last : List LinkCall
  pub calls_are : calls ≡ before ++ last
  pub whole : IsDone done before out
  pub good : AreGood before
  pub fails : FailsIn next last

-- The last call is a receive that failed, and of the calls before it this holds.
abbrev pub AtFailedReceive : (List LinkCall → Type 0) → List LinkCall → Type 0
AtFailedReceive holds calls = (before : List LinkCall) × (calls ≡ before ++ links.Receive Failing ∷ []) × holds before

-- Whenever a receive was asked for, all that these acts ask for had been asked, and nothing else: the acts by the receives
-- before it.
abbrev pub AreInOrder : (List Received → List Act) → List LinkCall → Type 0
AreInOrder acts_by calls =
    (before after : List LinkCall) (x : Received) → calls ≡ before ++ links.Receive x ∷ after → asks_in before ≡ flat_map asks_of (acts_by (receipts_in before))

-- Whenever a receive was asked for, one was due: where the run stops by the receives before it, a receive comes next.
abbrev pub AreDue : (List Received → Stop) → List LinkCall → Type 0
AreDue stop_by calls = (before after : List LinkCall) (x : Received) → calls ≡ before ++ links.Receive x ∷ after → stop_by (receipts_in before) ≡ ForReceive
