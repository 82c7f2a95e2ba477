-- The weaving of a relay: what the lines of its script, its readings and its receives give, in order.
use Rattle.std.specs.Prelude.{ℕ, ◌+◌, max, nat_lt, nat_le, if◌then◌else◌, List, [], ◌∷◌, ◌++◌, length, Option, Some, None, option_map, Result, Ok, Err}
use Rattle.sg_base.specs.declared.addresses.Address.{Address}
use Rattle.sg_base.specs.declared.faults.ScriptFault.{ScriptFault}
use Rattle.sg_edge.specs.Links.{Received, Came, Nothing, Failing}
use Rattle.sg_lines.specs.ScriptLines.{lines_of}
use Rattle.sg_trace.specs.Course.{Given}
use Rattle.sg_trace.specs.Trace.{Outside, Spelling, Stop, AtEnd, AtFault, ForDraw, ForReading, ForReceive, moment_of, spelled_at}

-- How a relay's script is read: which octets are the n-th line of a version, and of which version the lines behind it are; for how
-- many milliseconds the relay waits at a line, from its beginning on, and what another line gives of the noise that comes; and what
-- a tick gives, and a datagram that comes.
pub record Weaves (L D : Type 0) : Type 0 where
  pub spelled : Spelling L
  pub followed : ℕ → L → ℕ
  pub waits : L → Option ℕ
  pub gives : L → List ℕ → Option (Given D)
  pub ticks : ℕ → List D
  pub arrives : ℕ → Address → List ℕ → List D

abbrev pub weaves_of : {L D : Type 0} → Spelling L → (ℕ → L → ℕ) → (L → Option ℕ) → (L → List ℕ → Option (Given D)) → (ℕ → List D) → (ℕ → Address → List ℕ → List D) → Weaves L D
weaves_of spelled followed waits gives ticks arrives = record { spelled = spelled; followed = followed; waits = waits; gives = gives; ticks = ticks; arrives = arrives }

-- the deeds of a run, where they end, and what of the outside they leave
pub record Woven (D : Type 0) : Type 0 where
  pub deeds : List D
  pub stop : Stop
  pub left : Outside

abbrev pub stopped : {D : Type 0} → Stop → Outside → Woven D
stopped stop o = record { deeds = []; stop = stop; left = o }

abbrev pub with_deeds : {D : Type 0} → List D → Woven D → Woven D
with_deeds prefix c = record c { deeds = prefix ++ c.deeds }

-- what the rest of a run makes of the greatest reading so far and of what was not taken yet
abbrev pub Later : Type 0 → Type 0
Later D = ℕ → Outside → Woven D

-- ---- turns

-- a moment greater than all before is a tick
abbrev pub ticks_at : {L D : Type 0} → Weaves L D → ℕ → ℕ → List D
ticks_at w top moment = if nat_lt top moment then w.ticks moment else []

abbrev pub ticks_of : {L D : Type 0} → Weaves L D → ℕ → ℕ → List D
ticks_of w top reading = ticks_at w top (moment_of reading)

-- a receive that gave a datagram is its arrival
abbrev pub arrivals_of : {L D : Type 0} → Weaves L D → Received → List D
arrivals_of w (Came port from octets) = w.arrives port from octets
arrivals_of w Nothing = []
arrivals_of w Failing = []

-- A wait: turns are taken until a reading is at least this. A turn is one reading, then one receive.
abbrev pub waited : {L D : Type 0} → Weaves L D → ℕ → Later D → ℕ → List ℕ → List Received → List ℕ → Woven D
waited w until later top [] receipts draws = stopped ForReading (record { readings = []; receipts = receipts; draws = draws })
waited w until later top (r ∷ rs) [] draws = with_deeds (ticks_of w top r) (stopped ForReceive (record { readings = rs; receipts = []; draws = draws }))
waited w until later top (r ∷ rs) (x ∷ xs) draws =
    with_deeds (ticks_of w top r ++ arrivals_of w x)
    (if nat_le until (moment_of r) then later (max top (moment_of r)) (record { readings = rs; receipts = xs; draws = draws })
    else waited w until later (max top (moment_of r)) rs xs draws)

-- ---- lines

-- what a line gives, once it has its noise, and what follows
abbrev pub behind_given : {D : Type 0} → Option (Given D) → Later D → Later D
behind_given None later top o = stopped ForDraw o
behind_given (Some g) later top o = with_deeds g.deeds (later top (record o { draws = g.left }))

abbrev pub waited_or_given : {L D : Type 0} → Weaves L D → L → Option ℕ → Later D → Later D
waited_or_given w l (Some until) later top o = waited w until later top o.readings o.receipts o.draws
waited_or_given w l None later top o = behind_given (w.gives l o.draws) later top o

-- until when a relay that began at this moment waits at the line
abbrev pub until_at : {L D : Type 0} → Weaves L D → ℕ → L → Option ℕ
until_at w began l = option_map (λ wait. began + wait) (w.waits l)

abbrev pub said : {L D : Type 0} → Weaves L D → ℕ → L → Later D → Later D
said w began l later top o = waited_or_given w l (until_at w began l) later top o

-- a line, and what follows it in the script's version
abbrev pub behind_line : {L D : Type 0} → Weaves L D → ℕ → ℕ → ℕ → Result L ScriptFault → (ℕ → Later D) → Later D
behind_line w began version n (Err fault) later top o = stopped (AtFault n fault) o
behind_line w began version n (Ok l) later top o = said w began l (later (w.followed version l)) top o

-- the lines from the n-th on, which begin at this offset, in a script of that version
abbrev pub woven_from : {L D : Type 0} → Weaves L D → ℕ → ℕ → ℕ → ℕ → List (List ℕ) → Later D
woven_from w began version n at [] top o = stopped AtEnd o
woven_from w began version n at (l ∷ ls) top o = behind_line w began version n (spelled_at w.spelled version n at l) (λ v. woven_from w began v (n + 1) (at + length l) ls) top o

-- The weaving of these octets, with what was taken of the outside: the first reading is a tick, then come the lines.
abbrev pub woven : {L D : Type 0} → Weaves L D → List ℕ → List ℕ → List Received → List ℕ → Woven D
woven w octets [] receipts draws = stopped ForReading (record { readings = []; receipts = receipts; draws = draws })
woven w octets (r ∷ rs) receipts draws =
    with_deeds (w.ticks (moment_of r))
    (woven_from w (moment_of r) 1 1 0 (lines_of octets) (moment_of r) (record { readings = rs; receipts = receipts; draws = draws }))
