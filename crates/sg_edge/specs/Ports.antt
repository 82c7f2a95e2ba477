-- The ports that a link has bound, and those that wait to be asked.
use Rattle.std.specs.Prelude.{◌≡◌, ◌≢◌, ◌==◌, ◌<◌, ◌+◌, ◌*◌, ⊤, ℕ, nat_lt, if◌then◌else◌, length, Bool, false, not, cond, List, [], ◌∷◌, ◌++◌, count_by, drop, filter, take, Option, Some, None, Result, Ok, Err, option_map}
use Rattle.std.specs.BTreeMap.{BTreeMap, get}
use Rattle.std.specs.Ordering.{nat_cmp}
use Rattle.mio.specs.declared.net.udp.UdpSocket.{UdpSocket}
use Rattle.sg_base.specs.declared.Failed.{Failed}
use Rattle.sg_edge.specs.declared.link.Receipt.{Receipt}
use Rattle.sg_edge.specs.declared.link.Receipt.TheVariants as receipts
use Rattle.sg_edge.specs.declared.ports.Bound.{Bound}

-- the ports that are bound, each with its socket
abbrev pub Sockets : Type 0
Sockets = BTreeMap ℕ Bound

abbrev pub socket_at : Sockets → ℕ → Option UdpSocket
socket_at bound port = option_map (λ b. b.socket) (get nat_cmp bound port)

-- whether a port is bound and has its mark
abbrev pub is_marked : Option Bound → Bool
is_marked (Some b) = b.is_waiting
is_marked None = false

-- how often a port stands in the list
abbrev pub times : ℕ → List ℕ → ℕ
times port waiting = count_by (λ other. other == port) waiting

-- A bound port that has its mark stands among the waiting ones once, and no other port does.
abbrev pub IsMarkedWaiting : Sockets → List ℕ → ℕ → Type 0
IsMarkedWaiting bound waiting port = times port waiting ≡ cond (is_marked (get nat_cmp bound port)) 1 0

-- the same ports are bound, with the same sockets
abbrev pub AreSame : Sockets → Sockets → Type 0
AreSame old new = (port : ℕ) → socket_at new port ≡ socket_at old port

-- the same but for this port
abbrev pub AreSameBut : ℕ → Sockets → Sockets → Type 0
AreSameBut port old new = (other : ℕ) → other ≢ port → socket_at new other ≡ socket_at old other

-- the list without a port
abbrev pub without : ℕ → List ℕ → List ℕ
without port waiting = filter (λ other. not (other == port)) waiting

-- the list with a port at its end, where that is bound and doesn't wait yet
abbrev pub joined : ℕ → Option Bound → List ℕ → List ℕ
joined port (Some b) waiting = cond b.is_waiting waiting (waiting ++ port ∷ [])
joined port None waiting = waiting

-- the list with its first at its end
abbrev pub turned : List ℕ → List ℕ
turned waiting = drop 1 waiting ++ take 1 waiting

-- How many datagrams came since a port last went behind the others, when one more has come. The sixteenth ends the turn.
abbrev pub row_behind : ℕ → ℕ
row_behind row = if nat_lt (row + 1) 16 then row + 1 else 0

-- The first of the list gave a datagram. It stays the first, and after the sixteenth it is the last.
abbrev pub served : ℕ → List ℕ → List ℕ
served row waiting = if nat_lt (row + 1) 16 then waiting else turned waiting

-- The first of the list was asked. Where it gave a datagram, its turn goes on, up to the sixteenth; where it failed, it is
-- the last now; where it had none, it waits no longer.
abbrev pub IsAsked : Result Receipt Failed → (row : ℕ) → List ℕ → (row' : ℕ) → List ℕ → Type 0
IsAsked (Ok (receipts.Got port from)) row old row' new = (rest : List ℕ) × (old ≡ port ∷ rest) × (new ≡ served row (port ∷ rest)) × (row' ≡ row_behind row)
IsAsked (Ok receipts.Nothing) row old row' new = (new ≡ drop 1 old) × (row' ≡ row)
IsAsked (Err e) row old row' new = (new ≡ turned old) × (row' ≡ 0)

-- The list was asked in turn. Those before the first that gave a datagram wait no longer, and its turn goes on, up to the
-- sixteenth; where none gave one, none waits.
abbrev pub AreAsked : Result Receipt Failed → (row : ℕ) → List ℕ → (row' : ℕ) → List ℕ → Type 0
AreAsked (Ok (receipts.Got port from)) row old row' new =
    (before rest : List ℕ) × (old ≡ before ++ port ∷ rest) × (new ≡ served row (port ∷ rest)) × (row' ≡ row_behind row)
AreAsked (Ok receipts.Nothing) row old row' new = (new ≡ []) × (row' ≡ row)
AreAsked (Err e) row old row' new = (before rest : List ℕ) × (old ≡ before ++ rest) × (new ≡ turned rest) × (row' ≡ 0)

-- A port that stood behind these stands behind those now, and fewer datagrams can come of others before its turn: 16 of
-- each port before it, less those that came since a port last went behind the others.
abbrev pub IsNearer : (row : ℕ) → List ℕ → (row' : ℕ) → List ℕ → Type 0
IsNearer row ahead row' ahead' = 16 * length ahead' + row < 16 * length ahead + row'

-- No port starves: each port that waited behind these and one more waits still, nearer to its turn.
abbrev pub AllComeNearer : List ℕ → (row : ℕ) → List ℕ → (row' : ℕ) → List ℕ → Type 0
AllComeNearer before row old row' new = (q : ℕ) (ahead behind : List ℕ) → old ≡ ahead ++ q ∷ behind → length before < length ahead
    → (ahead' behind' : List ℕ) × (new ≡ ahead' ++ q ∷ behind') × IsNearer row ahead row' ahead'

-- What a receive leaves. Of the ports that waited, and those that came behind them, the ones before the port that gave a
-- datagram were asked and wait no longer; its turn goes on, up to the sixteenth; those behind it come nearer to theirs.
-- Where none gave one, none waits.
abbrev pub IsTaken : Result Receipt Failed → (row : ℕ) → List ℕ → (row' : ℕ) → List ℕ → Type 0
IsTaken (Ok (receipts.Got port from)) row old row' new =
    (more before rest : List ℕ) × (old ++ more ≡ before ++ port ∷ rest) × (new ≡ served row (port ∷ rest)) × (row' ≡ row_behind row) × AllComeNearer before row old row' new
IsTaken (Ok receipts.Nothing) row old row' new = (new ≡ []) × (row' ≡ row)
IsTaken (Err e) row old row' new = ⊤
