-- No key serves past its life (RFC 3711, 9.2), counted in the journal.
use Rattle.std.specs.Prelude.{◌≡◌, ℕ, ◌<◌, ◌≤◌, ◌&&◌, ◌==◌, List, ◌∷◌, ◌++◌, count_by}
use Rattle.std.specs.List.{All}
use Rattle.sg_session.specs.Session.{same_name}
use Rattle.sg_gateway.specs.Datagrams.{Entry}
use Rattle.sg_gateway.specs.Runs.{journal}
use Rattle.sg_gateway.specs.Step.{Event}

-- how many of these entries are of this one's session, under the key of its number
abbrev pub served : List Entry → Entry → ℕ
served entries e = count_by (λ a. same_name e.session a.session && (a.key.number == e.key.number)) entries

-- when a packet is opened or sealed, its key has served fewer of that session than its life
abbrev pub EachKeyServesItsLife : List Event → Type 0
EachKeyServesItsLife events = (earlier later : List Entry) (e : Entry) → journal events ≡ earlier ++ e ∷ later → served earlier e < e.key.life

-- and by the end of the run it has served no more than its life
abbrev pub NoKeyIsOverspent : List Event → Type 0
NoKeyIsOverspent events = All (λ e. served (journal events) e ≤ e.key.life) (journal events)
