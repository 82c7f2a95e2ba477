-- No key is forgotten: the ring of all keys that came into use only grows.
use Rattle.std.specs.Prelude.{◌≡◌, List, ◌++◌}
use Rattle.std.specs.List.{All}
use Rattle.sg_session.specs.Ring.{Installed}
use Rattle.sg_gateway.specs.Runs.{Turn, turns, after_turn}
use Rattle.sg_gateway.specs.Step.{Event}

-- the ring after the event is the one before it, with keys behind it that are new or none
abbrev pub RingGrows : Turn → Type 0
RingGrows t = (new : List Installed) × ((after_turn t).books.ring ≡ t.before.books.ring ++ new)

abbrev pub NoKeyIsForgotten : List Event → Type 0
NoKeyIsForgotten events = All RingGrows (turns events)
