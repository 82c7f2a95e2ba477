-- A session stays what it was made, whatever it has done; and how one that is keyed manually is made.
use Rattle.std.specs.Prelude.{◌≡◌, ◌⊎◌, ℕ, ◌+◌, List, [], ◌∷◌, ◌++◌, map, not, Bool, true, Some, None}
use Rattle.std.specs.List.{All, Any}
use Rattle.sg_agreement.specs.Manual.{ManualCall}
use Rattle.sg_base.specs.Keys.{Master}
use Rattle.sg_base.specs.Suites.{is_raw}
use Rattle.sg_base.specs.declared.addresses.CallId.{CallId}
use Rattle.sg_base.specs.declared.addresses.Kind.{Kind}
use Rattle.sg_base.specs.declared.addresses.Kind.TheVariants.{Rtp, Rtcp}
use Rattle.sg_session.specs.Session.{Session}
use Rattle.sg_session.specs.declared.names.Direction.{Direction}
use Rattle.sg_session.specs.declared.names.Direction.TheVariants.{Opening, Sealing}
use Rattle.sg_gateway.specs.Runs.{Turn, turns, after_turn, world_after}
use Rattle.sg_gateway.specs.Signals.{Answered, Manual}
use Rattle.sg_gateway.specs.Step.{Event, Signalled}
use Rattle.sg_gateway.specs.World.{Call, World, call_of, empty}

-- ---- sessions last

-- in this turn an answer made the call's new generation
abbrev pub IsAnsweredIn : Turn → CallId → Call → Type 0
IsAnsweredIn u id d =
    (noise : List ℕ) × (text : List ℕ) × (c : Call) × (u.event ≡ Signalled (Answered id noise text)) × (call_of u.before id ≡ Some c) × (d.generations ≡ c.generations + 1)

-- in this turn the call was made and keyed manually
abbrev pub IsManualIn : Turn → CallId → Type 0
IsManualIn u id = (h : ManualCall) × (h.id ≡ id) × (u.event ≡ Signalled (Manual h)) × (call_of u.before id ≡ None)

-- In this turn the call of that id got the session, in its new generation; what the session is now, it was then, but for what it
-- has done.
pub record IsMadeIn (id : CallId) (s : Session) (u : Turn) : Type 0 where
  pub call : Call
  pub there : call_of (after_turn u) id ≡ Some call
  pub keyed : IsAnsweredIn u id call ⊎ IsManualIn u id
  pub made : Session
  pub held : Any (λ x. x ≡ made) call.sessions
  pub current : made.name.owner.generation + 1 ≡ call.generations
  pub same : s ≡ record made { done = s.done }

abbrev pub WereMadeIn : List Turn → World → Type 0
WereMadeIn earlier w = All (λ c. All (λ s. Any (IsMadeIn c.id s) earlier) c.sessions) w.calls

-- in the world before each event, and in the last one
pub record SessionsLast (events : List Event) : Type 0 where
  pub before : (earlier later : List Turn) (t : Turn) → turns events ≡ earlier ++ t ∷ later → WereMadeIn earlier t.before
  pub last : WereMadeIn (turns events) (world_after empty events)

-- ---- a call that is keyed manually

abbrev pub key_towards : Direction → ManualCall → Master
key_towards Opening h = h.from_peer
key_towards Sealing h = h.to_peer

-- RTP is encrypted but in the raw form, and RTCP always
abbrev pub is_encrypted : Kind → Master → Bool
is_encrypted Rtp m = not (is_raw m.suite)
is_encrypted Rtcp m = true

-- the session is under the key of its direction, at the line's rollover and between its two addresses
pub record IsOfManual (h : ManualCall) (s : Session) : Type 0 where
  pub masters : map (λ k. k.master) s.keys ≡ key_towards s.name.owner.direction h ∷ []
  pub encrypts : s.encrypts ≡ is_encrypted s.name.kind (key_towards s.name.owner.direction h)
  pub roc : s.roc ≡ h.roc
  pub secure : s.secure ≡ h.secure
  pub plain : s.plain ≡ h.plain

-- after a call is keyed manually, each of its sessions is as the line says
abbrev pub ManualIsAsTold : Turn → Type 0
ManualIsAsTold t =
    (h : ManualCall) (d : Call) → t.event ≡ Signalled (Manual h) → call_of t.before h.id ≡ None → call_of (after_turn t) h.id ≡ Some d → All (IsOfManual h) d.sessions

abbrev pub ManualCallsAreAsTold : List Event → Type 0
ManualCallsAreAsTold events = All ManualIsAsTold (turns events)
