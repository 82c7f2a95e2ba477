-- Which legs are muxed: by the signals, in order, and by what each of them told.
use Rattle.std.specs.Prelude.{ℕ, Bool, true, false, if◌then◌else◌, List, [], ◌∷◌, map, set, replicate, Option, Some, None, option_map}
use Rattle.sg_base.specs.declared.addresses.CallId.{CallId}
use Rattle.sg_base.specs.declared.addresses.Side.TheVariants.{Secure}
use Rattle.sg_gateway.specs.Signals.{Signal, Tick, Psk, Manual, Offered, Answered, Reject, Bye}
use Rattle.sg_gateway.specs.World.{same_id}
use Rattle.sg_outcome.specs.declared.outcomes.Outcome.{Outcome}
use Rattle.sg_outcome.specs.declared.outcomes.Outcome.TheVariants.{Made, Live, Sdp, Refused, Ended, Out, Dropped, Unsent}
use Rattle.sg_mux.specs.Texts.{answers_port, both, no_marks, offers_mux, with_mux_lines}
use Rattle.sg_mux.specs.declared.known.Known.{Known}

-- ---- what is known of calls, by slot

-- of no slot a call is known
abbrev pub nobody : List (Option Known)
nobody = replicate 256 None

-- a call that was made: no offer of it has the line, and no leg is muxed
abbrev pub fresh : CallId → Known
fresh id = record { id = id; offered = no_marks; side = Secure; muxed = no_marks }

-- a change at the call of this id
abbrev pub changed_at : CallId → (Known → Known) → Option Known → Option Known
changed_at id change known = option_map (λ k. if same_id k.id id then change k else k) known

abbrev pub with_change : CallId → (Known → Known) → List (Option Known) → List (Option Known)
with_change id change calls = map (changed_at id change) calls

-- ---- what an outcome changes of a signal that is no answer; an offer's text is told where the offer is accepted

abbrev pub noted : List Bool → List (Option Known) → Outcome → List (Option Known)
noted marks calls (Made id slot media) = set calls slot (Some (fresh id))
noted marks calls (Ended id slot media why) = set calls slot None
noted marks calls (Sdp id side text) = with_change id (λ k. record k { offered = marks }) calls
noted marks calls (Live id) = calls
noted marks calls (Refused id cause) = calls
noted marks calls (Out port to octets) = calls
noted marks calls (Dropped port cause) = calls
noted marks calls (Unsent port to) = calls

abbrev pub noted_all : List Bool → List (Option Known) → List Outcome → List (Option Known)
noted_all marks calls [] = calls
noted_all marks calls (o ∷ os) = noted_all marks (noted marks calls o) os

-- ---- what an answer's outcome changes, and the outcome as it is told

-- the marks of the offer that the call of this id accepted last
abbrev pub offered_by : CallId → List (Option Known) → List Bool
offered_by id [] = no_marks
offered_by id (None ∷ others) = offered_by id others
offered_by id (Some k ∷ others) = if same_id k.id id then k.offered else offered_by id others

-- the media that this text of an answer muxes, of those whose offer has the line
abbrev pub agreed : List ℕ → List Bool → List Bool
agreed text offered = both (answers_port text) offered

pub record Settling : Type 0 where
  pub calls : List (Option Known)
  pub told : Outcome

-- The text of an accepted answer goes to the side that offered. It muxes media of its call anew, there, and gets the line
-- in each of them.
abbrev pub settled : List (Option Known) → Outcome → Settling
settled calls (Sdp id side text) = record {
  calls = with_change id (λ k. record k { side = side; muxed = agreed text k.offered }) calls;
  told = Sdp id side (with_mux_lines text (agreed text (offered_by id calls)));
}
settled calls (Made id slot media) = record { calls = calls; told = Made id slot media }
settled calls (Live id) = record { calls = calls; told = Live id }
settled calls (Refused id cause) = record { calls = calls; told = Refused id cause }
settled calls (Ended id slot media why) = record { calls = calls; told = Ended id slot media why }
settled calls (Out port to octets) = record { calls = calls; told = Out port to octets }
settled calls (Dropped port cause) = record { calls = calls; told = Dropped port cause }
settled calls (Unsent port to) = record { calls = calls; told = Unsent port to }

-- ---- what a signal changes, and what is told of it

pub record Muxing : Type 0 where
  pub calls : List (Option Known)
  pub told : List Outcome

-- an answer's text is the first that is told of it
abbrev pub settled_answer : List (Option Known) → List Outcome → Muxing
settled_answer calls [] = record { calls = calls; told = [] }
settled_answer calls (o ∷ others) = record { calls = (settled calls o).calls; told = (settled calls o).told ∷ others }

-- of another signal all is told as it is
abbrev pub followed : List Bool → List (Option Known) → List Outcome → Muxing
followed marks calls told = record { calls = noted_all marks calls told; told = told }

-- After a signal of which the table told these outcomes: what is known, and what is told in their place.
abbrev pub signalled : Signal → List (Option Known) → List Outcome → Muxing
signalled (Offered id way noise text) calls told = followed (offers_mux text) calls told
signalled (Answered id noise text) calls told = settled_answer calls told
signalled (Tick now) calls told = followed no_marks calls told
signalled (Psk pair) calls told = followed no_marks calls told
signalled (Manual h) calls told = followed no_marks calls told
signalled (Reject id) calls told = followed no_marks calls told
signalled (Bye id) calls told = followed no_marks calls told

-- ---- where memory may be wanting: a text is read where one is told

abbrev pub is_text : Outcome → Bool
is_text (Sdp id side text) = true
is_text (Made id slot media) = false
is_text (Live id) = false
is_text (Refused id cause) = false
is_text (Ended id slot media why) = false
is_text (Out port to octets) = false
is_text (Dropped port cause) = false
is_text (Unsent port to) = false
