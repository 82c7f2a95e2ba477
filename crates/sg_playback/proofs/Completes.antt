-- A script in the grammar is played to its end, where nothing fails.
use Rattle.std.proofs.Common.{◌≡◌, ℕ, Bool, List, [], refl, sym, ◌∙◌, inl, inr, arith, append-nil}
use Rattle.sg_trace.proofs.Grammars.{in_replay, no_fault}
use Rattle.sg_trace.specs.Trace.{AtFault, replayed}
use Rattle.sg_playback.proofs.Common.{Done, IsCompleteReplay, IsReplay, NoMemory, Noise, Read, ReplayTellings, Script, Status, Write, added_none, output_in}
use Rattle.sg_playback.proofs.Common.{took_none, wrote_none}
use Rattle.sg_playback.proofs.Replays.{output_so}

pub complete : (muxes : Bool) (status : Status) (old new : ReplayTellings) (octets draws out : List ℕ) → IsReplay muxes status old new octets draws out
    → (status ≡ Read → ⊥) → (status ≡ Write → ⊥) → (status ≡ Noise → ⊥) → IsCompleteReplay status old.left new.left
complete muxes Done old new octets draws out run a b c = λ all rest told told' script. inl refl
complete muxes NoMemory old new octets draws out run a b c = λ all rest told told' script. inr refl
complete muxes Read old new octets draws out run a b c = absurd (a refl)
complete muxes Write old new octets draws out run a b c = absurd (b refl)
complete muxes Noise old new octets draws out run a b c = absurd (c refl)
complete muxes (Script n f) old new octets draws out run a b c = λ all rest told told' script.
    let ends = run.ends in
    absurd (no_fault old.left new.left octets all rest f (λ o. (replayed o draws).stop ≡ AtFault n f) run.took told told' script (λ o whole. in_replay n f o draws whole) ends.0.stops ends.1 ends.2)
complete muxes other old new octets draws out run a b c = absurd run.ends

-- memory ran out before anything was read
pub untouched : (muxes : Bool) (old : ReplayTellings) → IsReplay muxes NoMemory old old [] [] []
untouched muxes old = record {
  took = took_none old.left;
  drew = added_none old.drawn;
  wrote = wrote_none old.written;
  ends = record {
    played = [];
    ahead = [];
    split = refl;
    near = omega arith;
    told = [];
    late = [];
    alike = refl;
    few = omega arith;
    begun = ([], output_so muxes [] ∙ sym (append-nil (output_in muxes [])));
    within = ([], sym (output_so muxes []));
  };
  bound = omega arith;
}
