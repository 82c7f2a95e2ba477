-- What occurrences tell, one behind the other.
use Rattle.std.proofs.Common.{◌≡◌, ℕ, List, [], ◌∷◌, ◌++◌, map, refl, sym, ap, ◌∙◌, append_assoc}
use Rattle.sg_trace.proofs.Capturings.{happens_output}
use Rattle.sg_gateway.specs.Events.{outcomes_from}
use Rattle.sg_capture.proofs.Common.{Event, Happens, Occurrence, Skipped, World, captured_events, output_from, output_of, skip_line, step}
use Rattle.sg_capture.proofs.Common.{text, text_from, unshared, unshared_told, world_after}

pub output_of-append : (w : World) (os ps : List Occurrence) → output_of w (os ++ ps) ≡ output_of w os ++ output_of (world_after w (captured_events os)) ps
output_of-append w [] ps = refl
output_of-append w (Happens e ∷ os) ps =
    ap (λ (l : List ℕ). text (outcomes_from w (e ∷ [])) ++ l) (output_of-append (step w e).world os ps)
    ∙ sym (append_assoc (text (outcomes_from w (e ∷ []))) (output_of (step w e).world os) (output_of (world_after (step w e).world (captured_events os)) ps))
output_of-append w (Skipped number cause ∷ os) ps =
    ap (λ (l : List ℕ). skip_line number cause ++ l) (output_of-append w os ps) ∙ sym (append_assoc (skip_line number cause) (output_of w os) (output_of (world_after w (captured_events os)) ps))

pub events_in-append : (os ps : List Occurrence) → captured_events (os ++ ps) ≡ captured_events os ++ captured_events ps
events_in-append [] ps = refl
events_in-append (Happens e ∷ os) ps = ap (λ (l : List Event). e ∷ l) (events_in-append os ps)
events_in-append (Skipped number cause ∷ os) ps = events_in-append os ps

-- events alone
pub happens_events : (es : List Event) → captured_events (map Happens es) ≡ es
happens_events [] = refl
happens_events (e ∷ es) = ap (λ (l : List Event). e ∷ l) (happens_events es)

-- as a player tells them, none of whose legs may share its ports
pub happens_text : (w : World) (es : List Event) → output_of w (map Happens es) ≡ text_from (unshared w) es
happens_text w es = happens_output w es ∙ ap text (sym (unshared_told w es))

pub happens-append : (es fs : List Event) → map Happens (es ++ fs) ≡ map Happens es ++ map Happens fs
happens-append [] fs = refl
happens-append (e ∷ es) fs = ap (λ (l : List Occurrence). Happens e ∷ l) (happens-append es fs)
