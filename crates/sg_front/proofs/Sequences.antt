-- What events tell, and the state after them, where others come behind them.
use Rattle.std.proofs.Common.{◌≡◌, List, [], ◌∷◌, ◌++◌, refl, sym, ap, ◌∙◌, append_assoc}
use Rattle.sg_front.specs.States.{State, came_from, muxing_next, next, state_after, told_from}
use Rattle.sg_gateway.specs.Runs.{world_after}
use Rattle.sg_gateway.specs.Step.{Event}
use Rattle.sg_outcome.specs.declared.outcomes.Outcome.{Outcome}

pub state_after-append : (s : State) (es fs : List Event) → state_after s (es ++ fs) ≡ state_after (state_after s es) fs
state_after-append s [] fs = refl
state_after-append s (e ∷ es) fs = state_after-append (next s e) es fs

pub told_from-append : (s : State) (es fs : List Event) → told_from s (es ++ fs) ≡ told_from s es ++ told_from (state_after s es) fs
told_from-append s [] fs = refl
told_from-append s (e ∷ es) fs =
    ap (λ (l : List Outcome). (muxing_next s e).told ++ l) (told_from-append (next s e) es fs)
    ∙ sym (append_assoc (muxing_next s e).told (told_from (next s e) es) (told_from (state_after (next s e) es) fs))

-- the world after them is the world after what comes to it
pub world_came : (s : State) (es : List Event) → (state_after s es).world ≡ world_after s.world (came_from s es)
world_came s [] = refl
world_came s (e ∷ es) = world_came (next s e) es
