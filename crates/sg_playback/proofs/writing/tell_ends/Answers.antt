use Rattle.std.proofs.Common.{rules, ◌≡◌, ◌∙◌, ◌++◌, ℕ, List, ap, subst}
use Rattle.sg_playback.proofs.Common.{IsWritten, text, told_of}
use Rattle.sg_playback.proofs.writing.tell_ends.Goals as goal

pub returns-in-Ok-clause-told : goal.returns-in-Ok-clause-told
returns-in-Ok-clause-told g c =
    let all : c.as_slice.result.now ≡ text (told_of c.args.arrivals.now) = c.as_slice.ensures.value ∙ c.in-Ok.ensures ∙ ap (λ (l : List ℕ). l ++ text (told_of c.args.arrivals.now)) c.clear.ensures.items in
    subst (IsWritten c.map_err.result (g.K.Sink.written c.args.sink.now) (g.K.Sink.written c.write_all.new.sink)) all (search rules)
