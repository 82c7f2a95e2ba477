use Rattle.std.proofs.Common.{◌≡◌, true, ◌++◌, ◌∷◌, [], ap, subst, sym, ◌∙◌}
use Rattle.sg_keys.specs.Live.{spent, spent_if}
use Rattle.sg_keys.proofs.Spending.{same_number}
use Rattle.sg_states.specs.Outbound.{Outgoing, CanSeal, IsSealedOf}
use Rattle.sg_states.specs.Parts.{is_tag_len}
use Rattle.sg_states.specs.Placing.{next_index}
use Rattle.sg_states.specs.Streams.{StreamStands}
use Rattle.sg_media.proofs.SealingSteps.{at_spent, can_seal, seal_says, unsealed}
use Rattle.sg_media.proofs.sealing.seal_in.Goals as goal

pub seal-sealed-requires-clause-tag : goal.seal-sealed-requires-clause-tag
seal-sealed-requires-clause-tag c = subst (λ (h : Outgoing). is_tag_len h.kind c.args.tag_len ≡ true) (sym (c.in-Ok.ensures.kept.same)) c.requires.tag

pub seal-sealed-requires-clause-key : goal.seal-sealed-requires-clause-key
seal-sealed-requires-clause-key c =
    let n = c.in-Ok.ensures.kept in
    subst (CanSeal c.number.new.keys c.in-Ok.numbered.key c.in-Ok.numbered.number) (sym c.encrypted-encrypted.ensures)
    (can_seal c.args.keys.now c.number.new.keys c.in-Ok.numbered.key c.in-Ok.numbered.number n.key c.args.headed.head.encrypted c.requires.ciphers n.at n.number (c.in-Ok.ensures.spent ∙ ap (λ m. spent m c.args.keys.now) (sym n.number)))

pub returns-in-Ok-clause-answer : goal.returns-in-Ok-clause-answer
returns-in-Ok-clause-answer c = λ ssrc roc window indices s.
    let n = c.in-Ok.ensures.kept in
    let at = at_spent c.args.keys.now c.number.new.keys c.in-Ok.numbered.key n.key n.at (c.in-Ok.ensures.spent ∙ ap (λ m. spent m c.args.keys.now) (sym n.number)) in
    seal_says c.args.headed c.args.keys.now c.args.tag_len (next_index c.args.headed.kind roc window indices c.args.headed.head.number) c.in-Ok.numbered n c.kind-kind.result c.seal-sealed.result
    (c.in-Ok.ensures.answer ssrc roc window indices s) c.kind-kind.ensures
    (subst (λ b. IsSealedOf c.in-Ok.numbered (spent_if n.key.number n.key) b c.args.tag_len c.seal-sealed.result) c.encrypted-encrypted.ensures (c.seal-sealed.ensures (spent_if n.key.number n.key) at))

pub returns-in-Ok-clause-stream : goal.returns-in-Ok-clause-stream
returns-in-Ok-clause-stream c = λ ssrc roc window indices s.
    let n = c.in-Ok.ensures.kept in
    let o = c.seal-sealed.ensures (spent_if n.key.number n.key) (at_spent c.args.keys.now c.number.new.keys c.in-Ok.numbered.key n.key n.at (c.in-Ok.ensures.spent ∙ ap (λ m. spent m c.args.keys.now) (sym n.number))) in
    subst (λ i. StreamStands c.number.new.stream ssrc roc window (indices ++ i ∷ [])) (sym (o.index)) (c.in-Ok.ensures.taken ssrc roc window indices s)

pub returns-in-Ok-clause-keys : goal.returns-in-Ok-clause-keys
returns-in-Ok-clause-keys c =
    let n = c.in-Ok.ensures.kept in
    let s = c.in-Ok.ensures.spent ∙ ap (λ m. spent m c.args.keys.now) (sym n.number) in
    let at = at_spent c.args.keys.now c.number.new.keys c.in-Ok.numbered.key n.key n.at s in
    let o = c.seal-sealed.ensures (spent_if n.key.number n.key) at in
    s ∙ ap (λ m. spent m c.args.keys.now) (sym (o.number ∙ same_number n.key.number n.key))

pub returns-in-Ok-clause-source : goal.returns-in-Ok-clause-source
returns-in-Ok-clause-source c =
    let n = c.in-Ok.ensures.kept in
    let o = c.seal-sealed.ensures (spent_if n.key.number n.key) (at_spent c.args.keys.now c.number.new.keys c.in-Ok.numbered.key n.key n.at (c.in-Ok.ensures.spent ∙ ap (λ m. spent m c.args.keys.now) (sym n.number))) in
    o.ssrc ∙ ap (λ (h : Outgoing). h.head.ssrc) n.same

pub returns-in-Err-clause-answer : goal.returns-in-Err-clause-answer
returns-in-Err-clause-answer c = λ ssrc roc window indices s.
    unsealed c.args.headed c.args.keys.now c.args.tag_len (next_index c.args.headed.kind roc window indices c.args.headed.head.number) c.in-Err.refused
    c.in-Err.ensures.kept (c.in-Err.ensures.answer ssrc roc window indices s)
