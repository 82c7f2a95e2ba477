use Rattle.std.proofs.Common.{◌≡◌, ℕ, ◌∷◌, [], ◌++◌, slice_get, Some, Result, Err, ap, subst, sym, ◌∙◌}
use Rattle.sg_base.specs.declared.faults.DropCause.{DropCause}
use Rattle.sg_base.specs.declared.faults.DropCause.TheVariants.{StreamsFull}
use Rattle.sg_keys.specs.Live.{spent}
use Rattle.sg_states.specs.Inbound.{Keying, Placing, IsKeyOf, CanServe}
use Rattle.sg_states.specs.Placing.{placed}
use Rattle.sg_states.specs.Streams.{IsOpenPlace, IsStreamOf, StreamStands}
use Rattle.sg_media.proofs.OpeningSteps.{opened_by, opened_says, unplaced, unroomed, untagged, unverified_is, verified_is}
use Rattle.sg_media.proofs.opening.open_in.Goals as goal

pub returns-in-Err-clause-answer : goal.returns-in-Err-clause-answer
returns-in-Err-clause-answer c = λ ssrc roc window indices key s e.
    unplaced c.args.keyed key c.args.room (placed c.args.keyed.headed.kind roc window indices c.args.keyed.headed.head.number) c.in-Err.refused
    c.in-Err.ensures.open (c.in-Err.ensures.answer ssrc roc window indices s)

pub verify-requires : goal.verify-requires
verify-requires c =
    subst (λ (k : Keying). IsKeyOf c.args.keys.now k.key k.number) (sym (c.in-Ok.ensures.open.0))
    (record { key = c.requires.key.key; here = c.requires.key.here; same = c.requires.key.same })

pub returns-in-Err-verify-clause-back : goal.returns-in-Err-verify-clause-back
returns-in-Err-verify-clause-back c =
    (unverified_is c.args.keyed c.args.keys.now c.requires.key.key c.in-Ok.placed c.in-Err-verify.pad c.in-Ok.ensures.open.0 c.requires.key.here c.in-Err-verify.ensures).same

pub returns-then-not-room-clause-back : goal.returns-then-not-room-clause-back
returns-then-not-room-clause-back c =
    let v = (verified_is c.args.keyed c.args.keys.now c.requires.key.key c.in-Ok.placed c.in-Ok-verify.verified c.in-Ok.ensures.open.0 c.requires.key.here c.in-Ok-verify.ensures).same in
    c.refuse.ensures ∙ ap (λ (p : Placing). p.keyed.headed.pad) v

pub returns-in-Err-verify-clause-answer : goal.returns-in-Err-verify-clause-answer
returns-in-Err-verify-clause-answer c = λ ssrc roc window indices key s e.
    untagged (record { keyed = c.args.keyed; index = c.in-Ok.placed.index }) key c.args.room (placed c.args.keyed.headed.kind roc window indices c.args.keyed.headed.head.number) c.in-Err-verify.pad
    (c.in-Ok.ensures.answer ssrc roc window indices s) (unverified_is c.args.keyed c.args.keys.now key c.in-Ok.placed c.in-Err-verify.pad c.in-Ok.ensures.open.0 e c.in-Err-verify.ensures)

pub returns-then-not-room-clause-answer : goal.returns-then-not-room-clause-answer
returns-then-not-room-clause-answer c = λ ssrc roc window indices key s e.
    let r : Result ℕ DropCause = placed c.args.keyed.headed.kind roc window indices c.args.keyed.headed.head.number in
    let v = verified_is c.args.keyed c.args.keys.now key c.in-Ok.placed c.in-Ok-verify.verified c.in-Ok.ensures.open.0 e c.in-Ok-verify.ensures in
    ap (λ p. Err (p, StreamsFull)) (c.refuse.ensures ∙ ap (λ (p : Placing). p.keyed.headed.pad) v.same)
    ∙ unroomed (record { keyed = c.args.keyed; index = c.in-Ok.placed.index }) key c.args.room r (c.in-Ok.ensures.answer ssrc roc window indices s) v.fits c.if-not-room.true

pub decrypt-opened-requires-clause-open : goal.decrypt-opened-requires-clause-open
decrypt-opened-requires-clause-open c =
    let v = (verified_is c.args.keyed c.args.keys.now c.requires.key.key c.in-Ok.placed c.in-Ok-verify.verified c.in-Ok.ensures.open.0 c.requires.key.here c.in-Ok-verify.ensures).same in
    subst (λ (p : Placing). IsOpenPlace c.args.stream.now p.index) (sym v) c.in-Ok.ensures.open.1

pub decrypt-opened-requires-clause-source : goal.decrypt-opened-requires-clause-source
decrypt-opened-requires-clause-source c =
    let v = (verified_is c.args.keyed c.args.keys.now c.requires.key.key c.in-Ok.placed c.in-Ok-verify.verified c.in-Ok.ensures.open.0 c.requires.key.here c.in-Ok-verify.ensures).same in
    subst (λ (p : Placing). IsStreamOf c.args.stream.now p.keyed.headed.kind p.keyed.headed.head.ssrc) (sym v) c.requires.source

pub decrypt-opened-requires-clause-key : goal.decrypt-opened-requires-clause-key
decrypt-opened-requires-clause-key c =
    let v = (verified_is c.args.keyed c.args.keys.now c.requires.key.key c.in-Ok.placed c.in-Ok-verify.verified c.in-Ok.ensures.open.0 c.requires.key.here c.in-Ok-verify.ensures).same in
    subst (λ b. CanServe c.args.keys.now c.in-Ok-verify.verified.keyed.key c.in-Ok-verify.verified.keyed.number b) (sym c.encrypted-encrypted.ensures)
    (subst (λ (p : Placing). CanServe c.args.keys.now p.keyed.key p.keyed.number p.keyed.headed.head.encrypted) (sym v) c.requires.key)

pub returns-clause-answer : goal.returns-clause-answer
returns-clause-answer c = λ ssrc roc window indices key s e.
    let r : Result ℕ DropCause = placed c.args.keyed.headed.kind roc window indices c.args.keyed.headed.head.number in
    let p : Placing = record { keyed = c.args.keyed; index = c.in-Ok.placed.index } in
    let v = verified_is c.args.keyed c.args.keys.now key c.in-Ok.placed c.in-Ok-verify.verified c.in-Ok.ensures.open.0 e c.in-Ok-verify.ensures in
    let o = opened_by p c.in-Ok-verify.verified key c.encrypted-encrypted.result c.decrypt-opened.result v.same c.encrypted-encrypted.ensures
    (c.decrypt-opened.ensures.opened key (subst (λ (q : Placing). slice_get c.args.keys.now q.keyed.key ≡ Some key) (sym v.same) e)) in
    opened_says p key c.args.room r c.kind-kind.result c.decrypt-opened.result (c.in-Ok.ensures.answer ssrc roc window indices s) v.fits c.if-not-room.false c.kind-kind.ensures o

pub returns-clause-stream : goal.returns-clause-stream
returns-clause-stream c = λ ssrc roc window indices s.
    let v = (verified_is c.args.keyed c.args.keys.now c.requires.key.key c.in-Ok.placed c.in-Ok-verify.verified c.in-Ok.ensures.open.0 c.requires.key.here c.in-Ok-verify.ensures).same in
    let o = c.decrypt-opened.ensures.opened c.requires.key.key (subst (λ (p : Placing). slice_get c.args.keys.now p.keyed.key ≡ Some c.requires.key.key) (sym v) c.requires.key.here) in
    subst (λ i. StreamStands c.decrypt-opened.new.stream ssrc roc window (indices ++ i ∷ [])) (sym (o.index)) (c.decrypt-opened.ensures.stream ssrc roc window indices s)

pub returns-clause-keys : goal.returns-clause-keys
returns-clause-keys c =
    let v = (verified_is c.args.keyed c.args.keys.now c.requires.key.key c.in-Ok.placed c.in-Ok-verify.verified c.in-Ok.ensures.open.0 c.requires.key.here c.in-Ok-verify.ensures).same in
    let at_v = subst (λ (p : Placing). slice_get c.args.keys.now p.keyed.key ≡ Some c.requires.key.key) (sym v) c.requires.key.here in
    let o = c.decrypt-opened.ensures.opened c.requires.key.key at_v in
    c.decrypt-opened.ensures.keys c.requires.key.key at_v ∙ ap (λ n. spent n c.args.keys.now) (sym (o.number))

pub returns-clause-source : goal.returns-clause-source
returns-clause-source c =
    let v = (verified_is c.args.keyed c.args.keys.now c.requires.key.key c.in-Ok.placed c.in-Ok-verify.verified c.in-Ok.ensures.open.0 c.requires.key.here c.in-Ok-verify.ensures).same in
    let o = c.decrypt-opened.ensures.opened c.requires.key.key (subst (λ (p : Placing). slice_get c.args.keys.now p.keyed.key ≡ Some c.requires.key.key) (sym v) c.requires.key.here) in
    o.ssrc ∙ ap (λ (p : Placing). p.keyed.headed.head.ssrc) v
