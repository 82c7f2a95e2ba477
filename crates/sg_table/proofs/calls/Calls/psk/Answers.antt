use Rattle.std.proofs.Common.{◌≡◌, ◌∙◌, [], ◌∷◌, ◌++◌, List, Err, sym, ap, subst}
use Rattle.std.specs.Result.{OnOk, OnErr}
use Rattle.sg_gateway.specs.Signals.{with_pair}
use Rattle.sg_gateway.specs.World.{World}
use Rattle.sg_outcome.specs.declared.outcomes.Outcome.{Outcome}
use Rattle.sg_psk.specs.Pairs.{pair_of}
use Rattle.sg_psk.specs.declared.pairs.Pair.{Pair}
use Rattle.sg_table.proofs.Answered.{told_one}
use Rattle.sg_table.proofs.PairAdded.{Adds, pair_added, pair_refused}
use Rattle.sg_table.specs.Standing.{TableStandsFor}
use Rattle.sg_table.specs.Telling.{IsAnswered}
use Rattle.sg_table.specs.Values.{TableValue}
use Rattle.sg_table.specs.contracts.calls.Calls.{the_view}
use Rattle.sg_table.proofs.calls.Calls.psk.Goals.{in-Ok, in-Err-Refused, in-Err-NoMemory}
use Rattle.sg_table.proofs.calls.Calls.psk.Goals as goal

pub returns-clause-told : goal.returns-clause-told
returns-clause-told c =
    let adds : Adds c.self.inside.books.psks c.args.own.now c.args.peer.now c.add.result = record { known = c.add.ensures.known; full = c.add.ensures.full; room = c.add.ensures.room } in
    let after : List Pair → TableValue = λ ps. record { calls = c.self.inside.by_slot.items; books = record { psks = ps; seen = c.self.inside.books.seen; ring = c.self.inside.books.ring }; moment = c.self.inside.moment } in
    let told : List Outcome → Type 0 = λ os. (w : World) → TableStandsFor c.args.self.now w → IsAnswered os (after c.add.new.self) (with_pair w (pair_of c.args.own.now c.args.peer.now c.args.key.now)) in
    elim c.match-add.branch [
      | in-Ok b ↦ subst (λ r. OnOk r (told c.match-add.told.items)) (sym b.result-is) (subst (λ t. told t.items) (sym b.told-is) (λ w stands.
          (let viewed : TableStandsFor (the_view c.self.inside) w = subst (λ t. TableStandsFor t w) (sym c.self.view_is) stands in
          pair_added c.self.inside.by_slot.items c.self.inside.books c.self.inside.moment w viewed.holds c.args.own.now c.args.peer.now c.args.key.now c.add.new.self c.args.told.now.items
          (subst (Adds c.self.inside.books.psks c.args.own.now c.args.peer.now) b.in-Ok.is adds) (subst (λ r. OnOk r (c.add.new.self ≡ c.self.inside.books.psks ++ pair_of c.args.own.now c.args.peer.now c.args.key.now ∷ [])) b.in-Ok.is c.add.ensures.added) c.requires.none)))
      | in-Err-Refused b ↦ subst (λ r. OnOk r (told c.match-add.told.items)) (sym b.result-is) (subst (λ t. told t.items) (sym b.told-is) (λ w stands.
          (let viewed : TableStandsFor (the_view c.self.inside) w = subst (λ t. TableStandsFor t w) (sym c.self.view_is) stands in
          subst (λ (ps : List Pair). IsAnswered b.push.new.self.items (after ps) (with_pair w (pair_of c.args.own.now c.args.peer.now c.args.key.now)))
          (sym (subst (λ r. OnErr r (c.add.new.self ≡ c.self.inside.books.psks)) b.in-Err-Refused.is c.add.ensures.kept))
          (pair_refused c.self.inside.by_slot.items c.self.inside.books c.self.inside.moment w viewed.holds c.args.own.now c.args.peer.now c.args.key.now b.in-Err-Refused.cause b.push.new.self.items
          (subst (Adds c.self.inside.books.psks c.args.own.now c.args.peer.now) (b.in-Err-Refused.is ∙ ap (λ f. Err f) b.in-Err-Refused.field-0-is) adds) (told_one _ _ _ c.requires.none b.push.ensures.items)))))
      | in-Err-NoMemory b ↦ subst (λ r. OnOk r (told c.match-add.told.items)) (sym b.result-is) tt
    ]
