use Rattle.std.proofs.Common.{◌+◌, ◌∷◌, ◌∙◌, [], refl, sym, subst}
use Rattle.sg_base.specs.Keys.{Master}
use Rattle.sg_table.specs.Values.{TableValue}
use Rattle.sg_demo.specs.Demonstration.{Demo, HasTakenPrefix, called_by, with_call, with_keys, world_of}
use Rattle.sg_demo.specs.Going.{DemoStandsFor}
use Rattle.sg_demo.specs.declared.state.Demo as declared
use Rattle.sg_demo.proofs.Acting.{on_err}
use Rattle.sg_demo.proofs.Calling.{IsAsked, call_made, call_refused, call_taken, with_call_is}
use Rattle.sg_demo.proofs.Prefixes.{call_prefix, prefix_whole, taken_so_far}
use Rattle.sg_demo.proofs.state.Demo.call.Goals as goal

pub returns-in_err-told-clause-failed : goal.returns-in_err-told-clause-failed
returns-in_err-told-clause-failed c =
    on_err c.from_residual.result (λ d stands.
    subst (λ (t : TableValue). HasTakenPrefix t (with_call c.args.number d).events) (sym c.in_err-told.ensures.same) (taken_so_far c.args.table.now d.events _ stands.taken (call_prefix c.args.number d)))

pub returns-in-None-clause-called : goal.returns-in-None-clause-called
returns-in-None-clause-called c = λ d stands.
    let a = c.draw_key-from_peer.result in
    let b = c.draw_key-to_peer.result in
    let after = c.draw_key-to_peer.new.words in
    let self = c.args.self.now in
    let is = with_call_is c.args.number d self.words c.draw_key-from_peer.new.words after a b stands.words c.draw_key-from_peer.ensures.key c.draw_key-from_peer.ensures.words c.draw_key-to_peer.ensures.key c.draw_key-to_peer.ensures.words in
    let asked : IsAsked c.in_ok-told.told c.tell.new.table (world_of d) (called_by c.args.number a b ∷ []) =
    subst (λ (m : Master). IsAsked c.in_ok-told.told c.tell.new.table (world_of d) (called_by c.args.number a m ∷ [])) c.clone-2.ensures
    (subst (λ (m : Master). IsAsked c.in_ok-told.told c.tell.new.table (world_of d) (called_by c.args.number m c.clone-2.result ∷ [])) c.clone.ensures
    (c.in_ok-told.ensures.told (world_of d) stands.taken, c.in_ok-told.ensures.taken (world_of d) stands.taken)) in
    let taken = call_taken c.args.number d a b after c.tell.new.table asked.1 in
    let shown : declared.Demo = record { words = after; callers = self.callers; summary = self.summary } in
    subst (λ (e : Demo). DemoStandsFor shown c.tell.new.table e) (sym is)
    (call_refused shown c.tell.new.table c.args.number d a b after refl stands.callers stands.summary (sym c.in-None.is ∙ asked.0) taken)

pub returns-in_err-seat-in-Some-clause-failed : goal.returns-in_err-seat-in-Some-clause-failed
returns-in_err-seat-in-Some-clause-failed c =
    on_err c.from_residual-in_err-seat-in-Some.result (λ d stands.
    let a = c.draw_key-from_peer.result in
    let b = c.draw_key-to_peer.result in
    let after = c.draw_key-to_peer.new.words in
    let self = c.args.self.now in
    let is = with_call_is c.args.number d self.words c.draw_key-from_peer.new.words after a b stands.words c.draw_key-from_peer.ensures.key c.draw_key-from_peer.ensures.words c.draw_key-to_peer.ensures.key c.draw_key-to_peer.ensures.words in
    let asked : IsAsked c.in_ok-told.told c.tell.new.table (world_of d) (called_by c.args.number a b ∷ []) =
    subst (λ (m : Master). IsAsked c.in_ok-told.told c.tell.new.table (world_of d) (called_by c.args.number a m ∷ [])) c.clone-2.ensures
    (subst (λ (m : Master). IsAsked c.in_ok-told.told c.tell.new.table (world_of d) (called_by c.args.number m c.clone-2.result ∷ [])) c.clone.ensures
    (c.in_ok-told.ensures.told (world_of d) stands.taken, c.in_ok-told.ensures.taken (world_of d) stands.taken)) in
    let taken = call_taken c.args.number d a b after c.tell.new.table asked.1 in
    subst (λ (e : Demo). HasTakenPrefix c.tell.new.table e.events) (sym is) (taken_so_far c.tell.new.table (with_keys c.args.number a b after d).events (with_keys c.args.number a b after d).events taken (prefix_whole (with_keys c.args.number a b after d).events)))

pub returns-clause-called : goal.returns-clause-called
returns-clause-called c = λ d stands.
    let a = c.draw_key-from_peer.result in
    let b = c.draw_key-to_peer.result in
    let after = c.draw_key-to_peer.new.words in
    let self = c.args.self.now in
    let is = with_call_is c.args.number d self.words c.draw_key-from_peer.new.words after a b stands.words c.draw_key-from_peer.ensures.key c.draw_key-from_peer.ensures.words c.draw_key-to_peer.ensures.key c.draw_key-to_peer.ensures.words in
    let asked : IsAsked c.in_ok-told.told c.tell.new.table (world_of d) (called_by c.args.number a b ∷ []) =
    subst (λ (m : Master). IsAsked c.in_ok-told.told c.tell.new.table (world_of d) (called_by c.args.number a m ∷ [])) c.clone-2.ensures
    (subst (λ (m : Master). IsAsked c.in_ok-told.told c.tell.new.table (world_of d) (called_by c.args.number m c.clone-2.result ∷ [])) c.clone.ensures
    (c.in_ok-told.ensures.told (world_of d) stands.taken, c.in_ok-told.ensures.taken (world_of d) stands.taken)) in
    let taken = call_taken c.args.number d a b after c.tell.new.table asked.1 in
    let shown : declared.Demo = record { words = after; callers = c.seat.new.callers; summary = record self.summary { calls = self.summary.calls + 1 } } in
    subst (λ (e : Demo). DemoStandsFor shown c.tell.new.table e) (sym is)
    (call_made shown c.tell.new.table c.args.number c.in-Some.slot d a b after self.summary refl (c.in_ok-seat-in-Some.ensures.seated d.callers stands.callers) refl stands.summary
    (sym c.in-Some.is ∙ asked.0) taken)
