use Rattle.std.proofs.Common.{◌∷◌, ◌∙◌, ap, sym, subst}
use Rattle.sg_psk.specs.Pairs.{IsAt, pair_named}
use Rattle.sg_psk.proofs.accepting.place_named.Goals as goal

pub returns-in-None : goal.returns-in-None
returns-in-None c =
    let names = c.in_ok-peer.ensures ∙ ap (λ t. c.in_ok-peer.peer.now ∷ t) c.in-None.ensures in
    subst (λ ns. IsAt c.args.book.now c.place_with.result (pair_named c.args.book.now ns)) (sym names) c.place_with.ensures

pub returns-in-Some : goal.returns-in-Some
returns-in-Some c =
    let names = c.in_ok-peer.ensures ∙ ap (λ t. c.in_ok-peer.peer.now ∷ t) c.in-Some.ensures in
    subst (λ ns. IsAt c.args.book.now c.place_of.result (pair_named c.args.book.now ns)) (sym names) c.place_of.ensures
