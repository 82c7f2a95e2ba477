use Rattle.std.proofs.Common.{◌≡◌, [], ◌∷◌, ◌++◌, ap, subst, sym, Some}
use Rattle.sg_replay.specs.declared.seen.Freshness.TheVariants.{New}
use Rattle.sg_replay.specs.Seen.{StandsFor, freshness_at}
use Rattle.sg_replay.proofs.MarkLists.{stands_push, new_reached, shown}
use Rattle.sg_replay.proofs.seen.Seen.mark.Goals as goal

pub mark-requires : goal.mark-requires
mark-requires c =
    new_reached c.self.inside.window c.self.inside.highest c.self.inside.row c.args.index c.self.invariant.1
    (subst (λ m. freshness_at m c.args.index ≡ New) (sym c.self.view_is) c.requires)

pub returns : goal.returns
returns c = λ window done s.
    subst (λ o. StandsFor (shown c.self.inside.window o c.mark.new.row) window (done ++ c.args.index ∷ [])) (ap Some (sym c.later.ensures))
    (stands_push c.self.inside.window window c.self.inside.highest c.self.inside.row c.mark.new.row done c.args.index
    (subst (λ m. StandsFor m window done) (sym c.self.view_is) s) c.self.invariant.1 c.mark.ensures.here c.mark.ensures.others)
