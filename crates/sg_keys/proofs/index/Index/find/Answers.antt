use Rattle.std.proofs.Common.{sym, ◌∙◌, refl}
use Rattle.sg_base.specs.Octets.{same_octets}
use Rattle.sg_keys.specs.Indexed.{octets_of}
use Rattle.sg_keys.proofs.Indexing.{split_at}
use Rattle.sg_keys.proofs.index.Index.find.Goals as goal

pub returns-in-Some : goal.returns-in-Some
returns-in-Some c =
    sym (split_at (λ r. same_octets (octets_of c.args.self.now.part r) c.args.octets.now) c.args.self.now.count c.args.list.now c.requires.within
    ∙ rw (sym (c.requires.finds c.args.octets.now) ∙ sym c.number_of.ensures ∙ c.in-Some.is) refl)

pub returns-in-None : goal.returns-in-None
returns-in-None c =
    sym (split_at (λ r. same_octets (octets_of c.args.self.now.part r) c.args.octets.now) c.args.self.now.count c.args.list.now c.requires.within
    ∙ rw (sym (c.requires.finds c.args.octets.now) ∙ sym c.number_of.ensures ∙ c.in-None.is) (sym c.first_behind.ensures.first))
