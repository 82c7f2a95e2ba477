use Rattle.std.proofs.Common.{rules, ◌≡◌, ◌∙◌, ◌≤◌, sym, subst, length, vec_len, arith}
use Rattle.std.proofs.lemmas.List.{length-map}
use Rattle.sg_table.proofs.FreeSlot.{free_low}
use Rattle.sg_table.specs.Values.{shape_of, shapes_of}
use Rattle.sg_table.proofs.places.put_in.Goals as goal

pub insert-requires : goal.insert-requires
insert-requires c =
    let len : vec_len c.args.calls.now ≡ length c.args.calls.now.items = search rules in
    let le = free_low 0 (shapes_of c.args.calls.now.items) in
    subst (λ n. n ≤ vec_len c.args.calls.now) (sym (c.from.ensures ∙ c.requires.slot)) (omega (arith, le, length-map c.args.calls.now.items shape_of, len))
