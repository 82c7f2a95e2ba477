use Rattle.std.proofs.Common.{◌∙◌}
use Rattle.sg_sdes.proofs.PrintLaws.{printed}
use Rattle.sg_sdes.proofs.printing.print_crypto.Goals as goal

pub returns : goal.returns
returns c =
    c.from_vec.ensures
    ∙ printed c.args.line.now c.from.result c.name.result.now c.as_slice.result.now _ _ _ _ _ _ _ _ _ c.from.ensures c.name.ensures c.as_slice.ensures.value
    c.new-out.ensures.items c.in_ok-push_number.ensures c.in_ok-push.ensures.items c.in_ok-extend_from_slice.ensures.items c.in_ok-push-2.ensures.items
    c.in_ok-push_keys.ensures c.in_ok-push_word.ensures c.in_ok-push_word-2.ensures c.in_ok-push_window.ensures
