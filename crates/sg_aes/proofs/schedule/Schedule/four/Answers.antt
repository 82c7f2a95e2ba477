use Rattle.std.proofs.Common.{◌∙◌, [], ◌∷◌, ap, take, drop}
use Rattle.sg_aes.specs.Cipher.{aes_encrypt}
use Rattle.sg_aes.proofs.CipherLemmas.{length-aes_encrypt}
use Rattle.sg_aes.proofs.KeyLemmas.{map_four}
use Rattle.sg_aes.proofs.schedule.Schedule.four.Goals as goal

pub returns : goal.returns
returns c =
    let f = aes_encrypt c.args.self.now in
    let x = c.beside-one.result in
    let y = c.beside-other.result in
    let long = length-aes_encrypt c.args.self.now in
    let left = c.halves.ensures (f (take 16 x)) (f (drop 16 x)) (long (take 16 x)) (long (drop 16 x)) c.pairs.ensures.one in
    let right = c.halves-2.ensures (f (take 16 y)) (f (drop 16 y)) (long (take 16 y)) (long (drop 16 y)) c.pairs.ensures.other in
    let a = left.0 ∙ ap f c.beside-one.ensures.first in
    let b = left.1 ∙ ap f c.beside-one.ensures.second in
    let d = right.0 ∙ ap f c.beside-other.ensures.first in
    let e = right.1 ∙ ap f c.beside-other.ensures.second in
    (λ p. a p ∷ b p ∷ d p ∷ e p ∷ []) ∙ map_four f c.args.parts.now c.told-parts
