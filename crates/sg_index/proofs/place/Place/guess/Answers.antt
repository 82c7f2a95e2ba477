use Rattle.std.proofs.Common.{refl, arith, ◌+◌, ◌*◌}
use Rattle.sg_index.proofs.place.Place.guess.Goals as goal

pub returns-then-self-clause-spent : goal.returns-then-self-clause-spent
returns-then-self-clause-spent c =
    (λ _. (c.self.inside.rollover * 65536 + c.args.seq + 65536, record { number = omega arith; near = omega arith; tie = λ h. omega arith }, omega arith), λ _. refl)
