use Rattle.sg_aes.proofs.sixteen.plane_key.Goals as goal

pub returns : goal.returns
returns c = λ v h. h
