use Rattle.std.proofs.Common.{refl, replicate}
use Rattle.sg_aes.specs.declared.sixteen.TheConstants.{LOW0, LOW1, LOW2, LOW3}
use Rattle.sg_aes.proofs.PlaneLemmas.{numbers_told}
use Rattle.sg_aes.proofs.sixteen.numbers.Goals as goal

pub returns : goal.returns
returns c = record {
  bit0 = numbers_told LOW0 0 refl refl;
  bit1 = numbers_told LOW1 1 refl refl;
  bit2 = numbers_told LOW2 2 refl refl;
  bit3 = numbers_told LOW3 3 refl refl;
  bit4 = numbers_told (replicate 32 0) 4 refl refl;
  bit5 = numbers_told (replicate 32 0) 5 refl refl;
  bit6 = numbers_told (replicate 32 0) 6 refl refl;
  bit7 = numbers_told (replicate 32 0) 7 refl refl;
}
