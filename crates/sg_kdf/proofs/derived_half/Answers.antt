use Rattle.std.proofs.Common.{◌∙◌, ap}
use Rattle.sg_base.specs.Suites.{key_len_of}
use Rattle.sg_kdf.proofs.KdfLemmas.{half_is}
use Rattle.sg_kdf.proofs.derived_half.Goals as goal

pub returns : goal.returns
returns c =
    half_is c.args.master.now c.args.schedule.now c.args.salt.now c.args.first c.key_len.result c.derived-octets.result c.new.result c.derived.result c.derived-2.result
    c.requires.key c.requires.salt (c.key_len.ensures.value ∙ ap key_len_of c.suite.ensures) c.key_len.ensures.most c.derived-octets.ensures c.new.ensures c.derived.ensures c.derived-2.ensures
