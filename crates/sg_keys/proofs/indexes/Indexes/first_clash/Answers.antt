use Rattle.std.proofs.Common.{◌≡◌, ◌<◌, length, IfSome, sym, subst}
use Rattle.sg_keys.specs.Reused.{first_from}
use Rattle.sg_keys.proofs.Indexing.{least_clash, within_ring}
use Rattle.sg_keys.proofs.indexes.Indexes.first_clash.Goals as goal

told : (c : goal.After-least-2) → c.least-2.result ≡ first_from 0 c.args.list.now c.args.key.now
told c =
    rw (
      c.least-2.ensures,
      c.least.ensures,
      c.least-by_rtp.ensures,
      c.least-by_rtcp.ensures,
      c.find-by_master.ensures,
      c.first_secret.ensures,
      c.first_secret-2.ensures,
      c.first_secret-3.ensures,
      c.first_secret-4.ensures,
      c.requires.master.part,
      c.requires.rtp.part,
      c.requires.rtcp.part,
      c.part.ensures,
      c.part-rtp.ensures,
      c.part-rtcp.ensures,
    )
    (least_clash c.args.list.now c.args.key.now)

pub returns-clause-first : goal.returns-clause-first
returns-clause-first c = told c

pub returns-clause-within : goal.returns-clause-within
returns-clause-within c = subst (λ o. IfSome o (λ n. n < length c.args.list.now)) (sym (told c)) (within_ring c.args.list.now c.args.key.now)
