use Rattle.sg_playback.proofs.Lines.{few_behind, on_ok, settled_by}
use Rattle.sg_playback.proofs.playing.StaffedPlay.settle.Goals as goal

pub returns-clause-settled : goal.returns-clause-settled
returns-clause-settled g c = λ s stands.
    let has = stands.3 _ _ c.settling.result _ _ c.settling.ensures in
    let settled = has.settled s stands.4 in (
      settled.0,
      settled.1,
      settled_by c.settling.result s _ _ _ _ settled.0
          (on_ok c.settling.result _ _ (few_behind c.settling.result s _ c.settling.new.arg2 _ settled.0 settled.2) (λ few t front. (stands.0, stands.1, stands.2, stands.3, front, few))) settled.2,
    )
