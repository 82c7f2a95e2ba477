-- A table whose calls are lent as a slice.
use Rattle.std.proofs.Common.{◌≡◌, ◌∙◌, List, sym, ap, subst}
use Rattle.sg_call.specs.Values.{CallValue}
use Rattle.sg_gateway.specs.World.{World}
use Rattle.sg_table.specs.Standing.{TableStandsFor}
use Rattle.sg_table.specs.Values.{TableValue, AreRising, shapes_of}
use Rattle.sg_table.specs.declared.table.Table.TheInside.{Inside}

-- what the fields of the calls show is what the table shows
pub seen : (t u : Inside) (shown : TableValue) → t ≡ u → u.calls ≡ shown → t.calls ≡ shown
seen t u shown opened view = ap (λ (i : Inside). i.calls) opened ∙ view

-- the table stands for a world, seen with the calls that are lent
pub lent : (t shown : TableValue) (calls : List CallValue) (w : World) → t ≡ shown → calls ≡ t.calls → TableStandsFor shown w → TableStandsFor (record t { calls = calls }) w
lent t shown calls w view are stands = subst (λ cs. TableStandsFor (record t { calls = cs }) w) (sym are) (subst (λ v. TableStandsFor v w) (sym view) stands)

-- they rise
pub rising : (t shown : TableValue) (calls : List CallValue) → t ≡ shown → calls ≡ t.calls → AreRising (shapes_of shown.calls) → AreRising (shapes_of calls)
rising t shown calls view are rise = subst (λ cs. AreRising (shapes_of cs)) (sym are) (subst (λ (v : TableValue). AreRising (shapes_of v.calls)) (sym view) rise)
