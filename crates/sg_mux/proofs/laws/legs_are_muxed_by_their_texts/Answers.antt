use Rattle.std.proofs.Common.{◌≡◌, true, sym, subst}
use Rattle.std.specs.Prelude.{◌↔◌}
use Rattle.sg_mux.proofs.Latest.{decided}
use Rattle.sg_mux.proofs.Vias.{known_of}
use Rattle.sg_mux.specs.Latest.{SharesPort, tellings}
use Rattle.sg_mux.specs.Legs.{muxes}
use Rattle.sg_mux.proofs.laws.legs_are_muxed_by_their_texts.Goals as goal

pub returns : goal.returns
returns c = λ events slot medium side within.
    subst (λ known. (muxes known medium side ≡ true) ↔ SharesPort (tellings events) slot medium side) (sym (known_of slot events within))
    (decided slot medium side (tellings events))
