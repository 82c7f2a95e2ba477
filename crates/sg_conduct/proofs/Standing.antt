-- What entries did in a session is what each of that very name did.
use Rattle.std.proofs.Common.{◌≡◌, inl, inr, Bool, true, false, cond, List, [], ◌∷◌, refl, sym, ap, ◌∙◌}
use Rattle.std.proofs.lemmas.Bool.{false≢true}
use Rattle.sg_gateway.proofs.Common.{Entry, Name, same_name}
use Rattle.sg_gateway.proofs.Kept.{same_name_is, same_name_itself}
use Rattle.sg_conduct.specs.Standing.{AreDoneUnder, done_by}

pub done_under : (es : List Entry) (n : Name) → AreDoneUnder es n (done_by es n)
done_under [] n = refl
done_under (e ∷ es) n = go (done_under es n) (same_name n e.session) refl
  where
    go : AreDoneUnder es n (done_by es n) → (b : Bool) → same_name n e.session ≡ b → AreDoneUnder (e ∷ es) n (cond b (e.done ∷ done_by es n) (done_by es n))
    go rest true is = inl (done_by es n, sym (same_name_is n e.session is), refl, rest)
    go rest false is = inr ((λ same. false≢true (sym is ∙ ap (same_name n) same ∙ same_name_itself n)), rest)
