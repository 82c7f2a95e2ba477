-- What is given, step by step.
use Rattle.std.proofs.Common.{◌≡◌, ℕ, ◌+◌, List, [], ◌∷◌, ◌++◌, append_assoc, drop, Option, option_map, Result, Ok, sym, ap, ◌∙◌}
use Rattle.sg_agreement.specs.Keyed.{Keyed, medium_agreed, media_agreed}
use Rattle.sg_agreement.specs.Keying.{Keying}
use Rattle.sg_agreement.specs.Media.{Medium}
use Rattle.sg_base.specs.declared.addresses.Side.{Side}
use Rattle.sg_base.specs.declared.faults.Refusal.{Refusal}
use Rattle.sg_sdp.specs.declared.medium.Medium as descriptions
use Rattle.sg_session.specs.Stages.{after_ok}

pub gives_ok : {X : Type 0} (make : X → Keying) (r : Result X Refusal) (x : X) → r ≡ Ok x → ◌≡◌ {A = Result Keying Refusal} (after_ok r (λ x. Ok (make x))) (Ok (make x))
gives_ok make r x e = ap (λ r. after_ok r (λ x. Ok (make x))) e

pub agreed_next : (side : Side) (i : ℕ) (m : descriptions.Medium) (ms : List descriptions.Medium) (n : descriptions.Medium) (ns : List descriptions.Medium) (k : Option Keyed) (ks : List (Option Keyed))
    (done done' : List (Option Medium)) (x : Option Medium) → drop i ms ≡ m ∷ drop (i + 1) ms → drop i ns ≡ n ∷ drop (i + 1) ns → drop i ks ≡ k ∷ drop (i + 1) ks
    → x ≡ option_map (λ k. medium_agreed side k m n) k → done' ≡ done ++ x ∷ [] → done ++ media_agreed side (drop i ms) (drop i ns) (drop i ks) ≡ media_agreed side ms ns ks
    → done' ++ media_agreed side (drop (i + 1) ms) (drop (i + 1) ns) (drop (i + 1) ks) ≡ media_agreed side ms ns ks
agreed_next side i m ms n ns k ks done done' x am an ak is pushed so =
    ap (λ l. l ++ media_agreed side (drop (i + 1) ms) (drop (i + 1) ns) (drop (i + 1) ks)) pushed
    ∙ append_assoc done (x ∷ []) (media_agreed side (drop (i + 1) ms) (drop (i + 1) ns) (drop (i + 1) ks))
    ∙ ap (λ x. done ++ x ∷ media_agreed side (drop (i + 1) ms) (drop (i + 1) ns) (drop (i + 1) ks)) is
    ∙ (λ j. done ++ media_agreed side (sym am j) (sym an j) (sym ak j)) ∙ so
