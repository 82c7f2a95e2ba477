-- Keys that are put into the ring for media.
use Rattle.std.proofs.Common.{◌≡◌, ℕ, List, ◌++◌, length, Option, Result, Ok, Err, sym, ap, ◌∙◌, subst}
use Rattle.std.proofs.lemmas.List.{map-append, length-map}
use Rattle.sg_agreement.specs.Generations.{keys_from, sessions_from, generation_of}
use Rattle.sg_agreement.specs.Media.{Medium}
use Rattle.sg_base.specs.declared.faults.Fault.{Fault}
use Rattle.sg_base.specs.declared.faults.Fault.TheVariants.{Refused, NoMemory}
use Rattle.sg_keys.specs.Installing.{keys_of}
use Rattle.sg_session.specs.Ring.{Installed, RingKey, key_of}
use Rattle.sg_session.specs.Stages.{after_ok}
use Rattle.sg_leg.proofs.Planning.{keys_are}
use Rattle.sg_leg.specs.FreshKeys.{media_keys}
use Rattle.sg_leg.specs.Installing.{IsKeyed, IsInstalled}
use Rattle.sg_leg.specs.Planned.{Planned, ArePlanned}
use Rattle.sg_leg.specs.Standing.{Begins}

module _ (call generation : ℕ) (old : List Installed) (media : List (Option Medium)) (keys ring ring' : List RingKey) (stand : keys_of old ≡ ring) (are : keys ≡ media_keys media) where
  abbrev pub new : List Installed
  new = keys_from call generation 0 media

  pub new_keys : keys_of new ≡ keys
  new_keys = keys_are call generation 0 media ∙ sym are

  pub settled : (plan : List Planned) (first : ℕ) → IsInstalled old new (Ok tt) → ring' ≡ ring ++ keys → first ≡ length ring
      → ArePlanned plan (sessions_from call generation 0 first media) → IsKeyed call generation old media (Ok plan) ring'
  settled plan first installed pushed count each = (
    old ++ new,
    installed,
    map-append key_of old new ∙ (λ i. stand i ++ new_keys i) ∙ sym pushed,
    subst (λ n. ArePlanned plan (sessions_from call generation 0 n media)) (count ∙ ap length (sym stand) ∙ length-map old key_of) each,
  )

  pub unsettled : (fault : Fault) → IsInstalled old new (Err fault) → IsKeyed call generation old media (Err fault) ring'
  unsettled (Refused cause) e = e
  unsettled NoMemory e = tt

-- any other plan of the same sessions will do
pub keyed_as : (call generation first : ℕ) (old : List Installed) (media : List (Option Medium)) (before plan : List Planned) (ring ring' : List RingKey) → keys_of old ≡ ring → first ≡ length ring
    → IsKeyed call generation old media (Ok before) ring' → ArePlanned plan (sessions_from call generation 0 first media) → IsKeyed call generation old media (Ok plan) ring'
keyed_as call generation first old media before plan ring ring' stand count k each =
    (k.0, k.1, k.2, subst (λ n. ArePlanned plan (sessions_from call generation 0 n media)) (count ∙ ap length (sym stand) ∙ length-map old key_of) each)

-- ---- a generation begins

pub begins : (call generation : ℕ) (old : List Installed) (media : List (Option Medium)) (r : Result (List Planned) Fault) (ring : List RingKey)
    → IsKeyed call generation old media r ring → Begins r ring (generation_of call generation old media)
begins call generation old media (Ok plan) ring k = (
  record { sessions = sessions_from call generation 0 (length old) media; ring = k.0 },
  ap (λ r. after_ok r (λ keyed. Ok (record { sessions = sessions_from call generation 0 (length old) media; ring = keyed }))) k.1,
  record { planned = k.3; installed = k.2 },
)
begins call generation old media (Err (Refused cause)) ring k =
    ap (λ r. after_ok r (λ keyed. Ok (record { sessions = sessions_from call generation 0 (length old) media; ring = keyed }))) k
begins call generation old media (Err NoMemory) ring k = tt
