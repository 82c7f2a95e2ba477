-- The crypto sessions of a bundle: what each side sends (RFC 3830, 4.1.3 and 6.1.1).
use Rattle.std.specs.Prelude.{◌≡◌, ℕ, ◌+◌, ◌*◌, List, [], ◌∷◌, length, map, not, Bool, Option, Some, None, option_map, is_none, Result, Ok, Err, ◌==◌, if◌then◌else◌}
use Rattle.std.specs.Global.{Vec}
use Rattle.std.specs.List.{find, list_any}
use Rattle.sg_base.specs.Fields.{◌>>=◌}
use Rattle.sg_base.specs.Keys.{Master}
use Rattle.sg_base.specs.Mkis.{MkiValue}
use Rattle.sg_base.specs.Suites.{key_len_of}
use Rattle.sg_base.specs.declared.suites.Suite.{Suite}
use Rattle.sg_base.specs.declared.faults.CsFault.{CsFault}
use Rattle.sg_base.specs.declared.faults.CsFault.TheVariants.{CsCount, PolicyMissing, PolicyValue}
use Rattle.sg_hmac.specs.Labels.{traffic_key, traffic_salt}
use Rattle.sg_mikey.specs.declared.message.CsEntry.{CsEntry}
use Rattle.sg_mikey.specs.declared.message.Tgk.{Tgk}
use Rattle.sg_mikey.specs.declared.policy.Policy.{Policy}
use Rattle.sg_csmap.specs.Policies.{protection_of}
use Rattle.sg_csmap.specs.declared.policies.Protection.{Protection}
use Rattle.sg_csmap.specs.declared.faults.CsError.{CsError}
use Rattle.sg_csmap.specs.declared.faults.CsError.TheVariants as errors
use Rattle.sg_csmap.specs.declared.sessions.StreamKeys.{StreamKeys}

-- the first policy that an entry's number names
abbrev pub policy_at : List Policy → CsEntry → Option Policy
policy_at policies entry = find (λ (p : Policy). p.number == entry.policy) policies

abbrev pub lacks_policy : List Policy → CsEntry → Bool
lacks_policy policies entry = is_none (policy_at policies entry)

-- the master key that a TGK gives in a crypto session
abbrev pub master_in : ℕ → List ℕ → ℕ → Suite → List ℕ → Master
master_in csb random session suite tgk = record {
  suite = suite;
  key = traffic_key tgk session csb random (key_len_of suite);
  salt = traffic_salt tgk session csb random;
}

-- the master keys that all TGKs give, with their MKIs
abbrev pub keys_in : ℕ → List ℕ → ℕ → Suite → List Tgk → List (Option MkiValue × Master)
keys_in csb random session suite tgks = map (λ (k : Tgk). (k.spi, master_in csb random session suite k.key)) tgks

-- what is sent in a crypto session under a protection
abbrev pub stream_keys : ℕ → List ℕ → List Tgk → ℕ → CsEntry → Protection → StreamKeys
stream_keys csb random tgks session entry p = record {
  suite = p.suite;
  keys = keys_in csb random session p.suite tgks;
  ssrc = entry.ssrc;
  roc = entry.roc;
  plain_rtp = p.plain_rtp;
  plain_rtcp = p.plain_rtcp;
}

-- what is sent in the crypto session of an entry, under the policy that it names
unfoldable pub stream_in : ℕ → List ℕ → List Policy → List Tgk → ℕ → CsEntry → Option StreamKeys
stream_in csb random policies tgks session entry = do
  policy ← policy_at policies entry
  protection ← protection_of policy
  Some (stream_keys csb random tgks session entry protection)

-- the two crypto sessions of a medium: what the initiator sends, and what the responder sends
unfoldable pub pair_in : ℕ → List ℕ → List Policy → List Tgk → ℕ → CsEntry → CsEntry → Option (StreamKeys × StreamKeys)
pair_in csb random policies tgks session i r = do
  initiator ← stream_in csb random policies tgks session i
  responder ← stream_in csb random policies tgks (session + 1) r
  Some (initiator, responder)

-- the crypto sessions from this number on, by two
unfoldable pub pairs_from : ℕ → List ℕ → List Policy → List Tgk → ℕ → List CsEntry → Option (List (StreamKeys × StreamKeys))
pairs_from csb random policies tgks session [] = Some []
pairs_from csb random policies tgks session (alone ∷ []) = Some []
pairs_from csb random policies tgks session (i ∷ r ∷ map) =
    pair_in csb random policies tgks session i r >>= λ pair.
    option_map (λ pairs. pair ∷ pairs) (pairs_from csb random policies tgks (session + 2) map)

-- a value, or a fault where there is none
abbrev pub or_fault : {X : Type 0} → CsFault → Option X → Result X CsFault
or_fault fault None = Err fault
or_fault fault (Some x) = Ok x

-- What both sides send in each of so many media, or the first cause why not: another number of crypto
-- sessions than two for each medium, a policy that is missing, a policy that isn't served.
unfoldable pub streams_of : ℕ → List ℕ → List CsEntry → List Policy → List Tgk → ℕ → Result (List (StreamKeys × StreamKeys)) CsFault
streams_of csb random map policies tgks media =
    if not (length map == 2 * media) then Err CsCount
    else if list_any (lacks_policy policies) map then Err PolicyMissing
    else or_fault PolicyValue (pairs_from csb random policies tgks 1 map)

-- the first cause of those that are told before any memory is taken
abbrev pub early_of : List CsEntry → List Policy → ℕ → Option CsFault
early_of map policies media =
    if not (length map == 2 * media) then Some CsCount
    else if list_any (lacks_policy policies) map then Some PolicyMissing
    else None

-- what a function returned is what the definition gives, unless memory ran out
abbrev pub Gives : {X : Type 0} → Result X CsError → Result X CsFault → Type 0
Gives (Ok x) is = is ≡ Ok x
Gives (Err (errors.Cs fault)) is = is ≡ Err fault
Gives (Err errors.NoMemory) is = Unit {0}

-- the same of a list
abbrev pub GivesList : {X : Type 0} → Result (Vec X) CsError → Result (List X) CsFault → Type 0
GivesList (Ok xs) is = is ≡ Ok xs.items
GivesList (Err (errors.Cs fault)) is = is ≡ Err fault
GivesList (Err errors.NoMemory) is = Unit {0}

-- out of memory is answered only where this holds
abbrev pub OnNoMemory : {X : Type 0} → Result X CsError → Type 0 → Type 0
OnNoMemory (Ok x) P = Unit {0}
OnNoMemory (Err (errors.Cs fault)) P = Unit {0}
OnNoMemory (Err errors.NoMemory) P = P
