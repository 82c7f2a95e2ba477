-- Octets, names of sessions and suites are what they are said to be.
use Rattle.std.proofs.Common.{◌≡◌, inl, inr, ◌%◌, [], ◌∷◌, refl, sym, ap, ◌∙◌, arith}
use Rattle.std.specs.Prelude.{codes}
use Rattle.sg_base.specs.SuiteNames.{suite_name}
use Rattle.sg_base.specs.declared.suites.Suite.{Suite}
use Rattle.sg_base.specs.declared.suites.Suite.TheVariants.{Raw80, Cm128Tag80, Cm128Tag32, Cm192Tag80, Cm192Tag32, Cm256Tag80, Cm256Tag32}
use Rattle.sg_gateway.proofs.CarriedOut.{same_call_id}
use Rattle.sg_gateway.proofs.Common.{same_id, same_name}
use Rattle.sg_gateway.proofs.Kept.{same_name_is, same_name_itself}
use Rattle.sg_gateway.proofs.Signals.{is_found}
use Rattle.sg_gateway.specs.Octets.{as_octets}
use Rattle.sg_conduct.proofs.Alone.{unknown}
use Rattle.sg_conduct.specs.Words.{CallsAreFound, DatagramsAreWhole, KeyIsAsNamed, NamesAreTheSame, OctetsAreWhole, TagIsAsNamed, WordsMean}

octets_whole : OctetsAreWhole
octets_whole [] small = refl
octets_whole (x ∷ xs) small = let lt = small.0 in let is : x % 256 ≡ x = omega (arith, lt) in (λ i. is i ∷ octets_whole xs small.1 i)

datagrams_whole : DatagramsAreWhole
datagrams_whole port from octets small = (as_octets octets, octets_whole octets small, refl)

calls_found : CallsAreFound
calls_found w id = ((λ c at. (same_call_id id c w.calls at, is_found (λ c. same_id c.id id) w.calls c at)), unknown w id)

names_same : NamesAreTheSame
names_same a b = ((λ same. same_name_is a b same), (λ is. ap (same_name a) (sym is) ∙ same_name_itself a))

tag_named : (suite : Suite) → TagIsAsNamed suite
unfolding suite_name
tag_named Raw80 = (codes "RAW", inl (refl, refl))
tag_named Cm128Tag80 = (codes "AES_CM_128_HMAC_SHA1_", inl (refl, refl))
tag_named Cm128Tag32 = (codes "AES_CM_128_HMAC_SHA1_", inr (refl, refl))
tag_named Cm192Tag80 = (codes "AES_192_CM_HMAC_SHA1_", inl (refl, refl))
tag_named Cm192Tag32 = (codes "AES_192_CM_HMAC_SHA1_", inr (refl, refl))
tag_named Cm256Tag80 = (codes "AES_256_CM_HMAC_SHA1_", inl (refl, refl))
tag_named Cm256Tag32 = (codes "AES_256_CM_HMAC_SHA1_", inr (refl, refl))

key_named : (suite : Suite) → KeyIsAsNamed suite
unfolding suite_name
key_named Raw80 = inr (inr (inr (codes "", refl, refl, refl, refl)))
key_named Cm128Tag80 = inl (codes "HMAC_SHA1_80", refl, refl, refl, refl)
key_named Cm128Tag32 = inl (codes "HMAC_SHA1_32", refl, refl, refl, refl)
key_named Cm192Tag80 = inr (inl (codes "HMAC_SHA1_80", refl, refl, refl, refl))
key_named Cm192Tag32 = inr (inl (codes "HMAC_SHA1_32", refl, refl, refl, refl))
key_named Cm256Tag80 = inr (inr (inl (codes "HMAC_SHA1_80", refl, refl, refl, refl)))
key_named Cm256Tag32 = inr (inr (inl (codes "HMAC_SHA1_32", refl, refl, refl, refl)))

pub words_mean : WordsMean
words_mean = record { octets = octets_whole; datagrams = datagrams_whole; calls = calls_found; names = names_same; tags = tag_named; keys = key_named }
