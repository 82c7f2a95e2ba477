-- The names of suites: the raw form's own, and those of RFC 4568, 6.2, and RFC 6188, 2.
use Rattle.std.specs.Prelude.{ℕ, List, [], ◌∷◌, Option, codes}
use Rattle.std.specs.List.{find}
use Rattle.std.specs.Str.{bytes_eq}
use Rattle.sg_base.specs.declared.suites.Suite.{Suite}
use Rattle.sg_base.specs.declared.suites.Suite.TheVariants.{Raw80, Cm128Tag80, Cm128Tag32, Cm192Tag80, Cm192Tag32, Cm256Tag80, Cm256Tag32}

unfoldable pub suite_name : Suite → List ℕ
suite_name Raw80 = codes "RAW80"
suite_name Cm128Tag80 = codes "AES_CM_128_HMAC_SHA1_80"
suite_name Cm128Tag32 = codes "AES_CM_128_HMAC_SHA1_32"
suite_name Cm192Tag80 = codes "AES_192_CM_HMAC_SHA1_80"
suite_name Cm192Tag32 = codes "AES_192_CM_HMAC_SHA1_32"
suite_name Cm256Tag80 = codes "AES_256_CM_HMAC_SHA1_80"
suite_name Cm256Tag32 = codes "AES_256_CM_HMAC_SHA1_32"

abbrev pub all_suites : List Suite
all_suites = Raw80 ∷ Cm128Tag80 ∷ Cm128Tag32 ∷ Cm192Tag80 ∷ Cm192Tag32 ∷ Cm256Tag80 ∷ Cm256Tag32 ∷ []

-- the suite of that name
unfoldable pub suite_at : List ℕ → Option Suite
suite_at text = find (λ s. bytes_eq text (suite_name s)) all_suites
