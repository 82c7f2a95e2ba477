-- The parts of a message's chain (RFC 3830, 6).
use Rattle.std.specs.Prelude.{◌≡◌, ℕ, List, [], ◌∷◌, Option, Some, None, replicate}
use Rattle.sg_mikey.specs.declared.payload.Payload.{Payload}
use Rattle.sg_mikey.specs.declared.payload.Payload.TheVariants.{Time, Random, Id, Sp, Extension, Kemac, Verify}
use Rattle.sg_mikey.specs.declared.policy.Policy.{Policy}

-- the stamp of its T, which every message has (6.6)
unfoldable pub stamp_in : List Payload → List ℕ
stamp_in [] = replicate 8 0
stamp_in (Time form stamp ∷ ps) = stamp
stamp_in (Random octets ∷ ps) = stamp_in ps
stamp_in (Id form name ∷ ps) = stamp_in ps
stamp_in (Sp policy ∷ ps) = stamp_in ps
stamp_in (Extension form octets ∷ ps) = stamp_in ps
stamp_in (Kemac cipher octets mac tag ∷ ps) = stamp_in ps
stamp_in (Verify mac tag ∷ ps) = stamp_in ps

-- the octets of its RAND (6.11)
unfoldable pub random_in : List Payload → List ℕ
random_in [] = []
random_in (Random octets ∷ ps) = octets
random_in (Time form stamp ∷ ps) = random_in ps
random_in (Id form name ∷ ps) = random_in ps
random_in (Sp policy ∷ ps) = random_in ps
random_in (Extension form octets ∷ ps) = random_in ps
random_in (Kemac cipher octets mac tag ∷ ps) = random_in ps
random_in (Verify mac tag ∷ ps) = random_in ps

-- the names of its IDs in order (6.7)
unfoldable pub names_in : List Payload → List (List ℕ)
names_in [] = []
names_in (Id form name ∷ ps) = name ∷ names_in ps
names_in (Time form stamp ∷ ps) = names_in ps
names_in (Random octets ∷ ps) = names_in ps
names_in (Sp policy ∷ ps) = names_in ps
names_in (Extension form octets ∷ ps) = names_in ps
names_in (Kemac cipher octets mac tag ∷ ps) = names_in ps
names_in (Verify mac tag ∷ ps) = names_in ps

-- the first name with the payloads behind it, or that there is none
abbrev pub NextName : List Payload → Option (List ℕ × List Payload) → Type 0
NextName ps None = names_in ps ≡ []
NextName ps (Some next) = names_in ps ≡ next.0 ∷ names_in next.1

-- its policies in order (6.10)
unfoldable pub policies_in : List Payload → List Policy
policies_in [] = []
policies_in (Sp policy ∷ ps) = policy ∷ policies_in ps
policies_in (Time form stamp ∷ ps) = policies_in ps
policies_in (Random octets ∷ ps) = policies_in ps
policies_in (Id form name ∷ ps) = policies_in ps
policies_in (Extension form octets ∷ ps) = policies_in ps
policies_in (Kemac cipher octets mac tag ∷ ps) = policies_in ps
policies_in (Verify mac tag ∷ ps) = policies_in ps

-- what closes a chain: a cipher and the octets under it, which a V hasn't, and a MAC (6.2 and 6.9)
pub record Closing : Type 0 where
  pub cipher : ℕ
  pub octets : List ℕ
  pub mac : ℕ
  pub tag : List ℕ

abbrev pub closing : ℕ → List ℕ → ℕ → List ℕ → Closing
closing cipher octets mac tag = record { cipher = cipher; octets = octets; mac = mac; tag = tag }

unfoldable pub closing_in : List Payload → Closing
closing_in [] = closing 0 [] 0 []
closing_in (Kemac cipher octets mac tag ∷ ps) = closing cipher octets mac tag
closing_in (Verify mac tag ∷ ps) = closing 0 [] mac tag
closing_in (Time form stamp ∷ ps) = closing_in ps
closing_in (Random octets ∷ ps) = closing_in ps
closing_in (Id form name ∷ ps) = closing_in ps
closing_in (Sp policy ∷ ps) = closing_in ps
closing_in (Extension form octets ∷ ps) = closing_in ps
