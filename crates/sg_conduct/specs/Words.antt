-- What words mean in which all else is said: octets, the same name, the call of an id, and the tag and the key of a suite.
use Rattle.std.specs.Prelude.{◌≡◌, ◌⊎◌, ◌↔◌, ◌<◌, ℕ, ◌*◌, Bool, true, false, List, [], ◌∷◌, ◌++◌, codes, Some, None}
use Rattle.std.specs.List.{AllByRecursion, Any}
use Rattle.sg_base.specs.SuiteNames.{suite_name}
use Rattle.sg_base.specs.Suites.{is_raw, key_len_of, salt_len_of, tag_len_of}
use Rattle.sg_base.specs.declared.addresses.Address.{Address}
use Rattle.sg_base.specs.declared.addresses.CallId.{CallId}
use Rattle.sg_base.specs.declared.suites.Suite.{Suite}
use Rattle.sg_gateway.specs.Events.{events_of}
use Rattle.sg_gateway.specs.Octets.{Octets, as_octets}
use Rattle.sg_gateway.specs.Step.{Datagram}
use Rattle.sg_gateway.specs.World.{Call, World, call_of}
use Rattle.sg_lines.specs.declared.lines.Line.TheVariants as lines
use Rattle.sg_session.specs.Session.{same_name}
use Rattle.sg_session.specs.declared.names.Name.{Name}

-- numbers below 256 stay, as octets, what and as many as they are
abbrev pub OctetsAreWhole : Type 0
OctetsAreWhole = (numbers : List ℕ) → AllByRecursion (λ x. x < 256) numbers → (as_octets numbers).items ≡ numbers

-- a datagram's line gives that datagram alone, with all of its octets
abbrev pub DatagramsAreWhole : Type 0
DatagramsAreWhole =
    (port : ℕ) (from : Address) (octets : List ℕ) → AllByRecursion (λ x. x < 256) octets
    → (d : Octets) × (d.items ≡ octets) × (events_of (lines.Datagram port from octets) ≡ Datagram port from d ∷ [])

-- the call of an id is there and has the id; and where there is none, no call has it
abbrev pub CallsAreFound : Type 0
CallsAreFound =
    (w : World) (id : CallId) → ((c : Call) → call_of w id ≡ Some c → (c.id ≡ id) × Any (λ x. x ≡ c) w.calls) × (call_of w id ≡ None → AllByRecursion (λ c. ¬ c.id ≡ id) w.calls)

-- a session's name is the same as another where the two are equal, and only there
abbrev pub NamesAreTheSame : Type 0
NamesAreTheSame = (a b : Name) → (same_name a b ≡ true) ↔ (a ≡ b)

-- the name of a suite ends with the bits of its tag (RFC 4568, 6.2; RFC 6188, 2)
abbrev pub TagIsAsNamed : Suite → Type 0
TagIsAsNamed suite =
    (stem : List ℕ) × (((suite_name suite ≡ stem ++ codes "80") × (tag_len_of suite * 8 ≡ 80)) ⊎ ((suite_name suite ≡ stem ++ codes "32") × (tag_len_of suite * 8 ≡ 32)))

-- the name begins so, and the key, and the salt behind it, have so many bits; and so it is raw, or encrypts
abbrev pub HasKeyOf : Suite → List ℕ → ℕ → ℕ → Bool → Type 0
HasKeyOf suite stem key salt raw =
    (end : List ℕ) × (suite_name suite ≡ stem ++ end) × (key_len_of suite * 8 ≡ key) × (salt_len_of suite * 8 ≡ salt) × (is_raw suite ≡ raw)

-- the key has as many bits as the name says, and the salt 112 (RFC 3711, 8.2); the raw form has the 160 bits of HMAC-SHA-1's key alone
abbrev pub KeyIsAsNamed : Suite → Type 0
KeyIsAsNamed suite =
    HasKeyOf suite (codes "AES_CM_128_") 128 112 false
    ⊎ (HasKeyOf suite (codes "AES_192_CM_") 192 112 false ⊎ (HasKeyOf suite (codes "AES_256_CM_") 256 112 false ⊎ HasKeyOf suite (codes "RAW80") 160 0 true))

pub record WordsMean : Type 0 where
  pub octets : OctetsAreWhole
  pub datagrams : DatagramsAreWhole
  pub calls : CallsAreFound
  pub names : NamesAreTheSame
  pub tags : (suite : Suite) → TagIsAsNamed suite
  pub keys : (suite : Suite) → KeyIsAsNamed suite
