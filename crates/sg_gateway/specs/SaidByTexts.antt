-- What a text says, by its lines (RFC 4566, 5).
use Rattle.std.specs.Prelude.{◌≡◌, ◌⊎◌, ◌≤◌, ℕ, List, [], ◌∷◌, ◌++◌, Option, Some, None, Ok, codes, decimal}
use Rattle.std.specs.List.{AllByRecursion}
use Rattle.sg_agreement.specs.CarriedTexts.{IsOneLine}
use Rattle.sg_base.specs.Fields.{Lacks}
use Rattle.sg_sdp.specs.Descriptions.{Spells, all_lines}
use Rattle.sg_sdp.specs.Reading.{description_of}
use Rattle.sg_sdp.specs.declared.medium.Medium as descriptions
use Rattle.sg_sdp.specs.declared.medium.Profile.{Profile}
use Rattle.sg_sdp.specs.declared.medium.Profile.TheVariants.{Avp, Savp, Avpf, Savpf, Other}
use Rattle.sg_sdp.specs.declared.sdp.Sdp.{Sdp}

-- a line of this letter (5)
abbrev pub HasType : List ℕ → List ℕ → Type 0
HasType letter line = (value : List ℕ) × (line ≡ letter ++ codes "=" ++ value)

abbrev pub HasNone : List ℕ → List (List ℕ) → Type 0
HasNone letter lines = AllByRecursion (λ line. ¬ HasType letter line) lines

-- ---- hosts

-- a connection line of this host: four octets in decimal, joined by full stops (5.7 and 9)
abbrev pub SaysHost : List ℕ → List ℕ → Type 0
SaysHost ip line =
    (a : ℕ) × (b : ℕ) × (c : ℕ) × (d : ℕ) × (ip ≡ a ∷ b ∷ c ∷ d ∷ []) × AllByRecursion (λ octet. octet ≤ 255) ip
    × (line ≡ codes "c=IN IP4 " ++ (decimal a ++ codes "." ++ decimal b ++ codes "." ++ decimal c ++ codes "." ++ decimal d))

-- the first connection line of a part is of this host
abbrev pub HasHost : List ℕ → List (List ℕ) → Type 0
HasHost ip [] = ⊥
HasHost ip (line ∷ lines) = SaysHost ip line ⊎ ((¬ HasType (codes "c") line) × HasHost ip lines)

-- a medium's host is by its own lines, else by those of the session part (5.7)
abbrev pub IsHostOf : Option (List ℕ) → List (List ℕ) → List (List ℕ) → Type 0
IsHostOf (Some ip) session lines = HasHost ip lines ⊎ (HasNone (codes "c") lines × HasHost ip session)
IsHostOf None session lines = HasNone (codes "c") lines × HasNone (codes "c") session

-- ---- profiles

-- by the protocol word (RFC 3551; RFC 3711, 12; RFC 4585; RFC 5124)
abbrev pub IsProfileOf : Profile → List ℕ → Type 0
IsProfileOf Avp word = word ≡ codes "RTP/AVP"
IsProfileOf Savp word = word ≡ codes "RTP/SAVP"
IsProfileOf Avpf word = word ≡ codes "RTP/AVPF"
IsProfileOf Savpf word = word ≡ codes "RTP/SAVPF"
IsProfileOf Other word =
    (¬ word ≡ codes "RTP/AVP") × (¬ word ≡ codes "RTP/SAVP") × (¬ word ≡ codes "RTP/AVPF") × (¬ word ≡ codes "RTP/SAVPF")

-- ---- texts

-- a medium, where the session part has these lines: no space is in the words of its `m=` line (5.14)
pub record IsSaidMedium (session : List (List ℕ)) (m : descriptions.Medium) : Type 0 where
  pub word : Lacks 32 m.word
  pub proto : Lacks 32 m.proto
  pub profile : IsProfileOf m.profile m.proto
  pub host : IsHostOf m.address session m.lines
  pub inner : HasNone (codes "m") m.lines

-- the text is these lines: an `m=` line begins each medium, and those before the first one are the session part's
pub record IsSaidBy (text : List ℕ) (s : Sdp) : Type 0 where
  pub lines : Spells (all_lines s) text
  pub whole : AllByRecursion IsOneLine (all_lines s)
  pub session : HasNone (codes "m") s.session
  pub media : AllByRecursion (IsSaidMedium s.session) s.media

-- what is read of a text is said by it
abbrev pub ReadingsAreSaid : Type 0
ReadingsAreSaid = (text : List ℕ) (s : Sdp) → description_of text ≡ Ok s → IsSaidBy text s
