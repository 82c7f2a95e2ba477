-- How a message is protected under a pre-shared key (RFC 3830, 3.1, 4.2.3, 4.2.4 and 5.2).
use Rattle.std.specs.Prelude.{ℕ, ◌*◌, ◌-◌, ◌^◌, List, ◌∷◌, ◌++◌, length, take}
use Rattle.sg_base.specs.Octets.{be, number_of, xor_octets}
use Rattle.sg_hmac.specs.Hmac.{hmac_sha1}
use Rattle.sg_hmac.specs.Labels.{encryption_key, authentication_key, message_salt}
use Rattle.sg_ctr.specs.Keystream.{counter_stream}

-- a message without the 20 octets of the MAC at its end
abbrev pub before_mac : List ℕ → List ℕ
before_mac octets = take (length octets - 20) octets

-- The first counter of AES in counter mode: the salt, with two zeros, the bundle's number and the stamp on
-- it by XOR, 16 bits up (4.2.3).
abbrev pub message_counter : List ℕ → ℕ → List ℕ → List ℕ → ℕ
message_counter key csb random stamp = number_of (xor_octets (message_salt key csb random) (0 ∷ 0 ∷ (be csb 4 ++ stamp))) * 2 ^ 16

-- The octets under the cipher. Twice done, it gives them back.
unfoldable pub enciphered : List ℕ → ℕ → List ℕ → List ℕ → List ℕ → List ℕ
enciphered key csb random stamp octets =
    xor_octets octets (counter_stream (encryption_key key csb random) (message_counter key csb random stamp) (length octets))

-- the MAC of a text under a pre-shared key (4.2.4)
unfoldable pub mac_of : List ℕ → ℕ → List ℕ → List ℕ → List ℕ
mac_of key csb random text = hmac_sha1 (authentication_key key csb random) text

-- The MAC of the initiator's message covers all before it. That of the response covers all before it, and
-- then the initiator's name, the responder's name and the initiator's stamp (5.2).
abbrev pub response_covers : List ℕ → List ℕ → List ℕ → List ℕ → List ℕ
response_covers text initiator responder stamp = text ++ (initiator ++ (responder ++ stamp))
