-- The messages that the gateway sends, and what their receivers make of them.
use Rattle.std.specs.Prelude.{◌≡◌, ℕ, ◌<◌, ◌≤◌, ◌^◌, List, [], ◌∷◌, length}
use Rattle.std.specs.List.{AllByRecursion}
use Rattle.sg_mikey.specs.Spelling.{IsEntry}
use Rattle.sg_mikey.specs.declared.message.Message.{Message}
use Rattle.sg_psk.specs.Policy.{own_policy}
use Rattle.sg_psk.specs.Accepting.{Accepted}
use Rattle.sg_psk.specs.Envelope.{mac_of, response_covers}
use Rattle.sg_psk.specs.Pairs.{note, pair_of}
use Rattle.sg_psk.specs.Sending.{Sent, key_of, one_key, initial_start, initial_message, response_start, response_message}
use Rattle.sg_psk.specs.declared.pairs.Pair.{Pair}
use Rattle.sg_psk.specs.declared.replays.Noted.{Noted}

-- each length and number of a message of the gateway's own fits its field
pub record IsSendable (s : Sent) : Type 0 where
  pub csb : s.csb < 2 ^ 32
  pub random : length s.random < 2 ^ 8
  pub stamp : length s.stamp ≡ 8
  pub own : length s.pair.own < 2 ^ 16
  pub peer : length s.pair.peer < 2 ^ 16
  pub count : length s.map < 2 ^ 8
  pub entries : AllByRecursion IsEntry s.map
  pub least : 16 ≤ length (key_of s.tgks)
  pub most : length (key_of s.tgks) ≤ 64
  pub alone : s.tgks ≡ one_key (key_of s.tgks)

-- the same key, as the peer has it
abbrev pub mirrored : Pair → Pair
mirrored p = pair_of p.peer p.own p.key

-- the message whose octets are sent
abbrev pub initial_sent : Sent → Message
initial_sent s = initial_message s (mac_of s.pair.key s.csb s.random (initial_start s))

abbrev pub note_sent : Sent → Noted
note_sent s = note s.pair.own s.csb s.stamp

-- what its receiver takes it for
abbrev pub received : Sent → Accepted
received s = record {
  csb = s.csb;
  random = s.random;
  stamp = s.stamp;
  pair = mirrored s.pair;
  tgks = s.tgks;
  map = s.map;
  policies = own_policy ∷ [];
}

-- the response whose octets are sent
abbrev pub response_sent : Accepted → List ℕ → Message
response_sent a ssrcs =
    response_message a ssrcs (mac_of a.pair.key a.csb a.random (response_covers (response_start a ssrcs) a.pair.peer a.pair.own a.stamp))
