-- A call that is keyed manually is made and live, by its line alone: when its keys can come into use, and which sessions it has.
use Rattle.std.specs.Prelude.{◌≡◌, ◌<◌, ◌≤◌, ℕ, ◌+◌, ◌^◌, max, min, false, List, [], ◌∷◌, length, Some, None}
use Rattle.std.specs.List.{All, AllByRecursion}
use Rattle.sg_agreement.specs.Manual.{ManualCall}
use Rattle.sg_base.specs.Keys.{Master}
use Rattle.sg_base.specs.Suites.{is_raw}
use Rattle.sg_base.specs.declared.addresses.Kind.{Kind}
use Rattle.sg_base.specs.declared.addresses.Kind.TheVariants.{Rtp, Rtcp}
use Rattle.sg_base.specs.declared.sources.Admit.TheVariants as admit
use Rattle.sg_kdf.specs.SessionKeys.{session_keys}
use Rattle.sg_outcome.specs.declared.outcomes.Outcome.TheVariants.{Made, Live}
use Rattle.sg_session.specs.Ring.{Installed}
use Rattle.sg_session.specs.Session.{Session}
use Rattle.sg_session.specs.declared.names.Direction.{Direction}
use Rattle.sg_session.specs.declared.names.Direction.TheVariants.{Opening, Sealing}
use Rattle.sg_gateway.specs.CryptoSessions.{life_of, tag_octets}
use Rattle.sg_gateway.specs.Lasting.{is_encrypted, key_towards}
use Rattle.sg_gateway.specs.Runs.{Turn, turns, after_turn}
use Rattle.sg_gateway.specs.Signals.{Manual, new_call}
use Rattle.sg_gateway.specs.Step.{Event, Signalled}
use Rattle.sg_gateway.specs.World.{Call, call_of}

-- ---- keys that can come into use

-- the keys under which a master key has packets encrypted (RFC 3711, 4.3); none in the raw form
abbrev pub cipher_keys : Master → List (List ℕ)
cipher_keys m = (session_keys m).rtp.encrypt ∷ ((session_keys m).rtcp.encrypt ∷ [])

-- the two master keys differ, and so do the encryption keys that are derived of them (9.1); all else may be equal
pub record AreApart (a b : Master) : Type 0 where
  pub masters : ¬ a.key ≡ b.key
  pub ciphers : AllByRecursion (λ x. AllByRecursion (λ y. x ≡ y → x ≡ []) (cipher_keys b)) (cipher_keys a)

-- the key of RTP and that of RTCP differ
abbrev pub IsApartInItself : Master → Type 0
IsApartInItself m = (session_keys m).rtp.encrypt ≡ (session_keys m).rtcp.encrypt → (session_keys m).rtp.encrypt ≡ []

-- neither of the line's keys was in use, they are apart, and there is room for both
pub record AreFree (ring : List Installed) (h : ManualCall) : Type 0 where
  pub from_peer : AllByRecursion (λ k. AreApart k.master h.from_peer) ring
  pub to_peer : AllByRecursion (λ k. AreApart k.master h.to_peer) ring
  pub apart : AreApart h.from_peer h.to_peer
  pub from_itself : IsApartInItself h.from_peer
  pub to_itself : IsApartInItself h.to_peer
  pub room : length ring + 2 ≤ 65536

-- ---- sessions

-- the window that the line says, of 64 to 1,024 indices, where packets are opened; 1,024 where they are sealed
abbrev pub window_towards : Direction → ManualCall → ℕ
window_towards Opening h = max 64 (min h.window 1024)
window_towards Sealing h = 1024

-- The session of this direction and kind in the call of this number, under the line's key of that direction by this number:
-- without an MKI, for 2^48 packets of RTP and 2^31 of RTCP (9.2), from any source, with tags of its suite.
abbrev pub session_by : ManualCall → ℕ → ℕ → Direction → Kind → Session
session_by h call number direction kind = record {
  name = record { owner = record { call = call; medium = 0; generation = 0; direction = direction }; kind = kind };
  keys = record { number = number; master = key_towards direction h; mki = []; life = life_of kind (2 ^ 48) } ∷ [];
  roc = h.roc;
  window = window_towards direction h;
  admit = admit.Any;
  encrypts = is_encrypted kind (key_towards direction h);
  tag_len = tag_octets kind (key_towards direction h).suite;
  secure = h.secure;
  plain = h.plain;
  done = [];
}

-- there is RTCP, unless a key is raw, or a side has no port behind that of RTP (RFC 3550, 11)
pub record HasControl (h : ManualCall) : Type 0 where
  pub from_peer : is_raw h.from_peer.suite ≡ false
  pub to_peer : is_raw h.to_peer.suite ≡ false
  pub secure : h.secure.port < 65535
  pub plain : h.plain.port < 65535

-- these are the sessions, where the next key's number is n
pub record AreByLine (h : ManualCall) (call n : ℕ) (sessions : List Session) : Type 0 where
  pub with_control : HasControl h
      → sessions ≡ session_by h call n Opening Rtp ∷ (session_by h call n Opening Rtcp ∷ (session_by h call (n + 1) Sealing Rtp ∷ (session_by h call (n + 1) Sealing Rtcp ∷ [])))
  pub without : ¬ HasControl h → sessions ≡ session_by h call n Opening Rtp ∷ (session_by h call (n + 1) Sealing Rtp ∷ [])

-- A call that is keyed manually is made and live, without an open offer, where its id is of no call, fewer than 256 calls are
-- there and its keys can come into use. `MarksStay` says that it is marked, and so refuses each offer (`IsBarred`).
abbrev pub ManualIsTaken : Turn → Type 0
ManualIsTaken t =
    (h : ManualCall) → t.event ≡ Signalled (Manual h) → call_of t.before h.id ≡ None → length t.before.calls < 256 → AreFree t.before.books.ring h
    → (t.outcomes ≡ Made h.id (new_call t.before h.id).slot 1 ∷ (Live h.id ∷ []))
    × ((d : Call) × (call_of (after_turn t) h.id ≡ Some d) × (d.generations ≡ 1) × (d.offer ≡ None)
    × AreByLine h t.before.made (length t.before.books.ring) d.sessions)

abbrev pub ManualCallsAreTaken : List Event → Type 0
ManualCallsAreTaken events = All ManualIsTaken (turns events)
