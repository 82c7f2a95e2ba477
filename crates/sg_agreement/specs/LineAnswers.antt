-- What a medium of an answer agrees by crypto lines (RFC 4568, 5.1.2 and 5.1.3).
use Rattle.std.specs.Prelude.{ℕ, List, [], ◌∷◌, Option, Some, None, Result, Ok, Err}
use Rattle.sg_base.specs.declared.faults.SdesFault.{SdesFault}
use Rattle.sg_base.specs.declared.faults.SdesFault.TheVariants.{NoLine}
use Rattle.sg_base.specs.declared.faults.Refusal.{Refusal}
use Rattle.sg_sdes.specs.Answers.{answer_by, matched}
use Rattle.sg_sdes.specs.declared.lines.CryptoLine.{CryptoLine}
use Rattle.sg_sdp.specs.declared.medium.Medium as descriptions
use Rattle.sg_session.specs.Stages.{after_ok}
use Rattle.sg_agreement.specs.Attributes.{crypto_values, first_of}
use Rattle.sg_agreement.specs.CarriedTexts.{crypto_attribute}
use Rattle.sg_agreement.specs.Keyed.{Keyed}
use Rattle.sg_agreement.specs.Offers.{noise_of}
use Rattle.sg_agreement.specs.Refusals.{of_sdes}
use Rattle.sg_agreement.specs.Streams.{stream_of_line, window_of}

-- ---- the peer offered

-- the peer's line and the gateway's answer to it, which is added to the medium
abbrev pub keyed_by_answer : CryptoLine → CryptoLine → Keyed
keyed_by_answer peer own = record {
  from_peer = stream_of_line peer peer;
  to_peer = stream_of_line peer own;
  window = window_of peer.window;
  lines = crypto_attribute own ∷ [];
}

abbrev pub keyed_by_peer_line : List ℕ → ℕ → CryptoLine → descriptions.Medium → Result Keyed Refusal
keyed_by_peer_line noise k peer n = Ok (keyed_by_answer peer (answer_by peer (noise_of k noise)))

-- ---- the gateway offered

-- the first line of the answer's medium is the peer's, and names one of those that were offered
abbrev pub lines_matched : List CryptoLine → Option (List ℕ) → Result (CryptoLine × CryptoLine) SdesFault
lines_matched offered None = Err NoLine
lines_matched offered (Some value) = matched offered value

-- the gateway's line, and the peer's answer to it
abbrev pub keyed_by_matched : CryptoLine × CryptoLine → Keyed
keyed_by_matched lines = record {
  from_peer = stream_of_line lines.1 lines.1;
  to_peer = stream_of_line lines.1 lines.0;
  window = window_of lines.1.window;
  lines = [];
}

abbrev pub keyed_by_own_lines : ℕ → List CryptoLine → descriptions.Medium → Result Keyed Refusal
keyed_by_own_lines k offered n =
    after_ok (of_sdes k (lines_matched offered (first_of (crypto_values n.lines)))) (λ lines. Ok (keyed_by_matched lines))
