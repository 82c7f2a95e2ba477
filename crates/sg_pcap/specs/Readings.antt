-- Captures are read as they were written.
use Rattle.std.specs.Prelude.{◌≡◌, ◌≤◌, ℕ, List, ◌++◌, length, map, None}
use Rattle.std.specs.List.{AllByRecursion}
use Rattle.sg_pcap.specs.Capture.{capture_of, faulty}
use Rattle.sg_pcap.specs.Written.{FitsHeader, FitsTaken, Header, Taken, capture_written, header_written, moment_taken}
use Rattle.sg_pcap.specs.declared.faults.CaptureFault.TheVariants.{Version, LinkType}
use Rattle.sg_pcap.specs.declared.header.Form.{Form}

-- version 2.4
pub record IsOfVersion (h : Header) : Type 0 where
  pub major : h.major ≡ 2
  pub minor : h.minor ≡ 4

-- Of a capture, of which so many octets count: all that was taken, at its moment, each once and in its order; and no other
-- version is read, nor another link than Ethernet, which is 1.
pub record CapturesAreRead (most : ℕ) (form : Form) (h : Header) : Type 0 where
  pub whole : (ts : List Taken) → IsOfVersion h → h.link ≡ 1 → AllByRecursion FitsTaken ts → length (capture_written form h ts) ≤ most
      → capture_of most (capture_written form h ts) ≡ record { records = map (moment_taken form) ts; fault = None }
  pub version : (rest : List ℕ) → 24 ≤ most → ¬ IsOfVersion h → capture_of most (header_written form h ++ rest) ≡ faulty (4, Version)
  pub link : (rest : List ℕ) → 24 ≤ most → IsOfVersion h → ¬ (h.link ≡ 1) → capture_of most (header_written form h ++ rest) ≡ faulty (20, LinkType)
