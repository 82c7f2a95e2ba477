-- Where a capture begins behind a script, and what is met of one that is cut off or damaged.
use Rattle.std.specs.Prelude.{◌≡◌, ◌≤◌, ◌<◌, ◌+◌, ◌^◌, ℕ, List, [], ◌∷◌, ◌++◌, length, map, drop, codes, Some}
use Rattle.std.specs.List.{AllByRecursion}
use Rattle.sg_gateway.specs.Runs.{world_after}
use Rattle.sg_gateway.specs.World.{empty}
use Rattle.sg_pcap.specs.Capture.{Captured}
use Rattle.sg_pcap.specs.Readings.{IsOfVersion}
use Rattle.sg_pcap.specs.Written.{FitsHeader, FitsTaken, Header, Taken, capture_written, four, header_written, moment_taken, record_written}
use Rattle.sg_pcap.specs.declared.faults.CaptureFault.{CaptureFault}
use Rattle.sg_pcap.specs.declared.faults.CaptureFault.TheVariants.{Cut, Length, Magic}
use Rattle.sg_pcap.specs.declared.header.Form.{Form}
use Rattle.sg_trace.specs.Captured.{Happens, InCapture, capture_occurs, captured, script_of}
use Rattle.sg_trace.specs.Trace.{AtCapture, AtEnd, replayed}

-- ---- where a capture begins

-- whole lines, one at least
abbrev pub AreLines : List ℕ → Type 0
AreLines octets = (before : List ℕ) × (octets ≡ before ++ codes "\n")

-- Right behind a line `capture` a capture begins, and what the lines before it give stays as it was.
pub record BeginsBehind (lines rest draws : List ℕ) : Type 0 where
  pub stop : (script_of (lines ++ codes "capture\n" ++ rest) draws).stop ≡ AtCapture (length lines + 8)
  pub events : (script_of (lines ++ codes "capture\n" ++ rest) draws).events ≡ (replayed lines draws).events
  pub left : (script_of (lines ++ codes "capture\n" ++ rest) draws).left ≡ (replayed lines draws).left

-- Whatever stands behind it, it begins so behind every script that a replay plays to its end.
abbrev pub CapturesBegin : Type 0
CapturesBegin = (lines rest draws : List ℕ) → AreLines lines → (replayed lines draws).stop ≡ AtEnd → length lines + 8 ≤ 2 ^ 30 → BeginsBehind lines rest draws

-- ---- where a capture is damaged

-- These records come, and nothing else, and the fault is told with its offset in the capture.
pub record IsMetUpTo (octets draws : List ℕ) (records : List Captured) (fault : ℕ × CaptureFault) : Type 0 where
  pub occurs : (captured octets draws).occurrences ≡ map Happens (script_of octets draws).events ++ capture_occurs (world_after empty (script_of octets draws).events).moment records
  pub stop : (captured octets draws).stop ≡ InCapture (Some fault)

-- the first four octets of a capture: a1b2c3d4 or a1b23c4d, or one of them backwards
abbrev pub magic_words : List (List ℕ)
magic_words = (161 ∷ 178 ∷ 195 ∷ 212 ∷ []) ∷ (212 ∷ 195 ∷ 178 ∷ 161 ∷ []) ∷ (161 ∷ 178 ∷ 60 ∷ 77 ∷ []) ∷ (77 ∷ 60 ∷ 178 ∷ 161 ∷ []) ∷ []

-- behind the script stands this capture, whose records are whole, and behind it stand these octets
pub record StandsBehind (octets draws : List ℕ) (at : ℕ) (form : Form) (h : Header) (ts : List Taken) (rest : List ℕ) : Type 0 where
  pub begins : (script_of octets draws).stop ≡ AtCapture at
  pub is : drop at octets ≡ capture_written form h ts ++ rest
  pub fits : FitsHeader h
  pub version : IsOfVersion h
  pub link : h.link ≡ 1
  pub fit : AllByRecursion FitsTaken ts

-- Octets that begin with no magic number are no capture. Where a capture ends within its header or within a record, or where a record
-- says that more than 262,144 octets of it were captured, the records before come, and that is told.
pub record DamageIsTold (octets draws : List ℕ) : Type 0 where
  pub magic : (at : ℕ) (word rest : List ℕ) → (script_of octets draws).stop ≡ AtCapture at → drop at octets ≡ word ++ rest → at + 4 ≤ 2 ^ 30
      → length word ≡ 4 → AllByRecursion (λ octet. octet < 256) word → AllByRecursion (λ magic. ¬ (word ≡ magic)) magic_words → IsMetUpTo octets draws [] (0, Magic)
  pub header : (at : ℕ) (form : Form) (h : Header) (part more : List ℕ) → (script_of octets draws).stop ≡ AtCapture at → drop at octets ≡ part → at + length part ≤ 2 ^ 30
      → header_written form h ≡ part ++ more → ¬ (more ≡ []) → FitsHeader h → IsOfVersion h → IsMetUpTo octets draws [] (length part, Cut)
  pub cut : (at : ℕ) (form : Form) (h : Header) (ts : List Taken) (t : Taken) (part more : List ℕ) → StandsBehind octets draws at form h ts part → at + length (capture_written form h ts ++ part) ≤ 2 ^ 30
      → record_written form t ≡ part ++ more → ¬ (part ≡ []) → ¬ (more ≡ []) → FitsTaken t
      → IsMetUpTo octets draws (map (moment_taken form) ts) (length (capture_written form h ts) + length part, Cut)
  pub long : (at : ℕ) (form : Form) (h : Header) (ts : List Taken) (seconds fraction captured : ℕ) (rest : List ℕ)
      → StandsBehind octets draws at form h ts (four form.big seconds ++ four form.big fraction ++ four form.big captured ++ rest)
      → at + length (capture_written form h ts) + 12 ≤ 2 ^ 30 → seconds < 2 ^ 32 → fraction < 2 ^ 32 → captured < 2 ^ 32 → 262144 < captured
      → IsMetUpTo octets draws (map (moment_taken form) ts) (length (capture_written form h ts) + 8, Length)
