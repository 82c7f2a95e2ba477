-- What reading a capture part by part gives.
use Rattle.std.specs.Prelude.{◌≡◌, ◌⊎◌, ◌<◌, ◌≤◌, ◌+◌, max, ℕ, List, [], ◌++◌, length, Option, Some, None, Result, Ok, Err, ⊤}
use Rattle.sg_edge.specs.Told.{AtEnd, Tally}
use Rattle.sg_pcap.specs.Capture.{Capture, capture_of, faulty, header_within, records_in, record_within}
use Rattle.sg_pcap.specs.Records.{record_length}
use Rattle.sg_pcap.specs.declared.faults.CaptureFault.{CaptureFault}
use Rattle.sg_pcap.specs.declared.faults.CaptureFault.TheVariants.{Cut}
use Rattle.sg_pcap.specs.declared.header.Form.{Form}
use Rattle.sg_pcap.specs.declared.records.Record.{Record}
use Rattle.sg_trace.specs.Fed.{MovesPart}
use Rattle.sg_trace.specs.declared.status.Status.{Status}
use Rattle.sg_trace.specs.declared.status.Status.TheVariants as statuses

-- What waited and came was moved behind what the part had, or waits.
abbrev pub Moves : List ℕ → List ℕ → List ℕ → List ℕ → List ℕ → Type 0
Moves waited got waits had has = (moved : List ℕ) × MovesPart (waited ++ got) waits had has moved

-- The part has so many octets, or nothing waits at the end of the source or of the budget.
abbrev pub HasPart : {E : Type 0} → Result (Unit {0}) E → ℕ → List ℕ → List ℕ → List ℕ → List ℕ → List ℕ → Tally → ℕ → Type 0
HasPart (Ok u) count had has waited waits got left budget =
    Moves waited got waits had has × (length has ≤ max count (length had)) × ((count ≤ length has) ⊎ ((waits ≡ []) × (AtEnd left ⊎ (budget ≡ 0))))
HasPart (Err e) count had has waited waits got left budget = Moves waited got waits had has

-- The same of a record: the part has as many octets as it has, or nothing waits.
abbrev pub HasRecord : {E : Type 0} → Form → Result (Unit {0}) E → List ℕ → List ℕ → List ℕ → List ℕ → Tally → ℕ → Type 0
HasRecord form (Ok u) has waited waits got left budget =
    (waited ++ got ≡ has ++ waits) × (length has ≤ record_length form has) × ((record_length form has ≤ length has) ⊎ ((waits ≡ []) × (AtEnd left ⊎ (budget ≡ 0))))
HasRecord form (Err e) has waited waits got left budget = waited ++ got ≡ has ++ waits

-- how far a capture is read: what waits, the header or record that was read last, the offset behind it, how many octets
-- of the capture count, and how many may still be asked for
pub record Capturing : Type 0 where
  pub waits : List ℕ
  pub part : List ℕ
  pub at : ℕ
  pub most : ℕ
  pub budget : ℕ

-- What these octets give, which `reads` says, has no record, and this fault. It is so whatever would come behind; Cut is
-- told only at the source's end.
pub record IsCaptureFault (reads : List ℕ → Capture) (octets : List ℕ) (fault : ℕ × CaptureFault) (left : Tally) : Type 0 where
  pub first : reads octets ≡ faulty fault
  pub ended : fault.1 ≡ Cut → AtEnd left
  pub still : ¬ (fault.1 ≡ Cut) → (more : List ℕ) → reads (octets ++ more) ≡ faulty fault

-- A part was read, of which each octet counts.
pub record IsPart (old new : Capturing) (got : List ℕ) (size : ℕ) : Type 0 where
  pub split : old.waits ++ got ≡ new.part ++ new.waits
  pub whole : length new.part ≡ size
  pub at : new.at ≡ old.at + size
  pub within : new.at ≤ old.most

-- The header, or its first fault. Where the source failed, what was read gives no record.
abbrev pub IsHeaderRead : Result Form Status → Capturing → Capturing → List ℕ → Tally → Type 0
IsHeaderRead (Ok form) old new got left = IsPart old new got 24 × (header_within old.most new.part ≡ Ok form)
IsHeaderRead (Err (statuses.Capture offset fault)) old new got left = IsCaptureFault (capture_of old.most) (old.waits ++ got) (offset, fault) left
IsHeaderRead (Err statuses.Read) old new got left = (capture_of old.most (old.waits ++ got)).records ≡ []
IsHeaderRead (Err statuses.NoMemory) old new got left = ⊤
IsHeaderRead (Err other) old new got left = ⊥

-- The next record; none at the end, or where the octets that count are behind; or the record's first fault. Where the source
-- failed, what was read since the last record is no whole one.
abbrev pub IsRecordRead : Form → Result (Option Record) Status → Capturing → Capturing → List ℕ → Tally → Type 0
IsRecordRead form (Ok (Some r)) old new got left = IsPart old new got (16 + r.length) × (record_within old.most form old.at new.part ≡ Ok r)
IsRecordRead form (Ok None) old new got left = (old.waits ++ got ≡ []) × (AtEnd left ⊎ (old.most < old.at))
IsRecordRead form (Err (statuses.Capture offset fault)) old new got left = IsCaptureFault (records_in old.most form old.at) (old.waits ++ got) (offset, fault) left
IsRecordRead form (Err statuses.Read) old new got left = (records_in old.most form old.at (old.waits ++ got)).records ≡ []
IsRecordRead form (Err statuses.NoMemory) old new got left = ⊤
IsRecordRead form (Err other) old new got left = ⊥
