-- A line more of a description.
use Rattle.std.specs.Prelude.{ℕ, zero, suc, ◌-◌, List, [], ◌∷◌, ◌++◌, length, ◌==◌, if◌then◌else◌}
use Rattle.sg_sdp.specs.declared.medium.Medium.{Medium}
use Rattle.sg_sdp.specs.declared.sdp.Sdp.{Sdp}

-- the medium at that place has the line last
unfoldable pub with_line_at : ℕ → List ℕ → List Medium → List Medium
with_line_at i line [] = []
with_line_at zero line (m ∷ ms) = record m { lines = m.lines ++ line ∷ [] } ∷ ms
with_line_at (suc i) line (m ∷ ms) = m ∷ with_line_at i line ms

abbrev pub with_session_line : List ℕ → Sdp → Sdp
with_session_line line s = record { session = s.session ++ line ∷ []; media = s.media }

abbrev pub with_media_line : ℕ → List ℕ → Sdp → Sdp
with_media_line medium line s = record { session = s.session; media = with_line_at medium line s.media }

-- the line stands last in the part that is open: the last medium, or else the session part
unfoldable pub with_last_line : List ℕ → Sdp → Sdp
with_last_line line s = if length s.media == 0 then with_session_line line s else with_media_line (length s.media - 1) line s

abbrev pub with_medium : Medium → Sdp → Sdp
with_medium m s = record { session = s.session; media = s.media ++ m ∷ [] }
