-- The session parameters of a crypto line (RFC 4568, sections 6.3 and 9.2).
use Rattle.std.specs.Prelude.{ℕ, List, [], ◌∷◌, drop, true, false, Option, Some, None, is_some, nat_eq, if◌then◌else◌, codes}
use Rattle.std.specs.List.{starts_with}
use Rattle.std.specs.Str.{bytes_eq}
use Rattle.sg_base.specs.Fields.{◌>>=◌}
use Rattle.sg_sdes.specs.declared.parameters.Parameters.{Parameters}
use Rattle.sg_sdes.specs.KeyTexts.{digits_at}

-- nothing was said yet
abbrev pub unsaid : Parameters
unsaid = record { rate = false; order = false; plain_rtp = false; plain_rtcp = false; window = None }

-- a window, unless one was said before
abbrev pub with_window : Parameters → List ℕ → Option Parameters
with_window said number =
    if is_some said.window then None else (digits_at number >>= λ n. Some (record said { window = Some n }))

-- What was said, and one parameter more. One that begins with a hyphen is passed over; every other may
-- be said once.
unfoldable pub with_parameter : Parameters → List ℕ → Option Parameters
with_parameter said text =
    if starts_with nat_eq text (codes "-") then Some said
    else if starts_with nat_eq text (codes "WSH=") then with_window said (drop 4 text)
    else if bytes_eq text (codes "KDR=0") then (if said.rate then None else Some (record said { rate = true }))
    else if bytes_eq text (codes "FEC_ORDER=FEC_SRTP") then (if said.order then None else Some (record said { order = true }))
    else if bytes_eq text (codes "UNENCRYPTED_SRTP") then (if said.plain_rtp then None else Some (record said { plain_rtp = true }))
    else if bytes_eq text (codes "UNENCRYPTED_SRTCP") then (if said.plain_rtcp then None else Some (record said { plain_rtcp = true }))
    else None

-- what all parameters say
unfoldable pub parameters_from : Parameters → List (List ℕ) → Option Parameters
parameters_from said [] = Some said
parameters_from said (text ∷ texts) = with_parameter said text >>= λ more. parameters_from more texts
