-- The keys of a session as they stand, once it has done what it has.
use Rattle.std.specs.Prelude.{List, map}
use Rattle.sg_session.specs.Session.{Key, Session, count_of}
use Rattle.sg_session.specs.Opening.{half_in}
use Rattle.sg_keys.specs.Live.{Live}

abbrev pub live_key : Session → Key → Live
live_key s k = record { number = k.number; mki = k.mki; half = half_in s k; life = k.life; count = count_of s k }

-- every key of the session, with the session keys of its kind and its count
abbrev pub live : Session → List Live
live s = map (live_key s) s.keys
