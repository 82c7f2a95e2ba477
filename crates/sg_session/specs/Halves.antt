-- The session keys of one kind (RFC 3711, 4.3.1 and 4.3.2).
use Rattle.sg_base.specs.declared.addresses.Kind.{Kind}
use Rattle.sg_base.specs.declared.addresses.Kind.TheVariants.{Rtp, Rtcp}
use Rattle.sg_base.specs.declared.keys.HalfKeys.{HalfKeys}
use Rattle.sg_base.specs.declared.keys.SessionKeys.{SessionKeys}

abbrev pub half_of : Kind → SessionKeys → HalfKeys
half_of Rtp keys = keys.rtp
half_of Rtcp keys = keys.rtcp
