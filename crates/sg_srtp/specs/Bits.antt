-- How many bits an index has by its kind (RFC 3711, 3.4).
use Rattle.std.specs.Prelude.{⊤, ℕ, ◌<◌, Option, IfSome}
use Rattle.sg_base.specs.declared.addresses.Kind.{Kind}
use Rattle.sg_base.specs.declared.addresses.Kind.TheVariants.{Rtp, Rtcp}

-- of RTCP 31, where there is one
abbrev pub HasBits : Kind → Option ℕ → Type 0
HasBits Rtp index = ⊤
HasBits Rtcp index = IfSome index (λ i. i < 2147483648)
