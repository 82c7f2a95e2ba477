-- Heads of packets that are encrypted or not.
use Rattle.std.proofs.Common.{◌≡◌, ◌+◌, ℕ, Bool, true, false, List, length, Result, Ok, Err, refl, ap, ◌∙◌}
use Rattle.std.specs.Prelude.{nat_lt}
use Rattle.sg_base.specs.declared.addresses.Kind.{Kind}
use Rattle.sg_base.specs.declared.addresses.Kind.TheVariants.{Rtp, Rtcp}
use Rattle.sg_base.specs.declared.faults.DropCause.{DropCause}
use Rattle.sg_base.specs.declared.faults.DropCause.TheVariants.{Short}
use Rattle.sg_base.specs.declared.faults.HeadFault.{HeadFault}
use Rattle.sg_rtp.specs.Heads.{rtp_head, rtcp_head}
use Rattle.sg_rtp.specs.declared.heads.RtpHead.{RtpHead}
use Rattle.sg_rtp.specs.declared.heads.RtcpHead.{RtcpHead}
use Rattle.sg_session.specs.Opening.{Head, of_rtp, of_rtcp}
use Rattle.sg_session.specs.Stages.{stop_if}
use Rattle.sg_states.specs.Headers.{with_encrypting}
use Rattle.sg_states.specs.Parts.{heading, heading_out, prefix_of}

rtp_with : (e : Bool) (r : Result RtpHead HeadFault) → of_rtp e r ≡ with_encrypting e (of_rtp false r)
rtp_with e (Err f) = refl
rtp_with e (Ok h) = refl

rtcp_with : (n : ℕ) (e : Bool) (r : Result RtcpHead HeadFault) → of_rtcp n e r ≡ with_encrypting e (of_rtcp n false r)
rtcp_with n e (Err f) = refl
rtcp_with n e (Ok h) = refl

stop_with : (e b : Bool) (r : Result Head DropCause) → stop_if b Short (with_encrypting e r) ≡ with_encrypting e (stop_if b Short r)
stop_with e true r = refl
stop_with e false r = refl

-- a head of RTP that is encrypted or not says all else alike
pub heading_with : (e : Bool) (m t : ℕ) (d : List ℕ) → heading Rtp e m t d ≡ with_encrypting e (heading Rtp false m t d)
heading_with e m t d =
    ap (λ r. stop_if (nat_lt (length d) (12 + (m + t))) Short r) (rtp_with e (rtp_head (prefix_of m t d)))
    ∙ stop_with e (nat_lt (length d) (12 + (m + t))) (of_rtp false (rtp_head (prefix_of m t d)))

-- a datagram of RTCP says itself whether it is encrypted
pub heading_own : (e : Bool) (m t : ℕ) (d : List ℕ) → heading Rtcp e m t d ≡ heading Rtcp false m t d
heading_own e m t d = refl

pub heading_out_with : (kind : Kind) (e : Bool) (p : List ℕ) → heading_out kind e p ≡ with_encrypting e (heading_out kind false p)
heading_out_with Rtp e p = rtp_with e (rtp_head p)
heading_out_with Rtcp e p = rtcp_with 0 e (rtcp_head p)
