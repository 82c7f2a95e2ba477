-- What a peer seals next, and what it opens.
use Rattle.std.proofs.Common.{◌≡◌, ℕ, List, [], ◌∷◌, Option, Some, Result, Ok, Err, is_ok, refl, ap, ◌∙◌}
use Rattle.sg_base.specs.declared.addresses.Kind.{Kind}
use Rattle.sg_base.specs.declared.faults.DropCause.{DropCause}
use Rattle.sg_media.specs.Answers.{opened_of, sealed_of}
use Rattle.sg_media.specs.declared.outbound.Sealed.{Sealed}
use Rattle.sg_session.specs.Opening.{Taken}
use Rattle.sg_session.specs.Sealing.{seals}
use Rattle.sg_session.specs.Session.{Session}
use Rattle.sg_demo.specs.Callers as demo
use Rattle.sg_demo.specs.Callers.{datagrams_of, last_after, next_sealed}
use Rattle.sg_demo.specs.Packets.{packet}
use Rattle.sg_demo.specs.Standing.{CallerStandsFor}
use Rattle.sg_demo.specs.declared.caller.Caller.{Caller}
use Rattle.sg_demo.proofs.Numbers.{same_packet}

-- the packet is the peer's next one
pub is_next : (old : Caller) (c : demo.Caller) (pad : List ℕ) → CallerStandsFor old c → pad ≡ packet old.ssrc old.next → seals c.sealing pad ≡ next_sealed c
is_next old c pad stands is = ap (seals c.sealing) (is ∙ ap (λ (n : ℕ). packet n old.next) stands.ssrc ∙ same_packet c.ssrc c.next old.next stands.next)

pub sealed_gives : (s : Session) (p : List ℕ) (o : Sealed) (last : Option (List ℕ)) (r : Result Taken DropCause) → Ok o ≡ sealed_of s p r
    → (o.pad ∷ [] ≡ datagrams_of s r) × (Some o.pad ≡ last_after s last r)
sealed_gives s p o last (Ok t) is = (cc, cc)
sealed_gives s p o last (Err cause) is = (cc, cc)

pub refused_gives : (s : Session) (p : List ℕ) (e : List ℕ × DropCause) (last : Option (List ℕ)) (r : Result Taken DropCause) → Err e ≡ sealed_of s p r
    → ([] ≡ datagrams_of s r) × (last ≡ last_after s last r)
refused_gives s p e last (Ok t) is = (cc, cc)
refused_gives s p e last (Err cause) is = (refl, refl)

pub opened_ok : (kind : Kind) (d : List ℕ) (r : Result Taken DropCause) → is_ok (opened_of kind d r) ≡ is_ok r
opened_ok kind d (Ok t) = refl
opened_ok kind d (Err cause) = refl
