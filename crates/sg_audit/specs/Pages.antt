-- The auditor's pages, each of its own.
use Rattle.std.specs.Prelude.{List}
use Rattle.sg_audit.specs.Agreed.{KeysAreOf}
use Rattle.sg_audit.specs.Audit.{IsAudited}
use Rattle.sg_audit.specs.Seen.{Seen}
use Rattle.sg_audit.specs.Stay.{OpenSessionsStay}
use Rattle.sg_audit.specs.There.{SessionsAreOpen}

-- what becomes of packets; that the sessions that they need are open, and stay so; and whose the keys of these are
pub record AuditorsPages (seen : List Seen) : Type 0 where
  pub audited : IsAudited seen
  pub are_open : SessionsAreOpen seen
  pub stay : OpenSessionsStay seen
  pub keys : KeysAreOf seen
