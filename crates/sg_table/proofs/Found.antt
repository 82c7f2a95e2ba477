-- The call of an id or of a port, at its position.
use Rattle.std.proofs.Common.{◌≡◌, ℕ, Bool, ◌<◌, List, [], ◌∷◌, length, get_or, Some, None, sym, ap, ◌∙◌, arith}
use Rattle.std.proofs.lemmas.List.{get_or_default}
use Rattle.std.specs.List.{position}
use Rattle.sg_base.proofs.Cases.{none_some}
use Rattle.sg_base.specs.declared.addresses.CallId.{CallId}
use Rattle.sg_call.proofs.Paired.{position_same, stands_at}
use Rattle.sg_call.specs.Standing.{CallStandsFor}
use Rattle.sg_call.specs.Values.{CallValue}
use Rattle.sg_gateway.proofs.CallList.{found_at, not_found_at}
use Rattle.sg_gateway.specs.Ports.{has_port}
use Rattle.sg_gateway.specs.World.{Call, find_call, same_id}
use Rattle.sg_leg.specs.Pairs.{EachPair}
use Rattle.sg_psk.specs.declared.pairs.Pair.{Pair}
use Rattle.sg_table.proofs.Sharing.{call_ports}
use Rattle.sg_table.specs.Found.{has_id}
use Rattle.sg_table.specs.Values.{has_call_port}

-- the call that passes a test is at this position
pub record FoundAt (pairs : List Pair) (test : Call → Bool) (calls : List CallValue) (cs : List Call) (i : ℕ) : Type 0 where
  pub call : Call
  pub within : i < length cs
  pub is_call : find_call test cs ≡ Some call
  pub at : get_or cs i call ≡ call
  pub stands : (d : CallValue) → CallStandsFor pairs (get_or calls i d) call

-- of an id
abbrev pub CallAt : List Pair → CallId → List CallValue → List Call → ℕ → Type 0
CallAt pairs id = FoundAt pairs (λ c. same_id c.id id)

module _ (pairs : List Pair) (p : CallValue → Bool) (q : Call → Bool) (same : (call : CallValue) (c : Call) → CallStandsFor pairs call c → p call ≡ q c) where
  not_found : (calls : List CallValue) (cs : List Call) → EachPair (CallStandsFor pairs) calls cs → position p calls ≡ None → find_call q cs ≡ None
  not_found calls cs h e = not_found_at q cs (sym (position_same (CallStandsFor pairs) p q same calls cs h) ∙ e)

  found : (calls : List CallValue) (cs : List Call) (i : ℕ) → EachPair (CallStandsFor pairs) calls cs → position p calls ≡ Some i → FoundAt pairs q calls cs i
  found calls [] i h e = absurd (none_some i (sym (position_same (CallStandsFor pairs) p q same calls [] h) ∙ e))
  found calls (c ∷ cs) i h e =
      let is = found_at q (c ∷ cs) i c (sym (position_same (CallStandsFor pairs) p q same calls (c ∷ cs) h) ∙ e) in
      record {
        call = get_or (c ∷ cs) i c;
        within = is.0;
        is_call = is.1;
        at = get_or_default (c ∷ cs) i (get_or (c ∷ cs) i c) c is.0;
        stands = λ d. stands_at (CallStandsFor pairs) calls (c ∷ cs) i d c h is.0;
      }

module _ (pairs : List Pair) (id : CallId) where
  same_test : (call : CallValue) (c : Call) → CallStandsFor pairs call c → has_id id call ≡ same_id c.id id
  same_test call c h = ap (λ (i : CallId). same_id i id) (sym h.id_is)

  pub none_at : (calls : List CallValue) (cs : List Call) → EachPair (CallStandsFor pairs) calls cs → position (has_id id) calls ≡ None → find_call (λ c. same_id c.id id) cs ≡ None
  none_at = not_found pairs (has_id id) (λ c. same_id c.id id) same_test

  pub call_at : (calls : List CallValue) (cs : List Call) (i : ℕ) → EachPair (CallStandsFor pairs) calls cs → position (has_id id) calls ≡ Some i → CallAt pairs id calls cs i
  call_at = found pairs (has_id id) (λ c. same_id c.id id) same_test

module _ (pairs : List Pair) (port : ℕ) where
  pub no_port : (calls : List CallValue) (cs : List Call) → EachPair (CallStandsFor pairs) calls cs → position (has_call_port port) calls ≡ None → find_call (has_port port) cs ≡ None
  no_port = not_found pairs (has_call_port port) (has_port port) (call_ports pairs port)

  pub port_at : (calls : List CallValue) (cs : List Call) (i : ℕ) → EachPair (CallStandsFor pairs) calls cs → position (has_call_port port) calls ≡ Some i → FoundAt pairs (has_port port) calls cs i
  port_at = found pairs (has_call_port port) (has_port port) (call_ports pairs port)
