-- What is lost shows its cause.
use Rattle.std.proofs.Common.{◌≡◌, inl, inr, ℕ, ◌+◌, Bool, true, false, cond, List, [], ◌∷◌, ◌++◌, Option, Some, None, refl, sym, ap, ◌∙◌, subst, arith, eqb, leb, ltb}
use Rattle.std.proofs.lemmas.Bool.{and_from, and_parts, eq-eqb, eqb-true, false≢true, le-leb, leb-true, lt-ltb, ltb-true}
use Rattle.std.proofs.lemmas.List.Elements.{All-from_recursion, recursion_from_All}
use Rattle.std.specs.List.{AllByRecursion, Any}
use Rattle.std.specs.Prelude.{◌&&◌, option_and_then}
use Rattle.sg_base.specs.declared.addresses.Address.{Address}
use Rattle.sg_base.specs.declared.faults.DropCause.{DropCause}
use Rattle.sg_conduct.specs.Drops.{DropShowsCause, DropsShowCauses, IsPortOf}
use Rattle.sg_gateway.proofs.InTurn.{found_passes}
use Rattle.sg_gateway.proofs.Ordered.{not_found}
use Rattle.sg_gateway.proofs.Signals.{is_found}
use Rattle.sg_gateway.specs.Generations.{is_current, is_opening}
use Rattle.sg_gateway.specs.Legs.{plain_leg_address, plain_leg_port}
use Rattle.sg_gateway.specs.Octets.{as_octets}
use Rattle.sg_gateway.specs.PlainOf.{plain_at, plain_in, plain_of}
use Rattle.sg_gateway.specs.Ports.{call_at, has_port, port_at}
use Rattle.sg_gateway.specs.Runs.{Turn, turn_of, turns_from, world_after}
use Rattle.sg_gateway.specs.Step.{Event, step}
use Rattle.sg_gateway.specs.World.{Call, World, empty}
use Rattle.sg_session.proofs.Lists.{any_here, any_there, any_weaker, each_weaker}
use Rattle.sg_session.specs.Session.{Session, same_direction}
use Rattle.sg_session.specs.declared.names.Direction.{Direction}
use Rattle.sg_session.specs.declared.names.Direction.TheVariants.{Opening, Sealing}
use Rattle.sg_pairs.specs.Bridged.{Bridging, Said, bridgings}
use Rattle.sg_pairs.specs.Happening.{ComesBehind, EachComesBehind}
use Rattle.sg_pairs.specs.Lost.{EachLostIsRefused, IsLost, LosesOnlySo, inner_of}
use Rattle.sg_pairs.specs.LostCauses.{EachLostShowsCause, HasNoPlain, HasPlain, LosesByCause, LostShows, PutsOutBy}
use Rattle.sg_pairs.specs.Pairs.{Members, no_members}

-- ---- the plain address at a port

is_port : (port : ℕ) (c : Call) → has_port port c ≡ true → IsPortOf port c
is_port port c at =
    let parts = and_parts (leb (port_at c.slot 0 0) port) (ltb port (port_at c.slot c.media 0)) at in
    let low = leb-true (port_at c.slot 0 0) port parts.0 in let high = ltb-true port (port_at c.slot c.media 0) parts.1 in
    (omega (arith, low), omega (arith, high))

port_is : (port : ℕ) (c : Call) → IsPortOf port c → has_port port c ≡ true
port_is port c is =
    let low = is.0 in let high = is.1 in
    and_from _ _ (le-leb (port_at c.slot 0 0) port (omega (arith, low))) (lt-ltb port (port_at c.slot c.media 0) (omega (arith, high)))

opens : (d : Direction) → same_direction d Opening ≡ true → d ≡ Opening
opens Opening is = refl
opens Sealing is = absurd cc

module _ (port : ℕ) (c : Call) where
  abbrev test : Session → Bool
  test s = is_current c s && is_opening s && eqb (plain_leg_port c s) port

  puts_out : (s : Session) → test s ≡ true → PutsOutBy port c s
  puts_out s is =
      let parts = and_parts (is_current c s && is_opening s) (eqb (plain_leg_port c s) port) is in
      let of = and_parts (is_current c s) (is_opening s) parts.0 in
      (opens s.name.owner.direction of.1, eqb-true _ _ of.0, sym (eqb-true _ _ parts.1))

  out_puts : (s : Session) → PutsOutBy port c s → test s ≡ true
  out_puts s puts =
      and_from (is_current c s && is_opening s) (eqb (plain_leg_port c s) port)
      (and_from (is_current c s) (is_opening s) (eq-eqb _ _ puts.1) (ap (λ d. same_direction d Opening) puts.0)) (eq-eqb _ _ (sym puts.2))

  abbrev At : Address → Session → Type 0
  At a s = PutsOutBy port c s × (a ≡ plain_leg_address s)

  some_plain : (a : Address) (ss : List Session) → plain_in c port ss ≡ Some a → Any (At a) ss
  some_plain a [] e = absurd cc
  some_plain a (s ∷ ss) e = go (some_plain a ss) (test s) refl e
    where
      go : (plain_in c port ss ≡ Some a → Any (At a) ss) → (b : Bool) → test s ≡ b → cond b (Some (plain_leg_address s)) (plain_in c port ss) ≡ Some a → Any (At a) (s ∷ ss)
      go rest true is e = let same : a ≡ plain_leg_address s = cc in any_here (At a) s ss (puts_out s is, same)
      go rest false is e = any_there (At a) s ss (rest e)

  no_plain : (ss : List Session) → plain_in c port ss ≡ None → AllByRecursion (λ s. ¬ PutsOutBy port c s) ss
  no_plain [] e = tt
  no_plain (s ∷ ss) e = go (no_plain ss) (test s) refl e
    where
      go : (plain_in c port ss ≡ None → AllByRecursion (λ s. ¬ PutsOutBy port c s) ss) → (b : Bool) → test s ≡ b → cond b (Some (plain_leg_address s)) (plain_in c port ss) ≡ None
          → AllByRecursion (λ s. ¬ PutsOutBy port c s) (s ∷ ss)
      go rest true is e = absurd cc
      go rest false is e = ((λ puts. false≢true (sym is ∙ out_puts s puts)), rest e)

module _ (w : World) (port : ℕ) where
  of_call : (P : Call → Type 0) (c : Call) → call_at w port ≡ Some c → P c → Any P w.calls
  of_call P c at p = any_weaker (λ x. x ≡ c) P (λ x is. subst P (sym is) p) w.calls (is_found (has_port port) w.calls c at)

  has_plain : (a : Address) → plain_at w port ≡ Some a → HasPlain w port a
  has_plain a = go (call_at w port) refl
    where
      go : (o : Option Call) → call_at w port ≡ o → option_and_then (λ c. plain_of c port) o ≡ Some a → HasPlain w port a
      go None at e = absurd cc
      go (Some c) at e = of_call (λ c. IsPortOf port c × Any (At port c a) c.sessions) c at (is_port port c (found_passes (has_port port) w.calls c at), some_plain port c a c.sessions e)

  has_none : plain_at w port ≡ None → HasNoPlain w port
  has_none = go (call_at w port) refl
    where
      go : (o : Option Call) → call_at w port ≡ o → option_and_then (λ c. plain_of c port) o ≡ None → HasNoPlain w port
      go None at e = inl (each_weaker _ _ (λ c no is. false≢true (sym no ∙ port_is port c is)) w.calls (not_found (has_port port) w.calls at))
      go (Some c) at e = inr (of_call (λ c. IsPortOf port c × AllByRecursion (λ s. ¬ PutsOutBy port c s) c.sessions) c at (is_port port c (found_passes (has_port port) w.calls c at), no_plain port c c.sessions e))

-- ---- worlds of a run

behind : (w : World) (es fs : List Event) → world_after w (es ++ fs) ≡ world_after (world_after w es) fs
behind w [] fs = refl
behind w (e ∷ es) fs = behind (step w e).world es fs

-- what holds of each turn holds of the last
last_turn : (P : Turn → Type 0) (w : World) (es : List Event) (e : Event) → AllByRecursion P (turns_from w (es ++ e ∷ [])) → P (turn_of (world_after w es) e)
last_turn P w [] e all = all.0
last_turn P w (f ∷ es) e all = last_turn P (step w f).world es e all.1

module _ (drops : (events : List Event) → DropsShowCauses events) where
  -- a drop in a world to which a run comes
  shown : (w : World) (es : List Event) → w ≡ world_after empty es → (e : Event) → DropShowsCause (turn_of w e)
  shown w es is e = subst (λ v. DropShowsCause (turn_of v e)) (sym is) (last_turn DropShowsCause empty es e (recursion_from_All DropShowsCause _ (drops (es ++ e ∷ []))))

  lost_shows : (w : World) (es : List Event) → w ≡ world_after empty es → (port : ℕ) (packet : List ℕ) (later : List Event) (cause : DropCause) → IsLost w port packet later cause
      → LostShows w port (as_octets packet).items cause
  lost_shows w es is port packet later cause (inl none) = inl (none.1, has_none w port none.0.none)
  lost_shows w es is port packet later cause (inr r) = inr (
    r.comes.from,
    has_plain w port r.comes.from r.comes.address,
    shown w es is (inner_of w port packet later r.comes) port port r.comes.from (as_octets packet) cause refl r.refused,
  )

  loses : (b : Bridging) (es : List Event) → b.before ≡ world_after empty es → LosesOnlySo b → LosesByCause b
  loses b es is so port cause told =
      let l = so port cause told in
      let e : Event = l.opens.event in
      (l, lost_shows (step b.before e).world (es ++ e ∷ []) (ap (λ v. (step v e).world) is ∙ sym (behind empty es (e ∷ []))) port l.packet l.opens.later cause l.lost)

  each_loses : (bs : List Bridging) (w : World) (calls : Members) (es : List Event) → w ≡ world_after empty es → ComesBehind w calls bs → AllByRecursion LosesOnlySo bs → AllByRecursion LosesByCause bs
  each_loses [] w calls es is comes so = tt
  each_loses (b ∷ bs) w calls es is comes so = (
    loses b es (comes.0 ∙ is) so.0,
    each_loses bs (world_after w b.events) b.calls (es ++ b.events) (ap (λ v. world_after v b.events) is ∙ sym (behind empty es b.events)) comes.2 so.1,
  )

  pub each_lost_shows : (said : List Said) → EachComesBehind said → EachLostIsRefused said → EachLostShowsCause said
  each_lost_shows said comes so =
      All-from_recursion LosesByCause _ (each_loses (bridgings said) empty no_members [] refl comes (recursion_from_All LosesOnlySo _ so))
