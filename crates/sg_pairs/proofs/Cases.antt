-- What becomes of a line, by cases: what holds of each case holds of the line, and what holds of each line, of a run.
use Rattle.std.proofs.Common.{◌≡◌, ℕ, List, [], ◌∷◌, map, Option, Some, None, Ok, refl, sym, ap, subst}
use Rattle.std.proofs.lemmas.List.Elements.{All-from_recursion}
use Rattle.std.specs.List.{All, AllByRecursion}
use Rattle.std.specs.Prelude.{option_to_list}
use Rattle.sg_base.specs.declared.addresses.Address.{Address}
use Rattle.sg_base.specs.declared.addresses.CallId.{CallId}
use Rattle.sg_base.specs.declared.faults.DropCause.{DropCause}
use Rattle.sg_base.specs.declared.faults.DropCause.TheVariants.{PortUnused}
use Rattle.sg_gateway.specs.Datagrams.{Put}
use Rattle.sg_gateway.specs.Octets.{Octets, as_octets}
use Rattle.sg_gateway.specs.PlainOf.{plain_at}
use Rattle.sg_gateway.specs.Runs.{world_after}
use Rattle.sg_gateway.specs.Signals.{Signal}
use Rattle.sg_gateway.specs.Step.{Event, Signalled, Datagram, step}
use Rattle.sg_gateway.specs.World.{Call, World, empty}
use Rattle.sg_outcome.specs.declared.outcomes.Outcome.{Outcome}
use Rattle.sg_outcome.specs.declared.outcomes.Outcome.TheVariants.{Ended, Out, Dropped}
use Rattle.sg_session.proofs.Lists.{each_append}
use Rattle.sg_pairs.proofs.Found.{CanJoin, CanPart, joins_by, parts_by}
use Rattle.sg_pairs.proofs.PutAt.{Coming, IsDropped, IsPut, PutBy, comes}
use Rattle.sg_pairs.specs.Bridged.{Bridging, Said, Happens, Joins, Parts, arrived, bridging, bridgings_from, handed_on, happened, happens, inner, inner_told, joining, nothing_happens, opened, parting, passed, told_and_parted}
use Rattle.sg_pairs.specs.Calls.{AllLines}
use Rattle.sg_pairs.specs.Onward.{onward}
use Rattle.sg_pairs.specs.Pairs.{Members, after_outcome, joined_pair, member_at, no_members, pair, paired, parted, tells_parted, vacated}
use Rattle.sg_pairs.specs.declared.faults.JoinFault.{JoinFault}
use Rattle.sg_pairs.specs.declared.members.Found.{Found}
use Rattle.sg_pairs.specs.declared.members.Pair.{Pair}
use Rattle.sg_pairs.specs.declared.outcomes.BridgeOutcome.{BridgeOutcome}
use Rattle.sg_pairs.specs.declared.outcomes.BridgeOutcome.TheVariants as tells

-- ---- a datagram

-- it isn't at a plain port of a joined call, and opens a packet at a port that goes on to another
pub record OpensOn (w : World) (calls : Members) (port : ℕ) (e : Event) (p q : ℕ) (to : Address) (x : List ℕ) : Type 0 where
  pub through : onward calls port ≡ None
  pub was : (step w e).outcomes ≡ Out p to x ∷ []
  pub on : onward calls p ≡ Some q

-- it puts a packet out which goes no further
pub record PutsOut (w : World) (calls : Members) (port : ℕ) (e : Event) (o : Put) : Type 0 where
  pub through : onward calls port ≡ None
  pub call : Call
  pub by : PutBy port call o
  pub was : (step w e).outcomes ≡ Out o.port o.to o.octets ∷ []
  pub no_further : onward calls o.port ≡ None

-- what is told of a datagram: no pair is joined or parted by it
abbrev pub IsOfDatagram : BridgeOutcome → Type 0
IsOfDatagram (tells.Table o) = Unit {0}
IsOfDatagram (tells.Lost port cause) = Unit {0}
IsOfDatagram other = ⊥

module _ (w : World) (calls : Members) (port : ℕ) (from : Address) (d : Octets) where
  abbrev e : Event
  e = Datagram port from d

  abbrev after : World
  after = (step w e).world

  pub record DatagramCases (P : Bridging → Type 0) : Type 0 where
    -- a plain port of a joined call is unused
    pub unused : (q : ℕ) → onward calls port ≡ Some q → P (nothing_happens w calls (tells.Table (Dropped port PortUnused)))
    -- it is dropped
    pub dropped : onward calls port ≡ None → (cause : DropCause) → (step w e).outcomes ≡ Dropped port cause ∷ [] → P (happens w calls (e ∷ []) (tells.Table (Dropped port cause) ∷ []) after)
    -- its packet is put out
    pub put_out : (o : Put) → PutsOut w calls port e o → P (happens w calls (e ∷ []) (tells.Table (Out o.port o.to o.octets) ∷ []) after)
    -- its packet is opened for another call, which has no plain address
    pub nowhere : (p q : ℕ) (to : Address) (x : List ℕ) → OpensOn w calls port e p q to x → plain_at after q ≡ None → P (happens w calls (e ∷ []) (tells.Lost q PortUnused ∷ []) after)
    -- the other call refuses it
    pub refused : (p q : ℕ) (to : Address) (x : List ℕ) → OpensOn w calls port e p q to x → (a : Address) → plain_at after q ≡ Some a → (cause : DropCause) → (step after (inner q a x)).outcomes ≡ Dropped q cause ∷ []
        → P (happens w calls (e ∷ inner q a x ∷ []) (tells.Lost q cause ∷ []) (step after (inner q a x)).world)
    -- the other call seals it
    pub sealed : (p q : ℕ) (to : Address) (x : List ℕ) → OpensOn w calls port e p q to x → (a : Address) → plain_at after q ≡ Some a → (c : Call) (o : Put) → PutBy q c o
        → (step after (inner q a x)).outcomes ≡ Out o.port o.to o.octets ∷ [] → (step after (inner q a x)).entries ≡ o.entry ∷ []
        → P (happens w calls (e ∷ inner q a x ∷ []) (tells.Table (Out o.port o.to o.octets) ∷ []) (step after (inner q a x)).world)

  module _ (P : Bridging → Type 0) (cases : DatagramCases P) where
    handed : (p q : ℕ) (to : Address) (x : List ℕ) → OpensOn w calls port e p q to x → (o : Option Address) → plain_at after q ≡ o → P (handed_on w calls e after q x o)
    handed p q to x opens None at = cases.nowhere p q to x opens at
    handed p q to x opens (Some a) at = go (comes after q a (as_octets x))
      where
        as_told : (told : List BridgeOutcome) → map inner_told (step after (inner q a x)).outcomes ≡ told → P (happens w calls (e ∷ inner q a x ∷ []) told (step after (inner q a x)).world) → P (handed_on w calls e after q x (Some a))
        as_told told is = subst (λ t. P (happens w calls (e ∷ inner q a x ∷ []) t (step after (inner q a x)).world)) (sym is)

        go : Coming after q (step after (inner q a x)).outcomes (step after (inner q a x)).entries → P (handed_on w calls e after q x (Some a))
        go (IsDropped cause is) = as_told (tells.Lost q cause ∷ []) (ap (map inner_told) is) (cases.refused p q to x opens a at cause is)
        go (IsPut c o by is es) = as_told (tells.Table (Out o.port o.to o.octets) ∷ []) (ap (map inner_told) is) (cases.sealed p q to x opens a at c o by is es)

    puts : onward calls port ≡ None → (c : Call) (o : Put) → PutBy port c o → (step w e).outcomes ≡ Out o.port o.to o.octets ∷ [] → (n : Option ℕ) → onward calls o.port ≡ n
        → P (opened w calls e after o.port o.to o.octets n)
    puts through c o by is None on = cases.put_out o (record { through = through; call = c; by = by; was = is; no_further = on })
    puts through c o by is (Some q) on = handed o.port q o.to o.octets (record { through = through; was = is; on = on }) (plain_at after q) refl

    passes : onward calls port ≡ None → Coming w port (step w e).outcomes (step w e).entries → P (passed w calls e after (step w e).outcomes)
    passes through (IsDropped cause is) = subst (λ os. P (passed w calls e after os)) (sym is) (cases.dropped through cause is)
    passes through (IsPut c o by is es) = subst (λ os. P (passed w calls e after os)) (sym is) (puts through c o by is (onward calls o.port) refl)

    arrives : (n : Option ℕ) → onward calls port ≡ n → P (arrived w calls port e (step w e) n)
    arrives None on = passes on (comes w port from d)
    arrives (Some q) on = cases.unused q on

    pub each_case : P (happened w calls (Datagram port from d))
    each_case = arrives (onward calls port) refl

  -- what holds whatever happens and is told
  pub in_each_case : (P : Bridging → Type 0) → ((events : List Event) (o : BridgeOutcome) → IsOfDatagram o → P (happens w calls events (o ∷ []) (world_after w events))) → P (happened w calls (Datagram port from d))
  in_each_case P holds = each_case P (record {
    unused = λ q on. holds [] (tells.Table (Dropped port PortUnused)) tt;
    dropped = λ through cause is. holds (e ∷ []) (tells.Table (Dropped port cause)) tt;
    put_out = λ o puts. holds (e ∷ []) (tells.Table (Out o.port o.to o.octets)) tt;
    nowhere = λ p q to x opens at. holds (e ∷ []) (tells.Lost q PortUnused) tt;
    refused = λ p q to x opens a at cause is. holds (e ∷ inner q a x ∷ []) (tells.Lost q cause) tt;
    sealed = λ p q to x opens a at c o by is es. holds (e ∷ inner q a x ∷ []) (tells.Table (Out o.port o.to o.octets)) tt;
  })

-- ---- a signal

-- what holds of each outcome as it is told, and of each parting, holds of all that is told
module _ (Q : BridgeOutcome → Type 0) (parts : (p : Pair) → Q (tells_parted p)) where
  parted_holds : (calls : Members) (o : Outcome) → AllByRecursion Q (option_to_list (after_outcome calls o).parted)
  parted_holds calls (Ended id slot media why) = go (joined_pair (member_at calls slot))
    where
      go : (p : Option Pair) → AllByRecursion Q (option_to_list (vacated slot calls p).parted)
      go None = tt
      go (Some p) = (parts p, tt)
  parted_holds calls other = tt

  pub followed_holds : (calls : Members) (os : List Outcome) → AllByRecursion (λ o. Q (tells.Table o)) os → AllByRecursion Q (told_and_parted calls os).told
  followed_holds calls [] each = tt
  followed_holds calls (o ∷ os) each =
      let n = after_outcome calls o in
      (each.0, each_append Q (option_to_list n.parted) (told_and_parted n.calls os).told (parted_holds calls o) (followed_holds n.calls os each.1))

-- ---- a line

pub record LineCases (w : World) (calls : Members) (P : Said → Bridging → Type 0) : Type 0 where
  pub signal : (s : Signal) → P (Happens (Signalled s)) (happened w calls (Signalled s))
  pub datagram : (port : ℕ) (from : Address) (d : Octets) → P (Happens (Datagram port from d)) (happened w calls (Datagram port from d))
  pub joins : (first second : CallId) (a b : Found) → CanJoin calls first second a b → P (Joins first second) (joining w calls first second (Ok (paired (pair a b) calls)))
  pub unjoined : (first second call : CallId) (cause : JoinFault) → P (Joins first second) (nothing_happens w calls (tells.Unjoined call cause))
  pub parts : (id : CallId) (f : Found) (x : Pair) → CanPart calls id f x → P (Parts id) (parting w calls id (Ok (record { calls = parted x calls; pair = x })))
  pub unparted : (id : CallId) (cause : JoinFault) → P (Parts id) (nothing_happens w calls (tells.Unjoined id cause))

pub each_line : (w : World) (calls : Members) (P : Said → Bridging → Type 0) → LineCases w calls P → (s : Said) → P s (bridging w calls s)
each_line w calls P cases (Happens (Signalled s)) = cases.signal s
each_line w calls P cases (Happens (Datagram port from d)) = cases.datagram port from d
each_line w calls P cases (Joins first second) = joins_by calls first second (λ j. P (Joins first second) (joining w calls first second j)) (cases.unjoined first second) (cases.joins first second)
each_line w calls P cases (Parts id) = parts_by calls id (λ r. P (Parts id) (parting w calls id r)) (cases.unparted id) (cases.parts id)

-- ---- a run

-- where it begins so, and each line leaves it so
module _ (I : World → Members → Type 0) (begins : I empty no_members) (leaves : (w : World) (calls : Members) (s : Said) → I w calls → I (bridging w calls s).world (bridging w calls s).calls) where
  lines_from : (P : Said → Bridging → Type 0) → ((w : World) (calls : Members) (s : Said) → I w calls → P s (bridging w calls s)) → (w : World) (calls : Members) (said : List Said) → I w calls → AllLines P said (bridgings_from w calls said)
  lines_from P holds w calls [] is = tt
  lines_from P holds w calls (s ∷ ss) is = (holds w calls s is, lines_from P holds (bridging w calls s).world (bridging w calls s).calls ss (leaves w calls s is))

  bridgings_hold : (P : Bridging → Type 0) → ((w : World) (calls : Members) (s : Said) → I w calls → P (bridging w calls s)) → (w : World) (calls : Members) (said : List Said) → I w calls → AllByRecursion P (bridgings_from w calls said)
  bridgings_hold P holds w calls [] is = tt
  bridgings_hold P holds w calls (s ∷ ss) is = (holds w calls s is, bridgings_hold P holds (bridging w calls s).world (bridging w calls s).calls ss (leaves w calls s is))

  pub all_lines : (P : Said → Bridging → Type 0) → ((w : World) (calls : Members) (s : Said) → I w calls → P s (bridging w calls s)) → (said : List Said) → AllLines P said (bridgings_from empty no_members said)
  all_lines P holds said = lines_from P holds empty no_members said begins

  pub all_bridgings : (P : Bridging → Type 0) → ((w : World) (calls : Members) (s : Said) → I w calls → P (bridging w calls s)) → (said : List Said) → All P (bridgings_from empty no_members said)
  all_bridgings P holds said = All-from_recursion P _ (bridgings_hold P holds empty no_members said begins)
