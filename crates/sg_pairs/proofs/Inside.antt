-- What is opened in a joined call stays inside, and is sealed in the other or lost; nothing else is lost.
use Rattle.std.proofs.Common.{◌≡◌, inl, inr, ◌⊎◌, ℕ, ◌+◌, ◌-◌, ◌%◌, ◌<◌, ◌≤◌, List, [], ◌∷◌, Some, None, refl, sym, ap, ◌∙◌, subst, arith}
use Rattle.std.proofs.lemmas.Bool.Decides.{leb_tells}
use Rattle.std.specs.List.{All, Any, AllByRecursion}
use Rattle.sg_base.proofs.Cases.{none_some}
use Rattle.sg_base.specs.declared.addresses.Address.{Address}
use Rattle.sg_base.specs.declared.faults.DropCause.{DropCause}
use Rattle.sg_base.specs.declared.faults.DropCause.TheVariants.{PortUnused}
use Rattle.sg_gateway.proofs.Came.{seals_came}
use Rattle.sg_gateway.proofs.OnlySeals.{signal_quiet}
use Rattle.sg_gateway.proofs.SealsOut.{LeavesSealed, seals_leave_at}
use Rattle.sg_gateway.specs.Coming.{IsSealedFrom}
use Rattle.sg_gateway.specs.Datagrams.{Put}
use Rattle.sg_gateway.specs.Octets.{Octets, as_octets}
use Rattle.sg_gateway.specs.PlainOf.{plain_at}
use Rattle.sg_gateway.specs.Runs.{turn_of}
use Rattle.sg_gateway.specs.SealedOut.{IsOut, IsSealedOutOf}
use Rattle.sg_gateway.specs.Signals.{Signal}
use Rattle.sg_gateway.specs.Step.{Event, Signalled, Datagram, step}
use Rattle.sg_gateway.specs.World.{Call, World, empty}
use Rattle.sg_outcome.specs.declared.outcomes.Outcome.{Outcome}
use Rattle.sg_outcome.specs.declared.outcomes.Outcome.TheVariants.{Out, Dropped}
use Rattle.sg_session.proofs.Lists.{any_cases, any_none, any_weaker, each_at, each_of}
use Rattle.sg_session.specs.declared.names.Direction.TheVariants.{Sealing}
use Rattle.sg_pairs.proofs.BothWays.{all_among_mates, both_ways, said_begins}
use Rattle.sg_pairs.proofs.Cases.{OpensOn, PutsOut, each_case, each_line, followed_holds}
use Rattle.sg_pairs.proofs.Joined.{in_pair_goes_on, joined_goes_on, not_onward, plain_onward, goes_on_joined}
use Rattle.sg_pairs.proofs.Mates.{AreMates}
use Rattle.sg_pairs.proofs.PutAt.{FromPlain, PutBy, from_plain, from_secure}
use Rattle.sg_pairs.specs.Bridged.{Bridging, Crosses, GoesBothWays, IsCrossing, IsSealOf, LeavesAt, Said, StaysInside, TellsOut, bridging, bridgings_from, told_and_parted, happened, happens, inner, nothing_happens}
use Rattle.sg_pairs.specs.Joined.{port_of_leg}
use Rattle.sg_pairs.specs.Lost.{IsLost, IsSettled, LosesOnlySo, Opens, SettlesWhatOpens, opened_world}
use Rattle.sg_pairs.specs.Onward.{onward}
use Rattle.sg_pairs.specs.Pairs.{Members, no_members, pair, paired, parted}
use Rattle.sg_pairs.specs.declared.outcomes.BridgeOutcome.{BridgeOutcome}
use Rattle.sg_pairs.specs.declared.outcomes.BridgeOutcome.TheVariants as tells

-- ---- what is told of a signal

abbrev IsOutTold : BridgeOutcome → Type 0
IsOutTold (tells.Table o) = IsOut o
IsOutTold other = ⊥

module _ (port : ℕ) (to : Address) (octets : List ℕ) where
  abbrev Is : BridgeOutcome → Type 0
  Is o = o ≡ tells.Table (Out port to octets)

  abbrev NoOut : List BridgeOutcome → Type 0
  NoOut told = Any Is told → ⊥

  one : (o : BridgeOutcome) → (Is o → ⊥) → NoOut (o ∷ [])
  one o not a = elim (any_cases Is o [] a) [ inl is ↦ not is | inr rest ↦ any_none Is rest ]

  signal_not : (w : World) (calls : Members) (s : Signal) → NoOut (told_and_parted calls (step w (Signalled s)).outcomes).told
  signal_not w calls s a =
      let told = followed_holds (λ b. ¬ IsOutTold b) (λ p no. no) calls (step w (Signalled s)).outcomes (signal_quiet w s) in
      let at = each_at (λ b. ¬ IsOutTold b) Is (told_and_parted calls (step w (Signalled s)).outcomes).told told a in
      at.1 (subst IsOutTold (sym at.2) tt)

-- ---- a datagram

abbrev told_port : Outcome → ℕ
told_port (Out p t d) = p
told_port other = 0

abbrev out_port : BridgeOutcome → ℕ
out_port (tells.Table o) = told_port o
out_port other = 0

-- what is told of one packet is that packet
told_out : (p : ℕ) (t : Address) (d : List ℕ) (port : ℕ) (to : Address) (octets : List ℕ) → Is port to octets (tells.Table (Out p t d)) → Out p t d ≡ Out port to octets
told_out p t d port to octets is = cc

same_out : (p : ℕ) (t : Address) (d : List ℕ) (port : ℕ) (to : Address) (octets : List ℕ) → Out p t d ∷ [] ≡ Out port to octets ∷ [] → (p ≡ port) × (t ≡ to) × (d ≡ octets)
same_out p t d port to octets is = ((let same : p ≡ port = cc in same), (let same : t ≡ to = cc in same), (let same : d ≡ octets = cc in same))

-- the one packet that is told
only_out : (p : ℕ) (t : Address) (d : List ℕ) (port : ℕ) (to : Address) (octets : List ℕ) → Any (Is port to octets) (tells.Table (Out p t d) ∷ [])
    → Is port to octets (tells.Table (Out p t d))
only_out p t d port to octets a = elim (any_cases (Is port to octets) (tells.Table (Out p t d)) [] a) [ inl is ↦ is | inr rest ↦ absurd (any_none (Is port to octets) rest) ]

side : (n : ℕ) → ((n - 20000) % 4 < 2) ⊎ (2 ≤ (n - 20000) % 4)
side n = elim (leb_tells 2 ((n - 20000) % 4)) [ inl high ↦ inr high.1 | inr low ↦ inl low.1 ]

-- a bridging that puts nothing out stays inside, and nothing crosses in it
abbrev TellsNone : Bridging → Type 0
TellsNone b = (port : ℕ) (to : Address) (octets : List ℕ) → TellsOut b port to octets → ⊥

-- the two by the ports onward: what is put out on a port goes no further, and on a secure port comes of the one that goes on to
-- the plain port beside it
abbrev GoesNoFurther : Bridging → Type 0
GoesNoFurther b = (port : ℕ) (to : Address) (octets : List ℕ) → TellsOut b port to octets → onward b.pairs port ≡ None

pub record ComesOver (b : Bridging) (port : ℕ) (to : Address) (octets : List ℕ) : Type 0 where
  pub from : ℕ
  pub on : onward b.pairs from ≡ Some (port + 2)
  pub crossing : IsCrossing b from port to octets

abbrev ComesFromOther : Bridging → Type 0
ComesFromOther b = (port q : ℕ) (to : Address) (octets : List ℕ) → TellsOut b port to octets → (port - 20000) % 4 < 2
    → onward b.pairs (port + 2) ≡ Some q → ComesOver b port to octets

abbrev Both : Bridging → Type 0
Both b = GoesNoFurther b × ComesFromOther b

none_both : (b : Bridging) → TellsNone b → Both b
none_both b none = ((λ port to octets a. absurd (none port to octets a)), (λ port q to octets a low on. absurd (none port to octets a)))

-- where one thing is told that is no packet
quiet_both : (b : Bridging) (o : BridgeOutcome) → b.told ≡ o ∷ [] → ¬ IsOutTold o → Both b
quiet_both b o is not = none_both b (λ port to octets a. one port to octets o (λ same. not (subst IsOutTold (sym same) tt)) (subst (λ told. Any (Is port to octets) told) is a))

-- ---- what tells of no loss

abbrev Loses : BridgeOutcome → Type 0
Loses (tells.Lost port cause) = Unit {0}
Loses other = ⊥

abbrev NoLoss : List BridgeOutcome → Type 0
NoLoss told = AllByRecursion (λ o. Loses o → ⊥) told

followed_no_loss : (calls : Members) (os : List Outcome) → NoLoss (told_and_parted calls os).told
followed_no_loss calls os = followed_holds (λ o. Loses o → ⊥) (λ p no. no) calls os (each_of (λ o. Loses (tells.Table o) → ⊥) (λ o no. no) os)

not_lost : (told : List BridgeOutcome) (q : ℕ) (cause : DropCause) → NoLoss told → Any (λ o. o ≡ tells.Lost q cause) told → ⊥
not_lost told q cause none a = let at = each_at (λ o. Loses o → ⊥) (λ o. o ≡ tells.Lost q cause) told none a in at.1 (subst Loses (sym at.2) tt)

-- ---- by the ports onward

-- a packet that is opened at a port that goes on is settled at the port onward
abbrev SettlesOnward : Bridging → Type 0
SettlesOnward b = (p q : ℕ) (packet : List ℕ) → onward b.pairs p ≡ Some q → (o : Opens b p packet) → IsSettled b (opened_world b p packet o) q packet o.later

-- what is told as lost was opened at a port that goes on
pub record IsLostOnward (b : Bridging) (q : ℕ) (cause : DropCause) : Type 0 where
  pub p : ℕ
  pub on : onward b.pairs p ≡ Some q
  pub packet : List ℕ
  pub opens : Opens b p packet
  pub lost : IsLost (opened_world b p packet opens) q packet opens.later cause
  pub told : b.told ≡ tells.Lost q cause ∷ []

abbrev LosesOnward : Bridging → Type 0
LosesOnward b = (q : ℕ) (cause : DropCause) → Any (λ o. o ≡ tells.Lost q cause) b.told → IsLostOnward b q cause

abbrev Two : Bridging → Type 0
Two b = SettlesOnward b × LosesOnward b

-- a bridging that loses nothing and opens nothing
quiet_two : (b : Bridging) → NoLoss b.told → ((p : ℕ) (packet : List ℕ) → Opens b p packet → ⊥) → Two b
quiet_two b none never = ((λ p q packet on o. absurd (never p packet o)), (λ q cause a. absurd (not_lost b.told q cause none a)))

-- where nothing happens
silent_two : (b : Bridging) → b.events ≡ [] → NoLoss b.told → Two b
silent_two b none lost = quiet_two b lost (λ p packet opens. nothing opens.event opens.later (sym none ∙ opens.events_are))
  where
    nothing : (e : Event) (later : List Event) → [] ≡ e ∷ later → ⊥
    nothing e later is = cc

one_event : (e e' : Event) (l l' : List Event) → e ∷ l ≡ e' ∷ l' → (e ≡ e') × (l ≡ l')
one_event e e' l l' is = ((let same : e ≡ e' = cc in same), (let same : l ≡ l' = cc in same))

one_lost : (q q' : ℕ) (c c' : DropCause) → Any (λ o. o ≡ tells.Lost q' c') (tells.Lost q c ∷ []) → (q ≡ q') × (c ≡ c')
one_lost q q' c c' a = elim (any_cases (λ o. o ≡ tells.Lost q' c') (tells.Lost q c) [] a) [
  | inl is ↦ ((let same : q ≡ q' = cc in same), (let same : c ≡ c' = cc in same))
  | inr rest ↦ absurd (any_none (λ o. o ≡ tells.Lost q' c') rest)
]

-- where the first event puts one packet out, that packet is what is opened, at that port
settles_one : (b : Bridging) (e : Event) (later : List Event) (p : ℕ) (to : Address) (x : List ℕ) → b.events ≡ e ∷ later → (step b.before e).outcomes ≡ Out p to x ∷ []
    → ((q : ℕ) → onward b.pairs p ≡ Some q → IsSettled b (step b.before e).world q x later) → SettlesOnward b
settles_one b e later p to x are was settled p' q' packet on o =
    let events = one_event e o.event later o.later (sym are ∙ o.events_are) in
    let out = same_out p to x p' o.to packet (sym was ∙ ap (λ e. (step b.before e).outcomes) events.0 ∙ o.opened) in
    let there : IsSettled b (step b.before o.event).world q' packet o.later = rw (sym events.0, sym events.1, sym out.2) (settled q' (ap (onward b.pairs) out.0 ∙ on)) in
    there

-- ---- both of it

abbrev Four : Bridging → Type 0
Four b = Both b × Two b

-- where nothing happens, and no packet or loss is told
silent : (w : World) (calls after : Members) (o : BridgeOutcome) → ¬ IsOutTold o → ¬ Loses o → Four (record (nothing_happens w calls o) { calls = after })
silent w calls after o out lost = (quiet_both b o refl out, silent_two b refl (lost, tt))
  where
    b : Bridging
    b = record (nothing_happens w calls o) { calls = after }

module _ (w : World) (calls : Members) (mates : AreMates calls) (port : ℕ) (from : Address) (d : Octets) where
  abbrev e : Event
  e = Datagram port from d

  abbrev after : World
  after = (step w e).world

  -- the inner datagram
  sealed_both : (p q : ℕ) (to : Address) (x : List ℕ) → OpensOn w calls port e p q to x → (a : Address) (c : Call) (o : Put) → PutBy q c o
      → (step after (inner q a x)).outcomes ≡ Out o.port o.to o.octets ∷ [] → (step after (inner q a x)).entries ≡ o.entry ∷ []
      → Both (happens w calls (e ∷ inner q a x ∷ []) (tells.Table (Out o.port o.to o.octets) ∷ []) (step after (inner q a x)).world)
  sealed_both p q to x opens a c o by is es = (
    (λ port' to' octets' t. subst (λ n. onward calls n ≡ None) (ap out_port (only_out o.port o.to o.octets port' to' octets' t)) (not_onward calls mates o.port plain.low)),
    (λ port' q' to' octets' t low on'.
        let told = only_out o.port o.to o.octets port' to' octets' t in
        let same : o.port ≡ port' = ap out_port told in
        record {
          from = p;
          on = opens.on ∙ ap (λ n. Some n) (plain.out ∙ ap (λ n. n + 2) same);
          crossing = record {
            first = e;
            second = inner q a x;
            events_are = refl;
            opened_to = to;
            packet = x;
            opened = opens.was;
            sealed = subst (λ (es : List _). Any (IsSealOf (turn_of after (inner q a x)) port' to' (as_octets x).items octets') es) (sym es) (0, o.entry, omega arith, refl, (plain.sealing, packet_is, sealed_at port' to' octets' told));
            put_out = is ∙ ap (λ b. b ∷ []) (told_out o.port o.to o.octets port' to' octets' told);
            told = ap (λ b. b ∷ []) told;
          };
        }),
  )
    where
      plain : FromPlain q o
      plain = from_plain q c o by (plain_onward calls mates p q opens.on).1

      leaves : LeavesSealed (turn_of after (inner q a x)) o.entry
      leaves = (subst (λ (es : List _). AllByRecursion (LeavesSealed (turn_of after (inner q a x))) es) es (seals_leave_at after (inner q a x))).0

      came : o.entry.session.owner.direction ≡ Sealing → Any (λ c. Any (λ s. (s.name ≡ o.entry.session) × IsSealedFrom (inner q a x) c s o.entry.done.packet) c.sessions) after.calls
      came = (subst (λ (es : List _). AllByRecursion (λ en. en.session.owner.direction ≡ Sealing → Any (λ c. Any (λ s. (s.name ≡ en.session) × IsSealedFrom (inner q a x) c s en.done.packet) c.sessions) after.calls) es) es (seals_came after (inner q a x))).0

      packet_is : o.entry.done.packet ≡ (as_octets x).items
      packet_is = (let c = came plain.sealing in let s = c.4 in sym s.4.1.2)

      sealed_at : (port' : ℕ) (to' : Address) (octets' : List ℕ) → Is port' to' octets' (tells.Table (Out o.port o.to o.octets))
          → Any (λ c. Any (LeavesAt (turn_of after (inner q a x)) o.entry port' to' octets' c) c.sessions) after.calls
      sealed_at port' to' octets' told = any_weaker (λ c. Any (IsSealedOutOf (turn_of after (inner q a x)) o.entry c) c.sessions) (λ c. Any (LeavesAt (turn_of after (inner q a x)) o.entry port' to' octets' c) c.sessions)
          (λ c b. any_weaker (IsSealedOutOf (turn_of after (inner q a x)) o.entry c) (LeavesAt (turn_of after (inner q a x)) o.entry port' to' octets' c) (λ s out. let same = same_out _ _ _ port' to' octets' (sym out.out ∙ is ∙ ap (λ b. b ∷ []) (told_out o.port o.to o.octets port' to' octets' told)) in (out, same.0, same.1, same.2)) c.sessions b) after.calls (leaves plain.sealing)

  put_both : (o : Put) → PutsOut w calls port e o → Both (happens w calls (e ∷ []) (tells.Table (Out o.port o.to o.octets) ∷ []) after)
  put_both o puts = (
    (λ port' to' octets' t. subst (λ n. onward calls n ≡ None) (ap out_port (only_out o.port o.to o.octets port' to' octets' t)) puts.no_further),
    (λ port' q to' octets' t low on'.
        let same : o.port ≡ port' = ap out_port (only_out o.port o.to o.octets port' to' octets' t) in
        let at : port ≡ port' + 2 = beside (subst (λ n. (n - 20000) % 4 < 2) (sym same) low) ∙ ap (λ n. n + 2) same in
        absurd (none_some q (sym puts.through ∙ ap (onward calls) at ∙ on'))),
  )
    where
      beside : (o.port - 20000) % 4 < 2 → port ≡ o.port + 2
      beside low = elim (side port) [
        | inl secure ↦ absurd (let h = from_secure port puts.call o puts.by secure in omega (arith, h, low))
        | inr plain ↦ (from_plain port puts.call o puts.by plain).out
      ]

  same_onward : (p q q' : ℕ) → onward calls p ≡ Some q → onward calls p ≡ Some q' → q ≡ q'
  same_onward p q q' on on' = (let same : Some q ≡ Some q' = sym on ∙ on' in (let is : q ≡ q' = cc in is))

  -- the packet is lost, with what is later
  lost_two : (p q : ℕ) (to : Address) (x : List ℕ) → OpensOn w calls port e p q to x → (later : List Event) (world : World) (cause : DropCause) → IsLost after q x later cause
      → Two (happens w calls (e ∷ later) (tells.Lost q cause ∷ []) world)
  lost_two p q to x opens later world cause lost = (
    settles_one b e later p to x refl opens.was (λ q' on'. subst (λ n. IsSettled b after n x later) (same_onward p q q' opens.on on') (inl (cause, lost, refl))),
    (λ q' cause' t.
        let same = one_lost q q' cause cause' t in
        subst (λ n. IsLostOnward b n cause') same.0 (subst (λ c. IsLostOnward b q c) same.1 (record {
          p = p;
          on = opens.on;
          packet = x;
          opens = record { event = e; later = later; events_are = refl; to = to; opened = opens.was };
          lost = lost;
          told = refl;
        }))),
  )
    where
      b : Bridging
      b = happens w calls (e ∷ later) (tells.Lost q cause ∷ []) world

  dropped_two : (cause : DropCause) → (step w e).outcomes ≡ Dropped port cause ∷ [] → Two (happens w calls (e ∷ []) (tells.Table (Dropped port cause) ∷ []) after)
  dropped_two cause is = quiet_two (happens w calls (e ∷ []) (tells.Table (Dropped port cause) ∷ []) after) ((λ no. no), tt) never
    where
      never : (p : ℕ) (packet : List ℕ) → Opens (happens w calls (e ∷ []) (tells.Table (Dropped port cause) ∷ []) after) p packet → ⊥
      never p packet o =
          let events = one_event e o.event [] o.later o.events_are in
          let same : Dropped port cause ∷ [] ≡ Out p o.to packet ∷ [] = sym is ∙ ap (λ e. (step w e).outcomes) events.0 ∙ o.opened in absurd cc

  put_two : (o : Put) → PutsOut w calls port e o → Two (happens w calls (e ∷ []) (tells.Table (Out o.port o.to o.octets) ∷ []) after)
  put_two o puts = (
    settles_one (happens w calls (e ∷ []) (tells.Table (Out o.port o.to o.octets) ∷ []) after) e [] o.port o.to o.octets refl puts.was (λ q' on'. absurd (none_some q' (sym puts.no_further ∙ on'))),
    (λ q' cause' t. absurd (not_lost (tells.Table (Out o.port o.to o.octets) ∷ []) q' cause' ((λ no. no), tt) t)),
  )

  sealed_two : (p q : ℕ) (to : Address) (x : List ℕ) → OpensOn w calls port e p q to x → (a : Address) → plain_at after q ≡ Some a → (o : Put) → (step after (inner q a x)).outcomes ≡ Out o.port o.to o.octets ∷ []
      → Two (happens w calls (e ∷ inner q a x ∷ []) (tells.Table (Out o.port o.to o.octets) ∷ []) (step after (inner q a x)).world)
  sealed_two p q to x opens a at o is = (
    settles_one b e (inner q a x ∷ []) p to x refl opens.was (λ q' on'. subst (λ n. IsSettled b after n x (inner q a x ∷ [])) (same_onward p q q' opens.on on')
        (inr (o.port, o.to, o.octets, record { comes = record { from = a; address = at; later_are = refl }; put = is }, refl))),
    (λ q' cause' t. absurd (not_lost (tells.Table (Out o.port o.to o.octets) ∷ []) q' cause' ((λ no. no), tt) t)),
  )
    where
      b : Bridging
      b = happens w calls (e ∷ inner q a x ∷ []) (tells.Table (Out o.port o.to o.octets) ∷ []) (step after (inner q a x)).world

  datagram_four : Four (happened w calls (Datagram port from d))
  datagram_four = each_case w calls port from d Four (record {
    unused = λ q on. silent w calls calls (tells.Table (Dropped port PortUnused)) (λ no. no) (λ no. no);
    dropped = λ through cause is. (quiet_both (happens w calls (e ∷ []) (tells.Table (Dropped port cause) ∷ []) after) (tells.Table (Dropped port cause)) refl (λ no. no), dropped_two cause is);
    put_out = λ o puts. (put_both o puts, put_two o puts);
    nowhere = λ p q to x opens at. (
      quiet_both (happens w calls (e ∷ []) (tells.Lost q PortUnused ∷ []) after) (tells.Lost q PortUnused) refl (λ no. no),
      lost_two p q to x opens [] after PortUnused (inl (record { none = at; later_are = refl }, refl)),
    );
    refused = λ p q to x opens a at cause is. (
      quiet_both (happens w calls (e ∷ inner q a x ∷ []) (tells.Lost q cause ∷ []) (step after (inner q a x)).world) (tells.Lost q cause) refl (λ no. no),
      lost_two p q to x opens (inner q a x ∷ []) (step after (inner q a x)).world cause (inr (record { comes = record { from = a; address = at; later_are = refl }; refused = is })),
    );
    sealed = λ p q to x opens a at c o by is es. (sealed_both p q to x opens a c o by is es, sealed_two p q to x opens a at o is);
  })

-- ---- a line

signal_two : (w : World) (calls : Members) (signal : Signal) → Two (happened w calls (Signalled signal))
signal_two w calls signal = quiet_two (happened w calls (Signalled signal)) (followed_no_loss calls (step w (Signalled signal)).outcomes) never
  where
    never : (p : ℕ) (packet : List ℕ) → Opens (happened w calls (Signalled signal)) p packet → ⊥
    never p packet o =
        let events = one_event (Signalled signal) o.event [] o.later o.events_are in
        let is = ap (λ e. (step w e).outcomes) events.0 ∙ o.opened in
        (subst (λ os. AllByRecursion (λ o. ¬ IsOut o) os) is (signal_quiet w signal)).0 tt

said_four : (w : World) (calls : Members) (s : Said) → AreMates calls → Four (bridging w calls s)
said_four w calls s mates = each_line w calls (λ s b. Four b) (record {
  signal = λ s. (none_both (happened w calls (Signalled s)) (λ port to octets. signal_not port to octets w calls s), signal_two w calls s);
  datagram = datagram_four w calls mates;
  joins = λ first second a b can. silent w calls (paired (pair a b) calls) (tells.Joined first second) (λ no. no) (λ no. no);
  unjoined = λ first second call cause. silent w calls calls (tells.Unjoined call cause) (λ no. no) (λ no. no);
  parts = λ id f x can. silent w calls (parted x calls) (tells.Parted x.first.id x.second.id) (λ no. no) (λ no. no);
  unparted = λ id cause. silent w calls calls (tells.Unjoined id cause) (λ no. no) (λ no. no);
}) s

-- ---- in numbers

stays_inside : (b : Bridging) → GoesNoFurther b → StaysInside b
stays_inside b no_further slot medium leg to octets joined high low tells =
    let on = in_pair_goes_on b.pairs slot medium leg joined high low in none_some on.0 (sym (no_further (port_of_leg slot medium leg) to octets tells) ∙ on.1)

crosses : (b : Bridging) → GoesBothWays b → ComesFromOther b → Crosses b
crosses b ways comes slot other medium leg to octets joined low tells =
    let beside : port_of_leg slot medium leg + 2 ≡ port_of_leg slot medium (leg + 2) = omega arith in
    let on : onward b.pairs (port_of_leg slot medium leg + 2) ≡ Some (port_of_leg other medium (leg + 2)) = ap (onward b.pairs) beside ∙ joined_goes_on b.pairs slot other medium (leg + 2) joined (omega arith) (omega (arith, low)) in
    let over = comes (port_of_leg slot medium leg) (port_of_leg other medium (leg + 2)) to octets tells (omega (arith, low)) on in
    let same : Some over.from ≡ Some (port_of_leg other medium (leg + 2)) = sym (ways over.from (port_of_leg slot medium leg + 2) over.on) ∙ on in
    subst (λ n. IsCrossing b n (port_of_leg slot medium leg) to octets) (let is : over.from ≡ port_of_leg other medium (leg + 2) = cc in is) over.crossing

pub all_inside : (said : List Said) → All StaysInside (bridgings_from empty no_members said)
all_inside = all_among_mates StaysInside (λ w calls s mates. stays_inside (bridging w calls s) (said_four w calls s mates).0.0)

pub all_cross : (said : List Said) → All Crosses (bridgings_from empty no_members said)
all_cross = all_among_mates Crosses (λ w calls s mates. crosses (bridging w calls s) (both_ways w calls s mates) (said_four w calls s mates).0.1)

settles : (b : Bridging) → SettlesOnward b → SettlesWhatOpens b
settles b onwards slot other medium leg packet joined high low o =
    onwards (port_of_leg slot medium leg) (port_of_leg other medium leg) packet (joined_goes_on b.pairs slot other medium leg joined high low) o

loses : (b : Bridging) → AreMates b.pairs → LosesOnward b → LosesOnlySo b
loses b mates onwards q cause t =
    let l = onwards q cause t in
    let j = goes_on_joined b.pairs mates l.p q l.on in
    record {
      slot = j.slot;
      other = j.other;
      medium = j.medium;
      leg = j.leg;
      plain = j.plain;
      joined = j.joined;
      q_is = j.q_is;
      packet = l.packet;
      opens = record { event = l.opens.event; later = l.opens.later; events_are = l.opens.events_are; to = l.opens.to; opened = l.opens.opened ∙ ap (λ n. Out n l.opens.to l.packet ∷ []) j.p_is };
      lost = l.lost;
      told = l.told;
    }

pub all_settled : (said : List Said) → All SettlesWhatOpens (bridgings_from empty no_members said)
all_settled = all_among_mates SettlesWhatOpens (λ w calls s mates. settles (bridging w calls s) (said_four w calls s mates).1.0)

pub all_lost : (said : List Said) → All LosesOnlySo (bridgings_from empty no_members said)
all_lost = all_among_mates LosesOnlySo (λ w calls s mates. loses (bridging w calls s) (subst AreMates (sym (said_begins w calls s).pairs) mates) (said_four w calls s mates).1.1)
