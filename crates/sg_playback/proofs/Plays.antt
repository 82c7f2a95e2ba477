-- What playing a line leaves, from what its parts leave.
use Rattle.std.proofs.Common.{◌≡◌, ◌≤◌, ℕ, List, length, Option, Some, [], ◌∷◌, ◌++◌, map, Result, Ok, Err, IfErr, OnOk, refl, sym, ap, ◌∙◌, subst, inl, inr, append_assoc, append-nil}
use Rattle.sg_trace.proofs.Loops.{alike_more}
use Rattle.sg_trace.proofs.Writings.{prefix_longer}
use Rattle.sg_trace.specs.Supplying.{IsSupplied}
use Rattle.sg_lines.specs.declared.lines.Signal.{Signal}
use Rattle.sg_lines.specs.declared.lines.Line.TheVariants as lines
use Rattle.sg_playback.proofs.Common.{AreAlike, Done, Event, Given, HasCome, HasRoom, IsCutShort, IsPlayed, IsPrefixOf, IsSettled, IsStepped, IsTaken, IsWant}
use Rattle.sg_playback.proofs.Common.{IsWritten, Line, NoMemory, Noise, Playing, Signalled, State, Status, Tally, Tick, Write, Wrote, arrived, deeds_of}
use Rattle.sg_playback.proofs.Common.{effects, events_of, given_by, gives, state_after, state_after-append, text_from, waiting}
use Rattle.sg_playback.proofs.Alike.{events_in_order, same_alike, text_from-append}
use Rattle.sg_playback.proofs.Lines.{few_with}

-- ---- fronts

pub prefix_all : (state : State) (es fs : List Event) (prefix : List ℕ) → IsPrefixOf prefix (text_from state es) → IsPrefixOf prefix (text_from state (es ++ fs))
prefix_all state es fs prefix is = subst (IsPrefixOf prefix) (sym (text_from-append state es fs)) (prefix_longer prefix (text_from state es) (text_from (state_after state es) fs) is)

pub prefix_behind : (state : State) (es fs : List Event) (prefix : List ℕ) → IsPrefixOf prefix (text_from (state_after state es) fs) → IsPrefixOf (text_from state es ++ prefix) (text_from state (es ++ fs))
prefix_behind state es fs prefix is = (
  is.0,
  text_from-append state es fs ∙ ap (λ (l : List ℕ). text_from state es ++ l) is.1 ∙ sym (append_assoc (text_from state es) prefix is.0),
)

-- ---- what was stepped

-- what was written of the events' text, as what they tell
pub stepped : (r : Result (Unit {0}) Status) (state : State) (events : List Event) (stands_for : State → Type 0) (a b : Tally) (octets : List ℕ) → IsWritten r a b octets → octets ≡ text_from state events
    → stands_for (state_after state events) → (out : List ℕ) × Wrote a b out × IsStepped r state events stands_for out
stepped (Ok u) state events stands_for a b octets wrote is stands = (octets, wrote, (is, stands))
stepped (Err Write) state events stands_for a b octets wrote is stands = (wrote.0, wrote.2, (inl refl, subst (IsPrefixOf wrote.0) is wrote.1))
stepped (Err NoMemory) state events stands_for a b octets wrote is stands = (wrote.0, wrote.2, (inr refl, subst (IsPrefixOf wrote.0) is wrote.1))
stepped (Err other) state events stands_for a b octets wrote is stands = absurd wrote

-- a line was cut by such a status
pub played_cut : (status : Status) (l : Line) (state : State) (waited waits : List Event) (stands_for : State → Type 0) (draws out : List ℕ) → IsWant status
    → IsCutShort effects (gives l) 258 state waited draws out → IsPlayed (Err status) effects (gives l) 258 state waited waits stands_for draws out
played_cut status l state waited waits stands_for draws out (inl is) cut = subst (λ other. IsPlayed (Err other) effects (gives l) 258 state waited waits stands_for draws out) (sym is) cut
played_cut status l state waited waits stands_for draws out (inr is) cut = subst (λ other. IsPlayed (Err other) effects (gives l) 258 state waited waits stands_for draws out) (sym is) cut

-- before the line's own events
pub cut_before : (l : Line) (state : State) (waited : List Event) (out : List ℕ) → length waited ≤ 256 → IsPrefixOf out (text_from state waited) → IsCutShort effects (gives l) 258 state waited [] out
cut_before l state waited out few is = record { told = prefix_all state waited (deeds_of (gives l [])) out is; few = few_with l waited [] few }

-- ---- headers and datagrams

-- the line has its events without a draw
abbrev pub Goes : Line → Type 0
Goes l = (more : List ℕ) → gives l more ≡ Some (record { deeds = events_of l; left = more })

-- a line without events
pub header_taken : (l : Line) (state : State) (waited : List Event) (stands_for : State → Type 0) → Goes l → events_of l ≡ [] → stands_for state → IsTaken effects (gives l) state waited waited stands_for [] []
header_taken l state waited stands_for goes none stands = record {
  fresh = events_of l;
  told = [];
  goes = goes;
  alike = same_alike state (waited ++ events_of l) waited (ap (λ (es : List Event). waited ++ es) none ∙ append-nil waited);
  written = refl;
  left = stands;
}

-- A line whose last event arrives, once a prefix of what is like the others was handled and told, and the rest waits.
module _ (l : Line) (goes : Goes l) (state : State) (waited others : List Event) (few : length waited ≤ 256) (e : Event) (splits : events_of l ≡ others ++ e ∷ []) where
  -- with its events behind what waited
  with_events : waited ++ deeds_of (gives l []) ≡ (waited ++ others) ++ e ∷ []
  with_events = ap (λ (g : Option (Given Event)). waited ++ deeds_of g) (goes []) ∙ ap (λ (es : List Event). waited ++ es) splits ∙ sym (append_assoc waited others (e ∷ []))

  -- a line that was cut in the events before its last one
  pub line_cut : (status : Status) (waits' : List Event) (stands_for : State → Type 0) (out : List ℕ) → IsStepped (Err status) state (waited ++ others) stands_for out
      → IsPlayed (Err status) effects (gives l) 258 state waited waits' stands_for [] out
  line_cut status waits' stands_for out cut = played_cut status l state waited waits' stands_for [] out cut.0 (record {
    told = subst (λ (es : List Event). IsPrefixOf out (text_from state es)) (sym with_events) (prefix_all state (waited ++ others) (e ∷ []) out cut.1);
    few = few_with l waited [] few;
  })

  module _ (waits prefix : List Event) (alike : AreAlike effects state (waited ++ others) (prefix ++ waits)) (out : List ℕ) (told : out ≡ text_from state prefix) where
    all_alike : AreAlike effects state ((waited ++ others) ++ e ∷ []) (prefix ++ (waits ++ e ∷ []))
    all_alike = subst (λ (es : List Event). AreAlike effects state ((waited ++ others) ++ e ∷ []) es) (append_assoc prefix waits (e ∷ [])) (alike_more effects events_in_order state (waited ++ others) (prefix ++ waits) (e ∷ []) alike)

    pub line_arrived : (r : Result (Unit {0}) Status) (waits' : List Event) (stands_for : State → Type 0) (out' : List ℕ) → HasRoom r (state_after state prefix) (waits ++ e ∷ []) waits' stands_for out'
        → IsPlayed r effects (gives l) 258 state waited waits' stands_for [] (out ++ out')
    line_arrived (Ok u) waits' stands_for out' room = record {
      fresh = events_of l;
      told = prefix ++ room.0;
      goes = goes;
      alike =
          subst (λ (es : List Event). AreAlike effects state es ((prefix ++ room.0) ++ waits')) (append_assoc waited others (e ∷ []) ∙ ap (λ (es : List Event). waited ++ es) (sym splits))
          (subst (λ (es : List Event). AreAlike effects state ((waited ++ others) ++ e ∷ []) es) (ap (λ (es : List Event). prefix ++ es) room.1 ∙ sym (append_assoc prefix room.0 waits')) all_alike);
      written = (λ i. told i ++ room.2.0 i) ∙ sym (text_from-append state prefix room.0);
      left = subst stands_for (sym (state_after-append state prefix room.0)) room.2.1;
    }
    line_arrived (Err status) waits' stands_for out' cut =
        played_cut status l state waited waits' stands_for [] (out ++ out') cut.0 (record {
          told =
              subst (IsPrefixOf (out ++ out')) (sym (ap (text_from state) with_events ∙ all_alike.told))
              (subst (λ (o : List ℕ). IsPrefixOf (o ++ out') (text_from state (prefix ++ (waits ++ e ∷ [])))) (sym told) (prefix_behind state prefix (waits ++ e ∷ []) out' cut.1));
          few = few_with l waited [] few;
        })

-- ---- signals

module _ (signal s : Signal) (draws : List ℕ) (has : IsSupplied (Ok s) signal draws) where
  signal_goes : (more : List ℕ) → gives (lines.Signal signal) (draws ++ more) ≡ Some (record { deeds = events_of (lines.Signal s); left = more })
  signal_goes more = ap given_by (has more)

  pub signal_taken : (state : State) (waited waits : List Event) (stands_for : State → Type 0) (out out' : List ℕ) → waits ≡ [] → out ≡ text_from state waited
      → IsStepped (Ok tt) (state_after state waited) (events_of (lines.Signal s)) stands_for out' → IsTaken effects (gives (lines.Signal signal)) state waited waits stands_for draws (out ++ out')
  signal_taken state waited waits stands_for out out' none told stepped = record {
    fresh = events_of (lines.Signal s);
    told = waited ++ events_of (lines.Signal s);
    goes = signal_goes;
    alike =
        same_alike state (waited ++ events_of (lines.Signal s)) ((waited ++ events_of (lines.Signal s)) ++ waits)
        (sym (append-nil (waited ++ events_of (lines.Signal s))) ∙ ap (λ (l : List Event). (waited ++ events_of (lines.Signal s)) ++ l) (sym none));
    written = (λ i. told i ++ stepped.0 i) ∙ sym (text_from-append state waited (events_of (lines.Signal s)));
    left = subst stands_for (sym (state_after-append state waited (events_of (lines.Signal s)))) stepped.1;
  }

  pub signal_cut : (state : State) (waited : List Event) (out out' : List ℕ) → length waited ≤ 256 → out ≡ text_from state waited → IsPrefixOf out' (text_from (state_after state waited) (events_of (lines.Signal s)))
      → IsCutShort effects (gives (lines.Signal signal)) 258 state waited draws (out ++ out')
  signal_cut state waited out out' few told is =
      let given : deeds_of (gives (lines.Signal signal) draws) ≡ events_of (lines.Signal s) = ap (λ (d : List ℕ). deeds_of (gives (lines.Signal signal) d)) (sym (append-nil draws)) ∙ ap deeds_of (signal_goes []) in record {
        told =
            subst (λ (es : List Event). IsPrefixOf (out ++ out') (text_from state (waited ++ es))) (sym given)
            (subst (λ (o : List ℕ). IsPrefixOf (o ++ out') (text_from state (waited ++ events_of (lines.Signal s)))) (sym told) (prefix_behind state waited (events_of (lines.Signal s)) out' is));
        few = few_with (lines.Signal signal) waited draws few;
      }

-- its noise wasn't drawn
pub unsupplied : (status : Status) (signal : Signal) (state : State) (waited waits : List Event) (stands_for : State → Type 0) (draws out : List ℕ) → IsSupplied (Err status) signal draws → out ≡ text_from state waited
    → IsPlayed (Err status) effects (gives (lines.Signal signal)) 258 state waited waits stands_for draws out
unsupplied Noise signal state waited waits stands_for draws out is told = record { drew = is.0; stops = ap given_by is.1; told = told }
unsupplied Done signal state waited waits stands_for draws out is told = absurd is
unsupplied other signal state waited waits stands_for draws out is told = absurd is

-- ---- what was wanting

pub want_not : (status : Status) → IsWant status → (let r : Result (Unit {0}) Status = Err status in r ≡ Err Noise) → ⊥
want_not status (inl is) same = let noise : status ≡ Noise = cc in absurd (let both : Write ≡ Noise = sym is ∙ noise in cc)
want_not status (inr is) same = let noise : status ≡ Noise = cc in absurd (let both : NoMemory ≡ Noise = sym is ∙ noise in cc)

pub only_not : (r : Result (Unit {0}) Status) → IfErr r (λ status. IsWant status) → r ≡ Err Noise → ⊥
only_not (Ok u) only is = cc
only_not (Err status) only is = want_not status only is

pub none_waiting : (r : Result (Unit {0}) Status) (p : Playing) → OnOk r (p.waits ≡ []) → OnOk r (waiting p ≡ [])
none_waiting (Ok u) p none = ap (map arrived) none
none_waiting (Err status) p none = tt

pub memory_only : (r : Result (Unit {0}) Status) → IfErr r (λ status. status ≡ NoMemory) → IfErr r (λ status. IsWant status)
memory_only (Ok u) only = tt
memory_only (Err status) only = inr only

pub written_only : (r : Result (Unit {0}) Status) (a b : Tally) (octets : List ℕ) → IsWritten r a b octets → IfErr r (λ status. IsWant status)
written_only (Ok u) a b octets wrote = tt
written_only (Err Write) a b octets wrote = inl refl
written_only (Err NoMemory) a b octets wrote = inr refl
written_only (Err other) a b octets wrote = absurd wrote

-- ---- room for a datagram

-- a datagram waits behind those that still wait, or there was no memory for it
pub arrived_room : (r : Result (Unit {0}) Status) (state : State) (waited mid waits prefix : List Event) (e : Event) (stands_for : State → Type 0) (out : List ℕ) → waited ≡ prefix ++ mid → OnOk r (waits ≡ mid ++ e ∷ [])
    → IfErr r (λ status. status ≡ NoMemory) → IsStepped (Ok tt) state prefix stands_for out → HasRoom r state (waited ++ e ∷ []) waits stands_for out
arrived_room (Ok u) state waited mid waits prefix e stands_for out split waits_are only stepped = (
  prefix,
  ap (λ (l : List Event). l ++ e ∷ []) split ∙ append_assoc prefix mid (e ∷ []) ∙ ap (λ (l : List Event). prefix ++ l) (sym waits_are),
  stepped,
)
arrived_room (Err status) state waited mid waits prefix e stands_for out split waits_are only stepped =
    (inr only, prefix_all state waited (e ∷ []) out (subst (λ (es : List Event). IsPrefixOf out (text_from state es)) (sym split) (prefix_all state prefix mid out ([], sym stepped.0 ∙ sym (append-nil out)))))

-- where there was no room
pub room_cut : (status : Status) (state : State) (waited more : List Event) (stands_for : State → Type 0) (out : List ℕ) → IsStepped (Err status) state waited stands_for out → IsStepped (Err status) state (waited ++ more) stands_for out
room_cut status state waited more stands_for out cut = (cut.0, prefix_all state waited more out cut.1)

-- ---- ticks

-- what waited was told, and then the tick
pub ticked : (r : Result (Unit {0}) Status) (state : State) (waited events : List Event) (stands_for : State → Type 0) (out out' : List ℕ) → out ≡ text_from state waited → IsStepped r (state_after state waited) events stands_for out'
    → IsStepped r state (waited ++ events) stands_for (out ++ out')
ticked (Ok u) state waited events stands_for out out' told stepped = (
  (λ i. told i ++ stepped.0 i) ∙ sym (text_from-append state waited events),
  subst stands_for (sym (state_after-append state waited events)) stepped.1,
)
ticked (Err status) state waited events stands_for out out' told cut =
    (cut.0, subst (λ (o : List ℕ). IsPrefixOf (o ++ out') (text_from state (waited ++ events))) (sym told) (prefix_behind state waited events out' cut.1))

-- a tick that was taken, and nothing waits
pub come : (r : Result (Unit {0}) Status) (now : ℕ) (state : State) (waited waits : List Event) (stands_for : State → Type 0) (out : List ℕ) → OnOk r (waits ≡ []) → IsStepped r state (waited ++ Signalled (Tick now) ∷ []) stands_for out
    → HasCome r now state waited waits stands_for out
come (Ok u) now state waited waits stands_for out none stepped =
    let all : List Event = waited ++ Signalled (Tick now) ∷ [] in
    (all, same_alike state all (all ++ waits) (sym (append-nil all) ∙ ap (λ (l : List Event). all ++ l) (sym none)), stepped)
come (Err status) now state waited waits stands_for out none stepped = stepped

-- ---- a signal that has its noise

pub signal_played : (r : Result (Unit {0}) Status) (signal s : Signal) (draws : List ℕ) → IsSupplied (Ok s) signal draws → (state : State) (waited waits : List Event) (stands_for : State → Type 0) (out out' : List ℕ)
    → length waited ≤ 256 → waits ≡ [] → out ≡ text_from state waited → IsStepped r (state_after state waited) (events_of (lines.Signal s)) stands_for out'
    → IsPlayed r effects (gives (lines.Signal signal)) 258 state waited waits stands_for draws (out ++ out')
signal_played (Ok u) signal s draws has state waited waits stands_for out out' few none told stepped = signal_taken signal s draws has state waited waits stands_for out out' none told stepped
signal_played (Err status) signal s draws has state waited waits stands_for out out' few none told cut =
    played_cut status (lines.Signal signal) state waited waits stands_for draws (out ++ out') cut.0 (signal_cut signal s draws has state waited out out' few told cut.1)

-- ---- where a batch was handled there is room again

pub has_room : (r : Result (Unit {0}) Status) (state : State) (waited waits : List Event) (stands_for : State → Type 0) (out : List ℕ)
    → IsSettled r effects 258 state waited waits stands_for out → HasRoom r state waited waits stands_for out
has_room (Ok u) state waited waits stands_for out settled = (waited, sym (ap (λ (later : List Event). waited ++ later) settled.1 ∙ append-nil waited), (settled.0, settled.2))
has_room (Err status) state waited waits stands_for out settled = (settled.0, settled.1)
