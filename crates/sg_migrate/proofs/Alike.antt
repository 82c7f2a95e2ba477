-- A script and what it is migrated to are played alike.
use Rattle.std.proofs.Common.{◌≡◌, ◌+◌, ◌≤◌, ◌<◌, ◌^◌, ℕ, Bool, true, false, cond, max, take, drop, List, [], ◌∷◌, ◌++◌, length, Option, Some, None, Result, Ok, Err, refl, sym, ap, ◌∙◌, subst, length-append, arith, eqb, ltb}
use Rattle.std.specs.Prelude.{is_none}
use Rattle.std.specs.Option.{is_some}
use Rattle.std.proofs.lemmas.Bool.{cond-false, le-ltb, ltb-true, ltb-false}
use Rattle.sg_agreement.specs.declared.ways.Way.{Way}
use Rattle.sg_base.specs.declared.addresses.Address.{Address}
use Rattle.sg_base.specs.declared.addresses.CallId.{CallId}
use Rattle.sg_base.specs.declared.faults.Refusal.{Refusal}
use Rattle.sg_base.specs.declared.faults.ScriptFault.{ScriptFault}
use Rattle.sg_base.specs.declared.faults.ScriptFault.TheVariants.{Length}
use Rattle.sg_base.specs.declared.identities.Noise304.{Noise304}
use Rattle.sg_gateway.proofs.Rested.{arrived_moment}
use Rattle.sg_gateway.specs.CallSignals.{rejected_in}
use Rattle.sg_gateway.specs.Drawn.{Supplied, signal_with_noise, supplied}
use Rattle.sg_gateway.specs.Events.{events_of, events_of_signal, outcomes_from, signal_lacks_noise, signal_of}
use Rattle.sg_gateway.specs.Generations.{Settled}
use Rattle.sg_gateway.specs.Moments.{MomentComesOnce}
use Rattle.sg_gateway.specs.Octets.{as_octets}
use Rattle.sg_gateway.specs.Runs.{outcomes, world_after}
use Rattle.sg_gateway.specs.Signals as signals
use Rattle.sg_gateway.specs.Signals.{answer_to, answered, in_new, in_old, left, offered_to, rejected, rejected_to, ticked}
use Rattle.sg_gateway.specs.Step.{Event, Signalled, Datagram, step}
use Rattle.sg_gateway.specs.World.{Call, World, call_of, empty, is_full}
use Rattle.sg_lines.specs.LineOf.{line_of, version_after}
use Rattle.sg_lines.specs.LineText.{FitsLine, FitsSignal, line_text}
use Rattle.sg_lines.specs.ScriptLines.{IsWhole, lines_of, onto}
use Rattle.sg_lines.specs.declared.lines.Line.{Line}
use Rattle.sg_lines.specs.declared.lines.Line.TheVariants as lines
use Rattle.sg_lines.specs.declared.lines.Signal as scripts
use Rattle.sg_lines.specs.declared.lines.Signal.TheVariants.{Tick, OfferSecure, OfferSdes, OfferMikey, Answer}
use Rattle.sg_migrate.specs.Migrated.{IsOfVersionOne, migrated, moment_after, of_migration, of_version_one, written_of}
use Rattle.sg_outcome.specs.declared.outcomes.Outcome.{Outcome}
use Rattle.sg_psk.specs.Pairs.{has_pair}
use Rattle.sg_session.proofs.Lists.{both}
use Rattle.sg_migrate.specs.declared.lines.LineOfVersionOne.{LineOfVersionOne}
use Rattle.sg_trace.proofs.Frames.{too_far}
use Rattle.sg_trace.proofs.Traces.{outcomes_from-append, reads_on, world_after-append}
use Rattle.sg_trace.specs.Course.{behind_line, course_from, read_at}
use Rattle.sg_trace.specs.Output.{IsPrefixOf}
use Rattle.sg_trace.specs.Trace.{after_line as said_line, Outside, Replays, Trace, drawing, handled, handled_as, line_at, replayed, trace_from}

-- ---- the moment after a signal

-- the greatest of the ticks, by that before the signal
abbrev moment_by : ℕ → signals.Signal → ℕ
moment_by moment (signals.Tick now) = max moment now
moment_by moment other = moment

module _ (w : World) where
  abbrev Stays : signals.Answer → Type 0
  Stays a = a.world.moment ≡ w.moment

  new_stays : (id : CallId) (told : Settled → List Outcome) (q : Result Settled Refusal) → Stays (in_new w id told q)
  new_stays id told (Err cause) = refl
  new_stays id told (Ok r) = refl

  old_stays : (id : CallId) (told : Settled → List Outcome) (q : Result Settled Refusal) → Stays (in_old w id told q)
  old_stays id told (Err cause) = refl
  old_stays id told (Ok r) = refl

  offer_stays : (id : CallId) (way : Way) (noise text : List ℕ) (o : Option Call) → Stays (offered_to w id way noise text o)
  offer_stays id way noise text None = both Stays (is_full w) _ _ refl (new_stays id _ _)
  offer_stays id way noise text (Some c) = old_stays id _ _

  answer_stays : (id : CallId) (noise text : List ℕ) (o : Option Call) → Stays (answered w id noise text o)
  answer_stays id noise text None = refl
  answer_stays id noise text (Some c) = old_stays id _ _

  rejection_stays : (c : Call) (q : Result (Option Call) Refusal) → Stays (rejected_to w c q)
  rejection_stays c (Err cause) = refl
  rejection_stays c (Ok None) = refl
  rejection_stays c (Ok (Some d)) = refl

  reject_stays : (id : CallId) (o : Option Call) → Stays (rejected w id o)
  reject_stays id None = refl
  reject_stays id (Some c) = rejection_stays c (rejected_in w.moment c)

  bye_stays : (id : CallId) (o : Option Call) → Stays (left w id o)
  bye_stays id None = refl
  bye_stays id (Some c) = refl

  tick_moves : (now : ℕ) → (ticked w now).world.moment ≡ max w.moment now
  tick_moves now = at _ _ refl refl (ltb now w.moment) refl
    where
      at : (early on : signals.Answer) → early.world.moment ≡ w.moment → on.world.moment ≡ now → (b : Bool) → ltb now w.moment ≡ b → (cond b early on).world.moment ≡ max w.moment now
      at early on stays moves true is = (let lt = ltb-true now w.moment is in omega (arith, stays, lt))
      at early on stays moves false is = (let le = ltb-false now w.moment is in omega (arith, moves, le))

  signal_moves : (signal : signals.Signal) → (answer_to w signal).world.moment ≡ moment_by w.moment signal
  signal_moves (signals.Tick now) = tick_moves now
  signal_moves (signals.Psk p) = both Stays (has_pair w.books.pairs p.own p.peer) _ _ refl (both Stays (ltb (length w.books.pairs) 64) _ _ refl refl)
  signal_moves (signals.Manual h) = both Stays (is_some (call_of w h.id)) _ _ refl (both Stays (is_full w) _ _ refl (new_stays h.id _ _))
  signal_moves (signals.Offered id way noise text) = offer_stays id way noise text (call_of w id)
  signal_moves (signals.Answered id noise text) = answer_stays id noise text (call_of w id)
  signal_moves (signals.Reject id) = reject_stays id (call_of w id)
  signal_moves (signals.Bye id) = bye_stays id (call_of w id)

  -- ---- the moment after a line's signal

  abbrev After : List Event → Type 0
  After es = (world_after w es).moment ≡ w.moment

  line_moves : (signal : scripts.Signal) → (world_after w (events_of_signal signal)).moment ≡ moment_after w.moment (lines.Signal signal)
  line_moves (OfferSecure call noise text) = both After (is_none noise) _ _ refl (signal_moves (signal_of (OfferSecure call noise text)))
  line_moves (OfferSdes call noise text) = both After (is_none noise) _ _ refl (signal_moves (signal_of (OfferSdes call noise text)))
  line_moves (OfferMikey call peer noise text) = both After (is_none noise) _ _ refl (signal_moves (signal_of (OfferMikey call peer noise text)))
  line_moves (Answer call noise text) = both After (is_none noise) _ _ refl (signal_moves (signal_of (Answer call noise text)))
  line_moves other = signal_moves (signal_of other)

-- noise changes no moment
noise_leaves : (moment : ℕ) (drawn : Noise304) (signal : scripts.Signal) → moment_after moment (lines.Signal (signal_with_noise drawn signal)) ≡ moment_after moment (lines.Signal signal)
noise_leaves moment drawn (Tick now) = refl
noise_leaves moment drawn other = refl

-- ---- what events tell

-- the same is told from a world on
abbrev Alike : World → Trace → Trace → Type 0
Alike w c d = outcomes_from w c.events ≡ outcomes_from w d.events

-- a line's own events before
told_after : (w : World) (es fs gs : List Event) → outcomes_from (world_after w es) fs ≡ outcomes_from (world_after w es) gs → outcomes_from w (es ++ fs) ≡ outcomes_from w (es ++ gs)
told_after w es fs gs is = outcomes_from-append w es fs ∙ ap (λ (l : List Outcome). outcomes_from w es ++ l) is ∙ sym (outcomes_from-append w es gs)

-- a tick at the last moment before
tick_told : (w : World) (now : ℕ) (es : List Event) → step w (Signalled (signals.Tick w.moment)) ≡ record { outcomes = []; entries = []; world = w } → w.moment ≡ now
    → outcomes_from w (Signalled (signals.Tick now) ∷ es) ≡ outcomes_from w es
tick_told w now es once is =
    subst (λ (n : ℕ). outcomes_from w (Signalled (signals.Tick n) ∷ es) ≡ outcomes_from w es) is
    (ap (λ h. h.outcomes ++ outcomes_from h.world es) once)

-- ---- what is written

-- of the lines from the n-th on
abbrev pub written_from : ℕ → ℕ → ℕ → List (List ℕ) → List ℕ
written_from n at moment ls = written_of moment (course_from of_migration 1 n at ls []).deeds

-- of a line that says so, and of those behind it
abbrev pub written_by : ℕ → ℕ → ℕ → List ℕ → List (List ℕ) → Result Line ScriptFault → List ℕ
written_by n at moment l ls r = written_of moment (behind_line of_migration 1 n (at + length l) (of_version_one r) (λ v. course_from of_migration v (n + 1) (at + length l) ls) []).deeds

-- how a line is read
pub one_at : (n at : ℕ) (l : List ℕ) → read_at of_migration 1 n at l ≡ of_version_one (line_at 1 n at l)
one_at n at l = go (too_far at l)
  where
    go : (b : Bool) → cond b (Err Length) (of_version_one (line_of 1 n l)) ≡ of_version_one (cond b (Err Length) (line_of 1 n l))
    go true = refl
    go false = refl

pub written_is : (n at moment : ℕ) (l : List ℕ) (ls : List (List ℕ)) → written_from n at moment (l ∷ ls) ≡ written_by n at moment l ls (line_at 1 n at l)
written_is n at moment l ls =
    ap (λ (r : Result LineOfVersionOne ScriptFault). written_of moment (behind_line of_migration 1 n (at + length l) r (λ v. course_from of_migration v (n + 1) (at + length l) ls) []).deeds) (one_at n at l)

-- ---- lines

-- what the grammar says of lines that are read and printed
pub record Grammar : Type 0 where
  pub again : (version number : ℕ) (l : Line) → FitsLine version number l → line_of version number (line_text l) ≡ Ok l
  pub takes : (version number : ℕ) (octets : List ℕ) (l : Line) → line_of version number octets ≡ Ok l → (octets ≡ line_text l) × FitsLine version number l
  pub whole : (version number : ℕ) (octets : List ℕ) (l : Line) → line_of version number octets ≡ Ok l → IsWhole octets

err_ok : {A : Type 0} (f : ScriptFault) (x : A) → Err f ≡ Ok x → ⊥
err_ok f x is = cc

at_line : (version n at : ℕ) (octets : List ℕ) (l : Line) → line_at version n at octets ≡ Ok l → line_of version n octets ≡ Ok l
at_line version n at octets l is = go (too_far at octets) is
  where
    go : (b : Bool) → cond b (Err Length) (line_of version n octets) ≡ Ok l → line_of version n octets ≡ Ok l
    go true is = absurd (err_ok _ _ is)
    go false is = is

max_below : (a b c : ℕ) → a ≤ c → b ≤ c → max a b ≤ c
max_below a b c p q = omega (arith, p, q)

pub moment_below : (moment : ℕ) (signal : scripts.Signal) → moment ≤ 2085978495999 → FitsSignal signal → moment_after moment (lines.Signal signal) ≤ 2085978495999
moment_below moment (Tick now) most fits = max_below moment now 2085978495999 most fits
moment_below moment other most fits = most

some_is : (x y : Supplied) → Some x ≡ Some y → x ≡ y
some_is x y is = cc

-- the moment after a signal that has its noise
module _ (w : World) (draws : List ℕ) (signal : scripts.Signal) (s : Supplied) where
  abbrev Moves : Line → Type 0
  Moves l = (world_after w (events_of l)).moment ≡ moment_after w.moment (lines.Signal signal)

  abbrev drawn : Noise304
  drawn = record { 0 = take 304 draws }

  supplied_by : (x : Supplied) (other : scripts.Signal) → x.line ≡ lines.Signal other → moment_after w.moment (lines.Signal other) ≡ moment_after w.moment (lines.Signal signal) → x ≡ s → Moves s.line
  supplied_by x other is same x_is = subst Moves (sym is ∙ ap (λ (y : Supplied). y.line) x_is) (line_moves w other ∙ same)

  supplied_at : (a b : Bool) → cond a (cond b None (Some (record { line = lines.Signal (signal_with_noise drawn signal); draws = drop 304 draws }))) (Some (record { line = lines.Signal signal; draws = draws })) ≡ Some s
      → Moves s.line
  supplied_at true true is = absurd cc
  supplied_at true false is = supplied_by (record { line = lines.Signal (signal_with_noise drawn signal); draws = drop 304 draws }) (signal_with_noise drawn signal) refl (noise_leaves w.moment drawn signal) (some_is _ _ is)
  supplied_at false b is = supplied_by (record { line = lines.Signal signal; draws = draws }) signal refl refl (some_is _ _ is)

  supplied_moves : supplied draws (lines.Signal signal) ≡ Some s → Moves s.line
  supplied_moves e = supplied_at (signal_lacks_noise signal) (ltb (length draws) 304) e

-- ---- the first line

-- the first line is a prefix
first_prefix : (octets l : List ℕ) (ls : List (List ℕ)) → lines_of octets ≡ l ∷ ls → IsPrefixOf l octets
first_prefix [] l ls is = absurd cc
first_prefix (b ∷ bs) l ls is = at (eqb b 10) (λ m ms e. first_prefix bs m ms e) is
  where
    first_is : (x y : List ℕ) (xs ys : List (List ℕ)) → x ∷ xs ≡ y ∷ ys → x ≡ y
    first_is x y xs ys is = cc

    go : ((m : List ℕ) (ms : List (List ℕ)) → lines_of bs ≡ m ∷ ms → IsPrefixOf m bs) → (rest : List (List ℕ)) → lines_of bs ≡ rest → onto b rest ≡ l ∷ ls → IsPrefixOf l (b ∷ bs)
    go again [] e is = subst (λ (x : List ℕ). IsPrefixOf x (b ∷ bs)) (first_is _ _ _ _ is) (bs, refl)
    go again (m ∷ ms) e is =
        let prefix = again m ms e in
        subst (λ (x : List ℕ). IsPrefixOf x (b ∷ bs)) (first_is _ _ _ _ is) (prefix.0, ap (λ (t : List ℕ). b ∷ t) prefix.1)

    at : (end : Bool) → ((m : List ℕ) (ms : List (List ℕ)) → lines_of bs ≡ m ∷ ms → IsPrefixOf m bs) → cond end ((b ∷ []) ∷ lines_of bs) (onto b (lines_of bs)) ≡ l ∷ ls → IsPrefixOf l (b ∷ bs)
    at true again is = subst (λ (x : List ℕ). IsPrefixOf x (b ∷ bs)) (first_is _ _ _ _ is) (bs, refl)
    at false again is = go again (lines_of bs) refl is

-- ---- scripts

module _ (grammar : Grammar) where
  -- the line of a printed line
  pub printed_at : (version n at : ℕ) (l : Line) → FitsLine version n l → at + length (line_text l) ≤ 2 ^ 30 → line_at version n at (line_text l) ≡ Ok l
  printed_at version n at l fits within =
      cond-false _ _ _ (le-ltb (2 ^ 30) (at + length (line_text l)) within) ∙ grammar.again version n l fits

  pub reads_printed : (version n at : ℕ) (l : Line) (rest : List ℕ) (top : ℕ) (o : Outside) → FitsLine version n l → at + length (line_text l) ≤ 2 ^ 30
      → trace_from Replays version n at (lines_of (line_text l ++ rest)) top o
      ≡ handled l (trace_from Replays (version_after version l) (n + 1) (at + length (line_text l)) (lines_of rest)) top o
  reads_printed version n at l rest top o fits within =
      let whole = grammar.whole version n (line_text l) l (grammar.again version n l fits) in
      reads_on Replays version n at (line_text l) rest l top o refl whole (printed_at version n at l fits within)

  -- what a line that is read fits
  pub fits_at : (n at : ℕ) (octets : List ℕ) (l : Line) → line_at 1 n at octets ≡ Ok l → FitsLine 1 n l
  fits_at n at octets l is = (grammar.takes 1 n octets l (at_line 1 n at octets l is)).1

  module _ (once : (events : List Event) → MomentComesOnce events) where
    -- a line behind the header, and the later ones
    module _ (l : List ℕ) (ls : List (List ℕ)) (n at at' moment : ℕ) (es : List Event) (top : ℕ) (o : Outside) (later : 1 < n) (is : (world_after empty es).moment ≡ moment) (most : moment ≤ 2085978495999) where
      -- what is written of the later lines
      abbrev rest : ℕ → List ℕ
      rest m = written_from (n + 1) (at + length l) m ls

      abbrev w : World
      w = world_after empty es

      abbrev Again : Type 0
      Again = (at' m : ℕ) (fs : List Event) (top : ℕ) (o : Outside) → (world_after empty fs).moment ≡ m → m ≤ 2085978495999 → at' + length (rest m) ≤ 2 ^ 30
          → Alike (world_after empty fs) (trace_from Replays 2 (n + 1) at' (lines_of (rest m)) top o) (trace_from Replays 1 (n + 1) (at + length l) ls top o)

      -- behind these events
      onward : Again → (at' m : ℕ) (fs : List Event) (top : ℕ) (o : Outside) → (world_after w fs).moment ≡ m → m ≤ 2085978495999 → at' + length (rest m) ≤ 2 ^ 30
          → Alike (world_after w fs) (trace_from Replays 2 (n + 1) at' (lines_of (rest m)) top o) (trace_from Replays 1 (n + 1) (at + length l) ls top o)
      onward again at' m fs top o is most within =
          let same = world_after-append empty es fs in
          subst (λ v. Alike v (trace_from Replays 2 (n + 1) at' (lines_of (rest m)) top o) (trace_from Replays 1 (n + 1) (at + length l) ls top o)) same
          (again at' m (es ++ fs) top o (ap (λ v. v.moment) same ∙ is) most within)

      of_datagram : Again → (port : ℕ) (from : Address) (octets : List ℕ) → FitsLine 1 n (lines.Datagram port from octets)
          → at' + length (line_text (lines.DatagramAt moment port from octets) ++ rest moment) ≤ 2 ^ 30
          → Alike w (trace_from Replays 2 n at' (lines_of (line_text (lines.DatagramAt moment port from octets) ++ rest moment)) top o)
          (handled (lines.Datagram port from octets) (trace_from Replays 1 (n + 1) (at + length l) ls) top o)
      of_datagram again port from octets fits within =
          let x = lines.DatagramAt moment port from octets in
          let e = Datagram port from (as_octets octets) in
          let size = length-append (line_text x) (rest moment) in
          let reads = reads_printed 2 n at' x (rest moment) top o (fits.0, (fits.1.0, fits.1.1, fits.1.2, refl, most)) (omega (arith, within, size)) in
          let now : (world_after w (e ∷ [])).moment ≡ moment = arrived_moment w e port from (as_octets octets) refl ∙ is in
          ap (λ (t : Trace). outcomes_from w t.events) reads
          ∙ tick_told w moment (e ∷ (trace_from Replays 2 (n + 1) (at' + length (line_text x)) (lines_of (rest moment)) top o).events) (once es) is
          ∙ told_after w (e ∷ []) (trace_from Replays 2 (n + 1) (at' + length (line_text x)) (lines_of (rest moment)) top o).events (trace_from Replays 1 (n + 1) (at + length l) ls top o).events (onward again (at' + length (line_text x)) moment (e ∷ []) top o now most (omega (arith, within, size)))

      of_supplied : Again → (signal : scripts.Signal) → FitsSignal signal → (at' : ℕ) → at' + length (rest (moment_after moment (lines.Signal signal))) ≤ 2 ^ 30
          → (s : Option Supplied) → supplied o.draws (lines.Signal signal) ≡ s
          → Alike w (handled_as s (trace_from Replays 2 (n + 1) at' (lines_of (rest (moment_after moment (lines.Signal signal))))) top o)
          (handled_as s (trace_from Replays 1 (n + 1) (at + length l) ls) top o)
      of_supplied again signal fits at' within None e = refl
      of_supplied again signal fits at' within (Some s) e =
          let m = moment_after moment (lines.Signal signal) in
          let now : (world_after w (events_of s.line)).moment ≡ m = supplied_moves w o.draws signal s e ∙ ap (λ (k : ℕ). moment_after k (lines.Signal signal)) is in
          told_after w (events_of s.line) _ _ (onward again at' m (events_of s.line) top (record o { draws = s.draws }) now (moment_below moment signal most fits) within)

      of_signal : Again → (signal : scripts.Signal) → FitsLine 1 n (lines.Signal signal)
          → at' + length (line_text (lines.Signal signal) ++ rest (moment_after moment (lines.Signal signal))) ≤ 2 ^ 30
          → Alike w (trace_from Replays 2 n at' (lines_of (line_text (lines.Signal signal) ++ rest (moment_after moment (lines.Signal signal)))) top o)
          (handled (lines.Signal signal) (trace_from Replays 1 (n + 1) (at + length l) ls) top o)
      of_signal again signal fits within =
          let m = moment_after moment (lines.Signal signal) in
          let size = length-append (line_text (lines.Signal signal)) (rest m) in
          let reads = reads_printed 2 n at' (lines.Signal signal) (rest m) top o fits (omega (arith, within, size)) in
          ap (λ (t : Trace). outcomes_from w t.events) reads
          ∙ of_supplied again signal fits.1 (at' + length (line_text (lines.Signal signal))) (omega (arith, within, size)) (supplied o.draws (lines.Signal signal)) refl

      by_line : (r : Result Line ScriptFault) → line_at 1 n at l ≡ r → Again
          → at' + length (written_by n at moment l ls r) ≤ 2 ^ 30
          → Alike w (trace_from Replays 2 n at' (lines_of (written_by n at moment l ls r)) top o)
          (said_line Replays 1 n r (λ v. trace_from Replays v (n + 1) (at + length l) ls) top o)
      by_line (Err fault) e again within = refl
      by_line (Ok lines.Header) e again within = absurd (let first : n ≡ 1 = fits_at n at l lines.Header e in omega (arith, first, later))
      by_line (Ok lines.HeaderTwo) e again within = absurd (let first : n ≡ 1 = fits_at n at l lines.HeaderTwo e in omega (arith, first, later))
      by_line (Ok (lines.DatagramAt now port from octets)) e again within = absurd (let two : 1 ≡ 2 = (fits_at n at l (lines.DatagramAt now port from octets) e).1.3 in omega (arith, two))
      by_line (Ok (lines.Datagram port from octets)) e again within = of_datagram again port from octets (fits_at n at l (lines.Datagram port from octets) e) within
      by_line (Ok (lines.Signal signal)) e again within = of_signal again signal (fits_at n at l (lines.Signal signal) e) within

    -- the lines behind the header
    alike : (ls : List (List ℕ)) (n at at' moment : ℕ) (es : List Event) (top : ℕ) (o : Outside) → 1 < n → (world_after empty es).moment ≡ moment → moment ≤ 2085978495999
        → at' + length (written_from n at moment ls) ≤ 2 ^ 30
        → Alike (world_after empty es) (trace_from Replays 2 n at' (lines_of (written_from n at moment ls)) top o) (trace_from Replays 1 n at ls top o)
    alike [] n at at' moment es top o later is most within = refl
    alike (l ∷ ls) n at at' moment es top o later is most within =
        subst (λ (t : List ℕ). at' + length t ≤ 2 ^ 30 → Alike (world_after empty es) (trace_from Replays 2 n at' (lines_of t) top o) (trace_from Replays 1 n at (l ∷ ls) top o)) (sym (written_is n at moment l ls))
        (by_line l ls n at at' moment es top o later is most (line_at 1 n at l) refl (λ at' m fs top o. alike ls (n + 1) (at + length l) at' m fs top o (omega arith))) within

    -- the header, and the lines behind it
    module _ (octets draws : List ℕ) (one : IsOfVersionOne octets) where
      first_line : (l : List ℕ) (ls : List (List ℕ)) → lines_of octets ≡ l ∷ ls → (r : Result Line ScriptFault) → line_at 1 1 0 l ≡ r
          → length (written_by 1 0 0 l ls r) ≤ 2 ^ 30
          → Alike empty (trace_from Replays 1 1 0 (lines_of (written_by 1 0 0 l ls r)) 0 (drawing draws))
          (said_line Replays 1 1 r (λ v. trace_from Replays v 2 (0 + length l) ls) 0 (drawing draws))
      first_line l ls split (Err fault) e within = refl
      first_line l ls split (Ok lines.HeaderTwo) e within =
          let header = (grammar.takes 1 1 l lines.HeaderTwo (at_line 1 1 0 l lines.HeaderTwo e)).0 in
          absurd (one (subst (λ (x : List ℕ). IsPrefixOf x octets) header (first_prefix octets l ls split)))
      first_line l ls split (Ok lines.Header) e within =
          let rest = written_from 2 (0 + length l) 0 ls in
          let size = length-append (line_text lines.HeaderTwo) rest in
          ap (λ (t : Trace). outcomes_from empty t.events) (reads_printed 1 1 0 lines.HeaderTwo rest 0 (drawing draws) refl (omega (arith, within, size)))
          ∙ alike ls 2 (0 + length l) (0 + length (line_text lines.HeaderTwo)) 0 [] 0 (drawing draws) (omega arith) refl (omega arith) (omega (arith, within, size))
      first_line l ls split (Ok other) e within = absurd ((fits_at 1 0 l other e).0 refl)

      all_lines : (ls : List (List ℕ)) → lines_of octets ≡ ls → length (written_from 1 0 0 ls) ≤ 2 ^ 30
          → Alike empty (trace_from Replays 1 1 0 (lines_of (written_from 1 0 0 ls)) 0 (drawing draws)) (trace_from Replays 1 1 0 ls 0 (drawing draws))
      all_lines [] split within = refl
      all_lines (l ∷ ls) split within =
          subst (λ (t : List ℕ). length t ≤ 2 ^ 30 → Alike empty (trace_from Replays 1 1 0 (lines_of t) 0 (drawing draws)) (trace_from Replays 1 1 0 (l ∷ ls) 0 (drawing draws))) (sym (written_is 1 0 0 l ls))
          (first_line l ls split (line_at 1 1 0 l) refl) within

      pub played_alike : length (migrated octets) ≤ 2 ^ 30 → outcomes (replayed (migrated octets) draws).events ≡ outcomes (replayed octets draws).events
      played_alike within = all_lines (lines_of octets) refl within
