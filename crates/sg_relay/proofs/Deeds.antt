-- How what was done for acts adds up.
use Rattle.std.proofs.Common.{◌≡◌, ◌<◌, ◌+◌, ℕ, zero, suc, arith, Bool, true, false, List, [], ◌∷◌, ◌++◌, length, map, take, get_or, Result, Ok, Err, refl, sym, ap, ap₂, ◌∙◌, subst, append_assoc, inl, inr, is_ok, IfErr, IsOk, flat_map}
use Rattle.sg_base.specs.declared.faults.Failed.{Failed}
use Rattle.sg_edge.specs.Links as links
use Rattle.sg_outcome.specs.OutcomeText.{outcome_line}
use Rattle.sg_relay.specs.Asked.{Act, AreGood, Ask, Done as Deed, EndsBadly, IsAtNext, IsCutOff, IsDone, IsGood, IsPart, IsUntold, Sends, Tells, act_of, ask_in, asks_in, asks_of, hold, ports_from, receipt_in, receipts_in, sent_in, sent_of, written_of}
use Rattle.sg_relay.proofs.Common.{Acting, Address, AreCarriedOut, AreHandled, IsHeld, IsOfWriting, IsPrefixOf, IsWritten, Link, LinkCall, NoMemory, Outcome}
use Rattle.sg_relay.proofs.Common.{Received, Status, StopsWith, Tally, Unsent, Write, Wrote, append-nil, false≢true, map-append}

pub flat_append : {A B : Type 0} (f : A → List B) (xs ys : List A) → flat_map f (xs ++ ys) ≡ flat_map f xs ++ flat_map f ys
flat_append f [] ys = refl
flat_append f (x ∷ xs) ys = ap (λ l. f x ++ l) (flat_append f xs ys) ∙ sym (append_assoc (f x) _ _)

pub AreGood-append : (a b : List LinkCall) → AreGood a → AreGood b → AreGood (a ++ b)
AreGood-append [] b first more = more
AreGood-append (x ∷ a) b first more = (first.0, AreGood-append a b first.1 more)

pub bad_after : (a b : List LinkCall) → AreGood a → EndsBadly b → EndsBadly (a ++ b)
bad_after a b good ends = record {
  before = a ++ ends.before;
  last = ends.last;
  calls_are = ap (λ l. a ++ l) ends.calls_are ∙ sym (append_assoc a ends.before (ends.last ∷ []));
  good = AreGood-append a ends.before good ends.good;
  bad = ends.bad;
}

pub none_after : (a b : List LinkCall) → receipts_in a ≡ [] → receipts_in b ≡ [] → receipts_in (a ++ b) ≡ []
none_after a b none more = flat_append receipt_in a b ∙ ap₂ (λ (x y : List Received). x ++ y) none more

pub prefix_all : {X : Type 0} (all : List X) → IsPrefixOf all all
prefix_all all = ([], sym (append-nil all))

pub prefix_longer : {X : Type 0} (a all more : List X) → IsPrefixOf a all → IsPrefixOf a (all ++ more)
prefix_longer a all more prefix = (prefix.0 ++ more, ap (λ l. l ++ more) prefix.1 ∙ append_assoc a prefix.0 more)

pub prefix_after : {X : Type 0} (a b all : List X) → IsPrefixOf b all → IsPrefixOf (a ++ b) (a ++ all)
prefix_after a b all prefix = (prefix.0, ap (λ l. a ++ l) prefix.1 ∙ sym (append_assoc a b prefix.0))

-- ---- acts

pub done_none : IsDone [] [] []
done_none = record { done = []; of_acts = refl; asked = refl; sent = refl; written = refl }

pub done_more : (o p : List Act) (a b : List LinkCall) (x y : List ℕ) → IsDone o a x → IsDone p b y → IsDone (o ++ p) (a ++ b) (x ++ y)
done_more o p a b x y first more = record {
  done = first.done ++ more.done;
  of_acts = map-append (λ (d : Deed). d.act) first.done more.done ∙ ap₂ (λ (l m : List Act). l ++ m) first.of_acts more.of_acts;
  asked = flat_append ask_in a b ∙ ap₂ (λ (l m : List Ask). l ++ m) first.asked more.asked ∙ sym (flat_append asks_of o p);
  sent = flat_append sent_in a b ∙ ap₂ (λ (l m : List Bool). l ++ m) first.sent more.sent ∙ sym (flat_append sent_of first.done more.done);
  written = ap₂ (λ (l m : List ℕ). l ++ m) first.written more.written ∙ sym (flat_append written_of first.done more.done);
}

pub part_of : (o : List Act) (a : List LinkCall) (x : List ℕ) → IsDone o a x → IsPart o a x
part_of o a x done = record {
  done = o;
  others = [];
  acts_are = sym (append-nil o);
  before = a;
  last = [];
  calls_are = sym (append-nil a);
  lines = x;
  piece = [];
  out_is = sym (append-nil x);
  whole = done;
  next = inl (refl, refl);
}

pub part_after : (o p : List Act) (a b : List LinkCall) (x y : List ℕ) → IsDone o a x → IsPart p b y → IsPart (o ++ p) (a ++ b) (x ++ y)
part_after o p a b x y first more = record {
  done = o ++ more.done;
  others = more.others;
  acts_are = ap (λ l. o ++ l) more.acts_are ∙ sym (append_assoc o more.done more.others);
  before = a ++ more.before;
  last = more.last;
  calls_are = ap (λ l. a ++ l) more.calls_are ∙ sym (append_assoc a more.before more.last);
  lines = x ++ more.lines;
  piece = more.piece;
  out_is = ap (λ l. x ++ l) more.out_is ∙ sym (append_assoc x more.lines more.piece);
  whole = done_more o more.done a more.before x more.lines first more.whole;
  next = more.next;
}

next_longer : (others p : List Act) (last : List LinkCall) (piece : List ℕ) → IsAtNext others last piece → IsAtNext (others ++ p) last piece
next_longer others p last piece (inl none) = inl none
next_longer others p last piece (inr (next, rest, is, untold)) = inr (next, rest ++ p, ap (λ (l : List Act). l ++ p) is, untold)

pub part_longer : (o p : List Act) (a : List LinkCall) (x : List ℕ) → IsPart o a x → IsPart (o ++ p) a x
part_longer o p a x part = record {
  done = part.done;
  others = part.others ++ p;
  acts_are = ap (λ l. l ++ p) part.acts_are ∙ append_assoc part.done part.others p;
  before = part.before;
  last = part.last;
  calls_are = part.calls_are;
  lines = part.lines;
  piece = part.piece;
  out_is = part.out_is;
  whole = part.whole;
  next = next_longer part.others p part.last part.piece part.next;
}

-- an act whose line isn't written whole
untold_part : (o : Act) (calls : List LinkCall) (out : List ℕ) → IsUntold o calls out → IsPart (o ∷ []) calls out
untold_part o calls out untold = record {
  done = [];
  others = o ∷ [];
  acts_are = refl;
  before = [];
  last = calls;
  calls_are = refl;
  lines = [];
  piece = out;
  out_is = refl;
  whole = done_none;
  next = inr (o, [], refl, untold);
}

-- ---- acts that were cut off

pub cut_off_after : (o p : List Act) (a b : List LinkCall) (x y : List ℕ) → IsDone o a x → AreGood a → IsCutOff p b y → IsCutOff (o ++ p) (a ++ b) (x ++ y)
cut_off_after o p a b x y first good cut = record {
  done = o ++ cut.done;
  next = cut.next;
  others = cut.others;
  acts_are = ap (λ l. o ++ l) cut.acts_are ∙ sym (append_assoc o cut.done (cut.next ∷ cut.others));
  before = a ++ cut.before;
  last = cut.last;
  calls_are = ap (λ l. a ++ l) cut.calls_are ∙ sym (append_assoc a cut.before cut.last);
  whole = done_more o cut.done a cut.before x y first cut.whole;
  good = AreGood-append a cut.before good cut.good;
  fails = cut.fails;
}

pub cut_off_longer : (o p : List Act) (a : List LinkCall) (x : List ℕ) → IsCutOff o a x → IsCutOff (o ++ p) a x
cut_off_longer o p a x cut = record {
  done = cut.done;
  next = cut.next;
  others = cut.others ++ p;
  acts_are = ap (λ l. l ++ p) cut.acts_are ∙ append_assoc cut.done (cut.next ∷ cut.others) p;
  before = cut.before;
  last = cut.last;
  calls_are = cut.calls_are;
  whole = cut.whole;
  good = cut.good;
  fails = cut.fails;
}

-- the last call failed
pub cut_off_bad : (o : List Act) (a : List LinkCall) (x : List ℕ) → IsCutOff o a x → EndsBadly a
cut_off_bad o a x cut = subst EndsBadly (sym cut.calls_are) (bad_after cut.before cut.last cut.good cut.fails.bad)

part_good_after : (o p : List Act) (a b : List LinkCall) (x y : List ℕ) → IsDone o a x → AreGood a → IsPart p b y × AreGood b → IsPart (o ++ p) (a ++ b) (x ++ y) × AreGood (a ++ b)
part_good_after o p a b x y first good (part, well) = (part_after o p a b x y first part, AreGood-append a b good well)

pub stops_after : (s : Status) (o p : List Act) (a b : List LinkCall) (x y : List ℕ) → IsDone o a x → AreGood a → StopsWith s p b y → StopsWith s (o ++ p) (a ++ b) (x ++ y)
stops_after Link o p a b x y first good stops = cut_off_after o p a b x y first good stops
stops_after other o p a b x y first good stops = part_good_after o p a b x y first good stops

part_good_longer : (o p : List Act) (a : List LinkCall) (x : List ℕ) → IsPart o a x × AreGood a → IsPart (o ++ p) a x × AreGood a
part_good_longer o p a x (part, good) = (part_longer o p a x part, good)

pub stops_longer : (s : Status) (o p : List Act) (a : List LinkCall) (x : List ℕ) → StopsWith s o a x → StopsWith s (o ++ p) a x
stops_longer Link o p a x stops = cut_off_longer o p a x stops
stops_longer other o p a x stops = part_good_longer o p a x stops

-- ---- one act

-- a port is bound, or given up
pub held_one : (bound : Bool) (port : ℕ) (r : Result (Unit {0}) Failed) (call : Bool → LinkCall) → ((ok : Bool) → ask_in (call ok) ≡ hold bound port ∷ []) → ((ok : Bool) → (sent_in (call ok) ≡ []) × (receipt_in (call ok) ≡ []))
    → IsGood (call true) → (¬ IsGood (call false)) → IsHeld r (hold bound port ∷ []) (call (is_ok r) ∷ [])
held_one bound port (Ok u) call asks none good bad = (ap (λ l. l ++ []) (asks true), (good, tt), ap (λ l. l ++ []) (none true).0, ap (λ l. l ++ []) (none true).1)
held_one bound port (Err e) call asks none good bad = (
  ([], sym (ap (λ (l : List Ask). (l ++ []) ++ []) (asks false))),
  record { before = []; last = call false; calls_are = refl; good = tt; bad = bad },
  ap (λ l. l ++ []) (none false).0,
  ap (λ l. l ++ []) (none false).1,
)

pub held_more : (r : Result (Unit {0}) Failed) (asks more : List Ask) (a b : List LinkCall) → IsHeld (Ok tt) asks a → IsHeld r more b → IsHeld r (asks ++ more) (a ++ b)
held_more (Ok u) asks more a b first then = (
  flat_append ask_in a b ∙ ap₂ (λ (l m : List Ask). l ++ m) first.0 then.0,
  AreGood-append a b first.1 then.1,
  flat_append sent_in a b ∙ ap₂ (λ (l m : List Bool). l ++ m) first.2 then.2,
  none_after a b first.3 then.3,
)
held_more (Err e) asks more a b first then = (
  subst (λ l. IsPrefixOf l (asks ++ more)) (sym (flat_append ask_in a b ∙ ap (λ (l : List Ask). l ++ asks_in b) first.0)) (prefix_after asks (asks_in b) more then.0),
  bad_after a b first.1 then.1,
  flat_append sent_in a b ∙ ap₂ (λ (l m : List Bool). l ++ m) first.2 then.2,
  none_after a b first.3 then.3,
)

-- a call that wasn't made
pub held_longer : (asks more : List Ask) (a : List LinkCall) (e : Failed) → IsHeld (Err e) asks a → IsHeld (Err e) (asks ++ more) a
held_longer asks more a e held = (prefix_longer (asks_in a) asks more held.0, held.1, held.2, held.3)

-- the ports couldn't be held
pub told_unheld : (asks : List Ask) (line : List ℕ) (calls : List LinkCall) (e : Failed) → IsHeld (Err e) asks calls → AreCarriedOut (Err Link) (Tells asks line ∷ []) calls []
told_unheld asks line calls e held = (
  record {
    done = [];
    next = Tells asks line;
    others = [];
    acts_are = refl;
    before = [];
    last = calls;
    calls_are = refl;
    whole = done_none;
    good = tt;
    fails = record { asked = held.0; bad = held.1; unsent = held.2; unreceived = held.3 };
  },
  held.3,
)

-- a line couldn't be written: it isn't the link that failed
pub stops_writing : (s : Status) (o : List Act) (calls : List LinkCall) (out : List ℕ) → IsOfWriting s → IsPart o calls out → AreGood calls → StopsWith s o calls out
stops_writing s o calls out (inl is) part good = subst (λ (x : Status). StopsWith x o calls out) (sym is) (part, good)
stops_writing s o calls out (inr is) part good = subst (λ (x : Status). StopsWith x o calls out) (sym is) (part, good)

-- what was written of a line, by how that went
pub line_so : (r : Result (Unit {0}) Status) (a b : Tally) (line : List ℕ) → IsWritten r a b line
    → (out : List ℕ) × Wrote a b out × IsPrefixOf out line × (IsOk r → out ≡ line) × IfErr r IsOfWriting
line_so (Ok u) a b line wrote = (line, wrote, prefix_all line, (λ ok. refl), tt)
line_so (Err Write) a b line prefix = (prefix.0, prefix.2, prefix.1, (λ ok. absurd (false≢true ok)), inl refl)
line_so (Err NoMemory) a b line prefix = (prefix.0, prefix.2, prefix.1, (λ ok. absurd (false≢true ok)), inr refl)
line_so (Err other) a b line never = absurd never

-- the ports are held, and the line is written or a prefix of it
pub told_held : (r : Result (Unit {0}) Status) (asks : List Ask) (line : List ℕ) (calls : List LinkCall) (out : List ℕ)
    → IsHeld (Ok tt) asks calls → IsPrefixOf out line → (IsOk r → out ≡ line) → IfErr r IsOfWriting → AreCarriedOut r (Tells asks line ∷ []) calls out
told_held (Ok u) asks line calls out held prefix whole only = (
  record {
    done = record { act = Tells asks line; sent = true } ∷ [];
    of_acts = refl;
    asked = held.0 ∙ sym (append-nil asks);
    sent = held.2;
    written = whole refl ∙ sym (append-nil line);
  },
  held.1,
  held.3,
)
told_held (Err s) asks line calls out held prefix whole only = (
  stops_writing s (Tells asks line ∷ []) calls out only (untold_part (Tells asks line) calls out (record { sent = true; asked = held.0; sends = held.2; written = prefix })) held.1,
  held.3,
)

-- ---- ports

-- the first of so many ports, the one behind them, and the others
pub ports_split : (port i n : ℕ) → i < n → (rest : List ℕ) × (ports_from port n ≡ ports_from port i ++ (port + i) ∷ rest)
ports_split port i zero lt = absurd (omega (arith, lt))
ports_split port zero (suc n) lt = (ports_from (port + 1) n, ap (λ (p : ℕ). p ∷ ports_from (port + 1) n) (let e : port ≡ port + 0 = omega arith in e))
ports_split port (suc i) (suc n) lt =
    let more = ports_split (port + 1) i n (omega (arith, lt)) in
    let e : (port + 1) + i ≡ port + suc i = omega arith in
    (more.0, ap (λ (l : List ℕ). port ∷ l) (more.1 ∙ ap (λ (p : ℕ). ports_from (port + 1) i ++ p ∷ more.0) e))

pub ports_more : (port i : ℕ) → ports_from port (i + 1) ≡ ports_from port i ++ (port + i) ∷ []
ports_more port zero = ap (λ (p : ℕ). p ∷ []) (let e : port ≡ port + 0 = omega arith in e)
ports_more port (suc i) =
    let n : suc i + 1 ≡ suc (i + 1) = omega arith in
    let e : (port + 1) + i ≡ port + suc i = omega arith in
    rw n (ap (λ (l : List ℕ). port ∷ l) (ports_more (port + 1) i ∙ ap (λ (p : ℕ). ports_from (port + 1) i ++ p ∷ []) e))

pub asks_so_far : (h : ℕ → Ask) (port i : ℕ) → map h (ports_from port i) ++ (h (port + i) ∷ []) ≡ map h (ports_from port (i + 1))
asks_so_far h port i = sym (ap (map h) (ports_more port i) ∙ map-append h (ports_from port i) ((port + i) ∷ []))

pub asks_in_all : (h : ℕ → Ask) (port i n : ℕ) → i < n → (rest : List Ask) × ((map h (ports_from port i) ++ (h (port + i) ∷ [])) ++ rest ≡ map h (ports_from port n))
asks_in_all h port i n lt =
    let split = ports_split port i n lt in
    (map h split.0, append_assoc (map h (ports_from port i)) (h (port + i) ∷ []) (map h split.0) ∙ sym (ap (map h) split.1 ∙ map-append h (ports_from port i) ((port + i) ∷ split.0)))

-- ---- deeds that are handled

-- memory was wanting before anything was done
pub unhandled : {S D : Type 0} (a : Acting S D) (state : S) (ds : List D) (stands_for : S → Type 0) → AreHandled {T = Unit {0}} (Err NoMemory) a state ds stands_for [] []
unhandled a state ds stands_for = ((part_longer [] (a.acts state ds) [] [] (part_of [] [] [] done_none), tt), refl)

-- nothing was received
pub handled_none : {T S D : Type 0} (r : Result T Status) (a : Acting S D) (state : S) (ds : List D) (stands_for : S → Type 0) (calls : List LinkCall) (out : List ℕ)
    → AreHandled r a state ds stands_for calls out → receipts_in calls ≡ []
handled_none (Ok x) a state ds stands_for calls out handled = handled.2
handled_none (Err s) a state ds stands_for calls out handled = handled.1

-- one act more was carried out, or a prefix of it
pub told_more : (r : Result (Unit {0}) Status) (os ps : List Act) (a b : List LinkCall) (x y : List ℕ) → AreCarriedOut (Ok tt) os a x → AreCarriedOut r ps b y → AreCarriedOut r (os ++ ps) (a ++ b) (x ++ y)
told_more (Ok u) os ps a b x y first then = (done_more os ps a b x y first.0 then.0, AreGood-append a b first.1 then.1, none_after a b first.2 then.2)
told_more (Err s) os ps a b x y first then = (stops_after s os ps a b x y first.0 first.1 then.0, none_after a b first.2 then.1)

pub told_longer : (s : Status) (os more : List Act) (a : List LinkCall) (x : List ℕ) → AreCarriedOut (Err s) os a x → AreCarriedOut (Err s) (os ++ more) a x
told_longer s os more a x told = (stops_longer s os more a x told.0, told.1)

-- ---- a packet

-- the send failed, and the line is written that says so, or a prefix of it
pub told_unsent : (r : Result (Unit {0}) Status) (port : ℕ) (to : Address) (octets : List ℕ) (out : List ℕ) → IsPrefixOf out (outcome_line (Unsent port to)) → (IsOk r → out ≡ outcome_line (Unsent port to))
    → IfErr r IsOfWriting → AreCarriedOut r (Sends port to octets ∷ []) (links.Send port to octets false ∷ []) out
told_unsent (Ok u) port to octets out prefix whole only = (
  record { done = record { act = Sends port to octets; sent = false } ∷ []; of_acts = refl; asked = refl; sent = refl; written = whole refl ∙ sym (append-nil (outcome_line (Unsent port to))) },
  (tt, tt),
  refl,
)
told_unsent (Err s) port to octets out prefix whole only = (
  stops_writing s (Sends port to octets ∷ []) (links.Send port to octets false ∷ []) out only
      (untold_part (Sends port to octets) (links.Send port to octets false ∷ []) out (record { sent = false; asked = refl; sends = refl; written = prefix }))
      (tt, tt),
  refl,
)

-- ---- outcomes that are carried out

-- the acts of the outcomes up to one and that one's
pub next_told : (os : List Outcome) (i : ℕ) (o : Outcome) → i < length os → o ≡ get_or os i o → map act_of (take (i + 1) os) ≡ map act_of (take i os) ++ act_of o ∷ []
next_told [] i o within is = absurd (omega (arith, within))
next_told (x ∷ os) zero o within is = ap (λ (y : Outcome). act_of y ∷ []) (sym is)
next_told (x ∷ os) (suc i) o within is =
    let more = next_told os i o (omega (arith, within)) is in
    let n : suc i + 1 ≡ suc (i + 1) = omega arith in
    ap (λ (m : ℕ). map act_of (take m (x ∷ os))) n ∙ ap (λ (l : List Act). act_of x ∷ l) more
