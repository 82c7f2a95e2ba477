-- Calls of a link are in order where those of the parts are.
use Rattle.std.proofs.Common.{◌≡◌, ◌⊎◌, ◌≤◌, ℕ, List, [], ◌∷◌, ◌++◌, length, refl, sym, ap, ap₂, ◌∙◌, subst, length-append, inl, inr, arith, flat_map, append-nil}
use Rattle.sg_relay.proofs.Common.{Act, Acting, AreDue, AreInOrder, Ask, ForReceive, IsReceivedFirst, IsTurnInOrder, LinkCall, Receive, Received, Stop, Weaves, ask_in, asks_in}
use Rattle.sg_relay.proofs.Common.{asks_of, receipt_in, receipts_in, ticks_of, turned}
use Rattle.sg_relay.proofs.Deeds.{flat_append}

-- without a receive
no_receive : (a before after : List LinkCall) (x : Received) → receipts_in a ≡ [] → a ≡ before ++ Receive x ∷ after → ⊥
no_receive a before after x none is =
    let e : receipts_in before ++ (x ∷ receipts_in after) ≡ [] = sym (flat_append receipt_in before (Receive x ∷ after)) ∙ sym (ap receipts_in is) ∙ none in
    omega (arith, ap length e, length-append (receipts_in before) (x ∷ receipts_in after))

pub order_none : (f : List Received → List Act) (a : List LinkCall) → receipts_in a ≡ [] → AreInOrder f a
order_none f a none = λ before after x is. absurd (no_receive a before after x none is)

pub due_none : (f : List Received → Stop) (a : List LinkCall) → receipts_in a ≡ [] → AreDue f a
due_none f a none = λ before after x is. absurd (no_receive a before after x none is)

-- Two lists are split at an item: it is of the first, or of the second.
abbrev IsSplit : {X : Type 0} → List X → List X → List X → X → List X → Type 0
IsSplit {X} a b before x after = ((rest : List X) × (a ≡ before ++ x ∷ rest)) ⊎ ((rest : List X) × (before ≡ a ++ rest) × (b ≡ rest ++ x ∷ after))

split_more : {X : Type 0} (y z : X) (a b before : List X) (x : X) (after : List X) → y ≡ z → IsSplit a b before x after → IsSplit (y ∷ a) b (z ∷ before) x after
split_more y z a b before x after same (inl (rest, is)) = inl (rest, ap₂ (λ m l. m ∷ l) same is)
split_more y z a b before x after same (inr (rest, is, then)) = inr (rest, ap₂ (λ m l. m ∷ l) (sym same) is, then)

split_in : {X : Type 0} (a b before : List X) (x : X) (after : List X) → a ++ b ≡ before ++ x ∷ after → IsSplit a b before x after
split_in [] b before x after is = inr (before, refl, is)
split_in (y ∷ a) b [] x after is = let e : y ∷ (a ++ b) ≡ x ∷ after = is in let same : y ≡ x = cc in inl (a, ap (λ m. m ∷ a) same)
split_in (y ∷ a) b (z ∷ before) x after is =
    let e : y ∷ (a ++ b) ≡ z ∷ (before ++ x ∷ after) = is in
    let same : y ≡ z = cc in
    let more : a ++ b ≡ before ++ x ∷ after = cc in
    split_more y z a b before x after same (split_in a b before x after more)

order_at : (f g : List Received → List Act) (os : List Act) (a b : List LinkCall) → ((xs : List Received) → f (receipts_in a ++ xs) ≡ os ++ g xs) → asks_in a ≡ flat_map asks_of os
    → AreInOrder f a → AreInOrder g b → (before after : List LinkCall) (x : Received) → IsSplit a b before (Receive x) after → asks_in before ≡ flat_map asks_of (f (receipts_in before))
order_at f g os a b goes asked first more before after x (inl (rest, is)) = first before rest x is
order_at f g os a b goes asked first more before after x (inr (rest, is, then)) =
    let received : receipts_in before ≡ receipts_in a ++ receipts_in rest = ap receipts_in is ∙ flat_append receipt_in a rest in
    ap asks_in is ∙ flat_append ask_in a rest ∙ ap₂ (λ (l m : List Ask). l ++ m) asked (more rest after x then)
    ∙ sym (flat_append asks_of os (g (receipts_in rest))) ∙ ap (λ (l : List Act). flat_map asks_of l) (sym (goes (receipts_in rest)) ∙ ap f (sym received))

-- the calls of one part, and those of the next, whose acts come after its own
pub order_more : (f g : List Received → List Act) (os : List Act) (a b : List LinkCall) → ((xs : List Received) → f (receipts_in a ++ xs) ≡ os ++ g xs) → asks_in a ≡ flat_map asks_of os
    → AreInOrder f a → AreInOrder g b → AreInOrder f (a ++ b)
order_more f g os a b goes asked first more = λ before after x is. order_at f g os a b goes asked first more before after x (split_in a b before (Receive x) after is)

due_at : (f g : List Received → Stop) (a b : List LinkCall) → ((xs : List Received) → f (receipts_in a ++ xs) ≡ g xs) → AreDue f a → AreDue g b
    → (before after : List LinkCall) (x : Received) → IsSplit a b before (Receive x) after → f (receipts_in before) ≡ ForReceive
due_at f g a b goes first more before after x (inl (rest, is)) = first before rest x is
due_at f g a b goes first more before after x (inr (rest, is, then)) = ap f (ap receipts_in is ∙ flat_append receipt_in a rest) ∙ goes (receipts_in rest) ∙ more rest after x then

-- each receive of one part was due, and each of the next
pub due_more : (f g : List Received → Stop) (a b : List LinkCall) → ((xs : List Received) → f (receipts_in a ++ xs) ≡ g xs) → AreDue f a → AreDue g b → AreDue f (a ++ b)
due_more f g a b goes first more = λ before after x is. due_at f g a b goes first more before after x (split_in a b before (Receive x) after is)

-- ---- a turn

no_item : {X : Type 0} (l : List X) → length l ≤ 0 → l ≡ []
no_item [] few = refl
no_item (x ∷ l) few = absurd (omega (arith, few))

-- nothing was received before a part's only receive
none_before : (a before after : List LinkCall) (x : Received) → length (receipts_in a) ≤ 1 → a ≡ before ++ Receive x ∷ after → receipts_in before ≡ []
none_before a before after x few is =
    let all : length (receipts_in a) ≡ length (receipts_in before ++ (x ∷ receipts_in after)) = ap length (ap receipts_in is ∙ flat_append receipt_in before (Receive x ∷ after)) in
    no_item (receipts_in before) (omega (arith, few, all, length-append (receipts_in before) (x ∷ receipts_in after)))

-- so it is due where one is due by no receive
pub due_as : (f : List Received → Stop) (a : List LinkCall) → length (receipts_in a) ≤ 1 → f [] ≡ ForReceive → AreDue f a
due_as f a few due = λ before after x is. ap f (none_before a before after x few is) ∙ due

-- and the acts by no receive are done before it
pub order_as : (f g : List Received → List Act) (a : List LinkCall) → length (receipts_in a) ≤ 1 → f [] ≡ g [] → AreInOrder g a → AreInOrder f a
order_as f g a few same order = λ before after x is.
    let none = none_before a before after x few is in
    order before after x is ∙ ap (λ (l : List Act). flat_map asks_of l) (ap g none ∙ sym same ∙ ap f (sym none))

-- a receive alone
order_one : (x : Received) (before after : List LinkCall) (y : Received) → Receive x ∷ [] ≡ before ++ Receive y ∷ after → asks_in before ≡ []
order_one x [] after y is = refl
order_one x (z ∷ before) after y is = absurd (omega (arith, ap length is, length-append before (Receive y ∷ after)))

first_order : (x : Received) (b : List LinkCall) → IsReceivedFirst x b → AreInOrder (λ receipts. []) b
first_order x b (rest, is, none) = subst (λ (l : List LinkCall). AreInOrder (λ receipts. []) l) (sym is)
    (order_more (λ receipts. []) (λ receipts. []) [] (Receive x ∷ []) rest (λ xs. refl) refl (order_one x) (order_none (λ receipts. []) rest none))

-- the tick of a turn that comes to no receive
pub ticked_order : {L S D : Type 0} (w : Weaves L D) (a : Acting S D) (state : S) (top r : ℕ) (calls : List LinkCall) → receipts_in calls ≡ [] → IsTurnInOrder w a state top (r ∷ []) calls
ticked_order w a state top r calls none = inr (r, refl, omega (arith, ap length none), order_none (λ receipts. a.acts state (turned w top r receipts)) calls none)

-- the tick of a turn, and its receive
pub turn_order : {L S D : Type 0} (w : Weaves L D) (a : Acting S D) (state : S) (top r : ℕ) (x : Received) (b c : List LinkCall) → receipts_in b ≡ [] → asks_in b ≡ flat_map asks_of (a.acts state (ticks_of w top r))
    → IsReceivedFirst x c → IsTurnInOrder w a state top (r ∷ []) (b ++ c)
turn_order w a state top r x b c none asked first =
    let os : List Act = a.acts state (ticks_of w top r) in
    let come : receipts_in (b ++ c) ≡ x ∷ [] = flat_append receipt_in b c ∙ ap₂ (λ (l m : List Received). l ++ m) none (ap receipts_in first.1 ∙ ap (λ (l : List Received). x ∷ l) first.2) in
    let few : length (receipts_in (b ++ c)) ≤ 1 = omega (arith, ap length come) in inr (
      r,
      refl,
      few,
      order_as (λ receipts. a.acts state (turned w top r receipts)) (λ receipts. os) (b ++ c) few refl
          (order_more (λ receipts. os) (λ receipts. []) os b c (λ xs. sym (append-nil os)) asked (order_none (λ receipts. os) b none) (first_order x c first)),
    )
