-- What a call does in its turn, by what its peer seals and what arrives of it.
use Rattle.std.proofs.Common.{◌≡◌, ℕ, ◌+◌, List, [], ◌∷◌, ◌++◌, length, map, option_to_list, Option, Some, Result, Ok, Err, OnOk, OnErr, sym, ap, ◌∙◌, subst, append_assoc, arith}
use Rattle.std.proofs.lemmas.List.{append-nil, map-append}
use Rattle.sg_demo.specs.Callers as demo
use Rattle.sg_demo.specs.Callers.{after_plain, after_sealing, next_datagram, next_plain_packet, plain_port, secure_port}
use Rattle.sg_demo.specs.Packets.{with_last_bit_changed}
use Rattle.sg_demo.specs.Rounds.{HasGathered}
use Rattle.sg_demo.specs.Standing.{CallerStandsFor}
use Rattle.sg_demo.specs.Turns.{Arriving, from_peer, turn_of}
use Rattle.sg_demo.specs.declared.action.Action.TheVariants.{Lose, Repeat, Swap, Answer, Change, Send}
use Rattle.sg_demo.specs.declared.caller.Caller.{Caller}
use Rattle.sg_demo.specs.declared.origin.Origin.TheVariants.{Peer, Plain}
use Rattle.sg_demo.specs.declared.round.Round.{Round}
use Rattle.sg_demo.proofs.Turning.{Takes}

pub on_ok : {A E P Q : Type 0} (r : Result A E) → OnOk r P → (P → Q) → OnOk r Q
on_ok (Ok a) p f = f p
on_ok (Err e) p f = tt

pub on_err : {A E P : Type 0} (r : Result A E) → P → OnErr r P
on_err (Ok a) p = tt
on_err (Err e) p = p

-- the peer's next packet is sealed
abbrev pub Seals : Caller → Caller → Round → Round → Option (List ℕ) → Type 0
Seals old new round round' pad = (c : demo.Caller) (n : ℕ) (arrivals : List Arriving) → CallerStandsFor old c → HasGathered round n arrivals
    → (option_to_list pad ≡ next_datagram c) × CallerStandsFor new (after_sealing c) × HasGathered round' (n + length (next_datagram c)) arrivals

-- these datagrams of the peer arrive
abbrev pub Sends : Caller → Round → Round → List (List ℕ) → Type 0
Sends caller round round' ds = (c : demo.Caller) (n : ℕ) (arrivals : List Arriving) → CallerStandsFor caller c → HasGathered round n arrivals
    → HasGathered round' n (arrivals ++ from_peer c ds)

-- this datagram arrives
abbrev pub Pushes : Round → Round → Arriving → Type 0
Pushes round round' a = (n : ℕ) (arrivals : List Arriving) → HasGathered round n arrivals → HasGathered round' n (arrivals ++ a ∷ [])

pub takes_lose : (position : ℕ) (old new : Caller) (round round' : Round) (pad : Option (List ℕ)) → Seals old new round round' pad → Takes Lose position old new round round'
unfolding turn_of
takes_lose position old new round round' pad seals = λ c n arrivals stands gathered.
    let s = seals c n arrivals stands gathered in
    (s.1, subst (λ (l : List Arriving). HasGathered round' (n + length (next_datagram c)) l) (sym (append-nil arrivals)) s.2)

pub takes_send : (position : ℕ) (old new : Caller) (a b d : Round) (pad : Option (List ℕ)) → Seals old new a b pad → Sends new b d (option_to_list pad) → Takes Send position old new a d
unfolding turn_of
takes_send position old new a b d pad seals sends = λ c n arrivals stands gathered.
    let s = seals c n arrivals stands gathered in
    (s.1, subst (λ (l : List (List ℕ)). HasGathered d (n + length (next_datagram c)) (arrivals ++ from_peer c l)) s.0 (sends (after_sealing c) _ arrivals s.1 s.2))

pub takes_change : (position : ℕ) (old new : Caller) (a b d : Round) (pad pad' : Option (List ℕ)) → option_to_list pad' ≡ map with_last_bit_changed (option_to_list pad)
    → Seals old new a b pad → Sends new b d (option_to_list pad') → Takes Change position old new a d
unfolding turn_of
takes_change position old new a b d pad pad' is seals sends = λ c n arrivals stands gathered.
    let s = seals c n arrivals stands gathered in
    (s.1, subst (λ (l : List (List ℕ)). HasGathered d (n + length (next_datagram c)) (arrivals ++ from_peer c l)) (is ∙ ap (map with_last_bit_changed) s.0) (sends (after_sealing c) _ arrivals s.1 s.2))

pub takes_swap : (position : ℕ) (old mid new : Caller) (r0 r1 r2 r3 r4 : Round) (first second : Option (List ℕ)) → Seals old mid r0 r1 first → Seals mid new r1 r2 second
    → Sends new r2 r3 (option_to_list second) → Sends new r3 r4 (option_to_list first) → Takes Swap position old new r0 r4
unfolding turn_of
takes_swap position old mid new r0 r1 r2 r3 r4 first second seal_first seal_second send_second send_first = λ c n arrivals stands gathered.
    let s = seal_first c n arrivals stands gathered in
    let t = seal_second (after_sealing c) _ arrivals s.1 s.2 in
    let u = send_second (after_sealing (after_sealing c)) _ arrivals t.1 t.2 in
    let v = send_first (after_sealing (after_sealing c)) _ _ t.1 u in
    let count : n + length (next_datagram c) + length (next_datagram (after_sealing c)) ≡ n + (length (next_datagram c) + length (next_datagram (after_sealing c))) = omega arith in
    let ds : (arrivals ++ from_peer c (option_to_list second)) ++ from_peer c (option_to_list first) ≡ arrivals ++ from_peer c (next_datagram (after_sealing c) ++ next_datagram c) =
    append_assoc arrivals _ _ ∙ ap (λ (l : List Arriving). arrivals ++ l) (sym (map-append _ (option_to_list second) (option_to_list first)))
    ∙ ap (λ (l : List (List ℕ)). arrivals ++ from_peer c (l ++ option_to_list first)) t.0 ∙ ap (λ (l : List (List ℕ)). arrivals ++ from_peer c (next_datagram (after_sealing c) ++ l)) s.0 in (
      t.1,
      subst (λ (m : ℕ). HasGathered r4 m (arrivals ++ from_peer c (next_datagram (after_sealing c) ++ next_datagram c))) count
          (subst (λ (l : List Arriving). HasGathered r4 (n + length (next_datagram c) + length (next_datagram (after_sealing c))) l) ds v),
    )

pub takes_answer : (position : ℕ) (old new : Caller) (a b : Round) (port : ℕ) (pad : List ℕ) → ((c : demo.Caller) → CallerStandsFor old c → port ≡ plain_port c)
    → ((c : demo.Caller) → CallerStandsFor old c → (pad ≡ next_plain_packet c) × CallerStandsFor new (after_plain c))
    → Pushes a b (record { origin = Plain position; port = port; octets = pad }) → Takes Answer position old new a b
unfolding turn_of
takes_answer position old new a b port pad port_is packet pushes = λ c n arrivals stands gathered.
    let p = packet c stands in
    let given : Arriving = record { origin = Plain position; port = port; octets = pad } in
    let wanted : Arriving = record { origin = Plain position; port = plain_port c; octets = next_plain_packet c } in
    let same : given ≡ wanted =
    ap (λ (x : ℕ). record { origin = Plain position; port = x; octets = pad }) (port_is c stands) ∙ ap (λ (x : List ℕ). record { origin = Plain position; port = plain_port c; octets = x }) p.0 in
    let count : n ≡ n + 0 = omega arith in (
      p.1,
      subst (λ (m : ℕ). HasGathered b m (arrivals ++ record { origin = Plain position; port = plain_port c; octets = next_plain_packet c } ∷ [])) count
          (subst (λ (x : Arriving). HasGathered b n (arrivals ++ x ∷ [])) same (pushes n arrivals gathered)),
    )

pub takes_repeat : (position : ℕ) (caller : Caller) (a b : Round)
    → ((c : demo.Caller) (n : ℕ) (arrivals : List Arriving) → CallerStandsFor caller c → HasGathered a n arrivals → HasGathered b n (arrivals ++ from_peer c (option_to_list c.last)))
    → Takes Repeat position caller caller a b
unfolding turn_of
takes_repeat position caller a b sends = λ c n arrivals stands gathered.
    let count : n ≡ n + 0 = omega arith in
    (stands, subst (λ (m : ℕ). HasGathered b m (arrivals ++ from_peer c (option_to_list c.last))) count (sends c n arrivals stands gathered))

-- what is pushed is what the peer sends
pub pushes_sent : (caller : Caller) (a b : Round) (port : ℕ) (pad : List ℕ) → ((c : demo.Caller) → CallerStandsFor caller c → port ≡ secure_port c)
    → Pushes a b (record { origin = Peer; port = port; octets = pad }) → Sends caller a b (pad ∷ [])
pushes_sent caller a b port pad port_is pushes = λ c n arrivals stands gathered.
    subst (λ (x : ℕ). HasGathered b n (arrivals ++ record { origin = Peer; port = x; octets = pad } ∷ [])) (port_is c stands) (pushes n arrivals gathered)

-- what the peer sealed last is sent
pub sends_last : (caller : Caller) (a b : Round) (pad : List ℕ) → Some pad ≡ caller.last → Sends caller a b (pad ∷ [])
    → (c : demo.Caller) (n : ℕ) (arrivals : List Arriving) → CallerStandsFor caller c → HasGathered a n arrivals → HasGathered b n (arrivals ++ from_peer c (option_to_list c.last))
sends_last caller a b pad is sends = λ c n arrivals stands gathered.
    subst (λ (o : Option (List ℕ)). HasGathered b n (arrivals ++ from_peer c (option_to_list o))) (is ∙ stands.last) (sends c n arrivals stands gathered)

-- the position is that of a plain packet alone
pub swap_anywhere : (position : ℕ) (old new : Caller) (a b : Round) → Takes Swap 0 old new a b → Takes Swap position old new a b
unfolding turn_of
swap_anywhere position old new a b takes = λ c n arrivals stands gathered. takes c n arrivals stands gathered
