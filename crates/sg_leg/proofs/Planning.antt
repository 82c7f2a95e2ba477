-- The sessions of media, and the specs of which sides are made.
use Rattle.std.proofs.Common.{◌≡◌, ℕ, ◌+◌, true, false, cond, Option, Some, None, List, [], ◌∷◌, ◌++◌, append_assoc, length, refl, sym, ap, ◌∙◌, subst, arith}
use Rattle.std.proofs.lemmas.List.{append-nil, map-append}
use Rattle.sg_agreement.specs.Generations.{owner_at, owned, numbered, stream_session, stream_sessions, keys_from, sessions_from}
use Rattle.sg_agreement.specs.Media.{AgreedKey, Stream, Medium}
use Rattle.sg_base.specs.declared.addresses.Kind.{Kind}
use Rattle.sg_base.specs.declared.addresses.Kind.TheVariants.{Rtp, Rtcp}
use Rattle.sg_keys.specs.Installing.{keys_of}
use Rattle.sg_keys.specs.declared.spec.SessionSpec.{SessionSpec}
use Rattle.sg_session.specs.Ring.{RingKey, Installed, key_of}
use Rattle.sg_session.specs.Session.{Session}
use Rattle.sg_session.specs.declared.names.Direction.{Direction}
use Rattle.sg_session.specs.declared.names.Direction.TheVariants.{Opening, Sealing}
use Rattle.sg_session.specs.declared.names.Owner.{Owner}
use Rattle.sg_leg.specs.FreshKeys.{encrypts_for, tag_for, ring_keys, media_keys}
use Rattle.sg_leg.specs.Pairs.{EachPair}
use Rattle.sg_leg.specs.Planned.{Planned, IsPlanned, ArePlanned, planned_in, planned, planned_for, IsMadeFor, IsNext}
use Rattle.sg_leg.specs.declared.media_spec.MediaSpec.{MediaSpec}

pub pairs_append : {X Y : Type 0} (R : X → Y → Type 0) (xs xs' : List X) (ys ys' : List Y) → EachPair R xs ys → EachPair R xs' ys' → EachPair R (xs ++ xs') (ys ++ ys')
pairs_append R [] xs' [] ys' p q = q
pairs_append R (x ∷ xs) xs' (y ∷ ys) ys' p q = (p.0, pairs_append R xs xs' ys ys' p.1 q)
pairs_append R xs xs' ys ys' p q = absurd p

module _ (x : Medium) (call generation medium n : ℕ) where
  abbrev pub one : Direction → SessionSpec → Planned
  one dir spec = planned_for x medium dir spec

  abbrev session : Direction → Kind → Stream → ℕ → ℕ → Session
  session dir kind s number window = stream_session (owner_at call generation medium dir) (numbered number s.keys) s window x kind (encrypts_for kind s) (tag_for kind s)

  planned_as : (dir : Direction) (kind : Kind) (s : Stream) (number window : ℕ) (spec : SessionSpec) → IsMadeFor s kind number window spec
      → IsPlanned (one dir spec) (session dir kind s number window)
  planned_as dir kind s number window spec made = record { made = made (owner_at call generation medium dir) x; medium_is = refl; direction_is = refl; secure_is = refl; plain_is = refl }

  abbrev second : ℕ
  second = n + length x.from_peer.keys

  module _ (a c : SessionSpec) (opens : IsMadeFor x.from_peer Rtp n x.window a) (seals : IsMadeFor x.to_peer Rtp second 1024 c) where
    pub without : x.has_rtcp ≡ false → EachPair IsPlanned (one Opening a ∷ one Sealing c ∷ []) (sessions_from call generation medium n (Some x ∷ []))
    without none = subst (λ b. EachPair IsPlanned (one Opening a ∷ one Sealing c ∷ [])
        ((session Opening Rtp x.from_peer n x.window ∷ cond b (session Opening Rtcp x.from_peer n x.window ∷ []) [])
        ++ ((session Sealing Rtp x.to_peer second 1024 ∷ cond b (session Sealing Rtcp x.to_peer second 1024 ∷ []) []) ++ []))) (sym none)
        (planned_as Opening Rtp x.from_peer n x.window a opens, (planned_as Sealing Rtp x.to_peer second 1024 c seals, tt))

    pub with_all : (b d : SessionSpec) → IsMadeFor x.from_peer Rtcp n x.window b → IsMadeFor x.to_peer Rtcp second 1024 d → x.has_rtcp ≡ true
        → EachPair IsPlanned (one Opening a ∷ one Opening b ∷ one Sealing c ∷ one Sealing d ∷ []) (sessions_from call generation medium n (Some x ∷ []))
    with_all b d opens_too seals_too all = subst (λ r. EachPair IsPlanned (one Opening a ∷ one Opening b ∷ one Sealing c ∷ one Sealing d ∷ [])
        ((session Opening Rtp x.from_peer n x.window ∷ cond r (session Opening Rtcp x.from_peer n x.window ∷ []) [])
        ++ ((session Sealing Rtp x.to_peer second 1024 ∷ cond r (session Sealing Rtcp x.to_peer second 1024 ∷ []) []) ++ []))) (sym all) (
          planned_as Opening Rtp x.from_peer n x.window a opens,
          (
            planned_as Opening Rtcp x.from_peer n x.window b opens_too,
            (planned_as Sealing Rtp x.to_peer second 1024 c seals, (planned_as Sealing Rtcp x.to_peer second 1024 d seals_too, tt)),
          ),
        )

two : {X : Type 0} (a b c : List X) → (a ++ (b ++ [])) ++ c ≡ a ++ (b ++ c)
two a b c = ap (λ l. (a ++ l) ++ c) (append-nil b) ∙ append_assoc a b c

-- the sessions of one medium more stand before those of the rest
pub first_planned : (call generation m n count : ℕ) (x : Medium) (rest : List (Option Medium)) (of_one more : List Planned) → EachPair IsPlanned of_one (sessions_from call generation m n (Some x ∷ []))
    → count ≡ n + length x.from_peer.keys + length x.to_peer.keys
    → EachPair IsPlanned more (sessions_from call generation (m + 1) count rest) → EachPair IsPlanned (of_one ++ more) (sessions_from call generation m n (Some x ∷ rest))
first_planned call generation m n count x rest of_one more these many later =
    subst (EachPair IsPlanned (of_one ++ more)) (two first second later_sessions) (pairs_append IsPlanned of_one more (first ++ (second ++ [])) later_sessions these
    (subst (λ n. EachPair IsPlanned more (sessions_from call generation (m + 1) n rest)) many later))
  where
    first : List Session
    first = stream_sessions (owner_at call generation m Opening) (numbered n x.from_peer.keys) x.from_peer x.window x

    second : List Session
    second = stream_sessions (owner_at call generation m Sealing) (numbered (n + length x.from_peer.keys) x.to_peer.keys) x.to_peer 1024 x

    later_sessions : List Session
    later_sessions = sessions_from call generation (m + 1) (n + length x.from_peer.keys + length x.to_peer.keys) rest

-- one more behind what was added
pub pushed : (before now next these : List Planned) (p : Planned) → now ≡ before ++ these → next ≡ now ++ p ∷ [] → next ≡ before ++ (these ++ p ∷ [])
pushed before now next these p is more = more ∙ ap (λ l. l ++ p ∷ []) is ∙ append_assoc before these (p ∷ [])

pub planned_push : (old : List MediaSpec) (spec : MediaSpec) → planned (old ++ spec ∷ []) ≡ planned old ++ planned_in spec
planned_push [] spec = append-nil (planned_in spec)
planned_push (x ∷ old) spec = ap (λ l. planned_in x ++ l) (planned_push old spec) ∙ sym (append_assoc (planned_in x) (planned old) (planned_in spec))

-- an active one adds its own
pub next_some : (m first count count' : ℕ) (x : Medium) (old new these : List Planned) → new ≡ old ++ these → count' ≡ count + length x.from_peer.keys + length x.to_peer.keys
    → ((call generation : ℕ) → ArePlanned these (sessions_from call generation m (first + count) (Some x ∷ []))) → IsNext m first (Some x) old count new count'
next_some m first count count' x old new these pushed many of_one = λ call generation rest more later. (
  these,
  pushed,
  first_planned call generation m (first + count) (first + count') x rest these more (of_one call generation) (omega (arith, many)) later,
)

-- what a loop over the media keeps
abbrev pub WillBePlanned : ℕ → ℕ → List (Option Medium) → List Planned → ℕ → List (Option Medium) → Type 0
WillBePlanned m first media plan count left =
    (call generation : ℕ) (more : List Planned) → EachPair IsPlanned more (sessions_from call generation m (first + count) left)
    → EachPair IsPlanned (plan ++ more) (sessions_from call generation 0 first media)

pub will_next : (m first : ℕ) (media before left : List (Option Medium)) (x : Option Medium) (plan plan' : List Planned) (count count' : ℕ) → before ≡ x ∷ left
    → WillBePlanned m first media plan count before → IsNext m first x plan count plan' count' → WillBePlanned (m + 1) first media plan' count' left
will_next m first media before left x plan plan' count count' is will next = λ call generation more later.
    let (these, added, each) = next call generation left more later in
    subst (λ l. EachPair IsPlanned l (sessions_from call generation 0 first media)) (sym (ap (λ l. l ++ more) added ∙ append_assoc plan these more))
    (will call generation (these ++ more) (subst (λ l. EachPair IsPlanned (these ++ more) (sessions_from call generation m (first + count) l)) (sym is) each))

pub will_be_all : (m first : ℕ) (media : List (Option Medium)) (plan : List Planned) (count : ℕ) (left : List (Option Medium)) → left ≡ [] → WillBePlanned m first media plan count left
    → (call generation : ℕ) → ArePlanned plan (sessions_from call generation 0 first media)
will_be_all m first media plan count left none will = λ call generation.
    subst (λ l. EachPair IsPlanned l (sessions_from call generation 0 first media)) (append-nil plan)
    (will call generation [] (subst (λ l. EachPair IsPlanned [] (sessions_from call generation m (first + count) l)) (sym none) tt))

-- ---- the ring's keys

owned_keys : (owner : Owner) (ks : List AgreedKey) → keys_of (owned owner ks) ≡ ring_keys ks
owned_keys owner [] = refl
owned_keys owner (k ∷ ks) = ap (λ l. Rattle.sg_session.specs.Ring.derived k.master ∷ l) (owned_keys owner ks)

pub keys_are : (call generation m : ℕ) (media : List (Option Medium)) → keys_of (keys_from call generation m media) ≡ media_keys media
keys_are call generation m [] = refl
keys_are call generation m (None ∷ ms) = keys_are call generation (m + 1) ms
keys_are call generation m (Some x ∷ ms) =
    let a : List Installed = owned (owner_at call generation m Opening) x.from_peer.keys in
    let b : List Installed = owned (owner_at call generation m Sealing) x.to_peer.keys in
    let rest : List Installed = keys_from call generation (m + 1) ms in
    map-append key_of a (b ++ rest) ∙ ap (λ l. keys_of a ++ l) (map-append key_of b rest)
    ∙ (λ i. owned_keys (owner_at call generation m Opening) x.from_peer.keys i ++ (owned_keys (owner_at call generation m Sealing) x.to_peer.keys i ++ keys_are call generation (m + 1) ms i))

-- the keys of one medium more
keys_first : (x : Option Medium) (rest : List (Option Medium)) → media_keys (x ∷ []) ++ media_keys rest ≡ media_keys (x ∷ rest)
keys_first None rest = refl
keys_first (Some x) rest = two (ring_keys x.from_peer.keys) (ring_keys x.to_peer.keys) (media_keys rest)

pub keys_next : (x : Option Medium) (before rest : List (Option Medium)) (keys keys' all : List RingKey) → before ≡ x ∷ rest → keys' ≡ keys ++ media_keys (x ∷ []) → keys ++ media_keys before ≡ all → keys' ++ media_keys rest ≡ all
keys_next x before rest keys keys' all is pushed so =
    ap (λ l. l ++ media_keys rest) pushed ∙ append_assoc keys (media_keys (x ∷ [])) (media_keys rest) ∙ ap (λ l. keys ++ l) (keys_first x rest ∙ ap media_keys (sym is)) ∙ so
