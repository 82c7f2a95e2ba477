-- Which calls are joined: by the outcomes of the table, in order, and by the lines that join and part them.
use Rattle.std.specs.Prelude.{◌≡◌, ℕ, ◌+◌, true, false, not, ◌==◌, if◌then◌else◌, List, [], ◌∷◌, map, set, replicate, slice_index_or, Option, Some, None, option_map, option_and_then, Result, Ok, Err}
use Rattle.sg_base.specs.declared.addresses.CallId.{CallId}
use Rattle.sg_gateway.specs.World.{same_id}
use Rattle.sg_outcome.specs.declared.outcomes.Outcome.{Outcome}
use Rattle.sg_outcome.specs.declared.outcomes.Outcome.TheVariants.{Made, Live, Ended}
use Rattle.sg_pairs.specs.declared.faults.JoinFault.{JoinFault}
use Rattle.sg_pairs.specs.declared.faults.JoinFault.TheVariants as faults
use Rattle.sg_pairs.specs.declared.members.Found.{Found}
use Rattle.sg_pairs.specs.declared.members.Member.{Member}
use Rattle.sg_pairs.specs.declared.members.Pair.{Pair}
use Rattle.sg_pairs.specs.declared.outcomes.BridgeOutcome.{BridgeOutcome}
use Rattle.sg_pairs.specs.declared.outcomes.BridgeOutcome.TheVariants as tells

-- what a bridge knows of the calls, by slot; of a slot without a call it knows nothing
abbrev pub Members : Type 0
Members = List (Option Member)

abbrev pub no_members : Members
no_members = replicate 256 None

-- a call that was made: it has no generation, and is in no pair
abbrev pub new_member : CallId → ℕ → Member
new_member id media = record { id = id; media = media; is_live = false; pair = None }

abbrev pub now_live : CallId → Option Member → Option Member
now_live id member = option_map (λ m. if same_id m.id id then record m { is_live = true } else m) member

abbrev pub in_pair : Option Pair → Option Member → Option Member
in_pair pair None = None
in_pair pair (Some m) = Some (record m { pair = pair })

abbrev pub joined_pair : Option Member → Option Pair
joined_pair member = option_and_then (λ m. m.pair) member

abbrev pub member_at : Members → ℕ → Option Member
member_at calls slot = slice_index_or calls slot None

-- the calls with this pair, or none, in that slot
abbrev pub in_pair_at : Option Pair → ℕ → Members → Members
in_pair_at pair slot calls = set calls slot (in_pair pair (member_at calls slot))

-- both calls of the pair are in it, or in none
abbrev pub paired : Pair → Members → Members
paired p calls = in_pair_at (Some p) p.second.slot (in_pair_at (Some p) p.first.slot calls)

abbrev pub parted : Pair → Members → Members
parted p calls = in_pair_at None p.second.slot (in_pair_at None p.first.slot calls)

-- ---- what an outcome changes

-- the calls after it, and the pair that it has parted
pub record Noted : Type 0 where
  pub calls : Members
  pub parted : Option BridgeOutcome

abbrev pub tells_parted : Pair → BridgeOutcome
tells_parted p = tells.Parted p.first.id p.second.id

-- no call is in this slot any more, and where one was joined, its pair is parted
abbrev pub vacated : ℕ → Members → Option Pair → Noted
vacated slot calls None = record { calls = set calls slot None; parted = None }
vacated slot calls (Some p) = record { calls = set (parted p calls) slot None; parted = Some (tells_parted p) }

abbrev pub emptied : ℕ → Members → Noted
emptied slot calls = vacated slot calls (joined_pair (member_at calls slot))

-- a call is made in a slot that is empty, has sessions, or has ended
abbrev pub after_outcome : Members → Outcome → Noted
after_outcome calls (Made id slot media) = record { calls = set (emptied slot calls).calls slot (Some (new_member id media)); parted = None }
after_outcome calls (Live id) = record { calls = map (now_live id) calls; parted = None }
after_outcome calls (Ended id slot media why) = emptied slot calls
after_outcome calls other = record { calls = calls; parted = None }

-- ---- the call of an id

-- the first of those in the slots from the n-th on
abbrev pub found_from : ℕ → CallId → Members → Option Found
found_from n id [] = None
found_from n id (None ∷ others) = found_from (n + 1) id others
found_from n id (Some m ∷ others) = if same_id m.id id then Some (record { slot = n; member = m }) else found_from (n + 1) id others

abbrev pub found : CallId → Members → Option Found
found id calls = found_from 0 id calls

-- ---- joining: it is refused for the first cause that holds

abbrev pub other_id : Pair → CallId → CallId
other_id p id = if same_id p.first.id id then p.second.id else p.first.id

abbrev pub other_slot : Pair → ℕ → ℕ
other_slot p slot = if p.first.slot == slot then p.second.slot else p.first.slot

abbrev pub pair : Found → Found → Pair
pair a b = record { first = record { id = a.member.id; slot = a.slot }; second = record { id = b.member.id; slot = b.slot } }

abbrev pub Joining : Type 0
Joining = Result Members (CallId × JoinFault)

-- the pair that two calls make, or the first cause why not; refused, no call changes
abbrev pub JoinsAs : Result Pair (CallId × JoinFault) → Members → Joining → Type 0
JoinsAs (Ok p) calls j = j ≡ Ok (paired p calls)
JoinsAs (Err e) calls j = j ≡ Err e

abbrev pub IsJoined : Result (Unit {0}) (CallId × JoinFault) → Members → Members → Joining → Type 0
IsJoined (Ok u) old new j = j ≡ Ok new
IsJoined (Err e) old new j = (j ≡ Err e) × (new ≡ old)

abbrev pub joined_free : Found → Found → Members → Option Pair → Option Pair → Joining
joined_free a b calls (Some p) q = Err (a.member.id, faults.Joined (other_id p a.member.id))
joined_free a b calls None (Some q) = Err (b.member.id, faults.Joined (other_id q b.member.id))
joined_free a b calls None None =
    if a.member.media == b.member.media then Ok (paired (pair a b) calls) else Err (a.member.id, faults.MediaCount)

abbrev pub joined_found : Found → Found → Members → Joining
joined_found a b calls =
    if same_id a.member.id b.member.id then Err (a.member.id, faults.Same)
    else if not a.member.is_live then Err (a.member.id, faults.Unready)
    else if not b.member.is_live then Err (b.member.id, faults.Unready)
    else joined_free a b calls a.member.pair b.member.pair

abbrev pub joined_by : CallId → CallId → Members → Option Found → Option Found → Joining
joined_by first second calls None b = Err (first, faults.CallUnknown)
joined_by first second calls (Some a) None = Err (second, faults.CallUnknown)
joined_by first second calls (Some a) (Some b) = joined_found a b calls

abbrev pub joined : CallId → CallId → Members → Joining
joined first second calls = joined_by first second calls (found first calls) (found second calls)

-- ---- parting

-- the calls without the pair, and the pair
pub record Parting : Type 0 where
  pub calls : Members
  pub pair : Pair

abbrev pub parted_pair : Members → Option Pair → Result Parting JoinFault
parted_pair calls None = Err faults.NotJoined
parted_pair calls (Some p) = Ok (record { calls = parted p calls; pair = p })

abbrev pub parted_found : Members → Option Found → Result Parting JoinFault
parted_found calls None = Err faults.CallUnknown
parted_found calls (Some f) = parted_pair calls f.member.pair

abbrev pub parted_from : CallId → Members → Result Parting JoinFault
parted_from id calls = parted_found calls (found id calls)

abbrev pub IsParted : Result (CallId × CallId) JoinFault → Members → Members → Result Parting JoinFault → Type 0
IsParted (Ok ids) old new r = (p : Pair) × (r ≡ Ok (record { calls = new; pair = p })) × (ids ≡ (p.first.id, p.second.id))
IsParted (Err fault) old new r = (r ≡ Err fault) × (new ≡ old)
