-- What the gateway makes of noise can be sent.
use Rattle.std.proofs.Common.{◌≡◌, inl, inr, ℕ, ◌+◌, ◌*◌, ◌<◌, ◌≤◌, ◌^◌, List, [], ◌∷◌, length, take, drop, refl, arith}
use Rattle.std.proofs.lemmas.Bool.{cases_lt}
use Rattle.std.proofs.lemmas.List.{length-take, length-drop, get_or-drop, get_or-take, get_or_past}
use Rattle.std.specs.List.{AllByRecursion}
use Rattle.sg_base.specs.Octets.{number_of}
use Rattle.sg_mikey.specs.Spelling.{AreOctets, IsEntry}
use Rattle.sg_psk.specs.Sending.{own_map, sent_of}
use Rattle.sg_psk.specs.declared.pairs.Pair.{Pair}
use Rattle.sg_psk.specs.Ends.{IsSendable}
use Rattle.sg_psk.specs.Stamps.{stamp_of}

octets_drop : (n : ℕ) (octets : List ℕ) → AreOctets octets → AreOctets (drop n octets)
octets_drop n octets h i = rw get_or-drop (h (n + i))

octets_take : (n : ℕ) (octets : List ℕ) → AreOctets octets → AreOctets (take n octets)
octets_take n octets h i =
    elim (cases_lt i n) [
      | inl lt ↦ rw (get_or-take n octets i 0 lt) (h i)
      | inr le ↦ rw (get_or_past (take n octets) i 0 (omega (arith, length-take n octets))) (omega arith)
    ]

four_fit : (octets : List ℕ) → length octets ≡ 4 → AreOctets octets → number_of octets < 2 ^ 32
four_fit (a ∷ b ∷ c ∷ d ∷ []) e h = omega (arith, h 0, h 1, h 2, h 3)
four_fit other e h = absurd (omega (arith, e))

length-stamp : (now : ℕ) → length (stamp_of now) ≡ 8
unfolding stamp_of
length-stamp now = refl

count_own : (ssrcs : List ℕ) → length (own_map ssrcs) ≡ 2 * length ssrcs
unfolding own_map
count_own [] = refl
count_own (s ∷ ssrcs) = let rest = count_own ssrcs in omega (arith, rest)

own_entries : (ssrcs : List ℕ) → AllByRecursion (λ ssrc. ssrc < 2 ^ 32) ssrcs → AllByRecursion IsEntry (own_map ssrcs)
unfolding own_map
own_entries [] p = tt
own_entries (s ∷ ssrcs) p = ((p.0, omega arith), ((omega arith, omega arith), own_entries ssrcs p.1))

pub waiting_sent : (pair : Pair) (now : ℕ) (noise ssrcs : List ℕ) → length pair.own ≤ 128 → length pair.peer ≤ 128 → length noise ≡ 304 → AreOctets noise
    → length ssrcs ≤ 127 → AllByRecursion (λ ssrc. ssrc < 2 ^ 32) ssrcs → IsSendable (sent_of pair now noise ssrcs)
waiting_sent pair now noise ssrcs own peer size octets few small =
    let rest16 : length (drop 16 noise) ≡ 288 = (let d = length-drop 16 noise in omega (arith, d, size)) in
    let four : length (take 4 (drop 16 noise)) ≡ 4 = (let t = length-take 4 (drop 16 noise) in omega (arith, t, rest16)) in
    let rest20 : length (drop 20 noise) ≡ 284 = (let d = length-drop 20 noise in omega (arith, d, size)) in
    let key : length (take 16 (drop 20 noise)) ≡ 16 = (let t = length-take 16 (drop 20 noise) in omega (arith, t, rest20)) in
    record {
      csb = four_fit (take 4 (drop 16 noise)) four (octets_take 4 (drop 16 noise) (octets_drop 16 noise octets));
      random = let t = length-take 16 noise in omega (arith, t, size);
      stamp = length-stamp now;
      own = omega (arith, own);
      peer = omega (arith, peer);
      count = let c = count_own ssrcs in omega (arith, c, few);
      entries = own_entries ssrcs small;
      least = omega (arith, key);
      most = omega (arith, key);
      alone = refl;
    }
