-- Reading keys one after the other, as the loop does.
use Rattle.std.proofs.Common.{◌≡◌, ℕ, ◌+◌, ◌≤◌, ◌<◌, eqb, List, [], ◌∷◌, ◌++◌, length, get_or, drop, Result, Ok, Err, refl, sym, ap, ◌∙◌, append_assoc, arith}
use Rattle.std.proofs.lemmas.List.{append-nil}
use Rattle.std.proofs.Math.ListN.{drop_of_length-le}
use Rattle.std.proofs.lemmas.Bool.{ne_eqb, eq-eqb}
use Rattle.sg_base.proofs.Lists.{split_here}
use Rattle.sg_base.specs.declared.Suite.{Suite}
use Rattle.sg_sdes.specs.declared.lines.InlineKey.{InlineKey}
use Rattle.sg_base.specs.declared.SdesFault.{SdesFault}
use Rattle.sg_base.specs.declared.SdesFault.TheVariants.{Key}
use Rattle.sg_sdes.specs.Keys.{◌>>=◌, inline_at, keys_from, keys_of}
use Rattle.std.specs.List.{slice_split}

-- what was read before, and what is still read
abbrev pub with_prefix : List InlineKey → Result (List InlineKey) SdesFault → Result (List InlineKey) SdesFault
with_prefix prefix read = read >>= λ keys. Ok (prefix ++ keys)

regroup : (prefix : List InlineKey) (k : InlineKey) (read : Result (List InlineKey) SdesFault) → with_prefix prefix (read >>= λ keys. Ok (k ∷ keys)) ≡ with_prefix (prefix ++ k ∷ []) read
regroup prefix k (Ok keys) = ap (λ (ks : List InlineKey). Ok ks) (simp append_assoc)
regroup prefix k (Err f) = refl

pub goes_on : (suite : Suite) (prefix : List InlineKey) (ps : List (List ℕ)) (i : ℕ) (p : List ℕ) (k : InlineKey) (total : Result (List InlineKey) SdesFault) → (i < length ps) × (p ≡ get_or ps i p)
    → length prefix < 8 → inline_at suite p ≡ Ok k → with_prefix prefix (keys_from suite (length prefix) (drop i ps)) ≡ total
    → with_prefix (prefix ++ k ∷ []) (keys_from suite (length prefix + 1) (drop (i + 1) ps)) ≡ total
unfolding keys_from
goes_on suite prefix ps i p k total here room e so_far =
    let one : with_prefix prefix (keys_from suite (length prefix) (drop i ps)) ≡ with_prefix (prefix ++ k ∷ []) (keys_from suite (length prefix + 1) (drop (i + 1) ps)) =
    rw (split_here ps i p here.0 here.1, ne_eqb (length prefix) 8 (λ h. omega arith), e) (regroup prefix k (keys_from suite (length prefix + 1) (drop (i + 1) ps))) in
    sym one ∙ so_far

pub fails : (suite : Suite) (prefix : List InlineKey) (ps : List (List ℕ)) (i : ℕ) (p : List ℕ) (f : SdesFault) (total : Result (List InlineKey) SdesFault) → (i < length ps) × (p ≡ get_or ps i p)
    → length prefix < 8 → inline_at suite p ≡ Err f → with_prefix prefix (keys_from suite (length prefix) (drop i ps)) ≡ total → total ≡ Err f
unfolding keys_from
fails suite prefix ps i p f total here room e so_far =
    let one : with_prefix prefix (keys_from suite (length prefix) (drop i ps)) ≡ Err f = rw (split_here ps i p here.0 here.1, ne_eqb (length prefix) 8 (λ h. omega arith), e) refl in
    sym so_far ∙ one

pub too_many : (suite : Suite) (prefix : List InlineKey) (ps : List (List ℕ)) (i : ℕ) (p : List ℕ) (total : Result (List InlineKey) SdesFault) → (i < length ps) × (p ≡ get_or ps i p)
    → length prefix ≡ 8 → with_prefix prefix (keys_from suite (length prefix) (drop i ps)) ≡ total → total ≡ Err Key
unfolding keys_from
too_many suite prefix ps i p total here full so_far =
    let one : with_prefix prefix (keys_from suite (length prefix) (drop i ps)) ≡ Err Key = rw (split_here ps i p here.0 here.1, eq-eqb (length prefix) 8 full) refl in
    sym so_far ∙ one

pub is_done : (suite : Suite) (prefix : List InlineKey) (ps : List (List ℕ)) (i : ℕ) (total : Result (List InlineKey) SdesFault) → length ps ≤ i
    → with_prefix prefix (keys_from suite (length prefix) (drop i ps)) ≡ total → total ≡ Ok prefix
unfolding keys_from
is_done suite prefix ps i total le so_far =
    let one : with_prefix prefix (keys_from suite (length prefix) (drop i ps)) ≡ Ok prefix = rw (drop_of_length-le ps le) (ap (λ (ks : List InlineKey). Ok ks) (append-nil prefix)) in
    sym so_far ∙ one

same : (r : Result (List InlineKey) SdesFault) → with_prefix [] r ≡ r
same (Ok ks) = refl
same (Err f) = refl

pub starts : (suite : Suite) (t : List ℕ) → with_prefix [] (keys_from suite 0 (slice_split (λ b. eqb b 59) t)) ≡ keys_of suite t
unfolding keys_of
starts suite t = same (keys_from suite 0 (slice_split (λ b. eqb b 59) t))
