-- Media keyed by messages, step by step.
use Rattle.std.proofs.Common.{◌≡◌, ◌<◌, get_or, slice_get, false, ℕ, zero, suc, ◌+◌, Bool, List, [], ◌∷◌, ◌++◌, length, map, drop, Option, Some, None, Result, Ok, Err, refl, sym, ap, ◌∙◌, subst, arith}
use Rattle.std.proofs.lemmas.List.{append-nil}
use Rattle.std.specs.Global.{Vec}
use Rattle.std.specs.List.{AllByRecursion}
use Rattle.sg_agreement.proofs.Walks.{kept_next}
use Rattle.sg_agreement.specs.EachMedium.{if_kept, each_kept}
use Rattle.sg_agreement.specs.MessageAnswers.{own_streams, responded, streams_answered}
use Rattle.sg_agreement.specs.Messages.{Bundle, message_in}
use Rattle.sg_agreement.specs.Refusals.{of_psk, of_cs}
use Rattle.sg_agreement.specs.Walks.{prefixed}
use Rattle.sg_base.specs.declared.faults.CsFault.{CsFault}
use Rattle.sg_base.specs.declared.faults.Fault.{Fault}
use Rattle.sg_base.specs.declared.faults.Fault.TheVariants.{Refused, NoMemory}
use Rattle.sg_base.specs.declared.faults.PskFault.{PskFault}
use Rattle.sg_base.specs.declared.faults.Refusal.{Refusal}
use Rattle.sg_csmap.specs.CryptoSessions as cs
use Rattle.sg_csmap.specs.CryptoSessions.{streams_of}
use Rattle.sg_csmap.specs.declared.faults.CsError.{CsError}
use Rattle.sg_csmap.specs.declared.faults.CsError.TheVariants as cs_errors
use Rattle.sg_csmap.specs.declared.sessions.StreamKeys.{StreamKeys}
use Rattle.sg_mikey.specs.declared.message.CsEntry.{CsEntry}
use Rattle.sg_mikey.specs.declared.message.Message.{Message}
use Rattle.sg_psk.specs.Policy.{own_policy}
use Rattle.sg_psk.specs.Sending.{Sent, response_of}
use Rattle.sg_psk.specs.StandsFor as psk
use Rattle.sg_psk.specs.declared.faults.PskError.{PskError}
use Rattle.sg_psk.specs.declared.faults.PskError.TheVariants as psk_errors
use Rattle.sg_psk.specs.declared.pairs.Pair.{Pair}
use Rattle.sg_sdp.specs.declared.medium.Medium as descriptions
use Rattle.sg_session.specs.Stages.{after_ok}
use Rattle.sg_leg.specs.Answering.{Tells}
use Rattle.sg_leg.specs.Messages.{psk_fault, cs_fault}
use Rattle.sg_leg.specs.Open.{IsBundleIf, IsBundleOf}
use Rattle.sg_leg.specs.Pairs.{EachPair}
use Rattle.sg_leg.specs.declared.keying.Bundle as kept

-- ---- a walk over media

module _ {X Y : Type 0} (value : ℕ → X → descriptions.Medium → Result Y Refusal) where
  pub kept_step : (i : ℕ) (a : Bool) (ons ons' : List Bool) (x : Option X) (xs xs' : List (Option X)) (n : descriptions.Medium) (ns ns' : List descriptions.Medium)
      (done done' : List (Option Y)) (y : Option Y) (r : Result (List (Option Y)) Refusal)
      → ons ≡ a ∷ ons' → xs ≡ x ∷ xs' → ns ≡ n ∷ ns' → if_kept a x (λ x. value i x n) ≡ Ok y → done' ≡ done ++ y ∷ []
      → prefixed done (each_kept value i ons xs ns) ≡ r → prefixed done' (each_kept value (i + 1) ons' xs' ns') ≡ r
  kept_step i a ons ons' x xs xs' n ns ns' done done' y r aa ax an is pushed so =
      ap (λ d. prefixed d (each_kept value (i + 1) ons' xs' ns')) pushed
      ∙ sym (kept_next value done i a ons' x xs' n ns' ∙ ap (λ r. after_ok r (λ y. prefixed (done ++ y ∷ []) (each_kept value (i + 1) ons' xs' ns'))) is)
      ∙ (λ j. prefixed done (each_kept value i (sym aa j) (sym ax j) (sym an j))) ∙ so

  pub kept_stop : (fault : Fault) (i : ℕ) (a : Bool) (ons ons' : List Bool) (x : Option X) (xs xs' : List (Option X)) (n : descriptions.Medium) (ns ns' : List descriptions.Medium)
      (done : List (Option Y)) (r : Result (List (Option Y)) Refusal)
      → ons ≡ a ∷ ons' → xs ≡ x ∷ xs' → ns ≡ n ∷ ns' → Tells {X = Option Y} (Err fault) (if_kept a x (λ x. value i x n))
      → prefixed done (each_kept value i ons xs ns) ≡ r → Tells {X = List (Option Y)} (Err fault) r
  kept_stop (Refused cause) i a ons ons' x xs xs' n ns ns' done r aa ax an is so =
      sym so
      ∙ (λ j. prefixed done (each_kept value i (aa j) (ax j) (an j)))
      ∙ kept_next value done i a ons' x xs' n ns' ∙ ap (λ r. after_ok r (λ y. prefixed (done ++ y ∷ []) (each_kept value (i + 1) ons' xs' ns'))) is
  kept_stop NoMemory i a ons ons' x xs xs' n ns ns' done r aa ax an is so = tt

  pub kept_end : (i : ℕ) (ons : List Bool) (xs : List (Option X)) (ns : List descriptions.Medium) (done : List (Option Y)) (r : Result (List (Option Y)) Refusal)
      → ons ≡ [] → prefixed done (each_kept value i ons xs ns) ≡ r → r ≡ Ok done
  kept_end i ons xs ns done r none so = sym so ∙ ap (λ ons. prefixed done (each_kept value i ons xs ns)) none ∙ ap Ok (append-nil done)

pub split_read : (i : ℕ) (xs : List Bool) → i < length xs → drop i xs ≡ get_or xs i false ∷ drop (i + 1) xs
split_read i [] lt = absurd (omega (arith, lt))
split_read zero (x ∷ xs) lt = refl
split_read (suc i) (x ∷ xs) lt =
    let one : suc i + 1 ≡ suc (i + 1) = omega arith in
    split_read i xs (omega (arith, lt)) ∙ ap (λ n. get_or xs i false ∷ drop n (x ∷ xs)) (sym one)

pub there_at : {X : Type 0} (xs : List X) (i : ℕ) (x : X) → slice_get xs i ≡ Some x → i < length xs
there_at (y ∷ xs) zero x e = omega arith
there_at (y ∷ xs) (suc i) x e = let lt = there_at xs i x e in omega (arith, lt)
there_at [] i x e = absurd cc

pub all_at : {X : Type 0} (P : X → Type 0) (i : ℕ) (xs : List X) (x : X) (rest : List X) → AllByRecursion P xs → drop i xs ≡ x ∷ rest → P x
all_at P zero (y ∷ ys) x rest p e = let same : y ≡ x = cc in subst P same p.0
all_at P (suc i) (y ∷ ys) x rest p e = all_at P i ys x rest p.1 e
all_at P zero [] x rest p e = absurd cc
all_at P (suc i) [] x rest p e = absurd cc

pub each_own : (pairs : List Pair) (i : ℕ) (xs : List (Option kept.Bundle)) (cs : List (Option Bundle)) (x : Option kept.Bundle) (rest : List (Option kept.Bundle))
    → EachPair (IsBundleIf pairs) xs cs → drop i xs ≡ x ∷ rest
    → (c : Option Bundle) × (drop i (map own_streams cs) ≡ own_streams c ∷ drop (i + 1) (map own_streams cs)) × IsBundleIf pairs x c
each_own pairs i (y ∷ xs) [] x rest p e = absurd p
each_own pairs zero (y ∷ xs) (c ∷ cs) x rest p e = let same : y ≡ x = cc in (c, refl, subst (λ x. IsBundleIf pairs x c) same p.0)
each_own pairs (suc i) (y ∷ xs) (c ∷ cs) x rest p e =
    let q = each_own pairs i xs cs x rest p.1 e in
    let one : suc i + 1 ≡ suc (i + 1) = omega arith in
    (q.0, q.1 ∙ ap (λ n. own_streams q.0 ∷ drop n (map own_streams (c ∷ cs))) (sym one), q.2)
each_own pairs zero [] cs x rest p e = absurd cc
each_own pairs (suc i) [] cs x rest p e = absurd cc

pub some_bundle : (pairs : List Pair) (b : kept.Bundle) (c : Option Bundle) → IsBundleIf pairs (Some b) c → (d : Bundle) × (c ≡ Some d) × IsBundleOf pairs b d
some_bundle pairs b None p = absurd p
some_bundle pairs b (Some d) p = (d, refl, p)

-- ---- a response

pub map_of : (map : Vec CsEntry) (r : Result (List CsEntry) PskFault) → psk.Gives {X = Vec CsEntry} {A = List CsEntry} (λ map entries. map.items ≡ entries) (Ok map) r → r ≡ Ok map.items
map_of map (Ok a) is = ap Ok (sym is)
map_of map (Err fault) is = absurd is

module _ (s : Sent) (count : ℕ) (value : Option (List ℕ)) where
  answered_as : (r : Result (List ℕ × Message) Refusal) → message_in 255 1 value ≡ r → streams_answered s count value
      ≡ after_ok r (λ read. after_ok (of_psk 255 (response_of read.0 read.1 s)) (λ map. after_ok (of_cs 255 (streams_of s.csb s.random s.map (own_policy ∷ []) s.tgks count)) (λ streams. Ok (responded streams map))))
  unfolding streams_answered
  answered_as r e = ap (λ r. after_ok r (λ read. after_ok (of_psk 255 (response_of read.0 read.1 s)) (λ map. after_ok (of_cs 255 (streams_of s.csb s.random s.map (own_policy ∷ []) s.tgks count)) (λ streams. Ok (responded streams map))))) e

  pub no_response : (fault : Fault) → Tells {X = List ℕ × Message} (Err fault) (message_in 255 1 value) → Tells {X = List (StreamKeys × StreamKeys)} (Err fault) (streams_answered s count value)
  no_response (Refused cause) e = answered_as (Err cause) e
  no_response NoMemory e = tt

  module _ (octets : List ℕ) (m : Message) (read : message_in 255 1 value ≡ Ok (octets, m)) where
    map_as : (r : Result (List CsEntry) PskFault) → response_of octets m s ≡ r
        → streams_answered s count value ≡ after_ok (of_psk 255 r) (λ map. after_ok (of_cs 255 (streams_of s.csb s.random s.map (own_policy ∷ []) s.tgks count)) (λ streams. Ok (responded streams map)))
    map_as r e = answered_as (Ok (octets, m)) read ∙ ap (λ r. after_ok (of_psk 255 r) (λ map. after_ok (of_cs 255 (streams_of s.csb s.random s.map (own_policy ∷ []) s.tgks count)) (λ streams. Ok (responded streams map)))) e

    pub not_ours : (e : PskError) → psk.Gives {X = Vec CsEntry} {A = List CsEntry} (λ map entries. map.items ≡ entries) (Err e) (response_of octets m s)
        → Tells {X = List (StreamKeys × StreamKeys)} (Err (psk_fault 255 e)) (streams_answered s count value)
    not_ours (psk_errors.Psk fault) e = map_as (Err fault) e
    not_ours psk_errors.NoMemory e = tt

    module _ (entries : List CsEntry) (is : response_of octets m s ≡ Ok entries) where
      streams_as : (r : Result (List (StreamKeys × StreamKeys)) CsFault) → streams_of s.csb s.random s.map (own_policy ∷ []) s.tgks count ≡ r
          → streams_answered s count value ≡ after_ok (of_cs 255 r) (λ streams. Ok (responded streams entries))
      streams_as r e = map_as (Ok entries) is ∙ ap (λ r. after_ok (of_cs 255 r) (λ streams. Ok (responded streams entries))) e

      pub none_served : (f : CsError) → cs.GivesList {X = StreamKeys × StreamKeys} (Err f) (streams_of s.csb s.random s.map (own_policy ∷ []) s.tgks count)
          → Tells {X = List (StreamKeys × StreamKeys)} (Err (cs_fault 255 f)) (streams_answered s count value)
      none_served (cs_errors.Cs fault) e = streams_as (Err fault) e
      none_served cs_errors.NoMemory e = tt

      pub all_answered : (ss : List (StreamKeys × StreamKeys)) → streams_of s.csb s.random s.map (own_policy ∷ []) s.tgks count ≡ Ok ss → streams_answered s count value ≡ Ok (responded ss entries)
      all_answered ss e = streams_as (Ok ss) e
