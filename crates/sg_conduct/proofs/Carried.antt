-- What is carried of a description is it line by line.
use Rattle.std.proofs.Common.{◌≡◌, ◌⊎◌, inl, inr, ℕ, ◌+◌, Bool, true, false, cond, not, eqb, List, [], ◌∷◌, ◌++◌, length, map, take, drop, codes, Option, Some, None, refl, sym, ap, ◌∙◌, subst, append-nil}
use Rattle.std.proofs.lemmas.Bool.{and_parts, false≢true, or_cases, or_left, or_right}
use Rattle.std.proofs.lemmas.List.{take-append-drop}
use Rattle.std.proofs.lemmas.Slice.Eq.{bytes_eq-Decides}
use Rattle.std.specs.Prelude.{filter, nat_eq}
use Rattle.std.specs.Fmt.{decimal, digits}
use Rattle.std.specs.List.{AllByRecursion, Any, list_all, list_any, starts_with}
use Rattle.std.specs.Option.{option_map_or}
use Rattle.std.specs.Str.{bytes_eq}
use Rattle.base64.specs.GeneralPurpose.{encode_of}
use Rattle.base64.specs.Engines.{standard}
use Rattle.sg_base.proofs.Cuts.{cut_again, cut_takes}
use Rattle.sg_base.proofs.SuiteLemmas.{lacks_test}
use Rattle.sg_base.specs.Fields.{Lacks, cut_at}
use Rattle.sg_base.specs.Suites.{key_len_of}
use Rattle.sg_base.specs.SuiteNames.{suite_name}
use Rattle.sg_base.specs.declared.suites.Suite.{Suite}
use Rattle.sg_base.specs.declared.suites.Suite.TheVariants.{Cm128Tag80, Cm256Tag80}
use Rattle.sg_sdes.specs.CryptoText.{crypto_text}
use Rattle.sg_sdp.specs.Addresses.{with_address}
use Rattle.sg_sdp.specs.Carrying.{attribute_name, carried_line, carried_lines, carried_media, carried_medium, carried_proto, is_one_sided}
use Rattle.sg_sdp.specs.declared.medium.Medium as descriptions
use Rattle.sg_sdp.specs.declared.medium.Profile.TheVariants.{Avp, Savp, Avpf, Savpf, Other}
use Rattle.sg_agreement.specs.CarriedTexts.{crypto_attribute, exchanged, ports_from, rtp_port, with_media_lines}
use Rattle.sg_agreement.specs.Sides.{actives, is_active, other_side, side_of}
use Rattle.sg_conduct.proofs.Offers.{active_takes}
use Rattle.sg_conduct.proofs.Present.{takes_active}
use Rattle.sg_conduct.specs.Carried.{AddsToMedium, AreCarried, AreCarriedMedia, HoldsForOneSide, IsAtPort, IsAttribute, IsCarriedAs, IsCarriedMedium, attributes_of, lines_of, of_one_side, other_word, own_line}
use Rattle.sg_conduct.specs.OwnPorts.{port_towards}
use Rattle.sg_gateway.proofs.Common.{Plain, Profile, Secure, Side, Way, any_cases, any_here, any_none, any_there}

-- ---- beginnings

begins : (needle line : List ℕ) → starts_with nat_eq line needle ≡ true → line ≡ needle ++ drop (length needle) line
begins needle line e = sym (take-append-drop (length needle) line) ∙ ap (λ (l : List ℕ). l ++ drop (length needle) line) (sym ((bytes_eq-Decides needle _).0 e))

-- ---- names of attributes

each_lacks : (names : List (List ℕ)) → list_all (λ name. list_all (λ x. not (eqb x 58)) name) names ≡ true → AllByRecursion (Lacks 58) names
each_lacks [] e = tt
each_lacks (name ∷ names) e = let p = and_parts (list_all (λ x. not (eqb x 58)) name) _ e in (lacks_test 58 name p.0, each_lacks names p.1)

no_colons : AllByRecursion (Lacks 58) of_one_side
no_colons = each_lacks of_one_side refl

no_cut : (c : ℕ) (t : List ℕ) → Lacks c t → cut_at c t ≡ None
unfolding cut_at
no_cut c [] lacks = refl
no_cut c (x ∷ xs) lacks = rw (lacks.0, no_cut c xs lacks.1) refl

alone : (name : List ℕ) → Lacks 58 name → attribute_name name ≡ name
unfolding attribute_name
alone name lacks = ap (λ (o : Option (List ℕ × List ℕ)). option_map_or (λ parts. parts.0) o name) (no_cut 58 name lacks)

with_value : (name value : List ℕ) → Lacks 58 name → attribute_name (name ++ 58 ∷ value) ≡ name
unfolding attribute_name
with_value name value lacks = ap (λ (o : Option (List ℕ × List ℕ)). option_map_or (λ parts. parts.0) o (name ++ 58 ∷ value)) (cut_again 58 name value lacks)

abbrev IsNamed : List (List ℕ) → List ℕ → Bool
IsNamed names attribute = list_any (λ name. bytes_eq name (attribute_name attribute)) names

named : (line : List ℕ) (names : List (List ℕ)) → AllByRecursion (Lacks 58) names → Any (IsAttribute line) names → (attribute : List ℕ) × (line ≡ codes "a=" ++ attribute) × (IsNamed names attribute ≡ true)
named line [] lack any = absurd (any_none (IsAttribute line) any)
named line (name ∷ names) lack any = elim (any_cases (IsAttribute line) name names any) [
  | inl here ↦ elim here [
    | inl whole ↦ (name, whole, or_left (bytes_eq name (attribute_name name)) _ ((bytes_eq-Decides name (attribute_name name)).1 (sym (alone name lack.0))))
    | inr part ↦ (name ++ 58 ∷ part.0, part.1, or_left (bytes_eq name (attribute_name (name ++ 58 ∷ part.0))) _ ((bytes_eq-Decides name _).1 (sym (with_value name part.0 lack.0))))
  ]
  | inr later ↦ let r = named line names lack.1 later in (r.0, r.1, or_right (bytes_eq name (attribute_name r.0)) _ r.2)
]

one_sided_is : (line : List ℕ) → HoldsForOneSide line → is_one_sided line ≡ true
unfolding is_one_sided
one_sided_is line holds = let r = named line of_one_side no_colons holds in ap is_one_sided r.1 ∙ r.2

-- a name is what stands before the first colon
of_name : (name attribute : List ℕ) → name ≡ attribute_name attribute → (attribute ≡ name) ⊎ ((value : List ℕ) × (attribute ≡ name ++ 58 ∷ value))
unfolding attribute_name
of_name name attribute e = go (cut_at 58 attribute) refl e
  where
    go : (o : Option (List ℕ × List ℕ)) → cut_at 58 attribute ≡ o → name ≡ option_map_or (λ parts. parts.0) o attribute → (attribute ≡ name) ⊎ ((value : List ℕ) × (attribute ≡ name ++ 58 ∷ value))
    go None is e = inl (sym e)
    go (Some (x, y)) is e = inr (y, cut_takes 58 attribute x y is ∙ ap (λ (x : List ℕ). x ++ 58 ∷ y) (sym e))

is_named : (line attribute : List ℕ) → line ≡ codes "a=" ++ attribute → (names : List (List ℕ)) → IsNamed names attribute ≡ true → Any (IsAttribute line) names
is_named line attribute is [] e = absurd cc
is_named line attribute is (name ∷ names) e = elim (or_cases (bytes_eq name (attribute_name attribute)) (IsNamed names attribute) e) [
  | inl here ↦ any_here (IsAttribute line) name names (attributed (of_name name attribute ((bytes_eq-Decides name (attribute_name attribute)).0 here)))
  | inr later ↦ any_there (IsAttribute line) name names (is_named line attribute is names later)
]
  where
    attributed : (attribute ≡ name) ⊎ ((value : List ℕ) × (attribute ≡ name ++ 58 ∷ value)) → IsAttribute line name
    attributed (inl whole) = inl (is ∙ ap (λ a. codes "a=" ++ a) whole)
    attributed (inr part) = inr (part.0, is ∙ ap (λ a. codes "a=" ++ a) part.1)

holds_is : (line : List ℕ) → is_one_sided line ≡ true → HoldsForOneSide line
unfolding is_one_sided
holds_is line e =
    let p = and_parts (starts_with nat_eq line (codes "a=")) (IsNamed of_one_side (drop 2 line)) e in
    is_named line (drop 2 line) (begins (codes "a=") line p.0) of_one_side p.1

-- ---- lines

carried_as : (line : List ℕ) → IsCarriedAs line (carried_line line)
unfolding carried_line
carried_as line = go (starts_with nat_eq line (codes "c=")) refl
  where
    go : (b : Bool) → starts_with nat_eq line (codes "c=") ≡ b → IsCarriedAs line (cond b (codes "c=IN IP4 127.0.0.1") line)
    go true is = inl (drop 2 line, begins (codes "c=") line is, refl)
    go false is = inr ((λ address e. absurd (false≢true (sym is ∙ ap (λ l. starts_with nat_eq l (codes "c=")) e))), refl)

pub lines_carried : (came added : List (List ℕ)) → AreCarried came added (carried_lines came ++ added)
lines_carried [] added = refl
lines_carried (line ∷ came) added = go (is_one_sided line) refl (lines_carried came added)
  where
    go : (b : Bool) → is_one_sided line ≡ b → AreCarried came added (carried_lines came ++ added)
        → AreCarried (line ∷ came) added (map carried_line (cond (not b) (line ∷ filter (λ l. not (is_one_sided l)) came) (filter (λ l. not (is_one_sided l)) came)) ++ added)
    go true is rest = inl (holds_is line is, rest)
    go false is rest = inr ((λ holds. false≢true (sym is ∙ one_sided_is line holds)), (carried_line line, carried_lines came ++ added, refl, carried_as line, rest))

-- ---- media

proto_is : (p : Profile) (proto : List ℕ) → carried_proto (exchanged p) proto ≡ other_word p proto
unfolding carried_proto
proto_is Avp proto = refl
proto_is other proto = refl

towards : (side : Side) (slot number : ℕ) → rtp_port slot number side ≡ port_towards side slot number
towards Secure slot number = refl
towards Plain slot number = refl

port_is : (side : Side) (slot number : ℕ) (m : descriptions.Medium) → IsAtPort side slot number m (cond (is_active side m) (rtp_port slot number (other_side side)) 0)
port_is side slot number m = go (is_active side m) refl
  where
    go : (b : Bool) → is_active side m ≡ b → IsAtPort side slot number m (cond b (rtp_port slot number (other_side side)) 0)
    go false is = inr ((λ takes. false≢true (sym is ∙ takes_active side m takes)), refl)
    go true is = inl (active_takes side m is, towards (other_side side) slot number)

-- what is added to each, where so much is there
abbrev pub AreAdded : Way → List ℕ → ℕ → List descriptions.Medium → List (List (List ℕ)) → Type 0
AreAdded way noise number [] more = Unit {0}
AreAdded way noise number (m ∷ ms) [] = AddsToMedium way noise number m [] × AreAdded way noise (number + 1) ms []
AreAdded way noise number (m ∷ ms) (lines ∷ more) = AddsToMedium way noise number m lines × AreAdded way noise (number + 1) ms more

module _ (way : Way) (slot : ℕ) (noise : List ℕ) (f : Option (List ℕ)) where
  one : (number : ℕ) (m : descriptions.Medium) (lines : List (List ℕ))
      → IsCarriedMedium (side_of way) slot number lines m
      (record (with_address f (carried_medium (cond (is_active (side_of way) m) (rtp_port slot number (other_side (side_of way))) 0) (exchanged m.profile) m)) { lines = carried_lines m.lines ++ lines })
  unfolding carried_medium
  one number m lines = record {
    word = refl;
    port = port_is (side_of way) slot number m;
    proto = proto_is m.profile m.proto;
    formats = refl;
    lines = lines_carried m.lines lines;
  }

  abbrev Media : ℕ → List descriptions.Medium → List descriptions.Medium
  Media number ms =
      map (with_address f) (carried_media (ports_from slot number (other_side (side_of way)) (actives (side_of way) ms)) (map (λ (m : descriptions.Medium). exchanged m.profile) ms) ms)

  none_more : (ms : List descriptions.Medium) → with_media_lines ms [] ≡ ms
  none_more [] = refl
  none_more (m ∷ ms) = refl

  without : (number : ℕ) (m : descriptions.Medium)
      → IsCarriedMedium (side_of way) slot number [] m (with_address f (carried_medium (cond (is_active (side_of way) m) (rtp_port slot number (other_side (side_of way))) 0) (exchanged m.profile) m))
  unfolding carried_medium
  without number m = record {
    word = refl;
    port = port_is (side_of way) slot number m;
    proto = proto_is m.profile m.proto;
    formats = refl;
    lines = subst (AreCarried m.lines []) (append-nil (carried_lines m.lines)) (lines_carried m.lines []);
  }

  pub media_carried : (number : ℕ) (ms : List descriptions.Medium) (more : List (List (List ℕ))) → AreAdded way noise number ms more
      → AreCarriedMedia way slot noise number ms (with_media_lines (Media number ms) more)
  unfolding carried_medium
  media_carried number [] [] are = refl
  media_carried number [] (lines ∷ more) are = refl
  media_carried number (m ∷ ms) [] are =
      (_, Media (number + 1) ms, refl, ([], are.0, without number m), subst (AreCarriedMedia way slot noise (number + 1) ms) (none_more (Media (number + 1) ms)) (media_carried (number + 1) ms [] are.1))
  media_carried number (m ∷ ms) (lines ∷ more) are = (_, with_media_lines (Media (number + 1) ms) more, refl, (lines, are.0, one number m lines), media_carried (number + 1) ms more are.1)

-- ---- the gateway's own lines

spelled : (tag : ℕ) (suite : Suite) (octets : List ℕ)
    → crypto_text (own_line tag suite octets) ≡ decimal tag ++ 32 ∷ (suite_name suite ++ 32 ∷ (codes "inline:" ++ encode_of standard octets))
unfolding crypto_text
spelled tag suite octets =
    ap (λ (e : List ℕ). decimal tag ++ 32 ∷ (suite_name suite ++ 32 ∷ (codes "inline:" ++ e)))
    (append-nil (encode_of standard (take (key_len_of suite) octets ++ drop (key_len_of suite) octets) ++ [])
    ∙ append-nil (encode_of standard (take (key_len_of suite) octets ++ drop (key_len_of suite) octets)) ∙ ap (encode_of standard) (take-append-drop (key_len_of suite) octets))

pub attributes_are : (noise : List ℕ) → map crypto_attribute (lines_of noise) ≡ attributes_of noise
unfolding suite_name digits
attributes_are noise = λ i.
    (codes "a=crypto:" ++ spelled 1 Cm128Tag80 (take 30 noise) i) ∷ ((codes "a=crypto:" ++ spelled 2 Cm256Tag80 (take 46 (drop 30 noise)) i) ∷ [])
