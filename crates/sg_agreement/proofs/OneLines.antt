-- No line of a carried text has the end of a line within.
use Rattle.std.proofs.Common.{◌≡◌, ℕ, zero, suc, ◌+◌, ◌/◌, ◌%◌, ◌≤◌, Bool, true, false, cond, eqb, ltb, not, List, [], ◌∷◌, ◌++◌, length, map, Ok, refl, sym, ap, subst, arith, codes, eqb-true}
use Rattle.std.proofs.lemmas.Bool.{and_parts, leb-true, ne_eqb, not-true}
use Rattle.std.specs.Fmt.{decimal, digits, digit_glyph, digits_onto}
use Rattle.std.specs.List.{AllByRecursion, filter, flat_map, list_all, starts_with}
use Rattle.std.specs.Prelude.{◌&&◌, nat_eq, nat_le, Option}
use Rattle.sg_base.proofs.Cuts.{lacks_append}
use Rattle.sg_sdp.specs.Addresses.{first_address, with_address}
use Rattle.sg_sdp.specs.Carrying.{carried, carried_line, carried_lines, carried_media, carried_medium, carried_proto, is_one_sided}
use Rattle.sg_sdp.specs.Descriptions.{IsKept, IsMedium, IsSdp, all_lines, medium_line, medium_lines}
use Rattle.sg_sdp.specs.LineForm.{has_form, is_inner, is_printing, is_word}
use Rattle.sg_sdp.specs.Reading.{description_of}
use Rattle.sg_sdp.specs.declared.medium.Medium as descriptions
use Rattle.sg_sdp.specs.declared.medium.Profile.{Profile}
use Rattle.sg_sdp.specs.declared.medium.Profile.TheVariants.{Avp, Savp, Avpf, Savpf, Other}
use Rattle.sg_sdp.specs.declared.sdp.Sdp.{Sdp}
use Rattle.sg_session.proofs.Lists.{each_append}
use Rattle.sg_agreement.proofs.Texts.{Takes, whole}
use Rattle.sg_agreement.specs.CarriedTexts.{IsOneLine}

-- ---- one line

pub one_append : (x y : List ℕ) → IsOneLine x → IsOneLine y → IsOneLine (x ++ y)
one_append x y p q = (lacks_append 10 x y p.0 q.0, lacks_append 13 x y p.1 q.1)

pub one_more : (c : ℕ) (x : List ℕ) → (c ≡ 10 → ⊥) → (c ≡ 13 → ⊥) → IsOneLine x → IsOneLine (c ∷ x)
one_more c x lf cr p = ((ne_eqb c 10 lf, p.0), (ne_eqb c 13 cr, p.1))

pub one_of : (b : Bool) (x y : List ℕ) → IsOneLine x → IsOneLine y → IsOneLine (cond b x y)
one_of true x y p q = p
one_of false x y p q = q

one_space : (x : List ℕ) → IsOneLine x → IsOneLine (32 ∷ x)
one_space x p = one_more 32 x (λ e. omega (arith, e)) (λ e. omega (arith, e)) p

inner_one : (t : List ℕ) → list_all is_inner t ≡ true → IsOneLine t
inner_one [] e = (tt, tt)
inner_one (c ∷ t) e =
    let p = and_parts (is_inner c) (list_all is_inner t) e in
    let q = and_parts (not (eqb c 0) && not (eqb c 10)) (not (eqb c 13)) p.0 in
    let r = and_parts (not (eqb c 0)) (not (eqb c 10)) q.0 in
    let more = inner_one t p.1 in
    ((not-true (eqb c 10) r.1, more.0), (not-true (eqb c 13) q.1, more.1))

form_one : (l : List ℕ) → has_form l ≡ true → IsOneLine l
unfolding has_form
form_one [] form = absurd cc
form_one (a ∷ []) form = absurd cc
form_one (a ∷ b ∷ rest) form =
    let p = and_parts (nat_le 97 a && nat_le a 122 && (eqb b 61)) (list_all is_inner rest) form in
    let q = and_parts (nat_le 97 a && nat_le a 122) (eqb b 61) p.0 in
    let low : 97 ≤ a = leb-true 97 a (and_parts (nat_le 97 a) (nat_le a 122) q.0).0 in
    let equals : b ≡ 61 = eqb-true b 61 q.1 in
    one_more a (b ∷ rest) (λ e. omega (arith, e, low)) (λ e. omega (arith, e, low))
    (one_more b rest (λ e. omega (arith, e, equals)) (λ e. omega (arith, e, equals)) (inner_one rest p.1))

printing_one : (t : List ℕ) → list_all is_printing t ≡ true → IsOneLine t
printing_one [] e = (tt, tt)
printing_one (c ∷ t) e =
    let p = and_parts (is_printing c) (list_all is_printing t) e in
    let low : 33 ≤ c = leb-true 33 c (and_parts (nat_le 33 c) (nat_le c 126) p.0).0 in
    one_more c t (λ e. omega (arith, e, low)) (λ e. omega (arith, e, low)) (printing_one t p.1)

word_one : (t : List ℕ) → is_word t ≡ true → IsOneLine t
unfolding is_word
word_one t e = printing_one t (and_parts (not (eqb (length t) 0)) (list_all is_printing t) e).1

-- ---- a number

digit_one : (d : ℕ) (x : List ℕ) → IsOneLine x → IsOneLine (digit_glyph false d ∷ x)
digit_one d x p = go (ltb d 10)
  where
    go : (b : Bool) → IsOneLine (cond b (48 + d) (87 + d) ∷ x)
    go true = one_more (48 + d) x (λ e. omega (arith, e)) (λ e. omega (arith, e)) p
    go false = one_more (87 + d) x (λ e. omega (arith, e)) (λ e. omega (arith, e)) p

digits_one : (k n : ℕ) (x : List ℕ) → IsOneLine x → IsOneLine (digits_onto k 10 false n x)
digits_one zero n x p = p
digits_one (suc k) n x p =
    let this = digit_one (n % 10) x p in
    one_of (eqb (n / 10) 0) (digit_glyph false (n % 10) ∷ x) _ this (digits_one k (n / 10) (digit_glyph false (n % 10) ∷ x) this)

pub decimal_one : (n : ℕ) → IsOneLine (decimal n)
unfolding digits
decimal_one n = digits_one 64 n [] (tt, tt)

-- ---- what is carried

-- the gateway's own `c=` line
own_one : IsOneLine (codes "c=IN IP4 127.0.0.1")
unfolding has_form
own_one = form_one (codes "c=IN IP4 127.0.0.1") refl

lines_one : (ls : List (List ℕ)) → AllByRecursion IsKept ls → AllByRecursion IsOneLine (carried_lines ls)
unfolding carried_line
lines_one [] kept = tt
lines_one (l ∷ ls) kept = go (not (is_one_sided l)) (lines_one ls kept.1)
  where
    go : (b : Bool) → AllByRecursion IsOneLine (carried_lines ls) → AllByRecursion IsOneLine (map carried_line (cond b (l ∷ filter (λ line. not (is_one_sided line)) ls) (filter (λ line. not (is_one_sided line)) ls)))
    go true rest = (one_of (starts_with nat_eq l (codes "c=")) _ l own_one (form_one l kept.0.form), rest)
    go false rest = rest

proto_one : (p : Profile) (proto : List ℕ) → is_word proto ≡ true → IsOneLine (carried_proto p proto)
unfolding carried_proto is_word
proto_one Avp proto is = word_one (codes "RTP/AVP") refl
proto_one Savp proto is = word_one (codes "RTP/SAVP") refl
proto_one Avpf proto is = word_one (codes "RTP/AVPF") refl
proto_one Savpf proto is = word_one (codes "RTP/SAVPF") refl
proto_one Other proto is = word_one proto is

medium_line_one : (port : ℕ) (p : Profile) (m : descriptions.Medium) → IsMedium m → IsOneLine (medium_line (carried_medium port p m))
unfolding carried_medium
medium_line_one port p m is =
    one_append (codes "m=") _ ((refl, (refl, tt)), (refl, (refl, tt)))
    (one_append m.word _ (word_one m.word is.word)
    (one_space _ (one_append (decimal port) _ (decimal_one port)
    (one_space _ (one_append (carried_proto p m.proto) _ (proto_one p m.proto is.proto)
    (one_space m.formats (inner_one m.formats is.inner)))))))

media_one : (ports : List ℕ) (ps : List Profile) (ms : List descriptions.Medium) → AllByRecursion IsMedium ms → AllByRecursion IsOneLine (flat_map medium_lines (carried_media ports ps ms))
unfolding carried_medium
media_one [] ps ms is = tt
media_one (port ∷ ports) [] ms is = tt
media_one (port ∷ ports) (p ∷ ps) [] is = tt
media_one (port ∷ ports) (p ∷ ps) (m ∷ ms) is =
    (medium_line_one port p m is.0, each_append IsOneLine (carried_lines m.lines) (flat_map medium_lines (carried_media ports ps ms)) (lines_one m.lines is.0.lines) (media_one ports ps ms is.1))

-- addresses are in no line
same_lines : (a : Option (List ℕ)) (ms : List descriptions.Medium) → flat_map medium_lines (map (with_address a) ms) ≡ flat_map medium_lines ms
same_lines a [] = refl
same_lines a (m ∷ ms) = ap (λ (t : List (List ℕ)). medium_lines m ++ t) (same_lines a ms)

-- each line of a description that was read is carried as one line
pub carried_one : Takes → (ports : List ℕ) (profiles : List Profile) (text : List ℕ) (s : Sdp) → description_of text ≡ Ok s → AllByRecursion IsOneLine (all_lines (carried ports profiles s))
carried_one takes ports profiles text s e =
    let is : IsSdp s = (takes 2048 text s (whole text s e).1).0 in
    each_append IsOneLine (carried_lines s.session) _ (lines_one s.session is.session)
    (subst (AllByRecursion IsOneLine) (sym (same_lines (first_address (carried_lines s.session)) (carried_media ports profiles s.media))) (media_one ports profiles s.media is.media))
