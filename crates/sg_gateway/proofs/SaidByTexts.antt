-- What is read of a text is said by its lines.
use Rattle.std.proofs.Common.{◌≡◌, inl, inr, ℕ, ◌≤◌, Bool, true, false, cond, not, ◌&&◌, eqb, List, [], ◌∷◌, ◌++◌, length, drop, codes, Option, Some, None, refl, sym, ap, ◌∙◌, subst, arith, eqb-true}
use Rattle.std.proofs.lemmas.Bool.{and_parts, cond-true, false≢true, leb-true, ne_eqb}
use Rattle.std.proofs.lemmas.List.{take-append-drop}
use Rattle.std.proofs.lemmas.Slice.Eq.{bytes_eq-Decides}
use Rattle.std.specs.List.{AllByRecursion, flat_map, list_all, starts_with}
use Rattle.std.specs.Option.{is_some, option_or}
use Rattle.std.specs.Prelude.{decimal, nat_eq, nat_le, slice_index}
use Rattle.std.specs.Str.{bytes_eq}
use Rattle.sg_agreement.proofs.OneLines.{decimal_one, one_append, one_more}
use Rattle.sg_agreement.proofs.Texts.{Takes, whole}
use Rattle.sg_agreement.specs.CarriedTexts.{IsOneLine}
use Rattle.sg_base.proofs.Cases.{chosen}
use Rattle.sg_base.proofs.FourNumbers.{four_takes}
use Rattle.sg_base.specs.Fields.{Lacks, four_at, four_text}
use Rattle.sg_sdp.specs.Addresses.{address_in, first_address}
use Rattle.sg_sdp.specs.Descriptions.{IsAddressed, IsKept, IsMedium, medium_line, medium_lines}
use Rattle.sg_sdp.specs.LineForm.{connection_of, has_form, is_inner, is_letter, is_printing, is_word, profile_of}
use Rattle.sg_sdp.specs.declared.medium.Medium as descriptions
use Rattle.sg_sdp.specs.declared.medium.Profile.TheVariants.{Avp, Savp, Avpf, Savpf, Other}
use Rattle.sg_gateway.proofs.Common.{each_append, each_weaker, none_some}
use Rattle.sg_gateway.specs.SaidByTexts.{HasHost, HasNone, HasType, IsHostOf, IsProfileOf, IsSaidMedium, ReadingsAreSaid, SaysHost}

-- ---- lines

all_lack : (test : ℕ → Bool) (octet : ℕ) → test octet ≡ false → (t : List ℕ) → list_all test t ≡ true → Lacks octet t
all_lack test octet fails [] e = tt
all_lack test octet fails (x ∷ t) e =
    let p = and_parts (test x) (list_all test t) e in
    (ne_eqb x octet (λ same. absurd (false≢true (sym fails ∙ ap test (sym same) ∙ p.0))), all_lack test octet fails t p.1)

form_one : (l : List ℕ) → has_form l ≡ true → IsOneLine l
unfolding has_form
form_one [] form = absurd cc
form_one (a ∷ []) form = absurd cc
form_one (a ∷ b ∷ rest) form =
    let p = and_parts (nat_le 97 a && nat_le a 122 && (eqb b 61)) (list_all is_inner rest) form in
    let q = and_parts (nat_le 97 a && nat_le a 122) (eqb b 61) p.0 in
    let low : 97 ≤ a = leb-true 97 a (and_parts (nat_le 97 a) (nat_le a 122) q.0).0 in
    let equals : b ≡ 61 = eqb-true b 61 q.1 in
    one_more a (b ∷ rest) (λ e. omega (arith, e, low)) (λ e. omega (arith, e, low))
    (one_more b rest (λ e. omega (arith, e, equals)) (λ e. omega (arith, e, equals)) (all_lack is_inner 10 refl rest p.1, all_lack is_inner 13 refl rest p.1))

word_lacks : (octet : ℕ) → is_printing octet ≡ false → (t : List ℕ) → is_word t ≡ true → Lacks octet t
unfolding is_word
word_lacks octet fails t e = all_lack is_printing octet fails t (and_parts (not (eqb (length t) 0)) (list_all is_printing t) e).1

word_one : (t : List ℕ) → is_word t ≡ true → IsOneLine t
word_one t e = (word_lacks 10 refl t e, word_lacks 13 refl t e)

one_space : (x : List ℕ) → IsOneLine x → IsOneLine (32 ∷ x)
one_space x p = one_more 32 x (λ e. omega (arith, e)) (λ e. omega (arith, e)) p

head_one : (m : descriptions.Medium) → IsMedium m → IsOneLine (medium_line m)
head_one m is =
    one_append (codes "m=") _ ((refl, (refl, tt)), (refl, (refl, tt)))
    (one_append m.word _ (word_one m.word is.word)
    (one_space _ (one_append (decimal m.port) _ (decimal_one m.port)
    (one_space _ (one_append m.proto _ (word_one m.proto is.proto)
    (one_space m.formats (all_lack is_inner 10 refl m.formats is.inner, all_lack is_inner 13 refl m.formats is.inner)))))))

kept_one : (ls : List (List ℕ)) → AllByRecursion IsKept ls → AllByRecursion IsOneLine ls
kept_one ls kept = each_weaker IsKept IsOneLine (λ l k. form_one l k.form) ls kept

media_one : (ms : List descriptions.Medium) → AllByRecursion IsMedium ms → AllByRecursion IsOneLine (flat_map medium_lines ms)
media_one [] is = tt
media_one (m ∷ ms) is = (head_one m is.0, each_append IsOneLine m.lines (flat_map medium_lines ms) (kept_one m.lines is.0.lines) (media_one ms is.1))

no_head : (l : List ℕ) → IsKept l → ¬ HasType (codes "m") l
no_head l kept head = absurd (false≢true (sym kept.no_medium ∙ ap (is_letter 109) head.1))

no_heads : (ls : List (List ℕ)) → AllByRecursion IsKept ls → HasNone (codes "m") ls
no_heads ls kept = each_weaker IsKept (λ l. ¬ HasType (codes "m") l) no_head ls kept

-- ---- hosts

begins : (needle line : List ℕ) → starts_with nat_eq line needle ≡ true → line ≡ needle ++ drop (length needle) line
begins needle line e = sym (take-append-drop (length needle) line) ∙ ap (λ (l : List ℕ). l ++ drop (length needle) line) (sym ((bytes_eq-Decides needle _).0 e))

of_four : (ip line : List ℕ) → length ip ≡ 4 → ((i : ℕ) → slice_index ip i ≤ 255) → line ≡ codes "c=IN IP4 " ++ four_text ip → SaysHost ip line
of_four (a ∷ b ∷ c ∷ d ∷ []) line four octets is = (a, b, c, d, refl, (octets 0, (octets 1, (octets 2, (octets 3, tt)))), is)
of_four ip line four octets is = absurd (omega arith)

host_said : (line ip : List ℕ) → address_in line ≡ Some ip → SaysHost ip line
unfolding address_in connection_of
host_said line ip e =
    elim (chosen (starts_with nat_eq line (codes "c=")) (connection_of (drop 2 line)) None (Some ip) e) [
      | inr p ↦ absurd (none_some ip p.1)
      | inl p ↦ elim (chosen (starts_with nat_eq (drop 2 line) (codes "IN IP4 ")) (four_at (drop 7 (drop 2 line))) None (Some ip) p.1) [
        | inr q ↦ absurd (none_some ip q.1)
        | inl q ↦
            let four = four_takes (drop 7 (drop 2 line)) ip q.1 in
            let behind : drop 2 line ≡ codes "IN IP4 " ++ four_text ip = begins (codes "IN IP4 ") (drop 2 line) q.0 ∙ ap (λ (t : List ℕ). codes "IN IP4 " ++ t) four.0 in
            of_four ip line four.1.four four.1.octets (begins (codes "c=") line p.0 ∙ ap (λ (t : List ℕ). codes "c=" ++ t) behind)
      ]
    ]

none_said : (line : List ℕ) → IsKept line → address_in line ≡ None → ¬ HasType (codes "c") line
unfolding address_in
none_said line kept none is =
    let starts : starts_with nat_eq line (codes "c=") ≡ true = ap (λ l. starts_with nat_eq l (codes "c=")) is.1 in
    let nothing : connection_of (drop 2 line) ≡ None = sym (cond-true (starts_with nat_eq line (codes "c=")) (connection_of (drop 2 line)) None starts) ∙ none in
    false≢true (sym (ap is_some nothing) ∙ kept.address (ap (is_letter 99) is.1))

-- the first one, or that there is none
abbrev IsFirst : Option (List ℕ) → List (List ℕ) → Type 0
IsFirst (Some ip) lines = HasHost ip lines
IsFirst None lines = HasNone (codes "c") lines

later : (o : Option (List ℕ)) (l : List ℕ) (ls : List (List ℕ)) → ¬ HasType (codes "c") l → IsFirst o ls → IsFirst o (l ∷ ls)
later (Some ip) l ls other rest = inr (other, rest)
later None l ls other rest = (other, rest)

first_said : (ls : List (List ℕ)) → AllByRecursion IsKept ls → IsFirst (first_address ls) ls
unfolding first_address
first_said [] kept = tt
first_said (l ∷ ls) kept = go (first_said ls kept.1) (address_in l) refl
  where
    go : IsFirst (first_address ls) ls → (o : Option (List ℕ)) → address_in l ≡ o → IsFirst (option_or o (first_address ls)) (l ∷ ls)
    go rest (Some ip) is = inl (host_said l ip is)
    go rest None is = later (first_address ls) l ls (none_said l kept.0 is) rest

either : (own other : Option (List ℕ)) (session lines : List (List ℕ)) → IsFirst own lines → IsFirst other session → IsHostOf (option_or own other) session lines
either (Some ip) other session lines own rest = inl own
either None (Some ip) session lines own rest = inr (own, rest)
either None None session lines own rest = (own, rest)

-- ---- profiles

profile_said : (word : List ℕ) → IsProfileOf (profile_of word) word
unfolding profile_of
profile_said word = go (bytes_eq word (codes "RTP/AVP")) (bytes_eq word (codes "RTP/SAVP")) (bytes_eq word (codes "RTP/AVPF")) (bytes_eq word (codes "RTP/SAVPF")) refl refl refl refl
  where
    differs : (name : List ℕ) → bytes_eq word name ≡ false → ¬ word ≡ name
    differs name fails same = false≢true (sym fails ∙ (bytes_eq-Decides word name).1 same)

    go : (a b c d : Bool) → bytes_eq word (codes "RTP/AVP") ≡ a → bytes_eq word (codes "RTP/SAVP") ≡ b → bytes_eq word (codes "RTP/AVPF") ≡ c → bytes_eq word (codes "RTP/SAVPF") ≡ d
        → IsProfileOf (cond a Avp (cond b Savp (cond c Avpf (cond d Savpf Other)))) word
    go true b c d is f g h = (bytes_eq-Decides word _).0 is
    go false true c d e is g h = (bytes_eq-Decides word _).0 is
    go false false true d e f is h = (bytes_eq-Decides word _).0 is
    go false false false true e f g is = (bytes_eq-Decides word _).0 is
    go false false false false e f g h = (differs _ e, differs _ f, differs _ g, differs _ h)

-- ---- texts

media_said : (session : List (List ℕ)) → AllByRecursion IsKept session → (ms : List descriptions.Medium) → AllByRecursion IsMedium ms → AllByRecursion (IsAddressed session) ms
    → AllByRecursion (IsSaidMedium session) ms
media_said session kept [] are addressed = tt
media_said session kept (m ∷ ms) are addressed =
    let is = are.0 in (
      record {
        word = word_lacks 32 refl m.word is.word;
        proto = word_lacks 32 refl m.proto is.proto;
        profile = subst (λ p. IsProfileOf p m.proto) (sym is.profile) (profile_said m.proto);
        host = subst (λ a. IsHostOf a session m.lines) (sym addressed.0)
            (either (first_address m.lines) (first_address session) session m.lines (first_said m.lines is.lines) (first_said session kept));
        inner = no_heads m.lines is.lines;
      },
      media_said session kept ms are.1 addressed.1,
    )

pub readings_said : Takes → ReadingsAreSaid
readings_said takes text s read =
    let t = takes 2048 text s (whole text s read).1 in
    let is = t.0 in
    record {
      lines = t.1;
      whole = each_append IsOneLine s.session _ (kept_one s.session is.session) (media_one s.media is.media);
      session = no_heads s.session is.session;
      media = media_said s.session is.session s.media is.media is.addresses;
    }
