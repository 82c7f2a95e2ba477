-- What is carried is a description, and holds nothing of one side alone.
use Rattle.std.proofs.Common.{◌≡◌, ℕ, zero, suc, Some, lit≤, ◌≤◌, Bool, true, false, cond, List, [], ◌∷◌, length, map, refl, sym, ap, subst, ◌∙◌, arith, inl, inr}
use Rattle.std.specs.Prelude.{codes, filter, nat_eq, not, slice_index}
use Rattle.std.specs.Fmt.{digits}
use Rattle.std.specs.List.{AllByRecursion, flat_map, starts_with}
use Rattle.std.proofs.lemmas.Bool.{eqb-true, eqb-false, ne_eqb, cases_Bool}
use Rattle.sg_base.specs.Fields.{four_at}
use Rattle.sg_base.proofs.FourNumbers.{four_again}
use Rattle.sg_sdp.specs.declared.medium.Medium.{Medium}
use Rattle.sg_sdp.specs.declared.medium.Profile.{Profile}
use Rattle.sg_sdp.specs.declared.medium.Profile.TheVariants.{Other}
use Rattle.sg_sdp.specs.declared.sdp.Sdp.{Sdp}
use Rattle.sg_sdp.specs.Addresses.{first_address}
use Rattle.sg_sdp.specs.Carrying.{carried, carried_line, carried_lines, carried_media, carried_medium, carried_proto, is_one_sided}
use Rattle.sg_sdp.specs.Descriptions.{HasPrefix, IsKept, IsMedium, IsSdp, all_lines, medium_line, medium_lines}
use Rattle.sg_sdp.specs.LineForm.{connection_of, has_form, is_letter, is_word}
use Rattle.sg_sdp.proofs.Cases.{all_append}
use Rattle.sg_sdp.proofs.Described.{addressed_is, lines_addressed}

-- ---- beginnings of lines

pub starts_not : (c d : ℕ) (l : List ℕ) → is_letter c l ≡ false → starts_with nat_eq l (c ∷ d ∷ []) ≡ false
starts_not c d [] other = refl
starts_not c d (x ∷ l) other = rw (ne_eqb c x (λ e. eqb-false x c other (sym e))) refl

pub letter_differs : (c k : ℕ) (l : List ℕ) → is_letter c l ≡ true → (c ≡ k → ⊥) → is_letter k l ≡ false
letter_differs c k l is other = ne_eqb (slice_index l 0) k (λ e. other (sym (eqb-true (slice_index l 0) c is) ∙ e))

-- a line of another letter than a is on both sides
two_sided_unless : (l : List ℕ) → is_letter 97 l ≡ false → is_one_sided l ≡ false
unfolding is_one_sided
two_sided_unless l other = rw (starts_not 97 61 l other) refl

same_unless : (l : List ℕ) → is_letter 99 l ≡ false → carried_line l ≡ l
unfolding carried_line
same_unless l other = rw (starts_not 99 61 l other) refl

-- ---- lines

local_small : (i : ℕ) → slice_index (127 ∷ 0 ∷ 0 ∷ 1 ∷ []) i ≤ 255
local_small zero = lit≤ tt
local_small (suc zero) = lit≤ tt
local_small (suc (suc zero)) = lit≤ tt
local_small (suc (suc (suc zero))) = lit≤ tt
local_small (suc (suc (suc (suc i)))) = lit≤ tt

local_read : four_at (codes "127.0.0.1") ≡ Some (127 ∷ 0 ∷ 0 ∷ 1 ∷ [])
unfolding digits
local_read = four_again (127 ∷ 0 ∷ 0 ∷ 1 ∷ []) (record { four = refl; octets = local_small })

own_kept : IsKept (codes "c=IN IP4 127.0.0.1")
unfolding has_form connection_of
own_kept = record { form = refl; no_medium = refl; address = λ h. rw local_read refl }

one_of : (P : List ℕ → Type 0) (b : Bool) (l own : List ℕ) → P l → P own → P (cond b own l)
one_of P true l own k o = o
one_of P false l own k o = k

line_kept : (l : List ℕ) → IsKept l → IsKept (carried_line l)
unfolding carried_line
line_kept l kept = one_of IsKept (starts_with nat_eq l (codes "c=")) l (codes "c=IN IP4 127.0.0.1") kept own_kept

filtered : {A : Type 0} (P : A → Type 0) (f : A → A) (b : Bool) (x : A) (rest : List A) → P (f x) → AllByRecursion P (map f rest) → AllByRecursion P (map f (cond b (x ∷ rest) rest))
filtered P f true x rest p ps = (p, ps)
filtered P f false x rest p ps = ps

lines_kept : (ls : List (List ℕ)) → AllByRecursion IsKept ls → AllByRecursion IsKept (carried_lines ls)
lines_kept [] kept = tt
lines_kept (l ∷ ls) kept = filtered IsKept carried_line (not (is_one_sided l)) l (filter (λ line. not (is_one_sided line)) ls) (line_kept l kept.0) (lines_kept ls kept.1)

prefix_kept : (session : List (List ℕ)) → HasPrefix session → HasPrefix (carried_lines session)
prefix_kept (v ∷ o ∷ s ∷ rest) prefix =
    let version : is_letter 118 v ≡ true = rw prefix.0 refl in
    rw (
      two_sided_unless v (letter_differs 118 97 v version (λ e. omega (arith, e))),
      two_sided_unless o (letter_differs 111 97 o prefix.1 (λ e. omega (arith, e))),
      two_sided_unless s (letter_differs 115 97 s prefix.2 (λ e. omega (arith, e))),
      same_unless v (letter_differs 118 99 v version (λ e. omega (arith, e))),
      same_unless o (letter_differs 111 99 o prefix.1 (λ e. omega (arith, e))),
      same_unless s (letter_differs 115 99 s prefix.2 (λ e. omega (arith, e))),
    ) prefix
prefix_kept fewer prefix = absurd prefix

-- ---- media

proto_word : (p : Profile) (proto : List ℕ) → is_word proto ≡ true → is_word (carried_proto p proto) ≡ true
unfolding carried_proto is_word
proto_word Other proto is = is
proto_word another proto is = refl

medium_is : (port : ℕ) (p : Profile) (m : Medium) → port ≤ 65535 → IsMedium m → IsMedium (carried_medium port p m)
unfolding carried_medium
medium_is port p m small is =
    record { word = is.word; port = small; proto = proto_word p m.proto is.proto; profile = refl; formats = is.formats; inner = is.inner; lines = lines_kept m.lines is.lines }

media_are : (ports : List ℕ) (ps : List Profile) (ms : List Medium) → AllByRecursion (λ port. port ≤ 65535) ports → AllByRecursion IsMedium ms → AllByRecursion IsMedium (carried_media ports ps ms)
media_are (port ∷ ports) (p ∷ ps) (m ∷ ms) small is = (medium_is port p m small.0 is.0, media_are ports ps ms small.1 is.1)
media_are ports ps ms small is = tt

no_more : (ports : List ℕ) (ps : List Profile) (ms : List Medium) → length (carried_media ports ps ms) ≤ length ms
no_more (port ∷ ports) (p ∷ ps) (m ∷ ms) = let h = no_more ports ps ms in omega arith
no_more ports ps ms = omega arith

pub carried_is : (ports : List ℕ) (ps : List Profile) (s : Sdp) → IsSdp s → AllByRecursion (λ port. port ≤ 65535) ports → IsSdp (carried ports ps s)
carried_is ports ps s is small =
    addressed_is (record { session = carried_lines s.session; media = carried_media ports ps s.media })
    (record { session = lines_kept s.session is.session; media = media_are ports ps s.media small is.media; few = omega (arith, no_more ports ps s.media, is.few) })
    (prefix_kept s.session is.prefix)

pub media_count : (ports : List ℕ) (ps : List Profile) (ms : List Medium) → length ports ≡ length ms → length ps ≡ length ms → length (carried_media ports ps ms) ≡ length ms
media_count [] ps [] a b = refl
media_count (port ∷ ports) (p ∷ ps) (m ∷ ms) a b = ap suc (media_count ports ps ms (omega arith) (omega arith))
media_count ports ps ms a b = absurd (omega arith)

-- ---- nothing of one side alone

abbrev TwoSided : List ℕ → Type 0
TwoSided line = is_one_sided line ≡ false

own_two_sided : TwoSided (codes "c=IN IP4 127.0.0.1")
own_two_sided = two_sided_unless (codes "c=IN IP4 127.0.0.1") refl

line_two_sided : (l : List ℕ) → TwoSided l → TwoSided (carried_line l)
unfolding carried_line
line_two_sided l two = one_of TwoSided (starts_with nat_eq l (codes "c=")) l (codes "c=IN IP4 127.0.0.1") two own_two_sided

lines_two_sided : (ls : List (List ℕ)) → AllByRecursion TwoSided (carried_lines ls)
lines_two_sided [] = tt
lines_two_sided (l ∷ ls) =
    elim (cases_Bool (is_one_sided l)) [
      | inl one ↦ rw one (lines_two_sided ls)
      | inr two ↦ rw two (line_two_sided l two, lines_two_sided ls)
    ]

media_two_sided : (ports : List ℕ) (ps : List Profile) (ms : List Medium) → AllByRecursion TwoSided (flat_map medium_lines (carried_media ports ps ms))
unfolding carried_medium
media_two_sided (port ∷ ports) (p ∷ ps) (m ∷ ms) = (
  two_sided_unless (medium_line (carried_medium port p m)) refl,
  all_append TwoSided (carried_lines m.lines) (flat_map medium_lines (carried_media ports ps ms)) (lines_two_sided m.lines) (media_two_sided ports ps ms),
)
media_two_sided ports ps ms = tt

pub carried_two_sided : (ports : List ℕ) (ps : List Profile) (s : Sdp) → AllByRecursion TwoSided (all_lines (carried ports ps s))
carried_two_sided ports ps s =
    all_append TwoSided (carried_lines s.session) _ (lines_two_sided s.session)
    (subst (AllByRecursion TwoSided) (sym (lines_addressed (first_address (carried_lines s.session)) (carried_media ports ps s.media))) (media_two_sided ports ps s.media))
