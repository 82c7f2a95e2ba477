-- Descriptions with their addresses, and their texts.
use Rattle.std.proofs.Common.{◌≡◌, ℕ, ◌+◌, ◌≤◌, List, [], ◌∷◌, ◌++◌, length, map, Option, Result, Ok, Err, eqb, ltb, refl, sym, ap, subst, ◌∙◌, arith, inl, inr, append_assoc}
use Rattle.std.specs.Prelude.{IfOk}
use Rattle.std.specs.List.{AllByRecursion, flat_map, slice_split}
use Rattle.std.proofs.lemmas.Bool.{le-ltb, ltb-false}
use Rattle.std.proofs.lemmas.List.{length-append, length-map}
use Rattle.sg_base.specs.declared.SdpFault.TheVariants.{TooLong}
use Rattle.sg_base.proofs.Cases.{chosen}
use Rattle.sg_sdp.specs.declared.faults.ReadSdpFault.{ReadSdpFault}
use Rattle.sg_sdp.specs.declared.medium.Medium.{Medium}
use Rattle.sg_sdp.specs.declared.sdp.Sdp.{Sdp}
use Rattle.sg_sdp.specs.Addresses.{addressed, first_address, with_address}
use Rattle.sg_sdp.specs.Descriptions.{HasPrefix, IsAddressed, IsMedium, IsSdp, IsShort, IsWithinLimits, Spells, all_lines, medium_lines, spelling}
use Rattle.sg_sdp.specs.Faults.{Fault}
use Rattle.sg_sdp.specs.Reading.{Gives, description_of, description_within, lines_of}
use Rattle.sg_sdp.proofs.Cases.{bind_ok, err_ok, ok_is}
use Rattle.sg_sdp.proofs.Prefixes.{prefix_takes}
use Rattle.sg_sdp.proofs.Prints.{spells_again}
use Rattle.sg_sdp.proofs.TextAgain.{bare, bare_medium, lines_again}
use Rattle.sg_sdp.proofs.TextTakes.{Good, lines_take}

-- addresses are in no line
pub lines_addressed : (a : Option (List ℕ)) (ms : List Medium) → flat_map medium_lines (map (with_address a) ms) ≡ flat_map medium_lines ms
lines_addressed a [] = refl
lines_addressed a (m ∷ ms) = ap (λ (t : List (List ℕ)). medium_lines m ++ t) (lines_addressed a ms)

all_addressed : (s : Sdp) → all_lines (addressed s) ≡ all_lines s
all_addressed s = ap (λ (x : List (List ℕ)). s.session ++ x) (lines_addressed (first_address s.session) s.media)

media_addressed : (a : Option (List ℕ)) (ms : List Medium) → AllByRecursion IsMedium ms → AllByRecursion IsMedium (map (with_address a) ms)
media_addressed a [] is = tt
media_addressed a (m ∷ ms) is =
    let g = is.0 in
    (record { word = g.word; port = g.port; proto = g.proto; profile = g.profile; formats = g.formats; inner = g.inner; lines = g.lines }, media_addressed a ms is.1)

each_addressed : (session : List (List ℕ)) (ms : List Medium) → AllByRecursion (IsAddressed session) (map (with_address (first_address session)) ms)
each_addressed session [] = tt
each_addressed session (m ∷ ms) = (refl, each_addressed session ms)

-- with its addresses it is a description
pub addressed_is : (s : Sdp) → Good s → HasPrefix s.session → IsSdp (addressed s)
addressed_is s good prefix =
    record {
      prefix = prefix;
      session = good.session;
      media = media_addressed (first_address s.session) s.media good.media;
      few = omega (arith, length-map s.media (with_address (first_address s.session)), good.few);
      addresses = each_addressed s.session s.media;
    }

addressed_again : (session : List (List ℕ)) (ms : List Medium) → AllByRecursion (IsAddressed session) ms → map (with_address (first_address session)) (map bare_medium ms) ≡ ms
addressed_again session [] is = refl
addressed_again session (m ∷ ms) is =
    let head : with_address (first_address session) (bare_medium m) ≡ m = ap (λ (x : Option (List ℕ)). record m { address = x }) (sym is.0) in
    rw (head, addressed_again session ms is.1) refl

-- what was read of a text, as a description
pub record IsRead (most : ℕ) (text : List ℕ) (s : Sdp) : Type 0 where
  pub is : IsSdp s
  pub spelled : Spells (all_lines s) text
  pub short : AllByRecursion (IsShort most) (all_lines s)

pub within_takes : (most : ℕ) (text : List ℕ) (s : Sdp) → description_within most text ≡ Ok s → IsRead most text s
unfolding description_within
within_takes most text s e =
    let b = bind_ok (lines_of most (slice_split (λ b. eqb b 10) text)) (λ t. Ok (addressed t)) s e in
    let t = lines_take most text b.0 b.1 in
    let same : addressed b.0 ≡ s = ok_is {E = Fault} (addressed b.0) s b.2 in
    let lines : all_lines b.0 ≡ all_lines (addressed b.0) = sym (all_addressed b.0) in
    subst (IsRead most text) same (record {
      is = addressed_is b.0 t.good (prefix_takes b.0.session b.0.media t.order t.three);
      spelled = subst (λ (ls : List (List ℕ)). Spells ls text) lines t.spelled;
      short = subst (AllByRecursion (IsShort most)) lines t.short;
    })

pub within_again : (most : ℕ) (text : List ℕ) (s : Sdp) → IsSdp s → Spells (all_lines s) text → AllByRecursion (IsShort most) (all_lines s) → description_within most text ≡ Ok s
unfolding description_within
within_again most text s is spelled short =
    let same : addressed (bare s) ≡ s = ap (λ (ms : List Medium). record { session = s.session; media = ms }) (addressed_again s.session s.media is.addresses) in
    rw (lines_again most text s is short spelled) (ap (λ (x : Sdp). Ok x) same)

-- ---- within the limits

pub described_takes : (text : List ℕ) (s : Sdp) → description_of text ≡ Ok s → IsSdp s × IsWithinLimits s text × Spells (all_lines s) text
unfolding description_of
described_takes text s e =
    elim (chosen (ltb 16384 (length text)) (Err (0, TooLong)) (description_within 2048 text) (Ok s) e) [
      | inl p ↦ absurd (err_ok (0, TooLong) s p.1)
      | inr p ↦ let r = within_takes 2048 text s p.1 in (r.is, record { short = r.short; whole = ltb-false _ _ p.0 }, r.spelled)
    ]

pub described_again : (text : List ℕ) (s : Sdp) → IsSdp s → IsWithinLimits s text → Spells (all_lines s) text → description_of text ≡ Ok s
unfolding description_of
described_again text s is fits spelled = rw (le-ltb 16384 (length text) fits.whole) (within_again 2048 text s is spelled fits.short)

pub is_found : (text : List ℕ) (r : Result Sdp ReadSdpFault) → Gives r (description_of text) → IfOk r (λ s. IsSdp s × IsWithinLimits s text × Spells (all_lines s) text)
is_found text (Ok s) given = described_takes text s given
is_found text (Err e) given = tt

-- ---- one value

behind : (l end rest text : List ℕ) → text ≡ l ++ end ++ rest → (length l ≤ length text) × (length rest ≤ length text)
behind l end rest text e =
    let whole : length text ≡ length l + length end + length rest = ap length e ∙ length-append (l ++ end) rest ∙ ap (λ (n : ℕ). n + length rest) (length-append l end) in
    (omega arith, omega arith)

-- no line is longer than its text
spelled_short : (n : ℕ) (ls : List (List ℕ)) (text : List ℕ) → Spells ls text → length text ≤ n → AllByRecursion (IsShort n) ls
spelled_short n [] text spelled fits = tt
spelled_short n (l ∷ ls) text spelled fits =
    elim spelled.1 [
      | inl cr ↦ let b = behind l (13 ∷ 10 ∷ []) spelled.0 text (cr ∙ sym (append_assoc l (13 ∷ 10 ∷ []) spelled.0)) in (omega arith, spelled_short n ls spelled.0 spelled.2 (omega arith))
      | inr lf ↦ let b = behind l (10 ∷ []) spelled.0 text (lf ∙ sym (append_assoc l (10 ∷ []) spelled.0)) in (omega arith, spelled_short n ls spelled.0 spelled.2 (omega arith))
    ]

-- a text spells one description at most
pub one_value : (text : List ℕ) (s t : Sdp) → IsSdp s → IsSdp t → Spells (all_lines s) text → Spells (all_lines t) text → s ≡ t
one_value text s t is it ss st =
    ok_is {E = Fault} s t (sym (within_again (length text) text s is ss (spelled_short (length text) (all_lines s) text ss (omega arith)))
    ∙ within_again (length text) text t it st (spelled_short (length text) (all_lines t) text st (omega arith)))

pub printed_again : (s : Sdp) → IsSdp s → IsWithinLimits s (spelling s) → description_of (spelling s) ≡ Ok s
printed_again s is fits = described_again (spelling s) s is fits (spells_again (all_lines s))
