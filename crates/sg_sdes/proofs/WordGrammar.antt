-- A text and its words, both ways.
use Rattle.std.proofs.Common.{◌≡◌, ℕ, zero, suc, ◌≤◌, Bool, true, false, eqb, List, [], ◌∷◌, ◌++◌, length, Option, Some, None, refl, sym, ap, subst, ◌∙◌, arith, length-append}
use Rattle.std.specs.Prelude.{replicate}
use Rattle.std.specs.List.{AllByRecursion}
use Rattle.std.proofs.lemmas.Bool.{eqb-true}
use Rattle.std.proofs.lemmas.List.Splits.{length-slice_split}
use Rattle.sg_base.specs.Fields.{Lacks, cut_at}
use Rattle.sg_base.proofs.Cuts.{cut_lacks, cut_takes}
use Rattle.sg_sdes.specs.Grammar.{AreSpaced}
use Rattle.sg_sdes.specs.Words.{single_spaced, without_spaces, words_of}
use Rattle.sg_sdes.proofs.TextLaws.{IsWord}
use Rattle.sg_sdes.proofs.WordLaws.{cut_none, cut_shorter, one_word, word_and_rest, words_cut, words_uncut}

-- the spaces at the beginning of a text
abbrev Spaces : List ℕ → Type 0
Spaces r = (n : ℕ) × (r ≡ replicate n 32 ++ without_spaces r)

one_space : (x : ℕ) (xs : List ℕ) (b : Bool) → eqb x 32 ≡ b → Spaces xs → Spaces (x ∷ xs)
one_space x xs true e rest = (suc rest.0, rw e (ap (λ (h : ℕ). h ∷ xs) (eqb-true x 32 e) ∙ ap (λ (l : List ℕ). 32 ∷ l) rest.1))
one_space x xs false e rest = (0, rw e refl)

spaces : (r : List ℕ) → Spaces r
spaces [] = (0, refl)
spaces (x ∷ xs) = one_space x xs (eqb x 32) refl (spaces xs)

some_words : (t : List ℕ) → 1 ≤ length (words_of t)
unfolding words_of
some_words t = let n = length-slice_split (λ x. eqb x 32) (single_spaced t) in omega (arith, n)

before : (w t r : List ℕ) (n : ℕ) (ws : List (List ℕ)) → 1 ≤ length ws → t ≡ w ++ 32 ∷ (replicate n 32 ++ r) → AreSpaced ws r → AreSpaced (w ∷ ws) t
before w t r n [] some e f = absurd (omega arith)
before w t r n (v ∷ vs) some e f = (n, r, e, f)

-- words without spaces, with spaces between them
abbrev pub Spaced : List (List ℕ) → List ℕ → Type 0
Spaced ws t = AreSpaced ws t × AllByRecursion (Lacks 32) ws

by_cut : (fuel : ℕ) (t : List ℕ) (o : Option (List ℕ × List ℕ)) → cut_at 32 t ≡ o → length t ≤ fuel → ((s : List ℕ) → suc (length s) ≤ fuel → Spaced (words_of s) s) → Spaced (words_of t) t
by_cut fuel t None e le shorter = subst (λ (ws : List (List ℕ)). Spaced ws t) (sym (words_uncut t e)) (refl, (cut_none 32 t e, tt))
by_cut fuel t (Some p) e le shorter =
    let n = spaces p.1 in
    let fewer = cut_shorter t p.0 p.1 e in
    let size : length p.1 ≡ length (replicate n.0 32 ++ without_spaces p.1) = ap length n.1 in
    let sum = length-append (replicate n.0 32) (without_spaces p.1) in
    let rest : Spaced (words_of (without_spaces p.1)) (without_spaces p.1) = shorter (without_spaces p.1) (omega (arith, fewer, size, sum, le)) in
    let whole : t ≡ p.0 ++ 32 ∷ (replicate n.0 32 ++ without_spaces p.1) = cut_takes 32 t p.0 p.1 e ∙ ap (λ (l : List ℕ). p.0 ++ 32 ∷ l) n.1 in
    subst (λ (ws : List (List ℕ)). Spaced ws t) (sym (words_cut t p.0 p.1 e))
    (before p.0 t (without_spaces p.1) n.0 (words_of (without_spaces p.1)) (some_words (without_spaces p.1)) whole rest.0, (cut_lacks 32 t p.0 p.1 e, rest.1))

spaced_within : (fuel : ℕ) (t : List ℕ) → length t ≤ fuel → Spaced (words_of t) t
spaced_within zero t le = by_cut zero t (cut_at 32 t) refl le (λ s h. absurd (omega (arith, h)))
spaced_within (suc fuel) t le = by_cut (suc fuel) t (cut_at 32 t) refl le (λ s h. spaced_within fuel s (omega (arith, h)))

-- a text has its words with one or more spaces between them
pub words_spaced : (t : List ℕ) → Spaced (words_of t) t
words_spaced t = spaced_within (length t) t (omega arith)

-- ---- what is so spaced has these words

skips : (n : ℕ) (r : List ℕ) → without_spaces r ≡ r → without_spaces (replicate n 32 ++ r) ≡ r
skips zero r h = h
skips (suc n) r h = skips n r h

word_first : (v tail : List ℕ) → IsWord v → without_spaces (v ++ tail) ≡ v ++ tail
word_first [] tail is = absurd (let some = is.some in omega (arith, some))
word_first (x ∷ xs) tail is = rw is.lacks.0 refl

starts : (v : List ℕ) (vs : List (List ℕ)) (t : List ℕ) → IsWord v → AreSpaced (v ∷ vs) t → without_spaces t ≡ t
starts [] vs t is f = absurd (let some = is.some in omega (arith, some))
starts (x ∷ xs) [] t is e = subst (λ (l : List ℕ). without_spaces l ≡ l) (sym e) (rw is.lacks.0 refl)
starts (x ∷ xs) (u ∷ us) t is f = subst (λ (l : List ℕ). without_spaces l ≡ l) (sym f.2) (word_first (x ∷ xs) (32 ∷ (replicate f.0 32 ++ f.1)) is)

pub spaced_words : (w : List ℕ) (ws : List (List ℕ)) (t : List ℕ) → AllByRecursion IsWord (w ∷ ws) → AreSpaced (w ∷ ws) t → words_of t ≡ w ∷ ws
spaced_words w [] t all e = ap words_of e ∙ one_word w all.0.lacks
spaced_words w (v ∷ vs) t all f =
    ap words_of f.2
    ∙ word_and_rest w (replicate f.0 32 ++ f.1) all.0.lacks
    ∙ ap (λ (l : List ℕ). w ∷ words_of l) (skips f.0 f.1 (starts v vs f.1 all.1.0 f.3))
    ∙ ap (λ (ws : List (List ℕ)). w ∷ ws) (spaced_words v vs f.1 all.1 f.3)
