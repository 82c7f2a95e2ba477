-- Words with spaces between them, one after the other.
use Rattle.std.proofs.Common.{◌≡◌, ℕ, ◌<◌, Bool, true, false, eqb, List, [], ◌∷◌, ◌++◌, length, Option, Some, None, refl, sym, ap, subst, ◌∙◌, arith, length-append, Bor, ◌+◌, drop}
use Rattle.std.proofs.lemmas.Bool.{eqb-true}
use Rattle.std.proofs.lemmas.List.Splits.{slice_split_none, slice_split_at}
use Rattle.sg_base.specs.Fields.{Lacks, cut_at}
use Rattle.sg_base.proofs.Cuts.{cut_takes, cut_lacks, lacks_all}
use Rattle.sg_sdes.specs.declared.parameters.Parameters.{Parameters}
use Rattle.sg_sdes.specs.Parameters.{with_parameter, parameters_from}
use Rattle.sg_sdes.specs.CryptoOf.{crypto_by, crypto_parts, crypto_of}
use Rattle.sg_sdes.specs.Words.{word_at, single_spaced, words_of, without_spaces}

-- a text without spaces
pub single_lacks : (t : List ℕ) → Lacks 32 t → single_spaced t ≡ t
single_lacks [] lacks = refl
single_lacks (x ∷ xs) lacks = rw lacks.0 (ap (λ (l : List ℕ). x ∷ l) (single_lacks xs lacks.1))

-- a space, and what stands behind it and further spaces
space_step : (y : ℕ) (ys : List ℕ) (b : Bool) → eqb y 32 ≡ b → single_spaced (32 ∷ ys) ≡ 32 ∷ single_spaced (without_spaces ys)
    → single_spaced (32 ∷ y ∷ ys) ≡ 32 ∷ single_spaced (without_spaces (y ∷ ys))
space_step y ys true is before = let e : y ≡ 32 = eqb-true y 32 is in
    let P : ℕ → Type 0 = λ z. single_spaced (32 ∷ z ∷ ys) ≡ 32 ∷ single_spaced (without_spaces (z ∷ ys)) in subst P (sym e) before
space_step y ys false is before = rw (is, is) refl

single_space : (r : List ℕ) → single_spaced (32 ∷ r) ≡ 32 ∷ single_spaced (without_spaces r)
single_space [] = refl
single_space (y ∷ ys) = space_step y ys (eqb y 32) refl (single_space ys)

-- a word, a space, and the rest
pub single_word : (w r : List ℕ) → Lacks 32 w → single_spaced (w ++ 32 ∷ r) ≡ w ++ 32 ∷ single_spaced (without_spaces r)
single_word [] r lacks = single_space r
single_word (x ∷ xs) r lacks = rw lacks.0 (ap (λ (l : List ℕ). x ∷ l) (single_word xs r lacks.1))

pub one_word : (t : List ℕ) → Lacks 32 t → words_of t ≡ t ∷ []
unfolding words_of
one_word t lacks = rw (single_lacks t lacks) (slice_split_none (λ x. eqb x 32) t (lacks_all 32 t lacks))

pub word_and_rest : (w r : List ℕ) → Lacks 32 w → words_of (w ++ 32 ∷ r) ≡ w ∷ words_of (without_spaces r)
unfolding words_of
word_and_rest w r lacks = rw (single_word w r lacks) (slice_split_at (λ x. eqb x 32) w 32 (single_spaced (without_spaces r)) (lacks_all 32 w lacks) refl)

-- ---- where a text isn't cut

cut_step : (c x : ℕ) (xs : List ℕ) (b : Bool) (o : Option (List ℕ × List ℕ)) → eqb x c ≡ b → cut_at c xs ≡ o → cut_at c (x ∷ xs) ≡ None → (b ≡ false) × (o ≡ None)
unfolding cut_at
cut_step c x xs true o is rest e = absurd cc (rw is at e)
cut_step c x xs false None is rest e = (refl, refl)
cut_step c x xs false (Some p) is rest e = absurd cc (rw (is, rest) at e)

pub cut_none : (c : ℕ) (t : List ℕ) → cut_at c t ≡ None → Lacks c t
cut_none c [] e = tt
cut_none c (x ∷ xs) e = let s = cut_step c x xs (eqb x c) (cut_at c xs) refl refl e in (s.0, cut_none c xs s.1)

pub cut_lacking : (c : ℕ) (t : List ℕ) → Lacks c t → cut_at c t ≡ None
unfolding cut_at
cut_lacking c [] lacks = refl
cut_lacking c (x ∷ xs) lacks = rw (lacks.0, cut_lacking c xs lacks.1) refl

-- ---- the first word

pub words_uncut : (t : List ℕ) → cut_at 32 t ≡ None → words_of t ≡ t ∷ []
words_uncut t e = one_word t (cut_none 32 t e)

pub words_cut : (t w r : List ℕ) → cut_at 32 t ≡ Some (w, r) → words_of t ≡ w ∷ words_of (without_spaces r)
words_cut t w r e = ap words_of (cut_takes 32 t w r e) ∙ word_and_rest w r (cut_lacks 32 t w r e)

pub cut_shorter : (t w r : List ℕ) → cut_at 32 t ≡ Some (w, r) → length r < length t
cut_shorter t w r e = let n : length t ≡ length (w ++ 32 ∷ r) = ap length (cut_takes 32 t w r e) in omega (arith, n, length-append w (32 ∷ r))

-- how much of a text is left: nothing, or at least one word
abbrev pub left : Option (Bor (List ℕ)) → ℕ
left None = 0
left (Some rest) = length rest.now + 1

-- ---- parameters, word by word

pub on_word : (said more : Parameters) (t w : List ℕ) (ws : List (List ℕ)) (total : Option Parameters) → words_of t ≡ w ∷ ws → with_parameter said w ≡ Some more
    → parameters_from said (words_of t) ≡ total → parameters_from more ws ≡ total
unfolding parameters_from
on_word said more t w ws total e f so_far = let step : parameters_from said (words_of t) ≡ parameters_from more ws = rw (e, f) refl in sym step ∙ so_far

pub at_word : (said : Parameters) (t w : List ℕ) (ws : List (List ℕ)) (total : Option Parameters) → words_of t ≡ w ∷ ws → with_parameter said w ≡ None
    → parameters_from said (words_of t) ≡ total → None ≡ total
unfolding parameters_from
at_word said t w ws total e f so_far = let step : parameters_from said (words_of t) ≡ None = rw (e, f) refl in sym step ∙ so_far

pub at_last : (said : Parameters) (total : Option Parameters) → parameters_from said [] ≡ total → Some said ≡ total
unfolding parameters_from
at_last said total so_far = so_far

-- ---- the parts of a line

by_words : (tag : List ℕ) (ws : List (List ℕ)) → crypto_by (tag ∷ ws) ≡ crypto_parts tag (word_at ws 0) (word_at (drop 1 ws) 0) (drop 1 (drop 1 ws))
by_words tag [] = refl
by_words tag (a ∷ []) = refl
by_words tag (a ∷ b ∷ ws) = refl

pub crypto_is : (value tag suite keys : List ℕ) (first second third : List (List ℕ)) → words_of value ≡ tag ∷ first → suite ≡ word_at first 0 → second ≡ drop 1 first
    → keys ≡ word_at second 0 → third ≡ drop 1 second → crypto_parts tag suite keys third ≡ crypto_of value
unfolding crypto_of
crypto_is value tag suite keys first second third w s r k l =
    let parts : crypto_parts tag suite keys third ≡ crypto_parts tag (word_at first 0) (word_at (drop 1 first) 0) (drop 1 (drop 1 first)) = rw (s, l, k, r) refl in
    parts ∙ sym (by_words tag first) ∙ ap crypto_by (sym w)
