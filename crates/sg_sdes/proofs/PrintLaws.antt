-- What is printed, piece by piece, is the spelling.
use Rattle.std.proofs.Common.{◌≡◌, ℕ, ◌≤◌, List, [], ◌∷◌, ◌++◌, ◌-◌, length, take, drop, get_or, refl, sym, ap, ◌∙◌, arith, append_assoc}
use Rattle.std.specs.List.{flat_map, join_with_byte}
use Rattle.std.proofs.Math.Seq.{take-length}
use Rattle.std.proofs.lemmas.List.{append-nil}
use Rattle.std.specs.Fmt.{decimal}
use Rattle.sg_base.specs.SuiteNames.{suite_name}
use Rattle.sg_sdes.specs.declared.lines.CryptoLine.{CryptoLine}
use Rattle.sg_sdes.specs.declared.lines.InlineKey.{InlineKey}
use Rattle.sg_sdes.specs.CryptoText.{inline_text, keys_text, next_key, next_words, plain_rtp_words, plain_rtcp_words, window_words, crypto_text}

-- ---- keys

pub joined_keys : (k : InlineKey) (ks : List InlineKey) → keys_text (k ∷ ks) ≡ inline_text k ++ flat_map next_key ks
joined_keys k [] = sym (append-nil (inline_text k))
joined_keys k (l ∷ ks) = ap (λ (t : List ℕ). inline_text k ++ 59 ∷ t) (joined_keys l ks)

pub first_keys : (keys : List InlineKey) (k : InlineKey) → 1 ≤ length keys → k ≡ get_or keys 0 k → keys_text keys ≡ inline_text k ++ flat_map next_key (take (length keys - 1) (drop 1 keys))
first_keys [] k some is = absurd (omega arith)
first_keys (l ∷ ks) k some is =
    let n : length (l ∷ ks) - 1 ≡ length ks = omega arith in
    rw (is, n, take-length ks) (joined_keys l ks)

pub pushed_keys : (keys : List InlineKey) (k : InlineKey) (old one two : List ℕ) → 1 ≤ length keys → k ≡ get_or keys 0 k → one ≡ old ++ inline_text k
    → two ≡ one ++ flat_map next_key (take (length keys - 1) (drop 1 keys)) → two ≡ old ++ keys_text keys
pushed_keys keys k old one two some is e f =
    f ∙ ap (λ (t : List ℕ). t ++ flat_map next_key (take (length keys - 1) (drop 1 keys))) e ∙ append_assoc old (inline_text k) (flat_map next_key (take (length keys - 1) (drop 1 keys)))
    ∙ ap (λ (t : List ℕ). old ++ t) (sym (first_keys keys k some is))

-- ---- words

pub joined_words : (w : List ℕ) (ws : List (List ℕ)) → join_with_byte 32 (w ∷ ws) ≡ w ++ next_words ws
joined_words w [] = sym (append-nil w)
joined_words w (v ∷ ws) = ap (λ (t : List ℕ). w ++ 32 ∷ t) (joined_words v ws)

next_words-append : (vs ws : List (List ℕ)) → next_words (vs ++ ws) ≡ next_words vs ++ next_words ws
next_words-append [] ws = refl
next_words-append (v ∷ vs) ws = ap (λ (t : List ℕ). 32 ∷ (v ++ t)) (next_words-append vs ws) ∙ ap (λ (t : List ℕ). 32 ∷ t) (sym (append_assoc v (next_words vs) (next_words ws)))

three_words : (d s k : List ℕ) (a b w : List (List ℕ)) → join_with_byte 32 (d ∷ s ∷ k ∷ ((a ++ b) ++ w)) ≡ d ++ 32 ∷ (s ++ 32 ∷ (k ++ ((next_words a ++ next_words b) ++ next_words w)))
three_words d s k a b w =
    ap (λ (t : List ℕ). d ++ 32 ∷ (s ++ 32 ∷ t)) (joined_words k ((a ++ b) ++ w))
    ∙ ap (λ (t : List ℕ). d ++ 32 ∷ (s ++ 32 ∷ (k ++ t))) (next_words-append (a ++ b) w ∙ ap (λ (t : List ℕ). t ++ next_words w) (next_words-append a b))

pieces : (d s k a b w o0 o1 o2 o3 o4 o5 o6 o7 o8 : List ℕ) → o0 ≡ [] → o1 ≡ o0 ++ d → o2 ≡ o1 ++ 32 ∷ [] → o3 ≡ o2 ++ s → o4 ≡ o3 ++ 32 ∷ [] → o5 ≡ o4 ++ k
    → o6 ≡ o5 ++ a → o7 ≡ o6 ++ b → o8 ≡ o7 ++ w → o8 ≡ d ++ 32 ∷ (s ++ 32 ∷ (k ++ ((a ++ b) ++ w)))
pieces d s k a b w o0 o1 o2 o3 o4 o5 o6 o7 o8 e0 e1 e2 e3 e4 e5 e6 e7 e8 = rw (e8, e7, e6, e5, e4, e3, e2, e1, e0) (simp append_assoc)

pub printed : (l : CryptoLine) (n : ℕ) (s : List ℕ) (ks : List InlineKey) (o0 o1 o2 o3 o4 o5 o6 o7 o8 : List ℕ) → n ≡ l.tag → s ≡ suite_name l.suite → ks ≡ l.keys
    → o0 ≡ [] → o1 ≡ o0 ++ decimal n → o2 ≡ o1 ++ 32 ∷ [] → o3 ≡ o2 ++ s → o4 ≡ o3 ++ 32 ∷ [] → o5 ≡ o4 ++ keys_text ks
    → o6 ≡ o5 ++ next_words (plain_rtp_words l.plain_rtp) → o7 ≡ o6 ++ next_words (plain_rtcp_words l.plain_rtcp) → o8 ≡ o7 ++ next_words (window_words l.window)
    → o8 ≡ crypto_text l
unfolding crypto_text
printed l n s ks o0 o1 o2 o3 o4 o5 o6 o7 o8 n_is s_is ks_is e0 e1 e2 e3 e4 e5 e6 e7 e8 =
    pieces (decimal l.tag) (suite_name l.suite) (keys_text l.keys) (next_words (plain_rtp_words l.plain_rtp)) (next_words (plain_rtcp_words l.plain_rtcp)) (next_words (window_words l.window))
    o0 o1 o2 o3 o4 o5 o6 o7 o8 e0 (e1 ∙ ap (λ m. o0 ++ decimal m) n_is) e2 (e3 ∙ ap (λ (t : List ℕ). o2 ++ t) s_is) e4 (e5 ∙ ap (λ (k : List InlineKey). o4 ++ keys_text k) ks_is) e6 e7 e8
    ∙ sym (three_words (decimal l.tag) (suite_name l.suite) (keys_text l.keys) (plain_rtp_words l.plain_rtp) (plain_rtcp_words l.plain_rtcp) (window_words l.window))
