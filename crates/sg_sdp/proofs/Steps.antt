-- The loop over the lines.
use Rattle.std.proofs.Common.{◌≡◌, ℕ, ◌+◌, ◌-◌, ◌<◌, ◌≤◌, List, [], length, get_or, take, drop, map, Result, Ok, Err, refl, sym, ap, ◌∙◌, Bor}
use Rattle.std.proofs.lemmas.List.{take-map, length-map}
use Rattle.std.proofs.Math.ListN.{get_or-map, drop_of_length-le}
use Rattle.sg_base.proofs.Lists.{drop_next}
use Rattle.sg_sdp.specs.declared.faults.ReadSdpFault.{ReadSdpFault}
use Rattle.sg_sdp.specs.declared.faults.ReadSdpFault.TheVariants as errors
use Rattle.sg_sdp.specs.declared.sdp.Sdp.{Sdp}
use Rattle.sg_sdp.specs.LineForm.{without_cr}
use Rattle.sg_sdp.specs.Faults.{Fault}
use Rattle.sg_sdp.specs.Reading.{◌>>=◌, Gives, Changes, at_line, step, steps, end_of, none_yet, lines_of}

abbrev pub texts : List (Bor (List ℕ)) → List (List ℕ)
texts xs = map (λ x. x.now) xs

one : (most : ℕ) (xs : List (Bor (List ℕ))) (i n : ℕ) (s : Sdp) (raw : List ℕ) (d : Bor (List ℕ)) → i < length xs → raw ≡ without_cr (get_or xs i d).now
    → steps most n s (texts (drop i xs)) ≡ (at_line n (step most n s raw) >>= λ t. steps most (n + 1) t (texts (drop (i + 1) xs)))
unfolding steps
one most xs i n s raw d lt e = rw (drop_next xs i d lt, e) refl

pub goes_on : (most : ℕ) (xs : List (Bor (List ℕ))) (i n : ℕ) (s t : Sdp) (raw : List ℕ) (d : Bor (List ℕ)) (total : Result Sdp Fault) → i < length xs → raw ≡ without_cr (get_or xs i d).now
    → at_line n (step most n s raw) ≡ Ok t → steps most n s (texts (drop i xs)) ≡ total → steps most (n + 1) t (texts (drop (i + 1) xs)) ≡ total
goes_on most xs i n s t raw d total lt e given so_far = sym (one most xs i n s raw d lt e ∙ ap (λ (r : Result Sdp Fault). r >>= λ u. steps most (n + 1) u (texts (drop (i + 1) xs))) given) ∙ so_far

last_now : (xs : List (Bor (List ℕ))) (i : ℕ) (d : Bor (List ℕ)) → d.now ≡ [] → get_or (texts xs) i [] ≡ (get_or xs i d).now
last_now xs i d e = ap (λ (l : List ℕ). get_or (texts xs) i l) (sym e) ∙ get_or-map (λ (x : Bor (List ℕ)). x.now) xs i d

pub shape : (most : ℕ) (xs : List (Bor (List ℕ))) (d : Bor (List ℕ)) → d.now ≡ []
    → lines_of most (texts xs) ≡ (steps most 1 none_yet (texts (take (length xs - 1) xs)) >>= λ s. at_line (length xs) (end_of most (length xs) (get_or xs (length xs - 1) d).now) >>= λ u. Ok s)
unfolding lines_of
shape most xs d e =
    rw (length-map xs (λ x. x.now), take-map (λ (x : Bor (List ℕ)). x.now) (length xs - 1) xs, last_now xs (length xs - 1) d e) refl

pub fails : (most : ℕ) (xs ys : List (Bor (List ℕ))) (i n : ℕ) (s t : Sdp) (raw : List ℕ) (d : Bor (List ℕ)) (f : ReadSdpFault) → ys ≡ take (length xs - 1) xs → i < length ys → raw ≡ without_cr (get_or ys i d).now
    → Changes (Err f) t (at_line n (step most n s raw)) → steps most n s (texts (drop i ys)) ≡ steps most 1 none_yet (texts ys) → Gives {X = Sdp} (Err f) (lines_of most (texts xs))
unfolding lines_of
fails most xs ys i n s t raw d errors.NoMemory prefix lt e given so_far = tt
fails most xs ys i n s t raw d (errors.Sdp line fault) prefix lt e given so_far =
    let bad : steps most 1 none_yet (texts ys) ≡ Err (line, fault) = sym so_far ∙ one most ys i n s raw d lt e ∙ ap (λ (r : Result Sdp Fault). r >>= λ u. steps most (n + 1) u (texts (drop (i + 1) ys))) given in
    shape most xs (record { ref_ptr = (0, 0); now = [] }) refl ∙ ap (λ (r : Result Sdp Fault). r >>= λ s. at_line (length xs) (end_of most (length xs) (get_or xs (length xs - 1) (record { ref_ptr = (0, 0); now = [] })).now) >>= λ u. Ok s) (ap (λ (l : List (Bor (List ℕ))). steps most 1 none_yet (texts l)) (sym prefix) ∙ bad)

pub finished : (most : ℕ) (xs ys : List (Bor (List ℕ))) (i n : ℕ) (s : Sdp) (d : Bor (List ℕ)) → ys ≡ take (length xs - 1) xs → length ys ≤ i → d.now ≡ [] → n ≡ length xs
    → steps most n s (texts (drop i ys)) ≡ steps most 1 none_yet (texts ys) → lines_of most (texts xs) ≡ (at_line n (end_of most n (get_or xs (length xs - 1) d).now) >>= λ u. Ok s)
unfolding steps
finished most xs ys i n s d prefix le blank here so_far =
    let over : steps most n s (texts (drop i ys)) ≡ Ok s = rw (drop_of_length-le ys le) refl in
    let all : steps most 1 none_yet (texts (take (length xs - 1) xs)) ≡ Ok s = ap (λ (l : List (Bor (List ℕ))). steps most 1 none_yet (texts l)) (sym prefix) ∙ sym so_far ∙ over in
    rw here (shape most xs d blank ∙ ap (λ (r : Result Sdp Fault). r >>= λ s. at_line (length xs) (end_of most (length xs) (get_or xs (length xs - 1) d).now) >>= λ u. Ok s) all)
