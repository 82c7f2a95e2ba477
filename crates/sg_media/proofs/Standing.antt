-- Streams after one datagram more.
use Rattle.std.proofs.Common.{◌≡◌, ◌≢◌, ℕ, zero, suc, ◌+◌, ◌≤◌, true, false, not, nat_eq, nat_lt, List, [], ◌∷◌, ◌++◌, length, map, take, get_or, slice_get, slice_set, Option, Some, None, refl, arith, ap, subst, sym, ◌∙◌, ◌⊎◌, inl, inr}
use Rattle.std.specs.Prelude.{MatchOption}
use Rattle.std.proofs.lemmas.Bool.{cases_eq, both_ways, ne_eqb, lt-ltb, or_left}
use Rattle.std.proofs.lemmas.List.{map-append, length-map, length-set}
use Rattle.std.proofs.lemmas.Option.{get_or_from_slice_get}
use Rattle.std.proofs.Math.Seq.{map-set_same, take-append_seam}
use Rattle.std.specs.List.{refill}
use Rattle.sg_base.specs.declared.addresses.Kind.{Kind}
use Rattle.sg_replay.specs.Freshness.{is_in}
use Rattle.sg_states.specs.StreamValues.{StreamValue}
use Rattle.sg_session.specs.Session.{Done, sources, is_first, indices_of}
use Rattle.sg_states.specs.Streams.{IsStreamOf, StreamStands}
use Rattle.sg_media.specs.Standing.{source_of, AreOfKind, StreamsStand, IsAt, room_in}
use Rattle.sg_media.proofs.Sources.{sources_from-push, indices_of-push_same, indices_of-push_other, none_of, first_source, first_is, Distinct, distinct_sources, is_in-map, distinct_places}

module _ {X : Type 0} where
  get_set_same : (xs : List X) (i : ℕ) (x y : X) → slice_get (slice_set xs i x) i ≡ Some y → x ≡ y
  get_set_same [] i x y e = cc
  get_set_same (z ∷ zs) zero x y e = cc
  get_set_same (z ∷ zs) (suc i) x y e = get_set_same zs i x y e

  get_set_other : (xs : List X) (i j : ℕ) (x : X) → j ≢ i → slice_get (slice_set xs i x) j ≡ slice_get xs j
  get_set_other [] i j x ne = refl
  get_set_other (z ∷ zs) zero zero x ne = absurd (ne refl)
  get_set_other (z ∷ zs) zero (suc j) x ne = refl
  get_set_other (z ∷ zs) (suc i) zero x ne = refl
  get_set_other (z ∷ zs) (suc i) (suc j) x ne = get_set_other zs i j x (λ e. ne (ap suc e))

  get_push : (xs : List X) (i : ℕ) (x y : X) → slice_get (xs ++ x ∷ []) i ≡ Some y → (slice_get xs i ≡ Some y) ⊎ (x ≡ y)
  get_push [] zero x y e = inr cc
  get_push [] (suc i) x y e = cc
  get_push (z ∷ zs) zero x y e = inl e
  get_push (z ∷ zs) (suc i) x y e = get_push zs i x y e

-- the kind of all streams
of_kind-set : (streams : List StreamValue) (kind : Kind) (at : ℕ) (t : StreamValue) → AreOfKind streams kind → t.kind ≡ kind → AreOfKind (slice_set streams at t) kind
of_kind-set streams kind at t all is i u e = elim (cases_eq i at) [
  | inl here ↦ ap (λ (v : StreamValue). v.kind) (sym (get_set_same streams at t u (subst (λ j. slice_get (slice_set streams at t) j ≡ Some u) here e))) ∙ is
  | inr ne ↦ all i u (sym (get_set_other streams at i t ne) ∙ e)
]

pub of_kind-push : (streams : List StreamValue) (kind : Kind) (t : StreamValue) → AreOfKind streams kind → t.kind ≡ kind → AreOfKind (streams ++ t ∷ []) kind
of_kind-push streams kind t all is i u e = elim (get_push streams i t u e) [
  | inl old ↦ all i u old
  | inr same ↦ ap (λ (v : StreamValue). v.kind) (sym same) ∙ is
]

-- a list that is refilled by one of its length is that one
refill_same : {X : Type 0} (n : ℕ) (xs ys : List X) → length ys ≡ n → refill n xs ys ≡ ys
refill_same n xs ys e = rw (← e) (take-append_seam ys _)

refilled : (xs ys : List StreamValue) (i : ℕ) (t : StreamValue) → ys ≡ xs → refill (length xs) xs (slice_set ys i t) ≡ slice_set ys i t
refilled xs ys i t e = refill_same (length xs) xs (slice_set ys i t) (length-set ys i t ∙ ap length e)

-- a stream that was found
known_in : (streams : List StreamValue) (roc window : ℕ) (done : List Done) (ssrc at : ℕ) → StreamsStand streams roc window done → IsAt streams ssrc at → is_in (sources done) ssrc ≡ true
known_in streams roc window done ssrc at s f =
    subst (λ n. is_in (sources done) n ≡ true) f.source
    (subst (λ ns. is_in ns (f.stream).ssrc ≡ true) s.each_source (is_in-map source_of streams at f.stream f.here))

known_stream : (streams : List StreamValue) (roc window : ℕ) (done : List Done) (ssrc at : ℕ) → StreamsStand streams roc window done → (f : IsAt streams ssrc at) → StreamStands f.stream ssrc roc window (indices_of done ssrc)
known_stream streams roc window done ssrc at s f = subst (λ n. StreamStands f.stream n roc window (indices_of done n)) f.source (s.each_stream at f.stream f.here)

known_stands : (streams : List StreamValue) (roc window : ℕ) (done : List Done) (at : ℕ) (t : StreamValue) (d : Done) → StreamsStand streams roc window done → IsAt streams d.ssrc at
    → StreamStands t d.ssrc roc window (indices_of done d.ssrc ++ d.index ∷ [])
    → StreamsStand (slice_set streams at t) roc window (done ++ d ∷ [])
known_stands streams roc window done at t d s f new = record {
  each_source =
      map-set_same source_of streams at t t (new.source ∙ sym (f.source) ∙ ap source_of (sym (get_or_from_slice_get streams at f.stream t f.here)))
      ∙ s.each_source
      ∙ sym (sources_from-push [] done d ∙ rw (known_in streams roc window done d.ssrc at s f) refl);
  each_stream = λ i u e.
      elim (cases_eq i at) [
        | inl here ↦
            (let same : t ≡ u = get_set_same streams at t u (subst (λ j. slice_get (slice_set streams at t) j ≡ Some u) here e) in
            subst (λ (v : StreamValue). StreamStands v v.ssrc roc window (indices_of (done ++ d ∷ []) v.ssrc)) same
            (subst (λ n. StreamStands t n roc window (indices_of (done ++ d ∷ []) n)) (sym (new.source))
            (subst (StreamStands t d.ssrc roc window) (sym (indices_of-push_same done d)) new)))
        | inr ne ↦
            (let old : slice_get streams i ≡ Some u = sym (get_set_other streams at i t ne) ∙ e in
            let apart : d.ssrc ≢ u.ssrc = λ n. ne (distinct_places source_of streams i at u f.stream (subst Distinct (sym (s.each_source)) (distinct_sources [] done tt)) old f.here (sym n ∙ sym (f.source))) in
            subst (StreamStands u u.ssrc roc window) (sym (indices_of-push_other u.ssrc done d apart)) (s.each_stream i u old))
      ];
}

-- ---- a stream that is lent of the list
pub known_at : (streams : List StreamValue) (n ssrc at : ℕ) → n ≡ ssrc → IsAt streams n at → IsAt streams ssrc at
known_at streams n ssrc at f is = subst (λ m. IsAt streams m at) f is

pub known_room : (streams : List StreamValue) (roc window : ℕ) (done : List Done) (ssrc at : ℕ) → StreamsStand streams roc window done → IsAt streams ssrc at → true ≡ room_in done ssrc
known_room streams roc window done ssrc at s f = sym (or_left _ _ (known_in streams roc window done ssrc at s f))

pub lent_of : (lent streams : List StreamValue) (kind : Kind) (ssrc at : ℕ) (other : StreamValue) → lent ≡ streams → AreOfKind streams kind → IsAt streams ssrc at → IsStreamOf (get_or lent at other) kind ssrc
lent_of lent streams kind ssrc at other e kinds f =
    subst (λ (ts : List StreamValue). IsStreamOf (get_or ts at other) kind ssrc) (sym e)
    (subst (λ (t : StreamValue). IsStreamOf t kind ssrc) (sym (get_or_from_slice_get streams at f.stream other f.here)) (record { same_kind = kinds at f.stream f.here; same_source = f.source }))

pub lent_stands : (lent streams : List StreamValue) (roc window : ℕ) (done : List Done) (ssrc at : ℕ) (other : StreamValue) → lent ≡ streams → StreamsStand streams roc window done → IsAt streams ssrc at
    → StreamStands (get_or lent at other) ssrc roc window (indices_of done ssrc)
lent_stands lent streams roc window done ssrc at other e s f =
    subst (λ (ts : List StreamValue). StreamStands (get_or ts at other) ssrc roc window (indices_of done ssrc)) (sym e)
    (subst (λ (t : StreamValue). StreamStands t ssrc roc window (indices_of done ssrc)) (sym (get_or_from_slice_get streams at f.stream other f.here)) (known_stream streams roc window done ssrc at s f))

pub given_back : (lent streams : List StreamValue) (roc window : ℕ) (done : List Done) (at : ℕ) (t : StreamValue) (d : Done) → lent ≡ streams → StreamsStand streams roc window done → IsAt streams d.ssrc at
    → StreamStands t d.ssrc roc window (indices_of done d.ssrc ++ d.index ∷ [])
    → StreamsStand (refill (length streams) streams (slice_set lent at t)) roc window (done ++ d ∷ [])
given_back lent streams roc window done at t d e s f new =
    subst (λ (ts : List StreamValue). StreamsStand ts roc window (done ++ d ∷ [])) (ap (λ (ts : List StreamValue). slice_set ts at t) (sym e) ∙ sym (refilled streams lent at t e))
    (known_stands streams roc window done at t d s f new)

pub kinds_given_back : (lent streams : List StreamValue) (kind : Kind) (ssrc at : ℕ) (t other : StreamValue) → lent ≡ streams → AreOfKind streams kind → IsAt streams ssrc at → t.kind ≡ (get_or lent at other).kind
    → AreOfKind (refill (length streams) streams (slice_set lent at t)) kind
kinds_given_back lent streams kind ssrc at t other e kinds f same =
    subst (λ (ts : List StreamValue). AreOfKind ts kind) (ap (λ (ts : List StreamValue). slice_set ts at t) (sym e) ∙ sym (refilled streams lent at t e))
    (of_kind-set streams kind at t kinds (same ∙ (lent_of lent streams kind ssrc at other e kinds f).same_kind))

pub row_given_back : (lent streams : List StreamValue) (row : List ℕ) (at : ℕ) (t other : StreamValue) → lent ≡ streams → row ≡ map source_of streams → t.ssrc ≡ (get_or lent at other).ssrc
    → row ≡ map source_of (refill (length streams) streams (slice_set lent at t))
row_given_back lent streams row at t other e in_row same =
    in_row
    ∙ sym (map-set_same source_of streams at t other (same ∙ ap (λ (ts : List StreamValue). (get_or ts at other).ssrc) e))
    ∙ ap (map source_of) (ap (λ (ts : List StreamValue). slice_set ts at t) (sym e) ∙ sym (refilled streams lent at t e))

-- ---- a stream of a new source
pub new_source : (streams : List StreamValue) (n ssrc : ℕ) → n ≡ ssrc → is_in (map source_of streams) n ≡ false → is_in (map source_of streams) ssrc ≡ false
new_source streams n ssrc f new = subst (λ m. is_in (map source_of streams) m ≡ false) f new

pub new_in : (streams : List StreamValue) (roc window : ℕ) (done : List Done) (ssrc : ℕ) → StreamsStand streams roc window done → is_in (map source_of streams) ssrc ≡ false → is_in (sources done) ssrc ≡ false
new_in streams roc window done ssrc s h = subst (λ ns. is_in ns ssrc ≡ false) s.each_source h

pub new_indices : (streams : List StreamValue) (roc window : ℕ) (done : List Done) (ssrc : ℕ) → StreamsStand streams roc window done → is_in (map source_of streams) ssrc ≡ false → indices_of done ssrc ≡ []
new_indices streams roc window done ssrc s h = none_of [] done ssrc (new_in streams roc window done ssrc s h)

pub fresh_stands : (t : StreamValue) (streams : List StreamValue) (roc window : ℕ) (done : List Done) (n ssrc : ℕ) → n ≡ ssrc → StreamStands t n roc window [] → StreamsStand streams roc window done
    → is_in (map source_of streams) ssrc ≡ false → StreamStands t ssrc roc window (indices_of done ssrc)
fresh_stands t streams roc window done n ssrc e fresh s new =
    subst (StreamStands t ssrc roc window) (sym (new_indices streams roc window done ssrc s new)) (subst (λ m. StreamStands t m roc window []) e fresh)

pub new_stands : (streams : List StreamValue) (roc window : ℕ) (done : List Done) (t : StreamValue) (d : Done) → StreamsStand streams roc window done → is_in (map source_of streams) d.ssrc ≡ false
    → StreamStands t d.ssrc roc window (indices_of done d.ssrc ++ d.index ∷ [])
    → StreamsStand (streams ++ t ∷ []) roc window (done ++ d ∷ [])
new_stands streams roc window done t d s h new = record {
  each_source =
      map-append source_of streams (t ∷ [])
      ∙ ap (λ n. map source_of streams ++ n ∷ []) new.source
      ∙ ap (λ ns. ns ++ d.ssrc ∷ []) s.each_source
      ∙ sym (sources_from-push [] done d ∙ rw (new_in streams roc window done d.ssrc s h) refl);
  each_stream = λ i u e.
      elim (get_push streams i t u e) [
        | inl old ↦
            (let apart : d.ssrc ≢ u.ssrc = λ n. both_ways _ h (subst (λ m. is_in (map source_of streams) m ≡ true) (sym n) (is_in-map source_of streams i u old)) in
            subst (StreamStands u u.ssrc roc window) (sym (indices_of-push_other u.ssrc done d apart)) (s.each_stream i u old))
        | inr same ↦
            subst (λ (v : StreamValue). StreamStands v v.ssrc roc window (indices_of (done ++ d ∷ []) v.ssrc)) same
            (subst (λ n. StreamStands t n roc window (indices_of (done ++ d ∷ []) n)) (sym (new.source))
            (subst (StreamStands t d.ssrc roc window) (sym (indices_of-push_same done d)) new))
      ];
}

-- the stream at the position of a source
stream_at : (streams : List StreamValue) (at ssrc : ℕ) → slice_get (map source_of streams) at ≡ Some ssrc → IsAt streams ssrc at
stream_at [] at ssrc e = cc
stream_at (t ∷ ts) zero ssrc e = record { stream = t; here = refl; source = cc }
stream_at (t ∷ ts) (suc at) ssrc e = let is = stream_at ts at ssrc e in record { stream = is.stream; here = is.here; source = is.source }

pub found_stream : (streams : List StreamValue) (row : List ℕ) (ssrc : ℕ) (r : Option ℕ) → row ≡ map source_of streams → MatchOption r (is_in row ssrc ≡ false) (λ at. slice_get row at ≡ Some ssrc)
    → MatchOption r (is_in (map source_of streams) ssrc ≡ false) (IsAt streams ssrc)
found_stream streams row ssrc None in_row new = subst (λ xs. is_in xs ssrc ≡ false) in_row new
found_stream streams row ssrc (Some at) in_row here = stream_at streams at ssrc (subst (λ xs. slice_get xs at ≡ Some ssrc) in_row here)

not_full : (n : ℕ) → n ≤ 64 → nat_lt n 64 ≡ not (nat_eq n 64)
not_full n h =
    elim (cases_eq n 64) [
      | inl e ↦ rw e refl
      | inr ne ↦ rw (lt-ltb n 64 (omega arith), ne_eqb n 64 ne) refl
    ]

-- a source that isn't there has room where a place is free
pub new_room : (streams : List StreamValue) (roc window : ℕ) (done : List Done) (ssrc : ℕ) → StreamsStand streams roc window done → is_in (map source_of streams) ssrc ≡ false → length streams ≤ 64
    → room_in done ssrc ≡ not (nat_eq (length streams) 64)
new_room streams roc window done ssrc s h fits =
    let count : length (sources done) ≡ length streams = ap length (sym (s.each_source)) ∙ length-map streams source_of in
    rw (new_in streams roc window done ssrc s h, count) (not_full (length streams) fits)

pub no_first : (row : List ℕ) (done : List Done) (ssrc : ℕ) → None ≡ slice_get row 0 → row ≡ sources done → true ≡ is_first done ssrc
no_first [] done ssrc e s = sym (first_source done ssrc ∙ ap (λ ns. first_is ns ssrc) (sym s))
no_first (x ∷ xs) done ssrc e s = cc

pub some_first : (row : List ℕ) (first : ℕ) (done : List Done) (ssrc : ℕ) → Some first ≡ slice_get row 0 → row ≡ sources done → nat_eq first ssrc ≡ is_first done ssrc
some_first [] first done ssrc e s = cc
some_first (x ∷ xs) first done ssrc e s = let same : first ≡ x = cc in ap (λ n. nat_eq n ssrc) same ∙ sym (first_source done ssrc ∙ ap (λ ns. first_is ns ssrc) (sym s))
