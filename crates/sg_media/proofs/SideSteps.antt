-- From a side to the sessions that it stands for.
use Rattle.std.proofs.Common.{◌≡◌, ℕ, zero, suc, ◌+◌, ◌<◌, Bool, true, false, cond, nat_eq, List, [], ◌∷◌, ◌++◌, length, map, count_by, Result, Ok, Err, IfOk, OnErr, refl, ap, subst, sym, ◌∙◌, inl, inr, add-zero}
use Rattle.std.specs.Prelude.{MatchResult}
use Rattle.std.proofs.lemmas.Bool.{cases_eq, eq-eqb, ne_eqb}
use Rattle.std.proofs.lemmas.List.{length-map}
use Rattle.std.proofs.lemmas.List.Sums.{sum_by-append}
use Rattle.sg_base.specs.declared.addresses.Kind.{Kind}
use Rattle.sg_base.specs.declared.faults.DropCause.{DropCause}
use Rattle.sg_base.specs.declared.keys.HalfKeys.{HalfKeys}
use Rattle.sg_keys.specs.Live.{Live, served, spent, spent_if}
use Rattle.sg_keys.specs.Stands.{live, live_key}
use Rattle.sg_keys.proofs.Spending.{same_half}
use Rattle.sg_session.specs.OneSession.{after}
use Rattle.sg_session.specs.Opening.{Taken}
use Rattle.sg_session.specs.Session.{Key, Done, Session}
use Rattle.sg_states.specs.StreamValues.{StreamValue}
use Rattle.sg_media.specs.Ciphers.{HaveCiphers}
use Rattle.sg_media.specs.Sides.{SideValue, StandsFor}
use Rattle.sg_media.specs.Standing.{StreamsStand, StreamsTake}
use Rattle.sg_media.specs.Steps.{SideTakes}

-- ---- keys that serve
count-push : (n : ℕ) (done : List Done) (d : Done) → nat_eq d.key n ≡ true → count_by (λ (x : Done). nat_eq x.key n) (done ++ d ∷ []) ≡ count_by (λ (x : Done). nat_eq x.key n) done + 1
count-push n done d e = sum_by-append (λ (x : Done). cond (nat_eq x.key n) 1 0) done (d ∷ []) ∙ ap (λ m. count_by (λ (x : Done). nat_eq x.key n) done + m) (rw e refl)

count-push_other : (n : ℕ) (done : List Done) (d : Done) → nat_eq d.key n ≡ false → count_by (λ (x : Done). nat_eq x.key n) (done ++ d ∷ []) ≡ count_by (λ (x : Done). nat_eq x.key n) done
count-push_other n done d e =
    sum_by-append (λ (x : Done). cond (nat_eq x.key n) 1 0) done (d ∷ []) ∙ ap (λ m. count_by (λ (x : Done). nat_eq x.key n) done + m) (rw e refl)
    ∙ add-zero (count_by (λ (x : Done). nat_eq x.key n) done)

abbrev pub done_more : Session → Done → Session
done_more s d = record s { done = s.done ++ d ∷ [] }

live_key-push : (s : Session) (d : Done) (k : Key) → spent_if d.key (live_key s k) ≡ live_key (done_more s d) k
live_key-push s d k =
    elim (cases_eq d.key k.number) [
      | inl e ↦ rw (eq-eqb k.number d.key (sym e), count-push k.number s.done d (eq-eqb d.key k.number e)) refl
      | inr ne ↦ rw (ne_eqb k.number d.key (λ e. ne (sym e)), count-push_other k.number s.done d (ne_eqb d.key k.number ne)) refl
    ]

lives-push : (s : Session) (d : Done) (keys : List Key) → spent d.key (map (live_key s) keys) ≡ map (live_key (done_more s d)) keys
lives-push s d [] = refl
lives-push s d (k ∷ ks) = λ i. live_key-push s d k i ∷ lives-push s d ks i

pub live-push : (s : Session) (d : Done) → spent d.key (live s) ≡ live (done_more s d)
live-push s d = lives-push s d s.keys

pub spent_ciphers : (n : ℕ) (keys : List Live) (kind : Kind) (encrypts : Bool) → HaveCiphers keys kind encrypts → HaveCiphers (spent n keys) kind encrypts
spent_ciphers n [] kind encrypts c i k e on = cc
spent_ciphers n (x ∷ xs) kind encrypts c zero k e on =
    let same : spent_if n x ≡ k = cc in
    subst (λ (y : Live). 0 < length y.half.encrypt) same (subst (λ (h : HalfKeys). 0 < length h.encrypt) (sym (same_half n x)) (c zero x refl on))
spent_ciphers n (x ∷ xs) kind encrypts c (suc i) k e on = spent_ciphers n xs kind encrypts (λ j. c (suc j)) i k e on

module _ {E O : Type 0} (key : O → ℕ) where
  pub ciphers_after : (A : Type 0) (r : Result O E) (new old : List Live) (kind : Kind) (encrypts : Bool) → IfOk r (λ o. new ≡ spent (key o) old) → OnErr r (A × (new ≡ old)) → HaveCiphers old kind encrypts → HaveCiphers new kind encrypts
  ciphers_after A (Ok o) new old kind encrypts ok err c = subst (λ keys. HaveCiphers keys kind encrypts) (sym ok) (spent_ciphers (key o) old kind encrypts c)
  ciphers_after A (Err e) new old kind encrypts ok err c = subst (λ keys. HaveCiphers keys kind encrypts) (sym (err.1)) c

  pub some_after : (A : Type 0) (r : Result O E) (new old : List Live) → IfOk r (λ o. new ≡ spent (key o) old) → OnErr r (A × (new ≡ old)) → 0 < length old → 0 < length new
  some_after A (Ok o) new old ok err some = subst (λ n. 0 < n) (sym (ap length ok ∙ length-map old (spent_if (key o)))) some
  some_after A (Err e) new old ok err some = subst (λ (ks : List Live). 0 < length ks) (sym (err.1)) some

-- ---- the side afterwards
pub stands_with : (side : SideValue) (s : Session) (d : Done) (keys : List Live) (streams : List StreamValue) → StandsFor side s → keys ≡ spent d.key side.keys
    → StreamsStand streams side.roc side.window (s.done ++ d ∷ []) → StandsFor (record side { keys = keys; streams = streams }) (done_more s d)
stands_with side s d keys streams st e new = record {
  same_kind = st.same_kind;
  same_keys = e ∙ ap (spent d.key) st.same_keys ∙ live-push s d;
  same_roc = st.same_roc;
  same_window = st.same_window;
  same_admit = st.same_admit;
  same_encrypts = st.same_encrypts;
  same_tag_len = st.same_tag_len;
  streams = subst (λ r. StreamsStand streams r s.window (s.done ++ d ∷ [])) st.same_roc (subst (λ w. StreamsStand streams side.roc w (s.done ++ d ∷ [])) st.same_window new);
}

pub streams_in : (side : SideValue) (s : Session) → StandsFor side s → StreamsStand side.streams side.roc side.window s.done
streams_in side s st =
    subst (λ r. StreamsStand side.streams r side.window s.done) (sym (st.same_roc)) (subst (λ w. StreamsStand side.streams s.roc w s.done) (sym (st.same_window)) st.streams)

pub stands_same : (side : SideValue) (s : Session) (keys : List Live) (streams : List StreamValue) → StandsFor side s → keys ≡ side.keys → streams ≡ side.streams
    → StandsFor (record side { keys = keys; streams = streams }) s
stands_same side s keys streams st e f = subst (λ (ks : List Live). StandsFor (record side { keys = ks; streams = streams }) s) (sym e) (subst (λ (ts : List StreamValue). StandsFor (record side { streams = ts }) s) (sym f) st)

-- by what is told of an answer: the entry that is taken, or a cause
pub stands_after : {O : Type 0} (entry : O → Done) (side : SideValue) (s : Session) (said : Result Taken DropCause) (r : Result O (List ℕ × DropCause)) (keys : List Live) (streams : List StreamValue) → StandsFor side s
    → MatchResult r (λ o. (t : Taken) × (said ≡ Ok t) × (entry o ≡ t.done)) (λ e. (c : DropCause) × (said ≡ Err c))
    → IfOk r (λ o. StreamsTake side.streams streams side.roc side.window (entry o))
    → IfOk r (λ o. keys ≡ spent (entry o).key side.keys) → OnErr r ((streams ≡ side.streams) × (keys ≡ side.keys))
    → StandsFor (record side { keys = keys; streams = streams }) (after s said)
stands_after entry side s said (Ok o) keys streams st told grown served stays =
    subst (λ r. StandsFor (record side { keys = keys; streams = streams }) (after s r)) (sym (told.1))
    (subst (λ x. StandsFor (record side { keys = keys; streams = streams }) (done_more s x)) told.2
    (stands_with side s (entry o) keys streams st served (grown s.done (streams_in side s st))))
stands_after entry side s said (Err x) keys streams st told grown served stays =
    subst (λ r. StandsFor (record side { keys = keys; streams = streams }) (after s r)) (sym (told.1)) (stands_same side s keys streams st stays.1 stays.0)

pub side_takes : {O E : Type 0} (entry : O → Done) (v : SideValue) (r : Result O E) (keys : List Live) (streams : List StreamValue)
    → IfOk r (λ o. StreamsTake v.streams streams v.roc v.window (entry o)) → IfOk r (λ o. keys ≡ spent (entry o).key v.keys)
    → IfOk r (λ o. SideTakes v (record v { keys = keys; streams = streams }) (entry o))
side_takes entry v (Ok o) keys streams grown served = record { rest = ap (λ (ks : List Live). record v { keys = ks; streams = streams }) served; streams = grown }
side_takes entry v (Err e) keys streams grown served = tt
