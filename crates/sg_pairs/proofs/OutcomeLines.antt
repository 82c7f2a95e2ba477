-- What a bridge tells is read exactly where it is spelled so. What is lost is told in the words of a drop.
use Rattle.std.proofs.Common.{◌≡◌, ◌≤◌, ℕ, List, ◌++◌, length, drop, refl, sym, ap, ◌∙◌, arith, append_assoc, ◌<◌, ◌^◌, Bool, true, false, cond, eqb, ltb, [], ◌∷◌, take, Option, Some, None, Result, Ok, Err, inl, inr, lit<}
use Rattle.std.proofs.lemmas.Bool.{eqb-true, le-ltb, ltb-false}
use Rattle.std.proofs.lemmas.List.{take-append-drop}
use Rattle.std.proofs.lemmas.Slice.Eq.{bytes_eq-Decides}
use Rattle.std.specs.Fmt.{decimal}
use Rattle.std.specs.List.{starts_with}
use Rattle.std.specs.Prelude.{codes, nat_eq, option_map}
use Rattle.std.specs.Str.{bytes_eq}
use Rattle.sg_base.proofs.Cases.{chosen, guarded, is_name, map_some, none_some, some_is}
use Rattle.sg_base.proofs.Cuts.{cut_again, cut_takes, lacks_append}
use Rattle.sg_base.proofs.Decimals.{number_again, number_takes}
use Rattle.sg_base.proofs.FourNumbers.{bind_some, decimal_lacks}
use Rattle.sg_base.specs.Fields.{Lacks, cut_at, number_at}
use Rattle.sg_base.specs.declared.addresses.CallId.{CallId}
use Rattle.sg_base.specs.declared.faults.DropCause.{DropCause}
use Rattle.sg_base.specs.declared.faults.ScriptFault.{ScriptFault}
use Rattle.sg_outcome.specs.OutcomeFields.{FitsOutcome}
use Rattle.sg_outcome.specs.OutcomeOf.{outcome_of}
use Rattle.sg_outcome.specs.OutcomeText.{drop_cause_name, drop_cause_numbers, outcome_line}
use Rattle.sg_outcome.specs.declared.outcomes.Outcome.{Outcome}
use Rattle.sg_outcome.specs.declared.outcomes.Outcome.TheVariants.{Dropped, Made}
use Rattle.sg_pairs.specs.BridgeOutcomeOf.{FitsBridgeOutcome, FitsCallId, FitsJoinFault, as_joined, as_lost, as_parted, as_table, body_at, bridge_outcome_of, call_at, calls_at, join_fault_at, plain_fault_at, told_by_word, told_of_one, unjoined_at}
use Rattle.sg_pairs.specs.BridgeText.{bridge_outcome_line, join_fault_text}
use Rattle.sg_pairs.specs.declared.faults.JoinFault.{JoinFault}
use Rattle.sg_pairs.specs.declared.faults.JoinFault.TheVariants as faults
use Rattle.sg_pairs.specs.declared.outcomes.BridgeOutcome.{BridgeOutcome}
use Rattle.sg_pairs.specs.declared.outcomes.BridgeOutcome.TheVariants as tells

abbrev pub behind : ℕ → DropCause → List ℕ
behind port cause = decimal port ++ codes " " ++ drop_cause_name cause ++ drop_cause_numbers cause ++ codes "\n"

pub drop_is : (port : ℕ) (cause : DropCause) → outcome_line (Dropped port cause) ≡ codes "drop " ++ behind port cause
unfolding outcome_line
drop_is port cause = refl

pub lost_is : (port : ℕ) (cause : DropCause) → bridge_outcome_line (tells.Lost port cause) ≡ codes "lost " ++ behind port cause
unfolding bridge_outcome_line
lost_is port cause = refl

pub has_word : (port : ℕ) (cause : DropCause) (line : List ℕ) → line ≡ outcome_line (Dropped port cause) → 5 ≤ length line
has_word port cause line is = omega (arith, ap length (is ∙ drop_is port cause))

pub lost_line : (port : ℕ) (cause : DropCause) (line out : List ℕ) → line ≡ outcome_line (Dropped port cause)
    → (out ++ codes "lost ") ++ drop 5 line ≡ out ++ bridge_outcome_line (tells.Lost port cause)
lost_line port cause line out is =
    append_assoc out (codes "lost ") (drop 5 line) ∙ ap (λ (l : List ℕ). out ++ (codes "lost " ++ drop 5 l)) (is ∙ drop_is port cause) ∙ ap (λ (l : List ℕ). out ++ l) (sym (lost_is port cause))

-- ---- calls, and lines that end

call_again : (c : CallId) → FitsCallId c → call_at (decimal c.0) ≡ Some c
unfolding call_at
call_again c fits = rw (number_again 4294967295 c.0 (omega (arith, fits)) (lit< tt)) refl

call_takes : (t : List ℕ) (c : CallId) → call_at t ≡ Some c → (t ≡ decimal c.0) × FitsCallId c
unfolding call_at
call_takes t c e =
    let n = map_some (number_at 4294967295 t) (λ n. record { 0 = n }) c e in
    let same : n.0 ≡ c.0 = ap (λ (x : CallId). x.0) n.2 in
    let digits = number_takes 4294967295 t n.0 n.1 in
    (digits.0 ∙ ap decimal same, (let small = digits.1 in omega (arith, small, same)))

lacks : (octet : ℕ) → octet < 48 → (c : CallId) → FitsCallId c → Lacks octet (decimal c.0)
lacks octet low c fits = decimal_lacks octet c.0 (omega (arith, fits)) (inl low)

body_again : (t : List ℕ) → Lacks 10 t → body_at (t ++ 10 ∷ []) ≡ Some t
unfolding body_at
body_again t none = rw (cut_again 10 t [] none) refl

no_more : (xs : List ℕ) → eqb (length xs) 0 ≡ true → xs ≡ []
no_more [] e = refl
no_more (x ∷ xs) e = absurd (omega (arith, eqb-true (length (x ∷ xs)) 0 e))

body_takes : (text t : List ℕ) → body_at text ≡ Some t → text ≡ t ++ 10 ∷ []
unfolding body_at
body_takes text t e =
    let parts = bind_some (cut_at 10 text) _ t e in
    let one = guarded (eqb (length parts.0.1) 0) parts.0.0 t parts.2 in
    cut_takes 10 text parts.0.0 parts.0.1 parts.1 ∙ (λ i. one.1 i ++ 10 ∷ no_more parts.0.1 one.0 i)

-- ---- two calls

abbrev two : CallId → CallId → List ℕ
two a b = decimal a.0 ++ 32 ∷ decimal b.0

calls_again : (a b : CallId) → FitsCallId a → FitsCallId b → calls_at (two a b ++ 10 ∷ []) ≡ Some (a, b)
unfolding calls_at
calls_again a b fits_a fits_b =
    rw (
      body_again (two a b) (lacks_append 10 (decimal a.0) (32 ∷ decimal b.0) (lacks 10 (lit< tt) a fits_a) (refl, lacks 10 (lit< tt) b fits_b)),
      cut_again 32 (decimal a.0) (decimal b.0) (lacks 32 (lit< tt) a fits_a),
      call_again a fits_a,
      call_again b fits_b,
    ) refl

-- what was read of two calls
pub record AreRead (text : List ℕ) (a b : CallId) : Type 0 where
  pub text_is : text ≡ two a b ++ 10 ∷ []
  pub fits : FitsCallId a × FitsCallId b

calls_takes : (text : List ℕ) (calls : CallId × CallId) → calls_at text ≡ Some calls → AreRead text calls.0 calls.1
unfolding calls_at
calls_takes text calls e =
    let body = bind_some (body_at text) _ calls e in
    let parts = bind_some (cut_at 32 body.0) _ calls body.2 in
    let first = bind_some (call_at parts.0.0) _ calls parts.2 in
    let second = bind_some (call_at parts.0.1) _ calls first.2 in
    let both : (first.0, second.0) ≡ calls = some_is _ _ second.2 in
    let one : first.0 ≡ calls.0 = ap (λ (p : CallId × CallId). p.0) both in
    let other : second.0 ≡ calls.1 = ap (λ (p : CallId × CallId). p.1) both in
    let a = call_takes parts.0.0 calls.0 (first.1 ∙ ap (λ (c : CallId). Some c) one) in
    let b = call_takes parts.0.1 calls.1 (second.1 ∙ ap (λ (c : CallId). Some c) other) in
    record {
      text_is = body_takes text body.0 body.1 ∙ ap (λ (l : List ℕ). l ++ 10 ∷ []) (cut_takes 32 body.0 parts.0.0 parts.0.1 parts.1 ∙ (λ i. a.0 i ++ 32 ∷ b.0 i));
      fits = (a.1, b.1);
    }

-- ---- causes

fault_again : (f : JoinFault) → FitsJoinFault f → join_fault_at (join_fault_text f) ≡ Some f
unfolding join_fault_at plain_fault_at
fault_again (faults.Joined call) fits = ap (λ (o : Option CallId). option_map faults.Joined o) (call_again call fits)
fault_again other fits = refl

-- a text that begins with another
begins : (needle t : List ℕ) → starts_with nat_eq t needle ≡ true → t ≡ needle ++ drop (length needle) t
begins needle t e =
    sym (take-append-drop (length needle) t)
    ∙ ap (λ (l : List ℕ). l ++ drop (length needle) t) (sym ((bytes_eq-Decides needle (take (length needle) t)).0 e))

abbrev IsNamed : List ℕ → JoinFault → Type 0
IsNamed name f = (name ≡ join_fault_text f) × FitsJoinFault f

-- a name is this fault's, or one of the others
named : (name word : List ℕ) (g f : JoinFault) (rest : Option JoinFault) → word ≡ join_fault_text g → FitsJoinFault g → (rest ≡ Some f → IsNamed name f) → cond (bytes_eq name word) (Some g) rest ≡ Some f → IsNamed name f
named name word g f rest word_is fits others e = elim (chosen (bytes_eq name word) (Some g) rest (Some f) e) [
  | inl h ↦ (let one : g ≡ f = some_is g f h.1 in (is_name name word h.0 ∙ word_is ∙ ap join_fault_text one, Rattle.std.proofs.Common.subst FitsJoinFault one fits))
  | inr h ↦ others h.1
]

plain_takes : (name : List ℕ) (f : JoinFault) → plain_fault_at name ≡ Some f → IsNamed name f
unfolding plain_fault_at
plain_takes name f e =
    named name (codes "CallUnknown") faults.CallUnknown f _ refl tt
    (named name (codes "Same") faults.Same f _ refl tt
    (named name (codes "Unready") faults.Unready f _ refl tt
    (named name (codes "MediaCount") faults.MediaCount f _ refl tt
    (named name (codes "NotJoined") faults.NotJoined f None refl tt (λ none. absurd (none_some f none)))))) e

fault_takes : (text : List ℕ) (f : JoinFault) → join_fault_at text ≡ Some f → IsNamed text f
unfolding join_fault_at
fault_takes text f e =
    elim (chosen (starts_with nat_eq text (codes "Joined ")) (option_map faults.Joined (call_at (drop 7 text))) (plain_fault_at text) (Some f) e) [
      | inl h ↦
          (let c = map_some (call_at (drop 7 text)) faults.Joined f h.1 in
          let digits = call_takes (drop 7 text) c.0 c.1 in
          (begins (codes "Joined ") text h.0 ∙ ap (λ (l : List ℕ). codes "Joined " ++ l) digits.0 ∙ ap join_fault_text c.2, Rattle.std.proofs.Common.subst FitsJoinFault c.2 digits.1))
      | inr h ↦ plain_takes text f h.1
    ]

fault_lacks : (f : JoinFault) → FitsJoinFault f → Lacks 10 (join_fault_text f)
fault_lacks faults.CallUnknown fits = (refl, (refl, (refl, (refl, (refl, (refl, (refl, (refl, (refl, (refl, (refl, tt)))))))))))
fault_lacks faults.Same fits = (refl, (refl, (refl, (refl, tt))))
fault_lacks faults.Unready fits = (refl, (refl, (refl, (refl, (refl, (refl, (refl, tt)))))))
fault_lacks (faults.Joined call) fits = (refl, (refl, (refl, (refl, (refl, (refl, (refl, lacks 10 (lit< tt) call fits)))))))
fault_lacks faults.MediaCount fits = (refl, (refl, (refl, (refl, (refl, (refl, (refl, (refl, (refl, (refl, tt))))))))))
fault_lacks faults.NotJoined fits = (refl, (refl, (refl, (refl, (refl, (refl, (refl, (refl, (refl, tt)))))))))

abbrev why : CallId → JoinFault → List ℕ
why c f = decimal c.0 ++ 32 ∷ join_fault_text f

unjoined_again : (c : CallId) (f : JoinFault) → FitsCallId c → FitsJoinFault f → unjoined_at (why c f ++ 10 ∷ []) ≡ Some (tells.Unjoined c f)
unfolding unjoined_at
unjoined_again c f fits_c fits_f =
    rw (
      body_again (why c f) (lacks_append 10 (decimal c.0) (32 ∷ join_fault_text f) (lacks 10 (lit< tt) c fits_c) (refl, fault_lacks f fits_f)),
      cut_again 32 (decimal c.0) (join_fault_text f) (lacks 32 (lit< tt) c fits_c),
      call_again c fits_c,
      fault_again f fits_f,
    ) refl

-- what was read of a call that isn't joined or parted
pub record IsRead (text : List ℕ) (o : BridgeOutcome) : Type 0 where
  pub call : CallId
  pub cause : JoinFault
  pub is : tells.Unjoined call cause ≡ o
  pub text_is : text ≡ why call cause ++ 10 ∷ []
  pub fits : FitsCallId call × FitsJoinFault cause

unjoined_takes : (text : List ℕ) (o : BridgeOutcome) → unjoined_at text ≡ Some o → IsRead text o
unfolding unjoined_at
unjoined_takes text o e =
    let body = bind_some (body_at text) _ o e in
    let parts = bind_some (cut_at 32 body.0) _ o body.2 in
    let c = bind_some (call_at parts.0.0) _ o parts.2 in
    let f = bind_some (join_fault_at parts.0.1) _ o c.2 in
    let a = call_takes parts.0.0 c.0 c.1 in
    let b = fault_takes parts.0.1 f.0 f.1 in
    record {
      call = c.0;
      cause = f.0;
      is = some_is _ _ f.2;
      text_is = body_takes text body.0 body.1 ∙ ap (λ (l : List ℕ). l ++ 10 ∷ []) (cut_takes 32 body.0 parts.0.0 parts.0.1 parts.1 ∙ (λ i. a.0 i ++ 32 ∷ b.0 i));
      fits = (a.1, b.1);
    }

-- ---- lines

joined_is : (a b : CallId) → bridge_outcome_line (tells.Joined a b) ≡ codes "joined " ++ (two a b ++ 10 ∷ [])
unfolding bridge_outcome_line
joined_is a b = ap (λ (l : List ℕ). codes "joined " ++ (l ++ 10 ∷ [])) (append_assoc (decimal a.0) (32 ∷ []) (decimal b.0))

parted_is : (a b : CallId) → bridge_outcome_line (tells.Parted a b) ≡ codes "parted " ++ (two a b ++ 10 ∷ [])
unfolding bridge_outcome_line
parted_is a b = ap (λ (l : List ℕ). codes "parted " ++ (l ++ 10 ∷ [])) (append_assoc (decimal a.0) (32 ∷ []) (decimal b.0))

unjoined_is : (c : CallId) (f : JoinFault) → bridge_outcome_line (tells.Unjoined c f) ≡ codes "unjoined " ++ (why c f ++ 10 ∷ [])
unfolding bridge_outcome_line
unjoined_is c f = ap (λ (l : List ℕ). codes "unjoined " ++ (l ++ 10 ∷ [])) (append_assoc (decimal c.0) (32 ∷ []) (join_fault_text f))

table_is : (o : Outcome) → bridge_outcome_line (tells.Table o) ≡ outcome_line o
unfolding bridge_outcome_line
table_is o = refl

-- a line of the table begins with none of the four words
told_as_table : (o : Outcome) → told_by_word (outcome_line o) ≡ as_table (outcome_of (outcome_line o))
unfolding told_by_word told_of_one outcome_line
told_as_table (Made id slot media) = refl
told_as_table other = refl

-- a line with one of the words is told by what stands behind it
told_joined : (rest : List ℕ) → told_by_word (codes "joined " ++ rest) ≡ option_map as_joined (calls_at rest)
unfolding told_by_word
told_joined rest = refl

told_parted : (rest : List ℕ) → told_by_word (codes "parted " ++ rest) ≡ option_map as_parted (calls_at rest)
unfolding told_by_word
told_parted rest = refl

told_unjoined : (rest : List ℕ) → told_by_word (codes "unjoined " ++ rest) ≡ unjoined_at rest
unfolding told_by_word told_of_one
told_unjoined rest = refl

told_lost : (rest : List ℕ) → told_by_word (codes "lost " ++ rest) ≡ as_lost (outcome_of (codes "drop " ++ rest))
unfolding told_by_word told_of_one
told_lost rest = refl

-- ---- outcomes

as_table_takes : (r : Result Outcome ScriptFault) (o : BridgeOutcome) → as_table r ≡ Some o → (x : Outcome) × (r ≡ Ok x) × (tells.Table x ≡ o)
as_table_takes (Ok x) o e = (x, refl, some_is _ _ e)
as_table_takes (Err fault) o e = absurd (none_some o e)

pub record IsLostOf (r : Result Outcome ScriptFault) (o : BridgeOutcome) : Type 0 where
  pub port : ℕ
  pub cause : Rattle.sg_base.specs.declared.faults.DropCause.DropCause
  pub read : r ≡ Ok (Dropped port cause)
  pub is : tells.Lost port cause ≡ o

as_lost_takes : (r : Result Outcome ScriptFault) (o : BridgeOutcome) → as_lost r ≡ Some o → IsLostOf r o
as_lost_takes (Ok (Dropped port cause)) o e = record { port = port; cause = cause; read = refl; is = some_is _ _ e }
as_lost_takes (Err fault) o e = absurd (none_some o e)
as_lost_takes (Ok other) o e = absurd (none_some o e)

abbrev Spelled : List ℕ → BridgeOutcome → Type 0
Spelled line o = FitsBridgeOutcome o × (line ≡ bridge_outcome_line o)

module _ (again : (o : Outcome) → FitsOutcome o → length (outcome_line o) ≤ 70000 → outcome_of (outcome_line o) ≡ Ok o) (takes : (octets : List ℕ) (o : Outcome) → outcome_of octets ≡ Ok o → (octets ≡ outcome_line o) × FitsOutcome o) where
  told_again : (o : BridgeOutcome) → FitsBridgeOutcome o → length (bridge_outcome_line o) ≤ 70000 → told_by_word (bridge_outcome_line o) ≡ Some o
  told_again (tells.Table o) fits short =
      ap told_by_word (table_is o) ∙ told_as_table o ∙ ap as_table (again o fits (let e : length (bridge_outcome_line (tells.Table o)) ≡ length (outcome_line o) = ap length (table_is o) in omega (arith, short, e)))
  told_again (tells.Joined a b) fits short = ap told_by_word (joined_is a b) ∙ told_joined (two a b ++ 10 ∷ []) ∙ ap (λ o. option_map as_joined o) (calls_again a b fits.0 fits.1)
  told_again (tells.Parted a b) fits short = ap told_by_word (parted_is a b) ∙ told_parted (two a b ++ 10 ∷ []) ∙ ap (λ o. option_map as_parted o) (calls_again a b fits.0 fits.1)
  told_again (tells.Unjoined c f) fits short = ap told_by_word (unjoined_is c f) ∙ told_unjoined (why c f ++ 10 ∷ []) ∙ unjoined_again c f fits.0 fits.1
  told_again (tells.Lost port cause) fits short =
      let e : length (bridge_outcome_line (tells.Lost port cause)) ≡ length (outcome_line (Dropped port cause)) = ap length (lost_is port cause) ∙ sym (ap length (drop_is port cause)) in
      ap told_by_word (lost_is port cause) ∙ told_lost (behind port cause) ∙ ap (λ (l : List ℕ). as_lost (outcome_of l)) (sym (drop_is port cause))
      ∙ ap as_lost (again (Dropped port cause) fits (omega (arith, short, e)))

  spelled_as : (line : List ℕ) (o p : BridgeOutcome) → p ≡ o → FitsBridgeOutcome p → line ≡ bridge_outcome_line p → Spelled line o
  spelled_as line o p same fits is = (Rattle.std.proofs.Common.subst FitsBridgeOutcome same fits, is ∙ ap bridge_outcome_line same)

  by_table : (line : List ℕ) (o : BridgeOutcome) → as_table (outcome_of line) ≡ Some o → Spelled line o
  by_table line o e =
      let x = as_table_takes (outcome_of line) o e in
      let t = takes line x.0 x.1 in
      spelled_as line o (tells.Table x.0) x.2 t.1 (t.0 ∙ sym (table_is x.0))

  by_lost : (line : List ℕ) (o : BridgeOutcome) → starts_with nat_eq line (codes "lost ") ≡ true → as_lost (outcome_of (codes "drop " ++ drop 5 line)) ≡ Some o → Spelled line o
  by_lost line o begun e =
      let x = as_lost_takes (outcome_of (codes "drop " ++ drop 5 line)) o e in
      let t = takes (codes "drop " ++ drop 5 line) (Dropped x.port x.cause) x.read in
      let rest : drop 5 line ≡ behind x.port x.cause = ap (λ (l : List ℕ). drop 5 l) (t.0 ∙ drop_is x.port x.cause) in
      spelled_as line o (tells.Lost x.port x.cause) x.is t.1 (begins (codes "lost ") line begun ∙ ap (λ (l : List ℕ). codes "lost " ++ l) rest ∙ sym (lost_is x.port x.cause))

  by_unjoined : (line : List ℕ) (o : BridgeOutcome) → starts_with nat_eq line (codes "unjoined ") ≡ true → unjoined_at (drop 9 line) ≡ Some o → Spelled line o
  by_unjoined line o begun e =
      let x = unjoined_takes (drop 9 line) o e in
      spelled_as line o (tells.Unjoined x.call x.cause) x.is x.fits (begins (codes "unjoined ") line begun ∙ ap (λ (l : List ℕ). codes "unjoined " ++ l) x.text_is ∙ sym (unjoined_is x.call x.cause))

  by_parted : (line : List ℕ) (o : BridgeOutcome) → starts_with nat_eq line (codes "parted ") ≡ true → option_map as_parted (calls_at (drop 7 line)) ≡ Some o → Spelled line o
  by_parted line o begun e =
      let c = map_some (calls_at (drop 7 line)) as_parted o e in
      let x = calls_takes (drop 7 line) c.0 c.1 in
      spelled_as line o (tells.Parted c.0.0 c.0.1) c.2 x.fits (begins (codes "parted ") line begun ∙ ap (λ (l : List ℕ). codes "parted " ++ l) x.text_is ∙ sym (parted_is c.0.0 c.0.1))

  by_joined : (line : List ℕ) (o : BridgeOutcome) → starts_with nat_eq line (codes "joined ") ≡ true → option_map as_joined (calls_at (drop 7 line)) ≡ Some o → Spelled line o
  by_joined line o begun e =
      let c = map_some (calls_at (drop 7 line)) as_joined o e in
      let x = calls_takes (drop 7 line) c.0 c.1 in
      spelled_as line o (tells.Joined c.0.0 c.0.1) c.2 x.fits (begins (codes "joined ") line begun ∙ ap (λ (l : List ℕ). codes "joined " ++ l) x.text_is ∙ sym (joined_is c.0.0 c.0.1))

  one_takes : (line : List ℕ) (o : BridgeOutcome) → told_of_one line ≡ Some o → Spelled line o
  unfolding told_of_one
  one_takes line o e =
      elim (chosen (starts_with nat_eq line (codes "unjoined ")) _ _ (Some o) e) [
        | inl h ↦ by_unjoined line o h.0 h.1
        | inr h ↦ elim (chosen (starts_with nat_eq line (codes "lost ")) _ _ (Some o) h.1) [
          | inl k ↦ by_lost line o k.0 k.1
          | inr k ↦ by_table line o k.1
        ]
      ]

  told_takes : (line : List ℕ) (o : BridgeOutcome) → told_by_word line ≡ Some o → Spelled line o
  unfolding told_by_word
  told_takes line o e =
      elim (chosen (starts_with nat_eq line (codes "joined ")) _ _ (Some o) e) [
        | inl h ↦ by_joined line o h.0 h.1
        | inr h ↦ elim (chosen (starts_with nat_eq line (codes "parted ")) _ _ (Some o) h.1) [
          | inl k ↦ by_parted line o k.0 k.1
          | inr k ↦ one_takes line o k.1
        ]
      ]

  pub line_again : (line : List ℕ) (o : BridgeOutcome) → FitsBridgeOutcome o → line ≡ bridge_outcome_line o → length line ≤ 70000 → bridge_outcome_of line ≡ Some o
  unfolding bridge_outcome_of
  line_again line o fits is short =
      rw (le-ltb 70000 (length line) short)
      (ap told_by_word is ∙ told_again o fits (let e : length line ≡ length (bridge_outcome_line o) = ap length is in omega (arith, short, e)))

  pub line_takes : (line : List ℕ) (o : BridgeOutcome) → bridge_outcome_of line ≡ Some o → FitsBridgeOutcome o × (line ≡ bridge_outcome_line o) × (length line ≤ 70000)
  unfolding bridge_outcome_of
  line_takes line o e =
      elim (chosen (ltb 70000 (length line)) None (told_by_word line) (Some o) e) [
        | inl h ↦ absurd (none_some o h.1)
        | inr h ↦ (let t = told_takes line o h.1 in (t.0, t.1, ltb-false 70000 (length line) h.0))
      ]
