-- The turns of a round, one by one.
use Rattle.std.proofs.Common.{◌≡◌, ℕ, ◌+◌, ◌<◌, ◌≤◌, List, [], ◌∷◌, ◌++◌, length, get_or, set, drop, fold, refl, sym, ap, ◌∙◌, subst, arith}
use Rattle.std.proofs.lemmas.List.{append-nil, drop_all, length_push, length-append, length-drop}
use Rattle.std.specs.List.{AllZip}
use Rattle.rand_pcg.specs.Lcg.{Lcg}
use Rattle.sg_demo.specs.Actions.{action_of}
use Rattle.sg_demo.specs.Callers as demo
use Rattle.sg_demo.specs.Rounds.{HasGathered}
use Rattle.sg_demo.specs.Standing.{CallerStandsFor}
use Rattle.sg_demo.specs.Turns.{Arriving, Turn, Turns, turn_of, turns_of, with_turn}
use Rattle.sg_demo.specs.Words.{next_word}
use Rattle.sg_demo.specs.declared.action.Action.{Action}
use Rattle.sg_demo.specs.declared.caller.Caller.{Caller}
use Rattle.sg_demo.specs.declared.round.Round.{Round}
use Rattle.sg_demo.proofs.Lists.{IsNext, next_at, zip_at, zip_more, zip_long}

-- so many calls had their turns
pub record IsTurning (start words : Lcg) (callers : List Caller) (round : Round) (cs : List demo.Caller) (i : ℕ) : Type 0 where
  pub turns : Turns
  pub goes : fold with_turn turns (drop i cs) ≡ turns_of start cs
  pub words_are : words ≡ turns.words
  pub callers_stand : AllZip CallerStandsFor callers (turns.callers ++ drop i cs)
  pub many : length turns.callers ≡ i
  pub gathered : HasGathered round turns.sealed turns.arrivals

pub turning_starts : (words : Lcg) (callers : List Caller) (round : Round) (cs : List demo.Caller) → AllZip CallerStandsFor callers cs → HasGathered round 0 [] → IsTurning words words callers round cs 0
turning_starts words callers round cs stand gathered = record {
  turns = record { words = words; callers = []; sealed = 0; arrivals = [] };
  goes = refl;
  words_are = refl;
  callers_stand = stand;
  many = refl;
  gathered = gathered;
}

-- what a turn does to a call and to what is gathered
abbrev pub Takes : Action → ℕ → Caller → Caller → Round → Round → Type 0
Takes action position old new round round' = (c : demo.Caller) (n : ℕ) (arrivals : List Arriving) → CallerStandsFor old c → HasGathered round n arrivals
    → CallerStandsFor new (turn_of action position c).caller × HasGathered round' (n + (turn_of action position c).sealed) (arrivals ++ (turn_of action position c).arrivals)

pub turning_goes : (start words words' : Lcg) (callers : List Caller) (old new e : Caller) (round round' : Round) (cs : List demo.Caller) (i : ℕ) (action : Action)
    → i < length callers → old ≡ get_or callers i e → action ≡ action_of (next_word words).0 → words' ≡ (next_word words).1 → Takes action i old new round round'
    → IsTurning start words callers round cs i → IsTurning start words' (set callers i new) round' cs (i + 1)
turning_goes start words words' callers old new e round round' cs i action below read drawn words_are takes going =
    let t = going.turns in
    let long : length callers ≡ length (t.callers ++ drop i cs) = zip_long CallerStandsFor callers _ going.callers_stand in
    let here : i < length cs = omega (arith, below, long, length-append t.callers (drop i cs), length-drop i cs, going.many) in
    let next : IsNext demo.Caller cs i = next_at cs i here in
    let c = next.item in
    let stand : AllZip CallerStandsFor callers (t.callers ++ c ∷ drop (i + 1) cs) = subst (λ (l : List demo.Caller). AllZip CallerStandsFor callers (t.callers ++ l)) next.are going.callers_stand in
    let at : CallerStandsFor (get_or callers (length t.callers) e) c = zip_at CallerStandsFor callers t.callers c (drop (i + 1) cs) e stand in
    let caller : CallerStandsFor old c = subst (λ (x : Caller). CallerStandsFor x c) (sym read) (subst (λ (n : ℕ). CallerStandsFor (get_or callers n e) c) going.many at) in
    let turn : turn_of action i c ≡ turn_of (action_of (next_word t.words).0) (length t.callers) c =
    ap (λ (a : Action). turn_of a i c) (drawn ∙ ap (λ (g : Lcg). action_of (next_word g).0) going.words_are) ∙ ap (λ (n : ℕ). turn_of (action_of (next_word t.words).0) n c) (sym going.many) in
    let did = takes c t.sealed t.arrivals caller going.gathered in
    record {
      turns = with_turn t c;
      goes = sym (ap (fold with_turn t) next.are) ∙ going.goes;
      words_are = words_are ∙ ap (λ (g : Lcg). (next_word g).1) going.words_are;
      callers_stand = subst (λ (n : ℕ). AllZip CallerStandsFor (set callers n new) ((with_turn t c).callers ++ drop (i + 1) cs)) going.many
          (zip_more CallerStandsFor callers t.callers c (drop (i + 1) cs) new _ stand (subst (λ (u : Turn). CallerStandsFor new u.caller) turn did.0));
      many = length_push t.callers _ ∙ ap (λ (n : ℕ). n + 1) going.many;
      gathered = subst (λ (u : Turn). HasGathered round' (t.sealed + u.sealed) (t.arrivals ++ u.arrivals)) turn did.1;
    }

pub turning_ends : (start words : Lcg) (callers : List Caller) (round : Round) (cs : List demo.Caller) (i : ℕ) → length cs ≤ i → IsTurning start words callers round cs i
    → (words ≡ (turns_of start cs).words) × AllZip CallerStandsFor callers (turns_of start cs).callers × HasGathered round (turns_of start cs).sealed (turns_of start cs).arrivals
turning_ends start words callers round cs i past going =
    let none : drop i cs ≡ [] = drop_all i cs past in
    let same : going.turns ≡ turns_of start cs = sym (ap (fold with_turn going.turns) none) ∙ going.goes in
    let stand : AllZip CallerStandsFor callers going.turns.callers =
    subst (λ (l : List demo.Caller). AllZip CallerStandsFor callers l) (append-nil going.turns.callers) (subst (λ (l : List demo.Caller). AllZip CallerStandsFor callers (going.turns.callers ++ l)) none going.callers_stand) in (
      going.words_are ∙ ap (λ (t : Turns). t.words) same,
      subst (λ (t : Turns). AllZip CallerStandsFor callers t.callers) same stand,
      subst (λ (t : Turns). HasGathered round t.sealed t.arrivals) same going.gathered,
    )
