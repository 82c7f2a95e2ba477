-- A run that tells everything as the gateway gives it.
use Rattle.std.proofs.Common.{◌≡◌, ◌⊎◌, inl, ℕ, List, [], ◌∷◌, map, refl, ap}
use Rattle.std.specs.List.{Any, AllByRecursion, slice_split}
use Rattle.std.proofs.lemmas.List.Elements.{All-from_recursion}
use Rattle.sg_outcome.specs.declared.outcomes.Outcome.TheVariants.{Made, Live, Sdp, Refused, Ended, Out, Dropped, Unsent}
use Rattle.sg_gateway.proofs.Common.{Event, Outcome, Turn, any_here, any_there, each_weaker, turns}
use Rattle.sg_gateway.specs.PlainTexts.{ends_line}
use Rattle.sg_passages.specs.Passages.{AddsMuxLines, ArePassagesOf, AreToldAs, IsFaithful, IsToldAs, mux_line, plain_passages, plainly, straight}

-- a text has its own lines and no others
own_lines : (lines : List (List ℕ)) → AllByRecursion (λ line. Any (λ l. l ≡ line) lines) lines
own_lines [] = tt
own_lines (l ∷ ls) = (any_here (λ m. m ≡ l) l ls refl, each_weaker (λ line. Any (λ m. m ≡ line) ls) _ (λ line own. any_there (λ m. m ≡ line) l ls own) ls (own_lines ls))

pub same_text : (text : List ℕ) → AddsMuxLines text text
same_text text =
    let lines : List (List ℕ) = slice_split ends_line text in
    let own = own_lines lines in record {
      added = All-from_recursion (λ line. Any (λ l. l ≡ line) lines ⊎ (line ≡ mux_line)) lines
          (each_weaker (λ line. Any (λ l. l ≡ line) lines) (λ line. Any (λ l. l ≡ line) lines ⊎ (line ≡ mux_line)) (λ line is. inl is) lines own);
      kept = All-from_recursion (λ line. Any (λ l. l ≡ line) lines) lines own;
    }

pub as_it_is : (o : Outcome) → IsToldAs straight o o
as_it_is (Dropped port cause) = (port, refl, inl refl)
as_it_is (Sdp id side text) = (text, refl, same_text text)
as_it_is other = refl

pub all_as_they_are : (os : List Outcome) → AreToldAs straight os os
all_as_they_are [] = refl
all_as_they_are (o ∷ os) = (o, os, refl, as_it_is o, all_as_they_are os)

faithful : (t : Turn) → IsFaithful (plainly t)
faithful t = record {
  told = all_as_they_are t.outcomes;
  legs = λ port to. inl refl;
  offers = λ id way noise text is. refl;
}

all_faithful : (ts : List Turn) → AllByRecursion IsFaithful (map plainly ts)
all_faithful [] = tt
all_faithful (t ∷ ts) = (faithful t, all_faithful ts)

turns_again : (ts : List Turn) → map (λ p. p.turn) (map plainly ts) ≡ ts
turns_again [] = refl
turns_again (t ∷ ts) = ap (λ us. t ∷ us) (turns_again ts)

pub plain_run : (events : List Event) → ArePassagesOf events (plain_passages events)
plain_run events = record { turns_are = turns_again (turns events); faithful = All-from_recursion IsFaithful _ (all_faithful (turns events)) }
