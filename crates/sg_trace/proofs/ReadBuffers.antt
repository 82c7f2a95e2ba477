-- How octets go from a source through the read buffer into a line.
use Rattle.std.proofs.Common.{◌≡◌, ℕ, Bool, true, false, List, [], ◌∷◌, ◌++◌, Result, Ok, Err, sym, ap, ◌∙◌, append_assoc}
use Rattle.sg_trace.proofs.Common.{GivesLine, IsWhole, NoEnd, Tally}

-- two parts without a line end have none together
pub NoEnd-append : (line part : List ℕ) → NoEnd line → NoEnd part → NoEnd (line ++ part)
NoEnd-append [] part none more = more
NoEnd-append (x ∷ line) part none more = (none.0, NoEnd-append line part none.1 more)

-- a whole part behind one without a line end makes a whole line
pub IsWhole-append : (line part : List ℕ) → NoEnd line → IsWhole part → IsWhole (line ++ part)
IsWhole-append line part none whole =
    (line ++ whole.0, ap (λ (l : List ℕ). line ++ l) whole.1 ∙ sym (append_assoc line whole.0 (10 ∷ [])), NoEnd-append line whole.0 none whole.2)

-- what waited and came, once more has come to wait
pub filled : (f0 g l f1 g2 f2 : List ℕ) → f0 ++ g ≡ l ++ f1 → f2 ≡ f1 ++ g2 → f0 ++ (g ++ g2) ≡ l ++ f2
filled f0 g l f1 g2 f2 first second =
    sym (append_assoc f0 g g2) ∙ ap (λ (x : List ℕ). x ++ g2) first ∙ append_assoc l f1 g2 ∙ ap (λ (x : List ℕ). l ++ x) (sym second)

-- a part moved from what waits to the line
pub moved : (all l0 f1 f2 part l1 : List ℕ) → all ≡ l0 ++ f1 → f1 ≡ part ++ f2 → l1 ≡ l0 ++ part → all ≡ l1 ++ f2
moved all l0 f1 f2 part l1 is prefix line =
    is ∙ ap (λ (x : List ℕ). l0 ++ x) prefix ∙ sym (append_assoc l0 part f2) ∙ ap (λ (x : List ℕ). x ++ f2) (sym line)

-- whatever came of it, what waited and came went to the line, or waits
pub all_given : {E : Type 0} (r : Result Bool E) (line old new got : List ℕ) (left : Tally) (budget : ℕ) → GivesLine r line old new got left budget → old ++ got ≡ line ++ new
all_given (Ok true) line old new got left budget given = given.0
all_given (Ok false) line old new got left budget given = given.0 ∙ (λ i. sym given.1 i ++ sym given.2 i)
all_given (Err e) line old new got left budget given = given
