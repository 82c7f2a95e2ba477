-- The next line of a script, from what a line reader gave.
use Rattle.std.proofs.Common.{◌≡◌, ◌⊎◌, ◌<◌, ◌≤◌, ◌+◌, ◌^◌, ℕ, List, [], ◌++◌, length, Ok, Err, refl, sym, ap, ◌∙◌, subst, inl, inr, append_assoc, length-append, arith}
use Rattle.sg_lines.specs.declared.faults.ReadLineFault.TheVariants as faults
use Rattle.sg_trace.proofs.Common.{FirstFailsBy, Gives, GivesLine, IsFaultBy, IsFramed, IsLine, IsNextBy, IsReadBy, ReadLineFault, Reading, ScriptFault}
use Rattle.sg_trace.proofs.Common.{Spelling, Tally, refused_as, spelled_at}
use Rattle.sg_trace.proofs.Traces.{whole_some}
use Rattle.sg_trace.proofs.Frames.{first_fails, line_whole, still_fails, unended_at_end}

end_so : {P Q : Type 0} → P ⊎ Q → (Q → ⊥) → P
end_so (inl p) isnt = p
end_so (inr q) isnt = absurd (isnt q)

module _ {L : Type 0} (spelled : Spelling L) (followed : ℕ → L → ℕ) (framed : IsFramed spelled) (version n at : ℕ) (line waits rest got : List ℕ) (left : Tally) (budget : ℕ) (split : waits ++ got ≡ line ++ rest) (is : IsLine line rest left budget)
    (spent : budget ≡ 0 → rest ≡ [] → 2 ^ 30 < at + length line) where
  fault_so : (fault : ScriptFault) → spelled_at spelled version n at line ≡ Err fault → IsFaultBy spelled version n at (waits ++ got) fault left
  fault_so fault fails = record {
    first = subst (λ (o : List ℕ). FirstFailsBy spelled version n at o fault) (sym split) (first_fails spelled framed version n at line rest _ fault is fails);
    ended = λ same. (let last = unended_at_end spelled framed version n at line rest _ is (fails ∙ ap Err same) in end_so last.1 (λ zero. let far = spent zero last.0 in let near = last.2 in omega (arith, far, near)));
    still = λ other more.
        subst (λ (o : List ℕ). FirstFailsBy spelled version n at o fault) (sym (append_assoc line rest more) ∙ ap (λ (l : List ℕ). l ++ more) (sym split))
        (still_fails spelled framed version n at line rest _ fault is fails other (rest ++ more));
  }

  -- the line's fault
  pub next_err : (fault : ReadLineFault) (budget' : ℕ) (new : Reading) → Gives (Err fault) (spelled_at spelled version n at line)
      → IsNextBy spelled followed (Err (refused_as n fault)) (record { waits = waits; version = version; number = n; offset = at; budget = budget' }) new got left
  next_err faults.NoMemory budget' new gives = tt
  next_err (faults.Script fault) budget' new gives = (refl, fault_so fault gives)

  -- the line itself
  pub next_ok : (l : L) (budget' : ℕ) → spelled_at spelled version n at line ≡ Ok l
      → IsReadBy spelled followed l (record { waits = waits; version = version; number = n; offset = at; budget = budget' }) (record { waits = rest; version = followed version l; number = n + 1; offset = at + length line; budget = budget }) got
  next_ok l budget' read =
      let whole = line_whole spelled framed version n at line rest _ l is read in
      record { line = line; split = split; whole = whole.0; is = read; version = refl; number = refl; offset = refl; within = whole.1 }

-- what a line reader gave, at the value that it answered
pub given_at : (E : Type 0) (r b : _) (line old new got : List ℕ) (left : Tally) (budget : ℕ) → r ≡ b → GivesLine {E = E} (Ok r) line old new got left budget → GivesLine {E = E} (Ok b) line old new got left budget
given_at E r b line old new got left budget is given = subst (λ v. GivesLine {E = E} (Ok v) line old new got left budget) is given

-- a line isn't empty
pub line_some : (line rest : List ℕ) (left : Tally) (budget : ℕ) → IsLine line rest left budget → 0 < length line
line_some line rest left budget (inl whole) = whole_some line whole
line_some line rest left budget (inr unended) = unended.1

-- how many octets wait behind a line, and are ahead where there is none
pub near_so : (line old new got : List ℕ) (budget budget' : ℕ) → old ++ got ≡ line ++ new → length got + budget' ≡ budget → (length old ≤ 4096 → (length new ≤ 4096) × (length line ≤ 70001))
    → length old ≤ 4096 → (length new ≤ 4096) × (length old + budget ≤ budget' + 74097)
near_so line old new got budget budget' split paid near few = let most = near few in (most.0, omega (arith, most.0, most.1, paid, ap length split, length-append old got, length-append line new))
