-- One session by itself: what it has done after a list of datagrams or packets.
use Rattle.std.specs.Prelude.{◌≡◌, ℕ, ◌≤◌, List, [], ◌∷◌, ◌++◌, Result, Ok, Err}
use Rattle.std.specs.List.{AllByRecursion, AllPairs}
use Rattle.sg_base.specs.declared.faults.DropCause.{DropCause}
use Rattle.sg_session.specs.Opening.{Taken, opens}
use Rattle.sg_session.specs.Sealing.{seals}
use Rattle.sg_session.specs.Session.{Key, Done, Session, count_of}

-- the session after it has taken something, or as it was
abbrev pub after : Session → Result Taken DropCause → Session
after s (Ok t) = record s { done = s.done ++ t.done ∷ [] }
after s (Err cause) = s

-- the session after it has tried to open each of these datagrams
abbrev pub opened_all : Session → List (List ℕ) → Session
opened_all s [] = s
opened_all s (d ∷ ds) = opened_all (after s (opens s d)) ds

-- the session after it has tried to seal each of these packets
abbrev pub sealed_all : Session → List (List ℕ) → Session
sealed_all s [] = s
sealed_all s (p ∷ ps) = sealed_all (after s (seals s p)) ps

-- two entries of one source and index
pub record IsSameIndex (a b : Done) : Type 0 where
  pub ssrc : a.ssrc ≡ b.ssrc
  pub index : a.index ≡ b.index

-- no two entries are of one source and index
abbrev pub NoneTwiceIn : Session → Type 0
NoneTwiceIn s = AllPairs (λ a b. IsSameIndex a b → ⊥) s.done

-- the keys have numbers of their own
abbrev pub HaveOwnNumbers : List Key → Type 0
HaveOwnNumbers [] = Unit {0}
HaveOwnNumbers (k ∷ ks) = AllByRecursion (λ l. k.number ≡ l.number → ⊥) ks × HaveOwnNumbers ks

-- no key has served more packets than its life
abbrev pub IsWithinLives : Session → Type 0
IsWithinLives s = AllByRecursion (λ k. count_of s k ≤ k.life) s.keys
