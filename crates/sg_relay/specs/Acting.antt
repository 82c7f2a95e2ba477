-- What is done for deeds, in order.
use Rattle.std.specs.Prelude.{◌≡◌, List, [], ◌++◌}
use Rattle.sg_relay.specs.Asked.{Act}

-- what is done for deeds from a state on, and the state after them
pub record Acting (S D : Type 0) : Type 0 where
  pub acts : S → List D → List Act
  pub after : S → List D → S

-- deeds are done in order
pub record GoInOrder {S D : Type 0} (a : Acting S D) : Type 0 where
  pub none_done : (s : S) → a.acts s [] ≡ []
  pub none_after : (s : S) → a.after s [] ≡ s
  pub acts : (s : S) (ds es : List D) → a.acts s (ds ++ es) ≡ a.acts s ds ++ a.acts (a.after s ds) es
  pub after : (s : S) (ds es : List D) → a.after s (ds ++ es) ≡ a.after (a.after s ds) es
