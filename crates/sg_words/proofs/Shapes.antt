-- What clap takes and finds of each way to write a command, whatever its numbers are.
use Rattle.std.proofs.Common.{◌≡◌, Bool, List, [], ◌∷◌, ◌++◌, codes, map, refl, subst, sym, true, false, Option, Some, None, inl, inr}
use Rattle.clap.specs.Words.{Shape, new_app}
use Rattle.clap.specs.Simple.{built_leaf, inherited, marked_built, with_leaf_noted}
use Rattle.clap.proofs.OnLiterals.{clap_on_literals}
use Rattle.sg_words.proofs.Entered.{IsName, IsSeen, seen_by, seen_so}
use Rattle.sg_words.proofs.Endings.{ends}
use Rattle.sg_words.proofs.ReadWords.{IsValue, Read, marked, plain, word}
use Rattle.sg_words.specs.Commands.{IsOneOf, Text, Words, closed, mux_option, with_option}
use Rattle.sg_words.specs.Grammar.{demo, relay, replay, srtpgw}
use Rattle.sg_words.specs.declared.spelling.Kind.{Kind}
use Rattle.sg_words.specs.declared.spelling.Kind.TheVariants.{Numbers, Options}

-- ---- the ways to write a command, as they are read

abbrev end : Read
end = marked (codes "--")

abbrev put_in : Read → List Read → List (List Read)
put_in r [] = (r ∷ []) ∷ []
put_in r (x ∷ xs) = (r ∷ x ∷ xs) ∷ map (λ others. x ∷ others) (put_in r xs)

abbrev reads_ended : Kind → List Read → List (List Read)
reads_ended Numbers rs = rs ∷ put_in end rs
reads_ended Options rs = rs ∷ (rs ++ end ∷ []) ∷ []

module _ (option value : Text) (is : IsValue value) (kind : Kind) where
  abbrev reads_before : List Read → List (List Read)
  reads_before rs =
      map (λ others. marked (option ++ codes "=" ++ value) ∷ others) (reads_ended kind rs) ++ map (λ others. marked option ∷ plain value is ∷ others) (reads_ended kind rs)

  abbrev reads_with : List Read → List (List Read)
  reads_with [] = reads_before []
  reads_with (r ∷ rs) = reads_before (r ∷ rs) ++ map (λ others. r ∷ others) (reads_with rs)

abbrev mux_read : Bool → List Read
mux_read true = marked (codes "--mux") ∷ []
mux_read false = []

-- ---- of all of them clap finds the same

module _ (name : Text) (s : Shape) (ids : List Text) (texts : List (Option Text)) (is : IsName name s) where
  all_seen : (rest : Words) (xs : List (List Read)) → map (seen_by s ids) xs ≡ map (λ x. ([], texts)) xs → IsOneOf rest (map (map word) xs) → IsSeen name ids texts rest
  all_seen rest [] same among = absurd among
  all_seen rest (x ∷ xs) same (inl e) = subst (IsSeen name ids texts) (sym e) (seen_so name s ids texts x is (cc))
  all_seen rest (x ∷ xs) same (inr among) = all_seen rest xs (cc) among

-- ---- the commands

-- a subcommand, built
abbrev pub leaf : Shape → Shape
leaf s = built_leaf (inherited (with_leaf_noted (marked_built srtpgw.top)) s)

replay_named : IsName (codes "replay") (leaf replay.top)
unfolding clap_on_literals
replay_named = record { met = refl; passes = refl; found = refl }

relay_named : IsName (codes "relay") (leaf relay.top)
unfolding clap_on_literals
relay_named = record { met = refl; passes = refl; found = refl }

demo_named : IsName (codes "demo") (leaf demo.top)
unfolding clap_on_literals
demo_named = record { met = refl; passes = refl; found = refl }

-- the text that clap gives an option that has no value
abbrev pub flag_text : Bool → Text
flag_text true = codes "true"
flag_text false = codes "false"

-- `replay` with its option
pub replay_with : (v : Text) → IsValue v → (mux : Bool) (rest : Words) → IsOneOf rest (with_option (codes "--workers") v closed (mux_option mux))
    → IsSeen (codes "replay") (codes "workers" ∷ codes "mux" ∷ []) (Some v ∷ Some (flag_text mux) ∷ []) rest
unfolding clap_on_literals
replay_with v is true rest among = all_seen _ _ _ _ replay_named rest (reads_with (codes "--workers") v is Options (mux_read true)) refl among
replay_with v is false rest among = all_seen _ _ _ _ replay_named rest (reads_with (codes "--workers") v is Options (mux_read false)) refl among

-- and without it
pub replay_without : (mux : Bool) (rest : Words) → IsOneOf rest (closed (mux_option mux))
    → IsSeen (codes "replay") (codes "workers" ∷ codes "mux" ∷ []) (None ∷ Some (flag_text mux) ∷ []) rest
unfolding clap_on_literals
replay_without true rest among = all_seen _ _ _ _ replay_named rest (reads_ended Options (mux_read true)) refl among
replay_without false rest among = all_seen _ _ _ _ replay_named rest (reads_ended Options (mux_read false)) refl among

-- `relay` with its option, and with `--bridge` behind it or before
pub relay_with : (v : Text) → IsValue v → (mux : Bool) (rest : Words) → IsOneOf rest (with_option (codes "--turns") v closed (mux_option mux))
    → IsSeen (codes "relay") (codes "turns" ∷ codes "mux" ∷ codes "bridge" ∷ []) (Some v ∷ Some (flag_text mux) ∷ Some (codes "false") ∷ []) rest
unfolding clap_on_literals
relay_with v is true rest among = all_seen _ _ _ _ relay_named rest (reads_with (codes "--turns") v is Options (mux_read true)) refl among
relay_with v is false rest among = all_seen _ _ _ _ relay_named rest (reads_with (codes "--turns") v is Options (mux_read false)) refl among

pub relay_joined_with : (v : Text) → IsValue v → (rest : Words) → IsOneOf rest (with_option (codes "--turns") v closed (codes "--bridge" ∷ []))
    → IsSeen (codes "relay") (codes "turns" ∷ codes "mux" ∷ codes "bridge" ∷ []) (Some v ∷ Some (codes "false") ∷ Some (codes "true") ∷ []) rest
unfolding clap_on_literals
relay_joined_with v is rest among = all_seen _ _ _ _ relay_named rest (reads_with (codes "--turns") v is Options (marked (codes "--bridge") ∷ [])) refl among

-- `demo` with its option: both numbers are found too
pub demo_with : (c s v : Text) → IsValue c → IsValue s → IsValue v → (rest : Words) → IsOneOf rest (with_option (codes "--workers") v (ends Numbers) (c ∷ s ∷ []))
    → IsSeen (codes "demo") (codes "calls" ∷ codes "start" ∷ codes "workers" ∷ []) (Some c ∷ Some s ∷ Some v ∷ []) rest
unfolding clap_on_literals
demo_with c s v ic is iv rest among =
    all_seen _ _ _ _ demo_named rest (reads_with (codes "--workers") v iv Numbers (plain c ic ∷ plain s is ∷ [])) refl among

-- and without it
pub demo_without : (c s : Text) → IsValue c → IsValue s → (rest : Words) → IsOneOf rest (ends Numbers (c ∷ s ∷ []))
    → IsSeen (codes "demo") (codes "calls" ∷ codes "start" ∷ codes "workers" ∷ []) (Some c ∷ Some s ∷ None ∷ []) rest
unfolding clap_on_literals
demo_without c s ic is rest among = all_seen _ _ _ _ demo_named rest (reads_ended Numbers (plain c ic ∷ plain s is ∷ [])) refl among

-- a command that is alone
pub lone_seen : (name : Text) → IsName name (leaf (new_app name).top) → (rest : Words) → IsOneOf rest (closed []) → IsSeen name [] [] rest
unfolding clap_on_literals
lone_seen name is rest among = all_seen _ _ _ _ is rest (reads_ended Options []) refl among
