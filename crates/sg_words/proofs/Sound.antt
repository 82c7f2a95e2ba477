-- What is read is a command that the words are.
use Rattle.std.proofs.Common.{◌≡◌, ◌≤◌, ◌==◌, ◌&&◌, ℕ, Bool, true, false, cond, List, [], ◌∷◌, ◌++◌, codes, map, Option, Some, None, refl, sym, ap, ap₂, ◌∙◌, subst, inl, inr, arith, take, drop, length, take-append-drop, rules}
use Rattle.std.specs.Prelude.{nat_le, option_map, option_and_then}
use Rattle.std.specs.Bool.{⊤}
use Rattle.std.specs.Str.{bytes_eq}
use Rattle.std.specs.Fmt.{decimal}
use Rattle.std.proofs.lemmas.Bool.{and_parts, leb-true}
use Rattle.std.proofs.lemmas.Slice.Eq.{bytes_eq-Decides}
use Rattle.clap.specs.Words.{fault_of}
use Rattle.sg_base.specs.Fields.{number_at}
use Rattle.sg_base.proofs.Decimals.{number_takes}
use Rattle.sg_words.proofs.Among.{in_left, in_map, in_right}
use Rattle.sg_words.proofs.Endings.{ends}
use Rattle.sg_words.specs.Commands.{AreWordsOf, IsOneOf, IsWorkers, Text, Words, closed, lone, lone_name, with_end_mark, mux_option, option_before, put_in, with_option, with_workers}
use Rattle.sg_words.specs.Grammar.{srtpgw}
use Rattle.sg_words.specs.Reading.{alone_by, are, are_ended, command_by, demo_by, first_said, follows, have_option, is_joined, is_set, led_by, lone_by, may_end, no_fault, positive, relay_by, relay_for, replay_by, said_by, text_in, workers_by}
use Rattle.sg_words.specs.declared.command.Command.{Command}
use Rattle.sg_words.specs.declared.command.Command.TheVariants.{Replay, Demo}
use Rattle.sg_words.specs.declared.spelling.Kind.{Kind}
use Rattle.sg_words.specs.declared.spelling.Kind.TheVariants.{Numbers, Options}

same : (a b : List ℕ) → bytes_eq a b ≡ true → a ≡ b
same a b is = (bytes_eq-Decides a b).0 is

chosen : {A : Type 0} (b : Bool) (x : Option A) (y : A) → cond b x None ≡ Some y → (b ≡ true) × (x ≡ Some y)
chosen true x y is = (refl, is)
chosen false x y is = cc

-- ---- ways to write

are_so : (ws ts : Words) → are ws ts ≡ true → ws ≡ ts
are_so [] [] is = refl
are_so [] (t ∷ ts) is = absurd cc
are_so (w ∷ ws) [] is = absurd cc
are_so (w ∷ ws) (t ∷ ts) is = let p = and_parts _ _ is in ap₂ (λ (x : Text) (xs : Words). x ∷ xs) (same w t p.0) (are_so ws ts p.1)

first_in : (x : Text) (ts : Words) → IsOneOf (x ∷ ts) (put_in x ts)
first_in x [] = inl refl
first_in x (t ∷ ts) = inl refl

-- a lone `--` in front of texts that it may stand in front of
end_in : (kind : Kind) (ts : Words) → may_end kind ts ≡ true → IsOneOf (codes "--" ∷ ts) (ends kind ts)
end_in Numbers ts may = inr (first_in (codes "--") ts)
end_in Options [] may = inr (inl refl)
end_in Options (t ∷ ts) may = absurd cc

-- a text in front of others that are ended
later_in : (kind : Kind) (t : Text) (ws ts : Words) → IsOneOf ws (ends kind ts) → IsOneOf (t ∷ ws) (ends kind (t ∷ ts))
later_in Numbers t ws ts (inl whole) = inl (ap (λ (xs : Words). t ∷ xs) whole)
later_in Numbers t ws ts (inr put) = inr (inr (in_map (λ others. t ∷ others) ws (put_in (codes "--") ts) put))
later_in Options t ws ts (inl whole) = inl (ap (λ (xs : Words). t ∷ xs) whole)
later_in Options t ws ts (inr (inl put)) = inr (inl (ap (λ (xs : Words). t ∷ xs) put))
later_in Options t ws ts (inr (inr none)) = absurd none

ended_at : (w : Text) (ws : Words) (kind : Kind) (ts : Words) (b : Bool) → bytes_eq w (codes "--") ≡ b
    → cond b (may_end kind ts && are ws ts) (led_by w ts (are_ended ws kind)) ≡ true
    → ((others : Words) → are_ended ws kind others ≡ true → IsOneOf ws (ends kind others)) → IsOneOf (w ∷ ws) (ends kind ts)
ended_at w ws kind ts true e is rec =
    let p = and_parts _ _ is in
    subst (λ (l : Words). IsOneOf l (ends kind ts)) (sym (ap₂ (λ (x : Text) (xs : Words). x ∷ xs) (same w (codes "--") e) (are_so ws ts p.1))) (end_in kind ts p.0)
ended_at w ws kind [] false e is rec = absurd cc
ended_at w ws kind (t ∷ ts) false e is rec =
    let p = and_parts _ _ is in
    subst (λ (x : Text). IsOneOf (x ∷ ws) (ends kind (t ∷ ts))) (sym (same w t p.0)) (later_in kind t ws ts (rec ts p.1))

whole_in : (kind : Kind) (ts : Words) → IsOneOf ts (ends kind ts)
whole_in Numbers ts = inl refl
whole_in Options ts = inl refl

ended_so : (ws : Words) (kind : Kind) (ts : Words) → are_ended ws kind ts ≡ true → IsOneOf ws (ends kind ts)
ended_so [] kind [] is = whole_in kind []
ended_so [] kind (t ∷ ts) is = absurd cc
ended_so (w ∷ ws) kind ts is = ended_at w ws kind ts (bytes_eq w (codes "--")) refl is (ended_so ws kind)

joined_so : (w option value : Text) → is_joined w option value ≡ true → w ≡ option ++ value
joined_so w option value is =
    let p = and_parts _ _ is in
    sym (take-append-drop (length option) w) ∙ ap₂ (λ (l m : Text). l ++ m) (same (take (length option) w) option p.0) (same (drop (length option) w) value p.1)

module _ (option value : Text) (kind : Kind) where
  before_in : (ws ts : Words) → IsOneOf ws (option_before option value (ends kind) ts) → IsOneOf ws (with_option option value (ends kind) ts)
  before_in ws [] among = among
  before_in ws (t ∷ ts) among = in_left ws (option_before option value (ends kind) (t ∷ ts)) (map (λ others. t ∷ others) (with_option option value (ends kind) ts)) among

  joined_in : (w : Text) (ws ts : Words) → w ≡ option ++ codes "=" ++ value → IsOneOf ws (ends kind ts) → IsOneOf (w ∷ ws) (with_option option value (ends kind) ts)
  joined_in w ws ts is among =
      before_in (w ∷ ws) ts
      (subst (λ (x : Text). IsOneOf (x ∷ ws) (option_before option value (ends kind) ts)) (sym is)
      (in_left ((option ++ codes "=" ++ value) ∷ ws) (map (λ others. (option ++ codes "=" ++ value) ∷ others) (ends kind ts)) (map (λ others. option ∷ value ∷ others) (ends kind ts))
      (in_map (λ others. (option ++ codes "=" ++ value) ∷ others) ws (ends kind ts) among)))

  apart_in : (w x : Text) (ws ts : Words) → w ≡ option → x ≡ value → IsOneOf ws (ends kind ts) → IsOneOf (w ∷ x ∷ ws) (with_option option value (ends kind) ts)
  apart_in w x ws ts is next among =
      before_in (w ∷ x ∷ ws) ts
      (subst (λ (l : Words). IsOneOf l (option_before option value (ends kind) ts)) (sym (ap₂ (λ (a b : Text). a ∷ b ∷ ws) is next))
      (in_right (option ∷ value ∷ ws) (map (λ others. (option ++ codes "=" ++ value) ∷ others) (ends kind ts)) (map (λ others. option ∷ value ∷ others) (ends kind ts))
      (in_map (λ others. option ∷ value ∷ others) ws (ends kind ts) among)))

  follows_in : (w : Text) (ws ts : Words) → w ≡ option → follows ws value kind ts ≡ true → IsOneOf (w ∷ ws) (with_option option value (ends kind) ts)
  follows_in w [] ts is next = absurd cc
  follows_in w (x ∷ ws) ts is next =
      let p = and_parts _ _ next in
      apart_in w x ws ts is (same x value p.0) (ended_so ws kind ts p.1)

  option_later : (w : Text) (ws ts : Words) (b : Bool) → bytes_eq w option ≡ b
      → cond b (follows ws value kind ts) (led_by w ts (have_option ws option value kind)) ≡ true
      → ((others : Words) → have_option ws option value kind others ≡ true → IsOneOf ws (with_option option value (ends kind) others))
      → IsOneOf (w ∷ ws) (with_option option value (ends kind) ts)
  option_later w ws ts true e is rec = follows_in w ws ts (same w option e) is
  option_later w ws [] false e is rec = absurd cc
  option_later w ws (t ∷ ts) false e is rec =
      let p = and_parts _ _ is in
      subst (λ (x : Text). IsOneOf (x ∷ ws) (with_option option value (ends kind) (t ∷ ts))) (sym (same w t p.0))
      (in_right (t ∷ ws) (option_before option value (ends kind) (t ∷ ts)) (map (λ others. t ∷ others) (with_option option value (ends kind) ts))
      (in_map (λ others. t ∷ others) ws (with_option option value (ends kind) ts) (rec ts p.1)))

  option_at : (w : Text) (ws ts : Words) (b : Bool) → is_joined w (option ++ codes "=") value ≡ b
      → cond b (are_ended ws kind ts) (cond (bytes_eq w option) (follows ws value kind ts) (led_by w ts (have_option ws option value kind))) ≡ true
      → ((others : Words) → have_option ws option value kind others ≡ true → IsOneOf ws (with_option option value (ends kind) others))
      → IsOneOf (w ∷ ws) (with_option option value (ends kind) ts)
  option_at w ws ts true e is rec =
      joined_in w ws ts (joined_so w (option ++ codes "=") value e) (ended_so ws kind ts is)
  option_at w ws ts false e is rec = option_later w ws ts (bytes_eq w option) refl is rec

  option_so : (ws ts : Words) → have_option ws option value kind ts ≡ true → IsOneOf ws (with_option option value (ends kind) ts)
  option_so [] ts is = absurd cc
  option_so (w ∷ ws) ts is =
      option_at w ws ts (is_joined w (option ++ codes "=") value) refl is (option_so ws)

-- ---- numbers

positive_by : (most n : ℕ) (t : Text) (o : Option ℕ) → number_at most t ≡ o → option_and_then (λ m. cond (nat_le 1 m) (Some m) None) o ≡ Some n
    → (t ≡ decimal n) × (1 ≤ n) × (n ≤ most)
positive_by most n t None is found = absurd cc
positive_by most n t (Some m) is found =
    let p = chosen (nat_le 1 m) (Some m) n found in
    let e : m ≡ n = (let q = p.1 in cc) in
    let takes = number_takes most t n (is ∙ ap (λ x. Some x) e) in
    (takes.0, subst (λ x. 1 ≤ x) e (leb-true 1 m p.0), takes.1)

positive_so : (most n : ℕ) (t : Text) → positive most t ≡ Some n → (t ≡ decimal n) × (1 ≤ n) × (n ≤ most)
positive_so most n t found = positive_by most n t (number_at most t) refl found

workers_so : (ws : Words) (kind : Kind) (ts : Words) (o : Option Text) (n : ℕ) → workers_by ws kind ts o ≡ Some n
    → IsWorkers n × IsOneOf ws (with_workers n (ends kind) ts)
workers_so ws kind ts None n found =
    let p = chosen (are_ended ws kind ts) (Some 1) n found in
    let e : 1 ≡ n = (let q = p.1 in cc) in
    subst (λ x. IsWorkers x × IsOneOf ws (with_workers x (ends kind) ts)) e
    ((omega arith, omega arith), in_right ws (with_option (codes "--workers") (decimal 1) (ends kind) ts) (ends kind ts) (ended_so ws kind ts p.0))
workers_so ws kind ts (Some value) n found =
    let p = chosen (have_option ws (codes "--workers") value kind ts) (positive 16 value) n found in
    let q = positive_so 16 n value p.1 in (
      (q.1, q.2),
      in_left ws (with_option (codes "--workers") (decimal n) (ends kind) ts) (cond (n == 1) (ends kind ts) [])
          (subst (λ (v : Text). IsOneOf ws (with_option (codes "--workers") v (ends kind) ts)) q.0 (option_so (codes "--workers") value kind ws ts p.0)),
    )

-- ---- commands

replay_at : (ws : Words) (o : Option Text) (mux : Bool) (c : Command) (r : Option ℕ) → workers_by ws Options (mux_option mux) o ≡ r
    → option_map (λ n. Replay n mux) r ≡ Some c → AreWordsOf (codes "replay" ∷ ws) c
replay_at ws o mux c None is found = absurd cc
replay_at ws o mux c (Some n) is found =
    let e : Replay n mux ≡ c = cc in
    let w = workers_so ws Options (mux_option mux) o n is in
    subst (AreWordsOf (codes "replay" ∷ ws)) e (w.0, in_map (λ others. codes "replay" ∷ others) ws (with_workers n closed (mux_option mux)) w.1)

replay_so : (ws : Words) (o : Option Text) (mux : Bool) (c : Command) → replay_by ws o mux ≡ Some c → AreWordsOf (codes "replay" ∷ ws) c
replay_so ws o mux c found = replay_at ws o mux c (workers_by ws Options (mux_option mux) o) refl found

-- where the words are `relay`'s with these options, they are the command that is made of their number
module _ (ws : Words) (options : Words) (made : ℕ → Command) (c : Command)
    (so : (n : ℕ) → (1 ≤ n) × (n ≤ 1000000000) → IsOneOf ws (with_option (codes "--turns") (decimal n) closed options) → AreWordsOf (codes "relay" ∷ ws) (made n)) where
  relay_at : (value : Text) (r : Option ℕ) → have_option ws (codes "--turns") value Options options ≡ true
      → positive 1000000000 value ≡ r → option_map made r ≡ Some c → AreWordsOf (codes "relay" ∷ ws) c
  relay_at value None written is found = absurd cc
  relay_at value (Some n) written is found =
      let e : made n ≡ c = cc in
      let q = positive_so 1000000000 n value is in
      subst (AreWordsOf (codes "relay" ∷ ws)) e (so n (q.1, q.2)
      (subst (λ (v : Text). IsOneOf ws (with_option (codes "--turns") v closed options)) q.0 (option_so (codes "--turns") value Options ws options written)))

  relay_found : (value : Text) → cond (have_option ws (codes "--turns") value Options options) (option_map made (positive 1000000000 value)) None ≡ Some c
      → AreWordsOf (codes "relay" ∷ ws) c
  relay_found value found =
      let p = chosen (have_option ws (codes "--turns") value Options options) (option_map made (positive 1000000000 value)) c found in
      relay_at value (positive 1000000000 value) p.0 refl p.1

relay_so : (ws : Words) (o : Option Text) (mux bridge : Bool) (c : Command) → relay_by ws o mux bridge ≡ Some c → AreWordsOf (codes "relay" ∷ ws) c
relay_so ws None mux bridge c found = absurd cc
relay_so ws (Some value) mux false c found =
    relay_found ws (mux_option mux) (relay_for mux false) c
    (λ n good among. (good, in_map (λ others. codes "relay" ∷ others) ws (with_option (codes "--turns") (decimal n) closed (mux_option mux)) among)) value found
relay_so ws (Some value) false true c found =
    relay_found ws (codes "--bridge" ∷ []) (relay_for false true) c
    (λ n good among. (good, in_map (λ others. codes "relay" ∷ others) ws (with_option (codes "--turns") (decimal n) closed (codes "--bridge" ∷ [])) among)) value found
relay_so ws (Some value) true true c found = absurd cc

demo_last : (ws : Words) (calls start : Text) (o : Option Text) (c : Command) (n s : ℕ) (r : Option ℕ)
    → positive 256 calls ≡ Some n → number_at 18446744073709551615 start ≡ Some s → workers_by ws Numbers (calls ∷ start ∷ []) o ≡ r
    → option_map (λ w. Demo n s w) r ≡ Some c → AreWordsOf (codes "demo" ∷ ws) c
demo_last ws calls start o c n s None has_calls has_start is found = absurd cc
demo_last ws calls start o c n s (Some w) has_calls has_start is found =
    let e : Demo n s w ≡ c = cc in
    let p = positive_so 256 n calls has_calls in
    let q = number_takes 18446744073709551615 start s has_start in
    let k = workers_so ws Numbers (calls ∷ start ∷ []) o w is in
    subst (AreWordsOf (codes "demo" ∷ ws)) e (
      (p.1, p.2, omega (arith, q.1), k.0),
      in_map (λ others. codes "demo" ∷ others) ws (with_workers w with_end_mark (decimal n ∷ decimal s ∷ []))
          (subst (λ (ts : Words). IsOneOf ws (with_workers w with_end_mark ts)) (ap₂ (λ (a b : Text). a ∷ b ∷ []) p.0 q.0) k.1),
    )

demo_start : (ws : Words) (calls start : Text) (o : Option Text) (c : Command) (n : ℕ) (r : Option ℕ)
    → positive 256 calls ≡ Some n → number_at 18446744073709551615 start ≡ r
    → option_and_then (λ s. option_map (λ w. Demo n s w) (workers_by ws Numbers (calls ∷ start ∷ []) o)) r ≡ Some c → AreWordsOf (codes "demo" ∷ ws) c
demo_start ws calls start o c n None has_calls is found = absurd cc
demo_start ws calls start o c n (Some s) has_calls is found = demo_last ws calls start o c n s (workers_by ws Numbers (calls ∷ start ∷ []) o) has_calls is refl found

demo_calls : (ws : Words) (calls start : Text) (o : Option Text) (c : Command) (r : Option ℕ) → positive 256 calls ≡ r
    → option_and_then (λ n. option_and_then (λ s. option_map (λ w. Demo n s w) (workers_by ws Numbers (calls ∷ start ∷ []) o)) (number_at 18446744073709551615 start)) r ≡ Some c
    → AreWordsOf (codes "demo" ∷ ws) c
demo_calls ws calls start o c None is found = absurd cc
demo_calls ws calls start o c (Some n) is found = demo_start ws calls start o c n (number_at 18446744073709551615 start) is refl found

demo_so : (ws : Words) (calls start o : Option Text) (c : Command) → demo_by ws calls start o ≡ Some c → AreWordsOf (codes "demo" ∷ ws) c
demo_so ws None start o c found = absurd cc
demo_so ws (Some calls) None o c found = absurd cc
demo_so ws (Some calls) (Some start) o c found = demo_calls ws calls start o c (positive 256 calls) refl found

named : (name : Text) (word : Text) (ws : Words) (c : Command) → bytes_eq name word ≡ true → AreWordsOf (word ∷ ws) c → AreWordsOf (name ∷ ws) c
named name word ws c is so = subst (λ (x : Text). AreWordsOf (x ∷ ws) c) (sym (same name word is)) so

alone_so : (ws : Words) (command c : Command) → alone_by command ws ≡ Some c → (command ≡ c) × IsOneOf ws (closed [])
alone_so ws command c found =
    let p = chosen (are_ended ws Options []) (Some command) c found in
    let same_command : command ≡ c = (let e = p.1 in cc) in
    (same_command, ended_so ws Options [] p.0)

-- whatever words follow its name, they are those of a command that is alone
abbrev IsLone : Command → Type 0
IsLone k = (ws : Words) → IsOneOf ws (closed []) → AreWordsOf (lone_name k ∷ ws) k

abbrev AreLone : List Command → Type 0
AreLone [] = ⊤
AreLone (k ∷ ks) = IsLone k × AreLone ks

said_alone : (name : Text) (ws : Words) → IsOneOf ws (closed []) → IsOneOf (name ∷ ws) (map (λ others. name ∷ others) (closed []))
said_alone name ws among = in_map (λ others. name ∷ others) ws (closed []) among

are_lone : AreLone lone
are_lone = search (rules, said_alone)

-- the command is that of this word, or of a later one
module _ (name : Text) (ws : Words) (c : Command) where
  in_turn : (word : Text) (here others : Option Command) → (here ≡ Some c → AreWordsOf (word ∷ ws) c) → (others ≡ Some c → AreWordsOf (name ∷ ws) c) → cond (bytes_eq name word) here others ≡ Some c
      → AreWordsOf (name ∷ ws) c
  in_turn word here others so later found = at (bytes_eq name word) refl found
    where
      at : (b : Bool) → bytes_eq name word ≡ b → cond b here others ≡ Some c → AreWordsOf (name ∷ ws) c
      at true e found = named name word ws c e (so found)
      at false e found = later found

  lone_so : (ks : List Command) → AreLone ks → lone_by ks name ws ≡ Some c → AreWordsOf (name ∷ ws) c
  lone_so [] are found = absurd cc
  lone_so (k ∷ ks) are found =
      in_turn (lone_name k) _ _ (λ here. let p = alone_so ws k c here in subst (AreWordsOf (lone_name k ∷ ws)) p.0 (are.0 ws p.1)) (lone_so ks are.1) found

  said_so : (text : Text → Option Text) → said_by name ws text ≡ Some c → AreWordsOf (name ∷ ws) c
  said_so text =
      in_turn (codes "replay") _ _ (replay_so ws (text (codes "workers")) (is_set (text (codes "mux"))) c)
      (in_turn (codes "relay") _ _ (relay_so ws (text (codes "turns")) (is_set (text (codes "mux"))) (is_set (text (codes "bridge"))) c)
      (in_turn (codes "demo") _ _ (demo_so ws (text (codes "calls")) (text (codes "start")) (text (codes "workers")) c) (lone_so lone are_lone)))

first_so : (words : Words) (text : Text → Option Text) (c : Command) → first_said words text ≡ Some c → AreWordsOf words c
first_so [] text c found = absurd cc
first_so (name ∷ ws) text c found = said_so name ws c text found

pub sound : (words : Words) (c : Command) → command_by words ≡ Some c → AreWordsOf words c
sound words c found =
    first_so words (λ id. text_in id words) c (chosen (no_fault (fault_of srtpgw words)) (first_said words (λ id. text_in id words)) c found).1
