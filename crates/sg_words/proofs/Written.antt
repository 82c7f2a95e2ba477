-- Each way to write texts, with an option among them or without, is told to be one.
use Rattle.std.proofs.Common.{◌≡◌, ◌∙◌, ◌&&◌, Bool, [], ◌∷◌, ◌++◌, codes, map, refl, ap, ap₂, true, false, inl, inr}
use Rattle.std.specs.Bool.{⊤}
use Rattle.std.specs.Str.{bytes_eq}
use Rattle.std.proofs.lemmas.Bool.{cond-true, cond-false}
use Rattle.std.proofs.lemmas.Slice.Eq.{bytes_eq-Decides}
use Rattle.sg_words.proofs.Among.{either, of_map}
use Rattle.sg_words.proofs.Endings.{ends}
use Rattle.sg_words.specs.Commands.{IsOneOf, Text, Words, option_before, put_in, with_option}
use Rattle.sg_words.specs.Reading.{are, are_ended, have_option, is_joined}
use Rattle.sg_words.specs.declared.spelling.Kind.{Kind}
use Rattle.sg_words.specs.declared.spelling.Kind.TheVariants.{Numbers, Options}

pub itself : (t : Text) → bytes_eq t t ≡ true
itself t = (bytes_eq-Decides t t).1 refl

both_true : (a b : Bool) → a ≡ true → b ≡ true → (a && b) ≡ true
both_true a b is is' = ap₂ (λ (x y : Bool). x && y) is is'

-- none of the texts is a lone `--`
abbrev pub HaveNoEnd : Words → Type 0
HaveNoEnd [] = ⊤
HaveNoEnd (t ∷ ts) = (bytes_eq t (codes "--") ≡ false) × HaveNoEnd ts

are_known : (ts : Words) → are ts ts ≡ true
are_known [] = refl
are_known (t ∷ ts) = both_true (bytes_eq t t) (are ts ts) (itself t) (are_known ts)

-- a text in front, which is no lone `--`
led_known : (t : Text) (ws : Words) (kind : Kind) (ts : Words) → bytes_eq t (codes "--") ≡ false → are_ended ws kind ts ≡ true
    → are_ended (t ∷ ws) kind (t ∷ ts) ≡ true
led_known t ws kind ts apart is = cond-false _ _ _ apart ∙ both_true (bytes_eq t t) (are_ended ws kind ts) (itself t) is

whole_known : (kind : Kind) (ts : Words) → HaveNoEnd ts → are_ended ts kind ts ≡ true
whole_known kind [] none = refl
whole_known kind (t ∷ ts) none = led_known t ts kind ts none.0 (whole_known kind ts none.1)

put_known : (ws ts : Words) → HaveNoEnd ts → IsOneOf ws (put_in (codes "--") ts) → are_ended ws Numbers ts ≡ true
put_known ws [] none (inl e) = ap (λ (l : Words). are_ended l Numbers []) e
put_known ws [] none (inr other) = absurd other
put_known ws (t ∷ ts) none (inl e) = ap (λ (l : Words). are_ended l Numbers (t ∷ ts)) e ∙ are_known (t ∷ ts)
put_known ws (t ∷ ts) none (inr among) =
    let made = of_map (λ others. t ∷ others) ws (put_in (codes "--") ts) among in
    ap (λ (l : Words). are_ended l Numbers (t ∷ ts)) made.is ∙ led_known t made.others Numbers ts none.0 (put_known made.others ts none.1 made.among)

last_known : (ts : Words) → HaveNoEnd ts → are_ended (ts ++ codes "--" ∷ []) Options ts ≡ true
last_known [] none = refl
last_known (t ∷ ts) none = led_known t (ts ++ codes "--" ∷ []) Options ts none.0 (last_known ts none.1)

pub ended_known : (ws : Words) (kind : Kind) (ts : Words) → HaveNoEnd ts → IsOneOf ws (ends kind ts) → are_ended ws kind ts ≡ true
ended_known ws Numbers ts none (inl e) = ap (λ (l : Words). are_ended l Numbers ts) e ∙ whole_known Numbers ts none
ended_known ws Numbers ts none (inr put) = put_known ws ts none put
ended_known ws Options ts none (inl e) = ap (λ (l : Words). are_ended l Options ts) e ∙ whole_known Options ts none
ended_known ws Options ts none (inr (inl e)) = ap (λ (l : Words). are_ended l Options ts) e ∙ last_known ts none
ended_known ws Options ts none (inr (inr other)) = absurd other

-- an option is told from its value behind an equals sign
pub record IsOption (option value : Text) : Type 0 where
  pub joined : is_joined (option ++ codes "=" ++ value) (option ++ codes "=") value ≡ true
  pub apart : is_joined option (option ++ codes "=") value ≡ false

-- no text is the option, alone or with its value
abbrev pub AreOthers : Text → Text → Words → Type 0
AreOthers option value [] = ⊤
AreOthers option value (t ∷ ts) =
    ((is_joined t (option ++ codes "=") value ≡ false) × (bytes_eq t option ≡ false)) × AreOthers option value ts

module _ (option value : Text) (is : IsOption option value) (kind : Kind) where
  joined_known : (ws ts : Words) → are_ended ws kind ts ≡ true → have_option ((option ++ codes "=" ++ value) ∷ ws) option value kind ts ≡ true
  joined_known ws ts known = cond-true _ _ _ is.joined ∙ known

  apart_known : (ws ts : Words) → are_ended ws kind ts ≡ true → have_option (option ∷ value ∷ ws) option value kind ts ≡ true
  apart_known ws ts known =
      cond-false _ _ _ is.apart ∙ cond-true _ _ _ (itself option) ∙ both_true (bytes_eq value value) (are_ended ws kind ts) (itself value) known

  before_known : (ws ts : Words) → HaveNoEnd ts → IsOneOf ws (option_before option value (ends kind) ts) → have_option ws option value kind ts ≡ true
  before_known ws ts none among =
      elim (either ws (map (λ others. (option ++ codes "=" ++ value) ∷ others) (ends kind ts)) (map (λ others. option ∷ value ∷ others) (ends kind ts)) among) [
        | inl joined ↦
            let made = of_map (λ others. (option ++ codes "=" ++ value) ∷ others) ws (ends kind ts) joined in
            ap (λ (l : Words). have_option l option value kind ts) made.is ∙ joined_known made.others ts (ended_known made.others kind ts none made.among)
        | inr apart ↦
            let made = of_map (λ others. option ∷ value ∷ others) ws (ends kind ts) apart in
            ap (λ (l : Words). have_option l option value kind ts) made.is ∙ apart_known made.others ts (ended_known made.others kind ts none made.among)
      ]

  later_known : (t : Text) (ws ts : Words) → (is_joined t (option ++ codes "=") value ≡ false) × (bytes_eq t option ≡ false) → have_option ws option value kind ts ≡ true
      → have_option (t ∷ ws) option value kind (t ∷ ts) ≡ true
  later_known t ws ts other known =
      cond-false _ _ _ other.0 ∙ cond-false _ _ _ other.1 ∙ both_true (bytes_eq t t) (have_option ws option value kind ts) (itself t) known

  pub option_known : (ws ts : Words) → HaveNoEnd ts → AreOthers option value ts → IsOneOf ws (with_option option value (ends kind) ts) → have_option ws option value kind ts ≡ true
  option_known ws [] none others among = before_known ws [] none among
  option_known ws (t ∷ ts) none others among =
      elim (either ws (option_before option value (ends kind) (t ∷ ts)) (map (λ xs. t ∷ xs) (with_option option value (ends kind) ts)) among) [
        | inl before ↦ before_known ws (t ∷ ts) none before
        | inr later ↦
            let made = of_map (λ xs. t ∷ xs) ws (with_option option value (ends kind) ts) later in
            ap (λ (l : Words). have_option l option value kind (t ∷ ts)) made.is
            ∙ later_known t made.others ts others.0 (option_known made.others ts none.1 others.1 made.among)
      ]
