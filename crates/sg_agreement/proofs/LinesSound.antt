-- The keys of a crypto line that was read, and those of the gateway's own lines, are sound.
use Rattle.std.proofs.Common.{◌≡◌, ◌≢◌, ◌≤◌, ◌<◌, ◌^◌, ℕ, true, false, List, [], ◌∷◌, length, map, Option, Some, None, Result, Ok, Err, refl, sym, ap, ◌∙◌, subst, arith}
use Rattle.std.proofs.lemmas.Bool.{and_parts}
use Rattle.std.proofs.lemmas.List.{length-map}
use Rattle.std.specs.Prelude.{IfSome}
use Rattle.std.specs.List.{AllByRecursion, list_all}
use Rattle.sg_base.specs.Mkis.{MkiValue, IsMki}
use Rattle.sg_base.specs.Suites.{is_raw, tag_len_of}
use Rattle.sg_base.specs.declared.faults.SdesFault.{SdesFault}
use Rattle.sg_base.specs.declared.suites.Suite.{Suite}
use Rattle.sg_base.specs.declared.suites.Suite.TheVariants.{Raw80}
use Rattle.sg_sdes.specs.Answers.{answer_by, chosen_of, offered_by, or_next}
use Rattle.sg_sdes.specs.CryptoOf.{crypto_of}
use Rattle.sg_sdes.specs.CryptoText.{IsInlineKey, IsCryptoLine}
use Rattle.sg_sdes.specs.Keys as lines
use Rattle.sg_sdes.specs.declared.lines.CryptoLine.{CryptoLine}
use Rattle.sg_sdes.specs.declared.lines.InlineKey.{InlineKey}
use Rattle.sg_session.proofs.Lists.{each_map}
use Rattle.sg_session.specs.Reach.{AreMkis}
use Rattle.sg_agreement.proofs.MessageKeys.{Differ, AllDiffer, Fits, mkis_are, differ_by}
use Rattle.sg_agreement.proofs.Inversions.{each_true}
use Rattle.sg_agreement.specs.Sound.{IsSoundStream}
use Rattle.sg_agreement.specs.Streams.{octets_of, line_key, stream_of_line}

-- what sg_sdes's law says
abbrev pub Valid : Type 0
Valid = (text : List ℕ) (l : CryptoLine) → crypto_of text ≡ Ok l → IsCryptoLine l

pub tag_low : (s : Suite) → tag_len_of s ≤ 10
tag_low Raw80 = omega arith
tag_low other = omega arith

not_raw : (s : Suite) → s ≢ Raw80 → is_raw s ≡ false
not_raw Raw80 differ = absurd (differ refl)
not_raw other differ = refl

pub record IsSoundLine (l : CryptoLine) : Type 0 where
  pub suite : is_raw l.suite ≡ false
  pub mkis : AreMkis (map (λ k. k.mki) (map line_key l.keys))
  pub secret : AllByRecursion (λ k. is_raw k.master.suite ≡ false) (map line_key l.keys)
  pub some : 1 ≤ length (map line_key l.keys)
  pub few : length (map line_key l.keys) ≤ 8

mkis_of_keys : (ks : List InlineKey) → map octets_of (map (λ k. k.mki) ks) ≡ map (λ k. k.mki) (map line_key ks)
mkis_of_keys [] = refl
mkis_of_keys (k ∷ ks) = ap (λ ms. octets_of k.mki ∷ ms) (mkis_of_keys ks)

fits_of : (suite : Suite) (k : InlineKey) (o : Option MkiValue) → k.mki ≡ o → IsInlineKey suite k → Fits o
fits_of suite k None e is = tt
fits_of suite k (Some m) e is = let p = subst (λ o. IfSome o (λ m. IsMki m.value m.length × (m.value < 2 ^ 128))) e is.mki in p.0.fits

keys_fit : (suite : Suite) (ks : List InlineKey) → AllByRecursion (IsInlineKey suite) ks → AllByRecursion Fits (map (λ k. k.mki) ks)
keys_fit suite ks p = each_map (IsInlineKey suite) Fits (λ k. k.mki) (λ k is. fits_of suite k k.mki refl is) ks p

keys_differ : (ks : List InlineKey) → lines.all_differ ks ≡ true → AllDiffer (map (λ k. k.mki) ks)
unfolding lines.all_differ
keys_differ [] e = tt
keys_differ (k ∷ ks) e =
    let p = and_parts (list_all (lines.differs k) ks) (lines.all_differ ks) e in (
      each_map (λ l. lines.differs k l ≡ true) (Differ k.mki) (λ l. l.mki) (λ l is. differ_by k.mki l.mki is) ks (each_true (lines.differs k) ks p.0),
      keys_differ ks p.1,
    )

-- ---- the peer's lines

pub line_sound : (l : CryptoLine) → IsCryptoLine l → IsSoundLine l
line_sound l is = record {
  suite = not_raw l.suite is.suite;
  mkis = subst AreMkis (mkis_of_keys l.keys) (mkis_are (map (λ k. k.mki) l.keys) (keys_fit l.suite l.keys is.keys) (keys_differ l.keys is.mkis));
  secret = each_map (IsInlineKey l.suite) (λ k. is_raw k.master.suite ≡ false) line_key (λ k of. ap is_raw of.suite_is ∙ not_raw l.suite is.suite) l.keys is.keys;
  some = let at = length-map l.keys line_key in let le = is.some in omega (arith, at, le);
  few = let at = length-map l.keys line_key in let le = is.few in omega (arith, at, le);
}

chosen_step : (value : List ℕ) (r s : Result CryptoLine SdesFault) (l : CryptoLine) → Valid → crypto_of value ≡ r → (s ≡ Ok l → IsSoundLine l) → or_next r s ≡ Ok l → IsSoundLine l
chosen_step value (Ok m) s l valid is rest e = line_sound l (valid value l (is ∙ e))
chosen_step value (Err f) s l valid is rest e = rest e

pub chosen_line : Valid → (values : List (List ℕ)) (l : CryptoLine) → chosen_of values ≡ Ok l → IsSoundLine l
unfolding chosen_of
chosen_line valid [] l e = absurd cc
chosen_line valid (value ∷ values) l e = chosen_step value (crypto_of value) (chosen_of values) l valid refl (chosen_line valid values l) e

-- ---- the gateway's own

own_line : (l : CryptoLine) → is_raw l.suite ≡ false → (k : InlineKey) → l.keys ≡ k ∷ [] → k.mki ≡ None → is_raw k.key.suite ≡ false → IsSoundLine l
own_line l suite k keys mki secret = record {
  suite = suite;
  mkis = subst (λ ks. AreMkis (map (λ k. k.mki) (map line_key ks))) (sym keys) ((tt, tt), tt);
  secret = subst (λ ks. AllByRecursion (λ k. is_raw k.master.suite ≡ false) (map line_key ks)) (sym keys) (secret, tt);
  some = subst (λ ks. 1 ≤ length (map line_key ks)) (sym keys) (omega arith);
  few = subst (λ ks. length (map line_key ks) ≤ 8) (sym keys) (omega arith);
}

pub offered_lines : (noise : List ℕ) → AllByRecursion IsSoundLine (offered_by noise)
offered_lines noise = (own_line _ refl _ refl refl refl, (own_line _ refl _ refl refl refl, tt))

pub answer_line : (peer : CryptoLine) (noise : List ℕ) → IsSoundLine peer → IsSoundLine (answer_by peer noise)
answer_line peer noise is = own_line (answer_by peer noise) is.suite _ refl refl is.suite

-- ---- what is sent under a line

pub line_stream : (peer l : CryptoLine) → IsSoundLine l → IsSoundStream (stream_of_line peer l)
line_stream peer l is = record { mkis = is.mkis; tags = tag_low l.suite; some = is.some; few = is.few; secret = is.secret }
