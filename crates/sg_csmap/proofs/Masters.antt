-- A master key of two parts that were written one behind the other.
use Rattle.std.proofs.Common.{◌≡◌, ◌+◌, ◌-◌, ◌≤◌, ℕ, List, ◌++◌, length, take, drop, ap, sym, ◌∙◌, arith, append_assoc, length-append}
use Rattle.std.proofs.lemmas.List.{take_at, drop_at, length-take-le, length-drop}
use Rattle.sg_base.specs.Keys.{master_of}
use Rattle.sg_base.specs.Suites.{key_len_of}
use Rattle.sg_base.specs.declared.suites.Suite.{Suite}
use Rattle.sg_hmac.specs.Labels.{label_of}
use Rattle.sg_hmac.specs.Prf.{mikey_prf}
use Rattle.sg_csmap.specs.CryptoSessions.{master_in}

joined : (key salt rest others : List ℕ) (count : ℕ) → length key ≡ count → length salt ≡ 14
    → take (count + 14) (take count (key ++ rest) ++ (salt ++ others)) ≡ key ++ salt
joined key salt rest others count long short =
    let size : length (key ++ salt) ≡ count + 14 = omega (arith, length-append key salt, long, short) in
    ap (λ t. take (count + 14) (t ++ (salt ++ others))) (take_at key rest count long)
    ∙ ap (take (count + 14)) (sym (append_assoc key salt others))
    ∙ take_at (key ++ salt) others (count + 14) size

parted : (suite : Suite) (key salt : List ℕ) (count : ℕ) → count ≡ key_len_of suite → length key ≡ count
    → master_of suite (key ++ salt) ≡ record { suite = suite; key = key; salt = salt }
parted suite key salt count is long =
    let size : length key ≡ key_len_of suite = long ∙ is in
    λ i. record { suite = suite; key = take_at key salt (key_len_of suite) size i; salt = drop_at key salt (key_len_of suite) size i }

pub master_is : (suite : Suite) (csb session : ℕ) (random tgk zeros key salt : List ℕ) (count m : ℕ)
    → count ≡ key_len_of suite → count ≤ 32 → length zeros ≡ 46 → m ≡ 14
    → length key ≡ length (take count zeros) → length salt ≡ length (take m (drop count (key ++ drop count zeros)))
    → key ≡ mikey_prf tgk (label_of 0x2ad01c64 session csb random) (length (take count zeros))
    → salt ≡ mikey_prf tgk (label_of 0x39a2c14b session csb random) (length (take m (drop count (key ++ drop count zeros))))
    → master_of suite (take (count + 14) (take count (key ++ drop count zeros) ++ (salt ++ drop m (drop count (key ++ drop count zeros)))))
    ≡ master_in csb random session suite tgk
master_is suite csb session random tgk zeros key salt count m is most size fourteen key_size salt_size by_key by_salt =
    let wide : length (take count zeros) ≡ count = length-take-le count zeros (omega (arith, most, size)) in
    let long : length key ≡ count = key_size ∙ wide in
    let behind : drop count (key ++ drop count zeros) ≡ drop count zeros = drop_at key (drop count zeros) count long in
    let left : length (drop count zeros) ≡ length zeros - count = length-drop count zeros in
    let enough : m ≤ length (drop count zeros) = omega (arith, fourteen, left, size, most) in
    let narrow : length (take m (drop count (key ++ drop count zeros))) ≡ 14 = ap (λ t. length (take m t)) behind ∙ length-take-le m (drop count zeros) enough ∙ fourteen in
    let short : length salt ≡ 14 = salt_size ∙ narrow in
    ap (master_of suite) (joined key salt (drop count zeros) (drop m (drop count (key ++ drop count zeros))) count long short)
    ∙ parted suite key salt count is long
    ∙ (λ i. record {
      suite = suite;
      key = (by_key ∙ ap (mikey_prf tgk (label_of 0x2ad01c64 session csb random)) (wide ∙ is)) i;
      salt = (by_salt ∙ ap (mikey_prf tgk (label_of 0x39a2c14b session csb random)) narrow) i;
    })
