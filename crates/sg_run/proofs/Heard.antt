-- A line that joins or parts says that, wherever it stands.
use Rattle.std.proofs.Common.{◌≡◌, ◌+◌, ◌<◌, ◌≤◌, ◌^◌, ℕ, Bool, true, false, cond, eqb, ltb, not, List, [], ◌∷◌, ◌++◌, length, Option, Some, None, Result, Ok, Err, refl, sym, ap, ◌∙◌, subst, append_assoc, arith, length-append}
use Rattle.std.specs.Prelude.{codes, decimal, max, nat_lt, nat_le, option_map, ◌||◌}
use Rattle.std.specs.List.{join_with_byte}
use Rattle.std.proofs.lemmas.Bool.{cond-false, le-ltb, ne_eqb}
use Rattle.std.proofs.lemmas.Fmt.{length-decimal-le_wide}
use Rattle.sg_base.specs.Fields.{Lacks}
use Rattle.sg_base.specs.declared.addresses.CallId.{CallId}
use Rattle.sg_base.specs.declared.faults.ScriptFault.{ScriptFault}
use Rattle.sg_bridge.specs.Bridge.{gives, happens_as, of_bridge}
use Rattle.sg_edge.specs.Links.{Received}
use Rattle.sg_gateway.specs.Drawn.{Supplied, supplied}
use Rattle.sg_lines.proofs.Dense.{AreDense, dense_decimal, dense_test, joined_lacks}
use Rattle.sg_lines.proofs.FieldLaws.{call_again}
use Rattle.sg_lines.proofs.LineLaws.{body_ends, cut_some, is_ended_so}
use Rattle.sg_lines.proofs.Splits.{lines_of_whole}
use Rattle.sg_lines.specs.LineOf.{fields_of, is_ended, line_of}
use Rattle.sg_lines.specs.ScriptLines.{IsWhole, NoEnd, lines_of}
use Rattle.sg_lines.specs.declared.lines.Line.TheVariants as scripts
use Rattle.sg_pairs.proofs.BridgeFrames.{bridge_line_is}
use Rattle.sg_pairs.specs.BridgeLines.{bridge_line_of, bridge_said_by, bridge_version_after, is_script_line, join_from, of_script, part_from}
use Rattle.sg_pairs.specs.Bridged.{Said, Joins, Parts}
use Rattle.sg_pairs.specs.declared.lines.BridgeLine.{BridgeLine}
use Rattle.sg_pairs.specs.declared.lines.BridgeLine.TheVariants as lines
use Rattle.sg_relay.specs.Joined.{weaves}
use Rattle.sg_relay.specs.Joined as joined
use Rattle.sg_relay.specs.Plain as plain
use Rattle.sg_relay.specs.Weaving as weavings
use Rattle.sg_relay.specs.Weaving.{Woven, waited, waited_or_given, until_at, woven_from, ticks_of, arrivals_of}
use Rattle.sg_trace.specs.Course.{Course, Given, behind_given, behind_line, course_from, ended, read_at, with_deeds}
use Rattle.sg_trace.specs.Trace.{AtEnd, AtFault, ForDraw, ForReading, ForReceive, Outside, moment_of, spelled_at}
use Rattle.sg_run.proofs.Lines.{lines_size, lines_split, sizes, whole_some}
use Rattle.sg_run.specs.Heard.{IsHeard, IsHeardByRelay, IsPutBehind, LinesAreHeard, PlaysWith, RelaysHearAsBridges, RelaysWith, join_line, part_line}

-- ---- a line

-- how a line is read, from the second one on
pub record Reads (line : List ℕ) (said : Said) : Type 0 where
  pub l : BridgeLine
  pub whole : IsWhole line
  pub reads : (version n : ℕ) → 1 < n → bridge_line_of version n line ≡ Ok l
  pub followed : (version : ℕ) → bridge_version_after version l ≡ version
  pub given : (draws : List ℕ) → gives l draws ≡ Some (record { deeds = said ∷ []; left = draws })
  pub waits : joined.waits l ≡ None
  pub relayed : (draws : List ℕ) → joined.gives l draws ≡ Some (record { deeds = said ∷ []; left = draws })

lacks_none : (t : List ℕ) → Lacks 10 t → NoEnd t
lacks_none [] lacks = tt
lacks_none (b ∷ bs) lacks = (λ e. isnt (eqb b 10) (ap (λ (n : ℕ). eqb n 10) e) lacks.0, lacks_none bs lacks.1)
  where
    isnt : (t : Bool) → t ≡ true → t ≡ false → ⊥
    isnt t a b = cc

digits : (n : ℕ) → n < 2 ^ 32 → length (decimal n) ≤ 20
digits n fits = length-decimal-le_wide 20 n (omega arith) (omega (arith, fits)) (omega (arith, fits))

-- a line of fields that is not the first is read by them
module _ (version n : ℕ) (later : 1 < n) (text : List ℕ) (fields : List (List ℕ)) (short : length text ≤ 60000) (cut : fields_of text ≡ fields) where
  abbrev line : List ℕ
  line = text ++ 10 ∷ []

  other_line : is_script_line n line ≡ false
  other_line =
      let long : ltb 70000 (length line) ≡ false = le-ltb 70000 (length line) (omega (arith, short, length-append text (10 ∷ []))) in
      let end : is_ended line ≡ true = is_ended_so text in
      let first : eqb n 1 ≡ false = ne_eqb n 1 (λ is. omega (arith, is, later)) in
      (λ i. long i || not (end i) || first i)

  by_fields : (l : BridgeLine) → ((other : Result BridgeLine ScriptFault) → bridge_said_by other fields ≡ Ok l) → bridge_line_of version n line ≡ Ok l
  by_fields l is =
      bridge_line_is version n line
      ∙ cond-false (is_script_line n line) _ _ other_line
      ∙ ap (bridge_said_by (of_script (line_of version n line))) (ap fields_of (body_ends text) ∙ cut)
      ∙ is (of_script (line_of version n line))

join_read : (a b : CallId) → a.0 < 2 ^ 32 → b.0 < 2 ^ 32 → join_from (decimal a.0) (decimal b.0) ≡ Ok (lines.Join a b)
unfolding join_from
join_read a b small_a small_b = rw (call_again a small_a, call_again b small_b) refl

part_read : (a : CallId) → a.0 < 2 ^ 32 → part_from (decimal a.0) ≡ Ok (lines.Part a)
unfolding part_from
part_read a small = rw (call_again a small) refl

joins : (a b : CallId) → a.0 < 2 ^ 32 → b.0 < 2 ^ 32 → Reads (join_line a b) (Joins a b)
joins a b small_a small_b =
    let first : List ℕ = decimal a.0 in
    let second : List ℕ = decimal b.0 in
    let text : List ℕ = codes "join " ++ first ++ codes " " ++ second in
    let fields : List (List ℕ) = codes "join" ∷ first ∷ second ∷ [] in
    let dense : AreDense fields = (dense_test (codes "join") refl, (dense_decimal a.0 (omega (arith, small_a)), (dense_decimal b.0 (omega (arith, small_b)), tt))) in
    let same : text ≡ join_with_byte 32 fields = ap (λ (l : List ℕ). codes "join " ++ l) (append_assoc first (codes " ") second) in
    let cut : fields_of text ≡ fields = ap fields_of same ∙ cut_some fields (codes "join") (first ∷ second ∷ []) refl dense in
    let short : length text ≤ 60000 =
    omega (arith, digits a.0 small_a, digits b.0 small_b, length-append (codes "join " ++ first ++ codes " ") second, length-append (codes "join " ++ first) (codes " "), length-append (codes "join ") first) in
    record {
      l = lines.Join a b;
      whole = (text, refl, subst NoEnd (sym same) (lacks_none (join_with_byte 32 fields) (joined_lacks fields dense)));
      reads = λ version n later. by_fields version n later text fields short cut (lines.Join a b) (λ other. join_read a b small_a small_b);
      followed = λ version. refl;
      given = λ draws. refl;
      waits = refl;
      relayed = λ draws. refl;
    }

parts : (a : CallId) → a.0 < 2 ^ 32 → Reads (part_line a) (Parts a)
parts a small =
    let call : List ℕ = decimal a.0 in
    let text : List ℕ = codes "part " ++ call in
    let fields : List (List ℕ) = codes "part" ∷ call ∷ [] in
    let dense : AreDense fields = (dense_test (codes "part") refl, (dense_decimal a.0 (omega (arith, small)), tt)) in
    let cut : fields_of text ≡ fields = cut_some fields (codes "part") (call ∷ []) refl dense in
    let short : length text ≤ 60000 = omega (arith, digits a.0 small, length-append (codes "part ") call) in
    record {
      l = lines.Part a;
      whole = (text, refl, lacks_none (join_with_byte 32 fields) (joined_lacks fields dense));
      reads = λ version n later. by_fields version n later text fields short cut (lines.Part a) (λ other. part_read a small);
      followed = λ version. refl;
      given = λ draws. refl;
      waits = refl;
      relayed = λ draws. refl;
    }

-- ---- lines from the second on are read alike, wherever they stand

numbers_alike : (version n m : ℕ) → 1 < n → 1 < m → (l : List ℕ) → bridge_line_of version m l ≡ bridge_line_of version n l
unfolding bridge_line_of line_of
numbers_alike version n m first second l = rw (ne_eqb n 1 (λ is. omega (arith, is, first)), ne_eqb m 1 (λ is. omega (arith, is, second))) refl

near : (at : ℕ) (l : List ℕ) → at + length l ≤ 2 ^ 30 → nat_lt (2 ^ 30) (at + length l) ≡ false
near at l within = le-ltb (2 ^ 30) (at + length l) within

places_alike : (version n m at to : ℕ) → 1 < n → 1 < m → (l : List ℕ) → at + length l ≤ 2 ^ 30 → to + length l ≤ 2 ^ 30 → spelled_at bridge_line_of version m to l ≡ spelled_at bridge_line_of version n at l
places_alike version n m at to first second l here there =
    cond-false (nat_lt (2 ^ 30) (to + length l)) _ _ (near to l there) ∙ numbers_alike version n m first second l ∙ sym (cond-false (nat_lt (2 ^ 30) (at + length l)) _ _ (near at l here))

read_so : (line : List ℕ) (said : Said) (is : Reads line said) (version n at : ℕ) → 1 < n → at + length line ≤ 2 ^ 30 → spelled_at bridge_line_of version n at line ≡ Ok is.l
read_so line said is version n at later within = cond-false (nat_lt (2 ^ 30) (at + length line)) _ _ (near at line within) ∙ is.reads version n later

-- ---- a course

module _ (R : Course Said → Course Said → Course Said → Type 0) (closed : (ds : List Said) (a b c : Course Said) → R a b c → R (with_deeds ds a) (with_deeds ds b) (with_deeds ds c)) where
  -- what is so of what follows is so behind a line
  course_goes : (n m k end to there : ℕ) (r : Result BridgeLine ScriptFault) (front all longer : ℕ → List ℕ → Course Said) (version : ℕ) (draws : List ℕ)
      → ((v : ℕ) (draws : List ℕ) → (all v draws).stop ≡ AtEnd → R (front v draws) (all v draws) (longer v draws)) → (behind_line of_bridge version n end r all draws).stop ≡ AtEnd
      → R (behind_line of_bridge version m to r front draws) (behind_line of_bridge version n end r all draws) (behind_line of_bridge version k there r longer draws)
  course_goes n m k end to there (Err fault) front all longer version draws goes is = absurd (let both : AtFault n fault ≡ AtEnd = is in cc)
  course_goes n m k end to there (Ok l) front all longer version draws goes is = by_given (gives l draws) is
    where
      by_given : (g : Option (Given Said)) → (behind_given g draws (all (bridge_version_after version l))).stop ≡ AtEnd
          → R (behind_given g draws (front (bridge_version_after version l))) (behind_given g draws (all (bridge_version_after version l))) (behind_given g draws (longer (bridge_version_after version l)))
      by_given None is = absurd (let both : ForDraw ≡ AtEnd = is in cc)
      by_given (Some g) is = closed g.deeds _ _ _ (goes (bridge_version_after version l) g.left is)

course_moves : (ls : List (List ℕ)) (version n m at to : ℕ) (draws : List ℕ) → 1 < n → 1 < m → at + sizes ls ≤ 2 ^ 30 → to + sizes ls ≤ 2 ^ 30 → (course_from of_bridge version n at ls draws).stop ≡ AtEnd
    → course_from of_bridge version m to ls draws ≡ course_from of_bridge version n at ls draws
course_moves [] version n m at to draws first second here there is = refl
course_moves (l ∷ ls) version n m at to draws first second here there is =
    ap (λ r. behind_line of_bridge version m (to + length l) r (λ v. course_from of_bridge v (m + 1) (to + length l) ls) draws) (places_alike version n m at to first second l (omega (arith, here)) (omega (arith, there)))
    ∙ course_goes (λ a b c. c ≡ b) (λ ds a b c same. ap (with_deeds ds) same) n n m (at + length l) (at + length l) (to + length l) (read_at of_bridge version n at l)
    (λ v. course_from of_bridge v (n + 1) (at + length l) ls) (λ v. course_from of_bridge v (n + 1) (at + length l) ls) (λ v. course_from of_bridge v (m + 1) (to + length l) ls) version draws
    (λ v draws is. course_moves ls v (n + 1) (m + 1) (at + length l) (to + length l) draws (omega (arith, first)) (omega (arith, second)) (omega (arith, here)) (omega (arith, there)) is) is

put_more : (said : Said) (ds front all longer : List Said) → IsPutBehind said front all longer → IsPutBehind said (ds ++ front) (ds ++ all) (ds ++ longer)
put_more said ds front all longer is = record {
  later = is.later;
  without = ap (λ (l : List Said). ds ++ l) is.without ∙ sym (append_assoc ds front is.later);
  within = ap (λ (l : List Said). ds ++ l) is.within ∙ sym (append_assoc ds front (said ∷ is.later));
}

module _ (line : List ℕ) (said : Said) (is : Reads line said) (rest : List (List ℕ)) where
  course_hears : (ls : List (List ℕ)) (version n at : ℕ) (draws : List ℕ) → 1 < n + length ls → at + (sizes ls + (length line + sizes rest)) ≤ 2 ^ 30 → (course_from of_bridge version n at (ls ++ rest) draws).stop ≡ AtEnd
      → PlaysWith said (course_from of_bridge version n at ls draws) (course_from of_bridge version n at (ls ++ rest) draws) (course_from of_bridge version n at (ls ++ line ∷ rest) draws)
  course_hears [] version n at draws later within stops =
      let after : List ℕ → Course Said = course_from of_bridge version (n + 1) (at + length line) rest in
      let same : course_from of_bridge version n at (line ∷ rest) draws ≡ with_deeds (said ∷ []) (course_from of_bridge version n at rest draws) =
      ap (λ r. behind_line of_bridge version n (at + length line) r (λ v. course_from of_bridge v (n + 1) (at + length line) rest) draws) (read_so line said is version n at (omega (arith, later)) (omega (arith, within)))
      ∙ ap (λ (v : ℕ). behind_given (gives is.l draws) draws (course_from of_bridge v (n + 1) (at + length line) rest)) (is.followed version)
      ∙ ap (λ (g : Option (Given Said)). behind_given g draws after) (is.given draws)
      ∙ ap (with_deeds (said ∷ [])) (course_moves rest version n (n + 1) at (at + length line) draws (omega (arith, later)) (omega (arith, later)) (omega (arith, within)) (omega (arith, within)) stops) in
      subst (PlaysWith said (ended AtEnd draws) (course_from of_bridge version n at rest draws)) (sym same)
      (record { says = record { later = (course_from of_bridge version n at rest draws).deeds; without = refl; within = refl }; stop = stops; left = refl })
  course_hears (l ∷ ls) version n at draws later within stops =
      course_goes (PlaysWith said) (λ ds a b c p. record { says = put_more said ds a.deeds b.deeds c.deeds p.says; stop = p.stop; left = p.left }) n n n (at + length l) (at + length l) (at + length l) (read_at of_bridge version n at l)
      (λ v. course_from of_bridge v (n + 1) (at + length l) ls) (λ v. course_from of_bridge v (n + 1) (at + length l) (ls ++ rest)) (λ v. course_from of_bridge v (n + 1) (at + length l) (ls ++ line ∷ rest)) version draws
      (λ v draws stops. course_hears ls v (n + 1) (at + length l) draws (omega (arith, later)) (omega (arith, within)) stops) stops

-- how the octets split
record Splits (lines line rest : List ℕ) : Type 0 where
  without : lines_of (lines ++ rest) ≡ lines_of lines ++ lines_of rest
  within : lines_of (lines ++ line ++ rest) ≡ lines_of lines ++ line ∷ lines_of rest
  some : 0 < length (lines_of lines)
  size : sizes (lines_of lines) ≡ length lines
  size_rest : sizes (lines_of rest) ≡ length rest

splits : (lines line rest before : List ℕ) → lines ≡ before ++ 10 ∷ [] → IsWhole line → Splits lines line rest
splits lines line rest before is whole =
    let over : (more : List ℕ) → lines_of (lines ++ more) ≡ lines_of lines ++ lines_of more =
    λ more. ap (λ (l : List ℕ). lines_of (l ++ more)) is ∙ lines_split before more ∙ ap (λ (l : List ℕ). lines_of l ++ lines_of more) (sym is) in
    record {
      without = over rest;
      within = ap lines_of (append_assoc lines line rest) ∙ over (line ++ rest) ∙ ap (λ (ls : List (List ℕ)). lines_of lines ++ ls) (lines_of_whole line rest whole);
      some = subst (λ (l : List ℕ). 0 < length (lines_of l)) (sym is) (whole_some before);
      size = lines_size lines;
      size_rest = lines_size rest;
    }

heard : (line : List ℕ) (said : Said) → Reads line said → IsHeard line said
heard line said is lines rest draws (before, whole) within stops =
    let s = splits lines line rest before whole is.whole in
    let some = s.some in
    let size = s.size in
    let size_rest = s.size_rest in
    let from : List (List ℕ) → Course Said = λ ls. course_from of_bridge 1 1 0 ls draws in
    let hears = course_hears line said is (lines_of rest) (lines_of lines) 1 1 0 draws (omega (arith, some)) (omega (arith, size, size_rest, within)) (ap (λ ls. (from ls).stop) (sym s.without) ∙ stops) in
    subst (λ ls. PlaysWith said (from (lines_of lines)) (from (lines_of (lines ++ rest))) (from ls)) (sym s.within)
    (subst (λ ls. PlaysWith said (from (lines_of lines)) (from ls) (from (lines_of lines ++ line ∷ lines_of rest))) (sym s.without) hears)

pub bridges_hear : LinesAreHeard IsHeard
bridges_hear = record { joins = λ a b small_a small_b. heard (join_line a b) (Joins a b) (joins a b small_a small_b); parts = λ a small. heard (part_line a) (Parts a) (parts a small) }

-- ---- a weaving

module _ (R : Woven Said → Woven Said → Woven Said → Type 0) (closed : (ds : List Said) (a b c : Woven Said) → R a b c → R (weavings.with_deeds ds a) (weavings.with_deeds ds b) (weavings.with_deeds ds c)) where
  module _ (front all longer : weavings.Later Said) (goes : (top : ℕ) (o : Outside) → (all top o).stop ≡ AtEnd → R (front top o) (all top o) (longer top o)) where
    waits_go : (until top : ℕ) (rs : List ℕ) (xs : List Received) (draws : List ℕ) → (waited weaves until all top rs xs draws).stop ≡ AtEnd
        → R (waited weaves until front top rs xs draws) (waited weaves until all top rs xs draws) (waited weaves until longer top rs xs draws)
    waits_go until top [] xs draws is = absurd (let both : ForReading ≡ AtEnd = is in cc)
    waits_go until top (r ∷ rs) [] draws is = absurd (let both : ForReceive ≡ AtEnd = is in cc)
    waits_go until top (r ∷ rs) (x ∷ xs) draws is =
        closed (ticks_of weaves top r ++ arrivals_of weaves x) _ _ _ (by_time (nat_le until (moment_of r)) (waits_go until (max top (moment_of r)) rs xs draws) is)
      where
        by_time : (b : Bool)
            → ((waited weaves until all (max top (moment_of r)) rs xs draws).stop ≡ AtEnd
            → R (waited weaves until front (max top (moment_of r)) rs xs draws) (waited weaves until all (max top (moment_of r)) rs xs draws) (waited weaves until longer (max top (moment_of r)) rs xs draws))
            → (cond b (all (max top (moment_of r)) (record { readings = rs; receipts = xs; draws = draws })) (waited weaves until all (max top (moment_of r)) rs xs draws)).stop ≡ AtEnd
            → R (cond b (front (max top (moment_of r)) (record { readings = rs; receipts = xs; draws = draws })) (waited weaves until front (max top (moment_of r)) rs xs draws))
            (cond b (all (max top (moment_of r)) (record { readings = rs; receipts = xs; draws = draws })) (waited weaves until all (max top (moment_of r)) rs xs draws))
            (cond b (longer (max top (moment_of r)) (record { readings = rs; receipts = xs; draws = draws })) (waited weaves until longer (max top (moment_of r)) rs xs draws))
        by_time true more is = goes (max top (moment_of r)) (record { readings = rs; receipts = xs; draws = draws }) is
        by_time false more is = more is

    said_goes : (l : BridgeLine) (until : Option ℕ) (top : ℕ) (o : Outside) → (waited_or_given weaves l until all top o).stop ≡ AtEnd → R (waited_or_given weaves l until front top o) (waited_or_given weaves l until all top o) (waited_or_given weaves l until longer top o)
    said_goes l (Some until) top o is = waits_go until top o.readings o.receipts o.draws is
    said_goes l None top o is = by_given (joined.gives l o.draws) is
      where
        by_given : (g : Option (Given Said)) → (weavings.behind_given g all top o).stop ≡ AtEnd → R (weavings.behind_given g front top o) (weavings.behind_given g all top o) (weavings.behind_given g longer top o)
        by_given None is = absurd (let both : ForDraw ≡ AtEnd = is in cc)
        by_given (Some g) is = closed g.deeds _ _ _ (goes top (record o { draws = g.left }) is)

  weaving_goes : (began n m k : ℕ) (r : Result BridgeLine ScriptFault) (front all longer : ℕ → weavings.Later Said) (version top : ℕ) (o : Outside)
      → ((v top : ℕ) (o : Outside) → (all v top o).stop ≡ AtEnd → R (front v top o) (all v top o) (longer v top o)) → (weavings.behind_line weaves began version n r all top o).stop ≡ AtEnd
      → R (weavings.behind_line weaves began version m r front top o) (weavings.behind_line weaves began version n r all top o) (weavings.behind_line weaves began version k r longer top o)
  weaving_goes began n m k (Err fault) front all longer version top o goes is = absurd (let both : AtFault n fault ≡ AtEnd = is in cc)
  weaving_goes began n m k (Ok l) front all longer version top o goes is =
      said_goes (front (bridge_version_after version l)) (all (bridge_version_after version l)) (longer (bridge_version_after version l)) (goes (bridge_version_after version l)) l (until_at weaves began l) top o is

weaving_moves : (began : ℕ) (ls : List (List ℕ)) (version n m at to top : ℕ) (o : Outside) → 1 < n → 1 < m → at + sizes ls ≤ 2 ^ 30 → to + sizes ls ≤ 2 ^ 30 → (woven_from weaves began version n at ls top o).stop ≡ AtEnd
    → woven_from weaves began version m to ls top o ≡ woven_from weaves began version n at ls top o
weaving_moves began [] version n m at to top o first second here there is = refl
weaving_moves began (l ∷ ls) version n m at to top o first second here there is =
    ap (λ r. weavings.behind_line weaves began version m r (λ v. woven_from weaves began v (m + 1) (to + length l) ls) top o) (places_alike version n m at to first second l (omega (arith, here)) (omega (arith, there)))
    ∙ weaving_goes (λ a b c. c ≡ b) (λ ds a b c same. ap (weavings.with_deeds ds) same) began n n m (spelled_at bridge_line_of version n at l)
    (λ v. woven_from weaves began v (n + 1) (at + length l) ls) (λ v. woven_from weaves began v (n + 1) (at + length l) ls) (λ v. woven_from weaves began v (m + 1) (to + length l) ls) version top o
    (λ v top o is. weaving_moves began ls v (n + 1) (m + 1) (at + length l) (to + length l) top o (omega (arith, first)) (omega (arith, second)) (omega (arith, here)) (omega (arith, there)) is) is

more_relayed : (said : Said) (ds : List Said) (a b c : Woven Said) → RelaysWith said a b c → RelaysWith said (weavings.with_deeds ds a) (weavings.with_deeds ds b) (weavings.with_deeds ds c)
more_relayed said ds a b c p = record { says = put_more said ds a.deeds b.deeds c.deeds p.says; stop = p.stop; left = p.left }

module _ (began : ℕ) (line : List ℕ) (said : Said) (is : Reads line said) (rest : List (List ℕ)) where
  weaving_hears : (ls : List (List ℕ)) (version n at top : ℕ) (o : Outside) → 1 < n + length ls → at + (sizes ls + (length line + sizes rest)) ≤ 2 ^ 30 → (woven_from weaves began version n at (ls ++ rest) top o).stop ≡ AtEnd
      → RelaysWith said (woven_from weaves began version n at ls top o) (woven_from weaves began version n at (ls ++ rest) top o) (woven_from weaves began version n at (ls ++ line ∷ rest) top o)
  weaving_hears [] version n at top o later within stops =
      let after : weavings.Later Said = woven_from weaves began version (n + 1) (at + length line) rest in
      let same : woven_from weaves began version n at (line ∷ rest) top o ≡ weavings.with_deeds (said ∷ []) (woven_from weaves began version n at rest top o) =
      ap (λ r. weavings.behind_line weaves began version n r (λ v. woven_from weaves began v (n + 1) (at + length line) rest) top o) (read_so line said is version n at (omega (arith, later)) (omega (arith, within)))
      ∙ ap (λ (v : ℕ). waited_or_given weaves is.l (until_at weaves began is.l) (woven_from weaves began v (n + 1) (at + length line) rest) top o) (is.followed version)
      ∙ ap (λ (wait : Option ℕ). waited_or_given weaves is.l (option_map (λ w. began + w) wait) after top o) is.waits
      ∙ ap (λ (g : Option (Given Said)). weavings.behind_given g after top o) (is.relayed o.draws)
      ∙ ap (weavings.with_deeds (said ∷ [])) (weaving_moves began rest version n (n + 1) at (at + length line) top o (omega (arith, later)) (omega (arith, later)) (omega (arith, within)) (omega (arith, within)) stops) in
      subst (RelaysWith said (weavings.stopped AtEnd o) (woven_from weaves began version n at rest top o)) (sym same)
      (record { says = record { later = (woven_from weaves began version n at rest top o).deeds; without = refl; within = refl }; stop = stops; left = refl })
  weaving_hears (l ∷ ls) version n at top o later within stops =
      weaving_goes (RelaysWith said) (more_relayed said) began n n n (spelled_at bridge_line_of version n at l)
      (λ v. woven_from weaves began v (n + 1) (at + length l) ls) (λ v. woven_from weaves began v (n + 1) (at + length l) (ls ++ rest)) (λ v. woven_from weaves began v (n + 1) (at + length l) (ls ++ line ∷ rest)) version top o
      (λ v top o stops. weaving_hears ls v (n + 1) (at + length l) top o (omega (arith, later)) (omega (arith, within)) stops) stops

relayed : (line : List ℕ) (said : Said) → Reads line said → IsHeardByRelay line said
relayed line said is lines rest [] receipts draws whole within stops = absurd (let both : ForReading ≡ AtEnd = stops in cc)
relayed line said is lines rest (r ∷ rs) receipts draws (before, whole) within stops =
    let s = splits lines line rest before whole is.whole in
    let some = s.some in
    let size = s.size in
    let size_rest = s.size_rest in
    let o : Outside = record { readings = rs; receipts = receipts; draws = draws } in
    let from : List (List ℕ) → Woven Said = λ ls. weavings.with_deeds (weaves.ticks (moment_of r)) (woven_from weaves (moment_of r) 1 1 0 ls (moment_of r) o) in
    let hears =
    more_relayed said (weaves.ticks (moment_of r)) _ _ _
    (weaving_hears (moment_of r) line said is (lines_of rest) (lines_of lines) 1 1 0 (moment_of r) o (omega (arith, some)) (omega (arith, size, size_rest, within)) (ap (λ ls. (from ls).stop) (sym s.without) ∙ stops)) in
    subst (λ ls. RelaysWith said (from (lines_of lines)) (from (lines_of (lines ++ rest))) (from ls)) (sym s.within)
    (subst (λ ls. RelaysWith said (from (lines_of lines)) (from ls) (from (lines_of lines ++ line ∷ lines_of rest))) (sym s.without) hears)

pub relays_hear : LinesAreHeard IsHeardByRelay
relays_hear = record { joins = λ a b small_a small_b. relayed (join_line a b) (Joins a b) (joins a b small_a small_b); parts = λ a small. relayed (part_line a) (Parts a) (parts a small) }

-- ---- a relay and a bridge

with_noise : (s : Option Supplied) → plain.given joined.happen_all s ≡ happens_as s
with_noise None = refl
with_noise (Some s) = refl

pub relays_hear_as_bridges : RelaysHearAsBridges
relays_hear_as_bridges (lines.Join first second) draws none = refl
relays_hear_as_bridges (lines.Part call) draws none = refl
relays_hear_as_bridges (lines.Script (scripts.DatagramAt now port from octets)) draws none = with_noise (supplied draws (scripts.Datagram port from octets))
relays_hear_as_bridges (lines.Script other) draws none = with_noise (supplied draws other)
