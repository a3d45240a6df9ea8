-- The table with the struct behind it is one for which no rule fails.
use Rattle.std.proofs.Common.{◌≡◌, ℕ, suc, ◌+◌, ◌<◌, ◌≤◌, true, inl, inr, List, [], ◌∷◌, ◌++◌, Option, Some, None, length, map, filter, take, get_or, codes, refl, ap, sym, ◌∙◌, subst, append-nil, arith}
use Rattle.std.proofs.Math.Utf8.{encode}
use Rattle.std.specs.Prelude.{IsUtf8, option_map}
use Rattle.std.specs.List.{All, AllByRecursion}
use Rattle.std.specs.Option.{option_or}
use Rattle.std.proofs.lemmas.Bool.{cases_lt, false≢true}
use Rattle.std.proofs.lemmas.List.{get_or_append_left, get_or_at, length_push, take-append-le, length-take, map-append}
use Rattle.std.proofs.lemmas.List.Elements.{All-nil, All-cons, All-push, All-weaker, filter-append, recursion_from_All}
use Rattle.std.proofs.lemmas.Option.{same_Some}
use Rattle.ild_schema.specs.declared.number.TypeNo.{TypeNo}
use Rattle.ild_schema.specs.declared.def.TypeDef.{TypeDef}
use Rattle.ild_schema.specs.declared.row.Row.{Row}
use Rattle.ild_schema.specs.Accept.{IsAccepted, first_failing, type_fault}
use Rattle.ild_schema.specs.Names.{is_declared, is_open, number_named, declared_names}
use Rattle.ild_schema.specs.Spelled.{HasTexts, ImplicitType, NamedType, SpelledType}
use Rattle.ild_schema.specs.Table.{AreNamedOnce, IsTable, IsWithin, def_at, numbers_of}
use Rattle.ild_schema.proofs.Passing.{first_none, next_none}
use Rattle.ild_named_type.specs.Root.{RootsAreTyped, named_rows, root_def, root_row}
use Rattle.ild_named_type.proofs.Behind.{got_behind}
use Rattle.ild_named_type.proofs.Looking.{def_same, meant_same}
use Rattle.ild_named_type.proofs.Judging.{fault_same}
use Rattle.ild_named_type.proofs.Stepping.{none_circular, none_cyclic}

-- ---- each type is made on types of the table

eight_first : (rows : List Row) → length (take 8 rows) ≡ 8 → 8 ≤ length rows
eight_first rows h = omega (arith, length-take 8 rows, h)

wider : (count : ℕ) (d : TypeDef) → IsWithin count d → IsWithin (count + 1) d
wider count d within = (within.0, All-weaker (λ n. n < count) (λ n. n < count + 1) (λ n low. omega (arith, low)) (numbers_of d) within.1)

root_within : (count : ℕ) (n : TypeNo) → 8 ≤ count → n.0 < count → IsWithin count (root_def n)
root_within count n eight low =
    (omega arith, All-cons (λ n. n < count) 7 (n.0 ∷ 4 ∷ []) (omega (arith, eight)) (All-cons (λ n. n < count) n.0 (4 ∷ []) low (All-cons (λ n. n < count) 4 [] (omega (arith, eight)) (All-nil (λ n. n < count)))))

within_more : (rows : List Row) (n : TypeNo) → 8 ≤ length rows → n.0 < length rows → All (λ r. IsWithin (length rows) r.def) rows → All (λ r. IsWithin (length (named_rows rows n)) r.def) (named_rows rows n)
within_more rows n eight low within =
    subst (λ count. All (λ r. IsWithin count r.def) (named_rows rows n)) (sym (length_push rows (root_row n)))
    (All-push (λ r. IsWithin (length rows + 1) r.def) rows (root_row n)
    (All-weaker (λ r. IsWithin (length rows) r.def) (λ r. IsWithin (length rows + 1) r.def) (λ r here. wider (length rows) r.def here) rows within)
    (wider (length rows) (root_def n) (root_within (length rows) n eight low)))

-- ---- names

once_more : (rows : List Row) (n : TypeNo) → AreNamedOnce rows → AreNamedOnce (named_rows rows n)
once_more rows n once i r within = elim (cases_lt i (length rows)) [ inl low ↦ before low | inr high ↦ at high ]
  where
    before : i < length rows → is_open (get_or (named_rows rows n) i r).origin ≡ true → number_named (get_or (named_rows rows n) i r).name (take i (named_rows rows n)) ≡ None
    before low =
        subst (λ y. is_open y.origin ≡ true → number_named y.name (take i (named_rows rows n)) ≡ None) (sym (get_or_append_left rows (root_row n ∷ []) r i low))
        (subst (λ front. is_open (get_or rows i r).origin ≡ true → number_named (get_or rows i r).name front ≡ None) (sym (take-append-le i rows (root_row n ∷ []) (omega (arith, low)))) (once i r low))

    at : length rows ≤ i → is_open (get_or (named_rows rows n) i r).origin ≡ true → number_named (get_or (named_rows rows n) i r).name (take i (named_rows rows n)) ≡ None
    at high =
        let here : length rows ≡ i = omega (arith, within, high, length_push rows (root_row n)) in
        subst (λ y. is_open y.origin ≡ true → number_named y.name (take i (named_rows rows n)) ≡ None) (sym (get_or_at rows (root_row n) [] r i here))
        (λ named. absurd (false≢true named))

-- a text declares the same names
pub names_same : (rows : List Row) (n : TypeNo) → declared_names (named_rows rows n) ≡ declared_names rows
names_same rows n =
    ap (map (λ (r : Row). r.name)) (filter-append (λ (r : Row). is_declared r.origin) rows (root_row n ∷ []))
    ∙ map-append (λ (r : Row). r.name) (filter (λ (r : Row). is_declared r.origin) rows) [] ∙ append-nil (declared_names rows)

-- ---- texts

none_text : IsUtf8 []
none_text = ([], (refl, refl))

type_text : IsUtf8 (codes "type")
unfolding encode
type_text = (codes "type", (refl, refl))

value_text : IsUtf8 (codes "value")
unfolding encode
value_text = (codes "value", (refl, refl))

schema_text : IsUtf8 (codes "schema")
unfolding encode
schema_text = (codes "schema", (refl, refl))

root_spelled : (n : TypeNo) → SpelledType (root_def n)
root_spelled n = record { delims = tt; texts = (type_text, (value_text, (schema_text, tt))) }

root_named : (n : TypeNo) → NamedType (root_def n)
root_named n = (type_text, (value_text, (schema_text, tt)))

root_implicits : (n : TypeNo) → ImplicitType (root_def n)
root_implicits n = (tt, (tt, (tt, tt)))

-- what holds of each type of the table and of the struct
each_more : (rows : List Row) (n : TypeNo) (P : TypeDef → Type 0) → ((i : ℕ) (d : TypeDef) → def_at rows i ≡ Some d → P d) → P (root_def n) → (i : ℕ) (d : TypeDef) → def_at (named_rows rows n) i ≡ Some d → P d
each_more rows n P all struct i d e = elim (cases_lt i (length rows)) [
  | inl low ↦ all i d (sym (def_same rows (root_row n ∷ []) i low) ∙ e)
  | inr high ↦ elim (got_behind rows (root_row n) i high) [
    | inl there ↦ subst P (same_Some (root_def n) d (sym (ap (λ o. option_map (λ r. r.def) o) there) ∙ e)) struct
    | inr past ↦ let wrong : None ≡ Some d = sym (ap (λ o. option_map (λ r. r.def) o) past) ∙ e in absurd (cc)
  ]
]

texts_more : (rows : List Row) (n : TypeNo) → HasTexts rows → HasTexts (named_rows rows n)
texts_more rows n texts = record {
  names = All-push (λ r. IsUtf8 r.name) rows (root_row n) texts.names none_text;
  spelled = each_more rows n SpelledType texts.spelled (root_spelled n);
  named = each_more rows n NamedType texts.named (root_named n);
  implicits = each_more rows n ImplicitType texts.implicits (root_implicits n);
}

-- ---- the table

pub table_more : (rows : List Row) (n : TypeNo) → IsTable rows → length rows ≤ 65543 → n.0 < length rows → IsTable (named_rows rows n)
table_more rows n table few low =
    let eight : 8 ≤ length rows = eight_first rows (ap length table.prelude_first) in record {
      prelude_first = take-append-le 8 rows (root_row n ∷ []) eight ∙ table.prelude_first;
      size = omega (arith, few, length_push rows (root_row n));
      within = within_more rows n eight low table.within;
      named_once = once_more rows n table.named_once;
      none_circular = none_circular rows n table.within table.none_circular;
      texts = texts_more rows n table.texts;
    }

-- ---- the rules

no_fault : {A : Type 0} (a b : Option A) → a ≡ None → b ≡ None → option_or a b ≡ None
no_fault a b e f = ap (λ o. option_or o b) e ∙ f

-- no rule fails for the struct, whatever the table is
root_passes : (rows : List Row) (n : TypeNo) → type_fault rows 0 (root_def n) ≡ None
root_passes rows n = refl

fails_no_more : (others rows : List Row) (n : TypeNo) (count : ℕ) → ((at : ℕ) (d : TypeDef) → IsWithin count d → type_fault others at d ≡ type_fault rows at d) → (i : ℕ) (rs : List Row)
    → AllByRecursion (λ r. IsWithin count r.def) rs → first_failing rows i rs ≡ None → first_failing others i (rs ++ root_row n ∷ []) ≡ None
fails_no_more others rows n count same i [] low h = refl
fails_no_more others rows n count same i (r ∷ rs) low h =
    let told = option_map (λ f. record { rule = f.0; ty = i; at = f.1 }) (type_fault rows r.at r.def) in
    no_fault (option_map (λ f. record { rule = f.0; ty = i; at = f.1 }) (type_fault others r.at r.def)) (first_failing others (suc i) (rs ++ root_row n ∷ []))
    (ap (λ o. option_map (λ f. record { rule = f.0; ty = i; at = f.1 }) o) (same r.at r.def low.0) ∙ first_none told (first_failing rows (suc i) rs) h)
    (fails_no_more others rows n count same (suc i) rs low.1 (next_none told (first_failing rows (suc i) rs) h))

pub accepted_more : (rows : List Row) (n : TypeNo) → IsTable rows → IsAccepted rows → IsAccepted (named_rows rows n)
accepted_more rows n table accepted = record {
  none_cyclic = none_cyclic rows table.within n accepted.none_cyclic;
  none_fails = fails_no_more (named_rows rows n) rows n (length rows)
      (fault_same (named_rows rows n) rows (length rows) (meant_same rows (root_row n ∷ []) table.within table.none_circular)) 0 rows
      (recursion_from_All (λ r. IsWithin (length rows) r.def) rows table.within) accepted.none_fails;
}

pub roots_typed : RootsAreTyped
roots_typed rows n table accepted few low = (table_more rows n table few low, accepted_more rows n table accepted)
